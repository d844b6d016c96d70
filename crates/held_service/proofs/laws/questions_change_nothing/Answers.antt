use Rattle.held_service.proofs.Idle.{after-any, after-questions, answers-held}
use Rattle.held_service.proofs.laws.questions_change_nothing.Goals as goal

pub returns : goal.returns
returns c = record { held = after-questions; answer = answers-held; any_order = after-any }
