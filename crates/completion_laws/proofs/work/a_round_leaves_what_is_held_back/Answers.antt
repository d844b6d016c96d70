use Rattle.shared_book.specs.Histories.{history_of}
use Rattle.completion_laws.proofs.InFlight.{still-flies, turned-rests}
use Rattle.completion_laws.proofs.work.a_round_leaves_what_is_held_back.Goals as goal

pub returns : goal.returns
returns c = λ o log legal turned still. turned-rests o log legal turned (still-flies o.rollout.problem (history_of o log) still)
