use Rattle.std.proofs.Common.{arith}
use Rattle.std.proofs.lemmas.List.{get_or_default}
use Rattle.held_service.proofs.questions.fit_frames.Goals as goal

pub returns-clause-items : goal.returns-clause-items
returns-clause-items c k d inside = omega (arith, c.type_inv.items k, get_or_default c.args.items.now k d 0 inside)
