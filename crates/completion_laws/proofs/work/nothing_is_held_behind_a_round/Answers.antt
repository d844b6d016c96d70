use Rattle.completion_laws.proofs.InFlight.{still-flies, turned-leaves}
use Rattle.shared_book.specs.Histories.{history_of}
use Rattle.completion_laws.proofs.work.nothing_is_held_behind_a_round.Goals as goal

pub returns : goal.returns
returns c = λ o seen net valid free legal turned held. turned-leaves o net valid free seen legal turned held.2 (still-flies o.rollout.problem (history_of o seen) held.1)
