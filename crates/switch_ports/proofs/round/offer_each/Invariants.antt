use Rattle.switch_ports.specs.Outboxes.{own}
use Rattle.switch_ports.specs.Offering.{OffersAll}
use Rattle.switch_ports.specs.Views.{view}
use Rattle.switch_ports.proofs.Rowed.{SoFar}
use Rattle.switch_ports.proofs.round.offer_each.Given as goal

abbrev pub invariant-loop-place : goal.invariant-loop-place
invariant-loop-place g l =
    SoFar (λ before now. OffersAll l.fn.migration (own l.fn.homes before.switch l.fn.commands) (view g.T.Port.told before) (view g.T.Port.told now)) l.place l.initial.sessions l.sessions
