use Rattle.std.proofs.Common.{ℕ, sym, subst}
use Rattle.shared_book.specs.Lasting.{CountsAsHeard}
use Rattle.controller_run.proofs.working.carry_out.Goals as goal

pub settle-requires-clause-told : goal.settle-requires-clause-told
settle-requires-clause-told g c = subst (λ (m : ℕ). CountsAsHeard g.T.Port.told m g.M.Marker.heard) (sym c.in-Ok.ensures.migration) c.requires.told
