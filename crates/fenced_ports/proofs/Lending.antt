-- A port that begins now is new, whatever went over the one after it before.
use Rattle.std.proofs.Common.{◌≡◌, ℕ, None, refl, subst, sym}
use Rattle.wan_edge.specs.Fleets.{GivesPort}
use Rattle.fenced_ports.specs.FencedPorts.{Fenced, first_fenced, told_of}

module _ {P : Type 0} (port : P) (term switch : ℕ) (given : Fenced P) where
  pub gives_new : given ≡ first_fenced port term → GivesPort told_of None switch given None
  gives_new is = subst (λ (f : Fenced P). GivesPort told_of None switch f None) (sym is) (refl, record { faults = refl; offered = refl; heard = refl })
