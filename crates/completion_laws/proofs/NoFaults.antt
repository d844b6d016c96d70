-- A run without a fault has no failure as its cause.
use Rattle.std.proofs.Common.{◌≡◌, ℕ, List, [], ◌∷◌, Option, Some, inl, inr, refl, arith}
use Rattle.std.specs.List.{AllZip, Contains}
use Rattle.port_session.specs.Sessions.{SessionView}
use Rattle.shared_book.specs.declared.note.Cause.{Cause}
use Rattle.shared_book.specs.declared.note.Cause.TheVariants as cause
use Rattle.shared_book.specs.declared.note.Written.{Written}
use Rattle.shared_book.specs.Histories.{Opening}
use Rattle.switch_ports.specs.Rows.{AtOne}
use Rattle.wan_edge.specs.Ports.{PortTrace}
use Rattle.switch_ports.specs.Views.{view}
use Rattle.controller_run.specs.Reasons.{FailedAt}
use Rattle.controller_run.proofs.Elements.{inside-later}
use Rattle.controller_run.specs.Causes.{HasCause}
use Rattle.completion_laws.specs.Faults.{IsNoFault, IsWithoutFault}

module _ {P : Type 0} (tell : P → PortTrace) (failed : Type 0) (opened : List (SessionView P)) (kept : ℕ → Option P) (without : IsWithoutFault tell failed opened kept) where
  none-failed : (switch : ℕ) (first now : List (SessionView P)) → ((t : SessionView P) → Contains first t → Contains opened t) → AllZip (λ before after. kept before.switch ≡ Some after.port) first now
      → AtOne (λ before after. FailedAt switch (view tell before) (view tell after)) first now → ⊥
  none-failed switch [] [] among back one = one
  none-failed switch [] (n ∷ ns) among back one = one
  none-failed switch (b ∷ bs) [] among back one = one
  none-failed switch (b ∷ bs) (n ∷ ns) among back (inl here) = without.ports b (among b (0, omega arith, refl)) n.port back.0 here.1
  none-failed switch (b ∷ bs) (n ∷ ns) among back (inr later) = none-failed switch bs ns (λ t at. among t (inside-later b t bs at)) back.1 later

  pub no-fault : (o : Opening) (migration : ℕ) (homes : List (Option ℕ)) (rounds : ℕ) (log : List Written) (why : Cause) → HasCause tell o migration homes rounds failed log opened kept why → IsNoFault why
  no-fault o migration homes rounds log (cause.Spent given item number) has = tt
  no-fault o migration homes rounds log (cause.Port switch) has = none-failed switch has.first has.now has.among has.back has.holds
  no-fault o migration homes rounds log (cause.Above item held begun) has = tt
  no-fault o migration homes rounds log (cause.NotMine switch item) has = tt
  no-fault o migration homes rounds log (cause.NoAnswer switch byte) has = tt
  no-fault o migration homes rounds log cause.Disk has = without.disk has.holds
  no-fault o migration homes rounds log cause.Memory has = tt
