-- What stands at a switch where ports are given back.
use Rattle.std.proofs.Common.{◌≡◌, ℕ, suc, zero, ◌<◌, ◌==◌, false, cond, List, [], ◌∷◌, Option, Some, length, slice_index_or, refl, sym, ap, ◌∙◌, subst, arith, eq-eqb}
use Rattle.std.specs.Prelude.{nat_eq}
use Rattle.std.specs.List.{AllByRecursion, Contains}
use Rattle.switch_ports.specs.declared.ports.Berth.{Berth}
use Rattle.switch_ports.specs.Berths.{AreApart, switches_of, with_each}
use Rattle.switch_ports.proofs.Places.{swapped}

module _ {P : Type 0} (places : ℕ → Option P) where
  -- the port of a switch that is given back
  at_switch : (bs : List (Berth P)) (k : ℕ) (b : Berth P) → AreApart bs → k < length bs → slice_index_or bs k b ≡ b → with_each places bs b.switch ≡ Some b.port
  at_switch [] k b apart inside is = absurd (omega (arith, inside))
  at_switch (c ∷ bs) zero b apart inside is = ap (λ e. cond e (Some c.port) (with_each places bs b.switch)) (eq-eqb b.switch c.switch (sym (ap (λ (d : Berth P). d.switch) is))) ∙ ap (λ (d : Berth P). Some d.port) is
  at_switch (c ∷ bs) (suc k) b apart inside is =
      ap (λ e. cond e (Some c.port) (with_each places bs b.switch)) (swapped c.switch b.switch (subst (λ (d : Berth P). (c.switch == d.switch) ≡ false) is (at bs k b apart.0 (omega (arith, inside))))) ∙ at_switch bs k b apart.1 (omega (arith, inside)) is
    where
      at : (ds : List (Berth P)) (k : ℕ) (b : Berth P) → AllByRecursion (λ d. (c.switch == d.switch) ≡ false) ds → k < length ds → (c.switch == (slice_index_or ds k b).switch) ≡ false
      at [] k b all inside = absurd (omega (arith, inside))
      at (d ∷ ds) zero b all inside = all.0
      at (d ∷ ds) (suc k) b all inside = at ds k b all.1 (omega (arith, inside))

  pub given_back_at : (bs : List (Berth P)) (b : Berth P) → AreApart bs → Contains bs b → with_each places bs b.switch ≡ Some b.port
  given_back_at bs b apart at = at_switch bs at.0 b apart at.1 at.2

  -- and any other switch
  pub as_it_was : (bs : List (Berth P)) (switch : ℕ) → AllByRecursion (λ n. nat_eq switch n ≡ false) (switches_of bs) → with_each places bs switch ≡ places switch
  as_it_was [] switch other = refl
  as_it_was (b ∷ bs) switch other = ap (λ e. cond e (Some b.port) (with_each places bs switch)) other.0 ∙ as_it_was bs switch other.1
