-- Ports are given back in any order.
use Rattle.std.proofs.Common.{◌≡◌, ◌≢◌, ◌⊎◌, ℕ, suc, zero, ◌<◌, Bool, true, false, cond, List, [], ◌∷◌, IsPermutation, Option, Some, None, option_map, length, slice_index_or, nat_eq, inl, inr, refl, sym, ap, ◌∙◌, subst, arith, eq-eqb}
use Rattle.std.proofs.Math.Path.{fun_ext}
use Rattle.std.proofs.lemmas.Bool.{cases_eq, ne_eqb}
use Rattle.std.proofs.lemmas.List.Elements.{All-from_recursion, recursion_from_All}
use Rattle.std.proofs.lemmas.List.Sorted.{All-permutation, Contains-permutation, IsPermutation-map, IsPermutation-sym}
use Rattle.std.proofs.lemmas.Map.Keys.{IsDistinct-IsPermutation}
use Rattle.std.specs.Cmp.{nat_eq_equiv}
use Rattle.std.specs.List.{AllByRecursion, Contains, IsDistinct}
use Rattle.switch_ports.specs.declared.ports.Berth.{Berth}
use Rattle.switch_ports.specs.Berths.{AreApart, AreLent, FleetPorts, after_keeping, marked_each, switches_of, with_each}
use Rattle.switch_ports.proofs.Given.{apart_by, ports_by}
use Rattle.switch_ports.proofs.Spread.{others_stand}
use Rattle.controller_run.proofs.Fleets.{given_back_at}
use Rattle.controller_run.proofs.RunPorts.{contains_head, contains_later}

-- what holds of each holds of each in another order
pub all_in_any_order : {A : Type 0} (Q : A → Type 0) (xs ys : List A) → IsPermutation xs ys → AllByRecursion Q xs → AllByRecursion Q ys
all_in_any_order Q xs ys same each = recursion_from_All Q ys (All-permutation Q xs ys same (All-from_recursion Q xs each))

module _ {P : Type 0} where
  apart_far : (n : ℕ) (cs : List (Berth P)) → AllByRecursion (λ c. nat_eq n c.switch ≡ false) cs → AllByRecursion (λ m. nat_eq n m ≡ false) (switches_of cs)
  apart_far n [] all = tt
  apart_far n (c ∷ cs) all = (all.0, apart_far n cs all.1)

  -- berths that are apart have switches of their own
  pub distinct_of : (berths : List (Berth P)) → AreApart berths → IsDistinct nat_eq (switches_of berths)
  unfolding IsDistinct
  distinct_of [] apart = tt
  distinct_of (b ∷ berths) apart = (apart_far b.switch berths apart.0, distinct_of berths apart.1)

  -- so have others with the same switches
  pub apart_in_order : (bs cs : List (Berth P)) → IsPermutation (switches_of bs) (switches_of cs) → AreApart bs → AreApart cs
  apart_in_order bs cs same apart = apart_by cs (IsDistinct-IsPermutation nat_eq nat_eq_equiv.symm (switches_of bs) (switches_of cs) same (distinct_of bs apart))

  lent_switches : (lent : ℕ → Bool) (bs : List (Berth P)) → AreLent lent bs → AllByRecursion (λ n. lent n ≡ true) (switches_of bs)
  lent_switches lent [] each = tt
  lent_switches lent (b ∷ bs) each = (each.0, lent_switches lent bs each.1)

  switches_lent : (lent : ℕ → Bool) (bs : List (Berth P)) → AllByRecursion (λ n. lent n ≡ true) (switches_of bs) → AreLent lent bs
  switches_lent lent [] each = tt
  switches_lent lent (b ∷ bs) each = (each.0, switches_lent lent bs each.1)

  pub lent_in_order : (lent : ℕ → Bool) (bs cs : List (Berth P)) → IsPermutation (switches_of bs) (switches_of cs) → AreLent lent bs → AreLent lent cs
  lent_in_order lent bs cs same each = switches_lent lent cs (all_in_any_order (λ n. lent n ≡ true) (switches_of bs) (switches_of cs) same (lent_switches lent bs each))

  -- a number is the switch of one of these, or of none
  record IsIn (n : ℕ) (bs : List (Berth P)) : Type 0 where
    berth : Berth P
    among : Contains bs berth
    is : berth.switch ≡ n

  abbrev AreOthers : ℕ → List (Berth P) → Type 0
  AreOthers n bs = AllByRecursion (λ b. nat_eq n b.switch ≡ false) bs

  find : (n : ℕ) (bs : List (Berth P)) → IsIn n bs ⊎ AreOthers n bs
  find n [] = inr tt
  find n (b ∷ bs) = at (cases_eq n b.switch) (find n bs)
    where
      at : (n ≡ b.switch) ⊎ (n ≢ b.switch) → IsIn n bs ⊎ AreOthers n bs → IsIn n (b ∷ bs) ⊎ AreOthers n (b ∷ bs)
      at (inl here) later = inl (record { berth = b; among = contains_head b bs; is = sym here })
      at (inr other) (inl later) = inl (record { berth = later.berth; among = contains_later b bs later.berth later.among; is = later.is })
      at (inr other) (inr others) = inr (ne_eqb n b.switch other, others)

  marked_in : (marks : ℕ → Bool) (mark : Bool) (bs : List (Berth P)) (k : ℕ) (b : Berth P) → k < length bs → slice_index_or bs k b ≡ b → marked_each marks (switches_of bs) mark b.switch ≡ mark
  marked_in marks mark [] k b inside is = absurd (omega (arith, inside))
  marked_in marks mark (c ∷ bs) zero b inside is = ap (λ e. cond e mark (marked_each marks (switches_of bs) mark b.switch)) (eq-eqb b.switch c.switch (ap (λ (d : Berth P). d.switch) (sym is)))
  marked_in marks mark (c ∷ bs) (suc k) b inside is = either (nat_eq b.switch c.switch) (marked_in marks mark bs k b (omega (arith, inside)) is)
    where
      either : (e : Bool) → marked_each marks (switches_of bs) mark b.switch ≡ mark → cond e mark (marked_each marks (switches_of bs) mark b.switch) ≡ mark
      either true rest = refl
      either false rest = rest

  marked_others : (marks : ℕ → Bool) (mark : Bool) (bs : List (Berth P)) (n : ℕ) → AreOthers n bs → marked_each marks (switches_of bs) mark n ≡ marks n
  marked_others marks mark [] n others = refl
  marked_others marks mark (b ∷ bs) n others = ap (λ c. cond c mark (marked_each marks (switches_of bs) mark n)) others.0 ∙ marked_others marks mark bs n others.1

  module _ (bs cs : List (Berth P)) (apart : AreApart bs) (same : IsPermutation bs cs) where
    cs_apart : AreApart cs
    cs_apart = apart_in_order bs cs (IsPermutation-map (λ (b : Berth P). b.switch) bs cs same) apart

    both : (n : ℕ) → ((b : Berth P) × Contains bs b × Contains cs b × (b.switch ≡ n)) ⊎ (AreOthers n bs × AreOthers n cs)
    both n = at (find n bs) (find n cs)
      where
        at : IsIn n bs ⊎ AreOthers n bs → IsIn n cs ⊎ AreOthers n cs → ((b : Berth P) × Contains bs b × Contains cs b × (b.switch ≡ n)) ⊎ (AreOthers n bs × AreOthers n cs)
        at (inl one) others = inl (one.berth, one.among, Contains-permutation bs cs one.berth same one.among, one.is)
        at (inr none) (inl one) = inl (one.berth, Contains-permutation cs bs one.berth (IsPermutation-sym bs cs same) one.among, one.among, one.is)
        at (inr none) (inr none') = inr (none, none')

    with_at : (places : ℕ → Option P) (n : ℕ) → with_each places bs n ≡ with_each places cs n
    with_at places n = at (both n)
      where
        at : ((b : Berth P) × Contains bs b × Contains cs b × (b.switch ≡ n)) ⊎ (AreOthers n bs × AreOthers n cs) → with_each places bs n ≡ with_each places cs n
        at (inl (b, here, there, is)) = subst (λ (m : ℕ). with_each places bs m ≡ with_each places cs m) is (given_back_at places bs b apart here ∙ sym (given_back_at places cs b cs_apart there))
        at (inr (none, none')) = others_stand places bs n none ∙ sym (others_stand places cs n none')

    marked_at : (marks : ℕ → Bool) (mark : Bool) (n : ℕ) → marked_each marks (switches_of bs) mark n ≡ marked_each marks (switches_of cs) mark n
    marked_at marks mark n = at (both n)
      where
        at : ((b : Berth P) × Contains bs b × Contains cs b × (b.switch ≡ n)) ⊎ (AreOthers n bs × AreOthers n cs) → marked_each marks (switches_of bs) mark n ≡ marked_each marks (switches_of cs) mark n
        at (inl (b, here, there, is)) = subst (λ (m : ℕ). marked_each marks (switches_of bs) mark m ≡ marked_each marks (switches_of cs) mark m) is (marked_in marks mark bs here.0 b here.1 here.2 ∙ sym (marked_in marks mark cs there.0 b there.1 there.2))
        at (inr (none, none')) = marked_others marks mark bs n none ∙ sym (marked_others marks mark cs n none')

    waits_alike : (waiting : Option (ℕ → Option P)) → option_map (λ w. with_each w bs) waiting ≡ option_map (λ w. with_each w cs) waiting
    waits_alike None = refl
    waits_alike (Some w) = ap Some (fun_ext (with_at w))

    pub keeping_alike : (ports : FleetPorts P) → after_keeping ports bs ≡ after_keeping ports cs
    keeping_alike ports = ports_by (after_keeping ports bs) (after_keeping ports cs) (waits_alike ports.waiting) (fun_ext (with_at ports.kept)) (fun_ext (marked_at ports.lent false)) refl
