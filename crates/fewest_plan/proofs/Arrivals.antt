-- When the flows arrive, and that they never do once nothing moves.
use Rattle.std.proofs.Common.{◌≡◌, ℕ, zero, suc, ◌+◌, ◌-◌, ◌<◌, true, false, List, [], ◌∷◌, ◌++◌, length, Option, Some, None, option_map, refl, sym, ap, ap₂, ◌∙◌, inl, inr, subst, add-one, arith}
use Rattle.std.proofs.lemmas.Bool.{cases_lt}
use Rattle.std.proofs.lemmas.List.{length-replicate, get_or-replicate}
use Rattle.rollout_rules.specs.Wan.{Problem, Plan}
use Rattle.rollout_rules.proofs.Rows.{list_below-more}
use Rattle.plan_check.specs.First.{first_of, first_below, provided}
use Rattle.plan_check.proofs.Firsts.{first_below_stops, first_below_none}
use Rattle.plan_choose.specs.Choice.{Choice, where_valid}
use Rattle.scratch_plan.specs.Frame.{frame}
use Rattle.fewest_plan.specs.Greedy.{step, row_after, AreShares}
use Rattle.fewest_plan.specs.Walk.{at_first, shares_after, have_arrived, arrives, rows_to, accepted, walked, greedy}

pub at_first-are : (p : Problem) (d : ℕ) → AreShares p d (at_first p)
at_first-are p d = record {
  count = length-replicate (length p.flows) 0;
  most = λ f lt. omega (arith, get_or-replicate {A = ℕ} (length p.flows) f 0 0 lt);
}

-- where no number answers there is no first
none-below : {A : Type 0} (f : ℕ → Option A) (n : ℕ) → ((k : ℕ) → k < n → f k ≡ None) → first_below n f ≡ None
none-below f zero e = refl
none-below f (suc n) e = ap (λ o. first_of o (f n)) (none-below f n (λ k lt. e k (omega arith))) ∙ e n (omega arith)

first-more : {A : Type 0} (n : ℕ) (f : ℕ → Option A) → first_below n f ≡ None → f n ≡ None → first_below (n + 1) f ≡ None
first-more n f none e = rw add-one (ap (λ o. first_of o (f n)) none ∙ e)

module _ (p : Problem) (d : ℕ) (order : List ℕ) where
  -- how far a walk has come: so many steps, and no arrival in them
  pub record IsWalk (n : ℕ) (shares : List ℕ) (rows : List (List ℕ)) : Type 0 where
    pub shares_are : shares ≡ shares_after p d order n
    pub rows_are : rows ≡ rows_to p d order n
    pub none : first_below n (arrives p d order) ≡ None
    pub are : AreShares p d shares

  pub first-walk : (shares : List ℕ) (rows : List (List ℕ)) → shares ≡ at_first p → rows ≡ [] → IsWalk 0 shares rows
  unfolding shares_after
  first-walk shares rows is empty = record { shares_are = is; rows_are = empty; none = refl; are = subst (λ xs. AreShares p d xs) (sym is) (at_first-are p d) }

  shares-more : (n : ℕ) → shares_after p d order (n + 1) ≡ step p d order (shares_after p d order n)
  unfolding shares_after
  shares-more n = rw add-one refl

  -- what arrives, and what doesn't
  arrived : (n : ℕ) (shares : List ℕ) → shares ≡ shares_after p d order (n + 1) → have_arrived p d shares ≡ true → arrives p d order n ≡ Some n
  arrived n shares is e = ap (λ b. provided b n) (ap (have_arrived p d) (sym is) ∙ e)

  not_arrived : (n : ℕ) (shares : List ℕ) → shares ≡ shares_after p d order (n + 1) → have_arrived p d shares ≡ false → arrives p d order n ≡ None
  not_arrived n shares is e = ap (λ b. provided b n) (ap (have_arrived p d) (sym is) ∙ e)

  module _ (n : ℕ) (shares : List ℕ) (rows : List (List ℕ)) (so : IsWalk n shares rows) (before : List ℕ) (same : before ≡ shares) where
    pub before-are : AreShares p d before
    before-are = subst (λ xs. AreShares p d xs) (sym same) so.are

    module _ (next after : List ℕ) (is : next ≡ step p d order before) (seen : after ≡ next) where
      after-is : after ≡ shares_after p d order (n + 1)
      after-is = seen ∙ is ∙ ap (step p d order) (same ∙ so.shares_are) ∙ sym (shares-more n)

      pub arrives-at : (most : ℕ) → n < most → have_arrived p d after ≡ true → accepted p (n + 1) (frame p d rows) ≡ greedy p d order most
      unfolding greedy
      arrives-at most lt e =
          ap (λ rs. accepted p (n + 1) (frame p d rs)) so.rows_are
          ∙ ap (walked p d order) (sym (first_below_stops (arrives p d order) most n n lt so.none (arrived n after after-is e)))

      pub goes-on : (row : List ℕ) (later : List (List ℕ)) → have_arrived p d after ≡ false → row ≡ row_after p d after → later ≡ rows ++ row ∷ [] → AreShares p d next → IsWalk (n + 1) next later
      goes-on row later e row_is later_is are = record {
        shares_are = sym seen ∙ after-is;
        rows_are =
            later_is
            ∙ ap₂ (λ rs r. rs ++ r ∷ []) so.rows_are (row_is ∙ ap (row_after p d) after-is)
            ∙ sym (list_below-more n (λ k. row_after p d (shares_after p d order (k + 1))));
        none = first-more n (arrives p d order) so.none (not_arrived n after after-is e);
        are = are;
      }

      -- once nothing moves, nothing ever does
      module _ (unmoved : after ≡ before) where
        stays : (j : ℕ) → shares_after p d order (n + j) ≡ before
        stays zero = let e : n + 0 ≡ n = omega arith in ap (shares_after p d order) e ∙ sym (same ∙ so.shares_are)
        stays (suc j) =
            let e : n + suc j ≡ n + j + 1 = omega arith in
            ap (shares_after p d order) e ∙ shares-more (n + j) ∙ ap (step p d order) (stays j) ∙ sym (seen ∙ is) ∙ unmoved

        never : have_arrived p d after ≡ false → (k : ℕ) → arrives p d order k ≡ None
        never e k = elim (cases_lt k n) as (λ _. arrives p d order k ≡ None) [
          | inl below ↦ first_below_none (arrives p d order) n k below so.none
          | inr above ↦
              let at : k + 1 ≡ n + (k + 1 - n) = omega arith in
              not_arrived k after (unmoved ∙ sym (stays (k + 1 - n)) ∙ ap (shares_after p d order) (sym at)) e
        ]

        pub stuck : (most : ℕ) → have_arrived p d after ≡ false → greedy p d order most ≡ None
        unfolding greedy
        stuck most e = ap (walked p d order) (none-below (arrives p d order) most (λ k lt. never e k))

  pub none-found : (n : ℕ) (shares : List ℕ) (rows : List (List ℕ)) (most : ℕ) → n ≡ most → IsWalk n shares rows → greedy p d order most ≡ None
  unfolding greedy
  none-found n shares rows most all so = ap (walked p d order) (ap (λ m. first_below m (arrives p d order)) (sym all) ∙ so.none)

-- ---- a plan where it is valid, with its rate steps
module _ (p : Problem) (n : ℕ) (plan : Plan) (o : Option Plan) (is : o ≡ where_valid p (Some plan)) where
  abbrev counted : Option Plan → Option Choice
  counted = option_map (λ found. record { plan = found; rate_steps = n })

  pub accepted-some : (found : Plan) → o ≡ Some found → Some (record { plan = found; rate_steps = n }) ≡ accepted p n plan
  accepted-some found e = ap counted (sym e ∙ is)

  pub accepted-none : o ≡ None → None ≡ accepted p n plan
  accepted-none e = ap counted (sym e ∙ is)
