-- What may be taken over of a pair, and of pairs in a row.
use Rattle.std.proofs.Common.{◌≡◌, ℕ, ◌+◌, ◌<◌, ◌==◌, List, [], ◌∷◌, ◌++◌, Some, refl, sym, ap, ap₂, subst, ◌∙◌, inl, inr, ne_eqb, eq-eqb, arith}
use Rattle.std.proofs.lemmas.Bool.{cases_lt, cond-false, cond-true}
use Rattle.rollout_rules.specs.Agent.{pair_of}
use Rattle.rollout_rules.specs.Items.{item_count}
use Rattle.rollout_rules.specs.Sums.{list_below}
use Rattle.rollout_rules.specs.Wan.{Plan, Problem}
use Rattle.rollout_rules.specs.declared.held.Held.{Held}
use Rattle.held_service.specs.HeldText.{operations_of}
use Rattle.held_service.specs.Noting.{Notes, noted_at}
use Rattle.fence_takeover.specs.Starts.{IsTaken, MayBeTaken, TakesOne, number_in}
use Rattle.fence_takeover.specs.declared.end.FenceEnd.{FenceEnd}
use Rattle.fence_takeover.specs.declared.end.FenceEnd.TheVariants as fence
use Rattle.std.specs.Prelude.{Ok, Err}
use Rattle.rollout_rules.proofs.Rows.{list_below-more}

module _ (migration item count : ℕ) (held : Held) where
  pub of_later : migration < held.migration → TakesOne migration item count (Some held) (Err (fence.Later item held.migration))
  of_later later = (refl, record { found_is = refl; later = later })

  pub of_earlier : held.migration < migration → TakesOne migration item count (Some held) (Ok 0)
  of_earlier earlier =
      let other : held.migration ≡ migration → ⊥ = λ same. absurd (omega (arith, same, earlier)) in
      (sym (cond-false (held.migration == migration) held.number 0 (ne_eqb held.migration migration other)), (omega (arith, earlier), λ same. absurd (other same)))

  pub of_above : (migration < held.migration → ⊥) → (held.migration < migration → ⊥) → count < held.number → TakesOne migration item count (Some held) (Err (fence.Above item held.number count))
  of_above not_later not_earlier above =
      let same : held.migration ≡ migration = omega (arith, not_later, not_earlier) in
      (refl, record { noted_is = ap (λ (m : ℕ). Some (pair_of m held.number)) same; count_is = refl; above = above })

  pub of_own : (migration < held.migration → ⊥) → (held.migration < migration → ⊥) → (count < held.number → ⊥) → TakesOne migration item count (Some held) (Ok held.number)
  of_own not_later not_earlier not_above =
      let same : held.migration ≡ migration = omega (arith, not_later, not_earlier) in
      (sym (cond-true (held.migration == migration) held.number 0 (eq-eqb held.migration migration same)), (omega (arith, same), λ own. omega (arith, not_above)))

-- ---- rows

-- each of the items so far may be taken
abbrev pub MayAllBeTaken : Problem → Plan → ℕ → Notes → ℕ → Type 0
MayAllBeTaken p plan migration notes count = (n : ℕ) → n < count → MayBeTaken migration (operations_of p plan n) (noted_at notes n)

module _ (p : Problem) (plan : Plan) (migration : ℕ) (notes : Notes) where
  pub all-none : MayAllBeTaken p plan migration notes 0
  all-none n inside = absurd (omega (arith, inside))

  pub all-more : (count : ℕ) → MayAllBeTaken p plan migration notes count → MayBeTaken migration (operations_of p plan count) (noted_at notes count) → MayAllBeTaken p plan migration notes (count + 1)
  all-more count all one n inside =
      elim (cases_lt n count) [
        | inl lt ↦ all n lt
        | inr le ↦ let same : count ≡ n = omega (arith, inside, le) in subst (λ (k : ℕ). MayBeTaken migration (operations_of p plan k) (noted_at notes k)) same one
      ]

  pub start-more : (count number : ℕ) (start start_now : List ℕ) → start ≡ list_below count (λ n. number_in migration (noted_at notes n)) → number ≡ number_in migration (noted_at notes count) → start_now ≡ start ++ number ∷ []
      → start_now ≡ list_below (count + 1) (λ n. number_in migration (noted_at notes n))
  start-more count number start start_now so_far one is =
      is ∙ ap₂ (λ (xs : List ℕ) (x : ℕ). xs ++ x ∷ []) so_far one ∙ sym (list_below-more count (λ n. number_in migration (noted_at notes n)))

  pub all-taken : (count : ℕ) (start : List ℕ) → count ≡ item_count p → start ≡ list_below count (λ n. number_in migration (noted_at notes n)) → MayAllBeTaken p plan migration notes count → IsTaken p plan migration notes start
  all-taken count start end start_is all = record {
    start_is = start_is ∙ ap (λ (n : ℕ). list_below n (λ k. number_in migration (noted_at notes k))) end;
    each = subst (λ (n : ℕ). MayAllBeTaken p plan migration notes n) end all;
  }
