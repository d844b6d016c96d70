-- Sorted candidates are those of the items in order.
use Rattle.std.proofs.Common.{◌≡◌, ℕ, ◌+◌, Bool, true, false, ◌&&◌, ◌||◌, ◌==◌, nat_lt, if◌then◌else◌, List, [], ◌∷◌, IsPermutation, IsSorted, sum_by, refl, sym, ap, ◌∙◌, subst, arith, inl, inr}
use Rattle.std.specs.List.{AllByRecursion}
use Rattle.std.proofs.lemmas.Bool.{cases_Bool}
use Rattle.std.proofs.lemmas.List.Sums.{sum_by-cons}
use Rattle.std.proofs.lemmas.List.Sorted.{sum_by-IsPermutation}
use Rattle.rollout_rules.specs.Release.{insert_by, in_order_of}
use Rattle.update_scheduler.specs.declared.candidate.Candidate.{Candidate}
use Rattle.update_scheduler.specs.Candidates.{compared, candidate_of, candidates_of}
use Rattle.update_scheduler.proofs.Rising.{is_before, AtMost, before-most, behind-most, all-most, Rises, sorted-rises, total, same-list}

total-sum : (f : Candidate → ℕ) (cs : List Candidate) → sum_by f cs ≡ total f cs
total-sum f [] = refl
total-sum f (c ∷ cs) = sum_by-cons f c cs ∙ ap (λ n. f c + n) (total-sum f cs)

module _ (rank : ℕ → ℕ) where
  inserted-all : (P : Candidate → Type 0) (n : ℕ) (ms : List ℕ) → P (candidate_of rank n) → AllByRecursion P (candidates_of rank ms) → AllByRecursion P (candidates_of rank (insert_by rank n ms))
  inserted-all P n [] here all = (here, tt)
  inserted-all P n (m ∷ ms) here all = elim (cases_Bool (is_before (candidate_of rank n) (candidate_of rank m))) as (λ c. AllByRecursion P (candidates_of rank (insert_by rank n (m ∷ ms)))) [
    | inl first ↦ rw first (here, all)
    | inr later ↦ rw later (all.0, inserted-all P n ms here all.1)
  ]

  inserted-rises : (n : ℕ) (ms : List ℕ) → Rises (candidates_of rank ms) → Rises (candidates_of rank (insert_by rank n ms))
  inserted-rises n [] up = (tt, tt)
  inserted-rises n (m ∷ ms) up = elim (cases_Bool (is_before (candidate_of rank n) (candidate_of rank m))) as (λ c. Rises (candidates_of rank (insert_by rank n (m ∷ ms)))) [
    | inl first ↦
        let most = before-most (candidate_of rank n) (candidate_of rank m) first in
        rw first ((most, all-most (candidate_of rank n) (candidate_of rank m) (candidates_of rank ms) most up.0), up)
    | inr later ↦
        rw later (inserted-all (AtMost (candidate_of rank m)) n ms (behind-most (candidate_of rank n) (candidate_of rank m) later) up.0, inserted-rises n ms up.1)
  ]

  inserted-total : (f : Candidate → ℕ) (n : ℕ) (ms : List ℕ) → total f (candidates_of rank (insert_by rank n ms)) ≡ f (candidate_of rank n) + total f (candidates_of rank ms)
  inserted-total f n [] = refl
  inserted-total f n (m ∷ ms) = elim (cases_Bool (is_before (candidate_of rank n) (candidate_of rank m))) as (λ c. total f (candidates_of rank (insert_by rank n (m ∷ ms))) ≡ f (candidate_of rank n) + total f (candidates_of rank (m ∷ ms))) [
    | inl first ↦ rw first refl
    | inr later ↦ rw later (omega (arith, inserted-total f n ms))
  ]

  pub in-order-rises : (ns : List ℕ) → Rises (candidates_of rank (in_order_of rank ns))
  in-order-rises [] = tt
  in-order-rises (n ∷ ns) = inserted-rises n (in_order_of rank ns) (in-order-rises ns)

  pub in-order-total : (f : Candidate → ℕ) (ns : List ℕ) → total f (candidates_of rank (in_order_of rank ns)) ≡ total f (candidates_of rank ns)
  in-order-total f [] = refl
  in-order-total f (n ∷ ns) = omega (arith, inserted-total f n (in_order_of rank ns), in-order-total f ns)

  pub sorted-order : (ns : List ℕ) (cs new : List Candidate) → IsPermutation cs new → IsSorted compared new → cs ≡ candidates_of rank ns → new ≡ candidates_of rank (in_order_of rank ns)
  sorted-order ns cs new moved sorted is =
      same-list new (candidates_of rank (in_order_of rank ns)) (sorted-rises new sorted) (in-order-rises ns)
      (λ f. sym (total-sum f new) ∙ sum_by-IsPermutation f cs new moved ∙ total-sum f cs ∙ ap (total f) is ∙ sym (in-order-total f ns))
