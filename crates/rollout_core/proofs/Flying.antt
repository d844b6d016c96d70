-- The operations in flight, item by item.
use Rattle.std.proofs.Common.{◌≡◌, ℕ, zero, suc, ◌+◌, ◌<◌, ◌≤◌, Bool, true, false, cond, List, [], ◌∷◌, ◌++◌, length, get_or, refl, sym, ap, ap₂, ◌∙◌, subst, arith, append-nil, length-append, eqb-true, add-one, ◌==◌}
use Rattle.std.specs.List.{All}
use Rattle.std.proofs.lemmas.List.{get_or-map, length-map}
use Rattle.std.proofs.lemmas.List.Elements.{All-nil, All-push, All-weaker, All-filter, All-get_or, filter-append, filter_passes}
use Rattle.rollout_rules.specs.Sums.{list_below}
use Rattle.rollout_rules.specs.Wan.{Problem}
use Rattle.rollout_rules.specs.Items.{item_count}
use Rattle.rollout_rules.specs.History.{History, started, begun, settled, flies}
use Rattle.rollout_rules.specs.Release.{next_op}
use Rattle.rollout_rules.specs.World.{in_flight, no_op}
use Rattle.rollout_rules.specs.declared.op.Op.{Op}
use Rattle.rollout_laws.proofs.Histories.{flies-started}
use Rattle.dependency_graph.specs.Progress.{Counts, AreCountsOf, flies_by}
use Rattle.rollout_core.specs.InFlight.{passing, FlyingItems, AreFlying}

-- ---- the numbers below n that pass a test
module _ (test : ℕ → Bool) where
  -- with the next number, which is one of them or not
  one_more : (n : ℕ) → passing test (n + 1) ≡ passing test n ++ cond (test n) (n ∷ []) []
  one_more n = rw (add-one n) (filter-append test (list_below n (λ k. k)) (n ∷ []))

  pub passing-more : (n : ℕ) → test n ≡ true → passing test (n + 1) ≡ passing test n ++ n ∷ []
  passing-more n passes = one_more n ∙ ap (λ b. passing test n ++ cond b (n ∷ []) []) passes

  pub passing-kept : (n : ℕ) → test n ≡ false → passing test (n + 1) ≡ passing test n
  passing-kept n fails = one_more n ∙ ap (λ b. passing test n ++ cond b (n ∷ []) []) fails ∙ append-nil (passing test n)

  -- they are at most n
  pub passing-few : (n : ℕ) → length (passing test n) ≤ n
  passing-few zero = omega arith
  passing-few (suc n) =
      let more = filter-append test (list_below n (λ k. k)) (n ∷ []) in
      let all : length (passing test (suc n)) ≡ length (passing test n) + length (cond (test n) (n ∷ []) []) = ap length more ∙ length-append (passing test n) (cond (test n) (n ∷ []) []) in
      let one : length (cond (test n) (n ∷ []) []) ≤ 1 = elim (test n) as (λ b. length (cond b (n ∷ []) []) ≤ 1) [ true ↦ omega arith | false ↦ omega arith ] in
      omega (arith, passing-few n)

numbers_below : (n : ℕ) → All (λ k. k < n) (list_below n (λ k. k))
numbers_below zero = All-nil (λ k. k < 0)
numbers_below (suc n) = All-push (λ k. k < suc n) (list_below n (λ k. k)) n (All-weaker (λ k. k < n) (λ k. k < suc n) (λ k l. omega arith) (list_below n (λ k. k)) (numbers_below n)) (omega arith)

-- two tests that agree below n let the same numbers pass
passing-same : (test other : ℕ → Bool) (n : ℕ) → ((k : ℕ) → k < n → test k ≡ other k) → passing test n ≡ passing other n
passing-same test other zero same = refl
passing-same test other (suc n) same =
    filter-append test (list_below n (λ k. k)) (n ∷ [])
    ∙ ap₂ (λ l b. l ++ cond b (n ∷ []) []) (passing-same test other n (λ k lt. same k (omega arith))) (same n (omega arith))
    ∙ sym (filter-append other (list_below n (λ k. k)) (n ∷ []))

passing-none : (n : ℕ) → passing (λ k. false) n ≡ []
passing-none zero = refl
passing-none (suc n) = filter-append (λ k. false) (list_below n (λ k. k)) (n ∷ []) ∙ append-nil (passing (λ k. false) n) ∙ passing-none n

-- ---- those that fly by the counts of a history are those that fly by it
pub flying-counts : (c : Counts) (h : History) → AreCountsOf c h → passing (flies_by c) (item_count c.rollout.problem) ≡ passing (flies h) (item_count c.rollout.problem)
flying-counts c h so = passing-same (flies_by c) (flies h) (item_count c.rollout.problem) (λ n lt. ap₂ (λ a b. a == b + 1) (so.begun n lt) (so.settled n lt))

-- at a start there is none
pub flying-first : (p : Problem) (start : List ℕ) (noted : FlyingItems) → noted ≡ record { room = item_count p; items = [] } → AreFlying p (started start) noted
flying-first p start noted is = record {
  room = ap (λ f. f.room) is;
  items = ap (λ f. f.items) is
      ∙ sym (passing-same (flies (started start)) (λ k. false) (item_count p) (λ k lt. flies-started start k) ∙ passing-none (item_count p));
}

-- how many operations are in flight
pub length-in_flight : (p : Problem) (h : History) → length (in_flight p h) ≡ length (passing (flies h) (item_count p))
length-in_flight p h = length-map (passing (flies h) (item_count p)) (next_op h)

module _ (p : Problem) (h : History) (noted : FlyingItems) (so : AreFlying p h noted) where
  pub flying-count : length noted.items ≡ length (in_flight p h)
  flying-count = ap length so.items ∙ sym (length-in_flight p h)

  module _ (n item : ℕ) (inside : n < length (in_flight p h)) (is : item ≡ get_or noted.items n 0) where
    there : n < length (passing (flies h) (item_count p))
    there = subst (λ m. n < m) (length-in_flight p h) inside

    at : item ≡ get_or (passing (flies h) (item_count p)) n 0
    at = is ∙ ap (λ l. get_or l n 0) so.items

    -- the n-th item is one
    pub flying-below : item < item_count p
    flying-below = subst (λ k. k < item_count p) (sym at)
        (All-get_or (λ k. k < item_count p) (passing (flies h) (item_count p)) n 0 there (All-filter (flies h) (λ k. k < item_count p) (list_below (item_count p) (λ k. k)) (numbers_below (item_count p))))

    flying-flies : flies h item ≡ true
    flying-flies = subst (λ k. flies h k ≡ true) (sym at)
        (All-get_or (λ k. flies h k ≡ true) (passing (flies h) (item_count p)) n 0 there (filter_passes (flies h) (list_below (item_count p) (λ k. k))))

    -- and what was begun last of it is the n-th operation in flight
    pub flying-op : (number : ℕ) → number ≡ begun h item → record { item = item; number = number } ≡ get_or (in_flight p h) n no_op
    flying-op number counted =
        ap (has item) (counted ∙ eqb-true (begun h item) (settled h item + 1) flying-flies)
        ∙ ap (next_op h) at
        ∙ sym (get_or-map (next_op h) (passing (flies h) (item_count p)) n 0 no_op there)
      where
        has : ℕ → ℕ → Op
        has i k = record { item = i; number = k }
