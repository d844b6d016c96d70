-- How many items stand at each stage, as one of them moves, and the least stage at which one stands.
use Rattle.std.proofs.Common.{◌≡◌, ℕ, zero, suc, ◌+◌, ◌<◌, ◌≤◌, min, Bool, true, List, [], ◌^◌, length, length-set, set, slice_index, refl, sym, ap, ◌∙◌, subst, inl, inr, arith, add-one, eq-eqb, ne_eqb, eqb-true, ◌==◌}
use Rattle.std.proofs.lemmas.Bool.{cases_Bool, cases_eq, cases_lt}
use Rattle.std.proofs.lemmas.List.{get_or-set_same, get_or-set_other}
use Rattle.rollout_rules.specs.Sums.{count_below, least_below}
use Rattle.rollout_rules.specs.Wan.{Rollout, last_stage}
use Rattle.rollout_rules.specs.Items.{item_count, item_at}
use Rattle.rollout_rules.specs.Operations.{stand_after}
use Rattle.rollout_rules.proofs.Below.{count_below-most, least_below-at, least_below-from, least_below-top, sum_below-but, sum_below-zero}
use Rattle.dependency_graph.specs.Progress.{Counts}
use Rattle.dependency_graph.specs.Fits.{least_stand}
use Rattle.dependency_graph.specs.StageCounts.{ItemStages, IsLeast, standing, AreStageCounts, AreItemStages, AreStands, AreRestood}
use Rattle.dependency_graph.proofs.Agreement.{least_below-same}
use Rattle.dependency_graph.proofs.Standings.{one_if, set-at}

-- ---- counts of the numbers below n that pass a test

count-some : (n : ℕ) (test : ℕ → Bool) (k : ℕ) → k < n → test k ≡ true → 1 ≤ count_below n test
count-some zero test k lt passes = absurd (omega arith)
count-some (suc n) test k lt passes = elim (cases_eq k n) as (λ _. 1 ≤ count_below (suc n) test) [
  | inl same ↦ let one : one_if (test n) ≡ 1 = ap one_if (subst (λ j. test j ≡ true) same passes) in omega (arith, one)
  | inr other ↦ omega (arith, count-some n test k (omega arith) passes)
]

-- where the count isn't 0, one passes
count-there : (n : ℕ) (test : ℕ → Bool) → 0 < count_below n test → (k : ℕ) × (k < n) × (test k ≡ true)
count-there zero test some = absurd (omega arith)
count-there (suc n) test some = elim (cases_Bool (test n)) as (λ _. (k : ℕ) × (k < suc n) × (test k ≡ true)) [
  | inl passes ↦ (n, omega arith, passes)
  | inr fails ↦
      let none : one_if (test n) ≡ 0 = ap one_if fails in
      let before = count-there n test (omega (arith, none)) in
      (before.0, omega (arith, before.1), before.2)
]

-- ---- one item moves from a stage to another
set-less : (xs : List ℕ) (i x s : ℕ) → i < length xs → x + 1 ≡ slice_index xs i → slice_index (set xs i x) s + one_if (i == s) ≡ slice_index xs s
set-less xs i x s inside is = elim (cases_eq i s) as (λ _. slice_index (set xs i x) s + one_if (i == s) ≡ slice_index xs s) [
  | inl same ↦ subst (λ m. slice_index (set xs i x) m + one_if (i == m) ≡ slice_index xs m) same (omega (arith, get_or-set_same xs i x 0 inside, is, ap one_if (eq-eqb i i refl)))
  | inr other ↦ omega (arith, get_or-set_other xs i s x 0 (λ q. other (sym q)), ap one_if (ne_eqb i s other))
]

standing-moved : (stages : List ℕ) (i x s : ℕ) → i < length stages → standing stages (length stages) s + one_if (x == s) ≡ standing (set stages i x) (length stages) s + one_if (slice_index stages i == s)
standing-moved stages i x s inside =
    let but = sum_below-but (length stages) i (λ k. one_if (slice_index stages k == s)) (λ k. one_if (slice_index (set stages i x) k == s)) inside
    (λ j lt other. ap (λ y. one_if (y == s)) (sym (get_or-set_other stages i j x 0 (λ q. other q)))) in
    ap (λ y. standing stages (length stages) s + one_if (y == s)) (sym (get_or-set_same stages i x 0 inside)) ∙ but

module _ (last : ℕ) (stages counts : List ℕ) (so : AreItemStages last stages counts) (i x was : ℕ) (inside : i < length stages) (to : x ≤ last) (is : was ≡ slice_index stages i) where
  pub stood-stage : was < length counts
  stood-stage = omega (arith, is, so.within i inside, so.standings.all)

  pub stood-goes : (a : ℕ) → x < length (set counts was a)
  stood-goes a = omega (arith, length-set counts was a, so.standings.all)

  -- the stage that it leaves has it
  pub moved-some : 1 ≤ slice_index counts was
  moved-some = omega (arith, so.standings.each was (omega (arith, is, so.within i inside)), count-some (length stages) (λ k. slice_index stages k == was) i inside (eq-eqb (slice_index stages i) was (sym is)))

  module _ (a b : ℕ) (less : a + 1 ≡ slice_index counts was) (more : b ≡ slice_index (set counts was a) x + 1) where
    moved-each : (s : ℕ) → s ≤ last → slice_index (set (set counts was a) x b) s ≡ standing (set stages i x) (length stages) s
    moved-each s le =
        let there = stood-goes a in
        omega (arith, set-at (set counts was a) x b s there more, set-less counts was a s stood-stage less, so.standings.each s le, standing-moved stages i x s inside, ap (λ w. one_if (w == s)) is)

    pub moved-few : b < 2 ^ 32
    moved-few =
        let there = stood-goes a in
        omega (arith, get_or-set_same (set counts was a) x b 0 there, moved-each x to, count_below-most (length stages) (λ k. slice_index (set stages i x) k == x), so.few)

    moved-within : (k : ℕ) → k < length stages → slice_index (set stages i x) k ≤ last
    moved-within k lt = elim (cases_eq i k) as (λ _. slice_index (set stages i x) k ≤ last) [
      | inl same ↦ subst (λ m. slice_index (set stages i x) m ≤ last) same (omega (arith, get_or-set_same stages i x 0 inside))
      | inr other ↦ omega (arith, get_or-set_other stages i k x 0 (λ q. other (sym q)), so.within k lt)
    ]

    pub moved-stages : AreItemStages last (set stages i x) (set (set counts was a) x b)
    moved-stages =
        let same : length (set stages i x) ≡ length stages = length-set stages i x in
        record {
          few = omega (arith, same, so.few);
          within = λ k lt. moved-within k (omega (arith, same, lt));
          standings = record {
            all = length-set (set counts was a) x b ∙ length-set counts was a ∙ so.standings.all;
            each = λ s le. moved-each s le ∙ ap (λ n. standing (set stages i x) n s) (sym same);
          };
        }

-- ---- the least stage at which an item stands
pub least-first : (last : ℕ) (stages : List ℕ) (m : ℕ) → m < last → ((s : ℕ) → s < m → standing stages (length stages) s ≡ 0) → 0 < standing stages (length stages) m → least_below (length stages) last (slice_index stages) ≡ m
least-first last stages m below none some =
    let there = count-there (length stages) (λ k. slice_index stages k == m) some in
    let at : slice_index stages there.0 ≡ m = eqb-true (slice_index stages there.0) m there.2 in
    let low = least_below-from (length stages) last (slice_index stages) m (omega (arith, below)) (least-past stages m none) in
    omega (arith, low, least_below-at (length stages) last (slice_index stages) there.0 there.1, at)
  where
    least-past : (stages : List ℕ) (m : ℕ) → ((s : ℕ) → s < m → standing stages (length stages) s ≡ 0) → (k : ℕ) → k < length stages → m ≤ slice_index stages k
    least-past stages m none k lt = elim (cases_lt (slice_index stages k) m) as (λ _. m ≤ slice_index stages k) [
      | inl less ↦ absurd (omega (arith, none (slice_index stages k) less, count-some (length stages) (λ j. slice_index stages j == slice_index stages k) k lt (eq-eqb (slice_index stages k) (slice_index stages k) refl)))
      | inr past ↦ past
    ]

pub least-none : (last : ℕ) (stages : List ℕ) → ((k : ℕ) → k < length stages → slice_index stages k ≤ last) → ((s : ℕ) → s < last → standing stages (length stages) s ≡ 0) → least_below (length stages) last (slice_index stages) ≡ last
least-none last stages within none =
    let low = least_below-from (length stages) last (slice_index stages) last (omega arith) past in
    omega (arith, low, least_below-top (length stages) last (slice_index stages))
  where
    past : (k : ℕ) → k < length stages → last ≤ slice_index stages k
    past k lt = elim (cases_lt (slice_index stages k) last) as (λ _. last ≤ slice_index stages k) [
      | inl less ↦ absurd (omega (arith, none (slice_index stages k) less, count-some (length stages) (λ j. slice_index stages j == slice_index stages k) k lt (eq-eqb (slice_index stages k) (slice_index stages k) refl)))
      | inr at ↦ at
    ]

-- before the stage from which on they all stand none does
pub standing-none : (stages : List ℕ) (low s : ℕ) → ((k : ℕ) → k < length stages → low ≤ slice_index stages k) → s < low → standing stages (length stages) s ≡ 0
standing-none stages low s above lt =
    sum_below-zero (length stages) (λ k. one_if (slice_index stages k == s)) (λ k inside. ap one_if (ne_eqb (slice_index stages k) s (λ e. let up = above k inside in omega (arith, up, e, lt))))

-- an item that moves stands at least where the least one stood, or where it goes
pub above-moved : (at : ItemStages) (least i x : ℕ) → IsLeast least at → i < length at.stages → (k : ℕ) → k < length (set at.stages i x) → min least x ≤ slice_index (set at.stages i x) k
above-moved at least i x so inside k lt = elim (cases_eq i k) as (λ _. min least x ≤ slice_index (set at.stages i x) k) [
  | inl same ↦ subst (λ m. min least x ≤ slice_index (set at.stages i x) m) same (omega (arith, get_or-set_same at.stages i x 0 inside))
  | inr other ↦ omega (arith, so, get_or-set_other at.stages i k x 0 (λ e. other (sym e)), least_below-at (length at.stages) at.last (slice_index at.stages) k (omega (arith, lt, length-set at.stages i x)))
]

-- with nothing ahead it is the least of the stages kept
pub least-kept : (r : Rollout) (c : Counts) (stages : List ℕ) → AreStands r c.settled stages (item_count r.problem) → least_below (length stages) (last_stage r.plan) (slice_index stages) ≡ least_stand r c []
least-kept r c stages so =
    ap (λ n. least_below n (last_stage r.plan) (slice_index stages)) so.count
    ∙ least_below-same (item_count r.problem) (last_stage r.plan) (slice_index stages) (λ n. stand_after r.problem r.plan (item_at r.problem n) (slice_index c.settled n + 0))
    (λ k lt. so.each k lt ∙ ap (stand_after r.problem r.plan (item_at r.problem k)) (omega arith))

-- ---- counting item by item
pub standings-more : (last : ℕ) (stages counts : List ℕ) (n b : ℕ) → slice_index stages n ≤ last → AreStageCounts last stages n counts → b ≡ slice_index counts (slice_index stages n) + 1 → AreStageCounts last stages (n + 1) (set counts (slice_index stages n) b)
standings-more last stages counts n b le so more = record {
  all = length-set counts (slice_index stages n) b ∙ so.all;
  each = λ s low.
      let next : standing stages (n + 1) s ≡ standing stages n s + one_if (slice_index stages n == s) = rw (add-one n) refl in
      omega (arith, set-at counts (slice_index stages n) b s (omega (arith, le, so.all)) more, so.each s low, next);
}

pub standings-few : (last : ℕ) (stages counts : List ℕ) (n s : ℕ) → s ≤ last → AreStageCounts last stages n counts → slice_index counts s ≤ n
standings-few last stages counts n s le so = omega (arith, so.each s le, count_below-most n (λ k. slice_index stages k == s))

-- ---- stages that are set one after another
pub restood-more : (r : Rollout) (settled : List ℕ) (n x : ℕ) (at later : ItemStages) → n < item_count r.problem → x ≡ stand_after r.problem r.plan (item_at r.problem n) (slice_index settled n) → later ≡ record at { stages = set at.stages n x } → AreRestood r settled n at → AreRestood r settled (n + 1) later
restood-more r settled n x at later lt is put so = subst (AreRestood r settled (n + 1)) (sym put) (record {
  count = length-set at.stages n x ∙ so.count;
  last = so.last;
  each = λ k below. elim (cases_eq n k) as (λ _. slice_index (set at.stages n x) k ≡ stand_after r.problem r.plan (item_at r.problem k) (slice_index settled k)) [
    | inl same ↦ subst (λ m. slice_index (set at.stages n x) m ≡ stand_after r.problem r.plan (item_at r.problem m) (slice_index settled m)) same (get_or-set_same at.stages n x 0 (omega (arith, lt, so.count)) ∙ is)
    | inr other ↦ get_or-set_other at.stages n k x 0 (λ e. other (sym e)) ∙ so.each k (omega (arith, below, other))
  ];
})
