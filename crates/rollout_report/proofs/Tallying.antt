-- Operations are counted by stages, item by item.
use Rattle.std.proofs.Common.{◌≡◌, ℕ, zero, suc, ◌+◌, ◌<◌, ◌≤◌, Bool, ◌==◌, if◌then◌else◌, List, [], ◌++◌, length, get_or, inl, inr, refl, sym, ap, ap₂, ◌∙◌, subst, arith}
use Rattle.std.specs.Prelude.{replicate}
use Rattle.std.proofs.lemmas.Bool.{cases_lt}
use Rattle.std.proofs.lemmas.List.{get_or_past}
use Rattle.rollout_rules.specs.Sums.{sum_below, count_below}
use Rattle.rollout_rules.specs.Wan.{Problem, Plan, last_stage}
use Rattle.rollout_rules.specs.Items.{item_count, item_at}
use Rattle.rollout_rules.specs.Operations.{changes_behind}
use Rattle.rollout_rules.specs.History.{History, settled, begun}
use Rattle.rollout_rules.proofs.Below.{count_below-most, sum_below-same}
use Rattle.rollout_report.specs.Counts.{Counted, AreCountsOf}
use Rattle.rollout_report.specs.Report.{settled_of_all, flying_of_all, stage_line, stage_lines, settled_to}
use Rattle.rollout_report.specs.Tallies.{StageLists, settles_to, AreStageCounts, IsCounted, lines_of}

abbrev pub zeros : ℕ → List ℕ
zeros n = replicate n 0

pub all_zero : (n k : ℕ) → get_or (zeros n) k 0 ≡ 0
all_zero zero k = refl
all_zero (suc n) zero = refl
all_zero (suc n) (suc k) = all_zero n k

many : (n : ℕ) → length (zeros n) ≡ n
many zero = refl
many (suc n) = ap suc (many n) ∙ omega arith

pub nothing_counted : (p : Problem) (plan : Plan) (counts : List ℕ) (stages : StageLists) → stages.all ≡ replicate (last_stage plan) 0 → stages.settled ≡ replicate (last_stage plan) 0 → AreStageCounts p plan counts 0 stages
nothing_counted p plan counts stages all settled = record {
  all_stages = ap length all ∙ many (last_stage plan);
  settled_stages = ap length settled ∙ many (last_stage plan);
  all = λ s lt. ap (λ l. get_or l s 0) all ∙ all_zero (last_stage plan) s;
  settled = λ s lt. ap (λ l. get_or l s 0) settled ∙ all_zero (last_stage plan) s;
}

count-more : (n : ℕ) (test : ℕ → Bool) → count_below (n + 1) test ≡ count_below n test + (if test n then 1 else 0)
count-more n test = let e : suc n ≡ n + 1 = omega arith in subst (λ m. count_below m test ≡ count_below n test + (if test n then 1 else 0)) e refl

pub one_counted : (p : Problem) (plan : Plan) (counts : List ℕ) (n : ℕ) (before after : StageLists) → AreStageCounts p plan counts n before → IsCounted p plan (item_at p n) (get_or counts n 0) (last_stage plan) before after → AreStageCounts p plan counts (n + 1) after
one_counted p plan counts n before after was more = record {
  all_stages = more.all_stages ∙ was.all_stages;
  settled_stages = more.settled_stages ∙ was.settled_stages;
  all = λ s lt. more.all s lt ∙ ap (λ x. x + (if changes_behind p plan (item_at p n) s then 1 else 0)) (was.all s lt) ∙ sym (count-more n (λ k. changes_behind p plan (item_at p k) s));
  settled = λ s lt. more.settled s lt ∙ ap (λ x. x + (if settles_to p plan (item_at p n) (get_or counts n 0) s then 1 else 0)) (was.settled s lt) ∙ sym (count-more n (λ k. settles_to p plan (item_at p k) (get_or counts k 0) s));
}

past_end : (xs : List ℕ) (k : ℕ) → length xs ≤ k → get_or xs k 0 ≡ 0
past_end xs k le = get_or_past xs k 0 le

module _ (p : Problem) (plan : Plan) (counts : List ℕ) (n : ℕ) (stages : StageLists) (are : AreStageCounts p plan counts n stages) (s : ℕ) where
  pub all-most : get_or stages.all s 0 ≤ n
  all-most = elim (cases_lt s (last_stage plan)) as (λ c. get_or stages.all s 0 ≤ n) [
    | inl lt ↦ omega (arith, are.all s lt, count_below-most n (λ k. changes_behind p plan (item_at p k) s))
    | inr le ↦ omega (arith, past_end stages.all s (omega (arith, le, are.all_stages)))
  ]

  pub settled-most : get_or stages.settled s 0 ≤ n
  settled-most = elim (cases_lt s (last_stage plan)) as (λ c. get_or stages.settled s 0 ≤ n) [
    | inl lt ↦ omega (arith, are.settled s lt, count_below-most n (λ k. settles_to p plan (item_at p k) (get_or counts k 0) s))
    | inr le ↦ omega (arith, past_end stages.settled s (omega (arith, le, are.settled_stages)))
  ]

module _ (p : Problem) (plan : Plan) (h : History) (c : Counted) (counts : AreCountsOf p h c) where
  settled-at : (k : ℕ) → k < item_count p → get_or c.settled k 0 ≡ settled h k
  settled-at k lt = counts.counts.settled k (omega (arith, counts.all_settled, lt))

  begun-at : (k : ℕ) → k < item_count p → get_or c.begun k 0 ≡ begun h k
  begun-at k lt = counts.counts.begun k (omega (arith, counts.all_begun, lt))

  pub settled-sum : sum_below (item_count p) (λ k. get_or c.settled k 0) ≡ settled_of_all p h
  settled-sum = sum_below-same (item_count p) (λ k. get_or c.settled k 0) (settled h) settled-at

  pub flying-count : count_below (item_count p) (λ k. get_or c.begun k 0 == get_or c.settled k 0 + 1) ≡ flying_of_all p h
  flying-count = sum_below-same (item_count p) _ _ (λ k lt. ap₂ (λ b s. if b == s + 1 then 1 else 0) (begun-at k lt) (settled-at k lt))

  module _ (stages : StageLists) (are : AreStageCounts p plan c.settled (item_count p) stages) where
    settled-stage : (s : ℕ) → s < last_stage plan → get_or stages.settled s 0 ≡ settled_to p plan h s
    settled-stage s lt = are.settled s lt ∙ sum_below-same (item_count p) _ _ (λ k low. ap (λ x. if settles_to p plan (item_at p k) x s then 1 else 0) (settled-at k low))

    pub lines-same : (n : ℕ) → n ≤ last_stage plan → lines_of stages n ≡ stage_lines p plan h n
    lines-same zero le = refl
    lines-same (suc n) le = ap₂ (λ x y. x ++ y) (lines-same n (omega arith)) (ap₂ (stage_line n) (settled-stage n (omega arith)) (are.all n (omega arith)))

-- three texts after each other
pub joined : (before sums stages whole first second third : List ℕ) → before ≡ [] → sums ≡ before ++ first → stages ≡ sums ++ second → whole ≡ stages ++ third → whole ≡ (first ++ second) ++ third
joined before sums stages whole first second third empty one two three =
    three
    ∙ ap (λ l. l ++ third) (two ∙ ap (λ l. l ++ second) (one ∙ ap (λ l. l ++ first) empty))
