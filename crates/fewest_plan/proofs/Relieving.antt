-- The order by relief: its numbers are those of flows.
use Rattle.std.proofs.Common.{◌≡◌, ℕ, ◌<◌, Bool, true, false, List, length, slice_index, Option, Some, None, unwrap_or, refl, ap, ap₂, ◌∙◌, arith}
use Rattle.rollout_rules.specs.Sums.{list_below}
use Rattle.rollout_rules.specs.Wan.{Problem}
use Rattle.rollout_rules.proofs.Rows.{list_below-length, list_below-at}
use Rattle.wan_model.specs.declared.side.Side.{Side}
use Rattle.wan_model.specs.declared.side.Side.TheVariants.{Old, New}
use Rattle.plan_check.specs.First.{first_below, provided}
use Rattle.plan_check.proofs.Firsts.{first_below_some}
use Rattle.fewest_plan.specs.Greedy.{IsOrder}
use Rattle.fewest_plan.specs.Marked.{borne}
use Rattle.fewest_plan.specs.Relief.{fullest, rank, ranks, has_rank, of_rank, by_loads, by_relief}

pub provided-is : (b : Bool) (a x : ℕ) → provided b a ≡ Some x → a ≡ x
provided-is true a x e = cc
provided-is false a x e = cc

unwrapped-below : (o : Option ℕ) (n : ℕ) → 0 < n → ((k : ℕ) → o ≡ Some k → k < n) → unwrap_or o 0 < n
unwrapped-below None n some each = some
unwrapped-below (Some k) n some each = each k refl

of_rank-below : (row : List ℕ) (i : ℕ) → 0 < length row → of_rank row i < length row
of_rank-below row i some =
    let test : ℕ → Option ℕ = λ f. provided (has_rank row i f) f in
    unwrapped-below (first_below (length row) test) (length row) some (λ k e.
    let at = first_below_some test (length row) k e in
    let same : at.0 ≡ k = provided-is (has_rank row i at.0) at.0 k at.2 in
    omega (arith, at.1, same))

pub ranks-count : (before after : List ℕ) → length (ranks before after) ≡ length before
ranks-count before after = list_below-length (length before) (rank before after)

-- what each flow loads the marked links with
module _ (p : Problem) (marks : List Bool) (are : marks ≡ fullest p) where
  pub borne-count : (side : Side) (row : List ℕ) → row ≡ list_below (length p.flows) (borne p marks side) → length row ≡ length p.flows
  borne-count side row is = ap length is ∙ list_below-length (length p.flows) (borne p marks side)

  pub relief-is : (before after order : List ℕ) → before ≡ list_below (length p.flows) (borne p marks Old) → after ≡ list_below (length p.flows) (borne p marks New) → order ≡ by_loads before after → order ≡ by_relief p
  unfolding by_relief
  relief-is before after order b a is =
      is ∙ ap₂ by_loads
      (b ∙ ap (λ ms. list_below (length p.flows) (borne p ms Old)) are)
      (a ∙ ap (λ ms. list_below (length p.flows) (borne p ms New)) are)

  pub relief-order : (before after order : List ℕ) → before ≡ list_below (length p.flows) (borne p marks Old) → order ≡ by_loads before after → IsOrder p order
  relief-order before after order b is i lt =
      let row : List ℕ = ranks before after in
      let count : length row ≡ length p.flows = ranks-count before after ∙ borne-count Old before b in
      let low : i < length row = omega (arith, lt, ap length is, list_below-length (length row) (of_rank row)) in
      let at : slice_index order i ≡ of_rank row i = ap (λ xs. slice_index xs i) is ∙ list_below-at (length row) (of_rank row) i 0 low in
      omega (arith, at, of_rank-below row i (omega arith), count)
