-- What stands in the rows of sums.
use Rattle.std.proofs.Common.{◌≡◌, ℕ, ◌+◌, ◌<◌, ◌≤◌, max, Bool, true, false, ◌&&◌, ◌||◌, List, [], length, get_or, ◌==◌, if◌then◌else◌, refl, sym, ap, subst, ◌∙◌, arith}
use Rattle.rollout_rules.specs.Sums.{sum_below, list_below}
use Rattle.rollout_rules.specs.Wan.{Problem, Plan, rate_at, mark_at, switch_of, hops, width_of, crosses, last_stage}
use Rattle.rollout_rules.specs.Items.{the_link, the_table, load, entries_at}
use Rattle.rollout_rules.specs.Network.{IsNetwork}
use Rattle.rollout_rules.specs.Valid.{is_valid_plan, step_total}
use Rattle.rollout_rules.proofs.Below.{sum_below-same}
use Rattle.rollout_rules.proofs.Totals.{step_total-load, step_total-entries_at}
use Rattle.rollout_rules.proofs.Rows.{list_below-length, list_below-at}
use Rattle.wan_model.proofs.Shapes.{valid-IsShaped}
use Rattle.plan_texts.specs.Loads.{stage_total}
use Rattle.plan_texts.specs.Rows.{IsChecked, AreLong, larger_at, either_at, ahead_of, link_rows, table_rows, cell}

-- a number of rows that are lists of lists
cell-at : (stages count : ℕ) (f : ℕ → ℕ → ℕ) (rows : List (List ℕ)) (k s : ℕ) → rows ≡ list_below stages (λ u. list_below count (f u)) → k < count → s < stages → cell rows k s ≡ f s k
cell-at stages count f rows k s is low lt =
    ap (λ (r : List (List ℕ)). cell r k s) is
    ∙ ap (λ (row : List ℕ). get_or row k 0) (list_below-at stages (λ u. list_below count (f u)) s [] lt)
    ∙ list_below-at count (f s) k 0 low

pub long-rows : (stages count : ℕ) (f : ℕ → ℕ → ℕ) (rows : List (List ℕ)) (k n : ℕ) → rows ≡ list_below stages (λ u. list_below count (f u)) → k < count → n ≡ stages → AreLong rows n k
long-rows stages count f rows k n is low all = record {
  count = omega (arith, ap length is, list_below-length stages (λ u. list_below count (f u)), all);
  each = λ s lt.
      let row : get_or rows s [] ≡ list_below count (f s) = ap (λ (r : List (List ℕ)). get_or r s []) is ∙ list_below-at stages (λ u. list_below count (f u)) s [] (omega (arith, lt, all)) in
      omega (arith, low, ap length row, list_below-length count (f s));
}

pub long-less : (rows : List (List ℕ)) (k n m : ℕ) → AreLong rows n k → m ≤ n → AreLong rows m k
long-less rows k n m long le = record {
  count = omega (arith, long.count, le);
  each = λ s lt. long.each s (omega (arith, lt, le));
}

max-same : (n : ℕ) → max n n ≡ n
max-same n = omega arith

or-same : (b : Bool) → (b || b) ≡ b
or-same true = refl
or-same false = refl

pub checked-from : (p q : Problem) (plan way : Plan) → q ≡ p → way ≡ plan → IsNetwork p → is_valid_plan p plan ≡ true → IsChecked q way
checked-from p q plan way same part net valid =
    let here : is_valid_plan q way ≡ true = ap (λ x. is_valid_plan x way) same ∙ ap (is_valid_plan p) part ∙ valid in
    record {
      network = subst IsNetwork (sym same) net;
      valid = here;
      shape = valid-IsShaped q way here;
    }

module _ (p : Problem) (plan : Plan) (checked : IsChecked p plan) (rows : List (List ℕ)) (k s : ℕ) (stage : s < length plan.stages) where
  here : ahead_of plan 0 s ≡ s
  here = omega (arith, checked.shape.some)

  load-alone : load p (larger_at plan s (ahead_of plan 0 s)) k ≡ load p (rate_at plan s) k
  load-alone =
      ap (λ u. load p (larger_at plan s u) k) here
      ∙ sum_below-same (length p.tunnels) (λ t. if crosses p t k then larger_at plan s s t else 0) (λ t. if crosses p t k then rate_at plan s t else 0)
      (λ t lt. ap (λ r. if crosses p t k then r else 0) (max-same (rate_at plan s t)))

  entries-alone : entries_at p (λ t h. either_at plan s (ahead_of plan 0 s) t) k ≡ entries_at p (λ t h. mark_at plan s t) k
  entries-alone =
      ap (λ u. entries_at p (λ t h. either_at plan s u t) k) here
      ∙ sum_below-same (length p.tunnels)
      (λ t. sum_below (hops p t) (λ h. if (switch_of p t h == k) && either_at plan s s t then width_of p t else 0))
      (λ t. sum_below (hops p t) (λ h. if (switch_of p t h == k) && mark_at plan s t then width_of p t else 0))
      (λ t lt. ap (λ b. sum_below (hops p t) (λ h. if (switch_of p t h == k) && b then width_of p t else 0)) (or-same (mark_at plan s t)))

  pub link-taken : rows ≡ link_rows p plan 0 → k < length p.links → cell rows k s ≡ stage_total p plan s (the_link k)
  link-taken is low = cell-at (length plan.stages) (length p.links) (λ u. load p (larger_at plan u (ahead_of plan 0 u))) rows k s is low stage ∙ load-alone

  pub link-most : rows ≡ link_rows p plan 1 → k < length p.links → cell rows k s ≡ step_total p plan s (the_link k)
  link-most is low = cell-at (length plan.stages) (length p.links) (λ u. load p (larger_at plan u (ahead_of plan 1 u))) rows k s is low stage ∙ sym (step_total-load p plan s k checked.network)

  pub table-taken : rows ≡ table_rows p plan 0 → k < length p.switches → cell rows k s ≡ stage_total p plan s (the_table k)
  table-taken is low = cell-at (length plan.stages) (length p.switches) (λ u. entries_at p (λ t h. either_at plan u (ahead_of plan 0 u) t)) rows k s is low stage ∙ entries-alone

  pub table-most : rows ≡ table_rows p plan 1 → k < length p.switches → cell rows k s ≡ step_total p plan s (the_table k)
  table-most is low = cell-at (length plan.stages) (length p.switches) (λ u. entries_at p (λ t h. either_at plan u (ahead_of plan 1 u) t)) rows k s is low stage ∙ sym (step_total-entries_at p plan s k)

-- the rows of links and of tables are long
pub links-long : (p : Problem) (plan : Plan) (rows : List (List ℕ)) (ahead k n : ℕ) → IsChecked p plan → rows ≡ link_rows p plan ahead → k < length p.links → n ≡ last_stage plan → AreLong rows (n + 1) k
links-long p plan rows ahead k n checked is low last =
    long-rows (length plan.stages) (length p.links) (λ u. load p (larger_at plan u (ahead_of plan ahead u))) rows k (n + 1) is low (omega (arith, last, checked.shape.some))

pub tables-long : (p : Problem) (plan : Plan) (rows : List (List ℕ)) (ahead k n : ℕ) → IsChecked p plan → rows ≡ table_rows p plan ahead → k < length p.switches → n ≡ last_stage plan → AreLong rows (n + 1) k
tables-long p plan rows ahead k n checked is low last =
    long-rows (length plan.stages) (length p.switches) (λ u. entries_at p (λ t h. either_at plan u (ahead_of plan ahead u) t)) rows k (n + 1) is low (omega (arith, last, checked.shape.some))
