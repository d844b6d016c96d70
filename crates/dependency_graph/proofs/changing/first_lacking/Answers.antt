use Rattle.std.proofs.Common.{◌≡◌, ℕ, ◌<◌, Bool, false, List, sym, ap, subst, slice_index, length, ◌∙◌}
use Rattle.rollout_rules.specs.Sums.{all_below}
use Rattle.rollout_rules.proofs.Below.{all_below_stops}
use Rattle.dependency_graph.specs.Cells.{rises, cell_holds}
use Rattle.dependency_graph.specs.Waiting.{Fails}
use Rattle.dependency_graph.proofs.changing.first_lacking.Goals as goal

pub returns-then-not-holds-clause-none : goal.returns-then-not-holds-clause-none
returns-then-not-holds-clause-none c =
    let r = c.args.plan.now in
    let row = c.args.row.now.resources in
    let k = c.loop-k.k in
    let lt : k < length row = subst (λ (xs : List ℕ). k < length xs) c.resources-resources.ensures c.loop-k-test.true in
    let test : ℕ → Bool = λ k. all_below c.args.x (cell_holds r c.args.cells.now c.args.low (slice_index row k) (rises r c.args.item c.args.x (slice_index row k))) in
    let fails : all_below c.args.x (cell_holds r c.args.cells.now c.args.low (slice_index row k) (rises r c.args.item c.args.x (slice_index row k))) ≡ false =
    ap (λ n. all_below c.args.x (cell_holds r c.args.cells.now c.args.low (slice_index row k) n)) (sym c.rise-amount.ensures)
    ∙ ap (λ (xs : List ℕ). all_below c.args.x (cell_holds r c.args.cells.now c.args.low (slice_index xs k) c.rise-amount.result)) (sym c.resources-resources.ensures)
    ∙ sym c.holds.ensures ∙ c.if-not-holds.true in
    sym (all_below_stops test (length row) k lt fails)

pub returns-then-not-holds-clause-lacking : goal.returns-then-not-holds-clause-lacking
returns-then-not-holds-clause-lacking c =
    let r = c.args.plan.now in
    let row = c.args.row.now.resources in
    let k = c.loop-k.k in
    let lt : k < length row = subst (λ (xs : List ℕ). k < length xs) c.resources-resources.ensures c.loop-k-test.true in
    let there : Fails r c.args.cells.now c.args.low c.args.x (rises r c.args.item c.args.x) (slice_index row k) = record {
      inside = c.requires.row.touched.inside k lt;
      full =
          ap (λ n. all_below c.args.x (cell_holds r c.args.cells.now c.args.low (slice_index row k) n)) (sym c.rise-amount.ensures)
          ∙ ap (λ (xs : List ℕ). all_below c.args.x (cell_holds r c.args.cells.now c.args.low (slice_index xs k) c.rise-amount.result)) (sym c.resources-resources.ensures)
          ∙ sym c.holds.ensures ∙ c.if-not-holds.true;
    } in
    subst (λ (xs : List ℕ). Fails r c.args.cells.now c.args.low c.args.x (rises r c.args.item c.args.x) (slice_index xs k)) (sym c.resources-resources.ensures) there
