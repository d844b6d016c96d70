use Rattle.std.proofs.Common.{◌≡◌, ℕ, ◌+◌, ◌*◌, ◌<◌, ◌≤◌, List, length, slice_index, sym, ap, subst, arith}
use Rattle.rollout_rules.specs.Wan.{last_stage}
use Rattle.dependency_graph.specs.Cells.{cell, among, falls, AreRaised, resource_count}
use Rattle.dependency_graph.proofs.RowSteps.{row-ahead, row-all, falls-none, cells-inside}
use Rattle.dependency_graph.proofs.changing.lower_row.Goals as goal

pub overflow_add-x : goal.overflow_add-x
overflow_add-x c = omega (arith, c.requires.stage, c.last_stage.ensures.value, c.last_stage.ensures.few)

pub lower-requires-clause-inside : goal.lower-requires-clause-inside
lower-requires-clause-inside c = λ s low before.
    let r = c.args.plan.now in
    let k = c.loop-k.k in
    let q = slice_index c.args.row.now.resources k in
    let lt : k < length c.args.row.now.resources = subst (λ (xs : List ℕ). k < length xs) c.resources-resources.ensures c.loop-k-test.true in
    let inside = cells-inside r c.args.cells.now c.requires.cells q s (c.requires.row.touched.inside k lt) (omega (arith, before, c.requires.stage)) in
    subst (λ (xs : List ℕ). slice_index xs k * c.loop-k.cells.stages + s < length c.loop-k.cells.cells) (sym c.resources-resources.ensures)
    (omega (arith, inside, c.loop-k.invariant.all, ap (λ n. q * n) c.loop-k.invariant.stages))

pub lower-requires-clause-enough : goal.lower-requires-clause-enough
lower-requires-clause-enough c = λ s low before.
    let r = c.args.plan.now in
    let row = c.args.row.now.resources in
    let k = c.loop-k.k in
    let q = slice_index row k in
    let lt : k < length row = subst (λ (xs : List ℕ). k < length xs) c.resources-resources.ensures c.loop-k-test.true in
    let within = c.requires.row.touched.inside k lt in
    let last : s < last_stage r.plan = omega (arith, before, c.requires.stage) in
    let inside : q * c.loop-k.cells.stages + s < length c.loop-k.cells.cells =
    omega (arith, cells-inside r c.args.cells.now c.requires.cells q s within last, c.loop-k.invariant.all, ap (λ n. q * n) c.loop-k.invariant.stages) in
    let same = row-ahead c.args.low (c.args.x + 1) row (falls r c.args.item c.args.x) k c.loop-k.cells c.args.cells.now c.requires.row.touched.once lt c.loop-k.invariant s (omega (arith, last, c.requires.cells.stages, c.loop-k.invariant.stages)) inside in
    let here : q * c.loop-k.cells.stages + s ≡ q * c.args.cells.now.stages + s = ap (λ n. q * n + s) (sym c.loop-k.invariant.stages) in
    subst (λ (xs : List ℕ). c.fall-amount.result ≤ cell c.loop-k.cells (slice_index xs k) s) (sym c.resources-resources.ensures)
    (omega (arith, same, c.fall-amount.ensures, c.requires.there q s within low before))

pub returns : goal.returns
returns c =
    let r = c.args.plan.now in
    let row = c.args.row.now.resources in
    let amount = falls r c.args.item c.args.x in
    let end : c.loop-k.k ≡ length row = omega (arith, c.loop-k-test.false, c.loop-k.auto.k-end, ap length c.resources-resources.ensures) in
    let all : length c.loop-k.cells.cells ≡ resource_count r.problem * c.loop-k.cells.stages =
    omega (arith, c.requires.cells.all, c.loop-k.invariant.all, ap (λ n. resource_count r.problem * n) c.requires.cells.stages, ap (λ n. resource_count r.problem * n) c.loop-k.invariant.stages) in
    row-all c.args.low (c.args.x + 1) row amount (resource_count r.problem) c.loop-k.cells c.args.cells.now c.requires.row.touched.once (falls-none r c.args.item c.args.x row c.requires.row.touched) all
    (subst (λ n. AreRaised c.args.low (c.args.x + 1) (among row amount n) c.loop-k.cells c.args.cells.now) end c.loop-k.invariant)
