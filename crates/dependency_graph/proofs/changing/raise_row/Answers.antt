use Rattle.std.proofs.Common.{◌≡◌, ℕ, ◌+◌, ◌*◌, ◌<◌, ◌^◌, List, length, slice_index, sym, ap, subst, arith}
use Rattle.rollout_rules.specs.Wan.{last_stage}
use Rattle.dependency_graph.specs.Cells.{cell, among, rises, AreRaised, resource_count}
use Rattle.dependency_graph.proofs.RowSteps.{row-ahead, row-all, rises-none, cells-inside}
use Rattle.dependency_graph.proofs.changing.raise_row.Goals as goal

pub raise-requires-clause-inside : goal.raise-requires-clause-inside
raise-requires-clause-inside c = λ s low before.
    let r = c.args.plan.now in
    let k = c.loop-k.k in
    let q = slice_index c.args.row.now.resources k in
    let lt : k < length c.args.row.now.resources = subst (λ (xs : List ℕ). k < length xs) c.resources-resources.ensures c.loop-k-test.true in
    let inside = cells-inside r c.args.cells.now c.requires.cells q s (c.requires.row.touched.inside k lt) (omega (arith, before, c.requires.stage)) in
    subst (λ (xs : List ℕ). slice_index xs k * c.loop-k.cells.stages + s < length c.loop-k.cells.cells) (sym c.resources-resources.ensures)
    (omega (arith, inside, c.loop-k.invariant.all, ap (λ n. q * n) c.loop-k.invariant.stages))

pub raise-requires-clause-fits : goal.raise-requires-clause-fits
raise-requires-clause-fits c = λ s low before.
    let r = c.args.plan.now in
    let row = c.args.row.now.resources in
    let k = c.loop-k.k in
    let q = slice_index row k in
    let lt : k < length row = subst (λ (xs : List ℕ). k < length xs) c.resources-resources.ensures c.loop-k-test.true in
    let within = c.requires.row.touched.inside k lt in
    let last : s < last_stage r.plan = omega (arith, before, c.requires.stage) in
    let inside = cells-inside r c.args.cells.now c.requires.cells q s within last in
    let same = row-ahead c.args.low c.args.x row (rises r c.args.item c.args.x) k c.args.cells.now c.loop-k.cells c.requires.row.touched.once lt c.loop-k.invariant s (omega (arith, last, c.requires.cells.stages)) inside in
    subst (λ (xs : List ℕ). cell c.loop-k.cells (slice_index xs k) s + c.rise-amount.result < 2 ^ 64) (sym c.resources-resources.ensures)
    (omega (arith, same, c.rise-amount.ensures, c.requires.fits q s within low before))

pub returns : goal.returns
returns c =
    let r = c.args.plan.now in
    let row = c.args.row.now.resources in
    let amount = rises r c.args.item c.args.x in
    let end : c.loop-k.k ≡ length row = omega (arith, c.loop-k-test.false, c.loop-k.auto.k-end, ap length c.resources-resources.ensures) in
    let all : length c.args.cells.now.cells ≡ resource_count r.problem * c.args.cells.now.stages = omega (arith, c.requires.cells.all, ap (λ n. resource_count r.problem * n) c.requires.cells.stages) in
    row-all c.args.low c.args.x row amount (resource_count r.problem) c.args.cells.now c.loop-k.cells c.requires.row.touched.once (rises-none r c.args.item c.args.x row c.requires.row.touched) all
    (subst (λ n. AreRaised c.args.low c.args.x (among row amount n) c.args.cells.now c.loop-k.cells) end c.loop-k.invariant)
