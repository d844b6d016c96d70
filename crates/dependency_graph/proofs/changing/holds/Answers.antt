use Rattle.std.proofs.Common.{◌≡◌, ◌+◌, ◌∙◌, false, ◌||◌, nat_le, nat_lt, sym, ap, arith, lt-ltb, le-ltb}
use Rattle.std.proofs.lemmas.Bool.{or_left, lt-leb}
use Rattle.rollout_rules.specs.Items.{capacity_of}
use Rattle.rollout_rules.proofs.Below.{all_below-from, all_below_stops}
use Rattle.dependency_graph.specs.Cells.{cell, resource_at, cell_holds}
use Rattle.dependency_graph.proofs.RowSteps.{cells-inside}
use Rattle.dependency_graph.proofs.changing.holds.Goals as goal

pub loop-stage-init : goal.loop-stage-init
loop-stage-init c =
    let r = c.args.plan.now in
    let test = cell_holds r c.args.cells.now c.args.low c.args.resource c.args.amount in
    all_below-from c.args.low test (λ s before. or_left (nat_lt s c.args.low) (nat_le (cell c.args.cells.now c.args.resource s + c.args.amount) (capacity_of r.problem r.plan (resource_at r.problem c.args.resource))) (lt-ltb s c.args.low before))

pub cell-requires : goal.cell-requires
cell-requires c = cells-inside c.args.plan.now c.args.cells.now c.requires.cells c.args.resource c.loop-stage.stage c.requires.resource (omega (arith, c.loop-stage-test.true, c.requires.stages))

pub returns-then-from-capacity : goal.returns-then-from-capacity
returns-then-from-capacity c =
    let r = c.args.plan.now in
    let s = c.loop-stage.stage in
    let test = cell_holds r c.args.cells.now c.args.low c.args.resource c.args.amount in
    let within = nat_le (cell c.args.cells.now c.args.resource s + c.args.amount) (capacity_of r.problem r.plan (resource_at r.problem c.args.resource)) in
    let near : nat_lt s c.args.low ≡ false = le-ltb s c.args.low c.loop-stage.auto.stage in
    let over : within ≡ false = lt-leb (cell c.args.cells.now c.args.resource s + c.args.amount) (capacity_of r.problem r.plan (resource_at r.problem c.args.resource))
    (omega (arith, c.if-from-capacity.true, c.capacity-capacity.ensures, c.cell.ensures, c.from.ensures, c.from-in-loop-stage.ensures)) in
    sym (all_below_stops test c.args.high s c.loop-stage-test.true (ap (λ b. b || within) near ∙ over))
