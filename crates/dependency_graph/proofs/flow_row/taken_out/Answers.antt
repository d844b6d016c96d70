use Rattle.std.proofs.Common.{◌≡◌, ◌+◌, ◌<◌, ◌≤◌, [], length, slice_index, slice_index_or, sym, ap, subst, arith}
use Rattle.rollout_rules.specs.Wan.{flow_at}
use Rattle.rollout_rules.specs.declared.item.Item.TheVariants as item
use Rattle.dependency_graph.specs.Touched.{AreCrossingsOf, ItemRow, IsItemRow}
use Rattle.dependency_graph.proofs.FlowCrossings.{crossings-first, crossings-next, crossings-row}
use Rattle.dependency_graph.proofs.Gathered.{gathered-touched, taken-start, taken-row, taken-step, taken-all}
use Rattle.dependency_graph.proofs.flow_row.taken_out.Goals as goal

pub loop-k-init : goal.loop-k-init
loop-k-init c =
    let p = c.args.plan.now.problem in
    record {
      row = crossings-first p c.args.f c.args.links c.new-tunnels.result c.new-bounds.result c.push.new.self c.new-tunnels.ensures c.new-bounds.ensures c.in_ok-push.ensures.ok;
      scratch = taken-start p c.args.f (flow_at p c.args.f).tunnels 0 c.args.links c.args.scratch.now.items c.requires;
    }

pub take_out-requires : goal.take_out-requires
take_out-requires c =
    let p = c.args.plan.now.problem in
    let k = c.loop-k.k in
    let lt : k < length c.args.links = omega (arith, c.loop-k-test.true, ap length c.as_slice-k-end.ensures) in
    omega (arith, c.requires.inside k lt, ap (λ xs. slice_index xs k) c.as_slice.ensures, c.loop-k.invariant.scratch.count)

pub loop-k-preserved : goal.loop-k-preserved
loop-k-preserved c =
    let p = c.args.plan.now.problem in
    let k = c.loop-k.k in
    let l = slice_index c.as_slice.result.now k in
    let rows = c.loop-k.scratch.items in
    let gathered = c.args.scratch.now.items in
    let later = c.take_out.new.tunnels in
    let end = length c.as_slice-in-loop-k.result.now in
    let lt : k < length c.args.links = omega (arith, c.loop-k-test.true, ap length c.as_slice-k-end.ensures) in
    let at : l ≡ slice_index c.args.links k = ap (λ xs. slice_index xs k) c.as_slice.ensures in
    let low : l < length p.links = omega (arith, c.requires.inside k lt, at) in
    let here = taken-row p c.args.f k l c.args.links gathered rows lt at c.requires c.loop-k.invariant.scratch in
    record {
      row = subst (λ bs. AreCrossingsOf p c.args.f (k + 1) (record { resources = c.args.links; tunnels = later; bounds = bs })) (sym c.in_ok-push-2.ensures.ok)
          (crossings-next p c.args.f k l end c.args.links c.loop-k.tunnels (slice_index_or rows l []) later c.loop-k.bounds at c.in_ok-take_out.ensures.tunnels (ap length c.as_slice-in-loop-k.ensures) here c.loop-k.invariant.row);
      scratch = taken-step p k l c.args.links gathered rows c.take_out.new.scratch.items c.requires.once lt at low c.in_ok-take_out.ensures.scratch c.loop-k.invariant.scratch;
    }

pub new-requires : goal.new-requires
new-requires c = c.loop-k.invariant.row.bounds

pub returns-clause-row : goal.returns-clause-row
returns-clause-row c =
    let p = c.args.plan.now.problem in
    let all : length c.args.links ≤ c.loop-k.k = omega (arith, c.loop-k-test.false, ap length c.as_slice-k-end.ensures) in
    subst (λ (row : ItemRow). IsItemRow p (item.Flow c.args.f) row) (sym c.new.ensures)
    (crossings-row p c.args.f c.loop-k.k _ all c.requires.inside (gathered-touched p c.args.f c.args.links c.args.scratch.now.items c.requires) c.loop-k.invariant.row)

pub returns-clause-scratch : goal.returns-clause-scratch
returns-clause-scratch c =
    let all : length c.args.links ≤ c.loop-k.k = omega (arith, c.loop-k-test.false, ap length c.as_slice-k-end.ensures) in
    taken-all c.args.plan.now.problem c.loop-k.k c.args.links c.args.scratch.now.items c.loop-k.scratch.items all c.loop-k.invariant.scratch
