use Rattle.std.proofs.Common.{rules, ◌≡◌, ℕ, ◌<◌, max, List, length, slice_index, ap, ap₂, ◌∙◌, arith}
use Rattle.wan_model.specs.declared.side.Side.TheVariants.{Old, New}
use Rattle.case_gen.specs.Cases.{capacity_for, least_capacity}
use Rattle.case_gen.proofs.Counted.{capacities_within, capacity_more, is_capacity, loads_small, within_more}
use Rattle.case_gen.proofs.needs.capacities_for.Goals as goal

-- the greater of two loads that were read of these lists
of_both : (load l : ℕ) (a b old new : List ℕ) → load ≡ max (slice_index a l) (slice_index b l) → a ≡ old → b ≡ new → load ≡ max (slice_index old l) (slice_index new l)
of_both load l a b old new read first second = read ∙ ap₂ (λ (x y : List ℕ). max (slice_index x l) (slice_index y l)) first second

pub least_capacity-requires-clause-small : goal.least_capacity-requires-clause-small
least_capacity-requires-clause-small c =
    let p = c.args.problem.now in
    let inside : c.loop-l.l < length p.links = omega (arith, ap length c.links-l-end.ensures.list) in
    let are = c.in_ok-loads.ensures.loads in
    let was = loads_small Old p c.in_ok-loads.loads.old c.of.ensures.network c.requires.rates are.old c.loop-l.l (omega (arith, are.old.count)) in
    let becomes = loads_small New p c.in_ok-loads.loads.new c.of.ensures.network c.requires.rates are.new c.loop-l.l (omega (arith, are.new.count)) in
    let read : c.max-load.result ≡ max (slice_index c.as_slice-old.result.now c.loop-l.l) (slice_index c.as_slice-new.result.now c.loop-l.l) = search rules in
    let greater = of_both c.max-load.result c.loop-l.l c.as_slice-old.result.now c.as_slice-new.result.now c.in_ok-loads.loads.old c.in_ok-loads.loads.new read c.as_slice-old.ensures c.as_slice-new.ensures in
    omega (arith, greater, was, becomes)

pub loop-l-preserved : goal.loop-l-preserved
loop-l-preserved c =
    let p = c.args.problem.now in
    let inside : c.loop-l.l < length p.links = omega (arith, ap length c.links-l-end.ensures.list) in
    let are = c.in_ok-loads.ensures.loads in
    let read : c.max-load.result ≡ max (slice_index c.as_slice-old.result.now c.loop-l.l) (slice_index c.as_slice-new.result.now c.loop-l.l) = search rules in
    let greater = of_both c.max-load.result c.loop-l.l c.as_slice-old.result.now c.as_slice-new.result.now c.in_ok-loads.loads.old c.in_ok-loads.loads.new read c.as_slice-old.ensures c.as_slice-new.ensures in
    let least : c.least_capacity.result ≡ least_capacity c.args.k c.max-load.result = c.least_capacity.ensures.value ∙ ap (λ k. least_capacity k c.max-load.result) c.from.ensures in
    let is : c.least_capacity.result ≡ capacity_for c.args.k p c.loop-l.l =
    is_capacity c.args.k c.loop-l.l c.max-load.result c.least_capacity.result p c.in_ok-loads.loads.old c.in_ok-loads.loads.new are.old are.new inside greater least in (
      c.in_ok-push.ensures.ok ∙ capacity_more c.args.k c.loop-l.l c.least_capacity.result p c.loop-l.capacities c.loop-l.invariant.0 is,
      within_more c.args.k c.loop-l.l c.least_capacity.result p c.loop-l.invariant.1 is c.least_capacity.ensures.within,
    )

pub returns-clause-within : goal.returns-clause-within
returns-clause-within c = capacities_within c.args.k c.loop-l.l c.args.problem.now c.loop-l.capacities c.loop-l.invariant.0 c.loop-l.invariant.1
