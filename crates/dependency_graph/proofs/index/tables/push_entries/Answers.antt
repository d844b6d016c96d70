use Rattle.std.proofs.Common.{◌≡◌, ◌+◌, ◌<◌, length, get_or, refl, ap, arith}
use Rattle.rollout_rules.specs.Wan.{hops, switch_of}
use Rattle.rollout_rules.specs.Items.{number_of}
use Rattle.rollout_rules.specs.declared.item.Item.TheVariants as item
use Rattle.dependency_graph.specs.declared.index.table_place.TablePlace.{TablePlace}
use Rattle.dependency_graph.proofs.Growing.{number_of-few}
use Rattle.dependency_graph.proofs.Passes.{tables-place, tables-next}
use Rattle.dependency_graph.proofs.index.tables.push_entries.Goals as goal

pub overflow_add-place : goal.overflow_add-place
overflow_add-place c =
    let p = c.args.plan.now.problem in
    let low : c.loop-hop.hop < hops p c.args.t = omega (arith, ap length c.path-path.ensures.list, c.loop-hop-test.true) in
    omega (arith, c.requires.number, number_of-few p c.args.t c.loop-hop.hop c.path-path.ensures.network c.requires.tunnel low)

pub push_at-requires : goal.push_at-requires
push_at-requires c =
    let p = c.args.plan.now.problem in
    let h = c.loop-hop.hop in
    let low : h < hops p c.args.t = omega (arith, ap length c.path-path.ensures.list, c.loop-hop-test.true) in
    let inside = (c.path-path.ensures.network.tunnels c.args.t c.requires.tunnel).path.switches h low in
    omega (arith, inside, ap (λ xs. get_or xs h 0) c.path-path.ensures.list, c.loop-hop.invariant.count)

pub loop-hop-preserved : goal.loop-hop-preserved
loop-hop-preserved c =
    let p = c.args.plan.now.problem in
    let t = c.args.t in
    let h = c.loop-hop.hop in
    let w = get_or c.path-path.result.now h 0 in
    let low : h < hops p t = omega (arith, ap length c.path-path.ensures.list, c.loop-hop-test.true) in
    let at : w ≡ switch_of p t h = ap (λ xs. get_or xs h 0) c.path-path.ensures.list in
    let inside : w < length p.switches = omega (arith, at, (c.path-path.ensures.network.tunnels t c.requires.tunnel).path.switches h low) in
    let x : TablePlace = record { tunnel = t; item = c.args.first_entry + h } in
    let number : c.args.first_entry + h ≡ number_of p (item.Entry t h) = omega (arith, c.requires.number) in
    tables-place p t h w c.loop-hop.rows.items c.push_at.new.rows.items x c.requires.tunnel low at inside refl number c.in_ok-push_at.ensures c.loop-hop.invariant

pub returns : goal.returns
returns c =
    let p = c.args.plan.now.problem in
    let all : c.loop-hop.hop ≡ hops p c.args.t = omega (arith, c.loop-hop-test.false, c.loop-hop.auto.hop-end, ap length c.path-path.ensures.list) in
    tables-next p c.args.t c.loop-hop.hop c.loop-hop.rows.items all c.loop-hop.invariant
