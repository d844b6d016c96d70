use Rattle.std.proofs.Common.{◌≡◌, ◌<◌, ◌∙◌, length, slice_index, sym, ap, subst, arith}
use Rattle.rollout_rules.specs.Wan.{tunnel_at, tunnel_of}
use Rattle.dependency_graph.proofs.Gathered.{gathered-step, gathered-next}
use Rattle.dependency_graph.proofs.flow_row.gather_tunnel.Goals as goal

pub gather_link-requires : goal.gather_link-requires
gather_link-requires c =
    let p = c.args.plan.now.problem in
    let k = c.loop-k.k in
    let low = (c.links_of-along.ensures.network.tunnels c.tunnel_of-t.result c.tunnel_of-t.ensures.inside).path.links k (subst (λ row. k < length row) c.links_of-along.ensures.list c.loop-k-test.true) in
    let low' : slice_index c.links_of-along.result.now k < length p.links = subst (λ row. slice_index row k < length p.links) (sym c.links_of-along.ensures.list) low in
    omega (arith, low', c.loop-k.invariant.count)

pub loop-k-preserved : goal.loop-k-preserved
loop-k-preserved c =
    let p = c.args.plan.now.problem in
    let k = c.loop-k.k in
    let t = c.tunnel_of-t.result in
    let l = slice_index c.links_of-along.result.now k in
    let at : l ≡ slice_index (tunnel_at p (tunnel_of p c.args.f c.args.j)).links k = ap (λ row. slice_index row k) (c.links_of-along.ensures.list ∙ ap (λ n. (tunnel_at p n).links) c.tunnel_of-t.ensures.value) in
    let low = (c.links_of-along.ensures.network.tunnels t c.tunnel_of-t.ensures.inside).path.links k (subst (λ row. k < length row) c.links_of-along.ensures.list c.loop-k-test.true) in
    let low' : l < length p.links = subst (λ row. slice_index row k < length p.links) (sym c.links_of-along.ensures.list) low in
    gathered-step p c.args.f c.args.j k t l c.loop-k.links c.loop-k.scratch.items c.tunnel_of-t.ensures.value c.tunnel_of-t.ensures.inside at low' c.loop-k.invariant c.gather_link.new.links c.gather_link.new.scratch.items c.in_ok-gather_link.ensures.links c.in_ok-gather_link.ensures.scratch

pub returns : goal.returns
returns c =
    let p = c.args.plan.now.problem in
    let all : c.loop-k.k ≡ length (tunnel_at p (tunnel_of p c.args.f c.args.j)).links =
    omega (arith, c.loop-k-test.false, c.loop-k.auto.k-end, ap length (c.links_of-along.ensures.list ∙ ap (λ n. (tunnel_at p n).links) c.tunnel_of-t.ensures.value)) in
    gathered-next p c.args.f c.args.j c.loop-k.k c.loop-k.links c.loop-k.scratch.items c.links_of-along.ensures.network (subst (λ u. u < length p.tunnels) c.tunnel_of-t.ensures.value c.tunnel_of-t.ensures.inside) all c.loop-k.invariant
