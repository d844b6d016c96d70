use Rattle.std.proofs.Common.{◌≡◌, ◌<◌, length, slice_index, sym, ap, subst, arith}
use Rattle.rollout_rules.specs.Wan.{tunnel_at}
use Rattle.dependency_graph.proofs.Passes.{passes-link, passes-next}
use Rattle.dependency_graph.proofs.index.links.push_tunnel.Goals as goal

pub push_at-requires : goal.push_at-requires
push_at-requires c =
    let p = c.args.plan.now.problem in
    let k = c.loop-k.k in
    let low = (c.links_of-links.ensures.network.tunnels c.args.t c.requires.tunnel).path.links k (subst (λ row. k < length row) c.links_of-links.ensures.list c.loop-k-test.true) in
    let low' : slice_index c.links_of-links.result.now k < length p.links = subst (λ row. slice_index row k < length p.links) (sym c.links_of-links.ensures.list) low in
    omega (arith, low', c.loop-k.invariant.count)

pub loop-k-preserved : goal.loop-k-preserved
loop-k-preserved c =
    let p = c.args.plan.now.problem in
    let k = c.loop-k.k in
    let l = slice_index c.links_of-links.result.now k in
    let at : l ≡ slice_index (tunnel_at p c.args.t).links k = ap (λ row. slice_index row k) c.links_of-links.ensures.list in
    let low = (c.links_of-links.ensures.network.tunnels c.args.t c.requires.tunnel).path.links k (subst (λ row. k < length row) c.links_of-links.ensures.list c.loop-k-test.true) in
    let low' : l < length p.links = subst (λ row. slice_index row k < length p.links) (sym c.links_of-links.ensures.list) low in
    passes-link p c.args.t k l c.loop-k.rows.items c.push_at.new.rows.items c.requires.tunnel at low' c.in_ok-push_at.ensures c.loop-k.invariant

pub returns : goal.returns
returns c =
    let p = c.args.plan.now.problem in
    let all : c.loop-k.k ≡ length (tunnel_at p c.args.t).links = omega (arith, c.loop-k-test.false, c.loop-k.auto.k-end, ap length c.links_of-links.ensures.list) in
    passes-next p c.args.t c.loop-k.k c.loop-k.rows.items c.links_of-links.ensures.network c.requires.tunnel all c.loop-k.invariant
