use Rattle.std.proofs.Common.{◌≡◌, ◌+◌, ap, arith}
use Rattle.std.specs.List.{flat_map}
use Rattle.rollout_rules.specs.Sums.{list_below}
use Rattle.rollout_rules.specs.Wan.{flow_at, tunnel_of}
use Rattle.text_writer.proofs.Pushing.{at_value, said_so}
use Rattle.plan_texts.specs.Explain.{need_text, needs_text}
use Rattle.plan_texts.specs.Needs.{carrier_needs}
use Rattle.plan_texts.proofs.Pushes.{rows-pushed}
use Rattle.plan_texts.proofs.need_texts.push_carriers.Goals as goal

pub loop-j-init : goal.loop-j-init
loop-j-init g c = g.met.P.Pieces.nothing_pushed c.args.text.now

pub loop-j-preserved : goal.loop-j-preserved
loop-j-preserved g c =
    let p = c.args.plan.now.problem in
    let needed = carrier_needs p c.args.plan.now.plan (c.args.s + 1) in
    rows-pushed g.P.Pieces.pushes g.met.P.Pieces.pushed_further (need_text p) needed (tunnel_of p c.args.flow) c.loop-j.j c.loop-j.invariant
    (at_value g.P.Pieces.pushes (λ t. needs_text p (needed t)) c.tunnel_of-tunnel.ensures.value c.push_carrier.ensures)

pub returns : goal.returns
returns g c =
    let p = c.args.plan.now.problem in
    let needed = carrier_needs p c.args.plan.now.plan (c.args.s + 1) in
    let all : c.loop-j.j ≡ (flow_at p c.args.flow).tunnels = grind arith in
    said_so g.P.Pieces.pushes (ap (λ n. needs_text p (flat_map needed (list_below n (tunnel_of p c.args.flow)))) all) c.loop-j.invariant
