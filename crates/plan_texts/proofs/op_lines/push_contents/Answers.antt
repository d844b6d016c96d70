use Rattle.std.proofs.Common.{◌≡◌, ap, ◌∙◌, arith}
use Rattle.rollout_rules.specs.Sums.{list_below}
use Rattle.rollout_rules.specs.Wan.{flow_at, rate_at, tunnel_of}
use Rattle.text_writer.proofs.Pushing.{at_value, said_so}
use Rattle.plan_texts.specs.Explain.{rate_text, contents_text}
use Rattle.plan_texts.proofs.Pushes.{row-pushed}
use Rattle.plan_texts.proofs.op_lines.push_contents.Goals as goal

pub loop-j-init : goal.loop-j-init
loop-j-init g c = g.met.P.Pieces.nothing_pushed c.args.text.now

pub loop-j-preserved : goal.loop-j-preserved
loop-j-preserved g c =
    let r = c.args.plan.now in
    row-pushed g.P.Pieces.pushes g.met.P.Pieces.pushed_further rate_text (λ j. rate_at r.plan c.args.s (tunnel_of r.problem c.args.flow j)) c.loop-j.j c.loop-j.invariant
    (at_value g.P.Pieces.pushes rate_text (c.rate-rate.ensures ∙ ap (rate_at r.plan c.args.s) c.tunnel_of.ensures.value) c.push_rate.ensures)

pub returns : goal.returns
returns g c =
    let r = c.args.plan.now in
    let all : c.loop-j.j ≡ (flow_at r.problem c.args.flow).tunnels = grind arith in
    said_so g.P.Pieces.pushes (ap (λ n. contents_text (list_below n (λ j. rate_at r.plan c.args.s (tunnel_of r.problem c.args.flow j)))) all) c.loop-j.invariant
