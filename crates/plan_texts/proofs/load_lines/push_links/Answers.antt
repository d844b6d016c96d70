use Rattle.std.proofs.Common.{◌≡◌, length, ap, arith}
use Rattle.rollout_rules.specs.Items.{the_link}
use Rattle.text_writer.proofs.Pushing.{said_so}
use Rattle.plan_texts.specs.Loads.{load_lines}
use Rattle.plan_texts.proofs.Pushes.{line-pushed}
use Rattle.plan_texts.proofs.load_lines.push_links.Goals as goal

pub loop-link-init : goal.loop-link-init
loop-link-init g c = g.met.P.Pieces.nothing_pushed c.args.text.now

pub loop-link-preserved : goal.loop-link-preserved
loop-link-preserved g c = line-pushed g.P.Pieces.pushes g.met.P.Pieces.pushed_further c.args.problem.now c.args.plan.now the_link c.loop-link.link c.loop-link.invariant c.push_link_line.ensures

pub returns : goal.returns
returns g c =
    let all : c.loop-link.link ≡ length c.args.problem.now.links = grind arith in
    said_so g.P.Pieces.pushes (ap (λ n. load_lines c.args.problem.now c.args.plan.now the_link n) all) c.loop-link.invariant
