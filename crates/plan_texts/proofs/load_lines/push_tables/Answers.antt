use Rattle.std.proofs.Common.{◌≡◌, length, ap, arith}
use Rattle.rollout_rules.specs.Items.{the_table}
use Rattle.text_writer.proofs.Pushing.{said_so}
use Rattle.plan_texts.specs.Loads.{load_lines}
use Rattle.plan_texts.proofs.Pushes.{line-pushed}
use Rattle.plan_texts.proofs.load_lines.push_tables.Goals as goal

pub loop-switch-init : goal.loop-switch-init
loop-switch-init g c = g.met.P.Pieces.nothing_pushed c.args.text.now

pub loop-switch-preserved : goal.loop-switch-preserved
loop-switch-preserved g c = line-pushed g.P.Pieces.pushes g.met.P.Pieces.pushed_further c.args.problem.now c.args.plan.now the_table c.loop-switch.switch c.loop-switch.invariant c.push_table_line.ensures

pub returns : goal.returns
returns g c =
    let all : c.loop-switch.switch ≡ length c.args.problem.now.switches = grind arith in
    said_so g.P.Pieces.pushes (ap (λ n. load_lines c.args.problem.now c.args.plan.now the_table n) all) c.loop-switch.invariant
