use Rattle.rollout_rules.specs.Items.{the_table}
use Rattle.plan_texts.specs.Loads.{load_lines}
use Rattle.plan_texts.proofs.load_lines.push_tables.Given as goal

abbrev pub invariant-loop-switch : goal.invariant-loop-switch
invariant-loop-switch g l = g.P.Pieces.pushes l.fn.text (load_lines l.problem l.plan the_table l.switch) l.text
