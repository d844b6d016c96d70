use Rattle.rollout_rules.specs.Items.{the_link}
use Rattle.plan_texts.specs.Loads.{load_lines}
use Rattle.plan_texts.proofs.load_lines.push_links.Given as goal

abbrev pub invariant-loop-link : goal.invariant-loop-link
invariant-loop-link g l = g.P.Pieces.pushes l.fn.text (load_lines l.problem l.plan the_link l.link) l.text
