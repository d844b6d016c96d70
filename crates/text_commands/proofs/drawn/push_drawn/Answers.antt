use Rattle.std.proofs.Common.{subst, sym}
use Rattle.rollout_rules.specs.Wan.{Problem}
use Rattle.text_writer.proofs.Pushing.{said_so, both}
use Rattle.wan_text.specs.Named.{AreNamesOf}
use Rattle.text_commands.proofs.Drawing.{read-back, same-text}
use Rattle.text_commands.proofs.drawn.push_drawn.Goals as goal

pub push_scripted-requires : goal.push_scripted-requires
push_scripted-requires g c = subst (λ (q : Problem). AreNamesOf c.args.names.now q) (sym c.problem.ensures) c.requires

pub returns-clause-text : goal.returns-clause-text
returns-clause-text g c =
    both g.P.Pieces.pushes g.met.P.Pieces.pushed_further
    (said_so g.P.Pieces.pushes (same-text c.args.drawn.now _ _ _ c.problem.ensures c.plan.ensures.part c.as_slice-script.ensures) c.push_scripted.ensures.text)
    c.push_str.ensures

pub returns-clause-read : goal.returns-clause-read
returns-clause-read g c = read-back c.args.drawn.now _ _ _ c.problem.ensures c.plan.ensures.part c.as_slice-script.ensures c.push_scripted.ensures.reads
