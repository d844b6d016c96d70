use Rattle.std.proofs.Common.{ap₂, sym, subst}
use Rattle.rollout_rules.specs.Wan.{Problem, Plan}
use Rattle.text_writer.proofs.Pushing.{said_so, both}
use Rattle.problem_json.specs.WritingLeast.{claimed_text}
use Rattle.wan_text.specs.Named.{AreNamesOf}
use Rattle.text_commands.proofs.shown.push_shown.Goals as goal

pub push_claimed-requires : goal.push_claimed-requires
push_claimed-requires g c = subst (λ (q : Problem). AreNamesOf c.args.names.now q) (sym c.problem.ensures) c.requires.names

pub returns : goal.returns
returns g c =
    both g.P.Pieces.pushes g.met.P.Pieces.pushed_further
    (said_so g.P.Pieces.pushes (ap₂ (λ (q : Problem) (w : Plan). claimed_text q w c.args.shown.now.claim) c.problem.ensures c.plan.ensures.part) (c.push_claimed.ensures.text c.args.shown.now.claim c.requires.said))
    c.push_str.ensures
