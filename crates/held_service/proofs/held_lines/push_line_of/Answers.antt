use Rattle.std.proofs.Common.{◌++◌, Option, sym, ap, ◌∙◌}
use Rattle.std.proofs.lemmas.Result.{on_ok_weaker}
use Rattle.rollout_rules.specs.declared.held.Held.{Held}
use Rattle.held_service.specs.HeldText.{line_by}
use Rattle.held_service.proofs.Lined.{nothing-more}
use Rattle.held_service.proofs.held_lines.push_line_of.Goals as goal

pub returns-in-Some : goal.returns-in-Some
returns-in-Some c =
    on_ok_weaker c.push_line.result (λ e. e ∙ ap (λ (held : Option Held). c.args.text.now ++ line_by c.args.problem.now c.args.number c.args.switch held c.args.count) (sym c.in-Some.is)) c.push_line.ensures

pub returns-in-None : goal.returns-in-None
returns-in-None c = nothing-more c.args.text.now ∙ ap (λ (held : Option Held). c.args.text.now ++ line_by c.args.problem.now c.args.number c.args.switch held c.args.count) (sym c.in-None.is)
