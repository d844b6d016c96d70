use Rattle.std.proofs.Common.{ℕ, ◌++◌, Option, sym, ap, ◌∙◌}
use Rattle.std.proofs.lemmas.Result.{on_ok_weaker}
use Rattle.held_service.specs.HeldText.{line_if}
use Rattle.held_service.proofs.Lined.{nothing-more}
use Rattle.held_service.proofs.held_lines.push_line_if.Goals as goal

pub returns-in-Some : goal.returns-in-Some
returns-in-Some c =
    on_ok_weaker c.push_line_of.result (λ e. e ∙ ap (λ (home : Option ℕ). c.args.text.now ++ line_if c.args.problem.now c.args.number home c.args.held c.args.count) (sym c.in-Some.is)) c.push_line_of.ensures

pub returns-in-None : goal.returns-in-None
returns-in-None c = nothing-more c.args.text.now ∙ ap (λ (home : Option ℕ). c.args.text.now ++ line_if c.args.problem.now c.args.number home c.args.held c.args.count) (sym c.in-None.is)
