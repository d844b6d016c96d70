use Rattle.std.proofs.Common.{◌≡◌, ◌++◌, append_assoc, ap, ◌∙◌}
use Rattle.std.proofs.lemmas.Result.{on_ok_weaker}
use Rattle.held_service.specs.HeldText.{last_line}
use Rattle.held_service.proofs.held_lines.push_last.Goals as goal

pub returns : goal.returns
returns c =
    let line : c.deref.result.now ≡ last_line c.args.count c.args.migration = simp append_assoc (c.deref.ensures ∙ c.in_ok-part.ensures.ok) in
    on_ok_weaker c.push_str.result (λ e. e ∙ ap (λ l. c.args.text.now ++ l) line) c.push_str.ensures.ok
