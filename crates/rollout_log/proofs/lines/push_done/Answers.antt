use Rattle.std.proofs.Common.{◌≡◌, ◌++◌, append_assoc, ap, ◌∙◌}
use Rattle.std.proofs.lemmas.Result.{on_ok_weaker}
use Rattle.rollout_log.specs.Lines.{done_line}
use Rattle.rollout_log.proofs.lines.push_done.Goals as goal

pub returns : goal.returns
returns c =
    let line : c.deref.result.now ≡ done_line c.args.ms c.args.item c.args.number = simp append_assoc (c.deref.ensures ∙ c.in_ok-part.ensures.ok) in
    on_ok_weaker c.push_str.result (λ e. e ∙ ap (λ l. c.args.text.now ++ l) line) c.push_str.ensures.ok
