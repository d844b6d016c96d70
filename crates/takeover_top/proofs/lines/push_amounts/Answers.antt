use Rattle.std.proofs.Common.{◌++◌, append_assoc, ap, ◌∙◌}
use Rattle.std.proofs.lemmas.Result.{on_ok_weaker}
use Rattle.takeover_top.proofs.lines.push_amounts.Goals as goal

pub returns : goal.returns
returns c = on_ok_weaker c.push_str.result (λ e. e ∙ ap (λ t. c.args.line.now ++ t) (c.deref.ensures ∙ c.in_ok-piece.ensures.ok ∙ simp append_assoc)) c.push_str.ensures.ok
