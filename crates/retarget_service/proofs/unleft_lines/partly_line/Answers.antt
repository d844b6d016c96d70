use Rattle.std.proofs.Common.{append_assoc, ◌∙◌}
use Rattle.retarget_service.proofs.unleft_lines.partly_line.Goals as goal

pub returns : goal.returns
returns c = c.from.ensures ∙ c.in_ok-line.ensures.ok ∙ simp append_assoc
