use Rattle.std.proofs.Common.{◌∙◌}
use Rattle.swanroll_top.proofs.Agents.{text-follows}
use Rattle.swanroll_top.proofs.agent.write_service.Goals as goal

pub returns-in-Ok-clause-follows : goal.returns-in-Ok-clause-follows
returns-in-Ok-clause-follows g c = text-follows _ _ _ _ _ (c.as_str.ensures ∙ c.in-Ok.ensures) c.write_text.ensures.written
