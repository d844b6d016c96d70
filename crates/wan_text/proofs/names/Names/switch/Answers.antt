use Rattle.std.proofs.Common.{◌∙◌}
use Rattle.wan_text.proofs.Called.{switch-called}
use Rattle.wan_text.proofs.names.Names.switch.Goals as goal

pub returns : goal.returns
returns c p are = c.name_at.ensures ∙ switch-called _ p c.args.number (c.as_slice.ensures ∙ are.switches)
