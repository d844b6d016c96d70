use Rattle.std.proofs.Common.{◌∙◌}
use Rattle.wan_text.proofs.Called.{flow-called}
use Rattle.wan_text.proofs.names.Names.flow.Goals as goal

pub returns : goal.returns
returns c p are = c.name_at.ensures ∙ flow-called _ p c.args.number (c.as_slice.ensures ∙ are.flows)
