use Rattle.completion_laws.proofs.Each.{each_stands}
use Rattle.completion_laws.proofs.holding.each_switch_holds_what_a_run_has_begun.Goals as goal

pub returns : goal.returns
returns c = each_stands
