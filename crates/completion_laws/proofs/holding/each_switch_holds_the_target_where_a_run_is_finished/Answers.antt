use Rattle.completion_laws.proofs.Each.{each_at_end}
use Rattle.completion_laws.proofs.holding.each_switch_holds_the_target_where_a_run_is_finished.Goals as goal

pub returns : goal.returns
returns c = each_at_end
