use Rattle.text_commands.proofs.Complete.{none-exists}
use Rattle.text_commands.proofs.laws.where_none_exists_there_is_no_valid_plan.Goals as goal

pub returns : goal.returns
returns c = none-exists
