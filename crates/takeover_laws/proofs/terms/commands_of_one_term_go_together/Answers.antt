use Rattle.takeover_laws.proofs.Floors.{all_carried, none_carried}
use Rattle.takeover_laws.proofs.terms.commands_of_one_term_go_together.Goals as goal

pub returns : goal.returns
returns c = record { all = all_carried; none = none_carried }
