use Rattle.switch_ports.proofs.Stories.{story_begins, story_goes_on}
use Rattle.switch_ports.proofs.laws.a_round_is_one_more.Goals as goal

pub returns-clause-begins : goal.returns-clause-begins
returns-clause-begins c = story_begins

pub returns-clause-goes_on : goal.returns-clause-goes_on
returns-clause-goes_on c = story_goes_on
