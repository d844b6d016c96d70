use Rattle.switch_ports.proofs.Stories.{story_ends_in_hear, story_ends_in_offer}
use Rattle.switch_ports.proofs.laws.a_round_that_ends_is_the_last.Goals as goal

pub returns-clause-in_offer : goal.returns-clause-in_offer
returns-clause-in_offer c = story_ends_in_offer

pub returns-clause-in_hear : goal.returns-clause-in_hear
returns-clause-in_hear c = story_ends_in_hear
