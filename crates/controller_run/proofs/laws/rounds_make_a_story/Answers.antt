use Rattle.controller_run.proofs.Chains.{stories_begin, stories_end_in_hear, stories_end_in_offer, stories_go_on}
use Rattle.controller_run.proofs.laws.rounds_make_a_story.Goals as goal

pub returns-clause-begins : goal.returns-clause-begins
returns-clause-begins g c = λ migration homes ports live. stories_begin g.T.Port.told migration homes ports live

pub returns-clause-goes_on : goal.returns-clause-goes_on
returns-clause-goes_on g c = λ migration homes earlier commands told first before now story went.
    stories_go_on g.T.Port.told migration homes earlier commands told first before went.offered now story went.offers went.hears

pub returns-clause-ends_in_offer : goal.returns-clause-ends_in_offer
returns-clause-ends_in_offer g c = λ migration homes earlier commands why first before now story stopped.
    stories_end_in_offer g.T.Port.told migration homes earlier commands first before now story stopped.offers

pub returns-clause-ends_in_hear : goal.returns-clause-ends_in_hear
returns-clause-ends_in_hear g c = λ migration homes earlier commands why first before now story stopped.
    stories_end_in_hear g.T.Port.told migration homes earlier commands first before stopped.offered now story stopped.offers stopped.listens
