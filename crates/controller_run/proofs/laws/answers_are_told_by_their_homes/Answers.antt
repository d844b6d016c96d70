use Rattle.controller_run.proofs.Chains.{told_by_home, told_stays_each}
use Rattle.controller_run.proofs.laws.answers_are_told_by_their_homes.Goals as goal

pub returns-clause-home : goal.returns-clause-home
returns-clause-home g c = λ migration homes earlier commands told answer first before now story went among.
    told_by_home g.T.Port.told migration homes earlier commands told answer first before went.offered now story went.offers went.hears among

pub returns-clause-stays : goal.returns-clause-stays
returns-clause-stays g c = λ migration homes switch commands told answer first before now at went.
    told_stays_each g.T.Port.told migration homes switch answer commands told first before went.offered now at went.offers went.hears
