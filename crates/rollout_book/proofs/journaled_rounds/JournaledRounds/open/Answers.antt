use Rattle.intent_journal.specs.declared.fault.JournalFault.TheVariants as fault
use Rattle.rollout_book.specs.JournaledRounds.{first_book}
use Rattle.rollout_book.proofs.Openings.{if-err, if-it}
use Rattle.intent_journal.proofs.Openings.{left_opened}
use Rattle.rollout_book.proofs.journaled_rounds.JournaledRounds.open.Goals as goal

pub returns-in-Ok-clause-opened : goal.returns-in-Ok-clause-opened
returns-in-Ok-clause-opened g c =
    let found = c.in-Ok.found in
    if-it c.of_found.result (first_book c.find.new.graph found.list found.journal.disk) _ c.of_found.ensures.ok c.in-Ok.ensures.opened

pub returns-in-Ok-clause-left : goal.returns-in-Ok-clause-left
returns-in-Ok-clause-left g c =
    if-err c.of_found.result (record { disk = c.in-Ok.found.journal.disk; cause = fault.Memory }) _ c.of_found.ensures.err
    (left_opened g.D.Disk.told c.args.digest.now c.args.graph.rollout c.args.disk c.in-Ok.found.journal.disk c.in-Ok.ensures.opened.on)
