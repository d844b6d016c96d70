use Rattle.switch_laws.proofs.SmallRuns.{not_cut, unused_starts}
use Rattle.switch_laws.proofs.worked.a_port_that_was_never_used_starts_as_found.Goals as goal

pub returns-clause-unused : goal.returns-clause-unused
returns-clause-unused c = unused_starts

pub returns-clause-cut : goal.returns-clause-cut
returns-clause-cut c starts = not_cut starts.offered.commands starts.offered.whole.parts
