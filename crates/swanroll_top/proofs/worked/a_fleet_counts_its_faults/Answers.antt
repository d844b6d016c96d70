use Rattle.swanroll_top.proofs.ReadyFleets.{counts-disk, counts-none, counts-port}
use Rattle.swanroll_top.proofs.worked.a_fleet_counts_its_faults.Goals as goal

pub returns-clause-none : goal.returns-clause-none
returns-clause-none c = counts-none

pub returns-clause-port : goal.returns-clause-port
returns-clause-port c counts = counts-port counts

pub returns-clause-disk : goal.returns-clause-disk
returns-clause-disk c counts = counts-disk counts
