use Rattle.swanroll_top.proofs.CertainBack.{counted-ends-well, served-ends-well}
use Rattle.swanroll_top.proofs.laws.a_rollback_over_ready_ports_ends_well.Goals as goal

pub returns-clause-by_status : goal.returns-clause-by_status
returns-clause-by_status g c = λ origin limits source source_now disk disk_now before now status out out_now r found rolls goes served told.
    served-ends-well g.D.Disk.told g.F.Port.Port.told
    origin limits source source_now disk disk_now before now out out_now r found goes served told status rolls

pub returns-clause-by_counts : goal.returns-clause-by_counts
returns-clause-by_counts g c = λ origin limits source source_now disk disk_now before now status out out_now r found rolls goes served told counts.
    counted-ends-well g.D.Disk.told g.F.Port.Port.told
    origin limits source source_now disk disk_now before now out out_now r found goes served told counts status rolls
