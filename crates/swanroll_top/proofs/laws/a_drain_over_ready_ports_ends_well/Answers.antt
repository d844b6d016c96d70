use Rattle.swanroll_top.proofs.CertainDrain.{drained-ends-well, faultless-ends-well}
use Rattle.swanroll_top.proofs.laws.a_drain_over_ready_ports_ends_well.Goals as goal

pub returns-clause-by_status : goal.returns-clause-by_status
returns-clause-by_status g c = λ limits source source_now disk disk_now before now status out out_now r found rolls goes served.
    drained-ends-well g.D.Disk.told g.F.Port.Port.told
    limits source source_now disk disk_now before now out out_now r found goes served status rolls

pub returns-clause-by_counts : goal.returns-clause-by_counts
returns-clause-by_counts g c = λ limits source source_now disk disk_now before now status out out_now r found rolls goes served counts.
    faultless-ends-well g.D.Disk.told g.F.Port.Port.told
    limits source source_now disk disk_now before now out out_now r found goes served counts status rolls
