use Rattle.swanroll_top.proofs.Certain.{ready-ends-well, unfailing-ends-well}
use Rattle.swanroll_top.proofs.laws.a_run_over_ready_ports_ends_well.Goals as goal

pub returns-clause-by_status : goal.returns-clause-by_status
returns-clause-by_status g c = λ limits policy source source_now disk disk_now before now status out out_now r found rolls goes ready.
    ready-ends-well g.D.Disk.told g.F.Port.Port.told
    limits policy source source_now disk disk_now before now out out_now r found goes ready status rolls

pub returns-clause-by_counts : goal.returns-clause-by_counts
returns-clause-by_counts g c = λ limits policy source source_now disk disk_now before now status out out_now r found rolls goes ready counts.
    unfailing-ends-well g.D.Disk.told g.F.Port.Port.told
    limits policy source source_now disk disk_now before now out out_now r found goes ready counts status rolls
