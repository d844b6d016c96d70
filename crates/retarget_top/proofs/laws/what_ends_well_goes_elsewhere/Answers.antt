use Rattle.retarget_top.proofs.Elsewhere.{goes-elsewhere}
use Rattle.retarget_top.proofs.laws.what_ends_well_goes_elsewhere.Goals as goal

pub returns : goal.returns
returns g c = λ migration planner shed source source_now disk disk_now sink sink_now notes notes_now status promise zero.
    goes-elsewhere g.D.Disk.told migration shed source source_now disk disk_now sink sink_now planner notes notes_now status promise zero
