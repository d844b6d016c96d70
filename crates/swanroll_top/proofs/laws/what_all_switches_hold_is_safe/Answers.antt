use Rattle.text_commands.specs.Runs.{IsInput}
use Rattle.swanroll_top.proofs.Joining.{may-joined, told-joined}
use Rattle.swanroll_top.proofs.laws.what_all_switches_hold_is_safe.Goals as goal

pub returns-clause-told : goal.returns-clause-told
returns-clause-told g c = λ limits source source_now disk before now stays holdings tells.
    told-joined g.D.Disk.told g.F.Port.Port.told limits (IsInput source source_now) disk before now stays holdings tells

pub returns-clause-untold : goal.returns-clause-untold
returns-clause-untold g c = λ limits source source_now disk before now stays holdings may.
    may-joined g.D.Disk.told g.F.Port.Port.told limits (IsInput source source_now) disk before now stays holdings may
