use Rattle.text_commands.specs.Runs.{IsInput}
use Rattle.swanroll_top.proofs.Reaching.{held-rest}
use Rattle.swanroll_top.proofs.laws.a_rollout_is_held_by_its_policy_alone.Goals as goal

pub returns : goal.returns
returns g c = λ limits policy source source_now disk disk_now before now status out out_now rolls is.
    held-rest g.D.Disk.told g.F.Port.Port.told
    (IsInput source source_now) disk disk_now before now out out_now limits policy status rolls is
