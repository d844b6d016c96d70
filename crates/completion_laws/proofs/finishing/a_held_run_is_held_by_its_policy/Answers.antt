use Rattle.completion_laws.proofs.Excused.{held-rests, held-still}
use Rattle.completion_laws.proofs.finishing.a_held_run_is_held_by_its_policy.Goals as goal

pub returns : goal.returns
returns g c = λ o from count migration rounds homes before book now ran. (
  held-still g.D.Disk.told g.T.Port.told o from count migration rounds homes before book now ran,
  held-rests g.D.Disk.told g.T.Port.told o from count migration rounds homes before book now ran,
)
