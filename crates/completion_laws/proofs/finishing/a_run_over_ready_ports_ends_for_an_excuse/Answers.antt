use Rattle.completion_laws.proofs.Excused.{ran-ends}
use Rattle.completion_laws.proofs.finishing.a_run_over_ready_ports_ends_for_an_excuse.Goals as goal

pub returns : goal.returns
returns g c = λ o from count migration rounds homes before end book now ran given.
    ran-ends g.D.Disk.told g.T.Port.told o from count migration rounds homes before end book now ran given
