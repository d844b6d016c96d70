use Rattle.completion_laws.proofs.Excused.{ran-served}
use Rattle.completion_laws.proofs.finishing.a_run_over_ports_that_have_answered_ends_for_an_excuse.Goals as goal

pub returns : goal.returns
returns g c = λ o from count migration rounds homes before end book now ran given.
    ran-served g.D.Disk.told g.T.Port.told o from count migration rounds homes before end book now ran given
