use Rattle.completion_laws.proofs.Excused.{ran-excused}
use Rattle.completion_laws.proofs.finishing.a_run_over_ready_ports_stops_for_an_excuse.Goals as goal

pub returns : goal.returns
returns g c = λ o from count migration rounds homes before end book now ran sure.
    ran-excused g.D.Disk.told g.T.Port.told o from count migration rounds homes before end book now ran sure
