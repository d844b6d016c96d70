use Rattle.wan_edge.specs.Streams.{Rose}
use Rattle.switch_ports.specs.Hands.{first_sessions}
use Rattle.shared_book.specs.Homes.{homes_of}
use Rattle.completion_laws.proofs.Finished.{finishes}
use Rattle.completion_laws.proofs.OfRun.{of-workers}
use Rattle.completion_laws.proofs.finishing.a_run_over_ready_ports_finishes.Goals as goal

pub returns : goal.returns
returns g c = λ o from count migration rounds homes before end book now ran sure without.
    let tell = g.T.Port.told in
    let one = of-workers tell o migration (homes_of o.rollout.problem) rounds ran.berths ran.apart ran.log ran.seats ran.made ran.left ran.worked in
    finishes tell o migration rounds (Rose count (g.D.Disk.told book.disk).faults) (first_sessions ran.berths) now.kept ran.log without ran.legal one sure end ran.ends ran.reason
