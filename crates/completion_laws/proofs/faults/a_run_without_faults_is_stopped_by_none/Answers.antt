use Rattle.wan_edge.specs.Streams.{Rose}
use Rattle.completion_laws.proofs.NoFaults.{no-fault}
use Rattle.completion_laws.proofs.faults.a_run_without_faults_is_stopped_by_none.Goals as goal

pub returns : goal.returns
returns g c = λ o migration homes rounds count later log opened kept why without has.
    no-fault g.T.Port.told (Rose count later) opened kept without o migration homes rounds log why has
