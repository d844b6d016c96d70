use Rattle.swanroll_top.proofs.Complete.{service-written}
use Rattle.swanroll_top.proofs.laws.an_agent_ends_well.Goals as goal

pub returns : goal.returns
returns g c = λ guests before now status out out_now. service-written (record { source = g.F.Guest.Source.told; sink = g.F.Guest.Sink.told }) guests before now out out_now status
