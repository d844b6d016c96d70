use Rattle.std.proofs.Common.{refl}
use Rattle.switch_ports.specs.Berths.{ports_of}
use Rattle.fence_takeover.specs.declared.end.FenceEnd.TheVariants as fenced
use Rattle.fence_takeover.proofs.Starts.{begins-told, begun-fence, same-cause, taken-long}
use Rattle.fence_takeover.proofs.beginning.begin_takeover.Goals as goal

pub begin_at-requires : goal.begin_at-requires
begin_at-requires g c =
    let before = ports_of (g.F.Fleet.told c.args.fleet.now) in
    let now = ports_of (g.F.Fleet.told c.fence.new.fleet) in
    taken-long g.F.Port.Port.told c.args.plan c.args.migration c.args.rounds before now c.in-Ok.start c.in-Ok.ensures.fences

pub returns-in-Ok-clause-begins : goal.returns-in-Ok-clause-begins
returns-in-Ok-clause-begins g c =
    let before = ports_of (g.F.Fleet.told c.args.fleet.now) in
    let now = ports_of (g.F.Fleet.told c.fence.new.fleet) in
    begins-told g.D.Disk.told c.args.plan c.args.migration c.in-Ok.start c.args.disk c.args.room g.F.Port.Port.told c.args.rounds before now c.begin_at.result.answer c.begin_at.result.disk c.in-Ok.ensures.fences c.begin_at.ensures

pub returns-in-Ok-clause-cause : goal.returns-in-Ok-clause-cause
returns-in-Ok-clause-cause g c = λ r w is.
    absurd (begun-fence g.D.Disk.told c.args.plan c.args.migration c.in-Ok.start c.args.disk c.args.room c.begin_at.result.answer c.begin_at.result.disk r (fenced.NoPort w) c.begin_at.ensures is)

pub returns-in-Err-clause-begins : goal.returns-in-Err-clause-begins
returns-in-Err-clause-begins g c = record { same = refl; fences = c.in-Err.ensures.fences; as_it_was = refl }

pub returns-in-Err-clause-cause : goal.returns-in-Err-clause-cause
returns-in-Err-clause-cause g c = λ r w is. c.in-Err.ensures.cause w (same-cause c.args.plan r c.in-Err.end (fenced.NoPort w) is)
