use Rattle.std.proofs.Common.{refl, inl}
use Rattle.fence_takeover.proofs.Starts.{opens-at}
use Rattle.fence_takeover.proofs.beginning.open_at.Goals as goal

pub returns-in-Ok : goal.returns-in-Ok
returns-in-Ok g c =
    opens-at g.D.Disk.told c.args.plan c.args.migration c.args.start c.args.disk c.args.room c.open.new.self c.place_at.result.answer c.place_at.result.disk c.open.ensures.opens c.in-Ok.ensures.tells c.in-Ok.ensures.within c.place_at.ensures

pub returns-in-Err : goal.returns-in-Err
returns-in-Err g c = inl (record { cause_is = refl; opens = c.open.ensures.opens; failed = c.in-Err.ensures.cause })
