use Rattle.std.proofs.Common.{ℕ, inl, inr, refl, subst}
use Rattle.disk_mirror.specs.Openings.{OpensWithin}
use Rattle.retarget_top.proofs.retargeting.retarget_wanted.Goals as goal

pub returns-in-Ok : goal.returns-in-Ok
returns-in-Ok g c = inr (record {
  opened = c.open.new.self;
  opens = c.open.ensures.opens;
  told = c.in-Ok.ensures.tells;
  within = subst (λ (n : ℕ). OpensWithin n (g.D.Disk.told c.args.disk) (g.D.Disk.told c.open.new.self)) c.journal_room.ensures c.in-Ok.ensures.within;
  reads = c.retarget_opened.ensures;
})

pub returns-in-Err : goal.returns-in-Err
returns-in-Err g c = inl (record { opens = c.open.ensures.opens; is = refl; failed = c.in-Err.ensures.cause; silent = refl })
