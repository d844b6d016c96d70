use Rattle.std.proofs.Common.{ℕ, refl, subst, inl, inr}
use Rattle.wan_edge.proofs.Faults.{rose_since}
use Rattle.disk_mirror.specs.Openings.{OpensWithin}
use Rattle.swanroll_top.proofs.drain.drain_plan.Goals as goal

pub returns-in-Ok-clause-rolls : goal.returns-in-Ok-clause-rolls
returns-in-Ok-clause-rolls g c = inr (record {
  opened = c.open.new.self;
  opens = c.open.ensures.opens;
  told = c.in-Ok.ensures.tells;
  within = subst (λ (room : ℕ). OpensWithin room (g.D.Disk.told c.args.disk) (g.D.Disk.told c.open.new.self)) c.journal_room.ensures c.in-Ok.ensures.within;
  drains = c.drain_opened.ensures.rolls;
})

pub returns-in-Ok-clause-disk_fault : goal.returns-in-Ok-clause-disk_fault
returns-in-Ok-clause-disk_fault g c = λ e. rose_since _ _ _ c.open.ensures.opens.count (c.drain_opened.ensures.disk_fault e)

pub returns-in-Err-clause-rolls : goal.returns-in-Err-clause-rolls
returns-in-Err-clause-rolls g c = inl (record { is = refl; opens = c.open.ensures.opens; failed = c.in-Err.ensures.cause; fleet_is = refl; silent = refl })

pub returns-in-Err-clause-ends : goal.returns-in-Err-clause-ends
returns-in-Err-clause-ends g c = record { may = refl; silent = λ zero seven. refl }
