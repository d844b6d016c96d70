use Rattle.std.proofs.Common.{rules, ◌≡◌, length, ap, ◌∙◌}
use Rattle.intent_journal.specs.Makings.{IsClear, IsReady, slots_bytes}
use Rattle.intent_journal.proofs.Made.{both_run, clear_run, long_slots, part_clear, ready, slots_clear, slots_run}
use Rattle.disk_model.proofs.Passages.{writes_ok}
use Rattle.intent_journal.proofs.making.lay_first.Goals as goal

pub returns-in_err-write_at-clause-any_moment : goal.returns-in_err-write_at-clause-any_moment
returns-in_err-write_at-clause-any_moment g c =
    let is : c.made_slots.result ≡ slots_bytes c.args.part.now.size = search rules in
    let long : length c.made_slots.result ≡ 34 = ap length is ∙ long_slots c.args.part.now.size in
    clear_run g.D.Disk.told (g.D.Disk.told c.args.disk.now).bytes c.args.disk.now c.write_at.new.self
    (slots_run g.D.Disk.told (g.D.Disk.told c.args.disk.now).bytes c.args.disk.now c.write_at.new.self 1 34 (g.met.D.Disk.only_now c.args.disk.now) c.requires.clear (rw (← long) c.write_at.ensures.some.crash) c.write_at.ensures.some.time slots_clear)

pub returns-clause-any_moment : goal.returns-clause-any_moment
returns-clause-any_moment g c =
    let part = c.args.part.now in
    let is : c.made_slots.result ≡ slots_bytes part.size = search rules in
    let long : length c.made_slots.result ≡ 34 = ap length is ∙ long_slots part.size in
    let first = slots_run g.D.Disk.told (g.D.Disk.told c.args.disk.now).bytes c.args.disk.now c.write_at.new.self 1 34 (g.met.D.Disk.only_now c.args.disk.now) c.requires.clear (rw (← long) c.write_at.ensures.some.crash) c.write_at.ensures.some.time slots_clear in
    clear_run g.D.Disk.told (g.D.Disk.told c.args.disk.now).bytes c.args.disk.now c.put.new.disk
    (both_run g.D.Disk.told (g.D.Disk.told c.args.disk.now).bytes c.args.disk.now c.write_at.new.self c.put.new.disk 35 (length c.bytes.result.now) (g.met.D.Disk.counts_now c.write_at.new.self) first c.put.ensures.time
    (part_clear part c.bytes.result.now c.bytes.ensures c.requires.empty c.requires.few))

pub returns-clause-done : goal.returns-clause-done
returns-clause-done g c =
    let part = c.args.part.now in
    let is : c.made_slots.result ≡ slots_bytes part.size = search rules in
    writes_ok IsClear (IsReady part) 1 35 (slots_bytes part.size) c.bytes.result.now (g.D.Disk.told c.args.disk.now).bytes (g.D.Disk.told c.write_at.new.self).bytes (g.D.Disk.told c.put.new.disk).bytes
    (g.D.Disk.told c.args.disk.now).may_leave (g.D.Disk.told c.put.new.disk).may_leave c.put.result (ready part c.bytes.result.now c.bytes.ensures c.requires.empty c.requires.few) c.requires.clear
    (rw (← is) c.in_ok-write_at.ensures.written) c.put.ensures.written c.put.ensures.durable
