use Rattle.agent_state.specs.Opened.{IsBlank, ReadsAlike}
use Rattle.agent_state.specs.Stored.{IsKept, nothing_yet}
use Rattle.std.proofs.Common.{ap, length, ◌≡◌, ℕ, subst}
use Rattle.disk_model.specs.Writes.{Torn}
use Rattle.agent_state.proofs.Openings.{blank_torn, made_done}
use Rattle.disk_model.proofs.Passages.{write_holds, write_run}
use Rattle.agent_state.proofs.opening.make.Goals as goal

pub returns-in_err-put-clause-any_moment : goal.returns-in_err-put-clause-any_moment
returns-in_err-put-clause-any_moment g c =
    let long : length c.made_bytes-bytes.result ≡ 11 = ap length c.made_bytes-bytes.ensures in
    write_run g.D.Disk.told IsBlank ReadsAlike (g.D.Disk.told c.args.disk.now).bytes c.args.disk.now c.put.new.disk 0 (length c.made_bytes-bytes.result) (g.met.D.Disk.only_now c.args.disk.now) c.requires c.put.ensures.time
    (λ image b blank torn. blank_torn image b blank (subst (λ (n : ℕ). Torn 0 n image b) long torn))

pub returns-clause-any_moment : goal.returns-clause-any_moment
returns-clause-any_moment g c =
    let long : length c.made_bytes-bytes.result ≡ 11 = ap length c.made_bytes-bytes.ensures in
    write_run g.D.Disk.told IsBlank ReadsAlike (g.D.Disk.told c.args.disk.now).bytes c.args.disk.now c.put.new.disk 0 (length c.made_bytes-bytes.result) (g.met.D.Disk.only_now c.args.disk.now) c.requires c.put.ensures.time
    (λ image b blank torn. blank_torn image b blank (subst (λ (n : ℕ). Torn 0 n image b) long torn))

pub returns-clause-done : goal.returns-clause-done
returns-clause-done g c =
    write_holds IsBlank (IsKept c.first_place.result nothing_yet) 0 c.made_bytes-bytes.result
    (g.D.Disk.told c.args.disk.now).bytes (g.D.Disk.told c.put.new.disk).bytes (g.D.Disk.told c.args.disk.now).may_leave (g.D.Disk.told c.put.new.disk).may_leave
    (λ image blank. made_done c.first_place.result c.made_bytes-bytes.result image c.first_place.ensures c.made_bytes-bytes.ensures blank) c.requires c.in_ok-put.ensures.written c.in_ok-put.ensures.durable
