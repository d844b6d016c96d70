use Rattle.std.proofs.Common.{rules, List, ℕ, length, ap}
use Rattle.disk_model.proofs.Pieces.{reads_told}
use Rattle.disk_model.proofs.Quiet.{one_call}
use Rattle.disk_model.proofs.whole.read_more.Goals as goal

pub returns-clause-read : goal.returns-clause-read
returns-clause-read g c = reads_told (g.D.Disk.told c.args.disk.now).bytes _ _ c.read_at.new.into _ (length c.as_slice-at.result.now) (ap (λ (xs : List ℕ). length xs) c.as_slice-at.ensures) (search rules) c.in_ok-n.ensures.given c.in_ok-n.ensures.end

pub returns-clause-quiet : goal.returns-clause-quiet
returns-clause-quiet g c =
    one_call g.D.Disk.told c.args.disk.now c.read_at.new.self (g.met.D.Disk.only_now c.args.disk.now) c.read_at.ensures.nothing.same c.read_at.ensures.nothing.crash c.read_at.ensures.nothing.time

pub returns-in_err-n-clause-quiet : goal.returns-in_err-n-clause-quiet
returns-in_err-n-clause-quiet g c =
    one_call g.D.Disk.told c.args.disk.now c.read_at.new.self (g.met.D.Disk.only_now c.args.disk.now) c.read_at.ensures.nothing.same c.read_at.ensures.nothing.crash c.read_at.ensures.nothing.time

pub returns-in_err-extend_from_slice-clause-quiet : goal.returns-in_err-extend_from_slice-clause-quiet
returns-in_err-extend_from_slice-clause-quiet g c =
    one_call g.D.Disk.told c.args.disk.now c.read_at.new.self (g.met.D.Disk.only_now c.args.disk.now) c.read_at.ensures.nothing.same c.read_at.ensures.nothing.crash c.read_at.ensures.nothing.time
