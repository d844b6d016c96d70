use Rattle.std.proofs.Common.{rules, ◌≡◌, Bool, true, false, refl, subst, [], ◌∷◌}
use Rattle.disk_model.specs.Crashes.{Holds}
use Rattle.agent_state.specs.Opened.{IsFound, ReadsAlike}
use Rattle.agent_state.specs.Stored.{IsKept}
use Rattle.agent_state.proofs.Openings.{closing_done, closing_torn, found_kept}
use Rattle.disk_model.proofs.Passages.{holds_still, still_run, write_holds, write_run}
use Rattle.agent_state.proofs.opening.close_cut.Goals as goal

pub returns-in_err-put-clause-any_moment : goal.returns-in_err-put-clause-any_moment
returns-in_err-put-clause-any_moment g c = λ held holds.
    let is : c.args.cut ≡ true = search rules in
    let there = subst (λ (b : Bool). Holds (IsFound c.args.place b held) (g.D.Disk.told c.args.disk.now).bytes (g.D.Disk.told c.args.disk.now).may_leave) is holds in
    write_run g.D.Disk.told (IsFound c.args.place true held) ReadsAlike (g.D.Disk.told c.args.disk.now).bytes c.args.disk.now c.put.new.disk c.args.place.gate 1 (g.met.D.Disk.only_now c.args.disk.now) there c.put.ensures.time
    (λ image b found torn. closing_torn c.args.place held image found b torn)

pub returns-in_ok-put-clause-any_moment : goal.returns-in_ok-put-clause-any_moment
returns-in_ok-put-clause-any_moment g c = λ held holds.
    let is : c.args.cut ≡ true = search rules in
    let there = subst (λ (b : Bool). Holds (IsFound c.args.place b held) (g.D.Disk.told c.args.disk.now).bytes (g.D.Disk.told c.args.disk.now).may_leave) is holds in
    write_run g.D.Disk.told (IsFound c.args.place true held) ReadsAlike (g.D.Disk.told c.args.disk.now).bytes c.args.disk.now c.put.new.disk c.args.place.gate 1 (g.met.D.Disk.only_now c.args.disk.now) there c.put.ensures.time
    (λ image b found torn. closing_torn c.args.place held image found b torn)

pub returns-in_ok-put-clause-done : goal.returns-in_ok-put-clause-done
returns-in_ok-put-clause-done g c = λ held holds.
    let is : c.args.cut ≡ true = search rules in
    let there = subst (λ (b : Bool). Holds (IsFound c.args.place b held) (g.D.Disk.told c.args.disk.now).bytes (g.D.Disk.told c.args.disk.now).may_leave) is holds in
    write_holds (IsFound c.args.place true held) (IsKept c.args.place held) c.args.place.gate (0 ∷ [])
    (g.D.Disk.told c.args.disk.now).bytes (g.D.Disk.told c.put.new.disk).bytes (g.D.Disk.told c.args.disk.now).may_leave (g.D.Disk.told c.put.new.disk).may_leave
    (λ image found. closing_done c.args.place held image found) there c.in_ok-put.ensures.written c.in_ok-put.ensures.durable

pub returns-else-cut-clause-any_moment : goal.returns-else-cut-clause-any_moment
returns-else-cut-clause-any_moment g c = λ held holds.
    still_run g.D.Disk.told (IsFound c.args.place c.args.cut held) ReadsAlike (g.D.Disk.told c.args.disk.now).bytes c.args.disk.now (g.met.D.Disk.only_now c.args.disk.now) holds (λ image found. refl)

pub returns-else-cut-clause-done : goal.returns-else-cut-clause-done
returns-else-cut-clause-done g c = λ held holds.
    let is : c.args.cut ≡ false = search rules in
    let there = subst (λ (b : Bool). Holds (IsFound c.args.place b held) (g.D.Disk.told c.args.disk.now).bytes (g.D.Disk.told c.args.disk.now).may_leave) is holds in
    holds_still (IsFound c.args.place false held) (IsKept c.args.place held) (g.D.Disk.told c.args.disk.now).bytes (g.D.Disk.told c.args.disk.now).may_leave (λ image found. found_kept c.args.place held image found) there
