use Rattle.std.proofs.Common.{rules, ◌≡◌, inl, Bool, true, false, [], ◌∷◌, subst}
use Rattle.disk_model.specs.Crashes.{Holds}
use Rattle.intent_journal.specs.Makings.{IsBlankOrTorn, IsClear}
use Rattle.intent_journal.specs.Phases.{IsBlankFound}
use Rattle.intent_journal.proofs.Clearings.{clear_found, first_done, first_torn}
use Rattle.disk_model.proofs.Passages.{holds_still, still_run, write_holds, write_run}
use Rattle.intent_journal.proofs.making.clear_gate.Goals as goal

pub returns-in_err-put-clause-any_moment : goal.returns-in_err-put-clause-any_moment
returns-in_err-put-clause-any_moment g c =
    let other : c.args.cleared ≡ false = search rules in
    let blank = subst (λ (b : Bool). Holds (IsBlankFound b) (g.D.Disk.told c.args.disk.now).bytes (g.D.Disk.told c.args.disk.now).may_leave) other c.requires.blank in
    write_run g.D.Disk.told (IsBlankFound false) IsBlankOrTorn (g.D.Disk.told c.args.disk.now).bytes c.args.disk.now c.put.new.disk
    0 1 (g.met.D.Disk.only_now c.args.disk.now) blank c.put.ensures.time (λ image b is torn. first_torn image is b torn)

pub returns-in_ok-put-clause-any_moment : goal.returns-in_ok-put-clause-any_moment
returns-in_ok-put-clause-any_moment g c =
    let other : c.args.cleared ≡ false = search rules in
    let blank = subst (λ (b : Bool). Holds (IsBlankFound b) (g.D.Disk.told c.args.disk.now).bytes (g.D.Disk.told c.args.disk.now).may_leave) other c.requires.blank in
    write_run g.D.Disk.told (IsBlankFound false) IsBlankOrTorn (g.D.Disk.told c.args.disk.now).bytes c.args.disk.now c.put.new.disk
    0 1 (g.met.D.Disk.only_now c.args.disk.now) blank c.put.ensures.time (λ image b is torn. first_torn image is b torn)

pub returns-in_ok-put-clause-done : goal.returns-in_ok-put-clause-done
returns-in_ok-put-clause-done g c =
    let other : c.args.cleared ≡ false = search rules in
    let blank = subst (λ (b : Bool). Holds (IsBlankFound b) (g.D.Disk.told c.args.disk.now).bytes (g.D.Disk.told c.args.disk.now).may_leave) other c.requires.blank in
    write_holds (IsBlankFound false) IsClear 0 (0 ∷ []) (g.D.Disk.told c.args.disk.now).bytes (g.D.Disk.told c.put.new.disk).bytes (g.D.Disk.told c.args.disk.now).may_leave (g.D.Disk.told c.put.new.disk).may_leave
    first_done blank c.in_ok-put.ensures.written c.in_ok-put.ensures.durable

pub returns-else-not-cleared-clause-any_moment : goal.returns-else-not-cleared-clause-any_moment
returns-else-not-cleared-clause-any_moment g c =
    still_run g.D.Disk.told (IsBlankFound c.args.cleared) IsBlankOrTorn (g.D.Disk.told c.args.disk.now).bytes c.args.disk.now
    (g.met.D.Disk.only_now c.args.disk.now) c.requires.blank (λ image is. inl is.0)

pub returns-else-not-cleared-clause-done : goal.returns-else-not-cleared-clause-done
returns-else-not-cleared-clause-done g c =
    let zero : c.args.cleared ≡ true = search rules in
    let blank = subst (λ (b : Bool). Holds (IsBlankFound b) (g.D.Disk.told c.args.disk.now).bytes (g.D.Disk.told c.args.disk.now).may_leave) zero c.requires.blank in
    holds_still (IsBlankFound true) IsClear (g.D.Disk.told c.args.disk.now).bytes (g.D.Disk.told c.args.disk.now).may_leave clear_found blank
