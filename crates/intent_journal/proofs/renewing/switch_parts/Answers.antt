use Rattle.std.proofs.Common.{inl, inr, ⊎_elim, ℕ, List, [], ◌∷◌, ◌∙◌}
use Rattle.intent_journal.specs.Images.{journal_in, open_slot}
use Rattle.intent_journal.specs.Phases.{IsOldOrNew}
use Rattle.intent_journal.specs.Renewals.{IsMoved, IsNamed, IsOpened, new_home}
use Rattle.disk_model.proofs.Passages.{chained_run, write_holds, write_ok, write_run}
use Rattle.intent_journal.proofs.Switches.{open_done, open_torn, shut_done, shut_torn}
use Rattle.intent_journal.proofs.renewing.switch_parts.Goals as goal

pub returns-in_err-put-clause-any_moment : goal.returns-in_err-put-clause-any_moment
returns-in_err-put-clause-any_moment g c =
    let found = c.args.found.now in
    let part = c.args.part.now in
    write_run g.D.Disk.told (IsNamed found part) (λ image. IsOldOrNew (journal_in image) part.kept) (g.D.Disk.told c.args.disk.now).bytes c.args.disk.now c.put.new.disk
    found.other 1 (g.met.D.Disk.only_now c.args.disk.now) c.requires.named c.put.ensures.time (λ image b is torn. open_torn found part image is b torn)

pub returns-clause-any_moment : goal.returns-clause-any_moment
returns-clause-any_moment g c =
    let found = c.args.found.now in
    let part = c.args.part.now in
    let P = λ (image : List ℕ). IsOldOrNew (journal_in image) part.kept in
    let opened = write_holds (IsNamed found part) (IsOpened found part) found.other (open_slot ∷ []) (g.D.Disk.told c.args.disk.now).bytes (g.D.Disk.told c.put.new.disk).bytes (g.D.Disk.told c.args.disk.now).may_leave (g.D.Disk.told c.put.new.disk).may_leave
    (λ image is. open_done found part image is) c.requires.named c.in_ok-put.ensures.written c.in_ok-put.ensures.durable in
    let first = write_run g.D.Disk.told (IsNamed found part) P (g.D.Disk.told c.args.disk.now).bytes c.args.disk.now c.put.new.disk
    found.other 1 (g.met.D.Disk.only_now c.args.disk.now) c.requires.named c.put.ensures.time (λ image b is torn. open_torn found part image is b torn) in
    let second = write_run g.D.Disk.told (IsOpened found part) P (g.D.Disk.told c.put.new.disk).bytes c.put.new.disk c.put-2.new.disk
    found.this 1 (g.met.D.Disk.only_now c.put.new.disk) opened c.put-2.ensures.time (λ image b is torn. shut_torn found part image is b torn) in
    chained_run g.D.Disk.told P P P (g.D.Disk.told c.args.disk.now).bytes (g.D.Disk.told c.put.new.disk).bytes c.args.disk.now c.put.new.disk c.put-2.new.disk c.put.ensures.told
    (λ image b is. is) (λ image m b was is. ⊎_elim (λ same. ⊎_elim (λ old. inl (same ∙ old)) (λ new. inr (same ∙ new)) was) inr is)
    (g.met.D.Disk.shows_one c.put.new.disk) (g.met.D.Disk.counts_now c.put.new.disk) first second

pub returns-clause-done : goal.returns-clause-done
returns-clause-done g c =
    let found = c.args.found.now in
    let part = c.args.part.now in
    let opened = write_holds (IsNamed found part) (IsOpened found part) found.other (open_slot ∷ []) (g.D.Disk.told c.args.disk.now).bytes (g.D.Disk.told c.put.new.disk).bytes (g.D.Disk.told c.args.disk.now).may_leave (g.D.Disk.told c.put.new.disk).may_leave
    (λ image is. open_done found part image is) c.requires.named c.in_ok-put.ensures.written c.in_ok-put.ensures.durable in
    write_ok (IsOpened found part) (IsMoved (new_home found part) part) found.this (0 ∷ []) (g.D.Disk.told c.put.new.disk).bytes (g.D.Disk.told c.put-2.new.disk).bytes (g.D.Disk.told c.put.new.disk).may_leave (g.D.Disk.told c.put-2.new.disk).may_leave c.put-2.result
    (λ image is. shut_done found part image is) opened c.put-2.ensures.written c.put-2.ensures.durable
