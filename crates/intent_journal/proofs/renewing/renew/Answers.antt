use Rattle.std.proofs.Common.{rules, ◌≡◌, inl, inr, ⊎_elim, ℕ, List, ◌∙◌}
use Rattle.intent_journal.specs.Images.{journal_in}
use Rattle.intent_journal.specs.Phases.{IsOld, IsOldOrNew}
use Rattle.intent_journal.specs.Renewals.{new_start}
use Rattle.intent_journal.proofs.Laying.{start_small}
use Rattle.disk_model.proofs.Passages.{chained_run, weaker_run}
use Rattle.intent_journal.proofs.Renewed.{renewed}
use Rattle.intent_journal.proofs.renewing.renew.Goals as goal

pub returns-in_err-close-clause-any_moment : goal.returns-in_err-close-clause-any_moment
returns-in_err-close-clause-any_moment g c =
    let part = c.args.part.now in
    weaker_run g.D.Disk.told (λ image. IsOld (journal_in image)) (λ image. IsOldOrNew (journal_in image) part.kept) (g.D.Disk.told c.args.disk.now).bytes c.args.disk.now c.close.new.disk (λ image b is. inl is) c.close.ensures.any_moment

pub returns-in_err-move_list-clause-any_moment : goal.returns-in_err-move_list-clause-any_moment
returns-in_err-move_list-clause-any_moment g c =
    let part = c.args.part.now in
    let O = λ (image : List ℕ). IsOld (journal_in image) in
    let P = λ (image : List ℕ). IsOldOrNew (journal_in image) part.kept in
    chained_run g.D.Disk.told O P P (g.D.Disk.told c.args.disk.now).bytes (g.D.Disk.told c.close.new.disk).bytes c.args.disk.now c.close.new.disk c.move_list.new.disk c.close.ensures.told
    (λ image b is. inl is) (λ image m b was is. ⊎_elim (λ same. inl (same ∙ was)) inr is)
    (g.met.D.Disk.shows_one c.close.new.disk) (g.met.D.Disk.counts_now c.close.new.disk) c.close.ensures.any_moment c.move_list.ensures.any_moment

pub returns-clause-any_moment : goal.returns-clause-any_moment
returns-clause-any_moment g c =
    let part = c.args.part.now in
    let O = λ (image : List ℕ). IsOld (journal_in image) in
    let P = λ (image : List ℕ). IsOldOrNew (journal_in image) part.kept in
    chained_run g.D.Disk.told O P P (g.D.Disk.told c.args.disk.now).bytes (g.D.Disk.told c.close.new.disk).bytes c.args.disk.now c.close.new.disk c.move_list.new.disk c.close.ensures.told
    (λ image b is. inl is) (λ image m b was is. ⊎_elim (λ same. inl (same ∙ was)) inr is)
    (g.met.D.Disk.shows_one c.close.new.disk) (g.met.D.Disk.counts_now c.close.new.disk) c.close.ensures.any_moment c.move_list.ensures.any_moment

pub returns-clause-done : goal.returns-clause-done
returns-clause-done g c =
    let found = c.args.found.now in
    let part = c.args.part.now in
    let start : c.place_of-start.result ≡ new_start found part.size = search rules in
    let size : c.size.result ≡ part.size = search rules in
    rw (start, size) (renewed found.other found.this (new_start found part.size) part c.bytes.result.now c.bytes.ensures (start_small found part.size c.requires.small)
    (g.D.Disk.told c.move_list.new.disk).bytes (g.D.Disk.told c.move_list.new.disk).may_leave c.in_ok-move_list.ensures.done)
