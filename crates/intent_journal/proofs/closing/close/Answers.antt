use Rattle.std.proofs.Common.{ℕ, List, ◌∙◌}
use Rattle.intent_journal.specs.Images.{journal_in}
use Rattle.intent_journal.specs.Phases.{IsOld}
use Rattle.disk_model.proofs.Passages.{chained_run}
use Rattle.intent_journal.proofs.closing.close.Goals as goal

pub returns-in_err-close_cut-clause-any_moment : goal.returns-in_err-close_cut-clause-any_moment
returns-in_err-close_cut-clause-any_moment g c =
    let P = λ (image : List ℕ). IsOld (journal_in image) in
    chained_run g.D.Disk.told P P P (g.D.Disk.told c.args.disk.now).bytes (g.D.Disk.told c.close_also.new.disk).bytes c.args.disk.now c.close_also.new.disk c.close_cut.new.disk
    c.close_also.ensures.told (λ image b is. is) (λ image m b was is. is ∙ was) (g.met.D.Disk.shows_one c.close_also.new.disk) (g.met.D.Disk.counts_now c.close_also.new.disk)
    c.close_also.ensures.any_moment c.close_cut.ensures.any_moment

pub returns-clause-any_moment : goal.returns-clause-any_moment
returns-clause-any_moment g c =
    let P = λ (image : List ℕ). IsOld (journal_in image) in
    let first = chained_run g.D.Disk.told P P P (g.D.Disk.told c.args.disk.now).bytes (g.D.Disk.told c.close_also.new.disk).bytes c.args.disk.now c.close_also.new.disk c.close_cut.new.disk
    c.close_also.ensures.told (λ image b is. is) (λ image m b was is. is ∙ was) (g.met.D.Disk.shows_one c.close_also.new.disk) (g.met.D.Disk.counts_now c.close_also.new.disk)
    c.close_also.ensures.any_moment c.close_cut.ensures.any_moment in
    chained_run g.D.Disk.told P P P (g.D.Disk.told c.args.disk.now).bytes (g.D.Disk.told c.close_cut.new.disk).bytes c.args.disk.now c.close_cut.new.disk c.fill_up.new.disk
    (c.close_cut.ensures.told ∙ c.close_also.ensures.told) (λ image b is. is) (λ image m b was is. is ∙ was) (g.met.D.Disk.shows_one c.close_cut.new.disk) (g.met.D.Disk.counts_now c.close_cut.new.disk)
    first c.fill_up.ensures.any_moment
