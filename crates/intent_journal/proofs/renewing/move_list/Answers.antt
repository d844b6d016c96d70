use Rattle.std.proofs.Common.{inl, inr, ⊎_elim, ℕ, List, ◌∙◌}
use Rattle.intent_journal.specs.Images.{journal_in}
use Rattle.intent_journal.specs.Phases.{IsOld, IsOldOrNew}
use Rattle.disk_model.proofs.Passages.{chained_run, weaker_run}
use Rattle.intent_journal.proofs.renewing.move_list.Goals as goal

pub returns-in_err-lay_part-clause-any_moment : goal.returns-in_err-lay_part-clause-any_moment
returns-in_err-lay_part-clause-any_moment g c =
    let part = c.args.part.now in
    weaker_run g.D.Disk.told (λ image. IsOld (journal_in image)) (λ image. IsOldOrNew (journal_in image) part.kept) (g.D.Disk.told c.args.disk.now).bytes c.args.disk.now c.lay_part.new.disk (λ image b is. inl is) c.lay_part.ensures.any_moment

pub returns-in_err-name_part-clause-any_moment : goal.returns-in_err-name_part-clause-any_moment
returns-in_err-name_part-clause-any_moment g c =
    let part = c.args.part.now in
    let O = λ (image : List ℕ). IsOld (journal_in image) in
    let both = chained_run g.D.Disk.told O O O (g.D.Disk.told c.args.disk.now).bytes (g.D.Disk.told c.lay_part.new.disk).bytes c.args.disk.now c.lay_part.new.disk c.name_part.new.disk c.lay_part.ensures.told
    (λ image b is. is) (λ image m b was is. is ∙ was)
    (g.met.D.Disk.shows_one c.lay_part.new.disk) (g.met.D.Disk.counts_now c.lay_part.new.disk) c.lay_part.ensures.any_moment c.name_part.ensures.any_moment in
    weaker_run g.D.Disk.told O (λ image. IsOldOrNew (journal_in image) part.kept) (g.D.Disk.told c.args.disk.now).bytes c.args.disk.now c.name_part.new.disk (λ image b is. inl is) both

pub returns-clause-any_moment : goal.returns-clause-any_moment
returns-clause-any_moment g c =
    let part = c.args.part.now in
    let O = λ (image : List ℕ). IsOld (journal_in image) in
    let P = λ (image : List ℕ). IsOldOrNew (journal_in image) part.kept in
    let both = chained_run g.D.Disk.told O O O (g.D.Disk.told c.args.disk.now).bytes (g.D.Disk.told c.lay_part.new.disk).bytes c.args.disk.now c.lay_part.new.disk c.name_part.new.disk c.lay_part.ensures.told
    (λ image b is. is) (λ image m b was is. is ∙ was)
    (g.met.D.Disk.shows_one c.lay_part.new.disk) (g.met.D.Disk.counts_now c.lay_part.new.disk) c.lay_part.ensures.any_moment c.name_part.ensures.any_moment in
    chained_run g.D.Disk.told O P P (g.D.Disk.told c.args.disk.now).bytes (g.D.Disk.told c.name_part.new.disk).bytes c.args.disk.now c.name_part.new.disk c.switch_parts.new.disk (c.name_part.ensures.told ∙ c.lay_part.ensures.told)
    (λ image b is. inl is) (λ image m b was is. ⊎_elim (λ same. inl (same ∙ was)) inr is)
    (g.met.D.Disk.shows_one c.name_part.new.disk) (g.met.D.Disk.counts_now c.name_part.new.disk) both c.switch_parts.ensures.any_moment
