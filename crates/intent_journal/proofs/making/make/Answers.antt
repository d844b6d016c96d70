use Rattle.std.proofs.Common.{rules, ◌≡◌, inl, inr, ⊎_elim, ℕ, List, [], ◌∷◌, ◌∙◌, arith}
use Rattle.intent_journal.specs.Images.{open_journal}
use Rattle.intent_journal.specs.Makings.{IsBlank, IsBlankOrNew, IsBlankOrTorn, IsReady, first_home}
use Rattle.intent_journal.specs.Phases.{IsBlankOrMade}
use Rattle.intent_journal.specs.Renewals.{IsMoved}
use Rattle.intent_journal.proofs.Made.{made_done, made_torn}
use Rattle.disk_model.proofs.Passages.{chained_run, weaker_run, write_holds, write_run}
use Rattle.intent_journal.proofs.Renewed.{renewed}
use Rattle.intent_journal.proofs.making.make.Goals as goal

pub returns-in_err-clear_gate-clause-any_moment : goal.returns-in_err-clear_gate-clause-any_moment
returns-in_err-clear_gate-clause-any_moment g c =
    let part = c.args.part.now in
    weaker_run g.D.Disk.told IsBlankOrTorn (λ image. IsBlankOrMade part.kept image) (g.D.Disk.told c.args.disk.now).bytes c.args.disk.now c.clear_gate.new.disk (λ image b is. ⊎_elim inl (λ torn. inr (inr torn)) is) c.clear_gate.ensures.any_moment

pub returns-in_err-lay_first-clause-any_moment : goal.returns-in_err-lay_first-clause-any_moment
returns-in_err-lay_first-clause-any_moment g c =
    let part = c.args.part.now in
    let R = λ (image : List ℕ). IsBlankOrMade part.kept image in
    chained_run g.D.Disk.told IsBlankOrTorn (λ m. IsBlank) R (g.D.Disk.told c.args.disk.now).bytes (g.D.Disk.told c.clear_gate.new.disk).bytes c.args.disk.now c.clear_gate.new.disk c.lay_first.new.disk c.clear_gate.ensures.told
    (λ image b is. ⊎_elim inl (λ torn. inr (inr torn)) is) (λ image m b was is. inl is)
    (g.met.D.Disk.shows_one c.clear_gate.new.disk) (g.met.D.Disk.counts_now c.clear_gate.new.disk) c.clear_gate.ensures.any_moment c.lay_first.ensures.any_moment

pub returns-in_err-put-clause-any_moment : goal.returns-in_err-put-clause-any_moment
returns-in_err-put-clause-any_moment g c =
    let part = c.args.part.now in
    let R = λ (image : List ℕ). IsBlankOrMade part.kept image in
    let two = chained_run g.D.Disk.told IsBlankOrTorn (λ m. IsBlank) R (g.D.Disk.told c.args.disk.now).bytes (g.D.Disk.told c.clear_gate.new.disk).bytes c.args.disk.now c.clear_gate.new.disk c.lay_first.new.disk c.clear_gate.ensures.told
    (λ image b is. ⊎_elim inl (λ torn. inr (inr torn)) is) (λ image m b was is. inl is)
    (g.met.D.Disk.shows_one c.clear_gate.new.disk) (g.met.D.Disk.counts_now c.clear_gate.new.disk) c.clear_gate.ensures.any_moment c.lay_first.ensures.any_moment in
    let third = write_run g.D.Disk.told (IsReady part) (λ m. IsBlankOrNew part.kept) (g.D.Disk.told c.lay_first.new.disk).bytes c.lay_first.new.disk c.put.new.disk
    0 1 (g.met.D.Disk.only_now c.lay_first.new.disk) c.in_ok-lay_first.ensures.done c.put.ensures.time (λ image b is torn. made_torn part image is c.requires.empty b torn) in
    chained_run g.D.Disk.told R (λ m. IsBlankOrNew part.kept) R (g.D.Disk.told c.args.disk.now).bytes (g.D.Disk.told c.lay_first.new.disk).bytes c.args.disk.now c.lay_first.new.disk c.put.new.disk (c.lay_first.ensures.told ∙ c.clear_gate.ensures.told)
    (λ image b is. is) (λ image m b was is. ⊎_elim inl (λ new. inr (inl new)) is)
    (g.met.D.Disk.shows_one c.lay_first.new.disk) (g.met.D.Disk.counts_now c.lay_first.new.disk) two third

pub returns-clause-any_moment : goal.returns-clause-any_moment
returns-clause-any_moment g c =
    let part = c.args.part.now in
    let R = λ (image : List ℕ). IsBlankOrMade part.kept image in
    let two = chained_run g.D.Disk.told IsBlankOrTorn (λ m. IsBlank) R (g.D.Disk.told c.args.disk.now).bytes (g.D.Disk.told c.clear_gate.new.disk).bytes c.args.disk.now c.clear_gate.new.disk c.lay_first.new.disk c.clear_gate.ensures.told
    (λ image b is. ⊎_elim inl (λ torn. inr (inr torn)) is) (λ image m b was is. inl is)
    (g.met.D.Disk.shows_one c.clear_gate.new.disk) (g.met.D.Disk.counts_now c.clear_gate.new.disk) c.clear_gate.ensures.any_moment c.lay_first.ensures.any_moment in
    let third = write_run g.D.Disk.told (IsReady part) (λ m. IsBlankOrNew part.kept) (g.D.Disk.told c.lay_first.new.disk).bytes c.lay_first.new.disk c.put.new.disk
    0 1 (g.met.D.Disk.only_now c.lay_first.new.disk) c.in_ok-lay_first.ensures.done c.put.ensures.time (λ image b is torn. made_torn part image is c.requires.empty b torn) in
    chained_run g.D.Disk.told R (λ m. IsBlankOrNew part.kept) R (g.D.Disk.told c.args.disk.now).bytes (g.D.Disk.told c.lay_first.new.disk).bytes c.args.disk.now c.lay_first.new.disk c.put.new.disk (c.lay_first.ensures.told ∙ c.clear_gate.ensures.told)
    (λ image b is. is) (λ image m b was is. ⊎_elim inl (λ new. inr (inl new)) is)
    (g.met.D.Disk.shows_one c.lay_first.new.disk) (g.met.D.Disk.counts_now c.lay_first.new.disk) two third

pub returns-clause-done : goal.returns-clause-done
returns-clause-done g c =
    let part = c.args.part.now in
    let size : c.size.result ≡ part.size = search rules in
    let moved = write_holds (IsReady part) (IsMoved (first_home part) part) 0 (open_journal ∷ []) (g.D.Disk.told c.lay_first.new.disk).bytes (g.D.Disk.told c.put.new.disk).bytes (g.D.Disk.told c.lay_first.new.disk).may_leave (g.D.Disk.told c.put.new.disk).may_leave
    (λ image is. made_done part image is c.requires.empty) c.in_ok-lay_first.ensures.done c.in_ok-put.ensures.written c.in_ok-put.ensures.durable in
    rw size (renewed 1 18 35 part c.bytes.result.now c.bytes.ensures (omega arith) (g.D.Disk.told c.put.new.disk).bytes (g.D.Disk.told c.put.new.disk).may_leave moved)
