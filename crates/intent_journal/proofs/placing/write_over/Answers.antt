use Rattle.std.proofs.Common.{◌≡◌, inl, inr, true, refl, sym, subst, ◌∙◌, ap}
use Rattle.intent_journal.specs.Images.{is_blank, journal_in}
use Rattle.intent_journal.specs.Phases.{IsBlankFound, IsBlankOrMade, IsFound, IsOldOrNew}
use Rattle.intent_journal.specs.Placements.{IsStoodOrPlaced}
use Rattle.disk_model.proofs.Passages.{holds_still, still_run}
use Rattle.intent_journal.proofs.Placings.{found_some, known_run}
use Rattle.intent_journal.proofs.placing.write_over.Goals as goal

pub returns-in_err-is_blank-clause-any_moment : goal.returns-in_err-is_blank-clause-any_moment
returns-in_err-is_blank-clause-any_moment g c =
    still_run g.D.Disk.told (λ all. c.args.image.now ≡ all) (IsStoodOrPlaced c.args.part.now.kept) (g.D.Disk.told c.args.disk.now).bytes c.args.disk.now
    (g.met.D.Disk.only_now c.args.disk.now) c.requires.read (λ all is. inl refl)

pub returns-in_err-make-clause-any_moment : goal.returns-in_err-make-clause-any_moment
returns-in_err-make-clause-any_moment g c =
    let blank : is_blank c.args.image.now ≡ true = sym c.in_ok-is_blank.ensures ∙ c.if-branch.true in
    known_run g.D.Disk.told (λ all. c.args.image.now ≡ all) (IsBlankOrMade c.args.part.now.kept) (IsStoodOrPlaced c.args.part.now.kept) (g.D.Disk.told c.args.disk.now).bytes (g.D.Disk.told c.args.disk.now).may_leave c.args.disk.now c.make.new.disk
    c.requires.read (λ all b is made. inr (inl (ap is_blank (sym is) ∙ blank, made))) c.make.ensures.any_moment

pub returns-in_ok-make-clause-any_moment : goal.returns-in_ok-make-clause-any_moment
returns-in_ok-make-clause-any_moment g c =
    let blank : is_blank c.args.image.now ≡ true = sym c.in_ok-is_blank.ensures ∙ c.if-branch.true in
    known_run g.D.Disk.told (λ all. c.args.image.now ≡ all) (IsBlankOrMade c.args.part.now.kept) (IsStoodOrPlaced c.args.part.now.kept) (g.D.Disk.told c.args.disk.now).bytes (g.D.Disk.told c.args.disk.now).may_leave c.args.disk.now c.make.new.disk
    c.requires.read (λ all b is made. inr (inl (ap is_blank (sym is) ∙ blank, made))) c.make.ensures.any_moment

pub returns-in_err-found-clause-any_moment : goal.returns-in_err-found-clause-any_moment
returns-in_err-found-clause-any_moment g c =
    still_run g.D.Disk.told (λ all. c.args.image.now ≡ all) (IsStoodOrPlaced c.args.part.now.kept) (g.D.Disk.told c.args.disk.now).bytes c.args.disk.now
    (g.met.D.Disk.only_now c.args.disk.now) c.requires.read (λ all is. inl refl)

pub make-requires-clause-blank : goal.make-requires-clause-blank
make-requires-clause-blank g c =
    let blank : is_blank c.args.image.now ≡ true = sym c.in_ok-is_blank.ensures ∙ c.if-branch.true in
    holds_still (λ all. c.args.image.now ≡ all) (IsBlankFound c.is_cleared.result) (g.D.Disk.told c.args.disk.now).bytes (g.D.Disk.told c.args.disk.now).may_leave
    (λ all is. subst (IsBlankFound c.is_cleared.result) is (blank, sym c.is_cleared.ensures)) c.requires.read

pub renew-requires-clause-found : goal.renew-requires-clause-found
renew-requires-clause-found g c =
    holds_still (λ all. c.args.image.now ≡ all) (IsFound c.in_ok-found.found) (g.D.Disk.told c.args.disk.now).bytes (g.D.Disk.told c.args.disk.now).may_leave
    (λ all is. subst (IsFound c.in_ok-found.found) is c.in_ok-found.ensures.found) c.requires.read

pub returns-in_err-renew-clause-any_moment : goal.returns-in_err-renew-clause-any_moment
returns-in_err-renew-clause-any_moment g c =
    known_run g.D.Disk.told (λ all. c.args.image.now ≡ all) (λ all. IsOldOrNew (journal_in all) c.args.part.now.kept) (IsStoodOrPlaced c.args.part.now.kept) (g.D.Disk.told c.args.disk.now).bytes (g.D.Disk.told c.args.disk.now).may_leave c.args.disk.now c.renew.new.disk
    c.requires.read (λ all b is moved. inr (inr (found_some c.in_ok-found.found all (subst (IsFound c.in_ok-found.found) is c.in_ok-found.ensures.found), moved))) c.renew.ensures.any_moment

pub returns-in_ok-renew-clause-any_moment : goal.returns-in_ok-renew-clause-any_moment
returns-in_ok-renew-clause-any_moment g c =
    known_run g.D.Disk.told (λ all. c.args.image.now ≡ all) (λ all. IsOldOrNew (journal_in all) c.args.part.now.kept) (IsStoodOrPlaced c.args.part.now.kept) (g.D.Disk.told c.args.disk.now).bytes (g.D.Disk.told c.args.disk.now).may_leave c.args.disk.now c.renew.new.disk
    c.requires.read (λ all b is moved. inr (inr (found_some c.in_ok-found.found all (subst (IsFound c.in_ok-found.found) is c.in_ok-found.ensures.found), moved))) c.renew.ensures.any_moment

pub returns-in_ok-renew-clause-may : goal.returns-in_ok-renew-clause-may
returns-in_ok-renew-clause-may g c = inr (found_some c.in_ok-found.found c.args.image.now c.in_ok-found.ensures.found)
