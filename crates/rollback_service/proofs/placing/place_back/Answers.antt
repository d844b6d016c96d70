use Rattle.std.proofs.Common.{◌≡◌, ◌∙◌, ap, sym, subst}
use Rattle.std.proofs.lemmas.Result.{IfOk-weaker}
use Rattle.rollout_rules.specs.History.{started}
use Rattle.intent_journal.specs.Parts.{Kept}
use Rattle.intent_journal.specs.Placements.{placed_kept}
use Rattle.rollback_service.specs.Levellings.{IsStartBack}
use Rattle.rollback_service.specs.Placings.{HasPlaced, MayPlace, kept_from}
use Rattle.rollback_service.proofs.Placings.{kept-is, never-placed, not-placed, still-there}
use Rattle.rollback_service.proofs.placing.place_back.Goals as goal

pub way_back-requires-clause-start : goal.way_back-requires-clause-start
way_back-requires-clause-start g c = subst (IsStartBack c.args.plan) (sym c.as_slice.ensures) c.requires.start

pub place_known-requires : goal.place_known-requires
place_known-requires g c = λ item inside. still-there c.in-Ok.known.graph c.as_slice.result.now item c.in-Ok.ensures.history

pub returns-in-Ok-clause-may : goal.returns-in-Ok-clause-may
returns-in-Ok-clause-may g c =
    subst (λ (kept : Kept). MayPlace g.D.Disk.told kept c.args.disk c.place_known.result.disk)
    (kept-is c.in-Ok.known.digest c.in-Ok.known.graph c.args.plan c.args.migration c.args.start c.in-Ok.ensures.digest c.in-Ok.ensures.rollout (c.in-Ok.ensures.history ∙ ap started c.as_slice.ensures) c.requires.start)
    c.place_known.ensures.may

pub returns-in-Ok-clause-placed : goal.returns-in-Ok-clause-placed
returns-in-Ok-clause-placed g c =
    let kept : placed_kept c.in-Ok.known.digest c.in-Ok.known.graph ≡ kept_from c.args.plan c.args.migration c.args.start =
    kept-is c.in-Ok.known.digest c.in-Ok.known.graph c.args.plan c.args.migration c.args.start c.in-Ok.ensures.digest c.in-Ok.ensures.rollout (c.in-Ok.ensures.history ∙ ap started c.as_slice.ensures) c.requires.start in
    IfOk-weaker c.place_known.result.answer _ _
    (λ there both. (both.0 ∙ c.in-Ok.ensures.rollout, subst (λ (k : Kept). HasPlaced g.D.Disk.told k c.place_known.result.disk) kept both.1)) c.place_known.ensures.placed

pub returns-clause-may : goal.returns-clause-may
returns-clause-may g c = never-placed g.D.Disk.told (kept_from c.args.plan c.args.migration c.args.start) c.args.disk (g.met.D.Disk.only_now c.args.disk)

pub returns-clause-err : goal.returns-clause-err
returns-clause-err g c = not-placed g.D.Disk.told c.args.disk
