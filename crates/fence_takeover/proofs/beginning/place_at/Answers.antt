use Rattle.std.proofs.Common.{◌≡◌, ◌∙◌, List, ℕ, true, length, sym, ap, subst}
use Rattle.std.proofs.lemmas.Result.{IfOk-weaker}
use Rattle.rollout_rules.specs.History.{started}
use Rattle.rollout_rules.specs.Legal.{is_sound}
use Rattle.intent_journal.specs.Parts.{Kept}
use Rattle.intent_journal.specs.Placements.{placed_kept}
use Rattle.rollback_service.specs.Placings.{HasPlaced, MayPlace}
use Rattle.rollback_service.proofs.Placings.{still-there}
use Rattle.fence_takeover.specs.Beginnings.{PlacesAt, taken_kept}
use Rattle.fence_takeover.proofs.Starts.{kept-taken, places-at, places-none}
use Rattle.fence_takeover.proofs.beginning.place_at.Goals as goal

pub known_at-requires-clause-numbers : goal.known_at-requires-clause-numbers
known_at-requires-clause-numbers g c = ap (λ (xs : List ℕ). length xs) c.as_slice.ensures ∙ c.requires.numbers

pub known_at-requires-clause-sound : goal.known_at-requires-clause-sound
known_at-requires-clause-sound g c =
    let r = c.args.plan in
    subst (λ (xs : List ℕ). is_sound r.problem r.plan xs ≡ true) (sym c.as_slice.ensures) c.requires.sound

pub place_known-requires : goal.place_known-requires
place_known-requires g c = λ item inside. still-there c.in-Ok.known.graph c.as_slice.result.now item c.in-Ok.ensures.history

pub returns-in-Ok : goal.returns-in-Ok
returns-in-Ok g c =
    let trace = g.D.Disk.told in
    let r = c.args.plan in
    let known = c.in-Ok.known in
    let told = c.in-Ok.ensures in
    let given = c.place_known.result in
    let kept : placed_kept known.digest known.graph ≡ taken_kept r c.args.migration c.args.start =
    kept-taken known.digest known.graph r c.args.migration c.args.start told.digest told.rollout (told.history ∙ ap started c.as_slice.ensures) c.requires.numbers in
    let may = subst (λ (k : Kept). MayPlace trace k c.args.disk given.disk) kept c.place_known.ensures.may in
    let placed = IfOk-weaker given.answer _ _ (λ there both. (both.0 ∙ told.rollout, subst (λ (k : Kept). HasPlaced trace k given.disk) kept both.1)) c.place_known.ensures.placed in
    subst (λ disk. PlacesAt c.begun_of.result.answer trace r c.args.migration c.args.start c.args.disk disk) (sym c.begun_of.ensures.disk)
    (places-at trace r c.args.migration c.args.start c.args.disk given.answer c.begun_of.result.answer given.disk c.begun_of.ensures.answer may placed c.place_known.ensures.err)

pub returns-in-Err : goal.returns-in-Err
returns-in-Err g c = places-none g.D.Disk.told c.args.plan c.args.migration c.args.start c.args.disk (g.met.D.Disk.only_now c.args.disk)
