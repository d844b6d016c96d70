use Rattle.std.proofs.Common.{◌≡◌, List, ℕ, Err, true, length, refl, ap, subst, ◌∙◌}
use Rattle.rollout_rules.specs.History.{places_of, started}
use Rattle.rollout_rules.specs.Legal.{is_sound}
use Rattle.dependency_graph.specs.FirstFault.{IsFirstFault, TellsSound}
use Rattle.fence_takeover.proofs.Starts.{begins-at, tells-also}
use Rattle.fence_takeover.proofs.beginning.begin_at.Goals as goal

pub sound-requires : goal.sound-requires
sound-requires g c = ap (λ (xs : List ℕ). length xs) c.as_slice.ensures ∙ c.requires

pub open_at-requires-clause-sound : goal.open_at-requires-clause-sound
open_at-requires-clause-sound g c =
    let r = c.args.plan in
    subst (λ (xs : List ℕ). is_sound r.problem r.plan xs ≡ true) c.as_slice.ensures c.in-Ok.ensures.sound

pub returns-in-Ok : goal.returns-in-Ok
returns-in-Ok g c =
    let r = c.args.plan in
    let may = subst (λ (xs : List ℕ). is_sound r.problem r.plan xs ≡ true) c.as_slice.ensures c.in-Ok.ensures.sound in
    begins-at g.D.Disk.told r c.args.migration c.args.start c.args.disk c.args.room c.open_at.result.answer c.open_at.result.disk may c.open_at.ensures

pub returns-in-Err : goal.returns-in-Err
returns-in-Err g c =
    let r = c.args.plan in
    let f = c.in-Err.fault in
    record {
      same = refl;
      unsound = tells-also (Unit {0}) ℕ f (is_sound r.problem r.plan c.args.start) (subst (λ (xs : List ℕ). TellsSound {A = Unit {0}} (Err f) (is_sound r.problem r.plan xs)) c.as_slice.ensures c.in-Err.ensures.sound);
      first = subst (λ (xs : List ℕ). IsFirstFault r.problem r.plan (places_of r.problem (started xs)) f) c.as_slice.ensures c.in-Err.ensures.first;
      as_it_was = refl;
    }
