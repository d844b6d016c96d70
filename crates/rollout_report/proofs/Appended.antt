-- The two writes of an append go on from where the journal stood.
use Rattle.std.proofs.Common.{◌≡◌, ◌⊎◌, inl, inr, ℕ, ◌+◌, ◌<◌, ◌≤◌, List, ◌∷◌, ◌++◌, length, take, sym, ◌∙◌, ap, arith}
use Rattle.std.proofs.lemmas.Bool.{cases_eq}
use Rattle.std.proofs.lemmas.List.{take-take}
use Rattle.disk_model.specs.Writes.{Torn, written}
use Rattle.disk_model.proofs.Tearing.{Torn-written}
use Rattle.intent_journal.specs.Parts.{batch_body, open_batch}
use Rattle.intent_journal.specs.States.{Home, IsAtRest, IsBody}
use Rattle.intent_journal.proofs.Committing.{opened_rest, staged, torn_rest, torn_stage}
use Rattle.intent_journal.proofs.Fronts.{part_long}
use Rattle.rollout_report.specs.Watching.{HasGoneOn, Moment}

module _ (home : Home) (now : Moment) (rest : IsAtRest home now.gate now.image) where
  inside : now.gate < length now.image
  inside = omega (arith, rest.at, part_long home.slot.start now.image rest.front (rest.mark ∷ rest.behind) rest.part (omega arith))

  -- a write after the gate leaves what is before it
  before_gate : (n : ℕ) (image : List ℕ) → Torn (now.gate + 1) n now.image image → take now.gate image ≡ take now.gate now.image
  before_gate n image torn =
      let less : now.gate ≤ now.gate + 1 = omega arith in
      sym (take-take now.gate (now.gate + 1) image less) ∙ ap (take now.gate) (torn.before (omega (arith, inside))) ∙ take-take now.gate (now.gate + 1) now.image less

  pub batch-goes_on : (batch : List (List ℕ)) (body image : List ℕ) → IsBody home now.gate batch body → Torn (now.gate + 1) (length body) now.image image
      → HasGoneOn home now (record { image = image; gate = now.gate })
  batch-goes_on batch body image is_body torn = record {
    further = omega arith;
    same = before_gate (length body) image torn;
    rest = (torn_rest home now.gate now.image rest (length body) image torn).0;
  }

  module _ (batch : List (List ℕ)) (body image : List ℕ) (is_body : IsBody home now.gate batch body) (torn : Torn now.gate 1 (written (now.gate + 1) body now.image) image) where
    between : List ℕ
    between = written (now.gate + 1) body now.image

    long : length now.image ≤ length between
    unfolding between
    long = (Torn-written (now.gate + 1) body now.image).no_shorter

    same : take now.gate image ≡ take now.gate now.image
    unfolding between
    same = torn.before (omega (arith, inside, long)) ∙ before_gate (length body) between (Torn-written (now.gate + 1) body now.image)

    pub gate-goes_on : HasGoneOn home now (record { image = image; gate = now.gate }) ⊎ HasGoneOn home now (record { image = image; gate = now.gate + length body })
    unfolding between
    gate-goes_on =
        let stage = staged home now.gate now.image rest batch body is_body in
        let after = torn_stage home now.gate batch body is_body rest.kept between stage image torn in
        elim (cases_eq after.mark open_batch) [
          | inl is_open ↦
              let ended = opened_rest home now.gate batch body is_body rest.kept image after after.front after.more after.alone after.stands (after.part ∙ ap (λ (m : ℕ). after.front ++ (m ∷ (batch_body batch ++ 0 ∷ after.more))) is_open) after.at in
              inr (record { further = omega arith; same = same; rest = ended.0 })
          | inr shut ↦ inl (record {
            further = omega arith;
            same = same;
            rest = record {
              alone = after.alone;
              front = after.front;
              mark = after.mark;
              behind = batch_body batch ++ 0 ∷ after.more;
              kept = rest.kept;
              stands = after.stands;
              part = after.part;
              closed = shut;
              at = after.at;
            };
          })
        ]
