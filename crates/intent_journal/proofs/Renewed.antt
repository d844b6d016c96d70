-- What stands once a journal was written anew.
use Rattle.std.proofs.Common.{◌≡◌, ℕ, ◌+◌, ◌-◌, ◌<◌, ◌^◌, List, [], ◌∷◌, length, Option, Some, None, subst, ◌∙◌, ap, arith, length-append}
use Rattle.disk_model.specs.Crashes.{Holds}
use Rattle.intent_journal.specs.Parts.{new_front}
use Rattle.intent_journal.specs.Phases.{IsPlanned, IsRenewed, Planned, slot_for}
use Rattle.intent_journal.specs.Renewals.{IsMoved}
use Rattle.intent_journal.specs.States.{Home, IsAtRest}
use Rattle.intent_journal.proofs.Laying.{second_is, second_size}
use Rattle.intent_journal.proofs.NewParts.{length-new_front}
use Rattle.intent_journal.proofs.Switches.{moved_fresh, moved_rest}

module _ (this other start : ℕ) (part : Planned) (bytes : List ℕ) (planned : IsPlanned part bytes) (small : start < 2 ^ 62) where
  abbrev home : Home
  home = record { this = this; other = other; slot = slot_for start part.size }

  long : length bytes ≡ length (new_front part.kept) + 1
  long = ap length planned.is ∙ length-append (new_front part.kept) (0 ∷ [])

  is_gate : home.slot.start + length (new_front part.kept) ≡ start + length bytes - 1
  is_gate = omega (arith, long)

  -- the journal is at rest in the part that was written
  pub renewed : (told : Option (List ℕ)) (left : List ℕ → Type 0) → Holds (IsMoved home part) told left → IsRenewed (start + length bytes - 1) (start + part.size) part told left
  renewed None left moved = record {
    kept = record { rest = tt; durable = tt };
    fresh = tt;
    room = omega (arith, long, length-new_front part.kept planned.can_be);
    small = omega (arith, small, planned.small);
  }
  renewed (Some image) left moved = record {
    kept = record {
      rest = (
        home,
        subst (λ (gate : ℕ). IsAtRest home gate image) is_gate (moved_rest home part image moved.0).0,
        omega (arith, second_size start part.size),
      );
      durable = moved.1;
    };
    fresh = moved_fresh home part image moved.0 (second_is start part.size);
    room = omega (arith, long, length-new_front part.kept planned.can_be);
    small = omega (arith, small, planned.small);
  }
