-- What the steps of an append come to for a journal that is open.
use Rattle.std.proofs.Common.{◌≡◌, Bool, true, false, ℕ, ◌+◌, ◌*◌, ◌<◌, ◌≤◌, List, [], ◌∷◌, ◌++◌, length, Option, Some, None, IfSome, sym, subst, ap, arith, length-append}
use Rattle.std.specs.Bool.{OnTrue}
use Rattle.rollout_rules.specs.declared.op.Entry.{Entry}
use Rattle.wan_edge.specs.Streams.{KeepsTelling}
use Rattle.disk_model.specs.Crashes.{IsDurable, Only}
use Rattle.intent_journal.specs.Entries.{entry_rows}
use Rattle.intent_journal.specs.Opened.{HasAdded, HasRoom, IsKept}
use Rattle.intent_journal.specs.Parts.{batch_body, size_of}
use Rattle.intent_journal.specs.States.{Home, IsAtRest, IsBody, IsCommitted}
use Rattle.intent_journal.proofs.Batches.{length-batch_body}
use Rattle.intent_journal.proofs.Rows.{entry_rows-are, length-entry_rows}

pub length-body : (batch : List Entry) (body : List ℕ) → body ≡ batch_body (entry_rows batch) ++ 0 ∷ [] → length body ≡ 5 + 9 * length batch
length-body batch body is =
    omega (arith, ap length is, length-append (batch_body (entry_rows batch)) (0 ∷ []), length-batch_body (entry_rows batch) (entry_rows-are batch), length-entry_rows batch)

module _ (gate end entries most capacity : ℕ) (room : HasRoom gate end entries most capacity) (batch : List Entry) (some : 0 < length batch) (fits : entries + length batch ≤ most)
    (body : List ℕ) (is : body ≡ batch_body (entry_rows batch) ++ 0 ∷ []) where
  -- the batch is one, and there is room for it
  pub body_fits : (home : Home) → end ≡ home.slot.start + size_of home.slot → IsBody home gate (entry_rows batch) body
  body_fits home ends = record {
    are_rows = entry_rows-are batch;
    few = omega (arith, length-entry_rows batch, room.few, fits);
    is = is;
    room = omega (arith, length-body batch body is, room.on_disk, some, fits, ends);
  }

  -- and then for those that may still come
  pub room_after : HasRoom (gate + length body) end (entries + length batch) most capacity
  room_after = record {
    within = fits;
    few = room.few;
    on_disk = omega (arith, length-body batch body is, room.on_disk, some, fits);
    small = room.small;
    in_memory = room.in_memory;
  }

  -- what the steps say of each home and batch, at the home where the journal is at rest
  pub at_home : (told : Option (List ℕ)) (left : List ℕ → Type 0) (P : List ℕ → List (List ℕ) → Type 0) → IsKept gate end told left
      → IfSome told (λ image. (home : Home) (rows : List (List ℕ)) → IsAtRest home gate image → IsBody home gate rows body → Only image left → P image rows)
      → IfSome told (λ image. P image (entry_rows batch))
  at_home None left P kept says = tt
  at_home (Some image) left P kept says = says kept.rest.0 (entry_rows batch) kept.rest.1 (body_fits kept.rest.0 kept.rest.2) kept.durable

  pub added_after : (told told_new : Option (List ℕ)) (left left_new : List ℕ → Type 0) → IsKept gate end told left
      → IfSome told (λ image. (home : Home) (rows : List (List ℕ)) → IsAtRest home gate image → IsBody home gate rows body → IsCommitted home gate rows body image told_new left_new)
      → IfSome told (λ image. HasAdded batch image told_new left_new)
  added_after None told_new left left_new kept says = tt
  added_after (Some image) told_new left left_new kept says =
      let done = says kept.rest.0 (entry_rows batch) kept.rest.1 (body_fits kept.rest.0 kept.rest.2) in
      record { now = done.now; is_told = done.is_told; durable = done.durable; keeps = done.keeps }

  -- the journal is at rest after the batch
  pub kept_after : (told told_new : Option (List ℕ)) (left left_new : List ℕ → Type 0) → IsKept gate end told left → KeepsTelling told told_new → IsDurable told_new left_new
      → IfSome told (λ image. (home : Home) (rows : List (List ℕ)) → IsAtRest home gate image → IsBody home gate rows body → IsCommitted home gate rows body image told_new left_new)
      → IsKept (gate + length body) end told_new left_new
  kept_after None None left left_new kept keeps durable says = record { rest = tt; durable = durable }
  kept_after None (Some now) left left_new kept keeps durable says = absurd (cc keeps)
  kept_after (Some image) told_new left left_new kept keeps durable says =
      let home = kept.rest.0 in
      let done = says home (entry_rows batch) kept.rest.1 (body_fits home kept.rest.2) in
      record {
        rest = subst (λ (t : Option (List ℕ)). IfSome t (λ now. (h : Home) × IsAtRest h (gate + length body) now × (end ≡ h.slot.start + size_of h.slot))) (sym done.is_told) (home, done.rest, kept.rest.2);
        durable = durable;
      }

-- what holds where a flag is set
pub where_set : (flag : Bool) (P : Type 0) → OnTrue flag P → flag ≡ true → P
where_set true P holds set = holds
where_set false P holds set = absurd (cc set)

-- room in memory only grows
pub HasRoom-grows : (gate end entries most capacity more : ℕ) → HasRoom gate end entries most capacity → capacity ≤ more → HasRoom gate end entries most more
HasRoom-grows gate end entries most capacity more room grows = record {
  within = room.within;
  few = room.few;
  on_disk = room.on_disk;
  small = room.small;
  in_memory = omega (arith, room.in_memory, grows);
}
