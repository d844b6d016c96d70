-- A batch after the front of a part joins the front.
use Rattle.std.proofs.Common.{◌≡◌, ℕ, ◌+◌, ◌-◌, ◌<◌, ◌^◌, List, [], ◌∷◌, ◌++◌, length, drop, take, sym, ◌∙◌, ap, arith, length-append, length-drop}
use Rattle.std.proofs.lemmas.List.{append_assoc, append-nil}
use Rattle.intent_journal.specs.Parts.{Kept, Slot, batch_body, batches_of, is_whole, kept_in, open_batch, size_of}
use Rattle.intent_journal.specs.States.{AreRows, Stands, with_more}
use Rattle.intent_journal.proofs.Batches.{batches_open}

-- how long an image is in which this part stands
pub part_long : (start : ℕ) (image front tail : List ℕ) → drop start image ≡ front ++ tail → 0 < length tail → start + length front < length image
part_long start image front tail part some = omega (arith, ap length part, length-append front tail, length-drop start image, some)

-- nothing more
pub with_more-nothing : (kept : Kept) → with_more kept [] ≡ kept
with_more-nothing kept = ap (λ (rows : List (List ℕ)). record kept { rows = rows }) (append-nil kept.rows)

-- first the one and then the other
pub with_more-twice : (kept : Kept) (first second : List (List ℕ)) → with_more kept (first ++ second) ≡ with_more (with_more kept first) second
with_more-twice kept first second = ap (λ (rows : List (List ℕ)). record kept { rows = rows }) (sym (append_assoc kept.rows first second))

-- the front with an open gate and this batch
abbrev pub longer : List ℕ → List (List ℕ) → List ℕ
longer front batch = front ++ open_batch ∷ batch_body batch

pub length-longer : (front : List ℕ) (batch : List (List ℕ)) → length (longer front batch) ≡ length front + 1 + length (batch_body batch)
length-longer front batch = omega (arith, length-append front (open_batch ∷ batch_body batch))

pub Stands-more : (slot : Slot) (front : List ℕ) (kept : Kept) (batch : List (List ℕ)) → Stands slot front kept → AreRows batch → length batch < 2 ^ 32
    → length (longer front batch) < size_of slot → Stands slot (longer front batch) (with_more kept batch)
Stands-more slot front kept batch stands are few room =
    let long = length-longer front batch in
    let apart : (tail : List ℕ) → longer front batch ++ tail ≡ front ++ (open_batch ∷ (batch_body batch ++ tail)) =
    λ tail. append_assoc front (open_batch ∷ batch_body batch) tail in
    record {
      fits = room;
      whole = λ tail some. ap (is_whole slot) (apart tail) ∙ stands.whole (open_batch ∷ (batch_body batch ++ tail)) (omega arith);
      keeps = λ tail some.
          let left : size_of slot - length front - (1 + length (batch_body batch)) ≡ size_of slot - length (longer front batch) = omega (arith, long, room) in
          ap (kept_in slot) (apart tail)
          ∙ stands.keeps (open_batch ∷ (batch_body batch ++ tail)) (omega arith)
          ∙ ap (with_more kept) (batches_open batch tail (size_of slot - length front) are few some (omega (arith, long, room)))
          ∙ with_more-twice kept batch (batches_of (take (size_of slot - length front - (1 + length (batch_body batch))) tail))
          ∙ ap (λ (k : ℕ). with_more (with_more kept batch) (batches_of (take k tail))) left;
    }
