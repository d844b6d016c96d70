-- How a journal stands between two appends, and what an append may leave.
use Rattle.std.specs.Prelude.{◌≡◌, ◌≢◌, ◌⊎◌, ⊤, ℕ, ◌+◌, ◌-◌, ◌<◌, ◌^◌, true, List, [], ◌∷◌, ◌++◌, length, take, drop, Option, Some}
use Rattle.std.specs.Option.{option_map}
use Rattle.disk_model.specs.Crashes.{Only}
use Rattle.disk_model.specs.Numbers.{byte_at}
use Rattle.intent_journal.specs.Parts.{Kept, Slot, batch_body, batches_of, is_whole, kept_in, open_batch, size_of}
use Rattle.intent_journal.specs.Images.{first_side, is_placed, journal_in, open_journal, open_slot, second_side, slot_at}

-- the same with these rows after the list
abbrev pub with_more : Kept → List (List ℕ) → Kept
with_more kept more = record kept { rows = kept.rows ++ more }

-- Whatever stands after this front of a part, the part keeps this, and the batches that stand there.
pub record Stands (slot : Slot) (front : List ℕ) (kept : Kept) : Type 0 where
  pub fits : length front < size_of slot
  pub whole : (tail : List ℕ) → 0 < length tail → is_whole slot (front ++ tail) ≡ true
  pub keeps : (tail : List ℕ) → 0 < length tail → kept_in slot (front ++ tail) ≡ with_more kept (batches_of (take (size_of slot - length front) tail))

-- the side of the live slot, that of the other, and the live slot
pub record Home : Type 0 where
  pub this : ℕ
  pub other : ℕ
  pub slot : Slot

-- the journal's gate and this slot's are open, and the other slot's isn't
pub record IsAlone (home : Home) (image : List ℕ) : Type 0 where
  pub sides : ((home.this ≡ first_side) × (home.other ≡ second_side)) ⊎ ((home.this ≡ second_side) × (home.other ≡ first_side))
  pub journal : byte_at 0 image ≡ open_journal
  pub is : slot_at home.this image ≡ home.slot
  pub gate : home.slot.gate ≡ open_slot
  pub placed : is_placed home.slot ≡ true
  pub other_closed : byte_at home.other image ≢ open_slot

-- One slot is open, and at this gate its part ends: the gate is closed, and after it stands anything.
pub record IsAtRest (home : Home) (gate : ℕ) (image : List ℕ) : Type 0 where
  pub alone : IsAlone home image
  pub front : List ℕ
  pub mark : ℕ
  pub behind : List ℕ
  pub kept : Kept
  pub stands : Stands home.slot front kept
  pub part : drop home.slot.start image ≡ front ++ (mark ∷ behind)
  pub closed : mark ≢ open_batch
  pub at : gate ≡ home.slot.start + length front

-- The live part of an image ends at this gate: it is closed, and the batches of later appends stand from there on.
abbrev pub IsGate : ℕ → List ℕ → Type 0
IsGate gate image = (home : Home) × IsAtRest home gate image

-- each row has nine bytes
abbrev pub AreRows : List (List ℕ) → Type 0
AreRows [] = ⊤
AreRows (row ∷ later) = (length row ≡ 9) × AreRows later

-- These bytes are those of a batch and of a closed gate after it, and there is room for them after this gate.
pub record IsBody (home : Home) (gate : ℕ) (batch : List (List ℕ)) (body : List ℕ) : Type 0 where
  pub are_rows : AreRows batch
  pub few : length batch < 2 ^ 32
  pub is : body ≡ batch_body batch ++ 0 ∷ []
  pub room : gate + length body < home.slot.start + size_of home.slot

-- what a journal keeps, with this batch after it
abbrev pub added : Option Kept → List (List ℕ) → Option Kept
added kept batch = option_map (λ k. with_more k batch) kept

-- an image that keeps what was kept, or that with the batch
abbrev pub IsBeforeOrAfter : Option Kept → List (List ℕ) → List ℕ → Type 0
IsBeforeOrAfter kept batch image = (journal_in image ≡ kept) ⊎ (journal_in image ≡ added kept batch)

-- A batch and a closed gate were written after this gate, which may be anything.
pub record IsStaged (home : Home) (gate : ℕ) (batch : List (List ℕ)) (kept : Kept) (image : List ℕ) : Type 0 where
  pub alone : IsAlone home image
  pub front : List ℕ
  pub mark : ℕ
  pub more : List ℕ
  pub stands : Stands home.slot front kept
  pub part : drop home.slot.start image ≡ front ++ (mark ∷ (batch_body batch ++ 0 ∷ more))
  pub at : gate ≡ home.slot.start + length front

-- The batch is on the disk: a crash leaves what a read gives, which is at rest after the batch and keeps what was kept with it.
pub record IsCommitted (home : Home) (gate : ℕ) (batch : List (List ℕ)) (body before : List ℕ) (told : Option (List ℕ)) (left : List ℕ → Type 0) : Type 0 where
  pub now : List ℕ
  pub is_told : told ≡ Some now
  pub durable : Only now left
  pub rest : IsAtRest home (gate + length body) now
  pub keeps : journal_in now ≡ added (journal_in before) batch

-- each number has four bytes
abbrev pub AreSmall : List ℕ → Type 0
AreSmall [] = ⊤
AreSmall (n ∷ later) = (n < 2 ^ 32) × AreSmall later

-- a part of the second format can keep this
pub record CanBeKept (kept : Kept) : Type 0 where
  pub digest : length kept.digest ≡ 32
  pub migration : kept.migration < 2 ^ 32
  pub starts : AreSmall kept.starts
  pub few_starts : length kept.starts < 2 ^ 32
  pub are_rows : AreRows kept.rows
  pub few_rows : length kept.rows < 2 ^ 32
