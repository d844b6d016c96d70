-- What is heard of a switch that was asked: bytes that come in pieces, whole answers among them, and what is noted of these.
use Rattle.std.specs.Prelude.{◌≡◌, ◌⊎◌, ℕ, ◌+◌, ◌*◌, ◌-◌, ◌≤◌, Bool, true, false, List, [], ◌∷◌, ◌++◌, length, nat_lt, All, Option, Some, IfSome, if◌then◌else◌}
use Rattle.std.specs.Bool.{OnTrue}
use Rattle.wan_edge.specs.Frames.{AnswerFrame, HasOtherKind, IsAnswer, Splits, answer_bytes, answer_kind}
use Rattle.wan_edge.specs.Ports.{GoesOn, IsOneMore, NothingToCome, PortTrace}
use Rattle.wan_edge.specs.Streams.{Appends, Rose}
use Rattle.held_service.specs.Noting.{Notes, with_answers}
use Rattle.held_service.specs.Questions.{is_asked}
use Rattle.held_service.specs.declared.alien.Alien.{Alien}
use Rattle.held_service.specs.declared.alien.Alien.TheVariants as alien
use Rattle.held_service.specs.declared.not_told.NotTold.{NotTold}
use Rattle.held_service.specs.declared.not_told.NotTold.TheVariants as cause

-- an answer tells of an item that the switch is asked about
abbrev pub IsOwn : List (Option ℕ) → ℕ → AnswerFrame → Type 0
IsOwn homes switch a = is_asked homes switch a.1.item ≡ true

-- ---- bytes

-- Further bytes came. After what was kept of an answer that hadn't ended these whole answers stand at their front, and what is kept now is the rest.
pub record Reads (kept : List ℕ) (before : Option (List ℕ)) (answers : List AnswerFrame) (kept_now : List ℕ) (now : Option (List ℕ)) : Type 0 where
  pub bytes : List ℕ
  pub appended : Appends before bytes now
  pub whole : Splits answer_bytes IsAnswer (kept ++ bytes) answers kept_now

-- Further bytes came, and after whole answers at their front stands a byte that begins none.
pub record ReadsNone (byte : ℕ) (kept : List ℕ) (before now : Option (List ℕ)) : Type 0 where
  pub bytes : List ℕ
  pub appended : Appends before bytes now
  pub answers : List AnswerFrame
  pub rest : List ℕ
  pub whole : Splits answer_bytes IsAnswer (kept ++ bytes) answers rest
  pub other : HasOtherKind answer_kind rest byte

-- Further bytes came, and the last of the answers among them tells of an item that the switch isn't asked about.
pub record ReadsOther (homes : List (Option ℕ)) (switch item : ℕ) (kept : List ℕ) (before now : Option (List ℕ)) : Type 0 where
  pub earlier : List AnswerFrame
  pub answer : AnswerFrame
  pub kept_now : List ℕ
  pub reads : Reads kept before (earlier ++ answer ∷ []) kept_now now
  pub item_is : item ≡ answer.1.item
  pub other : is_asked homes switch item ≡ false

-- ---- one byte

-- What is read of the next byte: the answer that ends with it, if one does, is noted, and each byte brings the end of the last awaited answer nearer.
pub record TakesByte (homes : List (Option ℕ)) (switch : ℕ) (piece : List ℕ) (awaited awaited_now : ℕ) (kept : List ℕ) (notes : Notes) (kept_now : List ℕ) (notes_now : Notes) : Type 0 where
  pub answers : List AnswerFrame
  pub whole : Splits answer_bytes IsAnswer (kept ++ piece) answers kept_now
  pub own : All (IsOwn homes switch) answers
  pub noted : notes_now ≡ with_answers notes answers
  pub counted : awaited_now + length answers ≡ awaited
  pub nearer : 13 * awaited_now + length kept + 1 ≡ 13 * awaited + length kept_now

-- an answer ends with the piece, and tells of an item that the switch isn't asked about
pub record EndsOther (homes : List (Option ℕ)) (switch item : ℕ) (bytes : List ℕ) : Type 0 where
  pub answer : AnswerFrame
  pub whole : Splits answer_bytes IsAnswer bytes (answer ∷ []) []
  pub item_is : item ≡ answer.1.item
  pub other : is_asked homes switch item ≡ false

-- what can't be among these bytes: one that begins no answer, or an answer about another item
abbrev pub IsAlien : List (Option ℕ) → ℕ → Alien → List ℕ → Type 0
IsAlien homes switch (alien.Byte byte) bytes = HasOtherKind answer_kind bytes byte
IsAlien homes switch (alien.Item item) bytes = EndsOther homes switch item bytes

-- why a talk with a switch ends that told it
abbrev pub named_at : ℕ → Alien → NotTold
named_at switch (alien.Byte byte) = cause.NoAnswer switch byte
named_at switch (alien.Item item) = cause.NotAsked switch item

-- ---- calls

-- Answers came, and were noted: so many fewer are awaited. Nothing went out, and the port was never quiet.
pub record Hears (homes : List (Option ℕ)) (switch awaited awaited_now : ℕ) (kept : List ℕ) (notes : Notes) (before : PortTrace) (kept_now : List ℕ) (notes_now : Notes) (now : PortTrace) : Type 0 where
  pub answers : List AnswerFrame
  pub reads : Reads kept before.heard answers kept_now now.heard
  pub own : All (IsOwn homes switch) answers
  pub noted : notes_now ≡ with_answers notes answers
  pub counted : awaited_now + length answers ≡ awaited
  pub as_quiet : now.quiet ≡ before.quiet
  pub unsent : now.offered ≡ before.offered
  pub goes_on : GoesOn before now

-- Nothing came, which the port counted: a prompt one has given all its answers.
pub record HearsNothing (before now : PortTrace) : Type 0 where
  pub given : OnTrue before.prompt (NothingToCome before.start now.offered now.heard)
  pub heard : Appends before.heard [] now.heard
  pub quieter : IsOneMore before.quiet now.quiet
  pub unsent : now.offered ≡ before.offered
  pub goes_on : GoesOn before now

-- what one more hear came to: a byte, or nothing
pub record HearsByte (homes : List (Option ℕ)) (switch awaited awaited_now : ℕ) (kept : List ℕ) (notes : Notes) (before : PortTrace) (kept_now : List ℕ) (notes_now : Notes) (now : PortTrace) : Type 0 where
  pub hears : Hears homes switch awaited awaited_now kept notes before kept_now notes_now now
  pub nearer : 13 * awaited_now + length kept + 1 ≡ 13 * awaited + length kept_now

pub record HearsNone (awaited awaited_now : ℕ) (kept : List ℕ) (notes : Notes) (before : PortTrace) (kept_now : List ℕ) (notes_now : Notes) (now : PortTrace) : Type 0 where
  pub nothing : HearsNothing before now
  pub awaited_is : awaited_now ≡ awaited
  pub kept_is : kept_now ≡ kept
  pub notes_are : notes_now ≡ notes

abbrev pub HearsNext : List (Option ℕ) → ℕ → Bool → ℕ → ℕ → List ℕ → Notes → PortTrace → List ℕ → Notes → PortTrace → Type 0
HearsNext homes switch true awaited awaited_now kept notes before kept_now notes_now now = HearsByte homes switch awaited awaited_now kept notes before kept_now notes_now now
HearsNext homes switch false awaited awaited_now kept notes before kept_now notes_now now = HearsNone awaited awaited_now kept notes before kept_now notes_now now

-- so many more hears gave nothing, where that is told
abbrev pub QuietBy : ℕ → Option ℕ → Option ℕ → Type 0
QuietBy times before now = IfSome now (λ after. (times ≤ after) × (before ≡ Some (after - times)))

-- 1 where fewer answers came than were awaited
abbrev pub lacking : ℕ → ℕ → ℕ
lacking awaited came = if nat_lt came awaited then 1 else 0

-- Of so many answers that were awaited these came, and where they are fewer, the port was quiet once after them: a prompt one has given all its answers.
pub record HearsOut (homes : List (Option ℕ)) (switch awaited : ℕ) (kept : List ℕ) (notes : Notes) (before : PortTrace) (kept_now : List ℕ) (notes_now : Notes) (now : PortTrace) : Type 0 where
  pub answers : List AnswerFrame
  pub reads : Reads kept before.heard answers kept_now now.heard
  pub own : All (IsOwn homes switch) answers
  pub noted : notes_now ≡ with_answers notes answers
  pub few : length answers ≤ awaited
  pub quiet : QuietBy (lacking awaited (length answers)) before.quiet now.quiet
  pub given : OnTrue before.prompt ((awaited ≤ length answers) ⊎ NothingToCome before.start now.offered now.heard)
  pub unsent : now.offered ≡ before.offered
  pub goes_on : GoesOn before now

-- ---- what ends a talk

-- The port failed, and its count rose; what can't be was told; or memory ran out. No hear says that rounds are spent or that there is no port.
abbrev pub IsWhy : List (Option ℕ) → ℕ → NotTold → List ℕ → PortTrace → PortTrace → Type 0
IsWhy homes switch (cause.Spent item) kept before now = ⊥
IsWhy homes switch (cause.NoPort w) kept before now = ⊥
IsWhy homes switch (cause.Port w) kept before now = (w ≡ switch) × Rose before.faults now.faults
IsWhy homes switch (cause.NotAsked w item) kept before now = (w ≡ switch) × ReadsOther homes switch item kept before.heard now.heard
IsWhy homes switch (cause.NoAnswer w byte) kept before now = (w ≡ switch) × ReadsNone byte kept before.heard now.heard
IsWhy homes switch cause.Memory kept before now = Unit {0}

-- the talk ended while the port was heard
pub record StopsHearing (homes : List (Option ℕ)) (switch : ℕ) (why : NotTold) (kept : List ℕ) (before now : PortTrace) : Type 0 where
  pub cause : IsWhy homes switch why kept before now
  pub unsent : now.offered ≡ before.offered
  pub goes_on : GoesOn before now
