-- What is given on of the bytes that come over a connection, and what is held back.
use Rattle.std.specs.Prelude.{◌≡◌, ◌≢◌, ◌⊎◌, ℕ, ◌<◌, ◌≤◌, List, [], ◌∷◌, ◌++◌, length, take, drop, Bool, true, false}
use Rattle.wan_edge.specs.Frames.{AnswerFrame, HasOtherKind, IsAnswer, IsCutAnswer, Splits, answer_bytes, answer_kind}
use Rattle.host_edge.specs.declared.front.Front.{Front}
use Rattle.host_edge.specs.declared.front.Front.TheVariants.{Cut, Other, Whole}

-- ---- answers, each with or without a floor in front

-- the first byte of a floor
abbrev pub floor_kind : ℕ
floor_kind = 0x46

-- what may stand in front of an answer: nothing, or a floor, which has four bytes after its first one
abbrev pub IsFront : List ℕ → Type 0
IsFront front = (front ≡ []) ⊎ ((four : List ℕ) × (length four ≡ 4) × (front ≡ floor_kind ∷ four))

-- an answer with what stands in front of it
pub record Fronted : Type 0 where
  pub front : List ℕ
  pub answer : AnswerFrame

abbrev pub fronted_bytes : Fronted → List ℕ
fronted_bytes a = a.front ++ answer_bytes a.answer

pub record IsFronted (a : Fronted) : Type 0 where
  pub front : IsFront a.front
  pub answer : IsAnswer a.answer

-- the front of one that hasn't ended: a part of an answer; or the first byte of a floor with four others at the most, or a whole floor with a part of an answer
pub record IsCutFloor (bytes : List ℕ) : Type 0 where
  pub behind : List ℕ
  pub parts : bytes ≡ floor_kind ∷ behind
  pub cut : (length behind ≤ 4) ⊎ IsCutAnswer (drop 4 behind)

abbrev pub IsCutFronted : List ℕ → Type 0
IsCutFronted bytes = IsCutAnswer bytes ⊎ IsCutFloor bytes

-- a byte stands in an answer's first place, after a floor or without one, with which no answer begins
pub record BeginsNone (bytes : List ℕ) : Type 0 where
  pub front : List ℕ
  pub is_front : IsFront front
  pub rest : List ℕ
  pub parts : bytes ≡ front ++ rest
  pub byte : ℕ
  pub other : HasOtherKind answer_kind rest byte
  pub no_floor : front ≡ [] → byte ≢ floor_kind

-- what stands at the front of some bytes: a whole one of so many bytes, a part of one that they all are, or neither
abbrev pub Fronts : List ℕ → Front → Type 0
Fronts bytes (Whole n) = (a : Fronted) × IsFronted a × (0 < n) × (n ≤ length bytes) × (fronted_bytes a ≡ take n bytes)
Fronts bytes Cut = IsCutFronted bytes
Fronts bytes Other = BeginsNone bytes

-- the same of an answer alone
abbrev pub FrontsAnswer : List ℕ → Front → Type 0
FrontsAnswer bytes (Whole n) = (a : AnswerFrame) × IsAnswer a × (0 < n) × (n ≤ length bytes) × (answer_bytes a ≡ take n bytes)
FrontsAnswer bytes Cut = IsCutAnswer bytes
FrontsAnswer bytes Other = (byte : ℕ) × HasOtherKind answer_kind bytes byte

-- ---- what is given on, and what is held back

-- bytes of whole answers that weren't given on yet, and the front of the answer that hasn't ended
pub record Held : Type 0 where
  pub ready : List ℕ
  pub cut : List ℕ

-- of a new connection
abbrev pub nothing_in : Held
nothing_in = record { ready = []; cut = [] }

abbrev pub is_empty_list : List ℕ → Bool
is_empty_list [] = true
is_empty_list (byte ∷ bytes) = false

-- Of these bytes the whole answers at their front are ready, each with its floor where it has one, and the front of the answer that hasn't ended is held back.
-- Where a byte stands in an answer's first place with which none begins, it is ready with all after it, since no answer will end there.
pub record HoldsBack (bytes : List ℕ) (now : Held) : Type 0 where
  pub parts : bytes ≡ now.ready ++ now.cut
  pub answers : List Fronted
  pub behind : List ℕ
  pub whole : Splits fronted_bytes IsFronted now.ready answers behind
  pub begun : IsCutFronted now.cut
  pub all : (behind ≡ []) ⊎ (BeginsNone behind × (now.cut ≡ []))

-- With this piece, which came now, some bytes of whole answers were given on, and others are ready still.
pub record GivesOn (before : Held) (piece given : List ℕ) (now : Held) : Type 0 where
  pub whole : List ℕ
  pub sorted : HoldsBack (before.cut ++ piece) (record { ready = whole; cut = now.cut })
  pub next : before.ready ++ whole ≡ given ++ now.ready
