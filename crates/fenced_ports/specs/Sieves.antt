-- What is made of the bytes that are heard of a switch whose answers have a floor in front.
use Rattle.std.specs.Prelude.{◌≡◌, ◌⊎◌, ℕ, ◌+◌, Bool, true, false, List, [], ◌∷◌, ◌++◌, Option, Some, None, Result, Ok, Err, IsErr, if◌then◌else◌}
use Rattle.wan_edge.specs.Ports.{IsOneMore, PortTrace}
use Rattle.wan_edge.specs.Streams.{Appends, Rose}
use Rattle.wan_edge.specs.declared.stream.Failed.{Failed}
use Rattle.fenced_ports.specs.Parts.{next_at, next_floor, part_of}
use Rattle.fenced_ports.specs.declared.part.Part.{Part}
use Rattle.fenced_ports.specs.declared.part.Part.TheVariants.{Alien, Low, Plain, Silent}

-- The place of the next byte and the floor so far; the bytes that were handed on; how many answers with a lower floor have ended; and whether a byte came
-- that can't stand where it stood, after which nothing is read.
pub record Sifting : Type 0 where
  pub at : ℕ
  pub floor : ℕ
  pub plain : List ℕ
  pub lows : ℕ
  pub broken : Bool

-- before the first byte
abbrev pub first_sifting : Sifting
first_sifting = record { at = 0; floor = 0; plain = []; lows = 0; broken = false }

-- one place on
abbrev pub moved : Sifting → ℕ → Sifting
moved s byte = record { at = next_at s.at; floor = next_floor s.at s.floor byte; plain = s.plain; lows = s.lows; broken = s.broken }

-- with a byte that is so
abbrev pub noted : Sifting → Part → Sifting
noted s Silent = s
noted s (Plain byte) = record { at = s.at; floor = s.floor; plain = s.plain ++ byte ∷ []; lows = s.lows; broken = s.broken }
noted s Low = record { at = s.at; floor = s.floor; plain = s.plain; lows = s.lows + 1; broken = s.broken }
noted s Alien = record { at = s.at; floor = s.floor; plain = s.plain; lows = s.lows; broken = true }

abbrev pub after_byte : ℕ → Sifting → ℕ → Sifting
after_byte term s byte = if s.broken then s else noted (moved s byte) (part_of term s.at s.floor byte)

abbrev pub after_bytes : ℕ → Sifting → List ℕ → Sifting
after_bytes term s [] = s
after_bytes term s (byte ∷ later) = after_bytes term (after_byte term s byte) later

-- further bytes were heard, and this is made of them
pub record Sifts (term : ℕ) (before : Option (List ℕ)) (s : Sifting) (now : Option (List ℕ)) (t : Sifting) : Type 0 where
  pub came : List ℕ
  pub heard : Appends before came now
  pub sifted : t ≡ after_bytes term s came

-- ---- one byte

-- A byte was heard, and nothing went out.
pub record HearsByte (byte : ℕ) (before now : PortTrace) : Type 0 where
  pub heard : Appends before.heard (byte ∷ []) now.heard
  pub as_quiet : now.quiet ≡ before.quiet
  pub unsent : now.offered ≡ before.offered

-- Nothing was there.
pub record HearsNothing (before now : PortTrace) : Type 0 where
  pub heard : now.heard ≡ before.heard
  pub quieter : IsOneMore before.quiet now.quiet
  pub unsent : now.offered ≡ before.offered

abbrev pub HearsOne : Option ℕ → PortTrace → PortTrace → Type 0
HearsOne None before now = HearsNothing before now
HearsOne (Some byte) before now = HearsByte byte before now

-- ---- up to one that is handed on

-- what bytes have changed of which the last one is so, and those before it silent
abbrev pub AfterPart : Part → Sifting → Sifting → Type 0
AfterPart Silent s t = (t.plain ≡ s.plain) × (t.lows ≡ s.lows) × (t.broken ≡ false)
AfterPart (Plain byte) s t = (t.plain ≡ s.plain ++ byte ∷ []) × (t.lows ≡ s.lows) × (t.broken ≡ false)
AfterPart Low s t = (t.plain ≡ s.plain) × (t.lows ≡ s.lows + 1) × (t.broken ≡ false)
AfterPart Alien s t = (t.plain ≡ s.plain) × (t.lows ≡ s.lows) × (t.broken ≡ true)

-- what is given where the last byte is so; none of the silent ones is the last
abbrev pub IsHandedOn : Part → Result (Option ℕ) Failed → Type 0
IsHandedOn Silent given = given ≡ Ok None
IsHandedOn (Plain byte) given = given ≡ Ok (Some byte)
IsHandedOn Low given = given ≡ Ok None
IsHandedOn Alien given = IsErr given

-- A byte is handed on.
pub record HandsOn (byte : ℕ) (s t : Sifting) : Type 0 where
  pub more : t.plain ≡ s.plain ++ byte ∷ []
  pub whole : t.broken ≡ false

-- None is: the port gave nothing, or an answer with a lower floor has ended.
pub record HandsNothing (before : PortTrace) (s : Sifting) (now : PortTrace) (t : Sifting) : Type 0 where
  pub same : t.plain ≡ s.plain
  pub whole : t.broken ≡ false
  pub why : IsOneMore before.quiet now.quiet ⊎ (t.lows ≡ s.lows + 1)

-- The port failed, or a byte came that can't stand where it stood.
pub record HandsFault (before : PortTrace) (s : Sifting) (now : PortTrace) (t : Sifting) : Type 0 where
  pub same : t.plain ≡ s.plain
  pub why : Rose before.faults now.faults ⊎ (t.broken ≡ true)

abbrev pub Hands : Result (Option ℕ) Failed → PortTrace → Sifting → PortTrace → Sifting → Type 0
Hands (Ok (Some byte)) before s now t = HandsOn byte s t
Hands (Ok None) before s now t = HandsNothing before s now t
Hands (Err e) before s now t = HandsFault before s now t
