-- Answers with a floor in front, byte by byte: which bytes are handed on, for a controller of a term. A frame is a first byte, the four bytes of the
-- floor and the thirteen of the answer. An answer with a lower floor was given before its switch heard of the term, and tells nothing.
use Rattle.std.specs.Prelude.{ℕ, ◌+◌, ◌-◌, ◌*◌, ◌%◌, ◌^◌, ◌==◌, nat_lt, Bool, true, false, if◌then◌else◌}
use Rattle.wan_edge.specs.Frames.{answer_kind}
use Rattle.fenced_agent.specs.Frames.{fence_kind}
use Rattle.fenced_ports.specs.declared.part.Part.{Part}
use Rattle.fenced_ports.specs.declared.part.Part.TheVariants.{Alien, Low, Plain, Silent}

abbrev pub is_silent : Part → Bool
is_silent Silent = true
is_silent (Plain byte) = false
is_silent Low = false
is_silent Alien = false

-- how many bytes may be heard from a place on until one isn't silent, where the last one was so
abbrev pub left : Part → ℕ → ℕ
left Silent at = 19 - at
left (Plain byte) at = 0
left Low at = 0
left Alien at = 0

-- ---- where one stands

-- the place after this one, of the eighteen of a frame
abbrev pub next_at : ℕ → ℕ
next_at at = if nat_lt at 17 then at + 1 else 0

-- the number that the last four bytes make, with this one
abbrev pub shifted : ℕ → ℕ → ℕ
shifted floor byte = (floor * 256 + byte) % 2 ^ 32

-- the floor so far: it is whole after the fifth byte
abbrev pub next_floor : ℕ → ℕ → ℕ → ℕ
next_floor at floor byte = if nat_lt at 5 then shifted floor byte else floor

-- ---- what a byte is

-- in the first place
abbrev pub first_byte : ℕ → Part
first_byte byte = if byte == fence_kind then Silent else Alien

-- the last of a floor, which is this one with it
abbrev pub last_of_floor : ℕ → ℕ → Part
last_of_floor term floor = if nat_lt term floor then Alien else Silent

-- in front of the answer
abbrev pub head_byte : ℕ → ℕ → ℕ → ℕ → Part
head_byte term at floor byte = if at == 0 then first_byte byte else if at == 4 then last_of_floor term (shifted floor byte) else Silent

-- in the first place of an answer with a lower floor: where none begins so, that is handed on
abbrev pub in_answers_place : ℕ → Part
in_answers_place byte = if byte == answer_kind then Silent else Plain byte

-- after a lower floor
abbrev pub lower_byte : ℕ → ℕ → Part
lower_byte at byte = if at == 5 then in_answers_place byte else if at == 17 then Low else Silent

-- after a floor
abbrev pub answer_byte : ℕ → ℕ → ℕ → ℕ → Part
answer_byte term at floor byte = if nat_lt floor term then lower_byte at byte else Plain byte

abbrev pub part_of : ℕ → ℕ → ℕ → ℕ → Part
part_of term at floor byte = if nat_lt at 5 then head_byte term at floor byte else answer_byte term at floor byte
