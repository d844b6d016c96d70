-- The bytes that pass between a controller and a switch: commands one way, answers the other. Each carries the number of a
-- migration, so that a late command of an earlier change of split is told from one of this. Numbers are big endian, and frames
-- follow each other with nothing between them.
use Rattle.std.specs.Prelude.{◌≡◌, ◌≢◌, ◌⊎◌, ℕ, ◌<◌, ◌≤◌, ◌^◌, List, ◌∷◌, ◌++◌, length, All}
use Rattle.std.specs.List.{flat_map}
use Rattle.std.specs.Int.{w32, w64, to_be_bytes}

-- what a switch is told of an item: the number of an operation and the content that it brings, in units of 1/scale
pub record Command : Type 0 where
  pub item : ℕ
  pub number : ℕ
  pub scale : ℕ
  pub content : List ℕ

-- what a switch says of an item: the number that it holds
pub record Answer : Type 0 where
  pub item : ℕ
  pub held : ℕ

-- A frame's value: the migration whose number is meant, and the command or the answer.
abbrev pub CommandFrame : Type 0
CommandFrame = ℕ × Command

abbrev pub AnswerFrame : Type 0
AnswerFrame = ℕ × Answer

-- a command that has bytes: its numbers are within their widths, and it has 1 to 16 rates
pub record IsCommand (c : CommandFrame) : Type 0 where
  pub migration : c.0 < 2 ^ 32
  pub item : c.1.item < 2 ^ 32
  pub number : c.1.number < 2 ^ 32
  pub scale : c.1.scale < 2 ^ 32
  pub some : 0 < length c.1.content
  pub few : length c.1.content ≤ 16
  pub rates : All (λ rate. rate < 2 ^ 64) c.1.content

-- an answer that has bytes
pub record IsAnswer (a : AnswerFrame) : Type 0 where
  pub migration : a.0 < 2 ^ 32
  pub item : a.1.item < 2 ^ 32
  pub held : a.1.held < 2 ^ 32

-- the first byte of a command, and of an answer
abbrev pub command_kind : ℕ
command_kind = 0x4D

abbrev pub answer_kind : ℕ
answer_kind = 0x4E

-- the kind, the migration, the item, the number and the scale of a command: its first 17 bytes
unfoldable pub command_head : CommandFrame → List ℕ
command_head c = command_kind ∷ (to_be_bytes w32 c.0 ++ (to_be_bytes w32 c.1.item ++ (to_be_bytes w32 c.1.number ++ to_be_bytes w32 c.1.scale)))

-- all its bytes: after the head the count of its rates, and each rate
unfoldable pub command_bytes : CommandFrame → List ℕ
command_bytes c = command_head c ++ (length c.1.content ∷ flat_map (to_be_bytes w64) c.1.content)

-- the kind, the migration, the item and the number held: 13 bytes
unfoldable pub answer_bytes : AnswerFrame → List ℕ
answer_bytes a = answer_kind ∷ (to_be_bytes w32 a.0 ++ (to_be_bytes w32 a.1.item ++ to_be_bytes w32 a.1.held))

-- the first bytes of a frame, which may be none, and not all of them
pub record IsCut {X : Type 0} (bytes_of : X → List ℕ) (Fits : X → Type 0) (bytes : List ℕ) : Type 0 where
  pub frame : X
  pub fits : Fits frame
  pub missing : List ℕ
  pub some : 0 < length missing
  pub begins : bytes_of frame ≡ bytes ++ missing

abbrev pub IsCutCommand : List ℕ → Type 0
IsCutCommand = IsCut command_bytes IsCommand

abbrev pub IsCutAnswer : List ℕ → Type 0
IsCutAnswer = IsCut answer_bytes IsAnswer

-- in the place of a frame's kind stands another byte
pub record HasOtherKind (kind : ℕ) (bytes : List ℕ) (byte : ℕ) : Type 0 where
  pub other : byte ≢ kind
  pub behind : List ℕ
  pub parts : bytes ≡ byte ∷ behind

-- after what begins a command, in the place of the count of its rates, stands 0 or a number above 16
pub record HasOtherCount (bytes : List ℕ) (byte : ℕ) : Type 0 where
  pub head : List ℕ
  pub begins : IsCutCommand head
  pub long : length head ≡ 17
  pub other : (byte ≡ 0) ⊎ (16 < byte)
  pub behind : List ℕ
  pub parts : bytes ≡ head ++ byte ∷ behind

-- whole frames at the front, and what stands after them
pub record Splits {X : Type 0} (bytes_of : X → List ℕ) (Fits : X → Type 0) (bytes : List ℕ) (frames : List X) (rest : List ℕ) : Type 0 where
  pub fit : All Fits frames
  pub parts : bytes ≡ flat_map bytes_of frames ++ rest
