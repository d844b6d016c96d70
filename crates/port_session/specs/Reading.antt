-- What is made of the answers in the bytes that come from a port. They come in pieces, so an answer may end in a later one.
use Rattle.std.specs.Prelude.{◌≡◌, ℕ, ◌-◌, Bool, true, ◌==◌, List, [], ◌∷◌, ◌++◌, length, Option, None, Some, if◌then◌else◌}
use Rattle.wan_edge.specs.Frames.{Answer, AnswerFrame, IsAnswer, Splits, HasOtherKind, answer_bytes, answer_kind}
use Rattle.port_session.specs.declared.fault.SessionFault.{SessionFault}
use Rattle.port_session.specs.declared.fault.SessionFault.TheVariants.{Memory, NoAnswer, Port}

-- the bytes of the answer that hasn't ended, whether all that came before it was read, and how many answers are awaited still
pub record Stream : Type 0 where
  pub kept : List ℕ
  pub live : Bool
  pub awaited : ℕ

-- before the first byte
abbrev pub fresh_stream : Stream
fresh_stream = record { kept = []; live = true; awaited = 0 }

-- the bytes of the answer that hasn't ended, how many answers are awaited still, and those that were told
pub record Reckoning : Type 0 where
  pub kept : List ℕ
  pub awaited : ℕ
  pub told : List Answer

abbrev pub reckoned : Stream → List Answer → Reckoning
reckoned stream told = record { kept = stream.kept; awaited = stream.awaited; told = told }

-- the answers of a migration among these, in order
unfoldable pub answers_of : ℕ → List AnswerFrame → List Answer
answers_of migration [] = []
answers_of migration (a ∷ later) = if a.0 == migration then a.1 ∷ answers_of migration later else answers_of migration later

-- a whole answer of the migration stands at the front
pub record BeginsAnswer (migration : ℕ) (bytes : List ℕ) : Type 0 where
  pub answer : AnswerFrame
  pub fits : IsAnswer answer
  pub of_migration : answer.0 ≡ migration
  pub behind : List ℕ
  pub parts : bytes ≡ answer_bytes answer ++ behind

-- What stands after the answers that were read. It is kept, where reading goes on; a byte that begins no answer, where that is the fault; and where
-- memory ran out, an answer that was to be told.
abbrev pub Ends : ℕ → Option SessionFault → List ℕ → List ℕ → Type 0
Ends migration None rest kept = rest ≡ kept
Ends migration (Some Port) rest kept = rest ≡ kept
Ends migration (Some (NoAnswer byte)) rest kept = HasOtherKind answer_kind rest byte
Ends migration (Some Memory) rest kept = BeginsAnswer migration rest

-- After what was kept, the whole answers at the front of these bytes were read. Those of the migration are told in order, and each that was read is
-- awaited no longer.
pub record ReadsAnswers (migration : ℕ) (before : Reckoning) (bytes : List ℕ) (fault : Option SessionFault) (now : Reckoning) : Type 0 where
  pub answers : List AnswerFrame
  pub rest : List ℕ
  pub whole : Splits answer_bytes IsAnswer (before.kept ++ bytes) answers rest
  pub told_more : now.told ≡ before.told ++ answers_of migration answers
  pub awaited_less : now.awaited ≡ before.awaited - length answers
  pub ends : Ends migration fault rest now.kept

-- a fault of what came, or of memory
abbrev pub IsOfBytes : SessionFault → Type 0
IsOfBytes Port = ⊥
IsOfBytes (NoAnswer byte) = Unit {0}
IsOfBytes Memory = Unit {0}
