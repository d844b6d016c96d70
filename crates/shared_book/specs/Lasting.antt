-- What is known of a command that was listed, and which answers a round may take.
use Rattle.std.specs.Prelude.{◌≡◌, ◌≤◌, ℕ, true, List, All}
use Rattle.std.specs.List.{Contains}
use Rattle.rollout_rules.specs.declared.op.Op.{Op}
use Rattle.rollout_rules.specs.declared.op.Entry.{Entry}
use Rattle.rollout_rules.specs.declared.op.Entry.TheVariants.{Done}
use Rattle.disk_model.specs.Traces.{DiskTrace}
use Rattle.wan_edge.specs.Frames.{Answer, Command}
use Rattle.wan_edge.specs.Ports.{PortTrace}
use Rattle.port_session.specs.Standing.{HasTold, WasHeard}
use Rattle.shared_book.specs.declared.note.Written.{Written}
use Rattle.shared_book.specs.Histories.{Opening}
use Rattle.shared_book.specs.Legal.{is_legal_shared}
use Rattle.shared_book.specs.Images.{HasImages}
use Rattle.shared_book.specs.Told.{commands_at}

-- The disk stood where each image that a crash could leave had the list after a legal shared history, and after that history the command is
-- that of an operation in flight. Code that doesn't know the disk can name no other state of it than those that calls left.
pub record IsLasting {D : Type 0} (trace : D → DiskTrace) (o : Opening) (from count : ℕ) (c : Command) : Type 0 where
  pub disk : D
  pub log : List Written
  pub legal : is_legal_shared o log ≡ true
  pub images : HasImages trace o from count disk log
  pub switches : List ℕ
  pub among : Contains (commands_at o log switches) c

-- whatever a port of this kind has told of a migration counts as heard
abbrev pub CountsAsHeard : {P : Type 0} → (P → PortTrace) → ℕ → (Answer → Type 0) → Type 0
CountsAsHeard {P} tell migration heard = (port : P) (answer : Answer) → HasTold (tell port) (migration, answer) → heard answer

-- and nothing else does
abbrev pub CountsNothingElse : {P : Type 0} → (P → PortTrace) → ℕ → (Answer → Type 0) → Type 0
CountsNothingElse tell migration heard = (answer : Answer) → heard answer → WasHeard tell (migration, answer)

-- an answer that was heard covers this operation
pub record HasAnswer (heard : Answer → Type 0) (op : Op) : Type 0 where
  pub answer : Answer
  pub item : answer.item ≡ op.item
  pub covers : op.number ≤ answer.held
  pub was_heard : heard answer

-- so it is with each operation that is done among entries
abbrev pub AreHeard : (Answer → Type 0) → List Entry → Type 0
AreHeard heard es = (op : Op) → Contains es (Done op) → HasAnswer heard op

-- and with each that the notes of a history say is done
abbrev pub AllHeard : (Answer → Type 0) → List Written → Type 0
AllHeard heard log = All (λ w. AreHeard heard w.entries) log

-- An answer that ports of this kind have told, of this migration, covers each operation that the notes of a history say is done.
abbrev pub AllTold : {P : Type 0} → (P → PortTrace) → ℕ → List Written → Type 0
AllTold tell migration log = AllHeard (λ answer. WasHeard tell (migration, answer)) log
