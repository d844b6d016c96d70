-- What comes from the ports in a round.
use Rattle.std.specs.Prelude.{◌≡◌, ◌⊎◌, ℕ, ◌<◌, ◌≤◌, true, false, List, [], ◌∷◌, ◌++◌, length, All, Option, None, Some, IsTrue}
use Rattle.std.specs.Bool.{OnTrue}
use Rattle.wan_edge.specs.Frames.{Answer, IsCutAnswer}
use Rattle.wan_edge.specs.Ports.{GoesOn, IsOneMore, NothingToCome}
use Rattle.wan_edge.specs.Streams.{Rose}
use Rattle.port_session.specs.Sessions.{EndsAnswer, HearsAnswers, IsOver, uncounted}
use Rattle.port_session.specs.declared.fault.SessionFault.{SessionFault}
use Rattle.port_session.specs.declared.fault.SessionFault.TheVariants as fault
use Rattle.shared_book.specs.declared.note.Cause.{Cause}
use Rattle.shared_book.specs.declared.note.Cause.TheVariants as cause
use Rattle.switch_ports.specs.Outboxes.{home_at, is_switch}
use Rattle.switch_ports.specs.Views.{SessionTrace}

-- Something may have come from a port, and nothing went out.
pub record Listens (before now : SessionTrace) : Type 0 where
  pub switch : now.switch ≡ before.switch
  pub goes_on : GoesOn before.port now.port
  pub unsent : now.port.offered ≡ before.port.offered

-- the answers that end in what came, as far as they were read, and of them those of the migration
abbrev pub Reads : ℕ → Option SessionFault → SessionTrace → List Answer → SessionTrace → Type 0
Reads migration why before told now = HearsAnswers migration (uncounted before.port.heard before.stream []) why (uncounted now.port.heard now.stream told)

-- an answer tells of an item whose home is this switch
abbrev pub IsOwn : List (Option ℕ) → ℕ → Answer → Type 0
IsOwn homes switch a = is_switch switch (home_at homes a.item) ≡ true

-- A port was heard: until as many answers were read as were awaited, it was quiet, or it wasn't ready. Of what came every whole answer was read, and what is
-- kept is the front of one. Those of the migration are told, and each is of the port's own switch. Where answers were awaited, and none is any more, one ended
-- or the port was quiet; and a prompt port has given all that were awaited, or all that it had.
pub record HearsOut (migration : ℕ) (homes : List (Option ℕ)) (before : SessionTrace) (told : List Answer) (now : SessionTrace) : Type 0 where
  pub listens : Listens before now
  pub reads : Reads migration None before told now
  pub own : All (IsOwn homes before.switch) told
  pub live : IsTrue now.stream.live
  pub cut : IsCutAnswer now.stream.kept
  pub idle : before.stream.awaited ≡ 0 → (now ≡ before) × (told ≡ [])
  pub over : IsOver (length reads.reads.answers) before.stream.awaited now.stream.awaited before.port now.port
  pub comes : 0 < before.stream.awaited → now.stream.awaited ≡ 0 → EndsAnswer before.stream.kept before.port.heard now.port.heard ⊎ IsOneMore before.port.quiet now.port.quiet
  pub all_given : OnTrue before.port.prompt ((before.stream.awaited ≤ length reads.reads.answers) ⊎ NothingToCome before.port.start now.port.offered now.port.heard)

-- among answers is one of this item, whose home isn't this switch
pub record HasAlien (homes : List (Option ℕ)) (switch item : ℕ) (answers : List Answer) : Type 0 where
  pub earlier : List Answer
  pub held : ℕ
  pub later : List Answer
  pub among : answers ≡ earlier ++ record { item = item; held = held } ∷ later
  pub alien : is_switch switch (home_at homes item) ≡ false

-- such an answer, of the migration, was read
pub record ReadsAlien (migration : ℕ) (homes : List (Option ℕ)) (item : ℕ) (before now : SessionTrace) : Type 0 where
  pub told : List Answer
  pub reads : Reads migration None before told now
  pub alien : HasAlien homes before.switch item told

-- Why hearing at a port stops a worker: the port failed, and its count rose; an answer is of an item that isn't the switch's; a byte that begins no
-- answer stands in an answer's first place; or memory ran out.
abbrev pub IsHearCause : ℕ → List (Option ℕ) → Cause → SessionTrace → SessionTrace → Type 0
IsHearCause migration homes (cause.Spent rounds item number) before now = ⊥
IsHearCause migration homes (cause.Port switch) before now = (switch ≡ before.switch) × Rose before.port.faults now.port.faults
IsHearCause migration homes (cause.Above item held begun) before now = ⊥
IsHearCause migration homes (cause.NotMine switch item) before now = (switch ≡ before.switch) × ReadsAlien migration homes item before now
IsHearCause migration homes (cause.NoAnswer switch byte) before now =
    (switch ≡ before.switch) × (told : List Answer) × Reads migration (Some (fault.NoAnswer byte)) before told now
IsHearCause migration homes cause.Disk before now = ⊥
IsHearCause migration homes cause.Memory before now = Unit {0}
