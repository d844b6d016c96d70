-- A book: a rollout with its history, the entries that its journal has, its disk, whether no append has failed, and how many
-- entries the opening found.
use Rattle.std.specs.Prelude.{◌≡◌, ℕ, ◌*◌, ◌≤◌, Bool, true, false, List, [], ◌++◌, length, Option, None, Result, IfErr, IfOk, IfSome, OnOk}
use Rattle.rollout_rules.specs.Wan.{Rollout}
use Rattle.rollout_rules.specs.History.{History, with_entries}
use Rattle.rollout_rules.specs.Legal.{is_legal}
use Rattle.rollout_rules.specs.Release.{batch}
use Rattle.rollout_rules.specs.declared.op.OpView.{OpView}
use Rattle.rollout_rules.specs.declared.op.Entry.{Entry}
use Rattle.disk_model.specs.Traces.{DiskTrace}
use Rattle.disk_model.specs.Moments.{LeavesOnly}
use Rattle.dependency_graph.specs.Graph.{Followed, op_total}
use Rattle.intent_journal.specs.Opened.{Opened}
use Rattle.wan_edge.specs.Frames.{Answer}
use Rattle.wan_edge.specs.Streams.{KeepsTelling, Rose}
use Rattle.update_scheduler.specs.Rounds.{Turning}
use Rattle.update_scheduler.specs.Counts.{count_done, count_begun}
use Rattle.rollout_book.specs.declared.fault.BookFault.{BookFault}
use Rattle.rollout_book.specs.declared.turn.Turn.{Turn}
use Rattle.rollout_book.specs.Aliens.{IsFault, OnAlien, OnDisk, first_alien, told_by}
use Rattle.rollout_book.specs.Lists.{HasBeforeOrAfter, IsKeptList, KeepsOwner}

pub record Journaled (D : Type 0) : Type 0 where
  pub rollout : Rollout
  pub history : History
  pub entries : List Entry
  pub disk : D
  pub live : Bool
  pub found : ℕ

-- the rollout with its history alone
abbrev pub graph_of : {D : Type 0} → Journaled D → Followed
graph_of b = record { rollout = b.rollout; history = b.history }

-- the batch of a round over these answers
abbrev pub batch_of : {D : Type 0} → Journaled D → (OpView → ℕ) → List Answer → List Entry
batch_of b policy answers = batch b.rollout.problem b.rollout.plan policy b.history (told_by answers)

-- whether the disk is called in a round: a batch that is empty isn't written
abbrev pub StaysIfEmpty : {D : Type 0} → List Entry → Journaled D → Journaled D → Type 0
StaysIfEmpty es old new = es ≡ [] → new ≡ old

-- after a batch that the disk has
abbrev pub with_batch : {D : Type 0} → Journaled D → List Entry → D → Journaled D
with_batch b es disk = record b { history = with_entries b.history es; entries = b.entries ++ es; disk = disk }

-- After a batch of which the disk failed: nothing is known to be there but the entries before it, and the book is dead.
abbrev pub with_lost : {D : Type 0} → Journaled D → List Entry → D → Journaled D
with_lost b es disk = record b { history = with_entries b.history es; disk = disk; live = false }

-- what is told of a batch
abbrev pub turn_of : List Entry → Turn
turn_of es = record { dones = count_done es; begins = count_begun es }

-- What an opening found: a journal that is open, whose list is the history's, on every image that a crash leaves.
pub record IsFound {D : Type 0} (trace : D → DiskTrace) (g : Followed) (j : Opened D) (list : List Entry) : Type 0 where
  pub live : j.live ≡ true
  pub most : j.most ≡ 2 * op_total g.rollout
  pub count : j.entries ≡ length list
  pub same : list ≡ g.history.entries
  pub kept : IfSome (trace j.disk).bytes (IsKeptList g.history.start list (trace j.disk).may_leave)

-- a book at first
abbrev pub first_book : {D : Type 0} → Followed → List Entry → D → Journaled D
first_book g list disk = record { rollout = g.rollout; history = g.history; entries = list; disk = disk; live = true; found = length list }

-- A book as it is opened: it lives, and has found the list of its history, which is legal and which each image that a crash leaves has.
pub record IsNewBook {D : Type 0} (trace : D → DiskTrace) (book : Journaled D) : Type 0 where
  pub live : book.live ≡ true
  pub list : book.entries ≡ book.history.entries
  pub count : book.found ≡ length book.entries
  pub legal : is_legal book.rollout.problem book.rollout.plan book.history ≡ true
  pub has : IfSome (trace book.disk).bytes (IsKeptList book.history.start book.entries (trace book.disk).may_leave)

-- What a book relies on: there is room for all entries, and as long as no append has failed the
-- journal's list is the history's, on every image that a crash leaves.
pub record AreJournaledRounds {D : Type 0} (trace : D → DiskTrace) (t : Turning) (j : Opened D) (entries : List Entry) (room : ℕ) : Type 0 where
  pub most : j.most ≡ 2 * op_total t.rollout
  pub enough : 2 * op_total t.rollout ≤ room
  pub same : j.live ≡ true → entries ≡ t.history.entries
  pub count : j.live ≡ true → j.entries ≡ length entries
  pub kept : j.live ≡ true → IfSome (trace j.disk).bytes (IsKeptList t.history.start entries (trace j.disk).may_leave)

-- What a round over these answers makes of a book, and what it is answered. Its batch is a Done for each operation in flight that an answer covers, and
-- then the release by the policy.
pub record IsRound {D : Type 0} (trace : D → DiskTrace) (policy : OpView → ℕ) (answers : List Answer) (old : Journaled D) (result : Result Turn BookFault) (new : Journaled D) : Type 0 where
  -- it turns where no answer is alien
  pub known : OnOk result (first_alien (graph_of old) answers ≡ None)
  -- what is told of the batch
  pub turn : IfOk result (λ turn. turn ≡ turn_of (batch_of old policy answers))
  -- then the book has the batch
  pub written : OnOk result (new ≡ with_batch old (batch_of old policy answers) new.disk)
  -- and each image that a crash leaves has its list
  pub has : OnOk result (IfSome (trace new.disk).bytes (IsKeptList new.history.start new.entries (trace new.disk).may_leave))
  -- it is refused for the first answer that is alien, and where there is none, for the disk
  pub alien : IfErr result (λ fault. IsFault fault (first_alien (graph_of old) answers))
  -- an alien answer changes nothing
  pub unchanged : IfErr result (λ fault. OnAlien fault (new ≡ old))
  -- where the disk failed, the book lives no longer
  pub lost : IfErr result (λ fault. OnDisk fault (new ≡ with_lost old (batch_of old policy answers) new.disk))
  -- and the disk has counted it
  pub cause : IfErr result (λ fault. OnDisk fault (Rose (trace old.disk).faults (trace new.disk).faults))
  -- a batch that is empty isn't written
  pub none : batch_of old policy answers ≡ [] → new ≡ old
  -- a crash at any moment leaves the list before, or with the whole batch
  pub any_moment : IfSome (trace old.disk).bytes (λ _. LeavesOnly trace old.disk new.disk (HasBeforeOrAfter old.history.start old.entries (batch_of old policy answers)))
  -- in a journal of the same digest and migration
  pub owner : IfSome (trace old.disk).bytes (λ image. LeavesOnly trace old.disk new.disk (KeepsOwner image))
  -- a disk that told its bytes tells them still
  pub told : KeepsTelling (trace old.disk).bytes (trace new.disk).bytes
  -- no failure was taken back
  pub count : (trace old.disk).faults ≤ (trace new.disk).faults
