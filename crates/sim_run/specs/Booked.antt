-- What keeps a rollout with a book on a disk in memory.
use Rattle.std.specs.Prelude.{◌≡◌, ⊤, ℕ, Bool, true, false, List, [], length, replicate, Option, Some, None, IfSome}
use Rattle.rollout_rules.specs.Wan.{Rollout}
use Rattle.rollout_rules.specs.History.{no_start}
use Rattle.dependency_graph.specs.Graph.{Followed}
use Rattle.disk_model.specs.Memory.{MayLeave, Medium, Storing}
use Rattle.intent_journal.specs.declared.digest.Digest.{Digest}
use Rattle.intent_journal.specs.Images.{journal_in}
use Rattle.intent_journal.specs.Parts.{Kept}
use Rattle.intent_journal.specs.Openings.{unbegun}
use Rattle.intent_journal.specs.Recovered.{IsBroughtTo}
use Rattle.intent_journal.specs.Verdicts.{Fresh, NoJournal, NoStart, NotLegal, OfAnother, Stands, Verdict, verdict}
use Rattle.intent_journal.specs.declared.fault.JournalFault.{JournalFault}
use Rattle.intent_journal.specs.declared.fault.JournalFault.TheVariants.{BadStart, Disk, Illegal, Memory, NotJournal, OtherPlan}
use Rattle.rollout_book.specs.JournaledRounds.{Journaled, graph_of}
use Rattle.sim_run.specs.Keeping.{Keeping}

-- where a start found no memory there is no book, and nothing is told of any rollout
abbrev pub nothing_followed : Followed
nothing_followed = record {
  rollout = record { problem = record { format = 1; switches = []; links = []; flows = []; tunnels = [] }; plan = record { scale = 1; stages = [] } };
  history = record { start = []; entries = [] };
}

abbrev pub graph_in : Option (Journaled Storing) → Followed
graph_in None = nothing_followed
graph_in (Some b) = graph_of b

abbrev pub lives : Option (Journaled Storing) → Bool
lives None = false
lives (Some b) = b.live

abbrev pub keeping_of : Option (Journaled Storing) → Keeping
keeping_of seat = record { graph = graph_in seat; live = lives seat }

-- the digest by which a rehearsal knows its journal
abbrev pub own_digest : Digest
own_digest = record { bytes = replicate 32 0; migration = 0 }

-- the image is a journal that is known by it
pub record IsOwn (image : List ℕ) : Type 0 where
  pub kept : Kept
  pub is : journal_in image ≡ Some kept
  pub digest : kept.digest ≡ own_digest.bytes
  pub migration : kept.migration ≡ own_digest.migration

-- What a controller relies on: each append came to its end, the history begins where nothing is settled, and the journal is its own.
pub record IsOwnBook (b : Journaled Storing) : Type 0 where
  pub live : b.live ≡ true
  pub start : b.history.start ≡ no_start b.rollout.problem
  pub own : IsOwn b.disk.timeline.medium.bytes

-- a book that lives is such a one
abbrev pub IsSeat : Option (Journaled Storing) → Type 0
IsSeat book = IfSome book (λ b. b.live ≡ true → IsOwnBook b)

-- whether a journal is opened by this verdict
abbrev pub Opens : Verdict → Type 0
Opens Fresh = ⊤
Opens (Stands start entries) = ⊤
Opens (NoJournal first) = ⊥
Opens (OfAnother bytes migration) = ⊥
Opens NoStart = ⊥
Opens (NotLegal place) = ⊥

-- a fault that says nothing of the image: no memory was found, by the disk or by others
abbrev pub IsWant : JournalFault → Type 0
IsWant Disk = ⊤
IsWant Memory = ⊤
IsWant (NotJournal first) = ⊥
IsWant (OtherPlan kept wanted) = ⊥
IsWant BadStart = ⊥
IsWant (Illegal place) = ⊥

-- What an opening over this image makes: a book with the history for which the image stands, whose journal is its own.
pub record IsOpened (r : Rollout) (image : List ℕ) (b : Journaled Storing) : Type 0 where
  pub live : b.live ≡ true
  pub brought : IsBroughtTo (verdict r own_digest image) b.entries (unbegun r) (graph_of b)
  pub own : IsOwn b.disk.timeline.medium.bytes
  pub found : b.found ≡ length b.history.entries

-- and over what a crash may leave of a disk
pub record IsOpenedOver (r : Rollout) (medium : Medium) (b : Journaled Storing) : Type 0 where
  pub image : List ℕ
  pub left : MayLeave medium image
  pub opened : IsOpened r image b

-- What a start makes of a book: one with the same history, of which all entries were found.
pub record IsAgain (b again : Journaled Storing) : Type 0 where
  pub own : IsOwnBook again
  pub same : graph_of again ≡ graph_of b
  pub found : again.found ≡ length b.history.entries
