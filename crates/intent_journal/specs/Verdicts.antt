-- What an image is to a rollout that knows its journal by a digest.
use Rattle.std.specs.Prelude.{◌≡◌, ⊤, ℕ, ◌+◌, Bool, ◌&&◌, ◌==◌, nat_lt, List, [], ◌∷◌, length, drop, bytes_eq, Option, Some, None, if◌then◌else◌}
use Rattle.rollout_rules.specs.declared.op.Entry.{Entry}
use Rattle.rollout_rules.specs.Wan.{Plan, Problem, Rollout}
use Rattle.rollout_rules.specs.Items.{item_count}
use Rattle.rollout_rules.specs.History.{History, no_start, started, with_entries}
use Rattle.rollout_rules.specs.Legal.{is_sound, may_add}
use Rattle.dependency_graph.specs.Graph.{Followed}
use Rattle.intent_journal.specs.declared.digest.Digest.{Digest}
use Rattle.intent_journal.specs.declared.fault.JournalFault.{JournalFault}
use Rattle.intent_journal.specs.declared.fault.JournalFault.TheVariants.{BadStart, Disk, Illegal, Memory, NotJournal, OtherPlan}
use Rattle.disk_model.specs.Numbers.{byte_at}
use Rattle.intent_journal.specs.Parts.{Slot, digest_in, is_second, migration_in, part_rows, starts_in}
use Rattle.intent_journal.specs.Images.{is_blank, open_journal, slot_at}
use Rattle.intent_journal.specs.Reading.{Listed, live_side, nothing_read, with_rows}

-- No journal was made; it is none, of this first byte; it is one of another plan, which it was made for; its start is none of this
-- plan; the entry at this place is none, or not legal; or it is the journal of this rollout, with this start and list.
pub data Verdict : Type 0 where
  Fresh : Verdict
  NoJournal : (first : ℕ) → Verdict
  OfAnother : (bytes : List ℕ) → (migration : ℕ) → Verdict
  NoStart : Verdict
  NotLegal : (place : ℕ) → Verdict
  Stands : (start : List ℕ) → (entries : List Entry) → Verdict

-- how many entries, from the first on, may follow a history one by one
abbrev pub legal_count : Problem → Plan → History → List Entry → ℕ
legal_count p plan h [] = 0
legal_count p plan h (entry ∷ later) = if may_add p plan h entry then 1 + legal_count p plan (with_entries h (entry ∷ [])) later else 0

-- the start of a part: of the first format nothing is settled there
abbrev pub start_of : Problem → Slot → List ℕ → List ℕ
start_of p slot part = if is_second slot then starts_in slot part else no_start p

-- it has a number for each item, and a rollout may begin there
abbrev pub is_start : Rollout → List ℕ → Bool
is_start r start = (length start == item_count r.problem) && is_sound r.problem r.plan start

-- the first place at which a row is no entry or the list isn't legal, or the list
abbrev pub judged_list : Rollout → List ℕ → Listed → Verdict
judged_list r start listed =
    if nat_lt (legal_count r.problem r.plan (started start) listed.entries) (length listed.entries)
    then NotLegal (legal_count r.problem r.plan (started start) listed.entries)
    else if listed.whole then Stands start listed.entries else NotLegal (length listed.entries)

abbrev pub judged_start : Rollout → List ℕ → List (List ℕ) → Verdict
judged_start r start rows = if is_start r start then judged_list r start (with_rows nothing_read rows) else NoStart

-- the journal was made for this problem, plan and migration
abbrev pub is_own : Digest → Slot → List ℕ → Bool
is_own digest slot part = bytes_eq (digest_in part) digest.bytes && (migration_in slot part == digest.migration)

abbrev pub judged_part : Rollout → Digest → Slot → List ℕ → Verdict
judged_part r digest slot part =
    if is_own digest slot part then judged_start r (start_of r.problem slot part) (part_rows slot part)
    else OfAnother (digest_in part) (migration_in slot part)

abbrev pub judged_at : Rollout → Digest → List ℕ → Option ℕ → Verdict
judged_at r digest image None = NoJournal (byte_at 0 image)
judged_at r digest image (Some side) = judged_part r digest (slot_at side image) (drop (slot_at side image).start image)

abbrev pub judged_journal : Rollout → Digest → List ℕ → Verdict
judged_journal r digest image = if byte_at 0 image == open_journal then judged_at r digest image (live_side image) else NoJournal (byte_at 0 image)

abbrev pub verdict : Rollout → Digest → List ℕ → Verdict
verdict r digest image = if is_blank image then Fresh else judged_journal r digest image

-- a fault is that of this verdict; lack of memory says nothing
abbrev pub IsRefusal : JournalFault → Digest → Verdict → Type 0
IsRefusal (NotJournal first) digest v = v ≡ NoJournal first
IsRefusal (OtherPlan kept wanted) digest v = (v ≡ OfAnother kept.bytes kept.migration) × (wanted ≡ digest)
IsRefusal BadStart digest v = v ≡ NoStart
IsRefusal (Illegal place) digest v = v ≡ NotLegal place
IsRefusal Memory digest v = ⊤
IsRefusal Disk digest v = ⊥

-- a graph whose history has this start and these entries
abbrev pub with_history : Followed → List ℕ → List Entry → Followed
with_history g start entries = record g { history = record { start = start; entries = entries } }
