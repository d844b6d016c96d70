-- What a report of a journal comes to, by the bytes on its disk.
use Rattle.std.specs.Prelude.{◌≡◌, ⊤, ℕ, ◌-◌, ◌<◌, List, [], length, slice_index, Result, Ok, Err}
use Rattle.rollout_rules.specs.Sums.{list_below}
use Rattle.rollout_rules.specs.Wan.{Rollout}
use Rattle.rollout_rules.specs.Items.{item_count}
use Rattle.rollout_rules.specs.History.{dones_in, from_nothing, settled}
use Rattle.rollout_rules.specs.declared.op.Entry.{Entry}
use Rattle.problem_json.specs.Writing.{plan_text, problem_text}
use Rattle.dependency_graph.specs.Graph.{Followed}
use Rattle.intent_journal.specs.declared.digest.Digest.{Digest}
use Rattle.intent_journal.specs.declared.fault.JournalFault.{JournalFault}
use Rattle.intent_journal.specs.declared.fault.JournalFault.TheVariants.{BadStart, Disk, Illegal, Memory, NotJournal, OtherPlan}
use Rattle.intent_journal.specs.Digests.{digest_bytes}
use Rattle.intent_journal.specs.Verdicts.{Fresh, NoJournal, NoStart, NotLegal, OfAnother, Stands, Verdict, verdict}
use Rattle.rollout_report.specs.Counts.{Counted}
use Rattle.rollout_report.specs.Report.{report_text}

-- what a journal knows a rollout by, as a migration of this number
unfoldable pub digest_for : Rollout → ℕ → Digest
digest_for r migration = record { bytes = digest_bytes (problem_text r.problem) (plan_text r.plan); migration = migration }

-- what is settled of each item by a graph's history, but for what these entries settled
abbrev pub settled_before : Followed → List Entry → List ℕ
settled_before g entries = list_below (item_count g.rollout.problem) (λ n. settled g.history n - dones_in entries n)

-- the counts of settled operations are those that these entries settle
pub record AreDones (items : ℕ) (entries : List Entry) (c : Counted) : Type 0 where
  pub all : length c.settled ≡ items
  pub each : (n : ℕ) → n < items → slice_index c.settled n ≡ dones_in entries n

-- the report of a graph's history, of which these are the entries
abbrev pub text_before : Followed → List Entry → List ℕ
text_before g entries = report_text g.rollout.problem g.rollout.plan (record { start = settled_before g entries; entries = entries })

-- the report by what was found: of a disk without a journal, the one of a rollout that begins
abbrev pub told_by : Rollout → Digest → Verdict → Result (List ℕ) JournalFault
told_by r digest Fresh = Ok (report_text r.problem r.plan (from_nothing r.problem []))
told_by r digest (NoJournal first) = Err (NotJournal first)
told_by r digest (OfAnother bytes migration) = Err (OtherPlan (record { bytes = bytes; migration = migration }) digest)
told_by r digest NoStart = Err BadStart
told_by r digest (NotLegal place) = Err (Illegal place)
told_by r digest (Stands start entries) = Ok (report_text r.problem r.plan (record { start = start; entries = entries }))

-- the report of the journal that an image is
unfoldable pub journal_report : Rollout → ℕ → List ℕ → Result (List ℕ) JournalFault
journal_report r migration image = told_by r (digest_for r migration) (verdict r (digest_for r migration) image)

-- what a call answers is what the definition says; a failure of the disk and lack of memory say nothing
abbrev pub Tells : Result (List ℕ) JournalFault → Result (List ℕ) JournalFault → Type 0
Tells (Ok text) report = report ≡ Ok text
Tells (Err Disk) report = ⊤
Tells (Err Memory) report = ⊤
Tells (Err fault) report = report ≡ Err fault
