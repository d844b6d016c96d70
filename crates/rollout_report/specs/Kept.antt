-- When two images are the same to whoever reads them as a journal.
use Rattle.std.specs.Prelude.{◌≡◌, ℕ, List}
use Rattle.rollout_rules.specs.Wan.{Rollout}
use Rattle.intent_journal.specs.declared.digest.Digest.{Digest}
use Rattle.intent_journal.specs.Images.{journal_in}
use Rattle.intent_journal.specs.Verdicts.{verdict}
use Rattle.rollout_report.specs.Journals.{journal_report}

-- They keep the same, each rollout judges them alike, and is reported alike by them.
pub record AreOneJournal (one other : List ℕ) : Type 0 where
  pub kept : journal_in one ≡ journal_in other
  pub judged : (r : Rollout) (digest : Digest) → verdict r digest one ≡ verdict r digest other
  pub reported : (r : Rollout) (migration : ℕ) → journal_report r migration one ≡ journal_report r migration other
