-- What a call that hasn't begun to roll out can't end with, where the image and the input are good.
use Rattle.std.proofs.Common.{◌≡◌, Some, None, Ok, Err, refl, sym, ap, ◌∙◌}
use Rattle.lists.proofs.Options.{of_some}
use Rattle.rollout_rules.specs.Wan.{Rollout}
use Rattle.rollout_rules.specs.History.{History}
use Rattle.disk_model.specs.Traces.{DiskTrace}
use Rattle.disk_mirror.specs.Openings.{Opens}
use Rattle.wan_edge.specs.Streams.{SourceTrace}
use Rattle.intent_journal.specs.Recovered.{IsCause}
use Rattle.intent_journal.specs.Verdicts.{NoJournal, NoStart, NotLegal, OfAnother, Verdict, verdict}
use Rattle.intent_journal.specs.Openings.{found_by}
use Rattle.intent_journal.specs.declared.fault.JournalFault.{JournalFault}
use Rattle.intent_journal.specs.declared.fault.JournalFault.TheVariants as fault
use Rattle.rollout_report.specs.Journals.{digest_for}
use Rattle.controller_run.specs.declared.running.Limits.{Limits}
use Rattle.text_commands.specs.CommandEnds.{ending_of_journal, status_of}
use Rattle.swanroll_top.specs.Ready.{GoesOnFrom}
use Rattle.text_commands.specs.Answers.{rollout_to}
use Rattle.swanroll_top.specs.Rollouts.{IsUnbegun, RefusesAs}
use Rattle.text_commands.specs.Runs.{IsInput}
use Rattle.text_commands.specs.declared.command_end.CommandEnd.{CommandEnd}
use Rattle.text_commands.specs.declared.command_end.CommandEnd.TheVariants.{Done, Usage, AboveLimit, Input, NotValid, NoPlan, Unshown, ReadFault, WriteFault, DiskFault, GuestFault, Refused, NotFinished, OutOfMemory}
use Rattle.text_commands.proofs.Inputs.{told-within}
use Rattle.swanroll_top.proofs.Reporting.{rolled-within}

module _ {D : Type 0} (trace : D → DiskTrace) (limits : Limits) (source source_now : SourceTrace) (disk : D) (r : Rollout) (found : History) (goes : GoesOnFrom limits.migration source source_now (trace disk).bytes r found) where
  -- an image that is refused has no history to go on from
  no-verdict : (v : Verdict) → verdict r (digest_for r limits.migration) goes.image ≡ v → found_by r v ≡ None → ⊥
  no-verdict v is none = let both : None ≡ Some found = sym none ∙ (sym (ap (found_by r) is) ∙ goes.begins) in cc

  pub unopened-never : (why : JournalFault) (e : CommandEnd) → IsCause why (digest_for r limits.migration) (verdict r (digest_for r limits.migration) goes.image) → e ≡ ending_of_journal why
      → (why ≡ fault.Disk → status_of e ≡ 8 → ⊥) → (status_of e ≡ 12 → ⊥) → ⊥
  unopened-never (fault.NotJournal first) e told is device memory = no-verdict (NoJournal first) told refl
  unopened-never (fault.OtherPlan kept wanted) e told is device memory = no-verdict (OfAnother kept.bytes kept.migration) told.0 refl
  unopened-never (fault.Illegal place) e told is device memory = no-verdict (NotLegal place) told refl
  unopened-never fault.BadStart e told is device memory = no-verdict NoStart told refl
  unopened-never fault.Disk e told is device memory = device refl (ap status_of is)
  unopened-never fault.Memory e told is device memory = memory (ap status_of is)

  -- what it told it tells once it is opened
  pub goes-opened : (opened : D) → Opens (trace disk) (trace opened) → GoesOnFrom limits.migration source source_now (trace opened).bytes r found
  goes-opened opened opens = record {
    input = goes.input;
    told_input = goes.told_input;
    is = goes.is;
    image = goes.image;
    told = of_some (λ all. (trace opened).bytes ≡ Some all) (trace disk).bytes goes.image goes.told opens.same;
    begins = goes.begins;
  }

  refused-never : (e : CommandEnd) → RefusesAs (IsInput source source_now) e → ⊥
  refused-never e refuses =
      let same : goes.input ≡ refuses.input = told-within source source_now refuses.input goes.input refuses.given (rolled-within goes.input r goes.is) goes.told_input in
      let both : Ok r ≡ Err e = sym goes.is ∙ (ap rollout_to same ∙ refuses.refused) in
      cc

  pub unbegun-never : (e : CommandEnd) → IsUnbegun (IsInput source source_now) e → (status_of e ≡ 6 → ⊥) → (status_of e ≡ 12 → ⊥) → ⊥
  unbegun-never Done why read memory = refused-never Done why
  unbegun-never Usage why read memory = refused-never Usage why
  unbegun-never AboveLimit why read memory = refused-never AboveLimit why
  unbegun-never (Input f) why read memory = refused-never (Input f) why
  unbegun-never (NotValid p b) why read memory = refused-never (NotValid p b) why
  unbegun-never (NoPlan u) why read memory = refused-never (NoPlan u) why
  unbegun-never (Unshown u) why read memory = refused-never (Unshown u) why
  unbegun-never ReadFault why read memory = read refl
  unbegun-never WriteFault why read memory = refused-never WriteFault why
  unbegun-never DiskFault why read memory = refused-never DiskFault why
  unbegun-never GuestFault why read memory = refused-never GuestFault why
  unbegun-never (Refused f) why read memory = refused-never (Refused f) why
  unbegun-never (NotFinished u) why read memory = refused-never (NotFinished u) why
  unbegun-never OutOfMemory why read memory = memory refl
