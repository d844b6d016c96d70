-- That a report, the text of a trial and the line of an agent are written.
use Rattle.std.proofs.Common.{◌≡◌, ◌≢◌, ℕ, List, Option, Some, Result, Ok, Err, IsOk, refl, sym, subst, ap, ◌∙◌, inl, inr}
use Rattle.rollout_rules.specs.Wan.{Rollout}
use Rattle.rollout_rules.specs.declared.op.OpView.{OpView}
use Rattle.intent_journal.specs.declared.fault.JournalFault.{JournalFault}
use Rattle.rollout_report.specs.Journals.{journal_report}
use Rattle.sim_run.specs.declared.shape.Shape.{Shape}
use Rattle.agent_service.specs.Services.{Guests, Tells}
use Rattle.agent_service.specs.declared.service.Service.{Service}
use Rattle.agent_service.specs.declared.service.ServiceFault.{ServiceFault}
use Rattle.agent_service.specs.declared.service.ServiceFault.TheVariants as service
use Rattle.swanroll_top.specs.Agents.{ServesAs, service_answer}
use Rattle.text_commands.specs.CommandEnds.{status_of}
use Rattle.text_commands.specs.Program.{Streams}
use Rattle.swanroll_top.specs.ReportPromise.{ReportsAndNotes, ReportsBy}
use Rattle.swanroll_top.specs.TrialPromise.{TrialPromise, TriesAndNotes}
use Rattle.text_commands.specs.Answers.{rollout_to}
use Rattle.swanroll_top.specs.Reports.{EndsReport, or_journal}
use Rattle.text_commands.specs.Runs.{EndsWith, TellsInput}
use Rattle.swanroll_top.specs.Tries.{IsShape, tried}
use Rattle.text_commands.specs.declared.command_end.CommandEnd.{CommandEnd}
use Rattle.text_commands.proofs.Complete.{ends-well}
use Rattle.text_commands.proofs.Inputs.{told-within}
use Rattle.text_commands.proofs.Programs.{follows-ends}
use Rattle.swanroll_top.proofs.Reporting.{rolled-within}
use Rattle.swanroll_top.proofs.Tried.{is-tried}

-- ---- a report with a text

module _ (m : ℕ) (before after : Streams) (status : ℕ) (input image : List ℕ) (o : Rollout) where
  ok-journal : (r : Result (List ℕ) JournalFault) → IsOk r → IsOk (or_journal r)
  ok-journal (Ok text) ok = refl
  ok-journal (Err e) ok = absurd cc

  pub reported : (r : Result Rollout CommandEnd) (e : CommandEnd) → r ≡ Ok o → before.stored ≡ Some image → IsOk (journal_report o m image) → EndsReport m r before.stored e before.sink.written after.sink.written → (status_of e ≡ 7 → ⊥) → status_of e ≡ 0
  reported (Err x) e is stored ok ends cut = absurd (cc is)
  reported (Ok other) e is stored ok ends cut =
      let same : other ≡ o = cc is in
      let both : Some ends.image ≡ Some image = sym ends.stored ∙ stored in
      let read : ends.image ≡ image = cc both in
      let told : or_journal (journal_report o m image) ≡ ends.answer = subst (λ x. or_journal (journal_report o m x) ≡ ends.answer) read (subst (λ x. or_journal (journal_report x m ends.image) ≡ ends.answer) same ends.is) in
      ends-well ends.answer e before.sink.written after.sink.written (subst (λ r. IsOk r) told (ok-journal (journal_report o m image) ok)) ends.ends cut

  report-well : ReportsAndNotes m before after status → TellsInput before.source after.source input → before.stored ≡ Some image → rollout_to input ≡ Ok o → IsOk (journal_report o m image) → (status ≡ 7 → ⊥) → status ≡ 0
  report-well r told stored is ok cut =
      r.is_status ∙ reported (rollout_to r.follows.input) r.ending (subst (λ i. rollout_to i ≡ Ok o) (told-within before.source after.source r.follows.input input r.follows.read (rolled-within input o is) told) is) stored ok r.follows.ends
      (λ e. cut (r.is_status ∙ e))

  pub report-written : ReportsBy m before after status → TellsInput before.source after.source input → before.stored ≡ Some image → rollout_to input ≡ Ok o → IsOk (journal_report o m image)
      → status ≢ 6 → status ≢ 7 → status ≢ 8 → status ≢ 12 → status ≡ 0
  report-written does told stored is ok source sink disk memory = report-well (does source disk memory) told stored is ok sink

-- ---- a trial

module _ (policy : OpView → ℕ) (shape : Shape) where
  pub trial-answers : IsShape shape → IsOk (tried policy shape)
  trial-answers is = is-tried policy shape is

  trial-well : (before after : Streams) (status : ℕ) → TriesAndNotes policy shape before after status → (status ≡ 7 → ⊥) → status ≡ 0
  trial-well before after status r cut =
      r.is_status ∙ ends-well (tried policy shape) r.ending before.sink.written after.sink.written (trial-answers r.follows.shape) r.follows.answer (λ e. cut (r.is_status ∙ e))

  pub trial-written : (before after : Streams) (status : ℕ) → TrialPromise policy shape before after status → status ≢ 6 → status ≢ 7 → status ≢ 12 → status ≡ 0
  trial-written before after status promise source sink memory = trial-well before after status (promise.does memory) sink

-- ---- an agent

module _ {G : Type 0} (tells : Tells G) (guests : ℕ) (before now : Guests G) (out out_now : Option (List ℕ)) where
  service-well : (came : Result Service ServiceFault) (e : CommandEnd) → EndsWith (service_answer came) e out out_now → (status_of e ≡ 7 → ⊥) → (status_of e ≡ 9 → ⊥) → (status_of e ≡ 12 → ⊥) → status_of e ≡ 0
  service-well (Ok service) e (inl done) sink fleet memory = ap status_of done.0
  service-well (Ok service) e (inr cut) sink fleet memory = absurd (sink (ap status_of cut.0))
  service-well (Err service.Fleet) e ends sink fleet memory = absurd (fleet (ap status_of ends.0))
  service-well (Err service.Memory) e ends sink fleet memory = absurd (memory (ap status_of ends.0))

  pub service-written : (status : ℕ) → ServesAs tells guests before now status out out_now → status ≢ 7 → status ≢ 9 → status ≢ 12 → status ≡ 0
  service-written status serves sink fleet memory =
      let over : (n : ℕ) → (status ≡ n → ⊥) → status_of serves.ending ≡ n → ⊥ = λ n other is. other (serves.is_status ∙ is) in
      serves.is_status ∙ service-well serves.runs.came serves.ending (follows-ends (service_answer serves.runs.came) serves.ending out out_now serves.runs.follows (over 12 memory)) (over 7 sink) (over 9 fleet) (over 12 memory)
