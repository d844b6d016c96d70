-- What the ending of a report, or of a rollout, says of the input and the sink.
use Rattle.std.proofs.Common.{◌≡◌, ℕ, List, Option, refl}
use Rattle.wan_edge.specs.Streams.{SourceTrace}
use Rattle.text_commands.specs.CommandEnds.{status_of}
use Rattle.swanroll_top.specs.Reports.{FollowsReport, RunsReport}
use Rattle.swanroll_top.specs.Rollouts.{FollowsRollout, RunsRollout}
use Rattle.text_commands.specs.declared.command_end.CommandEnd.{CommandEnd}
use Rattle.text_commands.specs.declared.command_end.CommandEnd.TheVariants.{Done, Usage, AboveLimit, Input, NotValid, NoPlan, Unshown, ReadFault, WriteFault, DiskFault, GuestFault, Refused, NotFinished, OutOfMemory}

module _ (m : ℕ) (source source_now : SourceTrace) (stored out out_now : Option (List ℕ)) where
  pub reports-of : (t : CommandEnd) → RunsReport m source source_now stored t out out_now → (status_of t ≡ 6 → ⊥) → (status_of t ≡ 8 → ⊥) → (status_of t ≡ 12 → ⊥)
      → FollowsReport m source source_now stored t out out_now
  reports-of Done r read disk memory = r
  reports-of Usage r read disk memory = r
  reports-of AboveLimit r read disk memory = r
  reports-of (Input f) r read disk memory = r
  reports-of (NotValid p b) r read disk memory = r
  reports-of (NoPlan u) r read disk memory = r
  reports-of (Unshown u) r read disk memory = r
  reports-of ReadFault r read disk memory = absurd (read refl)
  reports-of WriteFault r read disk memory = r
  reports-of DiskFault r read disk memory = absurd (disk refl)
  reports-of GuestFault r read disk memory = r
  reports-of (Refused f) r read disk memory = r
  reports-of (NotFinished u) r read disk memory = r
  reports-of OutOfMemory r read disk memory = absurd (memory refl)

  pub report-unwritten : (t : CommandEnd) → RunsReport m source source_now stored t out out_now → (status_of t ≡ 0 → ⊥) → (status_of t ≡ 7 → ⊥) → out_now ≡ out
  report-unwritten Done r done cut = r.silent done cut
  report-unwritten Usage r done cut = r.silent done cut
  report-unwritten AboveLimit r done cut = r.silent done cut
  report-unwritten (Input f) r done cut = r.silent done cut
  report-unwritten (NotValid p b) r done cut = r.silent done cut
  report-unwritten (NoPlan u) r done cut = r.silent done cut
  report-unwritten (Unshown u) r done cut = r.silent done cut
  report-unwritten ReadFault r done cut = r
  report-unwritten WriteFault r done cut = r.silent done cut
  report-unwritten DiskFault r done cut = r.1
  report-unwritten GuestFault r done cut = r.silent done cut
  report-unwritten (Refused f) r done cut = r.silent done cut
  report-unwritten (NotFinished u) r done cut = r.silent done cut
  report-unwritten OutOfMemory r done cut = r

module _ (source source_now : SourceTrace) (out out_now : Option (List ℕ)) where
  pub rollouts-of : (t : CommandEnd) → RunsRollout source source_now t out out_now → (status_of t ≡ 6 → ⊥) → (status_of t ≡ 12 → ⊥) → FollowsRollout source source_now t out out_now
  rollouts-of Done r read memory = r
  rollouts-of Usage r read memory = r
  rollouts-of AboveLimit r read memory = r
  rollouts-of (Input f) r read memory = r
  rollouts-of (NotValid p b) r read memory = r
  rollouts-of (NoPlan u) r read memory = r
  rollouts-of (Unshown u) r read memory = r
  rollouts-of ReadFault r read memory = absurd (read refl)
  rollouts-of WriteFault r read memory = r
  rollouts-of DiskFault r read memory = r
  rollouts-of GuestFault r read memory = r
  rollouts-of (Refused f) r read memory = r
  rollouts-of (NotFinished u) r read memory = r
  rollouts-of OutOfMemory r read memory = absurd (memory refl)

  pub rollout-unwritten : (t : CommandEnd) → RunsRollout source source_now t out out_now → (status_of t ≡ 0 → ⊥) → (status_of t ≡ 7 → ⊥) → out_now ≡ out
  rollout-unwritten Done r done cut = r.silent done cut
  rollout-unwritten Usage r done cut = r.silent done cut
  rollout-unwritten AboveLimit r done cut = r.silent done cut
  rollout-unwritten (Input f) r done cut = r.silent done cut
  rollout-unwritten (NotValid p b) r done cut = r.silent done cut
  rollout-unwritten (NoPlan u) r done cut = r.silent done cut
  rollout-unwritten (Unshown u) r done cut = r.silent done cut
  rollout-unwritten ReadFault r done cut = r
  rollout-unwritten WriteFault r done cut = r.silent done cut
  rollout-unwritten DiskFault r done cut = r.silent done cut
  rollout-unwritten GuestFault r done cut = r.silent done cut
  rollout-unwritten (Refused f) r done cut = r.silent done cut
  rollout-unwritten (NotFinished u) r done cut = r.silent done cut
  rollout-unwritten OutOfMemory r done cut = r
