-- What is placed of a rollout of which nothing is settled.
use Rattle.std.proofs.Common.{◌≡◌, ◌+◌, ℕ, List, Result, Ok, Err, IfOk, IfErr, inl, inr, refl, sym, ap, ◌∙◌, subst}
use Rattle.disk_model.specs.Traces.{DiskTrace}
use Rattle.dependency_graph.specs.Graph.{Followed}
use Rattle.intent_journal.specs.declared.digest.Digest.{Digest}
use Rattle.intent_journal.specs.Openings.{unbegun}
use Rattle.intent_journal.specs.Placements.{placed_kept}
use Rattle.rollout_rules.specs.Wan.{Rollout}
use Rattle.rollout_report.specs.Journals.{digest_for}
use Rattle.rollout_report.specs.declared.known.KnownPlan.{KnownPlan}
use Rattle.intent_journal.specs.Parts.{Kept}
use Rattle.intent_journal.specs.declared.fault.JournalFault.{JournalFault}
use Rattle.rollback_service.specs.Placings.{HasPlaced, IsNotPlaced, MayPlace}
use Rattle.text_commands.specs.CommandEnds.{ending_of_journal}
use Rattle.text_commands.specs.Runs.{EndsWith}
use Rattle.text_commands.specs.declared.command_end.CommandEnd.{CommandEnd}
use Rattle.text_commands.specs.declared.command_end.CommandEnd.TheVariants.{Done, WriteFault}
use Rattle.wan_edge.specs.Streams.{AppendsPart, Rose, SinkTrace}
use Rattle.retarget_top.specs.Retargets.{IsUnwritten, Places, WritesAndPlaces, WritesNext, kept_next, next_text}
use Rattle.retarget_top.specs.declared.ending.RetargetEnding.{RetargetEnding}
use Rattle.retarget_top.specs.declared.ending.RetargetEnding.TheVariants.{Ended}

pub unbegun-placed : {D : Type 0} (trace : D → DiskTrace) (r : Rollout) (migration : ℕ) (known : KnownPlan) (disk disk_now : D) (ending : RetargetEnding) (sink sink_now : SinkTrace) → known.graph ≡ unbegun r
    → known.digest ≡ digest_for r (migration + 1) → WritesNext trace known disk disk_now ending sink sink_now → WritesAndPlaces trace (next_text r) (kept_next r migration) disk disk_now ending sink sink_now
unbegun-placed trace r migration known disk disk_now ending sink sink_now is known_as writes =
    subst (λ (d : Digest). WritesAndPlaces trace (next_text r) (placed_kept d (unbegun r)) disk disk_now ending sink sink_now) known_as
    (subst (λ (g : Followed). WritesAndPlaces trace (next_text g.rollout) (placed_kept known.digest g) disk disk_now ending sink sink_now) is writes)

-- ---- how placing ended

module _ {D : Type 0} (trace : D → DiskTrace) (kept : Kept) (disk disk_now : D) (may : MayPlace trace kept disk disk_now) where
  pub placed-places : (r there : Rollout) (answer : Result Rollout JournalFault) → answer ≡ Ok there → IfOk answer (λ x. (x ≡ r) × HasPlaced trace kept disk_now) → Places trace kept disk disk_now (Ended Done)
  placed-places r there (Ok x) is placed = record { may = may; ends = inl (refl, placed.1) }
  placed-places r there (Err cause) is placed = absurd (cc is)

  pub unplaced-places : (cause : JournalFault) (told : CommandEnd) (answer : Result Rollout JournalFault) → answer ≡ Err cause → told ≡ ending_of_journal cause → IfErr answer (λ why. IsNotPlaced trace why disk disk_now)
      → Places trace kept disk disk_now (Ended told)
  unplaced-places cause told (Ok x) is so left = absurd (cc is)
  unplaced-places cause told (Err why) is so left =
      let same : why ≡ cause = cc is in
      record { may = may; ends = inr (why, ap Ended (so ∙ ap ending_of_journal (sym same)), left) }

-- ---- a text that wasn't written whole

pub unwritten-end : {A : Type 0} (text other : List ℕ) (e : CommandEnd) (sink sink_now : SinkTrace) (answer : Result A CommandEnd) → other ≡ text → IfErr answer (λ why. (why ≡ e) × (why ≡ Done → ⊥))
    → EndsWith (Ok other) e sink.written sink_now.written → (e ≡ WriteFault → Rose sink.faults sink_now.faults) → IfErr answer (λ why. IsUnwritten text why sink sink_now)
unwritten-end text other e sink sink_now (Ok a) same err ends cause = tt
unwritten-end text other e sink sink_now (Err why) same err (inl done) cause = absurd (err.1 (err.0 ∙ done.0))
unwritten-end text other e sink sink_now (Err why) same err (inr cut) cause =
    inl (err.0 ∙ cut.0, subst (λ (t : List ℕ). AppendsPart sink.written t sink_now.written) same cut.1, cause cut.0)
