-- Why no next start is refused for what a rollback has left: of its rollout, or of its way back.
use Rattle.std.proofs.Common.{◌≡◌, ◌⊎◌, inl, inr, ℕ, true, List, [], Option, Some, None, IfSome, refl, sym, ap, ◌∙◌, subst}
use Rattle.lists.proofs.Conditions.{some_same_is}
use Rattle.lists.proofs.Options.{of_some}
use Rattle.rollout_rules.specs.Wan.{Rollout}
use Rattle.rollout_rules.specs.History.{History}
use Rattle.rollout_rules.specs.Legal.{is_legal}
use Rattle.rollout_rules.specs.Network.{IsNetwork}
use Rattle.rollout_rules.specs.Valid.{is_valid_plan}
use Rattle.disk_model.specs.Traces.{DiskTrace}
use Rattle.disk_model.specs.Moments.{LeavesOnly}
use Rattle.disk_model.proofs.Running.{LeavesOnly-chain, LeavesOnly-weaker}
use Rattle.wan_edge.specs.Ports.{PortTrace}
use Rattle.intent_journal.specs.Images.{is_blank, journal_in}
use Rattle.intent_journal.specs.Openings.{found_by}
use Rattle.intent_journal.specs.Parts.{Kept}
use Rattle.intent_journal.specs.Phases.{IsOldOrNew, kept_by}
use Rattle.intent_journal.specs.Placements.{IsStoodOrPlaced}
use Rattle.intent_journal.specs.Recovered.{KeepsNow, kept_for}
use Rattle.intent_journal.specs.Verdicts.{verdict}
use Rattle.intent_journal.proofs.Listings.{blank_none}
use Rattle.rollout_book.specs.JournaledRounds.{Journaled}
use Rattle.rollout_book.specs.Lists.{HasOwner}
use Rattle.shared_book.specs.Images.{HasImages, Stays}
use Rattle.shared_book.specs.Opened.{opening_of}
use Rattle.switch_ports.specs.Berths.{FleetPorts}
use Rattle.switch_laws.proofs.Stands.{if_some, was_told}
use Rattle.rollout_report.specs.Journals.{digest_for}
use Rattle.controller_run.specs.declared.running.Limits.{Limits}
use Rattle.rollback_plan.specs.Turns.{BeginsBack}
use Rattle.rollback_plan.proofs.TurnContents.{begins-back}
use Rattle.rollback_service.specs.Levellings.{HasLevelled, TurnsFrom, start_of}
use Rattle.rollback_service.specs.Placings.{IsSeen, kept_from}
use Rattle.rollback_service.specs.declared.answer.LevelAnswer.{LevelAnswer}
use Rattle.rollback_service.specs.declared.answer.LevelAnswer.TheVariants as ended
use Rattle.rollback_service.specs.declared.origin.BackFrom.{BackFrom}
use Rattle.rollback_service.proofs.Levellings.{turns-most, turns-sound}
use Rattle.swanroll_top.specs.LevelTargets.{HasListFrom}
use Rattle.swanroll_top.specs.NextRollbacks.{MayBeFoundEither, NextStartEither, StartsEither}
use Rattle.swanroll_top.specs.NextStarts.{IsTakenAgain, MayBeFound, StartsAgain}
use Rattle.swanroll_top.specs.Rollbacks.{Closes, Reverts, RollsBack, TakesBack}
use Rattle.swanroll_top.specs.Rollouts.{FleetSeen}
use Rattle.text_commands.specs.declared.command_end.CommandEnd.{CommandEnd}
use Rattle.swanroll_top.proofs.Levelling.{here, level-end}
use Rattle.swanroll_top.proofs.NextStarting.{kept-owner, rolled-again, unopened-again}
use Rattle.swanroll_top.proofs.Reverting.{is_run, run-begun}

-- ---- what this rollout takes again

module _ {D : Type 0} (trace : D → DiskTrace) (origin : BackFrom) (r : Rollout) (migration : ℕ) (disk now : D) where
  either-by : (told told' : Option (List ℕ)) → IfSome told (λ first. IfSome told' (λ _. LeavesOnly trace disk now (MayBeFound r (digest_for r migration) first (trace disk).may_leave)))
      → IfSome told (λ first. IfSome told' (λ _. LeavesOnly trace disk now (MayBeFoundEither origin r migration first (trace disk).may_leave)))
  either-by None told' again = tt
  either-by (Some first) None again = tt
  either-by (Some first) (Some last) again =
      LeavesOnly-weaker trace disk now (MayBeFound r (digest_for r migration) first (trace disk).may_leave) (MayBeFoundEither origin r migration first (trace disk).may_leave) again (λ c is. inl is)

  own-either : StartsAgain trace r (digest_for r migration) disk now → StartsEither trace origin r migration disk now
  own-either again = either-by (trace disk).bytes (trace now).bytes again

-- ---- where a journal of the way back was placed, or that was tried

module _ {D : Type 0} (trace : D → DiskTrace) (origin : BackFrom) (r : Rollout) (migration : ℕ) (found : History) (stage : ℕ) (turns : TurnsFrom origin r found stage) (opened levelled disk_now : D) (first image : List ℕ) (kept : Kept)
    (begins : found_by r (verdict r (digest_for r migration) first) ≡ Some found) (own : (kept.digest ≡ (digest_for r migration).bytes) × (kept.migration ≡ (digest_for r migration).migration))
    (starts : BeginsBack r.problem r.plan found stage) (again : LeavesOnly trace opened levelled (MayBeFound r (digest_for r migration) first (trace opened).may_leave))
    (seen : IsSeen trace levelled) (owner : HasOwner kept image) (list : HasListFrom r found image) where
  abbrev Either : List ℕ → Type 0
  Either c = MayBeFoundEither origin r migration first (trace opened).may_leave c

  -- an image that keeps what levelling has left
  taken-old : (c : List ℕ) → journal_in c ≡ journal_in image → IsTakenAgain r (digest_for r migration) first c
  taken-old c old =
      let same : owner.now ≡ list.has.kept = some_same_is owner.now list.has.kept (sym owner.is ∙ list.has.is) in
      record {
        found = found;
        begins = begins;
        past = list.past;
        legal = list.legal;
        kept = owner.now;
        is = old ∙ owner.is;
        digest_is = owner.digest ∙ own.0;
        migration_is = owner.migration ∙ own.1;
        starts = ap (λ (k : Kept). k.starts) same ∙ list.has.starts;
        rows = ap (λ (k : Kept). k.rows) same ∙ list.has.rows;
      }

  old-or-new : (c : List ℕ) → IsOldOrNew (journal_in image) (kept_from r migration (start_of r found stage)) c → Either c
  old-or-new c (inl old) = inl (inr (taken-old c old))
  old-or-new c (inr new) = inr (record { found = found; begins = begins; stage = stage; turns = turns; is = new; starts = starts })

  never-blank : is_blank image ≡ true → ⊥
  never-blank blank = let no : ◌≡◌ {A = Option Kept} None (Some list.has.kept) = sym (blank_none image blank) ∙ list.has.is in cc

  stood-either : (c : List ℕ) → IsStoodOrPlaced (kept_from r migration (start_of r found stage)) image c → Either c
  stood-either c (inl same) = inl (inr (taken-old c (ap journal_in same)))
  stood-either c (inr placed) = elim placed as (λ _. Either c) [
    | inl blank ↦ absurd (never-blank blank.0)
    | inr journal ↦ old-or-new c journal.1
  ]

  so-either : (c : List ℕ) → (trace levelled).may_leave c ⊎ IsStoodOrPlaced (kept_from r migration (start_of r found stage)) image c → Either c
  so-either c (inl may) = inl (again.each c (seen.counts (trace opened).moment c again.later may))
  so-either c (inr stood) = stood-either c stood

  placed-either : LeavesOnly trace levelled disk_now (λ c. (trace levelled).may_leave c ⊎ IsStoodOrPlaced (kept_from r migration (start_of r found stage)) image c)
      → LeavesOnly trace opened disk_now (MayBeFoundEither origin r migration first (trace opened).may_leave)
  placed-either run =
      LeavesOnly-chain trace opened levelled disk_now (MayBeFoundEither origin r migration first (trace opened).may_leave)
      (λ c. (trace levelled).may_leave c ⊎ IsStoodOrPlaced (kept_from r migration (start_of r found stage)) image c)
      (LeavesOnly-weaker trace opened levelled (MayBeFound r (digest_for r migration) first (trace opened).may_leave) (MayBeFoundEither origin r migration first (trace opened).may_leave) again (λ c is. inl is))
      run so-either

-- ---- a rollout that was levelled

module _ {D P : Type 0} (trace : D → DiskTrace) (tell : P → PortTrace)
    (origin : BackFrom) (r : Rollout) (limits : Limits) (opened disk_now : D) (before now : FleetPorts P) (network : IsNetwork r.problem) (valid : is_valid_plan r.problem r.plan ≡ true)
    (levelled : D) (answer : LevelAnswer) (has : HasLevelled trace tell origin r (digest_for r limits.migration) limits.rounds opened before now levelled answer) where
  abbrev book : Journaled D
  book = has.rolled.book

  abbrev stage : ℕ
  stage = has.stage

  abbrev start : List ℕ
  start = start_of r has.rolled.book.history has.stage

  levelled-again : StartsAgain trace r (digest_for r limits.migration) opened levelled
  levelled-again = rolled-again trace tell r (digest_for r limits.migration) has.policy limits.rounds opened levelled before now has.run has.rolled

  legal-found : is_legal r.problem r.plan book.history ≡ true
  legal-found = subst (λ (x : Rollout). is_legal x.problem x.plan book.history ≡ true) has.rolled.opened.rollout has.rolled.new.legal

  turns-here : TurnsFrom origin r book.history stage
  turns-here = subst (λ (x : Rollout). TurnsFrom origin x book.history stage) has.rolled.opened.rollout has.turns

  starts-back : BeginsBack r.problem r.plan book.history stage
  starts-back =
      begins-back r.problem r.plan book.history stage legal-found (turns-most r book.history legal-found origin stage turns-here) valid
      (turns-sound r book.history legal-found network valid origin stage turns-here)

  module _ (first : List ℕ) (first_is : (trace opened).bytes ≡ Some first) (image : List ℕ) (image_is : (trace levelled).bytes ≡ Some image) where
    first-begins : found_by r (verdict r (digest_for r limits.migration) first) ≡ Some book.history
    first-begins = of_some (λ (f : List ℕ). found_by r (verdict r (digest_for r limits.migration) f) ≡ Some book.history) (trace opened).bytes first first_is has.rolled.opened.found

    keeps : KeepsNow (kept_for r (digest_for r limits.migration) (verdict r (digest_for r limits.migration) first)) (trace book.disk).bytes (trace book.disk).may_leave
    keeps =
        of_some (λ (f : List ℕ). KeepsNow (kept_for r (digest_for r limits.migration) (verdict r (digest_for r limits.migration) f)) (trace book.disk).bytes (trace book.disk).may_leave)
        (trace opened).bytes first first_is has.rolled.opened.on.keeps

    stayed : Stays trace (opening_of book has.policy) (trace book.disk) keeps.what levelled image
    stayed =
        of_some (Stays trace (opening_of book has.policy) (trace book.disk) keeps.what levelled) (trace levelled).bytes image image_is
        (of_some (λ (kept : Kept). IfSome (trace levelled).bytes (Stays trace (opening_of book has.policy) (trace book.disk) kept levelled)) (kept_by (trace book.disk).bytes) keeps.what
        (ap kept_by keeps.is_told ∙ keeps.fresh.keeps) has.rolled.run.stays)

    again-from : LeavesOnly trace opened levelled (MayBeFound r (digest_for r limits.migration) first (trace opened).may_leave)
    again-from =
        of_some (λ _. LeavesOnly trace opened levelled (MayBeFound r (digest_for r limits.migration) first (trace opened).may_leave)) (trace levelled).bytes image image_is
        (of_some (λ (f : List ℕ). IfSome (trace levelled).bytes (λ _. LeavesOnly trace opened levelled (MayBeFound r (digest_for r limits.migration) f (trace opened).may_leave)))
        (trace opened).bytes first first_is levelled-again)

    levelled-list : is_run answer ≡ true → IsSeen trace levelled → HasListFrom r book.history image
    levelled-list is seen =
        let ran = run-begun trace tell origin r limits.migration limits.rounds opened levelled before now answer has is in
        let images : HasImages trace (opening_of book has.policy) (trace book.disk).moment (trace book.disk).faults levelled ran.log =
        subst (λ (d : D). HasImages trace (opening_of book has.policy) (trace book.disk).moment (trace book.disk).faults d ran.log) (sym has.rolled.run.back) ran.images in
        subst (λ (x : Rollout). HasListFrom x book.history image) has.rolled.opened.rollout
        (here trace (opening_of book has.policy) ran.log limits.migration [] (trace book.disk).moment (trace book.disk).faults levelled images image image_is seen)

    tried-either : is_run answer ≡ true → IsSeen trace levelled → LeavesOnly trace levelled disk_now (λ c. (trace levelled).may_leave c ⊎ IsStoodOrPlaced (kept_from r limits.migration start) image c)
        → LeavesOnly trace opened disk_now (MayBeFoundEither origin r limits.migration first (trace opened).may_leave)
    tried-either is seen run =
        placed-either trace origin r limits.migration book.history stage turns-here opened levelled disk_now first image keeps.what first-begins
        (kept-owner r (digest_for r limits.migration) (verdict r (digest_for r limits.migration) first) keeps.what keeps.is_kept) starts-back again-from seen stayed.owner (levelled-list is seen) run

  module _ (e : CommandEnd) (out out_now : Option (List ℕ)) where
    -- after a level
    takes-either : is_run answer ≡ true → TakesBack trace r limits.migration start levelled disk_now e out out_now → StartsEither trace origin r limits.migration opened disk_now
    takes-either is takes =
        if_some (trace opened).bytes (λ first. IfSome (trace disk_now).bytes (λ _. LeavesOnly trace opened disk_now (MayBeFoundEither origin r limits.migration first (trace opened).may_leave)))
        (λ first first_is.
        if_some (trace disk_now).bytes (λ _. LeavesOnly trace opened disk_now (MayBeFoundEither origin r limits.migration first (trace opened).may_leave))
        (λ last last_is.
        let was = was_told (trace levelled).bytes (trace disk_now).bytes last takes.may.told last_is in
        tried-either first first_is was.0 was.1 is takes.seen
        (of_some (λ image. LeavesOnly trace levelled disk_now (λ c. (trace levelled).may_leave c ⊎ IsStoodOrPlaced (kept_from r limits.migration start) image c)) (trace levelled).bytes was.0 was.1
        takes.may.any_moment)))

    -- where the disk is as levelling has left it
    left-either : disk_now ≡ levelled → StartsEither trace origin r limits.migration opened disk_now
    left-either same = subst (λ (d : D). StartsEither trace origin r limits.migration opened d) (sym same) (own-either trace origin r limits.migration opened levelled levelled-again)

    closes-either : (a : LevelAnswer) → a ≡ answer → Closes trace limits.migration a levelled disk_now e out out_now → StartsEither trace origin r limits.migration opened disk_now
    closes-either (ended.Level other xs) same closes =
        let end = level-end trace tell origin r (digest_for r limits.migration) limits.rounds opened before now levelled answer has other xs same in
        let there : TakesBack trace book.rollout limits.migration (start_of book.rollout book.history stage) levelled disk_now e out out_now =
        subst (λ (ys : List ℕ). TakesBack trace book.rollout limits.migration ys levelled disk_now e out out_now) end.start_is
        (subst (λ (x : Rollout). TakesBack trace x limits.migration xs levelled disk_now e out out_now) end.rollout_is closes) in
        takes-either (sym (ap is_run same))
        (subst (λ (x : Rollout). TakesBack trace x limits.migration (start_of x book.history stage) levelled disk_now e out out_now) has.rolled.opened.rollout there)
    closes-either (ended.Unlevel o) same closes = left-either closes.disk_is

-- ---- by the input

module _ {D P : Type 0} (trace : D → DiskTrace) (tell : P → PortTrace)
    (Given : List ℕ → Type 0) (origin : BackFrom) (limits : Limits) (disk disk_now : D) (before now : FleetSeen P) (e : CommandEnd) (out out_now : Option (List ℕ)) where
  rolls-either : (r : Rollout) (opened : D) → RollsBack trace tell r origin limits opened disk_now before now e out out_now → StartsEither trace origin r limits.migration opened disk_now
  rolls-either r opened rolls = elim rolls.ends as (λ _. StartsEither trace origin r limits.migration opened disk_now) [
    | inl levels ↦
        closes-either trace tell origin r limits opened disk_now before.ports now.ports rolls.network rolls.valid levels.levelled levels.answer levels.has e out out_now levels.answer refl levels.closes
    | inr none ↦ own-either trace origin r limits.migration opened disk_now (unopened-again trace r (digest_for r limits.migration) opened disk_now none.left.meanwhile)
  ]

  pub reverts-next : Reverts trace tell Given origin limits disk disk_now before now e out out_now → NextStartEither trace origin limits Given disk disk_now
  reverts-next (inl none) = inl none.disk_is
  reverts-next (inr way) = elim way.rolls as (λ _. NextStartEither trace origin limits Given disk disk_now) [
    | inl fails ↦ inr (inl fails.opens)
    | inr rolled ↦ inr (inr (record {
      input = way.input;
      given = way.given;
      r = way.r;
      is = way.is;
      opened = rolled.opened;
      opens = rolled.opens;
      again = rolls-either way.r rolled.opened rolled.rolls;
    }))
  ]
