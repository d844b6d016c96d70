-- After a rollback that was begun the network is safe and nothing was begun past what the list found had begun but what leads up to a stage; after status 0 exactly so much is settled, and its way
-- back begins there.
use Rattle.std.proofs.Common.{◌≡◌, ◌⊎◌, ◌+◌, ◌<◌, ◌≤◌, ◌==◌, ◌^◌, ℕ, List, [], ◌∷◌, ◌++◌, Bool, true, false, nat_le, Option, Some, None, IfSome, Ok, refl, sym, ap, ◌∙◌, subst, inl, inr, arith, leb-true, ne_eqb}
use Rattle.std.specs.List.{All, AllByRecursion}
use Rattle.std.proofs.lemmas.Bool.{and_parts}
use Rattle.std.proofs.lemmas.List.Elements.{All-head, All-tail, All-weaker}
use Rattle.lists.proofs.Options.{of_some}
use Rattle.rollout_rules.specs.Wan.{Plan, Problem, Rollout, last_stage}
use Rattle.rollout_rules.specs.Items.{content, item_at, item_count}
use Rattle.rollout_rules.specs.Operations.{content_after}
use Rattle.rollout_rules.specs.History.{History, begins_in, begun, settled, with_entries}
use Rattle.rollout_rules.specs.Legal.{is_legal, may_follow}
use Rattle.rollout_rules.specs.Network.{IsNetwork}
use Rattle.rollout_rules.specs.Release.{held_back}
use Rattle.rollout_rules.proofs.Below.{all_below-at}
use Rattle.rollout_rules.specs.Valid.{is_valid_plan}
use Rattle.rollout_rules.specs.Agent.{Holding}
use Rattle.rollout_rules.specs.declared.op.Entry.{Entry}
use Rattle.rollout_rules.specs.declared.op.OpView.{OpView}
use Rattle.rollout_laws.specs.Waiting.{NothingFlies}
use Rattle.rollout_laws.proofs.Histories.{begins_in-append, begun-with, front_follows, is_counted, is_legal-append, rest_follows}
use Rattle.rollout_laws.proofs.Safety.{legal-safe}
use Rattle.rollout_laws.proofs.Within.{held-safe}
use Rattle.disk_model.specs.Traces.{DiskTrace}
use Rattle.disk_model.specs.Moments.{LeavesOnly}
use Rattle.disk_mirror.specs.Openings.{Opens}
use Rattle.wan_edge.specs.Frames.{Command}
use Rattle.wan_edge.specs.Ports.{PortTrace}
use Rattle.wan_edge.specs.Streams.{Appends}
use Rattle.wan_edge.specs.Switches.{Holdings}
use Rattle.intent_journal.specs.Images.{is_blank, journal_in}
use Rattle.intent_journal.specs.Openings.{IsOpenedOn, found_by}
use Rattle.intent_journal.specs.Parts.{Kept}
use Rattle.intent_journal.specs.Phases.{IsOldOrNew}
use Rattle.intent_journal.specs.Placements.{IsStoodOrPlaced}
use Rattle.intent_journal.specs.Verdicts.{verdict}
use Rattle.intent_journal.proofs.Listings.{blank_none}
use Rattle.rollout_book.specs.JournaledRounds.{Journaled}
use Rattle.shared_book.specs.declared.note.Cause.TheVariants as cause
use Rattle.shared_book.specs.declared.note.Written.{Written}
use Rattle.shared_book.specs.Histories.{Opening, added, history_of}
use Rattle.shared_book.proofs.Lists.{list-is_legal}
use Rattle.shared_book.specs.Homes.{homes_of}
use Rattle.shared_book.specs.Images.{HasImages, HasLegalList}
use Rattle.shared_book.specs.Opened.{opening_of}
use Rattle.port_session.specs.Sessions.{first_session}
use Rattle.switch_ports.specs.Views.{view}
use Rattle.switch_ports.specs.declared.ports.Berth.{Berth}
use Rattle.switch_ports.specs.Berths.{FleetPorts}
use Rattle.switch_ports.specs.Hands.{first_sessions}
use Rattle.switch_ports.specs.Homes.{working_homes}
use Rattle.switch_laws.specs.Holdings.{AreHeldAt, IsHeldAt}
use Rattle.switch_laws.proofs.Begun.{begun_within}
use Rattle.switch_laws.proofs.Stands.{if_some, was_told}
use Rattle.intent_journal.specs.declared.digest.Digest.{Digest}
use Rattle.rollout_report.specs.Journals.{digest_for}
use Rattle.controller_run.specs.Keeping.{IsBegun}
use Rattle.controller_run.specs.PortRuns.{IsBack}
use Rattle.controller_run.specs.declared.end.RunEnd.{RunEnd}
use Rattle.controller_run.specs.declared.end.RunEnd.TheVariants as run
use Rattle.controller_run.specs.declared.outcome.RunOutcome.{RunOutcome}
use Rattle.controller_run.specs.declared.running.Limits.{Limits}
use Rattle.completion_laws.proofs.Excused.{held-rests, held-still}
use Rattle.completion_laws.proofs.InFlight.{still-flies}
use Rattle.rollback_plan.specs.Levels.{HoldsFrom, is_levelled, is_levelled_at}
use Rattle.rollback_plan.specs.Turns.{BeginsBack, BegunSoFar, HasComeSoFar, IsOnTheTurn}
use Rattle.rollback_plan.proofs.Ceilings.{ceiling-most}
use Rattle.rollback_plan.proofs.Levelling.{levelled-contents, levelling-holds}
use Rattle.rollback_plan.proofs.StageStarts.{back_start-contents, back_start-is_sound}
use Rattle.rollback_plan.proofs.TurnContents.{begins-back, so_far-levelled}
use Rattle.rollback_plan.proofs.TurnStages.{start-at_ceiling}
use Rattle.levelling_laws.proofs.Shared.{ended-so_far, held-so_far, list-so_far}
use Rattle.rollback_service.specs.Levellings.{HasLevelled, LevelsBy, TurnsFrom, ceiling_of, level_at, start_of}
use Rattle.rollback_service.specs.Placings.{HasPlaced, IsSeen, MayPlace, kept_from}
use Rattle.rollback_service.specs.declared.answer.LevelAnswer.{LevelAnswer}
use Rattle.rollback_service.specs.declared.answer.LevelAnswer.TheVariants as ended
use Rattle.rollback_service.specs.declared.origin.BackFrom.{BackFrom}
use Rattle.rollback_service.specs.declared.origin.BackFrom.TheVariants as whence
use Rattle.rollback_service.proofs.Levellings.{turns-most, turns-sound}
use Rattle.text_commands.specs.CommandEnds.{ending_of_journal}
use Rattle.swanroll_top.specs.LevelTargets.{AreHeldAtStage, EndsAtStage, EndsBackSafely, HasListFrom, IsFoundOrPlaced, IsHeldAtStage, IsLevelThere, IsTakenBack, LeadsSoFar, LevelsSafely, OnLevel, SendsSoFar, operations_to}
use Rattle.text_commands.specs.Answers.{rollout_to}
use Rattle.swanroll_top.specs.Rollbacks.{Closes, Levels, Reverts, RevertsAs, RollsBackOpened, RollsBackOutOf, TakesBack, back_text}
use Rattle.swanroll_top.specs.Rollouts.{FleetSeen, ending_at}
use Rattle.swanroll_top.specs.Targets.{EndsWithin, IsOfBegun, StaysSafe}
use Rattle.text_commands.specs.declared.command_end.CommandEnd.{CommandEnd}
use Rattle.text_commands.specs.declared.command_end.CommandEnd.TheVariants.{Done, DiskFault, NotFinished, OutOfMemory, WriteFault}
use Rattle.text_commands.specs.declared.unfinished.Unfinished.TheVariants.{PortFault}
use Rattle.swanroll_top.proofs.Elsewhere.{none-settled}
use Rattle.swanroll_top.proofs.Outcomes.{is_ran, stop-not-done}
use Rattle.swanroll_top.proofs.Reaching.{begun-told, berths-within, is-told, is_of_begun, journal-begun, not-begun, of-begun, unbegun-refused}
use Rattle.swanroll_top.proofs.Reverting.{Begun, is_level, is_run, run-begun, run-unbegun, unlevel-not}
use Rattle.swanroll_top.proofs.SettledPorts.{berths-settled, each-more, told-more}
use Rattle.text_commands.proofs.Statuses.{is-done}

-- ---- the policy

-- a policy that levels at a stage holds from it on
pub levels-holds : (s : ℕ) (policy : OpView → ℕ) → LevelsBy s policy → HoldsFrom s policy
levels-holds s policy levels = record {
  from = λ view small past. ap (λ (a : ℕ). a == held_back) (levels view small) ∙ (levelling-holds s).from view small past;
  below = λ view small before. ap (λ (a : ℕ). a == held_back) (levels view small) ∙ (levelling-holds s).below view small before;
}

-- ---- the lists on the way

module _ (p : Problem) (plan : Plan) (s : ℕ) (net : IsNetwork p) (valid : is_valid_plan p plan ≡ true) (found : History) (first : is_legal p plan found ≡ true) (es : List Entry)
    (legal : is_legal p plan (with_entries found es) ≡ true) (so : BegunSoFar p plan found s (with_entries found es)) where
  fronts-on_the_turn : (front rest : List Entry) → front ++ rest ≡ es → IsOnTheTurn p plan found s (with_entries found front)
  fronts-on_the_turn front rest is =
      let follows : may_follow p plan found (front ++ rest) ≡ true = subst (λ (xs : List Entry). may_follow p plan found xs ≡ true) (sym is) (rest_follows p plan found es legal) in
      let here = is_legal-append p plan found front first (front_follows p plan found front rest follows) in
      record {
        legal = here;
        safe = legal-safe p plan (with_entries found front) net valid here;
        begun = λ n lt.
            let more : begins_in es n ≡ begins_in front n + begins_in rest n = ap (λ (xs : List Entry). begins_in xs n) (sym is) ∙ begins_in-append front rest n in
            omega (arith, so n lt, begun-with found es n, begun-with found front n, more);
      }

-- ---- what went out

module _ (o : Opening) (h : History) (s : ℕ) (legal : is_legal o.rollout.problem o.rollout.plan h ≡ true) (so : BegunSoFar o.rollout.problem o.rollout.plan o.found s h) where
  command-so_far : (c : Command) → IsBegun o h c → LeadsSoFar o.rollout o.found s c
  command-so_far c is =
      let within = begun_within o.rollout.problem o.rollout.plan h legal is.op is.begun in
      let inside : is.op.item < item_count o.rollout.problem = (is_counted o.rollout.problem o.rollout.plan h legal is.op.item).within (omega (arith, within.above, within.within)) in
      subst (λ (d : Command). LeadsSoFar o.rollout o.found s d) (sym is.is) (omega (arith, within.within, so is.op.item inside))

module _ {P : Type 0} (tell : P → PortTrace) (o : Opening) (migration s : ℕ) (log : List Written) (now : FleetPorts P)
    (legal : is_legal o.rollout.problem o.rollout.plan (history_of o log) ≡ true) (so : BegunSoFar o.rollout.problem o.rollout.plan o.found s (history_of o log)) where
  berths-send : (bs : List (Berth P)) → All (IsBack tell o migration (homes_of o.rollout.problem) log now.kept) (first_sessions bs) → AllByRecursion (SendsSoFar tell o.rollout migration o.found s now) bs
  berths-send [] all = tt
  berths-send (b ∷ bs) all =
      let back : IsBack tell o migration (homes_of o.rollout.problem) log now.kept (first_session b.switch b.port) = All-head (IsBack tell o migration (homes_of o.rollout.problem) log now.kept) (first_session b.switch b.port) (first_sessions bs) all in (
        record {
          back = back.now.port;
          kept = back.is_kept;
          sent = back.run.sent;
          each = All-weaker (IsBegun o (history_of o log)) (LeadsSoFar o.rollout o.found s) (command-so_far o (history_of o log) s legal so) back.run.sent back.run.begun;
          part = back.run.story.part;
        },
        berths-send bs (All-tail (IsBack tell o migration (homes_of o.rollout.problem) log now.kept) (first_session b.switch b.port) (first_sessions bs) all),
      )

-- ---- what the switches hold at a level

-- of an item all operations up to the stage are settled, and no other is begun
record IsLevelHere (r : Rollout) (s : ℕ) (h : History) (n : ℕ) : Type 0 where
  settled_all : operations_to r s n ≤ settled h n
  no_other : begun h n ≤ operations_to r s n

level-here : (r : Rollout) (s : ℕ) (h : History) → is_levelled r.problem r.plan h s ≡ true → (n : ℕ) → n < item_count r.problem → IsLevelHere r s h n
level-here r s h level n inside =
    let both = and_parts (nat_le (operations_to r s n) (settled h n)) (nat_le (begun h n) (operations_to r s n)) (all_below-at (item_count r.problem) (is_levelled_at r.problem r.plan h s) level n inside) in
    record { settled_all = leb-true _ _ both.0; no_other = leb-true _ _ both.1 }

module _ (r : Rollout) (migration s : ℕ) (h : History) (legal : is_legal r.problem r.plan h ≡ true) (most : s ≤ last_stage r.plan) (level : is_levelled r.problem r.plan h s ≡ true) (n : ℕ) (inside : n < item_count r.problem) (holding : Holding) where
  all-settled : settled h n ≡ operations_to r s n
  all-settled =
      let at = level-here r s h level n inside in
      omega (arith, at.settled_all, at.no_other, (is_counted r.problem r.plan h legal n).settled_begun)

  brings-content : content_after r.problem r.plan (item_at r.problem n) (operations_to r s n) ≡ content r.problem r.plan (item_at r.problem n) s
  brings-content = ap (content_after r.problem r.plan (item_at r.problem n)) (sym all-settled) ∙ levelled-contents r.problem r.plan h s level legal most n inside

  at-stage : IsHeldAt r migration h n holding → IsHeldAtStage r migration s h.start n holding
  at-stage (inl moved) =
      let at = level-here r s h level n inside in
      let number : holding.held.number ≡ operations_to r s n = omega (arith, moved.least, moved.most, at.no_other, all-settled) in
      inl (record {
        pair = λ k. record { migration = moved.pair k; number = number k };
        content = λ some. moved.content (subst (λ (m : ℕ). 0 < m) (sym number) some) ∙ ap (content_after r.problem r.plan (item_at r.problem n)) number ∙ brings-content;
      })
  at-stage (inr left) = inr (record { earlier = left.earlier; none_left = sym all-settled ∙ left.none })

module _ {P : Type 0} (tell : P → PortTrace) (r : Rollout) (migration s : ℕ) (found h : History) (begins : h.start ≡ found.start) (before now : FleetPorts P)
    (legal : is_legal r.problem r.plan h ≡ true) (most : s ≤ last_stage r.plan) (level : is_levelled r.problem r.plan h s ≡ true) where
  stage-of : (switch : ℕ) (holdings : Holdings) → AreHeldAt r migration (homes_of r.problem) switch h holdings → AreHeldAtStage r migration s (homes_of r.problem) switch found.start holdings
  stage-of switch holdings each =
      subst (λ (start : List ℕ). AreHeldAtStage r migration s (homes_of r.problem) switch start holdings) begins
      (λ n inside home. at-stage r migration s h legal most level n inside (holdings n) (each n inside home))

  berths-level : (bs : List (Berth P)) → AllByRecursion (EndsWithin tell r migration found h before now) bs → AllByRecursion (EndsAtStage tell r migration s found before now) bs
  berths-level [] all = tt
  berths-level (b ∷ bs) all = (
    record {
      given = all.0.given;
      back = all.0.back;
      kept = all.0.kept;
      holds = λ starts. told-more (AreHeldAt r migration (homes_of r.problem) b.switch h) (AreHeldAtStage r migration s (homes_of r.problem) b.switch found.start) (stage-of b.switch)
          (tell all.0.back).offered (tell all.0.back).heard (tell all.0.back).held (all.0.holds starts);
      each = each-more (AreHeldAt r migration (homes_of r.problem) b.switch h) (AreHeldAtStage r migration s (homes_of r.problem) b.switch found.start) (stage-of b.switch)
          r migration (homes_of r.problem) found (view tell (first_session b.switch b.port)) (tell all.0.back) all.0.each;
    },
    berths-level bs all.1,
  )

-- ---- what a crash leaves

module _ {D : Type 0} (trace : D → DiskTrace) (o : Opening) (log : List Written) (migration : ℕ) (start : List ℕ) (from count : ℕ) (levelled : D) (images : HasImages trace o from count levelled log) where
  abbrev Right : List ℕ → Type 0
  Right c = IsFoundOrPlaced o.rollout migration start o.found c

  list-from : (c : List ℕ) → HasLegalList o log c → HasListFrom o.rollout o.found c
  list-from c is = record { past = is.past; legal = is.legal; has = is.has }

  module _ (image : List ℕ) (told : (trace levelled).bytes ≡ Some image) where
    since-from : (c : List ℕ) → (trace levelled).left_since from c → HasListFrom o.rollout o.found c
    since-from c left = list-from c (of_some (λ _. (image : List ℕ) → (trace levelled).left_since from image → HasLegalList o log image) (trace levelled).bytes image told images.since c left)

    module _ (seen : IsSeen trace levelled) where
      later : from ≤ (trace levelled).moment
      later = of_some (λ _. from ≤ (trace levelled).moment) (trace levelled).bytes image told images.later

      may-from : (c : List ℕ) → (trace levelled).may_leave c → HasListFrom o.rollout o.found c
      may-from c may = since-from c (seen.counts from c later may)

      -- the image that is told has a list
      pub here : HasListFrom o.rollout o.found image
      here = may-from image (of_some (λ (b : List ℕ). (trace levelled).may_leave b) (trace levelled).bytes image told seen.shows)

      old-or-new : (c : List ℕ) → IsOldOrNew (journal_in image) (kept_from o.rollout migration start) c → Right c
      old-or-new c (inl old) = inl (record { past = here.past; legal = here.legal; has = record { kept = here.has.kept; is = old ∙ here.has.is; starts = here.has.starts; rows = here.has.rows } })
      old-or-new c (inr new) = inr new

      never-blank : is_blank image ≡ true → ⊥
      never-blank blank = let no : ◌≡◌ {A = Option Kept} None (Some here.has.kept) = sym (blank_none image blank) ∙ here.has.is in cc

      stood-right : (c : List ℕ) → IsStoodOrPlaced (kept_from o.rollout migration start) image c → Right c
      stood-right c (inl same) = inl (subst (HasListFrom o.rollout o.found) (sym same) here)
      stood-right c (inr placed) = elim placed as (λ _. Right c) [
        | inl blank ↦ absurd (never-blank blank.0)
        | inr journal ↦ old-or-new c journal.1
      ]

      placed-right : (disk_now : D) → LeavesOnly trace levelled disk_now (λ c. (trace levelled).may_leave c ⊎ IsStoodOrPlaced (kept_from o.rollout migration start) image c)
          → (c : List ℕ) → (trace disk_now).left_since from c → Right c
      placed-right disk_now leaves c left = elim (leaves.before from c later left) as (λ _. Right c) [
        | inl past ↦ inl (since-from c past)
        | inr so ↦ elim so as (λ _. Right c) [
          | inl may ↦ inl (may-from c may)
          | inr stood ↦ stood-right c stood
        ]
      ]

  abbrev CrashesRight : D → Type 0
  CrashesRight disk_now = IfSome (trace disk_now).bytes (λ _. (c : List ℕ) → (trace disk_now).left_since from c → Right c)

  -- where nothing was placed
  left-crash : CrashesRight levelled
  left-crash = if_some (trace levelled).bytes (λ _. (c : List ℕ) → (trace levelled).left_since from c → Right c) (λ image told c left. inl (since-from image told c left))

  -- and where that was tried
  placed-crash : (disk_now : D) → IsSeen trace levelled → MayPlace trace (kept_from o.rollout migration start) levelled disk_now → CrashesRight disk_now
  placed-crash disk_now seen may =
      if_some (trace disk_now).bytes (λ _. (c : List ℕ) → (trace disk_now).left_since from c → Right c) (λ image_now told_now c left.
      let was = was_told (trace levelled).bytes (trace disk_now).bytes image_now may.told told_now in
      placed-right was.0 was.1 seen disk_now
      (of_some (λ image. LeavesOnly trace levelled disk_now (λ c. (trace levelled).may_leave c ⊎ IsStoodOrPlaced (kept_from o.rollout migration start) image c)) (trace levelled).bytes was.0 was.1 may.any_moment) c left)

-- ---- a rollback that was begun

-- the input is a rollout, and it was levelled from the image that its disk told
record LevelsFrom {D P : Type 0} (trace : D → DiskTrace) (tell : P → PortTrace)
    (Given : List ℕ → Type 0) (origin : BackFrom) (limits : Limits) (disk disk_now : D) (before now : FleetSeen P) (e : CommandEnd) (out out_now : Option (List ℕ)) : Type 0 where
  pub input : List ℕ
  pub given : Given input
  pub r : Rollout
  pub is : rollout_to input ≡ Ok r
  pub opened : D
  pub opens : Opens (trace disk) (trace opened)
  pub image : List ℕ
  pub stored : (trace opened).bytes ≡ Some image
  pub network : IsNetwork r.problem
  pub valid : is_valid_plan r.problem r.plan ≡ true
  pub small : limits.migration + 1 < 2 ^ 32
  pub levels : Levels trace tell r origin limits opened disk_now before now e out out_now

module _ {D P : Type 0} (trace : D → DiskTrace) (tell : P → PortTrace)
    (Given : List ℕ → Type 0) (origin : BackFrom) (limits : Limits) (disk disk_now : D) (before now : FleetSeen P) (e : CommandEnd) (out out_now : Option (List ℕ)) where
  levels-opened : (way : RollsBackOutOf trace tell Given origin limits disk disk_now before now e out out_now) (rolled : RollsBackOpened trace tell way.r origin limits disk disk_now before now e out out_now)
      → Levels trace tell way.r origin limits rolled.opened disk_now before now e out out_now → LevelsFrom trace tell Given origin limits disk disk_now before now e out out_now
  levels-opened way rolled levels = record {
    input = way.input;
    given = way.given;
    r = way.r;
    is = way.is;
    opened = rolled.opened;
    opens = rolled.opens;
    image = (is-told (trace rolled.opened).bytes rolled.told).0;
    stored = (is-told (trace rolled.opened).bytes rolled.told).1;
    network = rolled.rolls.network;
    valid = rolled.rolls.valid;
    small = rolled.rolls.small;
    levels = levels;
  }

module _ {D P : Type 0} (trace : D → DiskTrace) (tell : P → PortTrace)
    (Given : List ℕ → Type 0) (origin : BackFrom) (limits : Limits) (disk disk_now : D) (before now : FleetSeen P) (e : CommandEnd) (begun : is_of_begun e ≡ true) (out out_now : Option (List ℕ)) where
  levels-from : Reverts trace tell Given origin limits disk disk_now before now e out out_now → LevelsFrom trace tell Given origin limits disk disk_now before now e out out_now
  levels-from (inl none) = absurd (unbegun-refused Given e begun none.why)
  levels-from (inr way) = elim way.rolls as (λ _. LevelsFrom trace tell Given origin limits disk disk_now before now e out out_now) [
    | inl fails ↦ absurd (not-begun e DiskFault begun fails.is refl)
    | inr rolled ↦ elim rolled.rolls.ends as (λ _. LevelsFrom trace tell Given origin limits disk disk_now before now e out out_now) [
      | inl levels ↦ levels-opened trace tell Given origin limits disk disk_now before now e out out_now way rolled levels
      | inr none ↦ absurd (not-begun e (ending_of_journal none.cause) begun none.is (journal-begun none.cause))
    ]
  ]

  -- such an ending comes only after a run that was begun
  ran-at : (end : RunEnd) (o : RunOutcome) → e ≡ ending_at end o → is_ran end ≡ true
  ran-at run.Finished o is = refl
  ran-at run.Held o is = refl
  ran-at (run.Stopped halt) o is = refl
  ran-at (run.NoPort switch) o is = absurd (not-begun e (NotFinished (PortFault o.plan switch)) begun is refl)
  ran-at run.Memory o is = absurd (not-begun e OutOfMemory begun is refl)

  closes-run : (migration : ℕ) (answer : LevelAnswer) (levelled : D) → Closes trace migration answer levelled disk_now e out out_now → is_run answer ≡ true
  closes-run migration (ended.Level r start) levelled closes = refl
  closes-run migration (ended.Unlevel o) levelled closes = ran-at o.end o closes.is

-- it was a level
pub record IsLevelEnd (r : Rollout) (start : List ℕ) (other : Rollout) (there : List ℕ) (end : RunEnd) : Type 0 where
  pub end_is : (end ≡ run.Finished) ⊎ (end ≡ run.Held)
  pub rollout_is : other ≡ r
  pub start_is : there ≡ start

level-at : (r : Rollout) (made : RunOutcome) (start : List ℕ) (other : Rollout) (there : List ℕ) → made.plan ≡ r → (end : RunEnd) → ended.Level other there ≡ level_at end made start → IsLevelEnd r start other there end
level-at r made start other there plan run.Finished is = let same : other ≡ made.plan = cc in record { end_is = inl refl; rollout_is = same ∙ plan; start_is = cc }
level-at r made start other there plan run.Held is = let same : other ≡ made.plan = cc in record { end_is = inr refl; rollout_is = same ∙ plan; start_is = cc }
level-at r made start other there plan (run.Stopped halt) is = absurd cc
level-at r made start other there plan (run.NoPort switch) is = absurd cc
level-at r made start other there plan run.Memory is = absurd cc

pub level-end : {D P : Type 0} (trace : D → DiskTrace) (tell : P → PortTrace) (origin : BackFrom) (r : Rollout) (digest : Digest) (rounds : ℕ) (disk : D) (before now : FleetPorts P) (levelled : D) (answer : LevelAnswer)
    (has : HasLevelled trace tell origin r digest rounds disk before now levelled answer) (other : Rollout) (there : List ℕ) → ended.Level other there ≡ answer
    → IsLevelEnd has.rolled.book.rollout (start_of has.rolled.book.rollout has.rolled.book.history has.stage) other there has.run.end
level-end trace tell origin r digest rounds disk before now levelled answer has other there is =
    level-at has.rolled.book.rollout has.run (start_of has.rolled.book.rollout has.rolled.book.history has.stage) other there (ap (λ (x : RunOutcome). x.plan) has.rolled.run.tells) has.run.end (is ∙ has.tells)

module _ {D P : Type 0} (trace : D → DiskTrace) (tell : P → PortTrace)
    (Given : List ℕ → Type 0) (origin : BackFrom) (limits : Limits) (disk disk_now : D) (before now : FleetSeen P) (e : CommandEnd) (out out_now : Option (List ℕ))
    (from : LevelsFrom trace tell Given origin limits disk disk_now before now e out out_now)
    (levelled : D) (answer : LevelAnswer) (has : HasLevelled trace tell origin from.r (digest_for from.r limits.migration) limits.rounds from.opened before.ports now.ports levelled answer) where
  abbrev book : Journaled D
  book = has.rolled.book

  abbrev o : Opening
  o = opening_of has.rolled.book has.policy

  abbrev s : ℕ
  s = has.stage

  abbrev start : List ℕ
  start = start_of has.rolled.book.rollout has.rolled.book.history has.stage

  abbrev BegunRun : RunEnd → Type 0
  BegunRun end = Begun trace tell origin from.r limits.migration limits.rounds from.opened levelled before.ports now.ports answer has end

  net : IsNetwork book.rollout.problem
  net = subst (λ (r : Rollout). IsNetwork r.problem) (sym has.rolled.opened.rollout) from.network

  valid : is_valid_plan book.rollout.problem book.rollout.plan ≡ true
  valid = subst (λ (r : Rollout). is_valid_plan r.problem r.plan ≡ true) (sym has.rolled.opened.rollout) from.valid

  small : limits.migration < 2 ^ 32
  small = omega (arith, from.small)

  most : s ≤ last_stage book.rollout.plan
  most = turns-most book.rollout book.history has.rolled.new.legal origin s has.turns

  holds : HoldsFrom s has.policy
  holds = levels-holds s has.policy has.levels

  starts : BeginsBack book.rollout.problem book.rollout.plan book.history s
  starts = begins-back book.rollout.problem book.rollout.plan book.history s has.rolled.new.legal most valid (turns-sound book.rollout book.history has.rolled.new.legal net valid origin s has.turns)

  module _ (end : RunEnd) (ran : BegunRun end) where
    legal-now : is_legal book.rollout.problem book.rollout.plan (history_of o ran.log) ≡ true
    legal-now = list-is_legal o ran.log ran.legal

    so-now : BegunSoFar book.rollout.problem book.rollout.plan book.history s (history_of o ran.log)
    so-now = list-so_far o s most net valid holds ran.log ran.legal

    stays : StaysSafe trace tell limits Given disk before.ports now.ports
    stays = record {
      input = from.input;
      given = from.given;
      r = book.rollout;
      is = from.is ∙ ap Ok (sym has.rolled.opened.rollout);
      opened = from.opened;
      opens = from.opens;
      image = from.image;
      stored = from.stored;
      found = book.history;
      begins = subst (λ (r : Rollout). found_by r (verdict r (digest_for r limits.migration) from.image) ≡ Some book.history) (sym has.rolled.opened.rollout)
          (of_some (λ image. found_by from.r (verdict from.r (digest_for from.r limits.migration) image) ≡ Some book.history) (trace from.opened).bytes from.image from.stored has.rolled.opened.found);
      added = added ran.log;
      legal = legal-now;
      safe = λ held within. held-safe book.rollout.problem book.rollout.plan (history_of o ran.log) held net valid legal-now within;
      berths = ran.berths;
      switches = ran.switches;
      asked = ran.asked;
      ports = berths-within tell o limits.migration ran.log before.ports now.ports net valid ran.legal small ran.berths ran.given ran.ports;
      rest = λ n elsewhere. none-settled (homes_of book.rollout.problem) (working_homes book.rollout.problem book.rollout.plan) ran.log ran.at_home n elsewhere book.history;
    }

    abbrev CrashNow : Type 0
    CrashNow = IfSome (trace disk_now).bytes (λ _. (c : List ℕ) → (trace disk_now).left_since (trace book.disk).moment c → IsFoundOrPlaced book.rollout limits.migration start book.history c)

    images-now : HasImages trace o (trace book.disk).moment (trace book.disk).faults levelled ran.log
    images-now = subst (λ (d : D). HasImages trace o (trace book.disk).moment (trace book.disk).faults d ran.log) (sym has.rolled.run.back) ran.images

    unplaced-crash : disk_now ≡ levelled → CrashNow
    unplaced-crash same =
        subst (λ (d : D). IfSome (trace d).bytes (λ _. (c : List ℕ) → (trace d).left_since (trace book.disk).moment c → IsFoundOrPlaced book.rollout limits.migration start book.history c)) (sym same)
        (left-crash trace o ran.log limits.migration start (trace book.disk).moment (trace book.disk).faults levelled images-now)

    taken-crash : TakesBack trace book.rollout limits.migration start levelled disk_now e out out_now → CrashNow
    taken-crash takes = placed-crash trace o ran.log limits.migration start (trace book.disk).moment (trace book.disk).faults levelled images-now disk_now takes.seen takes.may

    levels-safely : CrashNow → LevelsSafely trace tell origin limits Given disk disk_now before.ports now.ports
    unfolding stays
    levels-safely crash = record {
      stays = stays;
      stage = s;
      turns = has.turns;
      way = fronts-on_the_turn book.rollout.problem book.rollout.plan s net valid book.history has.rolled.new.legal (added ran.log) legal-now so-now;
      sends = berths-send tell o limits.migration s ran.log now.ports legal-now so-now ran.berths ran.ports;
      journal = book.disk;
      opened = subst (λ (r : Rollout). IsOpenedOn trace r (digest_for r limits.migration) from.opened book.disk) (sym has.rolled.opened.rollout) has.rolled.opened.on;
      crash = crash;
    }

    -- the same start of the same rollout
    level-takes : (other : Rollout) (there : List ℕ) → ended.Level other there ≡ answer → TakesBack trace other limits.migration there levelled disk_now e out out_now
        → TakesBack trace book.rollout limits.migration start levelled disk_now e out out_now
    level-takes other there same takes =
        let end = level-end trace tell origin from.r (digest_for from.r limits.migration) limits.rounds from.opened before.ports now.ports levelled answer has other there same in
        subst (λ (xs : List ℕ). TakesBack trace book.rollout limits.migration xs levelled disk_now e out out_now) end.start_is
        (subst (λ (r : Rollout). TakesBack trace r limits.migration there levelled disk_now e out out_now) end.rollout_is takes)

    crash-now : (a : LevelAnswer) → a ≡ answer → Closes trace limits.migration a levelled disk_now e out out_now → is_run a ≡ true → CrashNow
    crash-now (ended.Level other there) same closes is = taken-crash (level-takes other there same closes)
    crash-now (ended.Unlevel o) same closes is = unplaced-crash closes.disk_is

    berths-here : AllByRecursion (EndsWithin tell book.rollout limits.migration book.history (history_of o ran.log) before.ports now.ports) ran.berths
    berths-here = berths-within tell o limits.migration ran.log before.ports now.ports net valid ran.legal small ran.berths ran.given ran.ports

    -- from a level it is level at the stage to which it had come
    module _ (come : HasComeSoFar book.rollout.problem book.rollout.plan book.history s (history_of o ran.log)) where
      still : NothingFlies book.rollout.problem (history_of o ran.log)
      still n inside = ne_eqb (begun (history_of o ran.log) n) (settled (history_of o ran.log) n + 1) (λ fly. omega (arith, fly, come.still n inside))

      level-there : s ≡ ceiling_of book.rollout book.history
          → IsLevelThere tell book.rollout limits.migration book.history (added ran.log) start before.ports now.ports ran.berths
      level-there at =
          let there = ceiling_of book.rollout book.history in
          let so = subst (λ (n : ℕ). HasComeSoFar book.rollout.problem book.rollout.plan book.history n (history_of o ran.log)) at come in
          let level = so_far-levelled book.rollout.problem book.rollout.plan book.history has.rolled.new.legal (history_of o ran.log) so in
          let high = ceiling-most book.rollout.problem book.rollout.plan book.history has.rolled.new.legal in
          record {
            level = level;
            ports = berths-level tell book.rollout limits.migration there book.history (history_of o ran.log) refl before.ports now.ports legal-now high level ran.berths berths-here;
            begins = ap (start_of book.rollout book.history) at ∙ start-at_ceiling book.rollout.problem book.rollout.plan book.history net valid has.rolled.new.legal;
            starts = record {
              sound = back_start-is_sound book.rollout.problem book.rollout.plan there valid high net;
              contents = λ n within. back_start-contents book.rollout.problem book.rollout.plan there valid high n within;
            };
          }

      on-level : (from_where : BackFrom) → TurnsFrom from_where book.rollout book.history s
          → OnLevel from_where (IsLevelThere tell book.rollout limits.migration book.history (added ran.log) start before.ports now.ports ran.berths)
      on-level whence.Level turns = level-there turns
      on-level whence.Here turns = tt

      taken-back : TakesBack trace book.rollout limits.migration start levelled disk_now e out out_now
          → HasPlaced trace (kept_from book.rollout limits.migration start) disk_now → Appends out (back_text book.rollout) out_now
          → IsTakenBack trace tell origin limits Given disk disk_now before.ports now.ports out out_now
      unfolding levels-safely stays
      taken-back takes placed text = record {
        levels = levels-safely (taken-crash takes);
        come = come;
        ports = berths-settled tell book.rollout limits.migration book.history (history_of o ran.log) before.ports now.ports legal-now still ran.berths berths-here;
        placed = placed;
        starts = starts;
        level = on-level origin has.turns;
        text = text;
      }

  run-safely : Closes trace limits.migration answer levelled disk_now e out out_now → is_run answer ≡ true → LevelsSafely trace tell origin limits Given disk disk_now before.ports now.ports
  run-safely closes is =
      let ran = run-begun trace tell origin from.r limits.migration limits.rounds from.opened levelled before.ports now.ports answer has is in
      levels-safely has.run.end ran (crash-now has.run.end ran answer refl closes is)

  -- where the run has finished, and where the policy holds back the rest, it has come so far
  finished-so : (ran : BegunRun run.Finished) → HasComeSoFar book.rollout.problem book.rollout.plan book.history s (history_of o ran.log)
  finished-so ran = ended-so_far o s most net valid holds ran.log ran.legal ran.ends.1

  held-so : (ran : BegunRun run.Held) → HasComeSoFar book.rollout.problem book.rollout.plan book.history s (history_of o ran.log)
  held-so ran =
      let homes = working_homes book.rollout.problem book.rollout.plan in
      held-so_far o s most net valid holds ran.log ran.legal
      (still-flies book.rollout.problem (history_of o ran.log) (held-still trace tell o (trace book.disk).moment (trace book.disk).faults limits.migration limits.rounds homes before.ports has.rolled.run.closed now.ports ran))
      (held-rests trace tell o (trace book.disk).moment (trace book.disk).faults limits.migration limits.rounds homes before.ports has.rolled.run.closed now.ports ran)

  level-taken : (other : Rollout) (there : List ℕ) → ended.Level other there ≡ answer → TakesBack trace other limits.migration there levelled disk_now e out out_now
      → ((x : Rollout) (xs : List ℕ) → TakesBack trace x limits.migration xs levelled disk_now e out out_now → HasPlaced trace (kept_from x limits.migration xs) disk_now × Appends out (back_text x) out_now)
      → IsTakenBack trace tell origin limits Given disk disk_now before.ports now.ports out out_now
  level-taken other there same takes done =
      let end = level-end trace tell origin from.r (digest_for from.r limits.migration) limits.rounds from.opened before.ports now.ports levelled answer has other there same in
      let ran = run-begun trace tell origin from.r limits.migration limits.rounds from.opened levelled before.ports now.ports answer has (sym (ap is_run same)) in
      elim end.end_is as (λ _. IsTakenBack trace tell origin limits Given disk disk_now before.ports now.ports out out_now) [
        | inl finished ↦
            let so : BegunRun run.Finished = subst BegunRun finished ran in
            let here = level-takes run.Finished so other there same takes in
            let wrote = done book.rollout start here in
            taken-back run.Finished so (finished-so so) here wrote.0 wrote.1
        | inr held ↦
            let so : BegunRun run.Held = subst BegunRun held ran in
            let here = level-takes run.Held so other there same takes in
            let wrote = done book.rollout start here in
            taken-back run.Held so (held-so so) here wrote.0 wrote.1
      ]

-- ---- whatever the ending

module _ {D P : Type 0} (trace : D → DiskTrace) (tell : P → PortTrace)
    (Given : List ℕ → Type 0) (origin : BackFrom) (limits : Limits) (disk disk_now : D) (before now : FleetSeen P) (e : CommandEnd) (out out_now : Option (List ℕ)) where
  as-it-was : now ≡ before → EndsBackSafely trace tell origin limits Given disk disk_now before.ports now.ports
  as-it-was same = inl (inl (ap (λ (f : FleetSeen P). f.ports) same))

  -- whether it was begun or not
  levels-ends : (from : LevelsFrom trace tell Given origin limits disk disk_now before now e out out_now) (is : Bool) → is_run from.levels.answer ≡ is
      → EndsBackSafely trace tell origin limits Given disk disk_now before.ports now.ports
  levels-ends from true is =
      inr (run-safely trace tell Given origin limits disk disk_now before now e out out_now from from.levels.levelled from.levels.answer from.levels.has from.levels.closes is)
  levels-ends from false isnt =
      inl (run-unbegun trace tell origin from.r limits.migration limits.rounds from.opened from.levels.levelled before.ports now.ports from.levels.answer from.levels.has isnt)

  pub reverts-ends : Reverts trace tell Given origin limits disk disk_now before now e out out_now → EndsBackSafely trace tell origin limits Given disk disk_now before.ports now.ports
  reverts-ends (inl none) = as-it-was none.fleet_is
  reverts-ends (inr way) = elim way.rolls as (λ _. EndsBackSafely trace tell origin limits Given disk disk_now before.ports now.ports) [
    | inl fails ↦ as-it-was fails.fleet_is
    | inr rolled ↦ elim rolled.rolls.ends as (λ _. EndsBackSafely trace tell origin limits Given disk disk_now before.ports now.ports) [
      | inl levels ↦
          let from = levels-opened trace tell Given origin limits disk disk_now before now e out out_now way rolled levels in
          levels-ends from (is_run from.levels.answer) refl
      | inr none ↦ as-it-was none.fleet_is
    ]
  ]

-- ---- by the ending

-- one that isn't level isn't done
unlevel-not-done : (end : RunEnd) (o : RunOutcome) → is_level end ≡ false → Done ≡ ending_at end o → ⊥
unlevel-not-done run.Finished o isnt h = cc isnt
unlevel-not-done run.Held o isnt h = cc isnt
unlevel-not-done (run.Stopped halt) o isnt h = stop-not-done o.plan halt.cause h
unlevel-not-done (run.NoPort switch) o isnt h = cc h
unlevel-not-done run.Memory o isnt h = cc h

-- where all was done the journal was placed and its document written
done-wrote : {D : Type 0} (trace : D → DiskTrace) (migration : ℕ) (levelled disk_now : D) (out out_now : Option (List ℕ)) (x : Rollout) (xs : List ℕ) → TakesBack trace x migration xs levelled disk_now Done out out_now
    → HasPlaced trace (kept_from x migration xs) disk_now × Appends out (back_text x) out_now
done-wrote trace migration levelled disk_now out out_now x xs takes = elim takes.ends as (λ _. HasPlaced trace (kept_from x migration xs) disk_now × Appends out (back_text x) out_now) [
  | inl writes ↦ (
    writes.placed,
    elim writes.follows as (λ _. Appends out (back_text x) out_now) [
      | inl done ↦ done.1
      | inr cut ↦ absurd (let no : Done ≡ WriteFault = cut.0 in cc)
    ],
  )
  | inr none ↦ absurd (not-begun Done (ending_of_journal none.cause) refl none.is (journal-begun none.cause))
]

module _ {D P : Type 0} (trace : D → DiskTrace) (tell : P → PortTrace)
    (Given : List ℕ → Type 0) (origin : BackFrom) (limits : Limits) (disk disk_now : D) (before now : FleetSeen P) (out out_now : Option (List ℕ)) where
  begun-levels : (e : CommandEnd) → is_of_begun e ≡ true → Reverts trace tell Given origin limits disk disk_now before now e out out_now → LevelsSafely trace tell origin limits Given disk disk_now before.ports now.ports
  begun-levels e begun reverts =
      let from = levels-from trace tell Given origin limits disk disk_now before now e begun out out_now reverts in
      run-safely trace tell Given origin limits disk disk_now before now e out out_now from from.levels.levelled from.levels.answer from.levels.has from.levels.closes
      (closes-run trace tell Given origin limits disk disk_now before now e begun out out_now limits.migration from.levels.answer from.levels.levelled from.levels.closes)

  answer-taken : (from : LevelsFrom trace tell Given origin limits disk disk_now before now Done out out_now) (a : LevelAnswer) → a ≡ from.levels.answer
      → Closes trace limits.migration a from.levels.levelled disk_now Done out out_now → IsTakenBack trace tell origin limits Given disk disk_now before.ports now.ports out out_now
  answer-taken from (ended.Level other there) same closes =
      level-taken trace tell Given origin limits disk disk_now before now Done out out_now from from.levels.levelled from.levels.answer from.levels.has other there same closes
      (done-wrote trace limits.migration from.levels.levelled disk_now out out_now)
  answer-taken from (ended.Unlevel o) same closes =
      let has = from.levels.has in
      absurd (unlevel-not-done o.end o (unlevel-not has.run o (start_of has.rolled.book.rollout has.rolled.book.history has.stage) (same ∙ has.tells)) closes.is)

  done-taken : Reverts trace tell Given origin limits disk disk_now before now Done out out_now → IsTakenBack trace tell origin limits Given disk disk_now before.ports now.ports out out_now
  done-taken reverts =
      let from = levels-from trace tell Given origin limits disk disk_now before now Done refl out out_now reverts in
      answer-taken from from.levels.answer refl from.levels.closes

  -- ---- by the status

  pub reverts-safe : (status : ℕ) → RevertsAs trace tell Given origin limits disk disk_now before now status out out_now → IsOfBegun status → LevelsSafely trace tell origin limits Given disk disk_now before.ports now.ports
  reverts-safe status rolls of =
      let begun : is_of_begun rolls.told ≡ true = of-begun rolls.told (subst IsOfBegun rolls.is_status of) in
      let same : rolls.ending ≡ rolls.told = begun-told rolls.ending rolls.told rolls.told_as begun in
      begun-levels rolls.ending (ap is_of_begun same ∙ begun) rolls.rolls

  pub reverts-back : (status : ℕ) → RevertsAs trace tell Given origin limits disk disk_now before now status out out_now → status ≡ 0 → IsTakenBack trace tell origin limits Given disk disk_now before.ports now.ports out out_now
  reverts-back status rolls zero =
      let told : rolls.told ≡ Done = is-done rolls.told (sym rolls.is_status ∙ zero) in
      let done : rolls.ending ≡ Done = begun-told rolls.ending rolls.told rolls.told_as (ap is_of_begun told) ∙ told in
      done-taken (subst (λ (e : CommandEnd). Reverts trace tell Given origin limits disk disk_now before now e out out_now) done rolls.rolls)
