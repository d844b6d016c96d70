-- How `held` ends, by what the switches told.
use Rattle.std.proofs.Common.{◌≡◌, ℕ, List, length, true, Option, Result, Ok, Err, refl, sym, ap, ◌∙◌, subst, inl, inr}
use Rattle.std.proofs.lemmas.Bool.{cases_lt}
use Rattle.rollout_rules.specs.Wan.{Rollout}
use Rattle.rollout_rules.specs.declared.limits.TheConstants.{MOST_INPUT}
use Rattle.wan_edge.specs.Ports.{PortTrace}
use Rattle.wan_edge.specs.Streams.{Appends, SourceTrace}
use Rattle.held_service.specs.HeldText.{AsksAll, TellsText}
use Rattle.held_service.specs.declared.not_told.NotTold.{NotTold}
use Rattle.held_service.specs.declared.not_told.NotTold.TheVariants as not_told
use Rattle.swanroll_top.specs.HeldAsked.{Asks, AsksIn, WritesHeld, ending_of_not_told, told_or_ending}
use Rattle.text_commands.specs.Reading.{IsShortInput}
use Rattle.text_commands.specs.Answers.{rollout_in, rollout_to}
use Rattle.swanroll_top.specs.Rollouts.{EndsRollout, FleetSeen, RefusesAs, may_end}
use Rattle.text_commands.specs.Runs.{EndsWith, Follows, IsInput}
use Rattle.text_commands.specs.declared.command_end.CommandEnd.{CommandEnd}
use Rattle.text_commands.specs.declared.command_end.CommandEnd.TheVariants.{Done, AboveLimit, WriteFault, DiskFault}
use Rattle.text_commands.proofs.Answering.{is_answer, rollout-answers}
use Rattle.swanroll_top.proofs.Reporting.{long-rollout, short-rollout}
use Rattle.swanroll_top.proofs.Rolling.{unbegun}

-- ---- by why not all was told

not-told-may : (r : Rollout) (rounds : ℕ) (why : NotTold) → may_end (ending_of_not_told r rounds why) ≡ true
not-told-may r rounds (not_told.Spent item) = refl
not-told-may r rounds (not_told.NoPort switch) = refl
not-told-may r rounds (not_told.Port switch) = refl
not-told-may r rounds (not_told.NotAsked switch item) = refl
not-told-may r rounds (not_told.NoAnswer switch byte) = refl
not-told-may r rounds not_told.Memory = refl

pub not-told-ends : (r : Rollout) (rounds : ℕ) (why : NotTold) (e : CommandEnd) (out : Option (List ℕ)) → e ≡ ending_of_not_told r rounds why → EndsRollout e out out
not-told-ends r rounds why e out is = record { may = ap may_end is ∙ not-told-may r rounds why; silent = λ zero seven. refl }

not-told-given : (r : Rollout) (rounds : ℕ) (why : NotTold) (out : Option (List ℕ)) → Follows (told_or_ending r rounds (Err why)) (ending_of_not_told r rounds why) out out
not-told-given r rounds (not_told.Spent item) out = (refl, refl)
not-told-given r rounds (not_told.NoPort switch) out = (refl, refl)
not-told-given r rounds (not_told.Port switch) out = (refl, refl)
not-told-given r rounds (not_told.NotAsked switch item) out = (refl, refl)
not-told-given r rounds (not_told.NoAnswer switch byte) out = (refl, refl)
not-told-given r rounds not_told.Memory out = refl

pub not-told-follows : (r : Rollout) (rounds : ℕ) (why : NotTold) (e : CommandEnd) (out : Option (List ℕ)) → e ≡ ending_of_not_told r rounds why → Follows (told_or_ending r rounds (Err why)) e out out
not-told-follows r rounds why e out is = subst (λ (x : CommandEnd). Follows (told_or_ending r rounds (Err why)) x out out) (sym is) (not-told-given r rounds why out)

-- it's no fault of a disk or of the sink
not-disk : (r : Rollout) (rounds : ℕ) (why : NotTold) → ending_of_not_told r rounds why ≡ DiskFault → ⊥
not-disk r rounds (not_told.Spent item) h = cc
not-disk r rounds (not_told.NoPort switch) h = cc
not-disk r rounds (not_told.Port switch) h = cc
not-disk r rounds (not_told.NotAsked switch item) h = cc
not-disk r rounds (not_told.NoAnswer switch byte) h = cc
not-disk r rounds not_told.Memory h = cc

pub not-told-disk : (r : Rollout) (rounds : ℕ) (why : NotTold) (e : CommandEnd) → e ≡ ending_of_not_told r rounds why → e ≡ DiskFault → ⊥
not-told-disk r rounds why e is h = not-disk r rounds why (sym is ∙ h)

not-cut : (r : Rollout) (rounds : ℕ) (why : NotTold) → ending_of_not_told r rounds why ≡ WriteFault → ⊥
not-cut r rounds (not_told.Spent item) h = cc
not-cut r rounds (not_told.NoPort switch) h = cc
not-cut r rounds (not_told.Port switch) h = cc
not-cut r rounds (not_told.NotAsked switch item) h = cc
not-cut r rounds (not_told.NoAnswer switch byte) h = cc
not-cut r rounds not_told.Memory h = cc

pub not-told-cut : (r : Rollout) (rounds : ℕ) (why : NotTold) (e : CommandEnd) → e ≡ ending_of_not_told r rounds why → e ≡ WriteFault → ⊥
not-told-cut r rounds why e is h = not-cut r rounds why (sym is ∙ h)

-- nor is anything done
not-done : (r : Rollout) (rounds : ℕ) (why : NotTold) → ending_of_not_told r rounds why ≡ Done → ⊥
not-done r rounds (not_told.Spent item) h = cc
not-done r rounds (not_told.NoPort switch) h = cc
not-done r rounds (not_told.Port switch) h = cc
not-done r rounds (not_told.NotAsked switch item) h = cc
not-done r rounds (not_told.NoAnswer switch byte) h = cc
not-done r rounds not_told.Memory h = cc

-- no input is refused as if something had been done
never-done : (input : List ℕ) → rollout_to input ≡ Err Done → ⊥
never-done input is = elim (cases_lt MOST_INPUT (length input)) [
  | inl long ↦ let no : ◌≡◌ {A = Result Rollout CommandEnd} (Err AboveLimit) (Err Done) = sym (long-rollout input long) ∙ is in cc
  | inr within ↦ let no : is_answer Done ≡ true = rollout-answers input Done (sym (short-rollout input within) ∙ is) in cc
]

-- where all was told, no port was missing
pub told-none : (text : List ℕ) (why : NotTold) → ◌≡◌ {A = Result (List ℕ) NotTold} (Ok text) (Err why) → ⊥
told-none text why is = cc

-- ---- by the input

module _ {P : Type 0} (tell : P → PortTrace) (rounds : ℕ) (before fleet_now : FleetSeen P) (out out_now : Option (List ℕ)) where
  pub input-asks : (source source_now : SourceTrace) (input : List ℕ) (e : CommandEnd) → IsShortInput source source_now input → AsksIn tell (rollout_in input) rounds before fleet_now e out out_now
      → Asks tell (IsInput source source_now) rounds before fleet_now e out out_now
  input-asks source source_now input e short (inl refused) = inl (record { why = unbegun source source_now input e short refused.why; fleet_is = refused.fleet_is })
  input-asks source source_now input e short (inr begun) = inr (record {
    input = input;
    given = short.input;
    r = begun.0;
    is = short-rollout input short.within ∙ begun.1;
    asks = begun.2;
  })

  -- ---- where it's done

  text-written : (r : Rollout) (answer : Result (List ℕ) NotTold) → AsksAll answer tell r.problem r.plan rounds before.ports fleet_now.ports → EndsWith (told_or_ending r rounds answer) Done out out_now
      → (text : List ℕ) × TellsText tell r.problem r.plan rounds text before.ports fleet_now.ports × Appends out text out_now
  text-written r (Ok text) asks (inl done) = (text, asks, done.1)
  text-written r (Ok text) asks (inr cut) = absurd (let no : Done ≡ WriteFault = cut.0 in cc)
  text-written r (Err why) asks ends = absurd (not-done r rounds why (sym ends.0))

  done-writes : (Given : List ℕ → Type 0) → Asks tell Given rounds before fleet_now Done out out_now → WritesHeld tell Given rounds before fleet_now out out_now
  done-writes Given (inl nothing) =
      let why : RefusesAs Given Done = nothing.why in
      absurd (never-done why.input why.refused)
  done-writes Given (inr asked) =
      let told = text-written asked.r asked.asks.answer asked.asks.asks asked.asks.follows in
      record { input = asked.input; given = asked.given; r = asked.r; is = asked.is; text = told.0; tells = told.1; written = told.2 }

  pub asks-writes : (Given : List ℕ → Type 0) (e : CommandEnd) → e ≡ Done → Asks tell Given rounds before fleet_now e out out_now → WritesHeld tell Given rounds before fleet_now out out_now
  asks-writes Given e is asks = done-writes Given (subst (λ (x : CommandEnd). Asks tell Given rounds before fleet_now x out out_now) is asks)
