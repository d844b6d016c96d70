-- How a rollout follows from its input, and what is left where nothing was begun.
use Rattle.std.proofs.Common.{◌≡◌, ◌⊎◌, ℕ, List, ◌++◌, length, true, false, Option, Some, None, IfSome, Result, Ok, Err, refl, sym, ap, ◌∙◌, subst, inl, inr, arith}
use Rattle.std.proofs.lemmas.Bool.{cases_lt}
use Rattle.rollout_rules.specs.Wan.{Rollout}
use Rattle.rollout_rules.specs.declared.limits.TheConstants.{MOST_INPUT}
use Rattle.rollout_rules.specs.declared.op.OpView.{OpView}
use Rattle.wan_edge.specs.Streams.{SourceTrace}
use Rattle.disk_model.specs.Traces.{DiskTrace}
use Rattle.wan_edge.specs.Ports.{PortTrace}
use Rattle.wan_edge.specs.ReadAll.{GoesBeyond}
use Rattle.controller_run.specs.declared.running.Limits.{Limits}
use Rattle.text_commands.specs.CommandEnds.{status_of}
use Rattle.text_commands.specs.Reading.{IsCut, IsShortInput}
use Rattle.text_commands.specs.Answers.{rollout_in, rollout_to}
use Rattle.swanroll_top.specs.Reports.{ReadsDocument}
use Rattle.swanroll_top.specs.Rollouts.{EndsRollout, FleetSeen, FollowsRollout, FollowsRolled, IsRefused, IsUnbegun, LeavesAll, RefusesAs, Rolls, RollsIn, RollsOut, RunsRollout, may_end}
use Rattle.text_commands.specs.Runs.{EndsWith, Gives, IsInput}
use Rattle.text_commands.specs.Taken.{IsValidDocument}
use Rattle.text_commands.specs.declared.command_end.CommandEnd.{CommandEnd}
use Rattle.text_commands.specs.declared.command_end.CommandEnd.TheVariants.{Done, Usage, AboveLimit, Input, NotValid, NoPlan, Unshown, ReadFault, WriteFault, DiskFault, GuestFault, Refused, NotFinished, OutOfMemory}
use Rattle.text_commands.proofs.Answering.{is_answer, rollout-answers}
use Rattle.text_commands.proofs.Inputs.{beyond-input}
use Rattle.swanroll_top.proofs.Reporting.{IsJudgedAs, beyond-reports, long-rollout, reads-document, rollout-judged, short-rollout}
use Rattle.text_commands.proofs.Statuses.{not-status}

-- ---- an input that is refused

pub gives-refused : (rollout : Result Rollout CommandEnd) (e : CommandEnd) → Gives {A = Rollout} (Err e) rollout → IsRefused rollout e
gives-refused rollout Done h = h
gives-refused rollout Usage h = h
gives-refused rollout AboveLimit h = h
gives-refused rollout (Input f) h = h
gives-refused rollout (NotValid p b) h = h
gives-refused rollout (NoPlan u) h = h
gives-refused rollout (Unshown u) h = h
gives-refused rollout ReadFault h = h
gives-refused rollout WriteFault h = h
gives-refused rollout DiskFault h = h
gives-refused rollout GuestFault h = h
gives-refused rollout (Refused f) h = h
gives-refused rollout (NotFinished u) h = h
gives-refused rollout OutOfMemory h = tt

-- by an answer to the input, or for lack of memory
refused-answer : (input : List ℕ) (e : CommandEnd) → IsRefused (rollout_in input) e → is_answer e ≡ true
refused-answer input Done h = rollout-answers input Done h
refused-answer input Usage h = rollout-answers input Usage h
refused-answer input AboveLimit h = refl
refused-answer input (Input f) h = refl
refused-answer input (NotValid p b) h = refl
refused-answer input (NoPlan u) h = refl
refused-answer input (Unshown u) h = refl
refused-answer input ReadFault h = rollout-answers input ReadFault h
refused-answer input WriteFault h = rollout-answers input WriteFault h
refused-answer input DiskFault h = rollout-answers input DiskFault h
refused-answer input GuestFault h = rollout-answers input GuestFault h
refused-answer input (Refused f) h = rollout-answers input (Refused f) h
refused-answer input (NotFinished u) h = rollout-answers input (NotFinished u) h
refused-answer input OutOfMemory h = refl

-- an ending that neither refuses an input nor comes after a rollout
pub never-follows : (input : List ℕ) (e : CommandEnd) (out now : Option (List ℕ)) → is_answer e ≡ false → may_end e ≡ false → FollowsRolled (rollout_in input) e out now → ⊥
never-follows input e out now answer may (inl refused) = let both : true ≡ false = sym (refused-answer input e refused.0) ∙ answer in cc
never-follows input e out now answer may (inr begun) = let both : true ≡ false = sym begun.1.may ∙ may in cc

pub never : (input : List ℕ) (x e : CommandEnd) (out now : Option (List ℕ)) → is_answer x ≡ false → may_end x ≡ false → FollowsRolled (rollout_in input) e out now → e ≡ x → ⊥
never input x e out now answer may h is = never-follows input x out now answer may (subst (λ y. FollowsRolled (rollout_in input) y out now) is h)

pub not-refused : (input : List ℕ) (x e : CommandEnd) → is_answer x ≡ false → IsRefused (rollout_in input) e → e ≡ x → ⊥
not-refused input x e answer h is = let both : true ≡ false = sym (refused-answer input x (subst (λ y. IsRefused (rollout_in input) y) is h)) ∙ answer in cc

-- ---- what is read and written

-- a rollout that was begun ends with no status of an input
begun-status : (e : CommandEnd) → may_end e ≡ true → status_of e ≡ 3 → ⊥
begun-status Done m h = omega (arith, h)
begun-status Usage m h = omega (arith, h)
begun-status AboveLimit m h = cc
begun-status (Input f) m h = cc
begun-status (NotValid p b) m h = cc
begun-status (NoPlan u) m h = omega (arith, h)
begun-status (Unshown u) m h = omega (arith, h)
begun-status ReadFault m h = omega (arith, h)
begun-status WriteFault m h = omega (arith, h)
begun-status DiskFault m h = omega (arith, h)
begun-status GuestFault m h = omega (arith, h)
begun-status (Refused f) m h = omega (arith, h)
begun-status (NotFinished u) m h = not-status 3 refl u h
begun-status OutOfMemory m h = omega (arith, h)

refused-ending : (rollout : Result Rollout CommandEnd) (e : CommandEnd) → (e ≡ OutOfMemory → ⊥) → IsRefused rollout e → rollout ≡ Err e
refused-ending rollout Done some h = h
refused-ending rollout Usage some h = h
refused-ending rollout AboveLimit some h = h
refused-ending rollout (Input f) some h = h
refused-ending rollout (NotValid p b) some h = h
refused-ending rollout (NoPlan u) some h = h
refused-ending rollout (Unshown u) some h = h
refused-ending rollout ReadFault some h = h
refused-ending rollout WriteFault some h = h
refused-ending rollout DiskFault some h = h
refused-ending rollout GuestFault some h = h
refused-ending rollout (Refused f) some h = h
refused-ending rollout (NotFinished u) some h = h
refused-ending rollout OutOfMemory some h = absurd (some refl)

module _ (input : List ℕ) (e : CommandEnd) (some : e ≡ OutOfMemory → ⊥) (out out_now : Option (List ℕ)) where
  refused-exactly : (r : Result Rollout CommandEnd) → IsJudgedAs input r → FollowsRolled r e out out_now → ((status_of e ≡ 3) → (IsValidDocument input → ⊥)) × ((IsValidDocument input → ⊥) → status_of e ≡ 3)
  refused-exactly (Ok o) valid (inl refused) = absurd (let no : Ok o ≡ Err e = refused-ending (Ok o) e some refused.0 in cc)
  refused-exactly (Ok o) valid (inr begun) = (λ three. absurd (begun-status e begun.1.may three), λ invalid. absurd (invalid valid))
  refused-exactly (Err x) judged (inr begun) = absurd (let no : Err x ≡ Ok begun.0.0 = begun.0.1 in cc)
  refused-exactly (Err x) judged (inl refused) =
      let both : Err x ≡ Err e = refused-ending (Err x) e some refused.0 in
      let same : x ≡ e = cc both in
      elim judged [
        | inl memory ↦ absurd (some (sym same ∙ memory))
        | inr invalid ↦ (λ _. invalid.0, λ _. sym (ap status_of same) ∙ invalid.1)
      ]

  silent : FollowsRolled (rollout_in input) e out out_now → (status_of e ≡ 0 → ⊥) → (status_of e ≡ 7 → ⊥) → out_now ≡ out
  silent (inl refused) zero seven = refused.1
  silent (inr begun) zero seven = begun.1.silent zero seven

  follows-rollout : (source source_now : SourceTrace) → IsShortInput source source_now input → FollowsRolled (rollout_in input) e out out_now → FollowsRollout source source_now e out out_now
  follows-rollout source source_now short h = record {
    input = input;
    read = short.input;
    refused = refused-exactly (rollout_in input) (rollout-judged input short.within) h;
    silent = silent h;
  }

memory-silent : (input : List ℕ) (out out_now : Option (List ℕ)) → FollowsRolled (rollout_in input) OutOfMemory out out_now → out_now ≡ out
memory-silent input out out_now (inl refused) = refused.1
memory-silent input out out_now (inr begun) = begun.1.silent (λ h. omega (arith, h)) (λ h. omega (arith, h))

module _ (source source_now : SourceTrace) (out out_now : Option (List ℕ)) (input : List ℕ) (short : IsShortInput source source_now input) where
  pub short-rollouts : (e : CommandEnd) → FollowsRolled (rollout_in input) e out out_now → RunsRollout source source_now e out out_now
  short-rollouts Done h = follows-rollout input Done (λ m. cc) out out_now source source_now short h
  short-rollouts Usage h = follows-rollout input Usage (λ m. cc) out out_now source source_now short h
  short-rollouts AboveLimit h = follows-rollout input AboveLimit (λ m. cc) out out_now source source_now short h
  short-rollouts (Input f) h = follows-rollout input (Input f) (λ m. cc) out out_now source source_now short h
  short-rollouts (NotValid p b) h = follows-rollout input (NotValid p b) (λ m. cc) out out_now source source_now short h
  short-rollouts (NoPlan u) h = follows-rollout input (NoPlan u) (λ m. cc) out out_now source source_now short h
  short-rollouts (Unshown u) h = follows-rollout input (Unshown u) (λ m. cc) out out_now source source_now short h
  short-rollouts ReadFault h = absurd (never-follows input ReadFault out out_now refl refl h)
  short-rollouts WriteFault h = follows-rollout input WriteFault (λ m. cc) out out_now source source_now short h
  short-rollouts DiskFault h = follows-rollout input DiskFault (λ m. cc) out out_now source source_now short h
  short-rollouts GuestFault h = follows-rollout input GuestFault (λ m. cc) out out_now source source_now short h
  short-rollouts (Refused f) h = follows-rollout input (Refused f) (λ m. cc) out out_now source source_now short h
  short-rollouts (NotFinished u) h = follows-rollout input (NotFinished u) (λ m. cc) out out_now source source_now short h
  short-rollouts OutOfMemory h = memory-silent input out out_now h

-- a source that wasn't read to its end
beyond-rollouts : (source source_now : SourceTrace) (out : Option (List ℕ)) → GoesBeyond MOST_INPUT source source_now → FollowsRollout source source_now AboveLimit out out
beyond-rollouts source source_now out g =
    let r = beyond-reports 0 source source_now None out g in
    record { input = r.input; read = r.read; refused = r.refused; silent = r.silent }

pub cut-rollouts : (source source_now : SourceTrace) (out : Option (List ℕ)) (e : CommandEnd) → IsCut source e source_now → RunsRollout source source_now e out out
cut-rollouts source source_now out Done r = absurd r
cut-rollouts source source_now out Usage r = absurd r
cut-rollouts source source_now out AboveLimit r = beyond-rollouts source source_now out r
cut-rollouts source source_now out (Input f) r = absurd r
cut-rollouts source source_now out (NotValid p b) r = absurd r
cut-rollouts source source_now out (NoPlan u) r = absurd r
cut-rollouts source source_now out (Unshown u) r = absurd r
cut-rollouts source source_now out ReadFault r = refl
cut-rollouts source source_now out WriteFault r = absurd r
cut-rollouts source source_now out DiskFault r = absurd r
cut-rollouts source source_now out GuestFault r = absurd r
cut-rollouts source source_now out (Refused f) r = absurd r
cut-rollouts source source_now out (NotFinished u) r = absurd r
cut-rollouts source source_now out OutOfMemory r = refl

beyond-unbegun : (source source_now : SourceTrace) → GoesBeyond MOST_INPUT source source_now → IsUnbegun (IsInput source source_now) AboveLimit
beyond-unbegun source source_now g =
    let i = beyond-input source source_now g in
    record { input = i.input; given = i.is; refused = long-rollout i.input i.long }

pub cut-unbegun : (source source_now : SourceTrace) (e : CommandEnd) → IsCut source e source_now → IsUnbegun (IsInput source source_now) e
cut-unbegun source source_now Done r = absurd r
cut-unbegun source source_now Usage r = absurd r
cut-unbegun source source_now AboveLimit r = beyond-unbegun source source_now r
cut-unbegun source source_now (Input f) r = absurd r
cut-unbegun source source_now (NotValid p b) r = absurd r
cut-unbegun source source_now (NoPlan u) r = absurd r
cut-unbegun source source_now (Unshown u) r = absurd r
cut-unbegun source source_now ReadFault r = tt
cut-unbegun source source_now WriteFault r = absurd r
cut-unbegun source source_now DiskFault r = absurd r
cut-unbegun source source_now GuestFault r = absurd r
cut-unbegun source source_now (Refused f) r = absurd r
cut-unbegun source source_now (NotFinished u) r = absurd r
cut-unbegun source source_now OutOfMemory r = tt

-- an input within the limit that is refused
pub unbegun : (source source_now : SourceTrace) (input : List ℕ) (e : CommandEnd) → IsShortInput source source_now input → IsRefused (rollout_in input) e → IsUnbegun (IsInput source source_now) e
unbegun source source_now input e short h = by_ending e h
  where
    refuses : (x : CommandEnd) → rollout_in input ≡ Err x → RefusesAs (IsInput source source_now) x
    refuses x is = record { input = input; given = short.input; refused = short-rollout input short.within ∙ is }

    by_ending : (x : CommandEnd) → IsRefused (rollout_in input) x → IsUnbegun (IsInput source source_now) x
    by_ending Done h = refuses Done h
    by_ending Usage h = refuses Usage h
    by_ending AboveLimit h = refuses AboveLimit h
    by_ending (Input f) h = refuses (Input f) h
    by_ending (NotValid p b) h = refuses (NotValid p b) h
    by_ending (NoPlan u) h = refuses (NoPlan u) h
    by_ending (Unshown u) h = refuses (Unshown u) h
    by_ending ReadFault h = tt
    by_ending WriteFault h = refuses WriteFault h
    by_ending DiskFault h = refuses DiskFault h
    by_ending GuestFault h = refuses GuestFault h
    by_ending (Refused f) h = refuses (Refused f) h
    by_ending (NotFinished u) h = refuses (NotFinished u) h
    by_ending OutOfMemory h = tt

-- ---- the disk and the ports

module _ {D P : Type 0} (trace : D → DiskTrace) (tell : P → PortTrace)
    (limits : Limits) (policy : OpView → ℕ) (disk disk_now : D) (before fleet_now : FleetSeen P) (out out_now : Option (List ℕ)) where
  pub input-rolls : (source source_now : SourceTrace) (input : List ℕ) (e : CommandEnd) → IsShortInput source source_now input
      → RollsIn trace tell (rollout_in input) limits policy disk disk_now before fleet_now e out out_now
      → Rolls trace tell (IsInput source source_now) limits policy disk disk_now before fleet_now e out out_now
  input-rolls source source_now input e short (inl refused) = inl (record { why = unbegun source source_now input e short refused.why; disk_is = refused.disk_is; fleet_is = refused.fleet_is })
  input-rolls source source_now input e short (inr begun) = inr (record {
    input = input;
    given = short.input;
    r = begun.0;
    is = short-rollout input short.within ∙ begun.1;
    rolls = begun.2;
  })

-- ---- a disk that failed

-- no input is refused as if the disk had failed
pub never-disk : (input : List ℕ) → rollout_to input ≡ Err DiskFault → ⊥
never-disk input is = elim (cases_lt MOST_INPUT (length input)) [
  | inl long ↦ let no : ◌≡◌ {A = Result Rollout CommandEnd} (Err AboveLimit) (Err DiskFault) = sym (long-rollout input long) ∙ is in cc
  | inr within ↦ let no : is_answer DiskFault ≡ true = rollout-answers input DiskFault (sym (short-rollout input within) ∙ is) in cc
]

-- after which input it failed
pub rolls-behind : {D P : Type 0} (trace : D → DiskTrace) (tell : P → PortTrace)
    (source source_now : SourceTrace) (limits : Limits) (policy : OpView → ℕ) (disk disk_now : D) (before now : FleetSeen P) (e : CommandEnd) (out out_now : Option (List ℕ)) → e ≡ DiskFault
    → Rolls trace tell (IsInput source source_now) limits policy disk disk_now before now e out out_now → ReadsDocument source source_now
rolls-behind trace tell source source_now limits policy disk disk_now before now e out out_now is (inl unbegun) =
    let why : RefusesAs (IsInput source source_now) DiskFault = subst (IsUnbegun (IsInput source source_now)) is unbegun.why in
    absurd (never-disk why.input why.refused)
rolls-behind trace tell source source_now limits policy disk disk_now before now e out out_now is (inr roll) = reads-document source source_now roll.input roll.r roll.given roll.is
