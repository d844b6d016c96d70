-- After a rollout that was begun the network is safe, after status 0 at the target, and after status 14 the policy holds back the rest.
use Rattle.std.proofs.Common.{◌≡◌, ℕ, ◌<◌, ◌^◌, List, [], ◌∷◌, length, nat_lt, Bool, true, false, if◌then◌else◌, Option, Some, None, IfSome, Result, Ok, Err, IfOk, IfErr, refl, sym, ap, ◌∙◌, subst, inl, inr, arith}
use Rattle.std.specs.List.{All, AllByRecursion}
use Rattle.std.proofs.lemmas.List.Elements.{All-head, All-tail}
use Rattle.rollout_rules.specs.Wan.{Rollout}
use Rattle.rollout_rules.specs.Legal.{is_finished}
use Rattle.rollout_rules.specs.Network.{IsNetwork}
use Rattle.rollout_rules.specs.Valid.{is_valid_plan}
use Rattle.rollout_rules.specs.declared.limits.TheConstants.{MOST_INPUT}
use Rattle.rollout_rules.specs.declared.op.OpView.{OpView}
use Rattle.disk_model.specs.Traces.{DiskTrace}
use Rattle.disk_mirror.specs.Openings.{IsTold, Opens}
use Rattle.wan_edge.specs.Ports.{PortTrace}
use Rattle.wan_edge.specs.Streams.{Appends}
use Rattle.intent_journal.specs.Verdicts.{verdict}
use Rattle.intent_journal.specs.declared.fault.JournalFault.{JournalFault}
use Rattle.intent_journal.specs.declared.fault.JournalFault.TheVariants as fault
use Rattle.shared_book.specs.declared.note.Cause.{Cause}
use Rattle.shared_book.specs.declared.note.Cause.TheVariants as cause
use Rattle.shared_book.specs.declared.note.Written.{Written}
use Rattle.shared_book.specs.Histories.{Opening, added, history_of}
use Rattle.shared_book.specs.Legal.{is_legal_shared}
use Rattle.shared_book.proofs.Lists.{list-is_legal}
use Rattle.shared_book.specs.Homes.{homes_of}
use Rattle.shared_book.specs.Opened.{opening_of}
use Rattle.port_session.specs.Sessions.{first_session}
use Rattle.switch_ports.specs.declared.ports.Berth.{Berth}
use Rattle.switch_ports.specs.Berths.{FleetPorts}
use Rattle.switch_ports.specs.Hands.{first_sessions}
use Rattle.switch_ports.specs.Homes.{working_homes}
use Rattle.switch_ports.specs.Opening.{IsGiven}
use Rattle.rollout_laws.proofs.Within.{held-safe}
use Rattle.switch_laws.proofs.Stands.{held_at_end, held_stands}
use Rattle.completion_laws.proofs.Each.{each_at_end, each_stands}
use Rattle.rollout_report.specs.Journals.{digest_for}
use Rattle.controller_run.specs.PortRuns.{IsBack}
use Rattle.controller_run.specs.Ran.{Ran}
use Rattle.controller_run.specs.declared.end.RunEnd.{RunEnd}
use Rattle.controller_run.specs.declared.end.RunEnd.TheVariants as run
use Rattle.controller_run.specs.declared.running.Limits.{Limits}
use Rattle.controller_run.proofs.Standing.{runs_at}
use Rattle.completion_laws.proofs.Excused.{held-rests, held-still}
use Rattle.intent_journal.specs.Openings.{IsLeft, found_by}
use Rattle.controller_run.specs.RolloutEnds.{HasRolled}
use Rattle.controller_run.specs.declared.outcome.RunOutcome.{RunOutcome}
use Rattle.text_commands.specs.CommandEnds.{ending_of_journal, status_of}
use Rattle.text_commands.specs.Lines.{IsToldAs}
use Rattle.text_commands.specs.Answers.{rollout_in, rollout_to}
use Rattle.swanroll_top.specs.Rollouts.{FleetSeen, IsUnbegun, Rolls, RollsAs, RollsOpened, RollsOut, RollsOutOf, by_answer, ending_of_stop, finished_line, line_at, line_or_ending}
use Rattle.text_commands.specs.Program.{IsUnfinished}
use Rattle.text_commands.specs.Runs.{EndsWith, Follows}
use Rattle.swanroll_top.specs.Targets.{EndsAtTarget, EndsSafely, EndsWithin, IsOfBegun, ReachesTarget, RestsHeld, StaysSafe}
use Rattle.text_commands.specs.Unfinished.{unfinished_status}
use Rattle.text_commands.specs.declared.command_end.CommandEnd.{CommandEnd}
use Rattle.text_commands.specs.declared.command_end.CommandEnd.TheVariants.{Done, Usage, AboveLimit, Input, NotValid, NoPlan, Unshown, ReadFault, WriteFault, DiskFault, GuestFault, Refused, NotFinished, OutOfMemory}
use Rattle.text_commands.specs.declared.unfinished.Unfinished.{Unfinished}
use Rattle.text_commands.specs.declared.unfinished.Unfinished.TheVariants.{RoundsSpent, PortFault, Above, NotMine, NoAnswer, Held}
use Rattle.text_commands.proofs.Answering.{is_answer, rollout-answers}
use Rattle.swanroll_top.proofs.Outcomes.{is_ran, ran-begun, stop-not-done, unbegun-nothing}
use Rattle.swanroll_top.proofs.Elsewhere.{none-settled}
use Rattle.text_commands.proofs.Programs.{follows-ends, told-same}
use Rattle.text_commands.proofs.Statuses.{is-done, is-unfinished, not-status}

-- ---- endings that come only after a rollout that was begun

abbrev pub is_of_begun : CommandEnd → Bool
is_of_begun Done = true
is_of_begun WriteFault = true
is_of_begun (NotFinished (RoundsSpent rounds item number)) = true
is_of_begun (NotFinished (Above item held begun)) = true
is_of_begun (NotFinished (NotMine r switch item)) = true
is_of_begun (NotFinished (NoAnswer r switch byte)) = true
is_of_begun (NotFinished (Held left)) = true
is_of_begun ending = false

pub of-begun : (e : CommandEnd) → IsOfBegun (status_of e) → is_of_begun e ≡ true
of-begun Done h = refl
of-begun Usage h = absurd cc
of-begun AboveLimit h = absurd cc
of-begun (Input f) h = absurd cc
of-begun (NotValid p b) h = absurd cc
of-begun (NoPlan u) h = absurd cc
of-begun (Unshown u) h = absurd cc
of-begun ReadFault h = absurd cc
of-begun WriteFault h = refl
of-begun DiskFault h = absurd cc
of-begun GuestFault h = absurd cc
of-begun (Refused f) h = absurd cc
of-begun (NotFinished (RoundsSpent rounds item number)) h = refl
of-begun (NotFinished (PortFault r switch)) h = absurd cc
of-begun (NotFinished (Above item held begun)) h = refl
of-begun (NotFinished (NotMine r switch item)) h = refl
of-begun (NotFinished (NoAnswer r switch byte)) h = refl
of-begun (NotFinished (Held left)) h = refl
of-begun OutOfMemory h = absurd cc

-- what such an ending isn't
pub not-begun : (e x : CommandEnd) → is_of_begun e ≡ true → e ≡ x → is_of_begun x ≡ false → ⊥
not-begun e x begun is other = let both : true ≡ false = sym begun ∙ (ap is_of_begun is ∙ other) in cc

-- it wants no memory
pub begun-memory : (e : CommandEnd) → is_of_begun e ≡ true → status_of e ≡ 12 → ⊥
begun-memory Done begun h = omega (arith, h)
begun-memory Usage begun h = cc
begun-memory AboveLimit begun h = cc
begun-memory (Input f) begun h = cc
begun-memory (NotValid p b) begun h = cc
begun-memory (NoPlan u) begun h = cc
begun-memory (Unshown u) begun h = cc
begun-memory ReadFault begun h = cc
begun-memory WriteFault begun h = omega (arith, h)
begun-memory DiskFault begun h = cc
begun-memory GuestFault begun h = cc
begun-memory (Refused f) begun h = cc
begun-memory (NotFinished u) begun h = not-status 12 refl u h
begun-memory OutOfMemory begun h = cc

pub begun-ends : (answer : Result (List ℕ) CommandEnd) (e : CommandEnd) (out now : Option (List ℕ)) → is_of_begun e ≡ true → Follows answer e out now → EndsWith answer e out now
begun-ends answer e out now begun h = follows-ends answer e out now h (begun-memory e begun)

refused-begun : (long : Bool) (input : List ℕ) (e : CommandEnd) → is_of_begun e ≡ true → (if long then Err AboveLimit else rollout_in input) ≡ Err e → ⊥
refused-begun true input e begun h = not-begun e AboveLimit begun (cc h) refl
refused-begun false input e begun h = answer-begun e begun (rollout-answers input e h)
  where
    answer-begun : (e : CommandEnd) → is_of_begun e ≡ true → is_answer e ≡ true → ⊥
    answer-begun Done begun h = cc
    answer-begun Usage begun h = cc
    answer-begun AboveLimit begun h = cc
    answer-begun (Input f) begun h = cc
    answer-begun (NotValid p b) begun h = cc
    answer-begun (NoPlan u) begun h = cc
    answer-begun (Unshown u) begun h = cc
    answer-begun ReadFault begun h = cc
    answer-begun WriteFault begun h = cc
    answer-begun DiskFault begun h = cc
    answer-begun GuestFault begun h = cc
    answer-begun (Refused f) begun h = cc
    answer-begun (NotFinished u) begun h = cc
    answer-begun OutOfMemory begun h = cc

-- no input is refused so
to-begun : (input : List ℕ) (e : CommandEnd) → is_of_begun e ≡ true → rollout_to input ≡ Err e → ⊥
unfolding rollout_to
to-begun input e begun h = refused-begun (nat_lt MOST_INPUT (length input)) input e begun h

pub journal-begun : (why : JournalFault) → is_of_begun (ending_of_journal why) ≡ false
journal-begun (fault.NotJournal first) = refl
journal-begun (fault.OtherPlan kept wanted) = refl
journal-begun (fault.Illegal place) = refl
journal-begun fault.BadStart = refl
journal-begun fault.Disk = refl
journal-begun fault.Memory = refl

pub unbegun-refused : (Given : List ℕ → Type 0) (e : CommandEnd) → is_of_begun e ≡ true → IsUnbegun Given e → ⊥
unbegun-refused Given Done begun h = to-begun h.input Done refl h.refused
unbegun-refused Given Usage begun h = absurd cc
unbegun-refused Given AboveLimit begun h = absurd cc
unbegun-refused Given (Input f) begun h = absurd cc
unbegun-refused Given (NotValid p b) begun h = absurd cc
unbegun-refused Given (NoPlan u) begun h = absurd cc
unbegun-refused Given (Unshown u) begun h = absurd cc
unbegun-refused Given ReadFault begun h = absurd cc
unbegun-refused Given WriteFault begun h = to-begun h.input WriteFault refl h.refused
unbegun-refused Given DiskFault begun h = absurd cc
unbegun-refused Given GuestFault begun h = absurd cc
unbegun-refused Given (Refused f) begun h = absurd cc
unbegun-refused Given (NotFinished u) begun h = to-begun h.input (NotFinished u) begun h.refused
unbegun-refused Given OutOfMemory begun h = absurd cc

-- ---- an answer after a run that was begun

ran-at : (end : RunEnd) (o : RunOutcome) (e : CommandEnd) (out now : Option (List ℕ)) → is_of_begun e ≡ true → EndsWith (line_at end o) e out now → is_ran end ≡ true
ran-at run.Finished o e out now begun h = refl
ran-at run.Held o e out now begun h = refl
ran-at (run.Stopped halt) o e out now begun h = refl
ran-at (run.NoPort switch) o e out now begun h = absurd (not-begun e (NotFinished (PortFault o.plan switch)) begun h.0 refl)
ran-at run.Memory o e out now begun h = absurd (not-begun e OutOfMemory begun h.0 refl)

-- ---- the ports

module _ {P : Type 0} (tell : P → PortTrace) (o : Opening) (migration : ℕ) (log : List Written) (before now : FleetPorts P)
    (net : IsNetwork o.rollout.problem) (valid : is_valid_plan o.rollout.problem o.rollout.plan ≡ true) (legal : is_legal_shared o log ≡ true) (small : migration < 2 ^ 32) where
  pub berths-within : (bs : List (Berth P)) → AllByRecursion (IsGiven tell before.waiting) bs → All (IsBack tell o migration (homes_of o.rollout.problem) log now.kept) (first_sessions bs)
      → AllByRecursion (EndsWithin tell o.rollout migration o.found (history_of o log) before now) bs
  berths-within [] given back = tt
  berths-within (b ∷ bs) given all =
      let back : IsBack tell o migration (homes_of o.rollout.problem) log now.kept (first_session b.switch b.port) = All-head (IsBack tell o migration (homes_of o.rollout.problem) log now.kept) (first_session b.switch b.port) (first_sessions bs) all in (
        record {
          given = given.0;
          back = back.now.port;
          kept = back.is_kept;
          holds = λ starts. held_stands o.rollout migration (homes_of o.rollout.problem) o.found (added log) back.run.sent _ _ net valid (list-is_legal o log legal) small (runs_at o migration (homes_of o.rollout.problem) log _ _ back.run starts);
          each = each_stands o migration (homes_of o.rollout.problem) log _ _ net valid legal small back.run;
        },
        berths-within bs given.1 (All-tail (IsBack tell o migration (homes_of o.rollout.problem) log now.kept) (first_session b.switch b.port) (first_sessions bs) all),
      )

  berths-end : is_finished o.rollout.problem o.rollout.plan (history_of o log) ≡ true → (bs : List (Berth P)) → AllByRecursion (IsGiven tell before.waiting) bs
      → All (IsBack tell o migration (homes_of o.rollout.problem) log now.kept) (first_sessions bs) → AllByRecursion (EndsAtTarget tell o.rollout migration o.found before now) bs
  berths-end finished [] given back = tt
  berths-end finished (b ∷ bs) given all =
      let back : IsBack tell o migration (homes_of o.rollout.problem) log now.kept (first_session b.switch b.port) = All-head (IsBack tell o migration (homes_of o.rollout.problem) log now.kept) (first_session b.switch b.port) (first_sessions bs) all in (
        record {
          given = given.0;
          back = back.now.port;
          kept = back.is_kept;
          holds = λ starts. held_at_end o.rollout migration (homes_of o.rollout.problem) o.found (added log) back.run.sent _ _ net valid (list-is_legal o log legal) small finished (runs_at o migration (homes_of o.rollout.problem) log _ _ back.run starts);
          each = each_at_end o migration (homes_of o.rollout.problem) log _ _ net valid legal small finished back.run;
        },
        berths-end finished bs given.1 (All-tail (IsBack tell o migration (homes_of o.rollout.problem) log now.kept) (first_session b.switch b.port) (first_sessions bs) all),
      )

-- ---- a disk that was opened

pub is-told : (told : Option (List ℕ)) → IsTold told → (image : List ℕ) × (told ≡ Some image)
is-told None h = absurd (cc h)
is-told (Some image) h = (image, refl)

-- the input is a rollout, and it was run from the image that its disk told
pub record RunsFrom {D P : Type 0} (trace : D → DiskTrace) (tell : P → PortTrace)
    (Given : List ℕ → Type 0) (limits : Limits) (policy : OpView → ℕ) (disk disk_now : D) (before now : FleetSeen P) (e : CommandEnd) (out out_now : Option (List ℕ)) : Type 0 where
  pub input : List ℕ
  pub given : Given input
  pub r : Rollout
  pub is : rollout_to input ≡ Ok r
  pub opened : D
  pub opens : Opens (trace disk) (trace opened)
  pub image : List ℕ
  pub stored : (trace opened).bytes ≡ Some image
  pub rolls : RollsOut trace tell r limits policy opened disk_now before now e out out_now

module _ {D P : Type 0} (trace : D → DiskTrace) (tell : P → PortTrace)
    (Given : List ℕ → Type 0) (disk disk_now : D) (before now : FleetSeen P) (limits : Limits) (policy : OpView → ℕ) (e : CommandEnd) (out out_now : Option (List ℕ)) where
  runs-from : (e ≡ DiskFault → ⊥) → RollsOutOf trace tell Given limits policy disk disk_now before now e out out_now → RunsFrom trace tell Given limits policy disk disk_now before now e out out_now
  runs-from unlike rolled = elim rolled.rolls [
    | inl fails ↦ absurd (unlike fails.is)
    | inr begun ↦ record {
      input = rolled.input;
      given = rolled.given;
      r = rolled.r;
      is = rolled.is;
      opened = begun.opened;
      opens = begun.opens;
      image = (is-told (trace begun.opened).bytes begun.told).0;
      stored = (is-told (trace begun.opened).bytes begun.told).1;
      rolls = begun.rolls;
    }
  ]

  runs-opened : (rolled : RollsOutOf trace tell Given limits policy disk disk_now before now e out out_now) → RollsOpened trace tell rolled.r limits policy disk disk_now before now e out out_now
      → RunsFrom trace tell Given limits policy disk disk_now before now e out out_now
  runs-opened rolled begun = record {
    input = rolled.input;
    given = rolled.given;
    r = rolled.r;
    is = rolled.is;
    opened = begun.opened;
    opens = begun.opens;
    image = (is-told (trace begun.opened).bytes begun.told).0;
    stored = (is-told (trace begun.opened).bytes begun.told).1;
    rolls = begun.rolls;
  }

-- ---- a rollout that was run

module _ {D P : Type 0} (trace : D → DiskTrace) (tell : P → PortTrace)
    (Given : List ℕ → Type 0) (disk disk_now : D) (before now : FleetSeen P) (limits : Limits) (policy : OpView → ℕ) (e : CommandEnd) (out out_now : Option (List ℕ))
    (rolled : RunsFrom trace tell Given limits policy disk disk_now before now e out out_now) (a : RunOutcome)
    (has : HasRolled trace tell rolled.r (digest_for rolled.r limits.migration) policy limits.rounds rolled.opened before.ports now.ports disk_now a) where
  abbrev pub Begun : RunEnd → Type 0
  Begun end = Ran trace tell (opening_of has.book policy) (trace has.book.disk).moment (trace has.book.disk).faults limits.migration limits.rounds
      (working_homes has.book.rollout.problem has.book.rollout.plan) before.ports end has.run.closed now.ports

  net : IsNetwork has.book.rollout.problem
  net = subst (λ (r : Rollout). IsNetwork r.problem) (sym has.opened.rollout) rolled.rolls.network

  valid : is_valid_plan has.book.rollout.problem has.book.rollout.plan ≡ true
  valid = subst (λ (r : Rollout). is_valid_plan r.problem r.plan ≡ true) (sym has.opened.rollout) rolled.rolls.valid

  pub has-run : is_ran a.end ≡ true → Begun a.end
  unfolding digest_for
  has-run is = ran-begun tell (working_homes has.book.rollout.problem has.book.rollout.plan) has.book has.run.closed before.ports now.ports Begun a.end is has.run.ran

  stays-safe : (end : RunEnd) → Begun end → StaysSafe trace tell limits Given disk before.ports now.ports
  stays-safe end ran = record {
    input = rolled.input;
    given = rolled.given;
    r = has.book.rollout;
    is = rolled.is ∙ ap Ok (sym has.opened.rollout);
    opened = rolled.opened;
    opens = rolled.opens;
    image = rolled.image;
    stored = rolled.stored;
    found = has.book.history;
    begins = subst (λ (r : Rollout). found_by r (verdict r (digest_for r limits.migration) rolled.image) ≡ Some has.book.history) (sym has.opened.rollout)
        (subst (λ (told : Option (List ℕ)). IfSome told (λ image. found_by rolled.r (verdict rolled.r (digest_for rolled.r limits.migration) image) ≡ Some has.book.history)) rolled.stored has.opened.found);
    added = added ran.log;
    legal = list-is_legal (opening_of has.book policy) ran.log ran.legal;
    safe = λ held within. held-safe has.book.rollout.problem has.book.rollout.plan (history_of (opening_of has.book policy) ran.log) held net valid (list-is_legal (opening_of has.book policy) ran.log ran.legal) within;
    berths = ran.berths;
    switches = ran.switches;
    asked = ran.asked;
    ports = berths-within tell (opening_of has.book policy) limits.migration ran.log before.ports now.ports net valid ran.legal rolled.rolls.small ran.berths ran.given ran.ports;
    rest = λ n elsewhere. none-settled (homes_of has.book.rollout.problem) (working_homes has.book.rollout.problem has.book.rollout.plan) ran.log ran.at_home n elsewhere has.book.history;
  }

  -- whether it was begun or not
  runs-ends : (is : Bool) → is_ran a.end ≡ is → EndsSafely trace tell limits Given disk before.ports now.ports
  runs-ends true is = inr (stays-safe a.end (has-run is))
  runs-ends false isnt = inl
      (unbegun-nothing tell (working_homes has.book.rollout.problem has.book.rollout.plan) has.book has.run.closed before.ports now.ports _ a.end isnt has.run.ran)

  reaches : a.end ≡ run.Finished → Appends out (finished_line a.operations a.found) out_now → ReachesTarget trace tell limits Given disk before.ports now.ports out out_now
  unfolding stays-safe
  reaches is line =
      let ran : Begun run.Finished = subst Begun is (has-run (ap is_ran is)) in
      record {
        stays = stays-safe run.Finished ran;
        finished = ran.ends.1;
        ports = berths-end tell (opening_of has.book policy) limits.migration ran.log before.ports now.ports net valid ran.legal rolled.rolls.small ran.ends.1 ran.berths ran.given ran.ports;
        line = subst (λ (text : List ℕ). Appends out text out_now) (ap (λ (o : RunOutcome). finished_line o.operations o.found) has.run.tells) line;
      }

  rests : a.end ≡ run.Held → RestsHeld trace tell limits policy Given disk before.ports now.ports
  unfolding stays-safe
  rests is =
      let ran : Begun run.Held = subst Begun is (has-run (ap is_ran is)) in
      let homes = working_homes has.book.rollout.problem has.book.rollout.plan in
      record {
        stays = stays-safe run.Held ran;
        unfinished = ran.ends.1;
        still = held-still trace tell (opening_of has.book policy) (trace has.book.disk).moment (trace has.book.disk).faults limits.migration limits.rounds homes before.ports has.run.closed now.ports ran;
        held = held-rests trace tell (opening_of has.book policy) (trace has.book.disk).moment (trace has.book.disk).faults limits.migration limits.rounds homes before.ports has.run.closed now.ports ran;
      }

module _ {D P : Type 0} (trace : D → DiskTrace) (tell : P → PortTrace)
    (Given : List ℕ → Type 0) (disk disk_now : D) (before now : FleetSeen P) (limits : Limits) (policy : OpView → ℕ) (out out_now : Option (List ℕ)) where
  begun-by : (e : CommandEnd) → is_of_begun e ≡ true → (rolled : RunsFrom trace tell Given limits policy disk disk_now before now e out out_now) (a : Result RunOutcome JournalFault)
      → IfOk a (λ o. HasRolled trace tell rolled.r (digest_for rolled.r limits.migration) policy limits.rounds rolled.opened before.ports now.ports disk_now o)
      → EndsWith (by_answer line_or_ending a) e out out_now → StaysSafe trace tell limits Given disk before.ports now.ports
  begun-by e begun rolled (Ok o) has ends =
      stays-safe trace tell Given disk disk_now before now limits policy e out out_now rolled o has o.end
      (has-run trace tell Given disk disk_now before now limits policy e out out_now rolled o has (ran-at o.end o e out out_now begun ends))
  begun-by e begun rolled (Err why) has ends = absurd (not-begun e (ending_of_journal why) begun ends.0 (journal-begun why))

  begun-safe : (e : CommandEnd) → is_of_begun e ≡ true → Rolls trace tell Given limits policy disk disk_now before now e out out_now
      → StaysSafe trace tell limits Given disk before.ports now.ports
  begun-safe e begun (inl none) = absurd (unbegun-refused Given e begun none.why)
  begun-safe e begun (inr way) =
      let rolled = runs-from trace tell Given disk disk_now before now limits policy e out out_now (λ is. not-begun e DiskFault begun is refl) way in
      begun-by e begun rolled rolled.rolls.answer rolled.rolls.rolled (begun-ends (by_answer line_or_ending rolled.rolls.answer) e out out_now begun rolled.rolls.follows)

  reaches-at : (rolled : RunsFrom trace tell Given limits policy disk disk_now before now Done out out_now) (o : RunOutcome)
      → HasRolled trace tell rolled.r (digest_for rolled.r limits.migration) policy limits.rounds rolled.opened before.ports now.ports disk_now o
      → (end : RunEnd) → o.end ≡ end → EndsWith (line_at end o) Done out out_now → ReachesTarget trace tell limits Given disk before.ports now.ports out out_now
  reaches-at rolled o has run.Finished is (inl done) = reaches trace tell Given disk disk_now before now limits policy Done out out_now rolled o has is done.1
  reaches-at rolled o has run.Finished is (inr cut) = absurd (cc (cut.0))
  reaches-at rolled o has run.Held is ends = absurd (cc (ends.0))
  reaches-at rolled o has (run.Stopped halt) is ends = absurd (stop-not-done o.plan halt.cause ends.0)
  reaches-at rolled o has (run.NoPort switch) is ends = absurd (cc (ends.0))
  reaches-at rolled o has run.Memory is ends = absurd (cc (ends.0))

  answer-reaches : (rolled : RunsFrom trace tell Given limits policy disk disk_now before now Done out out_now) (a : Result RunOutcome JournalFault)
      → IfOk a (λ o. HasRolled trace tell rolled.r (digest_for rolled.r limits.migration) policy limits.rounds rolled.opened before.ports now.ports disk_now o)
      → Follows (by_answer line_or_ending a) Done out out_now → ReachesTarget trace tell limits Given disk before.ports now.ports out out_now
  answer-reaches rolled (Ok o) has ends = reaches-at rolled o has o.end refl ends
  answer-reaches rolled (Err why) has ends = absurd (not-begun Done (ending_of_journal why) refl ends.0 (journal-begun why))

  done-reaches : Rolls trace tell Given limits policy disk disk_now before now Done out out_now → ReachesTarget trace tell limits Given disk before.ports now.ports out out_now
  done-reaches (inl none) = absurd (unbegun-refused Given Done refl none.why)
  done-reaches (inr way) =
      let rolled = runs-from trace tell Given disk disk_now before now limits policy Done out out_now (λ is. cc) way in
      answer-reaches rolled rolled.rolls.answer rolled.rolls.rolled rolled.rolls.follows

  -- by the answer of a run that says held
  module _ (count : ℕ) where
    stop-not-held : (r : Rollout) (why : Cause) → NotFinished (Held count) ≡ ending_of_stop r why → ⊥
    stop-not-held r (cause.Spent rounds item number) h = cc
    stop-not-held r (cause.Port switch) h = cc
    stop-not-held r (cause.Above item held begun) h = cc
    stop-not-held r (cause.NotMine switch item) h = cc
    stop-not-held r (cause.NoAnswer switch byte) h = cc
    stop-not-held r cause.Disk h = cc
    stop-not-held r cause.Memory h = cc

    rests-at : (rolled : RunsFrom trace tell Given limits policy disk disk_now before now (NotFinished (Held count)) out out_now) (o : RunOutcome)
        → HasRolled trace tell rolled.r (digest_for rolled.r limits.migration) policy limits.rounds rolled.opened before.ports now.ports disk_now o
        → (end : RunEnd) → o.end ≡ end → EndsWith (line_at end o) (NotFinished (Held count)) out out_now → RestsHeld trace tell limits policy Given disk before.ports now.ports
    rests-at rolled o has run.Finished is (inl done) = absurd (cc (done.0))
    rests-at rolled o has run.Finished is (inr cut) = absurd (cc (cut.0))
    rests-at rolled o has run.Held is ends = rests trace tell Given disk disk_now before now limits policy (NotFinished (Held count)) out out_now rolled o has is
    rests-at rolled o has (run.Stopped halt) is ends = absurd (stop-not-held o.plan halt.cause ends.0)
    rests-at rolled o has (run.NoPort switch) is ends = absurd (cc (ends.0))
    rests-at rolled o has run.Memory is ends = absurd (cc (ends.0))

    answer-rests : (rolled : RunsFrom trace tell Given limits policy disk disk_now before now (NotFinished (Held count)) out out_now) (a : Result RunOutcome JournalFault)
        → IfOk a (λ o. HasRolled trace tell rolled.r (digest_for rolled.r limits.migration) policy limits.rounds rolled.opened before.ports now.ports disk_now o)
        → Follows (by_answer line_or_ending a) (NotFinished (Held count)) out out_now → RestsHeld trace tell limits policy Given disk before.ports now.ports
    answer-rests rolled (Ok o) has ends = rests-at rolled o has o.end refl ends
    answer-rests rolled (Err why) has ends = absurd (not-begun (NotFinished (Held count)) (ending_of_journal why) refl ends.0 (journal-begun why))

    held-rests-by : Rolls trace tell Given limits policy disk disk_now before now (NotFinished (Held count)) out out_now → RestsHeld trace tell limits policy Given disk before.ports now.ports
    held-rests-by (inl none) = absurd (unbegun-refused Given (NotFinished (Held count)) refl none.why)
    held-rests-by (inr way) =
        let rolled = runs-from trace tell Given disk disk_now before now limits policy (NotFinished (Held count)) out out_now (λ is. cc) way in
        answer-rests rolled rolled.rolls.answer rolled.rolls.rolled rolled.rolls.follows

-- ---- whatever the ending

module _ {D P : Type 0} (trace : D → DiskTrace) (tell : P → PortTrace)
    (Given : List ℕ → Type 0) (disk disk_now : D) (before now : FleetSeen P) (limits : Limits) (policy : OpView → ℕ) (e : CommandEnd) (out out_now : Option (List ℕ)) where
  as-it-was : now ≡ before → EndsSafely trace tell limits Given disk before.ports now.ports
  as-it-was same = inl (inl (ap (λ (f : FleetSeen P). f.ports) same))

  answer-ends : (rolled : RunsFrom trace tell Given limits policy disk disk_now before now e out out_now) (a : Result RunOutcome JournalFault) (Q : JournalFault → Type 0)
      → IfOk a (λ o. HasRolled trace tell rolled.r (digest_for rolled.r limits.migration) policy limits.rounds rolled.opened before.ports now.ports disk_now o)
      → IfErr a (λ why. Q why × (now ≡ before)) → EndsSafely trace tell limits Given disk before.ports now.ports
  answer-ends rolled (Ok o) Q has left = runs-ends trace tell Given disk disk_now before now limits policy e out out_now rolled o has (is_ran o.end) refl
  answer-ends rolled (Err why) Q has left = as-it-was left.1

  pub rolls-ends : Rolls trace tell Given limits policy disk disk_now before now e out out_now → EndsSafely trace tell limits Given disk before.ports now.ports
  rolls-ends (inl none) = as-it-was none.fleet_is
  rolls-ends (inr rolled) = elim rolled.rolls [
    | inl fails ↦ as-it-was fails.fleet_is
    | inr begun ↦
        let from = runs-opened trace tell Given disk disk_now before now limits policy e out out_now rolled begun in
        answer-ends from from.rolls.answer (λ why. IsLeft trace from.r (digest_for from.r limits.migration) from.opened why disk_now) from.rolls.rolled from.rolls.unopened
  ]

-- ---- by the status

is-held : (u : Unfinished) → unfinished_status u ≡ 14 → (count : ℕ) × (u ≡ Held count)
is-held (RoundsSpent rounds item number) h = absurd (omega (arith, h))
is-held (PortFault r switch) h = absurd (omega (arith, h))
is-held (Above item held begun) h = absurd (omega (arith, h))
is-held (NotMine r switch item) h = absurd (omega (arith, h))
is-held (NoAnswer r switch byte) h = absurd (omega (arith, h))
is-held (Held count) h = (count, refl)

pub begun-told : (e told : CommandEnd) → IsToldAs e told → is_of_begun told ≡ true → e ≡ told
begun-told e told by begun = told-same e told by (λ m. not-begun told OutOfMemory begun m refl)

module _ {D P : Type 0} (trace : D → DiskTrace) (tell : P → PortTrace)
    (Given : List ℕ → Type 0) (disk disk_now : D) (before now : FleetSeen P) (out out_now : Option (List ℕ)) where
  pub rolls-safe : (limits : Limits) (policy : OpView → ℕ) (status : ℕ) → RollsAs trace tell Given limits policy disk disk_now before now status out out_now → IsOfBegun status
      → StaysSafe trace tell limits Given disk before.ports now.ports
  rolls-safe limits policy status rolls of =
      let begun : is_of_begun rolls.told ≡ true = of-begun rolls.told (subst IsOfBegun rolls.is_status of) in
      let same : rolls.ending ≡ rolls.told = begun-told rolls.ending rolls.told rolls.told_as begun in
      begun-safe trace tell Given disk disk_now before now limits policy out out_now rolls.ending (ap is_of_begun same ∙ begun) rolls.rolls

  pub rolls-target : (limits : Limits) (policy : OpView → ℕ) (status : ℕ) → RollsAs trace tell Given limits policy disk disk_now before now status out out_now → status ≡ 0
      → ReachesTarget trace tell limits Given disk before.ports now.ports out out_now
  rolls-target limits policy status rolls zero =
      let told : rolls.told ≡ Done = is-done rolls.told (sym rolls.is_status ∙ zero) in
      let done : rolls.ending ≡ Done = begun-told rolls.ending rolls.told rolls.told_as (ap is_of_begun told) ∙ told in
      done-reaches trace tell Given disk disk_now before now limits policy out out_now
      (subst (λ (e : CommandEnd). Rolls trace tell Given limits policy disk disk_now before now e out out_now) done rolls.rolls)

  pub held-rest : (limits : Limits) (policy : OpView → ℕ) (status : ℕ) → RollsAs trace tell Given limits policy disk disk_now before now status out out_now → status ≡ 14
      → RestsHeld trace tell limits policy Given disk before.ports now.ports
  held-rest limits policy status rolls is =
      let fourteen : status_of rolls.told ≡ 14 = sym rolls.is_status ∙ is in
      let unfinished = is-unfinished rolls.told (subst IsUnfinished (sym fourteen) refl) in
      let count = is-held unfinished.0 (sym (ap status_of unfinished.1) ∙ fourteen) in
      let told : rolls.told ≡ NotFinished (Held count.0) = unfinished.1 ∙ ap NotFinished count.1 in
      let held : rolls.ending ≡ NotFinished (Held count.0) = begun-told rolls.ending rolls.told rolls.told_as (ap is_of_begun told) ∙ told in
      held-rests-by trace tell Given disk disk_now before now limits policy out out_now count.0
      (subst (λ (e : CommandEnd). Rolls trace tell Given limits policy disk disk_now before now e out out_now) held rolls.rolls)
