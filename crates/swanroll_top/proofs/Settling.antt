-- After a drain that was begun the network is safe and nothing was begun after the list found; after status 0 nothing is in flight, and the switches hold what is settled.
use Rattle.std.proofs.Common.{◌≡◌, ◌+◌, ◌-◌, ◌<◌, ◌≤◌, ◌==◌, ℕ, List, [], ◌∷◌, Bool, true, false, Option, Some, Result, Ok, Err, IfOk, IfErr, IfSome, refl, sym, ap, ◌∙◌, subst, inl, inr, arith, eqb-true, ne_eqb}
use Rattle.std.specs.List.{All, AllByRecursion}
use Rattle.std.proofs.lemmas.List.Elements.{All-head, All-tail, All-weaker}
use Rattle.rollout_rules.specs.Sums.{sum_below}
use Rattle.rollout_rules.specs.Wan.{Plan, Problem, Rollout}
use Rattle.rollout_rules.specs.Items.{item_at, item_count}
use Rattle.rollout_rules.specs.Operations.{operations}
use Rattle.rollout_rules.specs.History.{History, begins_in, begun, settled}
use Rattle.rollout_rules.specs.Legal.{is_finished, is_legal, unsettled}
use Rattle.rollout_rules.specs.Network.{IsNetwork}
use Rattle.rollout_rules.specs.Valid.{is_valid_plan}
use Rattle.rollout_rules.specs.declared.op.OpView.{OpView}
use Rattle.rollout_rules.proofs.Below.{all_below-at, sum_below-plus, sum_below-same}
use Rattle.rollout_laws.specs.Waiting.{NothingFlies}
use Rattle.rollout_laws.proofs.Histories.{begun-with, is_counted}
use Rattle.rollout_laws.proofs.Within.{held-safe}
use Rattle.disk_model.specs.Traces.{DiskTrace}
use Rattle.disk_mirror.specs.Openings.{Opens}
use Rattle.dependency_graph.specs.Graph.{count_of, op_total}
use Rattle.wan_edge.specs.Frames.{Command}
use Rattle.wan_edge.specs.Ports.{PortTrace}
use Rattle.wan_edge.specs.Streams.{Appends}
use Rattle.intent_journal.specs.Openings.{IsLeft, found_by}
use Rattle.intent_journal.specs.Verdicts.{verdict}
use Rattle.intent_journal.specs.declared.fault.JournalFault.{JournalFault}
use Rattle.shared_book.specs.declared.note.Written.{Written}
use Rattle.shared_book.specs.Histories.{Opening, added, history_of}
use Rattle.shared_book.proofs.Lists.{list-is_legal}
use Rattle.shared_book.specs.Homes.{homes_of}
use Rattle.shared_book.specs.Opened.{opening_of}
use Rattle.shared_book.proofs.Unstopped.{unstopped}
use Rattle.rollout_book.specs.JournaledRounds.{Journaled}
use Rattle.port_session.specs.Sessions.{first_session}
use Rattle.switch_ports.specs.declared.ports.Berth.{Berth}
use Rattle.switch_ports.specs.Berths.{FleetPorts}
use Rattle.switch_ports.specs.Hands.{first_sessions}
use Rattle.switch_ports.specs.Homes.{working_homes}
use Rattle.switch_laws.proofs.Begun.{begun_within}
use Rattle.rollout_report.specs.Journals.{digest_for}
use Rattle.controller_run.specs.Keeping.{IsBegun}
use Rattle.controller_run.specs.PortRuns.{IsBack}
use Rattle.controller_run.specs.Ran.{Ran}
use Rattle.controller_run.specs.declared.end.RunEnd.{RunEnd}
use Rattle.controller_run.specs.declared.end.RunEnd.TheVariants as run
use Rattle.controller_run.specs.declared.running.Limits.{Limits}
use Rattle.controller_run.specs.RolloutEnds.{HasRolled}
use Rattle.controller_run.specs.declared.outcome.RunOutcome.{RunOutcome}
use Rattle.completion_laws.proofs.Excused.{held-still}
use Rattle.completion_laws.proofs.InFlight.{still-flies}
use Rattle.rollback_plan.specs.Levels.{HoldsFrom}
use Rattle.rollback_service.specs.Drainings.{HoldsAll}
use Rattle.levelling_laws.proofs.Drained.{list-begins_nothing}
use Rattle.swanroll_top.specs.Drains.{Drains, DrainsAs, DrainsOpened, DrainsOut, DrainsOutOf, drained_at, drained_line, drained_or_ending, line_with_left}
use Rattle.swanroll_top.specs.DrainTargets.{DrainsSafely, EndsDrainSafely, IsBegunIn, IsDrained, SendsAgain, settled_in_all}
use Rattle.text_commands.specs.CommandEnds.{ending_of_journal}
use Rattle.swanroll_top.specs.NextStarts.{NextStart}
use Rattle.text_commands.specs.Answers.{rollout_to}
use Rattle.swanroll_top.specs.Rollouts.{FleetSeen, RollsOut, by_answer}
use Rattle.text_commands.specs.Runs.{EndsWith, Follows}
use Rattle.swanroll_top.specs.Targets.{IsOfBegun, StaysSafe}
use Rattle.text_commands.specs.declared.command_end.CommandEnd.{CommandEnd}
use Rattle.text_commands.specs.declared.command_end.CommandEnd.TheVariants.{Done, DiskFault, NotFinished, OutOfMemory}
use Rattle.text_commands.specs.declared.unfinished.Unfinished.TheVariants.{PortFault}
use Rattle.swanroll_top.proofs.Elsewhere.{none-settled}
use Rattle.swanroll_top.proofs.Levelling.{levels-holds}
use Rattle.swanroll_top.proofs.NextStarting.{rolls-next}
use Rattle.swanroll_top.proofs.Outcomes.{is_ran, stop-not-done, unbegun-nothing}
use Rattle.swanroll_top.proofs.Reaching.{RunsFrom, begun-ends, begun-told, berths-within, has-run, is-told, is_of_begun, journal-begun, not-begun, of-begun, unbegun-refused}
use Rattle.swanroll_top.proofs.SettledPorts.{berths-settled}
use Rattle.text_commands.proofs.Statuses.{is-done}

-- ---- what is settled

-- where all is settled nothing is in flight
no-flight : (p : Problem) (plan : Plan) (h : History) → is_legal p plan h ≡ true → is_finished p plan h ≡ true → NothingFlies p h
no-flight p plan h legal finished n inside =
    let all : settled h n ≡ operations p plan (item_at p n) = eqb-true _ _ (all_below-at (item_count p) (λ m. settled h m == operations p plan (item_at p m)) finished n inside) in
    let most : begun h n ≤ operations p plan (item_at p n) = (is_counted p plan h legal n).exist inside in
    ne_eqb (begun h n) (settled h n + 1) (λ e. omega (arith, e, all, most))

-- what is left of each, and what is done, are all
left-and-done : (k : ℕ) (all done : ℕ → ℕ) → ((n : ℕ) → n < k → done n ≤ all n) → sum_below k (λ n. all n - done n) + sum_below k done ≡ sum_below k all
left-and-done k all done most = sym (sum_below-plus k (λ n. all n - done n) done) ∙ sum_below-same k (λ n. (all n - done n) + done n) all (λ n lt. omega (arith, most n lt))

module _ (r : Rollout) (h : History) (legal : is_legal r.problem r.plan h ≡ true) where
  settled-most : (n : ℕ) → n < item_count r.problem → settled h n ≤ count_of r n
  settled-most n inside =
      let counted = is_counted r.problem r.plan h legal n in
      omega (arith, counted.settled_begun, counted.exist inside)

  -- all but those that are left are settled
  all-but_left : op_total r - unsettled r.problem r.plan h ≡ settled_in_all r h
  all-but_left =
      let whole : unsettled r.problem r.plan h + settled_in_all r h ≡ op_total r = left-and-done (item_count r.problem) (count_of r) (settled h) settled-most in
      omega (arith, whole)

  none-left : is_finished r.problem r.plan h ≡ true → op_total r - 0 ≡ settled_in_all r h
  none-left finished =
      let whole : settled_in_all r h ≡ op_total r = sum_below-same (item_count r.problem) (settled h) (count_of r)
      (λ n inside. eqb-true _ _ (all_below-at (item_count r.problem) (λ m. settled h m == operations r.problem r.plan (item_at r.problem m)) finished n inside)) in
      omega (arith, whole)

-- ---- what went out

module _ (o : Opening) (log : List Written) (legal : is_legal o.rollout.problem o.rollout.plan (history_of o log) ≡ true) (none : (n : ℕ) → begins_in (added log) n ≡ 0) where
  command-begun : (c : Command) → IsBegun o (history_of o log) c → IsBegunIn o.found c
  command-begun c is =
      let within = begun_within o.rollout.problem o.rollout.plan (history_of o log) legal is.op is.begun in
      let same : begun (history_of o log) is.op.item ≡ begun o.found is.op.item + begins_in (added log) is.op.item = begun-with o.found (added log) is.op.item in
      subst (λ (d : Command). IsBegunIn o.found d) (sym is.is) (omega (arith, within.within, same, none is.op.item))

module _ {P : Type 0} (tell : P → PortTrace) (o : Opening) (migration : ℕ) (log : List Written) (now : FleetPorts P)
    (legal : is_legal o.rollout.problem o.rollout.plan (history_of o log) ≡ true) (none : (n : ℕ) → begins_in (added log) n ≡ 0) where
  berths-again : (bs : List (Berth P)) → All (IsBack tell o migration (homes_of o.rollout.problem) log now.kept) (first_sessions bs) → AllByRecursion (SendsAgain tell o.rollout migration o.found now) bs
  berths-again [] all = tt
  berths-again (b ∷ bs) all =
      let back : IsBack tell o migration (homes_of o.rollout.problem) log now.kept (first_session b.switch b.port) = All-head (IsBack tell o migration (homes_of o.rollout.problem) log now.kept) (first_session b.switch b.port) (first_sessions bs) all in (
        record {
          back = back.now.port;
          kept = back.is_kept;
          sent = back.run.sent;
          each = All-weaker (IsBegun o (history_of o log)) (IsBegunIn o.found) (command-begun o log legal none) back.run.sent back.run.begun;
          part = back.run.story.part;
        },
        berths-again bs (All-tail (IsBack tell o migration (homes_of o.rollout.problem) log now.kept) (first_session b.switch b.port) (first_sessions bs) all),
      )

-- ---- how it ended

-- such an ending comes only after a run that was begun
ran-at : (end : RunEnd) (o : RunOutcome) (e : CommandEnd) (out now : Option (List ℕ)) → is_of_begun e ≡ true → EndsWith (drained_at end o) e out now → is_ran end ≡ true
ran-at run.Finished o e out now begun h = refl
ran-at run.Held o e out now begun h = refl
ran-at (run.Stopped halt) o e out now begun h = refl
ran-at (run.NoPort switch) o e out now begun h = absurd (not-begun e (NotFinished (PortFault o.plan switch)) begun h.0 refl)
ran-at run.Memory o e out now begun h = absurd (not-begun e OutOfMemory begun h.0 refl)

-- ---- a run under a policy that holds all back

module _ {D P : Type 0} (trace : D → DiskTrace) (tell : P → PortTrace)
    (Given : List ℕ → Type 0) (disk disk_now : D) (before now : FleetSeen P) (limits : Limits) (policy : OpView → ℕ) (holds : HoldsAll policy) (e : CommandEnd) (w w_now : Option (List ℕ))
    (from : RunsFrom trace tell Given limits policy disk disk_now before now e w w_now) (a : RunOutcome)
    (has : HasRolled trace tell from.r (digest_for from.r limits.migration) policy limits.rounds from.opened before.ports now.ports disk_now a) where
  abbrev book : Journaled D
  book = has.book

  abbrev o : Opening
  o = opening_of has.book policy

  abbrev BegunRun : RunEnd → Type 0
  BegunRun end = Ran trace tell (opening_of has.book policy) (trace has.book.disk).moment (trace has.book.disk).faults limits.migration limits.rounds
      (working_homes has.book.rollout.problem has.book.rollout.plan) before.ports end has.run.closed now.ports

  net : IsNetwork book.rollout.problem
  net = subst (λ (r : Rollout). IsNetwork r.problem) (sym has.opened.rollout) from.rolls.network

  valid : is_valid_plan book.rollout.problem book.rollout.plan ≡ true
  valid = subst (λ (r : Rollout). is_valid_plan r.problem r.plan ≡ true) (sym has.opened.rollout) from.rolls.valid

  holds-all : HoldsFrom 0 policy
  holds-all = levels-holds 0 policy holds

  drain-begun : is_ran a.end ≡ true → BegunRun a.end
  drain-begun is = has-run trace tell Given disk disk_now before now limits policy e w w_now from a has is

  drain-unbegun : is_ran a.end ≡ false → EndsDrainSafely trace tell limits Given disk before.ports now.ports
  drain-unbegun isnt = inl
      (unbegun-nothing tell (working_homes book.rollout.problem book.rollout.plan) book has.run.closed before.ports now.ports _ a.end isnt has.run.ran)

  drain-stays : (end : RunEnd) → BegunRun end → StaysSafe trace tell limits Given disk before.ports now.ports
  drain-stays end ran = record {
    input = from.input;
    given = from.given;
    r = book.rollout;
    is = from.is ∙ ap Ok (sym has.opened.rollout);
    opened = from.opened;
    opens = from.opens;
    image = from.image;
    stored = from.stored;
    found = book.history;
    begins = subst (λ (r : Rollout). found_by r (verdict r (digest_for r limits.migration) from.image) ≡ Some book.history) (sym has.opened.rollout)
        (subst (λ (told : Option (List ℕ)). IfSome told (λ image. found_by from.r (verdict from.r (digest_for from.r limits.migration) image) ≡ Some book.history)) from.stored has.opened.found);
    added = added ran.log;
    legal = list-is_legal o ran.log ran.legal;
    safe = λ held within. held-safe book.rollout.problem book.rollout.plan (history_of o ran.log) held net valid (list-is_legal o ran.log ran.legal) within;
    berths = ran.berths;
    switches = ran.switches;
    asked = ran.asked;
    ports = berths-within tell o limits.migration ran.log before.ports now.ports net valid ran.legal from.rolls.small ran.berths ran.given ran.ports;
    rest = λ n elsewhere. none-settled (homes_of book.rollout.problem) (working_homes book.rollout.problem book.rollout.plan) ran.log ran.at_home n elsewhere book.history;
  }

  drains-safely : (end : RunEnd) → BegunRun end → DrainsSafely trace tell limits Given disk before.ports now.ports
  unfolding drain-stays
  drains-safely end ran =
      let none : (n : ℕ) → begins_in (added ran.log) n ≡ 0 = list-begins_nothing o net valid holds-all ran.log ran.legal in
      record {
        stays = drain-stays end ran;
        dones = none;
        sends = berths-again tell o limits.migration ran.log now.ports (list-is_legal o ran.log ran.legal) none ran.berths ran.ports;
      }

  -- nothing is in flight, and so many operations are left
  is-drained : (end : RunEnd) (ran : BegunRun end) → NothingFlies book.rollout.problem (history_of o ran.log) → (left : ℕ) → op_total book.rollout - left ≡ settled_in_all book.rollout (history_of o ran.log)
      → (out out_now : Option (List ℕ)) → Appends out (line_with_left (op_total book.rollout) left) out_now → IsDrained trace tell limits Given disk before.ports now.ports out out_now
  unfolding drains-safely drain-stays
  is-drained end ran idle left count out out_now text = record {
    drains = drains-safely end ran;
    still = idle;
    ports = berths-settled tell book.rollout limits.migration book.history (history_of o ran.log) before.ports now.ports (list-is_legal o ran.log ran.legal) idle ran.berths
        (berths-within tell o limits.migration ran.log before.ports now.ports net valid ran.legal from.rolls.small ran.berths ran.given ran.ports);
    line = subst (λ (n : ℕ). Appends out (drained_line (op_total book.rollout) n) out_now) count text;
  }

  -- by its end
  finished-drained : BegunRun run.Finished → (out out_now : Option (List ℕ)) → Appends out (line_with_left (op_total book.rollout) 0) out_now → IsDrained trace tell limits Given disk before.ports now.ports out out_now
  finished-drained ran out out_now text =
      let legal = list-is_legal o ran.log ran.legal in
      is-drained run.Finished ran (no-flight book.rollout.problem book.rollout.plan (history_of o ran.log) legal ran.ends.1) 0 (none-left book.rollout (history_of o ran.log) legal ran.ends.1) out out_now text

  held-drained : BegunRun run.Held → (left : ℕ) → left ≡ unsettled book.rollout.problem book.rollout.plan has.run.closed.history → (out out_now : Option (List ℕ)) → Appends out (line_with_left (op_total book.rollout) left) out_now
      → IsDrained trace tell limits Given disk before.ports now.ports out out_now
  held-drained ran left is out out_now text =
      let homes = working_homes book.rollout.problem book.rollout.plan in
      let legal = list-is_legal o ran.log ran.legal in
      let closed : has.run.closed.history ≡ history_of o ran.log = ran.closed.history ∙ unstopped o ran.log ran.legal ran.ends.0 in
      let left_now : left ≡ unsettled book.rollout.problem book.rollout.plan (history_of o ran.log) = is ∙ ap (λ (h : History). unsettled book.rollout.problem book.rollout.plan h) closed in
      is-drained run.Held ran
      (still-flies book.rollout.problem (history_of o ran.log) (held-still trace tell o (trace book.disk).moment (trace book.disk).faults limits.migration limits.rounds homes before.ports has.run.closed now.ports ran))
      left (ap (λ (n : ℕ). op_total book.rollout - n) left_now ∙ all-but_left book.rollout (history_of o ran.log) legal) out out_now text

  counted : a.operations ≡ op_total book.rollout
  counted = ap (λ (o : RunOutcome). o.operations) has.run.tells

  drain-finished : a.end ≡ run.Finished → (out out_now : Option (List ℕ)) → Appends out (line_with_left a.operations 0) out_now → IsDrained trace tell limits Given disk before.ports now.ports out out_now
  drain-finished is out out_now text =
      finished-drained (subst BegunRun is (drain-begun (ap is_ran is))) out out_now
      (subst (λ (n : ℕ). Appends out (line_with_left n 0) out_now) counted text)

  drain-held : a.end ≡ run.Held → (out out_now : Option (List ℕ)) → Appends out (line_with_left a.operations a.left) out_now → IsDrained trace tell limits Given disk before.ports now.ports out out_now
  drain-held is out out_now text =
      held-drained (subst BegunRun is (drain-begun (ap is_ran is))) a.left (ap (λ (o : RunOutcome). o.left) has.run.tells) out out_now
      (subst (λ (n : ℕ). Appends out (line_with_left n a.left) out_now) counted text)

-- ---- a drain, from the image that its disk told

record DrainsFrom {D P : Type 0} (trace : D → DiskTrace) (tell : P → PortTrace)
    (Given : List ℕ → Type 0) (limits : Limits) (disk disk_now : D) (before now : FleetSeen P) (e : CommandEnd) (out out_now : Option (List ℕ)) : Type 0 where
  pub input : List ℕ
  pub given : Given input
  pub r : Rollout
  pub is : rollout_to input ≡ Ok r
  pub opened : D
  pub opens : Opens (trace disk) (trace opened)
  pub image : List ℕ
  pub stored : (trace opened).bytes ≡ Some image
  pub drains : DrainsOut trace tell r limits opened disk_now before now e out out_now

module _ {D P : Type 0} (trace : D → DiskTrace) (tell : P → PortTrace)
    (Given : List ℕ → Type 0) (limits : Limits) (disk disk_now : D) (before now : FleetSeen P) (e : CommandEnd) (out out_now : Option (List ℕ)) where
  drains-from : (way : DrainsOutOf trace tell Given limits disk disk_now before now e out out_now) → DrainsOpened trace tell way.r limits disk disk_now before now e out out_now
      → DrainsFrom trace tell Given limits disk disk_now before now e out out_now
  drains-from way begun = record {
    input = way.input;
    given = way.given;
    r = way.r;
    is = way.is;
    opened = begun.opened;
    opens = begun.opens;
    image = (is-told (trace begun.opened).bytes begun.told).0;
    stored = (is-told (trace begun.opened).bytes begun.told).1;
    drains = begun.drains;
  }

  -- it is a run of which no line is written
  abbrev rolls_of : (r : Rollout) (opened : D) (d : DrainsOut trace tell r limits opened disk_now before now e out out_now) → RollsOut trace tell r limits d.policy opened disk_now before now OutOfMemory out out
  rolls_of r opened d = record {
    network = d.network;
    valid = d.valid;
    small = d.small;
    answer = d.answer;
    rolled = d.rolled;
    unopened = d.unopened;
    no_port = d.no_port;
    follows = refl;
  }

  abbrev run_of : (d : DrainsFrom trace tell Given limits disk disk_now before now e out out_now) → RunsFrom trace tell Given limits d.drains.policy disk disk_now before now OutOfMemory out out
  run_of d = record {
    input = d.input;
    given = d.given;
    r = d.r;
    is = d.is;
    opened = d.opened;
    opens = d.opens;
    image = d.image;
    stored = d.stored;
    rolls = rolls_of d.r d.opened d.drains;
  }

  abbrev RolledTo : DrainsFrom trace tell Given limits disk disk_now before now e out out_now → RunOutcome → Type 0
  RolledTo d a = HasRolled trace tell d.r (digest_for d.r limits.migration) d.drains.policy limits.rounds d.opened before.ports now.ports disk_now a

  -- whenever a crash comes
  pub drains-next : Drains trace tell Given limits disk disk_now before now e out out_now → NextStart trace limits Given disk disk_now
  drains-next (inl none) = inl none.disk_is
  drains-next (inr way) = elim way.rolls as (λ _. NextStart trace limits Given disk disk_now) [
    | inl fails ↦ inr (inl fails.opens)
    | inr begun ↦
        rolls-next trace tell Given disk disk_now before now limits begun.drains.policy OutOfMemory out out (inr (record {
          input = way.input;
          given = way.given;
          r = way.r;
          is = way.is;
          rolls = inr (record { opened = begun.opened; opens = begun.opens; told = begun.told; within = begun.within; rolls = rolls_of way.r begun.opened begun.drains });
        }))
  ]

  -- ---- whatever the ending

  ran-safely : (d : DrainsFrom trace tell Given limits disk disk_now before now e out out_now) (a : RunOutcome) → RolledTo d a → is_ran a.end ≡ true → DrainsSafely trace tell limits Given disk before.ports now.ports
  ran-safely d a has is =
      drains-safely trace tell Given disk disk_now before now limits d.drains.policy d.drains.holds OutOfMemory out out (run_of d) a has a.end
      (drain-begun trace tell Given disk disk_now before now limits d.drains.policy d.drains.holds OutOfMemory out out (run_of d) a has is)

  never-ran : (d : DrainsFrom trace tell Given limits disk disk_now before now e out out_now) (a : RunOutcome) → RolledTo d a → is_ran a.end ≡ false → EndsDrainSafely trace tell limits Given disk before.ports now.ports
  never-ran d a has isnt = drain-unbegun trace tell Given disk disk_now before now limits d.drains.policy d.drains.holds OutOfMemory out out (run_of d) a has isnt

  as-it-was : now ≡ before → EndsDrainSafely trace tell limits Given disk before.ports now.ports
  as-it-was same = inl (inl (ap (λ (f : FleetSeen P). f.ports) same))

  either-ran : (d : DrainsFrom trace tell Given limits disk disk_now before now e out out_now) (a : RunOutcome) → RolledTo d a → (is : Bool) → is_ran a.end ≡ is → EndsDrainSafely trace tell limits Given disk before.ports now.ports
  either-ran d a has true is = inr (ran-safely d a has is)
  either-ran d a has false isnt = never-ran d a has isnt

  answer-ends : (d : DrainsFrom trace tell Given limits disk disk_now before now e out out_now) (a : Result RunOutcome JournalFault) (Q : JournalFault → Type 0) → IfOk a (RolledTo d) → IfErr a (λ why. Q why × (now ≡ before))
      → EndsDrainSafely trace tell limits Given disk before.ports now.ports
  answer-ends d (Ok o) Q has left = either-ran d o has (is_ran o.end) refl
  answer-ends d (Err why) Q has left = as-it-was left.1

  pub drains-ends : Drains trace tell Given limits disk disk_now before now e out out_now → EndsDrainSafely trace tell limits Given disk before.ports now.ports
  drains-ends (inl none) = as-it-was none.fleet_is
  drains-ends (inr way) = elim way.rolls as (λ _. EndsDrainSafely trace tell limits Given disk before.ports now.ports) [
    | inl fails ↦ as-it-was fails.fleet_is
    | inr begun ↦
        let d = drains-from way begun in
        answer-ends d d.drains.answer (λ why. IsLeft trace d.r (digest_for d.r limits.migration) d.opened why disk_now) d.drains.rolled d.drains.unopened
  ]

  -- ---- by the ending

  begun-by : is_of_begun e ≡ true → (d : DrainsFrom trace tell Given limits disk disk_now before now e out out_now) (a : Result RunOutcome JournalFault) → IfOk a (RolledTo d)
      → EndsWith (by_answer drained_or_ending a) e out out_now → DrainsSafely trace tell limits Given disk before.ports now.ports
  begun-by begun d (Ok o) has ends = ran-safely d o has (ran-at o.end o e out out_now begun ends)
  begun-by begun d (Err why) has ends = absurd (not-begun e (ending_of_journal why) begun ends.0 (journal-begun why))

  begun-safely : is_of_begun e ≡ true → Drains trace tell Given limits disk disk_now before now e out out_now → DrainsSafely trace tell limits Given disk before.ports now.ports
  begun-safely begun (inl none) = absurd (unbegun-refused Given e begun none.why)
  begun-safely begun (inr way) = elim way.rolls as (λ _. DrainsSafely trace tell limits Given disk before.ports now.ports) [
    | inl fails ↦ absurd (not-begun e DiskFault begun fails.is refl)
    | inr opened ↦
        let d = drains-from way opened in
        begun-by begun d d.drains.answer d.drains.rolled (begun-ends (by_answer drained_or_ending d.drains.answer) e out out_now begun d.drains.follows)
  ]

module _ {D P : Type 0} (trace : D → DiskTrace) (tell : P → PortTrace)
    (Given : List ℕ → Type 0) (limits : Limits) (disk disk_now : D) (before now : FleetSeen P) (out out_now : Option (List ℕ)) where
  abbrev From : Type 0
  From = DrainsFrom trace tell Given limits disk disk_now before now Done out out_now

  drained-by : (d : From) (o : RunOutcome) → RolledTo trace tell Given limits disk disk_now before now Done out out_now d o → (end : RunEnd) → o.end ≡ end → EndsWith (drained_at end o) Done out out_now
      → IsDrained trace tell limits Given disk before.ports now.ports out out_now
  drained-by d o has run.Finished is (inl done) =
      drain-finished trace tell Given disk disk_now before now limits d.drains.policy d.drains.holds OutOfMemory out out (run_of trace tell Given limits disk disk_now before now Done out out_now d) o has is out out_now done.1
  drained-by d o has run.Finished is (inr cut) = absurd (cc (cut.0))
  drained-by d o has run.Held is (inl done) =
      drain-held trace tell Given disk disk_now before now limits d.drains.policy d.drains.holds OutOfMemory out out (run_of trace tell Given limits disk disk_now before now Done out out_now d) o has is out out_now done.1
  drained-by d o has run.Held is (inr cut) = absurd (cc (cut.0))
  drained-by d o has (run.Stopped halt) is ends = absurd (stop-not-done o.plan halt.cause ends.0)
  drained-by d o has (run.NoPort switch) is ends = absurd (cc (ends.0))
  drained-by d o has run.Memory is ends = absurd (cc (ends.0))

  answer-drained : (d : From) (a : Result RunOutcome JournalFault) → IfOk a (RolledTo trace tell Given limits disk disk_now before now Done out out_now d) → Follows (by_answer drained_or_ending a) Done out out_now
      → IsDrained trace tell limits Given disk before.ports now.ports out out_now
  answer-drained d (Ok o) has ends = drained-by d o has o.end refl ends
  answer-drained d (Err why) has ends = absurd (not-begun Done (ending_of_journal why) refl ends.0 (journal-begun why))

  done-drained : Drains trace tell Given limits disk disk_now before now Done out out_now → IsDrained trace tell limits Given disk before.ports now.ports out out_now
  done-drained (inl none) = absurd (unbegun-refused Given Done refl none.why)
  done-drained (inr way) = elim way.rolls as (λ _. IsDrained trace tell limits Given disk before.ports now.ports out out_now) [
    | inl fails ↦ absurd (not-begun Done DiskFault refl fails.is refl)
    | inr begun ↦
        let d = drains-from trace tell Given limits disk disk_now before now Done out out_now way begun in
        answer-drained d d.drains.answer d.drains.rolled d.drains.follows
  ]

  -- ---- by the status

  pub drains-safe : (status : ℕ) → DrainsAs trace tell Given limits disk disk_now before now status out out_now → IsOfBegun status → DrainsSafely trace tell limits Given disk before.ports now.ports
  drains-safe status rolls of =
      let begun : is_of_begun rolls.told ≡ true = of-begun rolls.told (subst IsOfBegun rolls.is_status of) in
      let same : rolls.ending ≡ rolls.told = begun-told rolls.ending rolls.told rolls.told_as begun in
      begun-safely trace tell Given limits disk disk_now before now rolls.ending out out_now (ap is_of_begun same ∙ begun) rolls.rolls

  pub drains-still : (status : ℕ) → DrainsAs trace tell Given limits disk disk_now before now status out out_now → status ≡ 0 → IsDrained trace tell limits Given disk before.ports now.ports out out_now
  drains-still status rolls zero =
      let told : rolls.told ≡ Done = is-done rolls.told (sym rolls.is_status ∙ zero) in
      let done : rolls.ending ≡ Done = begun-told rolls.ending rolls.told rolls.told_as (ap is_of_begun told) ∙ told in
      done-drained (subst (λ (e : CommandEnd). Drains trace tell Given limits disk disk_now before now e out out_now) done rolls.rolls)
