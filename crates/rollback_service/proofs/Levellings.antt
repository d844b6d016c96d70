-- What levelling comes to, by how its run ended.
use Rattle.std.proofs.Common.{◌≡◌, ◌≤◌, ℕ, true, List, length, refl, sym, subst, ap, ◌∙◌, inl, arith}
use Rattle.rollout_rules.specs.Wan.{Rollout, last_stage}
use Rattle.rollout_rules.specs.History.{History}
use Rattle.rollout_rules.specs.Legal.{is_legal}
use Rattle.rollout_rules.specs.Network.{IsNetwork}
use Rattle.rollout_rules.specs.Valid.{is_valid_plan}
use Rattle.rollout_rules.specs.declared.op.OpView.{OpView}
use Rattle.disk_model.specs.Traces.{DiskTrace}
use Rattle.intent_journal.specs.Openings.{IsOpenedFrom}
use Rattle.intent_journal.specs.declared.digest.Digest.{Digest}
use Rattle.wan_edge.specs.Ports.{PortTrace}
use Rattle.rollout_book.specs.JournaledRounds.{Journaled, IsNewBook, graph_of}
use Rattle.shared_book.specs.Opened.{opening_of}
use Rattle.shared_book.proofs.Staying.{stays_alone}
use Rattle.switch_ports.specs.Berths.{FleetPorts}
use Rattle.controller_run.specs.declared.end.RunEnd.{RunEnd}
use Rattle.controller_run.specs.declared.end.RunEnd.TheVariants as run
use Rattle.controller_run.specs.RolloutEnds.{HasRun, outcome_behind}
use Rattle.controller_run.specs.declared.outcome.RunOutcome.{RunOutcome}
use Rattle.controller_run.proofs.RolloutEnds.{end-behind, run-from}
use Rattle.rollback_plan.specs.Levels.{levelling}
use Rattle.rollback_plan.specs.Turns.{may_turn}
use Rattle.rollback_plan.proofs.Ceilings.{ceiling-most}
use Rattle.rollback_plan.proofs.Turned.{turn-numbers}
use Rattle.rollback_plan.proofs.TurnStages.{turns-at_ceiling, turns-somewhere}
use Rattle.rollback_service.specs.Levellings.{HasLevelled, HasRunAt, HasRunLevelling, IsStartBack, LacksPort, MayStart, TurnsFrom, ceiling_of, level_at, level_for, start_of}
use Rattle.rollback_service.specs.declared.answer.LevelAnswer.{LevelAnswer}
use Rattle.rollback_service.specs.declared.answer.LevelAnswer.TheVariants as level
use Rattle.rollback_service.specs.declared.origin.BackFrom.{BackFrom}
use Rattle.rollback_service.specs.declared.origin.BackFrom.TheVariants as whence

-- ---- at which stage it is levelled

module _ (r : Rollout) (h : History) (legal : is_legal r.problem r.plan h ≡ true) where
  -- one of its plan, and no further than the one to which it has come
  pub turns-high : (origin : BackFrom) (s : ℕ) → TurnsFrom origin r h s → s ≤ ceiling_of r h
  turns-high whence.Level s same = omega (arith, same)
  turns-high whence.Here s first = first.most

  pub turns-most : (origin : BackFrom) (s : ℕ) → TurnsFrom origin r h s → s ≤ last_stage r.plan
  turns-most origin s turns = omega (arith, turns-high origin s turns, ceiling-most r.problem r.plan h legal)

  module _ (net : IsNetwork r.problem) (valid : is_valid_plan r.problem r.plan ≡ true) where
    -- there is one, and from there the way back may begin
    pub some-stage : (origin : BackFrom) → (s : ℕ) × TurnsFrom origin r h s
    some-stage whence.Level = (ceiling_of r h, refl)
    some-stage whence.Here = let first = turns-somewhere r.problem r.plan h net valid legal in (first.stage, first.turns)

    pub turns-sound : (origin : BackFrom) (s : ℕ) → TurnsFrom origin r h s → may_turn r.problem r.plan h s ≡ true
    turns-sound whence.Level s same = ap (may_turn r.problem r.plan h) same ∙ turns-at_ceiling r.problem r.plan h net valid legal
    turns-sound whence.Here s first = first.sound

    pub starts-back : (origin : BackFrom) (s : ℕ) → TurnsFrom origin r h s → IsStartBack r (start_of r h s)
    starts-back origin s turns = record { numbers = turn-numbers r.problem r.plan h s; sound = turns-sound origin s turns }

-- ---- by the end of the run

-- no port is missing but where the run says so
pub lacks-port : (end : RunEnd) (o : RunOutcome) (start : List ℕ) (switch : ℕ) → LacksPort (level_at end o start) switch → o.end ≡ run.NoPort switch
lacks-port run.Finished o start switch lacks = absurd lacks
lacks-port run.Held o start switch lacks = absurd lacks
lacks-port (run.Stopped halt) o start switch lacks = lacks
lacks-port (run.NoPort first) o start switch lacks = lacks
lacks-port run.Memory o start switch lacks = lacks

-- the way back may begin after a level
start-for : (end : RunEnd) (o : RunOutcome) (start : List ℕ) → IsStartBack o.plan start → MayStart (level_at end o start)
start-for run.Finished o start may = may
start-for run.Held o start may = may
start-for (run.Stopped halt) o start may = tt
start-for (run.NoPort switch) o start may = tt
start-for run.Memory o start may = tt

pub start-is : {D P : Type 0} (trace : D → DiskTrace) (tell : P → PortTrace) (origin : BackFrom) (migration rounds : ℕ) (book : Journaled D) (before now : FleetPorts P) (disk : D) (a : LevelAnswer)
    → IsNetwork book.rollout.problem → is_valid_plan book.rollout.problem book.rollout.plan ≡ true → IsNewBook trace book → HasRunLevelling trace tell origin migration rounds book before now disk a → MayStart a
start-is trace tell origin migration rounds book before now disk a net valid new ran =
    let start = start_of book.rollout book.history ran.stage in
    let o = ran.at.under.run in
    let plan : o.plan ≡ book.rollout = ap (λ (x : RunOutcome). x.plan) ran.at.under.has.tells in
    subst MayStart (sym ran.at.under.tells)
    (start-for o.end o start (subst (λ (r : Rollout). IsStartBack r start) (sym plan) (starts-back book.rollout book.history new.legal net valid origin ran.stage ran.turns)))

-- without memory for a run nothing was begun
pub never-has : {D P : Type 0} (trace : D → DiskTrace) (tell : P → PortTrace) (policy : OpView → ℕ) (migration rounds : ℕ) (opened : Journaled D) (before : FleetPorts P) (disk : D) (o : RunOutcome)
    → IsNewBook trace opened → disk ≡ opened.disk → o ≡ outcome_behind opened run.Memory → HasRun trace tell policy migration rounds opened before before disk o
never-has trace tell policy migration rounds opened before disk o new back is =
    run-from trace tell policy migration rounds opened opened before before disk run.Memory o (new.count ∙ ap length new.list)
    (record { same = refl; ports = inl refl }) is back (stays_alone trace (opening_of opened policy) opened.disk)

-- without memory for the policy, or to find out how far, it isn't level
pub never-at : {D P : Type 0} (trace : D → DiskTrace) (tell : P → PortTrace) (stage : ℕ) (start : List ℕ) (migration rounds : ℕ) (opened : Journaled D) (before : FleetPorts P) (disk : D) (o : RunOutcome)
    → IsNewBook trace opened → disk ≡ opened.disk → o ≡ outcome_behind opened run.Memory → HasRunAt trace tell stage start migration rounds opened before before disk (level.Unlevel o)
never-at trace tell stage start migration rounds opened before disk o new back is = record {
  policy = levelling stage;
  levels = λ view small. refl;
  under = record {
    run = o;
    has = never-has trace tell (levelling stage) migration rounds opened before disk o new back is;
    tells = subst (λ (x : RunOutcome). level.Unlevel x ≡ level_for x start) (sym is) refl;
  };
}

pub never-levelled : {D P : Type 0} (trace : D → DiskTrace) (tell : P → PortTrace) (origin : BackFrom) (migration rounds : ℕ) (opened : Journaled D) (before : FleetPorts P) (disk : D) (o : RunOutcome)
    → ((stage : ℕ) × TurnsFrom origin opened.rollout opened.history stage) → IsNewBook trace opened → disk ≡ opened.disk → o ≡ outcome_behind opened run.Memory
    → HasRunLevelling trace tell origin migration rounds opened before before disk (level.Unlevel o)
never-levelled trace tell origin migration rounds opened before disk o some new back is =
    record { stage = some.0; turns = some.1; at = never-at trace tell some.0 (start_of opened.rollout opened.history some.0) migration rounds opened before disk o new back is }

-- and it isn't for want of a port
pub never-lacks : {D : Type 0} (opened : Journaled D) (o : RunOutcome) (switch : ℕ) → o ≡ outcome_behind opened run.Memory → LacksPort (level.Unlevel o) switch → ⊥
never-lacks opened o switch is lacks = let no : run.Memory ≡ run.NoPort switch = sym (end-behind opened run.Memory o is) ∙ lacks in cc

-- where it is levelled at the stage that was found
pub levelled-so : {D P : Type 0} (trace : D → DiskTrace) (tell : P → PortTrace) (origin : BackFrom) (stage : ℕ) (start : List ℕ) (migration rounds : ℕ) (opened : Journaled D) (before now : FleetPorts P) (disk : D) (a : LevelAnswer)
    → TurnsFrom origin opened.rollout opened.history stage → start ≡ start_of opened.rollout opened.history stage → HasRunAt trace tell stage start migration rounds opened before now disk a
    → HasRunLevelling trace tell origin migration rounds opened before now disk a
levelled-so trace tell origin stage start migration rounds opened before now disk a turns is at =
    record { stage = stage; turns = turns; at = subst (λ (xs : List ℕ). HasRunAt trace tell stage xs migration rounds opened before now disk a) is at }

-- an opening and a levelling of what was opened
pub levelled-from : {D P : Type 0} (trace : D → DiskTrace) (tell : P → PortTrace) (origin : BackFrom) (r : Rollout) (digest : Digest) (migration rounds : ℕ) (disk : D) (book : Journaled D) (before now : FleetPorts P) (disk_now : D) (a : LevelAnswer)
    → digest.migration ≡ migration → IsOpenedFrom trace r digest disk (graph_of book) book.entries book.disk → IsNewBook trace book
    → HasRunLevelling trace tell origin migration rounds book before now disk_now a
    → HasLevelled trace tell origin r digest rounds disk before now disk_now a
levelled-from trace tell origin r digest migration rounds disk book before now disk_now a number opened new ran = record {
  policy = ran.at.policy;
  run = ran.at.under.run;
  rolled = record {
    book = book;
    opened = opened;
    new = new;
    run = subst (λ (m : ℕ). HasRun trace tell ran.at.policy m rounds book before now disk_now ran.at.under.run) (sym number) ran.at.under.has;
  };
  stage = ran.stage;
  turns = ran.turns;
  levels = ran.at.levels;
  tells = ran.at.under.tells;
}
