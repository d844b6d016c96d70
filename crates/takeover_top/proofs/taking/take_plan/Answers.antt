use Rattle.std.proofs.Common.{ℕ, List, Ok, Err, Result, refl, sym, subst, ◌∙◌}
use Rattle.rollout_rules.specs.Wan.{Rollout}
use Rattle.order_policy.specs.Answers.{rank_by}
use Rattle.switch_ports.specs.Berths.{ports_of}
use Rattle.fence_takeover.specs.Beginnings.{Begins}
use Rattle.fence_takeover.specs.declared.begun.NotBegun.{NotBegun}
use Rattle.retarget_service.specs.JournalRoom.{journal_room}
use Rattle.swanroll_top.specs.Rollouts.{fleet_of}
use Rattle.takeover_top.specs.Takings.{ByBeginning}
use Rattle.takeover_top.proofs.Counted.{taken-count}
use Rattle.takeover_top.proofs.taking.take_plan.Goals as goal

pub run_on-requires-clause-numbers : goal.run_on-requires-clause-numbers
run_on-requires-clause-numbers g c κs within =
    let before = ports_of (g.F.Fleet.told c.args.fleet.now) in
    let mid = ports_of (g.F.Fleet.told c.begin_takeover-disk.new.fleet) in
    taken-count g.F.Port.Port.told g.D.Disk.told c.args.plan c.args.limits.migration c.args.limits.rounds c.journal_room-room.result before mid c.args.disk c.begin_takeover-disk.result.disk (c.in-Ok.plan, c.in-Ok.start)
    (subst (λ (a : Result (Rollout × List ℕ) NotBegun). Begins a g.F.Port.Port.told g.D.Disk.told c.args.plan c.args.limits.migration c.args.limits.rounds c.journal_room-room.result before mid c.args.disk c.begin_takeover-disk.result.disk) c.in-Ok.is c.begin_takeover-disk.ensures.begins)

pub returns-in-Ok-clause-takes : goal.returns-in-Ok-clause-takes
returns-in-Ok-clause-takes g c =
    let before = ports_of (g.F.Fleet.told c.args.fleet.now) in
    let mid = fleet_of (g.F.Fleet.told c.begin_takeover-disk.new.fleet) in
    let now = fleet_of (g.F.Fleet.told c.run_on.new.fleet) in
    record {
      answer = c.begin_takeover-disk.result.answer;
      begun = c.begin_takeover-disk.result.disk;
      mid = mid;
      begins = subst (λ (n : ℕ). Begins c.begin_takeover-disk.result.answer g.F.Port.Port.told g.D.Disk.told c.args.plan c.args.limits.migration c.args.limits.rounds n before mid.ports c.args.disk c.begin_takeover-disk.result.disk)
          c.journal_room-room.ensures c.begin_takeover-disk.ensures.begins;
      no_port = c.begin_takeover-disk.ensures.cause;
      count = c.begin_takeover-disk.ensures.count;
      ends = subst (λ (a : Result (Rollout × List ℕ) NotBegun). ByBeginning g.D.Disk.told g.F.Port.Port.told c.args.limits (rank_by c.args.policy.now.answers) a c.begin_takeover-disk.result.disk c.run_on.result.disk mid now
          c.run_on.result.ending (g.K.Sink.told c.args.sink.now) (g.K.Sink.told c.run_on.new.sink))
          (sym c.in-Ok.is) c.run_on.ensures.runs;
    }

pub returns-in-Ok-clause-guests : goal.returns-in-Ok-clause-guests
returns-in-Ok-clause-guests g c =
    let run = c.run_on.ensures.guests in
    let begun = c.begin_takeover-disk.ensures.guests in
    (run.0 ∙ begun.0, run.1 ∙ begun.1, run.2 ∙ begun.2)

pub returns-in-Err-clause-takes : goal.returns-in-Err-clause-takes
returns-in-Err-clause-takes g c =
    let before = ports_of (g.F.Fleet.told c.args.fleet.now) in
    let mid = fleet_of (g.F.Fleet.told c.begin_takeover-disk.new.fleet) in
    record {
      answer = c.begin_takeover-disk.result.answer;
      begun = c.begin_takeover-disk.result.disk;
      mid = mid;
      begins = subst (λ (n : ℕ). Begins c.begin_takeover-disk.result.answer g.F.Port.Port.told g.D.Disk.told c.args.plan c.args.limits.migration c.args.limits.rounds n before mid.ports c.args.disk c.begin_takeover-disk.result.disk)
          c.journal_room-room.ensures c.begin_takeover-disk.ensures.begins;
      no_port = c.begin_takeover-disk.ensures.cause;
      count = c.begin_takeover-disk.ensures.count;
      ends = subst (λ (a : Result (Rollout × List ℕ) NotBegun). ByBeginning g.D.Disk.told g.F.Port.Port.told c.args.limits (rank_by c.args.policy.now.answers) a c.begin_takeover-disk.result.disk c.begin_takeover-disk.result.disk mid mid
          c.ending_of_not_begun.result (g.K.Sink.told c.args.sink.now) (g.K.Sink.told c.args.sink.now))
          (sym c.in-Err.is) (c.ending_of_not_begun.ensures, refl, refl, refl);
    }
