use Rattle.std.proofs.Common.{◌≡◌, ◌≤◌, ℕ, List, length, Ok, Err, sym, ap, subst, ◌∙◌, refl, arith}
use Rattle.rollout_rules.specs.Items.{item_count}
use Rattle.order_policy.specs.Answers.{rank_by}
use Rattle.switch_ports.specs.Berths.{ports_of}
use Rattle.rollout_report.specs.Journals.{digest_for}
use Rattle.text_commands.specs.Runs.{Follows}
use Rattle.swanroll_top.specs.Rollouts.{fleet_of}
use Rattle.swanroll_top.proofs.Outcomes.{disk-failed, ending-follows, journal-disk, journal-not-cut}
use Rattle.takeover_top.specs.Endings.{taken_or_ending}
use Rattle.takeover_top.specs.Lines.{start_total}
use Rattle.takeover_top.proofs.taking.run_on.Goals as goal

pub start_total-total-requires : goal.start_total-total-requires
start_total-total-requires g c =
    let count : c.item_count.result ≡ item_count c.args.plan.problem = c.item_count.ensures ∙ ap item_count c.problem.ensures in
    let long : length c.as_slice.result.now ≡ item_count c.args.plan.problem = ap (λ (xs : List ℕ). length xs) c.as_slice.ensures ∙ c.requires.numbers in
    omega (arith, count, long)

pub returns-in-Ok-clause-runs : goal.returns-in-Ok-clause-runs
returns-in-Ok-clause-runs g c =
    let count : c.item_count.result ≡ item_count c.args.plan.problem = c.item_count.ensures ∙ ap item_count c.problem.ensures in
    let total : c.start_total-total.result ≡ start_total (item_count c.args.plan.problem) c.args.start =
    c.start_total-total.ensures ∙ (ap (λ (n : ℕ). start_total n c.as_slice.result.now) count ∙ ap (start_total (item_count c.args.plan.problem)) c.as_slice.ensures) in
    record {
      network = c.checked_plan_is_valid.ensures.network;
      valid = c.checked_plan_is_valid.ensures.valid;
      small = omega arith;
      answer = Ok c.in-Ok.rolled.outcome;
      rolled = c.in-Ok.ensures.rolled;
      unopened = tt;
      no_port = c.in-Ok.ensures.no_port;
      ended = c.write_outcome.result;
      is = refl;
      follows = subst (λ (n : ℕ). Follows (taken_or_ending n c.in-Ok.rolled.outcome) c.write_outcome.result (g.K.Sink.told c.args.sink.now).written (g.K.Sink.told c.write_outcome.new.sink).written) total c.write_outcome.ensures.follows;
      disk_fault = λ e.
          disk-failed g.D.Disk.told g.F.Port.Port.told
          c.args.plan (digest_for c.args.plan c.args.limits.migration) (rank_by c.args.policy.now.answers) c.args.limits.rounds c.args.disk c.in-Ok.rolled.disk
          (ports_of (g.F.Fleet.told c.args.fleet.now)) (ports_of (g.F.Fleet.told c.run_rollout.new.fleet))
          c.in-Ok.rolled.outcome (c.write_outcome.ensures.disk e) c.in-Ok.ensures.rolled;
      write_fault = c.write_outcome.ensures.write_fault;
    }

pub returns-in-Err-clause-runs : goal.returns-in-Err-clause-runs
returns-in-Err-clause-runs g c = record {
  network = c.checked_plan_is_valid.ensures.network;
  valid = c.checked_plan_is_valid.ensures.valid;
  small = omega arith;
  answer = Err c.in-Err.unopened.cause;
  rolled = tt;
  unopened = (c.in-Err.ensures.unopened, ap (λ fleet. fleet_of (g.F.Fleet.told fleet)) c.in-Err.ensures.untouched);
  no_port = tt;
  ended = c.from.result;
  is = refl;
  follows = ending-follows c.in-Err.unopened.cause c.from.result (g.K.Sink.told c.args.sink.now).written c.from.ensures;
  disk_fault = λ e. c.in-Err.ensures.unopened.failed (journal-disk c.in-Err.unopened.cause (sym c.from.ensures ∙ e));
  write_fault = λ e. absurd (journal-not-cut c.in-Err.unopened.cause (sym c.from.ensures ∙ e));
}
