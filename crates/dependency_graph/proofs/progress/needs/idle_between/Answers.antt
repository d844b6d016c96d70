use Rattle.std.proofs.Common.{sym, ◌∙◌, arith, eq-eqb, ne_eqb, ◌==◌}
use Rattle.rollout_rules.specs.Wan.{rate_at}
use Rattle.rollout_laws.proofs.Runs.{run_start-most}
use Rattle.dependency_graph.proofs.Runs.{run-goes_on, run-broken, run-begun}
use Rattle.dependency_graph.proofs.progress.needs.idle_between.Goals as goal

pub loop-u-init : goal.loop-u-init
loop-u-init c = run_start-most (λ u. rate_at c.args.plan.now.plan u c.args.t == 0) c.args.from

pub returns-then-rate-ne0 : goal.returns-then-rate-ne0
returns-then-rate-ne0 c = sym (run-broken (λ u. rate_at c.args.plan.now.plan u c.args.t == 0) c.args.from c.loop-u.u c.args.to c.loop-u.auto.u c.loop-u-test.true (ne_eqb (rate_at c.args.plan.now.plan c.loop-u.u c.args.t) 0 (λ q. c.if-rate-ne0.true (c.rate.ensures ∙ q))))

pub loop-u-preserved : goal.loop-u-preserved
loop-u-preserved c = run-goes_on (λ u. rate_at c.args.plan.now.plan u c.args.t == 0) c.args.from c.loop-u.u (eq-eqb (rate_at c.args.plan.now.plan c.loop-u.u c.args.t) 0 (sym c.rate.ensures ∙ c.if-rate-ne0.false)) c.loop-u.invariant

pub returns : goal.returns
returns c = sym (run-begun (λ u. rate_at c.args.plan.now.plan u c.args.t == 0) c.args.from c.loop-u.u c.args.to (omega (arith, c.loop-u-test.false)) c.loop-u.invariant)
