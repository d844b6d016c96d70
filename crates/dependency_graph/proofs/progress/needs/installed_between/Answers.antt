use Rattle.std.proofs.Common.{sym, ◌∙◌, arith}
use Rattle.rollout_rules.specs.Wan.{mark_at}
use Rattle.rollout_laws.proofs.Runs.{run_start-most}
use Rattle.dependency_graph.proofs.Runs.{run-goes_on, run-broken, run-begun}
use Rattle.dependency_graph.proofs.progress.needs.installed_between.Goals as goal

pub loop-u-init : goal.loop-u-init
loop-u-init c = run_start-most (λ u. mark_at c.args.plan.now.plan u c.args.t) c.args.from

pub returns-then-not-mark : goal.returns-then-not-mark
returns-then-not-mark c = sym (run-broken (λ u. mark_at c.args.plan.now.plan u c.args.t) c.args.from c.loop-u.u c.args.to c.loop-u.auto.u c.loop-u-test.true (sym c.mark.ensures ∙ c.if-not-mark.true))

pub loop-u-preserved : goal.loop-u-preserved
loop-u-preserved c = run-goes_on (λ u. mark_at c.args.plan.now.plan u c.args.t) c.args.from c.loop-u.u (sym c.mark.ensures ∙ c.if-not-mark.false) c.loop-u.invariant

pub returns : goal.returns
returns c = sym (run-begun (λ u. mark_at c.args.plan.now.plan u c.args.t) c.args.from c.loop-u.u c.args.to (omega (arith, c.loop-u-test.false)) c.loop-u.invariant)
