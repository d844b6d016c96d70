use Rattle.std.proofs.Common.{sym, ◌∙◌}
use Rattle.rollout_rules.specs.declared.op.Entry.{Entry}
use Rattle.rollout_rules.specs.declared.op.Entry.TheVariants.{Begin}
use Rattle.rollout_core.proofs.Following.{may_follow-more, may_follow-stops}
use Rattle.rollout_core.proofs.history.History.may_follow.Goals as goal

none : Entry
none = Begin (record { item = 0; number = 0 })

pub returns-then-not-may_add : goal.returns-then-not-may_add
unfolding none
returns-then-not-may_add c =
    let r = c.args.self.now.rollout in
    sym (may_follow-stops r.problem r.plan c.args.self.now.history c.args.batch.now c.loop-n.n none c.loop-n-test.true c.loop-n.invariant (sym c.may_add.ensures ∙ c.if-not-may_add.true))

pub loop-n-preserved : goal.loop-n-preserved
unfolding none
loop-n-preserved c =
    let r = c.args.self.now.rollout in
    may_follow-more r.problem r.plan c.args.self.now.history c.args.batch.now c.loop-n.n none c.loop-n-test.true c.loop-n.invariant (sym c.may_add.ensures ∙ c.if-not-may_add.false)
