use Rattle.std.proofs.Common.{◌≡◌, ◌⊎◌, inl, inr, refl, ap, ◌∙◌, arith}
use Rattle.port_session.proofs.Chaining.{if_err}
use Rattle.rollout_rules.specs.Items.{item_count}
use Rattle.fence_takeover.specs.Starts.{IsUntaken}
use Rattle.fence_takeover.specs.declared.end.FenceEnd.{FenceEnd}
use Rattle.fence_takeover.specs.declared.end.FenceEnd.TheVariants as fence
use Rattle.fence_takeover.proofs.Taken.{all-more, all-none, all-taken, start-more}
use Rattle.fence_takeover.proofs.taking.taken_start.Goals as goal

pub loop-item-init : goal.loop-item-init
loop-item-init c = record {
  start = c.new-start.ensures;
  each = all-none c.args.plan.now.problem c.args.plan.now.plan c.args.migration c.args.notes.now;
}

pub taken_at-requires : goal.taken_at-requires
taken_at-requires c = omega (arith, c.loop-item-test.true, c.item_count-item-end.ensures ∙ ap item_count c.problem.ensures)

pub loop-item-preserved : goal.loop-item-preserved
loop-item-preserved c =
    let r = c.args.plan.now in
    let i = c.loop-item.invariant in
    let one = c.in_ok-number.ensures in
    record {
      start = start-more r.problem r.plan c.args.migration c.args.notes.now c.loop-item.item c.in_ok-number.number c.loop-item.start c.push.new.self i.start one.0 c.in_ok-push.ensures.ok;
      each = all-more r.problem r.plan c.args.migration c.args.notes.now c.loop-item.item i.each one.1;
    }

pub returns-in_err-number-clause-err : goal.returns-in_err-number-clause-err
returns-in_err-number-clause-err c =
    let r = c.args.plan.now in
    if_err c.from_residual.result c.in_err-number.field-0.0 (λ (end : FenceEnd). (end ≡ fence.Memory) ⊎ IsUntaken r.problem r.plan c.args.migration c.args.notes.now end) c.from_residual.ensures.1
    (inr (record { item = c.loop-item.item; inside = omega (arith, c.loop-item-test.true, c.item_count-item-end.ensures ∙ ap item_count c.problem.ensures); refused = c.in_err-number.ensures }))

pub returns-in_err-push-clause-err : goal.returns-in_err-push-clause-err
returns-in_err-push-clause-err c =
    let r = c.args.plan.now in
    if_err c.from_residual-in_err-push.result fence.Memory (λ (end : FenceEnd). (end ≡ fence.Memory) ⊎ IsUntaken r.problem r.plan c.args.migration c.args.notes.now end) c.from_residual-in_err-push.ensures.1 (inl refl)

pub returns-clause-ok : goal.returns-clause-ok
returns-clause-ok c =
    let r = c.args.plan.now in
    let items = c.item_count-item-end.ensures ∙ ap item_count c.problem.ensures in
    let end : c.loop-item.item ≡ item_count r.problem = omega (arith, c.loop-item-test.false, c.loop-item.auto.item-end, items) in
    all-taken r.problem r.plan c.args.migration c.args.notes.now c.loop-item.item c.loop-item.start end c.loop-item.invariant.start c.loop-item.invariant.each
