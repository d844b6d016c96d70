use Rattle.std.proofs.Common.{◌+◌, max, length, if◌then◌else◌, ap₂, sym, ◌∙◌, arith}
use Rattle.rollout_rules.specs.Operations.{changes_behind}
use Rattle.rollout_rules.specs.Release.{chain}
use Rattle.rollout_rules.specs.declared.item.Item.TheVariants as item
use Rattle.dependency_graph.specs.Chains.{longest_own}
use Rattle.dependency_graph.proofs.Chained.{own-step}
use Rattle.dependency_graph.proofs.StageRows.{inside-below, read-below, push-below}
use Rattle.dependency_graph.proofs.longest.add_flow.Goals as goal

pub at-own-requires : goal.at-own-requires
at-own-requires c = inside-below (length c.args.plan.now.problem.flows) (λ f. longest_own c.args.plan.now.problem c.args.plan.now.plan (item.Flow f) (c.args.s + 1)) c.args.ahead.now.flows c.args.f c.requires.ahead.flows c.requires.flow

pub flow_chain-chain-requires-clause-own : goal.flow_chain-chain-requires-clause-own
flow_chain-chain-requires-clause-own c =
    c.at-own.ensures ∙ read-below (length c.args.plan.now.problem.flows) (λ f. longest_own c.args.plan.now.problem c.args.plan.now.plan (item.Flow f) (c.args.s + 1)) c.args.ahead.now.flows c.args.f 0 c.requires.ahead.flows c.requires.flow

pub overflow_cast-f : goal.overflow_cast-f
overflow_cast-f c = omega (arith, c.requires.flow, c.checked_plan_is_valid.ensures.network.flows.count)

pub returns : goal.returns
returns c =
    let p = c.args.plan.now.problem in
    let plan = c.args.plan.now.plan in
    let s = c.args.s in
    let f = c.args.f in
    let own = c.at-own.ensures ∙ read-below (length p.flows) (λ k. longest_own p plan (item.Flow k) (s + 1)) c.args.ahead.now.flows f 0 c.requires.ahead.flows c.requires.flow in
    let step = c.only_if-step.ensures ∙ ap₂ (λ b x. if b then x else 0) c.changes_behind.ensures c.flow_chain-chain.ensures in
    let longest = c.max.ensures ∙ ap₂ max step own ∙ sym (own-step p plan (item.Flow f) s c.requires.stage) in
    record {
      chains = push-below f (λ k. chain p plan (item.Flow k) s) _ _ _ c.requires.rows.chains c.in_ok-push.ensures.ok c.flow_chain-chain.ensures;
      own = push-below f (λ k. longest_own p plan (item.Flow k) s) _ _ _ c.requires.rows.own c.in_ok-push-2.ensures.ok longest;
      steps = push-below f (λ k. if changes_behind p plan (item.Flow k) s then chain p plan (item.Flow k) s else 0) _ _ _ c.requires.rows.steps c.in_ok-push-3.ensures.ok step;
    }
