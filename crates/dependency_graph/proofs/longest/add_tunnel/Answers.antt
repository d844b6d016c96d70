use Rattle.std.proofs.Common.{◌+◌, max, length, if◌then◌else◌, ap, ap₂, sym, ◌∙◌}
use Rattle.rollout_rules.specs.Operations.{changes_behind}
use Rattle.rollout_rules.specs.Release.{chain}
use Rattle.rollout_rules.specs.declared.item.Item.TheVariants as item
use Rattle.dependency_graph.specs.Chains.{longest_own, longest_departure, longest_arrival}
use Rattle.dependency_graph.proofs.Chained.{own-step}
use Rattle.dependency_graph.proofs.StageRows.{inside-below, read-below, push-below}
use Rattle.dependency_graph.proofs.longest.add_tunnel.Goals as goal

pub at-own-requires : goal.at-own-requires
at-own-requires c =
    let p = c.args.plan.now.problem in
    let plan = c.args.plan.now.plan in
    inside-below (length p.tunnels) (λ k. longest_own p plan (item.Entry k 0) (c.args.s + 1)) c.args.ahead.now.own c.args.t c.requires.ahead.own c.requires.tunnel

pub at-arrived-requires : goal.at-arrived-requires
at-arrived-requires c =
    let p = c.args.plan.now.problem in
    let plan = c.args.plan.now.plan in
    inside-below (length p.tunnels) (λ k. longest_arrival p plan k (c.args.s + 1)) c.args.ahead.now.arrivals c.args.t c.requires.ahead.arrivals c.requires.tunnel

pub entry_chain-chain-requires-clause-own : goal.entry_chain-chain-requires-clause-own
entry_chain-chain-requires-clause-own c =
    let p = c.args.plan.now.problem in
    let plan = c.args.plan.now.plan in
    c.at-own.ensures ∙ read-below (length p.tunnels) (λ k. longest_own p plan (item.Entry k 0) (c.args.s + 1)) c.args.ahead.now.own c.args.t 0 c.requires.ahead.own c.requires.tunnel

pub entry_chain-chain-requires-clause-arrived : goal.entry_chain-chain-requires-clause-arrived
entry_chain-chain-requires-clause-arrived c =
    let p = c.args.plan.now.problem in
    let plan = c.args.plan.now.plan in
    c.at-arrived.ensures ∙ read-below (length p.tunnels) (λ k. longest_arrival p plan k (c.args.s + 1)) c.args.ahead.now.arrivals c.args.t 0 c.requires.ahead.arrivals c.requires.tunnel

pub at-entered-requires : goal.at-entered-requires
at-entered-requires c =
    let p = c.args.plan.now.problem in
    let plan = c.args.plan.now.plan in
    inside-below (length p.flows) (λ k. if changes_behind p plan (item.Flow k) c.args.s then chain p plan (item.Flow k) c.args.s else 0) c.args.steps.now c.flow_of.result c.requires.steps c.flow_of.ensures.inside

pub at-departed-requires : goal.at-departed-requires
at-departed-requires c =
    let p = c.args.plan.now.problem in
    let plan = c.args.plan.now.plan in
    inside-below (length p.tunnels) (λ k. longest_departure p plan k (c.args.s + 1)) c.args.ahead.now.departures c.args.t c.requires.ahead.departures c.requires.tunnel

pub departure_from-departure-requires-clause-step : goal.departure_from-departure-requires-clause-step
departure_from-departure-requires-clause-step c =
    let p = c.args.plan.now.problem in
    let plan = c.args.plan.now.plan in
    c.entry_step-step.ensures ∙ ap (λ x. if changes_behind p plan (item.Entry c.args.t 0) c.args.s then x else 0) c.entry_chain-chain.ensures

pub departure_from-departure-requires-clause-behind : goal.departure_from-departure-requires-clause-behind
departure_from-departure-requires-clause-behind c =
    let p = c.args.plan.now.problem in
    let plan = c.args.plan.now.plan in
    c.at-departed.ensures ∙ read-below (length p.tunnels) (λ k. longest_departure p plan k (c.args.s + 1)) c.args.ahead.now.departures c.args.t 0 c.requires.ahead.departures c.requires.tunnel

pub arrival_from-arrival-requires-clause-step : goal.arrival_from-arrival-requires-clause-step
arrival_from-arrival-requires-clause-step c =
    let p = c.args.plan.now.problem in
    let plan = c.args.plan.now.plan in
    c.at-entered.ensures ∙ read-below (length p.flows) (λ k. if changes_behind p plan (item.Flow k) c.args.s then chain p plan (item.Flow k) c.args.s else 0) c.args.steps.now c.flow_of.result 0 c.requires.steps c.flow_of.ensures.inside ∙ ap (λ k. if changes_behind p plan (item.Flow k) c.args.s then chain p plan (item.Flow k) c.args.s else 0) c.flow_of.ensures.value

pub arrival_from-arrival-requires-clause-behind : goal.arrival_from-arrival-requires-clause-behind
arrival_from-arrival-requires-clause-behind c =
    let p = c.args.plan.now.problem in
    let plan = c.args.plan.now.plan in
    c.at-arrived.ensures ∙ read-below (length p.tunnels) (λ k. longest_arrival p plan k (c.args.s + 1)) c.args.ahead.now.arrivals c.args.t 0 c.requires.ahead.arrivals c.requires.tunnel

pub returns : goal.returns
returns c =
    let p = c.args.plan.now.problem in
    let plan = c.args.plan.now.plan in
    let own = c.at-own.ensures ∙ read-below (length p.tunnels) (λ k. longest_own p plan (item.Entry k 0) (c.args.s + 1)) c.args.ahead.now.own c.args.t 0 c.requires.ahead.own c.requires.tunnel in
    let step = c.entry_step-step.ensures ∙ ap (λ x. if changes_behind p plan (item.Entry c.args.t 0) c.args.s then x else 0) c.entry_chain-chain.ensures in
    let longest = c.max.ensures ∙ ap₂ max step own ∙ sym (own-step p plan (item.Entry c.args.t 0) c.args.s c.requires.stage) in
    record {
      chains = push-below c.args.t (λ k. chain p plan (item.Entry k 0) c.args.s) _ _ _ c.requires.rows.chains c.in_ok-push.ensures.ok c.entry_chain-chain.ensures;
      own = push-below c.args.t (λ k. longest_own p plan (item.Entry k 0) c.args.s) _ _ _ c.requires.rows.own c.in_ok-push-2.ensures.ok longest;
      departures = push-below c.args.t (λ k. longest_departure p plan k c.args.s) _ _ _ c.requires.rows.departures c.in_ok-push-3.ensures.ok c.departure_from-departure.ensures;
      arrivals = push-below c.args.t (λ k. longest_arrival p plan k c.args.s) _ _ _ c.requires.rows.arrivals c.in_ok-push-4.ensures.ok c.arrival_from-arrival.ensures;
    }
