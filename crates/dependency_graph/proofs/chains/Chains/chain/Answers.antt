use Rattle.std.proofs.Common.{◌≡◌, ◌<◌, true, nat_lt, length, sym, ap, subst, ◌∙◌, ltb-true}
use Rattle.std.proofs.lemmas.Bool.{and_parts}
use Rattle.rollout_rules.specs.Wan.{Rollout, hops, last_stage}
use Rattle.rollout_rules.specs.Items.{is_item}
use Rattle.rollout_rules.specs.Release.{chain}
use Rattle.rollout_rules.specs.declared.item.Item.TheVariants as item
use Rattle.dependency_graph.proofs.Chained.{chain-same}
use Rattle.dependency_graph.proofs.StageRows.{rows-long, row-wide, row-read}
use Rattle.dependency_graph.proofs.chains.Chains.chain.Goals as goal

pub read-requires-clause-stage : goal.read-requires-clause-stage
read-requires-clause-stage c =
    let r = c.self.inside.plan.value in
    let inside = subst (λ (q : Rollout). c.args.stage < last_stage q.plan) (sym c.self.view_is) c.requires.stage in
    rows-long (last_stage r.plan) (length r.problem.flows) (λ s f. chain r.problem r.plan (item.Flow f) s) c.self.inside.flows c.args.stage c.self.invariant.flows inside

pub read-requires-clause-number : goal.read-requires-clause-number
read-requires-clause-number c =
    let r = c.self.inside.plan.value in
    let inside = subst (λ (q : Rollout). c.args.stage < last_stage q.plan) (sym c.self.view_is) c.requires.stage in
    let here = subst (λ (q : Rollout). is_item q.problem c.args.item ≡ true) (sym c.self.view_is) c.requires.item in
    let flow = ltb-true c.in-Flow.flow (length r.problem.flows) (subst (λ i. is_item r.problem i ≡ true) c.in-Flow.is here) in
    row-wide (last_stage r.plan) (length r.problem.flows) (λ s f. chain r.problem r.plan (item.Flow f) s) c.self.inside.flows c.args.stage c.in-Flow.flow c.self.invariant.flows inside flow

pub read-requires-in-Entry-clause-stage : goal.read-requires-in-Entry-clause-stage
read-requires-in-Entry-clause-stage c =
    let r = c.self.inside.plan.value in
    let inside = subst (λ (q : Rollout). c.args.stage < last_stage q.plan) (sym c.self.view_is) c.requires.stage in
    rows-long (last_stage r.plan) (length r.problem.tunnels) (λ s t. chain r.problem r.plan (item.Entry t 0) s) c.self.inside.tunnels c.args.stage c.self.invariant.tunnels inside

pub read-requires-in-Entry-clause-number : goal.read-requires-in-Entry-clause-number
read-requires-in-Entry-clause-number c =
    let r = c.self.inside.plan.value in
    let inside = subst (λ (q : Rollout). c.args.stage < last_stage q.plan) (sym c.self.view_is) c.requires.stage in
    let here = subst (λ (q : Rollout). is_item q.problem c.args.item ≡ true) (sym c.self.view_is) c.requires.item in
    let tunnel = ltb-true c.in-Entry.tunnel (length r.problem.tunnels) (and_parts (nat_lt c.in-Entry.tunnel (length r.problem.tunnels)) (nat_lt c.in-Entry.hop (hops r.problem c.in-Entry.tunnel)) (subst (λ i. is_item r.problem i ≡ true) c.in-Entry.is here)).0 in
    row-wide (last_stage r.plan) (length r.problem.tunnels) (λ s t. chain r.problem r.plan (item.Entry t 0) s) c.self.inside.tunnels c.args.stage c.in-Entry.tunnel c.self.invariant.tunnels inside tunnel

pub returns-in-Flow : goal.returns-in-Flow
returns-in-Flow c =
    let r = c.self.inside.plan.value in
    let inside = subst (λ (q : Rollout). c.args.stage < last_stage q.plan) (sym c.self.view_is) c.requires.stage in
    let here = subst (λ (q : Rollout). is_item q.problem c.args.item ≡ true) (sym c.self.view_is) c.requires.item in
    let flow = ltb-true c.in-Flow.flow (length r.problem.flows) (subst (λ i. is_item r.problem i ≡ true) c.in-Flow.is here) in
    c.read.ensures ∙ row-read (last_stage r.plan) (length r.problem.flows) (λ s f. chain r.problem r.plan (item.Flow f) s) c.self.inside.flows c.args.stage c.in-Flow.flow c.self.invariant.flows inside flow
    ∙ ap (λ i. chain r.problem r.plan i c.args.stage) (sym c.in-Flow.is) ∙ ap (λ (q : Rollout). chain q.problem q.plan c.args.item c.args.stage) c.self.view_is

pub returns-in-Entry : goal.returns-in-Entry
returns-in-Entry c =
    let r = c.self.inside.plan.value in
    let inside = subst (λ (q : Rollout). c.args.stage < last_stage q.plan) (sym c.self.view_is) c.requires.stage in
    let here = subst (λ (q : Rollout). is_item q.problem c.args.item ≡ true) (sym c.self.view_is) c.requires.item in
    let tunnel = ltb-true c.in-Entry.tunnel (length r.problem.tunnels) (and_parts (nat_lt c.in-Entry.tunnel (length r.problem.tunnels)) (nat_lt c.in-Entry.hop (hops r.problem c.in-Entry.tunnel)) (subst (λ i. is_item r.problem i ≡ true) c.in-Entry.is here)).0 in
    c.read-in-Entry.ensures ∙ row-read (last_stage r.plan) (length r.problem.tunnels) (λ s t. chain r.problem r.plan (item.Entry t 0) s) c.self.inside.tunnels c.args.stage c.in-Entry.tunnel c.self.invariant.tunnels inside tunnel ∙ sym (chain-same r.problem r.plan c.in-Entry.tunnel c.in-Entry.hop c.args.stage)
    ∙ ap (λ i. chain r.problem r.plan i c.args.stage) (sym c.in-Entry.is) ∙ ap (λ (q : Rollout). chain q.problem q.plan c.args.item c.args.stage) c.self.view_is
