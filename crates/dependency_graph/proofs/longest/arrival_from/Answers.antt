use Rattle.std.proofs.Common.{◌≡◌, ◌+◌, nat_lt, max, if◌then◌else◌, ap, ap₂, sym, ◌∙◌, arith}
use Rattle.rollout_rules.specs.Wan.{rate_at}
use Rattle.dependency_graph.proofs.Chained.{arrival-step}
use Rattle.dependency_graph.proofs.longest.arrival_from.Goals as goal

pub returns : goal.returns
returns c =
    let p = c.args.plan.now.problem in
    let plan = c.args.plan.now.plan in
    let next : c.next_stage-next.result ≡ c.args.s + 1 = omega (arith, c.next_stage-next.ensures.value, c.requires.stage) in
    let here = c.only_if-here.ensures ∙ ap₂ (λ r x. if nat_lt 0 r then x else 0) (c.rate.ensures ∙ ap (λ n. rate_at plan n c.args.t) next) c.requires.step in
    let behind = c.only_if.ensures ∙ ap₂ (λ m x. if m then x else 0) c.mark.ensures c.requires.behind in
    c.max.ensures ∙ ap₂ max here behind ∙ sym (arrival-step p plan c.args.t c.args.s c.requires.stage)
