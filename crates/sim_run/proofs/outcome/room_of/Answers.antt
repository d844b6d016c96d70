use Rattle.std.proofs.Common.{◌≡◌, ◌*◌, ◌<◌, ◌^◌, ap, ap₂, sym, ◌∙◌, subst, lt-ltb}
use Rattle.rollout_rules.specs.Items.{the_link}
use Rattle.rollout_rules.specs.Wan.{link_at}
use Rattle.dependency_graph.proofs.RoomCells.{capacity-few}
use Rattle.sim_run.proofs.outcome.room_of.Goals as goal

pub returns-clause-most : goal.returns-clause-most
returns-clause-most c =
    let p = c.args.plan.now.problem in
    let plan = c.args.plan.now.plan in
    let capacity : c.from.result ≡ (link_at p c.args.link).capacity = c.from.ensures ∙ c.capacity.ensures ∙ ap (λ q. (link_at q c.args.link).capacity) c.problem.ensures in
    let scale : c.from-2.result ≡ plan.scale = c.from-2.ensures ∙ ap (λ l. l.scale) (c.behind-plan.view_is ∙ c.plan.ensures.part) in
    subst (λ m. m < 2 ^ 60) (sym (ap₂ (λ x y. x * y) capacity scale))
    (capacity-few p plan c.checked_plan_is_valid.ensures.network c.checked_plan_is_valid.ensures.valid (the_link c.args.link) (lt-ltb c.args.link _ c.requires))
