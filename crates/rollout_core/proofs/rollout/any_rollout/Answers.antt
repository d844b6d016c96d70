use Rattle.std.proofs.Common.{◌≡◌, sym, subst, ap, ◌∙◌}
use Rattle.rollout_rules.specs.World.{first_world, after_events}
use Rattle.rollout_laws.specs.SafeWorlds.{IsSafeWorld}
use Rattle.rollout_laws.proofs.Worlds.{every_world_is_kept}
use Rattle.rollout_laws.proofs.SafeWorlds.{kept_is_safe_world, every_world_is_safe}
use Rattle.rollout_core.specs.Worlds.{Standing}
use Rattle.rollout_core.proofs.rollout.any_rollout.Goals as goal

pub returns-in-Ok-clause-rollout : goal.returns-in-Ok-clause-rollout
returns-in-Ok-clause-rollout c = c.in-Ok.ensures.rollout ∙ ap (λ (s : Standing). s.rollout) c.in_ok-world.ensures

pub returns-in-Ok-clause-world : goal.returns-in-Ok-clause-world
returns-in-Ok-clause-world c =
    let r = c.args.plan.now in
    c.in-Ok.ensures.world
    ∙ ap (λ (s : Standing). after_events s.rollout.problem s.rollout.plan s.world c.as_slice.result.now) c.in_ok-world.ensures
    ∙ ap (after_events r.problem r.plan (first_world r.problem r.plan c.args.start.now c.args.migration c.args.first.now)) c.as_slice.ensures

pub returns-in-Ok-clause-safe : goal.returns-in-Ok-clause-safe
returns-in-Ok-clause-safe c =
    let r = c.args.plan.now in
    let begins = first_world r.problem r.plan c.args.start.now c.args.migration c.args.first.now in
    let events = c.as_slice.result.now in
    subst (IsSafeWorld r.problem r.plan) (sym (c.in-Ok.ensures.world ∙ ap (λ (s : Standing). after_events s.rollout.problem s.rollout.plan s.world events) c.in_ok-world.ensures))
    (kept_is_safe_world r.problem r.plan c.checked_plan_is_valid.ensures.network c.checked_plan_is_valid.ensures.valid _
    (every_world_is_kept r.problem r.plan c.args.start.now c.args.migration c.args.first.now events c.requires.sound c.requires.first))

pub returns-in-Ok-clause-every : goal.returns-in-Ok-clause-every
returns-in-Ok-clause-every c =
    let r = c.args.plan.now in
    every_world_is_safe r.problem r.plan c.args.start.now c.args.migration c.args.first.now c.args.events.now c.checked_plan_is_valid.ensures.network c.checked_plan_is_valid.ensures.valid c.requires.sound c.requires.first
