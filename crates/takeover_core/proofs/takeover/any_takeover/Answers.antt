use Rattle.std.proofs.Common.{sym, subst, ap, ◌∙◌}
use Rattle.takeover_rules.specs.Takeovers.{first_takeover, after_two_events}
use Rattle.takeover_laws.specs.SafeTakeovers.{IsSafeTakeover}
use Rattle.takeover_laws.proofs.Taking.{every-in_hand}
use Rattle.takeover_laws.proofs.Ends.{in_hand-safe, every_takeover_is_safe}
use Rattle.takeover_core.specs.Standings.{Taking}
use Rattle.takeover_core.proofs.takeover.any_takeover.Goals as goal

pub returns-in-Ok-clause-rollout : goal.returns-in-Ok-clause-rollout
returns-in-Ok-clause-rollout c = c.in-Ok.ensures.rollout ∙ ap (λ (s : Taking). s.rollout) c.in_ok-worlds.ensures

pub returns-in-Ok-clause-takeover : goal.returns-in-Ok-clause-takeover
returns-in-Ok-clause-takeover c =
    let r = c.args.plan.now in
    c.in-Ok.ensures.takeover
    ∙ ap (λ (s : Taking). after_two_events s.rollout.problem s.rollout.plan s.takeover c.as_slice.result.now) c.in_ok-worlds.ensures
    ∙ ap (after_two_events r.problem r.plan (first_takeover r.problem r.plan c.args.start.now c.args.migration c.args.first.now)) c.as_slice.ensures

pub returns-in-Ok-clause-safe : goal.returns-in-Ok-clause-safe
returns-in-Ok-clause-safe c =
    let r = c.args.plan.now in
    let begins = first_takeover r.problem r.plan c.args.start.now c.args.migration c.args.first.now in
    let events = c.as_slice.result.now in
    subst (IsSafeTakeover r.problem r.plan c.args.migration) (sym (c.in-Ok.ensures.takeover ∙ ap (λ (s : Taking). after_two_events s.rollout.problem s.rollout.plan s.takeover events) c.in_ok-worlds.ensures))
    (in_hand-safe r.problem r.plan c.args.migration c.checked_plan_is_valid.ensures.network c.checked_plan_is_valid.ensures.valid (after_two_events r.problem r.plan begins events)
    (every-in_hand r.problem r.plan c.checked_plan_is_valid.ensures.network c.args.migration c.args.start.now c.args.first.now events c.requires.sound c.requires.first))

pub returns-in-Ok-clause-every : goal.returns-in-Ok-clause-every
returns-in-Ok-clause-every c =
    let r = c.args.plan.now in
    every_takeover_is_safe r.problem r.plan c.args.migration c.args.start.now c.args.first.now c.args.events.now c.checked_plan_is_valid.ensures.network c.checked_plan_is_valid.ensures.valid c.requires.sound c.requires.first
