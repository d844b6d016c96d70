use Rattle.std.proofs.Common.{◌≡◌, true, ap, ◌∙◌}
use Rattle.rollout_rules.specs.declared.event.Act.TheVariants as act
use Rattle.order_policy.specs.Answers.{rank_by}
use Rattle.sim_run.specs.Acts.{acted}
use Rattle.sim_run.specs.Rehearsing.{Rehearsing, rehearsing_of}
use Rattle.sim_run.proofs.Turns.{keeps}
use Rattle.sim_run.proofs.Worldly.{keeps-acted, told}
use Rattle.sim_run.proofs.acts.Rehearsal.crash_kept.Goals as goal

pub returns : goal.returns
returns g c =
    let r = c.self.inside in
    let policy = rank_by c.args.policy.now.answers in
    let up : r.controller.up ≡ true = ap (λ (s : Rehearsing). s.state.world.up) c.self.view_is ∙ c.requires.up in
    keeps r.controller r.network c.round.new.self c.stop.new.self policy up c.in_ok-round.ensures.state c.stop.ensures
    ∙ ap (λ (s : Rehearsing). record s { state = acted s.rollout.problem s.rollout.plan policy s.state act.CrashKept }) c.self.view_is

pub round-requires-clause-told : goal.round-requires-clause-told
round-requires-clause-told g c =
    let r = c.self.inside in
    told r.controller r.network (c.self.invariant (ap (λ (s : Rehearsing). s.live) c.self.view_is ∙ c.requires.live))

pub invariant_of-self-2 : goal.invariant_of-self-2
invariant_of-self-2 g c live =
    let r = c.self.inside in
    let policy = rank_by c.args.policy.now.answers in
    let up : r.controller.up ≡ true = ap (λ (s : Rehearsing). s.state.world.up) c.self.view_is ∙ c.requires.up in
    keeps-acted policy act.CrashKept (rehearsing_of r.controller r.network) (rehearsing_of c.stop.new.self r.network)
    (keeps r.controller r.network c.round.new.self c.stop.new.self policy up c.in_ok-round.ensures.state c.stop.ensures)
    (c.self.invariant (ap (λ (s : Rehearsing). s.live) c.self.view_is ∙ c.requires.live))
