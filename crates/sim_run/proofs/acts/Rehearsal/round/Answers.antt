use Rattle.std.proofs.Common.{◌≡◌, true, sym, ap, ◌∙◌}
use Rattle.rollout_rules.specs.declared.event.Act.TheVariants as act
use Rattle.order_policy.specs.Answers.{rank_by}
use Rattle.rollout_book.specs.JournaledRounds.{turn_of}
use Rattle.sim_run.specs.Acts.{round_batch, acted}
use Rattle.sim_run.specs.Rehearsing.{Rehearsing, rehearsing_of}
use Rattle.sim_run.proofs.Turns.{batch-is, turns}
use Rattle.sim_run.proofs.Worldly.{keeps-acted, told}
use Rattle.sim_run.proofs.acts.Rehearsal.round.Goals as goal

pub returns-clause-state : goal.returns-clause-state
returns-clause-state g c =
    let r = c.self.inside in
    let policy = rank_by c.args.policy.now.answers in
    let up : r.controller.up ≡ true = ap (λ (s : Rehearsing). s.state.world.up) c.self.view_is ∙ c.requires.up in
    turns r.controller r.network c.round.new.self policy up c.in_ok-turn.ensures.state
    ∙ ap (λ (s : Rehearsing). record s { state = acted s.rollout.problem s.rollout.plan policy s.state act.Round }) c.self.view_is

pub returns-clause-turn : goal.returns-clause-turn
returns-clause-turn g c =
    let r = c.self.inside in
    let policy = rank_by c.args.policy.now.answers in
    c.in_ok-turn.ensures.turn
    ∙ ap turn_of (sym (batch-is r.controller r.network policy))
    ∙ ap (λ (s : Rehearsing). turn_of (round_batch s.rollout.problem s.rollout.plan policy s.state)) c.self.view_is

pub round-requires-clause-told : goal.round-requires-clause-told
round-requires-clause-told g c =
    let r = c.self.inside in
    told r.controller r.network (c.self.invariant (ap (λ (s : Rehearsing). s.live) c.self.view_is ∙ c.requires.live))

pub invariant_of-self-2 : goal.invariant_of-self-2
invariant_of-self-2 g c live =
    let r = c.self.inside in
    let policy = rank_by c.args.policy.now.answers in
    let up : r.controller.up ≡ true = ap (λ (s : Rehearsing). s.state.world.up) c.self.view_is ∙ c.requires.up in
    keeps-acted policy act.Round (rehearsing_of r.controller r.network) (rehearsing_of c.round.new.self r.network)
    (turns r.controller r.network c.round.new.self policy up c.in_ok-turn.ensures.state)
    (c.self.invariant (ap (λ (s : Rehearsing). s.live) c.self.view_is ∙ c.requires.live))
