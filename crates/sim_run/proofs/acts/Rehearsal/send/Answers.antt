use Rattle.std.proofs.Common.{◌≡◌, ◌<◌, true, [], ◌∷◌, length, get_or, sym, ap, ◌∙◌, subst}
use Rattle.rollout_rules.specs.Items.{item_count}
use Rattle.rollout_rules.specs.World.{in_flight, no_op}
use Rattle.rollout_rules.specs.declared.event.Event.TheVariants as event
use Rattle.sim_run.specs.Rehearsing.{Rehearsing, rehearsing_of}
use Rattle.sim_run.proofs.Moving.{sends}
use Rattle.sim_run.proofs.Worldly.{items, keeps-moved}
use Rattle.sim_run.proofs.acts.Rehearsal.send.Goals as goal

pub send-requires : goal.send-requires
send-requires g c =
    let r = c.self.inside in
    let live : r.controller.live ≡ true = ap (λ (s : Rehearsing). s.live) c.self.view_is ∙ c.requires.live in
    let there = subst (λ (s : Rehearsing). c.flying-op.result.item < item_count s.rollout.problem) (sym c.self.view_is) c.flying-op.ensures.item in
    subst (λ n. c.flying-op.result.item < n) (sym (items r.controller r.network (c.self.invariant live))) there

pub invariant_of-self-2 : goal.invariant_of-self-2
invariant_of-self-2 g c live =
    let r = c.self.inside in
    let up : r.controller.up ≡ true = ap (λ (s : Rehearsing). s.state.world.up) c.self.view_is ∙ c.requires.up in
    let lt = subst (λ (s : Rehearsing). c.args.place < length (in_flight s.rollout.problem s.state.world.durable)) (sym c.self.view_is) c.requires.flying in
    let is = c.flying-op.ensures.op ∙ ap (λ (s : Rehearsing). get_or (in_flight s.rollout.problem s.state.world.durable) c.args.place no_op) (sym c.self.view_is) in
    keeps-moved (rehearsing_of r.controller r.network) (rehearsing_of r.controller c.send.new.self) (event.Send c.args.place ∷ [])
    (sends r.controller r.network c.send.new.self c.args.place c.flying-op.result up lt is c.in_ok-send.ensures.ok) (c.self.invariant live)
