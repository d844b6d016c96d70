use Rattle.std.proofs.Common.{◌<◌, [], ◌∷◌, length, get_or, refl, sym, ap, ◌∙◌, subst}
use Rattle.rollout_rules.specs.World.{no_op}
use Rattle.rollout_rules.specs.declared.event.Event.TheVariants as event
use Rattle.sim_run.specs.Rehearsing.{Rehearsing, moved, rehearsing_of}
use Rattle.sim_run.proofs.Moving.{delivers}
use Rattle.sim_run.proofs.Worldly.{keeps-moved}
use Rattle.sim_run.proofs.acts.Rehearsal.deliver.Goals as goal

pub returns-clause-state : goal.returns-clause-state
returns-clause-state g c =
    let r = c.self.inside in
    let lt = subst (λ (s : Rehearsing). c.args.place < length s.state.world.sent) (sym c.self.view_is) c.requires in
    let inside = subst (λ n. n < length r.network.applied) (ap (λ o. o.item) c.in_ok-answer.ensures.answer) c.in_ok-answer.ensures.item in
    delivers r.controller r.network c.deliver.new.self c.args.place (get_or r.network.sent c.args.place no_op) lt refl inside c.in_ok-answer.ensures.ok
    ∙ ap (λ s. moved s (event.Deliver c.args.place ∷ [])) c.self.view_is

pub invariant_of-self-2 : goal.invariant_of-self-2
invariant_of-self-2 g c live =
    let r = c.self.inside in
    let lt = subst (λ (s : Rehearsing). c.args.place < length s.state.world.sent) (sym c.self.view_is) c.requires in
    let inside = subst (λ n. n < length r.network.applied) (ap (λ o. o.item) c.in_ok-answer.ensures.answer) c.in_ok-answer.ensures.item in
    keeps-moved (rehearsing_of r.controller r.network) (rehearsing_of r.controller c.deliver.new.self) (event.Deliver c.args.place ∷ [])
    (delivers r.controller r.network c.deliver.new.self c.args.place (get_or r.network.sent c.args.place no_op) lt refl inside c.in_ok-answer.ensures.ok) (c.self.invariant live)
