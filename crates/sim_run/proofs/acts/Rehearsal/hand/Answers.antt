use Rattle.std.proofs.Common.{◌≡◌, ◌<◌, true, [], ◌∷◌, length, sym, ap, ◌∙◌, subst}
use Rattle.std.proofs.lemmas.List.{length-map}
use Rattle.rollout_rules.specs.declared.event.Event.TheVariants as event
use Rattle.sim_run.specs.Passing.{given_of}
use Rattle.sim_run.specs.Controlling.{Controlling}
use Rattle.sim_run.specs.Rehearsing.{Rehearsing, moved, rehearsing_of}
use Rattle.sim_run.proofs.Moving.{hands}
use Rattle.sim_run.proofs.Worldly.{keeps-moved}
use Rattle.sim_run.proofs.acts.Rehearsal.hand.Goals as goal

pub returns-clause-state : goal.returns-clause-state
returns-clause-state g c =
    let r = c.self.inside in
    let up : r.controller.up ≡ true = ap (λ (s : Rehearsing). s.state.world.up) c.self.view_is ∙ c.requires.up in
    let there = subst (λ (s : Rehearsing). c.args.place < length s.state.world.given) (sym c.self.view_is) c.requires.given in
    let lt = subst (λ n. c.args.place < n) (length-map r.network.given given_of) there in
    hands r.controller r.network c.hear.new.self c.args.place c.answer-answer.result up lt c.answer-answer.ensures.answer c.in_ok-hear.ensures.ok
    ∙ ap (λ s. moved s (event.Hand c.args.place ∷ [])) c.self.view_is

pub invariant_of-self-2 : goal.invariant_of-self-2
invariant_of-self-2 g c live =
    let r = c.self.inside in
    let up : r.controller.up ≡ true = ap (λ (s : Rehearsing). s.state.world.up) c.self.view_is ∙ c.requires.up in
    let there = subst (λ (s : Rehearsing). c.args.place < length s.state.world.given) (sym c.self.view_is) c.requires.given in
    let lt = subst (λ n. c.args.place < n) (length-map r.network.given given_of) there in
    let lived = sym (ap (λ (s : Controlling). s.live) c.in_ok-hear.ensures.ok) ∙ live in
    keeps-moved (rehearsing_of r.controller r.network) (rehearsing_of c.hear.new.self r.network) (event.Hand c.args.place ∷ [])
    (hands r.controller r.network c.hear.new.self c.args.place c.answer-answer.result up lt c.answer-answer.ensures.answer c.in_ok-hear.ensures.ok) (c.self.invariant lived)
