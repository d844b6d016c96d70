use Rattle.std.proofs.Common.{◌≡◌, false, [], ◌∷◌, length, ap, ◌∙◌}
use Rattle.rollout_rules.specs.declared.event.Event.TheVariants as event
use Rattle.sim_run.specs.Rehearsing.{Rehearsing, moved, rehearsing_of}
use Rattle.sim_run.proofs.Turns.{starts}
use Rattle.sim_run.proofs.Worldly.{keeps-moved}
use Rattle.sim_run.proofs.acts.Rehearsal.start.Goals as goal

pub returns-clause-state : goal.returns-clause-state
returns-clause-state g c =
    let r = c.self.inside in
    let down : r.controller.up ≡ false = ap (λ (s : Rehearsing). s.state.world.up) c.self.view_is ∙ c.requires.down in
    starts r.controller r.network c.start.new.self down c.in_ok-entries.ensures.state
    ∙ ap (λ (s : Rehearsing). moved s (event.Restart ∷ [])) c.self.view_is

pub returns-clause-entries : goal.returns-clause-entries
returns-clause-entries g c =
    c.in_ok-entries.ensures.found ∙ ap (λ (s : Rehearsing). length s.state.world.durable.entries) c.self.view_is

pub invariant_of-self-2 : goal.invariant_of-self-2
invariant_of-self-2 g c live =
    let r = c.self.inside in
    let down : r.controller.up ≡ false = ap (λ (s : Rehearsing). s.state.world.up) c.self.view_is ∙ c.requires.down in
    keeps-moved (rehearsing_of r.controller r.network) (rehearsing_of c.start.new.self r.network) (event.Restart ∷ [])
    (starts r.controller r.network c.start.new.self down c.in_ok-entries.ensures.state)
    (c.self.invariant (ap (λ (s : Rehearsing). s.live) c.self.view_is ∙ c.requires.live))
