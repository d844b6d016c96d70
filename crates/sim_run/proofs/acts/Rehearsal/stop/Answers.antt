use Rattle.std.proofs.Common.{◌≡◌, true, ap, ◌∙◌}
use Rattle.rollout_rules.specs.declared.event.Act.TheVariants as act
use Rattle.sim_run.specs.Acts.{acted}
use Rattle.sim_run.specs.Rehearsing.{Rehearsing}
use Rattle.sim_run.proofs.Turns.{stops, loses}
use Rattle.sim_run.proofs.acts.Rehearsal.stop.Goals as goal

pub returns-clause-stop : goal.returns-clause-stop
returns-clause-stop g c policy =
    let r = c.self.inside in
    let up : r.controller.up ≡ true = ap (λ (s : Rehearsing). s.state.world.up) c.self.view_is ∙ c.requires in
    stops r.controller r.network c.stop.new.self policy up c.stop.ensures
    ∙ ap (λ (s : Rehearsing). record s { state = acted s.rollout.problem s.rollout.plan policy s.state act.Stop }) c.self.view_is

pub returns-clause-lost : goal.returns-clause-lost
returns-clause-lost g c policy =
    let r = c.self.inside in
    let up : r.controller.up ≡ true = ap (λ (s : Rehearsing). s.state.world.up) c.self.view_is ∙ c.requires in
    loses r.controller r.network c.stop.new.self policy up c.stop.ensures
    ∙ ap (λ (s : Rehearsing). record s { state = acted s.rollout.problem s.rollout.plan policy s.state act.CrashLost }) c.self.view_is
