use Rattle.std.proofs.Common.{◌∙◌, ap, arith, length, refl}
use Rattle.std.specs.Prelude.{slice_get}
use Rattle.switch_agent.specs.Items.{Items}
use Rattle.switch_agent.proofs.agent.Agent.entry_at.Goals as goal

pub returns-in-Some-clause-entry : goal.returns-in-Some-clause-entry
returns-in-Some-clause-entry c = c.in-Some.ensures.entry ∙ ap (λ (items : Items). slice_get items c.args.place) c.self.view_is

pub returns-in-None-clause-entry : goal.returns-in-None-clause-entry
returns-in-None-clause-entry c = c.in-None.ensures.entry ∙ ap (λ (items : Items). slice_get items c.args.place) c.self.view_is

pub returns-in-Some-clause-within : goal.returns-in-Some-clause-within
returns-in-Some-clause-within c = omega (arith, c.in-Some.ensures.found.0 refl, ap (λ (items : Items). length items) c.self.view_is)
