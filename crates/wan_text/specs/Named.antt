-- The names of a problem, each as its JSON text.
use Rattle.std.specs.Prelude.{◌≡◌, ℕ, List, map}
use Rattle.rollout_rules.specs.Wan.{Flow, Problem, Switch}
use Rattle.wan_text.specs.Names.{name_text}
use Rattle.wan_text.specs.declared.names.Names.{Names}

-- the name of a switch, and that of a flow
abbrev pub quoted_name : Switch → List ℕ
quoted_name s = name_text s.name

abbrev pub quoted_flow : Flow → List ℕ
quoted_flow f = name_text f.name

-- those of the switches and of the flows of a problem, in their order
pub record AreNamesOf (names : Names) (p : Problem) : Type 0 where
  pub switches : names.switches ≡ map quoted_name p.switches
  pub flows : names.flows ≡ map quoted_flow p.flows
