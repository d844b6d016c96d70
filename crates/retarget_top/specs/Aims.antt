-- Where a rollout is to go: to the target of its document, or to give up what crosses a link that was named.
use Rattle.std.specs.Prelude.{◌≡◌, ◌⊎◌, ⊤, ℕ, List, [], ◌∷◌, ◌++◌, codes, length, bytes_eq, Option, Some, None, Result, Ok, Err}
use Rattle.rollout_rules.specs.Wan.{Problem, Rollout, link_at, switch_at}
use Rattle.plan_check.specs.First.{first_below, provided}
use Rattle.retarget_plan.specs.Aiming.{MayAim}
use Rattle.retarget_plan.specs.Targets.{Targeted}
use Rattle.retarget_plan.specs.declared.aim.Aim.{Aim}
use Rattle.retarget_plan.specs.declared.aim.Aim.TheVariants.{Toward, Shed}
use Rattle.target_json.specs.Grammar.{target_in}
use Rattle.target_json.specs.declared.fault.TargetFault.{TargetFault}
use Rattle.text_commands.specs.Answers.{rollout_in}
use Rattle.text_commands.specs.Runs.{Gives}
use Rattle.text_commands.specs.declared.command_end.CommandEnd.{CommandEnd}
use Rattle.text_commands.specs.declared.command_end.CommandEnd.TheVariants.{OutOfMemory}
use Rattle.retarget_top.specs.Endings.{ending_of_target}
use Rattle.retarget_top.specs.declared.ending.RetargetEnding.{RetargetEnding}
use Rattle.retarget_top.specs.declared.ending.RetargetEnding.TheVariants.{Ended, NoLink}
use Rattle.retarget_top.specs.declared.ending.Wanted.{Wanted}

-- a link's name: those of its ends
abbrev pub end_name : Problem → ℕ → List ℕ
end_name p w = (switch_at p w).name

abbrev pub link_name : Problem → ℕ → List ℕ
link_name p l = end_name p (link_at p l).from ++ codes ">" ++ end_name p (link_at p l).to

-- the link with a name; of several the first
abbrev pub named_at : Problem → List ℕ → ℕ → Option ℕ
named_at p name l = provided (bytes_eq (link_name p l) name) l

abbrev pub link_named : Problem → List ℕ → Option ℕ
link_named p name = first_below (length p.links) (named_at p name)

-- the aim of a document with this problem, and of a link; where no link is named it is the document's target
abbrev pub toward : Result Targeted TargetFault → Result Aim RetargetEnding
toward (Ok target) = Ok (Toward target)
toward (Err fault) = Err (ending_of_target fault)

abbrev pub shedding : Option ℕ → Result Aim RetargetEnding
shedding (Some link) = Ok (Shed link)
shedding None = Err NoLink

abbrev pub aim_in : List ℕ → Problem → List ℕ → Result Aim RetargetEnding
aim_in [] p input = toward (target_in p input)
aim_in (c ∷ name) p input = shedding (link_named p (c ∷ name))

-- what is answered is this; lack of memory says nothing
abbrev pub GivesAim : Result Aim RetargetEnding → Result Aim RetargetEnding → Type 0
GivesAim (Ok aim) wanted = wanted ≡ Ok aim
GivesAim (Err (Ended OutOfMemory)) wanted = ⊤
GivesAim (Err e) wanted = wanted ≡ Err e

-- The input is a document with a valid plan, and this is its aim.
pub record IsWanted (shed input : List ℕ) (w : Wanted) : Type 0 where
  pub rollout : rollout_in input ≡ Ok w.plan
  pub aim : aim_in shed w.plan.problem input ≡ Ok w.aim
  pub may : MayAim w.aim

-- It is none, or has no such aim.
pub record HasNoRollout (input : List ℕ) (e : RetargetEnding) : Type 0 where
  pub ending : CommandEnd
  pub is : e ≡ Ended ending
  pub gives : Gives {A = Rollout} (Err ending) (rollout_in input)

pub record HasNoAim (shed input : List ℕ) (e : RetargetEnding) : Type 0 where
  pub o : Rollout
  pub rollout : rollout_in input ≡ Ok o
  pub gives : GivesAim (Err e) (aim_in shed o.problem input)

abbrev pub WantsBy : List ℕ → List ℕ → Result Wanted RetargetEnding → Type 0
WantsBy shed input (Ok w) = IsWanted shed input w
WantsBy shed input (Err e) = HasNoRollout input e ⊎ HasNoAim shed input e
