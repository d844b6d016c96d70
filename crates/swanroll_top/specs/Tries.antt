-- What the command `trial` writes: it reads nothing, and its text is one of its numbers and of its policy.
use Rattle.std.specs.Prelude.{◌≡◌, ℕ, ◌+◌, ◌<◌, ◌≤◌, ◌^◌, ⊤, List, Option, Result, Ok, Err}
use Rattle.rand_pcg.specs.Lcg.{Lcg}
use Rattle.rollout_rules.specs.Wan.{Problem}
use Rattle.rollout_rules.specs.declared.limits.TheConstants.{MOST_FLOWS, MOST_SWITCHES}
use Rattle.rollout_rules.specs.declared.op.OpView.{OpView}
use Rattle.plan_choose.specs.Choice.{Choice}
use Rattle.fewest_plan.specs.declared.cause.Cause.{Cause}
use Rattle.wan_edge.specs.Streams.{SourceTrace}
use Rattle.case_gen.specs.Cases.{after_case, case}
use Rattle.case_gen.specs.Draws.{seeded}
use Rattle.controller_run.specs.declared.running.Limits.{Limits}
use Rattle.sim_run.specs.TrialText.{trial_text}
use Rattle.sim_run.specs.declared.shape.Shape.{Shape}
use Rattle.text_commands.specs.Answers.{chosen_by}
use Rattle.text_commands.specs.CommandEnds.{ending_without}
use Rattle.text_commands.specs.Runs.{EndsWith, Follows}
use Rattle.swanroll_top.specs.Words.{Asked, a_rollback, a_trial}
use Rattle.text_commands.specs.declared.command_end.CommandEnd.{CommandEnd}
use Rattle.text_commands.specs.declared.words.Planner.TheVariants.{Slack}

-- the numbers of which a case can be made
pub record IsShape (s : Shape) : Type 0 where
  pub least_k : 2 ≤ s.k
  pub most_k : s.k ≤ 64
  pub least_switches : 3 ≤ s.switches
  pub most_switches : s.switches ≤ MOST_SWITCHES
  pub most_flows : s.flows ≤ MOST_FLOWS

-- the migration of these limits has a next one
abbrev pub HasNext : Limits → Type 0
HasNext limits = limits.migration + 1 < 2 ^ 32

-- a trial is asked for with such numbers, and a rollback within such limits
abbrev pub IsAskedShape : Asked → Type 0
IsAskedShape (a_trial shape policy) = IsShape shape
IsAskedShape (a_rollback limits origin) = HasNext limits
IsAskedShape other = ⊤

-- the case of these numbers, and what is left to draw after it
abbrev pub case_of : Shape → Problem
case_of s = case s.k s.switches s.flows (seeded s.seed)

abbrev pub events_of : Shape → Lcg
events_of s = after_case s.flows (seeded s.seed)

-- the text of the trial with the plan chosen for its case
abbrev pub with_plan : (OpView → ℕ) → Shape → Result Choice Cause → Result (List ℕ) CommandEnd
with_plan policy s (Ok choice) = Ok (trial_text (case_of s) choice.plan choice.rate_steps policy s (events_of s))
with_plan policy s (Err cause) = Err (ending_without (case_of s) cause)

unfoldable pub tried : (OpView → ℕ) → Shape → Result (List ℕ) CommandEnd
tried policy s = with_plan policy s (chosen_by Slack (case_of s))

-- nothing was read, and the run ends as that says; where memory ran out nothing was written
pub record RunsTrial (policy : OpView → ℕ) (s : Shape) (source source_now : SourceTrace) (ending : CommandEnd) (out out_now : Option (List ℕ)) : Type 0 where
  pub unread : source_now ≡ source
  pub shape : IsShape s
  pub follows : Follows (tried policy s) ending out out_now

-- the same where memory sufficed
pub record FollowsTrial (policy : OpView → ℕ) (s : Shape) (source source_now : SourceTrace) (ending : CommandEnd) (out out_now : Option (List ℕ)) : Type 0 where
  pub unread : source_now ≡ source
  pub shape : IsShape s
  pub answer : EndsWith (tried policy s) ending out out_now
