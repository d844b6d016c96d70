-- The text of a trial: its numbers, its plan, what happened, and the link that came to be fullest.
use Rattle.std.specs.Prelude.{ℕ, zero, suc, ◌+◌, ◌*◌, List, ◌++◌, length, codes, decimal, Option, Some, None, ◌==◌, nat_lt, if◌then◌else◌}
use Rattle.rand_pcg.specs.Lcg.{Lcg}
use Rattle.rollout_rules.specs.History.{History}
use Rattle.rollout_rules.specs.Wan.{Plan, Problem, last_stage, link_at}
use Rattle.rollout_rules.specs.declared.op.OpView.{OpView}
use Rattle.rollout_rules.specs.Legal.{unsettled}
use Rattle.wan_text.specs.Names.{link_text}
use Rattle.rollout_report.specs.Ends.{last_line}
use Rattle.rollout_report.specs.Peaks.{link_peak}
use Rattle.sim_run.specs.declared.shape.Shape.{Shape}
use Rattle.sim_run.specs.Trials.{Trial, after_trial, all_operations, drained, raised, turns}

-- what a link has, in units of 1/scale
abbrev pub room_of : Problem → Plan → ℕ → ℕ
room_of p plan l = (link_at p l).capacity * plan.scale

-- the fuller of two links by the shares that their peaks are of what they have, the first where they are equal
abbrev pub fuller_of : (ℕ → ℕ) → (ℕ → ℕ) → ℕ → ℕ → ℕ
fuller_of room peak best l = if nat_lt (peak best * room l) (peak l * room best) then l else best

-- a link that has nothing is none
abbrev pub fuller : Problem → Plan → History → Option ℕ → ℕ → Option ℕ
fuller p plan h None l = if room_of p plan l == 0 then None else Some l
fuller p plan h (Some best) l = if room_of p plan l == 0 then Some best else Some (fuller_of (room_of p plan) (link_peak p plan h) best l)

-- the fullest of the first so many links
abbrev pub fullest : Problem → Plan → History → ℕ → Option ℕ
fullest p plan h zero = None
fullest p plan h (suc l) = fuller p plan h (fullest p plan h l) l

abbrev pub fullness_text : Problem → Plan → ℕ → ℕ → List ℕ
fullness_text p plan l peak = link_text p l ++ codes " " ++ decimal peak ++ codes " of " ++ decimal (room_of p plan l)

abbrev pub fullest_text : Problem → Plan → History → Option ℕ → List ℕ
fullest_text p plan h None = codes "none"
fullest_text p plan h (Some l) = fullness_text p plan l (link_peak p plan h l)

-- two numbers, each after a name
abbrev pub pair_text : List ℕ → ℕ → List ℕ → ℕ → List ℕ
pair_text first one second other = first ++ decimal one ++ second ++ decimal other

abbrev pub shape_line : Shape → List ℕ
shape_line s =
    pair_text (codes "trial: switches ") s.switches (codes ", links ") (2 * s.switches)
    ++ pair_text (codes ", flows ") s.flows (codes ", tunnels ") (2 * s.flows)
    ++ pair_text (codes ", k ") s.k (codes ", seed ") s.seed
    ++ codes "\n"

abbrev pub plan_line : Plan → ℕ → List ℕ
plan_line plan rate_steps =
    codes "plan: steps " ++ decimal (last_stage plan) ++ codes ", rate steps " ++ decimal rate_steps ++ codes ", scale " ++ decimal plan.scale ++ codes "\n"

abbrev pub events_line : ℕ → ℕ → ℕ → List ℕ
events_line events skipped drain = codes "events: " ++ decimal events ++ codes ", skipped " ++ decimal skipped ++ codes ", drain " ++ decimal drain ++ codes "\n"

abbrev pub counts_line : ℕ → ℕ → List ℕ
counts_line operations entries = codes "operations: " ++ decimal operations ++ codes ", entries " ++ decimal entries ++ codes "\n"

-- what stands after a rollout: its operations and entries, the fullest link, and whether it is finished
abbrev pub outcome_lines : Problem → Plan → History → List ℕ
outcome_lines p plan h =
    counts_line (all_operations p plan) (length h.entries)
    ++ codes "fullest link: " ++ fullest_text p plan h (fullest p plan h (length p.links)) ++ codes "\n"
    ++ last_line (unsettled p plan h)

-- after its events a trial is drained
abbrev pub drain_text : Problem → Plan → (OpView → ℕ) → ℕ → Trial → List ℕ
drain_text p plan policy events t =
    let r = raised p plan policy t.rehearsal in
    let most = all_operations p plan + 1 in
    events_line events t.skipped (turns p plan policy most r) ++ outcome_lines p plan (drained p plan policy most r).world.durable

-- the text of a trial of a problem with a plan, whose events are drawn from here on
unfoldable pub trial_text : Problem → Plan → ℕ → (OpView → ℕ) → Shape → Lcg → List ℕ
trial_text p plan rate_steps policy s draws =
    shape_line s ++ plan_line plan rate_steps ++ drain_text p plan policy s.events (after_trial p plan policy draws s.events)
