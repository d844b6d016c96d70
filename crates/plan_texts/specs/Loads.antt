-- The text of a plan's loads: how much of each link and each table is taken at each stage, and at most in each step.
use Rattle.std.specs.Prelude.{ℕ, zero, suc, ◌+◌, ◌*◌, ◌≤◌, List, [], ◌++◌, length, codes, decimal, Option, Some, None, ◌==◌, nat_lt, if◌then◌else◌}
use Rattle.rollout_rules.specs.Wan.{Problem, Plan, rate_at, mark_at, last_stage, next_stage}
use Rattle.rollout_rules.specs.Items.{Resource, the_link, the_table, load, entries_at, capacity_of}
use Rattle.rollout_rules.specs.Valid.{step_total}
use Rattle.wan_text.specs.Names.{link_text, switch_text}

-- what is taken of a resource at a stage: the load of a link, or the widths of the entries in a table
abbrev pub stage_total : Problem → Plan → ℕ → Resource → ℕ
stage_total p plan s (the_link l) = load p (rate_at plan s) l
stage_total p plan s (the_table w) = entries_at p (λ t h. mark_at plan s t) w

-- in a step no less is told than is taken at both of its ends, and no more than there is
pub record IsBetween (p : Problem) (plan : Plan) (s : ℕ) (r : Resource) : Type 0 where
  pub begins : stage_total p plan s r ≤ step_total p plan s r
  pub ends : stage_total p plan (next_stage plan s) r ≤ step_total p plan s r
  pub fits : step_total p plan s r ≤ capacity_of p plan r

-- a link is named by its ends, a table by its switch
abbrev pub resource_text : Problem → Resource → List ℕ
resource_text p (the_link l) = link_text p l
resource_text p (the_table w) = codes "table " ++ switch_text p w

-- how much there is; what is taken at the first stage of a step and, in parentheses, at most while it lasts; and what at the last stage
abbrev pub capacity_text : ℕ → List ℕ
capacity_text capacity = codes " of " ++ decimal capacity ++ codes ":"

abbrev pub step_text : ℕ → ℕ → List ℕ
step_text taken most = codes " " ++ decimal taken ++ codes " (" ++ decimal most ++ codes ")"

abbrev pub last_text : ℕ → List ℕ
last_text taken = codes " " ++ decimal taken ++ codes "\n"

-- these of the first so many steps, and of all
abbrev pub step_texts : (ℕ → ℕ) → (ℕ → ℕ) → ℕ → List ℕ
step_texts taken most zero = []
step_texts taken most (suc s) = step_texts taken most s ++ step_text (taken s) (most s)

abbrev pub totals_text : ℕ → ℕ → (ℕ → ℕ) → (ℕ → ℕ) → List ℕ
totals_text capacity steps taken most = capacity_text capacity ++ step_texts taken most steps ++ last_text (taken steps)

-- the line of a resource: its loads at the stages, and between them the sums of the step maxima
abbrev pub load_line : Problem → Plan → Resource → List ℕ
load_line p plan r =
    codes "load " ++ resource_text p r ++ totals_text (capacity_of p plan r) (last_stage plan) (λ s. stage_total p plan s r) (λ s. step_total p plan s r)

-- those of the first so many
abbrev pub load_lines : Problem → Plan → (ℕ → Resource) → ℕ → List ℕ
load_lines p plan resource zero = []
load_lines p plan resource (suc k) = load_lines p plan resource k ++ load_line p plan (resource k)

-- the first of the numbers below n at which a function is greatest
abbrev pub later_if_greater : (ℕ → ℕ) → ℕ → ℕ → ℕ
later_if_greater f best n = if nat_lt (f best) (f n) then n else best

abbrev pub greatest_at : (ℕ → ℕ) → ℕ → ℕ
greatest_at f zero = 0
greatest_at f (suc n) = later_if_greater f (greatest_at f n) n

-- what all may take of a link in a step, the first step in which that is greatest, and how much it is there
abbrev pub link_total : Problem → Plan → ℕ → ℕ → ℕ
link_total p plan l s = step_total p plan s (the_link l)

abbrev pub fullest_step : Problem → Plan → ℕ → ℕ
fullest_step p plan l = greatest_at (link_total p plan l) (last_stage plan)

abbrev pub greatest_total : Problem → Plan → ℕ → ℕ
greatest_total p plan l = link_total p plan l (fullest_step p plan l)

-- the fuller of two links by the shares of what they have, the first where they are equal; a link that has nothing is none
abbrev pub fuller_of : (ℕ → ℕ) → (ℕ → ℕ) → ℕ → ℕ → ℕ
fuller_of room total best l = if nat_lt (total best * room l) (total l * room best) then l else best

abbrev pub fuller : (ℕ → ℕ) → (ℕ → ℕ) → Option ℕ → ℕ → Option ℕ
fuller room total None l = if room l == 0 then None else Some l
fuller room total (Some best) l = if room l == 0 then Some best else Some (fuller_of room total best l)

-- the fullest of the first so many links
abbrev pub fullest : (ℕ → ℕ) → (ℕ → ℕ) → ℕ → Option ℕ
fullest room total zero = None
fullest room total (suc l) = fuller room total (fullest room total l) l

-- what a link has, in units of 1/scale
abbrev pub room_of : Problem → Plan → ℕ → ℕ
room_of p plan l = capacity_of p plan (the_link l)

-- a plan of one stage has no step, and so no fullest link
abbrev pub fullest_link : Problem → Plan → Option ℕ
fullest_link p plan = if last_stage plan == 0 then None else fullest (room_of p plan) (greatest_total p plan) (length p.links)

abbrev pub share_text : ℕ → ℕ → ℕ → List ℕ
share_text total room step = codes " " ++ decimal total ++ codes " of " ++ decimal room ++ codes " in step " ++ decimal step ++ codes "\n"

abbrev pub fullest_text : Problem → Plan → Option ℕ → List ℕ
fullest_text p plan None = codes "none\n"
fullest_text p plan (Some l) = link_text p l ++ share_text (greatest_total p plan l) (room_of p plan l) (fullest_step p plan l)

abbrev pub fullest_line : Problem → Plan → List ℕ
fullest_line p plan = codes "fullest link: " ++ fullest_text p plan (fullest_link p plan)

abbrev pub sizes_line : ℕ → ℕ → List ℕ
sizes_line steps scale = codes "steps " ++ decimal steps ++ codes ", scale " ++ decimal scale ++ codes "\n"

-- the text: a line of the plan, one a link, one a table, and the fullest link
unfoldable pub loads_text : Problem → Plan → List ℕ
loads_text p plan =
    sizes_line (last_stage plan) plan.scale ++ load_lines p plan the_link (length p.links) ++ load_lines p plan the_table (length p.switches) ++ fullest_line p plan
