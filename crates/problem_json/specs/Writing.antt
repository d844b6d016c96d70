-- A document as data: a problem and a plan, and the text that they are written as.
use Rattle.std.specs.Prelude.{◌≡◌, ℕ, ◌^◌, ◌<◌, List, [], ◌++◌, decimal, slice_index, slice_index_or, map, length, codes, Option, Some, None, option_map, option_and_then, ◌==◌, if◌then◌else◌, Ok}
use Rattle.rollout_rules.specs.Sums.{list_below}
use Rattle.rollout_rules.specs.Wan.{Switch, Link, Problem, Plan, Stage, no_stage, switch_at, tunnel_at, flow_at, tunnel_of}
use Rattle.serde_json.specs.Data.{Data, Members, null, boolean, number, string, array, object, unsigned, no_members, member}
use Rattle.serde_json.specs.Find.{get}
use Rattle.serde_json.specs.Read.{read}
use Rattle.serde_json.specs.View.{items_of}
use Rattle.serde_json.specs.Written.{compact_text}
use Rattle.problem_json.specs.Grammar.{problem_of}
use Rattle.problem_json.specs.Places.{place_of}
use Rattle.problem_json.specs.declared.place.Part.TheVariants as part

abbrev pub number_data : ℕ → Data
number_data n = number (unsigned n)

-- a rate of a tunnel, or null where the tunnel is not installed
abbrev pub rate_data : Option ℕ → Data
rate_data None = null
rate_data (Some r) = number_data r

abbrev pub list_data : List Data → Data
list_data ds = array (items_of ds)

abbrev pub switch_data : Switch → Data
switch_data s = object (member (codes "name") (string s.name) (member (codes "table") (number_data s.table) no_members))

-- the name of the switch with a number
abbrev pub name_data : Problem → ℕ → Data
name_data p w = string (switch_at p w).name

abbrev pub link_data : Problem → Link → Data
link_data p l =
    object (member (codes "capacity") (number_data l.capacity) (member (codes "from") (name_data p l.from)
    (member (codes "to") (name_data p l.to) no_members)))

-- in format 1 a tunnel has no width of its own
abbrev pub width_member : ℕ → ℕ → Members
width_member format width = if format == 1 then no_members else member (codes "width") (number_data width) no_members

-- the tunnel with a number: its rates, the names of the switches on its path, and its width
abbrev pub tunnel_data : Problem → ℕ → Data
tunnel_data p t =
    object (member (codes "new") (rate_data (tunnel_at p t).new) (member (codes "old") (rate_data (tunnel_at p t).old)
    (member (codes "path") (list_data (map (name_data p) (tunnel_at p t).path)) (width_member p.format (tunnel_at p t).width))))

-- the flow with a number, and its tunnels
abbrev pub flow_data : Problem → ℕ → Data
flow_data p f =
    object (member (codes "name") (string (flow_at p f).name)
    (member (codes "tunnels") (list_data (list_below (flow_at p f).tunnels (λ j. tunnel_data p (tunnel_of p f j)))) no_members))

-- format 1 is the one without a key for it
abbrev pub format_before : ℕ → Members → Members
format_before format behind = if format == 1 then behind else member (codes "format") (number_data format) behind

abbrev pub problem_data : Problem → Data
problem_data p =
    object (member (codes "flows") (list_data (list_below (length p.flows) (flow_data p)))
    (format_before p.format (member (codes "links") (list_data (map (link_data p) p.links))
    (member (codes "switches") (list_data (map switch_data p.switches)) no_members))))

abbrev pub stage_data : Stage → Data
stage_data s =
    object (member (codes "installed") (list_data (map boolean s.installed))
    (member (codes "rates") (list_data (map number_data s.rates)) no_members))

abbrev pub plan_data : Plan → Data
plan_data plan =
    object (member (codes "scale") (number_data plan.scale) (member (codes "stages") (list_data (map stage_data plan.stages)) no_members))

unfoldable pub document_data : Problem → Plan → Data
document_data p plan =
    object (member (codes "plan") (plan_data plan) (member (codes "problem") (problem_data p) no_members))

-- their bytes: no blanks, the keys of each object in the order of their bytes, no line feed at the end

unfoldable pub problem_text : Problem → List ℕ
problem_text p = compact_text (problem_data p)

unfoldable pub plan_text : Plan → List ℕ
plan_text plan = compact_text (plan_data plan)

unfoldable pub document_text : Problem → Plan → List ℕ
document_text p plan = compact_text (document_data p plan)

-- the text of the member of a format after another, or nothing
abbrev pub format_text : ℕ → List ℕ
format_text format = if format == 1 then [] else codes ",\"format\":" ++ decimal format

-- the text of the member of a width after a path, or nothing
abbrev pub width_text : ℕ → ℕ → List ℕ
width_text format width = if format == 1 then [] else codes ",\"width\":" ++ decimal width

-- a plan of numbers of 64 bits
abbrev pub AreWords : List ℕ → Type 0
AreWords ns = (t : ℕ) → slice_index ns t < 2 ^ 64

abbrev pub AreStagesOfWords : ℕ → List Stage → Type 0
AreStagesOfWords n stages = (s : ℕ) → s < n → AreWords (slice_index_or stages s no_stage).rates

pub record IsPlanOfWords (plan : Plan) : Type 0 where
  pub scale : plan.scale < 2 ^ 64
  pub rates : AreStagesOfWords (length plan.stages) plan.stages

-- the value at the key `problem` of a text is, by the grammar, the problem
abbrev pub HoldsProblem : List ℕ → Problem → Type 0
HoldsProblem text p = option_map (problem_of (place_of part.Problem)) (option_and_then (get (codes "problem")) (read text)) ≡ Some (Ok p)
