-- What a rollout changes (items), what it takes (resources), and how much of it.
use Rattle.std.specs.Prelude.{ℕ, ◌+◌, ◌-◌, ◌*◌, min, max, Bool, ◌&&◌, ◌||◌, List, [], ◌∷◌, length, Option, Some, None, if◌then◌else◌, nat_lt, ◌==◌}
use Rattle.rollout_rules.specs.Sums.{sum_below, all_below, least_below, list_below}
use Rattle.rollout_rules.specs.Wan.{Problem, Plan, Tunnel, flow_at, link_at, switch_at, tunnel_of, hops, switch_of, width_of, crosses, rate_at, mark_at, next_stage}
use Rattle.rollout_rules.specs.declared.item.Item.{Item}
use Rattle.rollout_rules.specs.declared.item.Item.TheVariants as item

-- what items take: a link's capacity, or room in a switch's table
pub data Resource : Type 0 where
  the_link : (l : ℕ) → Resource
  the_table : (w : ℕ) → Resource

-- The items are the flows in order, then each tunnel's entries in order of its path.
abbrev pub is_item : Problem → Item → Bool
is_item p (item.Flow f) = nat_lt f (length p.flows)
is_item p (item.Entry t h) = nat_lt t (length p.tunnels) && nat_lt h (hops p t)

abbrev pub item_count : Problem → ℕ
item_count p = length p.flows + sum_below (length p.tunnels) (hops p)

abbrev pub number_of : Problem → Item → ℕ
number_of p (item.Flow f) = f
number_of p (item.Entry t h) = length p.flows + sum_below t (hops p) + h

-- the entry with a number, counted from tunnel t on
abbrev pub entry_from : List Tunnel → ℕ → ℕ → Item
entry_from [] t n = item.Entry t n
entry_from (row ∷ rows) t n = if nat_lt n (length row.path) then item.Entry t n else entry_from rows (t + 1) (n - length row.path)

abbrev pub item_at : Problem → ℕ → Item
item_at p n = if nat_lt n (length p.flows) then item.Flow n else entry_from p.tunnels 0 (n - length p.flows)

-- over all items: a sum, a test, the least
abbrev pub sum_items : Problem → (Item → ℕ) → ℕ
sum_items p f =
    sum_below (length p.flows) (λ n. f (item.Flow n))
    + sum_below (length p.tunnels) (λ t. sum_below (hops p t) (λ h. f (item.Entry t h)))

abbrev pub least_items : Problem → ℕ → (Item → ℕ) → ℕ
least_items p top f =
    min (least_below (length p.flows) top (λ n. f (item.Flow n)))
    (least_below (length p.tunnels) top (λ t. least_below (hops p t) top (λ h. f (item.Entry t h))))

-- whether the test holds of each item
abbrev pub all_items : Problem → (Item → Bool) → Bool
all_items p test = all_below (item_count p) (λ n. test (item_at p n))

-- over all resources
abbrev pub is_resource : Problem → Resource → Bool
is_resource p (the_link l) = nat_lt l (length p.links)
is_resource p (the_table w) = nat_lt w (length p.switches)

abbrev pub all_resources : Problem → (Resource → Bool) → Bool
all_resources p test = all_below (length p.links) (λ l. test (the_link l)) && all_below (length p.switches) (λ w. test (the_table w))

-- how much there is of a resource: a link's capacity in units of 1/scale, a table's size
abbrev pub capacity_of : Problem → Plan → Resource → ℕ
capacity_of p plan (the_link l) = (link_at p l).capacity * plan.scale
capacity_of p plan (the_table w) = (switch_at p w).table

-- the switch that an item belongs to: the first on a flow's paths, or the entry's own; a flow without tunnels has none
abbrev pub home_of : Problem → Item → Option ℕ
home_of p (item.Flow f) = if (flow_at p f).tunnels == 0 then None else Some (switch_of p (tunnel_of p f 0) 0)
home_of p (item.Entry t h) = Some (switch_of p t h)

-- What an item takes of a resource where tunnels carry these rates and these entries are there: a flow takes
-- the rates of its tunnels that cross the link, and an entry takes its tunnel's width in its switch's table.
abbrev pub takes : Problem → (ℕ → ℕ) → (ℕ → ℕ → Bool) → Item → Resource → ℕ
takes p rate there (item.Flow f) (the_link l) = sum_below (flow_at p f).tunnels (λ j. if crosses p (tunnel_of p f j) l then rate (tunnel_of p f j) else 0)
takes p rate there (item.Flow f) (the_table w) = 0
takes p rate there (item.Entry t h) (the_link l) = 0
takes p rate there (item.Entry t h) (the_table w) = if (switch_of p t h == w) && there t h then width_of p t else 0

-- the content of an item at a stage: the rates of a flow's tunnels, or 1 where an entry is there and 0 where not
abbrev pub content : Problem → Plan → Item → ℕ → List ℕ
content p plan (item.Flow f) s = list_below (flow_at p f).tunnels (λ j. rate_at plan s (tunnel_of p f j))
content p plan (item.Entry t h) s = (if mark_at plan s t then 1 else 0) ∷ []

-- what the content at a stage takes
abbrev pub use_at : Problem → Plan → ℕ → Item → Resource → ℕ
use_at p plan s = takes p (rate_at plan s) (λ t h. mark_at plan s t)

-- the larger of a tunnel's two rates in the step from stage s on
abbrev pub greater_rate : Plan → ℕ → ℕ → ℕ
greater_rate plan s t = max (rate_at plan s t) (rate_at plan (next_stage plan s) t)

-- whether a tunnel is installed at either end of that step
abbrev pub either_mark : Plan → ℕ → ℕ → Bool
either_mark plan s t = mark_at plan s t || mark_at plan (next_stage plan s) t

-- What an item may take while it passes from stage s to the next: the larger of both ends, tunnel by tunnel
-- (SWAN's step rule). At the last stage it is the use there.
abbrev pub step_maximum : Problem → Plan → ℕ → Item → Resource → ℕ
step_maximum p plan s = takes p (greater_rate plan s) (λ t h. either_mark plan s t)

-- The load on a link where tunnels carry these rates: the sum over the tunnels whose path has the link.
abbrev pub load : Problem → (ℕ → ℕ) → ℕ → ℕ
load p rate l = sum_below (length p.tunnels) (λ t. if crosses p t l then rate t else 0)

-- How much of a switch's table is taken: the sum of the widths of the entries that are there.
abbrev pub entries_at : Problem → (ℕ → ℕ → Bool) → ℕ → ℕ
entries_at p there w = sum_below (length p.tunnels) (λ t. sum_below (hops p t) (λ h. if (switch_of p t h == w) && there t h then width_of p t else 0))
