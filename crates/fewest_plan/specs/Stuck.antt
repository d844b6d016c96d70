-- Links on which nothing may ever move: a weight of 1 on some links shows it.
use Rattle.std.specs.Prelude.{ℕ, ◌*◌, min, Bool, not, ◌&&◌, ◌||◌, List, length, Option, nat_le, ◌==◌, if◌then◌else◌}
use Rattle.rollout_rules.specs.declared.limits.TheConstants.{MOST_HOPS}
use Rattle.rollout_rules.specs.Sums.{sum_below, all_below, least_below, list_below}
use Rattle.rollout_rules.specs.Wan.{Problem, link_at, tunnel_at, flow_at, tunnel_of, old_rate, new_rate, crosses}
use Rattle.rollout_rules.specs.Valid.{flow_total}
use Rattle.wan_model.specs.declared.side.Side.TheVariants.{Old, New}
use Rattle.plan_check.specs.First.{first_below, provided}
use Rattle.plan_check.specs.LeastSlack.{load_on}
use Rattle.fewest_plan.specs.declared.stuck.Weight.{Weight}
use Rattle.fewest_plan.specs.declared.stuck.Weight.TheVariants.{Alone, Leaving, Entering}
use Rattle.fewest_plan.specs.Marked.{is_marked, crossed}

-- how many marked links each tunnel of a flow has at least
abbrev pub least_crossed : Problem → List Bool → ℕ → ℕ
least_crossed p marks f = least_below (flow_at p f).tunnels MOST_HOPS (λ j. crossed p marks (tunnel_of p f j))

-- what a flow loads the marked links with at least, at each stage of each plan: the smaller of its totals as often
abbrev pub kept_by : Problem → List Bool → ℕ → ℕ
kept_by p marks f = least_crossed p marks f * min (flow_total p (λ t. old_rate (tunnel_at p t)) f) (flow_total p (λ t. new_rate (tunnel_at p t)) f)

abbrev pub kept : Problem → List Bool → ℕ
kept p marks = sum_below (length p.flows) (kept_by p marks)

-- how much there is of the marked links
abbrev pub room_on : Problem → List Bool → ℕ → ℕ
room_on p marks l = if is_marked marks l then (link_at p l).capacity else 0

abbrev pub room : Problem → List Bool → ℕ
room p marks = sum_below (length p.links) (room_on p marks)

-- whether flows always take all of it
abbrev pub stay_full : Problem → List Bool → Bool
stay_full p marks = nat_le (room p marks) (kept p marks)

-- whether each tunnel across a link keeps its rate
abbrev pub rests_at : Problem → ℕ → ℕ → Bool
rests_at p l t = not (crosses p t l) || (old_rate (tunnel_at p t) == new_rate (tunnel_at p t))

abbrev pub rests : Problem → ℕ → Bool
rests p l = all_below (length p.tunnels) (rests_at p l)

-- the links with a weight of 1: this one, those from its first switch, or those to its second
abbrev pub weighs : Weight → Problem → ℕ → ℕ → Bool
weighs Alone p l k = k == l
weighs Leaving p l k = (link_at p k).from == (link_at p l).from
weighs Entering p l k = (link_at p k).to == (link_at p l).to

abbrev pub weighed : Weight → Problem → ℕ → List Bool
weighed weight p l = list_below (length p.links) (weighs weight p l)

-- whether a link is full in both splits
abbrev pub is_full : Problem → ℕ → Bool
is_full p l = (load_on Old p l == (link_at p l).capacity) && (load_on New p l == (link_at p l).capacity)

abbrev pub stays_full : Problem → ℕ → Bool
stays_full p l = stay_full p (weighed Alone p l) || stay_full p (weighed Leaving p l) || stay_full p (weighed Entering p l)

-- whether a link stays full at every stage of every plan, and something across it is to move
abbrev pub is_stuck : Problem → ℕ → Bool
is_stuck p l = is_full p l && not (rests p l) && stays_full p l

-- the first such link
unfoldable pub stuck_link : Problem → Option ℕ
stuck_link p = first_below (length p.links) (λ l. provided (is_stuck p l) l)
