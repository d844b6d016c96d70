-- The second order of the rule: flows first that relieve the fullest links.
use Rattle.std.specs.Prelude.{ℕ, ◌+◌, ◌*◌, max, Bool, ◌&&◌, ◌||◌, List, length, slice_index, unwrap_or, nat_le, nat_lt, ◌==◌}
use Rattle.rollout_rules.specs.Sums.{all_below, count_below, list_below}
use Rattle.rollout_rules.specs.Wan.{Problem, link_at}
use Rattle.wan_model.specs.declared.side.Side.TheVariants.{Old, New}
use Rattle.plan_check.specs.First.{first_below, provided}
use Rattle.plan_check.specs.LeastSlack.{load_on}
use Rattle.fewest_plan.specs.Marked.{borne}

-- the larger load of a link in the two splits
abbrev pub most_on : Problem → ℕ → ℕ
most_on p l = max (load_on Old p l) (load_on New p l)

-- whether a link is at least four fifths as full as another: loads and capacities by products, so that nothing is rounded
abbrev pub is_near : Problem → ℕ → ℕ → Bool
is_near p l m = nat_le (4 * (most_on p m * (link_at p l).capacity)) (5 * (most_on p l * (link_at p m).capacity))

-- whether it is among the fullest: at least four fifths as full as each link is
abbrev pub is_fullest : Problem → ℕ → Bool
is_fullest p l = all_below (length p.links) (is_near p l)

abbrev pub fullest : Problem → List Bool
fullest p = list_below (length p.links) (is_fullest p)

-- what each flow loads the fullest links with before and after
abbrev pub loads_before : Problem → List ℕ
loads_before p = list_below (length p.flows) (borne p (fullest p) Old)

abbrev pub loads_after : Problem → List ℕ
loads_after p = list_below (length p.flows) (borne p (fullest p) New)

-- whether flow g comes before flow f: it relieves these links of more, or of as much and has the smaller number
abbrev pub comes_first : List ℕ → List ℕ → ℕ → ℕ → Bool
comes_first before after f g =
    nat_lt (slice_index after g + slice_index before f) (slice_index after f + slice_index before g)
    || ((slice_index after g + slice_index before f == slice_index after f + slice_index before g) && nat_lt g f)

-- how many come before it
abbrev pub rank : List ℕ → List ℕ → ℕ → ℕ
rank before after f = count_below (length before) (comes_first before after f)

abbrev pub ranks : List ℕ → List ℕ → List ℕ
ranks before after = list_below (length before) (rank before after)

-- the flow with a rank
abbrev pub has_rank : List ℕ → ℕ → ℕ → Bool
has_rank row i f = slice_index row f == i

abbrev pub of_rank : List ℕ → ℕ → ℕ
of_rank row i = unwrap_or (first_below (length row) (λ f. provided (has_rank row i f) f)) 0

-- the flows by rank
abbrev pub by_loads : List ℕ → List ℕ → List ℕ
by_loads before after = list_below (length (ranks before after)) (of_rank (ranks before after))

unfoldable pub by_relief : Problem → List ℕ
by_relief p = by_loads (loads_before p) (loads_after p)
