-- What tunnels add to the tables on their paths.
use Rattle.std.specs.Prelude.{ℕ, ◌*◌, ◌&&◌, ◌==◌, if◌then◌else◌}
use Rattle.rollout_rules.specs.Sums.{sum_below}
use Rattle.rollout_rules.specs.Wan.{Problem, tunnel_at, hops, switch_of, width_of}
use Rattle.scratch_plan.specs.Groups.{is_in}
use Rattle.scratch_plan.specs.declared.group.Group.{Group}

-- what tunnel t adds to the table of switch w, where it is in the group
abbrev pub group_share : Problem → Group → ℕ → ℕ → ℕ
group_share p group t w = sum_below (hops p t) (λ h. if (switch_of p t h == w) && is_in group (tunnel_at p t) then width_of p t else 0)

-- the most that one tunnel adds, with no regard to how often its path meets a switch
abbrev pub largest_group_share : ℕ
largest_group_share = 17 * 16
