-- Room to spare, before a plan is made: slack 1/k on every link (SWAN), and room in every table.
use Rattle.std.specs.Prelude.{ℕ, ◌-◌, ◌*◌, Bool, ◌&&◌, ◌||◌, length, is_some, nat_le, nat_lt}
use Rattle.rollout_rules.specs.Sums.{all_below}
use Rattle.rollout_rules.specs.Wan.{Problem, tunnel_at, link_at, switch_at, old_rate, new_rate}
use Rattle.rollout_rules.specs.Items.{load, entries_at}

abbrev pub old_load : Problem → ℕ → ℕ
old_load p l = load p (λ t. old_rate (tunnel_at p t)) l

abbrev pub new_load : Problem → ℕ → ℕ
new_load p l = load p (λ t. new_rate (tunnel_at p t)) l

-- whether a share 1/k of every link is free in the old and in the new split
abbrev pub has_slack : Problem → ℕ → Bool
has_slack p k = all_below (length p.links) (λ l.
    nat_le (k * old_load p l) ((k - 1) * (link_at p l).capacity) && nat_le (k * new_load p l) ((k - 1) * (link_at p l).capacity))

-- a tunnel's entries as they are at first
abbrev pub was_installed : Problem → ℕ → ℕ → Bool
was_installed p t h = is_some (tunnel_at p t).old

-- whether a tunnel is installed in the end, or carries traffic at first
abbrev pub is_wanted_or_carrying : Problem → ℕ → ℕ → Bool
is_wanted_or_carrying p t h = is_some (tunnel_at p t).new || nat_lt 0 (old_rate (tunnel_at p t))

-- whether both sets of entries fit at every switch
abbrev pub has_table_room : Problem → Bool
has_table_room p = all_below (length p.switches) (λ w.
    nat_le (entries_at p (was_installed p) w) (switch_at p w).table && nat_le (entries_at p (is_wanted_or_carrying p) w) (switch_at p w).table)
