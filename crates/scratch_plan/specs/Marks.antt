-- Which tunnels are installed in each part of a plan, and which ask for a stage of their own.
use Rattle.std.specs.Prelude.{Bool, not, ◌&&◌, ◌||◌, is_some, nat_lt}
use Rattle.rollout_rules.specs.Wan.{Tunnel, old_rate}

-- installed at first, and in the end
abbrev pub was_there : Tunnel → Bool
was_there t = is_some t.old

abbrev pub is_wanted : Tunnel → Bool
is_wanted t = is_some t.new

-- wanted in the end, or carrying traffic at first: what is installed while rates move
abbrev pub is_used : Tunnel → Bool
is_used t = is_wanted t || nat_lt 0 (old_rate t)

-- installed at first and used
abbrev pub is_kept : Tunnel → Bool
is_kept t = was_there t && is_used t

-- installed at first for no traffic, and not wanted: it goes before rates move
abbrev pub is_idle : Tunnel → Bool
is_idle t = was_there t && not (is_used t)

-- wanted, and not yet installed: it comes before rates move
abbrev pub is_fresh : Tunnel → Bool
is_fresh t = is_wanted t && not (was_there t)

-- carrying traffic at first, and not wanted: it goes after rates have moved
abbrev pub is_left : Tunnel → Bool
is_left t = is_used t && not (is_wanted t)
