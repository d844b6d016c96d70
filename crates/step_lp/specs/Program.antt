-- The linear program whose points are moves from the old split to the new one in q rate steps (SWAN).
-- Rate stages are numbered from 0, the old split, to q, the new one; step s leads from rate stage s to the next.
-- The unknowns stand in blocks with a number for each used tunnel: first a block for each rate stage between, the
-- rates there, then a block for each step, the tops of the tunnels in it.
use Rattle.std.specs.Prelude.{ℕ, zero, suc, ◌+◌, ◌-◌, ◌*◌, ◌<◌, ◌≤◌, min, max, Bool, false, ◌&&◌, ◌==◌, nat_lt, nat_le, ℤ, pos, negsuc, neg_ℤ, List, [], ◌∷◌, ◌++◌, map, length, Option, Some, None, if◌then◌else◌}
use Rattle.rollout_rules.specs.Sums.{list_below, count_below}
use Rattle.rollout_rules.specs.Wan.{Problem, tunnel_at, link_at, old_rate, new_rate, crosses}
use Rattle.rollout_rules.specs.Valid.{flow_total}
use Rattle.scratch_plan.specs.Marks.{is_used}
use Rattle.fraction_lp.specs.Ratio.{Ratio, ratio}
use Rattle.fraction_lp.specs.Dictionary.{Row, Program}
use Rattle.step_lp.specs.declared.size.TheConstants.{MOST_CELLS}
use Rattle.step_lp.specs.declared.limit.Limit.{Limit}
use Rattle.step_lp.specs.declared.limit.Limit.TheVariants.{Top, Link, Least, Most}

-- the lists f 0 .. f (n - 1), one after the other
abbrev pub joined_below : {A : Type 0} → ℕ → (ℕ → List A) → List A
joined_below zero f = []
joined_below (suc n) f = joined_below n f ++ f n

-- ---- the unknowns

-- whether a tunnel is wanted, or carries traffic at first
abbrev pub used_at : Problem → ℕ → Bool
used_at p t = is_used (tunnel_at p t)

-- the used ones of the first n tunnels, and of all
abbrev pub used_to : Problem → ℕ → List ℕ
used_to p n = joined_below n (λ t. if used_at p t then t ∷ [] else [])

abbrev pub used_tunnels : Problem → List ℕ
used_tunnels p = used_to p (length p.tunnels)

abbrev pub used_count : Problem → ℕ
used_count p = count_below (length p.tunnels) (used_at p)

-- the rates at the stages between, and the tops in the steps
abbrev pub rate_blocks : ℕ → ℕ
rate_blocks q = q - 1

abbrev pub blocks : ℕ → ℕ
blocks q = rate_blocks q + q

-- the block of the tops in a step
abbrev pub top_block : ℕ → ℕ → ℕ
top_block q s = rate_blocks q + s

abbrev pub unknowns : Problem → ℕ → ℕ
unknowns p q = blocks q * used_count p

-- ---- the rows

-- whether block b has the rates at stage a, where these are unknown
abbrev pub is_block_of : ℕ → ℕ → ℕ → Bool
is_block_of q a b = nat_lt b (rate_blocks q) && (b + 1 == a)

-- whether a tunnel is a flow's
abbrev pub belongs : Problem → ℕ → ℕ → Bool
belongs p t f = (tunnel_at p t).flow == f

-- whether the unknown of tunnel t in block b is added in the row of a limit
abbrev pub is_added : Problem → ℕ → Limit → ℕ → ℕ → Bool
is_added p q (Top s a u) b t = is_block_of q a b && (t == u)
is_added p q (Link s l) b t = (b == top_block q s) && crosses p t l
is_added p q (Least a f) b t = false
is_added p q (Most a f) b t = is_block_of q a b && belongs p t f

-- whether it is taken away
abbrev pub is_taken : Problem → ℕ → Limit → ℕ → ℕ → Bool
is_taken p q (Top s a u) b t = (b == top_block q s) && (t == u)
is_taken p q (Link s l) b t = false
is_taken p q (Least a f) b t = is_block_of q a b && belongs p t f
is_taken p q (Most a f) b t = false

abbrev pub whole : ℤ → Ratio
whole z = ratio z 1

-- what a row speaks of is there
abbrev pub IsLimit : Problem → ℕ → Limit → Type 0
IsLimit p q (Top s a u) = (s < q) × (a ≤ q) × (u < length p.tunnels)
IsLimit p q (Link s l) = (s < q) × (l < length p.links)
IsLimit p q (Least a f) = (a < q) × (f < length p.flows)
IsLimit p q (Most a f) = (a < q) × (f < length p.flows)

-- 1 where it is added, -1 where it is taken away, else 0
abbrev pub sign : Bool → Bool → ℤ
sign added taken = if added then pos 1 else if taken then negsuc 0 else pos 0

abbrev pub coefficient : Problem → ℕ → Limit → ℕ → ℕ → Ratio
coefficient p q limit b t = whole (sign (is_added p q limit b t) (is_taken p q limit b t))

-- a tunnel's rate at a stage where it is known, and 0 at a stage between
abbrev pub known_rate : Problem → ℕ → ℕ → ℕ → ℕ
known_rate p q a t = if a == 0 then old_rate (tunnel_at p t) else if a == q then new_rate (tunnel_at p t) else 0

abbrev pub old_sum : Problem → ℕ → ℕ
old_sum p f = flow_total p (λ t. old_rate (tunnel_at p t)) f

abbrev pub new_sum : Problem → ℕ → ℕ
new_sum p f = flow_total p (λ t. new_rate (tunnel_at p t)) f

-- what is known of a limit stands in its bound
abbrev pub bound_of : Problem → ℕ → Limit → ℤ
bound_of p q (Top s a u) = neg_ℤ (pos (known_rate p q a u))
bound_of p q (Link s l) = pos (link_at p l).capacity
bound_of p q (Least a f) = neg_ℤ (pos (min (old_sum p f) (new_sum p f)))
bound_of p q (Most a f) = pos (max (old_sum p f) (new_sum p f))

abbrev pub coefficients_in : Problem → ℕ → Limit → ℕ → List Ratio
coefficients_in p q limit b = map (coefficient p q limit b) (used_tunnels p)

abbrev pub row_of : Problem → ℕ → Limit → Row
row_of p q limit = record { coefficients = joined_below (blocks q) (coefficients_in p q limit); bound = whole (bound_of p q limit) }

-- each top is at least both rates of its step
abbrev pub tops_of : ℕ → ℕ → List Limit
tops_of s t = Top s s t ∷ Top s (s + 1) t ∷ []

abbrev pub tops_at : Problem → ℕ → ℕ → List Limit
tops_at p s t = if used_at p t then tops_of s t else []

abbrev pub top_limits : Problem → ℕ → List Limit
top_limits p q = joined_below q (λ s. joined_below (length p.tunnels) (tops_at p s))

-- the tops on a link are within its capacity
abbrev pub link_limits : Problem → ℕ → List Limit
link_limits p q = joined_below q (λ s. list_below (length p.links) (Link s))

-- a flow's total lies between its old and its new one
abbrev pub totals_of : ℕ → ℕ → List Limit
totals_of a f = Least a f ∷ Most a f ∷ []

abbrev pub total_limits : Problem → ℕ → List Limit
total_limits p q = joined_below (rate_blocks q) (λ b. joined_below (length p.flows) (totals_of (b + 1)))

abbrev pub limits : Problem → ℕ → List Limit
limits p q = top_limits p q ++ (link_limits p q ++ total_limits p q)

abbrev pub move_program : Problem → ℕ → Program
move_program p q = record { unknowns = unknowns p q; rows = map (row_of p q) (limits p q) }

-- ---- its size

-- rows times one more than the unknowns
abbrev pub cells_of : Program → ℕ
cells_of program = length program.rows * (program.unknowns + 1)

abbrev pub cells : Problem → ℕ → Option ℕ
cells p q = if nat_le (cells_of (move_program p q)) MOST_CELLS then Some (cells_of (move_program p q)) else None
