-- Rates that may follow one another between the old split and the new one (SWAN's step rule).
use Rattle.std.specs.Prelude.{◌≡◌, ℕ, ◌+◌, ◌*◌, ◌<◌, ◌≤◌, min, max, Bool, true, ◌&&◌, List, [], ◌∷◌, length, slice_index, nat_le}
use Rattle.rollout_rules.specs.declared.limits.TheConstants.{MOST_STAGES, LARGEST_SCALE}
use Rattle.rollout_rules.specs.Wan.{Problem, tunnel_at, link_at, old_rate, new_rate}
use Rattle.rollout_rules.specs.Items.{load}
use Rattle.rollout_rules.specs.Valid.{flow_total}
use Rattle.scratch_plan.specs.Marks.{is_used}
use Rattle.scratch_plan.specs.Frame.{old_row, new_row}

-- the last of a list, or what stands before it
abbrev pub last_of : {A : Type 0} → A → List A → A
last_of a [] = a
last_of a (b ∷ rest) = last_of b rest

-- each is followed by the next as it should be, and the last by itself
abbrev pub Follows : {A : Type 0} → (A → A → Type 0) → A → List A → Type 0
Follows R a [] = R a a
Follows R a (b ∷ rest) = R a b × Follows R b rest

-- whether a flow's total at these rates lies between its scaled old and new totals
abbrev pub keeps_total : Problem → ℕ → (ℕ → ℕ) → ℕ → Bool
keeps_total p scale rate f =
    nat_le (min (scale * flow_total p (λ t. old_rate (tunnel_at p t)) f) (scale * flow_total p (λ t. new_rate (tunnel_at p t)) f)) (flow_total p rate f)
    && nat_le (flow_total p rate f) (max (scale * flow_total p (λ t. old_rate (tunnel_at p t)) f) (scale * flow_total p (λ t. new_rate (tunnel_at p t)) f))

-- a rate per tunnel, a positive one only where the tunnel is wanted or carrying, with totals between
pub record IsRow (p : Problem) (scale : ℕ) (row : List ℕ) : Type 0 where
  pub count : length row ≡ length p.tunnels
  pub used : (t : ℕ) → t < length p.tunnels → 0 < slice_index row t → is_used (tunnel_at p t) ≡ true
  pub totals : (f : ℕ) → f < length p.flows → keeps_total p scale (slice_index row) f ≡ true

-- on each link the larger rates of both ends fit
pub record IsRateStep (p : Problem) (scale : ℕ) (a b : List ℕ) : Type 0 where
  pub before : IsRow p scale a
  pub after : IsRow p scale b
  pub fits : (l : ℕ) → l < length p.links → load p (λ t. max (slice_index a t) (slice_index b t)) l ≤ (link_at p l).capacity * scale

-- the rates after each step lead from the old split to the new one, and the frame over them is within the limits
pub record AreRateSteps (p : Problem) (scale : ℕ) (rows : List (List ℕ)) : Type 0 where
  pub low : 1 ≤ scale
  pub high : scale ≤ LARGEST_SCALE
  pub few : length rows + 4 ≤ MOST_STAGES
  pub last : last_of (old_row p scale) rows ≡ new_row p scale
  pub steps : Follows (IsRateStep p scale) (old_row p scale) rows
