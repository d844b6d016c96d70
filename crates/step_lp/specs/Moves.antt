-- Moves from the old split to the new one in q rate steps, and the points of the program that stand for them.
use Rattle.std.specs.Prelude.{◌≡◌, ℕ, ◌+◌, ◌-◌, ◌*◌, ◌<◌, ◌≤◌, min, max, true, false, ◌==◌, pos, List, All, length, slice_index_or, if◌then◌else◌}
use Rattle.rollout_rules.specs.Sums.{count_below}
use Rattle.rollout_rules.specs.Wan.{Problem, tunnel_at, link_at, old_rate, new_rate}
use Rattle.rollout_rules.specs.Items.{load}
use Rattle.rollout_rules.specs.Valid.{flow_total}
use Rattle.fraction_lp.specs.Ratio.{Ratio, ratio, zero_ratio}
use Rattle.fraction_lp.specs.Program.{IsNotNegative}
use Rattle.step_lp.specs.Program.{used_at, used_count, blocks, top_block, unknowns, old_sum, new_sum}

-- ---- numbers by block and tunnel, in units of 1/scale

-- the rate of tunnel t at rate stage a: scale times the old or the new one at the ends, a number of its block between
abbrev pub rate_in : Problem → ℕ → ℕ → (ℕ → ℕ → ℕ) → ℕ → ℕ → ℕ
rate_in p q scale n a t =
    if a == 0 then scale * old_rate (tunnel_at p t) else if a == q then scale * new_rate (tunnel_at p t) else n (a - 1) t

-- its top in step s
abbrev pub top_in : ℕ → (ℕ → ℕ → ℕ) → ℕ → ℕ → ℕ
top_in q n s t = n (top_block q s) t

-- Each top is at least both rates of its step; the tops on a link are within its capacity; each flow's total lies between
-- the smaller and the larger of its old and its new one.
pub record AreMoves (p : Problem) (q scale : ℕ) (n : ℕ → ℕ → ℕ) : Type 0 where
  pub before : (s t : ℕ) → s < q → t < length p.tunnels → used_at p t ≡ true → rate_in p q scale n s t ≤ top_in q n s t
  pub behind : (s t : ℕ) → s < q → t < length p.tunnels → used_at p t ≡ true → rate_in p q scale n (s + 1) t ≤ top_in q n s t
  pub links : (s l : ℕ) → s < q → l < length p.links → load p (top_in q n s) l ≤ scale * (link_at p l).capacity
  pub least : (a f : ℕ) → 0 < a → a < q → f < length p.flows → scale * min (old_sum p f) (new_sum p f) ≤ flow_total p (rate_in p q scale n a) f
  pub most : (a f : ℕ) → 0 < a → a < q → f < length p.flows → flow_total p (rate_in p q scale n a) f ≤ scale * max (old_sum p f) (new_sum p f)

-- ---- points of the program

-- the place of a used tunnel among the used ones, its number where a block begins, and in a block of a point
abbrev pub place_of : Problem → ℕ → ℕ
place_of p t = count_below t (used_at p)

abbrev pub number_from : Problem → List Ratio → ℕ → ℕ → Ratio
number_from p xs first t = slice_index_or xs (first + place_of p t) zero_ratio

abbrev pub number_in : Problem → List Ratio → ℕ → ℕ → Ratio
number_in p xs b t = number_from p xs (b * used_count p) t

-- a point's numbers are these units of 1/scale; tunnels that are not used have none
pub record HasUnits (p : Problem) (q scale : ℕ) (n : ℕ → ℕ → ℕ) (xs : List Ratio) : Type 0 where
  pub some : 0 < scale
  pub one_each : length xs ≡ unknowns p q
  pub each : (b t : ℕ) → b < blocks q → t < length p.tunnels → used_at p t ≡ true → number_in p xs b t ≡ ratio (pos (n b t)) scale
  pub idle : (b t : ℕ) → used_at p t ≡ false → n b t ≡ 0

-- a point whose numbers are not negative and stand for moves
pub record IsMove (p : Problem) (q : ℕ) (xs : List Ratio) : Type 0 where
  pub not_negative : All IsNotNegative xs
  pub scale : ℕ
  pub numbers : ℕ → ℕ → ℕ
  pub units : HasUnits p q scale numbers xs
  pub moves : AreMoves p q scale numbers
