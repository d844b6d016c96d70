-- The trade of a link by way of rest, limit by limit.
use Rattle.std.proofs.Common.{ℕ, zero, suc, ◌+◌, ◌*◌, ◌<◌, ◌≤◌, min, max, arith}
use Rattle.rollout_rules.specs.Wan.{link_at}
use Rattle.rollout_rules.specs.Items.{load}
use Rattle.rollout_rules.specs.Valid.{flow_total}
use Rattle.rollout_rules.specs.Named.{pause}
use Rattle.step_lp.specs.Program.{old_sum, new_sum}
use Rattle.step_lp.specs.Moves.{rate_in, top_in, AreMoves}
use Rattle.step_lp.specs.Words.{resting}

before : (s t : ℕ) → s < 2 → t < 2 → rate_in pause 2 1 resting s t ≤ top_in 2 resting s t
before zero zero low lt = omega arith
before zero (suc zero) low lt = omega arith
before (suc zero) zero low lt = omega arith
before (suc zero) (suc zero) low lt = omega arith
before (suc (suc s)) t low lt = absurd (omega arith)
before zero (suc (suc t)) low lt = absurd (omega arith)
before (suc zero) (suc (suc t)) low lt = absurd (omega arith)

behind : (s t : ℕ) → s < 2 → t < 2 → rate_in pause 2 1 resting (s + 1) t ≤ top_in 2 resting s t
behind zero zero low lt = omega arith
behind zero (suc zero) low lt = omega arith
behind (suc zero) zero low lt = omega arith
behind (suc zero) (suc zero) low lt = omega arith
behind (suc (suc s)) t low lt = absurd (omega arith)
behind zero (suc (suc t)) low lt = absurd (omega arith)
behind (suc zero) (suc (suc t)) low lt = absurd (omega arith)

links : (s l : ℕ) → s < 2 → l < 1 → load pause (top_in 2 resting s) l ≤ 1 * (link_at pause l).capacity
links zero zero low lt = omega arith
links (suc zero) zero low lt = omega arith
links (suc (suc s)) l low lt = absurd (omega arith)
links zero (suc l) low lt = absurd (omega arith)
links (suc zero) (suc l) low lt = absurd (omega arith)

least : (a f : ℕ) → 0 < a → a < 2 → f < 2 → 1 * min (old_sum pause f) (new_sum pause f) ≤ flow_total pause (rate_in pause 2 1 resting a) f
least zero f some low lt = absurd (omega arith)
least (suc zero) zero some low lt = omega arith
least (suc zero) (suc zero) some low lt = omega arith
least (suc zero) (suc (suc f)) some low lt = absurd (omega arith)
least (suc (suc a)) f some low lt = absurd (omega arith)

most : (a f : ℕ) → 0 < a → a < 2 → f < 2 → flow_total pause (rate_in pause 2 1 resting a) f ≤ 1 * max (old_sum pause f) (new_sum pause f)
most zero f some low lt = absurd (omega arith)
most (suc zero) zero some low lt = omega arith
most (suc zero) (suc zero) some low lt = omega arith
most (suc zero) (suc (suc f)) some low lt = absurd (omega arith)
most (suc (suc a)) f some low lt = absurd (omega arith)

pub by_way_of_rest : AreMoves pause 2 1 resting
by_way_of_rest = record {
  before = λ s t low lt used. before s t low lt;
  behind = λ s t low lt used. behind s t low lt;
  links = links;
  least = least;
  most = most;
}
