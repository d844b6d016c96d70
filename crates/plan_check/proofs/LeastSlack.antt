-- What the least slack says.
use Rattle.std.proofs.Common.{◌≡◌, ℕ, ◌≤◌, Bool, true, false, ◌&&◌, nat_le, Some, None, refl, ap, subst, leb-true, arith}
use Rattle.std.proofs.lemmas.Bool.{and_parts, and_from}
use Rattle.rollout_rules.specs.Wan.{Problem}
use Rattle.rollout_rules.specs.Slack.{has_slack}
use Rattle.plan_check.specs.First.{provided}
use Rattle.plan_check.specs.LeastSlack.{slack_of, least_slack}
use Rattle.plan_check.proofs.Firsts.{first_below_none, first_below_some}

provided_none : (b : Bool) (k : ℕ) → provided b k ≡ None → b ≡ false
provided_none true k e = cc
provided_none false k e = refl

provided_some : (b : Bool) (k a : ℕ) → provided b k ≡ Some a → (b ≡ true) × (k ≡ a)
provided_some true k a e = (refl, cc)
provided_some false k a e = cc

from_two : (k : ℕ) → 2 ≤ k → nat_le 2 k ≡ true
from_two k le = grind arith

pub slack_of-has : (p : Problem) (k : ℕ) → 2 ≤ k → has_slack p k ≡ true → slack_of p k ≡ Some k
slack_of-has p k le has = ap (λ b. provided b k) (and_from (nat_le 2 k) (has_slack p k) (from_two k le) has)

-- a least k is within the limits, and the problem has slack of that share
pub record HasLeast (p : Problem) (k : ℕ) : Type 0 where
  pub least : 2 ≤ k
  pub most : k ≤ 64
  pub has : has_slack p k ≡ true

pub some-HasLeast : (p : Problem) (k : ℕ) → least_slack p ≡ Some k → HasLeast p k
unfolding least_slack
some-HasLeast p k e =
    let there = first_below_some (slack_of p) 65 k e in
    let says = provided_some (nat_le 2 there.0 && has_slack p there.0) there.0 k there.2 in
    let both = and_parts (nat_le 2 there.0) (has_slack p there.0) says.0 in
    record {
      least = omega (arith, says.1, leb-true 2 there.0 both.0);
      most = omega (arith, says.1, there.1);
      has = subst (λ j. has_slack p j ≡ true) says.1 both.1;
    }

-- where there is none, there is no slack of any share from 1/2 to 1/64
pub none-no_slack : (p : Problem) (k : ℕ) → 2 ≤ k → k ≤ 64 → least_slack p ≡ None → has_slack p k ≡ false
unfolding least_slack
none-no_slack p k least most e =
    no_slack (nat_le 2 k) (has_slack p k) (from_two k least) (provided_none (nat_le 2 k && has_slack p k) k (first_below_none (slack_of p) 65 k (omega arith) e))
  where
    no_slack : (a b : Bool) → a ≡ true → (a && b) ≡ false → b ≡ false
    no_slack true b e f = f
    no_slack false b e f = cc
