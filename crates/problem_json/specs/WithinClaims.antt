-- What may be said of fewer rate steps whose text can be read again.
use Rattle.std.specs.Prelude.{ℕ, ◌^◌, ◌<◌, ◌≤◌, nat_abs, List, length, get_or}
use Rattle.fraction_lp.specs.Ratio.{Ratio, zero_ratio}
use Rattle.fraction_lp.specs.declared.proof.Proof.{Proof}
use Rattle.fraction_lp.specs.declared.proof.Proof.TheVariants.{Plain, Link, Rows}
use Rattle.problem_json.specs.GrammarLeast.{largest_word, most_multipliers}
use Rattle.problem_json.specs.declared.claim.Claim.{Claim}

-- a fraction of numbers of its type
pub record IsFractionWithin (x : Ratio) : Type 0 where
  pub top : nat_abs x.top < 2 ^ 127
  pub bottom : x.bottom < 2 ^ 127

-- so many of them that the grammar reads them
pub record AreRowsWithin (ys : List Ratio) : Type 0 where
  pub count : length ys ≤ most_multipliers
  pub each : (k : ℕ) → k < length ys → IsFractionWithin (get_or ys k zero_ratio)

abbrev pub IsProofWithin : Proof → Type 0
IsProofWithin Plain = Unit {0}
IsProofWithin (Link l) = l ≤ largest_word
IsProofWithin (Rows ys) = AreRowsWithin ys

pub record IsClaimWithin (claim : Claim) : Type 0 where
  pub steps : claim.steps ≤ largest_word
  pub proof : IsProofWithin claim.proof
