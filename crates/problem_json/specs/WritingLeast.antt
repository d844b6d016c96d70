-- A document with what it says of fewer rate steps, and the text that it is written as.
use Rattle.std.specs.Prelude.{ℕ, ℤ, pos, nat_abs, int_lt, List, [], ◌++◌, map, codes, decimal, if◌then◌else◌}
use Rattle.rollout_rules.specs.Wan.{Problem, Plan}
use Rattle.serde_json.specs.Data.{Data, string, object, no_members, member}
use Rattle.serde_json.specs.Written.{compact_text}
use Rattle.fraction_lp.specs.Ratio.{Ratio}
use Rattle.fraction_lp.specs.declared.proof.Proof.{Proof}
use Rattle.fraction_lp.specs.declared.proof.Proof.TheVariants.{Plain, Link, Rows}
use Rattle.problem_json.specs.Writing.{number_data, list_data, problem_data, plan_data}
use Rattle.problem_json.specs.declared.claim.Claim.{Claim}

-- a fraction: perhaps a minus, the number above the line, and that below it
abbrev pub sign_text : ℤ → List ℕ
sign_text z = if int_lt z (pos 0) then codes "-" else []

abbrev pub fraction_text : Ratio → List ℕ
fraction_text x = sign_text x.top ++ decimal (nat_abs x.top) ++ codes "/" ++ decimal x.bottom

abbrev pub fraction_data : Ratio → Data
fraction_data x = string (fraction_text x)

-- so many steps are impossible, and what shows it
abbrev pub claim_data : ℕ → Proof → Data
claim_data steps Plain = object (member (codes "steps") (number_data steps) no_members)
claim_data steps (Link l) = object (member (codes "link") (number_data l) (member (codes "steps") (number_data steps) no_members))
claim_data steps (Rows ys) = object (member (codes "rows") (list_data (map fraction_data ys)) (member (codes "steps") (number_data steps) no_members))

-- its piece of the text
abbrev pub claim_text : Claim → List ℕ
claim_text claim = compact_text (claim_data claim.steps claim.proof)

unfoldable pub claimed_data : Problem → Plan → Claim → Data
claimed_data p plan claim =
    object (member (codes "least") (claim_data claim.steps claim.proof)
    (member (codes "plan") (plan_data plan) (member (codes "problem") (problem_data p) no_members)))

unfoldable pub claimed_text : Problem → Plan → Claim → List ℕ
claimed_text p plan claim = compact_text (claimed_data p plan claim)
