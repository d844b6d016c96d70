-- Policies by name, of any type, and by what they answer.
use Rattle.std.specs.Prelude.{ℕ, List, Option, map, find, option_map, bytes_eq}
use denote.Param.Members.{Mut}
use denote.Struct.Field.{u64-field}
use Rattle.rollout_rules.specs.declared.op.OpView.{OpView}
use Rattle.order_policy.specs.Answers.{rank_by}
use Rattle.order_policy.specs.declared.policy.Policy.{Policy}

-- the policy that stands first under a name
abbrev pub policy_named : {P : Type 0} → List ℕ → List (List ℕ × P) → Option P
policy_named name policies = option_map (λ one. one.1) (find (λ one. bytes_eq one.0 name) policies)

-- another thing under each name
abbrev pub each_by : {P Q : Type 0} → (P → Q) → List (List ℕ × P) → List (List ℕ × Q)
each_by f = map (λ one. (one.0, f one.1))

-- what the policies answer, each under its name
module _ {X : Type 0} {F : X → Type 0} {M : Mut ((x : X) × F x) (OpView × Unit {0}) u64-field.Value} where
  abbrev pub answers_in : List (List ℕ × Policy X F M) → List (List ℕ × (OpView → ℕ))
  answers_in = each_by (λ policy. rank_by policy.answers)
