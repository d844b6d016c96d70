-- The words of `takeover`: the command, and pairs of a name and a value.
use Rattle.std.specs.Prelude.{ℕ, List, [], ◌∷◌, map, String, string_bytes, codes, bytes_eq, Option, None, option_map, option_and_then, if◌then◌else◌}
use Rattle.std.specs.declared.alloc.Global.{Global}
use Rattle.rollout_rules.specs.declared.op.OpView.{OpView}
use Rattle.controller_run.specs.declared.running.Limits.{Limits}
use Rattle.text_commands.specs.Words.{are_pairs, numbered, policy_in}
use Rattle.swanroll_top.specs.Words.{limits_in}

-- what is asked for: a term, how the rollout is to be run, and what its policy answers
pub record Taking : Type 0 where
  pub term : ℕ
  pub limits : Limits
  pub policy : OpView → ℕ

abbrev pub taking : ℕ → Limits → (OpView → ℕ) → Taking
taking term limits policy = record { term = term; limits = limits; policy = policy }

abbrev pub taking_names : List (List ℕ)
taking_names = codes "--term" ∷ codes "--workers" ∷ codes "--rounds" ∷ codes "--policy" ∷ codes "--migration" ∷ []

-- the term has to be named, and is 1 at the least
abbrev pub term_in : List (List ℕ) → Option ℕ
term_in pairs = numbered (codes "--term") (codes "0") 1 4294967295 pairs

abbrev pub with_names : List (List ℕ × (OpView → ℕ)) → List (List ℕ) → Option Taking
with_names policies pairs = option_and_then (λ term. option_and_then (λ limits. option_map (taking term limits) (policy_in policies pairs)) (limits_in pairs)) (term_in pairs)

abbrev pub taking_after : List (List ℕ × (OpView → ℕ)) → List (List ℕ) → Option Taking
taking_after policies pairs = if are_pairs taking_names pairs then with_names policies pairs else None

abbrev pub taking_at : List (List ℕ × (OpView → ℕ)) → List ℕ → List (List ℕ) → Option Taking
taking_at policies word pairs = if bytes_eq word (codes "takeover") then taking_after policies pairs else None

abbrev pub taking_in : List (List ℕ × (OpView → ℕ)) → List (List ℕ) → Option Taking
taking_in policies [] = None
taking_in policies (word ∷ pairs) = taking_at policies word pairs

-- the same of a program's words, which clauses don't look into
unfoldable pub taking_by : List (List ℕ × (OpView → ℕ)) → List (String Global) → Option Taking
taking_by policies words = taking_in policies (map string_bytes words)

abbrev pub term_of : Taking → ℕ
term_of t = t.term
