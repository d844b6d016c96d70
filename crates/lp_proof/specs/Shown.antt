-- What shows that no plan has q - 1 rate steps, and the check that decides it.
use Rattle.std.specs.Prelude.{◌≡◌, ℕ, ◌-◌, ◌<◌, ◌≤◌, max, Bool, false, not, ◌&&◌, ◌||◌, ◌==◌, nat_lt, nat_le, List, length, is_some, IsSome, ◌⊎◌}
use Rattle.rollout_rules.specs.Wan.{Problem, tunnel_at, link_at, old_rate, new_rate}
use Rattle.rollout_rules.specs.Items.{load}
use Rattle.scratch_plan.specs.Frame.{has_equal_rates}
use Rattle.fraction_lp.specs.Ratio.{Ratio}
use Rattle.fraction_lp.specs.Program.{IsCertificate}
use Rattle.fraction_lp.specs.Excluding.{excludes, AreFormed}
use Rattle.step_lp.specs.Program.{move_program, cells}
use Rattle.fraction_lp.specs.declared.proof.Proof.{Proof}
use Rattle.fraction_lp.specs.declared.proof.Proof.TheVariants.{Plain, Link, Rows}

-- ---- in the subject's terms

-- the larger of a tunnel's old and new rate
abbrev pub greater_end : Problem → ℕ → ℕ
greater_end p t = max (old_rate (tunnel_at p t)) (new_rate (tunnel_at p t))

-- the load on a link in a step straight from the old split to the new one
abbrev pub direct_load : Problem → ℕ → ℕ
direct_load p l = load p (greater_end p) l

-- a link that is too small for one step
pub record NeedsTwo (p : Problem) (q l : ℕ) : Type 0 where
  pub two : q ≡ 2
  pub inside : l < length p.links
  pub above : (link_at p l).capacity < direct_load p l

-- multipliers that no rates of one step less allow (Farkas); the program for so many is small enough to be built
pub record HasMultipliers (p : Problem) (q : ℕ) (ys : List Ratio) : Type 0 where
  pub least : 3 ≤ q
  pub most : q ≤ 9
  pub small : IsSome (cells p (q - 1))
  pub certificate : IsCertificate (move_program p (q - 1)) ys

-- nothing is needed where there is no rate step, or where there is one and rates differ
abbrev pub ShowsLeast : Problem → ℕ → Proof → Type 0
ShowsLeast p q Plain = (q ≡ 0) ⊎ ((q ≡ 1) × (has_equal_rates p ≡ false))
ShowsLeast p q (Link l) = NeedsTwo p q l
ShowsLeast p q (Rows ys) = HasMultipliers p q ys

-- no number on the way of the check leaves its type
abbrev pub IsFormed : Problem → ℕ → Proof → Type 0
IsFormed p q Plain = Unit {0}
IsFormed p q (Link l) = Unit {0}
IsFormed p q (Rows ys) = AreFormed (move_program p (q - 1)) ys

-- ---- the check

abbrev pub is_plain : Problem → ℕ → Bool
is_plain p q = (q == 0) || ((q == 1) && not (has_equal_rates p))

abbrev pub is_overloaded : Problem → ℕ → Bool
is_overloaded p l = nat_lt (link_at p l).capacity (direct_load p l)

abbrev pub needs_two : Problem → ℕ → ℕ → Bool
needs_two p q l = (q == 2) && nat_lt l (length p.links) && is_overloaded p l

-- whether the program for one step less is built
abbrev pub is_built : Problem → ℕ → Bool
is_built p q = nat_le 3 q && nat_le q 9 && is_some (cells p (q - 1))

abbrev pub has_multipliers : Problem → ℕ → List Ratio → Bool
has_multipliers p q ys = is_built p q && excludes (move_program p (q - 1)) ys

abbrev pub shows_least : Problem → ℕ → Proof → Bool
shows_least p q Plain = is_plain p q
shows_least p q (Link l) = needs_two p q l
shows_least p q (Rows ys) = has_multipliers p q ys
