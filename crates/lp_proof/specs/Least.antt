-- What is answered of a number of rate steps, and what each answer is worth.
use Rattle.std.specs.Prelude.{◌≡◌, ℕ, ◌-◌, ◌≤◌, Bool, true, false, [], Option, Some, None, length, nat_lt, ◌==◌, if◌then◌else◌, IsTrue}
use Rattle.rollout_rules.specs.Wan.{Problem}
use Rattle.rollout_rules.specs.Valid.{is_valid_plan}
use Rattle.plan_check.specs.First.{first_below, provided}
use Rattle.scratch_plan.specs.Frame.{frame}
use Rattle.fraction_lp.specs.Dictionary.{end_of}
use Rattle.fraction_lp.specs.Program.{IsFeasible}
use Rattle.fraction_lp.specs.Excluding.{excludes}
use Rattle.fraction_lp.specs.declared.answer.LpAnswer.{LpAnswer}
use Rattle.fraction_lp.specs.declared.answer.LpAnswer.TheVariants as lp
use Rattle.step_lp.specs.Program.{move_program}
use Rattle.fraction_lp.specs.declared.proof.Proof.TheVariants.{Plain, Link, Rows}
use Rattle.lp_proof.specs.Shown.{is_overloaded, is_built, shows_least}
use Rattle.lp_proof.specs.declared.least.Least.{Least}
use Rattle.lp_proof.specs.declared.least.Least.TheVariants.{Shown, Fewer, Point, Wide, Overflow, Spent, Memory}

-- the first link that is too small for one step
abbrev pub overload_at : Problem → ℕ → Option ℕ
overload_at p l = provided (is_overloaded p l) l

abbrev pub first_overloaded : Problem → Option ℕ
first_overloaded p = first_below (length p.links) (overload_at p)

-- of two steps: that link, or the plan of one step
abbrev pub by_first : Problem → Option ℕ → Least
by_first p (Some l) = Shown (Link l)
by_first p None = Fewer (frame p 1 [])

abbrev pub by_link : Problem → Least
by_link p = by_first p (first_overloaded p)

-- multipliers that the check accepts; they may be right and still leave the type there
abbrev pub where_accepted : Bool → Least → Least
where_accepted true shown = shown
where_accepted false shown = Overflow 0

-- of more steps: by the end of the method on the program for one step less
abbrev pub by_end : Problem → ℕ → LpAnswer → Least
by_end p q (lp.Point xs) = Point xs
by_end p q (lp.Infeasible ys) = where_accepted (excludes (move_program p (q - 1)) ys) (Shown (Rows ys))
by_end p q (lp.Overflow made) = Overflow made
by_end p q (lp.Spent made) = Spent made
by_end p q lp.Memory = Memory

unfoldable pub by_program : Problem → ℕ → Least
by_program p q = if is_built p q then by_end p q (end_of (move_program p (q - 1))) else Wide

abbrev pub least_of : Problem → ℕ → Least
least_of p q = if nat_lt q 2 then Shown Plain else if q == 2 then by_link p else by_program p q

-- the answer is the one wanted; lack of memory says nothing
abbrev pub IsAnswered : Least → Least → Type 0
IsAnswered (Shown proof) wanted = wanted ≡ Shown proof
IsAnswered (Fewer plan) wanted = wanted ≡ Fewer plan
IsAnswered (Point xs) wanted = wanted ≡ Point xs
IsAnswered Wide wanted = wanted ≡ Wide
IsAnswered (Overflow made) wanted = wanted ≡ Overflow made
IsAnswered (Spent made) wanted = wanted ≡ Spent made
IsAnswered Memory wanted = Unit {0}

-- the numbers of steps whose program for one step less may be built
pub record IsTried (q : ℕ) : Type 0 where
  pub least : 3 ≤ q
  pub most : q ≤ 9

-- What is shown passes the check; the plan of fewer steps is valid; the point satisfies the rows for one step less; what is
-- too wide is so by its number of steps or its cells.
abbrev pub IsWorth : Problem → ℕ → Least → Type 0
IsWorth p q (Shown proof) = IsTrue (shows_least p q proof)
IsWorth p q (Fewer plan) = (q ≡ 2) × IsTrue (is_valid_plan p plan)
IsWorth p q (Point xs) = IsTried q × IsFeasible (move_program p (q - 1)) xs
IsWorth p q Wide = (3 ≤ q) × (is_built p q ≡ false)
IsWorth p q (Overflow made) = IsTried q
IsWorth p q (Spent made) = IsTried q
IsWorth p q Memory = Unit {0}
