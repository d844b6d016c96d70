-- What is chosen is valid.
use Rattle.std.proofs.Common.{◌≡◌, ℕ, zero, suc, ◌≤◌, Bool, true, false, List, Option, Some, None, option_map, is_some, IfOk, Result, Ok, Err, if◌then◌else◌, nat_le, refl, sym, ap, ◌∙◌, inl, inr, arith, le-leb}
use Rattle.std.proofs.lemmas.Bool.{cases_Bool}
use Rattle.rollout_rules.specs.Wan.{Problem, Plan}
use Rattle.rollout_rules.specs.Valid.{is_valid_plan}
use Rattle.plan_check.specs.First.{first_of, first_below}
use Rattle.plan_check.proofs.Firsts.{first_below_some, first_below_none}
use Rattle.fraction_lp.specs.Ratio.{Ratio}
use Rattle.fraction_lp.specs.Dictionary.{end_of, IsEndUnlessMemory}
use Rattle.fraction_lp.specs.declared.answer.LpAnswer.{LpAnswer}
use Rattle.fraction_lp.specs.declared.answer.LpAnswer.TheVariants.{Point, Infeasible, Overflow, Spent, Memory}
use Rattle.step_lp.specs.Program.{move_program, cells}
use Rattle.plan_choose.specs.Choice.{Choice, plan_at_end, where_valid, step_plan, step_choice}

-- an answer in other words
pub told_as : {A E : Type 0} (r : Result A E) (a b : A) → IfOk r (λ x. x ≡ a) → a ≡ b → IfOk r (λ x. x ≡ b)
told_as (Ok x) a b e same = e ∙ same
told_as (Err fault) a b e same = e

-- ---- where a plan is taken only if it is valid
taken : {A : Type 0} (b : Bool) (x y : A) → (if b then Some x else None) ≡ Some y → (b ≡ true) × (x ≡ y)
taken true x y e = (refl, cc)
taken false x y e = cc

pub where_valid-valid : (p : Problem) (o : Option Plan) (plan : Plan) → where_valid p o ≡ Some plan → is_valid_plan p plan ≡ true
where_valid-valid p None plan e = cc
where_valid-valid p (Some found) plan e =
    let both = taken (is_valid_plan p found) found plan e in
    sym (ap (is_valid_plan p) both.1) ∙ both.0

-- ---- by steps
where_small : (b : Bool) (o : Option Plan) → b ≡ true → (if b then o else None) ≡ o
where_small b o e = rw e refl

where_large : (b : Bool) (o : Option Plan) → b ≡ false → (if b then o else None) ≡ None
where_large b o e = rw e refl

module _ (p : Problem) (q : ℕ) where
  pub step_plan-large : is_some (cells p q) ≡ false → step_plan p q ≡ None
  unfolding step_plan
  step_plan-large large = where_large (is_some (cells p q)) (where_valid p (plan_at_end p q (end_of (move_program p q)))) large

  pub step_plan-small : is_some (cells p q) ≡ true → (answer : LpAnswer) → end_of (move_program p q) ≡ answer → step_plan p q ≡ where_valid p (plan_at_end p q answer)
  unfolding step_plan
  step_plan-small small answer e =
      where_small (is_some (cells p q)) (where_valid p (plan_at_end p q (end_of (move_program p q)))) small
      ∙ ap (λ a. where_valid p (plan_at_end p q a)) e

  -- an end that is no point gives no plan
  pub pointless : (answer end : LpAnswer) → ((xs : List Ratio) → answer ≡ Point xs → ⊥) → (answer ≡ Memory → ⊥) → IsEndUnlessMemory answer end → plan_at_end p q end ≡ None
  pointless (Point xs) end point memory is = absurd (point xs refl)
  pointless (Infeasible ys) end point memory is = ap (plan_at_end p q) is
  pointless (Overflow made) end point memory is = ap (plan_at_end p q) is
  pointless (Spent made) end point memory is = ap (plan_at_end p q) is
  pointless Memory end point memory is = absurd (memory refl)

  pub step_plan-valid : (plan : Plan) → step_plan p q ≡ Some plan → is_valid_plan p plan ≡ true
  unfolding step_plan
  step_plan-valid plan e = elim (cases_Bool (is_some (cells p q))) as (λ c. is_valid_plan p plan ≡ true) [
    | inl small ↦ where_valid-valid p (plan_at_end p q (end_of (move_program p q))) plan (sym (where_small (is_some (cells p q)) (where_valid p (plan_at_end p q (end_of (move_program p q)))) small) ∙ e)
    | inr large ↦ absurd (clash (sym (where_large (is_some (cells p q)) (where_valid p (plan_at_end p q (end_of (move_program p q)))) large) ∙ e))
  ]
    where
      clash : ◌≡◌ {A = Option Plan} None (Some plan) → ⊥
      clash f = cc

  mapped : (o : Option Plan) (c : Choice) → option_map (λ plan. record { plan = plan; rate_steps = q }) o ≡ Some c → o ≡ Some c.plan
  mapped None c e = cc
  mapped (Some plan) c e = let same : ◌≡◌ {A = Choice} (record { plan = plan; rate_steps = q }) c = cc in ap (λ d. Some d.plan) same

  pub step_choice-valid : (c : Choice) → step_choice p q ≡ Some c → is_valid_plan p c.plan ≡ true
  step_choice-valid c e = elim (cases_Bool (nat_le 2 q)) as (λ t. is_valid_plan p c.plan ≡ true) [
    | inl least ↦ step_plan-valid c.plan (mapped (step_plan p q) c (let e2 : (if nat_le 2 q then option_map (λ plan. record { plan = plan; rate_steps = q }) (step_plan p q) else None) ≡ Some c = e in rw least at e2))
    | inr low ↦ absurd (clash (let e2 : (if nat_le 2 q then option_map (λ plan. record { plan = plan; rate_steps = q }) (step_plan p q) else None) ≡ Some c = e in rw low at e2))
  ]
    where
      clash : ◌≡◌ {A = Option Choice} None (Some c) → ⊥
      clash f = cc

pub fewer_steps-valid : (p : Problem) (n : ℕ) (c : Choice) → first_below n (step_choice p) ≡ Some c → is_valid_plan p c.plan ≡ true
fewer_steps-valid p n c e =
    let there = first_below_some (step_choice p) n c e in
    step_choice-valid p there.0 c there.2

-- none of more numbers is none of fewer
pub none_of_fewer : {A : Type 0} (f : ℕ → Option A) (n m : ℕ) → m ≤ n → first_below n f ≡ None → first_below m f ≡ None
none_of_fewer f n zero le e = refl
none_of_fewer f n (suc m) le e =
    let before = none_of_fewer f n m (omega arith) e in
    ap (λ o. first_of o (f m)) before ∙ first_below_none f n m (omega arith) e

-- a number from 2 on with a plan
pub step_choice-is : (p : Problem) (q : ℕ) (plan : Plan) → 2 ≤ q → step_plan p q ≡ Some plan → step_choice p q ≡ Some (record { plan = plan; rate_steps = q })
step_choice-is p q plan least e = rw (le-leb 2 q least) (ap (option_map (λ found. record { plan = found; rate_steps = q })) e)

pub step_choice-none : (p : Problem) (q : ℕ) → 2 ≤ q → step_plan p q ≡ None → step_choice p q ≡ None
step_choice-none p q least e = rw (le-leb 2 q least) (ap (option_map (λ found. record { plan = found; rate_steps = q })) e)
