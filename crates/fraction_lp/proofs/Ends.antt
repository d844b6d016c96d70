-- The end of the method from a dictionary on, a step at a time.
use Rattle.std.proofs.Common.{◌≡◌, ℕ, zero, suc, ◌+◌, Option, Some, None, ap, ◌∙◌, sym, refl}
use Rattle.fraction_lp.specs.declared.term.Term.{Term}
use Rattle.fraction_lp.specs.declared.answer.LpAnswer.{LpAnswer}
use Rattle.fraction_lp.specs.declared.answer.LpAnswer.TheVariants.{Overflow, Spent}
use Rattle.fraction_lp.specs.Dictionary.{Program, Dictionary, leaving, entering, line_at, exchanged, after_leaving, after_entering, after_exchange, first_dictionary, end_from, end_of}

pub ended : (p : Program) (left made : ℕ) (d : Dictionary) (answer : LpAnswer) →
    ((next : ℕ → Term → LpAnswer) → after_leaving p d next (leaving d) ≡ answer) → end_from p left made d ≡ answer
unfolding end_from
ended p zero made d answer h = h (λ b t. Spent made)
ended p (suc left) made d answer h = h (λ b t. after_exchange made (end_from p left (made + 1)) (exchanged b t d))

chosen : (p : Program) (d : Dictionary) (next : ℕ → Term → LpAnswer) (b : ℕ) (t : Term) →
    leaving d ≡ Some b → entering (line_at b d).terms ≡ Some t → after_leaving p d next (leaving d) ≡ next b t
chosen p d next b t e h = ap (after_leaving p d next) e ∙ ap (after_entering p d b next) h

pub spent : (p : Program) (made : ℕ) (d : Dictionary) (b : ℕ) (t : Term) →
    leaving d ≡ Some b → entering (line_at b d).terms ≡ Some t → end_from p zero made d ≡ Spent made
unfolding end_from
spent p made d b t e h = chosen p d (λ b t. Spent made) b t e h

pub exchanged_on : (p : Program) (left made : ℕ) (d : Dictionary) (b : ℕ) (t : Term) (after : Option Dictionary) →
    leaving d ≡ Some b → entering (line_at b d).terms ≡ Some t → exchanged b t d ≡ after →
    end_from p (suc left) made d ≡ after_exchange made (end_from p left (made + 1)) after
unfolding end_from
exchanged_on p left made d b t after e h x =
    chosen p d (λ b t. after_exchange made (end_from p left (made + 1)) (exchanged b t d)) b t e h
    ∙ ap (after_exchange made (end_from p left (made + 1))) x

pub whole : (p : Program) → end_of p ≡ end_from p 1000 0 (first_dictionary p)
unfolding end_of
whole p = refl
