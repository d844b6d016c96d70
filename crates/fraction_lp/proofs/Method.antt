-- Every dictionary that the method comes to says what the first one says, so its end is just.
use Rattle.std.proofs.Common.{◌≡◌, ℕ, ◌+◌, ◌<◌, List, Option, Some, None, length, ap, ◌∙◌, sym, subst, refl}
use Rattle.std.specs.Prelude.{slice_get}
use Rattle.fraction_lp.specs.declared.term.Term.{Term}
use Rattle.fraction_lp.specs.declared.answer.LpAnswer.{LpAnswer}
use Rattle.fraction_lp.specs.declared.answer.LpAnswer.TheVariants.{Point, Infeasible, Memory}
use Rattle.fraction_lp.specs.Ratio.{Ratio}
use Rattle.fraction_lp.specs.Dictionary.{Program, IsWhole, Line, Dictionary, leaving, entering, line_at, exchanged, point_of, multipliers, after_leaving, after_entering, first_dictionary}
use Rattle.fraction_lp.specs.Program.{IsJust}
use Rattle.fraction_lp.proofs.Exchanges.{length-exchanged, length-first_dictionary}
use Rattle.fraction_lp.proofs.Sound.{Holds, IsFree, IsProper, IsExchange, is_exchange, holds_after, held_before, proper_after, get_within, leaving_line}
use Rattle.fraction_lp.proofs.Numbers.{entering_parts}
use Rattle.fraction_lp.proofs.First.{first_is_proper}
use Rattle.fraction_lp.proofs.Points.{is_feasible}
use Rattle.fraction_lp.proofs.Certificates.{is_certificate}

-- as wide as the program, each line over free numbers, and true at the same values as the first
pub record IsSound (p : Program) (d : Dictionary) : Type 0 where
  pub width : length d ≡ p.unknowns + length p.rows
  pub proper : IsProper d
  pub forth : (v : ℕ → Ratio) → Holds v (first_dictionary p) → Holds v d
  pub back : (v : ℕ → Ratio) → Holds v d → Holds v (first_dictionary p)

pub first_is_sound : (p : Program) → IsWhole p → IsSound p (first_dictionary p)
first_is_sound p whole = record {
  width = length-first_dictionary p;
  proper = first_is_proper p whole;
  forth = λ v h. h;
  back = λ v h. h;
}

pub stays_sound : (p : Program) (d e : Dictionary) (b : ℕ) (t : Term) → IsSound p d → leaving d ≡ Some b → entering (line_at b d).terms ≡ Some t →
    exchanged b t d ≡ Some e → IsSound p e
stays_sound p d e b t s h q x =
    let parts = is_exchange d e b t s.proper h q x in
    record {
      width = length-exchanged b t d e x ∙ s.width;
      proper = proper_after b t.number t.coefficient parts.0 parts.1 d parts.2 e parts.3 s.proper;
      forth = λ v g. holds_after v b t.number t.coefficient parts.0 parts.1 d parts.2 e parts.3 (s.forth v g);
      back = λ v g. s.back v (held_before v b t.number t.coefficient parts.0 parts.1 d parts.2 e parts.3 g);
    }

pub end_is_just : (p : Program) (d : Dictionary) (answer : LpAnswer) → IsWhole p → IsSound p d →
    ((next : ℕ → Term → LpAnswer) → after_leaving p d next (leaving d) ≡ answer) → IsJust p answer
end_is_just p d answer whole s h = by_leaving (leaving d) refl
  where
    by_entering : (b : ℕ) → leaving d ≡ Some b → (t : Option Term) → entering (line_at b d).terms ≡ t → IsJust p (after_entering p d b (λ b t. Memory) t)
    by_entering b e None q = is_certificate p d b whole s.proper s.width s.forth e q
    by_entering b e (Some t) q = tt

    by_leaving : (b : Option ℕ) → leaving d ≡ b → IsJust p answer
    by_leaving None e =
        subst (IsJust p) (sym (ap (after_leaving p d (λ b t. Memory)) e) ∙ h (λ b t. Memory)) (is_feasible p d whole s.proper s.width s.back e)
    by_leaving (Some b) e =
        subst (IsJust p) (sym (ap (after_leaving p d (λ b t. Memory)) e) ∙ h (λ b t. Memory)) (by_entering b e (entering (line_at b d).terms) refl)

-- the number that enters is one of the program
pub entering_within : (d : Dictionary) (b : ℕ) (t : Term) → IsProper d → leaving d ≡ Some b → entering (line_at b d).terms ≡ Some t → t.number < length d
entering_within d b t proper h q =
    let at = leaving_line d b h in
    let found = entering_parts (IsFree d) 0 (length d) at.0.terms t (proper b at.0 at.1) (ap (λ (l : Line). entering l.terms) (sym at.2) ∙ q) in
    get_within d t.number None found.1
