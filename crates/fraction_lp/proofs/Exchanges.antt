-- What the parts of an exchange leave.
use Rattle.std.proofs.Common.{◌≡◌, ℕ, ◌+◌, List, [], ◌∷◌, ◌++◌, Option, Some, None, length, map, set, ap, ◌∙◌, sym, refl, zero, suc, length-append, add-one}
use Rattle.std.specs.Prelude.{slice_set}
use Rattle.std.proofs.Math.ListN.{length-set}
use Rattle.fraction_lp.specs.declared.term.Term.{Term}
use Rattle.fraction_lp.specs.Dictionary.{Row}
use Rattle.fraction_lp.specs.Ratio.{Ratio}
use Rattle.fraction_lp.specs.Dictionary.{Program, Line, Dictionary, with_first, slot_of, no_lines, slack_line, first_dictionary, put_in_where, put_in_each, coefficient_at, with_line, with_solved, solved_for, line_at, exchanged}

-- both parts of a list that exists do
pub with_first_parts : {A : Type 0} (x : Option A) (xs : Option (List A)) (zs : List A) → with_first x xs ≡ Some zs →
    (y : A) × (ys : List A) × (x ≡ Some y) × (xs ≡ Some ys) × (zs ≡ y ∷ ys)
with_first_parts None xs zs e = cc
with_first_parts (Some x) None zs e = cc
with_first_parts (Some x) (Some xs) zs e = (x, xs, refl, refl, cc)

pub length-put_in_each : (solved : Line) (c : ℕ) (d e : Dictionary) → put_in_each solved c d ≡ Some e → length e ≡ length d
length-put_in_each solved c [] e h = let same : [] ≡ e = cc in ap length (sym same)
length-put_in_each solved c (None ∷ d) e h =
    let parts = with_first_parts (Some None) (put_in_each solved c d) e h in
    ap length parts.4 ∙ ap suc (length-put_in_each solved c d parts.1 parts.3)
length-put_in_each solved c (Some line ∷ d) e h =
    let parts = with_first_parts (slot_of (put_in_where solved c line (coefficient_at c line.terms))) (put_in_each solved c d) e h in
    ap length parts.4 ∙ ap suc (length-put_in_each solved c d parts.1 parts.3)

-- a line that was put in its place
pub with_line_parts : (c : ℕ) (line : Line) (d : Option Dictionary) (e : Dictionary) → with_line c line d ≡ Some e →
    (f : Dictionary) × (d ≡ Some f) × (e ≡ slice_set f c (Some line))
with_line_parts c line None e h = cc
with_line_parts c line (Some d) e h = (d, refl, cc)

pub with_solved_parts : (b c : ℕ) (d : Dictionary) (solved : Option Line) (e : Dictionary) → with_solved b c d solved ≡ Some e →
    (line : Line) × (f : Dictionary) × (solved ≡ Some line) × (put_in_each line c (slice_set d b None) ≡ Some f) × (e ≡ slice_set f c (Some line))
with_solved_parts b c d None e h = cc
with_solved_parts b c d (Some line) e h =
    let parts = with_line_parts c line (put_in_each line c (slice_set d b None)) e h in (line, parts.0, refl, parts.1, parts.2)

pub length-exchanged : (b : ℕ) (t : Term) (d e : Dictionary) → exchanged b t d ≡ Some e → length e ≡ length d
length-exchanged b t d e h =
    let parts = with_solved_parts b t.number d (solved_for b t.number t.coefficient (line_at b d)) e h in
    ap length parts.4 ∙ length-set parts.1 t.number (Some parts.0)
    ∙ length-put_in_each parts.0 t.number (slice_set d b None) parts.1 parts.3 ∙ length-set d b None

pub length-no_lines : (n : ℕ) → length (no_lines n) ≡ n
length-no_lines zero = refl
length-no_lines (suc n) = length-append (no_lines n) (None ∷ []) ∙ ap (λ m. m + 1) (length-no_lines n) ∙ add-one n

length-lines : (rows : List Row) → length (map slack_line rows) ≡ length rows
length-lines [] = refl
length-lines (row ∷ rows) = ap suc (length-lines rows)

pub length-first_dictionary : (p : Program) → length (first_dictionary p) ≡ p.unknowns + length p.rows
length-first_dictionary p =
    length-append (no_lines p.unknowns) (map slack_line p.rows)
    ∙ ap (λ n. n + length (map slack_line p.rows)) (length-no_lines p.unknowns) ∙ ap (λ n. p.unknowns + n) (length-lines p.rows)
