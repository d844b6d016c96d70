-- A run that names a term names it once, and without it none.
use Rattle.std.proofs.Common.{◌≡◌, ℕ, Bool, true, false, List, [], ◌∷◌, drop, map, String, Global, string_bytes, codes, bytes_eq, Option, Some, None, option_and_then, if◌then◌else◌, refl, sym, ap, ◌∙◌, subst}
use Rattle.text_commands.specs.Words.{number_in, one_or, values_of}
use Rattle.takeover_top.specs.TermPromise.{IsPlainRest}
use Rattle.takeover_top.specs.TermWords.{IsPlain, WithoutTerm, named_term, run_term_by, without_pair, without_term}

-- the values that stand after the name
abbrev terms : List (String Global) → List (List ℕ)
terms pairs = values_of (codes "--term") (map string_bytes pairs)

-- the first of them is taken out
left-by : (name value : String Global) (pairs : List (String Global)) (b : Bool) → bytes_eq (string_bytes name) (codes "--term") ≡ b → terms (without_pair pairs) ≡ drop 1 (terms pairs)
    → terms (without_pair (name ∷ value ∷ pairs)) ≡ drop 1 (terms (name ∷ value ∷ pairs))
left-by name value pairs true is later =
    ap (λ (t : Bool). terms (if t then pairs else name ∷ value ∷ without_pair pairs)) is ∙ sym (ap (λ (t : Bool). drop 1 (if t then string_bytes value ∷ terms pairs else terms pairs)) is)
left-by name value pairs false is later =
    ap (λ (t : Bool). terms (if t then pairs else name ∷ value ∷ without_pair pairs)) is ∙ ap (λ (t : Bool). if t then string_bytes value ∷ terms (without_pair pairs) else terms (without_pair pairs)) is ∙ later
    ∙ sym (ap (λ (t : Bool). drop 1 (if t then string_bytes value ∷ terms pairs else terms pairs)) is)

terms-left : (pairs : List (String Global)) → terms (without_pair pairs) ≡ drop 1 (terms pairs)
terms-left [] = refl
terms-left (name ∷ []) = refl
terms-left (name ∷ value ∷ pairs) = left-by name value pairs (bytes_eq (string_bytes name) (codes "--term")) refl (terms-left pairs)

-- a term is one value
once : (values : List (List ℕ)) (term : ℕ) → option_and_then number_in (one_or [] values) ≡ Some term → drop 1 values ≡ []
once [] term is = absurd (cc is)
once (value ∷ []) term is = refl
once (value ∷ again ∷ more) term is = absurd (cc is)

named-once : (pairs : List (String Global)) (term : ℕ) → named_term (map string_bytes pairs) ≡ Some term → terms (without_pair pairs) ≡ []
named-once pairs term is = terms-left pairs ∙ once (terms pairs) term is

at-once : (run : Bool) (pairs : List (String Global)) (term : ℕ) → (if run then named_term (map string_bytes pairs) else None) ≡ Some term → terms (without_pair pairs) ≡ []
at-once true pairs term is = named-once pairs term is
at-once false pairs term is = absurd (cc is)

none-left : (arguments : List (String Global)) (term : ℕ) → run_term_by (drop 1 arguments) ≡ Some term → terms (drop 2 (without_term arguments)) ≡ []
unfolding run_term_by
none-left [] term is = absurd (cc is)
none-left (program ∷ []) term is = absurd (cc is)
none-left (program ∷ command ∷ pairs) term is = at-once (bytes_eq (string_bytes command) (codes "run")) pairs term is

-- so what is left is all but that pair
pub without-one : (arguments rest : List (String Global)) (term : ℕ) → run_term_by (drop 1 arguments) ≡ Some term → rest ≡ without_term arguments → WithoutTerm arguments rest
without-one arguments rest term is same = record {
  rest = same;
  none = ap (λ (words : List (String Global)). terms (drop 2 words)) same ∙ none-left arguments term is;
}

-- ---- a run that names term 0, and one that names none

pub plain-rest : (arguments rest : List (String Global)) (term : ℕ) → run_term_by (drop 1 arguments) ≡ Some term → IsPlain (run_term_by (drop 1 arguments)) → rest ≡ without_term arguments → IsPlainRest (run_term_by (drop 1 arguments)) arguments rest
plain-rest arguments rest term is plain same = subst (λ (asked : Option ℕ). IsPlainRest asked arguments rest) (sym is) (subst IsPlain is plain, without-one arguments rest term is same)

pub plain-same : (arguments : List (String Global)) → run_term_by (drop 1 arguments) ≡ None → IsPlainRest (run_term_by (drop 1 arguments)) arguments arguments
plain-same arguments is = subst (λ (asked : Option ℕ). IsPlainRest asked arguments arguments) (sym is) refl
