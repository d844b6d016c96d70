-- An exchange changes neither what the lines say nor that a line speaks of free numbers alone.
use Rattle.std.proofs.Common.{◌≡◌, ◌≢◌, ℕ, zero, suc, ◌+◌, ◌<◌, ◌≤◌, Bool, true, false, nat_abs, ℤ, pos, negsuc, List, [], ◌∷◌, ◌++◌, Option, Some, None, length, set, get_or, ap, ◌∙◌, sym, subst, refl, arith, inl, inr, ◌⊎◌}
use Rattle.std.specs.Prelude.{slice_get, slice_set, ◌==◌, int_lt}
use Rattle.std.proofs.lemmas.Bool.{eqb-true, eqb-false, ltb-true}
use Rattle.std.proofs.lemmas.List.Quantifiers.{position-Some}
use Rattle.std.proofs.lemmas.Option.{slice_get-get_or}
use Rattle.std.proofs.Math.ListN.{length-set}
use Rattle.fraction_lp.specs.declared.term.Term.{Term}
use Rattle.fraction_lp.specs.Ratio.{Ratio, over, negated, one_ratio, is_below_zero}
use Rattle.fraction_lp.specs.Dictionary.{Line, Dictionary, with_first, slot_of, coefficient_at, without, insert_term, over_each, solved_for, put_in, put_in_where, put_in_each, line_at, line_in, is_lacking, leaving, entering, exchanged, plus_times, add_times}
use Rattle.fraction_lp.proofs.Calls.{over_is}
use Rattle.fraction_lp.proofs.Exchanges.{with_first_parts, with_solved_parts, length-put_in_each}
use Rattle.fraction_lp.proofs.Values.{value, line_of_parts, solved_holds, solved_held, value-put_in}
use Rattle.fraction_lp.proofs.Numbers.{Terms, mapped, entering_parts, terms_absent, terms_without, terms_insert_term, terms_over_each, terms_add_times}

-- every line holds at values of all numbers
abbrev pub Holds : (ℕ → Ratio) → Dictionary → Type 0
Holds v d = (k : ℕ) (line : Line) → slice_get d k ≡ Some (Some line) → v k ≡ value v line

-- a number that isn't basic
abbrev pub IsFree : Dictionary → ℕ → Type 0
IsFree d k = slice_get d k ≡ Some None

-- the terms of every line have free numbers, each once and in order
abbrev pub IsProper : Dictionary → Type 0
IsProper d = (k : ℕ) (line : Line) → slice_get d k ≡ Some (Some line) → Terms (IsFree d) 0 (length d) line.terms

-- ---- slots that are set

pub get-set_same : {A : Type 0} (xs : List A) (k : ℕ) (y : A) → k < length xs → slice_get (set xs k y) k ≡ Some y
get-set_same [] k y h = absurd (omega arith)
get-set_same (x ∷ xs) zero y h = refl
get-set_same (x ∷ xs) (suc k) y h = get-set_same xs k y (omega arith)

pub get-set_other : {A : Type 0} (xs : List A) (k j : ℕ) (y : A) → k ≢ j → slice_get (set xs k y) j ≡ slice_get xs j
get-set_other [] k j y h = refl
get-set_other (x ∷ xs) zero zero y h = absurd (h refl)
get-set_other (x ∷ xs) zero (suc j) y h = refl
get-set_other (x ∷ xs) (suc k) zero y h = refl
get-set_other (x ∷ xs) (suc k) (suc j) y h = get-set_other xs k j y (λ e. h (ap suc e))

pub get_within : {A : Type 0} (xs : List A) (k : ℕ) (y : A) → slice_get xs k ≡ Some y → k < length xs
get_within [] k y e = cc
get_within (x ∷ xs) zero y e = omega arith
get_within (x ∷ xs) (suc k) y e = let h : k < length xs = get_within xs k y e in omega arith

-- ---- c's line put in, slot by slot

abbrev pub Goes : Line → ℕ → Option (Option Line) → Option (Option Line) → Type 0
Goes solved c None None = Unit {0}
Goes solved c None (Some y) = ⊥
Goes solved c (Some x) None = ⊥
Goes solved c (Some None) (Some None) = Unit {0}
Goes solved c (Some None) (Some (Some new)) = ⊥
Goes solved c (Some (Some line)) (Some None) = ⊥
Goes solved c (Some (Some line)) (Some (Some new)) = put_in_where solved c line (coefficient_at c line.terms) ≡ Some new

slot_goes : (solved : Line) (c : ℕ) (line : Line) (x : Option Line) (y : Option Line) → put_in_where solved c line (coefficient_at c line.terms) ≡ x →
    slot_of x ≡ Some y → Goes solved c (Some (Some line)) (Some y)
slot_goes solved c line None y h e = cc
slot_goes solved c line (Some new) None h e = cc
slot_goes solved c line (Some new) (Some other) h e = let same : new ≡ other = cc in h ∙ ap Some same

pub each_goes : (solved : Line) (c : ℕ) (d e : Dictionary) → put_in_each solved c d ≡ Some e → (k : ℕ) → Goes solved c (slice_get d k) (slice_get e k)
each_goes solved c [] e h k =
    let none : [] ≡ e = cc in subst (λ (f : Dictionary). Goes solved c None (slice_get f k)) none tt
each_goes solved c (None ∷ d) e h k =
    let parts = with_first_parts (Some None) (put_in_each solved c d) e h in
    let first : None ≡ parts.0 = cc in
    let same : None ∷ parts.1 ≡ e = ap (λ (x : Option Line). x ∷ parts.1) first ∙ sym parts.4 in
    subst (λ (f : Dictionary). Goes solved c (slice_get (None ∷ d) k) (slice_get f k)) same
    (there k (each_goes solved c d parts.1 parts.3))
  where
    there : (k : ℕ) → ((j : ℕ) → Goes solved c (slice_get d j) (slice_get (with_first_parts (Some None) (put_in_each solved c d) e h).1 j)) →
        Goes solved c (slice_get (None ∷ d) k) (slice_get (None ∷ (with_first_parts (Some None) (put_in_each solved c d) e h).1) k)
    there zero f = tt
    there (suc k) f = f k
each_goes solved c (Some line ∷ d) e h k =
    let parts = with_first_parts (slot_of (put_in_where solved c line (coefficient_at c line.terms))) (put_in_each solved c d) e h in
    subst (λ (f : Dictionary). Goes solved c (slice_get (Some line ∷ d) k) (slice_get f k)) (sym parts.4)
    (there k parts.0 parts.1 (slot_goes solved c line (put_in_where solved c line (coefficient_at c line.terms)) parts.0 refl parts.2)
    (each_goes solved c d parts.1 parts.3))
  where
    there : (k : ℕ) (x : Option Line) (f : Dictionary) → Goes solved c (Some (Some line)) (Some x) →
        ((j : ℕ) → Goes solved c (slice_get d j) (slice_get f j)) → Goes solved c (slice_get (Some line ∷ d) k) (slice_get (x ∷ f) k)
    there zero x f g h = g
    there (suc k) x f g h = h k

goes_back : (solved : Line) (c : ℕ) (x : Option (Option Line)) (new : Line) → Goes solved c x (Some (Some new)) →
    (line : Line) × (x ≡ Some (Some line)) × (put_in_where solved c line (coefficient_at c line.terms) ≡ Some new)
goes_back solved c None new h = absurd h
goes_back solved c (Some None) new h = absurd h
goes_back solved c (Some (Some line)) new h = (line, refl, h)

goes_on : (solved : Line) (c : ℕ) (line : Line) (y : Option (Option Line)) → Goes solved c (Some (Some line)) y →
    (new : Line) × (y ≡ Some (Some new)) × (put_in_where solved c line (coefficient_at c line.terms) ≡ Some new)
goes_on solved c line None h = absurd h
goes_on solved c line (Some None) h = absurd h
goes_on solved c line (Some (Some new)) h = (new, refl, h)

stays_free : (solved : Line) (c : ℕ) (y : Option (Option Line)) → Goes solved c (Some None) y → y ≡ Some None
stays_free solved c None h = absurd h
stays_free solved c (Some None) h = refl
stays_free solved c (Some (Some new)) h = absurd h

-- ---- an exchange of b, whose line this is, and c, which has coefficient p in it

pub record IsExchange (b c : ℕ) (p : Ratio) (line solved : Line) (d f e : Dictionary) : Type 0 where
  pub basic : slice_get d b ≡ Some (Some line)
  pub free : IsFree d c
  pub positive : 0 < nat_abs p.top
  pub at : coefficient_at c line.terms ≡ Some p
  pub solves : solved_for b c p line ≡ Some solved
  pub puts : put_in_each solved c (set d b None) ≡ Some f
  pub ends : e ≡ set f c (Some solved)

value-put_in_where : (v : ℕ → Ratio) (solved : Line) (c : ℕ) (line new : Line) (t : Option Ratio) → coefficient_at c line.terms ≡ t →
    put_in_where solved c line t ≡ Some new → v c ≡ value v solved → value v new ≡ value v line
value-put_in_where v solved c line new None at e holds = let same : line ≡ new = cc in ap (value v) (sym same)
value-put_in_where v solved c line new (Some t) at e holds = value-put_in v solved c line t new at e holds

same_or_not : (m n : ℕ) → (m ≡ n) ⊎ (m ≢ n)
same_or_not m n = by_test (m == n) refl
  where
    by_test : (b : Bool) → (m == n) ≡ b → (m ≡ n) ⊎ (m ≢ n)
    by_test true e = inl (eqb-true m n e)
    by_test false e = inr (eqb-false m n e)

width : (b c : ℕ) (p : Ratio) (line solved : Line) (d f e : Dictionary) → IsExchange b c p line solved d f e → length f ≡ length d
width b c p line solved d f e x = length-put_in_each solved c (set d b None) f x.puts ∙ length-set d b None

c_within : (b c : ℕ) (p : Ratio) (line solved : Line) (d f e : Dictionary) → IsExchange b c p line solved d f e → c < length f
c_within b c p line solved d f e x =
    let inside : c < length d = get_within d c None x.free in let same = width b c p line solved d f e x in omega arith

at_c : (b c : ℕ) (p : Ratio) (line solved : Line) (d f e : Dictionary) → IsExchange b c p line solved d f e → slice_get e c ≡ Some (Some solved)
at_c b c p line solved d f e x =
    ap (λ (g : Dictionary). slice_get g c) x.ends ∙ get-set_same f c (Some solved) (c_within b c p line solved d f e x)

elsewhere : (b c : ℕ) (p : Ratio) (line solved : Line) (d f e : Dictionary) → IsExchange b c p line solved d f e → (k : ℕ) → c ≢ k → slice_get e k ≡ slice_get f k
elsewhere b c p line solved d f e x k n = ap (λ (g : Dictionary). slice_get g k) x.ends ∙ get-set_other f c k (Some solved) n

b_freed : (b c : ℕ) (p : Ratio) (line solved : Line) (d f e : Dictionary) → IsExchange b c p line solved d f e → slice_get (set d b None) b ≡ Some None
b_freed b c p line solved d f e x = get-set_same d b None (get_within d b (Some line) x.basic)

pub holds_after : (v : ℕ → Ratio) (b c : ℕ) (p : Ratio) (line solved : Line) (d f e : Dictionary) → IsExchange b c p line solved d f e → Holds v d → Holds v e
holds_after v b c p line solved d f e x holds k new h =
    let here : v c ≡ value v solved = solved_holds v b c p line solved x.positive x.at x.solves (holds b line x.basic) in
    by_place here (same_or_not c k)
  where
    apart_from_b : (old : Line) → slice_get (set d b None) k ≡ Some (Some old) → b ≢ k
    apart_from_b old g q =
        let none : slice_get (set d b None) k ≡ Some None = ap (slice_get (set d b None)) (sym q) ∙ b_freed b c p line solved d f e x in cc

    by_place : v c ≡ value v solved → (c ≡ k) ⊎ (c ≢ k) → v k ≡ value v new
    by_place here (inl q) =
        let there : slice_get e k ≡ Some (Some solved) = ap (slice_get e) (sym q) ∙ at_c b c p line solved d f e x in
        let same : solved ≡ new = cc in
        ap v (sym q) ∙ here ∙ ap (value v) same
    by_place here (inr q) =
        let there : slice_get f k ≡ Some (Some new) = sym (elsewhere b c p line solved d f e x k q) ∙ h in
        let parts = goes_back solved c (slice_get (set d b None) k) new
        (subst (Goes solved c (slice_get (set d b None) k)) there (each_goes solved c (set d b None) f x.puts k)) in
        let before : slice_get d k ≡ Some (Some parts.0) = sym (get-set_other d b k None (apart_from_b parts.0 parts.1)) ∙ parts.1 in
        holds k parts.0 before
        ∙ sym (value-put_in_where v solved c parts.0 new (coefficient_at c parts.0.terms) refl parts.2 here)

pub held_before : (v : ℕ → Ratio) (b c : ℕ) (p : Ratio) (line solved : Line) (d f e : Dictionary) → IsExchange b c p line solved d f e → Holds v e → Holds v d
held_before v b c p line solved d f e x holds k old h =
    by_place (holds c solved (at_c b c p line solved d f e x)) (same_or_not b k)
  where
    by_place : v c ≡ value v solved → (b ≡ k) ⊎ (b ≢ k) → v k ≡ value v old
    by_place here (inl q) =
        let there : slice_get d k ≡ Some (Some line) = ap (slice_get d) (sym q) ∙ x.basic in
        let same : line ≡ old = cc in
        ap v (sym q) ∙ solved_held v b c p line solved x.at x.solves here ∙ ap (value v) same
    by_place here (inr q) =
        let there : slice_get (set d b None) k ≡ Some (Some old) = get-set_other d b k None q ∙ h in
        let parts = goes_on solved c old (slice_get f k)
        (subst (λ (y : Option (Option Line)). Goes solved c y (slice_get f k)) there (each_goes solved c (set d b None) f x.puts k)) in
        let other : c ≢ k = λ (r : c ≡ k). let none : slice_get d k ≡ Some None = ap (slice_get d) (sym r) ∙ x.free in cc in
        holds k parts.0 (elsewhere b c p line solved d f e x k other ∙ parts.1)
        ∙ value-put_in_where v solved c old parts.0 (coefficient_at c old.terms) refl parts.2 here

-- ---- free numbers

freed : (b c : ℕ) (p : Ratio) (line solved : Line) (d f e : Dictionary) → IsExchange b c p line solved d f e →
    (j : ℕ) → IsFree d j × (c ≢ j) → IsFree e j
freed b c p line solved d f e x j h =
    let other : b ≢ j = λ (r : b ≡ j). let some : slice_get d j ≡ Some (Some line) = ap (slice_get d) (sym r) ∙ x.basic in let none : slice_get d j ≡ Some None = h.0 in cc in
    let there : slice_get (set d b None) j ≡ Some None = get-set_other d b j None other ∙ h.0 in
    elsewhere b c p line solved d f e x j h.1
    ∙ stays_free solved c (slice_get f j)
    (subst (λ (y : Option (Option Line)). Goes solved c y (slice_get f j)) there (each_goes solved c (set d b None) f x.puts j))

c_apart : (b c : ℕ) (p : Ratio) (line solved : Line) (d f e : Dictionary) → IsExchange b c p line solved d f e → c ≢ b
c_apart b c p line solved d f e x r =
    let none : slice_get d b ≡ Some None = ap (slice_get d) (sym r) ∙ x.free in let some : slice_get d b ≡ Some (Some line) = x.basic in cc

b_is_free : (b c : ℕ) (p : Ratio) (line solved : Line) (d f e : Dictionary) → IsExchange b c p line solved d f e → IsFree e b
b_is_free b c p line solved d f e x =
    elsewhere b c p line solved d f e x b (c_apart b c p line solved d f e x)
    ∙ stays_free solved c (slice_get f b)
    (subst (λ (y : Option (Option Line)). Goes solved c y (slice_get f b)) (b_freed b c p line solved d f e x) (each_goes solved c (set d b None) f x.puts b))

solved_terms : (b c : ℕ) (p : Ratio) (line solved : Line) (d f e : Dictionary) → IsExchange b c p line solved d f e →
    Terms (IsFree d) 0 (length d) line.terms → Terms (IsFree e) 0 (length d) solved.terms
solved_terms b c p line solved d f e x h =
    let u : Term = record { number = b; coefficient = negated one_ratio } in
    let parts = line_of_parts (over (negated line.constant) p) (over_each p (insert_term u (without c line.terms))) solved x.solves in
    terms_over_each (IsFree e) 0 (length d) p (insert_term u (without c line.terms)) solved.terms parts.1
    (terms_insert_term (λ j. IsFree d j × (c ≢ j)) (IsFree e) 0 (length d) u (without c line.terms)
    (λ j g q. let some : slice_get d j ≡ Some (Some line) = ap (slice_get d) (sym q) ∙ x.basic in let none : slice_get d j ≡ Some None = g.0 in cc)
    (freed b c p line solved d f e x) (b_is_free b c p line solved d f e x) (omega arith) (get_within d b (Some line) x.basic)
    (terms_without (IsFree d) c 0 (length d) line.terms h))

put_terms : (b c : ℕ) (p : Ratio) (line solved : Line) (d f e : Dictionary) → IsExchange b c p line solved d f e →
    Terms (IsFree e) 0 (length d) solved.terms → (old new : Line) → Terms (IsFree d) 0 (length d) old.terms → (t : Option Ratio) →
    coefficient_at c old.terms ≡ t → put_in_where solved c old t ≡ Some new → Terms (IsFree e) 0 (length d) new.terms
put_terms b c p line solved d f e x s old new h None at q =
    let same : old ≡ new = cc in
    subst (λ (l : Line). Terms (IsFree e) 0 (length d) l.terms) same
    (mapped (λ j. IsFree d j × (c ≢ j)) (IsFree e) 0 (length d) old.terms (freed b c p line solved d f e x)
    (terms_absent (IsFree d) c 0 (length d) old.terms at h))
put_terms b c p line solved d f e x s old new h (Some t) at q =
    let parts = line_of_parts (plus_times old.constant t solved.constant) (add_times t (without c old.terms) solved.terms) new q in
    terms_add_times (IsFree e) 0 (length d) t (without c old.terms) solved.terms new.terms parts.1
    (mapped (λ j. IsFree d j × (c ≢ j)) (IsFree e) 0 (length d) (without c old.terms) (freed b c p line solved d f e x)
    (terms_without (IsFree d) c 0 (length d) old.terms h))
    s

pub proper_after : (b c : ℕ) (p : Ratio) (line solved : Line) (d f e : Dictionary) → IsExchange b c p line solved d f e → IsProper d → IsProper e
proper_after b c p line solved d f e x proper k new h =
    let long : length e ≡ length d = ap length x.ends ∙ length-set f c (Some solved) ∙ width b c p line solved d f e x in
    let s : Terms (IsFree e) 0 (length d) solved.terms = solved_terms b c p line solved d f e x (proper b line x.basic) in
    subst (λ (n : ℕ). Terms (IsFree e) 0 n new.terms) (sym long) (by_place s (same_or_not c k))
  where
    apart_from_b : (old : Line) → slice_get (set d b None) k ≡ Some (Some old) → b ≢ k
    apart_from_b old g q =
        let none : slice_get (set d b None) k ≡ Some None = ap (slice_get (set d b None)) (sym q) ∙ b_freed b c p line solved d f e x in cc

    by_place : Terms (IsFree e) 0 (length d) solved.terms → (c ≡ k) ⊎ (c ≢ k) → Terms (IsFree e) 0 (length d) new.terms
    by_place s (inl q) =
        let there : slice_get e k ≡ Some (Some solved) = ap (slice_get e) (sym q) ∙ at_c b c p line solved d f e x in
        let same : solved ≡ new = cc in
        subst (λ (l : Line). Terms (IsFree e) 0 (length d) l.terms) same s
    by_place s (inr q) =
        let there : slice_get f k ≡ Some (Some new) = sym (elsewhere b c p line solved d f e x k q) ∙ h in
        let parts = goes_back solved c (slice_get (set d b None) k) new
        (subst (Goes solved c (slice_get (set d b None) k)) there (each_goes solved c (set d b None) f x.puts k)) in
        let before : slice_get d k ≡ Some (Some parts.0) = sym (get-set_other d b k None (apart_from_b parts.0 parts.1)) ∙ parts.1 in
        put_terms b c p line solved d f e x s parts.0 new (proper k parts.0 before) (coefficient_at c parts.0.terms) refl parts.2

-- ---- the exchange of the method

lacking_line : (slot : Option Line) → is_lacking slot ≡ true → (line : Line) × (slot ≡ Some line) × (is_below_zero line.constant ≡ true)
lacking_line None e = cc
lacking_line (Some line) e = (line, refl, e)

-- the number that leaves has a line with a negative constant
pub leaving_line : (d : Dictionary) (b : ℕ) → leaving d ≡ Some b →
    (line : Line) × (slice_get d b ≡ Some (Some line)) × (line_at b d ≡ line) × (is_below_zero line.constant ≡ true)
leaving_line d b e =
    let here = position-Some is_lacking d b None e in
    let parts = lacking_line (get_or d b None) here.1 in
    let at : slice_get d b ≡ Some (Some parts.0) = slice_get-get_or d b None here.0 ∙ ap Some parts.1 in
    (parts.0, at, ap line_in at, parts.2)

above_zero : (z : ℤ) → int_lt (pos 0) z ≡ true → 0 < nat_abs z
above_zero (pos n) e = ltb-true 0 n e
above_zero (negsuc n) e = omega arith

pub is_exchange : (d e : Dictionary) (b : ℕ) (t : Term) → IsProper d → leaving d ≡ Some b → entering (line_at b d).terms ≡ Some t → exchanged b t d ≡ Some e →
    (line : Line) × (solved : Line) × (f : Dictionary) × IsExchange b t.number t.coefficient line solved d f e
is_exchange d e b t proper h q x =
    let at = leaving_line d b h in
    let found = entering_parts (IsFree d) 0 (length d) at.0.terms t (proper b at.0 at.1) (ap (λ (l : Line). entering l.terms) (sym at.2) ∙ q) in
    let parts = with_solved_parts b t.number d (solved_for b t.number t.coefficient (line_at b d)) e x in (
      at.0,
      parts.0,
      parts.1,
      record {
        basic = at.1;
        free = found.1;
        positive = above_zero t.coefficient.top found.2;
        at = found.0;
        solves = ap (solved_for b t.number t.coefficient) (sym at.2) ∙ parts.2;
        puts = parts.3;
        ends = parts.4;
      },
    )
