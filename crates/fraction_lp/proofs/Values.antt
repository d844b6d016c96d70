-- What lines come to at values of all numbers, and how exchanges keep it.
use Rattle.std.proofs.Common.{◌≡◌, ℕ, ◌+◌, ◌<◌, Bool, true, false, nat_abs, List, [], ◌∷◌, ◌++◌, Option, Some, None, ap, ◌∙◌, sym, subst, refl, arith}
use Rattle.std.specs.Prelude.{if◌then◌else◌, ◌==◌, nat_lt}
use Rattle.std.proofs.lemmas.Bool.{eqb-true}
use Rattle.fraction_lp.specs.declared.term.Term.{Term}
use Rattle.fraction_lp.specs.Ratio.{Ratio, times, over, sum, product, quotient, negated, is_zero, zero_ratio, one_ratio}
use Rattle.fraction_lp.specs.Dictionary.{Line, with_first, with_term, line_of, term_of, both_lists, coefficient_at, without, below, from, insert_term, over_each, solved_for, times_each, plus_times, add_first, add_times, put_in}
use Rattle.fraction_lp.proofs.Arithmetic.{itself, summed, multiplied, turned_round, nothing, unit, alike, sum_assoc, product-sum, product_assoc, product_comm, product-one, product-zero, negated-sum, negated-product}
use Rattle.fraction_lp.proofs.Calls.{times_is, plus_times_is, over_is, product-quotient, zero_product}
use Rattle.fraction_lp.proofs.Exchanges.{with_first_parts}
use Rattle.fraction_lp.proofs.Sums.{zero-sum}

-- terms at values of the numbers
abbrev pub total : (ℕ → Ratio) → List Term → Ratio
total v [] = zero_ratio
total v (t ∷ ts) = sum (product t.coefficient (v t.number)) (total v ts)

abbrev pub value : (ℕ → Ratio) → Line → Ratio
value v line = sum line.constant (total v line.terms)

swapped : (x y z : Ratio) → sum x (sum y z) ≡ sum y (sum x z)
swapped x y z =
    alike (summed (itself x) (summed (itself y) (itself z))) (summed (itself y) (summed (itself x) (itself z))) (omega arith)

pub total-append : (v : ℕ → Ratio) (xs ys : List Term) → total v (xs ++ ys) ≡ sum (total v xs) (total v ys)
total-append v [] ys = sym (zero-sum (total v ys))
total-append v (x ∷ xs) ys =
    ap (sum (product x.coefficient (v x.number))) (total-append v xs ys)
    ∙ sym (sum_assoc (product x.coefficient (v x.number)) (total v xs) (total v ys))

-- ---- a term taken out

taken_at : (v : ℕ → Ratio) (c : ℕ) (u : Term) (us : List Term) (t : Ratio) (b : Bool) → (u.number == c) ≡ b →
    (coefficient_at c us ≡ Some t → total v us ≡ sum (product t (v c)) (total v (without c us))) →
    (if b then Some u.coefficient else coefficient_at c us) ≡ Some t →
    total v (u ∷ us) ≡ sum (product t (v c)) (total v (if b then us else u ∷ without c us))
taken_at v c u us t true e h k =
    let same : u.coefficient ≡ t = cc in
    ap (λ x. sum (product x (v u.number)) (total v us)) same
    ∙ ap (λ n. sum (product t (v n)) (total v us)) (eqb-true u.number c e)
taken_at v c u us t false e h k =
    ap (sum (product u.coefficient (v u.number))) (h k)
    ∙ swapped (product u.coefficient (v u.number)) (product t (v c)) (total v (without c us))

pub total-taken : (v : ℕ → Ratio) (c : ℕ) (ts : List Term) (t : Ratio) → coefficient_at c ts ≡ Some t →
    total v ts ≡ sum (product t (v c)) (total v (without c ts))
total-taken v c [] t e = cc
total-taken v c (u ∷ us) t e = taken_at v c u us t (u.number == c) refl (total-taken v c us t) e

-- ---- terms before a number and from it on

parted_at : (v : ℕ → Ratio) (k : ℕ) (u : Term) (us : List Term) (b : Bool) →
    total v us ≡ sum (total v (below k us)) (total v (from k us)) →
    total v (u ∷ us) ≡ sum (total v (if b then u ∷ below k us else [])) (total v (if b then from k us else u ∷ us))
parted_at v k u us true h =
    ap (sum (product u.coefficient (v u.number))) h
    ∙ sym (sum_assoc (product u.coefficient (v u.number)) (total v (below k us)) (total v (from k us)))
parted_at v k u us false h = sym (zero-sum (total v (u ∷ us)))

pub total-parted : (v : ℕ → Ratio) (k : ℕ) (ts : List Term) → total v ts ≡ sum (total v (below k ts)) (total v (from k ts))
total-parted v k [] = sym (zero-sum zero_ratio)
total-parted v k (u ∷ us) = parted_at v k u us (nat_lt u.number k) (total-parted v k us)

pub total-insert_term : (v : ℕ → Ratio) (u : Term) (ts : List Term) →
    total v (insert_term u ts) ≡ sum (product u.coefficient (v u.number)) (total v ts)
total-insert_term v u ts =
    total-append v (below u.number ts) (u ∷ from u.number ts)
    ∙ swapped (total v (below u.number ts)) (product u.coefficient (v u.number)) (total v (from u.number ts))
    ∙ ap (sum (product u.coefficient (v u.number))) (sym (total-parted v u.number ts))

-- ---- a line solved for a number

pub term_of_parts : (k : ℕ) (x : Option Ratio) (t : Term) → term_of k x ≡ Some t → (y : Ratio) × (x ≡ Some y) × (t ≡ record { number = k; coefficient = y })
term_of_parts k None t e = cc
term_of_parts k (Some y) t e = (y, refl, cc)

pub total-over_each : (v : ℕ → Ratio) (p : Ratio) (ts zs : List Term) → over_each p ts ≡ Some zs → product p (total v zs) ≡ negated (total v ts)
total-over_each v p [] zs e =
    let none : [] ≡ zs = cc in ap (λ us. product p (total v us)) (sym none) ∙ product-zero p ∙ zero_negated
  where
    zero_negated : zero_ratio ≡ negated zero_ratio
    zero_negated = alike nothing (turned_round nothing) refl
total-over_each v p (t ∷ ts) zs e =
    let parts = with_first_parts (term_of t.number (over (negated t.coefficient) p)) (over_each p ts) zs e in
    let first = term_of_parts t.number (over (negated t.coefficient) p) parts.0 parts.2 in
    let exact = over_is (negated t.coefficient) p first.0 first.1 in
    ap (λ us. product p (total v us)) parts.4
    ∙ ap (λ u. product p (sum (product u.coefficient (v u.number)) (total v parts.1))) first.2
    ∙ product-sum p (product first.0 (v t.number)) (total v parts.1)
    ∙ ap (λ x. sum x (product p (total v parts.1))) (sym (product_assoc p first.0 (v t.number)) ∙ ap (λ x. product x (v t.number)) exact.1 ∙ sym (negated-product t.coefficient (v t.number)))
    ∙ ap (sum (negated (product t.coefficient (v t.number)))) (total-over_each v p ts parts.1 parts.3)
    ∙ sym (negated-sum (product t.coefficient (v t.number)) (total v ts))

pub line_of_parts : (x : Option Ratio) (ts : Option (List Term)) (line : Line) → line_of x ts ≡ Some line →
    (x ≡ Some line.constant) × (ts ≡ Some line.terms)
line_of_parts None ts line e = cc
line_of_parts (Some x) None line e = cc
line_of_parts (Some x) (Some ts) line e =
    let same : record { constant = x; terms = ts } ≡ line = cc in
    (ap (λ (l : Line). Some l.constant) same, ap (λ (l : Line). Some l.terms) same)

-- p times the new line is the old one solved for p times c
solved_times : (v : ℕ → Ratio) (b c : ℕ) (p : Ratio) (line solved : Line) → solved_for b c p line ≡ Some solved →
    product p (value v solved) ≡ sum (negated line.constant) (negated (sum (product (negated one_ratio) (v b)) (total v (without c line.terms))))
solved_times v b c p line solved e =
    let u : Term = record { number = b; coefficient = negated one_ratio } in
    let parts = line_of_parts (over (negated line.constant) p) (over_each p (insert_term u (without c line.terms))) solved e in
    product-sum p solved.constant (total v solved.terms)
    ∙ ap (λ x. sum x (product p (total v solved.terms))) (over_is (negated line.constant) p solved.constant parts.0).1
    ∙ ap (sum (negated line.constant)) (total-over_each v p (insert_term u (without c line.terms)) solved.terms parts.1)
    ∙ ap (λ x. sum (negated line.constant) (negated x)) (total-insert_term v u (without c line.terms))

-- ---- b's line and c's line say the same

cancelled : (p x y : Ratio) → 0 < nat_abs p.top → product p x ≡ product p y → x ≡ y
cancelled p x y h e =
    let whole : product p (quotient one_ratio p) ≡ one_ratio = product-quotient p one_ratio h in
    let back : (z : Ratio) → product (quotient one_ratio p) (product p z) ≡ z =
    λ (z : Ratio). sym (product_assoc (quotient one_ratio p) p z)
    ∙ ap (λ q. product q z) (product_comm (quotient one_ratio p) p ∙ whole) ∙ product_comm one_ratio z ∙ product-one z in
    sym (back x) ∙ ap (product (quotient one_ratio p)) e ∙ back y

solved_there : (k p vc r : Ratio) →
    sum (negated k) (negated (sum (product (negated one_ratio) (sum k (sum (product p vc) r))) r)) ≡ product p vc
solved_there k p vc r =
    alike
    (summed (turned_round (itself k)) (turned_round (summed (multiplied (turned_round unit) (summed (itself k) (summed (multiplied (itself p) (itself vc)) (itself r)))) (itself r))))
    (multiplied (itself p) (itself vc)) (omega arith)

solved_back : (k vb r : Ratio) →
    sum k (sum (sum (negated k) (negated (sum (product (negated one_ratio) vb) r))) r) ≡ vb
solved_back k vb r =
    alike
    (summed (itself k) (summed (summed (turned_round (itself k)) (turned_round (summed (multiplied (turned_round unit) (itself vb)) (itself r)))) (itself r)))
    (itself vb) (omega arith)

value-taken : (v : ℕ → Ratio) (c : ℕ) (p : Ratio) (line : Line) → coefficient_at c line.terms ≡ Some p →
    value v line ≡ sum line.constant (sum (product p (v c)) (total v (without c line.terms)))
value-taken v c p line e = ap (sum line.constant) (total-taken v c line.terms p e)

pub solved_holds : (v : ℕ → Ratio) (b c : ℕ) (p : Ratio) (line solved : Line) → 0 < nat_abs p.top → coefficient_at c line.terms ≡ Some p →
    solved_for b c p line ≡ Some solved → v b ≡ value v line → v c ≡ value v solved
solved_holds v b c p line solved h at e holds =
    let r : Ratio = total v (without c line.terms) in
    sym (cancelled p (value v solved) (v c) h
    (solved_times v b c p line solved e
    ∙ ap (λ x. sum (negated line.constant) (negated (sum (product (negated one_ratio) x) r))) (holds ∙ value-taken v c p line at)
    ∙ solved_there line.constant p (v c) r))

pub solved_held : (v : ℕ → Ratio) (b c : ℕ) (p : Ratio) (line solved : Line) → coefficient_at c line.terms ≡ Some p →
    solved_for b c p line ≡ Some solved → v c ≡ value v solved → v b ≡ value v line
solved_held v b c p line solved at e holds =
    let r : Ratio = total v (without c line.terms) in
    sym (value-taken v c p line at
    ∙ ap (λ x. sum line.constant (sum x r)) (ap (product p) holds ∙ solved_times v b c p line solved e)
    ∙ solved_back line.constant (v b) r)

-- ---- c's line put in

kept_total : (v : ℕ → Ratio) (k : ℕ) (y : Ratio) (us : List Term) (b : Bool) → is_zero y ≡ b →
    total v (if b then us else record { number = k; coefficient = y } ∷ us) ≡ sum (product y (v k)) (total v us)
kept_total v k y us true e = sym (ap (λ x. sum x (total v us)) (zero_product y (v k) e) ∙ zero-sum (total v us))
kept_total v k y us false e = refl

pub with_term_total : (v : ℕ → Ratio) (k : ℕ) (x : Option Ratio) (ts : Option (List Term)) (zs : List Term) → with_term k x ts ≡ Some zs →
    (y : Ratio) × (us : List Term) × (x ≡ Some y) × (ts ≡ Some us) × (total v zs ≡ sum (product y (v k)) (total v us))
with_term_total v k None ts zs e = cc
with_term_total v k (Some y) None zs e = cc
with_term_total v k (Some y) (Some us) zs e =
    let same : (if is_zero y then us else record { number = k; coefficient = y } ∷ us) ≡ zs = cc in
    (y, us, refl, refl, ap (total v) (sym same) ∙ kept_total v k y us (is_zero y) refl)

pub total-times_each : (v : ℕ → Ratio) (t : Ratio) (us zs : List Term) → times_each t us ≡ Some zs → total v zs ≡ product t (total v us)
total-times_each v t [] zs e = let none : [] ≡ zs = cc in ap (total v) (sym none) ∙ sym (product-zero t)
total-times_each v t (u ∷ us) zs e =
    let parts = with_term_total v u.number (times t u.coefficient) (times_each t us) zs e in
    parts.4
    ∙ ap (λ x. sum (product x (v u.number)) (total v parts.1)) (times_is t u.coefficient parts.0 parts.2)
    ∙ ap (sum (product (product t u.coefficient) (v u.number))) (total-times_each v t us parts.1 parts.3)
    ∙ ap (λ x. sum x (product t (total v us))) (product_assoc t u.coefficient (v u.number))
    ∙ sym (product-sum t (product u.coefficient (v u.number)) (total v us))

pub both_lists_parts : {A : Type 0} (xs ys : Option (List A)) (zs : List A) → both_lists xs ys ≡ Some zs →
    (front : List A) × (back : List A) × (xs ≡ Some front) × (ys ≡ Some back) × (zs ≡ front ++ back)
both_lists_parts None ys zs e = cc
both_lists_parts (Some xs) None zs e = cc
both_lists_parts (Some xs) (Some ys) zs e = (xs, ys, refl, refl, cc)

added_same : (xc t uc v r u : Ratio) →
    sum (product (sum xc (product t uc)) v) (sum r (product t u)) ≡ sum (sum (product xc v) r) (product t (sum (product uc v) u))
added_same xc t uc v r u =
    alike
    (summed (multiplied (summed (itself xc) (multiplied (itself t) (itself uc))) (itself v)) (summed (itself r) (multiplied (itself t) (itself u))))
    (summed (summed (multiplied (itself xc) (itself v)) (itself r)) (multiplied (itself t) (summed (multiplied (itself uc) (itself v)) (itself u)))) (omega arith)

added_at : (v : ℕ → Ratio) (t : Ratio) (x u : Term) (us : List Term) (behind : List Term → Option (List Term)) (r : Ratio) (zs : List Term) (b : Bool) →
    (u.number == x.number) ≡ b →
    ((others out : List Term) → behind others ≡ Some out → total v out ≡ sum r (product t (total v others))) →
    (if b then with_term x.number (plus_times x.coefficient t u.coefficient) (behind us) else with_first (Some x) (behind (u ∷ us))) ≡ Some zs →
    total v zs ≡ sum (sum (product x.coefficient (v x.number)) r) (product t (total v (u ∷ us)))
added_at v t x u us behind r zs true e h k =
    let parts = with_term_total v x.number (plus_times x.coefficient t u.coefficient) (behind us) zs k in
    parts.4
    ∙ ap (λ y. sum (product y (v x.number)) (total v parts.1)) (plus_times_is x.coefficient t u.coefficient parts.0 parts.2)
    ∙ ap (sum (product (sum x.coefficient (product t u.coefficient)) (v x.number))) (h us parts.1 parts.3)
    ∙ added_same x.coefficient t u.coefficient (v x.number) r (total v us)
    ∙ ap (λ n. sum (sum (product x.coefficient (v x.number)) r) (product t (sum (product u.coefficient (v n)) (total v us)))) (sym (eqb-true u.number x.number e))
added_at v t x u us behind r zs false e h k =
    let parts = with_first_parts (Some x) (behind (u ∷ us)) zs k in
    let same : x ≡ parts.0 = cc in
    ap (total v) parts.4
    ∙ ap (λ y. sum (product y.coefficient (v y.number)) (total v parts.1)) (sym same)
    ∙ ap (sum (product x.coefficient (v x.number))) (h (u ∷ us) parts.1 parts.3)
    ∙ sym (sum_assoc (product x.coefficient (v x.number)) r (product t (total v (u ∷ us))))

pub total-add_first : (v : ℕ → Ratio) (t : Ratio) (x : Term) (behind : List Term → Option (List Term)) (r : Ratio) (us zs : List Term) →
    ((others out : List Term) → behind others ≡ Some out → total v out ≡ sum r (product t (total v others))) →
    add_first t x behind us ≡ Some zs →
    total v zs ≡ sum (sum (product x.coefficient (v x.number)) r) (product t (total v us))
total-add_first v t x behind r [] zs h k =
    let parts = with_first_parts (Some x) (behind []) zs k in
    let same : x ≡ parts.0 = cc in
    ap (total v) parts.4
    ∙ ap (λ y. sum (product y.coefficient (v y.number)) (total v parts.1)) (sym same)
    ∙ ap (sum (product x.coefficient (v x.number))) (h [] parts.1 parts.3)
    ∙ sym (sum_assoc (product x.coefficient (v x.number)) r (product t zero_ratio))
total-add_first v t x behind r (u ∷ us) zs h k = added_at v t x u us behind r zs (u.number == x.number) refl h k

gathered : (t low s high : Ratio) → sum (product t low) (sum s (product t high)) ≡ sum s (product t (sum low high))
gathered t low s high =
    alike (summed (multiplied (itself t) (itself low)) (summed (itself s) (multiplied (itself t) (itself high))))
    (summed (itself s) (multiplied (itself t) (summed (itself low) (itself high)))) (omega arith)

pub total-add_times : (v : ℕ → Ratio) (t : Ratio) (xs us zs : List Term) → add_times t xs us ≡ Some zs →
    total v zs ≡ sum (total v xs) (product t (total v us))
total-add_times v t [] us zs e = total-times_each v t us zs e ∙ sym (zero-sum (product t (total v us)))
total-add_times v t (x ∷ xs) us zs e =
    let parts = both_lists_parts (times_each t (below x.number us)) (add_first t x (add_times t xs) (from x.number us)) zs e in
    let s : Ratio = sum (product x.coefficient (v x.number)) (total v xs) in
    ap (total v) parts.4
    ∙ total-append v parts.0 parts.1
    ∙ ap (λ y. sum y (total v parts.1)) (total-times_each v t (below x.number us) parts.0 parts.2)
    ∙ ap (sum (product t (total v (below x.number us))))
    (total-add_first v t x (add_times t xs) (total v xs) (from x.number us) parts.1 (λ others out h. total-add_times v t xs others out h) parts.3)
    ∙ gathered t (total v (below x.number us)) s (total v (from x.number us))
    ∙ ap (λ y. sum s (product t y)) (sym (total-parted v x.number us))

put_alike : (k t ks r ts : Ratio) → sum (sum k (product t ks)) (sum r (product t ts)) ≡ sum k (sum (product t (sum ks ts)) r)
put_alike k t ks r ts =
    alike (summed (summed (itself k) (multiplied (itself t) (itself ks))) (summed (itself r) (multiplied (itself t) (itself ts))))
    (summed (itself k) (summed (multiplied (itself t) (summed (itself ks) (itself ts))) (itself r))) (omega arith)

-- c's line put in for c changes nothing where it holds
pub value-put_in : (v : ℕ → Ratio) (solved : Line) (c : ℕ) (line : Line) (t : Ratio) (new : Line) → coefficient_at c line.terms ≡ Some t →
    put_in solved c line t ≡ Some new → v c ≡ value v solved → value v new ≡ value v line
value-put_in v solved c line t new at e holds =
    let parts = line_of_parts (plus_times line.constant t solved.constant) (add_times t (without c line.terms) solved.terms) new e in
    let r : Ratio = total v (without c line.terms) in
    ap (λ y. sum y (total v new.terms)) (plus_times_is line.constant t solved.constant new.constant parts.0)
    ∙ ap (sum (sum line.constant (product t solved.constant))) (total-add_times v t (without c line.terms) solved.terms new.terms parts.1)
    ∙ put_alike line.constant t solved.constant r (total v solved.terms)
    ∙ ap (λ y. sum line.constant (sum (product t y) r)) (sym holds)
    ∙ sym (value-taken v c t line at)
