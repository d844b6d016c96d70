-- Numbers that pass a test, each once.
use Rattle.std.proofs.Common.{◌≡◌, ℕ, zero, suc, ◌+◌, ◌<◌, Bool, true, false, cond, ◌||◌, List, [], ◌∷◌, ◌++◌, length, nat_eq, refl, sym, ap, ap₂, ◌∙◌, subst, arith, append-nil, get_or, take, drop, Ok, Err}
use Rattle.std.specs.Prelude.{All, IfOk, Result}
use Rattle.std.proofs.lemmas.List.Elements.{All-from_recursion}
use Rattle.std.proofs.lemmas.Bool.{ne_eqb}
use Rattle.std.specs.List.{AllByRecursion, IsDistinct}
use Rattle.lists.proofs.Rows.{parted}
use Rattle.rollout_rules.specs.Wan.{Plan, Problem}
use Rattle.switch_ports.specs.Homes.{is_working_home, passing_below, some_below, working_homes}
use Rattle.switch_ports.proofs.Given.{all_both, all_front, all_behind, all_to}
use Rattle.switch_ports.proofs.Places.{swapped}

pub passing_more : (n : ℕ) (test : ℕ → Bool) → passing_below (n + 1) test ≡ passing_below n test ++ cond (test n) (n ∷ []) []
passing_more n test = let e : suc n ≡ n + 1 = omega arith in subst (λ m. passing_below m test ≡ passing_below n test ++ cond (test n) (n ∷ []) []) e refl

pub some_more : (n : ℕ) (test : ℕ → Bool) → some_below (n + 1) test ≡ (some_below n test || test n)
some_more n test = let e : suc n ≡ n + 1 = omega arith in subst (λ m. some_below m test ≡ (some_below n test || test n)) e refl

pub passing_same : (n : ℕ) (f g : ℕ → Bool) → ((k : ℕ) → k < n → f k ≡ g k) → passing_below n f ≡ passing_below n g
passing_same zero f g same = refl
passing_same (suc n) f g same =
    ap₂ (λ (xs : List ℕ) (b : Bool). xs ++ cond b (n ∷ []) []) (passing_same n f g (λ k lt. same k (omega (arith, lt)))) (same n (omega arith))

if_chosen : (b : Bool) (R : ℕ → Type 0) (n : ℕ) → R n → AllByRecursion R (cond b (n ∷ []) [])
if_chosen true R n here = (here, tt)
if_chosen false R n here = tt

pub passing_low : (n : ℕ) (test : ℕ → Bool) → AllByRecursion (λ m. m < n) (passing_below n test)
passing_low zero test = tt
passing_low (suc n) test =
    all_both (λ m. m < suc n) (passing_below n test) (cond (test n) (n ∷ []) [])
    (all_to (λ m. m < n) (λ m. m < suc n) (λ m lt. omega (arith, lt)) (passing_below n test) (passing_low n test))
    (if_chosen (test n) (λ m. m < suc n) n (omega arith))

-- one more, which differs from all
pub distinct_more : (ns : List ℕ) (n : ℕ) → IsDistinct nat_eq ns → AllByRecursion (λ m. nat_eq n m ≡ false) ns → IsDistinct nat_eq (ns ++ n ∷ [])
unfolding IsDistinct
distinct_more [] n distinct apart = (tt, tt)
distinct_more (m ∷ ms) n distinct apart = (all_both (λ y. nat_eq m y ≡ false) ms (n ∷ []) distinct.0 (swapped n m apart.0, tt), distinct_more ms n distinct.1 apart.1)

above : (n m : ℕ) → m < n → nat_eq n m ≡ false
above n m lt = ne_eqb n m (λ same. omega (arith, same, lt))

distinct_if : (b : Bool) (ns : List ℕ) (n : ℕ) → IsDistinct nat_eq ns → AllByRecursion (λ m. nat_eq n m ≡ false) ns → IsDistinct nat_eq (ns ++ cond b (n ∷ []) [])
distinct_if true ns n distinct apart = distinct_more ns n distinct apart
distinct_if false ns n distinct apart = subst (IsDistinct nat_eq) (sym (append-nil ns)) distinct

-- the numbers that pass are distinct
pub passing_distinct : (n : ℕ) (test : ℕ → Bool) → IsDistinct nat_eq (passing_below n test)
unfolding IsDistinct
passing_distinct zero test = tt
passing_distinct (suc n) test =
    distinct_if (test n) (passing_below n test) n (passing_distinct n test)
    (all_to (λ m. m < n) (λ m. nat_eq n m ≡ false) (above n) (passing_below n test) (passing_low n test))

-- of distinct numbers one differs from those before it
pub distinct_before : (ns : List ℕ) (n : ℕ) (ms : List ℕ) → IsDistinct nat_eq (ns ++ n ∷ ms) → AllByRecursion (λ m. nat_eq n m ≡ false) ns
unfolding IsDistinct
distinct_before [] n ms distinct = tt
distinct_before (k ∷ ks) n ms distinct = (swapped k n (all_behind (λ y. nat_eq k y ≡ false) ks (n ∷ ms) distinct.0).0, distinct_before ks n ms distinct.1)

pub distinct_front : (ns ms : List ℕ) → IsDistinct nat_eq (ns ++ ms) → IsDistinct nat_eq ns
unfolding IsDistinct
distinct_front [] ms distinct = tt
distinct_front (n ∷ ns) ms distinct = (all_front (λ y. nat_eq n y ≡ false) ns ms distinct.0, distinct_front ns ms distinct.1)

-- where a mark is set for each switch at which there is work, their numbers are its homes
pub homes_marked : {E : Type 0} (p : Problem) (plan : Plan) (marks : List Bool) → length marks ≡ length p.switches → ((w : ℕ) → w < length p.switches → get_or marks w false ≡ is_working_home p plan w)
    → (numbers : Result (List ℕ) E) → IfOk numbers (λ ns. ns ≡ passing_below (length marks) (λ n. get_or marks n false)) → IfOk numbers (λ ns. ns ≡ working_homes p plan)
homes_marked p plan marks long each (Ok ns) is =
    is ∙ ap (λ m. passing_below m (λ n. get_or marks n false)) long ∙ passing_same (length p.switches) (λ n. get_or marks n false) (is_working_home p plan) each
homes_marked p plan marks long each (Err e) is = tt

pub distinct_at : (ns : List ℕ) (i : ℕ) → i < length ns → IsDistinct nat_eq ns → AllByRecursion (λ m. nat_eq (get_or ns i 0) m ≡ false) (take i ns)
distinct_at ns i inside distinct = distinct_before (take i ns) (get_or ns i 0) (drop (suc i) ns) (subst (IsDistinct nat_eq) (parted ns i 0 inside) distinct)

-- each of them is below the bound
pub passing_inside : (n : ℕ) (test : ℕ → Bool) (ns : List ℕ) → ns ≡ passing_below n test → All (λ m. m < n) ns
passing_inside n test ns are = subst (All (λ m. m < n)) (sym are) (All-from_recursion (λ m. m < n) (passing_below n test) (passing_low n test))
