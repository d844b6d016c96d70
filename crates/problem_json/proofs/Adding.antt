-- Elements added one by one.
use Rattle.std.proofs.Common.{◌≡◌, ℕ, zero, suc, ◌+◌, ◌<◌, ◌≤◌, Bool, true, List, [], ◌∷◌, ◌++◌, map, length, take, get_or, Result, Ok, Err, refl, ap, sym, ◌∙◌, arith}
use Rattle.std.proofs.lemmas.List.{take_more, take_all, map_push}
use Rattle.rollout_rules.specs.Sums.{list_below}
use Rattle.serde_json.specs.Data.{Data}
use Rattle.serde_json.specs.Events.{items_len}
use Rattle.serde_json.specs.View.{items_of}
use Rattle.problem_json.specs.GrammarResults.{◌>>=◌, held, add_each}
use Rattle.problem_json.specs.declared.fault.InputFault.{InputFault}

-- a step that goes on
pub goes_on : {A B : Type 0} (r : Result A InputFault) (a : A) (next : A → Result B InputFault) → r ≡ Ok a → (r >>= next) ≡ next a
goes_on r a next e = ap (λ s. s >>= next) e

pub held-true : (b : Bool) (e : InputFault) → b ≡ true → held b e ≡ Ok tt
held-true b e is = ap (λ c. held c e) is

-- one element more after those that lead to b
add_each-then : {A : Type 0} (f : Data → A → Result A InputFault) (ds : List Data) (d : Data) (a b : A) → add_each f (items_of ds) a ≡ Ok b → add_each f (items_of (ds ++ d ∷ [])) a ≡ f d b
add_each-then {A} f [] d a b e = ends (f d a) ∙ ap (f d) (same (Ok a) refl e)
  where
    ends : (r : Result A InputFault) → (r >>= λ c. Ok c) ≡ r
    ends (Ok c) = refl
    ends (Err fault) = refl

    same : (r : Result A InputFault) → r ≡ Ok a → r ≡ Ok b → a ≡ b
    same r is_a is_b = cc
add_each-then {A} f (x ∷ ds) d a b e = from (f x a) e (λ c. add_each-then f ds d c b)
  where
    from : (r : Result A InputFault) → (r >>= λ c. add_each f (items_of ds) c) ≡ Ok b
        → ((c : A) → add_each f (items_of ds) c ≡ Ok b → add_each f (items_of (ds ++ d ∷ [])) c ≡ f d b)
        → (r >>= λ c. add_each f (items_of (ds ++ d ∷ [])) c) ≡ f d b
    from (Ok c) e later = later c e
    from (Err fault) e later = absurd (cc)

-- where each element leads from one state to the next, all lead from the first to the last
pub add_each-below : {A : Type 0} (f : Data → A → Result A InputFault) (g : ℕ → Data) (state : ℕ → A) (n : ℕ) → ((k : ℕ) → k < n → f (g k) (state k) ≡ Ok (state (k + 1))) → add_each f (items_of (list_below n g)) (state 0) ≡ Ok (state n)
add_each-below f g state zero steps = refl
add_each-below f g state (suc n) steps =
    let more : n + 1 ≡ suc n = omega arith in
    add_each-then f (list_below n g) (g n) (state 0) (state n) (add_each-below f g state n (λ k lt. steps k (omega arith)))
    ∙ steps n (omega arith) ∙ ap (λ m. Ok (state m)) more

take-below : {X : Type 0} (g : X → Data) (xs : List X) (d : X) (n : ℕ) → n ≤ length xs → map g (take n xs) ≡ list_below n (λ k. g (get_or xs k d))
take-below g xs d zero le = refl
take-below g xs d (suc n) le =
    let more : suc n ≡ n + 1 = omega arith in
    ap (λ m. map g (take m xs)) more ∙ ap (map g) (take_more xs n d (omega arith)) ∙ map_push g (take n xs) (get_or xs n d)
    ∙ ap (λ ds. ds ++ g (get_or xs n d) ∷ []) (take-below g xs d n (omega arith))

-- a list by the numbers of its elements
pub map-below : {X : Type 0} (g : X → Data) (xs : List X) (d : X) → map g xs ≡ list_below (length xs) (λ k. g (get_or xs k d))
map-below g xs d = ap (map g) (sym (take_all (length xs) xs (omega arith))) ∙ take-below g xs d (length xs) (omega arith)

pub items_len-items_of : (ds : List Data) → items_len (items_of ds) ≡ length ds
items_len-items_of [] = refl
items_len-items_of (d ∷ ds) = ap suc (items_len-items_of ds)
