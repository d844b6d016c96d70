-- Which switch is asked about which items.
use Rattle.std.proofs.Common.{◌≡◌, ℕ, suc, ◌+◌, ◌<◌, Bool, true, false, List, [], ◌∷◌, ◌++◌, length, if◌then◌else◌, Option, None, refl, sym, ap, ◌∙◌, subst, inl, inr, arith, eq-eqb}
use Rattle.std.proofs.lemmas.Bool.{cases_lt, false≢true, le-ltb, lt-ltb, ne_eqb}
use Rattle.std.proofs.lemmas.Option.{slice_get_past}
use Rattle.rollout_rules.specs.Items.{home_of, item_at}
use Rattle.rollout_rules.specs.Operations.{operations}
use Rattle.rollout_rules.specs.Wan.{Plan, Problem}
use Rattle.switch_ports.specs.Homes.{passing_below}
use Rattle.switch_ports.specs.Outboxes.{home_in, is_switch}
use Rattle.held_service.specs.Questions.{asked_home, has_items, is_asked, items_at}

-- an item without an operation, and one with some
pub asked-none : (p : Problem) (plan : Plan) (n count : ℕ) → count ≡ operations p plan (item_at p n) → count ≡ 0 → None ≡ asked_home p plan n
asked-none p plan n count is none =
    sym (ap (λ (b : Bool). if b then None else home_of p (item_at p n)) (eq-eqb (operations p plan (item_at p n)) 0 (sym is ∙ none)))

pub asked-some : (p : Problem) (plan : Plan) (n count : ℕ) (home : Option ℕ) → count ≡ operations p plan (item_at p n) → 0 < count → home ≡ home_of p (item_at p n) → home ≡ asked_home p plan n
asked-some p plan n count home is some same =
    same ∙ sym (ap (λ (b : Bool). if b then None else home_of p (item_at p n)) (ne_eqb (operations p plan (item_at p n)) 0 (λ none. omega (arith, none, is, some))))

-- an item about which a switch is asked is one of these
pub asked-inside : (homes : List (Option ℕ)) (switch item : ℕ) → is_asked homes switch item ≡ true → item < length homes
asked-inside homes switch item is = elim (cases_lt item (length homes)) as (λ _. item < length homes) [
  | inl below ↦ below
  | inr past ↦ absurd (false≢true (sym (ap (λ (h : Option (Option ℕ)). is_switch switch (home_in h)) (slice_get_past homes item past)) ∙ is))
]

-- one number more that may pass a test
pub passing-more : (n : ℕ) (test : ℕ → Bool) → passing_below (n + 1) test ≡ passing_below n test ++ (if test n then n ∷ [] else [])
passing-more n test = let e : suc n ≡ n + 1 = omega arith in subst (λ (m : ℕ). passing_below m test ≡ passing_below n test ++ (if test n then n ∷ [] else [])) e refl

-- whether there is an item to ask about
pub none-asked : (homes : List (Option ℕ)) (switch : ℕ) (items : List ℕ) → items ≡ items_at homes switch → length items ≡ 0 → has_items homes switch ≡ false
none-asked homes switch items are none = le-ltb 0 (length (items_at homes switch)) (omega (arith, ap (λ (xs : List ℕ). length xs) are, none))

pub some-asked : (homes : List (Option ℕ)) (switch : ℕ) (items : List ℕ) → items ≡ items_at homes switch → 0 < length items → has_items homes switch ≡ true
some-asked homes switch items are some = lt-ltb 0 (length (items_at homes switch)) (omega (arith, ap (λ (xs : List ℕ). length xs) are, some))
