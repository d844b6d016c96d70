-- The text of a list, an element at a time.
use Rattle.std.proofs.Common.{◌≡◌, ◌⊎◌, inl, inr, ℕ, zero, suc, ◌+◌, ◌<◌, ◌≤◌, nat_lt, Bool, true, false, if◌then◌else◌, lt-ltb, codes, decimal, List, [], ◌∷◌, ◌++◌, map, length, drop, get_or, refl, sym, ap, subst, ◌∙◌, drop-cons, arith}
use Rattle.std.proofs.lemmas.List.{drop_all, drop-map, get_or-map, length-map, length_push}
use Rattle.std.proofs.lemmas.Bool.{cases_lt}
use Rattle.rollout_rules.specs.Sums.{list_below}
use Rattle.rollout_rules.specs.Wan.{Problem, flow_at, no_flow, no_switch}
use Rattle.text_writer.proofs.Pushing.{both, said_so}
use Rattle.json.specs.Print.{escape_byte}
use Rattle.serde_json.specs.Data.{Data, Members, no_members, member, string}
use Rattle.serde_json.specs.View.{items_of}
use Rattle.serde_json.specs.Written.{comma_if, compact_text, items_text, members_text}
use Rattle.rollout_rules.proofs.Rows.{list_below-length}
use Rattle.problem_json.specs.Writing.{number_data, list_data, name_data}
use Rattle.wan_text.specs.Named.{quoted_flow, quoted_name}

-- the text of the elements from number k on, with the closing bracket
abbrev pub text_from : ℕ → List Data → List ℕ
text_from k ds = items_text (nat_lt 0 k) (items_of (drop k ds))

-- An object that is pushed into, by what it says of pushes: that bytes were pushed between two moments, and that two pushes are one.
module _ {S : Type 0} (R : S → List ℕ → S → Type 0) where
  -- Once the text of what is left is pushed, all was pushed since the start.
  abbrev pub Leads : List ℕ → S → S → ℕ → List Data → Type 0
  Leads all start text k ds = (end : S) → R text (text_from k ds) end → R start all end

  pub ends : {start text end : S} (all : List ℕ) (ds : List Data) (k : ℕ) → length ds ≤ k → Leads all start text k ds → R text (93 ∷ []) end → R start all end
  ends {start} {text} {end} all ds k le so is =
      so end (said_so R (sym (ap (λ xs. items_text (nat_lt 0 k) (items_of xs)) (drop_all k ds le))) is)

  -- by a law on pushes
  module _ (further : (a b c : S) (first second : List ℕ) → R a first b → R b second c → R a (first ++ second) c) where
    pub by_three : {a b c d : S} {xs₁ xs₂ xs₃ : List ℕ} → R a xs₁ b → R b xs₂ c → R c xs₃ d → R a (xs₁ ++ (xs₂ ++ xs₃)) d
    by_three e₁ e₂ e₃ = both R further e₁ (both R further e₂ e₃)

    pub by_five : {a b c d e f : S} {xs₁ xs₂ xs₃ xs₄ xs₅ : List ℕ} → R a xs₁ b → R b xs₂ c → R c xs₃ d → R d xs₄ e → R e xs₅ f
        → R a (xs₁ ++ (xs₂ ++ (xs₃ ++ (xs₄ ++ xs₅)))) f
    by_five e₁ e₂ e₃ e₄ e₅ = both R further e₁ (both R further e₂ (by_three e₃ e₄ e₅))

    pub by_seven : {a b c d e f g h : S} {xs₁ xs₂ xs₃ xs₄ xs₅ xs₆ xs₇ : List ℕ} → R a xs₁ b → R b xs₂ c → R c xs₃ d → R d xs₄ e → R e xs₅ f → R f xs₆ g → R g xs₇ h
        → R a (xs₁ ++ (xs₂ ++ (xs₃ ++ (xs₄ ++ (xs₅ ++ (xs₆ ++ xs₇)))))) h
    by_seven e₁ e₂ e₃ e₄ e₅ e₆ e₇ = both R further e₁ (both R further e₂ (by_five e₃ e₄ e₅ e₆ e₇))

    pub by_eight : {a b c d e f g h i : S} {xs₁ xs₂ xs₃ xs₄ xs₅ xs₆ xs₇ xs₈ : List ℕ} → R a xs₁ b → R b xs₂ c → R c xs₃ d → R d xs₄ e → R e xs₅ f → R f xs₆ g → R g xs₇ h → R h xs₈ i
        → R a (xs₁ ++ (xs₂ ++ (xs₃ ++ (xs₄ ++ (xs₅ ++ (xs₆ ++ (xs₇ ++ xs₈))))))) i
    by_eight e₁ e₂ e₃ e₄ e₅ e₆ e₇ e₈ = both R further e₁ (by_seven e₂ e₃ e₄ e₅ e₆ e₇ e₈)

    -- the front of a list was pushed, and none of its elements
    pub begins : {start text : S} (ds : List Data) → R start (91 ∷ []) text → Leads (compact_text (list_data ds)) start text 0 ds
    begins ds is end rest = both R further is rest

    -- one element more
    pub goes_on : {start old comma new : S} (all : List ℕ) (ds : List Data) (k : ℕ) (d : Data)
        → drop k ds ≡ d ∷ drop (k + 1) ds
        → Leads all start old k ds
        → R old (comma_if (nat_lt 0 k)) comma
        → R comma (compact_text d) new
        → Leads all start new (k + 1) ds
    goes_on all ds k d here so with is end rest =
        let later : nat_lt 0 (k + 1) ≡ true = lt-ltb 0 (k + 1) (omega arith) in
        let split : text_from k ds ≡ comma_if (nat_lt 0 k) ++ (compact_text d ++ text_from (k + 1) ds) =
        ap (λ xs. items_text (nat_lt 0 k) (items_of xs)) here ∙ ap (λ b. comma_if (nat_lt 0 k) ++ (compact_text d ++ items_text b (items_of (drop (k + 1) ds)))) (sym later) in
        so end (said_so R (sym split) (by_three with is rest))

pub width_of_member : (plain : Bool) (width : ℕ)
    → members_text true (if plain then no_members else member (codes "width") (number_data width) no_members) ≡ (if plain then [] else codes ",\"width\":" ++ decimal width) ++ 125 ∷ []
unfolding escape_byte
width_of_member true width = refl
width_of_member false width = refl

-- the quoted name of the switch with a number
pub quoted_at : (names : List (List ℕ)) (p : Problem) (w : ℕ) (name : List ℕ) → names ≡ map quoted_name p.switches → w < length names → name ≡ get_or names w name → name ≡ compact_text (name_data p w)
quoted_at names p w name is lt at =
    let many : length names ≡ length p.switches = ap length is ∙ length-map p.switches quoted_name in
    at ∙ ap (λ ns. get_or ns w name) is ∙ get_or-map quoted_name p.switches w no_switch name (omega (arith, lt, many))

-- the quoted name of the flow with a number
pub quoted_flow_at : (names : List (List ℕ)) (p : Problem) (f : ℕ) (name : List ℕ) → names ≡ map quoted_flow p.flows → f < length p.flows → name ≡ get_or names f name → name ≡ compact_text (string (flow_at p f).name)
quoted_flow_at names p f name is lt at =
    at ∙ ap (λ ns. get_or ns f name) is ∙ get_or-map quoted_flow p.flows f no_flow name lt

pub format_member : (plain : Bool) (format : ℕ) (behind : Members)
    → members_text true (if plain then behind else member (codes "format") (number_data format) behind) ≡ (if plain then [] else codes ",\"format\":" ++ decimal format) ++ members_text true behind
unfolding escape_byte
format_member true format behind = refl
format_member false format behind = refl

-- the element with a number, of a list and of a range
pub of_map : {X : Type 0} (f : X → Data) (xs : List X) (k : ℕ) (d : X) → k < length xs → drop k (map f xs) ≡ f (get_or xs k d) ∷ drop (k + 1) (map f xs)
of_map f xs k d lt =
    let more : k + 1 ≡ suc k = omega arith in
    drop-map f k xs ∙ ap (map f) (drop-cons xs k d lt)
    ∙ ap (λ ds. f (get_or xs k d) ∷ ds) (sym (drop-map f (suc k) xs)) ∙ ap (λ n. f (get_or xs k d) ∷ drop n (map f xs)) (sym more)

pub of_element : {X : Type 0} (f : X → Data) (xs : List X) (k : ℕ) (x : X) → k < length xs → x ≡ get_or xs k x → drop k (map f xs) ≡ f x ∷ drop (k + 1) (map f xs)
of_element f xs k x lt is = of_map f xs k x lt ∙ ap (λ y. f y ∷ drop (k + 1) (map f xs)) (sym is)

drop-front : {A : Type 0} (n : ℕ) (xs ys : List A) → n ≤ length xs → drop n (xs ++ ys) ≡ drop n xs ++ ys
drop-front zero xs ys le = refl
drop-front (suc n) [] ys le = absurd (omega arith)
drop-front (suc n) (x ∷ xs) ys le = drop-front n xs ys (omega arith)

one_behind : (f : ℕ → Data) (n k : ℕ) → (k < n) ⊎ (k ≡ n) → (k < n → drop k (list_below n f) ≡ f k ∷ drop (k + 1) (list_below n f))
    → drop k (list_below n f ++ f n ∷ []) ≡ f k ∷ drop (k + 1) (list_below n f ++ f n ∷ [])
one_behind f n k (inl below) so =
    let len : length (list_below n f) ≡ n = list_below-length n f in
    drop-front k (list_below n f) (f n ∷ []) (omega (arith, len)) ∙ ap (λ xs. xs ++ f n ∷ []) (so below)
    ∙ ap (λ xs. f k ∷ xs) (sym (drop-front (k + 1) (list_below n f) (f n ∷ []) (omega (arith, len))))
one_behind f n k (inr same) so =
    let len : length (list_below n f) ≡ n = list_below-length n f in
    let all : length (list_below n f ++ f n ∷ []) ≡ suc n = length_push (list_below n f) (f n) ∙ omega (arith, len) in
    let none : drop (k + 1) (list_below n f ++ f n ∷ []) ≡ [] = drop_all (k + 1) (list_below n f ++ f n ∷ []) (omega (arith, all)) in
    let front : drop k (list_below n f) ≡ [] = drop_all k (list_below n f) (omega (arith, len)) in
    drop-front k (list_below n f) (f n ∷ []) (omega (arith, len)) ∙ ap (λ xs. xs ++ f n ∷ []) front
    ∙ ap (λ m. f m ∷ []) (sym same) ∙ ap (λ xs. f k ∷ xs) (sym none)

either : (k n : ℕ) → k < suc n → (k < n) ⊎ (k ≡ n)
either k n lt = from (cases_lt k n)
  where
    from : (k < n) ⊎ (n ≤ k) → (k < n) ⊎ (k ≡ n)
    from (inl less) = inl less
    from (inr more) = inr (omega arith)

pub of_below : (f : ℕ → Data) (n k : ℕ) → k < n → drop k (list_below n f) ≡ f k ∷ drop (k + 1) (list_below n f)
of_below f zero k lt = absurd (omega arith)
of_below f (suc n) k lt = one_behind f n k (either k n lt) (of_below f n k)
