-- What was pushed, piece by piece and row by row.
use Rattle.std.proofs.Common.{◌≡◌, ℕ, ◌+◌, List, [], ◌++◌, sym, ap, ap₂, subst, ◌∙◌}
use Rattle.std.specs.List.{flat_map}
use Rattle.std.proofs.lemmas.List.{flat_map_more}
use Rattle.std.proofs.lemmas.List.Concat.{flat_map-append}
use Rattle.lists.proofs.Numbers.{one_more}
use Rattle.rollout_rules.specs.Sums.{list_below}
use Rattle.rollout_rules.specs.Wan.{Problem, Plan}
use Rattle.rollout_rules.specs.Items.{Resource}
use Rattle.text_writer.proofs.Pushing.{both, said_so}
use Rattle.plan_texts.specs.Loads.{step_text, step_texts, load_line, load_lines}

-- one row more, and one row of rows
row-more : {X : Type 0} (f : X → List ℕ) (g : ℕ → X) (n : ℕ) → flat_map f (list_below n g) ++ f (g n) ≡ flat_map f (list_below (n + 1) g)
row-more f g n = flat_map_more f [] (list_below n g) (g n) ∙ ap (λ k. flat_map f (list_below k g)) (one_more n)

rows-more : {X Y : Type 0} (h : Y → List ℕ) (f : X → List Y) (g : ℕ → X) (n : ℕ)
    → flat_map h (flat_map f (list_below n g)) ++ flat_map h (f (g n)) ≡ flat_map h (flat_map f (list_below (n + 1) g))
rows-more h f g n =
    let rows = flat_map f (list_below n g) in
    sym (flat_map-append h rows (f (g n)))
    ∙ ap (λ ys. flat_map h ys) (flat_map_more f [] (list_below n g) (g n))
    ∙ ap (λ k. flat_map h (flat_map f (list_below k g))) (one_more n)

-- An object that is pushed into, by what it says of pushes.
module _ {S : Type 0} (R : S → List ℕ → S → Type 0) where
  -- by a law on pushes
  module _ (further : (a b c : S) (first second : List ℕ) → R a first b → R b second c → R a (first ++ second) c) where
    -- Pieces in a row, put together from the left, as a text of a definition is.
    pub by_three : {a b c d : S} {xs₁ xs₂ xs₃ : List ℕ} → R a xs₁ b → R b xs₂ c → R c xs₃ d → R a ((xs₁ ++ xs₂) ++ xs₃) d
    by_three e₁ e₂ e₃ = both R further (both R further e₁ e₂) e₃

    pub by_four : {a b c d e : S} {xs₁ xs₂ xs₃ xs₄ : List ℕ} → R a xs₁ b → R b xs₂ c → R c xs₃ d → R d xs₄ e → R a (((xs₁ ++ xs₂) ++ xs₃) ++ xs₄) e
    by_four e₁ e₂ e₃ e₄ = both R further (by_three e₁ e₂ e₃) e₄

    pub by_five : {a b c d e f : S} {xs₁ xs₂ xs₃ xs₄ xs₅ : List ℕ} → R a xs₁ b → R b xs₂ c → R c xs₃ d → R d xs₄ e → R e xs₅ f
        → R a ((((xs₁ ++ xs₂) ++ xs₃) ++ xs₄) ++ xs₅) f
    by_five e₁ e₂ e₃ e₄ e₅ = both R further (by_four e₁ e₂ e₃ e₄) e₅

    pub by_seven : {a b c d e f g h : S} {xs₁ xs₂ xs₃ xs₄ xs₅ xs₆ xs₇ : List ℕ} → R a xs₁ b → R b xs₂ c → R c xs₃ d → R d xs₄ e → R e xs₅ f → R f xs₆ g → R g xs₇ h
        → R a ((((((xs₁ ++ xs₂) ++ xs₃) ++ xs₄) ++ xs₅) ++ xs₆) ++ xs₇) h
    by_seven e₁ e₂ e₃ e₄ e₅ e₆ e₇ = both R further (both R further (by_five e₁ e₂ e₃ e₄ e₅) e₆) e₇

    pub by_nine : {a b c d e f g h i j : S} {xs₁ xs₂ xs₃ xs₄ xs₅ xs₆ xs₇ xs₈ xs₉ : List ℕ}
        → R a xs₁ b → R b xs₂ c → R c xs₃ d → R d xs₄ e → R e xs₅ f → R f xs₆ g → R g xs₇ h → R h xs₈ i → R i xs₉ j
        → R a ((((((((xs₁ ++ xs₂) ++ xs₃) ++ xs₄) ++ xs₅) ++ xs₆) ++ xs₇) ++ xs₈) ++ xs₉) j
    by_nine e₁ e₂ e₃ e₄ e₅ e₆ e₇ e₈ e₉ = both R further (both R further (by_seven e₁ e₂ e₃ e₄ e₅ e₆ e₇) e₈) e₉

    pub row-pushed : {X : Type 0} {a b c : S} (f : X → List ℕ) (g : ℕ → X) (n : ℕ) → R a (flat_map f (list_below n g)) b → R b (f (g n)) c → R a (flat_map f (list_below (n + 1) g)) c
    row-pushed f g n was told = said_so R (row-more f g n) (both R further was told)

    pub rows-pushed : {X Y : Type 0} {a b c : S} (h : Y → List ℕ) (f : X → List Y) (g : ℕ → X) (n : ℕ) → R a (flat_map h (flat_map f (list_below n g))) b → R b (flat_map h (f (g n))) c
        → R a (flat_map h (flat_map f (list_below (n + 1) g))) c
    rows-pushed h f g n was told = said_so R (rows-more h f g n) (both R further was told)

    pub step-pushed : {s t u : S} (taken most : ℕ → ℕ) (n a b : ℕ) → a ≡ taken n → b ≡ most n → R s (step_texts taken most n) t → R t (step_text a b) u → R s (step_texts taken most (n + 1)) u
    step-pushed taken most n a b ea eb was told =
        said_so R (ap (λ k. step_texts taken most k) (one_more n)) (both R further was (said_so R (ap₂ step_text ea eb) told))

    pub line-pushed : {s t u : S} (p : Problem) (plan : Plan) (resource : ℕ → Resource) (n : ℕ) → R s (load_lines p plan resource n) t → R t (load_line p plan (resource n)) u
        → R s (load_lines p plan resource (n + 1)) u
    line-pushed p plan resource n was told = said_so R (ap (λ k. load_lines p plan resource k) (one_more n)) (both R further was told)
