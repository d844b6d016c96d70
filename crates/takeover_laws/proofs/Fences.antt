-- Laws of fences: a fence more leaves each that stands, and an item with an operation has one once all is fenced.
use Rattle.std.proofs.Common.{◌≡◌, ℕ, ◌<◌, ◌≤◌, Bool, true, false, ◌||◌, ◌==◌, List, length, Option, Some, None, slice_index_or, slice_set, sym, ◌∙◌, subst, ⊎_elim, arith, eqb-true, get_or-set_same, get_or-set_other}
use Rattle.std.proofs.lemmas.Bool.{or_cases, or_left, or_right, cases_eq, cases_lt}
use Rattle.std.proofs.lemmas.List.{set_past}
use Rattle.rollout_rules.specs.Wan.{Problem, Plan}
use Rattle.rollout_rules.specs.Items.{item_count, item_at, home_of}
use Rattle.rollout_rules.specs.Operations.{operations}
use Rattle.rollout_rules.proofs.Below.{all_below-at, all_below-from}
use Rattle.takeover_rules.specs.Takeovers.{is_home_fenced, is_fenced, is_all_fenced}

-- a mark that stands stays with one more, at the same place or at another
here_marked : (fenced : List Bool) (s : ℕ) → slice_index_or fenced s false ≡ true → slice_index_or (slice_set fenced s true) s false ≡ true
here_marked fenced s marked =
    ⊎_elim
    (λ (lt : s < length fenced). get_or-set_same fenced s true false lt)
    (λ past. subst (λ (marks : List Bool). slice_index_or marks s false ≡ true) (sym (set_past fenced s true past)) marked)
    (cases_lt s (length fenced))

marked-more : (fenced : List Bool) (s k : ℕ) → slice_index_or fenced k false ≡ true → slice_index_or (slice_set fenced s true) k false ≡ true
marked-more fenced s k marked =
    ⊎_elim
    (λ (e : s ≡ k). subst (λ (m : ℕ). slice_index_or (slice_set fenced s true) m false ≡ true) e (here_marked fenced s (subst (λ (m : ℕ). slice_index_or fenced m false ≡ true) (sym e) marked)))
    (λ (o : s ≡ k → ⊥). get_or-set_other fenced s k true false (λ e. o (sym e)) ∙ marked)
    (cases_eq s k)

home-more : (fenced : List Bool) (s : ℕ) (home : Option ℕ) → is_home_fenced fenced home ≡ true → is_home_fenced (slice_set fenced s true) home ≡ true
home-more fenced s None marked = marked
home-more fenced s (Some k) marked = marked-more fenced s k marked

module _ (p : Problem) where
  pub fenced-more : (fenced : List Bool) (s n : ℕ) → is_fenced p fenced n ≡ true → is_fenced p (slice_set fenced s true) n ≡ true
  fenced-more fenced s n = home-more fenced s (home_of p (item_at p n))

  module _ (plan : Plan) where
    -- whether an item has no operation
    abbrev is_still : ℕ → Bool
    is_still n = operations p plan (item_at p n) == 0

    pub all_fenced-more : (fenced : List Bool) (s : ℕ) → is_all_fenced p plan fenced ≡ true → is_all_fenced p plan (slice_set fenced s true) ≡ true
    all_fenced-more fenced s all =
        all_below-from (item_count p) (λ n. is_still n || is_fenced p (slice_set fenced s true) n)
        (λ n lt. one n (all_below-at (item_count p) (λ k. is_still k || is_fenced p fenced k) all n lt))
      where
        one : (n : ℕ) → (is_still n || is_fenced p fenced n) ≡ true → (is_still n || is_fenced p (slice_set fenced s true) n) ≡ true
        one n was =
            ⊎_elim
            (λ (still : is_still n ≡ true). or_left (is_still n) (is_fenced p (slice_set fenced s true) n) still)
            (λ (marked : is_fenced p fenced n ≡ true). or_right (is_still n) (is_fenced p (slice_set fenced s true) n) (fenced-more fenced s n marked))
            (or_cases (is_still n) (is_fenced p fenced n) was)

    pub fenced-with_operation : (fenced : List Bool) → is_all_fenced p plan fenced ≡ true → (n : ℕ) → n < item_count p → 1 ≤ operations p plan (item_at p n) → is_fenced p fenced n ≡ true
    fenced-with_operation fenced all n lt some =
        ⊎_elim
        (λ (still : is_still n ≡ true). let none = eqb-true (operations p plan (item_at p n)) 0 still in absurd (omega (arith, some, none)))
        (λ (marked : is_fenced p fenced n ≡ true). marked)
        (or_cases (is_still n) (is_fenced p fenced n) (all_below-at (item_count p) (λ k. is_still k || is_fenced p fenced k) all n lt))
