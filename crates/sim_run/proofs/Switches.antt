-- What the switches hold, by how many operations they have applied.
use Rattle.std.proofs.Common.{◌≡◌, ℕ, zero, suc, ◌+◌, ◌<◌, Bool, true, false, cond, if◌then◌else◌, ◌==◌, List, [], ◌∷◌, ◌++◌, length, length-set, get_or, set, replicate, refl, sym, ap, ap₂, ◌∙◌, subst, inl, inr, arith}
use Rattle.std.proofs.lemmas.Bool.{cases_eq}
use Rattle.std.proofs.lemmas.List.{get_or-set_same, get_or-set_other, ext_get_or, get_or-replicate, length-replicate}
use Rattle.lists.proofs.Conditions.{or_with_false}
use Rattle.rollout_rules.specs.Sums.{list_below}
use Rattle.rollout_rules.specs.Wan.{Problem, Plan}
use Rattle.rollout_rules.specs.Items.{item_count, item_at}
use Rattle.rollout_rules.specs.Operations.{content_after}
use Rattle.rollout_rules.specs.History.{no_start}
use Rattle.rollout_rules.specs.declared.held.Held.{Held}
use Rattle.rollout_rules.specs.Agent.{nothing_held, pair_of, first_pair, is_next_command, held_after}
use Rattle.rollout_rules.specs.World.{holding_of, pair_at, no_pairs}
use Rattle.rollout_rules.proofs.Rows.{list_below-length, list_below-at}
use Rattle.sim_run.specs.Passing.{applied_after, holding_at, holdings}

list_below-agree : {X : Type 0} → (n : ℕ) (f g : ℕ → X) → ((k : ℕ) → k < n → f k ≡ g k) → list_below n f ≡ list_below n g
list_below-agree zero f g same = refl
list_below-agree (suc n) f g same = ap₂ (λ xs x. xs ++ x ∷ []) (list_below-agree n f g (λ k lt. same k (omega arith))) (same n (omega arith))

either : {A B : Type 0} → (f : A → B) (b : Bool) (x y : A) → cond b (f x) (f y) ≡ f (cond b x y)
either f true x y = refl
either f false x y = refl

-- by the agent rule, within the first migration
pub applied-next : (x m : ℕ) → (if is_next_command (pair_of 0 x) (pair_of 0 m) then pair_of 0 m else pair_of 0 x).number ≡ applied_after x m
applied-next x m =
    ap (λ b. (cond b (pair_of 0 m) (pair_of 0 x)).number) (or_with_false (m == x + 1))
    ∙ sym (either (λ (h : Held). h.number) (m == x + 1) (pair_of 0 m) (pair_of 0 x))

module _ (p : Problem) (plan : Plan) where
  holdings-length : (xs : List ℕ) → length (holdings p plan xs) ≡ length xs
  holdings-length xs = list_below-length (length xs) (λ n. holding_at p plan n (get_or xs n 0))

  pub holdings-at : (xs : List ℕ) (i : ℕ) → i < length xs → get_or (holdings p plan xs) i nothing_held ≡ holding_at p plan i (get_or xs i 0)
  holdings-at xs i inside = list_below-at (length xs) (λ n. holding_at p plan n (get_or xs n 0)) i nothing_held inside

  -- another number at one item
  pub holdings-set : (xs : List ℕ) (i x : ℕ) → i < length xs → holdings p plan (set xs i x) ≡ set (holdings p plan xs) i (holding_at p plan i x)
  holdings-set xs i x inside =
      ext_get_or nothing_held (holdings p plan (set xs i x)) (set (holdings p plan xs) i (holding_at p plan i x))
      (holdings-length (set xs i x) ∙ length-set xs i x ∙ sym (holdings-length xs) ∙ sym (length-set (holdings p plan xs) i (holding_at p plan i x)))
      (λ k lt. at k (subst (λ n. k < n) (holdings-length (set xs i x)) lt))
    where
      at : (k : ℕ) → k < length (set xs i x) → get_or (holdings p plan (set xs i x)) k nothing_held ≡ get_or (set (holdings p plan xs) i (holding_at p plan i x)) k nothing_held
      at k lt = holdings-at (set xs i x) k lt ∙ elim (cases_eq i k) as (λ _. holding_at p plan k (get_or (set xs i x) k 0) ≡ get_or (set (holdings p plan xs) i (holding_at p plan i x)) k nothing_held) [
        | inl same ↦ subst (λ m. holding_at p plan m (get_or (set xs i x) m 0) ≡ get_or (set (holdings p plan xs) i (holding_at p plan i x)) m nothing_held) same
            (ap (holding_at p plan i) (get_or-set_same xs i x 0 inside)
            ∙ sym (get_or-set_same (holdings p plan xs) i (holding_at p plan i x) nothing_held (subst (λ n. i < n) (sym (holdings-length xs)) inside)))
        | inr other ↦
            ap (holding_at p plan k) (get_or-set_other xs i k x 0 (λ q. other (sym q)))
            ∙ sym (get_or-set_other (holdings p plan xs) i k (holding_at p plan i x) nothing_held (λ q. other (sym q))
            ∙ holdings-at xs k (subst (λ n. k < n) (length-set xs i x) lt))
      ]

  next : (x m : ℕ) → is_next_command (pair_of 0 x) (pair_of 0 m) ≡ (m == x + 1)
  next x m = or_with_false (m == x + 1)

  -- the switch of item n applies the next operation alone
  pub holding-after : (n x m : ℕ) → held_after (holding_at p plan n x) (pair_of 0 m) (content_after p plan (item_at p n) m) ≡ holding_at p plan n (applied_after x m)
  holding-after n x m = ap (λ b. cond b (holding_at p plan n m) (holding_at p plan n x)) (next x m) ∙ either (holding_at p plan n) (m == x + 1) m x

  -- what the switches hold where nothing was ever applied
  pub holdings-first : (items : ℕ) → items ≡ item_count p → holdings p plan (replicate items 0) ≡ list_below (item_count p) (λ n. holding_of p plan (no_start p) 0 n (pair_at (no_pairs p) n))
  holdings-first items e =
      ap (λ n. list_below n (λ k. holding_at p plan k (get_or (replicate items 0) k 0))) (length-replicate items 0 ∙ e)
      ∙ list_below-agree (item_count p) _ _
      (λ k lt. ap (holding_at p plan k) (get_or-replicate items k 0 0 (subst (λ n. k < n) (sym e) lt)) ∙ sym (ap (holding_of p plan (no_start p) 0 k) (list_below-at (item_count p) (λ n. first_pair) k first_pair lt)))

  -- a start at which nothing is settled
  pub nothing-settled : (items : ℕ) → items ≡ item_count p → replicate items 0 ≡ no_start p
  nothing-settled items e =
      let n = item_count p in
      ap (λ m. replicate m 0) e
      ∙ ext_get_or 0 (replicate n 0) (no_start p) (length-replicate n 0 ∙ sym (list_below-length n (λ k. 0)))
      (λ k lt. let below = subst (λ m. k < m) (length-replicate n 0) lt in get_or-replicate n k 0 0 below ∙ sym (list_below-at n (λ k. 0) k 0 below))
