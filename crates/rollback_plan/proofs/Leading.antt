-- From every legal history there is a way to a level.
use Rattle.std.proofs.Common.{◌≡◌, ℕ, zero, suc, ◌+◌, ◌-◌, ◌<◌, ◌≤◌, ◌⊎◌, true, not, List, [], ◌∷◌, ◌++◌, inl, inr, refl, sym, subst, arith, eqb-true, eq-eqb, le_refl}
use Rattle.std.proofs.lemmas.Bool.{and_from, cases_Bool, cases_eq, cases_lt, eqb-false, not-true, not-false}
use Rattle.rollout_rules.specs.Sums.{all_below, sum_below}
use Rattle.rollout_rules.specs.Wan.{Problem, Plan, last_stage}
use Rattle.rollout_rules.specs.Network.{IsNetwork}
use Rattle.rollout_rules.specs.Items.{item_count, item_at}
use Rattle.rollout_rules.specs.Operations.{changes_to}
use Rattle.rollout_rules.specs.History.{History, with_entries, begun, settled, flies}
use Rattle.rollout_rules.specs.Valid.{is_valid_plan}
use Rattle.rollout_rules.specs.Legal.{may_add, is_legal}
use Rattle.rollout_rules.specs.Release.{next_op}
use Rattle.rollout_rules.specs.declared.op.Entry.{Entry}
use Rattle.rollout_rules.specs.declared.op.Entry.TheVariants.{Begin, Done}
use Rattle.rollout_rules.proofs.Below.{all_below-at, all_below-fails, sum_below-mono}
use Rattle.rollout_laws.specs.Waiting.{NothingFlies}
use Rattle.rollout_laws.proofs.Histories.{with_none, with_both, begun-with, settled-with, begun-begin, begun-begin_other, begun-done, settled-done, settled-begin, is_counted, is_legal-append}
use Rattle.rollout_laws.proofs.Safety.{legal-safe}
use Rattle.rollback_plan.specs.Levels.{BegunUpTo, is_levelled}
use Rattle.rollback_plan.specs.Levelling.{IsOnTheWay, LevelsAt}
use Rattle.rollback_plan.proofs.Levelling.{next-up_to, GoesOn, levelled-or_on}

-- a sum of numbers that are no greater is less where one of them is
sum_below-less : (k n : ℕ) (f g : ℕ → ℕ) → n < k → f n < g n → ((m : ℕ) → f m ≤ g m) → sum_below k f < sum_below k g
sum_below-less zero n f g lt less le = absurd (omega arith)
sum_below-less (suc k) n f g lt less le = elim (cases_lt n k) as (λ c. sum_below (suc k) f < sum_below (suc k) g) [
  | inl below ↦ omega (arith, sum_below-less k n f g below less le, le k)
  | inr above ↦
      let at : n ≡ k = omega (arith, above, lt) in
      omega (arith, sum_below-mono k f g (λ m _. le m), subst (λ m. f m < g m) at less)
]

module _ (p : Problem) (plan : Plan) (s : ℕ) (most : s ≤ last_stage plan) (net : IsNetwork p) (is_valid : is_valid_plan p plan ≡ true) where
  -- how many operations of an item up to the stage are still to be settled, and to be begun
  abbrev left_of : History → ℕ → ℕ
  left_of h n = (changes_to p plan (item_at p n) s - settled h n) + (changes_to p plan (item_at p n) s - begun h n)

  abbrev left : History → ℕ
  left h = sum_below (item_count p) (left_of h)

  on_the_way : (h : History) → is_legal p plan h ≡ true → BegunUpTo p plan s h → IsOnTheWay p plan s h
  on_the_way h legal up = record { legal = legal; safe = legal-safe p plan h net is_valid legal; begun = up }

  -- an entry that may follow, after which less is left
  record IsStep (h : History) (e : Entry) : Type 0 where
    legal : is_legal p plan (with_entries h (e ∷ [])) ≡ true
    up : BegunUpTo p plan s (with_entries h (e ∷ []))
    less : left (with_entries h (e ∷ [])) < left h

  module _ (h : History) (legal : is_legal p plan h ≡ true) (up : BegunUpTo p plan s h) where
    follows : (e : Entry) → may_add p plan h e ≡ true → is_legal p plan (with_entries h (e ∷ [])) ≡ true
    follows e may = is_legal-append p plan h (e ∷ []) legal (and_from (may_add p plan h e) true may refl)

    less-with : (e : Entry) (n : ℕ) → n < item_count p → left_of (with_entries h (e ∷ [])) n < left_of h n → left (with_entries h (e ∷ [])) < left h
    less-with e n lt fewer = sum_below-less (item_count p) n (left_of (with_entries h (e ∷ []))) (left_of h) lt fewer
        (λ m. omega (arith, settled-with h (e ∷ []) m, begun-with h (e ∷ []) m))

    -- what flies is done
    done-step : (n : ℕ) → n < item_count p → flies h n ≡ true → IsStep h (Done (next_op h n))
    done-step n lt flying =
        let op = next_op h n in
        let one : begun h n ≡ settled h n + 1 = eqb-true _ _ flying in
        record {
          legal = follows (Done op) (and_from (flies h n) _ flying (eq-eqb (settled h n + 1) (settled h n + 1) refl));
          up = λ m inside. omega (arith, up m inside, begun-done h op m);
          less = less-with (Done op) n lt (omega (arith, one, up n lt, settled-done h op, begun-done h op n));
        }

    -- or what stands before the stage begins
    begin-step : NothingFlies p h → (on : GoesOn p plan s most net is_valid h legal up) → IsStep h (Begin (next_op h on.this))
    begin-step idle on =
        let n = on.this in
        let op = next_op h n in
        let still = eqb-false (begun h n) (settled h n + 1) (idle n on.inside) in
        let high = (is_counted p plan h legal n).one_flies in
        let next = next-up_to p plan s most h n on.inside on.before in
        record {
          legal = follows (Begin op) on.begins;
          up = λ m inside. elim (cases_eq n m) as (λ c. begun (with_entries h (Begin op ∷ [])) m ≤ changes_to p plan (item_at p m) s) [
            | inl e ↦ subst (λ k. begun (with_entries h (Begin op ∷ [])) k ≤ changes_to p plan (item_at p k) s) e (omega (arith, begun-begin h op, still, high, next))
            | inr other ↦ omega (arith, up m inside, begun-begin_other h op m other)
          ];
          less = less-with (Begin op) n on.inside (omega (arith, begun-begin h op, settled-begin h op n, still, high, next));
        }

    step-or_level : (is_levelled p plan h s ≡ true) ⊎ ((e : Entry) × IsStep h e)
    step-or_level = elim (cases_Bool (all_below (item_count p) (λ n. not (flies h n)))) as (λ c. (is_levelled p plan h s ≡ true) ⊎ ((e : Entry) × IsStep h e)) [
      | inl still ↦
          let idle : NothingFlies p h = λ n lt. not-true (flies h n) (all_below-at (item_count p) (λ m. not (flies h m)) still n lt) in
          elim (levelled-or_on p plan s most net is_valid h legal up idle) as (λ c. (is_levelled p plan h s ≡ true) ⊎ ((e : Entry) × IsStep h e)) [
            | inl level ↦ inl level
            | inr on ↦ inr (Begin (next_op h on.this), begin-step idle on)
          ]
      | inr some ↦
          let there = all_below-fails (item_count p) (λ n. not (flies h n)) some in
          inr (Done (next_op h there.0), done-step there.0 there.1 (not-false (flies h there.0) there.2))
    ]

    -- the way is at its end, or goes on by one entry
    ends-here : is_levelled p plan h s ≡ true → LevelsAt p plan s h
    ends-here level = record { entries = []; levelled = subst (λ g. is_levelled p plan g s ≡ true) (sym (with_none h)) level; way = way }
      where
        way : (front rest : List Entry) → front ++ rest ≡ [] → IsOnTheWay p plan s (with_entries h front)
        way [] rest e = subst (IsOnTheWay p plan s) (sym (with_none h)) (on_the_way h legal up)
        way (x ∷ xs) rest e = absurd (cc)

    goes-on : (e : Entry) → LevelsAt p plan s (with_entries h (e ∷ [])) → LevelsAt p plan s h
    goes-on e later = record {
      entries = e ∷ later.entries;
      levelled = subst (λ g. is_levelled p plan g s ≡ true) (with_both h (e ∷ []) later.entries) later.levelled;
      way = way;
    }
      where
        first_is : (x : Entry) (xs ys : List Entry) → x ∷ xs ≡ e ∷ ys → x ≡ e
        first_is x xs ys same = cc

        rest_is : (x : Entry) (xs ys : List Entry) → x ∷ xs ≡ e ∷ ys → xs ≡ ys
        rest_is x xs ys same = cc

        way : (front rest : List Entry) → front ++ rest ≡ e ∷ later.entries → IsOnTheWay p plan s (with_entries h front)
        way [] rest same = subst (IsOnTheWay p plan s) (sym (with_none h)) (on_the_way h legal up)
        way (x ∷ xs) rest same =
            subst (λ y. IsOnTheWay p plan s (with_entries h (y ∷ xs))) (sym (first_is x (xs ++ rest) later.entries same))
            (subst (IsOnTheWay p plan s) (with_both h (e ∷ []) xs) (later.way xs rest (rest_is x (xs ++ rest) later.entries same)))

  reach : (k : ℕ) (h : History) → is_legal p plan h ≡ true → BegunUpTo p plan s h → left h ≤ k → LevelsAt p plan s h
  reach zero h legal up few = elim (step-or_level h legal up) as (λ c. LevelsAt p plan s h) [
    | inl level ↦ ends-here h legal up level
    | inr step ↦ let less = step.1.less in absurd (omega (arith, less, few))
  ]
  reach (suc k) h legal up few = elim (step-or_level h legal up) as (λ c. LevelsAt p plan s h) [
    | inl level ↦ ends-here h legal up level
    | inr step ↦
        let less = step.1.less in
        goes-on h legal up step.0 (reach k (with_entries h (step.0 ∷ [])) step.1.legal step.1.up (omega (arith, less, few)))
  ]

  pub can-be_levelled : (h : History) → is_legal p plan h ≡ true → BegunUpTo p plan s h → LevelsAt p plan s h
  can-be_levelled h legal up = reach (left h) h legal up (le_refl (left h))
