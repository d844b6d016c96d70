-- What an item adds to a room falls as its operations are settled.
use Rattle.std.proofs.Common.{◌≡◌, ℕ, ◌+◌, ◌<◌, ◌≤◌, Bool, true, false, if◌then◌else◌, inl, inr, sym, refl, subst, arith, le_refl, le_trans, leb-true, leb-false, le-leb, nat_le}
use Rattle.std.proofs.lemmas.Bool.{cases_lt}
use Rattle.rollout_rules.specs.Wan.{Problem, Plan, last_stage, next_stage}
use Rattle.rollout_rules.specs.Items.{Resource, use_at, step_maximum}
use Rattle.rollout_rules.specs.Operations.{operations, stand_after}
use Rattle.rollout_rules.specs.History.{Places, stand}
use Rattle.rollout_rules.specs.Room.{share}
use Rattle.rollout_rules.specs.declared.item.Item.{Item}
use Rattle.rollout_laws.specs.Good.{begun_at}
use Rattle.rollout_laws.proofs.Standing.{stand-last, stand-left, stand-moves, content-past}
use Rattle.rollout_laws.proofs.Contents.{use-same, step-begins, step-ends}

-- where an item stands at the same stage, a landing takes nothing more
share-still : (near fl fl' : Bool) (a m u : ℕ) → u ≤ m → (fl' ≡ true → fl ≡ true) → (if near then a else (if fl' then m else u)) ≤ (if near then a else (if fl then m else u))
share-still true fl fl' a m u le lands = omega arith
share-still false true true a m u le lands = omega arith
share-still false true false a m u le lands = le
share-still false false true a m u le lands = let clash = lands refl in absurd (cc)
share-still false false false a m u le lands = omega arith

-- where it comes to a later stage, the step's maximum gives way to what it uses there
share-moved : (near' near : Bool) (a m m' u u' : ℕ) → (near' ≡ true → near ≡ true) → (near' ≡ false → near ≡ true → u' ≤ a) → u' ≤ m → (if near' then a else (if false then m' else u')) ≤ (if near then a else (if true then m else u))
share-moved true true a m m' u u' up covered le = omega arith
share-moved true false a m m' u u' up covered le = let clash = up refl in absurd (cc)
share-moved false true a m m' u u' up covered le = covered refl refl
share-moved false false a m m' u u' up covered le = le

pub next_stage-before : (plan : Plan) (x : ℕ) → x < last_stage plan → next_stage plan x ≡ x + 1
next_stage-before plan x lt = omega arith

module _ (p : Problem) (plan : Plan) (i : Item) (r : Resource) where
  abbrev pub most : ℕ → ℕ
  most s = step_maximum p plan s i r

  abbrev pub uses : ℕ → ℕ
  uses s = use_at p plan s i r

  abbrev pub share_from : ℕ → ℕ → Bool → ℕ
  share_from s j fl =
      if nat_le (stand_after p plan i j) s then most s
      else (if fl then most (stand_after p plan i j) else uses (stand_after p plan i j))

  -- the step that an operation begins covers what it brings
  use-brought : (j : ℕ) → j < operations p plan i → uses (stand_after p plan i (j + 1)) ≤ most (stand_after p plan i j)
  use-brought j left =
      let x = stand_after p plan i j in
      let same = content-past p plan i j (x + 1) (omega arith) (stand-moves p plan i j left) in
      let brought = use-same p plan i r (stand_after p plan i (j + 1)) (x + 1) (sym same) in
      let covered = subst (λ u. uses u ≤ most x) (next_stage-before plan x (stand-left p plan i j left)) (step-ends p plan i r x) in
      le_trans brought covered

  -- and so does each step that is passed
  use-passed : (j s : ℕ) → stand_after p plan i j < s → s ≤ stand_after p plan i (j + 1) → uses (stand_after p plan i (j + 1)) ≤ most s
  use-passed j s past to = le_trans (use-same p plan i r (stand_after p plan i (j + 1)) s (sym (content-past p plan i j s past to))) (step-begins p plan i r s)

  share-lands : (s j : ℕ) (fl fl' : Bool) → (fl' ≡ true → fl ≡ true) → share_from s j fl' ≤ share_from s j fl
  share-lands s j fl fl' lands = share-still (nat_le (stand_after p plan i j) s) fl fl' (most s) (most (stand_after p plan i j)) (uses (stand_after p plan i j)) (step-begins p plan i r (stand_after p plan i j)) lands

  share-arrives : (s j : ℕ) → j < operations p plan i → share_from s (j + 1) false ≤ share_from s j true
  share-arrives s j left =
      let x = stand_after p plan i j in
      let y = stand_after p plan i (j + 1) in
      let moves = stand-moves p plan i j left in
      share-moved (nat_le y s) (nat_le x s) (most s) (most x) (most y) (uses x) (uses y)
      (λ near. le-leb x s (le_trans (omega (arith, moves)) (leb-true y s near)))
      (λ far near. covered far (leb-true x s near))
      (use-brought j left)
    where
      covered : nat_le (stand_after p plan i (j + 1)) s ≡ false → stand_after p plan i j ≤ s → uses (stand_after p plan i (j + 1)) ≤ most s
      covered far near = elim (cases_lt (stand_after p plan i j) s) as (λ c. uses (stand_after p plan i (j + 1)) ≤ most s) [
        | inl past ↦ use-passed j s past (omega (arith, leb-false (stand_after p plan i (j + 1)) s far))
        | inr here ↦
            let at : stand_after p plan i j ≡ s = omega arith in
            subst (λ u. uses (stand_after p plan i (j + 1)) ≤ most u) at (use-brought j left)
      ]

  share-comes : (s j : ℕ) → share_from s (j + 1) false ≤ share_from s j true
  share-comes s j = elim (cases_lt j (operations p plan i)) as (λ c. share_from s (j + 1) false ≤ share_from s j true) [
    | inl left ↦ share-arrives s j left
    | inr none ↦
        let e : stand_after p plan i j ≡ stand_after p plan i (j + 1) = omega (arith, stand-last p plan i j none, stand-last p plan i (j + 1) (omega (arith, none))) in
        subst (λ x. (if nat_le x s then most s else uses x) ≤ share_from s j true) e (share-lands s j true false (λ lands. refl))
  ]

  share-falls : (s j j' : ℕ) (fl fl' : Bool) → j ≤ j' → (if fl' then j' + 1 else j') ≤ (if fl then j + 1 else j) → share_from s j' fl' ≤ share_from s j fl
  share-falls s j j' false false up within = let e : j ≡ j' = omega arith in subst (λ k. share_from s k false ≤ share_from s j false) e (le_refl (share_from s j false))
  share-falls s j j' false true up within = absurd (omega arith)
  share-falls s j j' true true up within = let e : j ≡ j' = omega arith in subst (λ k. share_from s k true ≤ share_from s j true) e (le_refl (share_from s j true))
  share-falls s j j' true false up within = elim (cases_lt j j') as (λ c. share_from s j' false ≤ share_from s j true) [
    | inl more ↦ let e : j + 1 ≡ j' = omega arith in subst (λ k. share_from s k false ≤ share_from s j true) e (share-comes s j)
    | inr same ↦ let e : j ≡ j' = omega arith in subst (λ k. share_from s k false ≤ share_from s j true) e (share-lands s j true false (λ lands. refl))
  ]

  -- an item settled further, with no more begun, adds no more
  pub share-later : (at later : Places) (s : ℕ) → at.settled i ≤ later.settled i → begun_at later i ≤ begun_at at i → share p plan later s r i ≤ share p plan at s r i
  share-later at later s up within = share-falls s (at.settled i) (later.settled i) (at.flies i) (later.flies i) up within

  -- from where an item stands on it adds its step's maximum
  pub share-here : (at : Places) (s : ℕ) → stand p plan at i ≤ s → share p plan at s r i ≡ step_maximum p plan s i r
  share-here at s near = rw (le-leb (stand p plan at i) s near)
