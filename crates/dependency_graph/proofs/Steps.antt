-- What an item's Begin and its Done change of the rooms.
use Rattle.std.proofs.Common.{◌≡◌, ℕ, ◌+◌, ◌-◌, ◌<◌, ◌≤◌, ◌⊎◌, Bool, true, false, ◌||◌, if◌then◌else◌, nat_le, nat_lt, inl, inr, refl, sym, ap, ap₂, ◌∙◌, subst, arith, le-leb, lt-ltb, le-ltb}
use Rattle.std.proofs.lemmas.Bool.{cases_eq, cases_lt, lt-leb}
use Rattle.rollout_rules.specs.Wan.{Problem, Plan, tunnel_of, rate_at, mark_at, last_stage, next_stage}
use Rattle.rollout_rules.specs.Items.{Resource, is_item, content, use_at, greater_rate, either_mark, step_maximum}
use Rattle.rollout_rules.specs.Operations.{operations, stand_after}
use Rattle.rollout_rules.specs.History.{Places, stand}
use Rattle.rollout_rules.specs.Room.{share, room}
use Rattle.rollout_rules.specs.declared.item.Item.{Item}
use Rattle.rollout_rules.specs.declared.item.Item.TheVariants as item
use Rattle.rollout_rules.proofs.OverItems.{sum_items-but}
use Rattle.rollout_laws.proofs.Standing.{stand-left, stand-moves, content-past}
use Rattle.rollout_laws.proofs.Contents.{IsWithin, takes-mono, content-rate, content-mark, use-same, step-begins, step-ends}
use Rattle.rollout_laws.proofs.Shares.{next_stage-before}
use Rattle.dependency_graph.proofs.Changed.{DifferAt}

-- places that are the same but at one item
pub record AreSameBut (p : Problem) (at later : Places) (this : Item) : Type 0 where
  pub settled : (i : Item) → is_item p i ≡ true → (i ≡ this → ⊥) → at.settled i ≡ later.settled i
  pub flies : (i : Item) → is_item p i ≡ true → (i ≡ this → ⊥) → at.flies i ≡ later.flies i

-- one item's next operation begins, and comes to its end
pub record Begins (p : Problem) (at later : Places) (this : Item) : Type 0 where
  pub differ : DifferAt p at later this
  pub idle : at.flies this ≡ false
  pub flying : later.flies this ≡ true

pub record Ends (p : Problem) (plan : Plan) (at later : Places) (this : Item) : Type 0 where
  pub others : AreSameBut p at later this
  pub next : later.settled this ≡ at.settled this + 1
  pub left : at.settled this < operations p plan this
  pub flying : at.flies this ≡ true
  pub landed : later.flies this ≡ false

begins-but : (p : Problem) (at later : Places) (this : Item) → DifferAt p at later this → AreSameBut p at later this
begins-but p at later this differ = record {
  settled = λ i here other. differ.settled i here;
  flies = λ i here other. same i other (differ.flies i here);
}
  where
    same : (i : Item) → (i ≡ this → ⊥) → (at.flies i ≡ later.flies i) ⊎ (this ≡ i) → at.flies i ≡ later.flies i
    same i other (inl e) = e
    same i other (inr is) = absurd (other (sym is))

module _ (p : Problem) (plan : Plan) where
  -- an item's share by what is settled of it and whether it flies
  abbrev share_from : ℕ → Resource → Item → ℕ → Bool → ℕ
  share_from s u i j fl = if nat_le (stand_after p plan i j) s then step_maximum p plan s i u else (if fl then step_maximum p plan (stand_after p plan i j) i u else use_at p plan (stand_after p plan i j) i u)

  pub room-but : (at later : Places) (this : Item) → is_item p this ≡ true → AreSameBut p at later this → (s : ℕ) (u : Resource) → room p plan at s u + share p plan later s u this ≡ room p plan later s u + share p plan at s u this
  room-but at later this here same s u =
      sum_items-but p (share p plan at s u) (share p plan later s u) this here
      (λ i found other. ap₂ (share_from s u i) (same.settled i found other) (same.flies i found other))

  share-near : (s j : ℕ) (u : Resource) (i : Item) (fl : Bool) → stand_after p plan i j ≤ s → share_from s u i j fl ≡ step_maximum p plan s i u
  share-near s j u i fl near = let e : nat_le (stand_after p plan i j) s ≡ true = le-leb (stand_after p plan i j) s near in rw e refl

  share-far : (s j : ℕ) (u : Resource) (i : Item) (fl : Bool) → s < stand_after p plan i j → share_from s u i j fl ≡ (if fl then step_maximum p plan (stand_after p plan i j) i u else use_at p plan (stand_after p plan i j) i u)
  share-far s j u i fl far = let e : nat_le (stand_after p plan i j) s ≡ false = lt-leb (stand_after p plan i j) s far in rw e refl

  -- the same content takes the same
  use-equal : (i : Item) (u : Resource) (a b : ℕ) → content p plan i a ≡ content p plan i b → use_at p plan a i u ≡ use_at p plan b i u
  use-equal i u a b e = omega (arith, use-same p plan i u a b e, use-same p plan i u b a (sym e))

  -- and so does a step between stages of the same content
  step-same : (i : Item) (u : Resource) (s y : ℕ) → s < last_stage plan → content p plan i s ≡ content p plan i y → content p plan i (s + 1) ≡ content p plan i y → step_maximum p plan s i u ≤ use_at p plan y i u
  step-same i u s y lt e e' = takes-mono p (greater_rate plan s) (rate_at plan y) (λ t h. either_mark plan s t) (λ t h. mark_at plan y t) i u (within i (next_stage-before plan s lt) e e')
    where
      either : (a b d : Bool) → (a ≡ d) → (b ≡ d) → (a || b) ≡ true → d ≡ true
      either true b d ad bd any = sym ad
      either false b d ad bd any = sym bd ∙ any

      within : (i : Item) → next_stage plan s ≡ s + 1 → content p plan i s ≡ content p plan i y → content p plan i (s + 1) ≡ content p plan i y → IsWithin p (greater_rate plan s) (λ t h. either_mark plan s t) (rate_at plan y) (λ t h. mark_at plan y t) i
      within (item.Flow f) next e e' = λ j few. omega (arith, content-rate p plan f s y e j few, content-rate p plan f (s + 1) y e' j few, ap (λ n. rate_at plan n (tunnel_of p f j)) next)
      within (item.Entry t h) next e e' = λ there.
          either (mark_at plan s t) (mark_at plan (next_stage plan s) t) (mark_at plan y t) (content-mark p plan t h s y e) (ap (λ n. mark_at plan n t) next ∙ content-mark p plan t h (s + 1) y e') there

  -- a Begin adds the rise of its step, at the stages before where its item stands
  share-begins : (s j : ℕ) (u : Resource) (i : Item) → share_from s u i j true ≡ share_from s u i j false + (if nat_lt s (stand_after p plan i j) then step_maximum p plan (stand_after p plan i j) i u - use_at p plan (stand_after p plan i j) i u else 0)
  share-begins s j u i = elim (cases_lt s (stand_after p plan i j)) as (λ _. share_from s u i j true ≡ share_from s u i j false + (if nat_lt s (stand_after p plan i j) then step_maximum p plan (stand_after p plan i j) i u - use_at p plan (stand_after p plan i j) i u else 0)) [
    | inl far ↦
        let b : nat_lt s (stand_after p plan i j) ≡ true = lt-ltb s (stand_after p plan i j) far in
        let more = ap (λ b. if b then step_maximum p plan (stand_after p plan i j) i u - use_at p plan (stand_after p plan i j) i u else 0) b in
        omega (arith, share-far s j u i true far, share-far s j u i false far, more, step-begins p plan i u (stand_after p plan i j))
    | inr near ↦
        let b : nat_lt s (stand_after p plan i j) ≡ false = le-ltb s (stand_after p plan i j) near in
        let more = ap (λ b. if b then step_maximum p plan (stand_after p plan i j) i u - use_at p plan (stand_after p plan i j) i u else 0) b in
        omega (arith, share-near s j u i true near, share-near s j u i false near, more)
  ]

  -- a Done takes the fall of its step away, at the stages up to where its item stood
  share-ends : (s j : ℕ) (u : Resource) (i : Item) → j < operations p plan i → s < last_stage plan → share_from s u i j true ≡ share_from s u i (j + 1) false + (if nat_le s (stand_after p plan i j) then step_maximum p plan (stand_after p plan i j) i u - use_at p plan (stand_after p plan i j + 1) i u else 0)
  share-ends s j u i left before = elim (cases_lt (stand_after p plan i j) s) as (λ _. share_from s u i j true ≡ share_from s u i (j + 1) false + (if nat_le s (stand_after p plan i j) then step_maximum p plan (stand_after p plan i j) i u - use_at p plan (stand_after p plan i j + 1) i u else 0)) [
    | inr up ↦
        let b : nat_le s x ≡ true = le-leb s x up in
        let more = ap (λ b. if b then step_maximum p plan x i u - use_at p plan (x + 1) i u else 0) b in
        omega (arith, flew up, share-far s (j + 1) u i false (omega (arith, up, moves)), more, comes, brought)
    | inl past ↦
        let b : nat_le s x ≡ false = lt-leb s x past in
        let more = ap (λ b. if b then step_maximum p plan x i u - use_at p plan (x + 1) i u else 0) b in
        elim (cases_lt s y) as (λ _. share_from s u i j true ≡ share_from s u i (j + 1) false + (if nat_le s x then step_maximum p plan x i u - use_at p plan (x + 1) i u else 0)) [
          | inl passed ↦
              let same = content-past p plan i j s past (omega (arith, passed)) in
              let same' = content-past p plan i j (s + 1) (omega (arith, past)) (omega (arith, passed)) in
              omega (arith, share-near s j u i true (omega (arith, past)), share-far s (j + 1) u i false passed, more, step-same i u s y before same same', step-begins p plan i u s, use-equal i u s y same)
          | inr beyond ↦ omega (arith, share-near s j u i true (omega (arith, past)), share-near s (j + 1) u i false beyond, more)
        ]
  ]
    where
      x : ℕ
      x = stand_after p plan i j

      y : ℕ
      y = stand_after p plan i (j + 1)

      moves : stand_after p plan i j + 1 ≤ stand_after p plan i (j + 1)
      moves = stand-moves p plan i j left

      -- what it comes to is what the next stage has
      comes : use_at p plan (stand_after p plan i (j + 1)) i u ≡ use_at p plan (stand_after p plan i j + 1) i u
      comes = sym (use-equal i u (stand_after p plan i j + 1) (stand_after p plan i (j + 1)) (content-past p plan i j (stand_after p plan i j + 1) (omega arith) moves))

      brought : use_at p plan (stand_after p plan i j + 1) i u ≤ step_maximum p plan (stand_after p plan i j) i u
      brought = subst (λ n. use_at p plan n i u ≤ step_maximum p plan (stand_after p plan i j) i u) (next_stage-before plan (stand_after p plan i j) (stand-left p plan i j left)) (step-ends p plan i u (stand_after p plan i j))

      -- up to its own stage it took the step's maximum
      flew : s ≤ stand_after p plan i j → share_from s u i j true ≡ step_maximum p plan (stand_after p plan i j) i u
      flew up = elim (cases_eq s (stand_after p plan i j)) as (λ _. share_from s u i j true ≡ step_maximum p plan (stand_after p plan i j) i u) [
        | inl here ↦ share-near s j u i true (omega (arith, here)) ∙ ap (λ n. step_maximum p plan n i u) here
        | inr other ↦ share-far s j u i true (omega (arith, up, other))
      ]

  pub begin-room : (at later : Places) (this : Item) → is_item p this ≡ true → Begins p at later this → (s : ℕ) (u : Resource) → room p plan later s u ≡ room p plan at s u + (if nat_lt s (stand p plan at this) then step_maximum p plan (stand p plan at this) this u - use_at p plan (stand p plan at this) this u else 0)
  begin-room at later this here so s u =
      let was : share p plan at s u this ≡ share_from s u this (at.settled this) false = ap (share_from s u this (at.settled this)) so.idle in
      let is : share p plan later s u this ≡ share_from s u this (at.settled this) true = ap₂ (share_from s u this) (sym (so.differ.settled this here)) so.flying in
      omega (arith, room-but at later this here (begins-but p at later this so.differ) s u, was, is, share-begins s (at.settled this) u this)

  pub done-room : (at later : Places) (this : Item) → is_item p this ≡ true → Ends p plan at later this → (s : ℕ) (u : Resource) → s < last_stage plan → room p plan at s u ≡ room p plan later s u + (if nat_le s (stand p plan at this) then step_maximum p plan (stand p plan at this) this u - use_at p plan (stand p plan at this + 1) this u else 0)
  done-room at later this here so s u before =
      let was : share p plan at s u this ≡ share_from s u this (at.settled this) true = ap (share_from s u this (at.settled this)) so.flying in
      let is : share p plan later s u this ≡ share_from s u this (at.settled this + 1) false = ap₂ (share_from s u this) so.next so.landed in
      omega (arith, room-but at later this here so.others s u, was, is, share-ends s (at.settled this) u this so.left before)

  -- what the next stage's content takes is within the step
  pub use-brought : (i : Item) (u : Resource) (x : ℕ) → x < last_stage plan → use_at p plan (x + 1) i u ≤ step_maximum p plan x i u
  use-brought i u x lt = subst (λ n. use_at p plan n i u ≤ step_maximum p plan x i u) (next_stage-before plan x lt) (step-ends p plan i u x)
