-- What one item's Begin changes of the rooms: those of what it takes, at the stages before where it stands.
use Rattle.std.proofs.Common.{◌≡◌, ℕ, suc, ◌<◌, ◌≤◌, ◌⊎◌, Bool, true, false, if◌then◌else◌, List, [], ◌∷◌, length, slice_index, inl, inr, sym, refl, ap, ap₂, ◌∙◌, subst, arith, le_of_eq, eqb-true, nat_le, ◌==◌}
use Rattle.std.proofs.lemmas.Bool.{or_cases}
use Rattle.std.specs.List.{list_any}
use Rattle.rollout_rules.specs.Wan.{Problem, Plan, rate_at, mark_at}
use Rattle.rollout_rules.specs.Items.{Resource, is_item, takes, use_at, greater_rate, either_mark, step_maximum}
use Rattle.rollout_rules.specs.Operations.{stand_after}
use Rattle.rollout_rules.specs.History.{Places, stand}
use Rattle.rollout_rules.specs.Room.{least_stage, share, room}
use Rattle.rollout_rules.specs.declared.item.Item.{Item}
use Rattle.rollout_rules.proofs.OverItems.{sum_items-same}
use Rattle.rollout_laws.proofs.Shares.{share-here}
use Rattle.rollout_laws.proofs.Rooms.{least_stage-up}

-- two tests that pass alike are the same
pub same-test : (a b : Bool) → (a ≡ true → b ≡ true) → (b ≡ true → a ≡ true) → a ≡ b
same-test true b ab ba = sym (ab refl)
same-test false true ab ba = ba refl
same-test false false ab ba = refl

-- the place of a number in a row that has it
pub place_in : (l : ℕ) (row : List ℕ) → list_any (λ k. k == l) row ≡ true → (n : ℕ) × (n < length row) × (slice_index row n ≡ l)
place_in l [] e = absurd (cc)
place_in l (k ∷ row) e = elim (or_cases (k == l) (list_any (λ k. k == l) row) e) as (λ c. (n : ℕ) × (n < length (k ∷ row)) × (slice_index (k ∷ row) n ≡ l)) [
  | inl here ↦ (0, omega arith, eqb-true k l here)
  | inr behind ↦ let there = place_in l row behind in (suc there.0, omega (arith, there.1), there.2)
]

nothing : (near fl : Bool) (a b d : ℕ) → a ≡ 0 → b ≡ 0 → d ≡ 0 → ◌≡◌ {A = ℕ} (if near then a else (if fl then b else d)) 0
nothing true fl a b d x y z = x
nothing false true a b d x y z = y
nothing false false a b d x y z = z

-- places that differ in whether one item flies, and in nothing else
pub record DifferAt (p : Problem) (at later : Places) (this : Item) : Type 0 where
  pub settled : (i : Item) → is_item p i ≡ true → at.settled i ≡ later.settled i
  pub flies : (i : Item) → is_item p i ≡ true → (at.flies i ≡ later.flies i) ⊎ (this ≡ i)

-- an item takes nothing of a resource, whatever the rates and marks
abbrev pub TakesNone : Problem → Item → Resource → Type 0
TakesNone p i r = (rate : ℕ → ℕ) (there : ℕ → ℕ → Bool) → takes p rate there i r ≡ 0

module _ (p : Problem) (plan : Plan) (at later : Places) (this : Item) (differ : DifferAt p at later this) where
  stand-kept : (i : Item) → is_item p i ≡ true → stand p plan at i ≡ stand p plan later i
  stand-kept i here = ap (stand_after p plan i) (differ.settled i here)

  pub least_stage-kept : least_stage p plan at ≡ least_stage p plan later
  least_stage-kept =
      let up = least_stage-up p plan at later (λ i here. le_of_eq (stand-kept i here)) in
      let down = least_stage-up p plan later at (λ i here. le_of_eq (sym (stand-kept i here))) in
      omega (arith, up, down)

  abbrev share_from : ℕ → Resource → Item → ℕ → Bool → ℕ
  share_from s r i j fl = if nat_le (stand_after p plan i j) s then step_maximum p plan s i r else (if fl then step_maximum p plan (stand_after p plan i j) i r else use_at p plan (stand_after p plan i j) i r)

  share-none : (places : Places) (s : ℕ) (r : Resource) (i : Item) → TakesNone p i r → share p plan places s r i ≡ 0
  share-none places s r i none = nothing (nat_le (stand p plan places i) s) (places.flies i) (step_maximum p plan s i r) (step_maximum p plan (stand p plan places i) i r) (use_at p plan (stand p plan places i) i r)
      (none (greater_rate plan s) (λ t h. either_mark plan s t)) (none (greater_rate plan (stand p plan places i)) (λ t h. either_mark plan (stand p plan places i) t)) (none (rate_at plan (stand p plan places i)) (λ t h. mark_at plan (stand p plan places i) t))

  share-kept : (s : ℕ) (r : Resource) → (stand p plan at this ≤ s) ⊎ TakesNone p this r → (i : Item) → is_item p i ≡ true → (at.flies i ≡ later.flies i) ⊎ (this ≡ i) → share p plan later s r i ≡ share p plan at s r i
  share-kept s r why i here (inl same) = ap₂ (share_from s r i) (sym (differ.settled i here)) (sym same)
  share-kept s r (inl near) i here (inr is) =
      let near' : stand p plan at i ≤ s = subst (λ x. stand p plan at x ≤ s) is near in
      share-here p plan i r later s (subst (λ x. x ≤ s) (stand-kept i here) near') ∙ sym (share-here p plan i r at s near')
  share-kept s r (inr none) i here (inr is) =
      let none' = subst (λ x. TakesNone p x r) is none in
      share-none later s r i none' ∙ sym (share-none at s r i none')

  -- the other rooms are as they were
  pub room-kept : (s : ℕ) (r : Resource) → (stand p plan at this ≤ s) ⊎ TakesNone p this r → room p plan later s r ≡ room p plan at s r
  room-kept s r why = sum_items-same p (share p plan later s r) (share p plan at s r) (λ i here. share-kept s r why i here (differ.flies i here))
