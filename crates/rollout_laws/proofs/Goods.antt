-- Places stay good: at first, where an operation begins that may, and within what was begun.
use Rattle.std.proofs.Common.{◌≡◌, ℕ, ◌+◌, ◌<◌, ◌≤◌, ◌⊎◌, Bool, true, false, ◌||◌, if◌then◌else◌, inl, inr, sym, refl, ap, ap₂, subst, arith, le_refl, le_trans, le_of_eq, le-leb, leb-true, leb-false, ltb-true, lt-ltb, nat_le, nat_lt}
use Rattle.std.proofs.lemmas.Bool.{cases_lt, or_cases, or_left, or_right}
use Rattle.rollout_rules.specs.Wan.{Problem, Plan, last_stage}
use Rattle.rollout_rules.specs.Network.{IsNetwork}
use Rattle.rollout_rules.specs.Items.{Resource, is_item, is_resource, capacity_of, use_at, step_maximum}
use Rattle.rollout_rules.specs.Operations.{operations, stand_after}
use Rattle.rollout_rules.specs.History.{Places, stand}
use Rattle.rollout_rules.specs.Needs.{needs_met, needs_met_at}
use Rattle.rollout_rules.specs.Room.{least_stage, share, room, fits_at, fits}
use Rattle.rollout_rules.specs.Valid.{step_total}
use Rattle.rollout_rules.specs.declared.item.Item.{Item}
use Rattle.rollout_rules.proofs.Below.{all_below-at, all_below-from}
use Rattle.rollout_rules.proofs.OverItems.{sum_items-mono, all_resources-at, all_resources-from}
use Rattle.rollout_laws.specs.Good.{begun_at, IsGood, IsBetween}
use Rattle.rollout_laws.proofs.Standing.{content-kept}
use Rattle.rollout_laws.proofs.Shares.{share_from}
use Rattle.rollout_laws.proofs.Contents.{use-same, step-begins}
use Rattle.rollout_laws.proofs.Rooms.{least_stage-up, stand-later, room-later}
use Rattle.rollout_laws.proofs.Needed.{needs-later}
use Rattle.rollout_laws.proofs.Validity.{IsValid}

pub settled-begun_at : (at : Places) (i : Item) → at.settled i ≤ begun_at at i
settled-begun_at at i = most (at.flies i)
  where
    most : (fl : Bool) → at.settled i ≤ (if fl then at.settled i + 1 else at.settled i)
    most true = omega arith
    most false = omega arith

module _ (p : Problem) (plan : Plan) where
  -- the test that every room fits, and what it says
  pub fits-room : (at : Places) → fits p plan at ≡ true → (s : ℕ) → least_stage p plan at ≤ s → s < last_stage plan → (r : Resource) → is_resource p r ≡ true → room p plan at s r ≤ capacity_of p plan r
  fits-room at all s low lt r here = elim (or_cases (nat_lt s (least_stage p plan at)) (fits_at p plan at s) (all_below-at (last_stage plan) (λ u. nat_lt u (least_stage p plan at) || fits_at p plan at u) all s lt)) as (λ c. room p plan at s r ≤ capacity_of p plan r) [
    | inl before ↦ let less : s < least_stage p plan at = ltb-true s (least_stage p plan at) before in absurd (omega (arith, less, low))
    | inr fit ↦ leb-true (room p plan at s r) (capacity_of p plan r) (all_resources-at p (λ q. nat_le (room p plan at s q) (capacity_of p plan q)) fit r here)
  ]

  pub room-fits : (at : Places) → ((s : ℕ) → least_stage p plan at ≤ s → s < last_stage plan → (r : Resource) → is_resource p r ≡ true → room p plan at s r ≤ capacity_of p plan r) → fits p plan at ≡ true
  room-fits at each =
      all_below-from (last_stage plan) (λ u. nat_lt u (least_stage p plan at) || fits_at p plan at u)
      (λ s lt. elim (cases_lt s (least_stage p plan at)) as (λ c. (nat_lt s (least_stage p plan at) || fits_at p plan at s) ≡ true) [
        | inl before ↦ or_left (nat_lt s (least_stage p plan at)) (fits_at p plan at s) (lt-ltb s (least_stage p plan at) before)
        | inr low ↦ or_right (nat_lt s (least_stage p plan at)) (fits_at p plan at s)
            (all_resources-from p (λ q. nat_le (room p plan at s q) (capacity_of p plan q)) (λ r here. le-leb (room p plan at s r) (capacity_of p plan r) (each s low lt r here)))
      ])

  -- places at which nothing was begun
  pub record AreFirst (at : Places) : Type 0 where
    pub settled : (i : Item) → is_item p i ≡ true → at.settled i ≡ 0
    pub still : (i : Item) → is_item p i ≡ true → at.flies i ≡ false

  -- there an item adds at most its step's maximum
  share-first : (i : Item) (s : ℕ) (r : Resource) → share_from p plan i r s 0 false ≤ step_maximum p plan s i r
  share-first i s r = bound (nat_le (stand_after p plan i 0) s) refl
    where
      bound : (near : Bool) → nat_le (stand_after p plan i 0) s ≡ near → (if near then step_maximum p plan s i r else use_at p plan (stand_after p plan i 0) i r) ≤ step_maximum p plan s i r
      bound true e = le_refl (step_maximum p plan s i r)
      bound false e =
          let past : s < stand_after p plan i 0 = leb-false (stand_after p plan i 0) s e in
          le_trans (use-same p plan i r (stand_after p plan i 0) s (sym (content-kept p plan i 0 s (omega arith) (omega (arith, past))))) (step-begins p plan i r s)

  pub room-first : (at : Places) → AreFirst at → (s : ℕ) (r : Resource) → room p plan at s r ≤ step_total p plan s r
  room-first at first s r =
      sum_items-mono p (share p plan at s r) (λ i. step_maximum p plan s i r)
      (λ i here. le_trans (le_of_eq (ap₂ (λ j fl. share_from p plan i r s j fl) (first.settled i here) (first.still i here))) (share-first i s r))

  pub good-first : IsValid p plan → (at : Places) → AreFirst at → IsGood p plan at
  good-first valid at first = record {
    exist = λ i here. omega (arith, none i here);
    needs = λ i here k lt. absurd (omega (arith, lt, none i here));
    room = λ s low lt r here. le_trans (room-first at first s r) (valid.step s (omega (arith, lt)) r here);
  }
    where
      none : (i : Item) → is_item p i ≡ true → begun_at at i ≡ 0
      none i here = ap₂ (λ fl j. if fl then j + 1 else j) (first.still i here) (first.settled i here)

  pub good-later : IsNetwork p → (at later : Places) → IsGood p plan at → IsBetween p at later → IsGood p plan later
  good-later net at later good between = record {
    exist = λ i here. le_trans (between.begun i here) (good.exist i here);
    needs = λ i here k lt. needs-later p plan net at later (stand-later p plan at later between) i here (stand_after p plan i k) (good.needs i here k (le_trans lt (between.begun i here)));
    room = λ s low lt r here. le_trans (room-later p plan at later between s r) (good.room s (le_trans (least_stage-up p plan at later (stand-later p plan at later between)) low) lt r here);
  }

  -- the places with the item's next operation begun
  pub record IsBegun (at later : Places) (this : Item) : Type 0 where
    pub settled : (i : Item) → is_item p i ≡ true → at.settled i ≡ later.settled i
    pub begun : (i : Item) → is_item p i ≡ true → (begun_at later i ≡ begun_at at i) ⊎ ((this ≡ i) × (begun_at later i ≡ at.settled i + 1))

  pub good-begun : IsNetwork p → (at later : Places) (this : Item) → IsGood p plan at → IsBegun at later this → at.settled this + 1 ≤ operations p plan this → needs_met p plan at this ≡ true → fits p plan later ≡ true → IsGood p plan later
  good-begun net at later this good begins exists met fit = record {
    exist = λ i here. exist i here (begins.begun i here);
    needs = λ i here k lt. needs-later p plan net at later up i here (stand_after p plan i k) (needs i here k lt (begins.begun i here));
    room = fits-room later fit;
  }
    where
      up : (i : Item) → is_item p i ≡ true → stand p plan at i ≤ stand p plan later i
      up i here = le_of_eq (ap (stand_after p plan i) (begins.settled i here))

      exist : (i : Item) → is_item p i ≡ true → (begun_at later i ≡ begun_at at i) ⊎ ((this ≡ i) × (begun_at later i ≡ at.settled i + 1)) → begun_at later i ≤ operations p plan i
      exist i here (inl same) = subst (λ n. n ≤ operations p plan i) (sym same) (good.exist i here)
      exist i here (inr new) = subst (λ n. n ≤ operations p plan i) (sym new.1) (subst (λ x. at.settled x + 1 ≤ operations p plan x) new.0 exists)

      needs : (i : Item) → is_item p i ≡ true → (k : ℕ) → k < begun_at later i → (begun_at later i ≡ begun_at at i) ⊎ ((this ≡ i) × (begun_at later i ≡ at.settled i + 1)) → needs_met_at p plan at i (stand_after p plan i k) ≡ true
      needs i here k lt (inl same) = good.needs i here k (subst (λ n. k < n) same lt)
      needs i here k lt (inr new) =
          let few : k < at.settled i + 1 = subst (λ n. k < n) new.1 lt in
          elim (cases_lt k (at.settled i)) as (λ c. needs_met_at p plan at i (stand_after p plan i k) ≡ true) [
            | inl before ↦ good.needs i here k (le_trans before (settled-begun_at at i))
            | inr now ↦
                let e : at.settled i ≡ k = omega (arith, few, now) in
                subst (λ n. needs_met_at p plan at i (stand_after p plan i n) ≡ true) e (subst (λ x. needs_met p plan at x ≡ true) new.0 met)
          ]
