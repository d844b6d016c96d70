-- What a start breaks first, by its counts and by the places of items there; and that a start is sound where it breaks nothing.
use Rattle.std.proofs.Common.{◌≡◌, ℕ, ◌+◌, ◌-◌, ◌<◌, ◌≤◌, Bool, true, false, ◌&&◌, ◌||◌, List, [], Option, Some, None, Result, Ok, Err, slice_index, nat_le, nat_lt, inl, inr, refl, sym, ap, ap₂, ◌∙◌, subst, arith}
use Rattle.std.proofs.lemmas.Bool.{and_left, and_right, and_parts, and_from, cases_lt}
use Rattle.std.specs.Prelude.{IfErr, MatchOption}
use Rattle.rollout_rules.specs.Sums.{all_below}
use Rattle.rollout_rules.specs.Wan.{Problem, Plan, Rollout, last_stage}
use Rattle.rollout_rules.specs.Network.{IsNetwork}
use Rattle.rollout_rules.specs.Items.{item_count, item_at, all_items, capacity_of}
use Rattle.rollout_rules.specs.Operations.{changes_to, stand_after}
use Rattle.rollout_rules.specs.History.{Places, started, settled, places_of}
use Rattle.rollout_rules.specs.Needs.{needs_met_at}
use Rattle.rollout_rules.specs.Room.{fits}
use Rattle.rollout_rules.specs.Legal as legal
use Rattle.rollout_rules.specs.declared.item.Item.{Item}
use Rattle.rollout_rules.proofs.Below.{all_below-at, all_below_stops}
use Rattle.rollout_rules.proofs.Numbers.{number_of-item_at, is_item-item_at}
use Rattle.dependency_graph.specs.Progress.{Counts, AreCountsOf}
use Rattle.dependency_graph.specs.Ahead.{places_with}
use Rattle.dependency_graph.specs.Cells.{resource_count, resource_at}
use Rattle.dependency_graph.specs.Graph.{count_of}
use Rattle.dependency_graph.specs.FirstFault.{FailsFirst, had_needs_behind, has_room_at, has_room_for, IsAbove, LacksNeeds, IsFirstFault, TellsSound}
use Rattle.dependency_graph.specs.Soundness as parts
use Rattle.dependency_graph.specs.declared.start_fault.StartFault.{StartFault}
use Rattle.dependency_graph.specs.declared.start_fault.StartFault.TheVariants as fault
use Rattle.dependency_graph.proofs.Agreement.{Agree, all_below-same, room-same, least_stage-same, fits_at-same}
use Rattle.dependency_graph.proofs.Counts.{counts-agree}
use Rattle.dependency_graph.proofs.Starts.{needs_at-same, sound-counts}
use Rattle.dependency_graph.proofs.Walks.{walk, walk-stops}

-- ---- the first number that fails a test
pub fails-same : (n k : ℕ) (f g : ℕ → Bool) → ((j : ℕ) → j < n → f j ≡ g j) → FailsFirst n f k → FailsFirst n g k
fails-same n k f g same first = record {
  there = first.there;
  fails = sym (same k first.there) ∙ first.fails;
  before = sym (all_below-same k f g (λ j lt. same j (omega (arith, lt, first.there)))) ∙ first.before;
}

pub fails-all : (n k : ℕ) (f : ℕ → Bool) → FailsFirst n f k → all_below n f ≡ false
fails-all n k f first = all_below_stops f n k first.there first.fails

-- there is one such number at most
pub fails-once : (n k j : ℕ) (f : ℕ → Bool) → FailsFirst n f k → FailsFirst n f j → k ≡ j
fails-once n k j f a b = elim (cases_lt k j) as (λ _. k ≡ j) [
  | inl less ↦ absurd (clash (f k) a.fails (all_below-at j f b.before k less))
  | inr up ↦ elim (cases_lt j k) as (λ _. k ≡ j) [
    | inl less ↦ absurd (clash (f j) b.fails (all_below-at k f a.before j less))
    | inr down ↦ omega (arith, up, down)
  ]
]
  where
    clash : (x : Bool) → x ≡ false → x ≡ true → ⊥
    clash x p q = cc

-- ---- where a fault is told, the start isn't sound
module _ (p : Problem) (plan : Plan) (at : Places) where
  abbrev all_exist : Bool
  all_exist = all_items p (legal.has_settled p plan at)

  abbrev all_had : Bool
  all_had = all_items p (legal.had_its_needs p plan at)

  abbrev sound_at : Bool
  sound_at = all_exist && all_had && fits p plan at

  above-unsound : (n held count : ℕ) → IsAbove p plan at n held count → sound_at ≡ false
  above-unsound n held count is =
      and_left (all_exist && all_had) (fits p plan at) (and_left all_exist all_had (fails-all (item_count p) n (λ m. legal.has_settled p plan at (item_at p m)) is.item))

  lacks-unsound : (n j : ℕ) → LacksNeeds p plan at n j → sound_at ≡ false
  lacks-unsound n j is =
      and_left (all_exist && all_had) (fits p plan at) (and_right all_exist all_had (fails-all (item_count p) n (λ m. legal.had_its_needs p plan at (item_at p m)) is.item))

  pub tells-unsound : (A : Type 0) (f : StartFault) → IsFirstFault p plan at f → TellsSound {A = A} (Err f) sound_at
  tells-unsound A (fault.Above n held count) is = above-unsound n held count is
  tells-unsound A (fault.Need n j) is = lacks-unsound n j is
  tells-unsound A (fault.Room s here found wanted) is = and_right (all_exist && all_had) (fits p plan at) (fails-all (last_stage plan) s (has_room_at p plan at) is.stage)
  tells-unsound A fault.Memory is = tt

-- ---- by counts and by places
module _ (c : Counts) (start : List ℕ) (net : IsNetwork c.rollout.problem) (so : AreCountsOf c (started start)) where
  abbrev r : Rollout
  r = c.rollout

  abbrev p : Problem
  p = c.rollout.problem

  abbrev plan : Plan
  plan = c.rollout.plan

  abbrev counted : Places
  counted = places_with c.rollout c []

  abbrev placed : Places
  placed = places_of c.rollout.problem (started start)

  agree : Agree p counted placed
  agree = counts-agree c (started start) so

  count : (n : ℕ) → n < item_count p → slice_index c.settled n ≡ placed.settled (item_at p n)
  count n lt = so.settled n lt ∙ ap (settled (started start)) (sym (number_of-item_at p n lt))

  exists-same : (n : ℕ) → n < item_count p → parts.has_settled r c n ≡ legal.has_settled p plan placed (item_at p n)
  exists-same n lt = ap (λ x. nat_le x (count_of r n)) (count n lt)

  all-exist : parts.all_exist r c ≡ true → all_items p (legal.has_settled p plan placed) ≡ true
  all-exist e = sym (all_below-same (item_count p) (parts.has_settled r c) (λ n. legal.has_settled p plan placed (item_at p n)) exists-same) ∙ e

  behind-same : (n j : ℕ) → n < item_count p → had_needs_behind p plan counted n j ≡ had_needs_behind p plan placed n j
  behind-same n j lt = needs_at-same p plan counted placed (item_at p n) (stand_after p plan (item_at p n) j) agree net (is_item-item_at p n lt)

  needs-same : (n : ℕ) → n < item_count p → parts.had_its_needs r c n ≡ legal.had_its_needs p plan placed (item_at p n)
  needs-same n lt =
      all_below-same (slice_index c.settled n) (had_needs_behind p plan counted n) (had_needs_behind p plan placed n) (λ j low. behind-same n j lt)
      ∙ ap (λ m. all_below m (had_needs_behind p plan placed n)) (count n lt)

  all-had : parts.all_had_their_needs r c ≡ true → all_items p (legal.had_its_needs p plan placed) ≡ true
  all-had e = sym (all_below-same (item_count p) (parts.had_its_needs r c) (λ n. legal.had_its_needs p plan placed (item_at p n)) needs-same) ∙ e

  room_at-same : (s : ℕ) → has_room_at p plan counted s ≡ has_room_at p plan placed s
  room_at-same s = ap₂ (λ m b. nat_lt s m || b) (least_stage-same p plan counted placed agree) (fits_at-same p plan counted placed agree s)

  room_for-same : (s q : ℕ) → has_room_for p plan counted s q ≡ has_room_for p plan placed s q
  room_for-same s q = ap (λ x. nat_le x (capacity_of p plan (resource_at p q))) (room-same p plan counted placed agree s (resource_at p q))

  above-placed : (f : StartFault) → parts.IsOfItem r c f → IsFirstFault p plan placed f
  above-placed f of = subst (IsFirstFault p plan placed) (sym of.is) (record {
    item = fails-same (item_count p) of.number (parts.has_settled r c) (λ m. legal.has_settled p plan placed (item_at p m)) exists-same of.first;
    settled = count of.number of.first.there;
    has = refl;
  })

  lacks-placed : (f : StartFault) → parts.all_exist r c ≡ true → parts.IsOfNeed r c f → IsFirstFault p plan placed f
  lacks-placed f exist of =
      let n = of.number in
      let lt = of.first.item.there in
      let j = of.operation - 1 in
      let by_count = fails-same (slice_index c.settled n) j (had_needs_behind p plan counted n) (had_needs_behind p plan placed n) (λ k low. behind-same n k lt) of.first.operation.first in
      subst (IsFirstFault p plan placed) (sym of.is) (record {
        exists = all-exist exist;
        item = fails-same (item_count p) n (parts.had_its_needs r c) (λ m. legal.had_its_needs p plan placed (item_at p m)) needs-same of.first.item;
        number = of.first.operation.number;
        operation = subst (λ m. FailsFirst m (had_needs_behind p plan placed n) j) (count n lt) by_count;
      })

  room-placed : (f : StartFault) → parts.all_exist r c ≡ true → parts.all_had_their_needs r c ≡ true → parts.IsOfRoom r c f → IsFirstFault p plan placed f
  room-placed f exist had of =
      let s = of.at in
      let q = of.number in
      subst (IsFirstFault p plan placed) (sym of.is) (record {
        exists = all-exist exist;
        needs = all-had had;
        stage = fails-same (last_stage plan) s (has_room_at p plan counted) (has_room_at p plan placed) (λ k low. room_at-same k) of.stage;
        number = q;
        resource = fails-same (resource_count p) q (has_room_for p plan counted s) (has_room_for p plan placed s) (λ k low. room_for-same s k) of.resource;
        spot = refl;
        taken = room-same p plan counted placed agree s (resource_at p q);
        there = refl;
      })

  places-placed : (f : StartFault) → parts.all_exist r c ≡ true → parts.IsOfPlaces r c f → IsFirstFault p plan placed f
  places-placed f exist (inl lacks) = lacks-placed f exist lacks
  places-placed f exist (inr full) = room-placed f exist full.0 full.1

  first-own : (f : StartFault) → parts.IsFirst r c f → IsFirstFault p plan placed f
  first-own f (inl above) = above-placed f above
  first-own f (inr behind) = places-placed f behind.0 behind.1

-- the same under a plan that is the counts' own
pub first-counts : (r : Rollout) (c : Counts) (start : List ℕ) (f : StartFault) → r ≡ c.rollout → IsNetwork r.problem → AreCountsOf c (started start) → parts.IsFirst r c f → IsFirstFault r.problem r.plan (places_of r.problem (started start)) f
first-counts r c start f own net so first =
    subst (λ (q : Rollout). IsNetwork q.problem → parts.IsFirst q c f → IsFirstFault q.problem q.plan (places_of q.problem (started start)) f) (sym own) (λ net' first'. first-own c start net' so f first') net first

-- what is answered of a start, by its counts
pub verdict-sound : {A : Type 0} (answer : Result A StartFault) (r : Rollout) (c : Counts) (start : List ℕ) → r ≡ c.rollout → IsNetwork r.problem → AreCountsOf c (started start) → parts.IsVerdict answer r c → TellsSound answer (legal.is_sound r.problem r.plan start)
verdict-sound (Ok a) r c start own net so tells = sym (sound-counts r c start own net so) ∙ tells
verdict-sound {A = A} (Err f) r c start own net so tells = tells-unsound r.problem r.plan (places_of r.problem (started start)) A f (first-counts r c start f own net so tells)

pub verdict-first : {A : Type 0} (answer : Result A StartFault) (r : Rollout) (c : Counts) (start : List ℕ) → r ≡ c.rollout → IsNetwork r.problem → AreCountsOf c (started start) → parts.IsVerdict answer r c → IfErr answer (IsFirstFault r.problem r.plan (places_of r.problem (started start)))
verdict-first (Ok a) r c start own net so tells = tt
verdict-first (Err f) r c start own net so tells = first-counts r c start f own net so tells

-- ---- an item's operations by the stages that it passed
module _ (r : Rollout) (c : Counts) (n : ℕ) where
  abbrev i : Item
  i = item_at r.problem n

  abbrev met : ℕ → Bool
  met = needs_met_at r.problem r.plan (places_with r c []) (item_at r.problem n)

  pub lacks-all : (j : ℕ) → parts.LacksOperation r c n j → parts.had_its_needs r c n ≡ false
  lacks-all j lacks = fails-all (slice_index c.settled n) (j - 1) (had_needs_behind r.problem r.plan (places_with r c []) n) lacks.first

  pub lacks-operation : (s j : ℕ) (what : Item) → what ≡ item_at r.problem n → slice_index c.settled n ≤ count_of r n → s < stand_after r.problem r.plan (item_at r.problem n) (slice_index c.settled n) → all_below s (parts.had_needs_at r c what) ≡ true → parts.had_needs_at r c what s ≡ false → j ≡ changes_to r.problem r.plan what s + 1 → parts.LacksOperation r c n j
  lacks-operation s j what is le lt passed stopped number =
      let passed' = subst (λ k. all_below s (parts.had_needs_at r c k) ≡ true) is passed in
      let stopped' = subst (λ k. parts.had_needs_at r c k s ≡ false) is stopped in
      let same : changes_to r.problem r.plan what s ≡ changes_to r.problem r.plan i s = ap (λ k. changes_to r.problem r.plan k s) is in
      let behind : changes_to r.problem r.plan i s ≡ j - 1 = omega (arith, number, same) in
      record {
        number = omega (arith, number);
        first = subst (λ m. FailsFirst (slice_index c.settled n) (had_needs_behind r.problem r.plan (places_with r c []) n) m) behind (walk-stops r.problem r.plan i (slice_index c.settled n) s met le lt passed' stopped');
      }

  pub all-had-there : (s : ℕ) (what : Item) → what ≡ item_at r.problem n → slice_index c.settled n ≤ count_of r n → s ≡ stand_after r.problem r.plan (item_at r.problem n) (slice_index c.settled n) → all_below s (parts.had_needs_at r c what) ≡ true → parts.had_its_needs r c n ≡ true
  all-had-there s what is le at passed =
      let passed' = subst (λ k. all_below s (parts.had_needs_at r c k) ≡ true) is passed in
      sym (walk r.problem r.plan i (slice_index c.settled n) met le) ∙ subst (λ m. all_below m (parts.had_needs_at r c (item_at r.problem n)) ≡ true) at passed'

-- ---- one test after another
pub option_as : {A : Type 0} (o : Option A) (P Q : Type 0) (R S : A → Type 0) → MatchOption o P R → (P → Q) → ((a : A) → R a → S a) → MatchOption o Q S
option_as None P Q R S is none some = none is
option_as (Some a) P Q R S is none some = some a is

module _ (r : Rollout) (c : Counts) where
  abbrev fit : Bool
  fit = fits r.problem r.plan (places_with r c [])

  -- what comes after a test that holds
  pub behind-exist : (o : Option StartFault) → parts.all_exist r c ≡ true → MatchOption o (parts.had_needs_and_fit r c ≡ true) (parts.IsOfPlaces r c) → MatchOption o (parts.is_sound r c ≡ true) (parts.IsFirst r c)
  behind-exist o exist is = option_as o _ _ _ _ is
      (λ both. let had = and_parts (parts.all_had_their_needs r c) fit both in and_from (parts.all_exist r c && parts.all_had_their_needs r c) fit (and_from (parts.all_exist r c) (parts.all_had_their_needs r c) exist had.0) had.1)
      (λ f of. inr (exist, of))

  pub behind-needs : (o : Option StartFault) → parts.all_had_their_needs r c ≡ true → MatchOption o (fit ≡ true) (parts.IsOfRoom r c) → MatchOption o (parts.had_needs_and_fit r c ≡ true) (parts.IsOfPlaces r c)
  behind-needs o had is = option_as o _ _ _ _ is (λ full. and_from (parts.all_had_their_needs r c) fit had full) (λ f of. inr (had, of))
