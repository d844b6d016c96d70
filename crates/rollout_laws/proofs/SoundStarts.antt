-- A start is sound exactly where its places are good; the first start is.
use Rattle.std.proofs.Common.{◌≡◌, ℕ, ◌+◌, ◌<◌, ◌≤◌, Bool, true, ◌&&◌, if◌then◌else◌, List, [], get_or, sym, refl, ap, ◌∙◌, subst, arith, leb-true, le-leb}
use Rattle.std.proofs.lemmas.Bool.{and_parts, and_from}
use Rattle.rollout_rules.specs.Wan.{Problem, Plan}
use Rattle.rollout_rules.specs.Items.{is_item, item_count, number_of, item_at, all_items}
use Rattle.rollout_rules.specs.Operations.{operations, stand_after}
use Rattle.rollout_rules.specs.History.{Places, started, no_start, from_nothing, places_of, settled}
use Rattle.rollout_rules.specs.Needs.{needs_met_at}
use Rattle.rollout_rules.specs.Room.{fits}
use Rattle.rollout_rules.specs.Valid.{is_valid_plan}
use Rattle.rollout_rules.specs.Legal.{has_settled, had_its_needs, is_sound, is_legal}
use Rattle.rollout_rules.specs.declared.item.Item.{Item}
use Rattle.rollout_rules.proofs.Below.{all_below-at, all_below-from}
use Rattle.rollout_rules.proofs.Numbers.{item_at-number_of, number_of-below, is_item-item_at}
use Rattle.rollout_rules.proofs.Rows.{list_below-at}
use Rattle.rollout_laws.specs.Good.{begun_at, IsGood}
use Rattle.rollout_laws.proofs.Histories.{flies-started}
use Rattle.rollout_laws.proofs.Goods.{fits-room, room-fits, good-first}
use Rattle.rollout_laws.proofs.Validity.{IsValid, plan-is_valid}

-- a test of all items, and of each
pub all_items-at : (p : Problem) (test : Item → Bool) → all_items p test ≡ true → (i : Item) → is_item p i ≡ true → test i ≡ true
all_items-at p test all i here =
    ap test (sym (item_at-number_of p i here)) ∙ all_below-at (item_count p) (λ n. test (item_at p n)) all (number_of p i) (number_of-below p i here)

pub all_items-from : (p : Problem) (test : Item → Bool) → ((i : Item) → is_item p i ≡ true → test i ≡ true) → all_items p test ≡ true
all_items-from p test each = all_below-from (item_count p) (λ n. test (item_at p n)) (λ n lt. each (item_at p n) (is_item-item_at p n lt))

-- at a start no more is begun than settled
pub begun_at-started : (p : Problem) (start : List ℕ) (i : Item) → begun_at (places_of p (started start)) i ≡ settled (started start) (number_of p i)
begun_at-started p start i = ap (λ fl. if fl then settled (started start) (number_of p i) + 1 else settled (started start) (number_of p i)) (flies-started start (number_of p i))

module _ (p : Problem) (plan : Plan) where
  module _ (start : List ℕ) where
    abbrev at : Places
    at = places_of p (started start)

    pub sound-good : is_sound p plan start ≡ true → IsGood p plan at
    sound-good sound = record {
      exist = λ i here. subst (λ n. n ≤ operations p plan i) (sym (begun_at-started p start i)) (leb-true _ _ (all_items-at p (has_settled p plan at) first.0 i here));
      needs = λ i here k lt. all_below-at (at.settled i) (λ j. needs_met_at p plan at i (stand_after p plan i j)) (all_items-at p (had_its_needs p plan at) first.1 i here) k (subst (λ n. k < n) (begun_at-started p start i) lt);
      room = fits-room p plan at both.1;
    }
      where
        both : (all_items p (has_settled p plan at) && all_items p (had_its_needs p plan at) ≡ true) × (fits p plan at ≡ true)
        both = and_parts _ _ sound

        first : (all_items p (has_settled p plan at) ≡ true) × (all_items p (had_its_needs p plan at) ≡ true)
        first = and_parts _ _ both.0

    pub good-sound : IsGood p plan at → is_sound p plan start ≡ true
    good-sound good =
        and_from _ _ (and_from _ _ (all_items-from p (has_settled p plan at) exist) (all_items-from p (had_its_needs p plan at) needs)) (room-fits p plan at good.room)
      where
        exist : (i : Item) → is_item p i ≡ true → has_settled p plan at i ≡ true
        exist i here = le-leb _ _ (subst (λ n. n ≤ operations p plan i) (begun_at-started p start i) (good.exist i here))

        needs : (i : Item) → is_item p i ≡ true → had_its_needs p plan at i ≡ true
        needs i here = all_below-from (at.settled i) (λ j. needs_met_at p plan at i (stand_after p plan i j)) (λ j lt. good.needs i here j (subst (λ n. j < n) (sym (begun_at-started p start i)) lt))

    -- where a start settles nothing it is sound
    first-sound : IsValid p plan → ((n : ℕ) → n < item_count p → get_or start n 0 ≡ 0) → is_sound p plan start ≡ true
    first-sound valid none = good-sound (good-first p plan valid at (record {
      settled = λ i here. omega (arith, none (number_of p i) (number_of-below p i here));
      still = λ i here. flies-started start (number_of p i);
    }))

  pub no_start-sound : is_valid_plan p plan ≡ true → is_sound p plan (no_start p) ≡ true
  no_start-sound valid = first-sound (no_start p) (plan-is_valid p plan valid) (λ n lt. list_below-at (item_count p) (λ k. 0) n 0 lt)

  pub empty_start-sound : is_valid_plan p plan ≡ true → is_sound p plan [] ≡ true
  empty_start-sound valid = first-sound [] (plan-is_valid p plan valid) (λ n lt. refl)

  pub from_nothing-legal : is_valid_plan p plan ≡ true → is_legal p plan (from_nothing p []) ≡ true
  from_nothing-legal valid = and_from _ _ (no_start-sound valid) refl
