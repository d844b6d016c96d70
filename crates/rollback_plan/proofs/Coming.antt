-- How far a history comes that is levelled at a stage, whichever: also where some of its operations lead past that.
use Rattle.std.proofs.Common.{◌≡◌, ℕ, ◌+◌, ◌<◌, ◌≤◌, true, ◌==◌, List, [], inl, inr, sym, ap, subst, arith, eqb-true}
use Rattle.std.proofs.lemmas.Bool.{both_ways, cases_lt, eqb-false}
use Rattle.rollout_rules.specs.Wan.{Problem, Plan, last_stage}
use Rattle.rollout_rules.specs.Network.{IsNetwork}
use Rattle.rollout_rules.specs.Items.{item_count, item_at, number_of}
use Rattle.rollout_rules.specs.Operations.{changes_to, operations}
use Rattle.rollout_rules.specs.History.{History, begun, places_of, settled, stand, with_entries}
use Rattle.rollout_rules.specs.Room.{least_stage}
use Rattle.rollout_rules.specs.Valid.{is_valid_plan}
use Rattle.rollout_rules.specs.Legal.{is_finished, is_legal}
use Rattle.rollout_rules.specs.Release.{release, view_of}
use Rattle.rollout_rules.specs.declared.op.OpView.{OpView}
use Rattle.rollout_rules.specs.declared.op.Entry.{Entry}
use Rattle.rollout_rules.proofs.Below.{all_below-at}
use Rattle.rollout_rules.proofs.Numbers.{is_item-item_at, item_at-number_of, number_of-below, number_of-item_at}
use Rattle.rollout_rules.proofs.OverItems.{least_items-is}
use Rattle.rollout_laws.specs.Waiting.{NothingFlies}
use Rattle.rollout_laws.proofs.Histories.{begun-with, is_counted}
use Rattle.rollout_laws.proofs.Released.{none-held}
use Rattle.rollout_laws.proofs.Rooms.{least_stage-at}
use Rattle.rollout_laws.proofs.Standing.{changes-up, stand-passes}
use Rattle.rollout_laws.proofs.Stuck.{least-begins}
use Rattle.rollout_laws.proofs.Validity.{plan-is_valid}
use Rattle.rollback_plan.specs.Levels.{HoldsFrom}
use Rattle.rollback_plan.specs.Turns.{BegunSoFar, HasComeSoFar, comes_to}
use Rattle.rollback_plan.proofs.Views.{views-are_views}

-- so far a history comes that is at least the stage, and the one found is there
pub comes-above : (p : Problem) (plan : Plan) (found : History) (s n : ℕ) → changes_to p plan (item_at p n) s ≤ comes_to p plan found s n
comes-above p plan found s n = omega arith

pub begun-so_far : (p : Problem) (plan : Plan) (found : History) (s : ℕ) → BegunSoFar p plan found s found
begun-so_far p plan found s n lt = omega arith

module _ (p : Problem) (plan : Plan) (s : ℕ) (most : s ≤ last_stage plan) (net : IsNetwork p) (valid : is_valid_plan p plan ≡ true) (policy : OpView → ℕ) (holds : HoldsFrom s policy) where
  module _ (h : History) (legal : is_legal p plan h ≡ true) (idle : NothingFlies p h) (none : release p plan policy h ≡ []) where
    -- where nothing flies and nothing may begin that isn't held, no item stands before the stage: the least would go on
    none-before : s ≤ least_stage p plan (places_of p h)
    none-before = elim (cases_lt (least_stage p plan (places_of p h)) s) as (λ c. s ≤ least_stage p plan (places_of p h)) [
      | inl before ↦
          let ahead : least_stage p plan (places_of p h) < last_stage plan = omega (arith, before, most) in
          let least = least_items-is p (last_stage plan) (stand p plan (places_of p h)) ahead in
          let i = least.this in
          let n = number_of p i in
          let lt = number_of-below p i least.found in
          let same = item_at-number_of p i least.found in
          let stands : stand p plan (places_of p h) (item_at p n) < s = subst (λ k. stand p plan (places_of p h) k < s) (sym same) (omega (arith, before, least.is)) in
          let may = least-begins p plan net (plan-is_valid p plan valid) h legal i least.found (sym least.is) ahead (idle n lt) in
          let held = none-held p plan policy h none n may in
          let free = holds.below (view_of p plan h n) (views-are_views p plan h n net valid legal lt) stands in
          absurd (both_ways _ free held)
      | inr from ↦ from
    ]

    -- so all operations up to the stage are settled
    up-settled : (n : ℕ) → n < item_count p → changes_to p plan (item_at p n) s ≤ settled h n
    up-settled n lt =
        let i = item_at p n in
        let at = places_of p h in
        let stands = least_stage-at p plan at i (is_item-item_at p n lt) in
        let number = ap (settled h) (number_of-item_at p n lt) in
        let passes = stand-passes p plan i (at.settled i) in
        let steps = changes-up p plan i s (stand p plan at i) (omega (arith, none-before, stands)) in
        omega (arith, steps, passes, number)

    module _ (found : History) (es : List Entry) (is : h ≡ with_entries found es) (so : BegunSoFar p plan found s h) where
      still-at : (n : ℕ) → n < item_count p → begun h n ≡ settled h n
      still-at n lt =
          let counted = is_counted p plan h legal n in
          omega (arith, counted.settled_begun, counted.one_flies, eqb-false (begun h n) (settled h n + 1) (idle n lt))

      pub come-so_far : HasComeSoFar p plan found s h
      come-so_far = record {
        settled_so = λ n lt.
            let low : begun found n ≤ begun h n = subst (λ (g : History). begun found n ≤ begun g n) (sym is) (omega (arith, begun-with found es n)) in
            omega (arith, low, up-settled n lt, still-at n lt, so n lt);
        still = still-at;
      }

-- where a history is finished that goes on from the one found, and leads no further, too
module _ (p : Problem) (plan : Plan) (s : ℕ) (most : s ≤ last_stage plan) (found : History) (es : List Entry) (legal : is_legal p plan (with_entries found es) ≡ true) (finished : is_finished p plan (with_entries found es) ≡ true)
    (so : BegunSoFar p plan found s (with_entries found es)) where
  abbrev now : History
  now = with_entries found es

  module _ (n : ℕ) (lt : n < item_count p) where
    all-settled : settled now n ≡ operations p plan (item_at p n)
    all-settled = eqb-true (settled now n) (operations p plan (item_at p n)) (all_below-at (item_count p) (λ m. settled now m == operations p plan (item_at p m)) finished n lt)

    none-more : begun now n ≤ operations p plan (item_at p n)
    none-more = (is_counted p plan now legal n).exist lt

    settled-begun : settled now n ≤ begun now n
    settled-begun = (is_counted p plan now legal n).settled_begun

    found-begun : begun found n ≤ begun now n
    found-begun = omega (arith, begun-with found es n)

    up-to : changes_to p plan (item_at p n) s ≤ operations p plan (item_at p n)
    up-to = changes-up p plan (item_at p n) s (last_stage plan) most

  pub finished-so_far : HasComeSoFar p plan found s now
  finished-so_far = record {
    settled_so = λ n lt. omega (arith, all-settled n lt, none-more n lt, settled-begun n lt, found-begun n lt, up-to n lt, so n lt);
    still = λ n lt. omega (arith, all-settled n lt, none-more n lt, settled-begun n lt);
  }
