-- Whether a start is sound goes by the counts of the history that begins there.
use Rattle.std.proofs.Common.{◌≡◌, ℕ, ◌<◌, Bool, true, ◌&&◌, List, [], length, slice_index, nat_le, sym, ap, ap₂, ◌∙◌, subst, ltb-true}
use Rattle.rollout_rules.specs.Sums.{all_below}
use Rattle.rollout_rules.specs.Wan.{Problem, Plan, Rollout}
use Rattle.rollout_rules.specs.Network.{IsNetwork}
use Rattle.rollout_rules.specs.Items.{Resource, is_item, item_count, item_at, number_of, capacity_of}
use Rattle.rollout_rules.specs.Operations.{stand_after}
use Rattle.rollout_rules.specs.History.{Places, started, settled, places_of}
use Rattle.rollout_rules.specs.Needs.{needs_met_at}
use Rattle.rollout_rules.specs.Room.{room, fits_at}
use Rattle.rollout_rules.specs.Legal as legal
use Rattle.rollout_rules.specs.declared.item.Item.{Item}
use Rattle.rollout_rules.specs.declared.item.Item.TheVariants as item
use Rattle.rollout_rules.proofs.Below.{all_below-at, all_below-from}
use Rattle.rollout_rules.proofs.Numbers.{number_of-item_at, is_item-item_at}
use Rattle.rollout_rules.proofs.OverItems.{entry-is_item, all_resources-at, all_resources-from}
use Rattle.dependency_graph.specs.Progress.{Counts, AreCountsOf}
use Rattle.dependency_graph.specs.Ahead.{places_with}
use Rattle.dependency_graph.specs.Cells.{resource_count, resource_at, resource_number}
use Rattle.dependency_graph.specs.Graph.{count_of}
use Rattle.dependency_graph.specs.Soundness.{had_its_needs, is_sound}
use Rattle.dependency_graph.proofs.Agreement.{Agree, all_below-same, needs_at-flow, needs_at-entry, fits-same}
use Rattle.dependency_graph.proofs.Changed.{same-test}
use Rattle.dependency_graph.proofs.Counts.{counts-agree}
use Rattle.dependency_graph.proofs.RoomCells.{number-inside, at-number, at-resource}

pub needs_at-same : (p : Problem) (plan : Plan) (at other : Places) (i : Item) (s : ℕ) → Agree p at other → IsNetwork p → is_item p i ≡ true → needs_met_at p plan at i s ≡ needs_met_at p plan other i s
needs_at-same p plan at other (item.Flow f) s same net here = needs_at-flow p plan at other same f s net (ltb-true f (length p.flows) here)
needs_at-same p plan at other (item.Entry t h) s same net here = needs_at-entry p plan at other same t h s net (entry-is_item p t h here).row

sound-own : (c : Counts) (start : List ℕ) → IsNetwork c.rollout.problem → AreCountsOf c (started start) → is_sound c.rollout c ≡ legal.is_sound c.rollout.problem c.rollout.plan start
sound-own c start net so =
    ap₂ (λ a b. a && b)
    (ap₂ (λ a b. a && b)
    (all_below-same (item_count p) (λ n. nat_le (slice_index c.settled n) (count_of r n)) (λ n. legal.has_settled p plan at (item_at p n))
    (λ n lt. ap (λ x. nat_le x (count_of r n)) (count n lt)))
    (all_below-same (item_count p) (had_its_needs r c) (λ n. legal.had_its_needs p plan at (item_at p n)) needs))
    (fits-same p plan (places_with r c []) at (counts-agree c (started start) so))
  where
    r : Rollout
    r = c.rollout

    p : Problem
    p = c.rollout.problem

    plan : Plan
    plan = c.rollout.plan

    at : Places
    at = places_of c.rollout.problem (started start)

    count : (n : ℕ) → n < item_count c.rollout.problem → slice_index c.settled n ≡ settled (started start) (number_of c.rollout.problem (item_at c.rollout.problem n))
    count n lt = so.settled n lt ∙ ap (settled (started start)) (sym (number_of-item_at c.rollout.problem n lt))

    needs : (n : ℕ) → n < item_count c.rollout.problem → had_its_needs c.rollout c n ≡ legal.had_its_needs c.rollout.problem c.rollout.plan (places_of c.rollout.problem (started start)) (item_at c.rollout.problem n)
    needs n lt =
        ap (λ m. all_below m (λ j. needs_met_at c.rollout.problem c.rollout.plan (places_with c.rollout c []) (item_at c.rollout.problem n) (stand_after c.rollout.problem c.rollout.plan (item_at c.rollout.problem n) j))) (count n lt)
        ∙ all_below-same (settled (started start) (number_of c.rollout.problem (item_at c.rollout.problem n)))
        (λ j. needs_met_at c.rollout.problem c.rollout.plan (places_with c.rollout c []) (item_at c.rollout.problem n) (stand_after c.rollout.problem c.rollout.plan (item_at c.rollout.problem n) j))
        (λ j. needs_met_at c.rollout.problem c.rollout.plan (places_of c.rollout.problem (started start)) (item_at c.rollout.problem n) (stand_after c.rollout.problem c.rollout.plan (item_at c.rollout.problem n) j))
        (λ j low. needs_at-same c.rollout.problem c.rollout.plan (places_with c.rollout c []) (places_of c.rollout.problem (started start)) (item_at c.rollout.problem n) (stand_after c.rollout.problem c.rollout.plan (item_at c.rollout.problem n) j) (counts-agree c (started start) so) net (is_item-item_at c.rollout.problem n lt))

pub sound-counts : (r : Rollout) (c : Counts) (start : List ℕ) → r ≡ c.rollout → IsNetwork r.problem → AreCountsOf c (started start) → is_sound r c ≡ legal.is_sound r.problem r.plan start
sound-counts r c start own net so =
    subst (λ (q : Rollout). IsNetwork q.problem → is_sound q c ≡ legal.is_sound q.problem q.plan start) (sym own) (λ net'. sound-own c start net' so) net

-- every resource fits at a stage where those by number do
pub fits_at-numbers : (p : Problem) (plan : Plan) (at : Places) (s : ℕ) → all_below (resource_count p) (λ q. nat_le (room p plan at s (resource_at p q)) (capacity_of p plan (resource_at p q))) ≡ fits_at p plan at s
fits_at-numbers p plan at s = same-test (all_below (resource_count p) by_number) (fits_at p plan at s) all part
  where
    test : Resource → Bool
    test u = nat_le (room p plan at s u) (capacity_of p plan u)

    by_number : ℕ → Bool
    by_number q = nat_le (room p plan at s (resource_at p q)) (capacity_of p plan (resource_at p q))

    all : all_below (resource_count p) by_number ≡ true → fits_at p plan at s ≡ true
    all e = all_resources-from p (λ u. nat_le (room p plan at s u) (capacity_of p plan u)) (λ u here.
        subst (λ v. nat_le (room p plan at s v) (capacity_of p plan v) ≡ true) (at-number p u here) (all_below-at (resource_count p) by_number e (resource_number p u) (number-inside p u here)))

    part : fits_at p plan at s ≡ true → all_below (resource_count p) by_number ≡ true
    part e = all_below-from (resource_count p) by_number (λ q lt. all_resources-at p (λ u. nat_le (room p plan at s u) (capacity_of p plan u)) e (resource_at p q) (at-resource p q lt))
