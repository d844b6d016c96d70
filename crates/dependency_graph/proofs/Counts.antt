-- What counts say of a history that has them.
use Rattle.std.proofs.Common.{◌≡◌, ℕ, ◌<◌, ◌≤◌, [], ◌∷◌, slice_index, sym, ap, ◌∙◌, subst, arith}
use Rattle.rollout_rules.specs.Wan.{Problem, Plan, Rollout, last_stage}
use Rattle.rollout_rules.specs.Network.{IsNetwork}
use Rattle.rollout_rules.specs.Items.{item_count, item_at}
use Rattle.rollout_rules.specs.Operations.{changes_behind, operations, stand_after}
use Rattle.rollout_rules.specs.declared.item.Item.{Item}
use Rattle.rollout_rules.specs.History.{History, with_entries, places_of, stand}
use Rattle.rollout_rules.specs.Needs.{needs_met}
use Rattle.rollout_rules.specs.Room.{least_stage, fits}
use Rattle.rollout_rules.specs.declared.op.Op.{Op}
use Rattle.rollout_rules.specs.declared.op.Entry.TheVariants.{Begin}
use Rattle.rollout_rules.proofs.Numbers.{is_item-item_at, number_of-item_at}
use Rattle.rollout_rules.proofs.Below.{count_below-most}
use Rattle.rollout_laws.proofs.Histories.{with_none}
use Rattle.rollout_laws.proofs.Standing.{stand-left}
use Rattle.dependency_graph.specs.Progress.{Counts, AreCountsOf}
use Rattle.dependency_graph.specs.Ahead.{settled_with, stand_with, places_with, places_begun}
use Rattle.dependency_graph.specs.Fits.{least_stand}
use Rattle.dependency_graph.proofs.Agreement.{Agree, stand-same, least_stage-same, fits-same}
use Rattle.dependency_graph.proofs.Needed.{needs-same}
use Rattle.dependency_graph.proofs.Counted.{with-agree, begun-agree}
use Rattle.dependency_graph.proofs.Touched.{least-numbers}

module _ (c : Counts) (h : History) (so : AreCountsOf c h) where
  abbrev p : Problem
  p = c.rollout.problem

  abbrev plan : Plan
  plan = c.rollout.plan

  pub counts-agree : Agree p (places_with c.rollout c []) (places_of p h)
  counts-agree = subst (λ k. Agree p (places_with c.rollout c []) (places_of p k)) (with_none h) (with-agree c h [] so)

  pub counts-begun : (op : Op) → Agree p (places_begun c.rollout c [] op) (places_of p (with_entries h (Begin op ∷ [])))
  counts-begun op = subst (λ k. Agree p (places_begun c.rollout c [] op) (places_of p (with_entries k (Begin op ∷ [])))) (with_none h) (begun-agree c h [] so op)

  pub counts-stand : (n : ℕ) → n < item_count p → stand_with c.rollout c [] n ≡ stand p plan (places_of p h) (item_at p n)
  counts-stand n lt =
      ap (λ m. stand_after p plan (item_at p n) (settled_with c [] m)) (sym (number_of-item_at p n lt))
      ∙ stand-same p plan (places_with c.rollout c []) (places_of p h) counts-agree (item_at p n) (is_item-item_at p n lt)

  pub counts-least : least_stand c.rollout c [] ≡ least_stage p plan (places_of p h)
  counts-least =
      least-numbers c.rollout c [] none
      ∙ least_stage-same p plan (places_with c.rollout c []) (places_of p h) counts-agree
    where
      none : Op
      none = record { item = 0; number = 0 }

  pub counts-needs : IsNetwork p → (n : ℕ) → n < item_count p → needs_met p plan (places_with c.rollout c []) (item_at p n) ≡ needs_met p plan (places_of p h) (item_at p n)
  counts-needs net n lt = needs-same p plan (places_with c.rollout c []) (places_of p h) (item_at p n) counts-agree net (is_item-item_at p n lt)

  pub counts-fits : (op : Op) → fits p plan (places_begun c.rollout c [] op) ≡ fits p plan (places_of p (with_entries h (Begin op ∷ [])))
  counts-fits op = fits-same p plan (places_begun c.rollout c [] op) (places_of p (with_entries h (Begin op ∷ []))) (counts-begun op)

-- the same under a plan that is the counts' own
module _ (r : Rollout) (c : Counts) (h : History) (same : r ≡ c.rollout) (so : AreCountsOf c h) where
  pub own-stand : (n : ℕ) → n < item_count r.problem → stand_with r c [] n ≡ stand r.problem r.plan (places_of r.problem h) (item_at r.problem n)
  own-stand n lt = subst (λ (q : Rollout). n < item_count q.problem → stand_with q c [] n ≡ stand q.problem q.plan (places_of q.problem h) (item_at q.problem n)) (sym same) (counts-stand c h so n) lt

  pub own-least : least_stand r c [] ≡ least_stage r.problem r.plan (places_of r.problem h)
  own-least = subst (λ (q : Rollout). least_stand q c [] ≡ least_stage q.problem q.plan (places_of q.problem h)) (sym same) (counts-least c h so)

  pub own-needs : IsNetwork r.problem → (n : ℕ) → n < item_count r.problem → needs_met r.problem r.plan (places_with r c []) (item_at r.problem n) ≡ needs_met r.problem r.plan (places_of r.problem h) (item_at r.problem n)
  own-needs net n lt = subst (λ (q : Rollout). IsNetwork q.problem → n < item_count q.problem → needs_met q.problem q.plan (places_with q c []) (item_at q.problem n) ≡ needs_met q.problem q.plan (places_of q.problem h) (item_at q.problem n)) (sym same) (λ net' lt'. counts-needs c h so net' n lt') net lt

  pub own-fits : (op : Op) → fits r.problem r.plan (places_begun r c [] op) ≡ fits r.problem r.plan (places_of r.problem (with_entries h (Begin op ∷ [])))
  own-fits op = subst (λ (q : Rollout). fits q.problem q.plan (places_begun q c [] op) ≡ fits q.problem q.plan (places_of q.problem (with_entries h (Begin op ∷ [])))) (sym same) (counts-fits c h so op)

-- an item with an operation left stands before the last stage
pub left-stands : (r : Rollout) (c : Counts) (n : ℕ) → slice_index c.settled n < operations r.problem r.plan (item_at r.problem n) → stand_with r c [] n < last_stage r.plan
left-stands r c n lt = stand-left r.problem r.plan (item_at r.problem n) (settled_with c [] n) (omega (arith, lt))

-- each operation comes to a stage of its own
pub operations-most : (p : Problem) (plan : Plan) (i : Item) → operations p plan i ≤ last_stage plan
operations-most p plan i = count_below-most (last_stage plan) (changes_behind p plan i)

-- the least stage by the counts' numbers
pub own-least-with : (r : Rollout) (c : Counts) → least_stand r c [] ≡ least_stage r.problem r.plan (places_with r c [])
own-least-with r c = least-numbers r c [] none
  where
    none : Op
    none = record { item = 0; number = 0 }
