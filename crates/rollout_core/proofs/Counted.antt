-- Whether an entry may be added goes by the counts of a history, with the entries ahead.
use Rattle.std.proofs.Common.{◌≡◌, ◌+◌, ◌<◌, ◌≤◌, true, not, ◌&&◌, List, [], ◌∷◌, ap, ap₂, ◌∙◌, sym, subst, refl, inl, inr, arith, eqb-true, leb-true, ltb-true, nat_le, nat_lt, ◌==◌}
use Rattle.std.proofs.lemmas.Bool.{cases_Bool, and_parts, ltb-false}
use Rattle.rollout_rules.specs.Wan.{Problem, Plan, Rollout, last_stage}
use Rattle.rollout_rules.specs.Network.{IsNetwork}
use Rattle.rollout_rules.specs.Items.{item_count, item_at}
use Rattle.rollout_rules.specs.Operations.{operations}
use Rattle.rollout_rules.specs.History.{History, with_entries, places_of}
use Rattle.rollout_rules.specs.Legal as legal
use Rattle.rollout_rules.specs.declared.op.Op.{Op}
use Rattle.rollout_rules.specs.declared.op.Entry.{Entry}
use Rattle.rollout_rules.specs.declared.op.Entry.TheVariants.{Begin}
use Rattle.rollout_rules.proofs.Numbers.{is_item-item_at}
use Rattle.rollout_laws.proofs.Standing.{stand-left}
use Rattle.dependency_graph.specs.Progress.{Counts, AreCountsOf}
use Rattle.dependency_graph.specs.Ahead.{settled_with, flies_with, stand_with, places_with, places_begun}
use Rattle.dependency_graph.proofs.Agreement.{fits-same}
use Rattle.dependency_graph.proofs.Needed.{needs-same}
use Rattle.dependency_graph.proofs.Counted.{settled-ahead, flies-ahead, with-agree, begun-agree}
use Rattle.rollout_core.specs.Adding.{is_next, may_begin, may_end}
use Rattle.rollout_core.proofs.Following.{may_end-no_item}

-- the item of a next operation exists, and stands before the last stage
pub next-inside : (c : Counts) (ahead : List Entry) (op : Op) → is_next c ahead op ≡ true → op.item < item_count c.rollout.problem
next-inside c ahead op next = ltb-true _ _ (and_parts _ _ (and_parts _ _ (and_parts _ _ next).0).0).0

pub next-left : (c : Counts) (ahead : List Entry) (op : Op) → is_next c ahead op ≡ true → stand_with c.rollout c ahead op.item < last_stage c.rollout.plan
next-left c ahead op next =
    let a = and_parts _ _ next in
    let b = and_parts _ _ a.0 in
    let number : op.number ≡ settled_with c ahead op.item + 1 = eqb-true _ _ b.1 in
    let exists : op.number ≤ operations c.rollout.problem c.rollout.plan (item_at c.rollout.problem op.item) = leb-true _ _ a.1 in
    stand-left c.rollout.problem c.rollout.plan (item_at c.rollout.problem op.item) (settled_with c ahead op.item) (omega (arith, number, exists))

module _ (c : Counts) (h : History) (ahead : List Entry) (so : AreCountsOf c h) (op : Op) where
  abbrev p : Problem
  p = c.rollout.problem

  abbrev plan : Plan
  plan = c.rollout.plan

  next-ahead : op.item < item_count p → is_next c ahead op ≡ legal.is_next p plan (with_entries h ahead) op
  next-ahead lt =
      ap₂ (λ fl j. nat_lt op.item (item_count p) && not fl && (op.number == j + 1) && nat_le op.number (operations p plan (item_at p op.item)))
      (flies-ahead c h ahead so op.item lt) (settled-ahead c h ahead so op.item lt)

  known-begin : IsNetwork p → op.item < item_count p → may_begin c.rollout c ahead op ≡ legal.may_begin p plan (with_entries h ahead) op
  known-begin net lt =
      ap₂ (λ a b. a && b)
      (ap₂ (λ a b. a && b) (next-ahead lt)
      (needs-same p plan (places_with c.rollout c ahead) (places_of p (with_entries h ahead)) (item_at p op.item) (with-agree c h ahead so) net (is_item-item_at p op.item lt)))
      (fits-same p plan (places_begun c.rollout c ahead op) (places_of p (with_entries (with_entries h ahead) (Begin op ∷ []))) (begun-agree c h ahead so op))

  own-begin : IsNetwork p → may_begin c.rollout c ahead op ≡ legal.may_begin p plan (with_entries h ahead) op
  own-begin net = elim (cases_Bool (nat_lt op.item (item_count p))) as (λ _. may_begin c.rollout c ahead op ≡ legal.may_begin p plan (with_entries h ahead) op) [
    | inl inside ↦ known-begin net (ltb-true op.item (item_count p) inside)
    | inr outside ↦ rw outside refl
  ]

  known-end : op.item < item_count p → (flies_with c ahead op.item && (op.number == settled_with c ahead op.item + 1)) ≡ legal.may_end (with_entries h ahead) op
  known-end lt = ap₂ (λ fl j. fl && (op.number == j + 1)) (flies-ahead c h ahead so op.item lt) (settled-ahead c h ahead so op.item lt)

  -- after a legal history no operation of an item that doesn't exist is in flight
  pub may_end-counts : legal.is_legal p plan (with_entries h ahead) ≡ true → may_end c ahead op ≡ legal.may_end (with_entries h ahead) op
  may_end-counts is_legal = elim (cases_Bool (nat_lt op.item (item_count p))) as (λ _. may_end c ahead op ≡ legal.may_end (with_entries h ahead) op) [
    | inl inside ↦ ap (λ b. b && flies_with c ahead op.item && (op.number == settled_with c ahead op.item + 1)) inside ∙ known-end (ltb-true op.item (item_count p) inside)
    | inr outside ↦
        ap (λ b. b && flies_with c ahead op.item && (op.number == settled_with c ahead op.item + 1)) outside
        ∙ sym (may_end-no_item p plan (with_entries h ahead) is_legal op (ltb-false op.item (item_count p) outside))
  ]

-- the same under a plan that is the counts' own
pub may_begin-counts : (r : Rollout) (c : Counts) (h : History) (ahead : List Entry) (op : Op) → r ≡ c.rollout → IsNetwork r.problem → AreCountsOf c h → may_begin r c ahead op ≡ legal.may_begin r.problem r.plan (with_entries h ahead) op
may_begin-counts r c h ahead op own net so =
    subst (λ (q : Rollout). IsNetwork q.problem → may_begin q c ahead op ≡ legal.may_begin q.problem q.plan (with_entries h ahead) op) (sym own)
    (own-begin c h ahead so op) net
