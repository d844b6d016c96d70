-- Going once through items, one by one.
use Rattle.std.proofs.Common.{◌≡◌, ℕ, ◌+◌, ◌<◌, ◌≤◌, List, [], ◌∷◌, ◌++◌, drop, length, length-append, get_or, All, refl, sym, ap, ◌∙◌, subst, arith, inl, inr}
use Rattle.std.proofs.lemmas.Bool.{cases_Bool}
use Rattle.std.proofs.lemmas.List.{map-append, append_assoc, drop_more}
use Rattle.rollout_rules.specs.Items.{item_count}
use Rattle.rollout_rules.specs.Legal.{may_begin}
use Rattle.rollout_rules.specs.Release.{next_op, begin_each}
use Rattle.rollout_rules.specs.declared.op.Op.{Op}
use Rattle.rollout_laws.proofs.Histories.{with_none}
use Rattle.dependency_graph.specs.Graph.{Followed}
use Rattle.update_scheduler.specs.declared.candidate.Candidate.{Candidate}
use Rattle.update_scheduler.specs.Benches.{op_of, ops_of}
use Rattle.update_scheduler.specs.Candidates.{items_of}
use Rattle.update_scheduler.specs.Tried.{begun_by, tried}

pub tried-none : (g : Followed) → tried g [] ≡ g
tried-none g = let same = with_none g.history in λ i. record { rollout = g.rollout; history = same i }

-- The first item is tried, and then the others after what it has begun.
pub begun-cons : (g : Followed) (n : ℕ) (ns : List ℕ) → begun_by g (n ∷ ns) ≡ begun_by g (n ∷ []) ++ begun_by (tried g (n ∷ [])) ns
begun-cons g n ns = elim (cases_Bool (may_begin g.rollout.problem g.rollout.plan g.history (next_op g.history n))) as (λ c. begun_by g (n ∷ ns) ≡ begun_by g (n ∷ []) ++ begun_by (tried g (n ∷ [])) ns) [
  | inl may ↦ rw may refl
  | inr stays ↦ rw stays (ap (λ h. begin_each g.rollout.problem g.rollout.plan h ns) (sym (with_none g.history)))
]

pub tried-cons : (g : Followed) (n : ℕ) (ns : List ℕ) → tried g (n ∷ ns) ≡ tried (tried g (n ∷ [])) ns
tried-cons g n ns =
    let same = ap (λ es. g.history.entries ++ es) (begun-cons g n ns) ∙ sym (append_assoc g.history.entries (begun_by g (n ∷ [])) (begun_by (tried g (n ∷ [])) ns)) in
    λ i. record { rollout = g.rollout; history = record { start = g.history.start; entries = same i } }

pub ops-cons : (g : Followed) (n : ℕ) (ns : List ℕ) → ops_of (begun_by g (n ∷ ns)) ≡ ops_of (begun_by g (n ∷ [])) ++ ops_of (begun_by (tried g (n ∷ [])) ns)
ops-cons g n ns = ap ops_of (begun-cons g n ns) ∙ map-append op_of (begun_by g (n ∷ [])) (begun_by (tried g (n ∷ [])) ns)

pub one-begun : (g : Followed) (n : ℕ) → length (ops_of (begun_by g (n ∷ []))) ≤ 1
one-begun g n = elim (cases_Bool (may_begin g.rollout.problem g.rollout.plan g.history (next_op g.history n))) as (λ c. length (ops_of (begun_by g (n ∷ []))) ≤ 1) [
  | inl may ↦ rw may (omega arith)
  | inr stays ↦ rw stays (omega arith)
]

-- With k items of those in order tried, what stands and what is left to try is all.
pub record GoesOn (first now : Followed) (noted begun : List Op) (order : List Candidate) (k : ℕ) : Type 0 where
  pub graph : tried now (items_of (drop k order)) ≡ tried first (items_of order)
  pub ops : begun ++ ops_of (begun_by now (items_of (drop k order))) ≡ noted ++ ops_of (begun_by first (items_of order))
  pub rollout : now.rollout ≡ first.rollout
  pub few : length begun ≤ length noted + k

pub goes-on : (first now next : Followed) (noted begun more : List Op) (order : List Candidate) (k : ℕ) (c d : Candidate) → GoesOn first now noted begun order k → k < length order → c ≡ get_or order k d
    → next ≡ tried now (c.item ∷ []) → more ≡ begun ++ ops_of (begun_by now (c.item ∷ [])) → GoesOn first next noted more order (k + 1)
goes-on first now next noted begun more order k c d so lt at is adds =
    let rest : items_of (drop k order) ≡ c.item ∷ items_of (drop (k + 1) order) = ap items_of (drop_more order k d lt) ∙ ap (λ e. e.item ∷ items_of (drop (k + 1) order)) (sym at) in
    record {
      graph =
          ap (λ g. tried g (items_of (drop (k + 1) order))) is ∙ sym (tried-cons now c.item (items_of (drop (k + 1) order)))
          ∙ ap (tried now) (sym rest) ∙ so.graph;
      ops =
          ap (λ bs. bs ++ ops_of (begun_by next (items_of (drop (k + 1) order)))) adds
          ∙ ap (λ g. (begun ++ ops_of (begun_by now (c.item ∷ []))) ++ ops_of (begun_by g (items_of (drop (k + 1) order)))) is
          ∙ append_assoc begun (ops_of (begun_by now (c.item ∷ []))) (ops_of (begun_by (tried now (c.item ∷ [])) (items_of (drop (k + 1) order))))
          ∙ ap (λ bs. begun ++ bs) (sym (ops-cons now c.item (items_of (drop (k + 1) order))))
          ∙ ap (λ ns. begun ++ ops_of (begun_by now ns)) (sym rest) ∙ so.ops;
      rollout = ap (λ g. g.rollout) is ∙ so.rollout;
      few = omega (arith, so.few, ap length adds, length-append begun (ops_of (begun_by now (c.item ∷ []))), one-begun now c.item);
    }

-- the items of candidates exist, while the rollout is the same
pub inside : (first now : Followed) (order : List Candidate) (k : ℕ) (d : Candidate) → now.rollout ≡ first.rollout → All (λ c. c.item < item_count first.rollout.problem) order → k < length order
    → (get_or order k d).item < item_count now.rollout.problem
inside first now order k d same all lt = subst (λ r. (get_or order k d).item < item_count r.problem) (sym same) (all k d lt)
