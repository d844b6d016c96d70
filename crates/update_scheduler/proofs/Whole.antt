-- Trying the woken items that are offered, in order, is the release.
use Rattle.std.proofs.Common.{◌≡◌, ℕ, zero, suc, ◌<◌, not, true, List, [], ◌∷◌, ◌++◌, map, filter, length, slice_index, All, refl, sym, ap, ap₂, ◌∙◌, subst, arith}
use Rattle.std.proofs.lemmas.List.Elements.{All-map, All-filter, All-from_get_or}
use Rattle.rollout_rules.specs.Network.{IsNetwork}
use Rattle.rollout_rules.specs.Items.{item_count}
use Rattle.rollout_rules.specs.Legal.{is_legal}
use Rattle.rollout_rules.specs.Release.{in_order_of, begin_each}
use Rattle.rollout_rules.specs.declared.op.Op.{Op}
use Rattle.rollout_rules.specs.declared.op.OpView.{OpView}
use Rattle.rollout_laws.proofs.Released.{All-in_order}
use Rattle.dependency_graph.specs.Cells.{has}
use Rattle.dependency_graph.specs.Graph.{Followed}
use Rattle.dependency_graph.specs.Waiting.{AreWoken}
use Rattle.update_scheduler.specs.declared.candidate.Candidate.{Candidate}
use Rattle.update_scheduler.specs.Benches.{ops_of}
use Rattle.update_scheduler.specs.Candidates.{rank_of, is_offered, all_offered, offered_among, candidate_of, candidates_of, items_of}
use Rattle.update_scheduler.specs.Tried.{begun_by, tried, released_by, with_release}
use Rattle.update_scheduler.proofs.Refused.{begin_each-kept}
use Rattle.update_scheduler.proofs.Among.{items-candidates, among-all}

module _ (g : Followed) (policy : OpView → ℕ) (row : List ℕ) (woken : AreWoken g row) (net : IsNetwork g.rollout.problem) (legal : is_legal g.rollout.problem g.rollout.plan g.history ≡ true) where
  -- the woken items that are offered, in order
  abbrev pub in_order : List ℕ
  in_order = in_order_of (rank_of g policy) (offered_among g policy row)

  begun-same : begun_by g in_order ≡ released_by g policy
  begun-same =
      ap (begun_by g) (among-all g policy row woken.once woken.inside)
      ∙ sym (begin_each-kept g.rollout.problem g.rollout.plan net (in_order_of (rank_of g policy) (all_offered g policy)) (has row) g.history legal woken.rest)

  module _ (cs : List Candidate) (are : cs ≡ candidates_of (rank_of g policy) in_order) where
    they : items_of cs ≡ in_order
    they = ap items_of are ∙ items-candidates (rank_of g policy) in_order

    begun-all : begun_by g (items_of cs) ≡ released_by g policy
    begun-all = ap (begun_by g) they ∙ begun-same

    pub release-graph : (next : Followed) → next ≡ tried g (items_of cs) → next ≡ with_release g policy
    release-graph next is =
        let same = ap (λ es. g.history.entries ++ es) begun-all in
        is ∙ (λ i. record { rollout = g.rollout; history = record { start = g.history.start; entries = same i } })

    pub release-ops : (noted ops : List Op) → noted ≡ [] → ops ≡ noted ++ ops_of (begun_by g (items_of cs)) → ops ≡ ops_of (released_by g policy)
    release-ops noted ops none is = is ∙ ap (λ os. os ++ ops_of (begun_by g (items_of cs))) none ∙ ap ops_of begun-all

    pub release-inside : All (λ c. c.item < item_count g.rollout.problem) cs
    release-inside =
        let Inside : ℕ → Type 0 = λ n. n < item_count g.rollout.problem in
        let all = All-from_get_or Inside row 0 woken.inside in
        subst (All (λ c. c.item < item_count g.rollout.problem)) (sym are)
        (All-map (λ c. c.item < item_count g.rollout.problem) (candidate_of (rank_of g policy)) in_order (All-in_order Inside (rank_of g policy) (offered_among g policy row) (All-filter (is_offered g policy) Inside row all)))
