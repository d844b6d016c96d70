-- Settling items one by one.
use Rattle.std.proofs.Common.{◌≡◌, ℕ, ◌+◌, ◌<◌, ◌≤◌, true, List, [], ◌∷◌, ◌++◌, length, length-append, drop, get_or, All, sym, ap, ◌∙◌, subst, arith, append_assoc, append-nil}
use Rattle.std.proofs.lemmas.List.{drop_more, drop_all}
use Rattle.rollout_rules.specs.Items.{item_count}
use Rattle.rollout_rules.specs.History.{with_entries, flies}
use Rattle.rollout_rules.specs.Release.{next_op}
use Rattle.rollout_rules.specs.declared.op.Entry.{Entry}
use Rattle.rollout_rules.specs.declared.op.Entry.TheVariants.{Done}
use Rattle.rollout_laws.proofs.Histories.{with_none, with_both}
use Rattle.dependency_graph.specs.Graph.{Followed, with_done}
use Rattle.update_scheduler.specs.Endings.{ended, with_ended, CanEnd}

-- With k of these items settled, what stands and what is left is all.
pub record GoesOn (first now : Followed) (old batch : List Entry) (items : List ℕ) (k : ℕ) : Type 0 where
  pub rollout : now.rollout ≡ first.rollout
  pub history : with_entries now.history (ended now.history (drop k items)) ≡ with_entries first.history (ended first.history items)
  pub adds : batch ++ ended now.history (drop k items) ≡ old ++ ended first.history items
  pub flying : CanEnd now.history (drop k items)
  pub few : length batch ≡ length old + k

module _ (first now : Followed) (old batch : List Entry) (items : List ℕ) (k d : ℕ) (so : GoesOn first now old batch items k) where
  module _ (lt : k < length items) where
    here : drop k items ≡ get_or items k d ∷ drop (k + 1) items
    here = drop_more items k d lt

    pub can-settle : flies now.history (get_or items k d) ≡ true
    can-settle = (subst (CanEnd now.history) here so.flying).0

    pub item-inside : All (λ n. n < item_count first.rollout.problem) items → get_or items k d < item_count now.rollout.problem
    item-inside all = subst (λ r. get_or items k d < item_count r.problem) (sym so.rollout) (all k d lt)

    pub goes-on : (next : Followed) (more : List Entry) → next ≡ with_done now (get_or items k d) → more ≡ batch ++ Done (next_op now.history (get_or items k d)) ∷ [] → GoesOn first next old more items (k + 1)
    goes-on next more is adds =
        let e = Done (next_op now.history (get_or items k d)) in
        let rest = ended (with_entries now.history (e ∷ [])) (drop (k + 1) items) in
        let history : next.history ≡ with_entries now.history (e ∷ []) = ap (λ (g : Followed). g.history) is in
        record {
          rollout = ap (λ (g : Followed). g.rollout) is ∙ so.rollout;
          history =
              ap (λ h. with_entries h (ended h (drop (k + 1) items))) history
              ∙ with_both now.history (e ∷ []) rest
              ∙ ap (λ ns. with_entries now.history (ended now.history ns)) (sym here) ∙ so.history;
          adds =
              ap (λ h. more ++ ended h (drop (k + 1) items)) history
              ∙ ap (λ es. es ++ rest) adds
              ∙ append_assoc batch (e ∷ []) rest
              ∙ ap (λ ns. batch ++ ended now.history ns) (sym here) ∙ so.adds;
          flying = subst (λ h. CanEnd h (drop (k + 1) items)) (sym history) (subst (CanEnd now.history) here so.flying).1;
          few = omega (arith, ap length adds, length-append batch (e ∷ []), so.few);
        }

  module _ (past : length items ≤ k) where
    none : drop k items ≡ []
    none = drop_all k items past

    pub goes-home : now ≡ with_ended first items
    goes-home =
        let history : now.history ≡ with_entries first.history (ended first.history items) = sym (with_none now.history) ∙ ap (λ ns. with_entries now.history (ended now.history ns)) (sym none) ∙ so.history in
        λ i. record { rollout = so.rollout i; history = history i }

    pub adds-all : batch ≡ old ++ ended first.history items
    adds-all = sym (append-nil batch) ∙ ap (λ ns. batch ++ ended now.history ns) (sym none) ∙ so.adds
