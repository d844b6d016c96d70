-- Items that are offered one by one.
use Rattle.std.proofs.Common.{◌≡◌, ℕ, zero, suc, ◌+◌, ◌≤◌, ◌<◌, Bool, true, false, not, ◌&&◌, List, [], ◌∷◌, ◌++◌, map, filter, take, slice_index, cond, if◌then◌else◌, length, length-append, append-nil, Option, Some, None, refl, sym, ap, ap₂, ◌∙◌, subst, arith}
use Rattle.std.proofs.lemmas.List.{map-append, take_all}
use Rattle.std.proofs.lemmas.List.Elements.{filter_more}
use Rattle.rollout_rules.specs.Sums.{list_below}
use Rattle.rollout_rules.specs.Items.{item_count}
use Rattle.rollout_rules.specs.Release.{is_held_back}
use Rattle.rollout_rules.specs.declared.op.OpView.{OpView}
use Rattle.dependency_graph.specs.Graph.{Followed, has_next}
use Rattle.update_scheduler.specs.declared.candidate.Candidate.{Candidate}
use Rattle.update_scheduler.specs.Candidates.{seen, rank_of, rank_if_free, is_offered, offered, offered_among, candidate_of, candidates_of}

module _ (g : Followed) (policy : OpView → ℕ) where
  -- These candidates are the first k of a row that are offered.
  pub record IsOffered (row : List ℕ) (k : ℕ) (cs : List Candidate) : Type 0 where
    pub all : cs ≡ candidates_of (rank_of g policy) (offered_among g policy (take k row))
    pub few : length cs ≤ k

  few-offered : (rank : ℕ → ℕ) (n : ℕ) → length (candidates_of rank (offered g policy n)) ≤ 1
  few-offered rank n = few (is_offered g policy n)
    where
      few : (b : Bool) → length (candidates_of rank (if b then n ∷ [] else [])) ≤ 1
      few true = omega arith
      few false = omega arith

  pub offers-next : (row : List ℕ) (k : ℕ) (cs new : List Candidate) → IsOffered row k cs → k < length row → new ≡ cs ++ candidates_of (rank_of g policy) (offered g policy (slice_index row k)) → IsOffered row (k + 1) new
  offers-next row k cs new so lt is = record {
    all =
        is ∙ ap (λ xs. xs ++ candidates_of (rank_of g policy) (offered g policy (slice_index row k))) so.all
        ∙ sym (map-append (candidate_of (rank_of g policy)) (offered_among g policy (take k row)) (offered g policy (slice_index row k)))
        ∙ ap (candidates_of (rank_of g policy)) (sym (filter_more (is_offered g policy) row k 0 lt));
    few = omega (arith, ap length is, length-append cs (candidates_of (rank_of g policy) (offered g policy (slice_index row k))), so.few, few-offered (rank_of g policy) (slice_index row k));
  }

  pub offers-all : (row : List ℕ) (k : ℕ) (cs : List Candidate) → length row ≤ k → IsOffered row k cs → cs ≡ candidates_of (rank_of g policy) (offered_among g policy row)
  offers-all row k cs le so = so.all ∙ ap (λ ns. candidates_of (rank_of g policy) (offered_among g policy ns)) (take_all k row le)

  module _ (n : ℕ) (cs new : List Candidate) (view : OpView) (waits : Bool) (found : Option ℕ) (has : waits ≡ has_next g n) (here : waits ≡ true) (see : view ≡ seen g n) (told : found ≡ rank_if_free policy view) where
    held-none : found ≡ None → is_held_back policy view ≡ true
    held-none none = one (is_held_back policy view) (sym told ∙ none)
      where
        one : (held : Bool) → (if held then None else Some (policy view)) ≡ None → held ≡ true
        one true e = refl
        one false e = absurd (differ e)
          where
            differ : Some (policy view) ≡ None → ⊥
            differ q = cc

    free-some : (rank : ℕ) → found ≡ Some rank → (is_held_back policy view ≡ false) × (policy view ≡ rank)
    free-some rank some = one (is_held_back policy view) (sym told ∙ some)
      where
        one : (held : Bool) → (if held then None else Some (policy view)) ≡ Some rank → (held ≡ false) × (policy view ≡ rank)
        one true e = absurd (differ e)
          where
            differ : ◌≡◌ {A = Option ℕ} None (Some rank) → ⊥
            differ q = cc
        one false e = (refl, ap (λ o. elim o [ None ↦ 0 | Some k ↦ k ]) e)

    -- what is held back isn't offered, and adds nothing
    pub offers-none : found ≡ None → cs ≡ cs ++ candidates_of (rank_of g policy) (offered g policy n)
    offers-none none =
        let test : is_offered g policy n ≡ false = ap₂ (λ a b. a && not b) (sym has ∙ here) (ap (is_held_back policy) (sym see) ∙ held-none none) in
        rw test (sym (append-nil cs))

    -- and what isn't adds itself with its rank
    pub offers-one : (rank : ℕ) → found ≡ Some rank → new ≡ cs ++ record { rank = rank; item = n } ∷ [] → new ≡ cs ++ candidates_of (rank_of g policy) (offered g policy n)
    offers-one rank some is =
        let free = free-some rank some in
        let test : is_offered g policy n ≡ true = ap₂ (λ a b. a && not b) (sym has ∙ here) (ap (is_held_back policy) (sym see) ∙ free.0) in
        rw test (is ∙ ap (λ k. cs ++ record { rank = k; item = n } ∷ []) (sym free.1 ∙ ap policy see))
