-- Which items a release tries, and in which order.
use Rattle.std.specs.Prelude.{ℕ, Bool, not, ◌&&◌, List, [], ◌∷◌, map, if◌then◌else◌, Option, Some, None}
use Rattle.std.specs.declared.cmp.Ordering.{Ordering}
use Rattle.std.specs.Ordering.{nat_cmp, ordering_then}
use Rattle.std.specs.List.{filter}
use Rattle.rollout_rules.specs.Release.{view_of, is_held_back, released}
use Rattle.rollout_rules.specs.declared.op.OpView.{OpView}
use Rattle.dependency_graph.specs.Graph.{Followed, has_next}
use Rattle.update_scheduler.specs.declared.candidate.Candidate.{Candidate}

-- what a policy sees of an item's next operation, and the rank that it gives it
abbrev pub seen : Followed → ℕ → OpView
seen g n = view_of g.rollout.problem g.rollout.plan g.history n

abbrev pub rank_of : Followed → (OpView → ℕ) → ℕ → ℕ
rank_of g policy n = policy (seen g n)

-- whether an item waits and isn't held back
abbrev pub is_offered : Followed → (OpView → ℕ) → ℕ → Bool
is_offered g policy n = has_next g n && not (is_held_back policy (seen g n))

-- the rank that a policy gives to what it sees, but where it holds it back
abbrev pub rank_if_free : (OpView → ℕ) → OpView → Option ℕ
rank_if_free policy view = if is_held_back policy view then None else Some (policy view)

-- this item, where it is offered
abbrev pub offered : Followed → (OpView → ℕ) → ℕ → List ℕ
offered g policy n = if is_offered g policy n then n ∷ [] else []

-- all that are
abbrev pub all_offered : Followed → (OpView → ℕ) → List ℕ
all_offered g policy = released g.rollout.problem g.rollout.plan policy g.history

-- those of a row that are
abbrev pub offered_among : Followed → (OpView → ℕ) → List ℕ → List ℕ
offered_among g policy row = filter (is_offered g policy) row

-- items with their ranks, and the items alone
abbrev pub candidate_of : (ℕ → ℕ) → ℕ → Candidate
candidate_of rank n = record { rank = rank n; item = n }

abbrev pub candidates_of : (ℕ → ℕ) → List ℕ → List Candidate
candidates_of rank ns = map (candidate_of rank) ns

abbrev pub items_of : List Candidate → List ℕ
items_of cs = map (λ c. c.item) cs

-- candidates by rank, and then by item
abbrev pub compared : Candidate → Candidate → Ordering
compared a b = ordering_then (nat_cmp a.rank b.rank) (nat_cmp a.item b.item)
