-- What the rows of a program speak of is there.
use Rattle.std.proofs.Common.{◌≡◌, ℕ, zero, suc, ◌+◌, ◌<◌, Bool, true, false, List, [], ◌∷◌, ◌++◌, length, if◌then◌else◌, subst, sym, arith}
use Rattle.std.specs.Prelude.{All, slice_index_or}
use Rattle.std.proofs.lemmas.List.Elements.{All-append}
use Rattle.rollout_rules.specs.Sums.{list_below}
use Rattle.rollout_rules.specs.Wan.{Problem}
use Rattle.step_lp.specs.declared.limit.Limit.{Limit}
use Rattle.step_lp.specs.declared.limit.Limit.TheVariants.{Top, Link, Least, Most}
use Rattle.step_lp.specs.Program.{joined_below, used_at, used_tunnels, rate_blocks, IsLimit, tops_of, tops_at, top_limits, link_limits, totals_of, total_limits, limits}
use Rattle.step_lp.proofs.Lists.{All-none, All-one, All-joined_below, All-list_below}

one_used : (n t : ℕ) (b : Bool) → t < n → All (λ k. k < n) (if b then t ∷ [] else [])
one_used n t true lt = All-one (λ k. k < n) t lt
one_used n t false lt = All-none (λ k. k < n)

pub used-below : (p : Problem) → All (λ t. t < length p.tunnels) (used_tunnels p)
used-below p =
    All-joined_below (λ k. k < length p.tunnels) (length p.tunnels) (λ t. if used_at p t then t ∷ [] else [])
    (λ t lt. one_used (length p.tunnels) t (used_at p t) lt)

pub All-two : {A : Type 0} (P : A → Type 0) (x y : A) → P x → P y → All P (x ∷ y ∷ [])
All-two P x y a b zero d lt = a
All-two P x y a b (suc zero) d lt = b
All-two P x y a b (suc (suc k)) d lt = absurd (omega arith)

tops_are : (p : Problem) (q s t : ℕ) (b : Bool) → s < q → t < length p.tunnels → All (IsLimit p q) (if b then tops_of s t else [])
tops_are p q s t true low lt = All-two (IsLimit p q) (Top s s t) (Top s (s + 1) t) (low, omega arith, lt) (low, omega arith, lt)
tops_are p q s t false low lt = All-none (IsLimit p q)

pub limits-are : (p : Problem) (q : ℕ) → All (IsLimit p q) (limits p q)
limits-are p q =
    All-append (IsLimit p q) (top_limits p q) (link_limits p q ++ total_limits p q)
    (All-joined_below (IsLimit p q) q (λ s. joined_below (length p.tunnels) (tops_at p s)) (λ s low.
    All-joined_below (IsLimit p q) (length p.tunnels) (tops_at p s) (λ t lt. tops_are p q s t (used_at p t) low lt)))
    (All-append (IsLimit p q) (link_limits p q) (total_limits p q)
    (All-joined_below (IsLimit p q) q (λ s. list_below (length p.links) (Link s)) (λ s low.
    All-list_below (IsLimit p q) (length p.links) (Link s) (λ l lt. (low, lt))))
    (All-joined_below (IsLimit p q) (rate_blocks q) (λ b. joined_below (length p.flows) (totals_of (b + 1))) (λ b low.
    All-joined_below (IsLimit p q) (length p.flows) (totals_of (b + 1)) (λ f lt.
    All-two (IsLimit p q) (Least (b + 1) f) (Most (b + 1) f) (omega arith, lt) (omega arith, lt)))))

pub limit_at : (p : Problem) (q : ℕ) (xs : List Limit) → xs ≡ limits p q → (k : ℕ) (d : Limit) → k < length xs → IsLimit p q (slice_index_or xs k d)
limit_at p q xs e = subst (λ (ys : List Limit). All (IsLimit p q) ys) (sym e) (limits-are p q)
