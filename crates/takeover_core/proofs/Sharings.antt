-- The pairs of one world in the other, item by item, and that it then holds the same.
use Rattle.std.proofs.Common.{◌≡◌, ℕ, zero, suc, ◌+◌, ◌<◌, ◌≤◌, List, length, slice_index, slice_index_or, slice_set, refl, sym, ap, ◌∙◌, subst, ⊎_elim, arith, add-one, length-set, get_or-set_same, get_or-set_other}
use Rattle.std.proofs.lemmas.Bool.{cases_eq}
use Rattle.std.proofs.lemmas.List.{ext_get_or}
use Rattle.rollout_rules.specs.Wan.{Problem, Plan}
use Rattle.rollout_rules.specs.Items.{item_count, item_at}
use Rattle.rollout_rules.specs.Operations.{content_after}
use Rattle.rollout_rules.specs.Agent.{Holding, nothing_held}
use Rattle.rollout_rules.specs.World.{World, number_at, holding_of, pair_at, held_of}
use Rattle.rollout_rules.specs.declared.held.Held.{Held}
use Rattle.rollout_laws.specs.Kept.{IsEarlierPair, IsKept}
use Rattle.rollout_laws.proofs.Pairs.{number-same, number-other}
use Rattle.rollout_core.specs.Worlds.{Standing, with_held}
use Rattle.takeover_core.specs.Standings.{held_from, holding_now}

-- one item more
pub one_more : (from begins now next : Standing) (n : ℕ) (x : Held)
    → now ≡ holding_now begins (held_from begins.rollout.problem begins.rollout.plan begins.world from.world.held n)
    → x ≡ (held_of from.world n).held
    → next ≡ record now { world = with_held now.rollout.problem now.rollout.plan now.world n x }
    → next ≡ holding_now begins (held_from begins.rollout.problem begins.rollout.plan begins.world from.world.held (n + 1))
one_more from begins now next n x so_far pair put_there =
    put_there
    ∙ ap (λ (s : Standing). record s { world = with_held s.rollout.problem s.rollout.plan s.world n x }) so_far
    ∙ ap (λ (h : Held). set_at h) pair
    ∙ ap (λ (m : ℕ). holding_now begins (held_from begins.rollout.problem begins.rollout.plan begins.world from.world.held m)) (sym (add-one n))
  where
    set_at : Held → Standing
    set_at h =
        holding_now begins (slice_set (held_from begins.rollout.problem begins.rollout.plan begins.world from.world.held n) n
        (holding_of begins.rollout.problem begins.rollout.plan begins.world.durable.start begins.world.migration n h))

module _ (p : Problem) (plan : Plan) (w : World) (others : List Holding) where
  abbrev after_items : ℕ → List Holding
  after_items n = held_from p plan w others n

  abbrev put : ℕ → Holding
  put n = holding_of p plan w.durable.start w.migration n (slice_index_or others n nothing_held).held

  length-after : (n : ℕ) → length (after_items n) ≡ length w.held
  length-after zero = refl
  length-after (suc n) = length-set (after_items n) n (put n) ∙ length-after n

  after-at : (n k : ℕ) → n ≤ length w.held → k < n → slice_index_or (after_items n) k nothing_held ≡ put k
  after-at zero k most lt = absurd (omega arith)
  after-at (suc n) k most lt =
      ⊎_elim
      (λ (e : n ≡ k). subst (λ (m : ℕ). slice_index_or (after_items (suc n)) m nothing_held ≡ put m) e
      (get_or-set_same (after_items n) n (put n) nothing_held (subst (λ (m : ℕ). n < m) (sym (length-after n)) (omega (arith, most)))))
      (λ (o : n ≡ k → ⊥).
      get_or-set_other (after_items n) n k (put n) nothing_held (λ e. o (sym e))
      ∙ after-at n k (omega arith) (omega arith))
      (cases_eq n k)

  -- Where the pairs stand for the contents that the other holds, this world then holds the same.
  pub all_put : (n : ℕ) → length w.held ≡ n → length others ≡ n → ((k : ℕ) → k < n → put k ≡ slice_index_or others k nothing_held) → after_items n ≡ others
  all_put n long all same =
      ext_get_or nothing_held (after_items n) others (length-after n ∙ long ∙ sym all)
      (λ k few.
      let lt : k < n = subst (λ (m : ℕ). k < m) (length-after n ∙ long) few in
      after-at n k (omega (arith, long)) lt ∙ same k lt)

-- A world that is kept holds of each item what its pair stands for, by its own start.
pub put-own : (p : Problem) (plan : Plan) (w : World) → IsKept p plan w → (n : ℕ) → n < item_count p → holding_of p plan w.durable.start w.migration n (held_of w n).held ≡ held_of w n
put-own p plan w kept n lt = λ k. record { held = (held_of w n).held; content = sym (kept.held n lt).content k }

-- And where it was taken over from an older one, also by that one's.
module _ (p : Problem) (plan : Plan) (migration : ℕ) (older w : World) (kept : IsKept p plan w) (same : w.migration ≡ migration) (named : older.migration ≡ migration)
    (starts : (n : ℕ) → n < item_count p → slice_index w.durable.start n ≡ number_at migration (slice_index older.durable.start n) (pair_at w.first n))
    (n : ℕ) (lt : n < item_count p) where
  abbrev held_pair : Held
  held_pair = (held_of w n).held

  number-older : number_at older.migration (slice_index older.durable.start n) held_pair ≡ number_at w.migration (slice_index w.durable.start n) held_pair
  number-older =
      ⊎_elim
      (λ (here : held_pair.migration ≡ w.migration).
      number-same older.migration (slice_index older.durable.start n) held_pair (here ∙ same ∙ sym named)
      ∙ sym (number-same w.migration (slice_index w.durable.start n) held_pair here))
      (λ (first : IsEarlierPair w.migration (pair_at w.first n) held_pair).
      ap (λ (m : ℕ). number_at m (slice_index older.durable.start n) held_pair) named
      ∙ ap (number_at migration (slice_index older.durable.start n)) first.same
      ∙ sym (starts n lt)
      ∙ sym (number-other w.migration (slice_index w.durable.start n) held_pair (λ e. let earlier = first.earlier in omega (arith, e, earlier))))
      (kept.held n lt).pair

  pub put-older : holding_of p plan older.durable.start older.migration n held_pair ≡ held_of w n
  put-older = λ k. record {
    held = held_pair;
    content = (ap (content_after p plan (item_at p n)) number-older ∙ sym (kept.held n lt).content) k;
  }
