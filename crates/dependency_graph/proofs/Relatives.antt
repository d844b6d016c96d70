-- Items that are woken one after another.
use Rattle.std.proofs.Common.{◌≡◌, ℕ, ◌+◌, ◌<◌, Bool, true, List, length, slice_index, inl, inr, sym, ◌∙◌, subst, arith}
use Rattle.std.proofs.lemmas.Bool.{cases_eq}
use Rattle.rollout_rules.specs.Wan.{Problem, flow_at, tunnel_at, tunnel_of, hops}
use Rattle.rollout_rules.specs.Network.{IsNetwork}
use Rattle.rollout_rules.specs.Items.{is_item, item_count, item_at, number_of}
use Rattle.rollout_rules.specs.declared.item.Item.{Item}
use Rattle.rollout_rules.specs.declared.item.Item.TheVariants as item
use Rattle.rollout_rules.proofs.Numbers.{number_of-below}
use Rattle.rollout_rules.proofs.OverItems.{entry-is_item, is_item-entry}
use Rattle.rollout_rules.proofs.Tunnels.{place_of, place_of-below, tunnel_of-place_of, tunnel_of-below}
use Rattle.dependency_graph.specs.Wakes.{Awake, Rouses, AreWokenFrom}
use Rattle.dependency_graph.specs.Graph.{Followed}
use Rattle.dependency_graph.specs.Waiting.{AreRelated, IsRoused, AreRoused}
use Rattle.dependency_graph.proofs.Waking.{rouses-both, freed-stays}

pub roused-stays : (g : Followed) (a b : Awake) → Rouses a b → (n : ℕ) → n < length a.lacks → IsRoused g a n → IsRoused g b n
roused-stays g a b so n lt was none next =
    let then' = so.rest n lt none in
    let some = was then'.0 next in
    omega (arith, some, then'.1)

-- of the items that a function numbers one more is
pub roused-more : (g : Followed) (a b : Awake) (f : ℕ → ℕ) (k : ℕ) → Rouses a b → ((n : ℕ) → n < k → f n < length a.lacks) → ((n : ℕ) → n < k → IsRoused g a (f n)) → IsRoused g b (f k) → (n : ℕ) → n < k + 1 → IsRoused g b (f n)
roused-more g a b f k so inside was now n lt = elim (cases_eq n k) as (λ _. IsRoused g b (f n)) [
  | inl same ↦ subst (λ m. IsRoused g b (f m)) (sym same) now
  | inr other ↦
      let low : n < k = omega (arith, lt, other) in
      roused-stays g a b so (f n) (inside n low) (was n low)
]

-- the entries of one more of a flow's tunnels are
pub entries-more : (p : Problem) (g : Followed) (a b : Awake) (f k : ℕ) → IsNetwork p → f < length p.flows → length a.lacks ≡ item_count p → k < (flow_at p f).tunnels → Rouses a b
    → ((j h : ℕ) → j < k → h < hops p (tunnel_of p f j) → IsRoused g a (number_of p (item.Entry (tunnel_of p f j) h)))
    → ((h : ℕ) → h < hops p (tunnel_of p f k) → IsRoused g b (number_of p (item.Entry (tunnel_of p f k) h)))
    → (j h : ℕ) → j < k + 1 → h < hops p (tunnel_of p f j) → IsRoused g b (number_of p (item.Entry (tunnel_of p f j) h))
entries-more p g a b f k net flow items few so was now j h lt hop = elim (cases_eq j k) as (λ _. IsRoused g b (number_of p (item.Entry (tunnel_of p f j) h))) [
  | inl same ↦ subst (λ m. h < hops p (tunnel_of p f m) → IsRoused g b (number_of p (item.Entry (tunnel_of p f m) h))) (sym same) (now h) hop
  | inr other ↦
      let low : j < k = omega (arith, lt, other) in
      let t = tunnel_of p f j in
      let tunnel = tunnel_of-below p f j net flow (omega (arith, low, few)) in
      let inside = number_of-below p (item.Entry t h) (is_item-entry p t h tunnel hop) in
      roused-stays g a b so (number_of p (item.Entry t h)) (omega (arith, inside, items)) (was j h low hop)
]

-- the entries of all a flow's tunnels are all that are related to it
pub related-flow : (p : Problem) (g : Followed) (w : Awake) (f : ℕ) → IsNetwork p
    → ((j h : ℕ) → j < (flow_at p f).tunnels → h < hops p (tunnel_of p f j) → IsRoused g w (number_of p (item.Entry (tunnel_of p f j) h)))
    → (k : Item) → is_item p k ≡ true → AreRelated p (item.Flow f) k → IsRoused g w (number_of p k)
related-flow p g w f net each (item.Flow i) here related = absurd related
related-flow p g w f net each (item.Entry t h) here related =
    let entry = entry-is_item p t h here in
    let own : tunnel_of p f (place_of p t) ≡ t = subst (λ m. tunnel_of p m (place_of p t) ≡ t) related (tunnel_of-place_of p t net entry.row) in
    let low : place_of p t < (flow_at p f).tunnels = subst (λ m. place_of p t < (flow_at p m).tunnels) related (place_of-below p t net entry.row) in
    subst (λ u. h < hops p u → IsRoused g w (number_of p (item.Entry u h))) own (each (place_of p t) h low) entry.hop

-- and its tunnel's flow all that is related to an entry
pub related-entry : (p : Problem) (g : Followed) (w : Awake) (t h n : ℕ) → n ≡ (tunnel_at p t).flow → IsRoused g w n → (k : Item) → is_item p k ≡ true → AreRelated p (item.Entry t h) k → IsRoused g w (number_of p k)
related-entry p g w t h n is roused (item.Flow f) here related = subst (IsRoused g w) (is ∙ related) roused
related-entry p g w t h n is roused (item.Entry u i) here related = absurd related

-- all parts together
pub roused-parts : (p : Problem) (g : Followed) (n : ℕ) (row : List ℕ) (rose : Bool) (old a b d later : Awake) → length old.lacks ≡ item_count p → n < item_count p
    → Rouses old a → IsRoused g a n → Rouses a b → ((k : Item) → is_item p k ≡ true → AreRelated p (item_at p n) k → IsRoused g b (number_of p k)) → Rouses b d → ((j : ℕ) → j < length row → AreWokenFrom (slice_index row j) d)
    → Rouses d later → (rose ≡ true → (q : ℕ) → q < later.resources → AreWokenFrom q later) → AreRoused p g n row rose old later
roused-parts p g n row rose old a b d later items inside first own second related third freed last all =
    let behind = rouses-both b d later third last in
    record {
      rouses = rouses-both old a later first (rouses-both a b later second behind);
      own = roused-stays g a later (rouses-both a b later second behind) n (omega (arith, inside, items, first.items)) own;
      related = λ k here near. roused-stays g b later behind (number_of p k) (omega (arith, number_of-below p k here, items, first.items, second.items)) (related k here near);
      freed = λ j lt. freed-stays d later last (slice_index row j) (freed j lt);
      all = all;
    }
