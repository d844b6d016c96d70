-- The rows of an index as they grow.
use Rattle.std.proofs.Common.{◌≡◌, refl, ℕ, suc, ◌+◌, ◌^◌, ◌<◌, true, false, List, [], ◌∷◌, ◌++◌, length, subst, ap, ◌∙◌, sym, arith, ◌==◌}
use Rattle.rollout_rules.specs.Wan.{Problem, Rollout, hops, switch_of}
use Rattle.rollout_rules.specs.Network.{IsNetwork}
use Rattle.rollout_rules.specs.Items.{item_count, item_at, number_of}
use Rattle.rollout_rules.specs.Operations as operation
use Rattle.rollout_rules.specs.declared.item.Item.{Item}
use Rattle.rollout_rules.specs.declared.item.Item.TheVariants as item
use Rattle.rollout_rules.proofs.Below.{sum_below-most}
use Rattle.rollout_rules.proofs.Numbers.{item_at-number_of, number_of-below}
use Rattle.rollout_rules.proofs.OverItems.{is_item-flow, is_item-entry}
use Rattle.dependency_graph.specs.declared.index.table_place.TablePlace.{TablePlace}
use Rattle.dependency_graph.specs.Index.{no_place, AreItems, AreOperations, AreFirstEntries, IsTable}
use Rattle.dependency_graph.proofs.Elements.{length-push, each-push, sum-push}

-- ---- numbers of items are small

pub item_count-few : (p : Problem) → IsNetwork p → item_count p < 2 ^ 20
item_count-few p net =
    omega (arith, net.flows.count, net.few, sum_below-most (length p.tunnels) 17 (hops p) (λ t lt. (net.tunnels t lt).path.most))

pub number_of-few : (p : Problem) (t h : ℕ) → IsNetwork p → t < length p.tunnels → h < hops p t → number_of p (item.Entry t h) < 2 ^ 20
number_of-few p t h net lt low = omega (arith, number_of-below p (item.Entry t h) (is_item-entry p t h lt low), item_count-few p net)

-- ---- items by number
pub items-none : (p : Problem) → AreItems p 0 []
items-none p = record { count = refl; each = λ k d lt. absurd (omega arith) }

items-push : (p : Problem) (n : ℕ) (row : List Item) (i : Item) → i ≡ item_at p n → AreItems p n row → AreItems p (n + 1) (row ++ i ∷ [])
items-push p n row i is so = record {
  count = omega (arith, length-push row i, so.count);
  each = λ k d lt. each-push (λ m x. x ≡ item_at p m) row i d n so.count (λ m below. so.each m d below) is k lt;
}

pub items-flow : (p : Problem) (f : ℕ) (row : List Item) → f < length p.flows → AreItems p f row → AreItems p (f + 1) (row ++ item.Flow f ∷ [])
items-flow p f row lt so = items-push p f row (item.Flow f) (sym (item_at-number_of p (item.Flow f) (is_item-flow p f lt))) so

pub items-entry : (p : Problem) (t h : ℕ) (row : List Item) → t < length p.tunnels → h < hops p t → AreItems p (number_of p (item.Entry t h)) row → AreItems p (number_of p (item.Entry t (h + 1))) (row ++ item.Entry t h ∷ [])
items-entry p t h row lt low so =
    let next : number_of p (item.Entry t h) + 1 ≡ number_of p (item.Entry t (h + 1)) = omega arith in
    subst (λ n. AreItems p n (row ++ item.Entry t h ∷ [])) next
    (items-push p (number_of p (item.Entry t h)) row (item.Entry t h) (sym (item_at-number_of p (item.Entry t h) (is_item-entry p t h lt low))) so)

-- past the last entry of a tunnel comes the first of the next
pub number_of-next : (p : Problem) (t : ℕ) → number_of p (item.Entry t (hops p t)) ≡ number_of p (item.Entry (t + 1) 0)
number_of-next p t = let e : t + 1 ≡ suc t = omega arith in subst (λ u. number_of p (item.Entry t (hops p t)) ≡ number_of p (item.Entry u 0)) (sym e) (omega arith)

pub items-next : (p : Problem) (t : ℕ) (row : List Item) → AreItems p (number_of p (item.Entry t (hops p t))) row → AreItems p (number_of p (item.Entry (t + 1) 0)) row
items-next p t row so = subst (λ n. AreItems p n row) (number_of-next p t) so

pub items-all : (p : Problem) (t : ℕ) (row : List Item) → t ≡ length p.tunnels → AreItems p (number_of p (item.Entry t 0)) row → AreItems p (item_count p) row
items-all p t row e so =
    let all : number_of p (item.Entry t 0) ≡ item_count p = subst (λ u. number_of p (item.Entry u 0) ≡ item_count p) (sym e) (omega arith) in
    subst (λ n. AreItems p n row) all so

-- ---- numbers in rows
pub operations-none : (r : Rollout) → AreOperations r 0 []
operations-none r = record { count = refl; each = λ k lt. absurd (omega arith) }

pub operations-push : (r : Rollout) (n : ℕ) (row : List ℕ) (x : ℕ) → x ≡ operation.operations r.problem r.plan (item_at r.problem n) → AreOperations r n row → AreOperations r (n + 1) (row ++ x ∷ [])
operations-push r n row x is so = record {
  count = omega (arith, length-push row x, so.count);
  each = each-push (λ m y. y ≡ operation.operations r.problem r.plan (item_at r.problem m)) row x 0 n so.count so.each is;
}

pub firsts-none : (p : Problem) → AreFirstEntries p 0 []
firsts-none p = record { count = refl; each = λ k lt. absurd (omega arith) }

pub firsts-push : (p : Problem) (n : ℕ) (row : List ℕ) (x : ℕ) → x ≡ number_of p (item.Entry n 0) → AreFirstEntries p n row → AreFirstEntries p (n + 1) (row ++ x ∷ [])
firsts-push p n row x is so = record {
  count = omega (arith, length-push row x, so.count);
  each = each-push (λ m y. y ≡ number_of p (item.Entry m 0)) row x 0 n so.count so.each is;
}

-- ---- entries in a table
pub table-none : (p : Problem) (w : ℕ) → IsTable p w 0 0 []
table-none p w = record { tunnels = λ j lt. absurd (omega arith); items = λ j lt. absurd (omega arith); sums = λ f. refl }

table-in : (p : Problem) (w t h : ℕ) (row : List TablePlace) (x : TablePlace) → IsTable p w t h row → t < length p.tunnels → h < hops p t → x.tunnel ≡ t → x.item ≡ number_of p (item.Entry t h) → switch_of p t h == w ≡ true → IsTable p w t (suc h) (row ++ x ∷ [])
table-in p w t h row x so lt low tunnel number here = record {
  tunnels = λ j below. each-push (λ m y. y.tunnel < length p.tunnels) row x no_place (length row) refl so.tunnels (omega arith) j (omega (arith, length-push row x));
  items = λ j below. each-push (λ m y. y.item < item_count p) row x no_place (length row) refl so.items (omega (arith, number_of-below p (item.Entry t h) (is_item-entry p t h lt low))) j (omega (arith, length-push row x));
  sums = λ f.
      sum-push (λ y. f y.tunnel y.item) row x no_place
      ∙ rw here (omega (arith, so.sums f, ap (λ n. f n x.item) tunnel, ap (f t) number));
}

table-out : (p : Problem) (w t h : ℕ) (row : List TablePlace) → IsTable p w t h row → switch_of p t h == w ≡ false → IsTable p w t (suc h) row
table-out p w t h row so away = record {
  tunnels = so.tunnels;
  items = so.items;
  sums = λ f. rw away (omega (arith, so.sums f));
}

pub table-push : (p : Problem) (w t h : ℕ) (row : List TablePlace) (x : TablePlace) → IsTable p w t h row → t < length p.tunnels → h < hops p t → x.tunnel ≡ t → x.item ≡ number_of p (item.Entry t h) → switch_of p t h == w ≡ true → IsTable p w t (h + 1) (row ++ x ∷ [])
table-push p w t h row x so lt low tunnel number here = let e : suc h ≡ h + 1 = omega arith in subst (λ m. IsTable p w t m (row ++ x ∷ [])) e (table-in p w t h row x so lt low tunnel number here)

pub table-pass : (p : Problem) (w t h : ℕ) (row : List TablePlace) → IsTable p w t h row → switch_of p t h == w ≡ false → IsTable p w t (h + 1) row
table-pass p w t h row so away = let e : suc h ≡ h + 1 = omega arith in subst (λ m. IsTable p w t m row) e (table-out p w t h row so away)

-- the entries of one tunnel more
pub table-next : (p : Problem) (w t : ℕ) (row : List TablePlace) → IsTable p w t (hops p t) row → IsTable p w (t + 1) 0 row
table-next p w t row so = let e : suc t ≡ t + 1 = omega arith in subst (λ n. IsTable p w n 0 row) e next
  where
    next : IsTable p w (suc t) 0 row
    next = record { tunnels = so.tunnels; items = so.items; sums = λ f. omega (arith, so.sums f) }
