-- The rows of all links as they grow together, in one pass over the links of all tunnels.
use Rattle.std.proofs.Common.{◌≡◌, ℕ, suc, ◌+◌, ◌<◌, true, false, ◌==◌, if◌then◌else◌, List, [], ◌∷◌, ◌++◌, length, slice_index, slice_index_or, slice_set, inl, inr, refl, sym, ap, ◌∙◌, subst, arith, eq-eqb, ne_eqb}
use Rattle.std.proofs.lemmas.Bool.{cases_Bool, cases_eq}
use Rattle.std.proofs.lemmas.List.{get_or-set_same, get_or-set_other, length-set}
use Rattle.rollout_rules.specs.Sums.{sum_below}
use Rattle.rollout_rules.specs.Wan.{Problem, link_at, tunnel_at, hops, switch_of}
use Rattle.rollout_rules.specs.Network.{IsNetwork, IsPath}
use Rattle.rollout_rules.specs.Items.{number_of}
use Rattle.rollout_rules.specs.declared.item.Item.TheVariants as item
use Rattle.rollout_rules.proofs.Below.{sum_below-but, sum_below-zero}
use Rattle.dependency_graph.specs.Cells.{has, AreOnce}
use Rattle.dependency_graph.specs.Index.{AreEmpty, IsCrossingTo, AreCrossings, AreCrossingsTo, IsTable, AreTables, AreTablesTo}
use Rattle.dependency_graph.specs.declared.index.table_place.TablePlace.{TablePlace}
use Rattle.dependency_graph.proofs.Changed.{place_in}
use Rattle.dependency_graph.proofs.Elements.{length-push, each-push, sum-push}
use Rattle.dependency_graph.proofs.Growing.{table-none, table-push, table-pass, table-next}
use Rattle.dependency_graph.proofs.Raised.{has-not}

-- one of the rows is another one
pub set-row : {X : Type 0} (P : ℕ → List X → Type 0) (rows : List (List X)) (at n : ℕ) (row : List X) → length rows ≡ n → at < n → P at row → ((k : ℕ) → k < n → (k ≡ at → ⊥) → P k (slice_index_or rows k [])) → (k : ℕ) → k < n → P k (slice_index_or (slice_set rows at row) k [])
set-row P rows at n row count lt here others k low = elim (cases_eq k at) as (λ _. P k (slice_index_or (slice_set rows at row) k [])) [
  | inl same ↦ subst (λ m. P m (slice_index_or (slice_set rows at row) m [])) (sym same) (subst (P at) (sym (get_or-set_same rows at row [] (omega (arith, lt, count)))) here)
  | inr other ↦ subst (P k) (sym (get_or-set_other rows at k row [] other)) (others k low other)
]

-- ---- one link more
to-push : (p : Problem) (l n m : ℕ) (row : List ℕ) → n < length p.tunnels → slice_index (tunnel_at p n).links m ≡ l → IsCrossingTo p l n m row → IsCrossingTo p l n (suc m) (row ++ n ∷ [])
to-push p l n m row lt is so =
    let here : slice_index (tunnel_at p n).links m == l ≡ true = eq-eqb (slice_index (tunnel_at p n).links m) l is in
    record {
      tunnels = λ j below. each-push (λ k x. x < length p.tunnels) row n 0 (length row) refl so.tunnels lt j (omega (arith, below, length-push row n));
      sums = λ f. sum-push f row n 0 ∙ rw here (omega (arith, so.sums f));
    }

to-pass : (p : Problem) (l n m : ℕ) (row : List ℕ) → (slice_index (tunnel_at p n).links m ≡ l → ⊥) → IsCrossingTo p l n m row → IsCrossingTo p l n (suc m) row
to-pass p l n m row other so =
    let away : slice_index (tunnel_at p n).links m == l ≡ false = ne_eqb (slice_index (tunnel_at p n).links m) l other in
    record { tunnels = so.tunnels; sums = λ f. rw away (omega (arith, so.sums f)) }

pub passes-link : (p : Problem) (n m l : ℕ) (rows later : List (List ℕ)) → n < length p.tunnels → l ≡ slice_index (tunnel_at p n).links m → l < length p.links → later ≡ slice_set rows l (slice_index_or rows l [] ++ n ∷ []) → AreCrossingsTo p n m rows → AreCrossingsTo p n (m + 1) later
passes-link p n m l rows later lt at low is so =
    let e : suc m ≡ m + 1 = omega arith in
    subst (AreCrossingsTo p n (m + 1)) (sym is) (subst (λ i. AreCrossingsTo p n i (slice_set rows l (slice_index_or rows l [] ++ n ∷ []))) e (record {
      count = length-set rows l (slice_index_or rows l [] ++ n ∷ []) ∙ so.count;
      each = set-row (λ k r. IsCrossingTo p k n (suc m) r) rows l (length p.links) (slice_index_or rows l [] ++ n ∷ []) so.count low
          (to-push p l n m (slice_index_or rows l []) lt (sym at) (so.each l low))
          (λ k below other. to-pass p k n m (slice_index_or rows k []) (λ same. other (sym same ∙ sym at)) (so.each k below));
    }))

-- ---- one tunnel more
-- a path has each of its links once
pub links-once : (p : Problem) (path along : List ℕ) → IsPath p path along → AreOnce along
links-once p path along so a b lt lt' same =
    so.once a b (omega (arith, lt, so.between)) (omega (arith, lt', so.between)) (sym (so.from a lt) ∙ ap (λ l. (link_at p l).from) same ∙ so.from b lt')

pub sum-once : (along : List ℕ) (l x : ℕ) → AreOnce along → sum_below (length along) (λ k. if slice_index along k == l then x else 0) ≡ (if has along l then x else 0)
sum-once along l x once = elim (cases_Bool (has along l)) as (λ _. sum_below (length along) (λ k. if slice_index along k == l then x else 0) ≡ (if has along l then x else 0)) [
  | inl there ↦
      let place = place_in l along there in
      let but = sum_below-but (length along) place.0 (λ k. if slice_index along k == l then x else 0) (λ k. 0) place.1
      (λ j lt other. ap (λ b. if b then x else 0) (ne_eqb (slice_index along j) l (λ e. other (once j place.0 lt place.1 (e ∙ sym place.2))))) in
      let none = sum_below-zero (length along) (λ k. 0) (λ k lt. refl) in
      let here = ap (λ b. if b then x else 0) (eq-eqb (slice_index along place.0) l place.2) in
      let all : sum_below (length along) (λ k. if slice_index along k == l then x else 0) ≡ x = omega (arith, but, none, here) in
      all ∙ sym (ap (λ b. if b then x else 0) there)
  | inr away ↦
      sum_below-zero (length along) (λ k. if slice_index along k == l then x else 0) (λ k lt. ap (λ b. if b then x else 0) (ne_eqb (slice_index along k) l (has-not along l away k lt)))
      ∙ sym (ap (λ b. if b then x else 0) away)
]

to-next : (p : Problem) (l n : ℕ) (row : List ℕ) → AreOnce (tunnel_at p n).links → IsCrossingTo p l n (length (tunnel_at p n).links) row → IsCrossingTo p l (suc n) 0 row
to-next p l n row once so = record { tunnels = so.tunnels; sums = λ f. omega (arith, so.sums f, sum-once (tunnel_at p n).links l (f n) once) }

pub passes-next : (p : Problem) (n m : ℕ) (rows : List (List ℕ)) → IsNetwork p → n < length p.tunnels → m ≡ length (tunnel_at p n).links → AreCrossingsTo p n m rows → AreCrossingsTo p (n + 1) 0 rows
passes-next p n m rows net lt all so =
    let e : suc n ≡ n + 1 = omega arith in
    let once = links-once p (tunnel_at p n).path (tunnel_at p n).links (net.tunnels n lt).path in
    subst (λ k. AreCrossingsTo p k 0 rows) e (record {
      count = so.count;
      each = λ l low. to-next p l n (slice_index_or rows l []) once (subst (λ k. IsCrossingTo p l n k (slice_index_or rows l [])) all (so.each l low));
    })

-- ---- before the first tunnel, and after the last
pub passes-start : (p : Problem) (rows : List (List ℕ)) → AreEmpty (length p.links) rows → AreCrossingsTo p 0 0 rows
passes-start p rows so = record {
  count = so.count;
  each = λ l lt. subst (IsCrossingTo p l 0 0) (sym (so.each l lt)) (record { tunnels = λ j below. absurd (omega (arith, below)); sums = λ f. refl });
}

pub passes-all : (p : Problem) (n : ℕ) (rows : List (List ℕ)) → n ≡ length p.tunnels → AreCrossingsTo p n 0 rows → AreCrossings p rows (length p.links)
passes-all p n rows all so =
    let here = subst (λ k. AreCrossingsTo p k 0 rows) all so in
    record {
      count = here.count;
      each = λ l lt. record { tunnels = (here.each l lt).tunnels; sums = λ f. omega (arith, (here.each l lt).sums f) };
    }

-- ---- the same of entries and the switches in whose tables they are
pub tables-place : (p : Problem) (t h w : ℕ) (rows later : List (List TablePlace)) (x : TablePlace) → t < length p.tunnels → h < hops p t → w ≡ switch_of p t h → w < length p.switches → x.tunnel ≡ t → x.item ≡ number_of p (item.Entry t h)
    → later ≡ slice_set rows w (slice_index_or rows w [] ++ x ∷ []) → AreTablesTo p t h rows → AreTablesTo p t (h + 1) later
tables-place p t h w rows later x lt low at inside tunnel number is so = subst (AreTablesTo p t (h + 1)) (sym is) (record {
  count = length-set rows w (slice_index_or rows w [] ++ x ∷ []) ∙ so.count;
  each = set-row (λ k r. IsTable p k t (h + 1) r) rows w (length p.switches) (slice_index_or rows w [] ++ x ∷ []) so.count inside
      (table-push p w t h (slice_index_or rows w []) x (so.each w inside) lt low tunnel number (eq-eqb (switch_of p t h) w (sym at)))
      (λ k below other. table-pass p k t h (slice_index_or rows k []) (so.each k below) (ne_eqb (switch_of p t h) k (λ same. other (sym same ∙ sym at))));
})

pub tables-next : (p : Problem) (t m : ℕ) (rows : List (List TablePlace)) → m ≡ hops p t → AreTablesTo p t m rows → AreTablesTo p (t + 1) 0 rows
tables-next p t m rows all so = record {
  count = so.count;
  each = λ w lt. table-next p w t (slice_index_or rows w []) (subst (λ n. IsTable p w t n (slice_index_or rows w [])) all (so.each w lt));
}

pub tables-start : (p : Problem) (rows : List (List TablePlace)) → AreEmpty (length p.switches) rows → AreTablesTo p 0 0 rows
tables-start p rows so = record { count = so.count; each = λ w lt. subst (IsTable p w 0 0) (sym (so.each w lt)) (table-none p w) }

pub tables-all : (p : Problem) (n : ℕ) (rows : List (List TablePlace)) → n ≡ length p.tunnels → AreTablesTo p n 0 rows → AreTables p rows (length p.switches)
tables-all p n rows all so = record { count = so.count; each = λ w lt. subst (λ k. IsTable p w k 0 (slice_index_or rows w [])) all (so.each w lt) }
