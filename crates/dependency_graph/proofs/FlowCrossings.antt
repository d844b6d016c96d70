-- The tunnels of a flow that cross each of its links, one link's after another's in one list.
use Rattle.std.proofs.Common.{◌≡◌, ℕ, zero, suc, ◌+◌, ◌-◌, ◌<◌, ◌≤◌, List, [], ◌∷◌, ◌++◌, length, length-append, take, drop, slice_index, inl, inr, refl, sym, ap, ◌∙◌, subst, arith}
use Rattle.std.proofs.lemmas.Bool.{cases_lt}
use Rattle.std.proofs.lemmas.List.{get_or_append_left, get_or_push, length-drop, drop-append-le, take-append-le, drop_at, take_all}
use Rattle.rollout_rules.specs.Wan.{Problem, flow_at}
use Rattle.rollout_rules.specs.declared.item.Item.TheVariants as item
use Rattle.dependency_graph.specs.Cells.{AreTouched}
use Rattle.dependency_graph.specs.Touched.{IsCrossingOf, AreBounds, AreCrossingsOf, ItemRow, IsItemRow, part, tunnels_at}
use Rattle.dependency_graph.proofs.Elements.{length-push}

-- ---- parts of a list that grows
part-kept : (list more : List ℕ) (low high : ℕ) → low ≤ high → high ≤ length list → part (list ++ more) low high ≡ part list low high
part-kept list more low high up within =
    ap (take (high - low)) (drop-append-le low list more (omega (arith, up, within)))
    ∙ take-append-le (high - low) (drop low list) more (omega (arith, up, within, length-drop low list))

part-behind : (list more : List ℕ) (low high : ℕ) → low ≡ length list → high ≡ length (list ++ more) → part (list ++ more) low high ≡ more
part-behind list more low high from to =
    ap (take (high - low)) (drop_at list more low (sym from))
    ∙ take_all (high - low) more (omega (arith, from, to, length-append list more))

-- ---- bounds that grow
bounds-first : AreBounds [] (0 ∷ [])
bounds-first = record {
  rising = λ k lt. absurd (omega (arith, lt));
  within = within;
}
  where
    within : (k : ℕ) → k < 1 → slice_index (0 ∷ []) k ≤ 0
    within zero lt = omega arith
    within (suc k) lt = absurd (omega (arith, lt))

bounds-push : (list more bounds : List ℕ) (n end : ℕ) → length bounds ≡ n + 1 → slice_index bounds n ≡ length list → end ≡ length (list ++ more) → AreBounds list bounds → AreBounds (list ++ more) (bounds ++ end ∷ [])
bounds-push list more bounds n end count last is so = record {
  rising = λ k lt. elim (cases_lt k n) as (λ _. slice_index (bounds ++ end ∷ []) k ≤ slice_index (bounds ++ end ∷ []) (k + 1)) [
    | inl low ↦ omega (arith, so.rising k (omega (arith, low, count)), left k (omega (arith, low)), left (k + 1) (omega (arith, low)))
    | inr high ↦
        let at : k ≡ n = omega (arith, high, lt, count, length-push bounds end) in
        omega (arith, last, is, length-append list more, left k (omega (arith, at)), ap (slice_index bounds) at, ap (λ i. slice_index (bounds ++ end ∷ []) (i + 1)) at, right)
  ];
  within = λ k lt. elim (cases_lt k (n + 1)) as (λ _. slice_index (bounds ++ end ∷ []) k ≤ length (list ++ more)) [
    | inl low ↦ omega (arith, so.within k (omega (arith, low, count)), left k low, length-append list more)
    | inr high ↦
        let at : k ≡ n + 1 = omega (arith, high, lt, count, length-push bounds end) in
        omega (arith, ap (slice_index (bounds ++ end ∷ [])) at, right, is)
  ];
}
  where
    left : (k : ℕ) → k < n + 1 → slice_index (bounds ++ end ∷ []) k ≡ slice_index bounds k
    left k lt = get_or_append_left bounds (end ∷ []) 0 k (omega (arith, lt, count))

    right : slice_index (bounds ++ end ∷ []) (n + 1) ≡ end
    right = get_or_push bounds end 0 (n + 1) count

-- ---- one link more
pub crossings-first : (p : Problem) (f : ℕ) (links list first bounds : List ℕ) → list ≡ [] → first ≡ [] → bounds ≡ first ++ 0 ∷ [] → AreCrossingsOf p f 0 (record { resources = links; tunnels = list; bounds = bounds })
crossings-first p f links list first bounds none before is =
    subst (λ xs. AreCrossingsOf p f 0 (record { resources = links; tunnels = xs; bounds = bounds })) (sym none)
    (subst (λ bs. AreCrossingsOf p f 0 (record { resources = links; tunnels = []; bounds = bs })) (sym (is ∙ ap (λ bs. bs ++ 0 ∷ []) before))
    (record { bounds = bounds-first; count = refl; end = refl; each = λ k lt. absurd (omega (arith, lt)) }))

pub crossings-next : (p : Problem) (f n l end : ℕ) (links list more later bounds : List ℕ) → l ≡ slice_index links n → later ≡ list ++ more → end ≡ length later → IsCrossingOf p f l (flow_at p f).tunnels more
    → AreCrossingsOf p f n (record { resources = links; tunnels = list; bounds = bounds }) → AreCrossingsOf p f (n + 1) (record { resources = links; tunnels = later; bounds = bounds ++ end ∷ [] })
crossings-next p f n l end links list more later bounds at grown is here so =
    subst (λ xs. AreCrossingsOf p f (n + 1) (record { resources = links; tunnels = xs; bounds = bounds ++ end ∷ [] })) (sym grown) all
  where
    is' : end ≡ length (list ++ more)
    is' = is ∙ ap length grown

    first : (k : ℕ) → k < n + 1 → slice_index (bounds ++ end ∷ []) k ≡ slice_index bounds k
    first k lt = get_or_append_left bounds (end ∷ []) 0 k (omega (arith, lt, so.count))

    last : slice_index (bounds ++ end ∷ []) (n + 1) ≡ end
    last = get_or_push bounds end 0 (n + 1) so.count

    ahead : (k : ℕ) → k < n → tunnels_at (record { resources = links; tunnels = list ++ more; bounds = bounds ++ end ∷ [] }) k ≡ tunnels_at (record { resources = links; tunnels = list; bounds = bounds }) k
    ahead k lt =
        ap (λ b. part (list ++ more) b (slice_index (bounds ++ end ∷ []) (k + 1))) (first k (omega (arith, lt)))
        ∙ ap (part (list ++ more) (slice_index bounds k)) (first (k + 1) (omega (arith, lt)))
        ∙ part-kept list more (slice_index bounds k) (slice_index bounds (k + 1)) (so.bounds.rising k (omega (arith, lt, so.count))) (so.bounds.within (k + 1) (omega (arith, lt, so.count)))

    behind : tunnels_at (record { resources = links; tunnels = list ++ more; bounds = bounds ++ end ∷ [] }) n ≡ more
    behind =
        ap (λ b. part (list ++ more) b (slice_index (bounds ++ end ∷ []) (n + 1))) (first n (omega arith))
        ∙ ap (part (list ++ more) (slice_index bounds n)) last
        ∙ part-behind list more (slice_index bounds n) end so.end is'

    all : AreCrossingsOf p f (n + 1) (record { resources = links; tunnels = list ++ more; bounds = bounds ++ end ∷ [] })
    all = record {
      bounds = bounds-push list more bounds n end so.count so.end is' so.bounds;
      count = omega (arith, length-push bounds end, so.count);
      end = last ∙ is';
      each = λ k lt. elim (cases_lt k n) as (λ _. IsCrossingOf p f (slice_index links k) (flow_at p f).tunnels (tunnels_at (record { resources = links; tunnels = list ++ more; bounds = bounds ++ end ∷ [] }) k)) [
        | inl low ↦ subst (λ row. IsCrossingOf p f (slice_index links k) (flow_at p f).tunnels row) (sym (ahead k low)) (so.each k low)
        | inr high ↦
            let e : n ≡ k = omega (arith, high, lt) in
            subst (λ m. IsCrossingOf p f (slice_index links m) (flow_at p f).tunnels (tunnels_at (record { resources = links; tunnels = list ++ more; bounds = bounds ++ end ∷ [] }) m)) e
            (subst (λ row. IsCrossingOf p f (slice_index links n) (flow_at p f).tunnels row) (sym behind) (subst (λ q. IsCrossingOf p f q (flow_at p f).tunnels more) at here))
      ];
    }

pub crossings-row : (p : Problem) (f n : ℕ) (row : ItemRow) → length row.resources ≤ n → ((k : ℕ) → k < length row.resources → slice_index row.resources k < length p.links) → AreTouched p (item.Flow f) row.resources → AreCrossingsOf p f n row → IsItemRow p (item.Flow f) row
crossings-row p f n row all inside touched so = record {
  touched = touched;
  each = λ k lt. record {
    link = inside k lt;
    bound = omega (arith, lt, all, so.count);
    crossing = so.each k (omega (arith, lt, all));
  };
}
