-- The links of a flow as they are gathered with the tunnels that cross each, and as they are taken out.
use Rattle.std.proofs.Common.{◌≡◌, ℕ, suc, ◌+◌, ◌<◌, ◌≤◌, true, false, ◌==◌, if◌then◌else◌, List, [], ◌∷◌, ◌++◌, length, slice_index, slice_index_or, slice_set, inl, inr, refl, sym, ap, ◌∙◌, subst, arith, eq-eqb, eqb-true, ne_eqb, ltb-true}
use Rattle.std.proofs.lemmas.Bool.{cases_Bool, cases_eq, cases_lt, or_parts}
use Rattle.std.proofs.lemmas.List.{get_or-set_same, get_or-set_other, length-set}
use Rattle.lists.proofs.Conditions.{not_both}
use Rattle.rollout_rules.specs.Sums.{sum_below}
use Rattle.rollout_rules.specs.Wan.{Problem, flow_at, tunnel_at, tunnel_of}
use Rattle.rollout_rules.specs.Network.{IsNetwork}
use Rattle.rollout_rules.specs.Items.{Resource, the_link, the_table, is_resource}
use Rattle.rollout_rules.specs.declared.item.Item.TheVariants as item
use Rattle.dependency_graph.specs.Cells.{resource_number, has, AreOnce, AreTouched, TakesNothing}
use Rattle.dependency_graph.specs.Index.{AreEmpty}
use Rattle.dependency_graph.specs.Touched.{IsCrossingOf, IsCrossingOfTo, AreGathered, AreTakenOut}
use Rattle.dependency_graph.proofs.Changed.{place_in}
use Rattle.dependency_graph.proofs.Elements.{length-push, each-push, sum-push}
use Rattle.dependency_graph.proofs.Passes.{set-row, links-once, sum-once}
use Rattle.dependency_graph.proofs.Reached.{IsWith, with-push}

-- ---- the tunnels of one flow across a link
of-push : (p : Problem) (f l n m : ℕ) (row : List ℕ) → tunnel_of p f n < length p.tunnels → slice_index (tunnel_at p (tunnel_of p f n)).links m ≡ l → IsCrossingOfTo p f l n m row → IsCrossingOfTo p f l n (suc m) (row ++ tunnel_of p f n ∷ [])
of-push p f l n m row lt is so =
    let here : slice_index (tunnel_at p (tunnel_of p f n)).links m == l ≡ true = eq-eqb (slice_index (tunnel_at p (tunnel_of p f n)).links m) l is in
    record {
      tunnels = λ j below. each-push (λ k x. x < length p.tunnels) row (tunnel_of p f n) 0 (length row) refl so.tunnels lt j (omega (arith, below, length-push row (tunnel_of p f n)));
      sums = λ g. sum-push g row (tunnel_of p f n) 0 ∙ rw here (omega (arith, so.sums g));
    }

of-pass : (p : Problem) (f l n m : ℕ) (row : List ℕ) → (slice_index (tunnel_at p (tunnel_of p f n)).links m ≡ l → ⊥) → IsCrossingOfTo p f l n m row → IsCrossingOfTo p f l n (suc m) row
of-pass p f l n m row other so =
    let away : slice_index (tunnel_at p (tunnel_of p f n)).links m == l ≡ false = ne_eqb (slice_index (tunnel_at p (tunnel_of p f n)).links m) l other in
    record { tunnels = so.tunnels; sums = λ g. rw away (omega (arith, so.sums g)) }

of-next : (p : Problem) (f l n : ℕ) (row : List ℕ) → AreOnce (tunnel_at p (tunnel_of p f n)).links → IsCrossingOfTo p f l n (length (tunnel_at p (tunnel_of p f n)).links) row → IsCrossingOfTo p f l (suc n) 0 row
of-next p f l n row once so = record { tunnels = so.tunnels; sums = λ g. omega (arith, so.sums g, sum-once (tunnel_at p (tunnel_of p f n)).links l (g (tunnel_of p f n)) once) }

of-all : (p : Problem) (f l n : ℕ) (row : List ℕ) → IsCrossingOfTo p f l n 0 row → IsCrossingOf p f l n row
of-all p f l n row so = record { tunnels = so.tunnels; sums = λ g. omega (arith, so.sums g) }

-- ---- the links as they are gathered
nothing : (row : List ℕ) → length row == 0 ≡ true → row ≡ []
nothing [] none = refl
nothing (x ∷ row) none = let e : length (x ∷ row) ≡ 0 = eqb-true (length (x ∷ row)) 0 none in absurd (omega (arith, e))

has-other : (links : List ℕ) (l k : ℕ) → (k ≡ l → ⊥) → has links k ≡ false → has (links ++ l ∷ []) k ≡ false
has-other [] l k other none = let e = ne_eqb l k (λ q. other (sym q)) in rw e refl
has-other (x ∷ links) l k other none =
    let parts = or_parts (x == k) (has links k) none in
    let away = parts.0 in
    let behind = has-other links l k other parts.1 in
    rw (away, behind) refl

kept-none : (q : ℕ) (links later : List ℕ) (k : ℕ) → IsWith q links later → has later k ≡ false → has links k ≡ false
kept-none q links later k so none = elim (cases_Bool (has links k)) as (λ _. has links k ≡ false) [
  | inl there ↦ absurd (not_both (has later k) (so.kept k there) none)
  | inr away ↦ away
]

pub gathered-start : (p : Problem) (f : ℕ) (links : List ℕ) (rows : List (List ℕ)) → links ≡ [] → AreEmpty (length p.links) rows → AreGathered p f 0 0 links rows
gathered-start p f links rows none so = subst (λ ls. AreGathered p f 0 0 ls rows) (sym none) (record {
  count = so.count;
  each = λ l lt. subst (IsCrossingOfTo p f l 0 0) (sym (so.each l lt)) (record { tunnels = λ j below. absurd (omega (arith, below)); sums = λ g. refl });
  inside = λ k lt. absurd (omega (arith, lt));
  once = λ a b lt. absurd (omega (arith, lt));
  missing = λ l lt away. so.each l lt;
  empty = λ l lt is. refl;
})

module _ (p : Problem) (f n m t l : ℕ) (links : List ℕ) (rows : List (List ℕ)) (is : t ≡ tunnel_of p f n) (lt : t < length p.tunnels) (at : l ≡ slice_index (tunnel_at p (tunnel_of p f n)).links m) (low : l < length p.links) (so : AreGathered p f n m links rows) where
  abbrev row : List ℕ
  row = slice_index_or rows l []

  abbrev later : List (List ℕ)
  later = slice_set rows l (slice_index_or rows l [] ++ t ∷ [])

  push : IsCrossingOfTo p f l n (suc m) (slice_index_or rows l [] ++ t ∷ [])
  push = subst (λ u. IsCrossingOfTo p f l n (suc m) (row ++ u ∷ [])) (sym is) (of-push p f l n m row (subst (λ u. u < length p.tunnels) is lt) (sym at) (so.each l low))

  all : (k : ℕ) → k < length p.links → IsCrossingOfTo p f k n (m + 1) (slice_index_or (slice_set rows l (slice_index_or rows l [] ++ t ∷ [])) k [])
  all = let e : suc m ≡ m + 1 = omega arith in
      subst (λ i. (k : ℕ) → k < length p.links → IsCrossingOfTo p f k n i (slice_index_or later k [])) e
      (set-row (λ k r. IsCrossingOfTo p f k n (suc m) r) rows l (length p.links) (row ++ t ∷ []) so.count low push
      (λ k below other. of-pass p f k n m (slice_index_or rows k []) (λ same. other (sym same ∙ sym at)) (so.each k below)))

  others : (k : ℕ) → (k ≡ l → ⊥) → slice_index_or (slice_set rows l (slice_index_or rows l [] ++ t ∷ [])) k [] ≡ slice_index_or rows k []
  others k other = get_or-set_other rows l k (row ++ t ∷ []) [] other

  some : slice_index_or (slice_set rows l (slice_index_or rows l [] ++ t ∷ [])) l [] ≡ [] → ⊥
  some none =
      let here = get_or-set_same rows l (row ++ t ∷ []) [] (omega (arith, low, so.count)) in
      omega (arith, ap length (sym here ∙ none), length-push row t)

  other-than : (k : ℕ) → slice_index_or (slice_set rows l (slice_index_or rows l [] ++ t ∷ [])) k [] ≡ [] → k ≡ l → ⊥
  other-than k none e = some (subst (λ i. slice_index_or later i [] ≡ []) e none)

  -- the first tunnel across it brings the link in
  first : length (slice_index_or rows l []) == 0 ≡ true → AreGathered p f n (m + 1) (links ++ l ∷ []) (slice_set rows l (slice_index_or rows l [] ++ t ∷ []))
  first none =
      let more = with-push l links (so.empty l low (nothing row none)) in
      record {
        count = length-set rows l (row ++ t ∷ []) ∙ so.count;
        each = all;
        inside = more.inside (length p.links) low so.inside;
        once = more.once so.once;
        missing = λ k below away. others k (λ e. not_both (has (links ++ l ∷ []) l) more.here (subst (λ i. has (links ++ l ∷ []) i ≡ false) e away)) ∙ so.missing k below (kept-none l links (links ++ l ∷ []) k more away);
        empty = λ k below gone. has-other links l k (other-than k gone) (so.empty k below (sym (others k (other-than k gone)) ∙ gone));
      }

  there : length (slice_index_or rows l []) == 0 ≡ false → has links l ≡ true
  there full = elim (cases_Bool (has links l)) as (λ _. has links l ≡ true) [
    | inl here ↦ here
    | inr away ↦ absurd (not_both (length row == 0) (eq-eqb (length row) 0 (ap length (so.missing l low away))) full)
  ]

  further : length (slice_index_or rows l []) == 0 ≡ false → AreGathered p f n (m + 1) links (slice_set rows l (slice_index_or rows l [] ++ t ∷ []))
  further full = record {
    count = length-set rows l (row ++ t ∷ []) ∙ so.count;
    each = all;
    inside = so.inside;
    once = so.once;
    missing = λ k below away. others k (λ e. not_both (has links l) (there full) (subst (λ i. has links i ≡ false) e away)) ∙ so.missing k below away;
    empty = λ k below gone. so.empty k below (sym (others k (other-than k gone)) ∙ gone);
  }

  pub gathered-step : (links' : List ℕ) (rows' : List (List ℕ)) → links' ≡ (if length (slice_index_or rows l []) == 0 then links ++ l ∷ [] else links) → rows' ≡ slice_set rows l (slice_index_or rows l [] ++ t ∷ []) → AreGathered p f n (m + 1) links' rows'
  gathered-step links' rows' new set = subst (AreGathered p f n (m + 1) links') (sym set) (elim (cases_Bool (length row == 0)) as (λ _. AreGathered p f n (m + 1) links' later) [
    | inl none ↦ subst (λ ls. AreGathered p f n (m + 1) ls later) (sym (new ∙ ap (λ b. if b then links ++ l ∷ [] else links) none)) (first none)
    | inr full ↦ subst (λ ls. AreGathered p f n (m + 1) ls later) (sym (new ∙ ap (λ b. if b then links ++ l ∷ [] else links) full)) (further full)
  ])

pub gathered-next : (p : Problem) (f n m : ℕ) (links : List ℕ) (rows : List (List ℕ)) → IsNetwork p → tunnel_of p f n < length p.tunnels → m ≡ length (tunnel_at p (tunnel_of p f n)).links → AreGathered p f n m links rows → AreGathered p f (n + 1) 0 links rows
gathered-next p f n m links rows net lt all so =
    let t = tunnel_of p f n in
    let e : suc n ≡ n + 1 = omega arith in
    let once = links-once p (tunnel_at p t).path (tunnel_at p t).links (net.tunnels t lt).path in
    subst (λ k. AreGathered p f k 0 links rows) e (record {
      count = so.count;
      each = λ l low. of-next p f l n (slice_index_or rows l []) once (subst (λ k. IsCrossingOfTo p f l n k (slice_index_or rows l [])) all (so.each l low));
      inside = so.inside;
      once = so.once;
      missing = so.missing;
      empty = so.empty;
    })

-- the links of all tunnels are all that the flow takes of
pub gathered-touched : (p : Problem) (f : ℕ) (links : List ℕ) (rows : List (List ℕ)) → AreGathered p f (flow_at p f).tunnels 0 links rows → AreTouched p (item.Flow f) links
gathered-touched p f links rows so = record {
  inside = λ k lt. let low = so.inside k lt in omega (arith, low);
  once = so.once;
  rest = rest;
}
  where
    rest : (u : Resource) → is_resource p u ≡ true → has links (resource_number p u) ≡ false → TakesNothing p (item.Flow f) u
    rest (the_link l) here away = λ rate there.
        let low = ltb-true l (length p.links) here in
        let none = ap (λ row. sum_below (length row) (λ j. rate (slice_index row j))) (so.missing l low away) in
        omega (arith, (so.each l low).sums rate, none)
    rest (the_table w) here away = λ rate there. refl

-- ---- the links as they are taken out
emptied : (rows : List (List ℕ)) (l k : ℕ) → l < length rows → ((k ≡ l → ⊥) → slice_index_or rows k [] ≡ []) → slice_index_or (slice_set rows l []) k [] ≡ []
emptied rows l k lt is = elim (cases_eq k l) as (λ _. slice_index_or (slice_set rows l []) k [] ≡ []) [
  | inl same ↦ ap (λ i. slice_index_or (slice_set rows l []) i []) same ∙ get_or-set_same rows l [] [] lt
  | inr other ↦ get_or-set_other rows l k [] [] other ∙ is other
]

pub taken-start : (p : Problem) (f n m : ℕ) (links : List ℕ) (rows : List (List ℕ)) → AreGathered p f n m links rows → AreTakenOut p links 0 rows rows
taken-start p f n m links rows so = record {
  count = so.count;
  out = λ i lt. absurd (omega (arith, lt));
  there = λ i from lt. refl;
  missing = so.missing;
}

-- the row of the link after
pub taken-row : (p : Problem) (f k l : ℕ) (links : List ℕ) (gathered rows : List (List ℕ)) → k < length links → l ≡ slice_index links k → AreGathered p f (flow_at p f).tunnels 0 links gathered → AreTakenOut p links k gathered rows → IsCrossingOf p f l (flow_at p f).tunnels (slice_index_or rows l [])
taken-row p f k l links gathered rows lt at all so =
    let q = slice_index links k in
    subst (λ i. IsCrossingOf p f i (flow_at p f).tunnels (slice_index_or rows i [])) (sym at)
    (subst (IsCrossingOf p f q (flow_at p f).tunnels) (sym (so.there k (omega arith) lt)) (of-all p f q (flow_at p f).tunnels (slice_index_or gathered q []) (all.each q (all.inside k lt))))

pub taken-step : (p : Problem) (k l : ℕ) (links : List ℕ) (gathered rows later : List (List ℕ)) → AreOnce links → k < length links → l ≡ slice_index links k → l < length p.links → later ≡ slice_set rows l [] → AreTakenOut p links k gathered rows → AreTakenOut p links (k + 1) gathered later
taken-step p k l links gathered rows later once lt at low is so =
    let inside : l < length rows = omega (arith, low, so.count) in
    subst (AreTakenOut p links (k + 1) gathered) (sym is) (record {
      count = length-set rows l [] ∙ so.count;
      out = λ i up. emptied rows l (slice_index links i) inside (λ other. so.out i (elim (cases_lt i k) as (λ _. i < k) [
        | inl before ↦ before
        | inr from ↦ let here : i ≡ k = omega (arith, from, up) in absurd (other (ap (slice_index links) here ∙ sym at))
      ]));
      there = λ i from below.
          get_or-set_other rows l (slice_index links i) [] [] (λ e. let same = once i k below lt (e ∙ at) in omega (arith, same, from))
          ∙ so.there i (omega (arith, from)) below;
      missing = λ q below away. emptied rows l q inside (λ other. so.missing q below away);
    })

pub taken-all : (p : Problem) (k : ℕ) (links : List ℕ) (gathered rows : List (List ℕ)) → length links ≤ k → AreTakenOut p links k gathered rows → AreEmpty (length p.links) rows
taken-all p k links gathered rows all so = record {
  count = so.count;
  each = λ l lt. elim (cases_Bool (has links l)) as (λ _. slice_index_or rows l [] ≡ []) [
    | inl there ↦ let place = place_in l links there in subst (λ q. slice_index_or rows q [] ≡ []) place.2 (so.out place.0 (omega (arith, place.1, all)))
    | inr away ↦ so.missing l lt away
  ];
}
