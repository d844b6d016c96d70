-- A walk round a ring is a route, along the links that it is said to take.
use Rattle.std.proofs.Common.{◌≡◌, ℕ, ◌+◌, ◌-◌, ◌*◌, ◌/◌, ◌%◌, ◌<◌, ◌≤◌, ◌==◌, nat_lt, Bool, true, false, cond, ◌&&◌, List, [], ◌∷◌, length, slice_index, Some, None, is_some, unwrap_or, refl, sym, ap, ap₂, ◌∙◌, inl, inr, eq-eqb, eqb-true, lt-ltb, arith}
use Rattle.std.proofs.Math.Nat.{mod-lt}
use Rattle.std.proofs.lemmas.Bool.{and_from, and_parts, cases_Bool, cond-true}
use Rattle.std.proofs.lemmas.List.{ext_get_or}
use Rattle.std.proofs.lemmas.List.Sums.{position_or_len_is}
use Rattle.std.specs.List.{position_or_len}
use Rattle.rollout_rules.specs.Building.{find_link, links_along, IsRoute}
use Rattle.rollout_rules.specs.Wan.{Link, Problem, link_at, no_link}
use Rattle.rollout_rules.proofs.Rows.{list_below-at, list_below-length}
use Rattle.wan_model.proofs.Routes.{length-links_along, links_along-at}
use Rattle.case_gen.specs.Conditions.{IsRing}
use Rattle.case_gen.specs.Rings.{link_from, links_of_walk, walk, walked}
use Rattle.case_gen.proofs.Round.{next_switch, same_link, walk_once}

-- a path has one link less than switches
links_count : (p : Problem) (path : List ℕ) → length (links_along p path) ≡ length path - 1
links_count p [] = refl
links_count p (a ∷ path) = omega (arith, length-links_along p a path)

module _ (n : ℕ) (p : Problem) (ring : IsRing n p) where
  module _ (w step : ℕ) (inside : w < n) (some : 0 < step) (few : step ≤ 2) where
    abbrev goes_on : Link → Bool
    goes_on k = (k.from == w) && (k.to == (w + step) % n)

    link_inside : link_from w step < 2 * n
    link_inside = omega arith

    half : link_from w step / 2 ≡ w
    half = omega arith

    ends_at : (link_from w step / 2 + 1 + link_from w step % 2) % n ≡ (w + step) % n
    ends_at = let on : link_from w step / 2 + 1 + link_from w step % 2 ≡ w + step = omega arith in ap (λ x. x % n) on

    passes : goes_on (link_at p (link_from w step)) ≡ true
    passes =
        and_from ((link_at p (link_from w step)).from == w) ((link_at p (link_from w step)).to == (w + step) % n)
        (eq-eqb _ _ (ring.from (link_from w step) link_inside ∙ half))
        (eq-eqb _ _ (ring.to (link_from w step) link_inside ∙ ends_at))

    fails : (k : ℕ) → k < link_from w step → goes_on (link_at p k) ≡ false
    fails k lt = elim (cases_Bool (goes_on (link_at p k))) as (λ _. goes_on (link_at p k) ≡ false) [
      | inl same ↦
          let below : k < 2 * n = omega (arith, link_inside) in
          let both = and_parts ((link_at p k).from == w) ((link_at p k).to == (w + step) % n) same in
          let from : k / 2 ≡ link_from w step / 2 = sym (ring.from k below) ∙ eqb-true (link_at p k).from w both.0 ∙ sym half in
          let to : (k / 2 + 1 + k % 2) % n ≡ (link_from w step / 2 + 1 + link_from w step % 2) % n = sym (ring.to k below) ∙ eqb-true (link_at p k).to ((w + step) % n) both.1 ∙ sym ends_at in
          let at : k ≡ link_from w step = same_link n k (link_from w step) ring.least below link_inside from to in
          absurd (omega arith)
      | inr other ↦ other
    ]

    pub link_found : find_link p w ((w + step) % n) ≡ Some (link_from w step)
    link_found =
        let inside_links : link_from w step < length p.links = omega (arith, link_inside, ring.count) in
        let at : position_or_len goes_on p.links ≡ link_from w step = position_or_len_is goes_on p.links (link_from w step) no_link (omega arith) fails (λ lt. passes) in
        ap (λ m. cond (nat_lt m (length p.links)) (Some m) None) at ∙ cond-true _ _ _ (lt-ltb (link_from w step) (length p.links) inside_links)

  module _ (start step count : ℕ) (starts : start < n) (some : 0 < step) (few : step ≤ 2) (short : count * step < n) (most : count ≤ 16) where
    abbrev path : List ℕ
    path = walk n start step count

    pub path_long : length path ≡ count + 1
    path_long = list_below-length (count + 1) (walked n start step)

    pub path_at : (h : ℕ) → h < count + 1 → slice_index path h ≡ walked n start step h
    path_at h lt = list_below-at (count + 1) (walked n start step) h 0 lt

    on_ring : (h : ℕ) → walked n start step h < n
    on_ring h = mod-lt (start + h * step) {m = n} (omega arith)

    road : (h : ℕ) → h < count → find_link p (slice_index path h) (slice_index path (h + 1)) ≡ Some (link_from (walked n start step h) step)
    road h lt =
        ap₂ (find_link p) (path_at h (omega arith)) (path_at (h + 1) (omega arith) ∙ next_switch n start step h)
        ∙ link_found (walked n start step h) step (on_ring h) some few

    pub walk-IsRoute : IsRoute p path
    walk-IsRoute = record {
      most = omega (arith, path_long);
      switches = λ h lt. omega (arith, path_at h (omega (arith, path_long)), on_ring h, ring.all);
      once = λ g h gl hl e.
          let g_in : g < count + 1 = omega (arith, path_long) in
          let h_in : h < count + 1 = omega (arith, path_long) in
          walk_once n start step count g h starts some short (omega arith) (omega arith) (sym (path_at g g_in) ∙ e ∙ path_at h h_in);
      joined = λ h lt. ap is_some (road h (omega (arith, path_long)));
    }

    pub walk-along : links_along p path ≡ links_of_walk n start step count
    walk-along =
        let long : length (links_along p path) ≡ count = omega (arith, links_count p path, path_long) in
        ext_get_or 0 (links_along p path) (links_of_walk n start step count) (long ∙ sym (list_below-length count (λ j. link_from (walked n start step j) step)))
        (λ h lt.
        let below : h < count = omega arith in
        links_along-at p path h (omega (arith, path_long))
        ∙ ap (λ o. unwrap_or o 0) (road h below)
        ∙ sym (list_below-at count (λ j. link_from (walked n start step j) step) h 0 below))
