-- A route follows the links that are found between its switches.
use Rattle.std.proofs.Common.{◌≡◌, ℕ, zero, suc, ◌+◌, ◌-◌, ◌<◌, ◌≤◌, ◌&&◌, ◌==◌, List, [], ◌∷◌, ◌++◌, drop, length, append_assoc, append-nil, is_some, slice_index, Option, Some, None, IsSome, unwrap_or, refl, sym, ap, subst, ◌∙◌, eqb-true, add-one, true≢false, arith}
use Rattle.std.proofs.lemmas.Bool.{and_parts}
use Rattle.std.proofs.lemmas.List.{drop_more, length-drop}
use Rattle.std.proofs.lemmas.List.Quantifiers.{position-Some}
use Rattle.rollout_rules.specs.Wan.{Problem, no_link, link_at}
use Rattle.rollout_rules.specs.Network.{IsPath}
use Rattle.rollout_rules.specs.Building.{find_link, links_along, IsRoute}

-- the link with a number is there, and leads from a to b
pub record Joins (p : Problem) (a b l : ℕ) : Type 0 where
  pub there : l < length p.links
  pub begins : (link_at p l).from ≡ a
  pub ends : (link_at p l).to ≡ b

module _ (p : Problem) where
  -- a link that is found joins the two switches
  pub found_joins : (a b : ℕ) (found : Option ℕ) → find_link p a b ≡ found → IsSome found → Joins p a b (unwrap_or found 0)
  found_joins a b None e some = absurd (true≢false (sym some))
  found_joins a b (Some l) e some =
      let at = position-Some (λ k. (k.from == a) && (k.to == b)) p.links l no_link e in
      let both = and_parts _ _ at.1 in
      record { there = at.0; begins = eqb-true _ _ both.0; ends = eqb-true _ _ both.1 }

  pub length-links_along : (a : ℕ) (path : List ℕ) → length (links_along p (a ∷ path)) ≡ length path
  length-links_along a [] = refl
  length-links_along a (b ∷ path) = ap suc (length-links_along b path)

  -- the h-th link of a path is the one found between its switch h and the next
  along_at : (path : List ℕ) (h : ℕ) → suc h < length path → slice_index (links_along p path) h ≡ unwrap_or (find_link p (slice_index path h) (slice_index path (suc h))) 0
  along_at [] h inside = absurd (omega arith)
  along_at (a ∷ []) h inside = absurd (omega arith)
  along_at (a ∷ b ∷ path) zero inside = refl
  along_at (a ∷ b ∷ path) (suc h) inside = along_at (b ∷ path) h (omega arith)

  pub links_along-at : (path : List ℕ) (h : ℕ) → h + 1 < length path → slice_index (links_along p path) h ≡ unwrap_or (find_link p (slice_index path h) (slice_index path (h + 1))) 0
  links_along-at path h inside = along_at path h (omega arith) ∙ ap (λ n. unwrap_or (find_link p (slice_index path h) (slice_index path n)) 0) (sym (add-one h))

  between : (path : List ℕ) → 2 ≤ length path → length (links_along p path) + 1 ≡ length path
  between [] least = absurd (omega arith)
  between (a ∷ path) least = omega (arith, length-links_along a path)

  -- a route of two switches or more is a path along these links
  pub route_is_path : (path : List ℕ) → IsRoute p path → 2 ≤ length path → IsPath p path (links_along p path)
  route_is_path path r least =
      let long : length (links_along p path) + 1 ≡ length path = between path least in
      let joins : (h : ℕ) → h < length (links_along p path) → Joins p (slice_index path h) (slice_index path (h + 1)) (slice_index (links_along p path) h) = λ h inside.
      let next : h + 1 < length path = omega arith in
      subst (Joins p _ _) (sym (links_along-at path h next)) (found_joins _ _ _ refl (r.joined h next)) in
      record {
        least = least;
        most = r.most;
        between = long;
        switches = r.switches;
        once = r.once;
        links = λ h inside. (joins h inside).there;
        from = λ h inside. (joins h inside).begins;
        to = λ h inside. (joins h inside).ends;
      }

  -- the links of what is left of a path: the one between its first two switches, and those after
  along_drop : (path : List ℕ) (h : ℕ) → h + 1 < length path → links_along p (drop h path) ≡ unwrap_or (find_link p (slice_index path h) (slice_index path (h + 1))) 0 ∷ links_along p (drop (h + 1) path)
  along_drop path h inside =
      let first = drop_more path h 0 (omega arith) in
      let second = drop_more path (h + 1) 0 inside in
      ap (links_along p) (first ∙ ap (λ rest. slice_index path h ∷ rest) second)
      ∙ ap (λ rest. unwrap_or (find_link p (slice_index path h) (slice_index path (h + 1))) 0 ∷ links_along p rest) (sym second)

  -- one link more of those of a path
  pub along_step : (path along links : List ℕ) (h l : ℕ) → 1 ≤ h → h < length path → Some l ≡ find_link p (slice_index path (h - 1)) (slice_index path h)
      → along ++ links_along p (drop (h - 1) path) ≡ links → (along ++ l ∷ []) ++ links_along p (drop (h + 1 - 1) path) ≡ links
  along_step path along links h l least inside found so_far =
      let here : h - 1 + 1 ≡ h = omega arith in
      let next : h ≡ h + 1 - 1 = omega arith in
      let rest = along_drop path (h - 1) (omega arith) in
      let link = ap (λ n. unwrap_or (find_link p (slice_index path (h - 1)) (slice_index path n)) 0) here ∙ ap (λ o. unwrap_or o 0) (sym found) in
      append_assoc along (l ∷ []) _
      ∙ ap (λ n. along ++ l ∷ links_along p (drop n path)) (sym (here ∙ next))
      ∙ ap (λ k. along ++ k ∷ links_along p (drop (h - 1 + 1) path)) (sym link)
      ∙ ap (λ ls. along ++ ls) (sym rest)
      ∙ so_far

  along_short : (path : List ℕ) → length path ≤ 1 → links_along p path ≡ []
  along_short [] short = refl
  along_short (a ∷ []) short = refl
  along_short (a ∷ b ∷ path) short = absurd (omega arith)

  -- no link is left after the last switch
  pub along_end : (path along links : List ℕ) (h : ℕ) → 1 ≤ h → length path ≤ h → along ++ links_along p (drop (h - 1) path) ≡ links → along ≡ links
  along_end path along links h least past so_far =
      let short : length (drop (h - 1) path) ≤ 1 = omega (arith, length-drop (h - 1) path) in
      sym (append-nil along) ∙ ap (λ ls. along ++ ls) (sym (along_short (drop (h - 1) path) short)) ∙ so_far

  -- each switch of a route is joined to the one before
  pub joined_before : (path : List ℕ) (h : ℕ) → IsRoute p path → 1 ≤ h → h < length path → find_link p (slice_index path (h - 1)) (slice_index path h) ≡ None → ⊥
  joined_before path h r least inside none =
      let here : h - 1 + 1 ≡ h = omega arith in
      true≢false (sym (r.joined (h - 1) (omega arith)) ∙ ap (λ n. is_some (find_link p (slice_index path (h - 1)) (slice_index path n))) here ∙ ap is_some none)
