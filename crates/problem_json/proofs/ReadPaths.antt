-- The path of a tunnel, read again switch by switch, and the links along it.
use Rattle.std.proofs.Common.{◌≡◌, ℕ, zero, suc, ◌+◌, ◌-◌, ◌<◌, ◌≤◌, Bool, true, false, ◌==◌, List, [], ◌∷◌, length, map, take, slice_index, is_some, Some, Ok, refl, sym, ap, ◌∙◌, arith}
use Rattle.std.proofs.lemmas.Bool.{or_right, not_from_false, false_from_ne_true, eqb-true, le-leb}
use Rattle.std.proofs.lemmas.List.{take_more, take_all, get_or-take, length-take-le, length-map}
use Rattle.std.specs.List.{list_any}
use Rattle.rollout_rules.specs.Wan.{Problem}
use Rattle.rollout_rules.specs.Network.{IsNetwork, IsPath}
use Rattle.rollout_rules.specs.declared.limits.TheConstants.{MOST_HOPS}
use Rattle.rollout_rules.specs.Building.{find_link}
use Rattle.serde_json.specs.Data.{Data}
use Rattle.serde_json.specs.Events.{items_len}
use Rattle.serde_json.specs.View.{items_of}
use Rattle.problem_json.specs.GrammarResults.{add_each}
use Rattle.problem_json.specs.GrammarValues.{member_in, list_in, list_of}
use Rattle.problem_json.specs.GrammarNetwork.{of_tunnel, with_one_hop, leads_on, path_of}
use Rattle.problem_json.specs.declared.place.Part.TheVariants as part
use Rattle.problem_json.specs.declared.key.Key.TheVariants as key
use Rattle.problem_json.specs.Writing.{name_data, list_data}
use Rattle.wan_model.proofs.Positions.{passes_nowhere, found_nowhere}
use Rattle.wan_model.proofs.Fronts.{HasNetwork, link_is_found}
use Rattle.problem_json.proofs.Adding.{goes_on, held-true, add_each-below, map-below, items_len-items_of}
use Rattle.problem_json.proofs.ReadValues.{list_in-list}
use Rattle.problem_json.proofs.ReadNetwork.{name_is_found}

module _ (p q : Problem) (net : IsNetwork p) (has : HasNetwork p q) (path along : List ℕ) (is : IsPath p path along) where
  hop_is_new : (h : ℕ) → h < length path → list_any (λ s. s == slice_index path h) (take h path) ≡ false
  hop_is_new h lt =
      let len : length (take h path) ≡ h = length-take-le h path (omega arith) in
      let is_next : ℕ → Bool = λ s. s == slice_index path h in
      passes_nowhere is_next (take h path) (found_nowhere is_next (take h path) 0
      (λ g before. ap is_next (get_or-take h path g 0 (omega arith))
      ∙ false_from_ne_true _ (λ same. let one : g ≡ h = is.once g h (omega arith) lt (eqb-true _ _ same) in absurd (omega arith))))

  hop_leads_on : (h : ℕ) → h < length path → leads_on q (take h path) (slice_index path h) ≡ true
  hop_leads_on zero lt = refl
  hop_leads_on (suc h) lt =
      let len : length (take (suc h) path) ≡ suc h = length-take-le (suc h) path (omega arith) in
      let at : length (take (suc h) path) - 1 ≡ h = omega arith in
      let last : slice_index (take (suc h) path) (length (take (suc h) path) - 1) ≡ slice_index path h =
      ap (slice_index (take (suc h) path)) at ∙ get_or-take (suc h) path h 0 (omega arith) in
      or_right _ _ (ap is_some (ap (λ a. find_link q a (slice_index path (suc h))) last ∙ link_is_found p q net has path along is h (omega (arith, is.between))))

  one_hop_more : (h : ℕ) → h < length path → with_one_hop q (name_data p (slice_index path h)) (take h path) ≡ Ok (take (h + 1) path)
  unfolding with_one_hop
  one_hop_more h lt =
      let next = slice_index path h in
      goes_on _ next _ (name_is_found p net _ q next has.switches (is.switches h lt))
      ∙ goes_on _ tt _ (held-true _ _ (not_from_false _ (hop_is_new h lt)))
      ∙ goes_on _ tt _ (held-true _ _ (hop_leads_on h lt))
      ∙ ap Ok (sym (take_more path h 0 lt))

  pub path_is_read : (d : Data) → member_in (of_tunnel part.Tunnel q) key.Path d ≡ Ok (list_data (map (name_data p) path)) → path_of q d ≡ Ok path
  unfolding path_of list_of
  path_is_read d e =
      let names = items_of (map (name_data p) path) in
      let len : items_len names ≡ length path = items_len-items_of (map (name_data p) path) ∙ length-map path (name_data p) in
      let few : length (map (name_data p) path) ≤ MOST_HOPS = omega (arith, is.most, length-map path (name_data p)) in
      goes_on _ names _ (goes_on _ _ (list_in _ MOST_HOPS) e ∙ list_in-list _ MOST_HOPS (map (name_data p) path) few)
      ∙ goes_on _ tt _ (held-true _ _ (le-leb 2 (items_len names) (omega (arith, is.least))))
      ∙ ap (λ ds. add_each (with_one_hop q) (items_of ds) []) (map-below (name_data p) path 0)
      ∙ add_each-below (with_one_hop q) (λ k. name_data p (slice_index path k)) (λ k. take k path) (length path) one_hop_more
      ∙ ap Ok (take_all (length path) path (omega arith))
