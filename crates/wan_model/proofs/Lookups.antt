-- Switches, flows and links are found by their names and ends, and each is new to those before it.
use Rattle.std.proofs.Common.{◌≡◌, ℕ, ◌<◌, Bool, false, ◌&&◌, ◌==◌, length, take, Some, None, refl, ap, ◌∙◌, arith}
use Rattle.std.proofs.lemmas.Bool.{and_parts, and_from, false_from_ne_true, eqb-true, eq-eqb}
use Rattle.std.proofs.lemmas.List.{get_or-take, length-take-le}
use Rattle.rollout_rules.specs.Sums.{same_numbers}
use Rattle.rollout_rules.specs.Wan.{Problem, Switch, Link, Flow, no_switch, no_link, no_flow, switch_at, link_at, flow_at}
use Rattle.rollout_rules.specs.Network.{AreSwitches, AreLinks, AreFlows}
use Rattle.rollout_rules.specs.Building.{find_switch, find_flow, find_link}
use Rattle.rollout_rules.proofs.Alike.{same_numbers-is}
use Rattle.wan_model.proofs.Positions.{same_numbers-refl, found_at, found_nowhere}

module _ (p : Problem) where
  pub switch_found : (w : ℕ) → AreSwitches p → w < length p.switches → find_switch p (switch_at p w).name ≡ Some w
  switch_found w are lt =
      let test = λ (s : Switch). same_numbers s.name (switch_at p w).name in
      found_at test p.switches no_switch w lt (same_numbers-refl (switch_at p w).name)
      (λ v before. false_from_ne_true _ (λ same. let one : v ≡ w = are.once v w (omega arith) lt (same_numbers-is _ _ same) in absurd (omega arith)))

  pub switch_is_new : (w : ℕ) → AreSwitches p → w < length p.switches → find_switch (record p { switches = take w p.switches }) (switch_at p w).name ≡ None
  switch_is_new w are lt =
      let test = λ (s : Switch). same_numbers s.name (switch_at p w).name in
      let len : length (take w p.switches) ≡ w = length-take-le w p.switches (omega arith) in
      found_nowhere test (take w p.switches) no_switch
      (λ v before. ap test (get_or-take w p.switches v no_switch (omega arith))
      ∙ false_from_ne_true _ (λ same. let one : v ≡ w = are.once v w (omega arith) lt (same_numbers-is _ _ same) in absurd (omega arith)))

  pub flow_is_new : (f : ℕ) → AreFlows p → f < length p.flows → find_flow (record p { flows = take f p.flows }) (flow_at p f).name ≡ None
  flow_is_new f are lt =
      let test = λ (g : Flow). same_numbers g.name (flow_at p f).name in
      let len : length (take f p.flows) ≡ f = length-take-le f p.flows (omega arith) in
      found_nowhere test (take f p.flows) no_flow
      (λ g before. ap test (get_or-take f p.flows g no_flow (omega arith))
      ∙ false_from_ne_true _ (λ same. let one : g ≡ f = are.once g f (omega arith) lt (same_numbers-is _ _ same) in absurd (omega arith)))

  -- whether a link has the ends of link l
  joins : ℕ → Link → Bool
  joins l k = (k.from == (link_at p l).from) && (k.to == (link_at p l).to)

  joins_once : (k l : ℕ) → AreLinks p → k < l → l < length p.links → joins l (link_at p k) ≡ false
  unfolding joins
  joins_once k l are before lt = false_from_ne_true _ (λ same.
      let both = and_parts ((link_at p k).from == (link_at p l).from) ((link_at p k).to == (link_at p l).to) same in
      let one : k ≡ l = are.once k l (omega arith) lt (eqb-true _ _ both.0) (eqb-true _ _ both.1) in
      absurd (omega arith))

  pub link_found : (l : ℕ) → AreLinks p → l < length p.links → find_link p (link_at p l).from (link_at p l).to ≡ Some l
  unfolding joins
  link_found l are lt =
      found_at (joins l) p.links no_link l lt (and_from _ _ (eq-eqb (link_at p l).from (link_at p l).from refl) (eq-eqb (link_at p l).to (link_at p l).to refl))
      (λ k before. joins_once k l are before lt)

  pub link_is_new : (l : ℕ) → AreLinks p → l < length p.links → find_link (record p { links = take l p.links }) (link_at p l).from (link_at p l).to ≡ None
  unfolding joins
  link_is_new l are lt =
      let len : length (take l p.links) ≡ l = length-take-le l p.links (omega arith) in
      found_nowhere (joins l) (take l p.links) no_link
      (λ k before. ap (joins l) (get_or-take l p.links k no_link (omega arith)) ∙ joins_once k l are (omega arith) lt)
