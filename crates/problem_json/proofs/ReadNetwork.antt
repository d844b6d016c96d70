-- The switches and the links of a network, read again one by one.
use Rattle.std.proofs.Common.{◌≡◌, ℕ, ◌+◌, ◌<◌, [], length, is_none, Option, Some, ok_or, Ok, refl, ap, ◌∙◌}
use Rattle.rollout_rules.specs.Wan.{Problem, switch_at, link_at}
use Rattle.rollout_rules.specs.Network.{IsNetwork}
use Rattle.rollout_rules.specs.declared.limits.TheConstants.{LARGEST_TABLE, LARGEST_CAPACITY}
use Rattle.rollout_rules.specs.Building.{find_switch, find_link}
use Rattle.problem_json.specs.GrammarValues.{member_in, text_in, name_of, number_of}
use Rattle.problem_json.specs.GrammarNetwork.{with_one_switch, with_one_link, switch_named, end_of}
use Rattle.problem_json.specs.Writing.{switch_data, link_data, name_data}
use Rattle.problem_json.specs.declared.place.Place.{Place}
use Rattle.problem_json.specs.declared.fault.InputFault.TheVariants.{UnknownSwitch}
use Rattle.problem_json.proofs.Adding.{goes_on, held-true}
use Rattle.problem_json.proofs.ReadValues.{name_in-string, number_in-number}
use Rattle.wan_model.specs.Fronts.{switched, linked}
use Rattle.wan_model.proofs.Lookups.{switch_found, switch_is_new, link_is_new}
use Rattle.wan_model.proofs.Fronts.{switch_is_added, link_is_added}

module _ (p : Problem) (net : IsNetwork p) where
  pub one_switch_more : (k : ℕ) → k < length p.switches → with_one_switch (switch_data (switch_at p k)) (switched p k) ≡ Ok (switched p (k + 1))
  unfolding with_one_switch name_of number_of member_in
  one_switch_more k lt =
      let s = switch_at p k in
      goes_on _ s.name _ (name_in-string _ s.name (net.switches.names k lt))
      ∙ goes_on _ tt _ (held-true (is_none (find_switch (switched p k) s.name)) _ (ap is_none (switch_is_new p k net.switches lt)))
      ∙ goes_on _ s.table _ (number_in-number _ LARGEST_TABLE s.table (net.switches.tables k lt))
      ∙ ap Ok (switch_is_added p net k lt)

  -- the name of a switch is read as its number, where all switches stand
  pub name_is_found : (place : Place) (q : Problem) (w : ℕ) → q.switches ≡ p.switches → w < length p.switches → switch_named place q (name_data p w) ≡ Ok w
  unfolding switch_named text_in
  name_is_found place q w same lt =
      let name = (switch_at p w).name in
      let is : find_switch q name ≡ Some w = ap (λ ss. find_switch (record p { switches = ss }) name) same ∙ switch_found p w net.switches lt in
      ap (λ (o : Option ℕ). ok_or o (UnknownSwitch place)) is

  pub one_link_more : (k : ℕ) → k < length p.links → with_one_link (link_data p (link_at p k)) (linked p k) ≡ Ok (linked p (k + 1))
  unfolding with_one_link end_of number_of member_in
  one_link_more k lt =
      let l = link_at p k in
      goes_on _ l.from _ (name_is_found _ (linked p k) l.from refl (net.links.from k lt))
      ∙ goes_on _ l.to _ (name_is_found _ (linked p k) l.to refl (net.links.to k lt))
      ∙ goes_on _ l.capacity _ (number_in-number _ LARGEST_CAPACITY l.capacity (net.links.capacities k lt))
      ∙ goes_on _ tt _ (held-true (is_none (find_link (linked p k) l.from l.to)) _ (ap is_none (link_is_new p k net.links lt)))
      ∙ ap Ok (link_is_added p net k lt)
