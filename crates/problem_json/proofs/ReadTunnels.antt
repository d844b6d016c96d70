-- The tunnels of a flow, read again one by one.
use Rattle.std.proofs.Common.{◌≡◌, ℕ, zero, suc, ◌+◌, ◌-◌, ◌<◌, true, ◌==◌, List, [], ◌∷◌, ◌++◌, length, map, take, Ok, refl, ap, ◌∙◌, arith}
use Rattle.rollout_rules.specs.Wan.{Problem, tunnel_at, tunnel_of}
use Rattle.rollout_rules.specs.Network.{IsNetwork}
use Rattle.rollout_rules.specs.Building.{has_ends}
use Rattle.rollout_rules.proofs.Tunnels.{tunnels_of}
use Rattle.wan_model.specs.Fronts.{begun}
use Rattle.wan_model.proofs.Fronts.{last_is, the_tunnel, ends_are, has, tunnel_is_added}
use Rattle.problem_json.specs.GrammarValues.{member_in, rate_of}
use Rattle.problem_json.specs.GrammarNetwork.{with_one_tunnel}
use Rattle.problem_json.specs.Writing.{rate_data, list_data, name_data, tunnel_data}
use Rattle.problem_json.proofs.Adding.{goes_on, held-true}
use Rattle.problem_json.proofs.ReadValues.{rate_in-rate}
use Rattle.problem_json.proofs.Formats.{width_is_read}
use Rattle.problem_json.proofs.ReadPaths.{path_is_read}

module _ (p : Problem) (net : IsNetwork p) (f : ℕ) (lt : f < length p.flows) where
  pub one_tunnel_more : (j : ℕ) → j < tunnels_of p f → with_one_tunnel (tunnel_data p (tunnel_of p f j)) (begun p f j) ≡ Ok (begun p f (j + 1))
  unfolding with_one_tunnel rate_of member_in
  one_tunnel_more j few =
      let q = begun p f j in
      let t = tunnel_at p (tunnel_of p f j) in
      let row = the_tunnel p net f lt j few in
      let ends = ap (λ g. has_ends q g t.path) (last_is p net f lt j) ∙ ends_are p net f lt j few in
      goes_on _ t.path _ (path_is_read p q net (has p net f lt j) t.path t.links row.path (tunnel_data p (tunnel_of p f j)) refl)
      ∙ goes_on _ tt _ (held-true _ _ ends)
      ∙ goes_on _ t.old _ (rate_in-rate _ t.old row.old)
      ∙ goes_on _ t.new _ (rate_in-rate _ t.new row.new)
      ∙ goes_on _ t.width _ (width_is_read _ _ p (rate_data t.new) (rate_data t.old) (list_data (map (name_data p) t.path)) t.width row.width)
      ∙ ap Ok (tunnel_is_added p net f lt j few)
