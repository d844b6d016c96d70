-- A small network of which a rollout can't turn everywhere: two flows leave a link one after the other, and a third one comes there with the second.
use Rattle.std.specs.Prelude.{[], ◌∷◌, codes, Some}
use Rattle.rollout_rules.specs.Wan.{Problem, Plan}
use Rattle.rollout_rules.specs.Named.{all_installed, flow_named, link_from, switch_named, tunnel_along}

abbrev pub passing : Problem
passing = record {
  format = 1;
  switches = switch_named (codes "A") 8 ∷ switch_named (codes "B") 8 ∷ switch_named (codes "C") 8 ∷ switch_named (codes "D") 8 ∷ switch_named (codes "E") 8 ∷ [];
  links = link_from 0 1 2 ∷ link_from 0 2 1 ∷ link_from 2 1 1 ∷ link_from 0 3 1 ∷ link_from 3 1 1 ∷ link_from 0 4 1 ∷ link_from 4 1 1 ∷ [];
  flows = flow_named (codes "f") 0 2 ∷ flow_named (codes "g") 2 2 ∷ flow_named (codes "h") 4 2 ∷ [];
  tunnels = tunnel_along 0 (0 ∷ 1 ∷ []) (0 ∷ []) (Some 1) (Some 0)
      ∷ tunnel_along 0 (0 ∷ 2 ∷ 1 ∷ []) (1 ∷ 2 ∷ []) (Some 0) (Some 1)
      ∷ tunnel_along 1 (0 ∷ 1 ∷ []) (0 ∷ []) (Some 1) (Some 0)
      ∷ tunnel_along 1 (0 ∷ 3 ∷ 1 ∷ []) (3 ∷ 4 ∷ []) (Some 0) (Some 1)
      ∷ tunnel_along 2 (0 ∷ 4 ∷ 1 ∷ []) (5 ∷ 6 ∷ []) (Some 1) (Some 0)
      ∷ tunnel_along 2 (0 ∷ 1 ∷ []) (0 ∷ []) (Some 0) (Some 1) ∷ [];
}

abbrev pub passing_plan : Plan
passing_plan = all_installed 6 1 ((1 ∷ 0 ∷ 1 ∷ 0 ∷ 1 ∷ 0 ∷ []) ∷ (0 ∷ 1 ∷ 1 ∷ 0 ∷ 1 ∷ 0 ∷ []) ∷ (0 ∷ 1 ∷ 0 ∷ 1 ∷ 0 ∷ 1 ∷ []) ∷ [])
