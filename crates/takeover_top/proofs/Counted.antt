-- The start of a takeover that was begun has a number for each item.
use Rattle.std.proofs.Common.{◌≡◌, ℕ, List, length, Ok, sym, ap, ◌∙◌}
use Rattle.rollout_rules.specs.Items.{item_count}
use Rattle.rollout_rules.specs.Wan.{Rollout}
use Rattle.wan_edge.specs.Ports.{PortTrace}
use Rattle.disk_model.specs.Traces.{DiskTrace}
use Rattle.switch_ports.specs.Berths.{FleetPorts}
use Rattle.fence_takeover.specs.Beginnings.{Begins}
use Rattle.fence_takeover.proofs.Starts.{taken-long}

pub taken-count : {P D : Type 0} (tell : P → PortTrace) (trace : D → DiskTrace) (r : Rollout) (migration limit room : ℕ) (before now : FleetPorts P) (old new : D) (taken : Rollout × List ℕ) → Begins (Ok taken) tell trace r migration limit room before now old new
    → length taken.1 ≡ item_count taken.0.problem
taken-count tell trace r migration limit room before now old new taken begins =
    let places = begins.begins.tries.places in
    ap (λ (xs : List ℕ). length xs) places.own ∙ taken-long tell r migration limit before now begins.start begins.fenced ∙ sym (ap (λ (x : Rollout). item_count x.problem) places.same)
