-- What all switches hold together after a run, as one choice of how far each item has come.
use Rattle.std.specs.Prelude.{◌≡◌, ℕ, ◌==◌, List, ◌++◌, Option, Some, None, slice_index, if◌then◌else◌}
use Rattle.std.specs.List.{list_any}
use Rattle.rollout_rules.specs.Wan.{Rollout}
use Rattle.rollout_rules.specs.Agent.{Holding}
use Rattle.rollout_rules.specs.History.{History, settled}
use Rattle.wan_edge.specs.Ports.{PortTrace}
use Rattle.wan_edge.specs.Switches.{Holdings}
use Rattle.port_session.specs.Sessions.{first_session}
use Rattle.switch_ports.specs.Outboxes.{home_at}
use Rattle.switch_ports.specs.Views.{view}
use Rattle.switch_ports.specs.declared.ports.Berth.{Berth}
use Rattle.shared_book.specs.Homes.{homes_of}
use Rattle.switch_ports.specs.Berths.{FleetPorts}
use Rattle.switch_laws.specs.Runs.{StartsAsFound}
use Rattle.completion_laws.specs.Untold.{IsFoundWith, MayHold}

-- how far what a switch holds has brought an item in a migration: to its number, or, where an earlier migration left it, to where it was at the start
abbrev pub number_in : ℕ → ℕ → Holding → ℕ
number_in migration start holding = if holding.held.migration == migration then holding.held.number else start

-- how far an item has come by its home: to what the switch holds, or, where its home is none of these switches, to what the history found settles
abbrev pub chosen_by : ℕ → History → List ℕ → (ℕ → Holdings) → ℕ → Option ℕ → ℕ
chosen_by migration found switches holdings n None = settled found n
chosen_by migration found switches holdings n (Some switch) =
    if list_any (λ s. switch == s) switches then number_in migration (slice_index found.start n) (holdings switch n) else settled found n

-- the choice that all switches make which hold this
abbrev pub chosen : Rollout → ℕ → History → List ℕ → (ℕ → Holdings) → ℕ → ℕ
chosen r migration found switches holdings n = chosen_by migration found switches holdings n (home_at (homes_of r.problem) n)

-- The switch of this berth was right when the run began, and its port, which is back, tells what went over it and that the switch holds this.
pub record TellsHeld {P : Type 0} (tell : P → PortTrace) (r : Rollout) (migration : ℕ) (found : History) (now : FleetPorts P) (holdings : ℕ → Holdings) (berth : Berth P) : Type 0 where
  pub starts : StartsAsFound r migration (homes_of r.problem) found (view tell (first_session berth.switch berth.port))
  pub back : P
  pub kept : now.kept berth.switch ≡ Some back
  pub offered : List ℕ
  pub told_offered : (tell back).offered ≡ Some offered
  pub heard : List ℕ
  pub told_heard : (tell back).heard ≡ Some heard
  pub held : (tell back).held ≡ Some (holdings berth.switch)

-- The switch of this berth was right when the run began, and may hold this by the bytes that went out and came back.
pub record MayHoldNow {P : Type 0} (tell : P → PortTrace) (r : Rollout) (migration : ℕ) (found : History) (now : FleetPorts P) (holdings : ℕ → Holdings) (berth : Berth P) : Type 0 where
  pub back : P
  pub kept : now.kept berth.switch ≡ Some back
  pub offered : List ℕ
  pub told_offered : (tell back).offered ≡ Some offered
  pub heard : List ℕ
  pub told_heard : (tell back).heard ≡ Some heard
  pub earlier : List ℕ
  pub before : Holdings
  pub found_with : IsFoundWith r migration (homes_of r.problem) found (view tell (first_session berth.switch berth.port)) earlier before
  pub may : MayHold (earlier ++ offered) heard before (holdings berth.switch)
