-- The ports of a fleet, and berths, each a switch with the port to it.
use Rattle.std.specs.Prelude.{◌≡◌, ℕ, ◌==◌, Bool, true, false, List, [], ◌∷◌, map, Option, Some}
use Rattle.std.specs.List.{AllByRecursion}
use Rattle.std.specs.Option.{option_map}
use Rattle.rollout_rules.specs.Wan.{Problem, switch_at}
use Rattle.wan_edge.specs.Fleets.{FleetTrace, marked, with_one, without}
use Rattle.switch_ports.specs.declared.ports.Berth.{Berth}

-- the ports that wait for their switches, where they are told; those that were given back; of which switches the port is lent; and the name under which
-- the port of each switch waits, or by which it was last given
pub record FleetPorts (P : Type 0) : Type 0 where
  pub waiting : Option (ℕ → Option P)
  pub kept : ℕ → Option P
  pub lent : ℕ → Bool
  pub named : ℕ → Option (List ℕ)

abbrev pub switches_of : {P : Type 0} → List (Berth P) → List ℕ
switches_of berths = map (λ b. b.switch) berths

-- what stands at each number, those at these numbers taken away
abbrev pub without_each : {X : Type 0} → (ℕ → Option X) → List ℕ → ℕ → Option X
without_each places [] = places
without_each places (n ∷ ns) = without (without_each places ns) n

-- the marks at each number, with this mark at these
abbrev pub marked_each : (ℕ → Bool) → List ℕ → Bool → ℕ → Bool
marked_each marks [] mark = marks
marked_each marks (n ∷ ns) mark = marked (marked_each marks ns mark) n mark

-- the name that a problem has for a switch
abbrev pub own_name : Problem → ℕ → List ℕ
own_name p switch = (switch_at p switch).name

-- the names at each number, with those that a problem has for these
abbrev pub named_each : (ℕ → Option (List ℕ)) → Problem → List ℕ → ℕ → Option (List ℕ)
named_each names p [] = names
named_each names p (n ∷ ns) = with_one (named_each names p ns) n (own_name p n)

-- each of these switches has the name that a problem has for it
abbrev pub AreNamed : (ℕ → Option (List ℕ)) → Problem → List ℕ → Type 0
AreNamed names p switches = AllByRecursion (λ n. names n ≡ Some (own_name p n)) switches

-- what stands at each number, with the ports of these berths at their switches
abbrev pub with_each : {P : Type 0} → (ℕ → Option P) → List (Berth P) → ℕ → Option P
with_each places [] = places
with_each places (b ∷ bs) = with_one (with_each places bs) b.switch b.port

-- the ports of these switches are lent, each by the name that a problem has for it: they wait no more, and are not among those given back
abbrev pub after_opening : {P : Type 0} → FleetPorts P → Problem → List ℕ → FleetPorts P
after_opening ports p switches = record {
  waiting = option_map (λ waiting. without_each waiting switches) ports.waiting;
  kept = without_each ports.kept switches;
  lent = marked_each ports.lent switches true;
  named = named_each ports.named p switches;
}

-- the ports of these berths are given back, and wait again
abbrev pub after_keeping : {P : Type 0} → FleetPorts P → List (Berth P) → FleetPorts P
after_keeping ports berths = record {
  waiting = option_map (λ waiting. with_each waiting berths) ports.waiting;
  kept = with_each ports.kept berths;
  lent = marked_each ports.lent (switches_of berths) false;
  named = ports.named;
}

-- what a fleet tells of its ports
abbrev pub ports_of : {P G : Type 0} → FleetTrace P G → FleetPorts P
ports_of fleet = record { waiting = fleet.waiting; kept = fleet.kept; lent = fleet.lent; named = fleet.named }

-- no two berths are of one switch
abbrev pub AreApart : {P : Type 0} → List (Berth P) → Type 0
AreApart [] = Unit {0}
AreApart (b ∷ bs) = AllByRecursion (λ c. (b.switch == c.switch) ≡ false) bs × AreApart bs

-- the port of each berth's switch is lent
abbrev pub AreLent : {P : Type 0} → (ℕ → Bool) → List (Berth P) → Type 0
AreLent lent berths = AllByRecursion (λ b. lent b.switch ≡ true) berths
