-- What becomes of a fleet's ports where those of some switches are opened.
use Rattle.std.specs.Prelude.{◌≡◌, ℕ, false, List, ◌∷◌, ◌++◌, Option, None, Some, IfSome}
use Rattle.std.specs.List.{AllByRecursion}
use Rattle.rollout_rules.specs.Wan.{Problem}
use Rattle.wan_edge.specs.Ports.{IsNew, PortTrace}
use Rattle.switch_ports.specs.declared.ports.Berth.{Berth}
use Rattle.switch_ports.specs.Berths.{FleetPorts, after_opening, marked_each, named_each, own_name, switches_of, with_each}
use Rattle.switch_ports.specs.declared.opening.NotOpened.{NotOpened}
use Rattle.switch_ports.specs.declared.opening.NotOpened.TheVariants as why

-- The port is the one that waited for the switch. Where it is not told what waits, it is new.
abbrev pub IsGiven : {P : Type 0} → (P → PortTrace) → Option (ℕ → Option P) → Berth P → Type 0
IsGiven tell None berth = IsNew (tell berth.port)
IsGiven tell (Some waiting) berth = waiting berth.switch ≡ Some berth.port

abbrev pub AreGiven : {P : Type 0} → (P → PortTrace) → Option (ℕ → Option P) → List (Berth P) → Type 0
AreGiven tell waiting berths = AllByRecursion (IsGiven tell waiting) berths

-- The ports of these switches were given, in this order, each by the name that a problem has for it, and are lent.
pub record Opens {P : Type 0} (tell : P → PortTrace) (p : Problem) (homes : List ℕ) (before : FleetPorts P) (berths : List (Berth P)) (now : FleetPorts P) : Type 0 where
  pub switches : switches_of berths ≡ homes
  pub given : AreGiven tell before.waiting berths
  pub ports : now ≡ after_opening before p homes

-- The fleet has no port for this one of the switches by its name. Those of the switches before it were given, and are lent.
pub record OpensUntil {P : Type 0} (tell : P → PortTrace) (p : Problem) (homes : List ℕ) (switch : ℕ) (before : FleetPorts P) (berths : List (Berth P)) (now : FleetPorts P) : Type 0 where
  pub earlier : List ℕ
  pub later : List ℕ
  pub among : homes ≡ earlier ++ switch ∷ later
  pub opens : Opens tell p earlier before berths now
  pub none_waits : IfSome before.waiting (λ waiting. before.named switch ≡ Some (own_name p switch) → waiting switch ≡ None)

-- The ports of these switches were given by their names and given back, each as it was: what waits is as it was.
pub record GivesBack {P : Type 0} (tell : P → PortTrace) (p : Problem) (homes : List ℕ) (before now : FleetPorts P) : Type 0 where
  pub berths : List (Berth P)
  pub switches : switches_of berths ≡ homes
  pub given : AreGiven tell before.waiting berths
  pub waiting : now.waiting ≡ before.waiting
  pub kept : now.kept ≡ with_each before.kept berths
  pub lent : now.lent ≡ marked_each before.lent homes false
  pub named : now.named ≡ named_each before.named p homes

-- The fleet has no port for this one of the switches by its name. Those before it were opened and given back.
pub record StopsAt {P : Type 0} (tell : P → PortTrace) (p : Problem) (homes : List ℕ) (switch : ℕ) (before now : FleetPorts P) : Type 0 where
  pub earlier : List ℕ
  pub later : List ℕ
  pub among : homes ≡ earlier ++ switch ∷ later
  pub given_back : GivesBack tell p earlier before now
  pub none_waits : IfSome before.waiting (λ waiting. before.named switch ≡ Some (own_name p switch) → waiting switch ≡ None)

-- Why no ports were opened, and what it left: memory was wanted before the first was asked for.
abbrev pub Refuses : {P : Type 0} → (P → PortTrace) → Problem → List ℕ → NotOpened → FleetPorts P → FleetPorts P → Type 0
Refuses tell p homes (why.NoPort switch) before now = StopsAt tell p homes switch before now
Refuses tell p homes why.Memory before now = now ≡ before
