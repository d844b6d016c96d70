-- The switches that are asked, one after the other: the port of each is given by the fleet, talked over, and given back.
use Rattle.std.specs.Prelude.{◌≡◌, ◌⊎◌, ℕ, ◌<◌, ◌≤◌, false, true, List, [], ◌∷◌, length, map, None, Option, Some, IfSome, Result, Ok, Err}
use Rattle.rollout_rules.specs.Wan.{Plan, Problem}
use Rattle.wan_edge.specs.Ports.{PortTrace}
use Rattle.switch_ports.specs.Berths.{FleetPorts, after_keeping, after_opening, own_name}
use Rattle.switch_ports.specs.Opening.{IsGiven}
use Rattle.switch_ports.specs.declared.ports.Berth.{Berth}
use Rattle.held_service.specs.Noting.{Notes, no_notes, untold, with_answers}
use Rattle.held_service.specs.Questions.{asked_homes, asked_switches, has_items, items_at}
use Rattle.held_service.specs.Talks.{IsNotTold, IsTold, LeavesHeld, Round, Talks, answers_of}
use Rattle.held_service.specs.declared.not_told.NotTold.{NotTold}
use Rattle.held_service.specs.declared.not_told.NotTold.TheVariants as cause

-- a port at a switch
abbrev pub berth : {P : Type 0} → ℕ → P → Berth P
berth switch port = record { switch = switch; port = port }

-- the ports of a fleet, once that of a switch was given by the problem's name for it, and this one given back in its place
abbrev pub after_visit : {P : Type 0} → FleetPorts P → Problem → ℕ → P → FleetPorts P
after_visit ports p switch back = after_keeping (after_opening ports p (switch ∷ [])) (berth switch back ∷ [])

-- ---- one switch

-- A port that was lent was talked over, and given back.
pub record Keeps {P : Type 0} (tell : P → PortTrace) (switch : ℕ) (Ends : PortTrace → PortTrace → Type 0) (given : P) (before now : FleetPorts P) : Type 0 where
  pub back : P
  pub ends : Ends (tell given) (tell back)
  pub kept : now ≡ after_keeping before (berth switch back ∷ [])

-- The port of a switch was given by the problem's name for it, talked over, and given back.
pub record Comes {P : Type 0} (tell : P → PortTrace) (p : Problem) (switch : ℕ) (Ends : PortTrace → PortTrace → Type 0) (before now : FleetPorts P) : Type 0 where
  pub given : P
  pub is_given : IsGiven tell before.waiting (berth switch given)
  pub back : P
  pub ends : Ends (tell given) (tell back)
  pub kept : now ≡ after_visit before p switch back

-- The fleet has no port for a switch by its name, and is as it was.
pub record LacksPort {P : Type 0} (p : Problem) (switch : ℕ) (why : NotTold) (before now : FleetPorts P) : Type 0 where
  pub why_is : why ≡ cause.NoPort switch
  pub now_is : now ≡ before
  pub none_waits : IfSome before.waiting (λ waiting. before.named switch ≡ Some (own_name p switch) → waiting switch ≡ None)

-- a switch told of all the items, or ended the talk
abbrev pub TellsAt : {P : Type 0} → (P → PortTrace) → Problem → List (Option ℕ) → ℕ → List ℕ → Notes → ℕ → ℕ → FleetPorts P → Notes → FleetPorts P → Type 0
TellsAt tell p homes switch items notes migration limit before notes_now now = Comes tell p switch (λ a b. IsTold homes switch items notes migration limit a notes_now b × LeavesHeld a b) before now

abbrev pub FailsAt : {P : Type 0} → (P → PortTrace) → Problem → List (Option ℕ) → ℕ → List ℕ → Notes → ℕ → ℕ → NotTold → FleetPorts P → FleetPorts P → Type 0
FailsAt tell p homes switch items notes migration limit why before now =
    LacksPort p switch why before now ⊎ Comes tell p switch (λ a b. IsNotTold homes switch items notes migration limit why a b × LeavesHeld a b) before now

abbrev pub Visits : {P U : Type 0} → Result U NotTold → (P → PortTrace) → Problem → List (Option ℕ) → ℕ → List ℕ → Notes → ℕ → ℕ → FleetPorts P → Notes → FleetPorts P → Type 0
Visits (Ok u) tell p homes switch items notes migration limit before notes_now now = TellsAt tell p homes switch items notes migration limit before notes_now now
Visits (Err why) tell p homes switch items notes migration limit before notes_now now = FailsAt tell p homes switch items notes migration limit why before now

-- ---- switch by switch

-- A switch that is asked about no item is passed by.
pub record PassesBy {P : Type 0} (homes : List (Option ℕ)) (switch : ℕ) (notes : Notes) (before : FleetPorts P) (notes_now : Notes) (now : FleetPorts P) : Type 0 where
  pub none : has_items homes switch ≡ false
  pub notes_are : notes_now ≡ notes
  pub now_is : now ≡ before

-- There was no memory for the items of a switch, and nothing was asked for.
pub record WantsMemory {P : Type 0} (why : NotTold) (before now : FleetPorts P) : Type 0 where
  pub why_is : why ≡ cause.Memory
  pub now_is : now ≡ before

-- a switch is asked about some item, and this comes of it
abbrev pub IfAsked : List (Option ℕ) → ℕ → Type 0 → Type 0
IfAsked homes switch Comes = (has_items homes switch ≡ true) × Comes

-- what becomes of one switch
abbrev pub TellsOne : {P : Type 0} → (P → PortTrace) → Problem → List (Option ℕ) → ℕ → Notes → ℕ → ℕ → FleetPorts P → Notes → FleetPorts P → Type 0
TellsOne tell p homes switch notes migration limit before notes_now now =
    PassesBy homes switch notes before notes_now now ⊎ IfAsked homes switch (TellsAt tell p homes switch (items_at homes switch) notes migration limit before notes_now now)

abbrev pub FailsOne : {P : Type 0} → (P → PortTrace) → Problem → List (Option ℕ) → ℕ → Notes → ℕ → ℕ → NotTold → FleetPorts P → FleetPorts P → Type 0
FailsOne tell p homes switch notes migration limit why before now =
    WantsMemory why before now ⊎ IfAsked homes switch (FailsAt tell p homes switch (items_at homes switch) notes migration limit why before now)

abbrev pub AsksOne : {P U : Type 0} → Result U NotTold → (P → PortTrace) → Problem → List (Option ℕ) → ℕ → Notes → ℕ → ℕ → FleetPorts P → Notes → FleetPorts P → Type 0
AsksOne (Ok u) tell p homes switch notes migration limit before notes_now now = TellsOne tell p homes switch notes migration limit before notes_now now
AsksOne (Err why) tell p homes switch notes migration limit before notes_now now = FailsOne tell p homes switch notes migration limit why before now

-- a visit that told all: the switch, its port as it was given and as it was given back, and the rounds between
pub record Visit (P : Type 0) : Type 0 where
  pub switch : ℕ
  pub given : P
  pub back : P
  pub rounds : List Round

pub record IsVisit {P : Type 0} (tell : P → PortTrace) (homes : List (Option ℕ)) (migration limit : ℕ) (ports : FleetPorts P) (notes : Notes) (v : Visit P) : Type 0 where
  -- the port is the one that waited for the switch, or a new one
  pub is_given : IsGiven tell ports.waiting (berth v.switch v.given)
  -- what went out are questions about the items of the switch that weren't told yet, and what came are answers about these
  pub kept : List ℕ
  pub talks : Talks migration homes v.switch (items_at homes v.switch) notes v.rounds (tell v.given) kept (with_answers notes (answers_of v.rounds)) (tell v.back)
  -- in no more rounds than there may be each of the items was told
  pub within : length v.rounds ≤ limit
  pub all : untold (with_answers notes (answers_of v.rounds)) (items_at homes v.switch) ≡ []
  -- and the switch holds what it held
  pub still : LeavesHeld (tell v.given) (tell v.back)

-- visits in a row, and what they make of a fleet's ports and of the notes
abbrev pub AreVisits : {P : Type 0} → (P → PortTrace) → Problem → List (Option ℕ) → ℕ → ℕ → FleetPorts P → Notes → List (Visit P) → FleetPorts P → Notes → Type 0
AreVisits tell p homes migration limit ports notes [] ports_now notes_now = (ports_now ≡ ports) × (notes_now ≡ notes)
AreVisits tell p homes migration limit ports notes (v ∷ vs) ports_now notes_now =
    IsVisit tell homes migration limit ports notes v × AreVisits tell p homes migration limit (after_visit ports p v.switch v.back) (with_answers notes (answers_of v.rounds)) vs ports_now notes_now

-- Of so many switches each that is asked about an item was visited, from number 0 up, and told all.
pub record TellsBelow {P : Type 0} (tell : P → PortTrace) (p : Problem) (homes : List (Option ℕ)) (migration limit count : ℕ) (before now : FleetPorts P) (notes_now : Notes) : Type 0 where
  pub visits : List (Visit P)
  pub switches : map (λ v. v.switch) visits ≡ asked_switches homes count
  pub each : AreVisits tell p homes migration limit before (no_notes (length homes)) visits now notes_now

-- Those before this one of the switches told all, and then it ended so.
pub record StopsAt {P : Type 0} (tell : P → PortTrace) (p : Problem) (homes : List (Option ℕ)) (migration limit : ℕ) (why : NotTold) (before now : FleetPorts P) : Type 0 where
  pub switch : ℕ
  pub inside : switch < length p.switches
  pub moment : FleetPorts P
  pub notes : Notes
  pub earlier : TellsBelow tell p homes migration limit switch before moment notes
  pub stops : FailsOne tell p homes switch notes migration limit why moment now

abbrev pub AsksEach : {P U : Type 0} → Result U NotTold → (P → PortTrace) → Problem → List (Option ℕ) → ℕ → ℕ → FleetPorts P → Notes → FleetPorts P → Type 0
AsksEach (Ok u) tell p homes migration limit before notes_now now = TellsBelow tell p homes migration limit (length p.switches) before now notes_now
AsksEach (Err why) tell p homes migration limit before notes_now now = StopsAt tell p homes migration limit why before now

-- ---- a rollout

-- All switches at which a rollout has work told of the items that have an operation, and this is noted of them.
abbrev pub TellsAll : {P : Type 0} → (P → PortTrace) → Problem → Plan → ℕ → ℕ → FleetPorts P → FleetPorts P → Notes → Type 0
TellsAll tell p plan migration limit before now notes = TellsBelow tell p (asked_homes p plan) migration limit (length p.switches) before now notes

-- There was no memory before the first switch was asked, or for the text after the last one.
pub record WantsText {P : Type 0} (tell : P → PortTrace) (p : Problem) (plan : Plan) (migration limit : ℕ) (why : NotTold) (before now : FleetPorts P) : Type 0 where
  pub why_is : why ≡ cause.Memory
  pub notes : Notes
  pub tells : TellsAll tell p plan migration limit before now notes

abbrev pub Fails : {P : Type 0} → (P → PortTrace) → Problem → Plan → ℕ → ℕ → NotTold → FleetPorts P → FleetPorts P → Type 0
Fails tell p plan migration limit why before now = WantsMemory why before now ⊎ (WantsText tell p plan migration limit why before now ⊎ StopsAt tell p (asked_homes p plan) migration limit why before now)
