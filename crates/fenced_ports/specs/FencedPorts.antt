-- A port of one term: what it tells as a port without terms, and how that is tied to the port behind it.
use Rattle.std.specs.Prelude.{◌≡◌, ℕ, ◌+◌, Bool, true, false, List, [], ◌∷◌, ◌++◌, take, Option, None, Some, IsTrue}
use Rattle.wan_edge.specs.Ports.{PortTrace}
use Rattle.wan_edge.specs.Switches.{holding_nothing}
use Rattle.fenced_ports.specs.Framing.{IsFramed}
use Rattle.fenced_ports.specs.Sieves.{Sifting, Sifts, first_sifting}

-- The port behind it, now and as it was handed over; the term; what was made of the bytes heard; of the commands offered the one that hasn't ended, and
-- whether all before it are commands; whether a call has failed, after which all others do; all bytes that were offered; how often nothing was there,
-- how often it was looked at too early, and how often a call has failed.
pub record Fenced (P : Type 0) : Type 0 where
  pub port : P
  pub begun : P
  pub term : ℕ
  pub sifting : Sifting
  pub kept : List ℕ
  pub live : Bool
  pub down : Bool
  pub offered : List ℕ
  pub quiet : ℕ
  pub waits : ℕ
  pub faults : ℕ

-- it knows nothing of what its switch holds
abbrev pub told_with : List ℕ → List ℕ → ℕ → ℕ → ℕ → PortTrace
told_with offered heard quiet waits faults = record {
  offered = Some offered;
  heard = Some heard;
  held = None;
  quiet = Some quiet;
  waits = Some waits;
  faults = faults;
  honest = false;
  prompt = false;
  start = holding_nothing;
}

abbrev pub told_of : {P : Type 0} → Fenced P → PortTrace
told_of f = told_with f.offered f.sifting.plain f.quiet f.waits f.faults

-- before the first call
abbrev pub first_fenced : {P : Type 0} → P → ℕ → Fenced P
first_fenced port term = record {
  port = port;
  begun = port;
  term = term;
  sifting = first_sifting;
  kept = [];
  live = true;
  down = false;
  offered = [];
  quiet = 0;
  waits = 0;
  faults = 0;
}

-- From the moment on at which the port behind it was handed over, what it heard is what was sifted, and what went out are the commands offered, each with
-- the term in front.
pub record IsFenced (begun now : PortTrace) (term : ℕ) (sifting : Sifting) (kept : List ℕ) (live down : Bool) (offered : List ℕ) : Type 0 where
  pub sifts : Sifts term begun.heard first_sifting now.heard sifting
  pub framed : IsFramed term begun.offered now.offered offered kept down
  pub whole : down ≡ false → sifting.broken ≡ false
  pub ready : down ≡ false → IsTrue live

-- ---- calls

-- It is a port for the term for which it was made, over the port over which it was made.
abbrev pub IsSame : {P : Type 0} → Fenced P → Fenced P → Type 0
IsSame before now = (now.term ≡ before.term) × (now.begun ≡ before.begun)

-- These bytes were offered, and nothing else has changed of what it tells.
pub record OffersAll {P : Type 0} (bytes : List ℕ) (before now : Fenced P) : Type 0 where
  pub offered : now.offered ≡ before.offered ++ bytes
  pub heard : now.sifting.plain ≡ before.sifting.plain
  pub quiet : now.quiet ≡ before.quiet
  pub waits : now.waits ≡ before.waits
  pub faults : now.faults ≡ before.faults
  pub term : now.term ≡ before.term
  pub begun : now.begun ≡ before.begun

-- A call failed, and the port is down: bytes from the front of these may have gone out, and nothing was heard.
pub record Fails {P : Type 0} (sent : List ℕ) (before now : Fenced P) : Type 0 where
  pub offered : now.offered ≡ before.offered ++ sent
  pub heard : now.sifting.plain ≡ before.sifting.plain
  pub quiet : now.quiet ≡ before.quiet
  pub waits : now.waits ≡ before.waits
  pub faults : now.faults ≡ before.faults + 1
  pub term : now.term ≡ before.term
  pub begun : now.begun ≡ before.begun
  pub down : now.down ≡ true

-- The same, where nothing was to go out.
pub record FailsAtOnce {P : Type 0} (before now : Fenced P) : Type 0 where
  pub offered : now.offered ≡ before.offered
  pub heard : now.sifting.plain ≡ before.sifting.plain
  pub quiet : now.quiet ≡ before.quiet
  pub waits : now.waits ≡ before.waits
  pub faults : now.faults ≡ before.faults + 1
  pub term : now.term ≡ before.term
  pub begun : now.begun ≡ before.begun
  pub down : now.down ≡ true

-- A byte was heard.
pub record HearsPlain {P : Type 0} (byte : ℕ) (before now : Fenced P) : Type 0 where
  pub offered : now.offered ≡ before.offered
  pub heard : now.sifting.plain ≡ before.sifting.plain ++ byte ∷ []
  pub quiet : now.quiet ≡ before.quiet
  pub waits : now.waits ≡ before.waits
  pub faults : now.faults ≡ before.faults
  pub term : now.term ≡ before.term
  pub begun : now.begun ≡ before.begun

-- Nothing was.
pub record HearsNone {P : Type 0} (before now : Fenced P) : Type 0 where
  pub offered : now.offered ≡ before.offered
  pub heard : now.sifting.plain ≡ before.sifting.plain
  pub quiet : now.quiet ≡ before.quiet + 1
  pub waits : now.waits ≡ before.waits
  pub faults : now.faults ≡ before.faults
  pub term : now.term ≡ before.term
  pub begun : now.begun ≡ before.begun

abbrev pub HearsIf : {P : Type 0} → Option ℕ → Fenced P → Fenced P → Type 0
HearsIf (Some byte) before now = HearsPlain byte before now
HearsIf None before now = HearsNone before now

-- what was found was given, at the front of these bytes: so many
abbrev pub IsGiven : Option ℕ → ℕ → List ℕ → Type 0
IsGiven (Some byte) count into = (count ≡ 1) × (take 1 into ≡ byte ∷ [])
IsGiven None count into = count ≡ 0
