-- Ports by the number of their switch, and guests in a row: what a fleet gives, and takes back.
use Rattle.std.specs.Prelude.{◌≡◌, ℕ, ◌<◌, ◌==◌, List, [], ◌∷◌, length, Bool, Option, Some, None, IfSome, if◌then◌else◌}
use Rattle.wan_edge.specs.Ports.{IsNew, PortTrace}
use Rattle.wan_edge.specs.Streams.{SinkTrace, SourceTrace}
use Rattle.wan_edge.specs.declared.waited.Waited.{Waited}
use Rattle.wan_edge.specs.declared.waited.Waited.TheVariants.{Came, NoMore, Seat}

-- All that a fleet tells: the port that stands ready for each switch, and the guests still to be given, in order, each where they are told; the ports given
-- back, by switch, and the guests given back, in order; whether the port of a switch was given and not given back; the name under which the port of a switch
-- waits, where that is told, or by which it was last given; how many guests were given and not given back; and how often a call has failed.
pub record FleetTrace (P G : Type 0) : Type 0 where
  pub waiting : Option (ℕ → Option P)
  pub coming : Option (List G)
  pub kept : ℕ → Option P
  pub served : List G
  pub lent : ℕ → Bool
  pub named : ℕ → Option (List ℕ)
  pub visiting : ℕ
  pub faults : ℕ

-- of its guests all is as it was
abbrev pub GuestsStay : {P G : Type 0} → FleetTrace P G → FleetTrace P G → Type 0
GuestsStay before now = (now.coming ≡ before.coming) × (now.served ≡ before.served) × (now.visiting ≡ before.visiting)

-- of its ports all is as it was
abbrev pub PortsStay : {P G : Type 0} → FleetTrace P G → FleetTrace P G → Type 0
PortsStay before now = (now.waiting ≡ before.waiting) × (now.kept ≡ before.kept) × (now.lent ≡ before.lent) × (now.named ≡ before.named)

-- what stands at each number, the one at this number taken away
abbrev pub without : {X : Type 0} → (ℕ → Option X) → ℕ → ℕ → Option X
without places number = λ n. if n == number then None else places n

-- the same with this one put there
abbrev pub with_one : {X : Type 0} → (ℕ → Option X) → ℕ → X → ℕ → Option X
with_one places number x = λ n. if n == number then Some x else places n

-- the marks at each number, with this mark at this one
abbrev pub marked : (ℕ → Bool) → ℕ → Bool → ℕ → Bool
marked marks number mark = λ n. if n == number then mark else marks n

-- The port given is the one that waited for the switch, which waits no more. Where it is not told what waits, the port is new.
abbrev pub GivesPort : {P : Type 0} → (P → PortTrace) → Option (ℕ → Option P) → ℕ → P → Option (ℕ → Option P) → Type 0
GivesPort tell None switch port now = (now ≡ None) × IsNew (tell port)
GivesPort tell (Some waiting) switch port now = (waiting switch ≡ Some port) × (now ≡ Some (without waiting switch))

-- A new guest: it has not failed yet, neither as a source nor as a sink, and nothing was read of it or written to it, where that is told.
pub record IsNewGuest (source : SourceTrace) (sink : SinkTrace) : Type 0 where
  pub read_faults : source.faults ≡ 0
  pub write_faults : sink.faults ≡ 0
  pub taken : IfSome source.taken (λ bytes. bytes ≡ [])
  pub written : IfSome sink.written (λ bytes. bytes ≡ [])

-- The guest given is the first of those to come. Where these are not told, it is new.
abbrev pub GivesGuest : {G : Type 0} → (G → SourceTrace) → (G → SinkTrace) → Option (List G) → G → Option (List G) → Type 0
GivesGuest source sink None guest now = (now ≡ None) × IsNewGuest (source guest) (sink guest)
GivesGuest source sink (Some coming) guest now = (later : List _) × (coming ≡ guest ∷ later) × (now ≡ Some later)

-- What a wait may end with, where these are to come and these sit: a guest comes, whom the next call gives; something is there of the guest at this place;
-- or no more come, and nobody sits.
abbrev pub WaitsFor : {G : Type 0} → Option (List G) → List G → Waited → Type 0
WaitsFor coming seated Came = IfSome coming (λ guests. 0 < length guests)
WaitsFor coming seated (Seat place) = place < length seated
WaitsFor coming seated NoMore = (length seated ≡ 0) × IfSome coming (λ guests. length guests ≡ 0)
