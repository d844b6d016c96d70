-- What the outside objects of the call tell, and these objects at a moment.
use Rattle.std.specs.Prelude.{ℕ, List, Option}
use Rattle.disk_model.specs.Traces.{DiskTrace}
use Rattle.wan_edge.specs.Ports.{PortTrace}
use Rattle.wan_edge.specs.Streams.{SinkTrace, SourceTrace}
use Rattle.wan_edge.specs.Fleets.{FleetTrace}
use Rattle.agent_service.specs.Services.{Tells}
use Rattle.text_commands.specs.Program.{Streams}
use Rattle.text_commands.specs.Runs.{IsInput}

-- what each of the outside objects tells
pub record Views (S K D F P G : Type 0) : Type 1 where
  pub source : S → SourceTrace
  pub sink : K → SinkTrace
  pub disk : D → DiskTrace
  pub fleet : F → FleetTrace P G
  pub port : P → PortTrace
  pub guest : Tells G

-- what guests tell, as sources and as sinks
abbrev pub guest_told : {G : Type 0} → (G → SourceTrace) → (G → SinkTrace) → Tells G
guest_told source sink = record { source = source; sink = sink }

abbrev pub views_of : {S K D F P G : Type 0} → (S → SourceTrace) → (K → SinkTrace) → (D → DiskTrace) → (F → FleetTrace P G) → (P → PortTrace) → Tells G → Views S K D F P G
views_of source sink disk fleet port guest = record { source = source; sink = sink; disk = disk; fleet = fleet; port = port; guest = guest }

-- what a command may use
pub record Objects (S K D F : Type 0) : Type 0 where
  pub source : S
  pub sink : K
  pub disk : D
  pub fleet : F

abbrev pub objects : {S K D F : Type 0} → S → K → D → F → Objects S K D F
objects source sink disk fleet = record { source = source; sink = sink; disk = disk; fleet = fleet }

-- these, and the notes
pub record Outside (S K D F : Type 0) : Type 0 where
  pub source : S
  pub sink : K
  pub notes : K
  pub disk : D
  pub fleet : F

abbrev pub outside : {S K D F : Type 0} → S → K → K → D → F → Outside S K D F
outside source sink notes disk fleet = record { source = source; sink = sink; notes = notes; disk = disk; fleet = fleet }

abbrev pub used : {S K D F : Type 0} → Outside S K D F → Objects S K D F
used o = objects o.source o.sink o.disk o.fleet

-- these with another disk
abbrev pub over : {S K D F : Type 0} → D → Outside S K D F → Outside S K D F
over disk o = outside o.source o.sink o.notes disk o.fleet

-- what is told of the bytes read, written, noted and stored, and of faults
abbrev pub streams : {S K D F P G : Type 0} → Views S K D F P G → Outside S K D F → Streams
streams views o = record {
  source = views.source o.source;
  sink = views.sink o.sink;
  notes = views.sink o.notes;
  stored = (views.disk o.disk).bytes;
  disk_faults = (views.disk o.disk).faults;
  fleet_faults = (views.fleet o.fleet).faults;
}

-- what the source tells, and the bytes written to the sink
abbrev pub source_at : {S K D F P G : Type 0} → Views S K D F P G → Objects S K D F → SourceTrace
source_at views o = views.source o.source

abbrev pub written_at : {S K D F P G : Type 0} → Views S K D F P G → Objects S K D F → Option (List ℕ)
written_at views o = (views.sink o.sink).written

-- the bytes are what a command read between these moments
abbrev pub input_of : {S K D F P G : Type 0} → Views S K D F P G → Objects S K D F → Objects S K D F → List ℕ → Type 0
input_of views before after input = IsInput (source_at views before) (source_at views after) input
