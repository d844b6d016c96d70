-- Runs without a fault.
use Rattle.std.specs.Prelude.{◌≡◌, ⊤, ℕ, List, Option, Some}
use Rattle.std.specs.List.{Contains}
use Rattle.wan_edge.specs.Ports.{PortTrace}
use Rattle.wan_edge.specs.Streams.{Rose}
use Rattle.port_session.specs.Sessions.{SessionView}
use Rattle.shared_book.specs.declared.note.Cause.{Cause}
use Rattle.shared_book.specs.declared.note.Cause.TheVariants as cause

-- No count of faults has risen: the disk, of which this says that it failed, has not, and no port that was opened has, from then to how it is kept.
pub record IsWithoutFault {P : Type 0} (tell : P → PortTrace) (failed : Type 0) (opened : List (SessionView P)) (kept : ℕ → Option P) : Type 0 where
  pub disk : failed → ⊥
  pub ports : (t : SessionView P) → Contains opened t → (now : P) → kept t.switch ≡ Some now → Rose (tell t.port).faults (tell now).faults → ⊥

-- a cause that is no failure of the disk or of a port
abbrev pub IsNoFault : Cause → Type 0
IsNoFault (cause.Spent given item number) = ⊤
IsNoFault (cause.Port switch) = ⊥
IsNoFault (cause.Above item held begun) = ⊤
IsNoFault (cause.NotMine switch item) = ⊤
IsNoFault (cause.NoAnswer switch byte) = ⊤
IsNoFault cause.Disk = ⊥
IsNoFault cause.Memory = ⊤

-- what may stop a worker whose ports answer all: lack of memory, or a failure of the disk or of a port
abbrev pub IsExcused : Cause → Type 0
IsExcused (cause.Spent given item number) = ⊥
IsExcused (cause.Port switch) = ⊤
IsExcused (cause.Above item held begun) = ⊥
IsExcused (cause.NotMine switch item) = ⊥
IsExcused (cause.NoAnswer switch byte) = ⊥
IsExcused cause.Disk = ⊤
IsExcused cause.Memory = ⊤
