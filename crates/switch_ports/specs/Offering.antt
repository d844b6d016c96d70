-- What goes out to the ports in a round.
use Rattle.std.specs.Prelude.{◌≡◌, ℕ, List, length}
use Rattle.wan_edge.specs.Frames.{Command}
use Rattle.wan_edge.specs.Ports.{AppendsFront, GoesOn}
use Rattle.wan_edge.specs.Streams.{Appends, Rose}
use Rattle.port_session.specs.Offers.{frames_of}
use Rattle.port_session.specs.Sessions.{awaited_behind}
use Rattle.shared_book.specs.declared.note.Cause.{Cause}
use Rattle.shared_book.specs.declared.note.Cause.TheVariants as cause
use Rattle.switch_ports.specs.Views.{SessionTrace}

-- The bytes of these commands went out to a port, or a front of them, and nothing was heard.
pub record Offers (migration : ℕ) (commands : List Command) (before now : SessionTrace) : Type 0 where
  pub switch : now.switch ≡ before.switch
  pub goes_on : GoesOn before.port now.port
  pub part : AppendsFront before.port.offered (frames_of migration commands) now.port.offered
  pub unheard : now.port.heard ≡ before.port.heard
  pub no_hear : now.port.quiet ≡ before.port.quiet
  pub kept : now.stream.kept ≡ before.stream.kept
  pub live : now.stream.live ≡ before.stream.live

-- All of them went out, and as many answers are awaited; where there was none, as many as before.
pub record OffersAll (migration : ℕ) (commands : List Command) (before now : SessionTrace) : Type 0 where
  pub some : Offers migration commands before now
  pub all : Appends before.port.offered (frames_of migration commands) now.port.offered
  pub awaits : now.stream.awaited ≡ awaited_behind before.stream.awaited (length commands)

-- Why offering at a port stops a worker: the port failed, and its count rose, or memory ran out.
abbrev pub IsOfferCause : Cause → SessionTrace → SessionTrace → Type 0
IsOfferCause (cause.Spent rounds item number) before now = ⊥
IsOfferCause (cause.Port switch) before now = (switch ≡ before.switch) × Rose before.port.faults now.port.faults
IsOfferCause (cause.Above item held begun) before now = ⊥
IsOfferCause (cause.NotMine switch item) before now = ⊥
IsOfferCause (cause.NoAnswer switch byte) before now = ⊥
IsOfferCause cause.Disk before now = ⊥
IsOfferCause cause.Memory before now = Unit {0}
