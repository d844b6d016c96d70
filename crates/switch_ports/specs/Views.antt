-- What a worker sees of a port.
use Rattle.std.specs.Prelude.{ℕ}
use Rattle.wan_edge.specs.Ports.{PortTrace}
use Rattle.port_session.specs.Reading.{Stream}
use Rattle.port_session.specs.Sessions.{SessionView}

-- its switch, what it tells, and where the worker stands in its answers
pub record SessionTrace : Type 0 where
  pub switch : ℕ
  pub port : PortTrace
  pub stream : Stream

abbrev pub view : {P : Type 0} → (P → PortTrace) → SessionView P → SessionTrace
view tell talk = record { switch = talk.switch; port = tell talk.port; stream = talk.stream }
