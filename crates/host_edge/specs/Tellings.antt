-- What a port over sockets tells, which never fails, and knows nothing of what its switch holds.
use Rattle.std.specs.Prelude.{ℕ, List, None, Some, false}
use Rattle.wan_edge.specs.Ports.{PortTrace}
use Rattle.wan_edge.specs.Switches.{holding_nothing}

-- with what was offered and heard, how often nothing came in time, and how often it was looked at too early
abbrev pub told_with : List ℕ → List ℕ → ℕ → ℕ → PortTrace
told_with offered heard quiet waits = record {
  offered = Some offered;
  heard = Some heard;
  held = None;
  quiet = Some quiet;
  waits = Some waits;
  faults = 0;
  honest = false;
  prompt = false;
  start = holding_nothing;
}
