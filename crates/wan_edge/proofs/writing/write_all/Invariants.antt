use Rattle.std.proofs.Common.{◌≡◌, ◌≤◌, ◌-◌, length, take}
use Rattle.wan_edge.specs.Streams.{Appends, SinkSteps}
use Rattle.wan_edge.proofs.writing.write_all.Given as goal

abbrev pub invariant-loop-done : goal.invariant-loop-done
invariant-loop-done g l = record {
  within : l.done ≤ length l.bytes;
  appended : Appends (g.K.Sink.told l.fn.sink).written (take l.done l.bytes) (g.K.Sink.told l.sink).written;
  apart : g.K.Sink.as_source l.sink ≡ g.K.Sink.as_source l.fn.sink;
  step : SinkSteps (g.K.Sink.told l.fn.sink) (g.K.Sink.told l.sink);
}

abbrev pub decreases-loop-done : goal.decreases-loop-done
decreases-loop-done g l = length l.bytes - l.done
