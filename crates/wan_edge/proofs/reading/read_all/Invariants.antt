use Rattle.std.proofs.Common.{◌≡◌, ◌<◌, ◌+◌, length}
use Rattle.wan_edge.specs.Streams.{SourceSteps, Takes}
use Rattle.wan_edge.proofs.reading.read_all.Given as goal

abbrev pub invariant-loop-room : goal.invariant-loop-room
invariant-loop-room g l = record {
  some : 0 < length l.buffer.items;
  counted : length l.bytes + l.room ≡ l.most + 1;
  taken : Takes l.bytes (g.S.Source.told l.fn.source) (g.S.Source.told l.source);
  apart : g.S.Source.as_sink l.source ≡ g.S.Source.as_sink l.fn.source;
  step : SourceSteps (g.S.Source.told l.fn.source) (g.S.Source.told l.source);
}

abbrev pub decreases-loop-room : goal.decreases-loop-room
decreases-loop-room g l = l.room
