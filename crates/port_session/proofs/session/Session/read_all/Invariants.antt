use Rattle.std.proofs.Common.{◌≡◌, None}
use Rattle.std.specs.Prelude.{IsTrue}
use Rattle.wan_edge.specs.Frames.{IsCutAnswer}
use Rattle.wan_edge.specs.Ports.{GoesOn}
use Rattle.port_session.specs.Sessions.{HearsAnswers, listening, missing}
use Rattle.port_session.specs.Standing.{EndsWith}
use Rattle.port_session.proofs.session.Session.read_all.Given as goal

abbrev pub invariant-loop-buffer : goal.invariant-loop-buffer
invariant-loop-buffer g l = record {
  live : IsTrue l.self-inside.stream.live;
  cut : IsCutAnswer l.self-inside.stream.kept;
  ends : EndsWith l.fn.self.stream.kept (g.T.Port.told l.fn.self.port).heard;
  hears : HearsAnswers l.migration (listening (g.T.Port.told l.fn.self.port).heard l.fn.self.stream l.fn.answers) None (listening (g.T.Port.told l.self-inside.port).heard l.self-inside.stream l.answers);
  quiet : (g.T.Port.told l.self-inside.port).quiet ≡ (g.T.Port.told l.fn.self.port).quiet;
  waits : (g.T.Port.told l.self-inside.port).waits ≡ (g.T.Port.told l.fn.self.port).waits;
  idle : l.fn.self.stream.awaited ≡ 0 → (l.self-inside.port ≡ l.fn.self.port) × (l.self-inside.stream ≡ l.fn.self.stream) × (l.answers ≡ l.fn.answers);
  switch : l.self-inside.switch ≡ l.fn.self.switch;
  port : GoesOn (g.T.Port.told l.fn.self.port) (g.T.Port.told l.self-inside.port);
  unsent : (g.T.Port.told l.self-inside.port).offered ≡ (g.T.Port.told l.fn.self.port).offered;
}

abbrev pub decreases-loop-buffer : goal.decreases-loop-buffer
decreases-loop-buffer g l = missing l.self-inside.stream
