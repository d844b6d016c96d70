-- A write for which there is no room yet appends nothing.
use Rattle.std.specs.Io.KnownBytes.{Keeps}
use Rattle.host_edge.proofs.unbroken.write_awaited.Given as goal

abbrev pub invariant-loop : goal.invariant-loop
invariant-loop g l = Keeps (g.W.Write.contents l.initial.writer) (g.W.Write.contents l.writer)
