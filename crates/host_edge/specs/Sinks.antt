-- What was written to the standard stream that a sink has.
use Rattle.std.specs.Prelude.{ℕ, List}
use Rattle.host_edge.specs.declared.std_sink.Stream.{Stream}
use Rattle.host_edge.specs.declared.std_sink.Stream.TheVariants.{Output, Error}

abbrev pub written_to : Stream → List ℕ
written_to (Output pen) = pen.written
written_to (Error pen) = pen.written
