-- How a run ends that wrote its text piece by piece.
use Rattle.std.proofs.Common.{◌≡◌, ℕ, List, Option, OnOk, OnErr, Result, Ok, Err, inl, inr, refl, sym, subst}
use Rattle.wan_edge.specs.Streams.{Appends, AppendsPart, Rose, SinkTrace}
use Rattle.sink_pieces.specs.Passing.{Stops}
use Rattle.sink_pieces.proofs.Whole.{IsWritten}
use Rattle.wan_edge.specs.declared.stream.Failed.{Failed}
use Rattle.text_commands.specs.Runs.{EndsWith}
use Rattle.text_commands.specs.declared.command_end.CommandEnd.TheVariants.{Done, WriteFault}

module _ {K : Type 0} (told : K → SinkTrace) (text : List ℕ) (result : Result Unit Failed) (before : SinkTrace) (last sink : K) (same : sink ≡ last) (written : IsWritten text result before (told last)) where
  pub ends-done : (done : Unit {0}) → result ≡ Ok done → EndsWith (Ok text) Done before.written (told sink).written
  ends-done done is =
      let all : Appends before.written text (told last).written = subst (λ (r : Result Unit Failed). OnOk r (Appends before.written text (told last).written)) is written.all in
      inl (refl, subst (λ s. Appends before.written text (told s).written) (sym same) all)

  stopped : (fault : Failed) → result ≡ Err fault → AppendsPart before.written text (told last).written × Rose before.faults (told last).faults
  stopped fault is =
      let stops = subst (λ (r : Result Unit Failed). OnErr r (Stops text before (told last))) is written.stops in
      (stops.part, stops.cause)

  pub ends-cut : (fault : Failed) → result ≡ Err fault → EndsWith (Ok text) WriteFault before.written (told sink).written
  ends-cut fault is = inr (refl, subst (λ s. AppendsPart before.written text (told s).written) (sym same) (stopped fault is).0)

  pub rose : (fault : Failed) → result ≡ Err fault → Rose before.faults (told sink).faults
  rose fault is = subst (λ s. Rose before.faults (told s).faults) (sym same) (stopped fault is).1
