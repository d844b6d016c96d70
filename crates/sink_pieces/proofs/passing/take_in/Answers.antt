use Rattle.std.proofs.Common.{◌++◌, refl, subst}
use Rattle.std.proofs.lemmas.Result.{on_ok_weaker, on_err_weaker}
use Rattle.wan_edge.specs.Streams.{Appends}
use Rattle.sink_pieces.specs.Passing.{stops_behind}
use Rattle.sink_pieces.proofs.Whole.{behind_written}
use Rattle.sink_pieces.proofs.passing.take_in.Goals as goal

pub returns-clause-on : goal.returns-clause-on
returns-clause-on g c =
    on_ok_weaker c.begin_with.result
    (behind_written (g.K.Sink.told c.args.sink.now).written (g.K.Sink.told c.write_out.new.sink).written (g.K.Sink.told c.begin_with.new.sink).written
    c.args.kept.now c.args.piece.now c.begin_with.new.kept
    (subst (λ kept. Appends (g.K.Sink.told c.args.sink.now).written kept (g.K.Sink.told c.write_out.new.sink).written) c.if-keeps.ensures c.in_ok-write_out.ensures.all))
    c.begin_with.ensures.on

pub returns-clause-stop : goal.returns-clause-stop
returns-clause-stop g c =
    on_err_weaker c.begin_with.result
    (stops_behind (g.K.Sink.told c.args.sink.now) (g.K.Sink.told c.write_out.new.sink) (g.K.Sink.told c.begin_with.new.sink)
    c.args.kept.now c.args.piece.now (c.args.kept.now ++ c.args.piece.now) c.write_out.ensures.step refl
    (subst (λ kept. Appends (g.K.Sink.told c.args.sink.now).written kept (g.K.Sink.told c.write_out.new.sink).written) c.if-keeps.ensures c.in_ok-write_out.ensures.all))
    c.begin_with.ensures.stop
