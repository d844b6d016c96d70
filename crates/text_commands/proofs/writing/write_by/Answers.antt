use Rattle.std.proofs.Common.{rules, false, ap, ◌∙◌}
use Rattle.sink_pieces.proofs.Whole.{whole-written}
use Rattle.text_commands.specs.Ready.{ready_text}
use Rattle.text_commands.proofs.Pieces.{ends-done, ends-cut}
use Rattle.text_commands.proofs.writing.write_by.Goals as goal

pub returns-in-Ok-clause-written : goal.returns-in-Ok-clause-written
returns-in-Ok-clause-written g c =
    ends-done g.K.Sink.told (ready_text c.args.ready.now) c.finish.result (g.K.Sink.told c.args.sink.now) c.finish.new.self.sink.now _ (search rules)
    (whole-written g.K.Sink.told g.K.Sink.as_source c.new-pieces.result c.push_ready.new.pieces c.finish.new.self (g.K.Sink.told c.args.sink.now) (g.K.Sink.as_source c.args.sink.now) (ready_text c.args.ready.now) c.finish.result
    (c.new-pieces.ensures.begins ∙ ap (λ kept. record { told = g.K.Sink.told c.args.sink.now; source = g.K.Sink.as_source c.args.sink.now; kept = kept; failed = false }) c.requires.empty) c.push_ready.ensures.text c.finish.ensures.ends)
    _ c.in-Ok.is

pub returns-clause-written : goal.returns-clause-written
returns-clause-written g c =
    ends-cut g.K.Sink.told (ready_text c.args.ready.now) c.finish.result (g.K.Sink.told c.args.sink.now) c.finish.new.self.sink.now _ (search rules)
    (whole-written g.K.Sink.told g.K.Sink.as_source c.new-pieces.result c.push_ready.new.pieces c.finish.new.self (g.K.Sink.told c.args.sink.now) (g.K.Sink.as_source c.args.sink.now) (ready_text c.args.ready.now) c.finish.result
    (c.new-pieces.ensures.begins ∙ ap (λ kept. record { told = g.K.Sink.told c.args.sink.now; source = g.K.Sink.as_source c.args.sink.now; kept = kept; failed = false }) c.requires.empty) c.push_ready.ensures.text c.finish.ensures.ends)
    _ c.in-Err.is

pub returns-in-Ok-clause-read : goal.returns-in-Ok-clause-read
returns-in-Ok-clause-read g c = c.push_ready.ensures.read

pub returns-clause-read : goal.returns-clause-read
returns-clause-read g c = c.push_ready.ensures.read
