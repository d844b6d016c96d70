use Rattle.std.proofs.Common.{arith}
use Rattle.port_session.specs.Reading.{Reckoning}
use Rattle.port_session.proofs.Chaining.{behind_on, if_err, none_behind, reads_further, reads_none_yet, reads_until, reckoning, rest_on}
use Rattle.port_session.proofs.stream.read_piece.Goals as goal

pub loop-rest-init : goal.loop-rest-init
loop-rest-init c = record {
  behind = none_behind c.args.piece.now;
  within = omega arith;
  reads = reads_none_yet c.args.migration (reckoning c.args.reader.now.kept c.args.awaited.now c.args.answers.now) c.args.piece.now;
  live = c.requires.live;
  cut = c.requires.cut;
}

pub loop-rest-preserved : goal.loop-rest-preserved
loop-rest-preserved c =
    let piece = c.args.piece.now in
    let rest = c.loop-rest.rest.now in
    let n = c.in_ok-n.n in
    let i = c.loop-rest.invariant in
    let fits = c.in_ok-n.ensures.taken.1 in
    let before : Reckoning = reckoning c.args.reader.now.kept c.args.awaited.now c.args.answers.now in
    let between : Reckoning = reckoning c.loop-rest.reader.kept c.loop-rest.awaited c.loop-rest.answers in
    let after : Reckoning = reckoning c.read_next.new.reader.kept c.read_next.new.awaited c.read_next.new.answers in
    record {
      behind = behind_on piece rest i.behind i.within n fits;
      within = omega (arith, rest_on piece rest i.behind i.within n fits, i.within);
      reads = reads_further piece rest i.behind i.within n fits c.args.migration before between after i.reads c.in_ok-n.ensures.ok;
      live = c.in_ok-n.ensures.live;
      cut = c.in_ok-n.ensures.cut;
    }

pub returns-in_err-n-clause-err : goal.returns-in_err-n-clause-err
returns-in_err-n-clause-err c =
    let i = c.loop-rest.invariant in
    let before : Reckoning = reckoning c.args.reader.now.kept c.args.awaited.now c.args.answers.now in
    let between : Reckoning = reckoning c.loop-rest.reader.kept c.loop-rest.awaited c.loop-rest.answers in
    let after : Reckoning = reckoning c.read_next.new.reader.kept c.read_next.new.awaited c.read_next.new.answers in
    let fault = c.in_err-n.field-0.0 in
    if_err c.from_residual.result fault _ c.from_residual.ensures.1 (reads_until c.args.migration before between after c.args.piece.now c.loop-rest.rest.now fault i.behind i.reads c.in_err-n.ensures.err)
