use Rattle.std.proofs.Common.{arith}
use Rattle.port_session.proofs.Chaining.{behind_on, none_behind, rest_on}
use Rattle.fenced_ports.specs.Framing.{Framing}
use Rattle.fenced_ports.proofs.Framed.{frames-further, frames-none-yet, framing}
use Rattle.fenced_ports.proofs.framing.frame_each.Goals as goal

pub loop-rest-init : goal.loop-rest-init
loop-rest-init c = record {
  behind = none_behind c.args.from.now;
  within = omega arith;
  frames = frames-none-yet c.args.term (framing c.args.reader.now.kept c.args.out.now.items) c.args.from.now;
  live = c.requires;
}

pub loop-rest-preserved : goal.loop-rest-preserved
loop-rest-preserved c =
    let from = c.args.from.now in
    let rest = c.loop-rest.rest.now in
    let n = c.in_ok-n.n in
    let i = c.loop-rest.invariant in
    let fits = c.in_ok-n.ensures.taken.1 in
    let before : Framing = framing c.args.reader.now.kept c.args.out.now.items in
    let between : Framing = framing c.loop-rest.reader.kept c.loop-rest.out.items in
    let after : Framing = framing c.frame_next.new.reader.kept c.frame_next.new.out.items in
    record {
      behind = behind_on from rest i.behind i.within n fits;
      within = omega (arith, rest_on from rest i.behind i.within n fits, i.within);
      frames = frames-further from rest i.behind i.within n fits c.args.term before between after i.frames c.in_ok-n.ensures.ok;
      live = c.in_ok-n.ensures.live;
    }
