use Rattle.std.proofs.Common.{Some, None}
use Rattle.fenced_wire.proofs.Heads.{gives-command}
use Rattle.fenced_ports.proofs.Framed.{frames-none, frames-one}
use Rattle.fenced_ports.proofs.framing.frame_next.Goals as goal

pub returns-in_ok-add_framed-in-Some-clause-ok : goal.returns-in_ok-add_framed-in-Some-clause-ok
returns-in_ok-add_framed-in-Some-clause-ok c =
    let kept = c.args.reader.now.kept in
    let piece = c.args.piece.now in
    let ends = gives-command kept piece c.in_ok-n.n c.in_ok-n.found (Some c.in-Some.frame) c.feed.new.self c.in-Some.is c.in_ok-n.ensures.read in
    frames-one c.args.term kept piece c.args.out.now.items c.in_ok-n.n c.feed.new.self c.in-Some.frame c.add_framed.new.out.items ends c.in_ok-add_framed-in-Some.ensures

pub returns-in-None-clause-ok : goal.returns-in-None-clause-ok
returns-in-None-clause-ok c =
    let kept = c.args.reader.now.kept in
    let piece = c.args.piece.now in
    frames-none c.args.term kept piece c.args.out.now.items c.in_ok-n.n c.feed.new.self (gives-command kept piece c.in_ok-n.n c.in_ok-n.found None c.feed.new.self c.in-None.is c.in_ok-n.ensures.read)
