use Rattle.switch_ports.specs.Berths.{ports_of}
use Rattle.held_service.proofs.Visited.{keeps-back}
use Rattle.held_service.proofs.visiting.talk.Goals as goal

pub returns-clause-keeps : goal.returns-clause-keeps
returns-clause-keeps g c =
    let before = ports_of (g.F.Fleet.told c.args.fleet.now) in
    let now = ports_of (g.F.Fleet.told c.keep.new.self) in
    record {
      back = c.ask_port-told.new.port;
      ends = c.ask_port-told.ensures;
      kept = keeps-back before now c.args.switch c.ask_port-told.new.port c.keep.ensures.ready c.keep.ensures.back c.keep.ensures.place c.keep.ensures.names;
    }
