use Rattle.std.proofs.Common.{◌∙◌, length, drop, take, sym, arith, length-take}
use Rattle.switch_agent.proofs.Pieces.{read_front, read_within}
use Rattle.switch_agent.proofs.hearing.read_some.Goals as goal

pub returns-clause-within : goal.returns-clause-within
returns-clause-within g c =
    let buffer = c.args.buffer.now in
    let fits = c.min-fits.result in
    let few = length-take fits buffer in
    read_within c.read.result (length (take fits buffer)) c.args.room (length buffer) (omega (arith, few, c.min-fits.ensures)) (omega (arith, few, c.min-fits.ensures)) c.read.ensures.within

pub returns-clause-given : goal.returns-clause-given
returns-clause-given g c =
    let buffer = c.args.buffer.now in
    let fits = c.min-fits.result in
    read_front c.read.result (length (take fits buffer)) c.read.new.into (drop fits buffer) (g.G.Source.told c.args.guest.now) (g.G.Source.told c.read.new.self) (omega (arith, c.read.auto.into)) c.read.ensures.within c.read.ensures.given

pub returns-clause-unwritten : goal.returns-clause-unwritten
returns-clause-unwritten g c = sym (g.met.G.Guest.read_apart c.read.new.self) ∙ c.read.ensures.apart ∙ g.met.G.Guest.read_apart c.args.guest.now
