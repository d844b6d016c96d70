use Rattle.std.proofs.Common.{ap₂, sym, ◌∙◌}
use Rattle.fenced_ports.specs.Sieves.{noted}
use Rattle.fenced_ports.proofs.Sifted.{read_on}
use Rattle.fenced_ports.proofs.sieve.Sieve.take.Goals as goal

pub returns-clause-after : goal.returns-clause-after
returns-clause-after c =
    c.note.ensures.noted ∙ ap₂ noted c.move_on.ensures c.part-part.ensures ∙ sym (read_on c.args.term c.args.self.now c.args.byte c.requires)
