use Rattle.rollout_book.proofs.Sendings.{each-flies}
use Rattle.rollout_book.proofs.journaled_rounds.JournaledRounds.commands.Goals as goal

pub add_asked-requires-clause-flying : goal.add_asked-requires-clause-flying
add_asked-requires-clause-flying g c = rw (c.graph.ensures.value, c.flying.ensures.value) (each-flies c.self.inside.rounds.rollout.problem c.self.inside.rounds.history)
