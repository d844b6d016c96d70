use Rattle.std.proofs.Common.{subst}
use Rattle.rollback_service.specs.declared.answer.LevelAnswer.{LevelAnswer}
use Rattle.rollback_service.specs.Levellings.{LacksPort}
use Rattle.rollback_service.proofs.Levellings.{lacks-port}
use Rattle.rollback_service.proofs.levelling.level_under.Goals as goal

pub returns-clause-run : goal.returns-clause-run
returns-clause-run g c = record {
  run = c.run_book-disk.result.outcome;
  has = c.run_book-disk.ensures.run;
  tells = c.answer_behind.ensures;
}

pub returns-clause-no_port : goal.returns-clause-no_port
returns-clause-no_port g c = λ switch lacks.
    let outcome = c.run_book-disk.result.outcome in
    c.run_book-disk.ensures.no_port switch
    (lacks-port outcome.end outcome c.args.start switch (subst (λ (a : LevelAnswer). LacksPort a switch) c.answer_behind.ensures lacks))
