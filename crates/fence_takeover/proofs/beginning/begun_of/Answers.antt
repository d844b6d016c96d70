use Rattle.std.proofs.Common.{Ok, Err, Result, refl, sym, subst}
use Rattle.rollout_rules.specs.Wan.{Rollout}
use Rattle.intent_journal.specs.declared.fault.JournalFault.{JournalFault}
use Rattle.fence_takeover.specs.Beginnings.{AnswerOf}
use Rattle.fence_takeover.specs.declared.begun.NotBegun.TheVariants as why
use Rattle.fence_takeover.proofs.beginning.begun_of.Goals as goal

pub returns-in-Ok-clause-answer : goal.returns-in-Ok-clause-answer
returns-in-Ok-clause-answer g c = subst (λ (given : Result Rollout JournalFault). AnswerOf given c.args.start (Ok (c.in-Ok.plan, c.args.start))) (sym c.in-Ok.is) refl

pub returns-in-Err-clause-answer : goal.returns-in-Err-clause-answer
returns-in-Err-clause-answer g c = subst (λ (given : Result Rollout JournalFault). AnswerOf given c.args.start (Err (why.Journal c.in-Err.cause))) (sym c.in-Err.is) refl
