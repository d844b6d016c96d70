use Rattle.std.proofs.Common.{◌≡◌, sym, ◌∙◌}
use Rattle.order_policy.specs.Answers.{rank_by}
use Rattle.text_commands.specs.declared.command_end.CommandEnd.TheVariants.{Usage, ReadFault, WriteFault, DiskFault, GuestFault, NotFinished, OutOfMemory}
use Rattle.swanroll_top.proofs.Agents.{own-not, text-own}
use Rattle.swanroll_top.proofs.Tried.{only-memory, unwritten}
use Rattle.swanroll_top.proofs.trial.trial.Goals as goal

pub returns-in-Err-clause-follows : goal.returns-in-Err-clause-follows
returns-in-Err-clause-follows g c = unwritten (rank_by c.args.policy.now.answers) c.args.shape.now _ _ (only-memory (rank_by c.args.policy.now.answers) c.args.shape.now _ c.requires c.in-Err.ensures)

pub returns-in-Err-clause-write_fault : goal.returns-in-Err-clause-write_fault
returns-in-Err-clause-write_fault g c = λ e. absurd (let no : WriteFault ≡ OutOfMemory = sym e ∙ only-memory (rank_by c.args.policy.now.answers) c.args.shape.now _ c.requires c.in-Err.ensures in cc)

pub returns-in-Err-clause-others : goal.returns-in-Err-clause-others
returns-in-Err-clause-others g c =
    let is = only-memory (rank_by c.args.policy.now.answers) c.args.shape.now _ c.requires c.in-Err.ensures in (
      λ e. let no : Usage ≡ OutOfMemory = sym e ∙ is in cc,
      λ e. let no : ReadFault ≡ OutOfMemory = sym e ∙ is in cc,
      λ e. let no : DiskFault ≡ OutOfMemory = sym e ∙ is in cc,
      λ e. let no : GuestFault ≡ OutOfMemory = sym e ∙ is in cc,
    )

pub returns-in-Ok-clause-others : goal.returns-in-Ok-clause-others
returns-in-Ok-clause-others g c =
    let own = text-own _ _ _ _ c.write_text.ensures.written in (
      own-not _ Usage own (λ e. cc) (λ e. cc) (λ e. cc),
      own-not _ ReadFault own (λ e. cc) (λ e. cc) (λ e. cc),
      own-not _ DiskFault own (λ e. cc) (λ e. cc) (λ e. cc),
      own-not _ GuestFault own (λ e. cc) (λ e. cc) (λ e. cc),
    )

pub returns-in-Err-clause-no_rollout : goal.returns-in-Err-clause-no_rollout
returns-in-Err-clause-no_rollout g c = λ u e. let no : NotFinished u ≡ OutOfMemory = sym e ∙ only-memory (rank_by c.args.policy.now.answers) c.args.shape.now _ c.requires c.in-Err.ensures in cc

pub returns-in-Ok-clause-no_rollout : goal.returns-in-Ok-clause-no_rollout
returns-in-Ok-clause-no_rollout g c = λ u. own-not _ (NotFinished u) (text-own _ _ _ _ c.write_text.ensures.written) (λ e. cc) (λ e. cc) (λ e. cc)
