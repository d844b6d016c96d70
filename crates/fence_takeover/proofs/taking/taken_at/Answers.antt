use Rattle.std.proofs.Common.{ℕ, Option, subst}
use Rattle.rollout_rules.specs.declared.held.Held.{Held}
use Rattle.held_service.specs.Noting.{noted_at}
use Rattle.fence_takeover.specs.Starts.{TakesOne}
use Rattle.fence_takeover.proofs.taking.taken_at.Goals as goal

pub returns : goal.returns
returns c =
    subst (λ (n : ℕ). TakesOne c.args.migration c.args.item n (noted_at c.args.notes.now c.args.item) c.count_taken.result) c.operation_count-count.ensures
    (subst (λ (held : Option Held). TakesOne c.args.migration c.args.item c.operation_count-count.result held c.count_taken.result) c.noted_at-noted.ensures c.count_taken.ensures)
