use Rattle.std.proofs.Common.{List, ℕ, subst, rules}
use Rattle.fenced_agent.specs.Agents.{fenced_holding}
use Rattle.agent_state.specs.Opened.{RestoresBatch}
use Rattle.agent_state.proofs.Walked.{Walks-next, Walks-start}
use Rattle.agent_state.proofs.walking.walk.Goals as goal

pub loop-size-init : goal.loop-size-init
loop-size-init c = Walks-start c.args.part.now (fenced_holding c.args.agent.now) c.requires.some c.requires.nothing

pub loop-size-preserved : goal.loop-size-preserved
loop-size-preserved c =
    let size = c.in-Some.size in
    let restores = subst (λ (bytes : List ℕ). RestoresBatch (fenced_holding c.loop-size.agent) (fenced_holding c.restore_batch.new.agent) bytes) c.piece-batch.ensures (c.in_ok-restore_batch.ensures (search rules)) in
    Walks-next c.args.part.now c.loop-size.gate size (fenced_holding c.loop-size.agent) (fenced_holding c.restore_batch.new.agent) c.loop-size.invariant (search rules) restores
