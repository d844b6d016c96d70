-- That a command with number 0, a question, changes nothing of what is held.
use Rattle.std.proofs.Common.{◌≡◌, ℕ, ap, ◌∙◌, arith}
use Rattle.rollout_rules.specs.Agent.{Holding, held_after, pair_of}
use Rattle.rollout_rules.proofs.Pairs.{held_after-probe}
use Rattle.wan_edge.specs.Frames.{CommandFrame}
use Rattle.wan_edge.specs.Switches.{pair_asked}

pub kept-by-question : (holding : Holding) (c : CommandFrame) → c.1.number ≡ 0 → held_after holding (pair_asked c) c.1.content ≡ holding
kept-by-question holding c none = ap (λ (n : ℕ). held_after holding (pair_of c.0 n) c.1.content) none ∙ held_after-probe holding c.0 c.1.content
