use Rattle.std.proofs.Common.{◌≡◌, ◌<◌, List, ℕ, length, subst, sym, ap, ◌∙◌, arith}
use Rattle.std.specs.Prelude.{All}
use Rattle.step_lp.specs.Program.{joined_below, blocks, coefficients_in}
use Rattle.step_lp.proofs.Sizes.{length-coefficients}
use Rattle.step_lp.proofs.Speaking.{used-below}
use Rattle.step_lp.proofs.row.coefficients.Goals as goal

pub add_block-requires-clause-used : goal.add_block-requires-clause-used
add_block-requires-clause-used c =
    subst (λ (ts : List ℕ). All (λ t. t < length c.args.problem.now.tunnels) ts) (sym c.requires.used) (used-below c.args.problem.now)

pub returns-clause-count : goal.returns-clause-count
returns-clause-count c =
    let all : c.loop-block.block ≡ blocks c.args.q = omega arith in
    ap length c.loop-block.invariant
    ∙ ap (λ n. length (joined_below n (coefficients_in c.args.problem.now c.args.q c.args.limit))) all
    ∙ length-coefficients c.args.problem.now c.args.q c.args.limit
