use Rattle.std.proofs.Common.{◌≡◌, ◌≤◌, true, false, arith}
use Rattle.lp_proof.specs.Shown.{is_built}
use Rattle.lp_proof.proofs.Built.{IsBuilt, built-parts}
use Rattle.lp_proof.proofs.Answered.{program-wide}
use Rattle.lp_proof.proofs.proving.by_program.Goals as goal

pub returns-then-not-is_built-clause-value : goal.returns-then-not-is_built-clause-value
returns-then-not-is_built-clause-value c =
    let wide : is_built c.args.problem.now c.args.q ≡ false = cc in
    program-wide c.args.problem.now c.args.q wide

pub returns-then-not-is_built-clause-worth : goal.returns-then-not-is_built-clause-worth
returns-then-not-is_built-clause-worth c =
    let wide : is_built c.args.problem.now c.args.q ≡ false = cc in
    (c.requires, wide)

pub build-requires-clause-least : goal.build-requires-clause-least
build-requires-clause-least c =
    let some : 3 ≤ c.args.q = c.requires in
    omega arith

pub build-requires-clause-most : goal.build-requires-clause-most
build-requires-clause-most c =
    let built : is_built c.args.problem.now c.args.q ≡ true = cc in
    let parts : IsBuilt c.args.problem.now c.args.q = built-parts c.args.problem.now c.args.q built in
    omega (arith, parts.most)

pub by_rows-requires-clause-built : goal.by_rows-requires-clause-built
by_rows-requires-clause-built c =
    let built : is_built c.args.problem.now c.args.q ≡ true = cc in
    built
