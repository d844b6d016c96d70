use Rattle.std.proofs.Common.{ℕ, ◌≤◌, sym, subst, arith}
use Rattle.lp_proof.specs.Least.{IsAnswered, IsWorth}
use Rattle.lp_proof.proofs.Answered.{least-plain, least-link, least-program, plain-worth}
use Rattle.lp_proof.proofs.proving.prove_least.Goals as goal

pub returns-then-q-lt2-clause-value : goal.returns-then-q-lt2-clause-value
returns-then-q-lt2-clause-value c = least-plain c.args.problem.now c.args.q c.if-q-lt2.true

pub returns-then-q-lt2-clause-worth : goal.returns-then-q-lt2-clause-worth
returns-then-q-lt2-clause-worth c = plain-worth c.args.problem.now c.args.q c.if-q-lt2.true c.requires.still

pub returns-then-q-eq2-clause-value : goal.returns-then-q-eq2-clause-value
returns-then-q-eq2-clause-value c =
    subst (IsAnswered c.by_link.result) (sym (least-link c.args.problem.now c.args.q c.if-q-eq2.true)) c.by_link.ensures.value

pub returns-then-q-eq2-clause-worth : goal.returns-then-q-eq2-clause-worth
returns-then-q-eq2-clause-worth c =
    subst (λ (n : ℕ). IsWorth c.args.problem.now n c.by_link.result) (sym c.if-q-eq2.true) c.by_link.ensures.worth

pub returns-clause-value : goal.returns-clause-value
returns-clause-value c =
    let some : 3 ≤ c.args.q = grind arith in
    subst (IsAnswered c.by_program.result) (sym (least-program c.args.problem.now c.args.q some)) c.by_program.ensures.value
