use Rattle.std.proofs.Common.{◌≡◌, ◌-◌, Bool, true, false, List, sym, ap, ◌∙◌}
use Rattle.std.proofs.lemmas.Bool.{and_from}
use Rattle.fraction_lp.specs.Ratio.{Ratio}
use Rattle.fraction_lp.specs.Dictionary.{Program}
use Rattle.fraction_lp.specs.Excluding.{excludes}
use Rattle.step_lp.specs.Program.{move_program}
use Rattle.fraction_lp.specs.declared.proof.Proof.TheVariants.{Rows}
use Rattle.lp_proof.specs.Shown.{is_built}
use Rattle.lp_proof.specs.Least.{where_accepted}
use Rattle.lp_proof.specs.declared.least.Least.TheVariants.{Shown}
use Rattle.lp_proof.proofs.proving.by_multipliers.Goals as goal

-- what was found of other names for the same
same : (p r : Program) (ys zs : List Ratio) (found : Bool) → p ≡ r → ys ≡ zs → found ≡ excludes p ys → excludes r zs ≡ found
same p r ys zs found e f is = sym (is ∙ ap (λ (x : Program). excludes x ys) e ∙ ap (excludes r) f)

pub returns-then-excludes-clause-value : goal.returns-then-excludes-clause-value
returns-then-excludes-clause-value c =
    let r = move_program c.args.problem.now (c.args.q - 1) in
    let accepted : excludes r c.args.multipliers ≡ true =
    same c.args.rows.now r c.as_slice.result.now c.args.multipliers c.excludes.result c.requires.rows c.as_slice.ensures c.excludes.ensures ∙ c.if-excludes.true in
    ap (λ (b : Bool). where_accepted b (Shown (Rows c.args.multipliers))) accepted

pub returns-then-excludes-clause-worth : goal.returns-then-excludes-clause-worth
returns-then-excludes-clause-worth c =
    let r = move_program c.args.problem.now (c.args.q - 1) in
    let accepted : excludes r c.args.multipliers ≡ true =
    same c.args.rows.now r c.as_slice.result.now c.args.multipliers c.excludes.result c.requires.rows c.as_slice.ensures c.excludes.ensures ∙ c.if-excludes.true in
    and_from (is_built c.args.problem.now c.args.q) (excludes r c.args.multipliers) c.requires.built accepted

pub returns-clause-value : goal.returns-clause-value
returns-clause-value c =
    let r = move_program c.args.problem.now (c.args.q - 1) in
    let refused : excludes r c.args.multipliers ≡ false =
    same c.args.rows.now r c.as_slice.result.now c.args.multipliers c.excludes.result c.requires.rows c.as_slice.ensures c.excludes.ensures ∙ c.if-excludes.false in
    ap (λ (b : Bool). where_accepted b (Shown (Rows c.args.multipliers))) refused
