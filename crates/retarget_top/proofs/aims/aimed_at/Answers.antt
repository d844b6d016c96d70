use Rattle.std.proofs.Common.{◌∙◌, ℕ, List, Err, inr, ap₂, sym}
use Rattle.rollout_rules.specs.Wan.{Problem}
use Rattle.retarget_top.specs.Aims.{aim_in}
use Rattle.retarget_top.proofs.Aiming.{gives-same}
use Rattle.retarget_top.proofs.aims.aimed_at.Goals as goal

pub returns-in-Ok : goal.returns-in-Ok
returns-in-Ok c =
    let same = ap₂ (λ (p : Problem) (bytes : List ℕ). aim_in c.args.shed.now p bytes) (sym c.problem.ensures) (sym c.as_slice.ensures) in
    record { rollout = c.requires; aim = same ∙ c.in-Ok.ensures.aim; may = c.in-Ok.ensures.may }

pub returns : goal.returns
returns c =
    let same = ap₂ (λ (p : Problem) (bytes : List ℕ). aim_in c.args.shed.now p bytes) (sym c.problem.ensures) (sym c.as_slice.ensures) in
    inr (record { o = c.args.plan; rollout = c.requires; gives = gives-same (Err c.in-Err.ending) _ _ same c.in-Err.ensures.aim })
