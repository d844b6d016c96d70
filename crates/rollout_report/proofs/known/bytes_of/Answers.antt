use Rattle.std.proofs.Common.{[], ◌∷◌, ◌++◌, ap, ◌∙◌, append_assoc}
use Rattle.sha2.specs.Sha256.{sha256}
use Rattle.problem_json.specs.Writing.{plan_text, problem_text}
use Rattle.rollout_report.proofs.known.bytes_of.Goals as goal

pub returns : goal.returns
unfolding problem_text plan_text
returns c =
    let first = c.push_problem.ensures.text.hashed [] c.new-text.ensures in
    let both = c.push_plan.ensures.text.hashed (problem_text c.args.problem.now ++ 10 ∷ []) (c.push_str.ensures.hashed (problem_text c.args.problem.now) first) in
    c.finish.ensures ((problem_text c.args.problem.now ++ 10 ∷ []) ++ plan_text c.args.plan.now) both
    ∙ ap sha256 (append_assoc (problem_text c.args.problem.now) (10 ∷ []) (plan_text c.args.plan.now))
