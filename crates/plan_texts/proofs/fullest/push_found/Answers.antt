use Rattle.std.proofs.Common.{ℕ, Option, ap}
use Rattle.text_writer.proofs.Pushing.{said_so}
use Rattle.plan_texts.specs.Loads.{fullest_text}
use Rattle.plan_texts.proofs.fullest.push_found.Goals as goal

pub returns-in-Some : goal.returns-in-Some
returns-in-Some g c = said_so g.P.Pieces.pushes (ap (λ (o : Option ℕ). fullest_text c.args.problem.now c.args.plan.now o) c.in-Some.ensures.is) c.push_fullness.ensures

pub returns-in-None : goal.returns-in-None
returns-in-None g c = said_so g.P.Pieces.pushes (ap (λ (o : Option ℕ). fullest_text c.args.problem.now c.args.plan.now o) c.in-None.ensures.is) c.push_str.ensures
