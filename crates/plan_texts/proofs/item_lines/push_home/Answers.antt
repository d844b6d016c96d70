use Rattle.std.proofs.Common.{ℕ, Option, sym, ap}
use Rattle.text_writer.proofs.Pushing.{said_so}
use Rattle.plan_texts.specs.Explain.{home_text}
use Rattle.plan_texts.proofs.item_lines.push_home.Goals as goal

pub returns-in-Some : goal.returns-in-Some
returns-in-Some g c p are = said_so g.P.Pieces.pushes (sym (ap (λ (o : Option ℕ). home_text p o) c.in-Some.is)) (c.push_switch.ensures p are)

pub returns-in-None : goal.returns-in-None
returns-in-None g c p are = said_so g.P.Pieces.pushes (sym (ap (λ (o : Option ℕ). home_text p o) c.in-None.is)) c.push_str.ensures
