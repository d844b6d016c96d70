use Rattle.std.proofs.Common.{ap, ap₂, List, ℕ}
use Rattle.lossy_link.specs.WayBack.{Back}
use Rattle.lossy_link.proofs.Traffics.{given_further}
use Rattle.lossy_link.proofs.way_back.WayBack.give.Goals as goal

back_of : List ℕ → List ℕ → Back
back_of heard due = record { heard = heard; due = due }

pub returns-clause-left : goal.returns-clause-left
unfolding back_of
returns-clause-left c =
    let further = given_further c.self.inside.bytes c.self.inside.given c.give_front-n.result c.args.self.now (ap (λ (b : Back). b.heard) c.self.view_is) (ap (λ (b : Back). b.due) c.self.view_is) in
    ap₂ back_of further.0 further.1
