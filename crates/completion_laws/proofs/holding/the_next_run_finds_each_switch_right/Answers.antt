use Rattle.completion_laws.proofs.Next.{found-next}
use Rattle.completion_laws.proofs.holding.the_next_run_finds_each_switch_right.Goals as goal

pub returns : goal.returns
returns c o migration homes log first now next offered heard earlier before after net valid legal small run offered_is heard_is found may new =
    found-next o migration homes log first now next offered heard earlier before after net valid legal small run offered_is heard_is found may new
