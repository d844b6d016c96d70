-- What a port keeps to that hears nothing from its switch.
use Rattle.std.proofs.Common.{List, ℕ, [], Some, refl}
use Rattle.std.proofs.lemmas.List.Elements.{All-nil}
use Rattle.wan_edge.specs.Frames.{IsCommand}
use Rattle.wan_edge.specs.Ports.{IsHonestStep}
use Rattle.wan_edge.specs.Switches.{holding_nothing}
use Rattle.wan_edge.proofs.Commands.{none_moves}
use Rattle.lossy_link.proofs.Ordered.{answers_held}
use Rattle.lossy_link.proofs.Taking.{no_pairs}

pub silent_step : (offered : List ℕ) → IsHonestStep (Some offered) (Some []) (Some holding_nothing) (Some holding_nothing)
silent_step offered = record {
  moves = none_moves offered holding_nothing;
  answers = answers_held holding_nothing holding_nothing [] [] [] no_pairs (All-nil IsCommand) refl refl;
}
