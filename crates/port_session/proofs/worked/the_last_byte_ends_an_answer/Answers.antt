use Rattle.std.proofs.Common.{[], ◌∷◌, refl, arith}
use Rattle.wan_edge.specs.Frames.{answer_bytes}
use Rattle.port_session.proofs.Chaining.{one}
use Rattle.port_session.proofs.worked.the_last_byte_ends_an_answer.Goals as goal

pub returns : goal.returns
unfolding answer_bytes
returns c = record {
  bytes = 1 ∷ [];
  appended = refl;
  answers = (7, record { item = 5; held = 1 }) ∷ [];
  rest = [];
  whole = record { fit = one (7, record { item = 5; held = 1 }) (record { migration = omega arith; item = omega arith; held = omega arith }); parts = refl };
  some = omega arith;
}
