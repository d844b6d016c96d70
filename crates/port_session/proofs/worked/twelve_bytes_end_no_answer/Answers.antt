use Rattle.std.proofs.Common.{ℕ, List, Option, length, ap, arith, length-append}
use Rattle.std.specs.Prelude.{unwrap_or, []}
use Rattle.std.specs.List.{flat_map}
use Rattle.wan_edge.specs.Frames.{answer_bytes}
use Rattle.port_session.proofs.Hearing.{length-answers}
use Rattle.port_session.proofs.worked.twelve_bytes_end_no_answer.Goals as goal

pub returns : goal.returns
unfolding answer_bytes
returns c ends =
    let came = ap (λ (told : Option (List ℕ)). length (unwrap_or told [])) ends.appended in
    omega (arith, came, ap length ends.whole.parts, length-append (flat_map answer_bytes ends.answers) ends.rest, length-answers ends.answers, ends.some)
