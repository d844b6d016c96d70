use Rattle.std.proofs.Common.{◌≡◌, ℕ, ◌<◌, List, ◌++◌, slice_index, arith, ap, subst, length}
use Rattle.wan_edge.specs.Frames.{answer_kind}
use Rattle.wire_frames.proofs.Cuts.{IsBytes-append}
use Rattle.wire_frames.proofs.Feeding.{answer_goes_on}
use Rattle.wire_frames.proofs.answer_reader.read_answer.Goals as goal

pub returns-then-bytes-lt-ANSWER_LEN-clause-read : goal.returns-then-bytes-lt-ANSWER_LEN-clause-read
returns-then-bytes-lt-ANSWER_LEN-clause-read c =
    let piece = c.args.piece.now in
    let first = subst (λ (kept : List ℕ). 0 < length (kept ++ piece) → slice_index (kept ++ piece) 0 ≡ answer_kind) c.bytes.ensures.all c.in_default.ensures.none in
    answer_goes_on c.args.front.now piece c.fill-n.new.self c.fill-n.result (IsBytes-append _ _ c.bytes.ensures.small (λ i. omega (arith, c.type_inv.piece i)))
    first c.fill-n.ensures.count c.fill-n.ensures.filled (omega (arith, ap length c.bytes-2.ensures.all))
