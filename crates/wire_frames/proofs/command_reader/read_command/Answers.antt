use Rattle.std.proofs.Common.{◌≡◌, ◌∙◌, ℕ, ◌<◌, ◌≤◌, ◌⊎◌, List, ◌++◌, slice_index, refl, arith, ap, inl, inr, subst, sym, length}
use Rattle.wan_edge.specs.Frames.{HasOtherCount, command_kind}
use Rattle.wire_frames.specs.Reading.{IsWhole}
use Rattle.wire_frames.proofs.Cuts.{IsBytes-append}
use Rattle.wire_frames.proofs.Feeding.{body_begun, body_goes_on, body_whole, ends, head_goes_on, other_count}
use Rattle.wire_frames.proofs.command_reader.read_command.Goals as goal
use Rattle.wire_frames.proofs.command_reader.read_command.Goals.{then-count-eq0-via-then-count-eq0, then-count-eq0-via-else-count-eq0+then-count-gt16}

pub returns-then-bytes-lt-HEAD_LEN-clause-read : goal.returns-then-bytes-lt-HEAD_LEN-clause-read
returns-then-bytes-lt-HEAD_LEN-clause-read c =
    let kept = c.args.front.now in
    let piece = c.args.piece.now in
    let first = subst (λ (front : List ℕ). 0 < length (front ++ piece) → slice_index (front ++ piece) 0 ≡ command_kind) c.bytes.ensures.all c.in_default.ensures.none in
    let each = IsBytes-append kept piece c.bytes.ensures.small (λ i. omega (arith, c.type_inv.piece i)) in
    let new = c.fill-head.new.self in
    head_goes_on kept piece each c.requires first new c.fill-head.result c.fill-head.ensures.count c.fill-head.ensures.filled (omega (arith, ap length c.bytes-2.ensures.all))

pub returns-then-count-eq0-clause-read : goal.returns-then-count-eq0-clause-read
returns-then-count-eq0-clause-read c =
    let kept = c.args.front.now in
    let piece = c.args.piece.now in
    let first = subst (λ (front : List ℕ). 0 < length (front ++ piece) → slice_index (front ++ piece) 0 ≡ command_kind) c.bytes.ensures.all c.in_default.ensures.none in
    let each = IsBytes-append kept piece c.bytes.ensures.small (λ i. omega (arith, c.type_inv.piece i)) in
    let new = c.fill-head.new.self in
    let late : 18 ≤ length new = omega (arith, ap length c.bytes-2.ensures.all) in
    let count_is : slice_index c.bytes-3.result.now 17 ≡ slice_index new 17 = ap (λ (xs : List ℕ). slice_index xs 17) c.bytes-3.ensures.all in
    let other : (slice_index new 17 ≡ 0) ⊎ (16 < slice_index new 17) = elim c.then-count-eq0.branch [
      | then-count-eq0-via-then-count-eq0 w ↦ inl (omega (arith, count_is))
      | then-count-eq0-via-else-count-eq0+then-count-gt16 w ↦ inr (omega (arith, count_is))
    ] in
    let fault = other_count kept piece each c.requires first new c.fill-head.result c.fill-head.ensures.count c.fill-head.ensures.filled late other in
    record { at_byte = subst (HasOtherCount (kept ++ piece)) (sym count_is) fault; now_dead = refl }

pub returns-then-bytes-len-clause-begun : goal.returns-then-bytes-len-clause-begun
returns-then-bytes-len-clause-begun c =
    let kept = c.args.front.now in
    let piece = c.args.piece.now in
    let first = subst (λ (front : List ℕ). 0 < length (front ++ piece) → slice_index (front ++ piece) 0 ≡ command_kind) c.bytes.ensures.all c.in_default.ensures.none in
    let each = IsBytes-append kept piece c.bytes.ensures.small (λ i. omega (arith, c.type_inv.piece i)) in
    let new = c.fill-head.new.self in
    let late : 18 ≤ length new = omega (arith, ap length c.bytes-2.ensures.all) in
    let count_is : slice_index c.bytes-3.result.now 17 ≡ slice_index new 17 = ap (λ (xs : List ℕ). slice_index xs 17) c.bytes-3.ensures.all in
    let some : 0 < c.from.result = omega (arith, c.from.ensures) in
    let few : c.from.result ≤ 16 = omega (arith, c.from.ensures) in
    body_begun kept piece each c.requires first new c.fill-head.result c.fill-head.ensures.count c.fill-head.ensures.filled late c.fill-body.new.self c.fill-body.result c.from.result (c.from.ensures ∙ count_is) some few c.fill-body.ensures.count c.fill-body.ensures.filled (omega (arith, ap length c.bytes-4.ensures.all))

pub returns-then-bytes-len-clause-read : goal.returns-then-bytes-len-clause-read
returns-then-bytes-len-clause-read c =
    let kept = c.args.front.now in
    let piece = c.args.piece.now in
    let first = subst (λ (front : List ℕ). 0 < length (front ++ piece) → slice_index (front ++ piece) 0 ≡ command_kind) c.bytes.ensures.all c.in_default.ensures.none in
    let each = IsBytes-append kept piece c.bytes.ensures.small (λ i. omega (arith, c.type_inv.piece i)) in
    let new = c.fill-head.new.self in
    let late : 18 ≤ length new = omega (arith, ap length c.bytes-2.ensures.all) in
    let count_is : slice_index c.bytes-3.result.now 17 ≡ slice_index new 17 = ap (λ (xs : List ℕ). slice_index xs 17) c.bytes-3.ensures.all in
    let some : 0 < c.from.result = omega (arith, c.from.ensures) in
    let few : c.from.result ≤ 16 = omega (arith, c.from.ensures) in
    body_goes_on kept piece each c.requires first new c.fill-head.result c.fill-head.ensures.count c.fill-head.ensures.filled late c.fill-body.new.self c.fill-body.result c.from.result (c.from.ensures ∙ count_is) some few c.fill-body.ensures.count c.fill-body.ensures.filled (omega (arith, ap length c.bytes-4.ensures.all))

pub command_of-command-requires : goal.command_of-command-requires
command_of-command-requires c =
    let kept = c.args.front.now in
    let piece = c.args.piece.now in
    let first = subst (λ (front : List ℕ). 0 < length (front ++ piece) → slice_index (front ++ piece) 0 ≡ command_kind) c.bytes.ensures.all c.in_default.ensures.none in
    let each = IsBytes-append kept piece c.bytes.ensures.small (λ i. omega (arith, c.type_inv.piece i)) in
    let new = c.fill-head.new.self in
    let late : 18 ≤ length new = omega (arith, ap length c.bytes-2.ensures.all) in
    let count_is : slice_index c.bytes-3.result.now 17 ≡ slice_index new 17 = ap (λ (xs : List ℕ). slice_index xs 17) c.bytes-3.ensures.all in
    let some : 0 < c.from.result = omega (arith, c.from.ensures) in
    let few : c.from.result ≤ 16 = omega (arith, c.from.ensures) in
    let whole = body_whole kept piece each c.requires first new c.fill-head.result c.fill-head.ensures.count c.fill-head.ensures.filled late c.fill-body.new.self c.fill-body.result c.from.result (c.from.ensures ∙ count_is) some few c.fill-body.ensures.count c.fill-body.ensures.filled (omega (arith, ap length c.bytes-4.ensures.all)) in
    subst IsWhole (sym c.bytes-5.ensures.all) whole

pub returns-clause-read : goal.returns-clause-read
returns-clause-read c =
    let kept = c.args.front.now in
    let piece = c.args.piece.now in
    let first = subst (λ (front : List ℕ). 0 < length (front ++ piece) → slice_index (front ++ piece) 0 ≡ command_kind) c.bytes.ensures.all c.in_default.ensures.none in
    let each = IsBytes-append kept piece c.bytes.ensures.small (λ i. omega (arith, c.type_inv.piece i)) in
    let new = c.fill-head.new.self in
    let late : 18 ≤ length new = omega (arith, ap length c.bytes-2.ensures.all) in
    let count_is : slice_index c.bytes-3.result.now 17 ≡ slice_index new 17 = ap (λ (xs : List ℕ). slice_index xs 17) c.bytes-3.ensures.all in
    let some : 0 < c.from.result = omega (arith, c.from.ensures) in
    let few : c.from.result ≤ 16 = omega (arith, c.from.ensures) in
    ends kept piece each c.requires first new c.fill-head.result c.fill-head.ensures.count c.fill-head.ensures.filled late c.fill-body.new.self c.fill-body.result c.from.result (c.from.ensures ∙ count_is) some few c.fill-body.ensures.count c.fill-body.ensures.filled (omega (arith, ap length c.bytes-4.ensures.all)) c.command_of-command.result c.clear-2.new.self c.command_of-command.ensures.fits (c.command_of-command.ensures.spelled ∙ c.bytes-5.ensures.all) c.clear-2.ensures
