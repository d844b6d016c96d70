use Rattle.std.proofs.Common.{◌≡◌, true, get_or, sym, ◌∙◌, arith}
use Rattle.std.proofs.lemmas.Bool.{and_parts}
use Rattle.json.specs.Run.{is_plain}
use Rattle.json_data.proofs.PlainBytes.{and_at}
use Rattle.json_data.proofs.plain_token.are_plain.Goals as goal

pub loop-place-init : goal.loop-place-init
loop-place-init c = λ truth k lt. absurd (omega (arith, lt))

pub loop-place-preserved : goal.loop-place-preserved
loop-place-preserved c =
    λ truth. (let both = and_parts _ _ truth in
    and_at (λ k. is_plain (get_or c.args.block.now k 0) ≡ true) c.loop-place.place (c.loop-place.invariant both.1) (sym c.is_plain-all.ensures ∙ both.0))

pub returns : goal.returns
returns c = λ truth k lt. c.loop-place.invariant truth k (omega (arith, lt, c.loop-place-test.false))
