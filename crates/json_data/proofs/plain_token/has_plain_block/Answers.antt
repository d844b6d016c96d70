use Rattle.std.proofs.Common.{get_or, ap, ◌∙◌, arith}
use Rattle.std.proofs.lemmas.Bool.{false≢true}
use Rattle.json.specs.Run.{is_plain}
use Rattle.json_data.proofs.PlainBytes.{block_byte}
use Rattle.json_data.proofs.plain_token.has_plain_block.Goals as goal

pub returns-in-Some : goal.returns-in-Some
returns-in-Some c truth =
    let d = c.args.bytes.now in
    let block = c.in-Some.block.now in (
      c.in-Some.ensures.room,
      λ k near. ap is_plain (block_byte d block c.args.from k c.in-Some.ensures.value near) ∙ c.are_plain.ensures truth k (omega (arith, near, c.in-Some.ensures.size)),
    )

pub returns-in-None : goal.returns-in-None
returns-in-None c truth = absurd (false≢true truth)
