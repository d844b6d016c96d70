use Rattle.std.proofs.Common.{◌∙◌, replicate, refl, arith}
use Rattle.std.proofs.lemmas.List.{length-take-le}
use Rattle.wire_frames.proofs.Spelling.{command_made, filled}
use Rattle.wire_frames.proofs.command.command_of.Goals as goal

pub invariant_of-command : goal.invariant_of-command
invariant_of-command c =
    rw c.from.ensures (filled _ _ _ (omega (arith, c.requires.some)) c.requires.few (c.read_u64_into.auto.dst ∙ length-take-le c.from.result (replicate 16 0) (omega (arith, c.requires.few, c.from.ensures)) ∙ c.from.ensures) refl)

pub returns : goal.returns
returns c =
    let long = c.read_u64_into.auto.dst ∙ length-take-le c.from.result (replicate 16 0) (omega (arith, c.requires.few, c.from.ensures)) in
    let made = command_made c.args.bytes.now _ _ _ _ _ c.read_u64_into.new.dst _ c.requires (λ i. omega (arith, c.type_inv.bytes i)) c.read_u32-4.ensures c.read_u32.ensures c.read_u32-2.ensures c.read_u32-3.ensures c.from.ensures long c.read_u64_into.ensures _ refl in
    record { fits = made.0; spelled = made.1 }
