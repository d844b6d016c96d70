use Rattle.std.proofs.Common.{◌≡◌, ◌∙◌, ◌+◌, ◌*◌, ◌++◌, List, ℕ, length, drop, ap, sym}
use Rattle.wan_edge.specs.Frames.{Command, command_head}
use Rattle.wire_frames.specs.Contents.{content_of, length-content_of}
use Rattle.wire_frames.proofs.Numbers.{length-numbers}
use Rattle.wire_frames.proofs.Spelling.{command_is, length-command_bytes, written}
use Rattle.wire_frames.proofs.command.write_command.Goals as goal

pub returns-clause-written : goal.returns-clause-written
unfolding command_head
returns-clause-written c =
    let counted = c.from-count.ensures in
    let rates = c.command.inside.rates in
    let count_is : length (content_of c.from-count.result rates) ≡ c.from-count.result = ap (λ (n : ℕ). length (content_of n rates)) counted ∙ length-content_of c.command.inside.count rates c.command.invariant ∙ sym counted in
    let head_is = c.copy_from_slice.ensures.after ∙ c.head_of.ensures in
    written c.args.out.now c.copy_from_slice.new.self c.write_u64_into.new.dst c.from-count.result (ap length head_is) (ap length c.write_u64_into.ensures ∙ length-numbers (content_of c.from-count.result rates) ∙ ap (λ (n : ℕ). 8 * n) count_is)
    ∙ ap (λ (bytes : List ℕ). bytes ++ drop (18 + 8 * c.from-count.result) c.args.out.now)
    (command_is c.args.migration c.args.command.now c.from-count.result rates c.copy_from_slice.new.self c.write_u64_into.new.dst (ap (λ (command : Command). command.content) (sym c.command.view_is) ∙ ap (λ (n : ℕ). content_of n rates) (sym counted)) head_is c.write_u64_into.ensures)

pub returns-clause-count : goal.returns-clause-count
returns-clause-count c =
    let counted = c.from-count.ensures in
    let content_is = ap (λ (command : Command). length command.content) (sym c.command.view_is) ∙ length-content_of c.command.inside.count c.command.inside.rates c.command.invariant in
    ap (λ (n : ℕ). 18 + 8 * n) (counted ∙ sym content_is) ∙ sym (length-command_bytes (c.args.migration, c.args.command.now))
