use Rattle.std.proofs.Common.{List, ℕ, ◌++◌, ap, ◌∙◌}
use Rattle.wan_edge.specs.Frames.{Command, command_bytes}
use Rattle.held_service.proofs.Bytes.{front-is}
use Rattle.held_service.proofs.questions.add_question.Goals as goal

pub returns : goal.returns
returns c =
    let frame = command_bytes (c.args.migration, c.question-command.result) in
    c.in_ok-extend_from_slice.ensures.ok
    ∙ ap (λ (bytes : List ℕ). c.args.bytes.now ++ bytes) (
    front-is frame c.write_command-len.new.out _ c.write_command-len.result c.write_command-len.ensures.written c.write_command-len.ensures.count
    ∙ ap (λ (command : Command). command_bytes (c.args.migration, command)) c.question-command.ensures
    )
