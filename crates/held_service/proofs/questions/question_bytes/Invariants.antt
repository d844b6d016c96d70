use Rattle.std.proofs.Common.{◌≡◌, take}
use Rattle.held_service.specs.Questions.{question_bytes}
use Rattle.held_service.proofs.questions.question_bytes.Given as goal

abbrev pub invariant-loop-item : goal.invariant-loop-item
invariant-loop-item l = l.bytes ≡ question_bytes l.migration (take l.item-index l.items)
