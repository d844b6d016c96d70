use Rattle.std.proofs.Common.{◌≡◌, List, ℕ, ◌++◌, length, take, get_or, ap, sym, ◌∙◌, arith}
use Rattle.std.proofs.Math.Seq.{take-length}
use Rattle.std.proofs.lemmas.List.{take_more}
use Rattle.wan_edge.specs.Frames.{command_bytes}
use Rattle.held_service.specs.Questions.{question, question_bytes}
use Rattle.held_service.proofs.Bytes.{question-more}
use Rattle.held_service.proofs.questions.question_bytes.Goals as goal

pub loop-item-preserved : goal.loop-item-preserved
loop-item-preserved c =
    let items = c.args.items.now in
    let at = c.loop-item.item-index in
    let m = c.args.migration in
    c.in_ok-add_question.ensures ∙ ap (λ (bytes : List ℕ). bytes ++ command_bytes (question m (get_or items at 0))) c.loop-item.invariant
    ∙ sym (question-more m (take at items) (get_or items at 0)) ∙ ap (question_bytes m) (sym (take_more items at 0 c.loop-item-test.true))

pub returns : goal.returns
returns c =
    let items = c.args.items.now in
    let all : c.loop-item.item-index ≡ length items = omega (arith, c.loop-item-test.false, c.loop-item.auto.item-index-end) in
    c.loop-item.invariant ∙ ap (question_bytes c.args.migration) (ap (λ (n : ℕ). take n items) all ∙ take-length items)
