use Rattle.std.proofs.Common.{◌∙◌, ℕ, Option, ap, ap₂}
use Rattle.wan_edge.specs.Frames.{AnswerFrame, CommandFrame}
use Rattle.fenced_agent.specs.Agents.{FencedHoldings, after_fenced, after_termed, answer_fenced, fenced_holding, floor_told}
use Rattle.fenced_agent.specs.Frames.{FlooredAnswer, floored_bytes, term_of}
use Rattle.agent_talks.proofs.reply.carry_out.Goals as goal

pub returns-clause-applied : goal.returns-clause-applied
returns-clause-applied c =
    let held = fenced_holding c.args.agent.now in
    let term = c.number_of.ensures ∙ ap term_of c.term-term.ensures in
    c.in_ok-told.ensures.applied
    ∙ ap (λ (n : ℕ). after_fenced held n c.frame-command.result.now) term
    ∙ ap (λ (command : CommandFrame). after_fenced held (term_of c.args.frame.now.term) command) c.frame-command.ensures

abbrev floored : Option ℕ → AnswerFrame → FlooredAnswer
floored floor answer = record { floor = floor; answer = answer }

pub returns-clause-answer : goal.returns-clause-answer
returns-clause-answer c =
    let held = fenced_holding c.args.agent.now in
    let term = c.number_of.ensures ∙ ap term_of c.term-term.ensures in
    let floor = ap₂ floor_told c.term-term.ensures (c.in_ok-told.ensures.floor ∙ ap (λ (h : FencedHoldings). h.floor) (returns-clause-applied c)) in
    let answer =
    c.in_ok-told.ensures.answer
    ∙ ap (λ (n : ℕ). answer_fenced held n c.frame-command.result.now) term
    ∙ ap (λ (command : CommandFrame). answer_fenced held (term_of c.args.frame.now.term) command) c.frame-command.ensures in
    c.reply_of.ensures ∙ ap floored_bytes (ap₂ floored floor answer)
