use Rattle.std.proofs.Common.{◌+◌, List, ℕ, codes, bytes_eq, ap, sym, ◌∙◌, arith}
use Rattle.takeover_top.proofs.TermPlaces.{passed-all, passed-more, passed-none, stands-at}
use Rattle.takeover_top.proofs.term_words.term_place.Goals as goal

pub loop-place-init : goal.loop-place-init
loop-place-init c = passed-none c.args.arguments.now

pub returns-then-is_term : goal.returns-then-is_term
returns-then-is_term c =
    stands-at c.args.arguments.now c.loop-place.place (omega (arith, c.loop-place-test.true, c.if-place-arguments.true)) c.index-arguments-place.result _ c.index-arguments-place.is
    (ap (λ (w : List ℕ). bytes_eq w (codes "--term")) (sym c.as_str.ensures.value) ∙ sym c.is_term.ensures ∙ c.if-is_term.true) c.loop-place.invariant

pub loop-place-preserved : goal.loop-place-preserved
loop-place-preserved c =
    passed-more c.args.arguments.now c.loop-place.place (omega (arith, c.loop-place-test.true, c.if-place-arguments.true)) c.index-arguments-place.result _ c.index-arguments-place.is
    (ap (λ (w : List ℕ). bytes_eq w (codes "--term")) (sym c.as_str.ensures.value) ∙ sym c.is_term.ensures ∙ c.if-is_term.false) c.loop-place.invariant

pub returns-else-place-arguments : goal.returns-else-place-arguments
returns-else-place-arguments c = passed-all c.args.arguments.now c.loop-place.place (omega (arith, c.if-place-arguments.false)) c.loop-place.invariant

pub returns-after-loop-place : goal.returns-after-loop-place
returns-after-loop-place c = passed-all c.args.arguments.now c.loop-place.place (omega (arith, c.loop-place-test.false)) c.loop-place.invariant
