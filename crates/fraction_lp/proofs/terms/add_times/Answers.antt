use Rattle.std.proofs.Common.{◌≡◌, List, [], ◌∷◌, ◌++◌, Option, Some, None, ap, ◌∙◌, sym, append_assoc, refl, suc, ◌+◌, ◌-◌, ◌<◌, length, take, drop, drop-cons, add-one, arith}
use Rattle.std.proofs.lemmas.Grind.{common_steps}
use Rattle.fraction_lp.specs.declared.term.Term.{Term}
use Rattle.fraction_lp.specs.Ratio.{Ratio}
use Rattle.fraction_lp.specs.Dictionary.{below, from, both_lists, times_each, add_first, add_times}
use Rattle.fraction_lp.specs.Steps.{behind}
use Rattle.fraction_lp.proofs.terms.add_times.Goals as goal

joined : (old mid : List Term) (m r : Option (List Term)) → behind old m ≡ Some mid → behind old (both_lists m r) ≡ behind mid r
joined old mid None r e = cc
joined old mid (Some a) None e = refl
joined old mid (Some a) (Some b) e =
    let same : old ++ a ≡ mid = cc in ap Some (sym (append_assoc old a b) ∙ ap (λ xs. xs ++ b) same)

-- one term: the others before it, then itself
goes_on : (t : Ratio) (x : Term) (xs others before later rest old mid new : List Term) →
    before ≡ below x.number others → later ≡ from x.number others →
    behind old (times_each t before) ≡ Some mid →
    behind mid (add_first t x (add_times t xs) later) ≡ behind new (add_times t xs rest) →
    behind old (add_times t (x ∷ xs) others) ≡ behind new (add_times t xs rest)
goes_on t x xs others before later rest old mid new p q e h =
    joined old mid (times_each t (below x.number others)) (add_first t x (add_times t xs) (from x.number others))
    (ap (λ us. behind old (times_each t us)) (sym p) ∙ e)
    ∙ ap (λ us. behind mid (add_first t x (add_times t xs) us)) (sym q) ∙ h

pub loop-term-preserved : goal.loop-term-preserved
loop-term-preserved c =
    let xs : List Term = drop (c.loop-term.term-index + 1) c.args.terms.now in
    let rest : List Term = drop c.in_ok-taken.taken c.split_at.result.1.now in
    let inside : c.loop-term.term-index < length c.args.terms.now = omega arith in
    let here : drop c.loop-term.term-index c.args.terms.now ≡ c.term-item.result ∷ xs =
    rw add-one (drop-cons c.args.terms.now c.loop-term.term-index c.term-item.result inside ∙ ap (λ x. x ∷ drop (suc c.loop-term.term-index) c.args.terms.now) (sym c.term-item.is)) in
    let all : take (length c.split_at.result.1.now - c.in_ok-taken.taken) rest ≡ rest = grind (arith, common_steps) in
    c.loop-term.invariant
    ∙ ap (λ ts. behind c.loop-term.made.items (add_times c.args.t ts c.loop-term.rest.now)) here
    ∙ goes_on c.args.t c.term-item.result xs c.loop-term.rest.now c.split_at.result.0.now c.split_at.result.1.now rest
    c.loop-term.made.items c.times_each.new.made.items c.add_first.new.made.items
    (c.split_at.ensures.front ∙ c.count_below.ensures.before) (c.split_at.ensures.back ∙ c.count_below.ensures.later)
    c.in_ok-times_each.ensures (c.in_ok-taken.ensures.1 (add_times c.args.t xs))
    ∙ ap (λ us. behind c.add_first.new.made.items (add_times c.args.t xs us)) (sym all)
