use Rattle.std.proofs.Common.{◌≡◌, ◌==◌, true, false, List, length, refl, sym, ap, ◌∙◌}
use Rattle.rollout_rules.specs.declared.op.Op.{Op}
use Rattle.shared_book.proofs.Woken.{woken-rest, woken-work}
use Rattle.shared_book.proofs.waking.end_of_wait.Goals as goal

pub returns-in-Some-first_asked : goal.returns-in-Some-first_asked
returns-in-Some-first_asked g c =
    woken-work c.args.chronicle.now c.args.halted c.args.homes.now c.args.switches.now c.flying.result.now c.first_asked.result c.in_default.is c.requires c.flying.ensures.value c.flying.ensures.items c.first_asked.ensures
    c.in-Some-first_asked.op c.in-Some-first_asked.is

pub returns-then-finished : goal.returns-then-finished
returns-then-finished g c =
    woken-rest c.args.chronicle.now c.args.halted c.args.homes.now c.args.switches.now c.flying.result.now c.first_asked.result c.in_default.is c.requires c.flying.ensures.value c.flying.ensures.items c.first_asked.ensures
    true _ c.in_default-first_asked.is (sym c.finished.ensures ∙ c.if-finished.true) refl

pub returns : goal.returns
returns g c =
    woken-rest c.args.chronicle.now c.args.halted c.args.homes.now c.args.switches.now c.flying.result.now c.first_asked.result c.in_default.is c.requires c.flying.ensures.value c.flying.ensures.items c.first_asked.ensures
    false false c.in_default-first_asked.is (sym c.finished.ensures ∙ c.if-finished.false) (ap (λ (ops : List Op). length ops == 0) (sym c.flying-2.ensures.value) ∙ sym c.is_empty.ensures ∙ c.if-is_empty.false)
