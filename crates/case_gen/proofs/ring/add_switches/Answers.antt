use Rattle.std.proofs.Common.{◌≡◌, ℕ, List, ◌++◌, codes, decimal, slice_index, sym, subst, ◌∙◌, arith}
use Rattle.rollout_rules.specs.Building.{MayAddSwitch}
use Rattle.case_gen.specs.Rings.{switches_below}
use Rattle.case_gen.proofs.Fresh.{may_switch, switch_added}
use Rattle.case_gen.proofs.ring.add_switches.Goals as goal

pub loop-number-init : goal.loop-number-init
unfolding switches_below
loop-number-init c = c.requires.empty

pub add_switch-requires : goal.add_switch-requires
add_switch-requires c =
    let name : c.deref.result.now ≡ codes "s" ++ decimal c.loop-number.number-counter = c.deref.ensures ∙ c.in_ok-name.ensures.ok in
    subst (λ (text : List ℕ). MayAddSwitch c.loop-number.problem text (slice_index c.args.tables.now c.loop-number.number-counter)) (sym name)
    (may_switch c.args.tables.now c.requires.tables c.loop-number.number-counter (omega arith) c.loop-number.problem c.loop-number.invariant)

pub loop-number-preserved : goal.loop-number-preserved
loop-number-preserved c =
    switch_added c.args.tables.now c.loop-number.number-counter c.loop-number.problem _ _ c.loop-number.invariant (c.deref.ensures ∙ c.in_ok-name.ensures.ok) c.in_ok-add_switch.ensures.ok
