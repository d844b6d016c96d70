use Rattle.std.proofs.Common.{◌≡◌, ℕ, zero, suc, ◌+◌, ◌-◌, ◌<◌, ◌≤◌, length, List, Option, Some, None, ap, ◌∙◌, sym, subst, arith}
use Rattle.fraction_lp.specs.declared.answer.LpAnswer.{LpAnswer}
use Rattle.fraction_lp.specs.declared.answer.LpAnswer.TheVariants.{Overflow, Spent}
use Rattle.fraction_lp.specs.Dictionary.{Row}
use Rattle.fraction_lp.specs.declared.term.Term.{Term}
use Rattle.fraction_lp.specs.declared.simplex.Choice.{Choice}
use Rattle.fraction_lp.specs.declared.simplex.Choice.TheVariants.{End, Exchange}
use Rattle.fraction_lp.specs.Choices.{IsChoice}
use Rattle.fraction_lp.specs.Dictionary.{Program, IsWhole, Dictionary, end_of, end_from, first_dictionary, after_exchange, exchanged}
use Rattle.fraction_lp.proofs.Ends.{ended, spent, exchanged_on, whole}
use Rattle.fraction_lp.specs.Program.{IsJust}
use Rattle.fraction_lp.proofs.Method.{IsSound, first_is_sound, stays_sound, end_is_just, entering_within}
use Rattle.fraction_lp.proofs.simplex.run.Goals as goal

ends_here : (p : Program) (left made : ℕ) (d : Dictionary) (choice : Choice) (answer : LpAnswer) →
    end_of p ≡ end_from p left made d → IsChoice choice p d → choice ≡ End answer → answer ≡ end_of p
ends_here p left made d choice answer end is e =
    sym (end ∙ ended p left made d answer (subst (λ (x : Choice). IsChoice x p d) e is))

goes_on : (p : Program) (made : ℕ) (d : Dictionary) (choice : Choice) (b : ℕ) (t : Term) (after : Option Dictionary) → made < 1000 →
    end_of p ≡ end_from p (1000 - made) made d → IsChoice choice p d → choice ≡ Exchange b t → exchanged b t d ≡ after →
    end_of p ≡ after_exchange made (end_from p (1000 - (made + 1)) (made + 1)) after
goes_on p made d choice b t after few end is e x =
    let found : IsChoice (Exchange b t) p d = subst (λ (y : Choice). IsChoice y p d) e is in
    let left : 1000 - made ≡ suc (1000 - (made + 1)) = omega arith in
    end ∙ ap (λ n. end_from p n made d) left ∙ exchanged_on p (1000 - (made + 1)) made d b t after found.0 found.1 x

program_of : (p : Program) (unknowns : ℕ) (rows : List Row) → unknowns ≡ p.unknowns → rows ≡ p.rows →
    record { unknowns = unknowns; rows = rows } ≡ p
program_of p unknowns rows e h =
    ap (λ n. let q : Program = record { unknowns = n; rows = rows } in q) e
    ∙ ap (λ rs. let q : Program = record { unknowns = p.unknowns; rows = rs } in q) h

just_here : (p : Program) (d : Dictionary) (choice : Choice) (answer : LpAnswer) → IsWhole p → IsSound p d →
    IsChoice choice p d → choice ≡ End answer → IsJust p answer
just_here p d choice answer whole s is e = end_is_just p d answer whole s (subst (λ (x : Choice). IsChoice x p d) e is)

pub loop-made-init : goal.loop-made-init
loop-made-init c =
    let first : c.in_ok-dictionary.dictionary ≡ first_dictionary c.args.rows.now =
    c.in_ok-dictionary.ensures ∙ ap first_dictionary (program_of c.args.rows.now _ _ c.unknowns.ensures c.rows.ensures.value) in
    record {
      sound = subst (IsSound c.args.rows.now) (sym first) (first_is_sound c.args.rows.now c.rows.ensures.whole);
      end = whole c.args.rows.now ∙ ap (end_from c.args.rows.now 1000 0) (sym first);
    }

pub choose-requires : goal.choose-requires
choose-requires c = c.loop-made.invariant.sound.width

pub choose-requires-2 : goal.choose-requires-2
choose-requires-2 c = c.loop-made.invariant.sound.width

pub exchange-requires-clause-c : goal.exchange-requires-clause-c
exchange-requires-clause-c c =
    let found : IsChoice (Exchange c.in-Exchange.b c.in-Exchange.term) c.args.rows.now c.loop-made.dictionary =
    subst (λ (x : Choice). IsChoice x c.args.rows.now c.loop-made.dictionary) c.in-Exchange.is c.in_ok-answer.ensures in
    entering_within c.loop-made.dictionary c.in-Exchange.b c.in-Exchange.term c.loop-made.invariant.sound.proper found.0 found.1

pub returns-in-End-clause-end : goal.returns-in-End-clause-end
returns-in-End-clause-end c = ends_here _ _ _ _ _ _ c.loop-made.invariant.end c.in_ok-answer.ensures c.in-End.is

pub returns-in-End-clause-just : goal.returns-in-End-clause-just
returns-in-End-clause-just c = just_here _ _ _ _ c.rows.ensures.whole c.loop-made.invariant.sound c.in_ok-answer.ensures c.in-End.is

pub returns-in-End-2-clause-end : goal.returns-in-End-2-clause-end
returns-in-End-2-clause-end c = ends_here _ _ _ _ _ _ c.loop-made.invariant.end c.in_ok-answer-2.ensures c.in-End-2.is

pub returns-in-End-2-clause-just : goal.returns-in-End-2-clause-just
returns-in-End-2-clause-just c = just_here _ _ _ _ c.rows.ensures.whole c.loop-made.invariant.sound c.in_ok-answer-2.ensures c.in-End-2.is

pub returns-in-Err-Overflow-clause-end : goal.returns-in-Err-Overflow-clause-end
returns-in-Err-Overflow-clause-end c =
    let none : exchanged c.in-Exchange.b c.in-Exchange.term c.loop-made.dictionary ≡ None =
    rw c.in-Err-Overflow.field-0-is at c.in-Err-Overflow.ensures in
    let few : c.loop-made.made < 1000 = omega arith in
    sym (goes_on c.args.rows.now c.loop-made.made c.loop-made.dictionary _ c.in-Exchange.b c.in-Exchange.term None few
    c.loop-made.invariant.end c.in_ok-answer.ensures c.in-Exchange.is none)

pub loop-made-preserved : goal.loop-made-preserved
loop-made-preserved c =
    let few : c.loop-made.made < 1000 = omega arith in
    let found : IsChoice (Exchange c.in-Exchange.b c.in-Exchange.term) c.args.rows.now c.loop-made.dictionary =
    subst (λ (x : Choice). IsChoice x c.args.rows.now c.loop-made.dictionary) c.in-Exchange.is c.in_ok-answer.ensures in
    record {
      sound =
          stays_sound c.args.rows.now c.loop-made.dictionary c.exchange.new.self c.in-Exchange.b c.in-Exchange.term
          c.loop-made.invariant.sound found.0 found.1 c.in-Ok.ensures;
      end = goes_on c.args.rows.now c.loop-made.made c.loop-made.dictionary _ c.in-Exchange.b c.in-Exchange.term (Some c.exchange.new.self) few
          c.loop-made.invariant.end c.in_ok-answer.ensures c.in-Exchange.is c.in-Ok.ensures;
    }

pub returns-clause-end : goal.returns-clause-end
returns-clause-end c =
    let all : c.loop-made.made ≡ 1000 = omega arith in
    let found : IsChoice (Exchange c.in-Exchange-2.field-0 c.in-Exchange-2.field-1) c.args.rows.now c.loop-made.dictionary =
    subst (λ (x : Choice). IsChoice x c.args.rows.now c.loop-made.dictionary) c.in-Exchange-2.is c.in_ok-answer-2.ensures in
    let none : 1000 - c.loop-made.made ≡ 0 = omega arith in
    sym (c.loop-made.invariant.end ∙ ap (λ n. end_from c.args.rows.now n c.loop-made.made c.loop-made.dictionary) none
    ∙ ap (λ n. end_from c.args.rows.now 0 n c.loop-made.dictionary) all
    ∙ spent c.args.rows.now 1000 c.loop-made.dictionary c.in-Exchange-2.field-0 c.in-Exchange-2.field-1 found.0 found.1)
