-- Why the worked examples hold.
use Rattle.std.proofs.Common.{◌≡◌, ℕ, zero, suc, ◌<◌, ◌≤◌, ◌^◌, List, [], ◌∷◌, ◌++◌, length, take, true, refl, sym, ap, subst, ◌∙◌, arith, length-append}
use Rattle.std.specs.List.{All, flat_map}
use Rattle.std.proofs.lemmas.List.{append-nil}
use Rattle.std.proofs.lemmas.List.Elements.{All-cons, All-head, All-nil}
use Rattle.rollout_rules.specs.Agent.{is_at_most}
use Rattle.wan_edge.specs.Frames.{CommandFrame, IsAnswer, IsCommand, Splits, answer_bytes, command_bytes}
use Rattle.wan_edge.specs.Ports.{AllAnswered, AnswersHeld, AnswersInOrder, IsOffered, MovesByRule}
use Rattle.wan_edge.specs.Switches.{pair_given, Holdings, after_command, after_commands, answers_to, holding_nothing}
use Rattle.wan_edge.proofs.Sizes.{answer-length}
use Rattle.wan_edge.proofs.Commands.{nothing_begins_no_command, nothing_is_offered}
use Rattle.lossy_link.specs.Worked.{first, first_held}
use Rattle.lossy_link.proofs.Ordered.{one_split}

first_fits : IsCommand first
first_fits = record { migration = omega arith; item = omega arith; number = omega arith; scale = omega arith; some = omega arith; few = omega arith; rates = All-cons (λ rate. rate < 2 ^ 64) 6 (6 ∷ []) (omega arith) (All-cons (λ rate. rate < 2 ^ 64) 6 [] (omega arith) (All-nil (λ rate. rate < 2 ^ 64))) }

first_held_fits : IsAnswer first_held
first_held_fits = record { migration = omega arith; item = omega arith; held = omega arith }

first_alone : Splits command_bytes IsCommand (command_bytes first) (first ∷ []) []
first_alone = record { fit = All-cons IsCommand first [] first_fits (All-nil IsCommand); parts = sym (append-nil (command_bytes first)) ∙ ap (λ (xs : List ℕ). xs ++ []) (sym (append-nil (command_bytes first))) }

first_offered : IsOffered (command_bytes first) first
first_offered = record { earlier = []; earlier_fit = All-nil IsCommand; fits = first_fits; behind = []; parts = sym (append-nil (command_bytes first)) }

pub repeated : MovesByRule (command_bytes first) holding_nothing (after_commands holding_nothing (first ∷ first ∷ []))
repeated = record {
  delivered = first ∷ first ∷ [];
  each_offered = All-cons (IsOffered (command_bytes first)) first (first ∷ []) first_offered (All-cons (IsOffered (command_bytes first)) first [] first_offered (All-nil (IsOffered (command_bytes first))));
  moved = refl;
}

pub never_offered : MovesByRule [] holding_nothing (after_command holding_nothing first) → ⊥
never_offered moved = of moved.delivered moved.each_offered moved.moved
  where
    of : (delivered : List CommandFrame) → All (IsOffered []) delivered → after_command holding_nothing first ≡ after_commands holding_nothing delivered → ⊥
    of [] each same = absurd (omega (arith, ap (λ (h : Holdings). (h 3).held.number) same))
    of (c ∷ cs) each same = nothing_is_offered c (All-head (IsOffered []) c cs each)

pub above : AnswersHeld (answer_bytes first_held) holding_nothing → ⊥
above held =
    let one = held (first_held ∷ []) [] (record { fit = All-cons IsAnswer first_held [] first_held_fits (All-nil IsAnswer); parts = sym (append-nil (answer_bytes first_held)) ∙ ap (λ (xs : List ℕ). xs ++ []) (sym (append-nil (answer_bytes first_held))) }) in
    absurd (cc (All-head (λ a. is_at_most (pair_given a) (holding_nothing a.1.item).held ≡ true) first_held [] one))

one_answer : length (flat_map answer_bytes (answers_to holding_nothing (first ∷ []))) ≡ 13
one_answer = ap length (append-nil (answer_bytes first_held)) ∙ answer-length first_held

-- at most one answer comes to at most one command
few_bytes : (cs : List CommandFrame) (n : ℕ) → cs ≡ first ∷ [] → length (flat_map answer_bytes (answers_to holding_nothing (take n cs))) ≤ 13
few_bytes cs n is = subst (λ (xs : List CommandFrame). length (flat_map answer_bytes (answers_to holding_nothing (take n xs))) ≤ 13) (sym is) (at n)
  where
    at : (k : ℕ) → length (flat_map answer_bytes (answers_to holding_nothing (take k (first ∷ [])))) ≤ 13
    at zero = omega arith
    at (suc zero) = omega (arith, one_answer)
    at (suc (suc k)) = omega (arith, one_answer)

pub twice : (now : Holdings) → AnswersInOrder holding_nothing (command_bytes first) (answer_bytes first_held ++ answer_bytes first_held) now → ⊥
twice now order =
    let one : order.commands ≡ first ∷ [] = one_split order.commands (first ∷ []) order.rest [] order.whole.fit first_alone.fit order.no_more nothing_begins_no_command (sym order.whole.parts ∙ first_alone.parts) in
    absurd (omega (arith, few_bytes order.commands order.carried_out one, ap length order.heard_front, length-append (answer_bytes first_held ++ answer_bytes first_held) order.to_come, length-append (answer_bytes first_held) (answer_bytes first_held), answer-length first_held))

pub unheard : AllAnswered holding_nothing (command_bytes first) [] → ⊥
unheard all = absurd (omega (arith, ap length (all (first ∷ []) [] first_alone nothing_begins_no_command), one_answer))
