-- What a switch may hold to which one command went out.
use Rattle.std.proofs.Common.{◌≡◌, ℕ, ◌^◌, ◌<◌, ◌++◌, List, [], ◌∷◌, length, inl, inr, refl, sym, ap, ◌∙◌, subst, append_assoc, append-nil, arith, length-append}
use Rattle.std.proofs.lemmas.List.Elements.{All-append, All-cons, All-contains, All-head, All-nil}
use Rattle.std.specs.List.{All, flat_map}
use Rattle.rollout_rules.specs.History.{History}
use Rattle.rollout_rules.specs.Worked.{begin_of, fresh, op_of}
use Rattle.wan_edge.specs.Frames.{CommandFrame, IsAnswer, IsCommand, answer_bytes, command_bytes, command_head}
use Rattle.wan_edge.specs.Ports.{AnswersHeld, IsOffered, MovesByRule}
use Rattle.wan_edge.specs.Switches.{Holdings, after_command, after_commands, holding_nothing}
use Rattle.wan_edge.proofs.Commands.{nothing_is_offered, none_moves, IsHeld}
use Rattle.wire_frames.proofs.OneSpelling.{one_answer}
use Rattle.port_session.specs.Offers.{frames_of}
use Rattle.switch_laws.specs.Runs.{AreCommands, MayCome}
use Rattle.switch_laws.specs.Worked.{both_at_first, first_answer, first_command, two_flows, unused}
use Rattle.switch_laws.proofs.Answered.{none_in_nothing}
use Rattle.switch_laws.proofs.Offered.{one_offered}
use Rattle.switch_laws.proofs.SmallRuns.{answer_fits, command_fits, one_answered}
use Rattle.completion_laws.specs.Untold.{IsFoundWith, MayHold}
use Rattle.completion_laws.specs.WorkedHoldings.{at_start, second_ahead, second_command}

abbrev pub sent : List ℕ
sent = frames_of 4 (first_command ∷ [])

abbrev pub moved : Holdings
moved = after_command holding_nothing (4, first_command)

came-once : MovesByRule sent holding_nothing moved
came-once = record {
  delivered = (4, first_command) ∷ [];
  each_offered = All-cons (IsOffered sent) (4, first_command) [] (record { earlier = []; earlier_fit = All-nil IsCommand; fits = command_fits; behind = []; parts = refl }) (All-nil (IsOffered sent));
  moved = refl;
}

none-heard : (holdings : Holdings) → AnswersHeld [] holdings
none-heard holdings answers rest split = none_in_nothing (IsHeld holdings) answers (omega (arith, ap length split.parts, length-append (flat_map answer_bytes answers) rest))

pub may-have-come : MayHold sent [] holding_nothing moved
may-have-come = record { moves = came-once; answers = none-heard moved }

pub may-be-lost : MayHold sent [] holding_nothing holding_nothing
may-be-lost = record { moves = none_moves sent holding_nothing; answers = none-heard holding_nothing }

second_fits : IsCommand (4, second_command)
second_fits = record {
  migration = omega arith;
  item = omega arith;
  number = omega arith;
  scale = omega arith;
  some = omega arith;
  few = omega arith;
  rates = All-cons (λ rate. rate < 2 ^ 64) 0 (2 ∷ 0 ∷ []) (omega arith) (All-cons (λ rate. rate < 2 ^ 64) 2 (0 ∷ []) (omega arith) (All-cons (λ rate. rate < 2 ^ 64) 0 [] (omega arith) (All-nil (λ rate. rate < 2 ^ 64))));
}

pub may-overtake : MayHold (frames_of 4 second_ahead) [] at_start (after_commands at_start ((4, first_command) ∷ (4, second_command) ∷ []))
unfolding command_bytes command_head
may-overtake =
    let bytes = frames_of 4 second_ahead in
    let behind : IsOffered bytes (4, first_command) = record { earlier = (4, second_command) ∷ []; earlier_fit = All-cons IsCommand (4, second_command) [] second_fits (All-nil IsCommand); fits = command_fits; behind = []; parts = refl } in
    let ahead : IsOffered bytes (4, second_command) = record { earlier = []; earlier_fit = All-nil IsCommand; fits = second_fits; behind = command_bytes (4, first_command); parts = refl } in
    record {
      moves = record {
        delivered = (4, first_command) ∷ (4, second_command) ∷ [];
        each_offered = All-cons (IsOffered bytes) (4, first_command) ((4, second_command) ∷ []) behind (All-cons (IsOffered bytes) (4, second_command) [] ahead (All-nil (IsOffered bytes)));
        moved = refl;
      };
      answers = none-heard (after_commands at_start ((4, first_command) ∷ (4, second_command) ∷ []));
    }

-- what was heard is this one answer
one-heard : AnswersHeld (answer_bytes (4, first_answer)) moved
one-heard [] rest split = All-nil (IsHeld moved)
one-heard (a ∷ later) rest split =
    let parts = one_answer (4, first_answer) a [] (flat_map answer_bytes later ++ rest) answer_fits (split.fit 0 a (omega arith))
    (append-nil (answer_bytes (4, first_answer)) ∙ split.parts ∙ append_assoc (answer_bytes a) (flat_map answer_bytes later) rest) in
    All-cons (IsHeld moved) a later (subst (IsHeld moved) parts.0 refl) (none_in_nothing (IsHeld moved) later (omega (arith, ap length parts.1, length-append (flat_map answer_bytes later) rest)))

pub has-come : MayHold sent (answer_bytes (4, first_answer)) holding_nothing moved
has-come = record { moves = came-once; answers = one-heard }

-- the pair that was answered isn't held
pub not-lost : MayHold sent (answer_bytes (4, first_answer)) holding_nothing holding_nothing → ⊥
not-lost may =
    let each = may.answers ((4, first_answer) ∷ []) [] (record { fit = one_answered; parts = sym (append-nil (answer_bytes (4, first_answer))) ∙ sym (append-nil (answer_bytes (4, first_answer) ++ [])) }) in
    let held = All-head (IsHeld holding_nothing) (4, first_answer) [] each in
    cc held

pub not-moved : MayHold [] [] holding_nothing moved → ⊥
not-moved may = none may.moves.delivered may.moves.each_offered may.moves.moved
  where
    none : (delivered : List CommandFrame) → All (IsOffered []) delivered → moved ≡ after_commands holding_nothing delivered → ⊥
    none [] each is = omega (arith, ap (λ (holdings : Holdings). (holdings 0).held.number) is)
    none (c ∷ cs) each is = nothing_is_offered c (All-head (IsOffered []) c cs each)

abbrev pub begun_one : History
begun_one = fresh (begin_of 0 1 ∷ [])

one-on_its_way : AreCommands two_flows 4 begun_one holding_nothing (sent ++ [])
one-on_its_way = record {
  commands = (4, first_command) ∷ [];
  whole = record { fit = All-cons IsCommand (4, first_command) [] command_fits (All-nil IsCommand); parts = refl };
  each = All-cons (MayCome two_flows 4 begun_one holding_nothing) (4, first_command) [] (inl (refl, record { op = op_of 0 1; there = (0, omega arith, refl); is = refl }))
      (All-nil (MayCome two_flows 4 begun_one holding_nothing));
}

pub on-its-way : IsFoundWith two_flows 4 both_at_first begun_one unused sent holding_nothing
on-its-way = record {
  held = λ n inside home. inr (record { earlier = omega arith; none = omega arith });
  offered = one-on_its_way;
  heard = record { answers = []; whole = record { fit = All-nil IsAnswer; parts = refl } };
  none_kept = refl;
}

-- the one command may not come where nothing is begun
may-not-come : MayCome two_flows 4 (fresh []) holding_nothing (4, first_command) → ⊥
may-not-come (inl own) = omega (arith, own.1.there.1)
may-not-come (inr (inl late)) = omega (arith, late.earlier)
may-not-come (inr (inr none)) = omega (arith, none)

pub not-on-its-way : IsFoundWith two_flows 4 both_at_first (fresh []) unused sent holding_nothing → ⊥
not-on-its-way found =
    let there = found.offered in
    let May = MayCome two_flows 4 (fresh []) holding_nothing in
    let is : IsOffered (flat_map command_bytes there.commands ++ []) (4, first_command)
    = record { earlier = []; earlier_fit = All-nil IsCommand; fits = command_fits; behind = []; parts = sym there.whole.parts ∙ append-nil sent } in
    let among = one_offered there.commands [] 0 (4, first_command) there.whole.fit (All-nil IsCommand) is in
    may-not-come (All-contains May (there.commands ++ []) (4, first_command) (All-append May there.commands [] there.each (All-nil May)) among)
