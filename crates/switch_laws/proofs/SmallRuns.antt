-- Small runs at a port, of which the worked examples speak.
use Rattle.std.proofs.Math.Seq.{take-length}
use Rattle.std.proofs.Common.{◌≡◌, ℕ, zero, suc, ◌^◌, ◌<◌, true, List, [], ◌∷◌, ◌++◌, Bool, false, length, Option, Some, inr, refl, sym, ap, ◌∙◌, subst, append_assoc, append-nil, arith, length-append}
use Rattle.std.proofs.lemmas.Bool.{true≢false}
use Rattle.std.proofs.lemmas.List.Elements.{All-cons, All-contains, All-nil}
use Rattle.std.specs.List.{All, Contains, flat_map}
use Rattle.rollout_rules.specs.Worked.{fresh, op_of}
use Rattle.rollout_rules.specs.declared.op.Op.{Op}
use Rattle.rollout_rules.specs.declared.op.Entry.{Entry}
use Rattle.rollout_rules.specs.declared.op.Entry.TheVariants.{Begin, Done}
use Rattle.rollout_rules.specs.History.{with_entries}
use Rattle.wan_edge.specs.Frames.{Answer, CommandFrame, IsAnswer, IsCommand, answer_bytes, command_bytes, command_head}
use Rattle.wan_edge.specs.Ports.{AnswersHeld, GoesOn, IsOffered, MovesByRule}
use Rattle.wan_edge.specs.Switches.{after_command, holding_nothing}
use Rattle.wan_edge.proofs.Commands.{IsHeld}
use Rattle.wire_frames.proofs.OneSpelling.{one_answer}
use Rattle.port_session.specs.Offers.{frames_of}
use Rattle.port_session.specs.Reading.{answers_of}
use Rattle.switch_ports.specs.Stories.{Tells}
use Rattle.switch_laws.specs.Runs.{IsAnswered, IsBegunCommand, MayCome, RunsAt, StartsAsFound}
use Rattle.switch_laws.specs.Worked.{answering, begun_and_done, both_at_first, first_answer, first_command, silent, two_flows, unused}
use Rattle.switch_laws.proofs.Answered.{all_told, none_in_nothing, told_before}

pub unused_starts : StartsAsFound two_flows 4 both_at_first (fresh []) unused
unused_starts = record {
  honest = refl;
  none_kept = refl;
  heard = record { answers = []; whole = record { fit = All-nil IsAnswer; parts = refl } };
  offered = record { commands = []; whole = record { fit = All-nil IsCommand; parts = refl }; each = All-nil (MayCome two_flows 4 (fresh []) holding_nothing) };
  held = λ n inside home. inr (record { earlier = omega arith; none = omega arith });
}

long : (c : CommandFrame) → 1 < length (command_bytes c)
unfolding command_bytes command_head
long c = omega arith

pub not_cut : (commands : List CommandFrame) → 77 ∷ [] ≡ flat_map command_bytes commands ++ [] → ⊥
not_cut [] parts = omega (arith, ap length parts)
not_cut (c ∷ cs) parts =
    omega (arith, ap length parts, length-append (command_bytes c ++ flat_map command_bytes cs) [], length-append (command_bytes c) (flat_map command_bytes cs), long c)

pub command_fits : IsCommand (4, first_command)
command_fits = record {
  migration = omega arith;
  item = omega arith;
  number = omega arith;
  scale = omega arith;
  some = omega arith;
  few = omega arith;
  rates = All-cons (λ rate. rate < 2 ^ 64) 0 (0 ∷ 2 ∷ []) (omega arith) (All-cons (λ rate. rate < 2 ^ 64) 0 (2 ∷ []) (omega arith) (All-cons (λ rate. rate < 2 ^ 64) 2 [] (omega arith) (All-nil (λ rate. rate < 2 ^ 64))));
}

pub answer_fits : IsAnswer (4, first_answer)
answer_fits = record { migration = omega arith; item = omega arith; held = omega arith }

moves : MovesByRule (frames_of 4 (first_command ∷ [])) holding_nothing (after_command holding_nothing (4, first_command))
moves = record {
  delivered = (4, first_command) ∷ [];
  each_offered = All-cons (IsOffered (frames_of 4 (first_command ∷ []))) (4, first_command) [] (record { earlier = []; earlier_fit = All-nil IsCommand; fits = command_fits; behind = []; parts = refl }) (All-nil (IsOffered (frames_of 4 (first_command ∷ []))));
  moved = refl;
}

-- what was heard is this one answer
held : AnswersHeld (answer_bytes (4, first_answer)) (after_command holding_nothing (4, first_command))
held [] rest split = All-nil (IsHeld (after_command holding_nothing (4, first_command)))
held (a ∷ later) rest split =
    let holds = IsHeld (after_command holding_nothing (4, first_command)) in
    let parts = one_answer (4, first_answer) a [] (flat_map answer_bytes later ++ rest) answer_fits (split.fit 0 a (omega arith))
    (append-nil (answer_bytes (4, first_answer)) ∙ split.parts ∙ append_assoc (answer_bytes a) (flat_map answer_bytes later) rest) in
    All-cons holds a later (subst holds parts.0 refl) (none_in_nothing holds later (omega (arith, ap length parts.1, length-append (flat_map answer_bytes later) rest)))

pub one_answered : All IsAnswer ((4, first_answer) ∷ [])
one_answered = All-cons IsAnswer (4, first_answer) [] answer_fits (All-nil IsAnswer)

tells : Tells 4 unused (first_answer ∷ []) answering
unfolding answers_of
tells = record {
  bytes = answer_bytes (4, first_answer);
  appended = refl;
  reads = record {
    answers = (4, first_answer) ∷ [];
    rest = [];
    whole = record { fit = one_answered; parts = sym (append-nil (answer_bytes (4, first_answer))) ∙ sym (append-nil (answer_bytes (4, first_answer) ++ [])) };
    told_more = refl;
    awaited_less = refl;
    ends = refl;
  };
}

goes_on : GoesOn unused.port answering.port
goes_on = record {
  sent = frames_of 4 (first_command ∷ []);
  offered = refl;
  came = answer_bytes (4, first_answer);
  heard = refl;
  count = omega arith;
  told = refl;
  honest = refl;
  prompt = refl;
  start = refl;
  by_rule = inr (record { moves = moves; answers = held });
  in_order = tt;
}

told_bytes : List ℕ → Option (List ℕ)
told_bytes bytes = Some bytes

is_done : Entry → Bool
is_done (Begin op) = false
is_done (Done op) = true

op_in : Entry → Op
op_in (Begin op) = op
op_in (Done op) = op

-- the one Done
answered : (op : Op) → Contains begun_and_done (Done op) → IsAnswered 4 op unused answering
unfolding is_done op_in told_bytes
answered op (zero, inside, is) = absurd (true≢false (sym (ap is_done is)))
answered op (suc zero, inside, is) = record {
  moment = answering;
  answer = first_answer;
  told = record { is_port = refl; told = first_answer ∷ []; tells = tells; among = (0, omega arith, refl) };
  later = [];
  heard_since = ap told_bytes (sym (append-nil (answer_bytes (4, first_answer))));
  item = ap (λ (o : Op). o.item) (ap op_in is);
  number = omega (arith, ap (λ (o : Op). o.number) (ap op_in is));
}
answered op (suc (suc k), inside, is) = absurd (omega (arith, inside))

pub ran : RunsAt two_flows 4 both_at_first (fresh []) begun_and_done (first_command ∷ []) unused answering
unfolding told_bytes
ran = record {
  starts = unused_starts;
  story = record {
    switch = refl;
    goes_on = goes_on;
    part = record { count = length (frames_of 4 (first_command ∷ [])); within = omega arith; appended = ap told_bytes (sym (take-length (frames_of 4 (first_command ∷ [])))) };
  };
  begun = All-cons (IsBegunCommand two_flows (with_entries (fresh []) begun_and_done)) first_command [] (record { op = op_of 0 1; there = (0, omega arith, refl); is = refl }) (All-nil (IsBegunCommand two_flows (with_entries (fresh []) begun_and_done)));
  answered = λ op has home. answered op has;
}

-- where nothing was heard, nothing was told
pub untold : (op : Op) → IsAnswered 4 op unused silent → ⊥
untold op is =
    let tells = is.told.tells in
    let between = told_before is.moment.port.heard (Some []) is.later [] is.heard_since refl in
    let before = told_before (Some []) is.moment.port.heard tells.bytes between.0 tells.appended between.1 in
    let none : length (flat_map answer_bytes tells.reads.answers) ≡ 0
    = omega (arith, ap length between.2, length-append between.0 is.later, ap length before.2, length-append before.0 tells.bytes, ap length tells.reads.whole.parts, length-append (flat_map answer_bytes tells.reads.answers) tells.reads.rest) in
    let told : All (λ a. ⊥) is.told.told = subst (λ (xs : List Answer). All (λ a. ⊥) xs) (sym tells.reads.told_more) (all_told (λ a. ⊥) 4 tells.reads.answers (none_in_nothing (λ a. ⊥) tells.reads.answers none)) in
    All-contains (λ a. ⊥) is.told.told is.answer told is.told.among
