-- Small ports and notes, of which the worked examples speak.
use Rattle.std.proofs.Common.{◌≡◌, ℕ, zero, suc, ◌<◌, ◌^◌, List, [], ◌∷◌, ◌++◌, length, Option, Some, refl, sym, ap, ◌∙◌, arith, append-nil, length-append}
use Rattle.std.proofs.lemmas.List.Elements.{All-cons, All-nil}
use Rattle.std.proofs.lemmas.Option.{same_Some}
use Rattle.std.specs.List.{All, Contains, flat_map}
use Rattle.rollout_rules.specs.Worked.{fresh, op_of}
use Rattle.rollout_rules.specs.declared.op.Op.{Op}
use Rattle.rollout_rules.specs.declared.op.Entry.{Entry}
use Rattle.rollout_rules.specs.declared.op.Entry.TheVariants.{Begin, Done}
use Rattle.wan_edge.specs.Frames.{AnswerFrame, CommandFrame, IsCommand, Splits, answer_bytes, command_bytes}
use Rattle.wan_edge.specs.Ports.{AllAnswered, BeginsNoCommand}
use Rattle.wan_edge.specs.Switches.{answers_to, holding_nothing}
use Rattle.wan_edge.proofs.Commands.{nothing_begins_no_command}
use Rattle.wan_edge.proofs.Sizes.{command-some}
use Rattle.port_session.specs.Offers.{frames_of}
use Rattle.port_session.proofs.Hearing.{length-answers}
use Rattle.shared_book.specs.declared.note.What.{What}
use Rattle.shared_book.specs.declared.note.What.TheVariants as what
use Rattle.shared_book.specs.declared.note.Written.{Written}
use Rattle.shared_book.specs.Worked.{says}
use Rattle.switch_ports.specs.Outboxes.{home_at}
use Rattle.switch_laws.specs.Worked.{answering, both_at_first, first_answer, first_command, silent, two_flows, unused}
use Rattle.switch_laws.proofs.SmallRuns.{unused_starts}
use Rattle.completion_laws.specs.Answering.{HasAnswered, IsReady}
use Rattle.completion_laws.specs.Turns.{EndsNoneAt, OthersEndElsewhere}
use Rattle.completion_laws.specs.Worked.{begins_first, one_sent, promptly, settles_first}

none-offered : (commands : List CommandFrame) (rest : List ℕ) → Splits command_bytes IsCommand [] commands rest → BeginsNoCommand rest → [] ≡ flat_map answer_bytes (answers_to holding_nothing commands)
none-offered [] rest split none = refl
none-offered (c ∷ commands) rest split none =
    absurd (omega (arith, ap length split.parts, length-append (command_bytes c ++ flat_map command_bytes commands) rest, length-append (command_bytes c) (flat_map command_bytes commands), command-some c))

pub one-fits : All IsCommand one_sent
one-fits =
    All-cons IsCommand (4, first_command) []
    (record {
      migration = omega arith;
      item = omega arith;
      number = omega arith;
      scale = omega arith;
      some = omega arith;
      few = omega arith;
      rates = All-cons (λ rate. rate < 2 ^ 64) 0 (0 ∷ 2 ∷ []) (omega arith) (All-cons (λ rate. rate < 2 ^ 64) 0 (2 ∷ []) (omega arith) (All-cons (λ rate. rate < 2 ^ 64) 2 [] (omega arith) (All-nil (λ rate. rate < 2 ^ 64))));
    })
    (All-nil IsCommand)

pub unused-ready : IsReady two_flows 4 both_at_first (fresh []) (promptly unused)
unused-ready = record {
  starts = record { honest = refl; none_kept = refl; heard = unused_starts.heard; offered = unused_starts.offered; held = unused_starts.held };
  prompt = refl;
  offered = refl;
  heard = refl;
  held = refl;
  in_order = record { commands = []; rest = []; whole = record { fit = All-nil IsCommand; parts = refl }; no_more = nothing_begins_no_command; carried_out = 0; holds = refl; to_come = []; heard_front = refl };
  no_more = none-offered;
  none_owed = refl;
}

unheard : (answers : List AnswerFrame) → 0 < length answers → [] ≡ flat_map answer_bytes answers → ⊥
unheard answers some e = omega (arith, some, ap length e, length-answers answers)

pub silent-waits : AllAnswered holding_nothing (frames_of 4 (first_command ∷ [])) [] → ⊥
silent-waits all = unheard (answers_to holding_nothing one_sent) (omega arith) (all one_sent [] (record { fit = one-fits; parts = sym (append-nil (frames_of 4 (first_command ∷ []))) }) nothing_begins_no_command)

pub answering-answered : HasAnswered one_sent (promptly answering)
answering-answered = record {
  prompt = refl;
  fit = one-fits;
  offered = refl;
  heard = ap told (sym (append-nil (answer_bytes (4, first_answer))));
  held = refl;
  none_kept = refl;
  none_owed = refl;
}
  where
    told : List ℕ → Option (List ℕ)
    told bytes = Some bytes

pub silent-unheard : HasAnswered one_sent (promptly silent) → ⊥
silent-unheard has = unheard (answers_to holding_nothing one_sent) (omega arith) (same_Some [] (flat_map answer_bytes (answers_to holding_nothing one_sent)) has.heard)

-- an entry of a list of one
pub only-entry : (e : Entry) (op : Op) → Contains (e ∷ []) (Done op) → e ≡ Done op
only-entry e op (zero, inside, is) = is
only-entry e op (suc k, inside, is) = absurd (omega (arith, inside))

pub done-same : (a op : Op) → Done a ≡ Done op → a ≡ op
done-same a op e = cc e

pub begins-none : (a op : Op) → Begin a ≡ Done op → ⊥
begins-none a op e = absurd (cc e)

-- ---- what others may settle
one-home : (op : Op) (switch : ℕ) → op_of 0 1 ≡ op → home_at both_at_first op.item ≡ Some switch → 0 ≡ switch
one-home op switch is home = same_Some 0 switch (ap (λ (x : Op). home_at both_at_first x.item) is ∙ home)

pub settles-elsewhere : EndsNoneAt both_at_first (7 ∷ []) settles_first
settles-elsewhere op at switch home among =
    let zero_is = one-home op switch (done-same (op_of 0 1) op (only-entry (Done (op_of 0 1)) op at)) home in
    not-seven switch (sym zero_is) among
  where
    not-seven : (switch : ℕ) → switch ≡ 0 → Contains (7 ∷ []) switch → ⊥
    not-seven switch none (zero, inside, is) = omega (arith, none, is)
    not-seven switch none (suc k, inside, is) = omega (arith, inside)

pub settles-here : EndsNoneAt both_at_first (0 ∷ []) settles_first → ⊥
settles-here ends = ends (op_of 0 1) (0, omega arith, refl) 0 refl (0, omega arith, refl)

pub begins-elsewhere : EndsNoneAt both_at_first (0 ∷ []) begins_first
begins-elsewhere op at switch home among = begins-none (op_of 0 1) op (only-entry (Begin (op_of 0 1)) op at)

pub both-own : OthersEndElsewhere both_at_first (0 ∷ []) 1 (begins_first ∷ settles_first ∷ [])
both-own w (zero, inside, is) other = absurd (other (ap (λ (v : Written). v.note.seat) is))
both-own w (suc zero, inside, is) other = absurd (other (ap (λ (v : Written). v.note.seat) is))
both-own w (suc (suc k), inside, is) other = absurd (omega (arith, inside))

-- ---- a history without a round
not-turned : (said : What) (dones begins : ℕ) → said ≡ what.Work → said ≡ what.Turned dones begins → ⊥
not-turned said dones begins a b = absurd (cc (sym a ∙ b))

pub work-no-turn : (front : List Written) (note : Written) (later : List Written) (dones begins : ℕ) → says 0 0 what.Work ∷ [] ≡ front ++ note ∷ later → note.note.what ≡ what.Turned dones begins → ⊥
work-no-turn [] note later dones begins is said = not-turned note.note.what dones begins (ap (λ (ws : List Written). what_of ws) (sym is)) said
  where
    what_of : List Written → What
    what_of [] = what.Work
    what_of (w ∷ ws) = w.note.what
work-no-turn (w ∷ front) note later dones begins is said = absurd (omega (arith, ap length is, length-append front (note ∷ later)))
