-- What taking, carrying out and answering one command more comes to.
use Rattle.std.proofs.Common.{◌≡◌, ℕ, zero, suc, ◌≤◌, List, [], ◌∷◌, ◌++◌, replicate, refl, sym, ap, subst, ◌∙◌, append_assoc, arith}
use Rattle.std.specs.List.{All, flat_map}
use Rattle.std.proofs.lemmas.Grind.{flat_map-append}
use Rattle.std.proofs.lemmas.List.{append-nil}
use Rattle.std.proofs.lemmas.List.Elements.{All-cons, All-head, All-nil}
use Rattle.lists.proofs.Elements.{All-left, All-right}
use Rattle.wan_edge.specs.Frames.{CommandFrame, IsCommand, Splits, answer_bytes, command_bytes}
use Rattle.wan_edge.specs.Ports.{IsOffered, MovesByRule}
use Rattle.wan_edge.specs.Switches.{Holdings, after_command, after_commands, answer_to}
use Rattle.wan_edge.proofs.Commands.{after_commands-append}
use Rattle.lossy_link.specs.Faithful.{AreAnswered, AreFirstAnswered, bytes_to}
use Rattle.lossy_link.specs.Incoming.{GivesNext, HasCommands, Stream, TakesBehind, TakesMore}
use Rattle.lossy_link.specs.WayBack.{Back, with_due}
use Rattle.lossy_link.proofs.Taking.{bytes_to-append}

back_of : List ℕ → List ℕ → Back
back_of heard due = record { heard = heard; due = due }

none_due : (b : Back) → with_due b [] ≡ b
unfolding back_of
none_due b = ap (back_of b.heard) (append-nil b.due)

pub due-append : (b : Back) (xs ys : List ℕ) → with_due (with_due b xs) ys ≡ with_due b (xs ++ ys)
unfolding back_of
due-append b xs ys = ap (back_of b.heard) (append_assoc b.due xs ys)

-- ---- one command more

pub none_answered : (held : Holdings) (back : Back) → AreAnswered held held back back []
none_answered held back = record { carried_out = refl; answered = sym (none_due back) }

-- it is carried out and answered
pub answered_on : (held held_then held_now : Holdings) (back back_then back_now : Back) (c : CommandFrame) → held_now ≡ after_command held_then c → back_now ≡ with_due back_then (answer_bytes (answer_to held_then c))
    → (cs : List CommandFrame) → AreAnswered held held_then back back_then cs → AreAnswered held held_now back back_now (cs ++ c ∷ [])
answered_on held held_then held_now back back_then back_now c held_is back_is cs so =
    let mine = bytes_to held cs in
    let bytes = answer_bytes (answer_to held_then c) in
    let spelled : mine ++ bytes ≡ bytes_to held (cs ++ c ∷ [])
    = ap (λ (xs : List ℕ). mine ++ xs) (sym (append-nil bytes) ∙ ap (λ (h : Holdings). bytes_to h (c ∷ [])) so.carried_out) ∙ sym (bytes_to-append held cs (c ∷ [])) in
    record {
      carried_out = held_is ∙ ap (λ (h : Holdings). after_command h c) so.carried_out ∙ sym (after_commands-append held cs (c ∷ []));
      answered = back_is ∙ ap (λ (b : Back). with_due b bytes) so.answered ∙ due-append back mine bytes ∙ ap (with_due back) spelled;
    }

-- memory ran out at this command, and the rest were taken
module _ (before now : Stream) (c : CommandFrame) (gives : GivesNext before now c) (earlier : List CommandFrame) (held held_then : Holdings) (back back_then : Back) (behind : TakesBehind (AreAnswered held held_then back back_then) earlier before.taken) where
  has_one_more : HasCommands now.taken (earlier ++ (behind.commands ++ c ∷ []))
  has_one_more = subst (HasCommands now.taken) (append_assoc earlier behind.commands (c ∷ [])) (gives.next (earlier ++ behind.commands) behind.has)

  pub one_failed : (end : Stream) → ((all : List CommandFrame) → HasCommands now.taken all → TakesMore all end.taken) → (n : ℕ) → n ≤ 1 → (held_now : Holdings) (back_now : Back) → held_now ≡ after_commands held_then (replicate n c) → back_now ≡ back_then
      → TakesBehind (AreFirstAnswered held held_now back back_now) earlier end.taken
  one_failed end skips n few held_now back_now held_is back_is =
      record {
        commands = behind.commands ++ c ∷ rest.commands;
        has = has_all;
        so = at n few held_is;
      }
    where
      rest : TakesMore (earlier ++ (behind.commands ++ c ∷ [])) end.taken
      rest = skips (earlier ++ (behind.commands ++ c ∷ [])) has_one_more

      has_all : HasCommands end.taken (earlier ++ (behind.commands ++ c ∷ rest.commands))
      has_all =
          subst (HasCommands end.taken)
          (append_assoc earlier (behind.commands ++ c ∷ []) rest.commands ∙ ap (λ (cs : List CommandFrame). earlier ++ cs) (append_assoc behind.commands (c ∷ []) rest.commands))
          rest.has

      at : (k : ℕ) → k ≤ 1 → held_now ≡ after_commands held_then (replicate k c) → AreFirstAnswered held held_now back back_now (behind.commands ++ c ∷ rest.commands)
      at zero few is = record {
        first = behind.commands;
        unanswered = [];
        at_most_one = omega arith;
        later = c ∷ rest.commands;
        parts = refl;
        carried_out = is ∙ behind.so.carried_out ∙ ap (after_commands held) (sym (append-nil behind.commands));
        answered = back_is ∙ behind.so.answered;
      }
      at (suc zero) few is = record {
        first = behind.commands;
        unanswered = c ∷ [];
        at_most_one = omega arith;
        later = rest.commands;
        parts = refl;
        carried_out = is ∙ ap (λ (h : Holdings). after_command h c) behind.so.carried_out ∙ sym (after_commands-append held behind.commands (c ∷ []));
        answered = back_is ∙ behind.so.answered;
      }
      at (suc (suc k)) few is = absurd (omega arith)

-- where each was carried out and answered, nothing is left
unfoldable pub front_of : (held held_now : Holdings) (back back_now : Back) (cs : List CommandFrame) → AreAnswered held held_now back back_now cs → AreFirstAnswered held held_now back back_now cs
front_of held held_now back back_now cs so = record {
  first = cs;
  unanswered = [];
  at_most_one = omega arith;
  later = [];
  parts = sym (append-nil cs);
  carried_out = so.carried_out ∙ ap (after_commands held) (sym (append-nil cs));
  answered = so.answered;
}

-- ---- what is held moved by commands that were offered

-- each of the commands that the bytes have was offered
each_offered : (bytes : List ℕ) (earlier commands later : List CommandFrame) (rest : List ℕ) → Splits command_bytes IsCommand bytes (earlier ++ (commands ++ later)) rest → All (IsOffered bytes) commands
each_offered bytes earlier [] later rest split = All-nil (IsOffered bytes)
each_offered bytes earlier (c ∷ commands) later rest split =
    let front = flat_map command_bytes earlier in
    let others = flat_map command_bytes (commands ++ later) in
    let fit = All-right IsCommand earlier (c ∷ (commands ++ later)) split.fit in
    All-cons (IsOffered bytes) c commands
    (record {
      earlier = earlier;
      earlier_fit = All-left IsCommand earlier (c ∷ (commands ++ later)) split.fit;
      fits = All-head IsCommand c (commands ++ later) fit;
      behind = others ++ rest;
      parts =
          split.parts ∙ ap (λ (xs : List ℕ). xs ++ rest) (flat_map-append command_bytes earlier (c ∷ (commands ++ later)))
          ∙ append_assoc front (command_bytes c ++ others) rest
          ∙ ap (λ (xs : List ℕ). front ++ xs) (append_assoc (command_bytes c) others rest);
    })
    (each_offered bytes (earlier ++ c ∷ []) commands later rest (subst (λ (cs : List CommandFrame). Splits command_bytes IsCommand bytes cs rest) (sym (append_assoc earlier (c ∷ []) (commands ++ later))) split))

-- the whole commands after the earlier ones, the first of them apart
pub parts_of : (earlier : List CommandFrame) (taken_now : List ℕ) (held held_now : Holdings) (back back_now : Back) (front : TakesBehind (AreFirstAnswered held held_now back back_now) earlier taken_now) → HasCommands taken_now (earlier ++ (front.so.first ++ (front.so.unanswered ++ front.so.later)))
parts_of earlier taken_now held held_now back back_now front = subst (λ (cs : List CommandFrame). HasCommands taken_now (earlier ++ cs)) front.so.parts front.has

pub moves_front : (earlier : List CommandFrame) (taken_now : List ℕ) (held held_now : Holdings) (back back_now : Back) → TakesBehind (AreFirstAnswered held held_now back back_now) earlier taken_now → MovesByRule taken_now held held_now
moves_front earlier taken_now held held_now back back_now front =
    let so = front.so in
    let has = parts_of earlier taken_now held held_now back back_now front in
    record {
      delivered = so.first ++ so.unanswered;
      each_offered = each_offered taken_now earlier (so.first ++ so.unanswered) so.later has.rest
          (subst (λ (cs : List CommandFrame). Splits command_bytes IsCommand taken_now (earlier ++ cs) has.rest) (sym (append_assoc so.first so.unanswered so.later)) has.whole);
      moved = so.carried_out;
    }
