-- What a chain of servings comes to.
use Rattle.std.proofs.Common.{◌≡◌, ℕ, zero, suc, ◌+◌, ◌-◌, ◌≤◌, List, [], ◌∷◌, ◌++◌, length, take, drop, Option, Some, None, refl, sym, ap, ap₂, subst, ◌∙◌, append_assoc, arith, length-append, length-drop, ◌==◌, ◌||◌, Bool, true, false}
use Rattle.std.proofs.Math.Seq.{take-add, take-append-add}
use Rattle.std.proofs.lemmas.List.{append-nil, drop-drop, take_rest, take-append-drop}
use Rattle.std.proofs.lemmas.List.Elements.{All-append}
use Rattle.std.proofs.lemmas.Grind.{flat_map-append}
use Rattle.std.specs.List.{All, flat_map}
use Rattle.lists.proofs.Conditions.{or_regrouped}
use Rattle.wan_edge.specs.Frames.{AnswerFrame, CommandFrame, IsCommand, Splits, answer_bytes, command_bytes}
use Rattle.wan_edge.specs.Streams.{Appends, AppendsPart}
use Rattle.wan_edge.specs.Switches.{Holdings, after_command, after_commands, answer_to, answers_to}
use Rattle.wan_edge.proofs.Chains.{Appends-chain}
use Rattle.wan_edge.proofs.Commands.{after_commands-append, answers_to-append}
use Rattle.wire_frames.specs.Reading.{IsCommandFault}
use Rattle.wire_frames.specs.declared.fault.FrameFault.{FrameFault}
use Rattle.wire_frames.specs.declared.fault.FrameFault.TheVariants.{Count, Kind}
use Rattle.switch_agent.specs.Items.{Items, holding, seen}
use Rattle.switch_agent.specs.Serving.{CarriesOut, Ends, IsOwnFault, answered, asked}
use Rattle.switch_agent.specs.declared.serve_fault.ServeFault.{ServeFault}
use Rattle.switch_agent.specs.declared.serve_fault.ServeFault.TheVariants.{Frame, Long, Memory, Read, Write}
use Rattle.switch_agent.specs.declared.serve_fault.Served.{Served}

answered-append : (held : Holdings) (xs ys : List CommandFrame) → answered held (xs ++ ys) ≡ answered held xs ++ answered (after_commands held xs) ys
answered-append held xs ys = ap (flat_map answer_bytes) (answers_to-append held xs ys) ∙ flat_map-append answer_bytes (answers_to held xs) (answers_to (after_commands held xs) ys)

-- all of a list was appended, and then a part of the next
pub AppendsPart-chain : (a b c : Option (List ℕ)) (xs ys : List ℕ) → Appends a xs b → AppendsPart b ys c → AppendsPart a (xs ++ ys) c
AppendsPart-chain a b c xs ys first second =
    let front : take (length xs + second.count) (xs ++ ys) ≡ xs ++ take second.count ys = take-append-add xs ys second.count in
    let not_all = second.not_all in
    record {
      count = length xs + second.count;
      not_all = omega (arith, length-append xs ys);
      appended = subst (λ (bytes : List ℕ). Appends a bytes c) (sym front) (Appends-chain a b c xs (take second.count ys) first second.appended);
    }

ends_after : (fault : Option ServeFault) (GoesOn : List ℕ → Type 0) (items : Items) (rest : List ℕ) (a b c : Option (List ℕ)) (xs ys : List ℕ) → Appends a xs b → Ends fault GoesOn items rest b ys c → Ends fault GoesOn items rest a (xs ++ ys) c
ends_after None GoesOn items rest a b c xs ys first second = (second.0, Appends-chain a b c xs ys first second.1)
ends_after (Some (Frame fault)) GoesOn items rest a b c xs ys first second = (second.0, Appends-chain a b c xs ys first second.1)
ends_after (Some Read) GoesOn items rest a b c xs ys first second = (second.0, Appends-chain a b c xs ys first second.1)
ends_after (Some Write) GoesOn items rest a b c xs ys first second = AppendsPart-chain a b c xs ys first second
ends_after (Some Long) GoesOn items rest a b c xs ys first second = (second.0, Appends-chain a b c xs ys first second.1)
ends_after (Some Memory) GoesOn items rest a b c xs ys first second = (second.0, Appends-chain a b c xs ys first second.1)

served : ℕ → Option ServeFault → Served
served commands fault = record { commands = commands; fault = fault }

pub or_false : (p a : Bool) → (p || a) ≡ ((p || false) || a)
or_false true a = refl
or_false false a = refl

pub or_swapped : (p x y a : Bool) → (y || ((p || x) || a)) ≡ (p || (y || (x || a)))
or_swapped true x true a = refl
or_swapped true x false a = refl
or_swapped false x y a = refl

asked-append : (xs ys : List CommandFrame) (item : ℕ) (a : Bool) → (asked ys item || (asked xs item || a)) ≡ (asked (xs ++ ys) item || a)
asked-append [] ys item a = refl
asked-append (x ∷ xs) ys item a = or_swapped (item == x.1.item) (asked xs item) (asked ys item) a ∙ ap (λ (b : Bool). item == x.1.item || b) (asked-append xs ys item a) ∙ sym (or_regrouped (item == x.1.item) (asked (xs ++ ys) item) a)

-- a serving that ended without a fault, and one that goes on from what it kept
pub carry_on : (a b c : Items) (bytes kept more : List ℕ) (m n : ℕ) (fault : Option ServeFault) (GoesOn : List ℕ → Type 0) (w1 w2 w3 : Option (List ℕ))
    → CarriesOut a b bytes (record { commands = m; fault = None }) (λ rest. rest ≡ kept) w1 w2 → CarriesOut b c (kept ++ more) (record { commands = n; fault = fault }) GoesOn w2 w3
    → CarriesOut a c (bytes ++ more) (record { commands = m + n; fault = fault }) GoesOn w1 w3
carry_on a b c bytes kept more m n fault GoesOn w1 w2 w3 first second =
    let held : holding b ≡ after_commands (holding a) first.commands = first.holds in
    let all : answered (holding a) (first.commands ++ second.commands) ≡ answered (holding a) first.commands ++ answered (holding b) second.commands
    = answered-append (holding a) first.commands second.commands ∙ ap (λ (h : Holdings). answered (holding a) first.commands ++ answered h second.commands) (sym held) in
    record {
      commands = first.commands ++ second.commands;
      rest = second.rest;
      whole = record {
        fit = All-append IsCommand first.commands second.commands first.whole.fit second.whole.fit;
        parts =
            ap (λ (xs : List ℕ). xs ++ more) first.whole.parts ∙ append_assoc (flat_map command_bytes first.commands) first.rest more
            ∙ ap (λ (xs : List ℕ). flat_map command_bytes first.commands ++ xs) (ap (λ (xs : List ℕ). xs ++ more) first.ends.0 ∙ second.whole.parts)
            ∙ sym (append_assoc (flat_map command_bytes first.commands) (flat_map command_bytes second.commands) second.rest)
            ∙ ap (λ (xs : List ℕ). xs ++ second.rest) (sym (flat_map-append command_bytes first.commands second.commands));
      };
      counted = ap₂ (λ (x y : ℕ). x + y) first.counted second.counted ∙ sym (length-append first.commands second.commands);
      holds = second.holds ∙ ap (λ (h : Holdings). after_commands h second.commands) held ∙ sym (after_commands-append (holding a) first.commands second.commands);
      items_seen = λ item. second.items_seen item ∙ ap (λ (b : Bool). asked second.commands item || b) (first.items_seen item) ∙ asked-append first.commands second.commands item (seen a item);
      ends = subst (λ (answers : List ℕ). Ends fault GoesOn c second.rest w1 answers w3) (sym all)
          (ends_after fault GoesOn c second.rest w1 w2 w3 (answered (holding a) first.commands) (answered (holding b) second.commands) first.ends.1 second.ends);
    }

pub command_fault_more : (rest more : List ℕ) (fault : FrameFault) → IsCommandFault rest fault → IsCommandFault (rest ++ more) fault
command_fault_more rest more (Kind byte) found = record { other = found.other; behind = found.behind ++ more; parts = ap (λ (xs : List ℕ). xs ++ more) found.parts }
command_fault_more rest more (Count byte) found = record {
  head = found.head;
  begins = found.begins;
  long = found.long;
  other = found.other;
  behind = found.behind ++ more;
  parts = ap (λ (xs : List ℕ). xs ++ more) found.parts ∙ append_assoc found.head (byte ∷ found.behind) more;
}

ends_with_more : (fault : ServeFault) (P Q : List ℕ → Type 0) (items : Items) (rest more : List ℕ) (a c : Option (List ℕ)) (xs : List ℕ) → IsOwnFault fault → Ends (Some fault) P items rest a xs c → Ends (Some fault) Q items (rest ++ more) a xs c
ends_with_more (Frame fault) P Q items rest more a c xs own ends = (command_fault_more rest more fault ends.0, ends.1)
ends_with_more Read P Q items rest more a c xs own ends = absurd own
ends_with_more Write P Q items rest more a c xs own ends = ends
ends_with_more Long P Q items rest more a c xs own ends = absurd own
ends_with_more Memory P Q items rest more a c xs own ends = (
  record {
    command = ends.0.command;
    fits = ends.0.fits;
    unseen = ends.0.unseen;
    behind = ends.0.behind ++ more;
    parts = ap (λ (ys : List ℕ). ys ++ more) ends.0.parts ∙ append_assoc (command_bytes ends.0.command) ends.0.behind more;
  },
  ends.1,
)

-- a serving that ended in a fault of its own, with more bytes after it
pub carried_with_more : (a b : Items) (bytes more : List ℕ) (n : ℕ) (fault : ServeFault) (P Q : List ℕ → Type 0) (w w' : Option (List ℕ)) → IsOwnFault fault
    → CarriesOut a b bytes (record { commands = n; fault = Some fault }) P w w' → CarriesOut a b (bytes ++ more) (record { commands = n; fault = Some fault }) Q w w'
carried_with_more a b bytes more n fault P Q w w' own carried = record {
  commands = carried.commands;
  rest = carried.rest ++ more;
  whole = record {
    fit = carried.whole.fit;
    parts = ap (λ (xs : List ℕ). xs ++ more) carried.whole.parts ∙ append_assoc (flat_map command_bytes carried.commands) carried.rest more;
  };
  counted = carried.counted;
  holds = carried.holds;
  items_seen = carried.items_seen;
  ends = ends_with_more fault P Q b carried.rest more w w' (answered (holding a) carried.commands) own carried.ends;
}

pub one : (c : CommandFrame) → IsCommand c → All IsCommand (c ∷ [])
one c fits zero d inside = fits
one c fits (suc k) d inside = absurd (omega arith)

one_command : (c : CommandFrame) → IsCommand c → Splits command_bytes IsCommand (command_bytes c) (c ∷ []) []
one_command c fits = record { fit = one c fits; parts = sym (append-nil (flat_map command_bytes (c ∷ [])) ∙ append-nil (command_bytes c)) }

-- a command that was carried out and answered
pub carried_one : (a b : Items) (c : CommandFrame) (answer : AnswerFrame) (bytes : List ℕ) (w w' : Option (List ℕ)) → IsCommand c → holding b ≡ after_command (holding a) c → ((item : ℕ) → seen b item ≡ (item == c.1.item || seen a item)) → answer ≡ answer_to (holding a) c → bytes ≡ answer_bytes answer → Appends w bytes w'
    → CarriesOut a b (command_bytes c) (record { commands = 1; fault = None }) (λ rest. rest ≡ []) w w'
carried_one a b c answer bytes w w' fits holds items_seen answer_is bytes_are appended = record {
  commands = c ∷ [];
  rest = [];
  whole = one_command c fits;
  counted = refl;
  holds = holds;
  items_seen = λ item. items_seen item ∙ or_false (item == c.1.item) (seen a item);
  ends = (refl, subst (λ (xs : List ℕ). Appends w xs w') (bytes_are ∙ ap answer_bytes answer_is ∙ sym (append-nil (answer_bytes (answer_to (holding a) c)))) appended);
}

-- a command that was carried out, its answer written in part
pub carried_in_part : (a b : Items) (c : CommandFrame) (answer : AnswerFrame) (bytes : List ℕ) (w w' : Option (List ℕ)) → IsCommand c → holding b ≡ after_command (holding a) c → ((item : ℕ) → seen b item ≡ (item == c.1.item || seen a item)) → answer ≡ answer_to (holding a) c → bytes ≡ answer_bytes answer → AppendsPart w bytes w'
    → CarriesOut a b (command_bytes c) (record { commands = 1; fault = Some Write }) (λ rest. rest ≡ []) w w'
carried_in_part a b c answer bytes w w' fits holds items_seen answer_is bytes_are appended = record {
  commands = c ∷ [];
  rest = [];
  whole = one_command c fits;
  counted = refl;
  holds = holds;
  items_seen = λ item. items_seen item ∙ or_false (item == c.1.item) (seen a item);
  ends = subst (λ (xs : List ℕ). AppendsPart w xs w') (bytes_are ∙ ap answer_bytes answer_is ∙ sym (append-nil (answer_bytes (answer_to (holding a) c)))) appended;
}

-- the bytes of a piece as far as the next command, and all of them
module _ (piece rest : List ℕ) (behind : rest ≡ drop (length piece - length rest) piece) (within : length rest ≤ length piece) (n : ℕ) (fits : n ≤ length rest) where
  pub rest_on : length (take (length rest - n) (drop n rest)) ≡ length rest - n
  rest_on = ap length (take_rest rest n) ∙ length-drop n rest

  done_on : length piece - length rest + n ≡ length piece - length (take (length rest - n) (drop n rest))
  done_on = omega (arith, rest_on)

  pub behind_on : take (length rest - n) (drop n rest) ≡ drop (length piece - length (take (length rest - n) (drop n rest))) piece
  behind_on =
      take_rest rest n ∙ ap (λ (xs : List ℕ). drop n xs) behind ∙ drop-drop n (length piece - length rest) piece ∙ ap (λ (done : ℕ). drop done piece) done_on

  pub bytes_on : (kept : List ℕ) → (kept ++ take (length piece - length rest) piece) ++ take n rest ≡ kept ++ take (length piece - length (take (length rest - n) (drop n rest))) piece
  bytes_on kept =
      append_assoc kept (take (length piece - length rest) piece) (take n rest)
      ∙ ap (λ (xs : List ℕ). kept ++ xs) (ap (λ (xs : List ℕ). take (length piece - length rest) piece ++ take n xs) behind ∙ sym (take-add (length piece - length rest) n piece) ∙ ap (λ (done : ℕ). take done piece) done_on)

  pub bytes_all : (kept : List ℕ) → ((kept ++ take (length piece - length rest) piece) ++ take n rest) ++ drop n rest ≡ kept ++ piece
  bytes_all kept =
      append_assoc (kept ++ take (length piece - length rest) piece) (take n rest) (drop n rest) ∙ ap (λ (xs : List ℕ). (kept ++ take (length piece - length rest) piece) ++ xs) (take-append-drop n rest ∙ behind)
      ∙ append_assoc kept (take (length piece - length rest) piece) (drop (length piece - length rest) piece) ∙ ap (λ (xs : List ℕ). kept ++ xs) (take-append-drop (length piece - length rest) piece)
