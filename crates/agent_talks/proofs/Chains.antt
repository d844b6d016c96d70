-- What a chain of servings comes to, by the rule of terms.
use Rattle.std.proofs.Common.{◌≡◌, ℕ, zero, suc, ◌+◌, ◌<◌, List, [], ◌∷◌, ◌++◌, length, slice_index, Option, Some, None, refl, sym, ap, ap₂, subst, ◌∙◌, append_assoc, arith, length-append, ◌==◌, ◌||◌, ◌&&◌, not, nat_lt, Bool}
use Rattle.std.proofs.lemmas.List.{append-nil}
use Rattle.std.proofs.lemmas.List.Elements.{All-append}
use Rattle.std.proofs.lemmas.Grind.{flat_map-append}
use Rattle.std.specs.List.{All, flat_map}
use Rattle.lists.proofs.Conditions.{or_regrouped}
use Rattle.wan_edge.specs.Frames.{Splits}
use Rattle.wan_edge.specs.Streams.{Appends, AppendsPart}
use Rattle.wan_edge.proofs.Chains.{Appends-chain}
use Rattle.wire_frames.specs.Reading.{IsCommandFault}
use Rattle.wire_frames.specs.declared.fault.FrameFault.{FrameFault}
use Rattle.wire_frames.specs.declared.fault.FrameFault.TheVariants.{Count, Kind}
use Rattle.switch_agent.specs.Items.{seen}
use Rattle.switch_agent.specs.Serving.{IsOwnFault}
use Rattle.switch_agent.specs.declared.serve_fault.ServeFault.{ServeFault}
use Rattle.switch_agent.specs.declared.serve_fault.ServeFault.TheVariants.{Frame, Long, Memory, Read, Write}
use Rattle.switch_agent.specs.declared.serve_fault.Served.{Served}
use Rattle.switch_agent.proofs.Chains.{AppendsPart-chain, command_fault_more, or_false, or_swapped}
use Rattle.fenced_agent.specs.Agents.{FencedHoldings, FencedItems, after_all_termed, after_termed, answer_to_termed, answers_to_termed, fenced_holding}
use Rattle.fenced_agent.specs.Frames.{FlooredAnswer, IsTermedCommand, TermedCommand, fence_bytes, floored_bytes, term_of, termed_bytes}
use Rattle.fenced_wire.specs.Reading.{IsTermedFault}
use Rattle.agent_talks.specs.Serving.{CarriesOut, Ends, answered, asked}

pub after_all_termed-append : (held : FencedHoldings) (xs ys : List TermedCommand) → after_all_termed held (xs ++ ys) ≡ after_all_termed (after_all_termed held xs) ys
after_all_termed-append held [] ys = refl
after_all_termed-append held (x ∷ xs) ys = after_all_termed-append (after_termed held x) xs ys

answers_to-append : (held : FencedHoldings) (xs ys : List TermedCommand) → answers_to_termed held (xs ++ ys) ≡ answers_to_termed held xs ++ answers_to_termed (after_all_termed held xs) ys
answers_to-append held [] ys = refl
answers_to-append held (x ∷ xs) ys = ap (λ (answers : List FlooredAnswer). answer_to_termed held x ∷ answers) (answers_to-append (after_termed held x) xs ys)

answered-append : (held : FencedHoldings) (xs ys : List TermedCommand) → answered held (xs ++ ys) ≡ answered held xs ++ answered (after_all_termed held xs) ys
answered-append held xs ys = ap (flat_map floored_bytes) (answers_to-append held xs ys) ∙ flat_map-append floored_bytes (answers_to_termed held xs) (answers_to_termed (after_all_termed held xs) ys)

ends_after : (fault : Option ServeFault) (GoesOn : List ℕ → Type 0) (items : FencedItems) (rest : List ℕ) (a b c : Option (List ℕ)) (xs ys : List ℕ) → Appends a xs b → Ends fault GoesOn items rest b ys c → Ends fault GoesOn items rest a (xs ++ ys) c
ends_after None GoesOn items rest a b c xs ys first second = (second.0, Appends-chain a b c xs ys first second.1)
ends_after (Some (Frame fault)) GoesOn items rest a b c xs ys first second = (second.0, Appends-chain a b c xs ys first second.1)
ends_after (Some Read) GoesOn items rest a b c xs ys first second = (second.0, Appends-chain a b c xs ys first second.1)
ends_after (Some Write) GoesOn items rest a b c xs ys first second = AppendsPart-chain a b c xs ys first second
ends_after (Some Long) GoesOn items rest a b c xs ys first second = (second.0, Appends-chain a b c xs ys first second.1)
ends_after (Some Memory) GoesOn items rest a b c xs ys first second = (second.0, Appends-chain a b c xs ys first second.1)

asked-append : (held : FencedHoldings) (xs ys : List TermedCommand) (item : ℕ) (a : Bool)
    → (asked (after_all_termed held xs) ys item || (asked held xs item || a)) ≡ (asked held (xs ++ ys) item || a)
asked-append held [] ys item a = refl
asked-append held (x ∷ xs) ys item a =
    let now = after_termed held x in
    let own = not (nat_lt (term_of x.term) held.floor) && (item == x.command.1.item) in
    or_swapped own (asked now xs item) (asked (after_all_termed now xs) ys item) a
    ∙ ap (λ (b : Bool). own || b) (asked-append now xs ys item a)
    ∙ sym (or_regrouped own (asked now (xs ++ ys) item) a)

-- a serving that ended without a fault, and one that goes on from what it kept
pub carry_on : (a b c : FencedItems) (bytes kept more : List ℕ) (m n : ℕ) (fault : Option ServeFault) (GoesOn : List ℕ → Type 0) (w1 w2 w3 : Option (List ℕ))
    → CarriesOut a b bytes (record { commands = m; fault = None }) (λ rest. rest ≡ kept) w1 w2 → CarriesOut b c (kept ++ more) (record { commands = n; fault = fault }) GoesOn w2 w3
    → CarriesOut a c (bytes ++ more) (record { commands = m + n; fault = fault }) GoesOn w1 w3
carry_on a b c bytes kept more m n fault GoesOn w1 w2 w3 first second =
    let held : fenced_holding b ≡ after_all_termed (fenced_holding a) first.commands = first.holds in
    let all : answered (fenced_holding a) (first.commands ++ second.commands) ≡ answered (fenced_holding a) first.commands ++ answered (fenced_holding b) second.commands
    = answered-append (fenced_holding a) first.commands second.commands ∙ ap (λ (h : FencedHoldings). answered (fenced_holding a) first.commands ++ answered h second.commands) (sym held) in
    record {
      commands = first.commands ++ second.commands;
      rest = second.rest;
      whole = record {
        fit = All-append IsTermedCommand first.commands second.commands first.whole.fit second.whole.fit;
        parts =
            ap (λ (xs : List ℕ). xs ++ more) first.whole.parts ∙ append_assoc (flat_map termed_bytes first.commands) first.rest more
            ∙ ap (λ (xs : List ℕ). flat_map termed_bytes first.commands ++ xs) (ap (λ (xs : List ℕ). xs ++ more) first.ends.0 ∙ second.whole.parts)
            ∙ sym (append_assoc (flat_map termed_bytes first.commands) (flat_map termed_bytes second.commands) second.rest)
            ∙ ap (λ (xs : List ℕ). xs ++ second.rest) (sym (flat_map-append termed_bytes first.commands second.commands));
      };
      counted = ap₂ (λ (x y : ℕ). x + y) first.counted second.counted ∙ sym (length-append first.commands second.commands);
      holds = second.holds ∙ ap (λ (h : FencedHoldings). after_all_termed h second.commands) held ∙ sym (after_all_termed-append (fenced_holding a) first.commands second.commands);
      items_seen = λ item.
          second.items_seen item
          ∙ ap (λ (h : FencedHoldings). asked h second.commands item || seen b.items item) held
          ∙ ap (λ (s : Bool). asked (after_all_termed (fenced_holding a) first.commands) second.commands item || s) (first.items_seen item)
          ∙ asked-append (fenced_holding a) first.commands second.commands item (seen a.items item);
      ends = subst (λ (answers : List ℕ). Ends fault GoesOn c second.rest w1 answers w3) (sym all)
          (ends_after fault GoesOn c second.rest w1 w2 w3 (answered (fenced_holding a) first.commands) (answered (fenced_holding b) second.commands) first.ends.1 second.ends);
    }

-- a fault has a byte, so its first byte stays
fault_first : (rest more : List ℕ) (fault : FrameFault) → IsCommandFault rest fault → 0 < length rest
fault_first rest more (Kind byte) found = omega (arith, ap length found.parts)
fault_first rest more (Count byte) found = omega (arith, ap length found.parts, length-append found.head (byte ∷ found.behind))

first_stays : (bytes more : List ℕ) → 0 < length bytes → slice_index (bytes ++ more) 0 ≡ slice_index bytes 0
first_stays [] more some = absurd (omega (arith, some))
first_stays (x ∷ xs) more some = refl

fault_with_more : (bytes more : List ℕ) (fault : FrameFault) → IsTermedFault bytes fault → IsTermedFault (bytes ++ more) fault
fault_with_more bytes more fault found =
    let some : 0 < length bytes =
    omega (arith, ap length found.parts, length-append (fence_bytes found.term) found.rest, fault_first found.rest more fault found.at_byte) in
    record {
      term = found.term;
      in_term = found.in_term;
      rest = found.rest ++ more;
      parts = ap (λ (xs : List ℕ). xs ++ more) found.parts ∙ append_assoc (fence_bytes found.term) found.rest more;
      at_byte = command_fault_more found.rest more fault found.at_byte;
      plain = λ none same. found.plain none (sym (first_stays bytes more some) ∙ same);
    }

ends_with_more : (fault : ServeFault) (P Q : List ℕ → Type 0) (items : FencedItems) (rest more : List ℕ) (a c : Option (List ℕ)) (xs : List ℕ) → IsOwnFault fault → Ends (Some fault) P items rest a xs c → Ends (Some fault) Q items (rest ++ more) a xs c
ends_with_more (Frame fault) P Q items rest more a c xs own ends = (fault_with_more rest more fault ends.0, ends.1)
ends_with_more Read P Q items rest more a c xs own ends = absurd own
ends_with_more Write P Q items rest more a c xs own ends = ends
ends_with_more Long P Q items rest more a c xs own ends = absurd own
ends_with_more Memory P Q items rest more a c xs own ends = (
  record {
    command = ends.0.command;
    fits = ends.0.fits;
    unseen = ends.0.unseen;
    above = ends.0.above;
    behind = ends.0.behind ++ more;
    parts = ap (λ (ys : List ℕ). ys ++ more) ends.0.parts ∙ append_assoc (termed_bytes ends.0.command) ends.0.behind more;
  },
  ends.1,
)

-- a serving that ended in a fault of its own, with more bytes after it
pub carried_with_more : (a b : FencedItems) (bytes more : List ℕ) (n : ℕ) (fault : ServeFault) (P Q : List ℕ → Type 0) (w w' : Option (List ℕ)) → IsOwnFault fault
    → CarriesOut a b bytes (record { commands = n; fault = Some fault }) P w w' → CarriesOut a b (bytes ++ more) (record { commands = n; fault = Some fault }) Q w w'
carried_with_more a b bytes more n fault P Q w w' own carried = record {
  commands = carried.commands;
  rest = carried.rest ++ more;
  whole = record {
    fit = carried.whole.fit;
    parts = ap (λ (xs : List ℕ). xs ++ more) carried.whole.parts ∙ append_assoc (flat_map termed_bytes carried.commands) carried.rest more;
  };
  counted = carried.counted;
  holds = carried.holds;
  items_seen = carried.items_seen;
  ends = ends_with_more fault P Q b carried.rest more w w' (answered (fenced_holding a) carried.commands) own carried.ends;
}

one : (c : TermedCommand) → IsTermedCommand c → All IsTermedCommand (c ∷ [])
one c fits zero d inside = fits
one c fits (suc k) d inside = absurd (omega arith)

one_command : (c : TermedCommand) → IsTermedCommand c → Splits termed_bytes IsTermedCommand (termed_bytes c) (c ∷ []) []
one_command c fits = record { fit = one c fits; parts = sym (append-nil (flat_map termed_bytes (c ∷ [])) ∙ append-nil (termed_bytes c)) }

-- a command that was carried out and answered
pub carried_one : (a b : FencedItems) (c : TermedCommand) (bytes : List ℕ) (w w' : Option (List ℕ)) → IsTermedCommand c → fenced_holding b ≡ after_termed (fenced_holding a) c → ((item : ℕ) → seen b.items item ≡ ((not (nat_lt (term_of c.term) a.floor) && (item == c.command.1.item)) || seen a.items item)) → bytes ≡ floored_bytes (answer_to_termed (fenced_holding a) c) → Appends w bytes w'
    → CarriesOut a b (termed_bytes c) (record { commands = 1; fault = None }) (λ rest. rest ≡ []) w w'
carried_one a b c bytes w w' fits holds items_seen bytes_are appended = record {
  commands = c ∷ [];
  rest = [];
  whole = one_command c fits;
  counted = refl;
  holds = holds;
  items_seen = λ item. items_seen item ∙ or_false (not (nat_lt (term_of c.term) a.floor) && (item == c.command.1.item)) (seen a.items item);
  ends = (refl, subst (λ (xs : List ℕ). Appends w xs w') (bytes_are ∙ sym (append-nil (floored_bytes (answer_to_termed (fenced_holding a) c)))) appended);
}

-- a command that was carried out, its answer written in part
pub carried_in_part : (a b : FencedItems) (c : TermedCommand) (bytes : List ℕ) (w w' : Option (List ℕ)) → IsTermedCommand c → fenced_holding b ≡ after_termed (fenced_holding a) c → ((item : ℕ) → seen b.items item ≡ ((not (nat_lt (term_of c.term) a.floor) && (item == c.command.1.item)) || seen a.items item)) → bytes ≡ floored_bytes (answer_to_termed (fenced_holding a) c) → AppendsPart w bytes w'
    → CarriesOut a b (termed_bytes c) (record { commands = 1; fault = Some Write }) (λ rest. rest ≡ []) w w'
carried_in_part a b c bytes w w' fits holds items_seen bytes_are appended = record {
  commands = c ∷ [];
  rest = [];
  whole = one_command c fits;
  counted = refl;
  holds = holds;
  items_seen = λ item. items_seen item ∙ or_false (not (nat_lt (term_of c.term) a.floor) && (item == c.command.1.item)) (seen a.items item);
  ends = subst (λ (xs : List ℕ). AppendsPart w xs w') (bytes_are ∙ sym (append-nil (floored_bytes (answer_to_termed (fenced_holding a) c)))) appended;
}

-- the same of what is the same in other words
pub carried_as : (a b : FencedItems) (bytes bytes' : List ℕ) (served : Served) (kept kept' : List ℕ) (w w' : Option (List ℕ)) → bytes ≡ bytes' → kept' ≡ kept
    → CarriesOut a b bytes served (λ rest. rest ≡ kept) w w' → CarriesOut a b bytes' served (λ rest. rest ≡ kept') w w'
carried_as a b bytes bytes' served kept kept' w w' bytes_are kept_is carried =
    subst (λ (k : List ℕ). CarriesOut a b bytes' served (λ rest. rest ≡ k) w w') (sym kept_is)
    (subst (λ (xs : List ℕ). CarriesOut a b xs served (λ rest. rest ≡ kept) w w') bytes_are carried)
