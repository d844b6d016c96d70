-- What a read is where no command names a term.
use Rattle.std.proofs.Common.{◌≡◌, ◌≢◌, ℕ, zero, suc, ◌<◌, List, [], ◌∷◌, ◌++◌, ◌==◌, ◌||◌, Bool, false, length, slice_index, Option, Some, None, refl, sym, ap, subst, ◌∙◌, arith}
use Rattle.std.specs.List.{All, flat_map}
use Rattle.std.proofs.lemmas.List.Elements.{All-cons, All-nil}
use Rattle.wan_edge.specs.Frames.{CommandFrame, IsCommand, IsCut, IsCutCommand, answer_bytes, command_bytes}
use Rattle.wan_edge.specs.Streams.{Appends, AppendsPart}
use Rattle.wan_edge.specs.Switches.{Holdings, after_command, after_commands, answer_to, answers_to}
use Rattle.wire_frames.specs.Reading.{IsCommandFault}
use Rattle.wire_frames.specs.declared.fault.FrameFault.{FrameFault}
use Rattle.wire_frames.proofs.Cuts.{cut_none}
use Rattle.switch_agent.specs.Items.{holding, seen}
use Rattle.switch_agent.specs.Serving as one
use Rattle.switch_agent.specs.declared.serve_fault.ServeFault.{ServeFault}
use Rattle.switch_agent.specs.declared.serve_fault.ServeFault.TheVariants.{Frame, Long, Memory, Read, Write}
use Rattle.switch_agent.specs.declared.serve_fault.Served.{Served}
use Rattle.fenced_agent.specs.Agents.{FencedHoldings, FencedItems, after_all_termed, answers_to_termed, fenced_holding, plain}
use Rattle.fenced_agent.specs.Frames.{IsTermedCommand, TermedCommand, fence_bytes, fence_kind, floored_bytes, termed_bytes}
use Rattle.fenced_agent.proofs.Guards.{plain-held}
use Rattle.fenced_wire.specs.Reading.{IsTermedFault}
use Rattle.agent_talks.specs.Serving.{CarriesOut, Ends, IsCutTermed, WantsRoom, answered, asked}

abbrev at_first : Holdings → FencedHoldings
at_first held = record { floor = 0; held = held }

-- ---- commands without a term

plain_fit : (cs : List CommandFrame) → All IsTermedCommand (plain cs) → All IsCommand cs
plain_fit [] fit = All-nil IsCommand
plain_fit (c ∷ cs) fit = All-cons IsCommand c cs (fit zero (record { term = None; command = c }) (omega arith)).whole (plain_fit cs (λ k d inside. fit (suc k) d (omega (arith, inside))))

plain_bytes : (cs : List CommandFrame) → flat_map termed_bytes (plain cs) ≡ flat_map command_bytes cs
plain_bytes [] = refl
plain_bytes (c ∷ cs) = ap (λ (xs : List ℕ). command_bytes c ++ xs) (plain_bytes cs)

plain_length : (cs : List CommandFrame) → length (plain cs) ≡ length cs
plain_length [] = refl
plain_length (c ∷ cs) = omega (arith, plain_length cs)

plain_answers : (held : Holdings) (cs : List CommandFrame) → answered (at_first held) (plain cs) ≡ one.answered held cs
plain_answers held [] = refl
plain_answers held (c ∷ cs) = ap (λ (xs : List ℕ). answer_bytes (answer_to held c) ++ xs) (plain_answers (after_command held c) cs)

plain_asked : (held : Holdings) (cs : List CommandFrame) (item : ℕ) → asked (at_first held) (plain cs) item ≡ one.asked cs item
plain_asked held [] item = refl
plain_asked held (c ∷ cs) item = ap (λ (b : Bool). item == c.1.item || b) (plain_asked (after_command held c) cs item)

-- ---- what stands after them

other_first : (term : ℕ) (rest more : List ℕ) → rest ≡ fence_bytes (Some term) ++ more → slice_index rest 0 ≢ fence_kind → ⊥
other_first term rest more parts other = other (ap (λ (xs : List ℕ). slice_index xs 0) parts)

-- the front of a command that names no term
cut_plain : (term : Option ℕ) (command : CommandFrame) (rest missing : List ℕ) → IsCommand command → 0 < length missing → fence_bytes term ++ command_bytes command ≡ rest ++ missing → slice_index rest 0 ≢ fence_kind → IsCutCommand rest
cut_plain None command rest missing fits some begins other = record { frame = command; fits = fits; missing = missing; some = some; begins = begins }
cut_plain (Some term) command [] missing fits some begins other = cut_none
cut_plain (Some term) command (x ∷ rest) missing fits some begins other = absurd (other (sym (ap (λ (xs : List ℕ). slice_index xs 0) begins)))

plain_cut : (rest : List ℕ) → IsCutTermed rest → slice_index rest 0 ≢ fence_kind → IsCutCommand rest
plain_cut rest cut other = cut_plain cut.frame.term cut.frame.command rest cut.missing cut.fits.whole cut.some cut.begins other

fault_plain : (term : Option ℕ) (bytes rest : List ℕ) (fault : FrameFault) → bytes ≡ fence_bytes term ++ rest → IsCommandFault rest fault → slice_index bytes 0 ≢ fence_kind → IsCommandFault bytes fault
fault_plain None bytes rest fault parts at_byte other = subst (λ (xs : List ℕ). IsCommandFault xs fault) (sym parts) at_byte
fault_plain (Some term) bytes rest fault parts at_byte other = absurd (other_first term bytes rest parts other)

room_plain : (items : FencedItems) (term : Option ℕ) (command : CommandFrame) (rest behind : List ℕ) → IsCommand command → seen items.items command.1.item ≡ false → rest ≡ (fence_bytes term ++ command_bytes command) ++ behind
    → slice_index rest 0 ≢ fence_kind → one.WantsRoom items.items rest
room_plain items None command rest behind fits unseen parts other = record { command = command; fits = fits; unseen = unseen; behind = behind; parts = parts }
room_plain items (Some term) command rest behind fits unseen parts other = absurd (other (ap (λ (xs : List ℕ). slice_index xs 0) parts))

plain_ends : (fault : Option ServeFault) (items : FencedItems) (rest : List ℕ) (w : Option (List ℕ)) (answers : List ℕ) (w' : Option (List ℕ)) → slice_index rest 0 ≢ fence_kind → Ends fault IsCutTermed items rest w answers w'
    → one.Ends fault IsCutCommand items.items rest w answers w'
plain_ends None items rest w answers w' other ends = (plain_cut rest ends.0 other, ends.1)
plain_ends (Some (Frame fault)) items rest w answers w' other ends = (fault_plain ends.0.term rest ends.0.rest fault ends.0.parts ends.0.at_byte other, ends.1)
plain_ends (Some Read) items rest w answers w' other ends = (plain_cut rest ends.0 other, ends.1)
plain_ends (Some Write) items rest w answers w' other ends = ends
plain_ends (Some Long) items rest w answers w' other ends = (plain_cut rest ends.0 other, ends.1)
plain_ends (Some Memory) items rest w answers w' other ends =
    (room_plain items ends.0.command.term ends.0.command.command rest ends.0.behind ends.0.fits.whole ends.0.unseen ends.0.parts other, ends.1)

-- ---- the read

module _ (before now : FencedItems) (bytes : List ℕ) (served : Served) (w w' : Option (List ℕ)) (none : before.floor ≡ 0) (carried : CarriesOut before now bytes served IsCutTermed w w') (commands : List CommandFrame)
    (are : carried.commands ≡ plain commands) where
  first_is : fenced_holding before ≡ at_first (holding before.items)
  first_is i = record { floor = none i; held = holding before.items }

  held_is : fenced_holding now ≡ at_first (after_commands (holding before.items) commands)
  held_is =
      carried.holds ∙ ap (λ (cs : List TermedCommand). after_all_termed (fenced_holding before) cs) are
      ∙ ap (λ (h : FencedHoldings). after_all_termed h (plain commands)) first_is ∙ plain-held (holding before.items) commands

  pub floor_stays : now.floor ≡ 0
  floor_stays = ap (λ (h : FencedHoldings). h.floor) held_is

  answers_are : answered (fenced_holding before) carried.commands ≡ one.answered (holding before.items) commands
  answers_are =
      ap (λ (cs : List TermedCommand). answered (fenced_holding before) cs) are
      ∙ ap (λ (h : FencedHoldings). answered h (plain commands)) first_is ∙ plain_answers (holding before.items) commands

  pub read_plain : slice_index carried.rest 0 ≢ fence_kind → one.CarriesOut before.items now.items bytes served IsCutCommand w w'
  read_plain other = record {
    commands = commands;
    rest = carried.rest;
    whole = record {
      fit = plain_fit commands (subst (All IsTermedCommand) are carried.whole.fit);
      parts =
          carried.whole.parts
          ∙ ap (λ (xs : List ℕ). xs ++ carried.rest) (ap (λ (cs : List TermedCommand). flat_map termed_bytes cs) are ∙ plain_bytes commands);
    };
    counted = carried.counted ∙ ap (λ (cs : List TermedCommand). length cs) are ∙ plain_length commands;
    holds = ap (λ (h : FencedHoldings). h.held) held_is;
    items_seen = λ item.
        carried.items_seen item
        ∙ ap (λ (b : Bool). b || seen before.items item)
        (ap (λ (cs : List TermedCommand). asked (fenced_holding before) cs item) are
        ∙ ap (λ (h : FencedHoldings). asked h (plain commands) item) first_is
        ∙ plain_asked (holding before.items) commands item);
    ends = subst (λ (answers : List ℕ). one.Ends served.fault IsCutCommand now.items carried.rest w answers w') answers_are
        (plain_ends served.fault now carried.rest w (answered (fenced_holding before) carried.commands) w' other carried.ends);
  }
