-- What a port's reader has taken, and what it gives next.
use Rattle.std.proofs.Common.{◌≡◌, ℕ, ◌+◌, ◌<◌, ◌≤◌, List, [], ◌∷◌, ◌++◌, length, take, drop, Option, Some, None, IfNone, IfSome, sym, ap, ap₂, subst, ◌∙◌, append_assoc, arith, length-drop}
use Rattle.std.specs.List.{flat_map}
use Rattle.std.proofs.Math.Seq.{take-add}
use Rattle.std.proofs.lemmas.Grind.{flat_map-append}
use Rattle.std.proofs.lemmas.List.{append-nil, drop-drop, drop_all, take-append-drop, take_all}
use Rattle.std.proofs.lemmas.List.Elements.{All-append, All-cons, All-nil}
use Rattle.wan_edge.specs.Frames.{CommandFrame, IsCommand, Splits, command_bytes}
use Rattle.wire_frames.specs.Reading.{Reader}
use Rattle.lossy_link.specs.Incoming.{Advances, GivesNext, GoesOnAs, HasCommands, IsReadOut, IsReading, Stream}
use Rattle.lossy_link.proofs.Ordered.{one_split}
use Rattle.lossy_link.proofs.Taking.{goes_on_begins_none}

-- the commands that the reader stands after are the only ones
same_commands : (taken : List ℕ) (reader : Reader) (is : IsReading taken reader) (commands : List CommandFrame) → HasCommands taken commands → is.commands ≡ commands
same_commands taken reader is commands has =
    one_split is.commands commands is.rest has.rest is.whole.fit has.whole.fit (goes_on_begins_none reader.live reader.kept is.rest is.goes_on) has.no_more (sym is.whole.parts ∙ has.whole.parts)

stream_of : List ℕ → List ℕ → Stream
stream_of taken pending = record { taken = taken; pending = pending }

-- the bytes taken, and those after them
abbrev pub stream_at : List ℕ → ℕ → Stream
stream_at offered taken = record { taken = take taken offered; pending = drop taken offered }

module _ (offered : List ℕ) (taken : ℕ) (reader reader_now : Reader) (is : IsReading (take taken offered) reader) (piece : List ℕ) (piece_is : piece ≡ drop taken offered) (n : ℕ) (fits : n ≤ length piece) where
  taken_now : take (taken + n) offered ≡ take taken offered ++ take n piece
  taken_now = take-add taken n offered ∙ ap (λ (xs : List ℕ). take taken offered ++ take n xs) (sym piece_is)

  goes_on_parts : take (taken + n) offered ≡ flat_map command_bytes is.commands ++ (is.rest ++ take n piece)
  goes_on_parts = taken_now ∙ ap (λ (xs : List ℕ). xs ++ take n piece) is.whole.parts ∙ append_assoc (flat_map command_bytes is.commands) is.rest (take n piece)

  with_command : (c : CommandFrame) → command_bytes c ≡ is.rest ++ take n piece → IsCommand c → Splits command_bytes IsCommand (take (taken + n) offered) (is.commands ++ c ∷ []) []
  with_command c bytes fits_c = record {
    fit = All-append IsCommand is.commands (c ∷ []) is.whole.fit (All-cons IsCommand c [] fits_c (All-nil IsCommand));
    parts = goes_on_parts ∙ ap (λ (xs : List ℕ). flat_map command_bytes is.commands ++ xs) (sym bytes ∙ sym (append-nil (command_bytes c))) ∙ sym (flat_map-append command_bytes is.commands (c ∷ [])) ∙ sym (append-nil (flat_map command_bytes (is.commands ++ c ∷ [])));
  }

  pub reading_on : (found : Option CommandFrame) → ((rest : List ℕ) → GoesOnAs reader.live reader.kept rest → Advances rest (take n piece) found reader_now) → IsReading (take (taken + n) offered) reader_now
  reading_on (Some c) advances =
      let on = advances is.rest is.goes_on in
      record { commands = is.commands ++ c ∷ []; rest = []; whole = with_command c on.0 on.1; goes_on = on.2 }
  reading_on None advances = record {
    commands = is.commands;
    rest = is.rest ++ take n piece;
    whole = record { fit = is.whole.fit; parts = goes_on_parts };
    goes_on = advances is.rest is.goes_on;
  }

  pub gives_next : (found : Option CommandFrame) → ((rest : List ℕ) → GoesOnAs reader.live reader.kept rest → Advances rest (take n piece) found reader_now) → 0 < n → IfSome found (λ c. GivesNext (stream_at offered taken) (stream_at offered (taken + n)) c)
  gives_next None advances some = tt
  gives_next (Some c) advances some =
      let on = advances is.rest is.goes_on in
      record {
        fits = on.1;
        fewer = omega (arith, length-drop taken offered, length-drop (taken + n) offered, ap length piece_is);
        same = take-append-drop (taken + n) offered ∙ sym (take-append-drop taken offered);
        next = λ commands has.
            subst (λ (cs : List CommandFrame). HasCommands (take (taken + n) offered) (cs ++ c ∷ [])) (same_commands (take taken offered) reader is commands has)
            (record { rest = []; whole = with_command c on.0 on.1; no_more = goes_on_begins_none reader_now.live reader_now.kept [] on.2 });
      }

  pub read_out : (found : Option CommandFrame) → ((rest : List ℕ) → GoesOnAs reader.live reader.kept rest → Advances rest (take n piece) found reader_now) → IfNone found (n ≡ length piece) → IfNone found (IsReadOut (stream_at offered taken) (stream_at offered (taken + n)))
  unfolding stream_of
  read_out (Some c) advances all = tt
  read_out None advances all = record {
    all = ap₂ stream_of (taken_now ∙ ap (λ (xs : List ℕ). take taken offered ++ xs) (take_all n piece (omega arith) ∙ piece_is)) (sym (drop-drop n taken offered) ∙ ap (λ (xs : List ℕ). drop n xs) (sym piece_is) ∙ drop_all n piece (omega arith));
    none = λ commands has.
        subst (λ (cs : List CommandFrame). HasCommands (take (taken + n) offered) cs) (same_commands (take taken offered) reader is commands has)
        (record { rest = is.rest ++ take n piece; whole = record { fit = is.whole.fit; parts = goes_on_parts }; no_more = goes_on_begins_none reader_now.live reader_now.kept (is.rest ++ take n piece) (advances is.rest is.goes_on) });
  }
