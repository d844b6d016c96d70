-- What commands in a row come to, each with a term in front.
use Rattle.std.proofs.Common.{◌≡◌, ℕ, ◌+◌, ◌-◌, ◌≤◌, List, [], ◌∷◌, ◌++◌, length, take, drop, Option, Some, refl, sym, ap, subst, ◌∙◌, append_assoc, append-nil, arith}
use Rattle.std.proofs.Math.Seq.{take-add}
use Rattle.std.proofs.lemmas.List.{take_all}
use Rattle.std.proofs.lemmas.List.Elements.{All-append, All-nil}
use Rattle.std.proofs.lemmas.Grind.{flat_map-append}
use Rattle.std.specs.List.{flat_map}
use Rattle.wan_edge.specs.Frames.{CommandFrame, IsCommand, Splits, command_bytes}
use Rattle.wan_edge.specs.Ports.{AppendsFront}
use Rattle.wan_edge.specs.Streams.{Appends}
use Rattle.wan_edge.proofs.Chains.{Appends-nothing}
use Rattle.wire_frames.specs.Reading.{Ends as EndsFrame, GoesOn, IsCommandFault, Reader}
use Rattle.port_session.proofs.Chaining.{rest_on}
use Rattle.switch_agent.proofs.Chains.{one}
use Rattle.fenced_agent.specs.Frames.{fence_bytes}
use Rattle.fenced_ports.specs.Framing.{Frames, Framing, Sends, SendsFront, with_term, with_terms}

abbrev pub framing : List ℕ → List ℕ → Framing
framing kept out = record { kept = kept; out = out }

-- ---- one command

-- the head, and the command after it
pub one_added : (term : ℕ) (c : CommandFrame) (before mid now : List ℕ) → mid ≡ before ++ fence_bytes (Some term) → now ≡ mid ++ command_bytes c → now ≡ before ++ with_terms term (c ∷ [])
one_added term c before mid now head is =
    is ∙ ap (λ (xs : List ℕ). xs ++ command_bytes c) head ∙ append_assoc before (fence_bytes (Some term)) (command_bytes c)
    ∙ ap (λ (xs : List ℕ). before ++ xs) (sym (append-nil (with_term term c)))

module _ (term : ℕ) (kept piece out : List ℕ) (n : ℕ) (now : Reader) where
  -- all of the piece was taken, and it ends no command
  pub frames-none : GoesOn command_bytes IsCommand IsCommandFault kept piece n now → Frames term (framing kept out) (take n piece) (framing now.kept out)
  frames-none on = record {
    commands = [];
    whole = record { fit = All-nil IsCommand; parts = ap (λ (xs : List ℕ). kept ++ xs) (take_all n piece (omega (arith, on.all))) ∙ sym (ap (λ (r : Reader). r.kept) on.now_longer) };
    added = sym (append-nil out);
  }

  -- one command ends in the piece
  pub frames-one : (c : CommandFrame) (out_now : List ℕ) → EndsFrame command_bytes IsCommand IsCommandFault kept piece n c now → out_now ≡ out ++ with_terms term (c ∷ []) → Frames term (framing kept out) (take n piece) (framing now.kept out_now)
  frames-one c out_now ends added = record {
    commands = c ∷ [];
    whole = record {
      fit = one c ends.fits;
      parts =
          sym ends.whole ∙ sym (append-nil (command_bytes c)) ∙ ap (λ (xs : List ℕ). xs ++ []) (sym (append-nil (command_bytes c)))
          ∙ ap (λ (xs : List ℕ). (command_bytes c ++ []) ++ xs) (sym (ap (λ (r : Reader). r.kept) ends.now_fresh));
    };
    added = added;
  }

-- ---- rows

pub splits-nothing : (bytes : List ℕ) → Splits command_bytes IsCommand bytes [] bytes
splits-nothing bytes = record { fit = All-nil IsCommand; parts = refl }

pub splits-on : (kept bytes more mid rest : List ℕ) (first second : List CommandFrame) → Splits command_bytes IsCommand (kept ++ bytes) first mid → Splits command_bytes IsCommand (mid ++ more) second rest
    → Splits command_bytes IsCommand (kept ++ (bytes ++ more)) (first ++ second) rest
splits-on kept bytes more mid rest first second a b = record {
  fit = All-append IsCommand first second a.fit b.fit;
  parts =
      sym (append_assoc kept bytes more) ∙ ap (λ (xs : List ℕ). xs ++ more) a.parts ∙ append_assoc (flat_map command_bytes first) mid more
      ∙ ap (λ (xs : List ℕ). flat_map command_bytes first ++ xs) b.parts
      ∙ sym (append_assoc (flat_map command_bytes first) (flat_map command_bytes second) rest)
      ∙ ap (λ (xs : List ℕ). xs ++ rest) (sym (flat_map-append command_bytes first second));
}

pub frames-nothing : (term : ℕ) (a : Framing) → Frames term a [] a
frames-nothing term a = record { commands = []; whole = record { fit = All-nil IsCommand; parts = append-nil a.kept }; added = sym (append-nil a.out) }

pub frames-on : (term : ℕ) (a b c : Framing) (bytes more : List ℕ) → Frames term a bytes b → Frames term b more c → Frames term a (bytes ++ more) c
frames-on term a b c bytes more first second = record {
  commands = first.commands ++ second.commands;
  whole = splits-on a.kept bytes more b.kept c.kept first.commands second.commands first.whole second.whole;
  added =
      second.added ∙ ap (λ (xs : List ℕ). xs ++ with_terms term second.commands) first.added ∙ append_assoc a.out (with_terms term first.commands) (with_terms term second.commands)
      ∙ ap (λ (xs : List ℕ). a.out ++ xs) (sym (flat_map-append (with_term term) first.commands second.commands));
}

-- the bytes of a piece as far as the next command
module _ (piece rest : List ℕ) (behind : rest ≡ drop (length piece - length rest) piece) (within : length rest ≤ length piece) (n : ℕ) (fits : n ≤ length rest) where
  done_on : length piece - length rest + n ≡ length piece - length (take (length rest - n) (drop n rest))
  done_on = omega (arith, rest_on piece rest behind within n fits)

  bytes_on : take (length piece - length rest) piece ++ take n rest ≡ take (length piece - length (take (length rest - n) (drop n rest))) piece
  bytes_on =
      ap (λ (xs : List ℕ). take (length piece - length rest) piece ++ take n xs) behind ∙ sym (take-add (length piece - length rest) n piece) ∙ ap (λ (done : ℕ). take done piece) done_on

  pub frames-further : (term : ℕ) (a b c : Framing) → Frames term a (take (length piece - length rest) piece) b → Frames term b (take n rest) c
      → Frames term a (take (length piece - length (take (length rest - n) (drop n rest))) piece) c
  frames-further term a b c first second =
      subst (λ (bytes : List ℕ). Frames term a bytes c) bytes_on (frames-on term a b c (take (length piece - length rest) piece) (take n rest) first second)

pub frames-none-yet : (term : ℕ) (a : Framing) (piece : List ℕ) → Frames term a (take (length piece - length piece) piece) a
frames-none-yet term a piece =
    let none : length piece - length piece ≡ 0 = omega arith in
    subst (λ (n : ℕ). Frames term a (take n piece) a) (sym none) (frames-nothing term a)

pub frames_whole : (term : ℕ) (a b : Framing) (piece rest : List ℕ) → length rest ≡ 0 → Frames term a (take (length piece - length rest) piece) b → Frames term a piece b
frames_whole term a b piece rest empty frames = subst (λ (bytes : List ℕ). Frames term a bytes b) (take_all (length piece - length rest) piece (omega (arith, empty))) frames

-- ---- out

-- they went out
pub sends-all : (term : ℕ) (kept bytes kept_now out : List ℕ) (before now : Option (List ℕ)) → Frames term (framing kept []) bytes (framing kept_now out) → Appends before out now → Sends term kept bytes before now kept_now
sends-all term kept bytes kept_now out before now frames went = record {
  commands = frames.commands;
  whole = frames.whole;
  offered = subst (λ (xs : List ℕ). Appends before xs now) frames.added went;
}

-- the port failed
pub sends-front : (term : ℕ) (kept bytes kept_now out : List ℕ) (before now : Option (List ℕ)) → Frames term (framing kept []) bytes (framing kept_now out) → AppendsFront before out now → SendsFront term kept bytes before now
sends-front term kept bytes kept_now out before now frames went = record {
  commands = frames.commands;
  rest = kept_now;
  whole = frames.whole;
  offered = subst (λ (xs : List ℕ). AppendsFront before xs now) frames.added went;
}

-- nothing went out
pub sends-none : (term : ℕ) (kept bytes : List ℕ) (before : Option (List ℕ)) → SendsFront term kept bytes before before
sends-none term kept bytes before = record {
  commands = [];
  rest = kept ++ bytes;
  whole = record { fit = All-nil IsCommand; parts = refl };
  offered = record { count = 0; within = omega arith; appended = Appends-nothing before };
}
