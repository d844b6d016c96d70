-- What a row of readings comes to.
use Rattle.std.proofs.Common.{◌≡◌, ℕ, zero, suc, ◌+◌, ◌-◌, ◌≤◌, ◌==◌, Bool, true, false, List, [], ◌∷◌, ◌++◌, length, take, drop, Option, Some, None, Result, Ok, Err, IfErr, IsErrAnd, if◌then◌else◌, refl, sym, ap, subst, ◌∙◌, append_assoc, arith, length-append, length-drop}
use Rattle.std.proofs.lemmas.List.{append-nil, drop-drop, take_all, take_rest, take-append-drop}
use Rattle.std.proofs.Math.Seq.{take-add}
use Rattle.std.proofs.lemmas.List.Elements.{All-append, All-nil}
use Rattle.std.proofs.lemmas.Grind.{flat_map-append}
use Rattle.std.specs.List.{All, flat_map}
use Rattle.wan_edge.specs.Frames.{Answer, AnswerFrame, IsAnswer, answer_bytes}
use Rattle.wire_frames.specs.Reading.{Ends as EndsFrame, Gives, GoesOn, IsAnswerFault, Reader}
use Rattle.wire_frames.specs.declared.fault.FrameFault.{FrameFault}
use Rattle.wire_frames.specs.declared.fault.FrameFault.TheVariants.{Count, Kind}
use Rattle.port_session.specs.Bytes.{byte_of}
use Rattle.port_session.specs.Reading.{ReadsAnswers, Reckoning, answers_of}
use Rattle.port_session.specs.declared.fault.SessionFault.{SessionFault}
use Rattle.port_session.specs.declared.fault.SessionFault.TheVariants.{Memory, NoAnswer, Port}

chosen-append : (test : Bool) (a : Answer) (xs ys : List Answer) → (if test then a ∷ (xs ++ ys) else (xs ++ ys)) ≡ (if test then a ∷ xs else xs) ++ ys
chosen-append true a xs ys = refl
chosen-append false a xs ys = refl

pub answers_of-append : (migration : ℕ) (xs ys : List AnswerFrame) → answers_of migration (xs ++ ys) ≡ answers_of migration xs ++ answers_of migration ys
unfolding answers_of
answers_of-append migration [] ys = refl
answers_of-append migration (a ∷ xs) ys =
    ap (λ (later : List Answer). if a.0 == migration then a.1 ∷ later else later) (answers_of-append migration xs ys)
    ∙ chosen-append (a.0 == migration) a.1 (answers_of migration xs) (answers_of migration ys)

abbrev pub reckoning : List ℕ → ℕ → List Answer → Reckoning
reckoning kept awaited told = record { kept = kept; awaited = awaited; told = told }

-- nothing was read
pub reads_nothing : (migration : ℕ) (a : Reckoning) → ReadsAnswers migration a [] None a
unfolding answers_of
reads_nothing migration a = record {
  answers = [];
  rest = a.kept;
  whole = record { fit = All-nil IsAnswer; parts = append-nil a.kept };
  told_more = sym (append-nil a.told);
  awaited_less = omega arith;
  ends = refl;
}

-- a reading that goes on, and one after it
pub reads_on : (migration : ℕ) (a b c : Reckoning) (bytes more : List ℕ) (fault : Option SessionFault) → ReadsAnswers migration a bytes None b → ReadsAnswers migration b more fault c → ReadsAnswers migration a (bytes ++ more) fault c
reads_on migration a b c bytes more fault first second = record {
  answers = first.answers ++ second.answers;
  rest = second.rest;
  whole = record {
    fit = All-append IsAnswer first.answers second.answers first.whole.fit second.whole.fit;
    parts =
        sym (append_assoc a.kept bytes more) ∙ ap (λ (xs : List ℕ). xs ++ more) first.whole.parts ∙ append_assoc (flat_map answer_bytes first.answers) first.rest more
        ∙ ap (λ (xs : List ℕ). flat_map answer_bytes first.answers ++ xs) (ap (λ (xs : List ℕ). xs ++ more) first.ends ∙ second.whole.parts)
        ∙ sym (append_assoc (flat_map answer_bytes first.answers) (flat_map answer_bytes second.answers) second.rest)
        ∙ ap (λ (xs : List ℕ). xs ++ second.rest) (sym (flat_map-append answer_bytes first.answers second.answers));
  };
  told_more =
      second.told_more ∙ ap (λ (xs : List Answer). xs ++ answers_of migration second.answers) first.told_more ∙ append_assoc a.told (answers_of migration first.answers) (answers_of migration second.answers)
      ∙ ap (λ (xs : List Answer). a.told ++ xs) (sym (answers_of-append migration first.answers second.answers));
  awaited_less = omega (arith, second.awaited_less, first.awaited_less, length-append first.answers second.answers);
  ends = second.ends;
}

pub one : (a : AnswerFrame) → IsAnswer a → All IsAnswer (a ∷ [])
one a fits zero d inside = fits
one a fits (suc k) d inside = absurd (omega arith)

module _ (migration : ℕ) (kept piece : List ℕ) (awaited : ℕ) (told : List Answer) where
  -- all of the piece was taken, and it ends no answer
  pub reads_none : (n : ℕ) (now : Reader) → GoesOn answer_bytes IsAnswer IsAnswerFault kept piece n now → ReadsAnswers migration (reckoning kept awaited told) (take n piece) None (reckoning now.kept awaited told)
  unfolding answers_of
  reads_none n now on = record {
    answers = [];
    rest = kept ++ take n piece;
    whole = record { fit = All-nil IsAnswer; parts = refl };
    told_more = sym (append-nil told);
    awaited_less = omega arith;
    ends = ap (λ (xs : List ℕ). kept ++ xs) (take_all n piece (omega (arith, on.all))) ∙ sym (ap (λ (r : Reader). r.kept) on.now_longer);
  }

  -- one answer ends in the piece, and is told where it is of the migration
  pub reads_one : (n : ℕ) (a : AnswerFrame) (now : Reader) (awaited_now : ℕ) (told_now : List Answer) → EndsFrame answer_bytes IsAnswer IsAnswerFault kept piece n a now → awaited_now ≡ awaited - 1 → told_now ≡ told ++ answers_of migration (a ∷ [])
      → ReadsAnswers migration (reckoning kept awaited told) (take n piece) None (reckoning now.kept awaited_now told_now)
  reads_one n a now awaited_now told_now ends less more = record {
    answers = a ∷ [];
    rest = [];
    whole = record { fit = one a ends.fits; parts = sym ends.whole ∙ sym (append-nil (answer_bytes a)) ∙ ap (λ (xs : List ℕ). xs ++ []) (sym (append-nil (answer_bytes a))) };
    told_more = more;
    awaited_less = less;
    ends = sym (ap (λ (r : Reader). r.kept) ends.now_fresh);
  }

  -- one answer of the migration ends in the piece, and found no memory
  pub reads_unread : (n : ℕ) (a : AnswerFrame) (now : Reader) (awaited_now : ℕ) (told_now : List Answer) → EndsFrame answer_bytes IsAnswer IsAnswerFault kept piece n a now → a.0 ≡ migration → awaited_now ≡ awaited → told_now ≡ told
      → ReadsAnswers migration (reckoning kept awaited told) piece (Some Memory) (reckoning now.kept awaited_now told_now)
  unfolding answers_of
  reads_unread n a now awaited_now told_now ends mine same untold = record {
    answers = [];
    rest = kept ++ piece;
    whole = record { fit = All-nil IsAnswer; parts = refl };
    told_more = untold ∙ sym (append-nil told);
    awaited_less = omega (arith, same);
    ends = record {
      answer = a;
      fits = ends.fits;
      of_migration = mine;
      behind = drop n piece;
      parts = ap (λ (xs : List ℕ). kept ++ xs) (sym (take-append-drop n piece)) ∙ sym (append_assoc kept (take n piece) (drop n piece)) ∙ ap (λ (xs : List ℕ). xs ++ drop n piece) (sym ends.whole);
    };
  }

  -- a byte that begins no answer
  pub reads_fault : (fault : FrameFault) (given : SessionFault) (kept_now : List ℕ) → IsAnswerFault (kept ++ piece) fault → given ≡ NoAnswer (byte_of fault) → ReadsAnswers migration (reckoning kept awaited told) piece (Some given) (reckoning kept_now awaited told)
  unfolding answers_of
  reads_fault (Kind byte) given kept_now at_byte is = subst (λ (f : SessionFault). ReadsAnswers migration (reckoning kept awaited told) piece (Some f) (reckoning kept_now awaited told)) (sym is) (record {
    answers = [];
    rest = kept ++ piece;
    whole = record { fit = All-nil IsAnswer; parts = refl };
    told_more = sym (append-nil told);
    awaited_less = omega arith;
    ends = at_byte;
  })
  reads_fault (Count byte) given kept_now at_byte is = absurd at_byte

-- what holds of the fault that was given holds of the answer's
pub if_err : {X E : Type 0} (answer : Result X E) (given : E) (Q : E → Type 0) → IsErrAnd answer (λ e. e ≡ given) → Q given → IfErr answer Q
if_err (Ok x) given Q is holds = absurd is
if_err (Err e) given Q is holds = subst Q (sym is) holds

-- what a reader gave, where it is known whether there is an answer
pub gives : (kept piece : List ℕ) (n : ℕ) (found known : Option AnswerFrame) (now : Reader) → found ≡ known → Gives answer_bytes IsAnswer IsAnswerFault kept piece n found now → Gives answer_bytes IsAnswer IsAnswerFault kept piece n known now
gives kept piece n found known now is given = subst (λ (f : Option AnswerFrame). Gives answer_bytes IsAnswer IsAnswerFault kept piece n f now) is given

-- the bytes of a piece as far as the next answer, and all of them
module _ (piece rest : List ℕ) (behind : rest ≡ drop (length piece - length rest) piece) (within : length rest ≤ length piece) (n : ℕ) (fits : n ≤ length rest) where
  pub rest_on : length (take (length rest - n) (drop n rest)) ≡ length rest - n
  rest_on = ap length (take_rest rest n) ∙ length-drop n rest

  done_on : length piece - length rest + n ≡ length piece - length (take (length rest - n) (drop n rest))
  done_on = omega (arith, rest_on)

  pub behind_on : take (length rest - n) (drop n rest) ≡ drop (length piece - length (take (length rest - n) (drop n rest))) piece
  behind_on =
      take_rest rest n ∙ ap (λ (xs : List ℕ). drop n xs) behind ∙ drop-drop n (length piece - length rest) piece ∙ ap (λ (done : ℕ). drop done piece) done_on

  bytes_on : take (length piece - length rest) piece ++ take n rest ≡ take (length piece - length (take (length rest - n) (drop n rest))) piece
  bytes_on =
      ap (λ (xs : List ℕ). take (length piece - length rest) piece ++ take n xs) behind ∙ sym (take-add (length piece - length rest) n piece) ∙ ap (λ (done : ℕ). take done piece) done_on

  pub reads_further : (migration : ℕ) (a b c : Reckoning) → ReadsAnswers migration a (take (length piece - length rest) piece) None b → ReadsAnswers migration b (take n rest) None c
      → ReadsAnswers migration a (take (length piece - length (take (length rest - n) (drop n rest))) piece) None c
  reads_further migration a b c first second = subst (λ (bytes : List ℕ). ReadsAnswers migration a bytes None c) bytes_on (reads_on migration a b c (take (length piece - length rest) piece) (take n rest) None first second)

-- the rest of a piece ended in a fault
pub reads_until : (migration : ℕ) (a b c : Reckoning) (piece rest : List ℕ) (fault : SessionFault) → rest ≡ drop (length piece - length rest) piece → ReadsAnswers migration a (take (length piece - length rest) piece) None b → ReadsAnswers migration b rest (Some fault) c
    → ReadsAnswers migration a piece (Some fault) c
reads_until migration a b c piece rest fault behind first second =
    let all = ap (λ (xs : List ℕ). take (length piece - length rest) piece ++ xs) behind ∙ take-append-drop (length piece - length rest) piece in
    subst (λ (bytes : List ℕ). ReadsAnswers migration a bytes (Some fault) c) all (reads_on migration a b c (take (length piece - length rest) piece) rest (Some fault) first second)

-- before the first byte
pub reads_none_yet : (migration : ℕ) (a : Reckoning) (piece : List ℕ) → ReadsAnswers migration a (take (length piece - length piece) piece) None a
reads_none_yet migration a piece =
    let none : length piece - length piece ≡ 0 = omega arith in
    subst (λ (n : ℕ). ReadsAnswers migration a (take n piece) None a) (sym none) (reads_nothing migration a)

pub none_behind : (piece : List ℕ) → piece ≡ drop (length piece - length piece) piece
none_behind piece =
    let none : 0 ≡ length piece - length piece = omega arith in
    ap (λ (n : ℕ). drop n piece) none

-- after the last byte
pub reads_whole : (migration : ℕ) (a b : Reckoning) (piece rest : List ℕ) → length rest ≡ 0 → ReadsAnswers migration a (take (length piece - length rest) piece) None b → ReadsAnswers migration a piece None b
reads_whole migration a b piece rest empty reads = subst (λ (bytes : List ℕ). ReadsAnswers migration a bytes None b) (take_all (length piece - length rest) piece (omega (arith, empty))) reads

-- where hearing fails, all that came before was read
pub reads_stopped : (migration : ℕ) (a b : Reckoning) (bytes : List ℕ) → ReadsAnswers migration a bytes None b → ReadsAnswers migration a bytes (Some Port) b
reads_stopped migration a b bytes reads = record {
  answers = reads.answers;
  rest = reads.rest;
  whole = reads.whole;
  told_more = reads.told_more;
  awaited_less = reads.awaited_less;
  ends = reads.ends;
}
