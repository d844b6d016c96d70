-- Bytes of questions and of answers, piece by piece.
use Rattle.std.proofs.Common.{◌≡◌, ℕ, ◌+◌, List, [], ◌∷◌, ◌++◌, length, take, Option, refl, sym, ap, ◌∙◌, subst, arith, append-nil, append_assoc, length-append}
use Rattle.std.proofs.lemmas.List.{take_all, take_at}
use Rattle.std.proofs.lemmas.List.Elements.{All-append, All-cons, All-nil}
use Rattle.std.proofs.lemmas.Grind.{flat_map-append}
use Rattle.std.specs.List.{flat_map}
use Rattle.wan_edge.specs.Frames.{AnswerFrame, HasOtherKind, IsAnswer, Splits, answer_bytes, answer_kind, command_bytes}
use Rattle.wan_edge.specs.Streams.{Appends}
use Rattle.wan_edge.proofs.Chains.{Appends-chain, Appends-nothing}
use Rattle.wan_edge.proofs.Sizes.{answer-length}
use Rattle.wire_frames.specs.Reading.{Ends, GoesOn, IsAnswerFault, Reader}
use Rattle.wire_frames.specs.declared.fault.FrameFault.{FrameFault}
use Rattle.wire_frames.specs.declared.fault.FrameFault.TheVariants.{Count, Kind}
use Rattle.port_session.specs.Bytes.{byte_of}
use Rattle.held_service.specs.Hearing.{Reads, ReadsNone, ReadsOther}
use Rattle.held_service.specs.Questions.{question, question_bytes}

-- ---- questions

pub question-more : (migration : ℕ) (items : List ℕ) (item : ℕ) → question_bytes migration (items ++ item ∷ []) ≡ question_bytes migration items ++ command_bytes (question migration item)
question-more migration [] item = append-nil (command_bytes (question migration item))
question-more migration (n ∷ items) item =
    ap (λ (bytes : List ℕ). command_bytes (question migration n) ++ bytes) (question-more migration items item)
    ∙ sym (append_assoc (command_bytes (question migration n)) (question_bytes migration items) (command_bytes (question migration item)))

pub question-append : (migration : ℕ) (items more : List ℕ) → question_bytes migration (items ++ more) ≡ question_bytes migration items ++ question_bytes migration more
question-append migration [] more = refl
question-append migration (n ∷ items) more =
    ap (λ (bytes : List ℕ). command_bytes (question migration n) ++ bytes) (question-append migration items more)
    ∙ sym (append_assoc (command_bytes (question migration n)) (question_bytes migration items) (question_bytes migration more))

-- the front of a buffer that has these bytes
pub front-is : (frame out rest : List ℕ) (n : ℕ) → out ≡ frame ++ rest → n ≡ length frame → take n out ≡ frame
front-is frame out rest n is long = ap (take n) is ∙ take_at frame rest n (sym long)

-- ---- answers

-- whole answers after others
splits-on : (kept between xs ys rest : List ℕ) (earlier later : List AnswerFrame) → Splits answer_bytes IsAnswer (kept ++ xs) earlier between → Splits answer_bytes IsAnswer (between ++ ys) later rest → Splits answer_bytes IsAnswer (kept ++ (xs ++ ys)) (earlier ++ later) rest
splits-on kept between xs ys rest earlier later first second = record {
  fit = All-append IsAnswer earlier later first.fit second.fit;
  parts =
      sym (append_assoc kept xs ys) ∙ ap (λ (bytes : List ℕ). bytes ++ ys) first.parts ∙ append_assoc (flat_map answer_bytes earlier) between ys
      ∙ ap (λ (bytes : List ℕ). flat_map answer_bytes earlier ++ bytes) second.parts
      ∙ sym (append_assoc (flat_map answer_bytes earlier) (flat_map answer_bytes later) rest)
      ∙ ap (λ (bytes : List ℕ). bytes ++ rest) (sym (flat_map-append answer_bytes earlier later));
}

-- nothing came
pub reads-nothing : (kept : List ℕ) (before now : Option (List ℕ)) → Appends before [] now → Reads kept before [] kept now
reads-nothing kept before now none = record { bytes = []; appended = none; whole = record { fit = All-nil IsAnswer; parts = append-nil kept } }

pub reads-none : (kept : List ℕ) (told : Option (List ℕ)) → Reads kept told [] kept told
reads-none kept told = reads-nothing kept told told (Appends-nothing told)

module _ (kept between : List ℕ) (a b c : Option (List ℕ)) (earlier : List AnswerFrame) (first : Reads kept a earlier between b) where
  -- further answers
  pub reads-on : (later : List AnswerFrame) (rest : List ℕ) → Reads between b later rest c → Reads kept a (earlier ++ later) rest c
  reads-on later rest second = record {
    bytes = first.bytes ++ second.bytes;
    appended = Appends-chain a b c first.bytes second.bytes first.appended second.appended;
    whole = splits-on kept between first.bytes second.bytes rest earlier later first.whole second.whole;
  }

  -- a byte that begins none
  pub none-behind : (byte : ℕ) → ReadsNone byte between b c → ReadsNone byte kept a c
  none-behind byte second = record {
    bytes = first.bytes ++ second.bytes;
    appended = Appends-chain a b c first.bytes second.bytes first.appended second.appended;
    answers = earlier ++ second.answers;
    rest = second.rest;
    whole = splits-on kept between first.bytes second.bytes second.rest earlier second.answers first.whole second.whole;
    other = second.other;
  }

  -- an answer about another item
  pub other-behind : (homes : List (Option ℕ)) (switch item : ℕ) → ReadsOther homes switch item between b c → ReadsOther homes switch item kept a c
  other-behind homes switch item second = record {
    earlier = earlier ++ second.earlier;
    answer = second.answer;
    kept_now = second.kept_now;
    reads = subst (λ (all : List AnswerFrame). Reads kept a all second.kept_now c) (sym (append_assoc earlier second.earlier (second.answer ∷ []))) (reads-on (second.earlier ++ second.answer ∷ []) second.kept_now second.reads);
    item_is = second.item_is;
    other = second.other;
  }

-- ---- one byte

pub alien-byte : (bytes : List ℕ) (fault : FrameFault) → IsAnswerFault bytes fault → HasOtherKind answer_kind bytes (byte_of fault)
alien-byte bytes (Kind byte) at = at
alien-byte bytes (Count byte) at = absurd at

module _ (kept piece : List ℕ) (one : length piece ≡ 1) (n : ℕ) where
  -- an answer ends with it
  pub ends-whole : (a : AnswerFrame) (now : Reader) → Ends answer_bytes IsAnswer IsAnswerFault kept piece n a now → Splits answer_bytes IsAnswer (kept ++ piece) (a ∷ []) []
  ends-whole a now ends = record {
    fit = All-cons IsAnswer a [] ends.fits (All-nil IsAnswer);
    parts = ap (λ (bytes : List ℕ). kept ++ bytes) (sym (take_all n piece (omega (arith, one, ends.some)))) ∙ sym ends.whole ∙ sym (append-nil (answer_bytes a)) ∙ sym (append-nil (answer_bytes a ++ []));
  }

  pub ends-long : (a : AnswerFrame) (now : Reader) → Ends answer_bytes IsAnswer IsAnswerFault kept piece n a now → length kept + 1 ≡ 13
  ends-long a now ends =
      let all : take n piece ≡ piece = take_all n piece (omega (arith, one, ends.some)) in
      omega (arith, answer-length a, ap (λ (bytes : List ℕ). length bytes) ends.whole, length-append kept (take n piece), ap (λ (bytes : List ℕ). length bytes) all, one)

  pub ends-fresh : (a : AnswerFrame) (now : Reader) → Ends answer_bytes IsAnswer IsAnswerFault kept piece n a now → now.kept ≡ []
  ends-fresh a now ends = ap (λ (r : Reader). r.kept) ends.now_fresh

  -- none does
  pub goes-whole : (now : Reader) → GoesOn answer_bytes IsAnswer IsAnswerFault kept piece n now → Splits answer_bytes IsAnswer (kept ++ piece) [] now.kept
  goes-whole now on = record { fit = All-nil IsAnswer; parts = sym (ap (λ (r : Reader). r.kept) on.now_longer) }

  pub goes-longer : (now : Reader) → GoesOn answer_bytes IsAnswer IsAnswerFault kept piece n now → length now.kept ≡ length kept + 1
  goes-longer now on = omega (arith, ap (λ (r : Reader). length r.kept) on.now_longer, length-append kept piece, one)
