-- What stands at the front of bytes, by what is read there of an answer alone.
use Rattle.std.proofs.Common.{◌≡◌, ◌≢◌, ◌⊎◌, ℕ, ◌+◌, ◌-◌, ◌<◌, ◌≤◌, List, [], ◌∷◌, ◌++◌, length, take, drop, get_or, Option, None, Some, Result, Ok, Err, refl, sym, ap, subst, ◌∙◌, arith, inl, inr}
use Rattle.std.specs.Prelude.{slice_index}
use Rattle.std.proofs.Math.Seq.{take-add}
use Rattle.std.proofs.lemmas.List.{take_rest}
use Rattle.wan_edge.specs.Frames.{AnswerFrame, HasOtherKind, IsAnswer, IsCutAnswer, answer_bytes, answer_kind}
use Rattle.wire_frames.specs.Reading.{Ends, GoesOn, IsAnswerFault, Reader, ReadsAnswer}
use Rattle.wire_frames.specs.declared.fault.FrameFault.{FrameFault}
use Rattle.wire_frames.specs.declared.fault.FrameFault.TheVariants.{Count, Kind}
use Rattle.host_edge.specs.Inboxes.{BeginsNone, Fronted, Fronts, FrontsAnswer, IsCutFloor, IsFront, IsFronted, fronted_bytes}
use Rattle.host_edge.specs.declared.front.Front.{Front}
use Rattle.host_edge.specs.declared.front.Front.TheVariants.{Cut, Other, Whole}

-- ---- an answer alone

pub answer-whole : (bytes kept : List ℕ) → kept ≡ [] → (n : ℕ) (found : Option AnswerFrame) (frame : AnswerFrame) (now : Reader) → found ≡ Some frame → ReadsAnswer kept bytes (Ok (n, found)) now → FrontsAnswer bytes (Whole n)
answer-whole bytes kept none n found frame now is read =
    let ends : Ends answer_bytes IsAnswer IsAnswerFault [] bytes n frame now =
    subst (λ (given : Option AnswerFrame). ReadsAnswer [] bytes (Ok (n, given)) now) is (subst (λ (front : List ℕ). ReadsAnswer front bytes (Ok (n, found)) now) none read) in
    (frame, ends.fits, ends.some, ends.within, ends.whole)

pub answer-cut : (bytes kept : List ℕ) → kept ≡ [] → (n : ℕ) (found : Option AnswerFrame) (now : Reader) → found ≡ None → ReadsAnswer kept bytes (Ok (n, found)) now → FrontsAnswer bytes Cut
answer-cut bytes kept none n found now is read =
    let goes : GoesOn answer_bytes IsAnswer IsAnswerFault [] bytes n now =
    subst (λ (given : Option AnswerFrame). ReadsAnswer [] bytes (Ok (n, given)) now) is (subst (λ (front : List ℕ). ReadsAnswer front bytes (Ok (n, found)) now) none read) in
    goes.cut

pub answer-other : (bytes kept : List ℕ) → kept ≡ [] → (fault : FrameFault) (now : Reader) → ReadsAnswer kept bytes (Err fault) now → FrontsAnswer bytes Other
answer-other bytes kept none (Kind byte) now read = (byte, subst (λ (front : List ℕ). HasOtherKind answer_kind (front ++ bytes) byte) none read.at_byte)
answer-other bytes kept none (Count byte) now read = absurd read.at_byte

-- ---- with what stands in front of it

first-of : (bytes behind : List ℕ) (byte : ℕ) → bytes ≡ byte ∷ behind → slice_index bytes 0 ≡ byte
first-of bytes behind byte is = ap (λ (xs : List ℕ). slice_index xs 0) is

pub plain-fronts : (bytes : List ℕ) (f : Front) → slice_index bytes 0 ≢ 70 → FrontsAnswer bytes f → Fronts bytes f
plain-fronts bytes (Whole n) plain (a, fits, some, within, is) = (record { front = []; answer = a }, record { front = inl refl; answer = fits }, some, within, is)
plain-fronts bytes Cut plain cut = inl cut
plain-fronts bytes Other plain (byte, other) = record {
  front = [];
  is_front = inl refl;
  rest = bytes;
  parts = refl;
  byte = byte;
  other = other;
  no_floor = λ none is. plain (first-of bytes other.behind byte other.parts ∙ is);
}

pub floor-few : (bytes : List ℕ) → 0 < length bytes → slice_index bytes 0 ≡ 70 → length bytes ≤ 5 → Fronts bytes Cut
floor-few [] some floor few = absurd (omega (arith, some))
floor-few (b ∷ bs) some floor few = inr (record { behind = bs; parts = ap (λ (x : ℕ). x ∷ bs) floor; cut = inl (omega (arith, few)) })

-- after a floor
abbrev pub moved : Front → Front
moved (Whole n) = Whole (5 + n)
moved Cut = Cut
moved Other = Other

floored : (a b c d e : ℕ) (rest : List ℕ) (f : Front) → a ≡ 70 → FrontsAnswer rest f → Fronts (a ∷ b ∷ c ∷ d ∷ e ∷ rest) (moved f)
floored a b c d e rest (Whole n) floor (frame, fits, some, within, is) = (
  record { front = a ∷ b ∷ c ∷ d ∷ e ∷ []; answer = frame },
  record { front = inr (b ∷ c ∷ d ∷ e ∷ [], refl, ap (λ (x : ℕ). x ∷ b ∷ c ∷ d ∷ e ∷ []) floor); answer = fits },
  omega arith,
  omega (arith, within),
  ap (λ (xs : List ℕ). a ∷ b ∷ c ∷ d ∷ e ∷ xs) is ∙ sym (take-add 5 n (a ∷ b ∷ c ∷ d ∷ e ∷ rest)),
)
floored a b c d e rest Cut floor cut = inr (record { behind = b ∷ c ∷ d ∷ e ∷ rest; parts = ap (λ (x : ℕ). x ∷ b ∷ c ∷ d ∷ e ∷ rest) floor; cut = inr cut })
floored a b c d e rest Other floor (byte, other) = record {
  front = a ∷ b ∷ c ∷ d ∷ e ∷ [];
  is_front = inr (b ∷ c ∷ d ∷ e ∷ [], refl, ap (λ (x : ℕ). x ∷ b ∷ c ∷ d ∷ e ∷ []) floor);
  rest = rest;
  parts = refl;
  byte = byte;
  other = other;
  no_floor = λ none. absurd (cc none);
}

pub floor-fronts : (bytes : List ℕ) (f : Front) → slice_index bytes 0 ≡ 70 → 5 < length bytes → FrontsAnswer (drop 5 bytes) f → Fronts bytes (moved f)
floor-fronts [] f floor long fronts = absurd (omega (arith, long))
floor-fronts (a ∷ []) f floor long fronts = absurd (omega (arith, long))
floor-fronts (a ∷ b ∷ []) f floor long fronts = absurd (omega (arith, long))
floor-fronts (a ∷ b ∷ c ∷ []) f floor long fronts = absurd (omega (arith, long))
floor-fronts (a ∷ b ∷ c ∷ d ∷ []) f floor long fronts = absurd (omega (arith, long))
floor-fronts (a ∷ b ∷ c ∷ d ∷ e ∷ rest) f floor long fronts = floored a b c d e rest f floor fronts

-- the same of what a slice from there on is
pub floor-slice : (bytes : List ℕ) (f : Front) → slice_index bytes 0 ≡ 70 → 5 < length bytes → FrontsAnswer (take (length bytes - 5) (drop 5 bytes)) f → Fronts bytes (moved f)
floor-slice bytes f floor long fronts = floor-fronts bytes f floor long (subst (λ (xs : List ℕ). FrontsAnswer xs f) (take_rest bytes 5) fronts)
