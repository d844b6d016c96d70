-- What is read of a journal while its controller appends is the journal as it stood at some moment meanwhile.
use Rattle.std.proofs.Common.{◌≡◌, ◌≢◌, inl, inr, ℕ, zero, suc, ◌+◌, ◌<◌, ◌≤◌, List, [], ◌∷◌, ◌++◌, length, take, drop, get_or, refl, sym, subst, ap, ◌∙◌, arith, length-append}
use Rattle.std.proofs.lemmas.Bool.{cases_lt}
use Rattle.std.proofs.lemmas.List.{append_assoc, drop-append-le, drop-take, get_or-drop, get_or-take, get_or_append_left, get_or_at, get_or_push, length-take-le, take-take, take_at, take_more_same}
use Rattle.rollout_rules.specs.Wan.{Rollout}
use Rattle.disk_model.proofs.FourBytes.{around_byte}
use Rattle.intent_journal.specs.declared.digest.Digest.{Digest}
use Rattle.disk_model.specs.Numbers.{byte_at}
use Rattle.intent_journal.specs.Parts.{open_batch}
use Rattle.intent_journal.specs.States.{Home, IsAtRest}
use Rattle.intent_journal.specs.Verdicts.{Verdict, verdict}
use Rattle.intent_journal.proofs.Alone.{alone_same, placed_start}
use Rattle.intent_journal.proofs.Committing.{rest_keeps}
use Rattle.intent_journal.proofs.Fronts.{part_long}
use Rattle.rollout_report.specs.Journals.{digest_for, journal_report, told_by}
use Rattle.rollout_report.specs.Kept.{AreOneJournal}
use Rattle.rollout_report.specs.Watching.{AreMoments, AreReadFrom, Follow, HasGoneOn, HeldOnce, Moment}
use Rattle.rollout_report.proofs.Judged.{rest_judged}

-- ---- bytes and fronts

byte_of : (n i : ℕ) (a b : List ℕ) → take n a ≡ take n b → i < n → byte_at i a ≡ byte_at i b
byte_of n i a b same less = sym (get_or-take n a i 0 less) ∙ ap (λ (l : List ℕ). get_or l i 0) same ∙ get_or-take n b i 0 less

-- lists with the same bytes below a number have the same front
front_of : (n : ℕ) (a b : List ℕ) → n ≤ length a → n ≤ length b → ((i : ℕ) → i < n → byte_at i a ≡ byte_at i b) → take n a ≡ take n b
front_of zero a b long_a long_b same = refl
front_of (suc n) a b long_a long_b same =
    let more : suc n ≡ n + 1 = omega arith in
    ap (λ (k : ℕ). take k a) more
    ∙ take_more_same a b n 0 (omega (arith, long_a)) (omega (arith, long_b)) (front_of n a b (omega (arith, long_a)) (omega (arith, long_b)) (λ i less. same i (omega (arith, less)))) (same n (omega arith))
    ∙ sym (ap (λ (k : ℕ). take k b) more)

-- ---- bytes that have the image's up to its gate, which is closed in them, too

pub record HasFront (home : Home) (gate : ℕ) (image bytes : List ℕ) : Type 0 where
  pub rest : IsAtRest home gate image
  pub past : gate < length bytes
  pub same : (i : ℕ) → i < gate → byte_at i bytes ≡ byte_at i image
  pub shut : byte_at gate bytes ≢ open_batch

-- images that are judged alike are reported alike
told_alike : (r : Rollout) (migration : ℕ) (one other : List ℕ) → verdict r (digest_for r migration) one ≡ verdict r (digest_for r migration) other → journal_report r migration one ≡ journal_report r migration other
unfolding journal_report
told_alike r migration one other is = ap (λ (v : Verdict). told_by r (digest_for r migration) v) is

module _ (home : Home) (gate : ℕ) (image bytes : List ℕ) (has : HasFront home gate image bytes) where
  inside : gate < length image
  inside = omega (arith, has.rest.at, part_long home.slot.start image has.rest.front (has.rest.mark ∷ has.rest.behind) has.rest.part (omega arith))

  far : 35 ≤ gate
  far = omega (arith, has.rest.at, placed_start home.slot has.rest.alone.placed)

  same_front : take gate bytes ≡ take gate image
  same_front = front_of gate bytes image (omega (arith, has.past)) (omega (arith, inside)) has.same

  its_part : drop home.slot.start (take gate image) ≡ has.rest.front
  its_part =
      ap (λ (k : ℕ). drop home.slot.start (take k image)) has.rest.at
      ∙ drop-take home.slot.start (length has.rest.front) image
      ∙ ap (take (length has.rest.front)) has.rest.part
      ∙ take_at has.rest.front (has.rest.mark ∷ has.rest.behind) (length has.rest.front) refl

  part_is : drop home.slot.start bytes ≡ has.rest.front ++ (byte_at gate bytes ∷ drop (gate + 1) bytes)
  part_is =
      ap (drop home.slot.start) (around_byte gate bytes has.past)
      ∙ drop-append-le home.slot.start (take gate bytes) (byte_at gate bytes ∷ drop (gate + 1) bytes) (omega (arith, length-take-le gate bytes (omega (arith, has.past)), has.rest.at))
      ∙ ap (λ (l : List ℕ). drop home.slot.start l ++ (byte_at gate bytes ∷ drop (gate + 1) bytes)) same_front
      ∙ ap (λ (l : List ℕ). l ++ (byte_at gate bytes ∷ drop (gate + 1) bytes)) its_part

  at_rest : IsAtRest home gate bytes
  at_rest = record {
    alone = alone_same home image has.rest.alone bytes (omega (arith, far, inside)) (omega (arith, far, has.past))
        (sym (take-take 35 gate bytes far) ∙ ap (take 35) same_front ∙ take-take 35 gate image far);
    front = has.rest.front;
    mark = byte_at gate bytes;
    behind = drop (gate + 1) bytes;
    kept = has.rest.kept;
    stands = has.rest.stands;
    part = part_is;
    closed = has.shut;
    at = has.rest.at;
  }

  alike : (r : Rollout) (digest : Digest) → verdict r digest bytes ≡ verdict r digest image
  unfolding at_rest
  alike r digest = rest_judged home gate bytes at_rest r digest ∙ sym (rest_judged home gate image has.rest r digest)

  -- so they are the journal that the image is
  pub one_journal : AreOneJournal bytes image
  unfolding at_rest
  one_journal = record {
    kept = rest_keeps home gate bytes at_rest ∙ sym (rest_keeps home gate image has.rest);
    judged = alike;
    reported = λ r migration. told_alike r migration bytes image (alike r (digest_for r migration));
  }

-- ---- until a gate is passed that is opened later, what was read is the image's

-- The bytes read so far are the image's up to its gate; where they go further they have a closed gate there.
pub record IsUpToDate (home : Home) (now : Moment) (seen : List ℕ) : Type 0 where
  pub rest : IsAtRest home now.gate now.image
  pub same : (i : ℕ) → i < length seen → i < now.gate → byte_at i seen ≡ byte_at i now.image
  pub shut : now.gate < length seen → byte_at now.gate seen ≢ open_batch

module _ (home : Home) (now : Moment) (seen : List ℕ) (is : IsUpToDate home now seen) where
  -- the gate is there, and closed
  mark_at : byte_at now.gate now.image ≡ is.rest.mark
  mark_at =
      ap (λ (k : ℕ). get_or now.image k 0) is.rest.at
      ∙ sym (get_or-drop home.slot.start now.image (length is.rest.front) 0)
      ∙ ap (λ (l : List ℕ). get_or l (length is.rest.front) 0) is.rest.part
      ∙ get_or_at is.rest.front is.rest.mark is.rest.behind 0 (length is.rest.front) refl

  gate_shut : byte_at now.gate now.image ≢ open_batch
  gate_shut = λ e. is.rest.closed (sym mark_at ∙ e)

  -- where the gate was passed, whatever is read after it
  has_front : (more : List ℕ) → now.gate < length seen → HasFront home now.gate now.image (seen ++ more)
  has_front more past = record {
    rest = is.rest;
    past = omega (arith, past, length-append seen more);
    same = λ i less. get_or_append_left seen more 0 i (omega (arith, less, past)) ∙ is.same i (omega (arith, less, past)) less;
    shut = λ e. is.shut past (sym (get_or_append_left seen more 0 now.gate past) ∙ e);
  }

  -- the next byte is the image's
  longer : (byte : ℕ) → length (seen ++ byte ∷ []) ≡ length seen + 1
  longer byte = omega (arith, length-append seen (byte ∷ []))

  reads_on : (byte : ℕ) → byte ≡ byte_at (length seen) now.image → IsUpToDate home now (seen ++ byte ∷ [])
  reads_on byte is_byte = record { rest = is.rest; same = one; shut = still }
    where
      one : (i : ℕ) → i < length (seen ++ byte ∷ []) → i < now.gate → byte_at i (seen ++ byte ∷ []) ≡ byte_at i now.image
      one i within less = elim (cases_lt i (length seen)) as (λ _. byte_at i (seen ++ byte ∷ []) ≡ byte_at i now.image) [
        | inl before ↦ get_or_append_left seen (byte ∷ []) 0 i before ∙ is.same i before less
        | inr last ↦
            let here : length seen ≡ i = omega (arith, within, last, longer byte) in
            get_or_push seen byte 0 i here ∙ is_byte ∙ ap (λ (k : ℕ). byte_at k now.image) here
      ]

      still : now.gate < length (seen ++ byte ∷ []) → byte_at now.gate (seen ++ byte ∷ []) ≢ open_batch
      still within = elim (cases_lt now.gate (length seen)) as (λ _. byte_at now.gate (seen ++ byte ∷ []) ≢ open_batch) [
        | inl before ↦ λ e. is.shut before (sym (get_or_append_left seen (byte ∷ []) 0 now.gate before) ∙ e)
        | inr last ↦
            let here : length seen ≡ now.gate = omega (arith, within, last, longer byte) in
            λ e. gate_shut (sym (ap (λ (k : ℕ). byte_at k now.image) here) ∙ sym is_byte ∙ sym (get_or_push seen byte 0 now.gate here) ∙ e)
      ]

  -- the controller goes on before the gate was passed
  goes_on : (next : Moment) → HasGoneOn home now next → length seen ≤ now.gate → IsUpToDate home next seen
  goes_on next gone before = record {
    rest = gone.rest;
    same = λ i within less.
        is.same i within (omega (arith, within, before))
        ∙ sym (byte_of now.gate i next.image now.image gone.same (omega (arith, within, before)));
    shut = λ past. absurd (omega (arith, past, before, gone.further));
  }

-- ---- all of the bytes

-- Where the gate of the moment was passed the rest tells nothing more; and where it wasn't, the reader goes on at the next moment.
from_here : (home : Home) (now : Moment) (later : List Moment) (seen bytes : List ℕ) (at : ℕ) → at ≡ length seen → IsUpToDate home now seen → Follow home now later → AreReadFrom at (now ∷ later) bytes
    → HeldOnce (AreOneJournal (seen ++ bytes)) (now ∷ later)
from_here home now later seen [] at is_at is follow read =
    let inside = part_long home.slot.start now.image is.rest.front (is.rest.mark ∷ is.rest.behind) is.rest.part (omega arith) in
    inl (one_journal home now.gate now.image (seen ++ []) (has_front home now seen is [] (omega (arith, read.0, inside, is.rest.at, is_at))))
from_here home now [] seen (byte ∷ bytes) at is_at is follow read = absurd read.2
from_here home now (next ∷ later) seen (byte ∷ bytes) at is_at is follow read =
    let also = seen ++ byte ∷ [] in
    let split : also ++ bytes ≡ seen ++ (byte ∷ bytes) = append_assoc seen (byte ∷ []) bytes in
    let up = reads_on home now seen is byte (read.1 ∙ ap (λ (k : ℕ). byte_at k now.image) is_at) in
    let long : length also ≡ length seen + 1 = omega (arith, length-append seen (byte ∷ [])) in
    subst (λ (l : List ℕ). HeldOnce (AreOneJournal l) (now ∷ next ∷ later)) split
    (elim (cases_lt now.gate (length also)) as (λ _. HeldOnce (AreOneJournal (also ++ bytes)) (now ∷ next ∷ later)) [
      | inl past ↦ inl (one_journal home now.gate now.image (also ++ bytes) (has_front home now also up bytes past))
      | inr before ↦ inr (from_here home next later also bytes (at + 1) (omega (arith, is_at, long)) (goes_on home now also up next follow.0 before) follow.1 read.2)
    ])

pub there_once : (home : Home) (moments : List Moment) (bytes : List ℕ) → AreMoments home moments → AreReadFrom 0 moments bytes → HeldOnce (AreOneJournal bytes) moments
there_once home [] bytes are read = absurd read
there_once home (first ∷ later) bytes are read =
    from_here home first later [] bytes 0 refl (record { rest = are.0; same = λ i none. absurd (omega (arith, none)); shut = λ none. absurd (omega (arith, none)) }) are.1 read
