-- What each call of a port of one term comes to: of what it tells, and of how that is tied to the port behind it.
use Rattle.std.proofs.Common.{◌≡◌, ◌⊎◌, ℕ, ◌+◌, ◌-◌, ◌<◌, Bool, true, false, List, [], ◌∷◌, ◌++◌, length, take, drop, Option, Some, None, Result, Ok, Err, is_none, if◌then◌else◌, inl, inr, refl, sym, ap, subst, ◌∙◌, append_assoc, append-nil, arith}
use Rattle.std.specs.Prelude.{IsErr, IsTrue, slice_set}
use Rattle.std.proofs.lemmas.Grind.{flat_map-append}
use Rattle.std.proofs.lemmas.List.{take_all, take-append-drop}
use Rattle.wan_edge.specs.Frames.{CommandFrame, IsCommand, Splits, command_bytes}
use Rattle.wan_edge.specs.Ports.{FailsToHear, FailsToSend, Hears, LooksAt, PortTrace, Sends as SendsBytes, Steps}
use Rattle.wan_edge.specs.declared.stream.Failed.{Failed}
use Rattle.wan_edge.proofs.Chains.{Appends-chain, Appends-nothing}
use Rattle.wire_frames.specs.Reading.{Reader, fresh}
use Rattle.fenced_ports.specs.FencedPorts.{Fails, FailsAtOnce, Fenced, HearsIf, HearsNone, HearsPlain, IsFenced, IsGiven, IsSame, OffersAll, told_of}
use Rattle.fenced_ports.specs.Framing.{IsFramed, Sends, SendsFront, with_term, with_terms}
use Rattle.fenced_ports.specs.Sieves.{Hands, Sifting, Sifts, first_sifting}
use Rattle.fenced_ports.proofs.Framed.{splits-on, splits-nothing}
use Rattle.fenced_ports.proofs.Sifted.{sifts-nothing, sifts-on, sifts-same}

-- ---- what it tells

one-less : (before now : ℕ) → now ≡ before + 1 → Some before ≡ Some (now - 1)
one-less before now more =
    let back : before ≡ now - 1 = omega (arith, more) in
    ap Some back

module _ {P : Type 0} (before now : Fenced P) where
  pub sends : (bytes : List ℕ) → OffersAll bytes before now → SendsBytes bytes (told_of before) (told_of now)
  sends bytes all = record { offered = ap Some all.offered; heard = ap Some all.heard; quiet = ap Some all.quiet; waits = ap Some all.waits }

  pub steps_sending : (bytes : List ℕ) → OffersAll bytes before now → Steps (told_of before) (told_of now)
  steps_sending bytes all = record { count = omega (arith, all.faults); told = refl; honest = refl; prompt = refl; start = refl; by_rule = tt; in_order = tt }

  pub fails_to_send : (bytes : List ℕ) → Fails bytes before now → FailsToSend bytes (told_of before) (told_of now)
  fails_to_send bytes fails = record {
    offered = record {
      count = length bytes;
      within = omega arith;
      appended = ap Some (fails.offered ∙ ap (λ (xs : List ℕ). before.offered ++ xs) (sym (take_all (length bytes) bytes (omega arith))));
    };
    heard = ap Some fails.heard;
    quiet = ap Some fails.quiet;
    waits = ap Some fails.waits;
    cause = inl (omega (arith, fails.faults));
  }

  pub fails_at_once : (bytes : List ℕ) → FailsAtOnce before now → FailsToSend bytes (told_of before) (told_of now)
  fails_at_once bytes fails = record {
    offered = record { count = 0; within = omega arith; appended = ap Some (fails.offered ∙ sym (append-nil before.offered)) };
    heard = ap Some fails.heard;
    quiet = ap Some fails.quiet;
    waits = ap Some fails.waits;
    cause = inl (omega (arith, fails.faults));
  }

  pub steps_failing : (sent : List ℕ) → Fails sent before now → Steps (told_of before) (told_of now)
  steps_failing sent fails = record { count = omega (arith, fails.faults); told = refl; honest = refl; prompt = refl; start = refl; by_rule = tt; in_order = tt }

  pub steps_failing_at_once : FailsAtOnce before now → Steps (told_of before) (told_of now)
  steps_failing_at_once fails = record { count = omega (arith, fails.faults); told = refl; honest = refl; prompt = refl; start = refl; by_rule = tt; in_order = tt }

  pub fails_to_hear : FailsAtOnce before now → FailsToHear (told_of before) (told_of now)
  fails_to_hear fails = record {
    offered = ap Some fails.offered;
    heard = ap Some fails.heard;
    quiet = ap Some fails.quiet;
    waits = ap Some fails.waits;
    cause = inl (omega (arith, fails.faults));
  }

  hears : (byte : ℕ) (into : List ℕ) → HearsPlain byte before now → take 1 into ≡ byte ∷ [] → Hears 1 into (told_of before) (told_of now)
  hears byte into heard first = record {
    offered = ap Some heard.offered;
    heard = ap Some (heard.heard ∙ ap (λ (xs : List ℕ). before.sifting.plain ++ xs) (sym first));
    quieter = λ none. absurd (omega (arith, none));
    as_quiet = λ some. ap Some heard.quiet;
    waits = ap Some heard.waits;
    all_given = tt;
  }

  hears-none : (into : List ℕ) → HearsNone before now → Hears 0 into (told_of before) (told_of now)
  hears-none into none = record {
    offered = ap Some none.offered;
    heard = ap Some (none.heard ∙ sym (append-nil before.sifting.plain));
    quieter = λ zero. (omega (arith, none.quiet), one-less before.quiet now.quiet none.quiet);
    as_quiet = λ some. absurd (omega (arith, some));
    waits = ap Some none.waits;
    all_given = tt;
  }

  pub hears_if : (found : Option ℕ) (count : ℕ) (into : List ℕ) → HearsIf found before now → IsGiven found count into → Hears count into (told_of before) (told_of now)
  hears_if (Some byte) count into heard given = subst (λ (n : ℕ). Hears n into (told_of before) (told_of now)) (sym given.0) (hears byte into heard given.1)
  hears_if None count into heard given = subst (λ (n : ℕ). Hears n into (told_of before) (told_of now)) (sym given) (hears-none into heard)

  -- what was heard of the port behind it
  pub next_heard : (found : Option ℕ) (behind moment : PortTrace) → Hands (Ok found) behind before.sifting moment now.sifting → now.quiet ≡ (if is_none found then before.quiet + 1 else before.quiet)
      → now.offered ≡ before.offered → now.waits ≡ before.waits → now.faults ≡ before.faults → now.term ≡ before.term → now.begun ≡ before.begun → HearsIf found before now
  next_heard (Some byte) behind moment hands quiet offered waits faults term begun = record { offered = offered; heard = hands.more; quiet = quiet; waits = waits; faults = faults; term = term; begun = begun }
  next_heard None behind moment hands quiet offered waits faults term begun = record { offered = offered; heard = hands.same; quiet = quiet; waits = waits; faults = faults; term = term; begun = begun }

  pub steps_hearing : (found : Option ℕ) → HearsIf found before now → Steps (told_of before) (told_of now)
  steps_hearing (Some byte) heard = record { count = omega (arith, heard.faults); told = refl; honest = refl; prompt = refl; start = refl; by_rule = tt; in_order = tt }
  steps_hearing None heard = record { count = omega (arith, heard.faults); told = refl; honest = refl; prompt = refl; start = refl; by_rule = tt; in_order = tt }

  -- the term, and the port as it was handed over
  pub same_sending : (bytes : List ℕ) → OffersAll bytes before now → IsSame before now
  same_sending bytes all = (all.term, all.begun)

  pub same_failing : (sent : List ℕ) → Fails sent before now → IsSame before now
  same_failing sent fails = (fails.term, fails.begun)

  pub same_failing_at_once : FailsAtOnce before now → IsSame before now
  same_failing_at_once fails = (fails.term, fails.begun)

  pub same_hearing : (found : Option ℕ) → HearsIf found before now → IsSame before now
  same_hearing (Some byte) heard = (heard.term, heard.begun)
  same_hearing None heard = (heard.term, heard.begun)

  -- whether it is down
  pub down_failing : (sent : List ℕ) → Fails sent before now → now.down ≡ true
  down_failing sent fails = fails.down

  pub down_failing_at_once : FailsAtOnce before now → now.down ≡ true
  down_failing_at_once fails = fails.down

  pub looks_early : now.offered ≡ before.offered → now.sifting ≡ before.sifting → now.quiet ≡ before.quiet → now.waits ≡ before.waits + 1 → now.faults ≡ before.faults → LooksAt false (told_of before) (told_of now)
  looks_early offered sifting quiet waits faults = record {
    offered = ap Some offered;
    heard = ap (λ (s : Sifting). Some s.plain) sifting;
    quiet = ap Some quiet;
    waits = (omega (arith, waits), one-less before.waits now.waits waits);
    prompt = refl;
    step = record { count = omega (arith, faults); told = refl; honest = refl; prompt = refl; start = refl; by_rule = tt; in_order = tt };
  }

-- where something was heard, or nothing, no byte came that can't stand where it stood
pub next_whole : (found : Option ℕ) (behind moment : PortTrace) (s t : Sifting) → Hands (Ok found) behind s moment t → t.broken ≡ false
next_whole (Some byte) behind moment s t hands = hands.whole
next_whole None behind moment s t hands = hands.whole

-- where it failed, nothing was handed on
pub next_failed : (why : Failed) (behind moment : PortTrace) (s t : Sifting) → Hands (Err why) behind s moment t → t.plain ≡ s.plain
next_failed why behind moment s t hands = hands.same

-- the first byte of a place
pub first_put : (into : List ℕ) (byte : ℕ) → 0 < length into → take 1 (slice_set into 0 byte) ≡ byte ∷ []
first_put [] byte some = absurd (omega (arith, some))
first_put (x ∷ into) byte some = refl

-- ---- how it is tied to the port behind it

never : {P : Type 0} → true ≡ false → P
never e = absurd (cc e)

pub fenced_first : (port : PortTrace) (term : ℕ) (s : Sifting) (r : Reader) (offered : List ℕ) → s ≡ first_sifting → r ≡ fresh → offered ≡ [] → IsFenced port port term s r.kept r.live false offered
fenced_first port term s r offered s_is r_is offered_is =
    subst (λ (t : Sifting). IsFenced port port term t r.kept r.live false offered) (sym s_is)
    (subst (λ (q : Reader). IsFenced port port term first_sifting q.kept q.live false offered) (sym r_is)
    (subst (λ (xs : List ℕ). IsFenced port port term first_sifting [] true false xs) (sym offered_is) (record {
      sifts = sifts-nothing term port.heard first_sifting;
      framed = record { commands = []; rest = []; whole = splits-nothing []; sent = []; missing = []; parts = refl; went = Appends-nothing port.offered; all = λ up. (refl, refl) };
      whole = λ up. refl;
      ready = λ up. refl;
    })))

-- commands in a row, of which all went out, and further ones
module _ (term : ℕ) (begun before now : Option (List ℕ)) (offered kept bytes : List ℕ) (was : IsFramed term begun before offered kept false) where
  all-sent : with_terms term was.commands ≡ was.sent
  all-sent = was.parts ∙ ap (λ (xs : List ℕ). was.sent ++ xs) (was.all refl).0 ∙ append-nil was.sent

  splits-further : (commands : List CommandFrame) (rest : List ℕ) → Splits command_bytes IsCommand (kept ++ bytes) commands rest → Splits command_bytes IsCommand (offered ++ bytes) (was.commands ++ commands) rest
  splits-further commands rest whole =
      splits-on [] offered bytes was.rest rest was.commands commands was.whole
      (subst (λ (xs : List ℕ). Splits command_bytes IsCommand (xs ++ bytes) commands rest) (sym (was.all refl).1) whole)

  framed-further : (commands : List CommandFrame) (sent missing : List ℕ) → with_terms term commands ≡ sent ++ missing → with_terms term (was.commands ++ commands) ≡ (was.sent ++ sent) ++ missing
  framed-further commands sent missing parts =
      flat_map-append (with_term term) was.commands commands ∙ ap (λ (xs : List ℕ). xs ++ with_terms term commands) all-sent
      ∙ ap (λ (xs : List ℕ). was.sent ++ xs) parts ∙ sym (append_assoc was.sent sent missing)

  pub framed-sent : (kept_now : List ℕ) → Sends term kept bytes before now kept_now → IsFramed term begun now (offered ++ bytes) kept_now false
  framed-sent kept_now sends = record {
    commands = was.commands ++ sends.commands;
    rest = kept_now;
    whole = splits-further sends.commands kept_now sends.whole;
    sent = was.sent ++ with_terms term sends.commands;
    missing = [];
    parts = framed-further sends.commands (with_terms term sends.commands) [] (sym (append-nil (with_terms term sends.commands)));
    went = Appends-chain begun before now was.sent (with_terms term sends.commands) was.went sends.offered;
    all = λ up. (refl, refl);
  }

  pub framed-front : (kept_now : List ℕ) → SendsFront term kept bytes before now → IsFramed term begun now (offered ++ bytes) kept_now true
  framed-front kept_now front =
      let all = with_terms term front.commands in
      let count = front.offered.count in
      record {
        commands = was.commands ++ front.commands;
        rest = front.rest;
        whole = splits-further front.commands front.rest front.whole;
        sent = was.sent ++ take count all;
        missing = drop count all;
        parts = framed-further front.commands (take count all) (drop count all) (sym (take-append-drop count all));
        went = Appends-chain begun before now was.sent (take count all) was.went front.offered.appended;
        all = λ up. never up;
      }

-- the same, where nothing more is said of what is missing
framed-down : (term : ℕ) (begun now : Option (List ℕ)) (offered kept kept_now : List ℕ) (down : Bool) → IsFramed term begun now offered kept down → IsFramed term begun now offered kept_now true
framed-down term begun now offered kept kept_now down was = record {
  commands = was.commands;
  rest = was.rest;
  whole = was.whole;
  sent = was.sent;
  missing = was.missing;
  parts = was.parts;
  went = was.went;
  all = λ up. never up;
}

-- a port that wasn't down was none that is
pub up_not_down : {P T E : Type 0} (before : Fenced P) (result : Result T E) → before.down ≡ false → before.down ≡ true → IsErr result
up_not_down before result up down = never (sym down ∙ up)

-- why it failed
pub was_down : {P Q : Type 0} (before : Fenced P) → before.down ≡ true → (before.down ≡ true) ⊎ Q
was_down before down = inl down

pub was_up : {P Q : Type 0} (before : Fenced P) → Q → (before.down ≡ true) ⊎ Q
was_up before fault = inr fault

-- it is down from now on
pub fenced_down : (begun now : PortTrace) (term : ℕ) (s : Sifting) (kept : List ℕ) (live down : Bool) (offered : List ℕ) → IsFenced begun now term s kept live down offered → IsFenced begun now term s kept live true offered
fenced_down begun now term s kept live down offered was = record {
  sifts = was.sifts;
  framed = framed-down term begun.offered now.offered offered kept kept down was.framed;
  whole = λ still. never still;
  ready = λ still. never still;
}

module _ (begun before now : PortTrace) (term : ℕ) (s : Sifting) (kept : List ℕ) (live down : Bool) (offered : List ℕ) (was : IsFenced begun before term s kept live down offered) where
  up-framed : down ≡ false → IsFramed term begun.offered before.offered offered kept false
  up-framed up = subst (λ (b : Bool). IsFramed term begun.offered before.offered offered kept b) up was.framed

  -- all went out
  pub fenced_sent : (kept_now bytes offered_now : List ℕ) (live_now : Bool) → down ≡ false → Sends term kept bytes before.offered now.offered kept_now → now.heard ≡ before.heard → offered_now ≡ offered ++ bytes → IsTrue live_now → IsFenced begun now term s kept_now live_now false offered_now
  fenced_sent kept_now bytes offered_now live_now up sends unheard is live_is = record {
    sifts = sifts-same term begun.heard before.heard now.heard first_sifting s was.sifts unheard;
    framed = subst (λ (xs : List ℕ). IsFramed term begun.offered now.offered xs kept_now false) (sym is) (framed-sent term begun.offered before.offered now.offered offered kept bytes (up-framed up) kept_now sends);
    whole = λ still. was.whole up;
    ready = λ still. live_is;
  }

  -- a part of it did
  pub fenced_unsent : (kept_now bytes offered_now : List ℕ) (live_now : Bool) → down ≡ false → SendsFront term kept bytes before.offered now.offered → now.heard ≡ before.heard → offered_now ≡ offered ++ bytes → IsFenced begun now term s kept_now live_now true offered_now
  fenced_unsent kept_now bytes offered_now live_now up front unheard is = record {
    sifts = sifts-same term begun.heard before.heard now.heard first_sifting s was.sifts unheard;
    framed = subst (λ (xs : List ℕ). IsFramed term begun.offered now.offered xs kept_now true) (sym is) (framed-front term begun.offered before.offered now.offered offered kept bytes (up-framed up) kept_now front);
    whole = λ still. never still;
    ready = λ still. never still;
  }

  framed-now : now.offered ≡ before.offered → IsFramed term begun.offered now.offered offered kept down
  framed-now unsent = subst (λ (o : Option (List ℕ)). IsFramed term begun.offered o offered kept down) (sym unsent) was.framed

  -- bytes were heard
  pub fenced_heard : (t : Sifting) → down ≡ false → Sifts term before.heard s now.heard t → now.offered ≡ before.offered → t.broken ≡ false → IsFenced begun now term t kept live false offered
  fenced_heard t up sifts unsent whole = record {
    sifts = sifts-on term begun.heard before.heard now.heard first_sifting s t was.sifts sifts;
    framed = subst (λ (b : Bool). IsFramed term begun.offered now.offered offered kept b) up (framed-now unsent);
    whole = λ still. whole;
    ready = λ still. was.ready up;
  }

  pub fenced_failed : (t : Sifting) → Sifts term before.heard s now.heard t → now.offered ≡ before.offered → IsFenced begun now term t kept live true offered
  fenced_failed t sifts unsent = record {
    sifts = sifts-on term begun.heard before.heard now.heard first_sifting s t was.sifts sifts;
    framed = framed-down term begun.offered now.offered offered kept kept down (framed-now unsent);
    whole = λ still. never still;
    ready = λ still. never still;
  }

  -- it was looked at
  pub fenced_looked : now.heard ≡ before.heard → now.offered ≡ before.offered → IsFenced begun now term s kept live down offered
  fenced_looked unheard unsent = record {
    sifts = sifts-same term begun.heard before.heard now.heard first_sifting s was.sifts unheard;
    framed = framed-now unsent;
    whole = was.whole;
    ready = was.ready;
  }

-- what a look has left
pub look_unheard : (ready : Bool) (before now : PortTrace) → LooksAt ready before now → now.heard ≡ before.heard
look_unheard true before now looked = ap (λ (t : PortTrace). t.heard) looked
look_unheard false before now looked = looked.heard

pub look_unsent : (ready : Bool) (before now : PortTrace) → LooksAt ready before now → now.offered ≡ before.offered
look_unsent true before now looked = ap (λ (t : PortTrace). t.offered) looked
look_unsent false before now looked = looked.offered
