-- What hearing a switch comes to, byte by byte.
use Rattle.std.proofs.Common.{◌≡◌, ◌⊎◌, ℕ, ◌+◌, ◌*◌, ◌-◌, ◌<◌, ◌≤◌, Bool, List, [], ◌∷◌, ◌++◌, length, take, if◌then◌else◌, Option, Some, None, refl, sym, ap, ◌∙◌, subst, inl, inr, arith, append-nil, length-append}
use Rattle.std.proofs.lemmas.Bool.{OnTrue_at, OnTrue_from, le-ltb, lt-ltb}
use Rattle.std.proofs.lemmas.List.Elements.{All-append, All-cons, All-nil}
use Rattle.wan_edge.specs.Frames.{AnswerFrame, IsAnswer, IsCutAnswer, Splits, answer_bytes}
use Rattle.wan_edge.specs.Ports.{FailsToHear, GoesOn, Hears as HearsBytes, IsOneMore, NothingToCome, PortTrace, Steps}
use Rattle.wan_edge.specs.Streams.{Appends}
use Rattle.wan_edge.specs.Switches.{Holdings}
use Rattle.wan_edge.proofs.Chains.{Appends-nothing, goes_once, stays}
use Rattle.wan_edge.proofs.Faults.{rose_since}
use Rattle.wire_frames.specs.Reading.{Ends, GoesOn as ReadsOn, IsAnswerFault, Reader}
use Rattle.port_session.proofs.Hearing.{cut_short}
use Rattle.switch_ports.proofs.Stories.{goes_on_on}
use Rattle.held_service.specs.Hearing.{Hears, HearsByte, HearsNothing, HearsOut, IsAlien, IsOwn, IsWhy, QuietBy, Reads, StopsHearing, TakesByte, lacking, named_at}
use Rattle.held_service.specs.Noting.{Notes, with_answer, with_answers}
use Rattle.held_service.specs.declared.alien.Alien.{Alien}
use Rattle.held_service.specs.declared.alien.Alien.TheVariants as alien
use Rattle.held_service.specs.declared.not_told.NotTold.{NotTold}
use Rattle.held_service.specs.declared.not_told.NotTold.TheVariants as cause
use Rattle.held_service.proofs.Bytes.{ends-fresh, ends-long, ends-whole, goes-longer, goes-whole, none-behind, other-behind, reads-none, reads-nothing, reads-on}
use Rattle.held_service.proofs.Noted.{with-append}

-- ---- one byte

module _ (homes : List (Option ℕ)) (switch : ℕ) (kept piece : List ℕ) (one : length piece ≡ 1) (n awaited awaited_now : ℕ) (notes notes_now : Notes) where
  -- an answer ends with it, and is noted
  pub takes-answer : (a : AnswerFrame) (now : Reader) → Ends answer_bytes IsAnswer IsAnswerFault kept piece n a now → awaited_now + 1 ≡ awaited → notes_now ≡ with_answer notes a → IsOwn homes switch a
      → TakesByte homes switch piece awaited awaited_now kept notes now.kept notes_now
  takes-answer a now ends fewer noted own =
      let empty : now.kept ≡ [] = ends-fresh kept piece one n a now ends in
      record {
        answers = a ∷ [];
        whole = subst (λ (rest : List ℕ). Splits answer_bytes IsAnswer (kept ++ piece) (a ∷ []) rest) (sym empty) (ends-whole kept piece one n a now ends);
        own = All-cons (IsOwn homes switch) a [] own (All-nil (IsOwn homes switch));
        noted = noted;
        counted = omega (arith, fewer);
        nearer = omega (arith, fewer, ends-long kept piece one n a now ends, ap (λ (rest : List ℕ). length rest) empty);
      }

  -- none does
  pub takes-part : (now : Reader) → ReadsOn answer_bytes IsAnswer IsAnswerFault kept piece n now → awaited_now ≡ awaited → notes_now ≡ notes → TakesByte homes switch piece awaited awaited_now kept notes now.kept notes_now
  takes-part now on same noted = record {
    answers = [];
    whole = goes-whole kept piece one n now on;
    own = All-nil (IsOwn homes switch);
    noted = noted;
    counted = omega (arith, same);
    nearer = omega (arith, same, goes-longer kept piece one n now on);
  }

-- ---- one hear

module _ (homes : List (Option ℕ)) (switch : ℕ) (kept : List ℕ) (before now : PortTrace) where
  -- it failed
  pub port-stops : (why : NotTold) → why ≡ cause.Port switch → FailsToHear before now → Steps before now → StopsHearing homes switch why kept before now
  port-stops why is fails step = record {
    cause = subst (λ (w : NotTold). IsWhy homes switch w kept before now) (sym is) (refl, fails.cause);
    unsent = fails.offered;
    goes_on = goes_once before now [] [] (fails.offered ∙ Appends-nothing before.offered) (fails.heard ∙ Appends-nothing before.heard) step;
  }

  module _ (n : ℕ) (into : List ℕ) (hears : HearsBytes n into before now) (step : Steps before now) where
    on-by : GoesOn before now
    on-by = goes_once before now [] (take n into) (hears.offered ∙ Appends-nothing before.offered) hears.heard step

    -- it gave nothing
    pub hears-none : n ≡ 0 → HearsNothing before now
    hears-none zero = record {
      given = OnTrue_from before.prompt (NothingToCome before.start now.offered now.heard) (λ prompt. OnTrue_at prompt hears.all_given zero);
      heard = subst (λ (m : ℕ). Appends before.heard (take m into) now.heard) zero hears.heard;
      quieter = hears.quieter zero;
      unsent = hears.offered;
      goes_on = on-by;
    }

    -- a byte came
    pub hears-byte : (awaited awaited_now : ℕ) (notes notes_now : Notes) (kept_now : List ℕ) → 0 < n → TakesByte homes switch (take n into) awaited awaited_now kept notes kept_now notes_now
        → HearsByte homes switch awaited awaited_now kept notes before kept_now notes_now now
    hears-byte awaited awaited_now notes notes_now kept_now some takes = record {
      hears = record {
        answers = takes.answers;
        reads = record { bytes = take n into; appended = hears.heard; whole = takes.whole };
        own = takes.own;
        noted = takes.noted;
        counted = takes.counted;
        as_quiet = hears.as_quiet some;
        unsent = hears.offered;
        goes_on = on-by;
      };
      nearer = takes.nearer;
    }

    -- a byte came that can't be
    pub alien-stops : (what : Alien) → IsAlien homes switch what (kept ++ take n into) → StopsHearing homes switch (named_at switch what) kept before now
    alien-stops (alien.Byte byte) at = record {
      cause = (refl, record { bytes = take n into; appended = hears.heard; answers = []; rest = kept ++ take n into; whole = record { fit = All-nil IsAnswer; parts = refl }; other = at });
      unsent = hears.offered;
      goes_on = on-by;
    }
    alien-stops (alien.Item item) at = record {
      cause = (
        refl,
        record {
          earlier = [];
          answer = at.answer;
          kept_now = [];
          reads = record { bytes = take n into; appended = hears.heard; whole = at.whole };
          item_is = at.item_is;
          other = at.other;
        },
      );
      unsent = hears.offered;
      goes_on = on-by;
    }

-- ---- hears in a row

-- before the first
pub hears-no-more : (homes : List (Option ℕ)) (switch awaited : ℕ) (kept : List ℕ) (notes : Notes) (port : PortTrace) → Hears homes switch awaited awaited kept notes port kept notes port
hears-no-more homes switch awaited kept notes port = record {
  answers = [];
  reads = reads-none kept port.heard;
  own = All-nil (IsOwn homes switch);
  noted = refl;
  counted = omega arith;
  as_quiet = refl;
  unsent = refl;
  goes_on = stays port;
}

-- the measure falls with each byte
pub falls : (left left_now : ℕ) (kept kept_now : List ℕ) → 13 * left_now + length kept + 1 ≡ 13 * left + length kept_now → IsCutAnswer kept → IsCutAnswer kept_now → 0 < left → 13 * left_now - length kept_now < 13 * left - length kept
falls left left_now kept kept_now nearer cut cut_now some = omega (arith, nearer, cut_short kept cut, cut_short kept_now cut_now, some)

-- a fault of a later hear, told from the first on
why-on : (homes : List (Option ℕ)) (switch : ℕ) (why : NotTold) (kept between : List ℕ) (a b c : PortTrace) (earlier : List AnswerFrame) → Reads kept a.heard earlier between b.heard → a.faults ≤ b.faults
    → IsWhy homes switch why between b c → IsWhy homes switch why kept a c
why-on homes switch (cause.Spent item) kept between a b c earlier reads count is = is
why-on homes switch (cause.NoPort w) kept between a b c earlier reads count is = is
why-on homes switch (cause.Port w) kept between a b c earlier reads count is = (is.0, rose_since a.faults b.faults c.faults count is.1)
why-on homes switch (cause.NotAsked w item) kept between a b c earlier reads count is = (is.0, other-behind kept between a.heard b.heard c.heard earlier reads homes switch item is.1)
why-on homes switch (cause.NoAnswer w byte) kept between a b c earlier reads count is = (is.0, none-behind kept between a.heard b.heard c.heard earlier reads byte is.1)
why-on homes switch cause.Memory kept between a b c earlier reads count is = tt

-- so many more hears gave nothing
pub quiet-none : (told : Option ℕ) → QuietBy 0 told told
quiet-none None = tt
quiet-none (Some n) = (omega arith, ap Some (less-none n))
  where
    less-none : (k : ℕ) → k ≡ k - 0
    less-none k = omega arith

pub quiet-on : (m n : ℕ) (a b c : Option ℕ) → QuietBy m a b → QuietBy n b c → QuietBy (m + n) a c
quiet-on m n a b None first second = tt
quiet-on m n a b (Some last) first second =
    let between : QuietBy m a (Some (last - n)) = subst (λ (o : Option ℕ). QuietBy m a o) second.1 first in
    (omega (arith, between.0, second.0), between.1 ∙ ap Some (less last))
  where
    less : (k : ℕ) → (k - n) - m ≡ k - (m + n)
    less k = omega arith

quiet-one : (a b : Option ℕ) → IsOneMore a b → QuietBy 1 a b
quiet-one a None more = tt
quiet-one a (Some n) more = (omega (arith, more.0), more.1)

lacking-none : (awaited came : ℕ) → awaited ≤ came → lacking awaited came ≡ 0
lacking-none awaited came all = ap (λ (b : Bool). if b then 1 else 0) (le-ltb came awaited all)

lacking-one : (awaited came : ℕ) → came < awaited → lacking awaited came ≡ 1
lacking-one awaited came few = ap (λ (b : Bool). if b then 1 else 0) (lt-ltb came awaited few)

module _ (homes : List (Option ℕ)) (switch awaited between : ℕ) (kept kept_b : List ℕ) (notes notes_b : Notes) (a b c : PortTrace) (first : Hears homes switch awaited between kept notes a kept_b notes_b b) where
  -- a byte more
  pub hears-on : (left : ℕ) (kept_c : List ℕ) (notes_c : Notes) → Hears homes switch between left kept_b notes_b b kept_c notes_c c → Hears homes switch awaited left kept notes a kept_c notes_c c
  hears-on left kept_c notes_c second = record {
    answers = first.answers ++ second.answers;
    reads = reads-on kept kept_b a.heard b.heard c.heard first.answers first.reads second.answers kept_c second.reads;
    own = All-append (IsOwn homes switch) first.answers second.answers first.own second.own;
    noted = second.noted ∙ ap (λ (ns : Notes). with_answers ns second.answers) first.noted ∙ sym (with-append notes first.answers second.answers);
    counted = omega (arith, first.counted, second.counted, length-append first.answers second.answers);
    as_quiet = second.as_quiet ∙ first.as_quiet;
    unsent = second.unsent ∙ first.unsent;
    goes_on = goes_on_on a b c first.goes_on second.goes_on;
  }

  -- the port was quiet after it
  pub hears-quiet : 0 < between → HearsNothing b c → HearsOut homes switch awaited kept notes a kept_b notes_b c
  hears-quiet some second =
      let one : lacking awaited (length first.answers) ≡ 1 = lacking-one awaited (length first.answers) (omega (arith, first.counted, some)) in
      record {
        answers = first.answers;
        reads = subst (λ (all : List AnswerFrame). Reads kept a.heard all kept_b c.heard) (append-nil first.answers)
            (reads-on kept kept_b a.heard b.heard c.heard first.answers first.reads [] kept_b (reads-nothing kept_b b.heard c.heard second.heard));
        own = first.own;
        noted = first.noted;
        few = omega (arith, first.counted);
        quiet = subst (λ (q : Option ℕ). QuietBy (lacking awaited (length first.answers)) q c.quiet) first.as_quiet
            (subst (λ (times : ℕ). QuietBy times b.quiet c.quiet) (sym one) (quiet-one b.quiet c.quiet second.quieter));
        given = OnTrue_from a.prompt ((awaited ≤ length first.answers) ⊎ NothingToCome a.start c.offered c.heard)
            (λ prompt. inr (subst (λ (s : Holdings). NothingToCome s c.offered c.heard) first.goes_on.start (OnTrue_at (first.goes_on.prompt ∙ prompt) second.given)));
        unsent = second.unsent ∙ first.unsent;
        goes_on = goes_on_on a b c first.goes_on second.goes_on;
      }

  -- or hearing ended there
  pub stops-on : (why : NotTold) → StopsHearing homes switch why kept_b b c → StopsHearing homes switch why kept a c
  stops-on why second = record {
    cause = why-on homes switch why kept kept_b a b c first.answers first.reads first.goes_on.count second.cause;
    unsent = second.unsent ∙ first.unsent;
    goes_on = goes_on_on a b c first.goes_on second.goes_on;
  }

-- all came that were awaited
pub hears-all : (homes : List (Option ℕ)) (switch awaited left : ℕ) (kept kept_now : List ℕ) (notes notes_now : Notes) (before now : PortTrace) → left ≡ 0 → Hears homes switch awaited left kept notes before kept_now notes_now now
    → HearsOut homes switch awaited kept notes before kept_now notes_now now
hears-all homes switch awaited left kept kept_now notes notes_now before now none hears =
    let zero : lacking awaited (length hears.answers) ≡ 0 = lacking-none awaited (length hears.answers) (omega (arith, hears.counted, none)) in
    record {
      answers = hears.answers;
      reads = hears.reads;
      own = hears.own;
      noted = hears.noted;
      few = omega (arith, hears.counted);
      given = OnTrue_from before.prompt ((awaited ≤ length hears.answers) ⊎ NothingToCome before.start now.offered now.heard) (λ prompt. inl (omega (arith, hears.counted, none)));
      quiet = subst (λ (times : ℕ). QuietBy times before.quiet now.quiet) (sym zero) (subst (λ (q : Option ℕ). QuietBy 0 before.quiet q) (sym hears.as_quiet) (quiet-none before.quiet));
      unsent = hears.unsent;
      goes_on = hears.goes_on;
    }
