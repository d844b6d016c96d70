-- What rounds in a row come to, and a whole talk.
use Rattle.std.proofs.Common.{◌≡◌, ◌⊎◌, ℕ, ◌+◌, ◌<◌, ◌≤◌, ◌^◌, List, [], ◌∷◌, ◌++◌, length, Some, None, Option, Result, Ok, Err, IsErrAnd, inl, inr, refl, sym, ap, ◌∙◌, subst, arith, append-nil, length-append}
use Rattle.std.specs.Bool.{⊤}
use Rattle.std.proofs.Math.Seq.{take-append-add}
use Rattle.std.proofs.lemmas.Bool.{OnTrue_at, OnTrue_from}
use Rattle.std.proofs.lemmas.Grind.{flat_map-append}
use Rattle.std.proofs.lemmas.List.Elements.{All-append, All-filter, All-nil}
use Rattle.std.specs.List.{All, flat_map}
use Rattle.wan_edge.specs.Frames.{AnswerFrame}
use Rattle.wan_edge.specs.Ports.{AppendsFront, NothingToCome, PortTrace}
use Rattle.wan_edge.specs.Streams.{Appends}
use Rattle.wan_edge.specs.Switches.{Holdings}
use Rattle.wan_edge.proofs.Chains.{Appends-chain, Appends-nothing, stays}
use Rattle.switch_ports.proofs.Stories.{goes_on_on}
use Rattle.switch_ports.proofs.Told.{all_sent}
use Rattle.held_service.specs.Hearing.{IsOwn, QuietBy, Reads, lacking}
use Rattle.held_service.specs.Noting.{Notes, first_of, is_untold, untold, with_answers}
use Rattle.held_service.specs.Questions.{question_bytes}
use Rattle.held_service.specs.Talks.{AskUntold, AsksRound, EndsTalk, GivesFirst, IsCutOff, IsNotTold, IsTold, LeavesHeld, Round, StopsRound, TalksFor, answers_of, asked_of, lacking_rounds}
use Rattle.held_service.specs.declared.not_told.NotTold.{NotTold}
use Rattle.held_service.specs.declared.not_told.NotTold.TheVariants as cause
use Rattle.held_service.proofs.Bytes.{question-append, reads-none, reads-on}
use Rattle.held_service.proofs.Heard.{quiet-none, quiet-on}
use Rattle.held_service.proofs.Idle.{still}
use Rattle.held_service.proofs.Noted.{none-left, with-append}

-- ---- rows of rounds

last-of : {X : Type 0} (f : Round → List X) (rounds : List Round) (r : Round) → flat_map f (rounds ++ r ∷ []) ≡ flat_map f rounds ++ f r
last-of {X = X} f rounds r = flat_map-append f rounds (r ∷ []) ∙ ap (λ (xs : List X). flat_map f rounds ++ xs) (append-nil (f r))

pub asked-more : (rounds : List Round) (r : Round) → asked_of (rounds ++ r ∷ []) ≡ asked_of rounds ++ r.asked
asked-more rounds r = last-of (λ s. s.asked) rounds r

pub answers-more : (rounds : List Round) (r : Round) → answers_of (rounds ++ r ∷ []) ≡ answers_of rounds ++ r.answers
answers-more rounds r = last-of (λ s. s.answers) rounds r

lacking-more : (rounds : List Round) (r : Round) → lacking_rounds (rounds ++ r ∷ []) ≡ lacking_rounds rounds + lacking (length r.asked) (length r.answers)
lacking-more [] r = omega arith
lacking-more (s ∷ rounds) r = omega (arith, lacking-more rounds r)

asks-more : (items : List ℕ) (notes : Notes) (rounds : List Round) (r : Round) → AskUntold items notes rounds → r.asked ≡ untold (with_answers notes (answers_of rounds)) items → length r.answers ≤ length r.asked → AskUntold items notes (rounds ++ r ∷ [])
asks-more items notes [] r asks here few = (here, few, tt)
asks-more items notes (s ∷ rounds) r asks here few = (
  asks.0,
  asks.1,
  asks-more items (with_answers notes s.answers) rounds r asks.2 (here ∙ ap (λ (ns : Notes). untold ns items) (with-append notes s.answers (answers_of rounds))) few,
)

-- what is so of the first round stays so
gives-more : (migration : ℕ) (port : PortTrace) (rounds : List Round) (r : Round) → GivesFirst migration port rounds → (rounds ≡ [] → GivesFirst migration port (r ∷ [])) → GivesFirst migration port (rounds ++ r ∷ [])
gives-more migration port [] r first then = then refl
gives-more migration port (s ∷ rounds) r first then = first

-- before the first round
pub talks-none : (migration : ℕ) (homes : List (Option ℕ)) (switch : ℕ) (items : List ℕ) (notes : Notes) (kept : List ℕ) (port : PortTrace) → kept ≡ [] → TalksFor migration homes switch items notes 0 port kept notes port
talks-none migration homes switch items notes kept port empty = record {
  rounds = [];
  counted = refl;
  talks = record {
    asks = tt;
    sent = Appends-nothing port.offered;
    reads = subst (λ (k : List ℕ). Reads [] port.heard [] k port.heard) (sym empty) (reads-none [] port.heard);
    own = All-nil (IsOwn homes switch);
    noted = refl;
    quiet = quiet-none port.quiet;
    given = OnTrue_from port.prompt ⊤ (λ prompt. tt);
    goes_on = stays port;
  };
}

module _ (migration : ℕ) (homes : List (Option ℕ)) (switch : ℕ) (items : List ℕ) (notes : Notes) where
  -- a first round
  first-gives : (count : ℕ) (a b c : PortTrace) (kept kept_now : List ℕ) (notes_b notes_c : Notes) (so_far : TalksFor migration homes switch items notes count a kept notes_b b) (next : AsksRound migration homes switch items kept notes_b b kept_now notes_c c) → so_far.rounds ≡ []
      → (length next.round.asked ≤ length next.round.answers) ⊎ NothingToCome b.start c.offered c.heard → GivesFirst migration a (next.round ∷ [])
  first-gives count a b c kept kept_now notes_b notes_c so_far next none (inl all) = inl all
  first-gives count a b c kept kept_now notes_b notes_c so_far next none (inr left) =
      let t = so_far.talks in
      let r = next.round in
      inr (record {
        moment = c;
        kept = kept_now;
        cut = next.cut;
        sent = subst (λ (bytes : List ℕ). Appends a.offered bytes c.offered) (ap (λ (rs : List Round). question_bytes migration (asked_of rs) ++ question_bytes migration r.asked) none)
            (Appends-chain a.offered b.offered c.offered (question_bytes migration (asked_of so_far.rounds)) (question_bytes migration r.asked) t.sent next.sent);
        reads = subst (λ (all : List AnswerFrame). Reads [] a.heard all kept_now c.heard) (ap (λ (rs : List Round). answers_of rs ++ r.answers) none)
            (reads-on [] kept a.heard b.heard c.heard (answers_of so_far.rounds) t.reads r.answers kept_now next.reads);
        none_left = subst (λ (s : Holdings). NothingToCome s c.offered c.heard) t.goes_on.start left;
      })

  -- one round more
  pub talks-on : (count : ℕ) (a b c : PortTrace) (kept kept_now : List ℕ) (notes_b notes_c : Notes) → TalksFor migration homes switch items notes count a kept notes_b b → AsksRound migration homes switch items kept notes_b b kept_now notes_c c
      → TalksFor migration homes switch items notes (count + 1) a kept_now notes_c c
  talks-on count a b c kept kept_now notes_b notes_c so_far next =
      let t = so_far.talks in
      let rounds = so_far.rounds in
      let r = next.round in
      let asked : asked_of (rounds ++ r ∷ []) ≡ asked_of rounds ++ r.asked = asked-more rounds r in
      let answers : answers_of (rounds ++ r ∷ []) ≡ answers_of rounds ++ r.answers = answers-more rounds r in
      record {
        rounds = rounds ++ r ∷ [];
        counted = omega (arith, length-append rounds (r ∷ []), so_far.counted);
        talks = record {
          asks = asks-more items notes rounds r t.asks (next.asks ∙ ap (λ (ns : Notes). untold ns items) t.noted) next.few;
          sent = subst (λ (bytes : List ℕ). Appends a.offered bytes c.offered) (sym (ap (question_bytes migration) asked ∙ question-append migration (asked_of rounds) r.asked))
              (Appends-chain a.offered b.offered c.offered (question_bytes migration (asked_of rounds)) (question_bytes migration r.asked) t.sent next.sent);
          reads = subst (λ (all : List AnswerFrame). Reads [] a.heard all kept_now c.heard) (sym answers) (reads-on [] kept a.heard b.heard c.heard (answers_of rounds) t.reads r.answers kept_now next.reads);
          own = subst (All (IsOwn homes switch)) (sym answers) (All-append (IsOwn homes switch) (answers_of rounds) r.answers t.own next.own);
          noted = next.noted ∙ ap (λ (ns : Notes). with_answers ns r.answers) t.noted ∙ sym (with-append notes (answers_of rounds) r.answers) ∙ ap (with_answers notes) (sym answers);
          quiet = subst (λ (times : ℕ). QuietBy times a.quiet c.quiet) (sym (lacking-more rounds r))
              (quiet-on (lacking_rounds rounds) (lacking (length r.asked) (length r.answers)) a.quiet b.quiet c.quiet t.quiet next.quiet);
          given = OnTrue_from a.prompt (GivesFirst migration a (rounds ++ r ∷ []))
              (λ prompt. gives-more migration a rounds r (OnTrue_at prompt t.given) (λ none. first-gives count a b c kept kept_now notes_b notes_c so_far next none (OnTrue_at (t.goes_on.prompt ∙ prompt) next.given)));
          goes_on = goes_on_on a b c t.goes_on next.goes_on;
        };
      }

  -- ---- what was asked are items

  asked-small : (items_small : All (λ n. n < 2 ^ 32) items) (ns : Notes) (rounds : List Round) → AskUntold items ns rounds → All (λ n. n < 2 ^ 32) (asked_of rounds)
  asked-small items_small ns [] asks = All-nil (λ n. n < 2 ^ 32)
  asked-small items_small ns (r ∷ rounds) asks =
      All-append (λ n. n < 2 ^ 32) r.asked (asked_of rounds)
      (subst (All (λ n. n < 2 ^ 32)) (sym asks.0) (All-filter (is_untold ns) (λ n. n < 2 ^ 32) items items_small))
      (asked-small items_small (with_answers ns r.answers) rounds asks.2)

  module _ (fits : migration < 2 ^ 32) (small : All (λ n. n < 2 ^ 32) items) (count : ℕ) (a b : PortTrace) (kept : List ℕ) (notes_b : Notes) (so_far : TalksFor migration homes switch items notes count a kept notes_b b) where
    all-small : All (λ n. n < 2 ^ 32) (asked_of so_far.rounds)
    all-small = asked-small small notes so_far.rounds so_far.talks.asks

    -- a switch that was asked in whole rounds holds what it held
    whole-still : LeavesHeld a b
    whole-still = still a b migration fits (asked_of so_far.rounds) all-small (all_sent a.offered b.offered (question_bytes migration (asked_of so_far.rounds)) so_far.talks.sent) so_far.talks.goes_on

    -- so does one with which the last round ended in the middle
    cut-still : (c : PortTrace) (why : NotTold) → StopsRound migration homes switch items notes_b why kept b c → LeavesHeld a c
    cut-still c why stops =
        let first = asked_of so_far.rounds in
        let last = untold notes_b items in
        let bytes = question_bytes migration first in
        let more = question_bytes migration last in
        still a c migration fits (first ++ last) (All-append (λ n. n < 2 ^ 32) first last all-small (All-filter (is_untold notes_b) (λ n. n < 2 ^ 32) items small))
        (subst (λ (bs : List ℕ). AppendsFront a.offered bs c.offered) (sym (question-append migration first last)) (record {
          count = length bytes + stops.sent.count;
          within = omega (arith, stops.sent.within, length-append bytes more);
          appended = subst (λ (bs : List ℕ). Appends a.offered bs c.offered) (sym (take-append-add bytes more stops.sent.count)) (Appends-chain a.offered b.offered c.offered bytes _ so_far.talks.sent stops.sent.appended);
        }))
        (goes_on_on a b c so_far.talks.goes_on stops.goes_on)

    -- ---- how a talk ends

    pub told-all : (limit : ℕ) → count ≤ limit → first_of (untold notes_b items) ≡ None → IsTold homes switch items notes migration limit a notes_b b × LeavesHeld a b
    told-all limit within none = (
      record { rounds = so_far.rounds; kept = kept; talks = so_far.talks; within = omega (arith, within, so_far.counted); all = none-left (untold notes_b items) none },
      whole-still,
    )

    pub spent-at : (limit item : ℕ) → count ≡ limit → first_of (untold notes_b items) ≡ Some item → IsNotTold homes switch items notes migration limit (cause.Spent item) a b × LeavesHeld a b
    spent-at limit item all first = (
      record { kept = kept; notes_now = notes_b; talks = subst (λ (n : ℕ). TalksFor migration homes switch items notes n a kept notes_b b) all so_far; first = first },
      whole-still,
    )

    cut-as : (limit : ℕ) (c : PortTrace) (why : NotTold) → IsCutOff homes switch items notes migration limit why a c → (StopsRound migration homes switch items notes_b why kept b c) → IsNotTold homes switch items notes migration limit why a c
    cut-as limit c (cause.Spent item) cut stops = absurd stops.cause
    cut-as limit c (cause.NoPort w) cut stops = cut
    cut-as limit c (cause.Port w) cut stops = cut
    cut-as limit c (cause.NotAsked w item) cut stops = cut
    cut-as limit c (cause.NoAnswer w byte) cut stops = cut
    cut-as limit c cause.Memory cut stops = cut

    pub cut-off : {U : Type 0} (result : Result U NotTold) (limit : ℕ) (c : PortTrace) (notes_c : Notes) (why : NotTold) → count < limit → StopsRound migration homes switch items notes_b why kept b c → IsErrAnd result (λ e. e ≡ why)
        → EndsTalk result homes switch items notes migration limit a notes_c c
    cut-off (Ok u) limit c notes_c why within stops is = absurd is
    cut-off (Err e) limit c notes_c why within stops is =
        let ended = subst (λ (w : NotTold). StopsRound migration homes switch items notes_b w kept b c) (sym is) stops in (
          cut-as limit c e (record { count = count; within = within; kept = kept; notes_so_far = notes_b; moment = b; talks = so_far; stops = ended }) ended,
          cut-still c e ended,
        )
