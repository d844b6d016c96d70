-- What a row of hears comes to: of what was read, and of the port's rule.
use Rattle.std.proofs.Common.{◌≡◌, ◌⊎◌, ℕ, ◌+◌, ◌*◌, ◌-◌, ◌<◌, ◌≤◌, false, List, [], ◌∷◌, ◌++◌, length, take, Option, Some, None, IfSome, inl, inr, refl, sym, ap, subst, ◌∙◌, arith, length-append}
use Rattle.std.proofs.lemmas.Bool.{OnTrue_at, OnTrue_from, true≢false}
use Rattle.std.proofs.lemmas.List.Elements.{All-append}
use Rattle.std.specs.Bool.{OnTrue}
use Rattle.std.specs.List.{flat_map}
use Rattle.std.specs.Prelude.{IsTrue}
use Rattle.wan_edge.specs.Frames.{Answer, AnswerFrame, IsCutAnswer, answer_bytes}
use Rattle.wan_edge.specs.Ports.{GoesOn, Hears, IsHonestStep, IsOffered, IsOneMore, IsPromptState, IsUnready, MovesByRule, NothingToCome, PortTrace, Steps}
use Rattle.wan_edge.specs.Streams.{Appends, KeepsTelling}
use Rattle.wan_edge.specs.Switches.{Holdings, after_commands}
use Rattle.wan_edge.proofs.Chains.{Appends-chain, Appends-nothing}
use Rattle.wan_edge.proofs.Commands.{after_commands-append}
use Rattle.port_session.specs.Reading.{ReadsAnswers, Reckoning, Stream}
use Rattle.port_session.specs.Sessions.{EndsAnswer, HearsAnswers, IsHeard, Listening, listening, missing, uncounted}
use Rattle.port_session.specs.declared.fault.SessionFault.{SessionFault}
use Rattle.port_session.specs.declared.fault.SessionFault.TheVariants.{Port}
use Rattle.port_session.proofs.Chaining.{reads_nothing, reads_on, reads_stopped}

-- before the first hear
pub hears_nothing : (migration : ℕ) (a : Listening) → HearsAnswers migration a None a
hears_nothing migration a = record { bytes = []; appended = Appends-nothing a.heard; reads = reads_nothing migration a.reckoning }

-- a hear that failed
pub hears_none : (migration : ℕ) (before now : Option (List ℕ)) (reckoning : Reckoning) → now ≡ before → HearsAnswers migration (record { heard = before; reckoning = reckoning }) (Some Port) (record { heard = now; reckoning = reckoning })
hears_none migration before now reckoning same = record {
  bytes = [];
  appended = subst (λ (told : Option (List ℕ)). Appends before [] told) (sym same) (Appends-nothing before);
  reads = reads_stopped migration reckoning reckoning [] (reads_nothing migration reckoning);
}

-- a hear after others
pub hears_on : (migration : ℕ) (a b c : Listening) (fault : Option SessionFault) → HearsAnswers migration a None b → HearsAnswers migration b fault c → HearsAnswers migration a fault c
hears_on migration a b c fault first second = record {
  bytes = first.bytes ++ second.bytes;
  appended = Appends-chain a.heard b.heard c.heard first.bytes second.bytes first.appended second.appended;
  reads = reads_on migration a.reckoning b.reckoning c.reckoning first.bytes second.bytes fault first.reads second.reads;
}

pub length-answers : (answers : List AnswerFrame) → length (flat_map answer_bytes answers) ≡ 13 * length answers
unfolding answer_bytes
length-answers [] = refl
length-answers (a ∷ later) = omega (arith, length-append (answer_bytes a) (flat_map answer_bytes later), length-answers later)

pub cut_short : (kept : List ℕ) → IsCutAnswer kept → length kept < 13
unfolding answer_bytes
cut_short kept cut = omega (arith, ap length cut.begins, length-append kept cut.missing, cut.some)

-- what was read, in numbers
counted : (migration : ℕ) (a b : Reckoning) (bytes : List ℕ) (reads : ReadsAnswers migration a bytes None b) → length a.kept + length bytes ≡ 13 * length reads.answers + length b.kept
counted migration a b bytes reads =
    omega (arith, length-append a.kept bytes, ap length reads.whole.parts, length-append (flat_map answer_bytes reads.answers) reads.rest, length-answers reads.answers, ap length reads.ends)

-- each byte that is heard brings the end of the last answer nearer
pub nearer : (migration : ℕ) (a b : Stream) (told told_now : List Answer) (bytes : List ℕ) → ReadsAnswers migration (record { kept = a.kept; awaited = a.awaited; told = told }) bytes None (record { kept = b.kept; awaited = b.awaited; told = told_now })
    → IsCutAnswer a.kept → IsCutAnswer b.kept → 0 < a.awaited → 0 < length bytes → missing b < missing a
nearer migration a b told told_now bytes reads cut cut_now awaits some =
    omega (
      arith,
      counted migration (record { kept = a.kept; awaited = a.awaited; told = told }) (record { kept = b.kept; awaited = b.awaited; told = told_now }) bytes reads,
      cut_short a.kept cut,
      cut_short b.kept cut_now,
      reads.awaited_less,
      awaits,
      some,
    )

-- the same apart from how many are awaited: the same answers were read
pub uncount : (migration : ℕ) (before now : Option (List ℕ)) (s t : Stream) (xs ys : List Answer) (why : Option SessionFault) (hears : HearsAnswers migration (listening before s xs) why (listening now t ys))
    → (u : HearsAnswers migration (uncounted before s xs) why (uncounted now t ys)) × (u.reads.answers ≡ hears.reads.answers)
uncount migration before now s t xs ys why hears = (
  record {
    bytes = hears.bytes;
    appended = hears.appended;
    reads = record {
      answers = hears.reads.answers;
      rest = hears.reads.rest;
      whole = hears.reads.whole;
      told_more = hears.reads.told_more;
      awaited_less = omega arith;
      ends = hears.reads.ends;
    };
  },
  refl,
)

-- where some were awaited, and as many were read, one ended
one_ended : (migration : ℕ) (a b : Listening) → (hears : HearsAnswers migration a None b) → 0 < length hears.reads.answers → EndsAnswer a.reckoning.kept a.heard b.heard
one_ended migration a b hears some = record {
  bytes = hears.bytes;
  appended = hears.appended;
  answers = hears.reads.answers;
  rest = hears.reads.rest;
  whole = hears.reads.whole;
  some = some;
}

moves_on : (offered : List ℕ) (a b c : Holdings) → MovesByRule offered a b → MovesByRule offered b c → MovesByRule offered a c
moves_on offered a b c first second = record {
  delivered = first.delivered ++ second.delivered;
  each_offered = All-append (IsOffered offered) first.delivered second.delivered first.each_offered second.each_offered;
  moved = second.moved ∙ ap (λ (h : Holdings). after_commands h second.delivered) first.moved ∙ sym (after_commands-append a first.delivered second.delivered);
}

all_moves_on : (offered : Option (List ℕ)) (a b c : Option Holdings) → KeepsTelling a b → IfSome offered (λ bytes. IfSome a (λ earlier. IfSome b (λ later. MovesByRule bytes earlier later)))
    → IfSome offered (λ bytes. IfSome b (λ earlier. IfSome c (λ later. MovesByRule bytes earlier later))) → IfSome offered (λ bytes. IfSome a (λ earlier. IfSome c (λ later. MovesByRule bytes earlier later)))
all_moves_on None a b c told first second = tt
all_moves_on (Some bytes) None b c told first second = tt
all_moves_on (Some bytes) (Some earlier) None c told first second = absurd (true≢false (sym told))
all_moves_on (Some bytes) (Some earlier) (Some between) None told first second = tt
all_moves_on (Some bytes) (Some earlier) (Some between) (Some later) told first second = moves_on bytes earlier between later first second

-- an honest step after others
step_on : (offered heard heard_now : Option (List ℕ)) (a b c : Option Holdings) → KeepsTelling a b → IsHonestStep offered heard a b → IsHonestStep offered heard_now b c → IsHonestStep offered heard_now a c
step_on offered heard heard_now a b c told first second = record {
  moves = all_moves_on offered a b c told first.moves second.moves;
  answers = second.answers;
}

module _ (a b c : PortTrace) where
  -- a call of an honest port after others, or the first one
  rule_on : KeepsTelling a.held b.held → b.honest ≡ a.honest → b.offered ≡ a.offered → c.offered ≡ b.offered → OnTrue a.honest ((b ≡ a) ⊎ IsHonestStep b.offered b.heard a.held b.held)
      → OnTrue b.honest (IsHonestStep c.offered c.heard b.held c.held) → OnTrue a.honest ((c ≡ a) ⊎ IsHonestStep c.offered c.heard a.held c.held)
  rule_on told same unsent_first unsent first second =
      OnTrue_from a.honest _ (λ is.
      let step : IsHonestStep c.offered c.heard b.held c.held = OnTrue_at (same ∙ is) second in
      inr (elim (OnTrue_at is first) [
        | inl none ↦ subst (λ (p : PortTrace). IsHonestStep c.offered c.heard p.held c.held) none step
        | inr earlier ↦ step_on c.offered b.heard c.heard a.held b.held c.held told (subst (λ (o : Option (List ℕ)). IsHonestStep o b.heard a.held b.held) (sym unsent) earlier) step
      ]))

  -- a call of a prompt port
  order_on : b.prompt ≡ a.prompt → b.start ≡ a.start → OnTrue b.prompt (IsPromptState b.start c.offered c.heard c.held) → OnTrue a.prompt ((c ≡ a) ⊎ IsPromptState a.start c.offered c.heard c.held)
  order_on same same_start second =
      OnTrue_from a.prompt _ (λ is. inr (subst (λ (h : Holdings). IsPromptState h c.offered c.heard c.held) same_start (OnTrue_at (same ∙ is) second)))

  -- one hear more
  pub hears_further : (came : List ℕ) → GoesOn a b → b.offered ≡ a.offered → Appends b.heard came c.heard → c.offered ≡ b.offered → Steps b c → GoesOn a c
  hears_further came on unsent_first heard unsent step = record {
    sent = [];
    offered = unsent ∙ unsent_first ∙ Appends-nothing a.offered;
    came = on.came ++ came;
    heard = Appends-chain a.heard b.heard c.heard on.came came on.heard heard;
    count = omega (arith, on.count, step.count);
    told = step.told ∙ on.told;
    honest = step.honest ∙ on.honest;
    prompt = step.prompt ∙ on.prompt;
    start = step.start ∙ on.start;
    by_rule = rule_on on.told on.honest unsent_first unsent on.by_rule step.by_rule;
    in_order = order_on on.prompt on.start step.in_order;
  }

-- ---- how hearing ends
module _ (migration : ℕ) (a b : PortTrace) (s t : Stream) (xs ys : List Answer) (hears : HearsAnswers migration (listening a.heard s xs) None (listening b.heard t ys)) (quiet : b.quiet ≡ a.quiet) (live : IsTrue t.live) where
  -- as many were read as were awaited
  pub heard_all : t.awaited ≡ 0 → IsHeard migration a s xs b t ys
  heard_all none =
      let u = uncount migration a.heard b.heard s t xs ys None hears in
      let read : ℕ = length u.0.reads.answers in
      let same : read ≡ length hears.reads.answers = ap length u.1 in
      let less : t.awaited ≡ s.awaited - length hears.reads.answers = hears.reads.awaited_less in
      let enough : s.awaited ≤ read = omega (arith, less, none, same) in
      record {
        hears = u.0;
        over = inl (record { none_left = none; enough = enough; as_quiet = quiet });
        comes = λ some left. let one : 0 < read = omega (arith, some, enough) in inl (one_ended migration (uncounted a.heard s xs) (uncounted b.heard t ys) u.0 one);
        live = live;
        all_given = OnTrue_from a.prompt _ (λ is. inl enough);
      }

  -- The port wasn't ready.
  pub heard_late : (c : PortTrace) → GoesOn a b → b.waits ≡ a.waits → 0 < t.awaited → IsUnready b c → IsHeard migration a s xs c t ys
  heard_late c on waits some unready =
      let further : HearsAnswers migration (listening a.heard s xs) None (listening c.heard t ys)
      = subst (λ (h : Option (List ℕ)). HearsAnswers migration (listening a.heard s xs) None (listening h t ys)) (sym unready.heard) hears in
      let unprompt : a.prompt ≡ false = sym on.prompt ∙ unready.prompt in
      let u = uncount migration a.heard c.heard s t xs ys None further in
      record {
        hears = u.0;
        over = inr (inr (record {
          some_left = some;
          left_is = further.reads.awaited_less ∙ ap (λ (n : ℕ). s.awaited - n) (sym (ap length u.1));
          as_quiet = unready.quiet ∙ quiet;
          waits = subst (λ (o : Option ℕ). IsOneMore o c.waits) waits unready.waits;
          unprompt = unprompt;
        }));
        comes = λ awaits none. absurd (omega (arith, some, none));
        live = live;
        all_given = OnTrue_from a.prompt _ (λ is. absurd (true≢false (sym is ∙ unprompt)));
      }

  -- The port was ready, and gave nothing: its time limit has passed.
  pub heard_quiet : (c : PortTrace) (u : Stream) (n : ℕ) (into : List ℕ) → GoesOn a b → Hears n into b c → n ≡ 0 → u ≡ record { kept = t.kept; live = t.live; awaited = 0 } → IsHeard migration a s xs c u ys
  heard_quiet c u n into on given zero is =
      let silent : Appends b.heard [] c.heard = subst (λ (m : ℕ). Appends b.heard (take m into) c.heard) zero given.heard in
      let none : Stream = record { kept = t.kept; live = t.live; awaited = 0 } in
      let same : c.heard ≡ b.heard = silent ∙ sym (Appends-nothing b.heard) in
      let further : HearsAnswers migration (uncounted a.heard s xs) None (uncounted c.heard none ys)
      = subst (λ (h : Option (List ℕ)). HearsAnswers migration (uncounted a.heard s xs) None (uncounted h t ys)) (sym same) (uncount migration a.heard b.heard s t xs ys None hears).0 in
      let once : IsOneMore a.quiet c.quiet = subst (λ (o : Option ℕ). IsOneMore o c.quiet) quiet (given.quieter zero) in
      subst (λ (v : Stream). IsHeard migration a s xs c v ys) (sym is)
      (record {
        hears = further;
        over = inr (inl (record { none_left = refl; quieter = once }));
        comes = λ some left. inr once;
        live = live;
        all_given = OnTrue_from a.prompt _ (λ prompt. inr (subst (λ (h : Holdings). NothingToCome h c.offered c.heard) on.start (OnTrue_at (on.prompt ∙ prompt) given.all_given zero)));
      })
