-- What one round at a port comes to.
use Rattle.std.proofs.Common.{◌≡◌, ◌⊎◌, ℕ, ◌≤◌, List, [], length, take, Option, inl, inr, refl, sym, ap, ◌∙◌, subst, arith}
use Rattle.std.proofs.lemmas.Bool.{OnTrue_at, OnTrue_from}
use Rattle.wan_edge.specs.Frames.{IsCutAnswer}
use Rattle.wan_edge.specs.Ports.{AppendsFront, FailsToSend, NothingToCome, PortTrace, Sends, Steps}
use Rattle.wan_edge.specs.Streams.{Appends}
use Rattle.wan_edge.specs.Switches.{Holdings}
use Rattle.wan_edge.proofs.Chains.{Appends-nothing, goes_once, stays}
use Rattle.wan_edge.proofs.Faults.{rose_since}
use Rattle.switch_ports.proofs.Stories.{goes_on_on}
use Rattle.switch_ports.proofs.Told.{all_sent, none_sent}
use Rattle.held_service.specs.Hearing.{HearsOut, IsWhy, QuietBy, Reads, ReadsNone, ReadsOther, StopsHearing, lacking}
use Rattle.held_service.specs.Noting.{Notes, untold}
use Rattle.held_service.specs.Questions.{question_bytes}
use Rattle.held_service.specs.Talks.{AsksRound, StopsRound}
use Rattle.held_service.specs.declared.not_told.NotTold.{NotTold}
use Rattle.held_service.specs.declared.not_told.NotTold.TheVariants as cause

-- the same of a port of which as much was heard, and which had failed no more often
why-from : (homes : List (Option ℕ)) (switch : ℕ) (why : NotTold) (kept : List ℕ) (a b c : PortTrace) → b.heard ≡ a.heard → a.faults ≤ b.faults → IsWhy homes switch why kept b c → IsWhy homes switch why kept a c
why-from homes switch (cause.Spent item) kept a b c same count is = is
why-from homes switch (cause.NoPort w) kept a b c same count is = is
why-from homes switch (cause.Port w) kept a b c same count is = (is.0, rose_since a.faults b.faults c.faults count is.1)
why-from homes switch (cause.NotAsked w item) kept a b c same count is = (is.0, subst (λ (o : Option (List ℕ)). ReadsOther homes switch item kept o c.heard) same is.1)
why-from homes switch (cause.NoAnswer w byte) kept a b c same count is = (is.0, subst (λ (o : Option (List ℕ)). ReadsNone byte kept o c.heard) same is.1)
why-from homes switch cause.Memory kept a b c same count is = tt

module _ (migration : ℕ) (homes : List (Option ℕ)) (switch : ℕ) (items : List ℕ) (notes : Notes) (kept : List ℕ) where
  -- memory ran out before anything went out
  pub round-wants : (why : NotTold) (port : PortTrace) → why ≡ cause.Memory → StopsRound migration homes switch items notes why kept port port
  round-wants why port is = record {
    cause = subst (λ (w : NotTold). IsWhy homes switch w kept port port) (sym is) tt;
    sent = none_sent port.offered port.offered (question_bytes migration (untold notes items)) refl;
    goes_on = stays port;
  }

  module _ (a b : PortTrace) (asked bytes : List ℕ) (asks : asked ≡ untold notes items) (are : bytes ≡ question_bytes migration asked) where
    right : bytes ≡ question_bytes migration (untold notes items)
    right = are ∙ ap (question_bytes migration) asks

    -- the port failed as they were offered
    pub round-unsent : (why : NotTold) → why ≡ cause.Port switch → FailsToSend bytes a b → Steps a b → StopsRound migration homes switch items notes why kept a b
    round-unsent why is fails step = record {
      cause = subst (λ (w : NotTold). IsWhy homes switch w kept a b) (sym is) (refl, fails.cause);
      sent = subst (λ (bs : List ℕ). AppendsFront a.offered bs b.offered) right fails.offered;
      goes_on = goes_once a b (take fails.offered.count bytes) [] fails.offered.appended (fails.heard ∙ Appends-nothing a.heard) step;
    }

    module _ (c : PortTrace) (sends : Sends bytes a b) (step : Steps a b) where
      -- the talk ended as the answers were heard
      pub round-cut : (why : NotTold) → StopsHearing homes switch why kept b c → StopsRound migration homes switch items notes why kept a c
      round-cut why stops = record {
        cause = why-from homes switch why kept a b c sends.heard step.count stops.cause;
        sent = subst (λ (o : Option (List ℕ)). AppendsFront a.offered (question_bytes migration (untold notes items)) o) (sym stops.unsent)
            (all_sent a.offered b.offered (question_bytes migration (untold notes items)) (subst (λ (bs : List ℕ). Appends a.offered bs b.offered) right sends.offered));
        goes_on = goes_on_on a b c (goes_once a b bytes [] sends.offered (sends.heard ∙ Appends-nothing a.heard) step) stops.goes_on;
      }

      -- they were heard out
      pub round-made : (count : ℕ) (kept_now : List ℕ) (notes_now : Notes) → count ≡ length asked → IsCutAnswer kept_now → HearsOut homes switch count kept notes b kept_now notes_now c → AsksRound migration homes switch items kept notes a kept_now notes_now c
      round-made count kept_now notes_now counted cut hears = record {
        round = record { asked = asked; answers = hears.answers };
        asks = asks;
        sent = subst (λ (o : Option (List ℕ)). Appends a.offered (question_bytes migration asked) o) (sym hears.unsent) (subst (λ (bs : List ℕ). Appends a.offered bs b.offered) are sends.offered);
        reads = subst (λ (o : Option (List ℕ)). Reads kept o hears.answers kept_now c.heard) sends.heard hears.reads;
        own = hears.own;
        noted = hears.noted;
        few = omega (arith, hears.few, counted);
        quiet = subst (λ (q : Option ℕ). QuietBy (lacking (length asked) (length hears.answers)) q c.quiet) sends.quiet
            (subst (λ (n : ℕ). QuietBy (lacking n (length hears.answers)) b.quiet c.quiet) counted hears.quiet);
        cut = cut;
        given = OnTrue_from a.prompt ((length asked ≤ length hears.answers) ⊎ NothingToCome a.start c.offered c.heard) (λ prompt. elim (OnTrue_at (step.prompt ∙ prompt) hears.given) [
          | inl all ↦ inl (omega (arith, all, counted))
          | inr none ↦ inr (subst (λ (s : Holdings). NothingToCome s c.offered c.heard) step.start none)
        ]);
        goes_on = goes_on_on a b c (goes_once a b bytes [] sends.offered (sends.heard ∙ Appends-nothing a.heard) step) hears.goes_on;
      }
