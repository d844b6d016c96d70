-- Why no next start of a rollout is refused for what a run of it has left.
use Rattle.std.proofs.Common.{◌≡◌, ◌⊎◌, inl, inr, ℕ, ◌≤◌, true, List, [], Option, Some, None, IfSome, Result, Ok, Err, IfOk, IfErr, sym, ap, ◌∙◌, subst, arith}
use Rattle.lists.proofs.Conditions.{some_same_is}
use Rattle.rollout_rules.specs.Wan.{Rollout}
use Rattle.rollout_rules.specs.History.{no_start, with_entries}
use Rattle.rollout_rules.specs.Legal.{is_legal}
use Rattle.rollout_rules.specs.declared.op.OpView.{OpView}
use Rattle.disk_model.specs.Traces.{DiskTrace}
use Rattle.disk_model.specs.Moments.{LeavesOnly}
use Rattle.disk_model.proofs.Running.{LeavesOnly-weaker}
use Rattle.wan_edge.specs.Ports.{PortTrace}
use Rattle.intent_journal.specs.declared.digest.Digest.{Digest}
use Rattle.intent_journal.specs.declared.fault.JournalFault.{JournalFault}
use Rattle.intent_journal.specs.Openings.{IsLeft, found_by}
use Rattle.intent_journal.specs.Parts.{Kept}
use Rattle.intent_journal.specs.Phases.{kept_by, kept_of}
use Rattle.intent_journal.specs.Recovered.{KeepsNow, MayStand, kept_for}
use Rattle.intent_journal.specs.Verdicts.{Fresh, NoJournal, NoStart, NotLegal, OfAnother, Stands, Verdict, verdict}
use Rattle.shared_book.specs.Histories.{Opening}
use Rattle.shared_book.specs.Images.{GoesOnFrom, Stays}
use Rattle.shared_book.specs.Opened.{opening_of}
use Rattle.switch_ports.specs.Berths.{FleetPorts}
use Rattle.rollout_report.specs.Journals.{digest_for}
use Rattle.controller_run.specs.declared.running.Limits.{Limits}
use Rattle.controller_run.specs.RolloutEnds.{HasRolled}
use Rattle.controller_run.specs.declared.outcome.RunOutcome.{RunOutcome}
use Rattle.swanroll_top.specs.NextStarts.{IsTakenAgain, MayBeFound, NextStart, StartsAgain}
use Rattle.swanroll_top.specs.Rollouts.{FleetSeen, Rolls}
use Rattle.text_commands.specs.declared.command_end.CommandEnd.{CommandEnd}

-- whatever an opened journal keeps is of its digest and migration
pub kept-owner : (r : Rollout) (digest : Digest) (v : Verdict) (what : Kept) → kept_for r digest v ≡ Some what → (what.digest ≡ digest.bytes) × (what.migration ≡ digest.migration)
kept-owner r digest Fresh what is =
    let same : kept_of digest (no_start r.problem) [] ≡ what = cc is in
    (ap (λ (k : Kept). k.digest) (sym same), ap (λ (k : Kept). k.migration) (sym same))
kept-owner r digest (Stands start entries) what is =
    let same : kept_of digest start entries ≡ what = cc is in
    (ap (λ (k : Kept). k.digest) (sym same), ap (λ (k : Kept). k.migration) (sym same))
kept-owner r digest (NoJournal first) what is = absurd (cc is)
kept-owner r digest (OfAnother bytes migration) what is = absurd (cc is)
kept-owner r digest NoStart what is = absurd (cc is)
kept-owner r digest (NotLegal place) what is = absurd (cc is)

widened : {A B C : Type 0} → A ⊎ B → A ⊎ (B ⊎ C)
widened (inl a) = inl a
widened (inr b) = inr (inl b)

-- an image that goes on from an opening is taken again
taken : (r : Rollout) (digest : Digest) (first : List ℕ) (o : Opening) (kept : Kept) → o.rollout ≡ r → found_by r (verdict r digest first) ≡ Some o.found
    → (kept.digest ≡ digest.bytes) × (kept.migration ≡ digest.migration) → (c : List ℕ) → GoesOnFrom o kept c → IsTakenAgain r digest first c
taken r digest first o kept rollout begins own c goes =
    let owner = goes.owner in
    let has = goes.list.has in
    let same : owner.now ≡ has.kept = some_same_is owner.now has.kept (sym owner.is ∙ has.is) in
    record {
      found = o.found;
      begins = begins;
      past = goes.list.past;
      legal = subst (λ (x : Rollout). is_legal x.problem x.plan (with_entries o.found goes.list.past) ≡ true) rollout goes.list.legal;
      kept = owner.now;
      is = owner.is;
      digest_is = owner.digest ∙ own.0;
      migration_is = owner.migration ∙ own.1;
      starts = ap (λ (k : Kept). k.starts) same ∙ has.starts;
      rows = ap (λ (k : Kept). k.rows) same ∙ has.rows;
    }

module _ {D : Type 0} (trace : D → DiskTrace) (r : Rollout) (digest : Digest) (disk now : D) where
  -- an opening, and what has stayed since
  module _ (o : Opening) (book : D) (first : List ℕ) (kept : Kept) (taken-by : (c : List ℕ) → GoesOnFrom o kept c → IsTakenAgain r digest first c)
      (opens : LeavesOnly trace disk book (MayStand r digest first (verdict r digest first) (trace disk).may_leave)) where
    each-by : (c : List ℕ) → (trace book).left_since (trace disk).moment c ⊎ GoesOnFrom o kept c → MayBeFound r digest first (trace disk).may_leave c
    each-by c (inl left) = inl (opens.each c left)
    each-by c (inr goes) = inr (taken-by c goes)

    before-by : (t : ℕ) (c : List ℕ) → t ≤ (trace disk).moment → (trace book).left_since t c ⊎ GoesOnFrom o kept c → (trace disk).left_since t c ⊎ MayBeFound r digest first (trace disk).may_leave c
    before-by t c le (inl left) = widened (opens.before t c le left)
    before-by t c le (inr goes) = inr (inr (taken-by c goes))

    chained : (told : List ℕ) → Stays trace o (trace book) kept now told → LeavesOnly trace disk now (MayBeFound r digest first (trace disk).may_leave)
    chained told stays = record {
      later = omega (arith, opens.later, stays.later);
      each = λ c left. each-by c (stays.each (trace disk).moment c opens.later left);
      before = λ t c le left. before-by t c le (stays.each t c (omega (arith, le, opens.later)) left);
    }

  abbrev Again : Option (List ℕ) → Option (List ℕ) → Type 0
  Again told told' = IfSome told (λ first. IfSome told' (λ _. LeavesOnly trace disk now (MayBeFound r digest first (trace disk).may_leave)))

  opened-again : (o : Opening) (book : D) (told told' : Option (List ℕ)) → o.rollout ≡ r → IfSome told (λ first. found_by r (verdict r digest first) ≡ Some o.found)
      → IfSome told (λ first. KeepsNow (kept_for r digest (verdict r digest first)) (trace book).bytes (trace book).may_leave)
      → IfSome told (λ first. LeavesOnly trace disk book (MayStand r digest first (verdict r digest first) (trace disk).may_leave))
      → IfSome (kept_by (trace book).bytes) (λ kept. IfSome told' (Stays trace o (trace book) kept now)) → Again told told'
  opened-again o book None told' rollout begins keeps opens stays = tt
  opened-again o book (Some first) None rollout begins keeps opens stays = tt
  opened-again o book (Some first) (Some last) rollout begins keeps opens stays =
      let kept_is : kept_by (trace book).bytes ≡ Some keeps.what = ap kept_by keeps.is_told ∙ keeps.fresh.keeps in
      let stayed : Stays trace o (trace book) keeps.what now last = subst (λ (k : Option Kept). IfSome k (λ kept. Stays trace o (trace book) kept now last)) kept_is stays in
      chained o book first keeps.what (taken r digest first o keeps.what rollout begins (kept-owner r digest (verdict r digest first) keeps.what keeps.is_kept)) opens last stayed

  left-again : (told told' : Option (List ℕ)) → IfSome told (λ first. LeavesOnly trace disk now (MayStand r digest first (verdict r digest first) (trace disk).may_leave)) → Again told told'
  left-again None told' run = tt
  left-again (Some first) None run = tt
  left-again (Some first) (Some last) run =
      LeavesOnly-weaker trace disk now (MayStand r digest first (verdict r digest first) (trace disk).may_leave) (MayBeFound r digest first (trace disk).may_leave) run (λ c stands. inl stands)

  pub unopened-again : IfSome (trace disk).bytes (λ first. LeavesOnly trace disk now (MayStand r digest first (verdict r digest first) (trace disk).may_leave)) → StartsAgain trace r digest disk now
  unopened-again run = left-again (trace disk).bytes (trace now).bytes run

module _ {D P : Type 0} (trace : D → DiskTrace) (tell : P → PortTrace) (r : Rollout) (digest : Digest) (policy : OpView → ℕ) (rounds : ℕ) (disk disk_now : D) (before now : FleetPorts P) where
  pub rolled-again : (a : RunOutcome) → HasRolled trace tell r digest policy rounds disk before now disk_now a → StartsAgain trace r digest disk disk_now
  rolled-again a has =
      opened-again trace r digest disk disk_now (opening_of has.book policy) has.book.disk (trace disk).bytes (trace disk_now).bytes has.opened.rollout has.opened.found has.opened.on.keeps has.opened.on.meanwhile has.run.stays

  answer-again : (a : Result RunOutcome JournalFault) (Q : Type 0) → IfOk a (λ o. HasRolled trace tell r digest policy rounds disk before now disk_now o)
      → IfErr a (λ why. IsLeft trace r digest disk why disk_now × Q) → StartsAgain trace r digest disk disk_now
  answer-again (Ok o) Q has left = rolled-again o has
  answer-again (Err why) Q has left = left-again trace r digest disk disk_now (trace disk).bytes (trace disk_now).bytes left.0.meanwhile

module _ {D P : Type 0} (trace : D → DiskTrace) (tell : P → PortTrace) (Given : List ℕ → Type 0) (disk disk_now : D) (before now : FleetSeen P) (limits : Limits) (policy : OpView → ℕ) (e : CommandEnd) (out out_now : Option (List ℕ)) where
  pub rolls-next : Rolls trace tell Given limits policy disk disk_now before now e out out_now → NextStart trace limits Given disk disk_now
  rolls-next (inl none) = inl none.disk_is
  rolls-next (inr rolled) = elim rolled.rolls [
    | inl fails ↦ inr (inl fails.opens)
    | inr begun ↦ inr (inr (record {
      input = rolled.input;
      given = rolled.given;
      r = rolled.r;
      is = rolled.is;
      opened = begun.opened;
      opens = begun.opens;
      again = answer-again trace tell rolled.r (digest_for rolled.r limits.migration) policy limits.rounds begun.opened disk_now before.ports now.ports begun.rolls.answer (now ≡ before) begun.rolls.rolled begun.rolls.unopened;
    }))
  ]
