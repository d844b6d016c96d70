-- A journal was opened, or none was.
use Rattle.std.proofs.Common.{◌≡◌, ◌≤◌, ℕ, List, [], Some, None, IfSome, is_some, refl, sym, subst, ap, ◌∙◌, arith}
use Rattle.lists.proofs.Conditions.{some_same_is}
use Rattle.rollout_rules.specs.Wan.{Rollout}
use Rattle.rollout_rules.specs.History.{History, from_nothing}
use Rattle.rollout_rules.specs.declared.op.Entry.{Entry}
use Rattle.disk_model.specs.Whole.{IsQuiet}
use Rattle.disk_model.specs.Traces.{DiskTrace}
use Rattle.disk_model.specs.Moments.{LeavesOnly}
use Rattle.dependency_graph.specs.Graph.{Followed}
use Rattle.wan_edge.specs.Streams.{KeepsTelling, Rose}
use Rattle.intent_journal.specs.declared.digest.Digest.{Digest}
use Rattle.intent_journal.specs.declared.fault.JournalFault.{JournalFault}
use Rattle.intent_journal.specs.declared.fault.JournalFault.TheVariants as fault
use Rattle.intent_journal.specs.Openings.{IsLeft, IsOpenedFrom, IsOpenedOn, found_by, unbegun}
use Rattle.intent_journal.specs.Recovered.{IsBroughtTo, IsCause, KeepsNow, MayStand, OnRefusal, kept_for}
use Rattle.intent_journal.specs.Verdicts.{Fresh, NoJournal, NoStart, NotLegal, OfAnother, Stands, Verdict, verdict}
use Rattle.intent_journal.specs.Whole.{Causes}
use Rattle.intent_journal.proofs.Recoveries.{cause_rose, causes_either, no_refusal, not_refused, opened_run, quiet_since, read_run, refused_as, rose_later, still, tells_still, told_all, told_as, told_later}

-- ---- a graph that was brought to what an image is

brought_rollout : (v : Verdict) (list : List Entry) (old new : Followed) → IsBroughtTo v list old new → new.rollout ≡ old.rollout
brought_rollout Fresh list old new is = ap (λ (g : Followed). g.rollout) is.1
brought_rollout (Stands start entries) list old new is = ap (λ (g : Followed). g.rollout) is.1
brought_rollout (NoJournal first) list old new is = absurd is
brought_rollout (OfAnother bytes migration) list old new is = absurd is
brought_rollout NoStart list old new is = absurd is
brought_rollout (NotLegal place) list old new is = absurd is

brought_entries : (v : Verdict) (list : List Entry) (old new : Followed) → old.history ≡ from_nothing old.rollout.problem [] → IsBroughtTo v list old new → list ≡ new.history.entries
brought_entries Fresh list old new empty is = is.0 ∙ sym (ap (λ (g : Followed). g.history.entries) is.1 ∙ ap (λ (h : History). h.entries) empty)
brought_entries (Stands start entries) list old new empty is = is.0 ∙ sym (ap (λ (g : Followed). g.history.entries) is.1)
brought_entries (NoJournal first) list old new empty is = absurd is
brought_entries (OfAnother bytes migration) list old new empty is = absurd is
brought_entries NoStart list old new empty is = absurd is
brought_entries (NotLegal place) list old new empty is = absurd is

brought_found : (v : Verdict) (list : List Entry) (old new : Followed) → old.history ≡ from_nothing old.rollout.problem [] → IsBroughtTo v list old new → found_by old.rollout v ≡ Some new.history
brought_found Fresh list old new empty is = ap Some (sym (ap (λ (g : Followed). g.history) is.1 ∙ empty))
brought_found (Stands start entries) list old new empty is = ap Some (sym (ap (λ (g : Followed). g.history) is.1))
brought_found (NoJournal first) list old new empty is = absurd is
brought_found (OfAnother bytes migration) list old new empty is = absurd is
brought_found NoStart list old new empty is = absurd is
brought_found (NotLegal place) list old new empty is = absurd is

pub none_some : {A : Type 0} (a : A) → None ≡ Some a → ⊥
none_some a is = cc is

abbrev followed : Rollout → History → Followed
followed r h = record { rollout = r; history = h }

-- and the other way: what was found is what the graph was brought to
same_graph : (r : Rollout) (found : History) (list : List Entry) (new : Followed) → new.rollout ≡ r → list ≡ new.history.entries → found ≡ new.history → (list ≡ found.entries) × (new ≡ followed r found)
same_graph r found list new same entries history =
    (entries ∙ ap (λ (h : History). h.entries) (sym history), ap (λ (s : Rollout). followed s new.history) same ∙ ap (followed r) (sym history))

pub found_brought : (v : Verdict) (r : Rollout) (list : List Entry) (new : Followed) → new.rollout ≡ r → list ≡ new.history.entries → found_by r v ≡ Some new.history → IsBroughtTo v list (unbegun r) new
found_brought Fresh r list new same entries is = same_graph r (from_nothing r.problem []) list new same entries (some_same_is (from_nothing r.problem []) new.history is)
found_brought (Stands start list_is) r list new same entries is =
    same_graph r (record { start = start; entries = list_is }) list new same entries (some_same_is (record { start = start; entries = list_is }) new.history is)
found_brought (NoJournal first) r list new same entries is = absurd (none_some new.history is)
found_brought (OfAnother bytes migration) r list new same entries is = absurd (none_some new.history is)
found_brought NoStart r list new same entries is = absurd (none_some new.history is)
found_brought (NotLegal place) r list new same entries is = absurd (none_some new.history is)

-- ---- the two records

module _ {D : Type 0} (trace : D → DiskTrace) (digest : Digest) where
  -- the image was read, and then the journal was opened that it is or is to be
  pub opened_read : (image : List ℕ) (before after : Followed) (list : List Entry) (old mid new : D) → before.history ≡ from_nothing before.rollout.problem []
      → IfSome (trace old).bytes (λ all. image ≡ all) → IsQuiet trace old mid → (trace old).faults ≤ (trace mid).faults
      → IsBroughtTo (verdict before.rollout digest image) list before after → IfSome (trace new).bytes (λ _. KeepsNow (kept_for before.rollout digest (verdict before.rollout digest image)) (trace new).bytes (trace new).may_leave)
      → IfSome (trace mid).bytes (λ _. LeavesOnly trace mid new (MayStand before.rollout digest image (verdict before.rollout digest image) (trace mid).may_leave))
      → KeepsTelling (trace mid).bytes (trace new).bytes → (trace mid).faults ≤ (trace new).faults → IsOpenedFrom trace before.rollout digest old after list new
  opened_read image before after list old mid new empty read quiet grown brought keeps run tells more =
      let r = before.rollout in
      let v = verdict r digest image in
      let Keeps = λ (all : List ℕ). KeepsNow (kept_for r digest (verdict r digest all)) (trace new).bytes (trace new).may_leave in
      record {
        rollout = brought_rollout v list before after brought;
        entries = brought_entries v list before after empty brought;
        found = told_as (trace old).bytes image (λ all. found_by r (verdict r digest all) ≡ Some after.history) read (brought_found v list before after empty brought);
        on = record {
          keeps = told_later (trace old).bytes (trace mid).bytes (trace new).bytes image (Keeps image) Keeps quiet.same tells read keeps (λ is. is);
          meanwhile = opened_run trace r digest image v old mid new read quiet refl run;
          told = tells_still (trace old).bytes (trace mid).bytes (trace new).bytes quiet.same tells;
          count = omega (arith, grown, more);
        };
      }

  -- the image was read, and then none was opened
  pub left_read : (r : Rollout) (image : List ℕ) (cause : JournalFault) (old mid new : D)
      → IfSome (trace old).bytes (λ all. image ≡ all) → IsQuiet trace old mid → (trace old).faults ≤ (trace mid).faults
      → IfSome (trace mid).bytes (λ _. LeavesOnly trace mid new (MayStand r digest image (verdict r digest image) (trace mid).may_leave))
      → IsCause cause digest (verdict r digest image) → (cause ≡ fault.Disk → Rose (trace mid).faults (trace new).faults) → OnRefusal cause (new ≡ mid)
      → KeepsTelling (trace mid).bytes (trace new).bytes → (trace mid).faults ≤ (trace new).faults → IsLeft trace r digest old cause new
  left_read r image cause old mid new read quiet grown run is rose unwritten tells more = record {
    refusal = told_as (trace old).bytes image (λ all. IsCause cause digest (verdict r digest all)) read is;
    unwritten = refused_as cause _ _ (quiet_since trace old mid new quiet) unwritten;
    meanwhile = opened_run trace r digest image (verdict r digest image) old mid new read quiet refl run;
    failed = λ disk. rose_later (trace old).faults (trace mid).faults (trace new).faults (rose disk) grown;
    told = tells_still (trace old).bytes (trace mid).bytes (trace new).bytes quiet.same tells;
    count = omega (arith, grown, more);
  }

  -- the image was not read to its end
  pub left_unread : (r : Rollout) (cause : JournalFault) (old new : D) → IsQuiet trace old new → Causes cause (trace old).faults (trace new).faults → (trace old).faults ≤ (trace new).faults
      → IsLeft trace r digest old cause new
  left_unread r cause old new quiet causes grown = record {
    refusal = told_all (trace old).bytes (λ all. IsCause cause digest (verdict r digest all)) (λ all. no_refusal cause digest (verdict r digest all) (causes_either cause (trace old).faults (trace new).faults causes));
    unwritten = not_refused cause _ (causes_either cause (trace old).faults (trace new).faults causes);
    meanwhile = read_run trace r digest old new quiet;
    failed = cause_rose cause (trace old).faults (trace new).faults causes;
    told = ap is_some quiet.same;
    count = grown;
  }

  -- where memory ran out before the disk was called, it is as it was
  pub left_alone : (r : Rollout) (disk : D) → ((c : List ℕ) → (trace disk).left_since (trace disk).moment c → (trace disk).may_leave c) → IsLeft trace r digest disk fault.Memory disk
  left_alone r disk only = record {
    refusal = told_all (trace disk).bytes (λ all. IsCause fault.Memory digest (verdict r digest all)) (λ all. tt);
    unwritten = tt;
    meanwhile = told_all (trace disk).bytes (λ all. LeavesOnly trace disk disk (MayStand r digest all (verdict r digest all) (trace disk).may_leave))
        (λ all. still trace r digest all (verdict r digest all) (Some all) disk disk only refl);
    failed = λ is. absurd (cc is);
    told = refl;
    count = omega arith;
  }

  -- where memory ran out after the opening, the disk is as the opening left it
  pub left_opened : (r : Rollout) (old new : D) → IsOpenedOn trace r digest old new → IsLeft trace r digest old fault.Memory new
  left_opened r old new opened = record {
    refusal = told_all (trace old).bytes (λ all. IsCause fault.Memory digest (verdict r digest all)) (λ all. tt);
    unwritten = tt;
    meanwhile = opened.meanwhile;
    failed = λ is. absurd (cc is);
    told = opened.told;
    count = opened.count;
  }

  -- what holds of the disk of a journal holds of the one that it gives back
  pub opened_at : (r : Rollout) (old new back : D) → back ≡ new → IsOpenedOn trace r digest old new → IsOpenedOn trace r digest old back
  opened_at r old new back is opened = subst (λ (d : D). IsOpenedOn trace r digest old d) (sym is) opened
