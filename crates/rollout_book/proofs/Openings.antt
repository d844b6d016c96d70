-- What an opening finds is the list of the journal, and the book is the one of it.
use Rattle.std.proofs.Common.{◌≡◌, ℕ, List, [], Option, Some, None, IfSome, Result, Ok, Err, IfErr, IfOk, sym, subst, ap, ◌∙◌}
use Rattle.lists.proofs.Conditions.{some_same_is}
use Rattle.rollout_rules.specs.Wan.{Rollout}
use Rattle.rollout_rules.specs.History.{History, from_nothing, no_start}
use Rattle.rollout_rules.specs.declared.op.Entry.{Entry}
use Rattle.intent_journal.specs.declared.digest.Digest.{Digest}
use Rattle.intent_journal.specs.Entries.{entry_rows}
use Rattle.intent_journal.specs.Phases.{kept_of}
use Rattle.intent_journal.specs.Openings.{found_by}
use Rattle.intent_journal.specs.Recovered.{KeepsNow, kept_for}
use Rattle.intent_journal.specs.Verdicts.{Fresh, NoJournal, NoStart, NotLegal, OfAnother, Stands, Verdict, verdict}
use Rattle.intent_journal.proofs.Openings.{none_some}
use Rattle.wan_edge.specs.Streams.{KeepsTelling}
use Rattle.rollout_book.specs.Lists.{IsKeptList}

-- a disk that told nothing tells nothing
untold : (told : Option (List ℕ)) (P : List ℕ → Type 0) → KeepsTelling None told → IfSome told P
untold None P tells = tt
untold (Some now) P tells = absurd (cc tells)

module _ (r : Rollout) (digest : Digest) (list : List Entry) (h : History) (entries : list ≡ h.entries) (told : Option (List ℕ)) (left : List ℕ → Type 0) where
  kept-by : (v : Verdict) → found_by r v ≡ Some h → (keeps : KeepsNow (kept_for r digest v) told left) → IsKeptList h.start list left keeps.now
  kept-by Fresh is keeps =
      let history = some_same_is (from_nothing r.problem []) h is in
      record {
        only = keeps.durable;
        has = record {
          kept = kept_of digest (no_start r.problem) [];
          is = keeps.fresh.keeps ∙ sym keeps.is_kept;
          starts = ap (λ (x : History). x.start) history;
          rows = ap entry_rows (ap (λ (x : History). x.entries) history ∙ sym entries);
        };
      }
  kept-by (Stands start list_is) is keeps =
      let history = some_same_is (record { start = start; entries = list_is }) h is in
      record {
        only = keeps.durable;
        has = record {
          kept = kept_of digest start list_is;
          is = keeps.fresh.keeps ∙ sym keeps.is_kept;
          starts = ap (λ (x : History). x.start) history;
          rows = ap entry_rows (ap (λ (x : History). x.entries) history ∙ sym entries);
        };
      }
  kept-by (NoJournal first) is keeps = absurd (none_some h is)
  kept-by (OfAnother bytes migration) is keeps = absurd (none_some h is)
  kept-by NoStart is keeps = absurd (none_some h is)
  kept-by (NotLegal place) is keeps = absurd (none_some h is)

  pub kept-found : (before : Option (List ℕ)) → KeepsTelling before told → IfSome before (λ image. found_by r (verdict r digest image) ≡ Some h)
      → IfSome before (λ image. KeepsNow (kept_for r digest (verdict r digest image)) told left) → IfSome told (IsKeptList h.start list left)
  kept-found (Some image) tells is keeps =
      subst (λ (t : Option (List ℕ)). IfSome t (IsKeptList h.start list left)) (sym keeps.is_told) (kept-by (verdict r digest image) is keeps)
  kept-found None tells is keeps = untold told (IsKeptList h.start list left) tells

-- what holds of a value holds of a result that is it
pub if-it : {A E : Type 0} (r : Result A E) (a : A) (P : A → Type 0) → IfOk r (λ b. b ≡ a) → P a → IfOk r P
if-it (Ok b) a P is holds = subst P (sym is) holds
if-it (Err e) a P is holds = tt

pub if-err : {A E : Type 0} (r : Result A E) (e : E) (P : E → Type 0) → IfErr r (λ b. b ≡ e) → P e → IfErr r P
if-err (Ok a) e P is holds = tt
if-err (Err b) e P is holds = subst P (sym is) holds
