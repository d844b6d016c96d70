-- The book of a controller: its journal stays its own, and a start finds its history again.
use Rattle.std.proofs.Common.{◌≡◌, ℕ, Bool, true, false, if◌then◌else◌, nat_le, nat_lt, List, [], ◌∷◌, ◌++◌, length, All, Option, Some, None, IfSome, Result, Ok, Err, IfErr, OnOk, inl, refl, sym, ap, ap₂, ◌∙◌, subst, lt-ltb, le-leb}
use Rattle.std.proofs.lemmas.List.Elements.{All-head, All-tail}
use Rattle.lists.proofs.Conditions.{some_same_is}
use Rattle.rollout_rules.specs.Wan.{Rollout}
use Rattle.rollout_rules.specs.Items.{item_count}
use Rattle.rollout_rules.specs.History.{History, begun, from_nothing, no_start}
use Rattle.rollout_rules.specs.declared.op.Entry.{Entry}
use Rattle.rollout_rules.specs.declared.op.Op.{Op}
use Rattle.rollout_rules.specs.declared.op.OpView.{OpView}
use Rattle.wan_edge.specs.Frames.{Answer}
use Rattle.dependency_graph.specs.Graph.{Followed}
use Rattle.disk_model.specs.Memory.{MayLeave, Storing, trace_of}
use Rattle.disk_model.specs.Moments.{LeavesOnly}
use Rattle.intent_journal.specs.Images.{journal_in}
use Rattle.intent_journal.specs.Parts.{Kept}
use Rattle.intent_journal.specs.Phases.{kept_of}
use Rattle.intent_journal.specs.Recovered.{IsBroughtTo, IsCause, KeepsNow, kept_for}
use Rattle.intent_journal.specs.Verdicts.{Fresh, NoJournal, NoStart, NotLegal, OfAnother, Stands, Verdict, verdict}
use Rattle.intent_journal.specs.Entries.{entry_rows}
use Rattle.intent_journal.specs.declared.digest.Digest.{Digest}
use Rattle.intent_journal.specs.declared.fault.JournalFault.{JournalFault}
use Rattle.intent_journal.specs.declared.fault.JournalFault.TheVariants.{BadStart, Illegal, Memory, NotJournal, OtherPlan}
use Rattle.intent_journal.specs.declared.fault.JournalFault.TheVariants as journal
use Rattle.rollout_rules.specs.Legal.{is_legal}
use Rattle.rollout_rules.proofs.Rows.{list_below-length}
use Rattle.rollout_book.specs.JournaledRounds.{Journaled, graph_of, with_batch, with_lost}
use Rattle.rollout_book.specs.Aliens.{IsFault, OnAlien, OnDisk, fault_of, first_alien, is_known, op_of, told_by}
use Rattle.rollout_book.specs.declared.fault.BookFault.{BookFault}
use Rattle.rollout_book.specs.declared.fault.BookFault.TheVariants.{Alien, Disk}
use Rattle.rollout_book.specs.Lists.{HasOwner, IsKeptList, KeepsOwner}
use Rattle.intent_journal.specs.Openings.{unbegun}
use Rattle.sim_run.specs.Booked.{IsAgain, IsOpened, IsOpenedOver, IsOwn, IsOwnBook, IsSeat, IsWant, Opens, keeping_of, graph_in, lives, own_digest}
use Rattle.sim_run.specs.Controlling.{after_round, controlling_of}
use Rattle.sim_run.specs.Keeping.{Keeping, MayTell, batch_over, graph_with, with_round}

-- what holds of a result that is this one
pub ok-fact : {A E : Type 0} (result : Result A E) (a : A) (P : Type 0) → result ≡ Ok a → OnOk result P → P
ok-fact result a P is holds = subst (λ r. OnOk r P) is holds

pub err-value : {A E : Type 0} (result : Result A E) (e : E) (P : E → Type 0) → result ≡ Err e → IfErr result P → P e
err-value result e P is holds = subst (λ r. IfErr r P) is holds

-- what was opened or made for this digest is its own
module _ (image : List ℕ) (left : List ℕ → Type 0) where
  own-kept : (start : List ℕ) (entries : List Entry) → KeepsNow (Some (kept_of own_digest start entries)) (Some image) left → IsOwn image
  own-kept start entries keeps =
      let here : image ≡ keeps.now = some_same_is image keeps.now keeps.is_told in
      record {
        kept = kept_of own_digest start entries;
        is = ap journal_in here ∙ keeps.fresh.keeps ∙ sym keeps.is_kept;
        digest = refl;
        migration = refl;
      }

  never : KeepsNow None (Some image) left → ⊥
  never keeps = cc keeps.is_kept

  pub own-opened : (r : Rollout) (v : Verdict) → KeepsNow (kept_for r own_digest v) (Some image) left → IsOwn image
  own-opened r Fresh keeps = own-kept (no_start r.problem) [] keeps
  own-opened r (Stands start entries) keeps = own-kept start entries keeps
  own-opened r (NoJournal first) keeps = absurd (never keeps)
  own-opened r (OfAnother bytes migration) keeps = absurd (never keeps)
  own-opened r NoStart keeps = absurd (never keeps)
  own-opened r (NotLegal place) keeps = absurd (never keeps)

-- an image that keeps the owner of one that is its own
own-of : (told : Option Kept) (kept : Kept) (image : List ℕ) → told ≡ Some kept → kept.digest ≡ own_digest.bytes → kept.migration ≡ own_digest.migration → IfSome told (λ k. HasOwner k image) → IsOwn image
own-of None kept image is digest migration has = absurd (cc is)
own-of (Some k) kept image is digest migration has =
    let same : k ≡ kept = some_same_is k kept is in
    record {
      kept = has.now;
      is = has.is;
      digest = has.digest ∙ ap (λ (k : Kept). k.digest) same ∙ digest;
      migration = has.migration ∙ ap (λ (k : Kept). k.migration) same ∙ migration;
    }

-- after a round the journal is still its own
pub own-still : (old new : Storing) → LeavesOnly trace_of old new (KeepsOwner old.timeline.medium.bytes)
    → IsOwn old.timeline.medium.bytes → IsOwn new.timeline.medium.bytes
own-still old new run own =
    own-of (journal_in old.timeline.medium.bytes) own.kept new.timeline.medium.bytes own.is own.digest own.migration
    (run.each new.timeline.medium.bytes (inl (inl refl)))

-- where an image is judged to stand with a history, the graph that is brought to it has this history
pub brought-again : (v : Verdict) (r : Rollout) (h : History) (g again : Followed) (list : List Entry) → v ≡ Stands h.start h.entries → g.rollout ≡ r → IsBroughtTo v list g again → again ≡ record { rollout = r; history = h }
brought-again v r h g again list stands rolls brought =
    let is : IsBroughtTo (Stands h.start h.entries) list g again = subst (λ w. IsBroughtTo w list g again) stands brought in
    is.1 ∙ ap (λ o. record { rollout = o; history = h }) rolls

-- the start at which nothing is settled has a number for each item
pub numbered : (r : Rollout) (start : List ℕ) → start ≡ no_start r.problem → length start ≡ item_count r.problem
numbered r start is = ap length is ∙ list_below-length (item_count r.problem) (λ n. 0)

-- the law on a list that is found again
abbrev pub IsFoundAgain : List Entry → Type 0
IsFoundAgain list =
    (r : Rollout) (digest : Digest) (kept : Kept) (image start : List ℕ) → length start ≡ item_count r.problem → is_legal r.problem r.plan (record { start = start; entries = list }) ≡ true
    → journal_in image ≡ Some kept → kept.digest ≡ digest.bytes → kept.migration ≡ digest.migration → kept.starts ≡ start → kept.rows ≡ entry_rows list → verdict r digest image ≡ Stands start list

-- gives the history of a book whose journal is its own
pub found-again : (b : Journaled Storing) (list : List Entry) → IsOwnBook b → b.entries ≡ b.history.entries → list ≡ b.entries → is_legal b.rollout.problem b.rollout.plan b.history ≡ true
    → IsKeptList b.history.start b.entries (MayLeave b.disk.timeline.medium) b.disk.timeline.medium.bytes → IsFoundAgain list
    → (image : List ℕ) → MayLeave b.disk.timeline.medium image → verdict b.rollout own_digest image ≡ Stands b.history.start b.history.entries
found-again b list own same listed legal kept law image left =
    let bytes = b.disk.timeline.medium.bytes in
    let here : image ≡ bytes = kept.only image left in
    let one : kept.has.kept ≡ own.own.kept = some_same_is kept.has.kept own.own.kept (sym kept.has.is ∙ own.own.is) in
    let all : list ≡ b.history.entries = listed ∙ same in
    law b.rollout own_digest kept.has.kept image b.history.start
    (numbered b.rollout b.history.start own.start)
    (ap (λ (es : List Entry). is_legal b.rollout.problem b.rollout.plan (record { start = b.history.start; entries = es })) all ∙ legal)
    (ap journal_in here ∙ kept.has.is)
    (ap (λ (k : Kept). k.digest) one ∙ own.own.digest)
    (ap (λ (k : Kept). k.migration) one ∙ own.own.migration)
    kept.has.starts
    (kept.has.rows ∙ ap entry_rows (sym listed))
    ∙ ap (Stands b.history.start) all

-- on a disk of one byte 0 a journal is made
pub first-fresh : (r : Rollout) (bytes : List ℕ) → bytes ≡ 0 ∷ [] → verdict r own_digest bytes ≡ Fresh
first-fresh r bytes is = ap (verdict r own_digest) is

-- of a graph without entries
pub brought-first : (v : Verdict) (g again : Followed) (list : List Entry) → v ≡ Fresh → IsBroughtTo v list g again → again ≡ g
brought-first v g again list fresh brought =
    let is : IsBroughtTo Fresh list g again = subst (λ w. IsBroughtTo w list g again) fresh brought in
    is.1

-- a book after an opening is a controller's, where its graph has a history from nothing
pub own-book : (b : Journaled Storing) (r : Rollout) (h : History) → b.live ≡ true → IsOwn b.disk.timeline.medium.bytes → graph_of b ≡ record { rollout = r; history = h } → h.start ≡ no_start r.problem → IsOwnBook b
own-book b r h live own is start = record {
  live = live;
  start = ap (λ (g : Followed). g.history.start) is ∙ start ∙ ap (λ (g : Followed). no_start g.rollout.problem) (sym is);
  own = own;
}

-- the first opening of a plan's book, over one byte 0
pub first-opened : (r : Rollout) (image : List ℕ) (b : Journaled Storing) → image ≡ 0 ∷ [] → IsOpened r image b → IsOwnBook b × (graph_of b ≡ unbegun r)
first-opened r image b is opened =
    let same = brought-first (verdict r own_digest image) (unbegun r) (graph_of b) b.entries (first-fresh r image is) opened.brought in
    (own-book b r (from_nothing r.problem []) opened.live opened.own same refl, same)

-- a start makes the book again
pub opened-again : (b : Journaled Storing) (g : Followed) (d : Storing) (again : Journaled Storing) → IsOwnBook b → g ≡ graph_of b → d ≡ b.disk
    → ((image : List ℕ) → MayLeave b.disk.timeline.medium image → verdict b.rollout own_digest image ≡ Stands b.history.start b.history.entries)
    → IsOpenedOver g.rollout d.timeline.medium again → IsAgain b again
opened-again b g d again own is disk found over =
    let rolls : g.rollout ≡ b.rollout = ap (λ (x : Followed). x.rollout) is in
    let stands = ap (λ (r : Rollout). verdict r own_digest over.image) rolls ∙ found over.image (subst (λ (x : Storing). MayLeave x.timeline.medium over.image) disk over.left) in
    let same = brought-again (verdict g.rollout own_digest over.image) b.rollout b.history (unbegun g.rollout) (graph_of again) again.entries stands rolls over.opened.brought in
    record {
      own = own-book again b.rollout b.history over.opened.live over.opened.own same own.start;
      same = same;
      found = over.opened.found ∙ ap (λ (x : Followed). length x.history.entries) same;
    }

-- a book after a round is still a controller's
pub own-behind : (old new : Journaled Storing) (es : List Entry) → IsOwnBook old → new ≡ with_batch old es new.disk
    → LeavesOnly trace_of old.disk new.disk (KeepsOwner old.disk.timeline.medium.bytes) → IsOwnBook new
own-behind old new es own is run = record {
  live = ap (λ (b : Journaled Storing). b.live) is ∙ own.live;
  start = ap (λ (b : Journaled Storing). b.history.start) is ∙ own.start ∙ ap (λ (b : Journaled Storing). no_start b.rollout.problem) (sym is);
  own = own-still old.disk new.disk run own.own;
}

-- a round that wasn't made leaves the book as it was, or dead
pub own-refused : (fault : BookFault) (old new : Journaled Storing) (es : List Entry) → IsOwnBook old → OnAlien fault (new ≡ old) → OnDisk fault (new ≡ with_lost old es new.disk) → new.live ≡ true → IsOwnBook new
own-refused (Alien item held begun) old new es own same lost live = subst IsOwnBook (sym same) own
own-refused Disk old new es own same lost live = absurd (cc (sym live ∙ ap (λ (b : Journaled Storing). b.live) lost))

pub dead-refused : (fault : BookFault) (old new : Journaled Storing) (es : List Entry) → fault ≡ Disk → OnDisk fault (new ≡ with_lost old es new.disk) → new.live ≡ false
dead-refused fault old new es is lost =
    let here : new ≡ with_lost old es new.disk = subst (λ (f : BookFault). OnDisk f (new ≡ with_lost old es new.disk)) is lost in
    ap (λ (b : Journaled Storing). b.live) here

-- where every answer tells of what was begun none is alien, so a round is refused by the disk alone
known : (g : Followed) (answer : Answer) → MayTell g (op_of answer) → is_known g answer ≡ true
known g answer may =
    let there : nat_lt answer.item (item_count g.rollout.problem) ≡ true = lt-ltb answer.item (item_count g.rollout.problem) may.item in
    let within : nat_le answer.held (begun g.history answer.item) ≡ true = le-leb answer.held (begun g.history answer.item) may.number in
    rw (there, within) refl

none-alien : (g : Followed) (answers : List Answer) → All (MayTell g) (told_by answers) → first_alien g answers ≡ None
none-alien g [] all = refl
none-alien g (answer ∷ later) all =
    let here : is_known g answer ≡ true = known g answer (All-head (MayTell g) (op_of answer) (told_by later) all) in
    ap (λ b. if b then first_alien g later else fault_of g answer) here ∙ none-alien g later (All-tail (MayTell g) (op_of answer) (told_by later) all)

pub is-disk : (fault : BookFault) (g : Followed) (answers : List Answer) → IsFault fault (first_alien g answers) → All (MayTell g) (told_by answers) → fault ≡ Disk
is-disk (Alien item held begun) g answers is all = absurd (cc (sym is ∙ none-alien g answers all))
is-disk Disk g answers is all = refl

-- an opening that isn't refused fails for lack of memory alone
pub is-want : (cause : JournalFault) (digest : Digest) (v : Verdict) → IsCause cause digest v → Opens v → IsWant cause
is-want journal.Disk digest v is opens = tt
is-want Memory digest v is opens = tt
is-want (NotJournal first) digest v is opens = subst Opens is opens
is-want (OtherPlan kept wanted) digest v is opens = subst Opens is.0 opens
is-want BadStart digest v is opens = subst Opens is opens
is-want (Illegal place) digest v is opens = subst Opens is opens

-- the first opening isn't refused, nor is the next one
pub opens-first : (r : Rollout) (bytes : List ℕ) → bytes ≡ 0 ∷ [] → Opens (verdict r own_digest bytes)
opens-first r bytes is = subst Opens (sym (first-fresh r bytes is)) tt

pub opens-again : (b : Journaled Storing) (g : Followed) (d : Storing) → g ≡ graph_of b → d ≡ b.disk
    → ((image : List ℕ) → MayLeave b.disk.timeline.medium image → verdict b.rollout own_digest image ≡ Stands b.history.start b.history.entries)
    → (image : List ℕ) → MayLeave d.timeline.medium image → Opens (verdict g.rollout own_digest image)
opens-again b g d is disk found image left =
    let stands = ap (λ (x : Followed). verdict x.rollout own_digest image) is ∙ found image (subst (λ (x : Storing). MayLeave x.timeline.medium image) disk left) in
    subst Opens (sym stands) tt

-- ---- the book on its seat
pub seat-own : (s : Option (Journaled Storing)) (b : Journaled Storing) → s ≡ Some b → IsSeat s → lives s ≡ true → IsOwnBook b
seat-own s b is own live =
    let here : b.live ≡ true → IsOwnBook b = subst IsSeat is own in
    here (subst (λ (t : Option (Journaled Storing)). lives t ≡ true) is live)

-- a seat whose book was brought up again keeps what it kept
pub seat-kept : (old new : Option (Journaled Storing)) (k : Keeping) → keeping_of old ≡ k → graph_in new ≡ graph_in old → lives new ≡ true → k.live ≡ true → keeping_of new ≡ k
seat-kept old new k seen same lived live =
    ap₂ (λ (g : Followed) (l : Bool). record { graph = g; live = l }) same (lived ∙ sym live ∙ sym (ap (λ (x : Keeping). x.live) seen)) ∙ seen

-- and after a round, what a round makes
pub seat-rounded : (old new : Option (Journaled Storing)) (k : Keeping) (policy : OpView → ℕ) (answers : List Answer) → keeping_of old ≡ k → graph_in new ≡ graph_with (graph_in old) (batch_over (graph_in old) policy answers) → lives new ≡ true → k.live ≡ true
    → keeping_of new ≡ with_round k policy answers
seat-rounded old new k policy answers seen made lived live =
    ap₂ (λ (g : Followed) (l : Bool). record { graph = g; live = l }) made (lived ∙ sym live)
    ∙ ap (λ (x : Keeping). record { graph = graph_with x.graph (batch_over x.graph policy answers); live = k.live }) seen

-- so of a start, and of a round, where each comes to its end
pub seat-starts : {T E : Type 0} (result : Result T E) (old new : Option (Journaled Storing)) (k : Keeping) → keeping_of old ≡ k → k.live ≡ true → OnOk result (graph_in new ≡ graph_in old) → OnOk result (lives new ≡ true) → OnOk result (keeping_of new ≡ k)
seat-starts (Ok found) old new k seen live same lived = seat-kept old new k seen same lived live
seat-starts (Err error) old new k seen live same lived = tt

pub seat-rounds : {T E : Type 0} (result : Result T E) (old new : Option (Journaled Storing)) (k : Keeping) (policy : OpView → ℕ) (answers : List Answer) → keeping_of old ≡ k → k.live ≡ true
    → OnOk result (graph_in new ≡ graph_with (graph_in old) (batch_over (graph_in old) policy answers)) → OnOk result (lives new ≡ true) → OnOk result (keeping_of new ≡ with_round k policy answers)
seat-rounds (Ok turn) old new k policy answers seen live made lived = seat-rounded old new k policy answers seen made lived live
seat-rounds (Err error) old new k policy answers seen live made lived = tt

-- a round of a controller is that of its rounds
pub rounded-is : (old new : Keeping) (earlier earlier' : List Op) (answers slice answers' : List Answer) (up : Bool) (policy : OpView → ℕ) → new ≡ with_round old policy slice → slice ≡ answers
    → earlier' ≡ earlier ++ told_by answers → answers' ≡ [] → controlling_of new earlier' answers' up ≡ after_round (controlling_of old earlier answers up) policy
rounded-is old new earlier earlier' answers slice answers' up policy made listed heard none =
    ap (λ (k : Keeping). controlling_of k earlier' answers' up) (made ∙ ap (with_round old policy) listed)
    ∙ ap₂ (λ (e : List Op) (l : List Answer). controlling_of (with_round old policy answers) e l up) heard none
