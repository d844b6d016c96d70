use Rattle.std.proofs.Common.{rules, ◌≡◌, ◌*◌, inr, length, List, ℕ, Some, refl, sym, ap, ◌∙◌, arith}
use Rattle.dependency_graph.specs.Graph.{Followed, op_total}
use Rattle.wan_edge.specs.Streams.{Rose}
use Rattle.intent_journal.specs.declared.fault.JournalFault.TheVariants as fault
use Rattle.intent_journal.specs.Judging.{LeavesGraphOf}
use Rattle.intent_journal.specs.Phases.{IsFound, Planned, kept_of}
use Rattle.intent_journal.specs.Recovered.{IsCause, OnRefusal}
use Rattle.intent_journal.specs.Verdicts.{judged_journal}
use Rattle.intent_journal.proofs.LeftGraphs.{along_judged, leaves_memory}
use Rattle.intent_journal.proofs.Recoveries.{brought, cause_of, end_small, given_err, holds_of, kept_is, keeps_now, never_disk, no_refusal, not_refused, other_small, refused, rewritten, room_now, still}
use Rattle.intent_journal.proofs.Rows.{length-entry_rows}
use Rattle.intent_journal.proofs.recovering.go_on.Goals as goal

pub renew-requires-clause-found : goal.renew-requires-clause-found
renew-requires-clause-found g c =
    holds_of (IsFound c.in_ok-judged.judged.found) (g.D.Disk.told c.args.disk.now).bytes (g.D.Disk.told c.args.disk.now).may_leave c.args.image.now c.requires.image c.in_ok-judged.ensures.ok.found

pub renew-requires-clause-small : goal.renew-requires-clause-small
renew-requires-clause-small g c = end_small c.in_ok-judged.judged.found c.args.image.now c.in_ok-judged.ensures.ok.found (omega arith)

pub renew-requires-clause-side : goal.renew-requires-clause-side
renew-requires-clause-side g c = other_small c.in_ok-judged.judged.found c.args.image.now c.in_ok-judged.ensures.ok.found

pub returns-in_err-judged-clause-any_moment : goal.returns-in_err-judged-clause-any_moment
returns-in_err-judged-clause-any_moment g c =
    still g.D.Disk.told c.args.graph.now.rollout c.args.digest.now c.args.image.now (judged_journal c.args.graph.now.rollout c.args.digest.now c.args.image.now)
    (g.D.Disk.told c.args.disk.now).bytes c.args.disk.now c.args.disk.now (g.met.D.Disk.only_now c.args.disk.now) refl

pub returns-in_err-judged-clause-refusal : goal.returns-in_err-judged-clause-refusal
returns-in_err-judged-clause-refusal g c =
    let fact : IsCause c.in_err-judged.field-0.0 c.args.digest.now (judged_journal c.args.graph.now.rollout c.args.digest.now c.args.image.now) = cause_of _ _ _ c.in_err-judged.ensures.err in
    search (rules, fact)

pub returns-in_err-judged-clause-cause : goal.returns-in_err-judged-clause-cause
returns-in_err-judged-clause-cause g c =
    let fact : c.in_err-judged.field-0.0 ≡ fault.Disk → Rose (g.D.Disk.told c.args.disk.now).faults (g.D.Disk.told c.args.disk.now).faults = never_disk _ _ _ _ c.in_err-judged.ensures.err in
    search (rules, fact)

pub returns-in_err-judged-clause-unwritten : goal.returns-in_err-judged-clause-unwritten
returns-in_err-judged-clause-unwritten g c =
    let fact : OnRefusal c.in_err-judged.field-0.0 (c.args.disk.now ≡ c.args.disk.now) = refused _ _ refl in
    search (rules, fact)

pub returns-then-judged-gt-LATEST_START-clause-any_moment : goal.returns-then-judged-gt-LATEST_START-clause-any_moment
returns-then-judged-gt-LATEST_START-clause-any_moment g c =
    still g.D.Disk.told c.args.graph.now.rollout c.args.digest.now c.args.image.now (judged_journal c.args.graph.now.rollout c.args.digest.now c.args.image.now)
    (g.D.Disk.told c.args.disk.now).bytes c.args.disk.now c.args.disk.now (g.met.D.Disk.only_now c.args.disk.now) refl

pub returns-in_err-prepared-clause-any_moment : goal.returns-in_err-prepared-clause-any_moment
returns-in_err-prepared-clause-any_moment g c =
    still g.D.Disk.told c.args.graph.now.rollout c.args.digest.now c.args.image.now (judged_journal c.args.graph.now.rollout c.args.digest.now c.args.image.now)
    (g.D.Disk.told c.args.disk.now).bytes c.args.disk.now c.args.disk.now (g.met.D.Disk.only_now c.args.disk.now) refl

pub returns-in_err-prepared-clause-refusal : goal.returns-in_err-prepared-clause-refusal
returns-in_err-prepared-clause-refusal g c =
    let v = judged_journal c.args.graph.now.rollout c.args.digest.now c.args.image.now in
    let fact = no_refusal c.in_err-prepared.field-0.0 c.args.digest.now v (inr c.in_err-prepared.ensures.err) in
    given_err c.from_residual-in_err-prepared.result c.in_err-prepared.field-0.0 (λ fault. IsCause fault c.args.digest.now v) c.from_residual-in_err-prepared.ensures.1 fact

pub returns-in_err-prepared-clause-unwritten : goal.returns-in_err-prepared-clause-unwritten
returns-in_err-prepared-clause-unwritten g c =
    let fact : OnRefusal c.in_err-prepared.field-0.0 (c.args.disk.now ≡ c.args.disk.now) = not_refused _ _ (inr c.in_err-prepared.ensures.err) in
    search (rules, fact)

pub returns-in_err-rest-clause-cause : goal.returns-in_err-rest-clause-cause
returns-in_err-rest-clause-cause g c =
    let fact : Rose (g.D.Disk.told c.args.disk.now).faults (g.D.Disk.told c.renew.new.disk).faults = c.in_err-rest.ensures.cause in
    search (rules, fact)

pub returns-in_err-rest-clause-any_moment : goal.returns-in_err-rest-clause-any_moment
returns-in_err-rest-clause-any_moment g c =
    let start = c.in_ok-judged.judged.start.items in
    let list = c.in_ok-judged.judged.list in
    let digest = c.args.digest.now in
    let kept : c.in_ok-prepared.prepared.part.kept ≡ kept_of digest start list =
    ap (λ (p : Planned). p.kept) c.in_ok-prepared.ensures.part ∙ ap (λ (s : List ℕ). kept_of digest s c.as_slice.result.now) c.deref.ensures.value ∙ ap (kept_of digest start) c.as_slice.ensures in
    rewritten g.D.Disk.told c.args.graph.now.rollout digest c.args.image.now (judged_journal c.args.graph.now.rollout digest c.args.image.now)
    (g.D.Disk.told c.args.disk.now).bytes c.args.disk.now c.renew.new.disk start list c.in_ok-prepared.prepared.part.kept c.requires.image c.in_ok-judged.ensures.ok.stands kept c.renew.ensures.any_moment

pub returns-clause-any_moment : goal.returns-clause-any_moment
returns-clause-any_moment g c =
    let start = c.in_ok-judged.judged.start.items in
    let list = c.in_ok-judged.judged.list in
    let digest = c.args.digest.now in
    let kept : c.in_ok-prepared.prepared.part.kept ≡ kept_of digest start list =
    ap (λ (p : Planned). p.kept) c.in_ok-prepared.ensures.part ∙ ap (λ (s : List ℕ). kept_of digest s c.as_slice.result.now) c.deref.ensures.value ∙ ap (kept_of digest start) c.as_slice.ensures in
    rewritten g.D.Disk.told c.args.graph.now.rollout digest c.args.image.now (judged_journal c.args.graph.now.rollout digest c.args.image.now)
    (g.D.Disk.told c.args.disk.now).bytes c.args.disk.now c.renew.new.disk start list c.in_ok-prepared.prepared.part.kept c.requires.image c.in_ok-judged.ensures.ok.stands kept c.renew.ensures.any_moment

pub returns-clause-most : goal.returns-clause-most
returns-clause-most g c = c.in_ok-prepared.ensures.most ∙ ap (λ (f : Followed). 2 * op_total f.rollout) c.in_ok-judged.ensures.ok.graph

pub returns-clause-ok : goal.returns-clause-ok
returns-clause-ok g c =
    let judged = c.in_ok-judged.ensures.ok in
    let r = c.args.graph.now.rollout in
    let digest = c.args.digest.now in
    let v = judged_journal r digest c.args.image.now in
    let start = c.in_ok-judged.judged.start.items in
    let list = c.in_ok-judged.judged.list in
    let part = c.in_ok-prepared.prepared.part in
    let planned = c.in_ok-prepared.ensures.part in
    let done = c.in_ok-rest.ensures.done in
    let long : length c.as_slice.result.now ≡ length list = ap length c.as_slice.ensures in
    let kept : part.kept ≡ kept_of digest start list =
    ap (λ (p : Planned). p.kept) planned ∙ ap (λ (s : List ℕ). kept_of digest s c.as_slice.result.now) c.deref.ensures.value ∙ ap (kept_of digest start) c.as_slice.ensures in
    record {
      brought = brought r digest v start list judged.stands c.args.graph.now c.judge.new.graph judged.graph;
      at_rest = done.kept;
      room =
          room_now _ _ (op_total c.judge.new.graph.rollout) _ _ (length c.deref.result.now) (length list) part _ _ done (ap (λ (p : Planned). p.size) planned) (ap (λ (p : Planned). length p.kept.starts) planned)
          (ap (λ (p : Planned). length p.kept.rows) planned ∙ length-entry_rows c.as_slice.result.now ∙ long) c.in_ok-prepared.ensures.most c.in_ok-prepared.ensures.small (omega (arith, c.in_ok-prepared.ensures.fits, long))
          c.in_ok-prepared.ensures.room;
      keeps = keeps_now _ _ part _ _ _ (kept_is r digest v start list judged.stands ∙ ap Some (sym kept)) done;
    }

pub returns-in_err-judged-clause-graph : goal.returns-in_err-judged-clause-graph
returns-in_err-judged-clause-graph g c =
    let fact : LeavesGraphOf c.args.image.now c.in_err-judged.field-0.0 c.args.graph.now c.judge.new.graph = c.in_err-judged.ensures.left in
    search (rules, fact)

pub returns-then-judged-gt-LATEST_START-clause-graph : goal.returns-then-judged-gt-LATEST_START-clause-graph
returns-then-judged-gt-LATEST_START-clause-graph g c =
    along_judged c.args.digest.now c.args.image.now c.in_ok-judged.judged.start.items c.in_ok-judged.judged.list c.args.graph.now c.judge.new.graph c.in_ok-judged.ensures.ok.stands c.in_ok-judged.ensures.ok.graph

pub returns-in_err-prepared-clause-graph : goal.returns-in_err-prepared-clause-graph
returns-in_err-prepared-clause-graph g c =
    let along = along_judged c.args.digest.now c.args.image.now c.in_ok-judged.judged.start.items c.in_ok-judged.judged.list c.args.graph.now c.judge.new.graph c.in_ok-judged.ensures.ok.stands c.in_ok-judged.ensures.ok.graph in
    given_err c.from_residual-in_err-prepared.result c.in_err-prepared.field-0.0 (λ fault. LeavesGraphOf c.args.image.now fault c.args.graph.now c.judge.new.graph) c.from_residual-in_err-prepared.ensures.1
    (leaves_memory _ _ c.args.graph.now c.judge.new.graph c.in_err-prepared.field-0.0 c.in_err-prepared.ensures.err along)

pub returns-in_err-rest-clause-graph : goal.returns-in_err-rest-clause-graph
returns-in_err-rest-clause-graph g c =
    let along = along_judged c.args.digest.now c.args.image.now c.in_ok-judged.judged.start.items c.in_ok-judged.judged.list c.args.graph.now c.judge.new.graph c.in_ok-judged.ensures.ok.stands c.in_ok-judged.ensures.ok.graph in
    given_err c.from_residual-in_err-rest.result fault.Disk (λ given. LeavesGraphOf c.args.image.now given c.args.graph.now c.judge.new.graph) c.from_residual-in_err-rest.ensures.1 along
