use Rattle.std.proofs.Common.{◌≡◌, length, List, [], ℕ, Some, refl, sym, ap, ◌∙◌, arith}
use Rattle.rollout_rules.specs.Sums.{list_below}
use Rattle.rollout_rules.specs.Wan.{Rollout}
use Rattle.rollout_rules.specs.Items.{item_count}
use Rattle.rollout_rules.specs.History.{no_start}
use Rattle.dependency_graph.specs.Graph.{op_total}
use Rattle.intent_journal.specs.Phases.{IsBlankFound, Planned, kept_of}
use Rattle.intent_journal.specs.Verdicts.{Fresh}
use Rattle.intent_journal.proofs.Recoveries.{holds_of, keeps_now, made_run, room_now, still}
use Rattle.intent_journal.proofs.Rows.{length-entry_rows}
use Rattle.intent_journal.proofs.recovering.make_anew.Goals as goal

pub make-requires-clause-blank : goal.make-requires-clause-blank
make-requires-clause-blank g c =
    holds_of (IsBlankFound c.is_cleared.result) (g.D.Disk.told c.args.disk.now).bytes (g.D.Disk.told c.args.disk.now).may_leave c.args.image.now c.requires.image (c.requires.blank, sym c.is_cleared.ensures)

pub returns-in_err-start-clause-any_moment : goal.returns-in_err-start-clause-any_moment
returns-in_err-start-clause-any_moment g c =
    still g.D.Disk.told c.args.graph.now.rollout c.args.digest.now c.args.image.now Fresh
    (g.D.Disk.told c.args.disk.now).bytes c.args.disk.now _ (g.met.D.Disk.only_now c.args.disk.now) refl

pub returns-in_err-prepared-clause-any_moment : goal.returns-in_err-prepared-clause-any_moment
returns-in_err-prepared-clause-any_moment g c =
    still g.D.Disk.told c.args.graph.now.rollout c.args.digest.now c.args.image.now Fresh
    (g.D.Disk.told c.args.disk.now).bytes c.args.disk.now _ (g.met.D.Disk.only_now c.args.disk.now) refl

pub returns-in_err-rest-clause-any_moment : goal.returns-in_err-rest-clause-any_moment
returns-in_err-rest-clause-any_moment g c =
    let p = c.args.graph.now.rollout.problem in
    let digest = c.args.digest.now in
    let count : c.item_count.result ≡ item_count p = c.item_count.ensures ∙ ap item_count (c.problem.ensures ∙ ap (λ (r : Rollout). r.problem) c.plan.ensures) in
    let start : c.deref.result.now ≡ no_start p = c.deref.ensures.value ∙ c.in_ok-start.ensures ∙ ap (λ n. list_below n (λ k. 0)) count in
    let list : c.as_slice.result.now ≡ [] = c.as_slice.ensures ∙ c.new-list.ensures in
    let kept : c.in_ok-prepared.prepared.part.kept ≡ kept_of digest (no_start p) [] =
    ap (λ (p : Planned). p.kept) c.in_ok-prepared.ensures.part ∙ ap (λ (s : List ℕ). kept_of digest s c.as_slice.result.now) start ∙ ap (kept_of digest (no_start p)) list in
    made_run g.D.Disk.told c.args.graph.now.rollout digest c.args.image.now (g.D.Disk.told c.args.disk.now).bytes c.args.disk.now c.make.new.disk c.in_ok-prepared.prepared.part.kept
    c.requires.image kept c.make.ensures.any_moment

pub returns-clause-any_moment : goal.returns-clause-any_moment
returns-clause-any_moment g c =
    let p = c.args.graph.now.rollout.problem in
    let digest = c.args.digest.now in
    let count : c.item_count.result ≡ item_count p = c.item_count.ensures ∙ ap item_count (c.problem.ensures ∙ ap (λ (r : Rollout). r.problem) c.plan.ensures) in
    let start : c.deref.result.now ≡ no_start p = c.deref.ensures.value ∙ c.in_ok-start.ensures ∙ ap (λ n. list_below n (λ k. 0)) count in
    let list : c.as_slice.result.now ≡ [] = c.as_slice.ensures ∙ c.new-list.ensures in
    let kept : c.in_ok-prepared.prepared.part.kept ≡ kept_of digest (no_start p) [] =
    ap (λ (p : Planned). p.kept) c.in_ok-prepared.ensures.part ∙ ap (λ (s : List ℕ). kept_of digest s c.as_slice.result.now) start ∙ ap (kept_of digest (no_start p)) list in
    made_run g.D.Disk.told c.args.graph.now.rollout digest c.args.image.now (g.D.Disk.told c.args.disk.now).bytes c.args.disk.now c.make.new.disk c.in_ok-prepared.prepared.part.kept
    c.requires.image kept c.make.ensures.any_moment

pub returns-clause-ok : goal.returns-clause-ok
returns-clause-ok g c =
    let p = c.args.graph.now.rollout.problem in
    let digest = c.args.digest.now in
    let part = c.in_ok-prepared.prepared.part in
    let planned = c.in_ok-prepared.ensures.part in
    let done = c.in_ok-rest.ensures.done in
    let count : c.item_count.result ≡ item_count p = c.item_count.ensures ∙ ap item_count (c.problem.ensures ∙ ap (λ (r : Rollout). r.problem) c.plan.ensures) in
    let start : c.deref.result.now ≡ no_start p = c.deref.ensures.value ∙ c.in_ok-start.ensures ∙ ap (λ n. list_below n (λ k. 0)) count in
    let list : c.as_slice.result.now ≡ [] = c.as_slice.ensures ∙ c.new-list.ensures in
    let kept : part.kept ≡ kept_of digest (no_start p) [] =
    ap (λ (p : Planned). p.kept) planned ∙ ap (λ (s : List ℕ). kept_of digest s c.as_slice.result.now) start ∙ ap (kept_of digest (no_start p)) list in
    let none : length c.as_slice.result.now ≡ length c.new-list.result = ap length c.as_slice.ensures in
    record {
      brought = (c.new-list.ensures, refl);
      at_rest = done.kept;
      room =
          room_now _ _ (op_total c.args.graph.now.rollout) _ _ (length c.deref.result.now) (length c.new-list.result) part _ _ done (ap (λ (p : Planned). p.size) planned) (ap (λ (p : Planned). length p.kept.starts) planned)
          (ap (λ (p : Planned). length p.kept.rows) planned ∙ length-entry_rows c.as_slice.result.now ∙ none) c.in_ok-prepared.ensures.most c.in_ok-prepared.ensures.small (omega (arith, c.in_ok-prepared.ensures.fits, none))
          c.in_ok-prepared.ensures.room;
      keeps = keeps_now _ _ part _ _ _ (ap Some (sym kept)) done;
    }
