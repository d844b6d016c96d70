-- What a Done leaves waiting.
use Rattle.std.proofs.Common.{◌≡◌, ℕ, ◌+◌, ◌-◌, ◌<◌, Bool, true, false, not, ◌&&◌, ◌==◌, if◌then◌else◌, List, slice_index, nat_le, nat_lt, inl, inr, refl, sym, ap, ap₂, ◌∙◌, subst, arith}
use Rattle.std.proofs.lemmas.Bool.{cases_Bool, cases_eq, and_parts, and_left, both_ways, not-true, false_from_ne_true}
use Rattle.rollout_rules.specs.Wan.{Rollout, last_stage}
use Rattle.rollout_rules.specs.Network.{IsNetwork}
use Rattle.rollout_rules.specs.Items.{Resource, item_count, item_at, number_of, use_at, greater_rate, either_mark, step_maximum}
use Rattle.rollout_rules.specs.Operations.{stand_after}
use Rattle.rollout_rules.specs.History.{settled, flies, stand}
use Rattle.rollout_rules.specs.Room.{least_stage, room}
use Rattle.rollout_rules.specs.Legal.{is_legal}
use Rattle.rollout_rules.specs.Release.{next_op}
use Rattle.rollout_rules.proofs.Numbers.{is_item-item_at, number_of-item_at}
use Rattle.rollout_laws.proofs.Standing.{stand-most}
use Rattle.rollout_laws.proofs.Histories.{begun-done, settled-done_other}
use Rattle.dependency_graph.specs.Cells.{resource_count, resource_at, rises, has, TakesNothing, AreTouched}
use Rattle.dependency_graph.specs.Wakes.{Awake}
use Rattle.dependency_graph.specs.Graph.{Followed, count_of, places, has_next, are_needs_met, with_done}
use Rattle.dependency_graph.specs.Waiting.{Lacks, WaitsAt, AreWaiting, AreRelated, IsRoused, AreRoused}
use Rattle.dependency_graph.proofs.Changed.{place_in}
use Rattle.dependency_graph.proofs.Steps.{done-room}
use Rattle.dependency_graph.proofs.RoomCells.{at-resource, number-at}
use Rattle.dependency_graph.proofs.Graphs.{ends-next}
use Rattle.dependency_graph.proofs.Blocked.{needs-unrelated, waits-idle}

module _ (g : Followed) (i : ℕ) (net : IsNetwork g.rollout.problem) (legal : is_legal g.rollout.problem g.rollout.plan g.history ≡ true) (this : i < item_count g.rollout.problem) (flying : flies g.history i ≡ true) where
  -- an item that flies isn't kept at a resource
  flying-free : (q : ℕ) → Lacks g i q → ⊥
  flying-free q so = both_ways (flies g.history i) (not-true (flies g.history i) (and_parts (not (flies g.history i)) (nat_lt (settled g.history i) (count_of g.rollout i)) so.next).0) flying

  -- another item
  module _ (n : ℕ) (inside : n < item_count g.rollout.problem) (apart : n ≡ i → ⊥) where
    next-done : has_next (with_done g i) n ≡ has_next g n
    next-done =
        ap₂ (λ a b. not (a == b + 1) && nat_lt b (count_of g.rollout n))
        (begun-done g.history (next_op g.history i) n) (settled-done_other g.history (next_op g.history i) n (λ e. apart (sym e)))

    item-apart : item_at g.rollout.problem n ≡ item_at g.rollout.problem i → ⊥
    item-apart e = apart (sym (number_of-item_at g.rollout.problem n inside) ∙ ap (number_of g.rollout.problem) e ∙ number_of-item_at g.rollout.problem i this)

    needs-done : (AreRelated g.rollout.problem (item_at g.rollout.problem i) (item_at g.rollout.problem n) → ⊥) → are_needs_met (with_done g i) n ≡ are_needs_met g n
    needs-done alone =
        needs-unrelated g.rollout.problem g.rollout.plan net (places (with_done g i)) (places g) (item_at g.rollout.problem i)
        (λ k here other. sym ((ends-next g i this legal flying).others.settled k here other))
        (item_at g.rollout.problem n) (is_item-item_at g.rollout.problem n inside) item-apart alone

    stand-done : stand g.rollout.problem g.rollout.plan (places (with_done g i)) (item_at g.rollout.problem n) ≡ stand g.rollout.problem g.rollout.plan (places g) (item_at g.rollout.problem n)
    stand-done =
        ap (stand_after g.rollout.problem g.rollout.plan (item_at g.rollout.problem n))
        (sym ((ends-next g i this legal flying).others.settled (item_at g.rollout.problem n) (is_item-item_at g.rollout.problem n inside) item-apart))

    -- a Done takes nothing away of what its item doesn't take of
    room-done : (u : Resource) (s : ℕ) → s < last_stage g.rollout.plan → TakesNothing g.rollout.problem (item_at g.rollout.problem i) u → room g.rollout.problem g.rollout.plan (places (with_done g i)) s u ≡ room g.rollout.problem g.rollout.plan (places g) s u
    room-done u s lt none =
        let p = g.rollout.problem in
        let plan = g.rollout.plan in
        let k = item_at p i in
        let x = stand p plan (places g) k in
        let all : step_maximum p plan x k u ≡ 0 = none (greater_rate plan x) (λ t h. either_mark plan x t) in
        let falls-none : ◌≡◌ {A = ℕ} (if nat_le s x then step_maximum p plan x k u - use_at p plan (x + 1) k u else 0) 0 = nothing (nat_le s x) (step_maximum p plan x k u - use_at p plan (x + 1) k u) (omega (arith, all)) in
        omega (arith, done-room p plan (places g) (places (with_done g i)) k (is_item-item_at p i this) (ends-next g i this legal flying) s u lt, falls-none)
      where
        nothing : (b : Bool) (m : ℕ) → m ≡ 0 → ◌≡◌ {A = ℕ} (if b then m else 0) 0
        nothing true m e = e
        nothing false m e = refl

    lacks-done : (q : ℕ) → least_stage g.rollout.problem g.rollout.plan (places (with_done g i)) ≡ least_stage g.rollout.problem g.rollout.plan (places g) → TakesNothing g.rollout.problem (item_at g.rollout.problem i) (resource_at g.rollout.problem q) → Lacks g n q → Lacks (with_done g i) n q
    lacks-done q same none so = record {
      inside = so.inside;
      next = next-done ∙ so.next;
      stage = so.stage;
      low = omega (arith, same, so.low);
      before = omega (arith, stand-done, so.before);
      over = omega (
        arith,
        so.over,
        room-done (resource_at g.rollout.problem q) so.stage (omega (arith, so.before, stand-most g.rollout.problem g.rollout.plan (item_at g.rollout.problem n) ((places g).settled (item_at g.rollout.problem n)))) none,
        ap (λ x. rises g.rollout (item_at g.rollout.problem n) x q) stand-done,
      );
    }

  module _ (row : List ℕ) (rose : Bool) (old later : Awake) (so : AreWaiting g old) (touched : AreTouched g.rollout.problem (item_at g.rollout.problem i) row) (roused : AreRoused g.rollout.problem (with_done g i) i row rose old later)
      (still : rose ≡ false → least_stage g.rollout.problem g.rollout.plan (places (with_done g i)) ≡ least_stage g.rollout.problem g.rollout.plan (places g)) where
    -- what was kept at a resource and isn't woken is kept at none of the row, and the least stage is as it was
    kept-still : (n q : ℕ) → n < item_count g.rollout.problem → has later.row n ≡ false → slice_index later.lacks n ≡ q + 1 → q < resource_count g.rollout.problem → rose ≡ false
    kept-still n q inside none is lt = false_from_ne_true rose (λ up.
        roused.all up q (omega (arith, lt, roused.rouses.resources, so.resources)) n (omega (arith, inside, roused.rouses.items, so.items)) none is)

    kept-away : (n q : ℕ) → n < item_count g.rollout.problem → has later.row n ≡ false → slice_index later.lacks n ≡ q + 1 → has row q ≡ false
    kept-away n q inside none is = false_from_ne_true (has row q) (λ there.
        let place = place_in q row there in
        roused.freed place.0 place.1 n (omega (arith, inside, roused.rouses.items, so.items)) none (is ∙ ap (λ m. m + 1) (sym place.2)))

    own-waits : has later.row i ≡ false → WaitsAt (with_done g i) i (slice_index later.lacks i)
    own-waits none = elim (cases_eq (slice_index later.lacks i) 0) as (λ _. WaitsAt (with_done g i) i (slice_index later.lacks i)) [
      | inl nowhere ↦
          let idle : has_next (with_done g i) i ≡ false = false_from_ne_true (has_next (with_done g i) i) (λ next. let some = roused.own none next in absurd (omega (arith, some, nowhere))) in
          subst (WaitsAt (with_done g i) i) (sym nowhere) (waits-idle (with_done g i) i (and_left (has_next (with_done g i) i) (are_needs_met (with_done g i) i) idle))
      | inr somewhere ↦
          let was = roused.rouses.rest i (omega (arith, this, so.items)) none in
          absurd (flying-free (slice_index later.lacks i - 1) ((so.rest i this was.0).lacks (slice_index later.lacks i - 1) (omega (arith, was.1, somewhere))))
    ]

    other-idle : (n : ℕ) → n < item_count g.rollout.problem → (n ≡ i → ⊥) → has later.row n ≡ false → slice_index later.lacks n ≡ 0 → (has_next g n && are_needs_met g n) ≡ false → (has_next (with_done g i) n && are_needs_met (with_done g i) n) ≡ false
    other-idle n inside apart none nowhere idle = elim (cases_Bool (has_next (with_done g i) n)) as (λ _. (has_next (with_done g i) n && are_needs_met (with_done g i) n) ≡ false) [
      | inr not-next ↦ and_left (has_next (with_done g i) n) (are_needs_met (with_done g i) n) not-next
      | inl next ↦
          ap₂ (λ a b. a && b) (next-done n inside apart) (needs-done n inside apart (λ related.
          let p = g.rollout.problem in
          let number = number_of-item_at p n inside in
          let some = subst (IsRoused (with_done g i) later) number (roused.related (item_at p n) (is_item-item_at p n inside) related) none next in
          absurd (omega (arith, some, nowhere)))) ∙ idle
    ]

    other-waits : (n : ℕ) → n < item_count g.rollout.problem → (n ≡ i → ⊥) → has later.row n ≡ false → WaitsAt (with_done g i) n (slice_index later.lacks n)
    other-waits n inside apart none =
        let was = roused.rouses.rest n (omega (arith, inside, so.items)) none in
        let before = so.rest n inside was.0 in
        record {
          idle = λ nowhere. other-idle n inside apart none nowhere (before.idle (sym was.1 ∙ nowhere));
          lacks = λ q is.
              let lacked = before.lacks q (sym was.1 ∙ is) in
              let away = kept-away n q inside none is in
              lacks-done n inside apart q (still (kept-still n q inside none is lacked.inside))
              (touched.rest (resource_at g.rollout.problem q) (at-resource g.rollout.problem q lacked.inside) (ap (has row) (number-at g.rollout.problem q lacked.inside) ∙ away))
              lacked;
        }

    pub done-waiting : AreWaiting (with_done g i) later
    done-waiting = record {
      items = roused.rouses.items ∙ so.items;
      resources = roused.rouses.resources ∙ so.resources;
      rest = λ n inside none. elim (cases_eq n i) as (λ _. WaitsAt (with_done g i) n (slice_index later.lacks n)) [
        | inl same ↦ subst (λ m. has later.row m ≡ false → WaitsAt (with_done g i) m (slice_index later.lacks m)) (sym same) own-waits none
        | inr apart ↦ other-waits n inside apart none
      ];
    }

-- the same of what code has of them
pub done-waits : (r touched : Rollout) (g g' : Followed) (i : ℕ) (row : List ℕ) (rose : Bool) (low after : ℕ) (old later : Awake) → r ≡ g.rollout → touched ≡ g.rollout → IsNetwork r.problem → is_legal g.rollout.problem g.rollout.plan g.history ≡ true → i < item_count g.rollout.problem → flies g.history i ≡ true
    → g' ≡ with_done g i → AreWaiting g old → AreTouched touched.problem (item_at touched.problem i) row → AreRoused r.problem g' i row rose old later
    → (rose ≡ false → after ≡ low) → low ≡ least_stage g.rollout.problem g.rollout.plan (places g) → after ≡ least_stage r.problem r.plan (places g') → AreWaiting g' later
done-waits r touched g g' i row rose low after old later own rows net legal this flying is so has-row roused still at-first at-last =
    let net' = subst (λ (q : Rollout). IsNetwork q.problem) own net in
    let row' = subst (λ (q : Rollout). AreTouched q.problem (item_at q.problem i) row) rows has-row in
    let roused' = subst (λ (q : Rollout). AreRoused q.problem (with_done g i) i row rose old later) own (subst (λ k. AreRoused r.problem k i row rose old later) is roused) in
    let last : after ≡ least_stage g.rollout.problem g.rollout.plan (places (with_done g i)) = at-last ∙ ap (λ (q : Rollout). least_stage q.problem q.plan (places g')) own ∙ ap (λ k. least_stage g.rollout.problem g.rollout.plan (places k)) is in
    subst (λ k. AreWaiting k later) (sym is) (done-waiting g i net' legal this flying row rose old later so row' roused' (λ e. let same = still e in omega (arith, same, at-first, last)))
