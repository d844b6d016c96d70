-- Why an item waits, as other items begin and end their operations.
use Rattle.std.proofs.Common.{◌≡◌, ℕ, zero, suc, ◌+◌, ◌<◌, ◌≤◌, true, false, not, ◌&&◌, ◌||◌, ◌==◌, if◌then◌else◌, length, slice_index, nat_le, nat_lt, inl, inr, refl, sym, ap, ap₂, ◌∙◌, subst, arith, lt-ltb, ltb-true, leb-false, lt-ltb}
use Rattle.std.proofs.lemmas.Bool.{cases_Bool, cases_eq, and_parts, and_from, and_left, and_right, and_cases, or_parts, both_ways, not-true, not_from_true, false_from_ne_true, ltb-false}
use Rattle.rollout_rules.specs.Sums.{all_below}
use Rattle.rollout_rules.specs.Wan.{Problem, Plan, flow_at, tunnel_at, tunnel_of, hops, rate_at, mark_at, last_stage}
use Rattle.rollout_rules.specs.Network.{IsNetwork}
use Rattle.rollout_rules.specs.Items.{is_item, item_count, item_at, number_of}
use Rattle.rollout_rules.specs.Operations.{stand_after}
use Rattle.rollout_rules.specs.History.{Places, settled, flies, stand}
use Rattle.rollout_rules.specs.Needs.{installed_since, idle_since, entries_past, needs_met_at, needs_met}
use Rattle.rollout_rules.specs.Room.{least_stage}
use Rattle.rollout_rules.specs.Legal.{may_begin, is_legal}
use Rattle.rollout_rules.specs.Release.{next_op}
use Rattle.rollout_rules.specs.declared.item.Item.{Item}
use Rattle.rollout_rules.specs.declared.item.Item.TheVariants as item
use Rattle.rollout_rules.proofs.Below.{all_below-fails}
use Rattle.rollout_rules.proofs.Numbers.{is_item-item_at, number_of-item_at}
use Rattle.rollout_rules.proofs.OverItems.{entry-is_item, is_item-entry, is_item-flow}
use Rattle.rollout_rules.proofs.Tunnels.{tunnel_of-below, flow-tunnel_of}
use Rattle.rollout_laws.proofs.Goods.{fits-room}
use Rattle.rollout_laws.proofs.Standing.{stand-most}
use Rattle.rollout_laws.proofs.Histories.{begun-begin_other, settled-begin, begins}
use Rattle.dependency_graph.specs.Cells.{Cells, resource_count, resource_at, cell_holds, rises, has, AreRooms}
use Rattle.dependency_graph.specs.Wakes.{Awake, Rouses, IsLetGo, AreFree}
use Rattle.dependency_graph.specs.Graph.{Followed, count_of, places, has_next, are_needs_met, has_room, with_begun}
use Rattle.dependency_graph.specs.Waiting.{is_admissible, Lacks, WaitsAt, AreWaiting, AreRelated, IsRoused}
use Rattle.dependency_graph.proofs.Agreement.{all_below-same}
use Rattle.dependency_graph.proofs.Needed.{needs-same}
use Rattle.dependency_graph.proofs.Steps.{begin-room}
use Rattle.dependency_graph.proofs.RoomCells.{at-resource, cell-room}
use Rattle.dependency_graph.proofs.Graphs.{begins-next, begins-least}

-- ---- an item that waits may not begin
module _ (g : Followed) (n : ℕ) (inside : n < item_count g.rollout.problem) (legal : is_legal g.rollout.problem g.rollout.plan g.history ≡ true) where
  lacks-room : (q : ℕ) → Lacks g n q → has_room g n ≡ false
  lacks-room q so = false_from_ne_true (has_room g n) (λ fit.
      let p = g.rollout.problem in
      let plan = g.rollout.plan in
      let this = item_at p n in
      let x = stand p plan (places g) this in
      let u = resource_at p q in
      let here = is_item-item_at p n inside in
      let last : so.stage < last_stage plan = omega (arith, so.before, stand-most p plan this ((places g).settled this)) in
      let within = fits-room p plan (places (with_begun g n)) fit so.stage (omega (arith, begins-least g n inside legal so.next, so.low)) last u (at-resource p q so.inside) in
      let b : nat_lt so.stage x ≡ true = lt-ltb so.stage x so.before in
      omega (arith, within, so.over, begin-room p plan (places g) (places (with_begun g n)) this here (begins-next g n inside legal so.next) so.stage u, ap (λ b. if b then rises g.rollout this x q else 0) b))

  pub waits-refused : (kept : ℕ) → WaitsAt g n kept → is_admissible g n ≡ false
  waits-refused zero so = and_left (has_next g n && are_needs_met g n) (has_room g n) (so.idle refl)
  waits-refused (suc q) so = and_right (has_next g n && are_needs_met g n) (has_room g n) (lacks-room q (so.lacks q (omega arith)))

-- an operation that may begin is admissible, and one of an item
module _ (g : Followed) (n : ℕ) where
  may-item : may_begin g.rollout.problem g.rollout.plan g.history (next_op g.history n) ≡ true → n < item_count g.rollout.problem
  may-item may = (begins g.rollout.problem g.rollout.plan g.history (next_op g.history n) may).next.within

  may-admissible : may_begin g.rollout.problem g.rollout.plan g.history (next_op g.history n) ≡ true → is_admissible g n ≡ true
  may-admissible may =
      let so = begins g.rollout.problem g.rollout.plan g.history (next_op g.history n) may in
      let idle : not (flies g.history n) ≡ true = Rattle.std.proofs.lemmas.Bool.not_from_false (flies g.history n) so.next.idle in
      let left : nat_lt (settled g.history n) (count_of g.rollout n) ≡ true = lt-ltb (settled g.history n) (count_of g.rollout n) (omega (arith, so.next.exists)) in
      and_from (has_next g n && are_needs_met g n) (has_room g n) (and_from (has_next g n) (are_needs_met g n) (and_from (not (flies g.history n)) (nat_lt (settled g.history n) (count_of g.rollout n)) idle left) so.needs) so.room

-- so of an item that isn't woken no operation may begin
pub waiting-refused : (g : Followed) (w : Awake) → is_legal g.rollout.problem g.rollout.plan g.history ≡ true → AreWaiting g w → (n : ℕ) → has w.row n ≡ false → may_begin g.rollout.problem g.rollout.plan g.history (next_op g.history n) ≡ false
waiting-refused g w legal so n none = false_from_ne_true (may_begin g.rollout.problem g.rollout.plan g.history (next_op g.history n)) (λ may.
    let inside = may-item g n may in
    both_ways (is_admissible g n) (waits-refused g n inside legal (slice_index w.lacks n) (so.rest n inside none)) (may-admissible g n may))

-- and what may begin is woken
pub admissible-woken : (g : Followed) (w : Awake) (n : ℕ) → n < item_count g.rollout.problem → is_legal g.rollout.problem g.rollout.plan g.history ≡ true → AreWaiting g w → is_admissible g n ≡ true → has w.row n ≡ true
admissible-woken g w n inside legal so may = Rattle.std.proofs.lemmas.Bool.true_from_ne_false (has w.row n) (λ none.
    both_ways (is_admissible g n) (waits-refused g n inside legal (slice_index w.lacks n) (so.rest n inside none)) may)

-- ---- needs go by what is settled of the item and of those related to it
module _ (p : Problem) (plan : Plan) (net : IsNetwork p) (at other : Places) (this : Item) (same : (i : Item) → is_item p i ≡ true → (i ≡ this → ⊥) → at.settled i ≡ other.settled i) where
  stand-apart : (i : Item) → is_item p i ≡ true → (i ≡ this → ⊥) → stand p plan at i ≡ stand p plan other i
  stand-apart i here apart = ap (stand_after p plan i) (same i here apart)

  pub needs-unrelated : (i : Item) → is_item p i ≡ true → (i ≡ this → ⊥) → (AreRelated p this i → ⊥) → needs_met p plan at i ≡ needs_met p plan other i
  needs-unrelated (item.Flow f) here apart alone =
      ap (needs_met_at p plan at (item.Flow f)) (stand-apart (item.Flow f) here apart)
      ∙ all_below-same (flow_at p f).tunnels
      (λ j. (rate_at plan (stand p plan other (item.Flow f) + 1) (tunnel_of p f j) == 0) || entries_past p plan at (tunnel_of p f j) (installed_since plan (tunnel_of p f j) (stand p plan other (item.Flow f) + 1)))
      (λ j. (rate_at plan (stand p plan other (item.Flow f) + 1) (tunnel_of p f j) == 0) || entries_past p plan other (tunnel_of p f j) (installed_since plan (tunnel_of p f j) (stand p plan other (item.Flow f) + 1)))
      (λ j few. ap (λ b. (rate_at plan (stand p plan other (item.Flow f) + 1) (tunnel_of p f j) == 0) || b)
      (all_below-same (hops p (tunnel_of p f j))
      (λ h. nat_le (installed_since plan (tunnel_of p f j) (stand p plan other (item.Flow f) + 1)) (stand p plan at (item.Entry (tunnel_of p f j) h)))
      (λ h. nat_le (installed_since plan (tunnel_of p f j) (stand p plan other (item.Flow f) + 1)) (stand p plan other (item.Entry (tunnel_of p f j) h)))
      (λ h low. ap (nat_le (installed_since plan (tunnel_of p f j) (stand p plan other (item.Flow f) + 1)))
      (stand-apart (item.Entry (tunnel_of p f j) h) (is_item-entry p (tunnel_of p f j) h (tunnel_of-below p f j net lt few) low)
      (λ e. alone (subst (λ k. AreRelated p k (item.Flow f)) e (flow-tunnel_of p f j net lt few)))))))
    where
      lt : f < length p.flows
      lt = ltb-true f (length p.flows) here
  needs-unrelated (item.Entry t h) here apart alone =
      ap (needs_met_at p plan at (item.Entry t h)) (stand-apart (item.Entry t h) here apart)
      ∙ ap (λ u. mark_at plan (stand p plan other (item.Entry t h) + 1) t || nat_le (idle_since plan t (stand p plan other (item.Entry t h))) u)
      (stand-apart (item.Flow (tunnel_at p t).flow) (is_item-flow p (tunnel_at p t).flow (net.tunnels t (entry-is_item p t h here).row).flow)
      (λ e. alone (subst (λ k. AreRelated p k (item.Entry t h)) e refl)))

-- ---- another item's operation begins
module _ (g : Followed) (i n : ℕ) (net : IsNetwork g.rollout.problem) (legal : is_legal g.rollout.problem g.rollout.plan g.history ≡ true) (this : i < item_count g.rollout.problem) (inside : n < item_count g.rollout.problem) (apart : n ≡ i → ⊥) where
  next-begun : has_next (with_begun g i) n ≡ has_next g n
  next-begun =
      ap₂ (λ a b. not (a == b + 1) && nat_lt b (count_of g.rollout n))
      (begun-begin_other g.history (next_op g.history i) n (λ e. apart (sym e))) (settled-begin g.history (next_op g.history i) n)

  needs-begun : are_needs_met (with_begun g i) n ≡ are_needs_met g n
  needs-begun =
      needs-same g.rollout.problem g.rollout.plan (record { settled = (places (with_begun g i)).settled; flies = (places g).flies }) (places g) (item_at g.rollout.problem n)
      (record { settled = λ k here. settled-begin g.history (next_op g.history i) (number_of g.rollout.problem k); flies = λ k here. refl })
      net (is_item-item_at g.rollout.problem n inside)

  stand-begun : stand g.rollout.problem g.rollout.plan (places (with_begun g i)) (item_at g.rollout.problem n) ≡ stand g.rollout.problem g.rollout.plan (places g) (item_at g.rollout.problem n)
  stand-begun = ap (stand_after g.rollout.problem g.rollout.plan (item_at g.rollout.problem n)) (settled-begin g.history (next_op g.history i) (number_of g.rollout.problem (item_at g.rollout.problem n)))

  module _ (goes : has_next g i ≡ true) where
    lacks-begun : (q : ℕ) → Lacks g n q → Lacks (with_begun g i) n q
    lacks-begun q so = record {
      inside = so.inside;
      next = next-begun ∙ so.next;
      stage = so.stage;
      low = omega (arith, begins-least g i this legal goes, so.low);
      before = omega (arith, stand-begun, so.before);
      over = omega (
        arith,
        so.over,
        begin-room g.rollout.problem g.rollout.plan (places g) (places (with_begun g i)) (item_at g.rollout.problem i) (is_item-item_at g.rollout.problem i this) (begins-next g i this legal goes) so.stage (resource_at g.rollout.problem q),
        ap (λ x. rises g.rollout (item_at g.rollout.problem n) x q) stand-begun,
      );
    }

    pub waits-begun : (kept : ℕ) → WaitsAt g n kept → WaitsAt (with_begun g i) n kept
    waits-begun kept so = record {
      idle = λ none. ap₂ (λ a b. a && b) next-begun needs-begun ∙ so.idle none;
      lacks = λ q is. lacks-begun q (so.lacks q is);
    }

-- what a graph may leave alone after a Begin, whose item is let go
pub begun-waiting : (g : Followed) (i : ℕ) (old later : Awake) → IsNetwork g.rollout.problem → is_legal g.rollout.problem g.rollout.plan g.history ≡ true → i < item_count g.rollout.problem → has_next g i ≡ true → AreWaiting g old → IsLetGo i 0 old later → AreWaiting (with_begun g i) later
begun-waiting g i old later net legal this goes so lets = record {
  items = lets.items ∙ so.items;
  resources = lets.resources ∙ so.resources;
  rest = λ n inside none. elim (cases_eq n i) as (λ _. WaitsAt (with_begun g i) n (slice_index later.lacks n)) [
    | inl same ↦ subst (λ m. WaitsAt (with_begun g i) m (slice_index later.lacks m)) (sym same) (record {
      idle = λ e. and_left (has_next (with_begun g i) i) (are_needs_met (with_begun g i) i) flown;
      lacks = λ q e. absurd (omega (arith, e, lets.own));
    })
    | inr apart ↦
        let was = lets.rest n (omega (arith, so.items, inside)) apart none in
        subst (WaitsAt (with_begun g i) n) (sym was.1) (waits-begun g i n net legal this inside apart goes (slice_index old.lacks n) (so.rest n inside was.0))
  ];
}
  where
    flown : has_next (with_begun g i) i ≡ false
    flown = and_left (not (flies (with_begun g i).history i)) (nat_lt (settled (with_begun g i).history i) (count_of g.rollout i))
        (not_from_true (flies (with_begun g i).history i)
        (subst (λ m. flies (with_begun g i).history m ≡ true) (number_of-item_at g.rollout.problem i this) (begins-next g i this legal goes).flying))

-- what it may leave alone where an item is let go that waits
pub let-go-waiting : (g : Followed) (i kept : ℕ) (old later : Awake) → AreWaiting g old → IsLetGo i kept old later → WaitsAt g i kept → AreWaiting g later
let-go-waiting g i kept old later so lets waits = record {
  items = lets.items ∙ so.items;
  resources = lets.resources ∙ so.resources;
  rest = λ n inside none. elim (cases_eq n i) as (λ _. WaitsAt g n (slice_index later.lacks n)) [
    | inl same ↦ subst (λ m. WaitsAt g m (slice_index later.lacks m)) (sym same) (subst (WaitsAt g i) (sym lets.own) waits)
    | inr apart ↦
        let was = lets.rest n (omega (arith, so.items, inside)) apart none in
        subst (WaitsAt g n) (sym was.1) (so.rest n inside was.0)
  ];
}

pub waits-idle : (g : Followed) (n : ℕ) → (has_next g n && are_needs_met g n) ≡ false → WaitsAt g n 0
waits-idle g n idle = record { idle = λ e. idle; lacks = λ q e. absurd (omega (arith, e)) }

pub waits-lacking : (g : Followed) (n q : ℕ) → Lacks g n q → WaitsAt g n (q + 1)
waits-lacking g n q so = record { idle = λ e. absurd (omega (arith, e)); lacks = λ k e. let same : q ≡ k = omega (arith, e) in subst (Lacks g n) same so }

-- what it may leave alone where each item that has a next operation is woken
pub first-waiting : (g : Followed) (old w : Awake) → length old.lacks ≡ item_count g.rollout.problem → old.resources ≡ resource_count g.rollout.problem → AreFree old.lacks → Rouses old w → ((n : ℕ) → n < item_count g.rollout.problem → IsRoused g w n) → AreWaiting g w
first-waiting g old w items resources free so roused = record {
  items = so.items ∙ items;
  resources = so.resources ∙ resources;
  rest = λ n inside none.
      let was = so.rest n (omega (arith, inside, items)) none in
      let nowhere : slice_index w.lacks n ≡ 0 = was.1 ∙ free n (omega (arith, inside, items)) in
      let idle : has_next g n ≡ false = false_from_ne_true (has_next g n) (λ next. let some = roused n inside none next in absurd (omega (arith, some, nowhere))) in
      subst (WaitsAt g n) (sym nowhere) (waits-idle g n (and_left (has_next g n) (are_needs_met g n) idle));
}

-- ---- a cell of a row that doesn't hold is what an item lacks
pub cells-lack : (g : Followed) (n q : ℕ) (t : Cells) → AreRooms g.rollout (places g) t → has_next g n ≡ true → q < resource_count g.rollout.problem
    → all_below (stand g.rollout.problem g.rollout.plan (places g) (item_at g.rollout.problem n))
    (cell_holds g.rollout t (least_stage g.rollout.problem g.rollout.plan (places g)) q (rises g.rollout (item_at g.rollout.problem n) (stand g.rollout.problem g.rollout.plan (places g) (item_at g.rollout.problem n)) q)) ≡ false
    → Lacks g n q
cells-lack g n q t rooms next lt fails =
    let p = g.rollout.problem in
    let plan = g.rollout.plan in
    let this = item_at p n in
    let x = stand p plan (places g) this in
    let low = least_stage p plan (places g) in
    let there = all_below-fails x (cell_holds g.rollout t low q (rises g.rollout this x q)) fails in
    let parts = or_parts _ _ there.2 in
    let from : low ≤ there.0 = ltb-false there.0 low parts.0 in
    let over = leb-false _ _ parts.1 in
    record {
      inside = lt;
      next = next;
      stage = there.0;
      low = from;
      before = there.1;
      over = omega (arith, over, cell-room g.rollout t (places g) rooms q there.0 lt from (omega (arith, there.1, stand-most p plan this ((places g).settled this))));
    }
