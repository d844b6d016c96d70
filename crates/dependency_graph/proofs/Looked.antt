-- What a graph has looked up of an item, and what its cells come to by it.
use Rattle.std.proofs.Common.{◌≡◌, ℕ, ◌+◌, ◌^◌, ◌<◌, ◌≤◌, true, List, ap, ap₂, ◌∙◌, subst, arith}
use Rattle.rollout_rules.specs.Wan.{Rollout, last_stage}
use Rattle.rollout_rules.specs.Network.{IsNetwork}
use Rattle.rollout_rules.specs.Items.{is_item, item_count, item_at}
use Rattle.rollout_rules.specs.Valid.{is_valid_plan}
use Rattle.rollout_rules.specs.History.{flies, stand}
use Rattle.rollout_rules.specs.Room.{least_stage}
use Rattle.rollout_rules.specs.Legal.{is_legal}
use Rattle.rollout_rules.specs.declared.item.Item.{Item}
use Rattle.rollout_rules.proofs.Numbers.{is_item-item_at}
use Rattle.rollout_laws.proofs.Standing.{stand-most, stand-left}
use Rattle.rollout_laws.proofs.Rooms.{least_stage-at}
use Rattle.rollout_laws.proofs.Moves.{legal-good}
use Rattle.dependency_graph.specs.Graph.{Followed, places, has_next, has_room, with_begun, with_done}
use Rattle.dependency_graph.specs.Cells.{Cells, cell, resource_count, AreRooms, AreRaised, AreTouched, rises, falls, row_holds}
use Rattle.dependency_graph.proofs.RoomCells.{rooms-begin, rooms-end, rise-fits, fall-there, row-fits}
use Rattle.dependency_graph.proofs.Graphs.{begins-next, begins-least, ends-next, ends-least}

-- an item of a graph by its number, the least stage, and where the item stands
pub record AreLooked (r : Rollout) (g : Followed) (n : ℕ) (i : Item) (low x : ℕ) : Type 0 where
  pub own : r ≡ g.rollout
  pub inside : n < item_count g.rollout.problem
  pub item : i ≡ item_at g.rollout.problem n
  pub least : low ≡ least_stage g.rollout.problem g.rollout.plan (places g)
  pub stands : x ≡ stand g.rollout.problem g.rollout.plan (places g) (item_at g.rollout.problem n)

module _ (r : Rollout) (g : Followed) (n : ℕ) (i : Item) (low x : ℕ) (so : AreLooked r g n i low x) where
  abbrev this : Item
  this = item_at g.rollout.problem n

  abbrev standing : ℕ
  standing = stand g.rollout.problem g.rollout.plan (places g) (item_at g.rollout.problem n)

  here : is_item g.rollout.problem (item_at g.rollout.problem n) ≡ true
  here = is_item-item_at g.rollout.problem n so.inside

  pub looked-item : is_item r.problem i ≡ true
  looked-item = ap (λ (q : Rollout). is_item q.problem i) so.own ∙ ap (is_item g.rollout.problem) so.item ∙ here

  pub looked-last : x ≤ last_stage r.plan
  looked-last = omega (arith, so.stands, stand-most g.rollout.problem g.rollout.plan this ((places g).settled this), ap (λ (q : Rollout). last_stage q.plan) so.own)

  pub looked-order : low ≤ x
  looked-order = omega (arith, so.least, so.stands, least_stage-at g.rollout.problem g.rollout.plan (places g) this here)

  rises-same : (q : ℕ) → rises r i x q ≡ rises g.rollout this standing q
  rises-same q = ap (λ (m : Rollout). rises m i x q) so.own ∙ ap₂ (λ k y. rises g.rollout k y q) so.item so.stands

  falls-same : (q : ℕ) → falls r i x q ≡ falls g.rollout this standing q
  falls-same q = ap (λ (m : Rollout). falls m i x q) so.own ∙ ap₂ (λ k y. falls g.rollout k y q) so.item so.stands

  count-same : (q : ℕ) → q < resource_count r.problem → q < resource_count g.rollout.problem
  count-same q lt = subst (λ (m : Rollout). q < resource_count m.problem) so.own lt

  -- a Begin
  module _ (t : Cells) (rooms : AreRooms g.rollout (places g) t) (legal : is_legal g.rollout.problem g.rollout.plan g.history ≡ true) (net : IsNetwork r.problem) (valid : is_valid_plan r.problem r.plan ≡ true) (next : has_next g n ≡ true) where
    net' : IsNetwork g.rollout.problem
    net' = subst (λ (q : Rollout). IsNetwork q.problem) so.own net

    valid' : is_valid_plan g.rollout.problem g.rollout.plan ≡ true
    valid' = subst (λ (q : Rollout). is_valid_plan q.problem q.plan ≡ true) so.own valid

    pub looked-fits : has_room g n ≡ true → (q s : ℕ) → q < resource_count r.problem → low ≤ s → s < x → cell t q s + rises r i x q < 2 ^ 60
    looked-fits room q s lt from before =
        omega (
          arith,
          rises-same q,
          rise-fits g.rollout (places g) (places (with_begun g n)) this here t net' valid' (begins-next g n so.inside legal next) (begins-least g n so.inside legal next) room rooms q s
              (count-same q lt) (omega (arith, from, so.least)) (omega (arith, before, so.stands)),
        )

    pub looked-begins : (t' : Cells) → AreRaised low x (rises r i x) t t' → AreRooms g.rollout (places (with_begun g n)) t'
    looked-begins t' raised =
        let a = subst (λ (m : Rollout). AreRaised low x (rises m i x) t t') so.own raised in
        let b = subst (λ k. AreRaised low x (rises g.rollout k x) t t') so.item a in
        let d = subst (λ y. AreRaised low y (rises g.rollout this y) t t') so.stands b in
        let e = subst (λ l. AreRaised l standing (rises g.rollout this standing) t t') so.least d in
        rooms-begin g.rollout (places g) (places (with_begun g n)) this here t t' (begins-next g n so.inside legal next) (begins-least g n so.inside legal next) rooms e

    pub looked-holds : (m : Rollout) (row : List ℕ) → m ≡ g.rollout → AreTouched m.problem (item_at m.problem n) row → row_holds r t low x (rises r i x) row ≡ has_room g n
    looked-holds m row same touched =
        ap (λ (q : Rollout). row_holds q t low x (rises q i x) row) so.own
        ∙ ap (λ k. row_holds g.rollout t low x (rises g.rollout k x) row) so.item
        ∙ ap₂ (λ l y. row_holds g.rollout t l y (rises g.rollout this y) row) so.least so.stands
        ∙ row-fits g.rollout (places g) (places (with_begun g n)) this here t row (legal-good g.rollout.problem g.rollout.plan net' g.history legal) (begins-next g n so.inside legal next) (begins-least g n so.inside legal next) rooms
        (subst (λ (q : Rollout). AreTouched q.problem (item_at q.problem n) row) same touched)

  -- a Done
  module _ (t : Cells) (rooms : AreRooms g.rollout (places g) t) (legal : is_legal g.rollout.problem g.rollout.plan g.history ≡ true) (flying : flies g.history n ≡ true) where
    left : standing < last_stage g.rollout.plan
    left = stand-left g.rollout.problem g.rollout.plan this ((places g).settled this) (ends-next g n so.inside legal flying).left

    pub looked-left : x < last_stage r.plan
    looked-left = omega (arith, left, so.stands, ap (λ (q : Rollout). last_stage q.plan) so.own)

    pub looked-there : (q s : ℕ) → q < resource_count r.problem → low ≤ s → s < x + 1 → falls r i x q ≤ cell t q s
    looked-there q s lt from before =
        omega (
          arith,
          falls-same q,
          fall-there g.rollout (places g) (places (with_done g n)) this here t (ends-next g n so.inside legal flying) rooms q s
              (count-same q lt) (omega (arith, from, so.least)) (omega (arith, before, so.stands)) left,
        )

    pub looked-ends : (t' : Cells) → AreRaised low (x + 1) (falls r i x) t' t → AreRooms g.rollout (places (with_done g n)) t'
    looked-ends t' raised =
        let a = subst (λ (m : Rollout). AreRaised low (x + 1) (falls m i x) t' t) so.own raised in
        let b = subst (λ k. AreRaised low (x + 1) (falls g.rollout k x) t' t) so.item a in
        let d = subst (λ y. AreRaised low (y + 1) (falls g.rollout this y) t' t) so.stands b in
        let e = subst (λ l. AreRaised l (standing + 1) (falls g.rollout this standing) t' t) so.least d in
        rooms-end g.rollout (places g) (places (with_done g n)) this here t t' (ends-next g n so.inside legal flying) (ends-least g n so.inside legal flying) rooms e
