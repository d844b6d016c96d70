-- The cells of a row of resources, raised and lowered one after another.
use Rattle.std.proofs.Common.{◌≡◌, ℕ, ◌+◌, ◌*◌, ◌<◌, ◌≤◌, false, ◌&&◌, List, length, slice_index, nat_le, nat_lt, inl, inr, refl, ap, ◌∙◌, arith, mul-le-mul_right}
use Rattle.std.proofs.lemmas.Bool.{cases_lt}
use Rattle.lists.proofs.Conditions.{if_either}
use Rattle.rollout_rules.specs.Wan.{Rollout, last_stage}
use Rattle.rollout_rules.specs.Items.{greater_rate, either_mark}
use Rattle.rollout_rules.specs.History.{Places}
use Rattle.rollout_rules.specs.declared.item.Item.{Item}
use Rattle.dependency_graph.specs.Cells.{Cells, cell, between, only, among, has, AreOnce, AreRaised, AreCells, AreRooms, AreTouched, resource_count, resource_at, rises, falls}
use Rattle.dependency_graph.proofs.Raised.{index-inside, raised-zero, raised-both, among-next, among-ahead, among-all}
use Rattle.dependency_graph.proofs.RoomCells.{number-at, at-resource}

index-below : (n stages q s : ℕ) → q * stages + s < n * stages → q < n
index-below n stages q s lt = elim (cases_lt q n) as (λ _. q < n) [
  | inl low ↦ low
  | inr high ↦ absurd (omega (arith, lt, mul-le-mul_right stages high))
]

module _ (low high : ℕ) (row : List ℕ) (amount : ℕ → ℕ) where
  pub row-first : (t : Cells) → AreRaised low high (among row amount 0) t t
  row-first t = raised-zero low high (among row amount 0) t (λ q. refl)

  pub row-more : (k : ℕ) (t mid later : Cells) → AreRaised low high (among row amount k) t mid → AreRaised low high (only (slice_index row k) (amount (slice_index row k))) mid later → AreRaised low high (among row amount (k + 1)) t later
  row-more k t mid later first next =
      raised-both low high (among row amount k) (only (slice_index row k) (amount (slice_index row k))) (among row amount (k + 1)) t mid later first next (λ q. among-next row amount k q)

  pub row-less : (k : ℕ) (t mid later : Cells) → AreRaised low high (only (slice_index row k) (amount (slice_index row k))) t mid → AreRaised low high (among row amount k) mid later → AreRaised low high (among row amount (k + 1)) t later
  row-less k t mid later first next =
      raised-both low high (only (slice_index row k) (amount (slice_index row k))) (among row amount k) (among row amount (k + 1)) t mid later first next (λ q. omega (arith, among-next row amount k q))

  -- the cells of the resource after are as they were
  pub row-ahead : (k : ℕ) (t later : Cells) → AreOnce row → k < length row → AreRaised low high (among row amount k) t later → (s : ℕ) → s < t.stages → slice_index row k * t.stages + s < length t.cells → cell later (slice_index row k) s ≡ cell t (slice_index row k) s
  row-ahead k t later once lt so s below inside =
      let none : between low high s (among row amount k (slice_index row k)) ≡ 0 = ap (between low high s) (among-ahead row amount k once lt) ∙ if_either (nat_le low s && nat_lt s high) 0 in
      omega (arith, so.each (slice_index row k) s below inside, none)

  pub row-all : (n : ℕ) (t later : Cells) → AreOnce row → ((q : ℕ) → q < n → has row q ≡ false → amount q ≡ 0) → length t.cells ≡ n * t.stages → AreRaised low high (among row amount (length row)) t later → AreRaised low high amount t later
  row-all n t later once rest all so = record {
    stages = so.stages;
    all = so.all;
    each = λ q s lt inside.
        let below = index-below n t.stages q s (omega (arith, inside, all)) in
        so.each q s lt inside ∙ ap (λ x. cell t q s + between low high s x) (among-all row amount q once (rest q below));
  }

pub rooms-cells : (r : Rollout) (at : Places) (t : Cells) → AreRooms r at t → AreCells r t
rooms-cells r at t so = record { stages = so.stages; all = so.all }

-- what isn't in an item's row, it takes nothing of
pub rises-none : (r : Rollout) (i : Item) (x : ℕ) (row : List ℕ) → AreTouched r.problem i row → (q : ℕ) → q < resource_count r.problem → has row q ≡ false → rises r i x q ≡ 0
rises-none r i x row so q lt away =
    let none = so.rest (resource_at r.problem q) (at-resource r.problem q lt) (ap (has row) (number-at r.problem q lt) ∙ away) in
    omega (arith, none (greater_rate r.plan x) (λ t h. either_mark r.plan x t))

pub falls-none : (r : Rollout) (i : Item) (x : ℕ) (row : List ℕ) → AreTouched r.problem i row → (q : ℕ) → q < resource_count r.problem → has row q ≡ false → falls r i x q ≡ 0
falls-none r i x row so q lt away =
    let none = so.rest (resource_at r.problem q) (at-resource r.problem q lt) (ap (has row) (number-at r.problem q lt) ∙ away) in
    omega (arith, none (greater_rate r.plan x) (λ t h. either_mark r.plan x t))

-- a cell of any cells of a rollout
pub cells-inside : (r : Rollout) (t : Cells) → AreCells r t → (q s : ℕ) → q < resource_count r.problem → s < last_stage r.plan → q * t.stages + s < length t.cells
cells-inside r t so q s lt low = omega (arith, index-inside (resource_count r.problem) (last_stage r.plan) q s lt low, so.all, ap (λ n. q * n) so.stages)
