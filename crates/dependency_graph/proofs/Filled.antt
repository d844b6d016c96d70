-- Cells that are filled with the rooms, one after another.
use Rattle.std.proofs.Common.{◌≡◌, ℕ, ◌+◌, ◌*◌, ◌^◌, ◌<◌, ◌≤◌, ◌==◌, true, if◌then◌else◌, [], length-set, set, slice_index, inl, inr, refl, sym, ap, ◌∙◌, subst, arith, ne_eqb}
use Rattle.std.proofs.lemmas.Bool.{cases_lt}
use Rattle.std.proofs.lemmas.List.{get_or-set_same, get_or-set_other}
use Rattle.rollout_rules.specs.Wan.{Rollout, last_stage}
use Rattle.rollout_rules.specs.Network.{IsNetwork}
use Rattle.rollout_rules.specs.Items.{Resource, is_resource, item_count, number_of}
use Rattle.rollout_rules.specs.Valid.{is_valid_plan}
use Rattle.rollout_rules.specs.History.{Places, places_of}
use Rattle.rollout_rules.specs.Room.{least_stage, room}
use Rattle.rollout_rules.specs.Legal.{is_legal}
use Rattle.rollout_rules.specs.declared.op.Op.{Op}
use Rattle.rollout_rules.proofs.Numbers.{number_of-below}
use Rattle.rollout_laws.proofs.Moves.{legal-good}
use Rattle.dependency_graph.specs.Progress.{Counts}
use Rattle.dependency_graph.specs.Following.{GoesOn}
use Rattle.dependency_graph.specs.Ahead.{settled_with, begun_with, places_with, places_begun}
use Rattle.dependency_graph.specs.Cells.{Cells, cell, resource_count, resource_at, resource_number, AreCells, AreRooms, AreFilled}
use Rattle.dependency_graph.proofs.Agreement.{Agree, room-same, least_stage-same}
use Rattle.dependency_graph.proofs.Counts.{counts-agree}
use Rattle.dependency_graph.proofs.Raised.{index-apart}
use Rattle.dependency_graph.proofs.RoomCells.{number-inside, at-number, capacity-few}
use Rattle.dependency_graph.proofs.RowSteps.{cells-inside}

module _ (r : Rollout) (at : Places) (low : ℕ) where
  pub filled-none : (t : Cells) → AreCells r t → AreFilled r at low 0 low t
  filled-none t so = record {
    cells = so;
    rows = λ q s lt. absurd (omega (arith, lt));
    row = λ s from before. absurd (omega (arith, from, before));
  }

  -- one stage more
  pub filled-more : (q u n : ℕ) (t later : Cells) → q < resource_count r.problem → u < last_stage r.plan → n ≡ room r.problem r.plan at u (resource_at r.problem q)
      → later ≡ record t { cells = set t.cells (q * t.stages + u) n } → AreFilled r at low q u t → AreFilled r at low q (u + 1) later
  filled-more q u n t later lt last is put so = subst (AreFilled r at low q (u + 1)) (sym put) (record {
    cells = record { stages = so.cells.stages; all = length-set t.cells (q * t.stages + u) n ∙ so.cells.all };
    rows = λ k s less from before. other k s (λ e. omega (arith, less, index-apart t.stages q u k s (omega (arith, last, so.cells.stages)) (omega (arith, before, so.cells.stages)) e)) ∙ so.rows k s less from before;
    row = λ s from before. elim (cases_lt s u) as (λ _. slice_index (set t.cells (q * t.stages + u) n) (q * t.stages + s) ≡ room r.problem r.plan at s (resource_at r.problem q)) [
      | inl less ↦ other q s (λ e. omega (arith, less, e)) ∙ so.row s from less
      | inr more ↦
          let same : u ≡ s = omega (arith, more, before) in
          subst (λ s. slice_index (set t.cells (q * t.stages + u) n) (q * t.stages + s) ≡ room r.problem r.plan at s (resource_at r.problem q)) same
          (get_or-set_same t.cells (q * t.stages + u) n 0 (cells-inside r t so.cells q u lt last) ∙ is)
    ];
  })
    where
      other : (k s : ℕ) → (q * t.stages + u ≡ k * t.stages + s → ⊥) → slice_index (set t.cells (q * t.stages + u) n) (k * t.stages + s) ≡ slice_index t.cells (k * t.stages + s)
      other k s away = get_or-set_other t.cells (q * t.stages + u) (k * t.stages + s) n 0 (λ e. away (sym e))

  -- one resource more
  pub filled-next : (q high : ℕ) (t : Cells) → high ≡ last_stage r.plan → AreFilled r at low q high t → AreFilled r at low (q + 1) low t
  filled-next q high t all so = record {
    cells = so.cells;
    rows = λ k s lt from before. elim (cases_lt k q) as (λ _. cell t k s ≡ room r.problem r.plan at s (resource_at r.problem k)) [
      | inl less ↦ so.rows k s less from before
      | inr more ↦
          let same : q ≡ k = omega (arith, more, lt) in
          subst (λ k. cell t k s ≡ room r.problem r.plan at s (resource_at r.problem k)) same (so.row s from (omega (arith, before, all)))
    ];
    row = λ s from before. absurd (omega (arith, from, before));
  }

  pub filled-all : (n : ℕ) (t : Cells) → n ≡ resource_count r.problem → low ≡ least_stage r.problem r.plan at → AreFilled r at low n low t → AreRooms r at t
  filled-all n t all least so = record {
    stages = so.cells.stages;
    all = so.cells.all;
    each = λ u here s from before.
        so.rows (resource_number r.problem u) s (omega (arith, number-inside r.problem u here, all)) (omega (arith, least, from)) before
        ∙ ap (room r.problem r.plan at s) (at-number r.problem u here);
  }

-- places of a history are those of its counts
pub rooms-same : (r : Rollout) (at other : Places) (t : Cells) → Agree r.problem at other → AreRooms r at t → AreRooms r other t
rooms-same r at other t same so = record {
  stages = so.stages;
  all = so.all;
  each = λ u here s from before.
      so.each u here s (omega (arith, from, least_stage-same r.problem r.plan at other same)) before ∙ room-same r.problem r.plan at other same s u;
}

-- an operation of no item changes no places
pub nobody-agree : (r : Rollout) (c : Counts) (op : Op) → item_count r.problem ≤ op.item → Agree r.problem (places_begun r c [] op) (places_with r c [])
nobody-agree r c op past = record {
  settled = λ i here. refl;
  flies = λ i here.
      let n = number_of r.problem i in
      let lt = number_of-below r.problem i here in
      let none : ◌≡◌ {A = ℕ} (if op.item == n then 1 else 0) 0 = ap (λ b. if b then 1 else 0) (ne_eqb op.item n (λ e. let lt' : n < op.item = omega (arith, lt, past) in omega (arith, lt', e))) in
      let same : begun_with c [] n + (if op.item == n then 1 else 0) ≡ begun_with c [] n = omega (arith, none) in
      ap (λ b. b == settled_with c [] n + 1) same;
}

-- the rooms of a legal history are small, from the least stage on
pub room-few : (r : Rollout) (c : Counts) → r ≡ c.rollout → IsNetwork r.problem → is_valid_plan r.problem r.plan ≡ true → GoesOn c [] → (s : ℕ) → least_stage r.problem r.plan (places_with r c []) ≤ s → s < last_stage r.plan → (u : Resource) → is_resource r.problem u ≡ true → room r.problem r.plan (places_with r c []) s u < 2 ^ 60
room-few r c own net valid goes_on s from before u here =
    let h = goes_on.history in
    let legal = subst (λ (q : Rollout). is_legal q.problem q.plan h ≡ true) (sym own) goes_on.legal in
    let agree = subst (λ (q : Rollout). Agree q.problem (places_with q c []) (places_of q.problem h)) (sym own) (counts-agree c h goes_on.counts) in
    let good = legal-good r.problem r.plan net h legal in
    omega (
      arith,
      room-same r.problem r.plan (places_with r c []) (places_of r.problem h) agree s u,
      good.room s (omega (arith, from, least_stage-same r.problem r.plan (places_with r c []) (places_of r.problem h) agree)) before u here,
      capacity-few r.problem r.plan net valid u here,
    )
