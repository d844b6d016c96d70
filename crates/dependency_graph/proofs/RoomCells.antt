-- Cells have the rooms, also across an item's Begin and its Done.
use Rattle.std.proofs.Common.{◌≡◌, ℕ, ◌+◌, ◌-◌, ◌*◌, ◌^◌, ◌<◌, ◌≤◌, Bool, true, false, ◌||◌, if◌then◌else◌, List, length, slice_index, nat_le, nat_lt, inl, inr, refl, sym, ap, ◌∙◌, subst, arith, leb-true, le-leb, ltb-true, lt-ltb, le-ltb, mul-le-mul}
use Rattle.std.proofs.lemmas.Bool.{cases_Bool, cases_lt, and_parts, or_cases, or_left, or_right}
use Rattle.rollout_rules.specs.declared.limits.TheConstants.{LARGEST_SCALE}
use Rattle.rollout_rules.specs.Sums.{sum_below, all_below}
use Rattle.rollout_rules.specs.Wan.{Problem, Plan, Rollout, hops, last_stage}
use Rattle.rollout_rules.specs.Network.{IsNetwork}
use Rattle.rollout_rules.specs.Items.{Resource, the_link, the_table, is_item, is_resource, sum_items, capacity_of, use_at, step_maximum}
use Rattle.rollout_rules.specs.Valid.{is_valid_plan, has_shape}
use Rattle.rollout_rules.specs.History.{Places, stand}
use Rattle.rollout_rules.specs.Room.{least_stage, room, fits}
use Rattle.rollout_rules.specs.declared.item.Item.{Item}
use Rattle.rollout_rules.specs.declared.item.Item.TheVariants as item
use Rattle.rollout_rules.proofs.Below.{all_below-at, all_below-from, sum_below-at}
use Rattle.rollout_rules.proofs.OverItems.{entry-is_item}
use Rattle.rollout_laws.specs.Good.{IsGood}
use Rattle.rollout_laws.proofs.Standing.{stand-most}
use Rattle.rollout_laws.proofs.Contents.{step-begins}
use Rattle.rollout_laws.proofs.Goods.{fits-room, room-fits}
use Rattle.rollout_laws.proofs.Validity.{plan-is_valid}
use Rattle.dependency_graph.specs.Cells.{Cells, cell, between, resource_count, resource_at, resource_number, AreRooms, AreRaised, rise, fall, rises, falls, has, AreTouched, cell_holds, row_holds}
use Rattle.dependency_graph.proofs.Changed.{place_in, same-test, room-kept}
use Rattle.dependency_graph.proofs.Raised.{index-inside, between-in, between-past}
use Rattle.dependency_graph.proofs.Steps.{Begins, Ends, begin-room, done-room}

-- ---- resources by number
module _ (p : Problem) where
  pub number-inside : (u : Resource) → is_resource p u ≡ true → resource_number p u < resource_count p
  number-inside (the_link l) here = let lt : l < length p.links = ltb-true l (length p.links) here in omega (arith, lt)
  number-inside (the_table w) here = let lt : w < length p.switches = ltb-true w (length p.switches) here in omega (arith, lt)

  pub at-number : (u : Resource) → is_resource p u ≡ true → resource_at p (resource_number p u) ≡ u
  at-number (the_link l) here = ap (λ b. if b then the_link l else the_table (l - length p.links)) here
  at-number (the_table w) here =
      let past : nat_lt (length p.links + w) (length p.links) ≡ false = le-ltb (length p.links + w) (length p.links) (omega arith) in
      ap (λ b. if b then the_link (length p.links + w) else the_table (length p.links + w - length p.links)) past
      ∙ ap the_table (omega arith)

  pub link-at : (q : ℕ) → q < length p.links → resource_at p q ≡ the_link q
  link-at q lt = ap (λ b. if b then the_link q else the_table (q - length p.links)) (lt-ltb q (length p.links) lt)

  pub table-at : (q : ℕ) → length p.links ≤ q → resource_at p q ≡ the_table (q - length p.links)
  table-at q le = ap (λ b. if b then the_link q else the_table (q - length p.links)) (le-ltb q (length p.links) le)

  pub at-resource : (q : ℕ) → q < resource_count p → is_resource p (resource_at p q) ≡ true
  at-resource q lt = elim (cases_lt q (length p.links)) as (λ _. is_resource p (resource_at p q) ≡ true) [
    | inl low ↦ ap (is_resource p) (link-at q low) ∙ lt-ltb q (length p.links) low
    | inr high ↦ ap (is_resource p) (table-at q high) ∙ lt-ltb (q - length p.links) (length p.switches) (omega (arith, lt, high))
  ]

  pub number-at : (q : ℕ) → q < resource_count p → resource_number p (resource_at p q) ≡ q
  number-at q lt = elim (cases_lt q (length p.links)) as (λ _. resource_number p (resource_at p q) ≡ q) [
    | inl low ↦ ap (resource_number p) (link-at q low)
    | inr high ↦ ap (resource_number p) (table-at q high) ∙ omega (arith, high)
  ]

-- ---- no room is large
pub scale-few : (p : Problem) (plan : Plan) → has_shape p plan ≡ true → plan.scale ≤ 65536
scale-few p plan shape =
    let a = and_parts _ _ shape in
    let b = and_parts _ _ a.0 in
    let d = and_parts _ _ b.0 in
    let e = and_parts _ _ d.0 in
    leb-true plan.scale LARGEST_SCALE e.1

pub valid-shape : (p : Problem) (plan : Plan) → is_valid_plan p plan ≡ true → has_shape p plan ≡ true
valid-shape p plan valid =
    let a = and_parts _ _ valid in
    let b = and_parts _ _ a.0 in
    let d = and_parts _ _ b.0 in
    let e = and_parts _ _ d.0 in
    let f = and_parts _ _ e.0 in
    f.0

pub capacity-few : (p : Problem) (plan : Plan) → IsNetwork p → is_valid_plan p plan ≡ true → (u : Resource) → is_resource p u ≡ true → capacity_of p plan u < 2 ^ 60
capacity-few p plan net valid (the_link l) here =
    let few = net.links.capacities l (ltb-true l (length p.links) here) in
    let scaled = mul-le-mul few (scale-few p plan (valid-shape p plan valid)) in
    omega (arith, scaled)
capacity-few p plan net valid (the_table w) here =
    let few = net.switches.tables w (ltb-true w (length p.switches) here) in
    omega (arith, few)

pub sum_items-at : (p : Problem) (f : Item → ℕ) (i : Item) → is_item p i ≡ true → f i ≤ sum_items p f
sum_items-at p f (item.Flow n) here = omega (arith, sum_below-at (length p.flows) (λ n. f (item.Flow n)) n (ltb-true n (length p.flows) here))
sum_items-at p f (item.Entry t h) here =
    let there = entry-is_item p t h here in
    omega (arith, sum_below-at (length p.tunnels) (λ t. sum_below (hops p t) (λ h. f (item.Entry t h))) t there.row, sum_below-at (hops p t) (λ h. f (item.Entry t h)) h there.hop)

pub step-few : (p : Problem) (plan : Plan) → IsNetwork p → is_valid_plan p plan ≡ true → (i : Item) → is_item p i ≡ true → (u : Resource) → is_resource p u ≡ true → (s : ℕ) → s ≤ last_stage plan → step_maximum p plan s i u < 2 ^ 60
step-few p plan net valid i found u here s le =
    omega (arith, sum_items-at p (λ k. step_maximum p plan s k u) i found, (plan-is_valid p plan valid).step s le u here, capacity-few p plan net valid u here)

pub use-few : (p : Problem) (plan : Plan) → IsNetwork p → is_valid_plan p plan ≡ true → (i : Item) → is_item p i ≡ true → (u : Resource) → is_resource p u ≡ true → (s : ℕ) → s ≤ last_stage plan → use_at p plan s i u < 2 ^ 60
use-few p plan net valid i found u here s le = omega (arith, step-begins p plan i u s, step-few p plan net valid i found u here s le)

-- ---- cells across a step
module _ (r : Rollout) where
  pub cell-inside : (t : Cells) (at : Places) → AreRooms r at t → (q s : ℕ) → q < resource_count r.problem → s < last_stage r.plan → q * t.stages + s < length t.cells
  cell-inside t at so q s lt low = omega (arith, index-inside (resource_count r.problem) (last_stage r.plan) q s lt low, so.all, ap (λ n. q * n) so.stages)

  -- the cell of a resource by its number
  pub cell-room : (t : Cells) (at : Places) → AreRooms r at t → (q s : ℕ) → q < resource_count r.problem → least_stage r.problem r.plan at ≤ s → s < last_stage r.plan → cell t q s ≡ room r.problem r.plan at s (resource_at r.problem q)
  cell-room t at so q s lt low before =
      ap (λ n. cell t n s) (sym (number-at r.problem q lt)) ∙ so.each (resource_at r.problem q) (at-resource r.problem q lt) s low before

  if-plus : (b : Bool) (a n : ℕ) → ◌≡◌ {A = ℕ} (if b then n else 0) (if b then n else 0)
  if-plus b a n = refl

  -- between the least stage and where an item stands, and up to there
  between-stand : (low x s n : ℕ) → low ≤ s → between low x s n ≡ (if nat_lt s x then n else 0)
  between-stand low x s n le = let e : nat_le low s ≡ true = le-leb low s le in rw e refl

  between-to : (low x s n : ℕ) → low ≤ s → between low (x + 1) s n ≡ (if nat_le s x then n else 0)
  between-to low x s n le = elim (cases_lt x s) as (λ _. between low (x + 1) s n ≡ (if nat_le s x then n else 0)) [
    | inl past ↦ let e : nat_le s x ≡ false = Rattle.std.proofs.lemmas.Bool.lt-leb s x past in omega (arith, between-past low (x + 1) s n (omega (arith, past)), ap (λ b. if b then n else 0) e)
    | inr up ↦ let e : nat_le s x ≡ true = le-leb s x up in omega (arith, between-in low (x + 1) s n le (omega (arith, up)), ap (λ b. if b then n else 0) e)
  ]

  module _ (at later : Places) (this : Item) (here : is_item r.problem this ≡ true) where
    abbrev low : ℕ
    low = least_stage r.problem r.plan at

    abbrev x : ℕ
    x = stand r.problem r.plan at this

    pub rooms-begin : (t t' : Cells) → Begins r.problem at later this → least_stage r.problem r.plan later ≡ low → AreRooms r at t → AreRaised low x (rises r this x) t t' → AreRooms r later t'
    rooms-begin t t' so same rooms raised = record {
      stages = raised.stages ∙ rooms.stages;
      all = raised.all ∙ rooms.all;
      each = λ u found s least before.
          let q = resource_number r.problem u in
          let lt = number-inside r.problem u found in
          let from : low ≤ s = omega (arith, same, least) in
          let stage : s < t.stages = omega (arith, rooms.stages, before) in
          let is = raised.each q s stage (cell-inside t at rooms q s lt before) in
          let amount : rises r this x q ≡ rise r this x u = ap (rise r this x) (at-number r.problem u found) in
          omega (arith, is, rooms.each u found s from before, begin-room r.problem r.plan at later this here so s u, between-stand low x s (rises r this x q) from, ap (λ n. if nat_lt s x then n else 0) amount);
    }

    pub rooms-end : (t t' : Cells) → Ends r.problem r.plan at later this → low ≤ least_stage r.problem r.plan later → AreRooms r at t → AreRaised low (x + 1) (falls r this x) t' t → AreRooms r later t'
    rooms-end t t' so up rooms raised = record {
      stages = sym raised.stages ∙ rooms.stages;
      all = sym raised.all ∙ rooms.all;
      each = λ u found s least before.
          let q = resource_number r.problem u in
          let lt = number-inside r.problem u found in
          let from : low ≤ s = omega (arith, up, least) in
          let stage : s < t'.stages = omega (arith, rooms.stages, raised.stages, before) in
          let inside : q * t'.stages + s < length t'.cells = omega (arith, cell-inside t at rooms q s lt before, raised.all, ap (λ n. q * n) raised.stages) in
          let is = raised.each q s stage inside in
          let amount : falls r this x q ≡ fall r this x u = ap (fall r this x) (at-number r.problem u found) in
          omega (arith, is, rooms.each u found s from before, done-room r.problem r.plan at later this here so s u before, between-to low x s (falls r this x q) from, ap (λ n. if nat_le s x then n else 0) amount);
    }

    -- what is raised fits its cell, and what is taken is there
    pub rise-fits : (t : Cells) → IsNetwork r.problem → is_valid_plan r.problem r.plan ≡ true → Begins r.problem at later this → least_stage r.problem r.plan later ≡ low → fits r.problem r.plan later ≡ true → AreRooms r at t
        → (q s : ℕ) → q < resource_count r.problem → low ≤ s → s < x → cell t q s + rises r this x q < 2 ^ 60
    rise-fits t net valid so same fit rooms q s lt from before =
        let last = stand-most r.problem r.plan this (at.settled this) in
        let u = resource_at r.problem q in
        let found = at-resource r.problem q lt in
        let b : nat_lt s x ≡ true = lt-ltb s x before in
        let within = fits-room r.problem r.plan later fit s (omega (arith, same, from)) (omega (arith, before, last)) u found in
        omega (arith, cell-room t at rooms q s lt from (omega (arith, before, last)), begin-room r.problem r.plan at later this here so s u, ap (λ b. if b then rise r this x u else 0) b, within, capacity-few r.problem r.plan net valid u found)

    pub fall-there : (t : Cells) → Ends r.problem r.plan at later this → AreRooms r at t → (q s : ℕ) → q < resource_count r.problem → low ≤ s → s < x + 1 → x < last_stage r.plan → falls r this x q ≤ cell t q s
    fall-there t so rooms q s lt from before last =
        let u = resource_at r.problem q in
        let b : nat_le s x ≡ true = le-leb s x (omega (arith, before)) in
        omega (arith, cell-room t at rooms q s lt from (omega (arith, before, last)), done-room r.problem r.plan at later this here so s u (omega (arith, before, last)), ap (λ b. if b then fall r this x u else 0) b)

    -- the row of what an item takes has room exactly where every room fits with its operation begun
    pub row-fits : (t : Cells) (row : List ℕ) → IsGood r.problem r.plan at → Begins r.problem at later this → least_stage r.problem r.plan later ≡ low → AreRooms r at t → AreTouched r.problem this row
        → row_holds r t low x (rises r this x) row ≡ fits r.problem r.plan later
    row-fits t row good so same rooms touched = same-test (row_holds r t low x (rises r this x) row) (fits r.problem r.plan later) all part
      where
        last : x ≤ last_stage r.plan
        last = stand-most r.problem r.plan this (at.settled this)

        -- what a cell of the row says
        later-room : (k s : ℕ) → k < length row → low ≤ s → s < x → room r.problem r.plan later s (resource_at r.problem (slice_index row k)) ≡ cell t (slice_index row k) s + rises r this x (slice_index row k)
        later-room k s lt from before =
            let q = slice_index row k in
            let b : nat_lt s x ≡ true = lt-ltb s x before in
            omega (arith, begin-room r.problem r.plan at later this here so s (resource_at r.problem q), cell-room t at rooms q s (touched.inside k lt) from (omega (arith, before, last)), ap (λ b. if b then rises r this x q else 0) b)

        part : fits r.problem r.plan later ≡ true → row_holds r t low x (rises r this x) row ≡ true
        part fit = all_below-from (length row) (λ k. all_below x (cell_holds r t low (slice_index row k) (rises r this x (slice_index row k)))) (λ k lt.
            all_below-from x (cell_holds r t low (slice_index row k) (rises r this x (slice_index row k))) (λ s before.
            elim (cases_lt s low) as (λ _. cell_holds r t low (slice_index row k) (rises r this x (slice_index row k)) s ≡ true) [
              | inl less ↦ or_left (nat_lt s low) (nat_le (cell t (slice_index row k) s + rises r this x (slice_index row k)) (capacity_of r.problem r.plan (resource_at r.problem (slice_index row k)))) (lt-ltb s low less)
              | inr from ↦ or_right (nat_lt s low) (nat_le (cell t (slice_index row k) s + rises r this x (slice_index row k)) (capacity_of r.problem r.plan (resource_at r.problem (slice_index row k))))
                  (le-leb _ _ (omega (arith, later-room k s lt from before, fits-room r.problem r.plan later fit s (omega (arith, same, from)) (omega (arith, before, last)) (resource_at r.problem (slice_index row k)) (at-resource r.problem (slice_index row k) (touched.inside k lt)))))
            ]))

        all : row_holds r t low x (rises r this x) row ≡ true → fits r.problem r.plan later ≡ true
        all holds = room-fits r.problem r.plan later (λ s least before u found.
            let from : low ≤ s = omega (arith, same, least) in
            let was = good.room s from before u found in
            elim (cases_lt s x) as (λ _. room r.problem r.plan later s u ≤ capacity_of r.problem r.plan u) [
              | inr past ↦ omega (arith, was, room-kept r.problem r.plan at later this so.differ s u (inl past))
              | inl early ↦ elim (cases_Bool (has row (resource_number r.problem u))) as (λ _. room r.problem r.plan later s u ≤ capacity_of r.problem r.plan u) [
                | inl there ↦
                    let place = place_in (resource_number r.problem u) row there in
                    let k = place.0 in
                    let is : resource_at r.problem (slice_index row k) ≡ u = ap (resource_at r.problem) place.2 ∙ at-number r.problem u found in
                    let within = leb-true _ _ (holds-at s from (all_below-at x (cell_holds r t low (slice_index row k) (rises r this x (slice_index row k)))
                    (all_below-at (length row) (λ j. all_below x (cell_holds r t low (slice_index row j) (rises r this x (slice_index row j)))) holds k place.1) s early)) in
                    subst (λ v. room r.problem r.plan later s v ≤ capacity_of r.problem r.plan v) is (omega (arith, within, later-room k s place.1 from early))
                | inr away ↦ omega (arith, was, room-kept r.problem r.plan at later this so.differ s u (inr (touched.rest u found away)))
              ]
            ])
          where
            holds-at : (s : ℕ) → low ≤ s → {b : Bool} → (nat_lt s low || b) ≡ true → b ≡ true
            holds-at s from {b} e = elim (or_cases (nat_lt s low) b e) as (λ _. b ≡ true) [
              | inl less ↦ let lt : s < low = ltb-true s low less in absurd (omega (arith, lt, from))
              | inr is ↦ is
            ]
