-- What a course says of an item, and how it is kept.
use Rattle.std.proofs.Common.{◌≡◌, ℕ, ◌+◌, ◌<◌, ◌≤◌, true, ◌==◌, if◌then◌else◌, List, [], ◌∷◌, length, get_or, set, inl, inr, refl, sym, ap, ap₂, ◌∙◌, subst, arith, eqb-true, eq-eqb, get_or-set_same, get_or-set_other}
use Rattle.std.proofs.lemmas.Bool.{cases_Bool}
use Rattle.std.proofs.Math.ListN.{length-set}
use Rattle.std.proofs.lemmas.List.{get_or_read}
use Rattle.lists.proofs.Conditions.{unequal_clash}
use Rattle.rollout_rules.specs.Wan.{Rollout, last_stage}
use Rattle.rollout_rules.specs.Items.{is_item, item_at, item_count}
use Rattle.rollout_rules.specs.Operations.{stand_after}
use Rattle.rollout_rules.specs.History.{History, dones_in, settled, begun}
use Rattle.rollout_rules.specs.declared.item.Item.{Item}
use Rattle.rollout_rules.specs.declared.op.Op.{Op}
use Rattle.rollout_rules.specs.declared.op.Entry.{Entry}
use Rattle.rollout_rules.specs.declared.op.Entry.TheVariants.{Done}
use Rattle.rollout_rules.proofs.Numbers.{is_item-item_at}
use Rattle.rollout_laws.proofs.Standing.{stand-most}
use Rattle.dependency_graph.specs.Index.{AreItems}
use Rattle.rollout_report.specs.Peaks.{front}
use Rattle.rollout_report.specs.Counts.{Counted, AreCountsOf}
use Rattle.rollout_report.specs.Course.{Coursed, next_stand, here_of, next_of, IsCourse}
use Rattle.rollout_report.proofs.Counting.{settled-more}
use Rattle.rollout_report.proofs.Loading.{settled-other}

-- a stage read is within the plan
pub stage-inside : (now inside : Coursed) (rows : List Item) (stages : List ℕ) (n x : ℕ) → inside ≡ now → IsCourse inside rows stages → n < item_count now.rollout.problem → x ≡ get_or stages n x → x ≤ last_stage now.rollout.plan
stage-inside now inside rows stages n x same is lt at =
    let kept : IsCourse now rows stages = subst (λ v. IsCourse v rows stages) same is in
    omega (arith, get_or_read stages n x (omega (arith, kept.all_stands, lt)) at 0, kept.stands n lt, stand-most now.rollout.problem now.rollout.plan (item_at now.rollout.problem n) (get_or now.counts.settled n 0))

-- the items of a rollout, wherever they are read
pub items-of : (r : Rollout) (now inside : Coursed) (rows xs : List Item) (stages : List ℕ) → r ≡ now.rollout → inside ≡ now → IsCourse inside rows stages → xs ≡ rows → AreItems r.problem (item_count r.problem) xs
items-of r now inside rows xs stages own same is e =
    subst (λ q. AreItems q.problem (item_count q.problem) xs) (ap (λ v. v.rollout) same ∙ sym own)
    (subst (λ ys. AreItems inside.rollout.problem (item_count inside.rollout.problem) ys) (sym e) is.items)

pub row-there : (r : Rollout) (xs : List Item) → AreItems r.problem (item_count r.problem) xs → (n : ℕ) (d : Item) → n < item_count r.problem → is_item r.problem (get_or xs n d) ≡ true
row-there r xs are n d lt = subst (λ j. is_item r.problem j ≡ true) (sym (are.each n d lt)) (is_item-item_at r.problem n lt)

-- an item in flight stands next where it does with one operation more settled
pub next-goes : (r : Rollout) (now : Coursed) (i : Item) (n here x : ℕ) → r ≡ now.rollout → i ≡ item_at r.problem n → here ≡ here_of now n → (get_or now.counts.begun n 0 == get_or now.counts.settled n 0 + 1) ≡ true
    → ((j : ℕ) → here ≡ stand_after r.problem r.plan i j → x ≡ stand_after r.problem r.plan i (j + 1)) → x ≡ next_of now n
next-goes r now i n here x own is at flies moves =
    let j = get_or now.counts.settled n 0 in
    let fit : (k : ℕ) → stand_after r.problem r.plan i k ≡ stand_after now.rollout.problem now.rollout.plan (item_at now.rollout.problem n) k =
    λ k. ap₂ (λ q a. stand_after q.problem q.plan a k) own (is ∙ ap (λ q. item_at q.problem n) own) in
    moves j (at ∙ sym (fit j)) ∙ fit (j + 1)
    ∙ sym (ap (λ b. stand_after now.rollout.problem now.rollout.plan (item_at now.rollout.problem n) (if b then j + 1 else j)) flies)

-- what a walk finds, told by the item's number
pub moved-by : (r s : Rollout) (xs : List Item) (i : ℕ) (d : Item) (here there x : ℕ) → r ≡ s → AreItems r.problem (item_count r.problem) xs → i < item_count r.problem → here ≡ there
    → ((j : ℕ) → here ≡ stand_after r.problem r.plan (get_or xs i d) j → x ≡ stand_after r.problem r.plan (get_or xs i d) (j + 1))
    → (j : ℕ) → there ≡ stand_after s.problem s.plan (item_at s.problem i) j → x ≡ stand_after s.problem s.plan (item_at s.problem i) (j + 1)
moved-by r s xs i d here there x own are lt at moves j stands =
    let fit : (k : ℕ) → stand_after r.problem r.plan (get_or xs i d) k ≡ stand_after s.problem s.plan (item_at s.problem i) k =
    λ k. ap₂ (λ q a. stand_after q.problem q.plan a k) own (are.each i d lt ∙ ap (λ q. item_at q.problem i) own) in
    moves j (at ∙ stands ∙ sym (fit j)) ∙ fit (j + 1)

-- an entry more is counted
module _ (was : Coursed) (rows : List Item) (stages : List ℕ) (is : IsCourse was rows stages) (h : History) (k : ℕ) (e : Entry) (lt : k < length h.entries) (at : get_or h.entries k e ≡ e)
    (counts : Counted) (old : AreCountsOf was.rollout.problem (front h k) was.counts) (new : AreCountsOf was.rollout.problem (front h (k + 1)) counts) where
  settled-by : (n : ℕ) → n < item_count was.rollout.problem → get_or counts.settled n 0 ≡ get_or was.counts.settled n 0 + dones_in (e ∷ []) n
  settled-by n low =
      new.counts.settled n (omega (arith, new.all_settled, low)) ∙ settled-more h k n e lt at
      ∙ ap (λ x. x + dones_in (e ∷ []) n) (sym (old.counts.settled n (omega (arith, old.all_settled, low))))

  stays : (n : ℕ) → n < item_count was.rollout.problem → dones_in (e ∷ []) n ≡ 0 → get_or stages n 0 ≡ here_of (record { rollout = was.rollout; counts = counts }) n
  stays n low none =
      let same : get_or was.counts.settled n 0 ≡ get_or counts.settled n 0 = omega (arith, settled-by n low, none) in
      is.stands n low ∙ ap (stand_after was.rollout.problem was.rollout.plan (item_at was.rollout.problem n)) same

  -- none of these items has an operation more that is settled
  pub stands-kept : ((n : ℕ) → n < item_count was.rollout.problem → dones_in (e ∷ []) n ≡ 0) → IsCourse (record { rollout = was.rollout; counts = counts }) rows stages
  stands-kept none = record {
    network = is.network;
    all_settled = new.all_settled;
    all_begun = new.all_begun;
    items = is.items;
    all_stands = is.all_stands;
    stands = λ n low. stays n low (none n low);
  }

  -- one of them has
  pub stands-moved : (op : Op) (x : ℕ) → e ≡ Done op → op.item < item_count was.rollout.problem
      → ((j : ℕ) → get_or stages op.item 0 ≡ stand_after was.rollout.problem was.rollout.plan (item_at was.rollout.problem op.item) j → x ≡ stand_after was.rollout.problem was.rollout.plan (item_at was.rollout.problem op.item) (j + 1))
      → IsCourse (record { rollout = was.rollout; counts = counts }) rows (set stages op.item x)
  stands-moved op x done low moves = record {
    network = is.network;
    all_settled = new.all_settled;
    all_begun = new.all_begun;
    items = is.items;
    all_stands = length-set stages op.item x ∙ is.all_stands;
    stands = λ n small. elim (cases_Bool (op.item == n)) as (λ c. get_or (set stages op.item x) n 0 ≡ here_of (record { rollout = was.rollout; counts = counts }) n) [
      | inl q ↦
          let own : op.item ≡ n = eqb-true op.item n q in
          let same : (op.item == op.item) ≡ true = eq-eqb op.item op.item refl in
          let one : dones_in (e ∷ []) op.item ≡ 1 = ap (λ d. dones_in (d ∷ []) op.item) done ∙ ap (λ b. (if b then 1 else 0) + 0) same in
          let more : get_or was.counts.settled op.item 0 + 1 ≡ get_or counts.settled op.item 0 = omega (arith, settled-by op.item low, one) in
          subst (λ m. get_or (set stages op.item x) m 0 ≡ here_of (record { rollout = was.rollout; counts = counts }) m) own
          (get_or-set_same stages op.item x 0 (omega (arith, is.all_stands, low)) ∙ moves (get_or was.counts.settled op.item 0) (is.stands op.item low)
          ∙ ap (stand_after was.rollout.problem was.rollout.plan (item_at was.rollout.problem op.item)) more)
      | inr q ↦
          let other : op.item ≡ n → ⊥ = λ i. unequal_clash op.item n i q in
          get_or-set_other stages op.item n x 0 (λ i. other (sym i)) ∙ stays n small (ap (λ d. dones_in (d ∷ []) n) done ∙ settled-other (Done op) n other)
    ];
  }

-- where an item stands after a history, and where it does next
module _ (r : Rollout) (c : Coursed) (g : History) (n m : ℕ) (i : Item) (x : ℕ) (own : c.rollout ≡ r) (counts : AreCountsOf r.problem g c.counts) (lt : n < item_count r.problem) (same : n ≡ m) (is : i ≡ item_at r.problem n) where
  settled-told : get_or c.counts.settled n 0 ≡ settled g m
  settled-told = counts.counts.settled n (omega (arith, counts.all_settled, lt)) ∙ ap (settled g) same

  begun-told : get_or c.counts.begun n 0 ≡ begun g m
  begun-told = counts.counts.begun n (omega (arith, counts.all_begun, lt)) ∙ ap (begun g) same

  pub here-told : x ≡ here_of c n → x ≡ stand_after r.problem r.plan i (settled g m)
  here-told at =
      at ∙ ap (λ q. stand_after q.problem q.plan (item_at q.problem n) (get_or c.counts.settled n 0)) own
      ∙ ap₂ (λ a s. stand_after r.problem r.plan a s) (sym is) settled-told

  pub next-told : x ≡ next_of c n → x ≡ next_stand r.problem r.plan i (settled g m) (begun g m)
  next-told at =
      at ∙ ap (λ q. next_stand q.problem q.plan (item_at q.problem n) (get_or c.counts.settled n 0) (get_or c.counts.begun n 0)) own
      ∙ ap (λ a. next_stand r.problem r.plan a (get_or c.counts.settled n 0) (get_or c.counts.begun n 0)) (sym is)
      ∙ ap₂ (λ s b. next_stand r.problem r.plan i s b) settled-told begun-told
