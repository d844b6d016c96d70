-- Where items stand by their numbers, and what an entry more does to counts.
use mir.Val.{bool_byte}
use Rattle.std.proofs.Common.{◌≡◌, ℕ, zero, suc, ◌+◌, ◌<◌, ◌≤◌, Bool, true, false, ◌&&◌, List, [], ◌∷◌, length, length-set, get_or, set, take, slice_index, refl, sym, ap, ap₂, ◌∙◌, subst, inl, inr, arith, eq-eqb, ne_eqb, ◌==◌, if◌then◌else◌}
use Rattle.std.proofs.lemmas.Bool.{cases_eq}
use Rattle.std.proofs.lemmas.List.{get_or-set_same, get_or-set_other}
use Rattle.rollout_rules.specs.Sums.{all_below}
use Rattle.rollout_rules.specs.Wan.{Rollout, hops, last_stage}
use Rattle.rollout_rules.specs.Items.{is_item, item_count, item_at, number_of}
use Rattle.rollout_rules.specs.Operations.{operations, stand_after}
use Rattle.rollout_rules.specs.History.{History, with_entries, stand, begins_in, dones_in, settled}
use Rattle.rollout_rules.specs.Needs.{needs_met_at, needs_met}
use Rattle.rollout_rules.specs.Legal.{is_finished}
use Rattle.rollout_rules.specs.declared.item.Item.{Item}
use Rattle.rollout_rules.specs.declared.item.Item.TheVariants as item
use Rattle.rollout_rules.specs.declared.op.Op.{Op}
use Rattle.rollout_rules.specs.declared.op.Entry.{Entry}
use Rattle.rollout_rules.specs.declared.op.Entry.TheVariants.{Begin, Done}
use Rattle.rollout_rules.proofs.Numbers.{is_item-item_at, item_at-number_of, number_of-item_at}
use Rattle.rollout_rules.proofs.OverItems.{is_item-entry}
use Rattle.rollout_laws.proofs.Standing.{stand-most}
use Rattle.rollout_laws.proofs.Histories.{begun-with, settled-with}
use Rattle.dependency_graph.specs.Progress.{Counts, AreCountsOf}
use Rattle.dependency_graph.specs.Ahead.{settled_with, stand_with, places_with, all_settled, settles, starts}

-- an item read by its number is one
pub is_item-read : (r s : Rollout) (n : ℕ) (i : Item) → r ≡ s → n < item_count r.problem → i ≡ item_at s.problem n → is_item r.problem i ≡ true
is_item-read r s n i same lt is = ap (is_item r.problem) (is ∙ ap (λ q. item_at q.problem n) (sym same)) ∙ is_item-item_at r.problem n lt

pub stand_with-most : (r : Rollout) (c : Counts) (ahead : List Entry) (n : ℕ) → stand_with r c ahead n ≤ last_stage r.plan
stand_with-most r c ahead n = stand-most r.problem r.plan (item_at r.problem n) (settled_with c ahead n)

-- an entry stands where its number does
pub stand-entry : (r : Rollout) (c : Counts) (ahead : List Entry) (t h n : ℕ) → t < length r.problem.tunnels → h < hops r.problem t → n ≡ number_of r.problem (item.Entry t h) → stand_with r c ahead n ≡ stand r.problem r.plan (places_with r c ahead) (item.Entry t h)
stand-entry r c ahead t h n lt low is =
    ap (stand_with r c ahead) is
    ∙ ap (λ i. stand_after r.problem r.plan i (settled_with c ahead (number_of r.problem (item.Entry t h)))) (item_at-number_of r.problem (item.Entry t h) (is_item-entry r.problem t h lt low))

-- the needs of an item by its number
pub needs-number : (r : Rollout) (c : Counts) (ahead : List Entry) (n s : ℕ) (i : Item) → n < item_count r.problem → i ≡ item_at r.problem n → s ≡ stand_with r c ahead n → needs_met_at r.problem r.plan (places_with r c ahead) i s ≡ needs_met r.problem r.plan (places_with r c ahead) (item_at r.problem n)
needs-number r c ahead n s i lt is at =
    ap₂ (needs_met_at r.problem r.plan (places_with r c ahead)) is
    (at ∙ ap (λ m. stand_after r.problem r.plan (item_at r.problem n) (settled_with c ahead m)) (sym (number_of-item_at r.problem n lt)))

-- what one entry more settles, and begins
abbrev pub one_if : Bool → ℕ
one_if b = if b then 1 else 0

pub byte_is : (b : Bool) → bool_byte b ≡ one_if b
byte_is true = refl
byte_is false = refl

dones-more : (es : List Entry) (k n : ℕ) (d : Entry) → k < length es → dones_in (take (suc k) es) n ≡ dones_in (take k es) n + one_if (settles (get_or es k d) n)
dones-more [] k n d lt = absurd (omega arith)
dones-more (Begin op ∷ es) zero n d lt = refl
dones-more (Done op ∷ es) zero n d lt = omega arith
dones-more (Begin op ∷ es) (suc k) n d lt = dones-more es k n d (omega arith)
dones-more (Done op ∷ es) (suc k) n d lt = omega (arith, dones-more es k n d (omega arith))

begins-more : (es : List Entry) (k n : ℕ) (d : Entry) → k < length es → begins_in (take (suc k) es) n ≡ begins_in (take k es) n + one_if (starts (get_or es k d) n)
begins-more [] k n d lt = absurd (omega arith)
begins-more (Done op ∷ es) zero n d lt = refl
begins-more (Begin op ∷ es) zero n d lt = omega arith
begins-more (Done op ∷ es) (suc k) n d lt = begins-more es k n d (omega arith)
begins-more (Begin op ∷ es) (suc k) n d lt = omega (arith, begins-more es k n d (omega arith))

pub dones-next : (es : List Entry) (k n : ℕ) (d : Entry) → k < length es → dones_in (take (k + 1) es) n ≡ dones_in (take k es) n + one_if (settles (get_or es k d) n)
dones-next es k n d lt = let e : suc k ≡ k + 1 = omega arith in subst (λ m. dones_in (take m es) n ≡ dones_in (take k es) n + one_if (settles (get_or es k d) n)) e (dones-more es k n d lt)

pub begins-next : (es : List Entry) (k n : ℕ) (d : Entry) → k < length es → begins_in (take (k + 1) es) n ≡ begins_in (take k es) n + one_if (starts (get_or es k d) n)
begins-next es k n d lt = let e : suc k ≡ k + 1 = omega arith in subst (λ m. begins_in (take m es) n ≡ begins_in (take k es) n + one_if (starts (get_or es k d) n)) e (begins-more es k n d lt)

pub one_small : (b : Bool) → one_if b ≤ 1
one_small true = omega arith
one_small false = omega arith

-- all is settled by the counts where it is in the history
pub finished-counts : (c : Counts) (h : History) → AreCountsOf c h → all_settled c ≡ is_finished c.rollout.problem c.rollout.plan h
finished-counts c h so = same (item_count c.rollout.problem) (λ n lt. so.settled n lt)
  where
    same : (m : ℕ) → ((n : ℕ) → n < m → slice_index c.settled n ≡ settled h n)
        → all_below m (λ n. slice_index c.settled n == operations c.rollout.problem c.rollout.plan (item_at c.rollout.problem n))
        ≡ all_below m (λ n. settled h n == operations c.rollout.problem c.rollout.plan (item_at c.rollout.problem n))
    same zero each = refl
    same (suc m) each = ap₂ (λ a b. a && b) (same m (λ n lt. each n (omega arith))) (ap (λ x. x == operations c.rollout.problem c.rollout.plan (item_at c.rollout.problem m)) (each m (omega arith)))

-- a count that has grown by one, at one item
pub set-at : (xs : List ℕ) (i x n : ℕ) → i < length xs → x ≡ slice_index xs i + 1 → slice_index (set xs i x) n ≡ slice_index xs n + one_if (i == n)
set-at xs i x n inside is = elim (cases_eq i n) as (λ _. slice_index (set xs i x) n ≡ slice_index xs n + one_if (i == n)) [
  | inl same ↦ subst (λ m. slice_index (set xs i x) m ≡ slice_index xs m + one_if (i == m)) same (get_or-set_same xs i x 0 inside ∙ is ∙ ap (λ b. slice_index xs i + one_if b) (sym (eq-eqb i i refl)))
  | inr other ↦ get_or-set_other xs i n x 0 (λ q. other (sym q)) ∙ omega (arith, ap one_if (ne_eqb i n other))
]

abbrev counted : Rollout → List ℕ → List ℕ → Counts
counted r done opened = record { rollout = r; settled = done; begun = opened }

pub counts-begin : (r : Rollout) (done opened : List ℕ) (h : History) (e : Entry) (op : Op) (x : ℕ) → e ≡ Begin op → op.item < item_count r.problem → x ≡ slice_index opened op.item + 1 → AreCountsOf (counted r done opened) h → AreCountsOf (counted r done (set opened op.item x)) (with_entries h (e ∷ []))
counts-begin r done opened h e op x is lt more so = subst (λ y. AreCountsOf (counted r done (set opened op.item x)) (with_entries h (y ∷ []))) (sym is) (record {
  all_settled = so.all_settled;
  all_begun = length-set opened op.item x ∙ so.all_begun;
  settled = λ n here. omega (arith, so.settled n here, settled-with h (Begin op ∷ []) n);
  begun = λ n here. omega (arith, set-at opened op.item x n (omega (arith, so.all_begun)) more, so.begun n here, begun-with h (Begin op ∷ []) n);
})

pub counts-done : (r : Rollout) (done opened : List ℕ) (h : History) (e : Entry) (op : Op) (x : ℕ) → e ≡ Done op → op.item < item_count r.problem → x ≡ slice_index done op.item + 1 → AreCountsOf (counted r done opened) h → AreCountsOf (counted r (set done op.item x) opened) (with_entries h (e ∷ []))
counts-done r done opened h e op x is lt more so = subst (λ y. AreCountsOf (counted r (set done op.item x) opened) (with_entries h (y ∷ []))) (sym is) (record {
  all_settled = length-set done op.item x ∙ so.all_settled;
  all_begun = so.all_begun;
  settled = λ n here. omega (arith, set-at done op.item x n (omega (arith, so.all_settled)) more, so.settled n here, settled-with h (Done op ∷ []) n);
  begun = λ n here. omega (arith, so.begun n here, begun-with h (Done op ∷ []) n);
})
