-- Each limit in the subject's words: its row holds at a point exactly where these do of its units.
use Rattle.std.proofs.Common.{◌≡◌, ◌≢◌, ℕ, ◌+◌, ◌-◌, ◌*◌, ◌<◌, ◌≤◌, ◌⊎◌, inl, inr, min, max, Bool, true, false, pos, neg_ℤ, List, length, if◌then◌else◌, ap, ◌∙◌, sym, refl, arith}
use Rattle.std.specs.Prelude.{◌==◌, ◌&&◌, nat_lt}
use Rattle.std.proofs.lemmas.Bool.{cases_lt, cases_order, eqb-true, ne_eqb, eq-eqb, lt-ltb, le-ltb}
use borrow.Author.Differences.{up, down, neg_is}
use Rattle.lists.proofs.Conditions.{and_both}
use Rattle.rollout_rules.specs.Sums.{sum_below}
use Rattle.rollout_rules.specs.Wan.{Problem, tunnel_at, link_at, old_rate, new_rate, crosses}
use Rattle.rollout_rules.specs.Items.{load}
use Rattle.rollout_rules.specs.Valid.{flow_total}
use Rattle.rollout_rules.specs.Network.{IsNetwork}
use Rattle.rollout_rules.proofs.Below.{sum_below-same, sum_below-zero}
use Rattle.fraction_lp.specs.Ratio.{Ratio}
use Rattle.fraction_lp.specs.Program.{dot, RowHolds}
use Rattle.step_lp.specs.declared.limit.Limit.{Limit}
use Rattle.step_lp.specs.declared.limit.Limit.TheVariants.{Top, Link, Least, Most}
use Rattle.step_lp.specs.Program.{rate_blocks, blocks, top_block, is_block_of, belongs, is_added, is_taken, known_rate, old_sum, new_sum, bound_of, row_of}
use Rattle.step_lp.specs.Moves.{rate_in, top_in, HasUnits}
use Rattle.step_lp.proofs.Sums.{one_block, one_tunnel, one_flow}
use Rattle.step_lp.proofs.Tellings.{plus_part, minus_part, at_most_whole, whole_at_least}
use Rattle.step_lp.proofs.Standing.{added_units, taken_units, told_row}

-- ---- a row as an inequality of units

abbrev pub InUnits : Problem → ℕ → ℕ → (ℕ → ℕ → ℕ) → Limit → Type 0
InUnits p q scale n limit = added_units p q n limit + down (bound_of p q limit) * scale ≤ up (bound_of p q limit) * scale + taken_units p q n limit

pub row_in_units : (p : Problem) (q scale : ℕ) (n : ℕ → ℕ → ℕ) (xs : List Ratio) (limit : Limit) → HasUnits p q scale n xs →
    RowHolds xs (row_of p q limit) → InUnits p q scale n limit
row_in_units p q scale n xs limit units h =
    whole_at_least (dot (row_of p q limit).coefficients xs) (bound_of p q limit) (added_units p q n limit) (taken_units p q n limit) scale (told_row p q scale n xs limit units) h

pub row_from_units : (p : Problem) (q scale : ℕ) (n : ℕ → ℕ → ℕ) (xs : List Ratio) (limit : Limit) → HasUnits p q scale n xs →
    InUnits p q scale n limit → RowHolds xs (row_of p q limit)
row_from_units p q scale n xs limit units h =
    at_most_whole (dot (row_of p q limit).coefficients xs) (bound_of p q limit) (added_units p q n limit) (taken_units p q n limit) scale (told_row p q scale n xs limit units) h

-- ---- which blocks count

pub no_units : (m T : ℕ) (f : ℕ → ℕ → ℕ) → ((b t : ℕ) → f b t ≡ 0) → sum_below m (λ b. sum_below T (f b)) ≡ 0
no_units m T f h = sum_below-zero m (λ b. sum_below T (f b)) (λ b low. sum_below-zero T (f b) (λ t lt. h b t))

-- in the sum over a block of rates
rates_of_block : (q a b T : ℕ) (test : ℕ → Bool) (n : ℕ → ℕ → ℕ) → 0 < a → a < q → (t : ℕ) →
    plus_part (is_block_of q a b && test t) (n b t) ≡ (if (b == (a - 1)) && test t then n b t else 0)
rates_of_block q a b T test n some low t = elim (cases_order b (a - 1)) as (λ c. plus_part (is_block_of q a b && test t) (n b t) ≡ (if (b == (a - 1)) && test t then n b t else 0)) [
  | inl at ↦
      let first : nat_lt b (rate_blocks q) ≡ true = lt-ltb b (rate_blocks q) (omega arith) in
      let second : ((b + 1) == a) ≡ true = eq-eqb (b + 1) a (omega arith) in
      let third : (b == (a - 1)) ≡ true = eq-eqb b (a - 1) at in
      rw first (rw second (rw third refl))
  | inr other ↦
      let differ : b ≢ a - 1 = λ (e : b ≡ a - 1). not_both other e in
      let second : ((b + 1) == a) ≡ false = ne_eqb (b + 1) a (λ (e : b + 1 ≡ a). differ (omega arith)) in
      let third : (b == (a - 1)) ≡ false = ne_eqb b (a - 1) differ in
      rw second (rw third (by_test (nat_lt b (rate_blocks q))))
]
  where
    not_both : (b < a - 1) ⊎ (a - 1 < b) → b ≡ a - 1 → ⊥
    not_both (inl x) e = omega arith
    not_both (inr x) e = omega arith

    by_test : (c : Bool) → plus_part ((c && false) && test t) (n b t) ≡ 0
    by_test true = refl
    by_test false = refl

pub stage_units : (q a T : ℕ) (test : ℕ → Bool) (n : ℕ → ℕ → ℕ) → 0 < a → a < q →
    sum_below (blocks q) (λ b. sum_below T (λ t. plus_part (is_block_of q a b && test t) (n b t))) ≡ sum_below T (λ t. if test t then n (a - 1) t else 0)
stage_units q a T test n some low =
    sum_below-same (blocks q) (λ b. sum_below T (λ t. plus_part (is_block_of q a b && test t) (n b t))) (λ b. sum_below T (λ t. if (b == (a - 1)) && test t then n b t else 0))
    (λ b inside. sum_below-same T (λ t. plus_part (is_block_of q a b && test t) (n b t)) (λ t. if (b == (a - 1)) && test t then n b t else 0) (λ t lt. rates_of_block q a b T test n some low t))
    ∙ one_block (blocks q) (a - 1) T test n (omega arith)

-- no block has the rates of the first and the last stage
pub no_stage_units : (q a T : ℕ) (test : ℕ → Bool) (n : ℕ → ℕ → ℕ) → (a ≡ 0) ⊎ (q ≤ a) →
    sum_below (blocks q) (λ b. sum_below T (λ t. plus_part (is_block_of q a b && test t) (n b t))) ≡ 0
no_stage_units q a T test n known = no_units (blocks q) T (λ b t. plus_part (is_block_of q a b && test t) (n b t)) none
  where
    differs : (b : ℕ) → b < rate_blocks q → (a ≡ 0) ⊎ (q ≤ a) → b + 1 ≡ a → ⊥
    differs b lt (inl e) f = omega arith
    differs b lt (inr h) f = omega arith

    none : (b t : ℕ) → plus_part (is_block_of q a b && test t) (n b t) ≡ 0
    none b t = elim (cases_lt b (rate_blocks q)) as (λ c. plus_part (is_block_of q a b && test t) (n b t) ≡ 0) [
      | inl lt ↦
          let first : nat_lt b (rate_blocks q) ≡ true = lt-ltb b (rate_blocks q) lt in
          let second : ((b + 1) == a) ≡ false = ne_eqb (b + 1) a (λ (e : b + 1 ≡ a). differs b lt known e) in
          rw first (rw second refl)
      | inr ge ↦
          let first : nat_lt b (rate_blocks q) ≡ false = le-ltb b (rate_blocks q) ge in
          rw first refl
    ]

-- ---- tops

-- what is known of a rate stands in the bound, and else in its block
pub rate_units : (p : Problem) (q scale a u : ℕ) (n : ℕ → ℕ → ℕ) → 0 < q → a ≤ q → u < length p.tunnels →
    sum_below (blocks q) (λ b. sum_below (length p.tunnels) (λ t. plus_part (is_block_of q a b && (t == u)) (n b t))) + known_rate p q a u * scale ≡ rate_in p q scale n a u
rate_units p q scale a u n some le lt = by_zero (cases_lt 0 a)
  where
    units : ℕ
    units = sum_below (blocks q) (λ b. sum_below (length p.tunnels) (λ t. plus_part (is_block_of q a b && (t == u)) (n b t)))

    turned : (k rate : ℕ) → k ≡ 0 → k + rate * scale ≡ scale * rate
    turned k rate e = omega arith

    alone : (k m : ℕ) → k ≡ m → k + 0 * scale ≡ m
    alone k m e = omega arith

    by_end : 0 < a → (a < q) ⊎ (q ≤ a) → units + known_rate p q a u * scale ≡ rate_in p q scale n a u
    by_end h (inl low) =
        let first : (a == 0) ≡ false = ne_eqb a 0 (λ (e : a ≡ 0). omega arith) in
        let last : (a == q) ≡ false = ne_eqb a q (λ (e : a ≡ q). omega arith) in
        rw first (rw last (alone units (n (a - 1) u) (stage_units q a (length p.tunnels) (λ t. t == u) n h low ∙ one_tunnel (length p.tunnels) u (n (a - 1)) lt)))
    by_end h (inr top) =
        let first : (a == 0) ≡ false = ne_eqb a 0 (λ (e : a ≡ 0). omega arith) in
        let last : (a == q) ≡ true = eq-eqb a q (omega arith) in
        rw first (rw last (turned units (new_rate (tunnel_at p u)) (no_stage_units q a (length p.tunnels) (λ t. t == u) n (inr top))))

    by_zero : (0 < a) ⊎ (a ≤ 0) → units + known_rate p q a u * scale ≡ rate_in p q scale n a u
    by_zero (inl h) = by_end h (cases_lt a q)
    by_zero (inr h) =
        let first : (a == 0) ≡ true = eq-eqb a 0 (omega arith) in
        rw first (turned units (old_rate (tunnel_at p u)) (no_stage_units q a (length p.tunnels) (λ t. t == u) n (inl (omega arith))))

minus-alone : (added taken : Bool) (n : ℕ) → (taken ≡ true → added ≡ false) → minus_part added taken n ≡ (if taken then n else 0)
minus-alone true true n h = absurd (true_is_not_false (h refl))
  where
    true_is_not_false : true ≡ false → ⊥
    true_is_not_false e = cc
minus-alone true false n h = refl
minus-alone false true n h = refl
minus-alone false false n h = refl

pub top_units : (p : Problem) (q s a u : ℕ) (n : ℕ → ℕ → ℕ) → 0 < q → s < q → u < length p.tunnels → taken_units p q n (Top s a u) ≡ top_in q n s u
top_units p q s a u n some low lt =
    sum_below-same (blocks q) (λ b. sum_below (length p.tunnels) (λ t. minus_part (is_added p q (Top s a u) b t) (is_taken p q (Top s a u) b t) (n b t)))
    (λ b. sum_below (length p.tunnels) (λ t. if (b == top_block q s) && (t == u) then n b t else 0))
    (λ b inside. sum_below-same (length p.tunnels) (λ t. minus_part (is_added p q (Top s a u) b t) (is_taken p q (Top s a u) b t) (n b t)) (λ t. if (b == top_block q s) && (t == u) then n b t else 0)
    (λ t known. minus-alone (is_added p q (Top s a u) b t) (is_taken p q (Top s a u) b t) (n b t) (λ e. apart b t e)))
    ∙ one_block (blocks q) (top_block q s) (length p.tunnels) (λ t. t == u) n (omega arith)
    ∙ one_tunnel (length p.tunnels) u (n (top_block q s)) lt
  where
    apart : (b t : ℕ) → ((b == top_block q s) && (t == u)) ≡ true → is_added p q (Top s a u) b t ≡ false
    apart b t e =
        let at : b ≡ top_block q s = eqb-true b (top_block q s) (and_both (b == top_block q s) (t == u) e).0 in
        let above : nat_lt b (rate_blocks q) ≡ false = le-ltb b (rate_blocks q) (omega arith) in
        rw above refl

known_down : (k : ℕ) → (up (neg_ℤ (pos k)) ≡ 0) × (down (neg_ℤ (pos k)) ≡ k)
known_down k = neg_is (pos k)

pub top_holds : (p : Problem) (q scale s a u : ℕ) (n : ℕ → ℕ → ℕ) → s < q → a ≤ q → u < length p.tunnels →
    InUnits p q scale n (Top s a u) → rate_in p q scale n a u ≤ top_in q n s u
top_holds p q scale s a u n low le lt h =
    plain (added_units p q n (Top s a u)) (taken_units p q n (Top s a u)) (known_rate p q a u) scale (rate_in p q scale n a u) (top_in q n s u)
    (up (bound_of p q (Top s a u))) (down (bound_of p q (Top s a u))) (known_down (known_rate p q a u)).0 (known_down (known_rate p q a u)).1
    (rate_units p q scale a u n (omega arith) le lt) (top_units p q s a u n (omega arith) low lt) h
  where
    plain : (x y k scale r t v w : ℕ) → v ≡ 0 → w ≡ k → x + k * scale ≡ r → y ≡ t → x + w * scale ≤ v * scale + y → r ≤ t
    plain x y k scale r t v w a b c d h = rw (sym c) (rw (sym d) (rw (sym b) (drop_zero (ap (λ k. k * scale) a) h)))
      where
        drop_zero : v * scale ≡ 0 * scale → x + w * scale ≤ v * scale + y → x + w * scale ≤ y
        drop_zero e h = omega arith

pub holds_top : (p : Problem) (q scale s a u : ℕ) (n : ℕ → ℕ → ℕ) → s < q → a ≤ q → u < length p.tunnels →
    rate_in p q scale n a u ≤ top_in q n s u → InUnits p q scale n (Top s a u)
holds_top p q scale s a u n low le lt h =
    plain (added_units p q n (Top s a u)) (taken_units p q n (Top s a u)) (known_rate p q a u) scale (rate_in p q scale n a u) (top_in q n s u)
    (up (bound_of p q (Top s a u))) (down (bound_of p q (Top s a u))) (known_down (known_rate p q a u)).1
    (rate_units p q scale a u n (omega arith) le lt) (top_units p q s a u n (omega arith) low lt) h
  where
    plain : (x y k scale r t v w : ℕ) → w ≡ k → x + k * scale ≡ r → y ≡ t → r ≤ t → x + w * scale ≤ v * scale + y
    plain x y k scale r t v w b c d h = rw b (omega arith)

-- ---- links

pub link_units : (p : Problem) (q s l : ℕ) (n : ℕ → ℕ → ℕ) → 0 < q → s < q → added_units p q n (Link s l) ≡ load p (top_in q n s) l
link_units p q s l n some low = one_block (blocks q) (top_block q s) (length p.tunnels) (λ t. crosses p t l) n (omega arith)

no_minus : (added : Bool) (n : ℕ) → minus_part added false n ≡ 0
no_minus true n = refl
no_minus false n = refl

pub link_holds : (p : Problem) (q scale s l : ℕ) (n : ℕ → ℕ → ℕ) → s < q → InUnits p q scale n (Link s l) → load p (top_in q n s) l ≤ scale * (link_at p l).capacity
link_holds p q scale s l n low h =
    plain (added_units p q n (Link s l)) (taken_units p q n (Link s l)) (link_at p l).capacity scale (load p (top_in q n s) l)
    (link_units p q s l n (omega arith) low) (no_units (blocks q) (length p.tunnels) (λ b t. minus_part (is_added p q (Link s l) b t) false (n b t)) (λ b t. no_minus (is_added p q (Link s l) b t) (n b t))) h
  where
    plain : (x y c scale r : ℕ) → x ≡ r → y ≡ 0 → x + 0 * scale ≤ c * scale + y → r ≤ scale * c
    plain x y c scale r a b h = omega arith

pub holds_link : (p : Problem) (q scale s l : ℕ) (n : ℕ → ℕ → ℕ) → s < q → load p (top_in q n s) l ≤ scale * (link_at p l).capacity → InUnits p q scale n (Link s l)
holds_link p q scale s l n low h =
    plain (added_units p q n (Link s l)) (taken_units p q n (Link s l)) (link_at p l).capacity scale (load p (top_in q n s) l) (link_units p q s l n (omega arith) low) h
  where
    plain : (x y c scale r : ℕ) → x ≡ r → r ≤ scale * c → x + 0 * scale ≤ c * scale + y
    plain x y c scale r a h = omega arith

-- ---- totals

pub flow_units : (p : Problem) (q scale a f : ℕ) (n : ℕ → ℕ → ℕ) → IsNetwork p → 0 < a → a < q → f < length p.flows →
    sum_below (blocks q) (λ b. sum_below (length p.tunnels) (λ t. plus_part (is_block_of q a b && belongs p t f) (n b t))) ≡ flow_total p (rate_in p q scale n a) f
flow_units p q scale a f n net some low lt =
    stage_units q a (length p.tunnels) (λ t. belongs p t f) n some low
    ∙ one_flow p (n (a - 1)) f net lt
    ∙ between
  where
    between : flow_total p (n (a - 1)) f ≡ flow_total p (rate_in p q scale n a) f
    between =
        let first : (a == 0) ≡ false = ne_eqb a 0 (λ (e : a ≡ 0). omega arith) in
        let last : (a == q) ≡ false = ne_eqb a q (λ (e : a ≡ q). omega arith) in
        rw first (rw last refl)

pub most_holds : (p : Problem) (q scale a f : ℕ) (n : ℕ → ℕ → ℕ) → IsNetwork p → 0 < a → a < q → f < length p.flows →
    InUnits p q scale n (Most a f) → flow_total p (rate_in p q scale n a) f ≤ scale * max (old_sum p f) (new_sum p f)
most_holds p q scale a f n net some low lt h =
    plain (added_units p q n (Most a f)) (taken_units p q n (Most a f)) (max (old_sum p f) (new_sum p f)) scale (flow_total p (rate_in p q scale n a) f)
    (flow_units p q scale a f n net some low lt)
    (no_units (blocks q) (length p.tunnels) (λ b t. minus_part (is_added p q (Most a f) b t) false (n b t)) (λ b t. no_minus (is_added p q (Most a f) b t) (n b t))) h
  where
    plain : (x y c scale r : ℕ) → x ≡ r → y ≡ 0 → x + 0 * scale ≤ c * scale + y → r ≤ scale * c
    plain x y c scale r a b h = omega arith

pub holds_most : (p : Problem) (q scale a f : ℕ) (n : ℕ → ℕ → ℕ) → IsNetwork p → 0 < a → a < q → f < length p.flows →
    flow_total p (rate_in p q scale n a) f ≤ scale * max (old_sum p f) (new_sum p f) → InUnits p q scale n (Most a f)
holds_most p q scale a f n net some low lt h =
    plain (added_units p q n (Most a f)) (taken_units p q n (Most a f)) (max (old_sum p f) (new_sum p f)) scale (flow_total p (rate_in p q scale n a) f)
    (flow_units p q scale a f n net some low lt) h
  where
    plain : (x y c scale r : ℕ) → x ≡ r → r ≤ scale * c → x + 0 * scale ≤ c * scale + y
    plain x y c scale r a h = omega arith

pub least_holds : (p : Problem) (q scale a f : ℕ) (n : ℕ → ℕ → ℕ) → IsNetwork p → 0 < a → a < q → f < length p.flows →
    InUnits p q scale n (Least a f) → scale * min (old_sum p f) (new_sum p f) ≤ flow_total p (rate_in p q scale n a) f
least_holds p q scale a f n net some low lt h =
    plain (added_units p q n (Least a f)) (taken_units p q n (Least a f)) (min (old_sum p f) (new_sum p f)) scale (flow_total p (rate_in p q scale n a) f)
    (up (bound_of p q (Least a f))) (down (bound_of p q (Least a f))) (known_down (min (old_sum p f) (new_sum p f))).0 (known_down (min (old_sum p f) (new_sum p f))).1
    (flow_units p q scale a f n net some low lt) h
  where
    plain : (x y c scale r v w : ℕ) → v ≡ 0 → w ≡ c → y ≡ r → x + w * scale ≤ v * scale + y → scale * c ≤ r
    plain x y c scale r v w a b d h = rw (sym b) (turned (ap (λ k. k * scale) a) h)
      where
        turned : v * scale ≡ 0 * scale → x + w * scale ≤ v * scale + y → scale * w ≤ r
        turned e h = omega arith

pub holds_least : (p : Problem) (q scale a f : ℕ) (n : ℕ → ℕ → ℕ) → IsNetwork p → 0 < a → a < q → f < length p.flows →
    scale * min (old_sum p f) (new_sum p f) ≤ flow_total p (rate_in p q scale n a) f → InUnits p q scale n (Least a f)
holds_least p q scale a f n net some low lt h =
    plain (added_units p q n (Least a f)) (taken_units p q n (Least a f)) (min (old_sum p f) (new_sum p f)) scale (flow_total p (rate_in p q scale n a) f)
    (up (bound_of p q (Least a f))) (down (bound_of p q (Least a f))) (known_down (min (old_sum p f) (new_sum p f))).1
    (no_units (blocks q) (length p.tunnels) (λ b t. plus_part false (n b t)) (λ b t. refl))
    (flow_units p q scale a f n net some low lt) h
  where
    plain : (x y c scale r v w : ℕ) → w ≡ c → x ≡ 0 → y ≡ r → scale * c ≤ r → x + w * scale ≤ v * scale + y
    plain x y c scale r v w b z d h = rw b (omega arith)
