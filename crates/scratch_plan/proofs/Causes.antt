-- What a refusal says, and that a link is short where no share is free.
use Rattle.std.proofs.Common.{◌≡◌, ℕ, zero, suc, ◌*◌, ◌<◌, ◌≤◌, Bool, true, false, ◌&&◌, length, Option, Some, None, nat_le, refl, ap, ◌∙◌, arith, leb-true, unwrap_or}
use Rattle.std.specs.Prelude.{IsSome}
use Rattle.std.proofs.lemmas.Bool.{and_from, and_parts}
use Rattle.rollout_rules.specs.Wan.{Problem, link_at, switch_at}
use Rattle.rollout_rules.specs.Items.{entries_at}
use Rattle.rollout_rules.specs.Slack.{old_load, new_load, was_installed, is_wanted_or_carrying, has_slack, has_table_room}
use Rattle.rollout_rules.proofs.Below.{all_below-at, all_below-from}
use Rattle.wan_model.specs.declared.side.Side.{Side}
use Rattle.wan_model.specs.declared.side.Side.TheVariants.{Old, New}
use Rattle.plan_check.specs.First.{first_of, first_below, unless}
use Rattle.plan_check.specs.LeastSlack.{load_on, least_slack}
use Rattle.plan_check.proofs.Firsts.{first_below_none, first_below_some, first_of_parts}
use Rattle.plan_check.proofs.LeastSlack.{none-no_slack}
use Rattle.plan_check.proofs.Passes.{unless_passed}
use Rattle.scratch_plan.specs.Refusals.{over_on, over_capacity, overfull, table_full, refusal, short_on, first_short, has_room_for_loads, no_slack}
use Rattle.scratch_plan.specs.declared.no_plan.NoPlan.{NoPlan}
use Rattle.scratch_plan.specs.declared.no_plan.NoPlan.TheVariants.{OverCapacity, TableFull, NoSlack, Memory}

-- ---- what no refusal says
pub nothing : {A : Type 0} (o : Option A) → ((a : A) → o ≡ Some a → ⊥) → o ≡ None
nothing None none = refl
nothing (Some a) none = absurd (none a refl)

module _ (p : Problem) (free : refusal p ≡ None) where
  pub loads-fit : (l : ℕ) → l < length p.links → (old_load p l ≤ (link_at p l).capacity) × (new_load p l ≤ (link_at p l).capacity)
  loads-fit l inside =
      let c = (link_at p l).capacity in
      let both = first_of_parts (over_on p l Old) (over_on p l New) (first_below_none (λ k. first_of (over_on p k Old) (over_on p k New)) (length p.links) l inside (first_of_parts (over_capacity p) (table_full p) free).0) in (
        leb-true (old_load p l) c (unless_passed (nat_le (old_load p l) c) (OverCapacity l Old (old_load p l) c) both.0),
        leb-true (new_load p l) c (unless_passed (nat_le (new_load p l) c) (OverCapacity l New (new_load p l) c) both.1),
      )

  pub room : has_table_room p ≡ true
  room = all_below-from (length p.switches) (λ w. nat_le (entries_at p (was_installed p) w) (switch_at p w).table && nat_le (entries_at p (is_wanted_or_carrying p) w) (switch_at p w).table) (λ w inside.
      let first = entries_at p (was_installed p) w in
      let moving = entries_at p (is_wanted_or_carrying p) w in
      let size = (switch_at p w).table in
      let both = first_of_parts (overfull p w first) (overfull p w moving) (first_below_none (λ v. first_of (overfull p v (entries_at p (was_installed p) v)) (overfull p v (entries_at p (is_wanted_or_carrying p) v))) (length p.switches) w inside (first_of_parts (over_capacity p) (table_full p) free).1) in
      and_from (nat_le first size) (nat_le moving size) (unless_passed (nat_le first size) (TableFull w first size) both.0) (unless_passed (nat_le moving size) (TableFull w moving size) both.1))

-- ---- and where nothing is refused
none_below : {A : Type 0} (n : ℕ) (f : ℕ → Option A) → ((k : ℕ) → k < n → f k ≡ None) → first_below n f ≡ None
none_below zero f none = refl
none_below (suc n) f none = ap (λ o. first_of o (f n)) (none_below n f (λ k lt. none k (omega arith))) ∙ none n (omega arith)

no_two : {A : Type 0} (a b : Option A) → a ≡ None → b ≡ None → first_of a b ≡ None
no_two a b e f = ap (λ o. first_of o b) e ∙ f

passes : {A : Type 0} (b : Bool) (a : A) → b ≡ true → unless b a ≡ None
passes b a e = ap (λ c. unless c a) e

pub nothing_refused : (p : Problem) → has_room_for_loads p ≡ true → has_table_room p ≡ true → refusal p ≡ None
nothing_refused p loads tables =
    no_two (over_capacity p) (table_full p)
    (none_below (length p.links) (λ l. first_of (over_on p l Old) (over_on p l New)) (λ l inside.
    let c = (link_at p l).capacity in
    let both = and_parts (nat_le (old_load p l) c) (nat_le (new_load p l) c) (all_below-at (length p.links) (λ k. nat_le (old_load p k) (link_at p k).capacity && nat_le (new_load p k) (link_at p k).capacity) loads l inside) in
    no_two (over_on p l Old) (over_on p l New)
    (passes (nat_le (old_load p l) c) (OverCapacity l Old (old_load p l) c) both.0)
    (passes (nat_le (new_load p l) c) (OverCapacity l New (new_load p l) c) both.1)))
    (none_below (length p.switches) (λ w. first_of (overfull p w (entries_at p (was_installed p) w)) (overfull p w (entries_at p (is_wanted_or_carrying p) w))) (λ w inside.
    let first = entries_at p (was_installed p) w in
    let moving = entries_at p (is_wanted_or_carrying p) w in
    let size = (switch_at p w).table in
    let both = and_parts (nat_le first size) (nat_le moving size) (all_below-at (length p.switches) (λ v. nat_le (entries_at p (was_installed p) v) (switch_at p v).table && nat_le (entries_at p (is_wanted_or_carrying p) v) (switch_at p v).table) tables w inside) in
    no_two (overfull p w first) (overfull p w moving) (passes (nat_le first size) (TableFull w first size) both.0) (passes (nat_le moving size) (TableFull w moving size) both.1)))

-- ---- a link is short where no share is free
all-slack : (p : Problem) → first_short p ≡ None → has_slack p 64 ≡ true
all-slack p none = all_below-from (length p.links) (λ l. nat_le (64 * old_load p l) (63 * (link_at p l).capacity) && nat_le (64 * new_load p l) (63 * (link_at p l).capacity)) (λ l inside.
    let c = (link_at p l).capacity in
    let both = first_of_parts (short_on p l Old) (short_on p l New) (first_below_none (λ k. first_of (short_on p k Old) (short_on p k New)) (length p.links) l inside none) in
    and_from (nat_le (64 * old_load p l) (63 * c)) (nat_le (64 * new_load p l) (63 * c))
    (unless_passed (nat_le (64 * old_load p l) (63 * c)) (NoSlack l Old (old_load p l) c) both.0)
    (unless_passed (nat_le (64 * new_load p l) (63 * c)) (NoSlack l New (new_load p l) c) both.1))

pub some-short : (p : Problem) → least_slack p ≡ None → first_short p ≡ None → ⊥
some-short p none short = clash (has_slack p 64) (none-no_slack p 64 (omega arith) (omega arith) none) (all-slack p short)
  where
    clash : (b : Bool) → b ≡ false → b ≡ true → ⊥
    clash b e f = cc

pub one_short : (p : Problem) → least_slack p ≡ None → IsSome (first_short p)
one_short p none = there (first_short p) (some-short p none)
  where
    there : (o : Option NoPlan) → (o ≡ None → ⊥) → IsSome o
    there None e = absurd (e refl)
    there (Some c) e = refl

-- ---- a cause never speaks of memory
either : {A : Type 0} (a b : Option A) (x : A) → (a ≡ Some x → ⊥) → (b ≡ Some x → ⊥) → first_of a b ≡ Some x → ⊥
either None b x not_a not_b e = not_b e
either (Some y) b x not_a not_b e = not_a e

over_tells : (p : Problem) (l : ℕ) (side : Side) → over_on p l side ≡ Some Memory → ⊥
over_tells p l side e = says (nat_le (load_on side p l) (link_at p l).capacity) e
  where
    says : (b : Bool) → unless b (OverCapacity l side (load_on side p l) (link_at p l).capacity) ≡ Some Memory → ⊥
    says true f = cc
    says false f = cc

short_tells : (p : Problem) (l : ℕ) (side : Side) → short_on p l side ≡ Some Memory → ⊥
short_tells p l side e = says (nat_le (64 * load_on side p l) (63 * (link_at p l).capacity)) e
  where
    says : (b : Bool) → unless b (NoSlack l side (load_on side p l) (link_at p l).capacity) ≡ Some Memory → ⊥
    says true f = cc
    says false f = cc

full_tells : (p : Problem) (w entries : ℕ) → overfull p w entries ≡ Some Memory → ⊥
full_tells p w entries e = says (nat_le entries (switch_at p w).table) e
  where
    says : (b : Bool) → unless b (TableFull w entries (switch_at p w).table) ≡ Some Memory → ⊥
    says true f = cc
    says false f = cc

pub refusal_tells : (p : Problem) → refusal p ≡ Some Memory → ⊥
refusal_tells p =
    either (over_capacity p) (table_full p) Memory
    (λ e. let there = first_below_some (λ l. first_of (over_on p l Old) (over_on p l New)) (length p.links) Memory e in
    either (over_on p there.0 Old) (over_on p there.0 New) Memory (over_tells p there.0 Old) (over_tells p there.0 New) there.2)
    (λ e. let there = first_below_some (λ w. first_of (overfull p w (entries_at p (was_installed p) w)) (overfull p w (entries_at p (is_wanted_or_carrying p) w))) (length p.switches) Memory e in
    either (overfull p there.0 (entries_at p (was_installed p) there.0)) (overfull p there.0 (entries_at p (is_wanted_or_carrying p) there.0)) Memory
    (full_tells p there.0 (entries_at p (was_installed p) there.0)) (full_tells p there.0 (entries_at p (is_wanted_or_carrying p) there.0)) there.2)

first_short_tells : (p : Problem) → first_short p ≡ Some Memory → ⊥
first_short_tells p e =
    let there = first_below_some (λ l. first_of (short_on p l Old) (short_on p l New)) (length p.links) Memory e in
    either (short_on p there.0 Old) (short_on p there.0 New) Memory (short_tells p there.0 Old) (short_tells p there.0 New) there.2

pub no_slack_tells : (p : Problem) → least_slack p ≡ None → no_slack p ≡ Memory → ⊥
no_slack_tells p none = says (first_short p) (some-short p none) (first_short_tells p)
  where
    says : (o : Option NoPlan) → (o ≡ None → ⊥) → (o ≡ Some Memory → ⊥) → unwrap_or o Memory ≡ Memory → ⊥
    says None some told e = some refl
    says (Some cause) some told e = told (ap Some e)
