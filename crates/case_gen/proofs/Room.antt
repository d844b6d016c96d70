-- That a case has the slack and the table room which it is made for.
use Rattle.std.proofs.Common.{◌≡◌, ℕ, ◌+◌, ◌-◌, ◌*◌, ◌<◌, ◌≤◌, max, Bool, true, false, ◌&&◌, ◌==◌, List, length, slice_index, slice_index_or, nat_le, if◌then◌else◌, sym, ap, ◌∙◌, subst, arith, le-leb}
use Rattle.std.proofs.Math.Nat.{div-add-mod, le-max_left, le-max_right, mod-lt, mul-le-mul_left}
use Rattle.std.proofs.lemmas.Bool.{and_from}
use Rattle.rand_pcg.specs.Lcg.{Lcg}
use Rattle.rollout_rules.specs.Items.{entries_at}
use Rattle.rollout_rules.specs.Slack.{has_slack, has_table_room, is_wanted_or_carrying, new_load, old_load, was_installed}
use Rattle.rollout_rules.specs.Sums.{list_below}
use Rattle.rollout_rules.specs.Wan.{Link, Problem, Switch, hops, link_at, no_link, no_switch, switch_at, switch_of, width_of}
use Rattle.rollout_rules.proofs.Below.{all_below-from, sum_below-mono}
use Rattle.rollout_rules.proofs.Rows.{list_below-at, list_below-length}
use Rattle.case_gen.specs.Cases.{bare_ring, capacity_for, case, least_capacity, table_for}
use Rattle.case_gen.specs.Rings.{link_with, links_below, switch_with, switches_below}
use Rattle.case_gen.specs.Trips.{trips_drawn}

-- the least capacity leaves a share 1/k of it free
enough : (k load most : ℕ) → 2 ≤ k → load ≤ most → k * load ≤ (k - 1) * least_capacity k most
enough k load most some fits =
    omega (arith, div-add-mod (k * most + (k - 2)) (k - 1), mod-lt (k * most + (k - 2)) {m = k - 1} (omega arith), mul-le-mul_left k fits)

-- fewer entries take no more of a table
fewer : (a b : Bool) (width : ℕ) → (if a && b then width else 0) ≤ (if a && true then width else 0)
fewer true true width = omega arith
fewer true false width = omega arith
fewer false true width = omega arith
fewer false false width = omega arith

entries-most : (p : Problem) (there : ℕ → ℕ → Bool) (w : ℕ) → entries_at p there w ≤ table_for p w
entries-most p there w =
    sum_below-mono (length p.tunnels) _ _ (λ t inside. sum_below-mono (hops p t) _ _ (λ h within. fewer (switch_of p t h == w) (there t h) (width_of p t)))

module _ (k switches flows : ℕ) (draws : Lcg) where
  abbrev bare : Problem
  bare = bare_ring switches (trips_drawn draws switches flows)

  abbrev tables : List ℕ
  tables = list_below switches (table_for bare)

  abbrev capacities : List ℕ
  capacities = list_below (2 * switches) (capacity_for k bare)

  length-switches : length (switches_below tables switches) ≡ switches
  unfolding switches_below
  length-switches = list_below-length switches (λ v. switch_with v (slice_index tables v))

  length-links : length (links_below switches capacities (2 * switches)) ≡ 2 * switches
  unfolding links_below
  length-links = list_below-length (2 * switches) (λ l. link_with switches l (slice_index capacities l))

  table-is : (w : ℕ) → w < switches → (slice_index_or (switches_below tables switches) w no_switch).table ≡ table_for bare w
  unfolding switches_below
  table-is w lt =
      ap (λ (s : Switch). s.table) (list_below-at switches (λ v. switch_with v (slice_index tables v)) w no_switch lt)
      ∙ list_below-at switches (table_for bare) w 0 lt

  capacity-is : (l : ℕ) → l < 2 * switches → (slice_index_or (links_below switches capacities (2 * switches)) l no_link).capacity ≡ capacity_for k bare l
  unfolding links_below
  capacity-is l lt =
      ap (λ (m : Link). m.capacity) (list_below-at (2 * switches) (λ m. link_with switches m (slice_index capacities m)) l no_link lt)
      ∙ list_below-at (2 * switches) (capacity_for k bare) l 0 lt

  pub room : has_table_room (case k switches flows draws) ≡ true
  unfolding case
  room =
      let made = case k switches flows draws in
      all_below-from (length made.switches) (λ w. nat_le (entries_at made (was_installed made) w) (switch_at made w).table && nat_le (entries_at made (is_wanted_or_carrying made) w) (switch_at made w).table) (λ w inside.
      let lt : w < switches = omega (arith, length-switches, inside) in
      let table : (switch_at made w).table ≡ table_for bare w = table-is w lt in
      let old : entries_at made (was_installed made) w ≤ table_for bare w = entries-most bare (was_installed bare) w in
      let wanted : entries_at made (is_wanted_or_carrying made) w ≤ table_for bare w = entries-most bare (is_wanted_or_carrying bare) w in
      and_from (nat_le (entries_at made (was_installed made) w) (switch_at made w).table) (nat_le (entries_at made (is_wanted_or_carrying made) w) (switch_at made w).table)
      (le-leb (entries_at made (was_installed made) w) (switch_at made w).table (subst (λ (n : ℕ). entries_at made (was_installed made) w ≤ n) (sym table) old))
      (le-leb (entries_at made (is_wanted_or_carrying made) w) (switch_at made w).table (subst (λ (n : ℕ). entries_at made (is_wanted_or_carrying made) w ≤ n) (sym table) wanted)))

  pub slack : 2 ≤ k → has_slack (case k switches flows draws) k ≡ true
  unfolding case
  slack some =
      let made = case k switches flows draws in
      all_below-from (length made.links) (λ l. nat_le (k * old_load made l) ((k - 1) * (link_at made l).capacity) && nat_le (k * new_load made l) ((k - 1) * (link_at made l).capacity)) (λ l inside.
      let lt : l < 2 * switches = omega (arith, length-links, inside) in
      let capacity : (link_at made l).capacity ≡ capacity_for k bare l = capacity-is l lt in
      let most = max (old_load bare l) (new_load bare l) in
      and_from (nat_le (k * old_load made l) ((k - 1) * (link_at made l).capacity)) (nat_le (k * new_load made l) ((k - 1) * (link_at made l).capacity))
      (le-leb (k * old_load made l) ((k - 1) * (link_at made l).capacity) (subst (λ (c : ℕ). k * old_load made l ≤ (k - 1) * c) (sym capacity) (enough k (old_load bare l) most some (le-max_left (old_load bare l) (new_load bare l)))))
      (le-leb (k * new_load made l) ((k - 1) * (link_at made l).capacity) (subst (λ (c : ℕ). k * new_load made l ≤ (k - 1) * c) (sym capacity) (enough k (new_load bare l) most some (le-max_right (old_load bare l) (new_load bare l))))))
