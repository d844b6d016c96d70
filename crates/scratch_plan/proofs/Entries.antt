-- Running sums over tunnels: what each adds to the tables on its path, and what all have added.
use Rattle.std.proofs.Common.{◌≡◌, ℕ, ◌+◌, ◌*◌, ◌<◌, ◌≤◌, true, false, ◌&&◌, List, length, slice_index, ◌==◌, if◌then◌else◌, refl, ap, ◌∙◌, add-one, arith}
use Rattle.lists.proofs.Conditions.{uncounted_second}
use Rattle.rollout_rules.specs.Sums.{sum_below}
use Rattle.rollout_rules.specs.Wan.{Problem, tunnel_at, switch_of, hops, width_of}
use Rattle.rollout_rules.specs.Network.{IsNetwork}
use Rattle.rollout_rules.proofs.Below.{sum_below-zero, sum_below-same}
use Rattle.plan_check.specs.Parts.{GrownBy, added}
use Rattle.plan_check.proofs.Shares.{taken}
use Rattle.scratch_plan.specs.Groups.{is_in}
use Rattle.scratch_plan.specs.Tables.{group_share, largest_group_share}
use Rattle.scratch_plan.specs.Lacks.{AreEntries}
use Rattle.scratch_plan.specs.declared.group.Group.{Group}

-- a row of sums, each of what the first n tunnels add to it
pub record AreSums (p : Problem) (group : Group) (sums : List ℕ) (n : ℕ) : Type 0 where
  pub count : length sums ≡ length p.switches
  pub each : (w : ℕ) → w < length p.switches → slice_index sums w ≡ sum_below n (λ t. group_share p group t w)
  pub room : (w : ℕ) → w < length p.switches → slice_index sums w ≤ n * largest_group_share

pub AreSums_more : (p : Problem) (group : Group) (old new : List ℕ) (n : ℕ) → AreSums p group old n → GrownBy old new (group_share p group n) largest_group_share → AreSums p group new (n + 1)
AreSums_more p group old new n so by = record {
  count = omega (arith, by.count, so.count);
  each = λ w lt. rw add-one (omega (arith, so.each w lt, by.each w (omega (arith, so.count))));
  room = λ w lt. omega (arith, so.room w lt, by.few w (omega (arith, so.count)));
}

pub entries_from_sums : (p : Problem) (group : Group) (n : ℕ) (sums : List ℕ) → n ≡ length p.tunnels → AreSums p group sums n → AreEntries group p sums
entries_from_sums p group n sums all so = record {
  count = so.count;
  each = λ w lt. so.each w lt ∙ ap (λ m. sum_below m (λ t. group_share p group t w)) all;
}

few_times : (a b : ℕ) → a ≤ 17 → b ≤ 16 → a * b ≤ largest_group_share
few_times a b few small = grind arith

-- a tunnel of the group adds its width to the table of each switch on its path
pub entries_grown : (p : Problem) (group : Group) (t : ℕ) (old new row : List ℕ) (amount : ℕ) → IsNetwork p → t < length p.tunnels → is_in group (tunnel_at p t) ≡ true → row ≡ (tunnel_at p t).path → amount ≡ width_of p t → GrownBy old new (added row amount) (length row * amount) → GrownBy old new (group_share p group t) largest_group_share
entries_grown p group t old new row amount net inside there is wide by =
    let few : length row ≤ 17 = omega (arith, ap length is, (net.tunnels t inside).path.most) in
    let small : amount ≤ 16 = omega (arith, wide, (net.tunnels t inside).width.most) in
    let same : (w : ℕ) → added row amount w ≡ group_share p group t w = λ w.
    ap (λ r. added r amount w) is
    ∙ ap (λ a. added (tunnel_at p t).path a w) wide
    ∙ sum_below-same (hops p t) (λ h. if switch_of p t h == w then width_of p t else 0) (λ h. if (switch_of p t h == w) && is_in group (tunnel_at p t) then width_of p t else 0) (λ h lt. taken (switch_of p t h == w) (is_in group (tunnel_at p t)) (width_of p t) there) in
    record {
      count = by.count;
      each = λ w lt. omega (arith, by.each w lt, same w);
      few = λ w lt. omega (arith, by.few w lt, few_times (length row) amount few small);
    }

-- and one out of the group adds nothing
pub entries_stay : (p : Problem) (group : Group) (t : ℕ) (sums : List ℕ) → is_in group (tunnel_at p t) ≡ false → GrownBy sums sums (group_share p group t) largest_group_share
entries_stay p group t sums none =
    let nothing : (w : ℕ) → group_share p group t w ≡ 0 = λ w. sum_below-zero (hops p t) (λ h. if (switch_of p t h == w) && is_in group (tunnel_at p t) then width_of p t else 0) (λ h lt. uncounted_second (switch_of p t h == w) (is_in group (tunnel_at p t)) (width_of p t) none) in
    record {
      count = refl;
      each = λ w lt. omega (arith, nothing w);
      few = λ w lt. omega arith;
    }
