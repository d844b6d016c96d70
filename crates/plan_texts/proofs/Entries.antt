-- Running sums over tunnels of the widths of entries.
use Rattle.std.proofs.Common.{◌≡◌, ℕ, ◌*◌, ◌^◌, ◌<◌, ◌≤◌, Bool, true, false, ◌&&◌, List, length, ◌==◌, if◌then◌else◌, refl, ap, ◌∙◌, arith}
use Rattle.lists.proofs.Conditions.{uncounted_second}
use Rattle.rollout_rules.specs.Sums.{sum_below, list_below}
use Rattle.rollout_rules.specs.Wan.{Problem, tunnel_at, switch_of, hops, width_of}
use Rattle.rollout_rules.specs.Items.{entries_at}
use Rattle.rollout_rules.specs.Network.{IsNetwork}
use Rattle.rollout_rules.proofs.Below.{sum_below-zero, sum_below-same}
use Rattle.plan_check.specs.Parts.{GrownBy, added, largest_share}
use Rattle.plan_check.proofs.Rows.{list_below-from}
use Rattle.plan_check.proofs.Shares.{AreSums, GrownBy_as, few_times, taken}
use Rattle.plan_texts.specs.Rows.{entry_share}

-- a tunnel that is there adds its width to the table of each switch on its path
pub entry-grown : (p : Problem) (there : ℕ → Bool) (t : ℕ) (old new row : List ℕ) (amount : ℕ) → IsNetwork p → t < length p.tunnels → there t ≡ true → row ≡ (tunnel_at p t).path → amount ≡ width_of p t → amount < 2 ^ 64 → GrownBy old new (added row amount) (length row * amount) → GrownBy old new (entry_share p there t) largest_share
entry-grown p there t old new row amount net inside here is wide small by =
    let few : length row ≤ 17 = omega (arith, ap length is, (net.tunnels t inside).path.most) in
    GrownBy_as old new (added row amount) (entry_share p there t) (length row * amount) largest_share by
    (λ k.
    ap (λ r. added r amount k) is
    ∙ ap (λ a. added (tunnel_at p t).path a k) wide
    ∙ sum_below-same (hops p t) (λ h. if switch_of p t h == k then width_of p t else 0) (λ h. if (switch_of p t h == k) && there t then width_of p t else 0) (λ h lt. taken (switch_of p t h == k) (there t) (width_of p t) here))
    (few_times (length row) amount few small)

-- and one that isn't adds nothing
pub entry-stays : (p : Problem) (there : ℕ → Bool) (t : ℕ) (sums : List ℕ) → there t ≡ false → GrownBy sums sums (entry_share p there t) largest_share
entry-stays p there t sums none =
    let nothing : (k : ℕ) → entry_share p there t k ≡ 0 = λ k. sum_below-zero (hops p t) (λ h. if (switch_of p t h == k) && there t then width_of p t else 0) (λ h lt. uncounted_second (switch_of p t h == k) (there t) (width_of p t) none) in
    record {
      count = refl;
      each = λ k lt. omega (arith, nothing k);
      few = λ k lt. omega arith;
    }

-- what all tunnels add is what the entries take
pub entries-from_sums : (p : Problem) (there : ℕ → Bool) (n : ℕ) (sums : List ℕ) → n ≡ length p.tunnels → AreSums sums (length p.switches) n (entry_share p there) → sums ≡ list_below (length p.switches) (entries_at p (λ t h. there t))
entries-from_sums p there n sums all so =
    list_below-from sums (length p.switches) (entries_at p (λ t h. there t)) so.count
    (λ w lt. so.each w lt ∙ ap (λ m. sum_below m (λ t. entry_share p there t w)) all)
