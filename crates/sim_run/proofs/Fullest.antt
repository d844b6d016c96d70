-- The fullest link, one link after the other.
use Rattle.std.proofs.Common.{◌≡◌, ℕ, suc, ◌+◌, ◌*◌, ◌<◌, ◌==◌, false, true, cond, List, length, get_or, nat_lt, Option, Some, None, refl, sym, ap, ap₂, ◌∙◌, arith}
use Rattle.rollout_rules.specs.Sums.{list_below}
use Rattle.rollout_rules.specs.Wan.{Plan, Problem}
use Rattle.rollout_rules.specs.History.{History}
use Rattle.rollout_rules.proofs.Rows.{list_below-at}
use Rattle.rollout_report.specs.Peaks.{link_peak}
use Rattle.sim_run.specs.TrialText.{fuller, fuller_of, fullest, room_of}

module _ (p : Problem) (plan : Plan) (h : History) (peaks : List ℕ) (all : length peaks ≡ length p.links) (are : peaks ≡ list_below (length p.links) (link_peak p plan h)) where
  peak-at : (l : ℕ) → l < length peaks → get_or peaks l 0 ≡ link_peak p plan h l
  peak-at l lt = ap (λ xs. get_or xs l 0) are ∙ list_below-at (length p.links) (link_peak p plan h) l 0 (omega (arith, lt, all))

  fuller-same : (best l : ℕ) → best < length peaks → l < length peaks → fuller_of (room_of p plan) (λ n. get_or peaks n 0) best l ≡ fuller_of (room_of p plan) (link_peak p plan h) best l
  fuller-same best l low lt = ap₂ (λ a b. cond (nat_lt (a * room_of p plan l) (b * room_of p plan best)) l best) (peak-at best low) (peak-at l lt)

  -- a link that has nothing changes nothing, and another one is compared
  pub empty-link : (found : Option ℕ) (l : ℕ) → (room_of p plan l == 0) ≡ true → found ≡ fuller p plan h found l
  empty-link None l empty = rw empty refl
  empty-link (Some best) l empty = rw empty refl

  pub some-link : (best l more : ℕ) → best < length peaks → l < length peaks → (room_of p plan l == 0) ≡ false → more ≡ fuller_of (room_of p plan) (λ n. get_or peaks n 0) best l → Some more ≡ fuller p plan h (Some best) l
  some-link best l more low lt has is = rw has (ap Some (is ∙ fuller-same best l low lt))

  pub first-link : (l : ℕ) → (room_of p plan l == 0) ≡ false → Some l ≡ fuller p plan h None l
  first-link l has = rw has refl

  pub fullest-on : (found more : Option ℕ) (l : ℕ) → found ≡ fullest p plan h l → more ≡ fuller p plan h found l → more ≡ fullest p plan h (l + 1)
  fullest-on found more l was is =
      let one : l + 1 ≡ suc l = omega arith in
      is ∙ ap (λ o. fuller p plan h o l) was ∙ ap (fullest p plan h) (sym one)
