-- The numbers of a line, as the text has them.
use Rattle.std.proofs.Common.{◌≡◌, ℕ, zero, suc, ◌+◌, ◌<◌, ◌≤◌, List, ◌++◌, length, refl, ap, ap₂, ◌∙◌, arith}
use Rattle.rollout_rules.specs.Wan.{Problem, Plan, last_stage}
use Rattle.rollout_rules.specs.Items.{the_link, the_table, capacity_of}
use Rattle.rollout_rules.specs.Valid.{step_total}
use Rattle.plan_texts.specs.Loads.{stage_total, capacity_text, step_text, last_text, step_texts, totals_text, share_text}
use Rattle.plan_texts.specs.Rows.{IsChecked, link_rows, table_rows, cell}
use Rattle.plan_texts.proofs.Cells.{link-taken, link-most, table-taken, table-most}

-- texts of the same numbers
steps-same : (n : ℕ) (f g h k : ℕ → ℕ) → ((s : ℕ) → s < n → f s ≡ g s) → ((s : ℕ) → s < n → h s ≡ k s) → step_texts f h n ≡ step_texts g k n
steps-same zero f g h k ff hh = refl
steps-same (suc n) f g h k ff hh =
    ap₂ (λ x y. x ++ y) (steps-same n f g h k (λ s lt. ff s (omega arith)) (λ s lt. hh s (omega arith))) (ap₂ step_text (ff n (omega arith)) (hh n (omega arith)))

totals-same : (c d m n : ℕ) (f g h k : ℕ → ℕ) → c ≡ d → m ≡ n → ((s : ℕ) → s ≤ n → f s ≡ g s) → ((s : ℕ) → s < n → h s ≡ k s) → totals_text c m f h ≡ totals_text d n g k
totals-same c d m n f g h k same steps ff hh =
    ap₂ (λ x y. totals_text x y f h) same steps
    ∙ ap₂ (λ x y. capacity_text d ++ x ++ last_text y) (steps-same n f g h k (λ s lt. ff s (omega arith)) hh) (ff n (omega arith))

module _ (p : Problem) (plan : Plan) (checked : IsChecked p plan) (k : ℕ) (taken most : List (List ℕ)) (capacity steps : ℕ) (last : steps ≡ last_stage plan) where
  pub link-totals : k < length p.links → taken ≡ link_rows p plan 0 → most ≡ link_rows p plan 1 → capacity ≡ capacity_of p plan (the_link k)
      → totals_text capacity steps (cell taken k) (cell most k) ≡ totals_text (capacity_of p plan (the_link k)) (last_stage plan) (λ s. stage_total p plan s (the_link k)) (λ s. step_total p plan s (the_link k))
  link-totals low so sums has =
      totals-same capacity (capacity_of p plan (the_link k)) steps (last_stage plan) (cell taken k) (λ s. stage_total p plan s (the_link k)) (cell most k) (λ s. step_total p plan s (the_link k)) has last
      (λ s le. link-taken p plan checked taken k s (omega (arith, le, checked.shape.some)) so low)
      (λ s lt. link-most p plan checked most k s (omega (arith, lt, checked.shape.some)) sums low)

  pub table-totals : k < length p.switches → taken ≡ table_rows p plan 0 → most ≡ table_rows p plan 1 → capacity ≡ capacity_of p plan (the_table k)
      → totals_text capacity steps (cell taken k) (cell most k) ≡ totals_text (capacity_of p plan (the_table k)) (last_stage plan) (λ s. stage_total p plan s (the_table k)) (λ s. step_total p plan s (the_table k))
  table-totals low so sums has =
      totals-same capacity (capacity_of p plan (the_table k)) steps (last_stage plan) (cell taken k) (λ s. stage_total p plan s (the_table k)) (cell most k) (λ s. step_total p plan s (the_table k)) has last
      (λ s le. table-taken p plan checked taken k s (omega (arith, le, checked.shape.some)) so low)
      (λ s lt. table-most p plan checked most k s (omega (arith, lt, checked.shape.some)) sums low)

pub share-same : (a b d x y z : ℕ) → a ≡ x → b ≡ y → d ≡ z → share_text a b d ≡ share_text x y z
share-same a b d x y z ea eb ed = ap₂ (λ n m. share_text n m d) ea eb ∙ ap (share_text x y) ed
