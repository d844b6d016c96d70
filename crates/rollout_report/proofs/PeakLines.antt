-- The peak lines, one by one.
use Rattle.std.proofs.Common.{◌≡◌, ℕ, suc, ◌+◌, ◌*◌, List, ◌++◌, sym, ap, ap₂, ◌∙◌, arith, append_assoc}
use Rattle.rollout_rules.specs.Wan.{Problem, Plan, link_at, switch_at}
use Rattle.rollout_rules.specs.History.{History}
use Rattle.rollout_report.specs.Peaks.{link_peak, table_peak}
use Rattle.wan_text.specs.Peaks.{link_peak_line, table_peak_line}
use Rattle.rollout_report.specs.Ends.{link_lines, table_lines}

module _ (p : Problem) (plan : Plan) (h : History) (n : ℕ) (text before after : List ℕ) (peak capacity : ℕ) where
  next : n + 1 ≡ suc n
  next = omega arith

  pub link_lines-more : before ≡ text ++ link_lines p plan h n → peak ≡ link_peak p plan h n → capacity ≡ (link_at p n).capacity * plan.scale → after ≡ before ++ link_peak_line p n peak capacity → after ≡ text ++ link_lines p plan h (n + 1)
  link_lines-more was of_link room line =
      line ∙ ap (λ b. b ++ link_peak_line p n peak capacity) was
      ∙ ap₂ (λ x y. (text ++ link_lines p plan h n) ++ link_peak_line p n x y) of_link room
      ∙ append_assoc text (link_lines p plan h n) (link_peak_line p n (link_peak p plan h n) ((link_at p n).capacity * plan.scale))
      ∙ ap (λ k. text ++ link_lines p plan h k) (sym next)

  pub table_lines-more : before ≡ text ++ table_lines p plan h n → peak ≡ table_peak p plan h n → capacity ≡ (switch_at p n).table → after ≡ before ++ table_peak_line p n peak capacity → after ≡ text ++ table_lines p plan h (n + 1)
  table_lines-more was of_table room line =
      line ∙ ap (λ b. b ++ table_peak_line p n peak capacity) was
      ∙ ap₂ (λ x y. (text ++ table_lines p plan h n) ++ table_peak_line p n x y) of_table room
      ∙ append_assoc text (table_lines p plan h n) (table_peak_line p n (table_peak p plan h n) (switch_at p n).table)
      ∙ ap (λ k. text ++ table_lines p plan h k) (sym next)
