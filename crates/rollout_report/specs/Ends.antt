-- The lines after a history: the peak of each link and table, and whether every operation is settled.
use Rattle.std.specs.Prelude.{ℕ, zero, suc, ◌*◌, List, [], ◌++◌, length, codes, decimal, ◌==◌, if◌then◌else◌}
use Rattle.rollout_rules.specs.Wan.{Problem, Plan, switch_at, link_at}
use Rattle.rollout_rules.specs.History.{History}
use Rattle.rollout_rules.specs.Legal.{unsettled}
use Rattle.wan_text.specs.Peaks.{link_peak_line, table_peak_line}
use Rattle.rollout_report.specs.Peaks.{link_peak, table_peak}

-- the first so many of the peak lines of links, and of tables
abbrev pub link_lines : Problem → Plan → History → ℕ → List ℕ
link_lines p plan h zero = []
link_lines p plan h (suc l) = link_lines p plan h l ++ link_peak_line p l (link_peak p plan h l) ((link_at p l).capacity * plan.scale)

abbrev pub table_lines : Problem → Plan → History → ℕ → List ℕ
table_lines p plan h zero = []
table_lines p plan h (suc w) = table_lines p plan h w ++ table_peak_line p w (table_peak p plan h w) (switch_at p w).table

abbrev pub last_line : ℕ → List ℕ
last_line left = (if left == 0 then codes "finished" else codes "unfinished: " ++ decimal left) ++ codes "\n"

-- these lines together
abbrev pub end_lines : Problem → Plan → History → List ℕ
end_lines p plan h = link_lines p plan h (length p.links) ++ table_lines p plan h (length p.switches) ++ last_line (unsettled p plan h)
