-- The lines of peaks: the greatest load of a link, or number of entries of a table, and how much there is room for.
use Rattle.std.specs.Prelude.{ℕ, List, ◌++◌, codes, decimal}
use Rattle.rollout_rules.specs.Wan.{Problem}
use Rattle.wan_text.specs.Names.{switch_text, link_text}

abbrev pub peak_line : List ℕ → ℕ → ℕ → List ℕ
peak_line name peak capacity = codes "peak " ++ name ++ codes " " ++ decimal peak ++ codes " of " ++ decimal capacity ++ codes "\n"

abbrev pub link_peak_line : Problem → ℕ → ℕ → ℕ → List ℕ
link_peak_line p l peak capacity = peak_line (link_text p l) peak capacity

abbrev pub table_peak_line : Problem → ℕ → ℕ → ℕ → List ℕ
table_peak_line p w peak size = peak_line (codes "table " ++ switch_text p w) peak size
