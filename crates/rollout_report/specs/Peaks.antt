-- How full links and tables came to be: the greatest of what they had to hold, over a history.
use Rattle.std.specs.Prelude.{ℕ, ◌+◌, max, Bool, ◌||◌, List, length, take}
use Rattle.rollout_rules.specs.Sums.{list_below}
use Rattle.rollout_rules.specs.Wan.{Problem, Plan}
use Rattle.rollout_rules.specs.Items.{load, entries_at}
use Rattle.rollout_rules.specs.History.{History, places_of}
use Rattle.rollout_rules.specs.Safe.{settled_rate, next_rate, settled_mark, next_mark}
use Rattle.rollout_rules.specs.Release.{most_below}

-- the larger of a tunnel's settled and next rate
abbrev pub larger_rate : Problem → Plan → History → ℕ → ℕ
larger_rate p plan h t = max (settled_rate p plan (places_of p h) t) (next_rate p plan (places_of p h) t)

-- whether an entry is there, settled or next
abbrev pub either_there : Problem → Plan → History → ℕ → ℕ → Bool
either_there p plan h t n = settled_mark p plan (places_of p h) t n || next_mark p plan (places_of p h) t n

-- what a link may have to carry after a history, and how much of a table its entries may take: the sum of the widths of
-- those that are there
abbrev pub link_sum : Problem → Plan → History → ℕ → ℕ
link_sum p plan h l = load p (larger_rate p plan h) l

abbrev pub table_sum : Problem → Plan → History → ℕ → ℕ
table_sum p plan h w = entries_at p (either_there p plan h) w

-- a history up to its first k entries
abbrev pub front : History → ℕ → History
front h k = record { start = h.start; entries = take k h.entries }

-- the greatest of these at the start and after each entry
abbrev pub link_peak : Problem → Plan → History → ℕ → ℕ
link_peak p plan h l = most_below (length h.entries + 1) (λ k. link_sum p plan (front h k) l)

abbrev pub table_peak : Problem → Plan → History → ℕ → ℕ
table_peak p plan h w = most_below (length h.entries + 1) (λ k. table_sum p plan (front h k) w)

-- all peaks, by the numbers of links and of switches
pub record PeakLists : Type 0 where
  pub links : List ℕ
  pub tables : List ℕ

abbrev pub peaks_of : Problem → Plan → History → PeakLists
peaks_of p plan h = record {
  links = list_below (length p.links) (link_peak p plan h);
  tables = list_below (length p.switches) (table_peak p plan h);
}
