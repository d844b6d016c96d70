-- The line of a rollout of which no problem is left.
use Rattle.std.specs.Prelude.{ℕ, List, [], ◌++◌, codes, decimal}
use Rattle.retarget_plan.specs.declared.unleft.Row.{Row}
use Rattle.retarget_plan.specs.declared.unleft.Row.TheVariants as row
use Rattle.retarget_plan.specs.declared.unleft.Unleft.{Unleft}
use Rattle.retarget_plan.specs.declared.unleft.Unleft.TheVariants as unleft

abbrev pub flying_line : ℕ → ℕ → List ℕ
flying_line item operation = codes "flying: item " ++ decimal item ++ codes " operation " ++ decimal operation ++ codes "\n"

abbrev pub partly_line : ℕ → List ℕ
partly_line tunnel = codes "partly: tunnel " ++ decimal tunnel ++ codes "\n"

abbrev pub capacity_line : ℕ → ℕ → List ℕ
capacity_line link found = codes "too large: capacity of link " ++ decimal link ++ codes ": " ++ decimal found ++ codes " above 1000000000000\n"

abbrev pub old_line : ℕ → ℕ → List ℕ
old_line tunnel found = codes "too large: old rate of tunnel " ++ decimal tunnel ++ codes ": " ++ decimal found ++ codes " above 1000000000\n"

abbrev pub new_line : ℕ → ℕ → List ℕ
new_line tunnel found = codes "too large: new rate of tunnel " ++ decimal tunnel ++ codes ": " ++ decimal found ++ codes " above 1000000000\n"

abbrev pub large_line : Row → ℕ → ℕ → List ℕ
large_line row.Capacities place found = capacity_line place found
large_line row.OldRates place found = old_line place found
large_line row.NewRates place found = new_line place found

-- lack of memory has none of its own
abbrev pub unleft_line : Unleft → List ℕ
unleft_line (unleft.Flying item operation) = flying_line item operation
unleft_line (unleft.Partly tunnel) = partly_line tunnel
unleft_line (unleft.TooLarge row place found) = large_line row place found
unleft_line unleft.Memory = []
