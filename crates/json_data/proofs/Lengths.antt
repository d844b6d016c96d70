-- How many items a list has.
use Rattle.serde_json.specs.Data.{Data, Items, item, no_items}
use Rattle.serde_json.specs.Events.{items_len}
use Rattle.std.proofs.Common.{ap, arith, suc, ◌+◌, ◌∙◌, ◌≡◌}

pub items_len-item : (left rest : Items) (d : Data) → left ≡ item d rest → items_len left ≡ items_len rest + 1
items_len-item left rest d is = let one : suc (items_len rest) ≡ items_len rest + 1 = omega arith in ap items_len is ∙ one

pub items_len-none : (left : Items) → left ≡ no_items → items_len left ≡ 0
items_len-none left is = ap items_len is
