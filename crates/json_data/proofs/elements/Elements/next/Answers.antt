use Rattle.std.proofs.Common.{◌-◌, sym, ap, ◌∙◌, arith}
use Rattle.serde_json.specs.Data.{item}
use Rattle.json_data.specs.View.{view}
use Rattle.json_data.specs.Nodes.{behind, items_at, entries}
use Rattle.json_data.proofs.Values.{items_ended, items_next}
use Rattle.json_data.proofs.elements.Elements.next.Goals as goal

pub returns-then-self-eq0 : goal.returns-then-self-eq0
returns-then-self-eq0 c =
    let none = items_ended c.args.self.now.left (entries c.args.self.now.texts.now c.args.self.now.nodes.now) (omega (arith, c.if-self-eq0.true)) in
    (none, none)

pub returns : goal.returns
returns c =
    let ns = entries c.args.self.now.texts.now c.args.self.now.nodes.now in
    let left = c.args.self.now.left in
    items_next left ns (grind arith)
    ∙ ap (λ d. item d (items_at (left - 1) (behind ns))) (sym c.first.ensures)
    ∙ ap (λ rest. item (view c.first.result) (items_at (left - 1) rest)) (sym c.behind-self.ensures)
