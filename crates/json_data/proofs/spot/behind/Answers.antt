use Rattle.std.proofs.Common.{sym, ap}
use Rattle.json_data.specs.Nodes.{entry}
use Rattle.json_data.proofs.Values.{passed}
use Rattle.json_data.proofs.Spots.{passed_over, passed_one}
use Rattle.json_data.proofs.spot.behind.Goals as goal

pub returns-in-Array : goal.returns-in-Array
returns-in-Array c = passed_over c.args.texts.now c.args.spots.now c.rest-inside.result.now c.past.result.now c.in-Array.size (entry c.first.result) c.rest-inside.ensures c.past.ensures c.first.ensures (λ ns. ap (λ n. passed (entry n) ns) (sym c.in-Array.is))

pub returns-in-Object : goal.returns-in-Object
returns-in-Object c = passed_over c.args.texts.now c.args.spots.now c.rest-inside.result.now c.past-in-Object.result.now c.in-Object.size (entry c.first.result) c.rest-inside.ensures c.past-in-Object.ensures c.first.ensures (λ ns. ap (λ n. passed (entry n) ns) (sym c.in-Object.is))
