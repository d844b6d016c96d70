use Rattle.std.proofs.Common.{refl, sym, ap, ◌∙◌}
use Rattle.std.proofs.lemmas.Bool.{false≢true}
use Rattle.json_data.specs.Nodes.{front}
use Rattle.json_data.proofs.Pieces.{piece_at, piece_not}
use Rattle.json_data.proofs.spot.piece.Goals as goal

pub returns-in-Some : goal.returns-in-Some
returns-in-Some c =
    c.front.ensures ∙ ap (front c.args.size) c.in-Some.ensures.back
    ∙ sym (piece_at c.args.text.now c.args.place c.args.size (c.in-Some.ensures.variant.0 refl))

pub returns-in-None : goal.returns-in-None
returns-in-None c = sym (piece_not c.args.text.now c.args.place c.args.size (λ at. false≢true (c.in-None.ensures.variant.1 at)))
