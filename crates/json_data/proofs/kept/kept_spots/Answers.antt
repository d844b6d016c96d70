use Rattle.std.proofs.Common.{◌++◌, ◌∷◌, [], map, drop, ap, ◌∙◌, arith, take_all}
use Rattle.std.proofs.lemmas.List.{length-map}
use Rattle.json_data.specs.Nodes.{entry, entry_of, first_of}
use Rattle.json_data.specs.declared.spot.Spot.TheVariants as a_spot
use Rattle.json_data.proofs.Spots.{pushed, kept_next}
use Rattle.json_data.proofs.kept.kept_spots.Goals as goal

pub loop-index-init : goal.loop-index-init
loop-index-init c = λ text. ap (map (entry_of text c.args.kept.now.items)) c.new-spots.ensures.items

pub loop-index-preserved : goal.loop-index-preserved
loop-index-preserved c =
    λ text. (let ns = c.args.kept.now.items in
    let i = c.loop-index.index in
    pushed (entry_of text ns) c.loop-index.spots.items c.keep.new.spots.items (a_spot.Kept i) c.in_ok-keep.ensures.ok
    ∙ ap (λ ms. ms ++ first_of (drop i ns) ∷ []) (c.loop-index.invariant text)
    ∙ kept_next ns i (grind arith))

pub returns-clause-ok : goal.returns-clause-ok
returns-clause-ok c =
    λ text. (let ns = c.args.kept.now.items in
    c.loop-index.invariant text ∙ take_all c.loop-index.index (map entry ns) (grind (arith, length-map ns entry)))
