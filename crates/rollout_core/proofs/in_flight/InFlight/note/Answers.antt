use Rattle.std.proofs.Common.{◌∙◌, [], ◌∷◌, ◌++◌, length, sym, ap, arith}
use Rattle.dependency_graph.specs.Progress.{flies_by}
use Rattle.rollout_core.proofs.Flying.{passing-few, passing-more, passing-kept}
use Rattle.rollout_core.proofs.in_flight.InFlight.note.Goals as goal
use Rattle.rollout_core.proofs.in_flight.InFlight.note.Goals.{then-flies, else-flies}

pub push-requires : goal.push-requires
push-requires c =
    omega (arith, ap length c.loop-item.invariant.items, passing-few (flies_by c.args.progress.now) c.loop-item.item, c.loop-item.invariant.room, c.requires, c.item_count-item-end.ensures, c.loop-item-test.true)

pub loop-item-preserved : goal.loop-item-preserved
loop-item-preserved c =
    let so_far = c.loop-item.invariant in
    let test = flies_by c.args.progress.now in
    elim c.if-flies.branch [
      | then-flies w ↦
          let is = w.self-is ∙ w.push.ensures in
          record {
            room = ap (λ f. f.room) is ∙ so_far.room;
            items = ap (λ f. f.items) is ∙ ap (λ l. l ++ c.loop-item.item ∷ []) so_far.items ∙ sym (passing-more test c.loop-item.item (sym c.flies.ensures ∙ w.if-flies.true));
          }
      | else-flies w ↦ record {
        room = ap (λ f. f.room) w.self-is ∙ so_far.room;
        items = ap (λ f. f.items) w.self-is ∙ so_far.items ∙ sym (passing-kept test c.loop-item.item (sym c.flies.ensures ∙ w.if-flies.false));
      }
    ]
