use Rattle.std.proofs.Common.{◌≡◌, suc, ◌++◌, ◌∷◌, take, drop, ap, sym, ◌∙◌}
use Rattle.lists.proofs.Rows.{parted}
use Rattle.wan_edge.specs.Frames.{Answer}
use Rattle.switch_ports.proofs.exchange.alien_item.Goals as goal

pub returns-then-not-is_own-clause-some : goal.returns-then-not-is_own-clause-some
returns-then-not-is_own-clause-some c =
    let at = c.loop-answer.answer-index in
    let xs = c.args.answers.now in
    record {
      earlier = take at xs;
      held = c.answer.inside.held;
      later = drop (suc at) xs;
      among = parted xs at c.answer-item.result c.loop-answer-test.true ∙ ap (λ (a : Answer). take at xs ++ a ∷ drop (suc at) xs) (sym c.answer-item.is ∙ sym c.answer.view_is);
      alien = sym c.is_own.ensures ∙ c.if-not-is_own.true;
    }
