-- The line of an item's next operation tells what the rules say of it.
use Rattle.std.proofs.Common.{◌≡◌, ℕ, ◌+◌, ◌<◌, sym, ap, ◌∙◌, arith}
use Rattle.rollout_rules.specs.Wan.{Problem, Plan}
use Rattle.rollout_rules.specs.Items.{item_count, item_at, content}
use Rattle.rollout_rules.specs.Operations.{operations, stand_after, content_after}
use Rattle.rollout_rules.specs.History.{History, settled, places_of}
use Rattle.rollout_rules.specs.Release.{chain}
use Rattle.rollout_rules.proofs.Numbers.{number_of-item_at}
use Rattle.rollout_laws.proofs.Standing.{stand-moves, content-past}
use Rattle.plan_texts.specs.Explain.{line_of}
use Rattle.plan_texts.specs.Needs.{needs_of}
use Rattle.plan_texts.specs.Told.{stage_of, IsNextTold}
use Rattle.plan_texts.proofs.Needs.{needs-are_all}

pub next-told : (p : Problem) (plan : Plan) (h : History) (n : ℕ) → n < item_count p → settled h n < operations p plan (item_at p n) → IsNextTold p plan h n
next-told p plan h n lt left =
    let i = item_at p n in
    let j = settled h n in
    let x = stand_after p plan i j in
    let at : stage_of p plan h n ≡ x = ap (λ m. stand_after p plan i (settled h m)) (number_of-item_at p n lt) in
    let brought : content p plan i (x + 1) ≡ content_after p plan i (j + 1) = content-past p plan i j (x + 1) (omega arith) (stand-moves p plan i j left) in
    record {
      line =
          ap (λ after. line_of p n i (j + 1) (x + 1) (content p plan i x) after (chain p plan i x) (needs_of p plan i x)) brought
          ∙ ap (λ s. line_of p n i (j + 1) (s + 1) (content_after p plan i j) (content_after p plan i (j + 1)) (chain p plan i s) (needs_of p plan i s)) (sym at);
      needs = needs-are_all p plan (places_of p h) i (stage_of p plan h n);
    }
