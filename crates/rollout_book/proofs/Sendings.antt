-- What is known of the operations in flight, and of their commands.
use Rattle.std.proofs.Common.{◌≡◌, ℕ, ◌+◌, ◌<◌, true, List, filter, All, Option, Some, None, is_some, refl, sym, ap, ◌∙◌, arith, eqb-true}
use Rattle.std.proofs.lemmas.List.Elements.{All-map, All-filter, filter_passes}
use Rattle.rollout_rules.specs.Sums.{list_below}
use Rattle.rollout_rules.specs.Wan.{Plan, Problem, next_stage}
use Rattle.rollout_rules.specs.Items.{content, item_at, item_count}
use Rattle.rollout_rules.specs.Operations.{content_after, operations, stand_after}
use Rattle.rollout_rules.specs.History.{History, begun, flies, settled}
use Rattle.rollout_rules.specs.Legal.{is_legal}
use Rattle.rollout_rules.specs.Release.{next_op}
use Rattle.rollout_rules.specs.World.{in_flight}
use Rattle.rollout_rules.specs.declared.op.Op.{Op}
use Rattle.rollout_laws.proofs.Histories.{is_counted}
use Rattle.rollout_laws.proofs.Rounds.{numbers_below}
use Rattle.rollout_laws.proofs.Shares.{next_stage-before}
use Rattle.rollout_laws.proofs.Standing.{content-past, stand-left, stand-moves}
use Rattle.rollout_book.specs.Commands.{IsFlying, is_among}

-- each of them is its item's
pub each-flies : (p : Problem) (h : History) → All (IsFlying p h) (in_flight p h)
each-flies p h =
    let numbers = list_below (item_count p) (λ n. n) in
    All-map (IsFlying p h) (next_op h) (filter (flies h) numbers) (λ k d lt. record {
      item = All-filter (flies h) (λ n. n < item_count p) numbers (numbers_below (item_count p)) k d lt;
      flies = filter_passes (flies h) numbers k d lt;
      next = refl;
    })

-- an item that is asked for has a home
pub home-there : (switches : List ℕ) (home : Option ℕ) → is_among switches home ≡ true → is_some home ≡ true
home-there switches None among = cc
home-there switches (Some home) among = refl

module _ (p : Problem) (plan : Plan) (h : History) (op : Op) (legal : is_legal p plan h ≡ true) (flying : IsFlying p h op) where
  -- it is one that its item has
  left : settled h op.item < operations p plan (item_at p op.item)
  left = omega (arith, (is_counted p plan h legal op.item).exist flying.item, eqb-true (begun h op.item) (settled h op.item + 1) flying.flies)

  -- and brings the content of the stage after that at which the item stands
  pub brings : content p plan (item_at p op.item) (next_stage plan (stand_after p plan (item_at p op.item) (settled h op.item))) ≡ content_after p plan (item_at p op.item) op.number
  brings =
      let i = item_at p op.item in
      let x = stand_after p plan i (settled h op.item) in
      ap (content p plan i) (next_stage-before plan x (stand-left p plan i (settled h op.item) left))
      ∙ content-past p plan i (settled h op.item) (x + 1) (omega arith) (stand-moves p plan i (settled h op.item) left)
      ∙ ap (content_after p plan i) (sym flying.next)
