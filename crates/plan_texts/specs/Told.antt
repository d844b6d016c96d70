-- What the line of an operation has to do with a rollout: it tells the item's next operation, after every history.
use Rattle.std.specs.Prelude.{◌≡◌, ℕ, ◌+◌}
use Rattle.std.specs.List.{list_all}
use Rattle.rollout_rules.specs.Wan.{Problem, Plan}
use Rattle.rollout_rules.specs.Items.{item_at}
use Rattle.rollout_rules.specs.Operations.{content_after}
use Rattle.rollout_rules.specs.History.{History, settled, places_of, stand}
use Rattle.rollout_rules.specs.Needs.{needs_met}
use Rattle.rollout_rules.specs.Release.{view_of}
use Rattle.plan_texts.specs.Explain.{op_line, line_of}
use Rattle.plan_texts.specs.Needs.{is_met, needs_of}

-- the stage at which item n stands
abbrev pub stage_of : Problem → Plan → History → ℕ → ℕ
stage_of p plan h n = stand p plan (places_of p h) (item_at p n)

-- The line that is told of item n under the number of its next operation has that operation's stage, content, chain and needs: those of
-- the stage at which the item stands, the content that it is sent, the chain that a policy sees, and needs that are met where the rules' are.
pub record IsNextTold (p : Problem) (plan : Plan) (h : History) (n : ℕ) : Type 0 where
  pub line : op_line p plan n (item_at p n) (settled h n)
      ≡ line_of p n (item_at p n) (view_of p plan h n).number ((view_of p plan h n).stage + 1)
      (content_after p plan (item_at p n) (settled h n)) (content_after p plan (item_at p n) (settled h n + 1))
      (view_of p plan h n).chain (needs_of p plan (item_at p n) (stage_of p plan h n))
  pub needs : needs_met p plan (places_of p h) (item_at p n) ≡ list_all (is_met p plan (places_of p h)) (needs_of p plan (item_at p n) (stage_of p plan h n))
