-- What keeps a rollout without a book: a graph, and the list of the durable entries.
use Rattle.std.specs.Prelude.{◌≡◌, Bool, true, List, []}
use Rattle.rollout_rules.specs.History.{from_nothing}
use Rattle.rollout_rules.specs.declared.op.Entry.{Entry}
use Rattle.update_scheduler.specs.Rounds.{Turning}

-- Between two rounds nothing is heard, and while it lives the list is the history's.
pub record IsPlain (rounds : Turning) (list : List Entry) (live : Bool) : Type 0 where
  pub heard : rounds.heard ≡ []
  pub same : live ≡ true → from_nothing rounds.rollout.problem list ≡ rounds.history
