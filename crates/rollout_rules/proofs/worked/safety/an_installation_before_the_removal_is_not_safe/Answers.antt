use Rattle.std.proofs.Common.{refl, inr, arith, [], ◌∷◌, ◌≤◌}
use Rattle.rollout_rules.specs.Items.{entries_at}
use Rattle.rollout_rules.specs.History.{places_of}
use Rattle.rollout_rules.specs.Safe.{next_mark}
use Rattle.rollout_rules.specs.Named.{table_network, table_plan}
use Rattle.rollout_rules.specs.Worked.{fresh, begin_of}
use Rattle.rollout_rules.proofs.worked.safety.an_installation_before_the_removal_is_not_safe.Goals as goal

-- src/worked/safety.rt:44:1
pub returns : goal.returns
returns c = λ safe. let k : entries_at table_network (next_mark table_network table_plan (places_of table_network (fresh (begin_of 7 1 ∷ [])))) 0 ≤ 2 = safe.tables _ (λ t h b d. inr refl) 0 (omega arith) in omega (arith, k)
