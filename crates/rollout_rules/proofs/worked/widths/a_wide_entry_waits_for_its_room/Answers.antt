use Rattle.std.proofs.Common.{refl, inr, arith, [], ◌∷◌, ◌≤◌}
use Rattle.rollout_rules.specs.Items.{entries_at}
use Rattle.rollout_rules.specs.History.{places_of}
use Rattle.rollout_rules.specs.Safe.{next_mark}
use Rattle.rollout_rules.specs.Named.{wide_network, table_plan}
use Rattle.rollout_rules.specs.Worked.{fresh, begin_of}
use Rattle.rollout_rules.proofs.worked.widths.a_wide_entry_waits_for_its_room.Goals as goal

pub returns-clause-not_safe : goal.returns-clause-not_safe
returns-clause-not_safe c = λ safe. let k : entries_at wide_network (next_mark wide_network table_plan (places_of wide_network (fresh (begin_of 7 1 ∷ [])))) 0 ≤ 5 = safe.tables _ (λ t h b d. inr refl) 0 (omega arith) in omega (arith, k)
