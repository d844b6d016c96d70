-- The batch of a round may be written.
use Rattle.std.proofs.Common.{◌≡◌, ℕ, zero, suc, ◌<◌, Bool, true, not, ◌&&◌, ◌==◌, nat_le, List, [], ◌∷◌, length, drop, refl, lt-ltb}
use Rattle.std.proofs.lemmas.Bool.{and_parts, and_from}
use Rattle.std.specs.List.{list_any}
use Rattle.lists.proofs.Conditions.{or_second}
use Rattle.rollout_rules.specs.Wan.{Problem, Plan}
use Rattle.rollout_rules.specs.Release.{batch}
use Rattle.rollout_rules.specs.World.{World, is_writing, is_answered, all_answered, answers_of, allows}
use Rattle.rollout_rules.specs.declared.held.Given.{Given}
use Rattle.rollout_rules.specs.declared.op.OpView.{OpView}
use Rattle.rollout_rules.specs.declared.op.Entry.{Entry}
use Rattle.rollout_rules.specs.declared.op.Entry.TheVariants.{Begin, Done}
use Rattle.rollout_rules.specs.declared.event.Event.TheVariants as event
use Rattle.rollout_laws.proofs.Rounds.{batch_follows, batch_is_answered}

any-drop : (test : Given → Bool) (k : ℕ) (xs : List Given) → list_any test (drop k xs) ≡ true → list_any test xs ≡ true
any-drop test zero xs e = e
any-drop test (suc k) [] e = e
any-drop test (suc k) (x ∷ xs) e = or_second (test x) (list_any test xs) (any-drop test k xs e)

module _ (migration : ℕ) (k : ℕ) (handed : List Given) where
  answered-drop : (e : Entry) → is_answered migration (drop k handed) e ≡ true → is_answered migration handed e ≡ true
  answered-drop (Begin op) a = refl
  answered-drop (Done op) a = any-drop (λ a. (a.item == op.item) && (a.held.migration == migration) && nat_le op.number a.held.number) k handed a

  all_answered-drop : (es : List Entry) → all_answered migration (drop k handed) es ≡ true → all_answered migration handed es ≡ true
  all_answered-drop [] a = refl
  all_answered-drop (e ∷ es) a =
      let both = and_parts (is_answered migration (drop k handed) e) (all_answered migration (drop k handed) es) a in
      and_from _ _ (answered-drop e both.0) (all_answered-drop es both.1)

module _ (p : Problem) (plan : Plan) (policy : OpView → ℕ) (w : World) (heard : ℕ) where
  -- the batch of a round that hears what was handed over from a place on
  abbrev heard_batch : List Entry
  heard_batch = batch p plan policy w.durable (answers_of w.migration (drop heard w.handed))

  pub batch_may_be_written : w.up ≡ true → w.writing ≡ [] → 0 < length heard_batch → allows p plan w (event.Write heard_batch) ≡ true
  batch_may_be_written up idle some =
      and_from _ _
      (and_from _ _ (and_from _ _ (and_from _ _ up (is_idle idle)) (lt-ltb 0 _ some)) (batch_follows p plan policy w.durable (answers_of w.migration (drop heard w.handed))))
      (all_answered-drop w.migration heard w.handed heard_batch (batch_is_answered p plan policy w.durable w.migration (drop heard w.handed)))
    where
      is_idle : w.writing ≡ [] → not (is_writing w) ≡ true
      is_idle e = rw e
