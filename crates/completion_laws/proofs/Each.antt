-- What each switch holds after a run, and after a finished one.
use Rattle.std.proofs.Common.{◌≡◌, ℕ, ◌^◌, ◌<◌, true, List, ◌++◌, Option, IfSome, ap}
use Rattle.lists.proofs.Options.{of_some}
use Rattle.rollout_rules.specs.Network.{IsNetwork}
use Rattle.rollout_rules.specs.Valid.{is_valid_plan}
use Rattle.rollout_rules.specs.Legal.{is_finished}
use Rattle.wan_edge.specs.Switches.{Holdings}
use Rattle.switch_ports.specs.Views.{SessionTrace}
use Rattle.shared_book.specs.declared.note.Written.{Written}
use Rattle.shared_book.specs.Histories.{Opening, added, history_of}
use Rattle.shared_book.specs.Legal.{is_legal_shared}
use Rattle.shared_book.proofs.Lists.{list-is_legal}
use Rattle.switch_laws.specs.Holdings.{AreHeldAt, AreHeldAtEnd}
use Rattle.switch_laws.proofs.Stands.{held_at_end, held_stands, if_some}
use Rattle.controller_run.specs.PortRuns.{IsPortRun}
use Rattle.controller_run.proofs.Standing.{runs_at}
use Rattle.completion_laws.specs.Untold.{EachMayHold, IsFoundWith, MayHold}
use Rattle.completion_laws.proofs.Imagined.{ahead, imagined, runs-same, starts-same}

module _ (o : Opening) (migration : ℕ) (homes : List (Option ℕ)) (log : List Written) (first now : SessionTrace) where
  -- what holds of the port that tells, of whatever its switch may hold
  each-by : (IsRight : Holdings → Type 0)
      → ((earlier : List ℕ) (before after : Holdings) → IsFoundWith o.rollout migration homes o.found first earlier before → IsPortRun o migration homes log (imagined earlier before first) (imagined earlier after now)
      → IfSome (ahead earlier now.port.offered) (λ _. IfSome now.port.heard (λ _. IsRight after)))
      → IsPortRun o migration homes log first now → EachMayHold o.rollout migration homes o.found first now.port IsRight
  each-by IsRight law run =
      if_some now.port.offered (λ offered. IfSome now.port.heard (λ heard. (earlier : List ℕ) (before after : Holdings) → IsFoundWith o.rollout migration homes o.found first earlier before → MayHold (earlier ++ offered) heard before after → IsRight after))
      (λ offered offered_is. if_some now.port.heard (λ heard. (earlier : List ℕ) (before after : Holdings) → IsFoundWith o.rollout migration homes o.found first earlier before → MayHold (earlier ++ offered) heard before after → IsRight after)
      (λ heard heard_is earlier before after found may.
      of_some (λ _. IsRight after) now.port.heard heard heard_is
      (of_some (λ _. IfSome now.port.heard (λ _. IsRight after)) (ahead earlier now.port.offered) (earlier ++ offered) (ap (ahead earlier) offered_is)
      (law earlier before after found (runs-same o migration homes log first now earlier offered heard before after offered_is heard_is may run)))))

  module _ (net : IsNetwork o.rollout.problem) (valid : is_valid_plan o.rollout.problem o.rollout.plan ≡ true) (legal : is_legal_shared o log ≡ true) (small : migration < 2 ^ 32) where
    pub each_stands : IsPortRun o migration homes log first now → EachMayHold o.rollout migration homes o.found first now.port (AreHeldAt o.rollout migration homes first.switch (history_of o log))
    each_stands =
        each-by (AreHeldAt o.rollout migration homes first.switch (history_of o log))
        (λ earlier before after found run.
        held_stands o.rollout migration homes o.found (added log) run.sent (imagined earlier before first) (imagined earlier after now) net valid (list-is_legal o log legal) small
        (runs_at o migration homes log (imagined earlier before first) (imagined earlier after now) run (starts-same o migration homes first earlier before found)))

    pub each_at_end : is_finished o.rollout.problem o.rollout.plan (history_of o log) ≡ true → IsPortRun o migration homes log first now → EachMayHold o.rollout migration homes o.found first now.port (AreHeldAtEnd o.rollout migration homes first.switch o.found.start)
    each_at_end finished =
        each-by (AreHeldAtEnd o.rollout migration homes first.switch o.found.start)
        (λ earlier before after found run.
        held_at_end o.rollout migration homes o.found (added log) run.sent (imagined earlier before first) (imagined earlier after now) net valid (list-is_legal o log legal) small finished
        (runs_at o migration homes log (imagined earlier before first) (imagined earlier after now) run (starts-same o migration homes first earlier before found)))
