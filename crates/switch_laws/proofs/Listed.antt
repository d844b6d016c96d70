-- What is listed as in flight is begun, and stays so.
use Rattle.std.proofs.Common.{◌≡◌, ℕ, ◌+◌, true, List, refl, arith, eqb-true}
use Rattle.std.proofs.lemmas.List.Elements.{All-filter, All-map, All-weaker, Contains-append_left, filter_passes}
use Rattle.std.specs.List.{All, filter}
use Rattle.rollout_rules.specs.Sums.{list_below}
use Rattle.rollout_rules.specs.Wan.{Rollout}
use Rattle.rollout_rules.specs.Items.{item_count}
use Rattle.rollout_rules.specs.History.{History, begun, flies, settled, with_entries}
use Rattle.rollout_rules.specs.Legal.{is_legal}
use Rattle.rollout_rules.specs.Release.{next_op}
use Rattle.rollout_rules.specs.World.{in_flight}
use Rattle.rollout_rules.specs.declared.op.Entry.{Entry}
use Rattle.rollout_rules.specs.declared.op.Entry.TheVariants.{Begin}
use Rattle.rollout_laws.proofs.Histories.{begun_is_there}
use Rattle.wan_edge.specs.Frames.{Command}
use Rattle.rollout_book.specs.Commands.{asked, command_of, is_asked}
use Rattle.switch_laws.specs.Runs.{IsBegunCommand}

pub begun_stays : (r : Rollout) (h : History) (more : List Entry) (c : Command) → IsBegunCommand r h c → IsBegunCommand r (with_entries h more) c
begun_stays r h more c is = record { op = is.op; there = Contains-append_left h.entries more (Begin is.op) is.there; is = is.is }

module _ (r : Rollout) (h : History) (legal : is_legal r.problem r.plan h ≡ true) where
  flying_is_begun : (n : ℕ) → flies h n ≡ true → IsBegunCommand r h (command_of r (next_op h n))
  flying_is_begun n flying =
      let count = eqb-true (begun h n) (settled h n + 1) flying in
      record { op = next_op h n; there = begun_is_there r.problem r.plan h legal n (settled h n + 1) (omega arith) (omega (arith, count)); is = refl }

  pub listed_are_begun : (switches : List ℕ) → All (IsBegunCommand r h) (asked r switches (in_flight r.problem h))
  listed_are_begun switches =
      let items = list_below (item_count r.problem) (λ n. n) in
      All-map (IsBegunCommand r h) (command_of r) (filter (is_asked r.problem switches) (in_flight r.problem h))
      (All-filter (is_asked r.problem switches) (λ op. IsBegunCommand r h (command_of r op)) (in_flight r.problem h)
      (All-map (λ op. IsBegunCommand r h (command_of r op)) (next_op h) (filter (flies h) items)
      (All-weaker (λ n. flies h n ≡ true) (λ n. IsBegunCommand r h (command_of r (next_op h n))) flying_is_begun (filter (flies h) items) (filter_passes (flies h) items))))
