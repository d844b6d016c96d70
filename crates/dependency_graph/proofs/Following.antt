-- A batch that follows a history, entry by entry.
use Rattle.std.proofs.Common.{◌≡◌, ◌+◌, true, [], ◌∷◌, arith, eqb-true}
use Rattle.std.proofs.lemmas.Bool.{and_parts, eqb-false}
use Rattle.rollout_rules.specs.History.{History, with_entries, begun, settled}
use Rattle.rollout_rules.specs.Legal.{is_legal}
use Rattle.rollout_rules.specs.declared.op.Entry.{Entry}
use Rattle.rollout_rules.specs.declared.op.Entry.TheVariants.{Begin, Done}
use Rattle.rollout_laws.proofs.Histories.{begins, ends, front_is_legal, rest_follows, is_counted}
use Rattle.dependency_graph.specs.Progress.{Counts, AreCountsOf, MayCount}

-- an entry after a history that is counted may be counted where the history with it is legal
pub counted_next : (c : Counts) (h : History) (e : Entry) → AreCountsOf c h → is_legal c.rollout.problem c.rollout.plan (with_entries h (e ∷ [])) ≡ true → MayCount c e
counted_next c h (Begin op) counts legal =
    let may = (and_parts _ _ (rest_follows c.rollout.problem c.rollout.plan h (Begin op ∷ []) legal)).0 in
    let next = (begins c.rollout.problem c.rollout.plan h op may).next in
    let idle = eqb-false (begun h op.item) (settled h op.item + 1) next.idle in
    let number = next.number in
    let high = (is_counted c.rollout.problem c.rollout.plan h (front_is_legal c.rollout.problem c.rollout.plan h (Begin op ∷ []) legal) op.item).one_flies in
    let same = counts.begun op.item next.within in
    (next.within, omega arith)
counted_next c h (Done op) counts legal =
    let may = (and_parts _ _ (rest_follows c.rollout.problem c.rollout.plan h (Done op ∷ []) legal)).0 in
    let flying = eqb-true (begun h op.item) (settled h op.item + 1) (ends h op may).flying in
    let number = (ends h op may).number in
    let inside = (is_counted c.rollout.problem c.rollout.plan h (front_is_legal c.rollout.problem c.rollout.plan h (Done op ∷ []) legal) op.item).within (omega (arith, flying)) in
    let same = counts.settled op.item inside in
    (inside, omega arith)
