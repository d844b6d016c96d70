use Rattle.std.proofs.Common.{◌≡◌, ℕ, ◌∙◌, List, length, true, sym, ap, subst}
use Rattle.std.proofs.lemmas.List.{length-map}
use Rattle.std.specs.Prelude.{IfOk}
use Rattle.rollout_rules.specs.Wan.{Rollout}
use Rattle.rollout_rules.specs.Items.{item_count}
use Rattle.rollout_rules.specs.Legal.{is_sound}
use Rattle.rollout_rules.specs.World.{are_first_pairs, first_world, now}
use Rattle.rollout_rules.specs.declared.held.Held.{Held}
use Rattle.rollout_rules.proofs.Rows.{list_below-length}
use Rattle.rollout_laws.specs.Kept.{IsKept}
use Rattle.rollout_laws.specs.SafeWorlds.{applied, pairs_held}
use Rattle.rollout_laws.proofs.Again.{applied_is_sound, may_go_on}
use Rattle.rollout_core.specs.Worlds.{Standing}
use Rattle.takeover_core.proofs.starting.taken_over.Goals as goal

pub new-requires-clause-numbers : goal.new-requires-clause-numbers
new-requires-clause-numbers c =
    let p = c.args.plan.now.problem in
    let w = c.args.older.now.world in
    let start : c.deref.result.now ≡ applied p w = c.deref.ensures.value ∙ c.in_ok-start.ensures ∙ ap (λ (r : Rollout). applied r.problem w) c.requires.own in
    ap (λ (ns : List ℕ). length ns) start ∙ list_below-length (item_count p) (now w)

pub new-requires-clause-pairs : goal.new-requires-clause-pairs
new-requires-clause-pairs c =
    let w = c.args.older.now.world in
    let first : c.deref-2.result.now ≡ pairs_held w = c.deref-2.ensures.value ∙ c.in_ok-first.ensures in
    ap (λ (pairs : List Held). length pairs) first ∙ length-map w.held (λ v. v.held) ∙ c.requires.kept.items ∙ ap (λ (q : Rollout). item_count q.problem) c.requires.own

pub new-requires-clause-sound : goal.new-requires-clause-sound
new-requires-clause-sound c =
    let r = c.args.plan.now in
    let w = c.args.older.now.world in
    let start : c.deref.result.now ≡ applied r.problem w = c.deref.ensures.value ∙ c.in_ok-start.ensures ∙ ap (λ (q : Rollout). applied q.problem w) c.requires.own in
    subst (λ (ns : List ℕ). is_sound r.problem r.plan ns ≡ true) (sym start) (applied_is_sound r.problem r.plan w (subst (λ (q : Rollout). IsKept q.problem q.plan w) c.requires.own c.requires.kept) c.checked_plan_is_valid.ensures.network)

pub new-requires-clause-first : goal.new-requires-clause-first
new-requires-clause-first c =
    let r = c.args.plan.now in
    let w = c.args.older.now.world in
    let start : c.deref.result.now ≡ applied r.problem w = c.deref.ensures.value ∙ c.in_ok-start.ensures ∙ ap (λ (q : Rollout). applied q.problem w) c.requires.own in
    let first : c.deref-2.result.now ≡ pairs_held w = c.deref-2.ensures.value ∙ c.in_ok-first.ensures in
    subst (λ (ns : List ℕ). are_first_pairs r.problem ns c.migration.result c.deref-2.result.now ≡ true) (sym start)
    (subst (λ (m : ℕ). are_first_pairs r.problem (applied r.problem w) m c.deref-2.result.now ≡ true) (sym c.migration.ensures)
    (subst (λ (pairs : List Held). are_first_pairs r.problem (applied r.problem w) w.migration pairs ≡ true) (sym first) (may_go_on r.problem r.plan w (subst (λ (q : Rollout). IsKept q.problem q.plan w) c.requires.own c.requires.kept))))

pub returns : goal.returns
returns c =
    let r = c.args.plan.now in
    let w = c.args.older.now.world in
    let start : c.deref.result.now ≡ applied r.problem w = c.deref.ensures.value ∙ c.in_ok-start.ensures ∙ ap (λ (q : Rollout). applied q.problem w) c.requires.own in
    let first : c.deref-2.result.now ≡ pairs_held w = c.deref-2.ensures.value ∙ c.in_ok-first.ensures in
    subst (λ (pairs : List Held). IfOk c.new.result (λ (s : Standing). s ≡ record { rollout = r; world = first_world r.problem r.plan (applied r.problem w) w.migration pairs })) first
    (subst (λ (m : ℕ). IfOk c.new.result (λ (s : Standing). s ≡ record { rollout = r; world = first_world r.problem r.plan (applied r.problem w) m c.deref-2.result.now })) c.migration.ensures
    (subst (λ (ns : List ℕ). IfOk c.new.result (λ (s : Standing). s ≡ record { rollout = r; world = first_world r.problem r.plan ns c.migration.result c.deref-2.result.now })) start c.new.ensures))
