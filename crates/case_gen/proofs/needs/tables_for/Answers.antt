use Rattle.std.proofs.Common.{rules, ◌≡◌, ℕ, ◌<◌, List, length, replicate, ◌+◌, sym, ap, subst, ◌∙◌, arith}
use Rattle.plan_check.specs.Parts.{GrownBy, added}
use Rattle.case_gen.proofs.Counted.{AreCounts, counts_all, counts_more, counts_none, counts_within, path_known, path_room, written_back}
use Rattle.case_gen.proofs.needs.tables_for.Goals as goal

pub loop-t-init : goal.loop-t-init
loop-t-init c =
    let are : c.in_ok-tables.tables.items ≡ replicate (length c.switches.result.now) 0 = search rules in
    counts_none c.args.problem.now c.in_ok-tables.tables.items (are ∙ ap (λ rows. replicate (length rows) 0) c.switches.ensures.list)

pub count_along-requires-clause-known : goal.count_along-requires-clause-known
count_along-requires-clause-known c =
    let inside : c.loop-t.t < length c.args.problem.now.tunnels = omega (arith, ap length c.tunnels-t-end.ensures.list) in
    path_known c.args.problem.now c.tunnels-t-end.ensures.network c.loop-t.t inside c.path.result.now c.path.ensures.list c.as_mut_slice.result.now
    (subst (λ (tables : List ℕ). AreCounts c.args.problem.now tables c.loop-t.t) (sym c.as_mut_slice.ensures.value) c.loop-t.invariant)

pub count_along-requires-clause-room : goal.count_along-requires-clause-room
count_along-requires-clause-room c =
    let inside : c.loop-t.t < length c.args.problem.now.tunnels = omega (arith, ap length c.tunnels-t-end.ensures.list) in
    path_room c.args.problem.now c.tunnels-t-end.ensures.network c.loop-t.t inside c.path.result.now c.path.ensures.list c.as_mut_slice.result.now
    (subst (λ (tables : List ℕ). AreCounts c.args.problem.now tables c.loop-t.t) (sym c.as_mut_slice.ensures.value) c.loop-t.invariant)

pub loop-t-preserved : goal.loop-t-preserved
loop-t-preserved c =
    let inside : c.loop-t.t < length c.args.problem.now.tunnels = omega (arith, ap length c.tunnels-t-end.ensures.list) in
    let by : GrownBy c.loop-t.tables.items c.count_along.new.tables (added c.path.result.now 1) (length c.path.result.now) =
    subst (λ (old : List ℕ). GrownBy old c.count_along.new.tables (added c.path.result.now 1) (length c.path.result.now)) c.as_mut_slice.ensures.value c.count_along.ensures in
    let back = written_back c.loop-t.tables.len c.loop-t.tables.items c.count_along.new.tables (search rules) by.count in
    subst (λ (tables : List ℕ). AreCounts c.args.problem.now tables (c.loop-t.t + 1)) (sym back)
    (counts_more c.args.problem.now c.tunnels-t-end.ensures.network c.loop-t.t inside c.path.result.now c.path.ensures.list c.loop-t.tables.items c.loop-t.invariant c.count_along.new.tables c.requires by)

pub returns-clause-value : goal.returns-clause-value
returns-clause-value c =
    let all : c.loop-t.t ≡ length c.args.problem.now.tunnels = grind arith in
    counts_all c.args.problem.now c.loop-t.tables.items c.loop-t.t all c.loop-t.invariant

pub returns-clause-within : goal.returns-clause-within
returns-clause-within c =
    let all : c.loop-t.t ≡ length c.args.problem.now.tunnels = grind arith in
    counts_within c.args.problem.now c.loop-t.tables.items c.loop-t.t all c.loop-t.invariant c.tunnels-t-end.ensures.network
