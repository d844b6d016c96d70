use Rattle.std.proofs.Common.{◌≡◌, ◌<◌, ◌≤◌, ◌+◌, ◌-◌, length, set, slice_index, refl, sym, ap, subst, arith}
use Rattle.dependency_graph.proofs.Elements.{read_from}
use Rattle.dependency_graph.proofs.StageCounts.{moved-some, moved-few, moved-stages, stood-stage, stood-goes}
use Rattle.dependency_graph.proofs.stage_counts.StageCounts.set.Goals as goal

pub overflow_sub-index_mut : goal.overflow_sub-index_mut
overflow_sub-index_mut c =
    let s = c.self.inside in
    let inside = subst (λ v. c.args.item < length v.stages) (sym c.self.view_is) c.requires.item in
    let to = subst (λ v. c.args.stage ≤ v.last) (sym c.self.view_is) c.requires.stage in
    let was = c.index-was.result.now in
    let is = read_from s.stages.items s.stages.items c.args.item was 0 refl inside c.index-was.ensures in
    let there : was < length s.counts.items = stood-stage s.last s.stages.items s.counts.items c.self.invariant c.args.item c.args.stage was inside to is in
    let read = read_from s.counts.items s.counts.items was c.index_mut.result.now 0 refl there c.index_mut.ensures.value in
    omega (arith, read, moved-some s.last s.stages.items s.counts.items c.self.invariant c.args.item c.args.stage was inside to is)

pub overflow_add-index_mut : goal.overflow_add-index_mut
overflow_add-index_mut c =
    let s = c.self.inside in
    let inside = subst (λ v. c.args.item < length v.stages) (sym c.self.view_is) c.requires.item in
    let to = subst (λ v. c.args.stage ≤ v.last) (sym c.self.view_is) c.requires.stage in
    let was = c.index-was.result.now in
    let is = read_from s.stages.items s.stages.items c.args.item was 0 refl inside c.index-was.ensures in
    let there : was < length s.counts.items = stood-stage s.last s.stages.items s.counts.items c.self.invariant c.args.item c.args.stage was inside to is in
    let read = read_from s.counts.items s.counts.items was c.index_mut.result.now 0 refl there c.index_mut.ensures.value in
    let some = moved-some s.last s.stages.items s.counts.items c.self.invariant c.args.item c.args.stage was inside to is in
    let less : (c.index_mut.result.now - 1) + 1 ≡ slice_index s.counts.items was = omega (arith, read, some) in
    let left = set s.counts.items was (c.index_mut.result.now - 1) in
    let goes = stood-goes s.last s.stages.items s.counts.items c.self.invariant c.args.item c.args.stage was inside to is (c.index_mut.result.now - 1) in
    let read' = read_from left left c.args.stage c.index_mut-2.result.now 0 refl goes c.index_mut-2.ensures.value in
    omega (arith, moved-few s.last s.stages.items s.counts.items c.self.invariant c.args.item c.args.stage was inside to is (c.index_mut.result.now - 1) (c.index_mut-2.result.now + 1) less (ap (λ x. x + 1) read'))

pub invariant_of-self : goal.invariant_of-self
invariant_of-self c =
    let s = c.self.inside in
    let inside = subst (λ v. c.args.item < length v.stages) (sym c.self.view_is) c.requires.item in
    let to = subst (λ v. c.args.stage ≤ v.last) (sym c.self.view_is) c.requires.stage in
    let was = c.index-was.result.now in
    let is = read_from s.stages.items s.stages.items c.args.item was 0 refl inside c.index-was.ensures in
    let there : was < length s.counts.items = stood-stage s.last s.stages.items s.counts.items c.self.invariant c.args.item c.args.stage was inside to is in
    let read = read_from s.counts.items s.counts.items was c.index_mut.result.now 0 refl there c.index_mut.ensures.value in
    let some = moved-some s.last s.stages.items s.counts.items c.self.invariant c.args.item c.args.stage was inside to is in
    let less : (c.index_mut.result.now - 1) + 1 ≡ slice_index s.counts.items was = omega (arith, read, some) in
    let left = set s.counts.items was (c.index_mut.result.now - 1) in
    let goes = stood-goes s.last s.stages.items s.counts.items c.self.invariant c.args.item c.args.stage was inside to is (c.index_mut.result.now - 1) in
    let read' = read_from left left c.args.stage c.index_mut-2.result.now 0 refl goes c.index_mut-2.ensures.value in
    moved-stages s.last s.stages.items s.counts.items c.self.invariant c.args.item c.args.stage was inside to is (c.index_mut.result.now - 1) (c.index_mut-2.result.now + 1) less (ap (λ x. x + 1) read')
