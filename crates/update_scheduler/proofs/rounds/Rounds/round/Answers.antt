use Rattle.std.proofs.Common.{length, vec_capacity, ap, ◌∙◌, arith}
use Rattle.order_policy.specs.Answers.{rank_by}
use Rattle.update_scheduler.specs.InFlight.{with_each}
use Rattle.update_scheduler.proofs.Turning.{turned, turned-view, turned-follows, few-entries}
use Rattle.update_scheduler.proofs.rounds.Rounds.round.Goals as goal

pub follow-requires : goal.follow-requires
follow-requires g c =
    let s = c.self.inside in
    let policy = rank_by c.args.policy.now.answers in
    let m = c.make_batch in
    let few = few-entries s.graph s.bench s.flights s.told s.batch.items (vec_capacity s.batch) c.self.invariant policy m.new.graph m.new.bench m.new.told m.new.batch.items (vec_capacity m.new.batch) m.ensures.graph m.ensures.batch m.ensures.bench m.ensures.told m.ensures.capacity in
    record { room = omega (arith, few, ap length c.deref.ensures.value) }

pub invariant_of-self : goal.invariant_of-self
invariant_of-self g c =
    let s = c.self.inside in
    let policy = rank_by c.args.policy.now.answers in
    let m = c.make_batch in
    turned s.graph s.bench s.flights s.told s.batch.items (vec_capacity s.batch) c.self.invariant policy m.new.graph m.new.bench m.new.told m.new.batch.items (vec_capacity m.new.batch) m.ensures.graph m.ensures.batch m.ensures.bench m.ensures.told m.ensures.capacity c.follow.new.self c.follow.ensures.items (c.follow.ensures.ops ∙ ap (with_each s.flights.ops) c.deref.ensures.value)

pub returns-clause-next : goal.returns-clause-next
returns-clause-next g c =
    let s = c.self.inside in
    let policy = rank_by c.args.policy.now.answers in
    let m = c.make_batch in
    turned-view s.graph s.bench s.flights s.told s.batch.items (vec_capacity s.batch) c.self.invariant policy m.new.graph m.new.bench m.new.told m.new.batch.items (vec_capacity m.new.batch) m.ensures.graph m.ensures.batch m.ensures.bench m.ensures.told m.ensures.capacity c.args.self.now c.self.view_is

pub returns-clause-follows : goal.returns-clause-follows
returns-clause-follows g c =
    let s = c.self.inside in
    let policy = rank_by c.args.policy.now.answers in
    let m = c.make_batch in
    turned-follows s.graph s.bench s.flights s.told s.batch.items (vec_capacity s.batch) c.self.invariant policy m.new.graph m.new.bench m.new.told m.new.batch.items (vec_capacity m.new.batch) m.ensures.graph m.ensures.batch m.ensures.bench m.ensures.told m.ensures.capacity c.args.self.now c.self.view_is
