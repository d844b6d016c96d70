use Rattle.std.proofs.Common.{◌≡◌, ◌<◌, ◌≤◌, get_or, length, set, refl, sym, ap, ◌∙◌, subst, arith}
use Rattle.rollout_rules.specs.Wan.{flow_at}
use Rattle.rollout_rules.specs.Items.{item_at, item_count, number_of}
use Rattle.rollout_rules.specs.declared.item.Item.TheVariants as item
use Rattle.rollout_rules.proofs.Numbers.{number_of-below}
use Rattle.rollout_rules.proofs.OverItems.{is_item-entry}
use Rattle.rollout_report.specs.Counts.{entry_at, item_of}
use Rattle.rollout_report.specs.Loads.{AreRefreshed, AreRaised}
use Rattle.rollout_report.specs.Fills.{either_at}
use Rattle.rollout_report.specs.Passing.{IsPast}
use Rattle.rollout_report.proofs.Counting.{entry_at-is}
use Rattle.rollout_report.proofs.Marking.{numbered, flow_number, flow_there, flow_apart}
use Rattle.rollout_report.proofs.Looking.{here-told, next-told}
use Rattle.rollout_report.proofs.Loading.{links-kept, links-taken}
use Rattle.rollout_report.proofs.Holding.{tables-kept, tables-taken}
use Rattle.rollout_report.proofs.pass.Pass.take.Goals as goal

pub take-requires-in-Flow-clause-flow : goal.take-requires-in-Flow-clause-flow
take-requires-in-Flow-clause-flow c =
    let p = c.args.plan.now.problem in
    let own : c.take.new.self.rollout ≡ c.args.plan.now = c.take.ensures.rollout ∙ ap (λ v. v.course.rollout) c.self.view_is ∙ c.requires.past.own in
    let low : c.item-number.result < item_count p = omega (arith, c.if-number-len.false, c.len.ensures, ap (λ r. item_count r.problem) own) in
    flow_there p c.in-Flow.flow c.item-number.result low (c.in-Flow.ensures.value ∙ ap (λ r. item_at r.problem c.item-number.result) own)

pub take-requires-in-Entry-clause-tunnel : goal.take-requires-in-Entry-clause-tunnel
take-requires-in-Entry-clause-tunnel c =
    let p = c.args.plan.now.problem in
    let own : c.take.new.self.rollout ≡ c.args.plan.now = c.take.ensures.rollout ∙ ap (λ v. v.course.rollout) c.self.view_is ∙ c.requires.past.own in
    let low : c.item-number.result < item_count p = omega (arith, c.if-number-len.false, c.len.ensures, ap (λ r. item_count r.problem) own) in
    (numbered p c.item-number.result c.in-Entry.tunnel c.in-Entry.hop low (c.in-Entry.ensures.value ∙ ap (λ r. item_at r.problem c.item-number.result) own)).row

pub take-requires-in-Entry-clause-hop : goal.take-requires-in-Entry-clause-hop
take-requires-in-Entry-clause-hop c =
    let p = c.args.plan.now.problem in
    let own : c.take.new.self.rollout ≡ c.args.plan.now = c.take.ensures.rollout ∙ ap (λ v. v.course.rollout) c.self.view_is ∙ c.requires.past.own in
    let low : c.item-number.result < item_count p = omega (arith, c.if-number-len.false, c.len.ensures, ap (λ r. item_count r.problem) own) in
    (numbered p c.item-number.result c.in-Entry.tunnel c.in-Entry.hop low (c.in-Entry.ensures.value ∙ ap (λ r. item_at r.problem c.item-number.result) own)).hop

pub take-requires-in-Entry-clause-number : goal.take-requires-in-Entry-clause-number
take-requires-in-Entry-clause-number c =
    let p = c.args.plan.now.problem in
    let own : c.take.new.self.rollout ≡ c.args.plan.now = c.take.ensures.rollout ∙ ap (λ v. v.course.rollout) c.self.view_is ∙ c.requires.past.own in
    let low : c.item-number.result < item_count p = omega (arith, c.if-number-len.false, c.len.ensures, ap (λ r. item_count r.problem) own) in
    (numbered p c.item-number.result c.in-Entry.tunnel c.in-Entry.hop low (c.in-Entry.ensures.value ∙ ap (λ r. item_at r.problem c.item-number.result) own)).number

pub returns-then-number-len : goal.returns-then-number-len
returns-then-number-len c =
    let p = c.args.plan.now.problem in
    let plan = c.args.plan.now.plan in
    let h = c.args.history.now in
    let past = subst (λ v. IsPast c.args.plan.now h c.args.place v) (sym c.self.view_is) c.requires.past in
    let own : c.take.new.self.rollout ≡ c.args.plan.now = c.take.ensures.rollout ∙ past.own in
    let e = entry_at h.entries c.args.place in
    let at : get_or h.entries c.args.place e ≡ e = entry_at-is h.entries c.args.place e c.requires.place refl in
    let far : item_count p ≤ item_of e = omega (arith, c.if-number-len.true, c.len.ensures, ap (λ r. item_count r.problem) own, c.item-number.ensures) in
    record {
      own = own;
      counts = c.take.ensures.counts;
      loads = links-kept p plan c.checked_plan_is_valid.ensures.network h c.args.place e c.requires.place at c.self.inside.loads (omega (arith, far)) past.loads;
      fills = tables-kept p plan h c.args.place e c.requires.place at c.self.inside.fills (λ t n row hop q. omega (arith, far, q, number_of-below p (item.Entry t n) (is_item-entry p t n row hop))) past.fills;
    }

pub returns-in-Flow : goal.returns-in-Flow
returns-in-Flow c =
    let p = c.args.plan.now.problem in
    let plan = c.args.plan.now.plan in
    let h = c.args.history.now in
    let n = c.item-number.result in
    let f = c.in-Flow.flow in
    let past = subst (λ v. IsPast c.args.plan.now h c.args.place v) (sym c.self.view_is) c.requires.past in
    let own : c.take.new.self.rollout ≡ c.args.plan.now = c.take.ensures.rollout ∙ past.own in
    let e = entry_at h.entries c.args.place in
    let at : get_or h.entries c.args.place e ≡ e = entry_at-is h.entries c.args.place e c.requires.place refl in
    let low : n < item_count p = omega (arith, c.if-number-len.false, c.len.ensures, ap (λ r. item_count r.problem) own) in
    let is : item.Flow f ≡ item_at p n = c.in-Flow.ensures.value ∙ ap (λ r. item_at r.problem n) own in
    let same : f ≡ item_of e = flow_number p f n low is ∙ c.item-number.ensures in
    let there : item.Flow (item_of e) ≡ item_at p n = ap (λ i. item.Flow i) (sym same) ∙ is in
    let small : item_of e < length p.flows = omega (arith, same, flow_there p f n low is) in
    let here = here-told c.args.plan.now c.take.new.self _ n (item_of e) (item.Flow (item_of e)) c.here-here.result own c.take.ensures.counts low c.item-number.ensures there c.here-here.ensures.value in
    let next = next-told c.args.plan.now c.take.new.self _ n (item_of e) (item.Flow (item_of e)) c.next-next.result own c.take.ensures.counts low c.item-number.ensures there c.next-next.ensures.value in
    record {
      own = own;
      counts = c.take.ensures.counts;
      loads = links-taken p plan c.checked_plan_is_valid.ensures.network h c.args.place e c.requires.place at c.here-here.result c.next-next.result c.self.inside.loads c.take-in-Flow.new.self past.loads small here next
          c.take-in-Flow.ensures.sums
          (subst (λ i. AreRefreshed p plan i c.here-here.result c.next-next.result c.self.inside.loads.rates c.take-in-Flow.new.self.rates) same c.take-in-Flow.ensures.rates)
          (subst (λ i. AreRaised p i (flow_at p i).tunnels c.take-in-Flow.new.self.sums c.self.inside.loads.peaks c.take-in-Flow.new.self.peaks) same c.take-in-Flow.ensures.peaks);
      fills = tables-kept p plan h c.args.place e c.requires.place at c.self.inside.fills (λ t m row hop q. flow_apart p f n t m low is row hop (c.item-number.ensures ∙ q)) past.fills;
    }

pub returns-in-Entry : goal.returns-in-Entry
returns-in-Entry c =
    let p = c.args.plan.now.problem in
    let plan = c.args.plan.now.plan in
    let h = c.args.history.now in
    let n = c.item-number.result in
    let t = c.in-Entry.tunnel in
    let m = c.in-Entry.hop in
    let past = subst (λ v. IsPast c.args.plan.now h c.args.place v) (sym c.self.view_is) c.requires.past in
    let own : c.take.new.self.rollout ≡ c.args.plan.now = c.take.ensures.rollout ∙ past.own in
    let e = entry_at h.entries c.args.place in
    let at : get_or h.entries c.args.place e ≡ e = entry_at-is h.entries c.args.place e c.requires.place refl in
    let low : n < item_count p = omega (arith, c.if-number-len.false, c.len.ensures, ap (λ r. item_count r.problem) own) in
    let is : item.Entry t m ≡ item_at p n = c.in-Entry.ensures.value ∙ ap (λ r. item_at r.problem n) own in
    let numbers = numbered p n t m low is in
    let number : item_of e ≡ number_of p (item.Entry t m) = sym c.item-number.ensures ∙ numbers.number in
    let here = here-told c.args.plan.now c.take.new.self _ n (item_of e) (item.Entry t m) c.here-here.result own c.take.ensures.counts low c.item-number.ensures is c.here-here.ensures.value in
    let next = next-told c.args.plan.now c.take.new.self _ n (item_of e) (item.Entry t m) c.next-next.result own c.take.ensures.counts low c.item-number.ensures is c.next-next.ensures.value in
    record {
      own = own;
      counts = c.take.ensures.counts;
      loads = links-kept p plan c.checked_plan_is_valid.ensures.network h c.args.place e c.requires.place at c.self.inside.loads (omega (arith, number)) past.loads;
      fills = tables-taken p plan h c.args.place e c.requires.place at c.checked_plan_is_valid.ensures.network t m c.here-here.result c.next-next.result numbers.row numbers.hop number here next
          c.self.inside.fills c.take-in-Entry.new.self past.fills c.take-in-Entry.ensures.tallies
          (subst (λ i. c.take-in-Entry.new.self.marks ≡ set c.self.inside.fills.marks i (either_at plan c.here-here.result c.next-next.result t)) c.item-number.ensures c.take-in-Entry.ensures.marks)
          c.take-in-Entry.ensures.sums c.take-in-Entry.ensures.peaks;
    }
