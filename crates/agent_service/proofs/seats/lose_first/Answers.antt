use Rattle.std.proofs.Common.{length, ap, arith}
use Rattle.agent_service.proofs.Rows.{length_removed}
use Rattle.agent_service.proofs.seats.lose_first.Goals as goal

pub returns-clause-lost : goal.returns-clause-lost
returns-clause-lost g c = λ items. record {
  first = c.remove-first.result;
  full = c.requires.full;
  is_first = (omega (arith, c.requires.full), c.remove-first.ensures.value);
  left = λ i. record {
    items = items;
    guests = c.remove-first.ensures.items i;
    talks = c.remove-talk.ensures.items i;
    coming = (g.F.Fleet.told c.args.fleet.now).coming;
    back = c.keep_guest.ensures.back i;
    count = c.with_refused.ensures i;
  };
}

pub returns-clause-free : goal.returns-clause-free
returns-clause-free g c =
    let guests = length_removed c.args.seated.now.items 0 (omega (arith, c.requires.full)) in
    let talks = length_removed c.args.talks.now.items 0 (omega (arith, c.requires.full, c.requires.even)) in
    (omega (arith, guests, ap length c.remove-first.ensures.items), omega (arith, talks, ap length c.remove-talk.ensures.items))
