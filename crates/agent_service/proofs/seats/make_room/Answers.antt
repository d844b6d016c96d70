use Rattle.std.proofs.Common.{inl, inr, length, ap, refl, arith}
use Rattle.agent_service.proofs.seats.make_room.Goals as goal

pub lose_first-requires-clause-full : goal.lose_first-requires-clause-full
lose_first-requires-clause-full g c = omega (arith, c.is_full.ensures.yes c.if-is_full.true, ap length c.as_slice.ensures.value, c.requires.few)

pub lose_first-requires-clause-visiting : goal.lose_first-requires-clause-visiting
lose_first-requires-clause-visiting g c = omega (arith, c.is_full.ensures.yes c.if-is_full.true, ap length c.as_slice.ensures.value, c.requires.visiting)

pub returns-then-is_full-clause-room : goal.returns-then-is_full-clause-room
returns-then-is_full-clause-room g c = λ items. inr (c.lose_first.ensures.lost items)

pub returns-then-is_full-clause-free : goal.returns-then-is_full-clause-free
returns-then-is_full-clause-free g c = (omega (arith, c.lose_first.ensures.free.0, c.requires.few), omega (arith, c.lose_first.ensures.free.0, c.lose_first.ensures.free.1, c.requires.even))

pub returns-then-is_full-clause-visiting : goal.returns-then-is_full-clause-visiting
returns-then-is_full-clause-visiting g c = omega (arith, c.lose_first.ensures.free.0, c.lose_first.ensures.visiting)

pub returns-clause-room : goal.returns-clause-room
returns-clause-room g c = λ items. inl (omega (arith, c.is_full.ensures.no c.if-is_full.false, ap length c.as_slice.ensures.value), refl)

pub returns-clause-free : goal.returns-clause-free
returns-clause-free g c = (omega (arith, c.is_full.ensures.no c.if-is_full.false, ap length c.as_slice.ensures.value), c.requires.even)
