use Rattle.std.proofs.Common.{◌≡◌, ℕ, Option, Some, None, refl, subst, sym, ◌∙◌, arith}
use Rattle.wan_edge.specs.Ports.{PortTrace}
use Rattle.fenced_ports.specs.Sieves.{HearsOne}
use Rattle.fenced_ports.proofs.Sifted.{after-on, as-silent, hands-fault, hands-nothing, hands-part, nearer, sifts-byte, sifts-nothing, sifts-on, sifts-same}
use Rattle.fenced_ports.proofs.hearing.hear_plain.Goals as goal

-- what was found, where it is known whether there is a byte
found_as : (found known : Option ℕ) (before now : PortTrace) → found ≡ known → HearsOne found before now → HearsOne known before now
found_as found known before now is one = subst (λ (f : Option ℕ). HearsOne f before now) is one

pub loop-part-init : goal.loop-part-init
loop-part-init g c = record {
  place = c.is_placed.ensures;
  sifts = sifts-nothing c.args.term (g.T.Port.told c.args.port.now).heard c.args.sieve.now;
  after = (refl, refl, c.requires);
  quiet = refl;
  unsent = refl;
  count = omega arith;
}

pub take-part-requires : goal.take-part-requires
take-part-requires g c =
    let i = c.loop-part.invariant in
    (as-silent c.args.term c.args.sieve.now c.loop-part.sieve c.loop-part.sieve 0 c.loop-part.part c.loop-part.part (sym c.is_silent.ensures ∙ c.loop-part-test.true) i.after).2

pub loop-part-preserved : goal.loop-part-preserved
loop-part-preserved g c =
    let tell = g.T.Port.told in
    let i = c.loop-part.invariant in
    let term = c.args.term in
    let silent = sym c.is_silent.ensures ∙ c.loop-part-test.true in
    let heard = found_as c.in_ok-found.found (Some c.in-Some.byte) (tell c.loop-part.port) (tell c.hear_one.new.port) c.in-Some.is c.in_ok-found.ensures.one in
    record {
      place = c.take-part.ensures.place;
      sifts = sifts-on term (tell c.args.port.now).heard (tell c.loop-part.port).heard (tell c.hear_one.new.port).heard c.args.sieve.now c.loop-part.sieve c.take-part.new.self i.sifts
          (sifts-byte term (tell c.loop-part.port).heard (tell c.hear_one.new.port).heard c.loop-part.sieve c.take-part.new.self c.in-Some.byte heard.heard c.take-part.ensures.after);
      after = after-on term c.args.sieve.now c.loop-part.sieve c.take-part.new.self c.in-Some.byte c.loop-part.part c.take-part.result silent i.after c.take-part.ensures.part c.take-part.ensures.after;
      quiet = heard.as_quiet ∙ i.quiet;
      unsent = heard.unsent ∙ i.unsent;
      count = omega (arith, i.count, c.hear_one.ensures.count);
    }

pub returns-in-None-clause-sifts : goal.returns-in-None-clause-sifts
returns-in-None-clause-sifts g c =
    let tell = g.T.Port.told in
    let i = c.loop-part.invariant in
    let nothing = found_as c.in_ok-found.found None (tell c.loop-part.port) (tell c.hear_one.new.port) c.in-None.is c.in_ok-found.ensures.one in
    sifts-same c.args.term (tell c.args.port.now).heard (tell c.loop-part.port).heard (tell c.hear_one.new.port).heard c.args.sieve.now c.loop-part.sieve i.sifts nothing.heard

pub returns-in-None-clause-unsent : goal.returns-in-None-clause-unsent
returns-in-None-clause-unsent g c =
    let tell = g.T.Port.told in
    let nothing = found_as c.in_ok-found.found None (tell c.loop-part.port) (tell c.hear_one.new.port) c.in-None.is c.in_ok-found.ensures.one in
    nothing.unsent ∙ c.loop-part.invariant.unsent

pub returns-in-None-clause-hands : goal.returns-in-None-clause-hands
returns-in-None-clause-hands g c =
    let tell = g.T.Port.told in
    let i = c.loop-part.invariant in
    let nothing = found_as c.in_ok-found.found None (tell c.loop-part.port) (tell c.hear_one.new.port) c.in-None.is c.in_ok-found.ensures.one in
    let so_far = as-silent c.args.term c.args.sieve.now c.loop-part.sieve c.loop-part.sieve 0 c.loop-part.part c.loop-part.part (sym c.is_silent.ensures ∙ c.loop-part-test.true) i.after in
    hands-nothing (tell c.args.port.now) (tell c.hear_one.new.port) c.args.sieve.now c.loop-part.sieve (tell c.loop-part.port) so_far i.quiet nothing

pub returns-in_err-found-clause-sifts : goal.returns-in_err-found-clause-sifts
returns-in_err-found-clause-sifts g c =
    let tell = g.T.Port.told in
    let i = c.loop-part.invariant in
    sifts-same c.args.term (tell c.args.port.now).heard (tell c.loop-part.port).heard (tell c.hear_one.new.port).heard c.args.sieve.now c.loop-part.sieve i.sifts c.in_err-found.ensures.none.heard

pub returns-in_err-found-clause-unsent : goal.returns-in_err-found-clause-unsent
returns-in_err-found-clause-unsent g c = c.in_err-found.ensures.none.offered ∙ c.loop-part.invariant.unsent

pub returns-in_err-found-clause-hands : goal.returns-in_err-found-clause-hands
returns-in_err-found-clause-hands g c =
    let tell = g.T.Port.told in
    let i = c.loop-part.invariant in
    let so_far = as-silent c.args.term c.args.sieve.now c.loop-part.sieve c.loop-part.sieve 0 c.loop-part.part c.loop-part.part (sym c.is_silent.ensures ∙ c.loop-part-test.true) i.after in
    hands-fault (tell c.args.port.now) (tell c.hear_one.new.port) c.args.sieve.now c.loop-part.sieve c.from_residual.result c.in_err-found.field-0.0 (tell c.loop-part.port) c.from_residual.ensures.1 so_far i.count c.in_err-found.ensures.none.cause

pub returns-clause-hands : goal.returns-clause-hands
returns-clause-hands g c =
    let tell = g.T.Port.told in
    let i = c.loop-part.invariant in
    hands-part (tell c.args.port.now) (tell c.loop-part.port) c.args.sieve.now c.loop-part.sieve c.loop-part.part c.handed_on.result (sym c.is_silent.ensures ∙ c.loop-part-test.false) i.after c.handed_on.ensures

pub loop-part-smaller : goal.loop-part-smaller
loop-part-smaller g c =
    let i = c.loop-part.invariant in
    let silent = sym c.is_silent.ensures ∙ c.loop-part-test.true in
    let so_far = as-silent c.args.term c.args.sieve.now c.loop-part.sieve c.loop-part.sieve 0 c.loop-part.part c.loop-part.part silent i.after in
    nearer c.args.term c.loop-part.sieve c.take-part.new.self c.in-Some.byte i.place so_far.2 c.take-part.ensures.after c.loop-part.part c.take-part.result silent c.take-part.ensures.part
