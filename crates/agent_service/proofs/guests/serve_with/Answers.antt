use Rattle.std.proofs.Common.{◌∙◌, [], refl, sym, ap₂, inl, arith}
use Rattle.agent_service.specs.Services.{after_leaving, first_table, guests_of}
use Rattle.agent_service.specs.declared.service.ServiceFault.TheVariants.{Memory}
use Rattle.agent_service.proofs.Rows.{cause_until, not_fleet}
use Rattle.agent_service.proofs.guests.serve_with.Goals as goal

-- the fleet knows of each guest that sits
pub keep_seated-requires : goal.keep_seated-requires
keep_seated-requires g c = omega (arith, c.serve_seated-answer.ensures.visiting)

pub returns-in-Ok-clause-served : goal.returns-in-Ok-clause-served
returns-in-Ok-clause-served g c =
    let seated = c.serve_seated-answer.ensures.served in
    record {
      course = seated.course;
      end = seated.end;
      last = seated.last;
      goes = seated.goes;
      ends = seated.ends;
      coming = c.keep_seated.ensures.coming ∙ sym seated.coming;
      back = c.keep_seated.ensures.back ∙ ap₂ after_leaving (sym seated.back) (sym seated.sits);
    }

pub returns-in-Ok-clause-visiting : goal.returns-in-Ok-clause-visiting
returns-in-Ok-clause-visiting g c = omega (arith, c.keep_seated.ensures.visiting, c.serve_seated-answer.ensures.visiting)

pub returns-in-Ok-clause-cause : goal.returns-in-Ok-clause-cause
returns-in-Ok-clause-cause g c = cause_until c.serve_seated-answer.result (g.F.Fleet.told c.args.fleet.now).faults (g.F.Fleet.told c.serve_seated-answer.new.fleet).faults (g.F.Fleet.told c.keep_seated.new.fleet).faults c.keep_seated.ensures.count c.serve_seated-answer.ensures.cause

-- no memory was found for the seats
pub returns-in-Err-clause-served : goal.returns-in-Err-clause-served
returns-in-Err-clause-served g c =
    let first = first_table c.args.agent.now (guests_of (g.F.Fleet.told c.args.fleet.now)) in
    record { course = []; end = first; last = first; goes = refl; ends = inl (refl, refl); coming = refl; back = refl }

pub returns-in-Err-clause-cause : goal.returns-in-Err-clause-cause
returns-in-Err-clause-cause g c = λ is. absurd (not_fleet Memory refl is)
