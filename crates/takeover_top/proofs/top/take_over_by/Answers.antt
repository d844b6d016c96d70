use Rattle.std.proofs.Common.{◌≡◌, ℕ, Option, Some, None, refl, sym, ap, subst, ◌∙◌}
use Rattle.std.specs.Option.{option_map}
use Rattle.order_policy.specs.Answers.{rank_by}
use Rattle.order_policy.specs.Named.{answers_in}
use Rattle.swanroll_top.specs.Rollouts.{fleet_of}
use Rattle.swanroll_top.proofs.Promises.{same-guests}
use Rattle.takeover_top.specs.TakingWords.{Taking, taking, taking_by, term_of}
use Rattle.takeover_top.proofs.CertainTake.{status-well}
use Rattle.takeover_top.proofs.Faulting.{status-disk, status-read, status-write}
use Rattle.takeover_top.proofs.Promising.{status-refused, status-safe, status-target, takes-ends}
use Rattle.takeover_top.proofs.Worded.{of-taking}
use Rattle.takeover_top.proofs.top.take_over_by.Goals as goal

pub returns-in-Some : goal.returns-in-Some
returns-in-Some g c =
    let t = c.in-Some.taking in
    let own : Taking = taking t.term t.limits (rank_by t.policy.now.answers) in
    let asked : Some own ≡ taking_by (answers_in c.args.policies.now) c.args.words.now = c.in-Some.ensures.asked in
    let before = fleet_of (g.F.Fleet.told c.args.fleet.now) in
    let now = fleet_of (g.F.Fleet.told c.take-ending.new.fleet) in
    let policy = rank_by t.policy.now.answers in
    let source = g.S.Source.told c.args.source.now in
    let source_now = g.S.Source.told c.take-ending.new.source in
    let sink = g.K.Sink.told c.args.sink.now in
    let sink_now = g.K.Sink.told c.take-ending.new.sink in
    let notes = g.K.Sink.told c.args.notes.now in
    let notes_now = g.K.Sink.told c.tell-status.new.notes in
    let takes = c.take-ending.ensures.takes in
    let named : Some t.term ≡ Some (g.F.OneTerm.of_term c.args.fleet.now) = ap (option_map term_of) asked ∙ c.requires.term in
    let is : g.F.OneTerm.of_term c.args.fleet.now ≡ t.term = cc named in
    of-taking _ _ _ _ _ _ own asked (record {
      term = is;
      ending = c.take-ending.result.ending;
      does = takes;
      told = c.tell-status.ensures;
      serves = same-guests _ _ c.take-ending.ensures.guests.0 c.take-ending.ensures.guests.1;
      visiting = c.take-ending.ensures.guests.2;
      read_fault = status-read g.D.Disk.told g.F.Port.Port.told source source_now t.limits policy c.args.disk c.take-ending.result.disk before now c.take-ending.result.ending sink sink_now takes c.tell-status.result notes notes_now c.tell-status.ensures;
      write_fault = status-write g.D.Disk.told g.F.Port.Port.told source source_now t.limits policy c.args.disk c.take-ending.result.disk before now c.take-ending.result.ending sink sink_now takes c.tell-status.result notes notes_now c.tell-status.ensures;
      disk_fault = status-disk g.D.Disk.told g.F.Port.Port.told source source_now t.limits policy c.args.disk c.take-ending.result.disk before now c.take-ending.result.ending sink sink_now takes c.tell-status.result notes notes_now c.tell-status.ensures;
      ends = takes-ends g.D.Disk.told g.F.Port.Port.told source source_now t.limits policy c.args.disk c.take-ending.result.disk before now c.take-ending.result.ending sink sink_now takes;
      safe = status-safe g.D.Disk.told g.F.Port.Port.told source source_now t.limits policy c.args.disk c.take-ending.result.disk before now c.take-ending.result.ending sink sink_now takes c.tell-status.result notes notes_now c.tell-status.ensures;
      target = status-target g.D.Disk.told g.F.Port.Port.told source source_now t.limits policy c.args.disk c.take-ending.result.disk before now c.take-ending.result.ending sink sink_now takes c.tell-status.result notes notes_now c.tell-status.ensures;
      refused = status-refused g.D.Disk.told g.F.Port.Port.told source source_now t.limits policy c.args.disk c.take-ending.result.disk before now c.take-ending.result.ending sink sink_now takes c.tell-status.result notes notes_now c.tell-status.ensures;
      completes = λ r start given ready faults. status-well g.D.Disk.told g.F.Port.Port.told source source_now t.limits policy r start c.args.disk c.take-ending.result.disk before now c.take-ending.result.ending sink sink_now given ready
          faults.rest faults.source faults.sink notes notes_now c.tell-status.result takes c.tell-status.ensures;
    })

pub returns-in-None : goal.returns-in-None
returns-in-None g c =
    let none : None ≡ Some (g.F.OneTerm.of_term c.args.fleet.now) = ap (option_map term_of) c.in-None.ensures.asked ∙ c.requires.term in
    absurd (cc none)
