use Rattle.std.proofs.Common.{◌≡◌, ◌∙◌, true, sym, subst, ap}
use Rattle.dependency_graph.specs.Graph.{Followed}
use Rattle.rollout_rules.specs.Legal.{is_legal}
use Rattle.switch_ports.specs.Berths.{ports_of}
use Rattle.rollback_service.specs.Levellings.{TurnsFrom, start_of}
use Rattle.rollback_service.proofs.Levellings.{levelled-so, never-lacks, never-levelled, some-stage}
use Rattle.rollback_service.proofs.levelling.level.Goals as goal

pub turn_of-requires : goal.turn_of-requires
turn_of-requires g c = subst (λ (x : Followed). is_legal x.rollout.problem x.rollout.plan x.history ≡ true) (sym c.graph.ensures.value) c.requires.legal

pub returns-in-Ok-clause-levelled : goal.returns-in-Ok-clause-levelled
returns-in-Ok-clause-levelled g c =
    let turns : TurnsFrom c.args.origin c.args.chronicle.rollout c.args.chronicle.history c.in-Ok.turn.stage = subst (λ (x : Followed). TurnsFrom c.args.origin x.rollout x.history c.in-Ok.turn.stage) c.graph.ensures.value c.in-Ok.ensures.stage in
    let start : c.in-Ok.turn.start ≡ start_of c.args.chronicle.rollout c.args.chronicle.history c.in-Ok.turn.stage = c.in-Ok.ensures.start ∙ ap (λ (x : Followed). start_of x.rollout x.history c.in-Ok.turn.stage) c.graph.ensures.value in
    levelled-so g.D.Disk.told g.F.Port.Port.told
    c.args.origin c.in-Ok.turn.stage c.in-Ok.turn.start c.args.limits.migration c.args.limits.rounds c.args.chronicle
    (ports_of (g.F.Fleet.told c.args.fleet.now)) (ports_of (g.F.Fleet.told c.level_at.new.fleet)) c.level_at.result.disk c.level_at.result.answer
    turns start c.level_at.ensures.run

pub returns-in-Err-clause-levelled : goal.returns-in-Err-clause-levelled
returns-in-Err-clause-levelled g c =
    let book = c.args.chronicle in
    never-levelled g.D.Disk.told g.F.Port.Port.told
    c.args.origin c.args.limits.migration c.args.limits.rounds book (ports_of (g.F.Fleet.told c.args.fleet.now)) c.unrun-disk.result.disk c.unrun-disk.result.outcome
    (some-stage book.rollout book.history c.requires.legal c.plan_is_valid.ensures.network c.plan_is_valid.ensures.valid c.args.origin) c.requires c.unrun-disk.ensures.disk c.unrun-disk.ensures.outcome

pub returns-in-Err-clause-no_port : goal.returns-in-Err-clause-no_port
returns-in-Err-clause-no_port g c = λ switch lacks. absurd (never-lacks c.args.chronicle c.unrun-disk.result.outcome switch c.unrun-disk.ensures.outcome lacks)
