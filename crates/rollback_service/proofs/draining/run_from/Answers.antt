use Rattle.std.proofs.Common.{◌≡◌, ◌∙◌, ℕ, refl, sym, subst}
use Rattle.rollout_rules.specs.Release.{held_back}
use Rattle.order_policy.specs.Answers.{rank_by}
use Rattle.order_policy.proofs.Ranks.{answers_by}
use Rattle.order_policy.proofs.Boxed.{boxed}
use Rattle.switch_ports.specs.Berths.{ports_of}
use Rattle.shared_book.proofs.Firsts.{is-opened}
use Rattle.controller_run.specs.declared.end.RunEnd.TheVariants as run
use Rattle.controller_run.proofs.RolloutEnds.{end-behind}
use Rattle.rollback_plan.specs.Levels.{levelling}
use Rattle.rollback_service.specs.Levellings.{LevelsBy}
use Rattle.rollback_service.proofs.Boxes.{levelling-most, ranks_by}
use Rattle.rollback_service.proofs.Drainings.{never-run}
use Rattle.rollback_service.proofs.draining.run_from.OwnLists as lists
use Rattle.rollback_service.proofs.draining.run_from.Goals as goal

pub holding-policy-requires-clause-answers : goal.holding-policy-requires-clause-answers
holding-policy-requires-clause-answers g c =
    let kept = c.in-Ok.closure.value.0 in
    boxed lists.own-1 lists.entry-1-1 lists.at-1-1 lists.same-1-1 c.into_dyn_box-ask.ensures.1
    (answers_by held_back (levelling kept) (λ view small. levelling-most kept view) (λ view. ∣ (view, refl) ∣₁) (λ view other given. given.1))

pub run_book-requires-clause-opened : goal.run_book-requires-clause-opened
run_book-requires-clause-opened g c κs within = is-opened g.D.Disk.told c.args.chronicle (rank_by c.holding-policy.result.answers) c.requires

pub run_book-requires-clause-has : goal.run_book-requires-clause-has
run_book-requires-clause-has g c κs within = c.requires.has

pub returns-in-Ok-clause-run : goal.returns-in-Ok-clause-run
returns-in-Ok-clause-run g c =
    let answers = rank_by c.holding-policy.result.answers in
    let kept = c.in-Ok.closure.value.0 in
    let same : kept ≡ c.args.stage = rw c.in-Ok.ensures.ok refl in
    let ranks : LevelsBy kept answers =
    ranks_by lists.own-1 lists.entry-1-1 lists.at-1-1 lists.same-1-1 answers (levelling kept) c.into_dyn_box-ask.ensures.1 c.holding-policy.ensures (λ view. (view, refl)) in
    record {
      policy = answers;
      levels = subst (λ (s : ℕ). LevelsBy s answers) same ranks;
      run = c.run_book.ensures.run;
    }

pub returns-in-Err-clause-run : goal.returns-in-Err-clause-run
returns-in-Err-clause-run g c =
    never-run g.D.Disk.told g.F.Port.Port.told
    c.args.stage c.args.limits.migration c.args.limits.rounds c.args.chronicle (ports_of (g.F.Fleet.told c.args.fleet.now)) c.unrun.result.disk c.unrun.result.outcome
    c.requires c.unrun.ensures.disk c.unrun.ensures.outcome

pub returns-in-Err-clause-no_port : goal.returns-in-Err-clause-no_port
returns-in-Err-clause-no_port g c = λ switch is. absurd (let no : run.Memory ≡ run.NoPort switch = sym (end-behind c.args.chronicle run.Memory c.unrun.result.outcome c.unrun.ensures.outcome) ∙ is in cc)
