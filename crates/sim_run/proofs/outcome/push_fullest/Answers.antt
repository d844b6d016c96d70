use Rattle.std.proofs.Common.{◌≡◌, ℕ, ◌<◌, ◌^◌, ◌++◌, codes, length, get_or, Option, sym, ap, ◌∙◌, subst, arith}
use Rattle.std.proofs.lemmas.Result.{on_ok_weaker}
use Rattle.rollout_rules.specs.Sums.{list_below}
use Rattle.rollout_rules.proofs.Rows.{list_below-length, list_below-at}
use Rattle.rollout_report.specs.Peaks.{PeakLists, link_peak}
use Rattle.sim_run.specs.TrialText.{fullest_text, fullness_text}
use Rattle.sim_run.proofs.outcome.push_fullest.Goals as goal

pub fullest-requires-clause-all : goal.fullest-requires-clause-all
fullest-requires-clause-all c =
    ap length (c.links-peaks.ensures ∙ ap (λ (v : PeakLists). v.links) c.in_ok-peaks.ensures) ∙ list_below-length (length c.args.plan.now.problem.links) (link_peak c.args.plan.now.problem c.args.plan.now.plan c.args.history.now)

pub fullest-requires-clause-small : goal.fullest-requires-clause-small
fullest-requires-clause-small c = λ l lt.
    let p = c.args.plan.now.problem in
    let peak = link_peak p c.args.plan.now.plan c.args.history.now in
    let rows : c.links-peaks.result.now ≡ list_below (length p.links) peak = c.links-peaks.ensures ∙ ap (λ (v : PeakLists). v.links) c.in_ok-peaks.ensures in
    let low : l < length p.links = omega (arith, lt, ap length rows, list_below-length (length p.links) peak) in
    let at : get_or c.links-peaks.result.now l 0 ≡ peak l = ap (λ xs. get_or xs l 0) rows ∙ list_below-at (length p.links) peak l 0 low in
    subst (λ n. n < 2 ^ 60) (sym at) (c.peaks_fit.ensures l low)

pub push_fullness-requires : goal.push_fullness-requires
push_fullness-requires c =
    let p = c.args.plan.now.problem in
    let peak = link_peak p c.args.plan.now.plan c.args.history.now in
    let rows : c.links-peaks.result.now ≡ list_below (length p.links) peak = c.links-peaks.ensures ∙ ap (λ (v : PeakLists). v.links) c.in_ok-peaks.ensures in
    omega (arith, c.in-Some.ensures.inside, ap length rows, list_below-length (length p.links) peak)

pub returns-in-Some : goal.returns-in-Some
returns-in-Some c =
    let p = c.args.plan.now.problem in
    let plan = c.args.plan.now.plan in
    let h = c.args.history.now in
    let peak = link_peak p plan h in
    let rows : c.links-peaks.result.now ≡ list_below (length p.links) peak = c.links-peaks.ensures ∙ ap (λ (v : PeakLists). v.links) c.in_ok-peaks.ensures in
    let low : c.in-Some.link < length p.links = omega (arith, c.in-Some.ensures.inside, ap length rows, list_below-length (length p.links) peak) in
    let at : get_or c.links-peaks.result.now c.in-Some.link 0 ≡ peak c.in-Some.link = ap (λ xs. get_or xs c.in-Some.link 0) rows ∙ list_below-at (length p.links) peak c.in-Some.link 0 low in
    on_ok_weaker c.push_fullness.result
    (λ e. e ∙ ap (λ n. c.args.text.now ++ (fullness_text p plan c.in-Some.link n ++ codes "\n")) at
    ∙ ap (λ (o : Option ℕ). c.args.text.now ++ (fullest_text p plan h o ++ codes "\n")) (c.in-Some.ensures.is h rows))
    c.push_fullness.ensures
