use Rattle.std.proofs.Common.{sym, ap, subst}
use Rattle.text_commands.specs.Answers.{answer_in, explanation_of, loads_of, rollout_text}
use Rattle.text_commands.specs.Shown.{plan_shown}
use Rattle.text_commands.specs.Safety.{DoesSafely}
use Rattle.text_commands.specs.Words.{TextAsked, text_asked}
use Rattle.text_commands.specs.declared.answer.Answer.TheVariants.{Document, Loads, Explained, Shown, Rehearsed}
use Rattle.text_commands.proofs.Answered.{mapped-told, made-told, told-gives, told-safe, found-safe, drawn-safe}
use Rattle.text_commands.proofs.texts.answer_of.Goals as goal

pub returns-in-Plan-clause-gives : goal.returns-in-Plan-clause-gives
returns-in-Plan-clause-gives g c =
    told-gives _ _ _ _ (mapped-told Document _ _ c.map.ensures.cases) (ap (λ (asked : TextAsked). answer_in asked c.args.input) (sym (ap (λ m. text_asked m) c.in-Plan.is))) c.plan.ensures.gives

pub returns-in-Plan-clause-safe : goal.returns-in-Plan-clause-safe
returns-in-Plan-clause-safe g c =
    found-safe rollout_text _ _ _ _ (mapped-told Document _ _ c.map.ensures.cases) (subst (λ (asked : TextAsked). DoesSafely asked c.args.input) (sym (ap (λ m. text_asked m) c.in-Plan.is))) c.plan.ensures.safe

pub returns-in-Check-clause-gives : goal.returns-in-Check-clause-gives
returns-in-Check-clause-gives g c =
    told-gives _ _ _ _ (made-told _ _ c.map-in-Check.ensures.cases) (ap (λ (asked : TextAsked). answer_in asked c.args.input) (sym (ap (λ m. text_asked m) c.in-Check.is))) c.check.ensures.gives

pub returns-in-Check-clause-safe : goal.returns-in-Check-clause-safe
returns-in-Check-clause-safe g c =
    told-safe _ _ _ _ (made-told _ _ c.map-in-Check.ensures.cases) (subst (λ (asked : TextAsked). DoesSafely asked c.args.input) (sym (ap (λ m. text_asked m) c.in-Check.is))) c.check.ensures.safe

pub returns-in-Loads-clause-gives : goal.returns-in-Loads-clause-gives
returns-in-Loads-clause-gives g c =
    told-gives _ _ _ _ (mapped-told Loads _ _ c.map-in-Loads.ensures.cases) (ap (λ (asked : TextAsked). answer_in asked c.args.input) (sym (ap (λ m. text_asked m) c.in-Loads.is))) c.loads.ensures.gives

pub returns-in-Loads-clause-safe : goal.returns-in-Loads-clause-safe
returns-in-Loads-clause-safe g c =
    found-safe loads_of _ _ _ _ (mapped-told Loads _ _ c.map-in-Loads.ensures.cases) (subst (λ (asked : TextAsked). DoesSafely asked c.args.input) (sym (ap (λ m. text_asked m) c.in-Loads.is))) c.loads.ensures.safe

pub returns-in-Back-clause-gives : goal.returns-in-Back-clause-gives
returns-in-Back-clause-gives g c =
    told-gives _ _ _ _ (mapped-told Document _ _ c.map-in-Back.ensures.cases) (ap (λ (asked : TextAsked). answer_in asked c.args.input) (sym (ap (λ m. text_asked m) c.in-Back.is))) c.back.ensures.gives

pub returns-in-Back-clause-safe : goal.returns-in-Back-clause-safe
returns-in-Back-clause-safe g c =
    found-safe rollout_text _ _ _ _ (mapped-told Document _ _ c.map-in-Back.ensures.cases) (subst (λ (asked : TextAsked). DoesSafely asked c.args.input) (sym (ap (λ m. text_asked m) c.in-Back.is))) c.back.ensures.safe

pub returns-in-Explain-clause-gives : goal.returns-in-Explain-clause-gives
returns-in-Explain-clause-gives g c =
    told-gives _ _ _ _ (mapped-told Explained _ _ c.map-in-Explain.ensures.cases) (ap (λ (asked : TextAsked). answer_in asked c.args.input) (sym (ap (λ m. text_asked m) c.in-Explain.is))) c.explain.ensures.gives

pub returns-in-Explain-clause-safe : goal.returns-in-Explain-clause-safe
returns-in-Explain-clause-safe g c =
    found-safe explanation_of _ _ _ _ (mapped-told Explained _ _ c.map-in-Explain.ensures.cases) (subst (λ (asked : TextAsked). DoesSafely asked c.args.input) (sym (ap (λ m. text_asked m) c.in-Explain.is))) c.explain.ensures.safe

pub returns-in-Least-clause-gives : goal.returns-in-Least-clause-gives
returns-in-Least-clause-gives g c =
    told-gives _ _ _ _ (mapped-told Shown _ _ c.map-in-Least.ensures.cases) (ap (λ (asked : TextAsked). answer_in asked c.args.input) (sym (ap (λ m. text_asked m) c.in-Least.is))) c.least.ensures.gives

pub returns-in-Least-clause-safe : goal.returns-in-Least-clause-safe
returns-in-Least-clause-safe g c =
    found-safe plan_shown _ _ _ _ (mapped-told Shown _ _ c.map-in-Least.ensures.cases) (subst (λ (asked : TextAsked). DoesSafely asked c.args.input) (sym (ap (λ m. text_asked m) c.in-Least.is))) c.least.ensures.safe

pub returns-in-Sim-clause-gives : goal.returns-in-Sim-clause-gives
returns-in-Sim-clause-gives g c =
    told-gives _ _ _ _ (made-told _ _ c.map-in-Sim.ensures.cases) (ap (λ (asked : TextAsked). answer_in asked c.args.input) (sym (ap (λ m. text_asked m) c.in-Sim.is))) c.sim.ensures.gives

pub returns-in-Sim-clause-safe : goal.returns-in-Sim-clause-safe
returns-in-Sim-clause-safe g c =
    told-safe _ _ _ _ (made-told _ _ c.map-in-Sim.ensures.cases) (subst (λ (asked : TextAsked). DoesSafely asked c.args.input) (sym (ap (λ m. text_asked m) c.in-Sim.is))) c.sim.ensures.safe

pub returns-in-Rehearse-clause-gives : goal.returns-in-Rehearse-clause-gives
returns-in-Rehearse-clause-gives g c =
    told-gives _ _ _ _ (mapped-told Rehearsed _ _ c.map-in-Rehearse.ensures.cases) (ap (λ (asked : TextAsked). answer_in asked c.args.input) (sym (ap (λ m. text_asked m) c.in-Rehearse.is))) c.rehearse.ensures.gives

pub returns-in-Rehearse-clause-safe : goal.returns-in-Rehearse-clause-safe
returns-in-Rehearse-clause-safe g c =
    drawn-safe _ _ _ _ c.map-in-Rehearse.ensures.cases (subst (λ (asked : TextAsked). DoesSafely asked c.args.input) (sym (ap (λ m. text_asked m) c.in-Rehearse.is))) c.rehearse.ensures.safe
