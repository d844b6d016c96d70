-- A script goes on act by act.
use Rattle.std.proofs.Common.{◌≡◌, ℕ, suc, ◌+◌, ◌<◌, List, ◌∷◌, ◌++◌, codes, length, drop, get_or, sym, ap, ap₂, ◌∙◌, arith, append_assoc, drop-cons}
use Rattle.std.specs.Prelude.{decimal}
use Rattle.rollout_rules.specs.Wan.{Problem, Plan}
use Rattle.rollout_rules.specs.declared.op.OpView.{OpView}
use Rattle.rollout_rules.specs.declared.event.Act.{Act}
use Rattle.sim_run.specs.Acts.{Rehearsal, after_act, after_acts}
use Rattle.sim_run.specs.declared.act_line.ActLine.{ActLine}
use Rattle.sim_run.specs.Rehearsing.{Rehearsing}
use Rattle.sim_run.specs.Script.{line_of, line_text, numbered_line, act_lines}

module _ (p : Problem) (plan : Plan) (policy : OpView → ℕ) (script : List Act) (k : ℕ) (a : Act) (lt : k < length script) (at : get_or script k a ≡ a) where
  front : drop k script ≡ a ∷ drop (k + 1) script
  front =
      let e : suc k ≡ k + 1 = omega arith in
      drop-cons script k a lt ∙ ap (λ x. x ∷ drop (suc k) script) at ∙ ap (λ j. a ∷ drop j script) e

  pub acts-step : (r : Rehearsal) → after_acts p plan policy r (drop k script) ≡ after_acts p plan policy (after_act p plan policy r a) (drop (k + 1) script)
  acts-step r = ap (after_acts p plan policy r) front

  pub lines-step : (r : Rehearsal) (text : List ℕ) → (text ++ numbered_line p plan policy k r a) ++ act_lines p plan policy (k + 1) (after_act p plan policy r a) (drop (k + 1) script) ≡ text ++ act_lines p plan policy k r (drop k script)
  lines-step r text = append_assoc text (numbered_line p plan policy k r a) (act_lines p plan policy (k + 1) (after_act p plan policy r a) (drop (k + 1) script)) ∙ ap (λ l. text ++ act_lines p plan policy k r l) (sym front)

-- what the acts from a place on lead to, with what was said so far, is the whole
pub record IsGoing (policy : OpView → ℕ) (first : Rehearsing) (begin : List ℕ) (script : List Act) (k : ℕ) (r : Rehearsing) (so_far : List ℕ) : Type 0 where
  pub rollout : r.rollout ≡ first.rollout
  pub live : r.live ≡ first.live
  pub state : after_acts first.rollout.problem first.rollout.plan policy r.state (drop k script) ≡ after_acts first.rollout.problem first.rollout.plan policy first.state script
  pub text : so_far ++ act_lines first.rollout.problem first.rollout.plan policy k r.state (drop k script) ≡ begin ++ act_lines first.rollout.problem first.rollout.plan policy 0 first.state script

pub goes_on : (policy : OpView → ℕ) (first : Rehearsing) (begin : List ℕ) (script : List Act) (k : ℕ) (r : Rehearsing) (text : List ℕ) → IsGoing policy first begin script k r text → k < length script
    → (a : Act) → get_or script k a ≡ a → (l : ActLine) → l ≡ line_of r.rollout.problem r.rollout.plan policy r.state a
    → (next : Rehearsing) → next ≡ record r { state = after_act r.rollout.problem r.rollout.plan policy r.state a }
    → (longer : List ℕ) → longer ≡ text ++ (decimal k ++ codes " " ++ line_text l ++ codes "\n") → IsGoing policy first begin script (k + 1) next longer
goes_on policy first begin script k r text was lt a at l said next stepped longer lined =
    let p = first.rollout.problem in
    let plan = first.rollout.plan in
    let new : next.state ≡ after_act p plan policy r.state a = ap (λ x. x.state) stepped ∙ ap (λ o. after_act o.problem o.plan policy r.state a) was.rollout in
    let line : longer ≡ text ++ numbered_line p plan policy k r.state a = lined ∙ ap (λ x. text ++ (decimal k ++ codes " " ++ line_text x ++ codes "\n")) (said ∙ ap (λ o. line_of o.problem o.plan policy r.state a) was.rollout) in
    record {
      rollout = ap (λ x. x.rollout) stepped ∙ was.rollout;
      live = ap (λ x. x.live) stepped ∙ was.live;
      state = ap (λ x. after_acts p plan policy x (drop (k + 1) script)) new ∙ sym (acts-step p plan policy script k a lt at r.state) ∙ was.state;
      text = ap₂ (λ t x. t ++ act_lines p plan policy (k + 1) x (drop (k + 1) script)) line new ∙ lines-step p plan policy script k a lt at r.state text ∙ was.text;
    }
