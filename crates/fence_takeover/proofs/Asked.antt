-- What questions with a term leave.
use Rattle.std.proofs.Common.{◌≡◌, ℕ, Bool, true, false, nat_lt, List, [], ◌∷◌, if◌then◌else◌, refl, ap, ◌∙◌}
use Rattle.wan_edge.specs.Switches.{Holdings, after_command, answer_of}
use Rattle.takeover_rules.specs.Terms.{floor_after}
use Rattle.fenced_agent.specs.Agents.{FencedHoldings, after_all_termed, after_fenced, answer_fenced}
use Rattle.held_service.specs.Questions.{question}
use Rattle.held_service.proofs.Idle.{after-question}
use Rattle.fence_takeover.specs.Asked.{termed_question, termed_questions}

raised : (f : FencedHoldings) (term : ℕ) (held : Holdings) (lower : Bool) → held ≡ f.held
    → (if lower then f else record { floor = term; held = held }) ≡ record { floor = if lower then f.floor else term; held = f.held }
raised f term held true same = refl
raised f term held false same = ap (λ (h : Holdings). record { floor = term; held = h }) same

pub floor-alone : (f : FencedHoldings) (term migration item : ℕ) → after_fenced f term (question migration item) ≡ record { floor = floor_after f.floor term; held = f.held }
floor-alone f term migration item = raised f term (after_command f.held (question migration item)) (nat_lt term f.floor) (after-question f.held migration item)

pub answer-alone : (f : FencedHoldings) (term migration item : ℕ) → answer_fenced f term (question migration item) ≡ answer_of item (f.held item).held
answer-alone f term migration item = ap (λ (g : FencedHoldings). answer_of item (g.held item).held) (floor-alone f term migration item)

pub held-alone : (f : FencedHoldings) (term migration : ℕ) (items : List ℕ) → (after_all_termed f (termed_questions term migration items)).held ≡ f.held
held-alone f term migration [] = refl
held-alone f term migration (n ∷ items) =
    held-alone (after_fenced f term (question migration n)) term migration items ∙ ap (λ (g : FencedHoldings). g.held) (floor-alone f term migration n)
