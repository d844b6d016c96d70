-- A worker's rounds, one after the other.
use Rattle.std.proofs.Common.{◌≡◌, ◌⊎◌, ℕ, ◌+◌, ◌-◌, ◌<◌, Bool, true, false, List, [], ◌∷◌, ◌++◌, Option, ⊎_elim, inl, inr, map, refl, sym, ◌∙◌, subst, arith, if◌then◌else◌}
use Rattle.rollout_rules.specs.declared.op.Op.{Op}
use Rattle.port_session.specs.Sessions.{SessionView}
use Rattle.shared_book.specs.declared.note.Written.{Written}
use Rattle.shared_book.specs.declared.call_reply.Wake.{Wake}
use Rattle.shared_book.specs.declared.call_reply.Wake.TheVariants as wake
use Rattle.shared_book.specs.Histories.{Opening}
use Rattle.wan_edge.specs.Ports.{PortTrace}
use Rattle.controller_run.specs.Finding.{Caller}
use Rattle.controller_run.specs.Serving.{AreWhole, IsLast, Moment, Whole, Worked}
use Rattle.controller_run.specs.Working.{IsWorked, OnWhole, Standing}
use Rattle.controller_run.specs.declared.round_end.RoundEnd.{RoundEnd}
use Rattle.controller_run.specs.declared.round_end.RoundEnd.TheVariants as outcome

-- what holds of a whole round
pub of_whole : (given : RoundEnd) (offered : Bool) (holds : Type 0) → given ≡ outcome.Whole offered → OnWhole given holds → holds
of_whole given offered holds is on = subst (λ (g : RoundEnd). OnWhole g holds) is on

module _ {P : Type 0} (tell : P → PortTrace) (o : Opening) (migration : ℕ) (homes : List (Option ℕ)) (rounds : ℕ) where
  -- the same round, said of the pass that came in first
  pub of_seat : (seats seats' : List ℕ) (seat seat' : ℕ) (before : Moment P) (given known : RoundEnd) (now : Standing P) → seats' ≡ seats → seat' ≡ seat → given ≡ known
      → Worked tell o seats' seat' migration homes rounds before given now → Worked tell o seats seat migration homes rounds before known now
  of_seat seats seats' seat seat' before given known now same same_seat is worked =
      subst (λ (s : List ℕ). Worked tell o s seat migration homes rounds before known now) same
      (subst (λ (n : ℕ). Worked tell o seats' n migration homes rounds before known now) same_seat
      (subst (λ (g : RoundEnd). Worked tell o seats' seat' migration homes rounds before g now) is worked))

  module _ (seats : List ℕ) (seat : ℕ) where
    pub one_more : (before : Moment P) (moments : List (Moment P)) (at now : Moment P) → AreWhole tell o seats seat migration homes rounds before moments at → Whole tell o seats seat migration homes rounds at now
        → AreWhole tell o seats seat migration homes rounds before (moments ++ now ∷ []) now
    one_more before [] at now are whole = (subst (λ (m : Moment P). Whole tell o seats seat migration homes rounds m now) are whole, refl)
    one_more before (m ∷ later) at now are whole = (are.0, one_more m later at now are.1 whole)

    -- a round that ends doesn't end with work, nor for lack of memory
    never-work : (op : Op) (before : Moment P) (now : Standing P) → Worked tell o seats seat migration homes rounds before (outcome.Ended (wake.Work op)) now → ⊥
    never-work op before now (inl rests) = rests.1.1
    never-work op before now (inr works) = ⊎_elim (λ settles. settles.settled) (λ breaks. breaks) works.exchanged

    never-memory : (before : Moment P) (now : Standing P) → Worked tell o seats seat migration homes rounds before (outcome.Ended wake.Memory) now → ⊥
    never-memory before now (inl rests) = rests.1.1
    never-memory before now (inr works) = ⊎_elim (λ settles. settles.settled) (λ breaks. breaks) works.exchanged

    pub ends : (end : Wake) (before : Moment P) (now : Standing P) → Worked tell o seats seat migration homes rounds before (outcome.Ended end) now → IsLast tell o seats seat migration homes rounds before end now
    ends (wake.Work op) before now worked = never-work op before now worked
    ends wake.Finished before now worked = worked
    ends wake.Held before now worked = worked
    ends (wake.Stopped halt) before now worked = inl worked
    ends wake.Memory before now worked = never-memory before now worked
