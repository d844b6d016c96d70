-- A script that is drawn: its acts are drawn as those of a trial, and then the rollout is drained. It has the acts that happen, and no more than a
-- script may have.
use Rattle.std.specs.Prelude.{◌≡◌, ◌<◌, ◌≤◌, ◌+◌, ℕ, zero, suc, Bool, ◌&&◌, ◌||◌, nat_le, nat_lt, List, [], ◌∷◌, ◌++◌, length, codes, Option, Some, None, if◌then◌else◌, IsTrue}
use Rattle.rand_pcg.specs.Lcg.{Lcg}
use Rattle.rollout_rules.specs.Wan.{Plan, Problem}
use Rattle.rollout_rules.specs.declared.limits.TheConstants.{MOST_ACTS, MOST_SENT}
use Rattle.rollout_rules.specs.declared.op.OpView.{OpView}
use Rattle.rollout_rules.specs.declared.event.Act.{Act}
use Rattle.rollout_rules.specs.declared.event.Act.TheVariants as act
use Rattle.rollout_laws.specs.Waiting.{HoldsNothing}
use Rattle.sim_run.specs.Acts.{Rehearsal, acted, after_acts, can_happen, first_rehearsal}
use Rattle.sim_run.specs.Rehearsed.{IsSafeRehearsal}
use Rattle.sim_run.specs.Rehearsing.{Rehearsing}
use Rattle.sim_run.specs.Script.{script_text}
use Rattle.sim_run.specs.Trials.{all_operations, end_of_trial, is_finished, next_act}

-- A script so far, and the rehearsal that it leads to.
pub record Draft : Type 0 where
  pub acts : List Act
  pub rehearsal : Rehearsal

abbrev pub first_draft : Problem → Plan → Draft
first_draft p plan = record { acts = []; rehearsal = first_rehearsal p plan }

-- whether it has as many acts as a script may have
abbrev pub is_full : Draft → Bool
is_full d = nat_le MOST_ACTS (length d.acts)

-- whether an act joins: there is room, and it can happen
abbrev pub joins : Problem → Draft → Act → Bool
joins p d a = nat_lt (length d.acts) MOST_ACTS && can_happen p d.rehearsal a

-- an act that joins is done; with another nothing changes
abbrev pub joined : Problem → Plan → (OpView → ℕ) → Draft → Act → Draft
joined p plan policy d a = if joins p d a then record { acts = d.acts ++ a ∷ []; rehearsal = acted p plan policy d.rehearsal a } else d

-- ---- what is drawn

-- the act that was drawn, or none where there was nothing that it could be done with
abbrev pub with_chosen : Problem → Plan → (OpView → ℕ) → Draft → Option Act → Draft
with_chosen p plan policy d None = d
with_chosen p plan policy d (Some a) = joined p plan policy d a

-- A draft, and what is left to draw.
pub record Sketch : Type 0 where
  pub draft : Draft
  pub draws : Lcg

abbrev pub one_more : Problem → Plan → (OpView → ℕ) → Sketch → Sketch
one_more p plan policy s = record {
  draft = with_chosen p plan policy s.draft (next_act p s.draft.rehearsal.world s.draws).chosen;
  draws = (next_act p s.draft.rehearsal.world s.draws).left;
}

-- after so many events
abbrev pub sketched : Problem → Plan → (OpView → ℕ) → Lcg → ℕ → Sketch
sketched p plan policy draws zero = record { draft = first_draft p plan; draws = draws }
sketched p plan policy draws (suc events) = one_more p plan policy (sketched p plan policy draws events)

-- ---- the drain

-- the controller starts where it is down
abbrev pub raised_draft : Problem → Plan → (OpView → ℕ) → Draft → Draft
raised_draft p plan policy d = if d.rehearsal.world.up then d else joined p plan policy d act.Start

-- what is in flight is exchanged, and a round is made
abbrev pub turned_draft : Problem → Plan → (OpView → ℕ) → Draft → Draft
turned_draft p plan policy d = joined p plan policy (joined p plan policy d act.All) act.Round

-- no more turns are made: nothing is left unsettled, or there is no room
abbrev pub is_over : Problem → Plan → Draft → Bool
is_over p plan d = is_finished p plan d.rehearsal || is_full d

abbrev pub drained_draft : Problem → Plan → (OpView → ℕ) → ℕ → Draft → Draft
drained_draft p plan policy zero d = d
drained_draft p plan policy (suc most) d = if is_over p plan d then d else drained_draft p plan policy most (turned_draft p plan policy d)

-- a draft, drained
abbrev pub whole_of : Problem → Plan → (OpView → ℕ) → Draft → Draft
whole_of p plan policy d = drained_draft p plan policy (all_operations p plan + 1) (raised_draft p plan policy d)

unfoldable pub whole_draft : Problem → Plan → (OpView → ℕ) → Lcg → ℕ → Draft
whole_draft p plan policy draws events = whole_of p plan policy (sketched p plan policy draws events).draft

-- the script, of so many events that are drawn from here on
abbrev pub drawn_script : Problem → Plan → (OpView → ℕ) → Lcg → ℕ → List Act
drawn_script p plan policy draws events = (whole_draft p plan policy draws events).acts

-- ---- what is known of it

-- where the acts of a script lead to
abbrev pub end_of : Problem → Plan → (OpView → ℕ) → List Act → Rehearsal
end_of p plan policy script = after_acts p plan policy (first_rehearsal p plan) script

-- each act of a script can happen where it stands
abbrev pub EachHappens : Problem → Plan → (OpView → ℕ) → List Act → Type 0
EachHappens p plan policy script = (acts rest : List Act) (a : Act) → acts ++ a ∷ rest ≡ script → IsTrue (can_happen p (end_of p plan policy acts) a)

-- the last line of a text says that the rollout is finished
pub record SaysFinished (text : List ℕ) : Type 0 where
  pub front : List ℕ
  pub is : text ≡ front ++ codes "finished\n"

-- A script that was drawn. It leads where the trial of these draws does and, under a policy that holds nothing back, ends finished, unless it ended
-- for want of room: at so many acts, or since no more commands may be sent.
pub record IsDrawnScript (p : Problem) (plan : Plan) (policy : OpView → ℕ) (draws : Lcg) (events : ℕ) (script : List Act) : Type 0 where
  pub happens : EachHappens p plan policy script
  pub few : length script ≤ MOST_ACTS
  pub safe : IsSafeRehearsal p plan policy script
  pub as_trial : length script < MOST_ACTS → end_of p plan policy script ≡ end_of_trial p plan policy draws events
  pub finished : length script < MOST_ACTS → HoldsNothing policy → events + all_operations p plan ≤ MOST_SENT → SaysFinished (script_text p plan policy script)

-- ---- in code

-- the draft of a script and of a rehearsal that has done its acts
abbrev pub draft_in : Rehearsing → List Act → Draft
draft_in r acts = record { acts = acts; rehearsal = r.state }

-- what a rehearsal and its script came to
pub record HasDrafted (r : Rehearsing) (d : Draft) (s : Rehearsing) (acts : List Act) : Type 0 where
  pub rehearsal : s ≡ record r { state = d.rehearsal }
  pub script : acts ≡ d.acts

-- and what was drawn for it
pub record HasSketched (r : Rehearsing) (k : Sketch) (s : Rehearsing) (acts : List Act) (draws : Lcg) : Type 0 where
  pub draft : HasDrafted r k.draft s acts
  pub left : draws ≡ k.draws
