-- A rehearsal in code, and the parts that it is made of.
use Rattle.std.specs.Prelude.{◌<◌, ℕ, Bool, true, List, [], ◌++◌, map, length}
use Rattle.std.specs.List.{All}
use Rattle.rollout_rules.specs.Wan.{Rollout}
use Rattle.rollout_rules.specs.World.{no_pairs, after_events}
use Rattle.rollout_rules.specs.declared.event.Event.{Event}
use Rattle.rollout_rules.specs.declared.op.OpView.{OpView}
use Rattle.rollout_rules.specs.declared.event.Act.{Act}
use Rattle.rollout_laws.specs.Kept.{IsKept}
use Rattle.rollout_report.specs.Ends.{end_lines}
use Rattle.sim_run.specs.Acts.{Rehearsal, first_rehearsal, after_acts}
use Rattle.sim_run.specs.Script.{act_lines}
use Rattle.sim_run.specs.Controlling.{Controlling}
use Rattle.sim_run.specs.Passing.{Passing, given_of, holdings}

-- of which rollout, its state, and whether it lives: it is given up where an act found no memory
pub record Rehearsing : Type 0 where
  pub rollout : Rollout
  pub state : Rehearsal
  pub live : Bool

-- a rehearsal whose world went through events
abbrev pub moved : Rehearsing → List Event → Rehearsing
moved r events = record r { state = record r.state { world = after_events r.rollout.problem r.rollout.plan r.state.world events } }

-- a rehearsal by its parts in code: the controller, and what has passed on the network
abbrev pub rehearsing_of : Controlling → Passing → Rehearsing
rehearsing_of c w = record {
  rollout = c.rollout;
  state = record {
    world = record {
      migration = 0;
      first = no_pairs c.rollout.problem;
      durable = c.history;
      up = c.up;
      writing = [];
      sent = w.sent;
      given = map given_of w.given;
      handed = map given_of (c.earlier ++ c.heard);
      held = holdings c.rollout.problem c.rollout.plan w.applied;
    };
    heard = length c.earlier;
  };
  live = c.live;
}

-- the first rehearsal of a rollout
unfoldable pub first_of : Rollout → Rehearsing
first_of o = record { rollout = o; state = first_rehearsal o.problem o.plan; live = true }

-- the text of acts from a rehearsal on, and the lines after them
unfoldable pub text_from : Rehearsing → (OpView → ℕ) → List Act → List ℕ
text_from r policy script =
    act_lines r.rollout.problem r.rollout.plan policy 0 r.state script
    ++ end_lines r.rollout.problem r.rollout.plan (after_acts r.rollout.problem r.rollout.plan policy r.state script).world.durable

-- Each world of a rehearsal keeps what every event of a schedule keeps.
abbrev pub Keeps : Rehearsing → Type 0
Keeps r = IsKept r.rollout.problem r.rollout.plan r.state.world

-- commands and answers of items whose switch is known
pub record IsPassing (w : Passing) : Type 0 where
  pub sent : All (λ op. op.item < length w.applied) w.sent
  pub given : All (λ op. op.item < length w.applied) w.given
