-- What passes between a controller and a switch over a line on which each command has its fate.
use Rattle.std.specs.Prelude.{◌≡◌, ℕ, ◌==◌, ◌-◌, ◌++◌, Bool, true, not, List, [], ◌∷◌, All, drop, filter, map, replicate, if◌then◌else◌}
use Rattle.std.specs.List.{flat_map}
use Rattle.rollout_rules.specs.Agent.{is_at_most}
use Rattle.wan_edge.specs.Frames.{AnswerFrame, CommandFrame, IsAnswer, answer_bytes}
use Rattle.switch_agent.specs.Items.{Items, holding}
use Rattle.wan_edge.specs.Switches.{Holdings, after_commands, answer_of, holding_nothing, pair_given}
use Rattle.lossy_link.specs.WayBack.{Back, with_due}
use Rattle.lossy_link.specs.declared.fate.Fate.{Fate}
use Rattle.lossy_link.specs.declared.waiting.Waiting.{Waiting}

-- the fates still to come, what the switch holds, the answers on their way, in order, and the bytes that came back
pub record Traffic : Type 0 where
  pub fates : List Fate
  pub held : Holdings
  pub waiting : List Waiting
  pub back : Back

-- what a line is seen as: traffic, where the switch's agent holds what it does by its items
pub record LineState : Type 0 where
  pub fates : List Fate
  pub items : Items
  pub waiting : List Waiting
  pub back : Back

abbrev pub traffic_of : LineState → Traffic
traffic_of s = record { fates = s.fates; held = holding s.items; waiting = s.waiting; back = s.back }

-- before the first command
abbrev pub no_traffic : List Fate → Traffic
no_traffic fates = record { fates = fates; held = holding_nothing; waiting = []; back = record { heard = []; due = [] } }

-- a command without a fate comes once, and is answered once and at once
abbrev pub plain_fate : Fate
plain_fate = record { times = 1; answers = 1; late = 0 }

abbrev pub first_fate : List Fate → Fate
first_fate [] = plain_fate
first_fate (fate ∷ later) = fate

-- how often the answer sets out: never, where the command never comes
abbrev pub answers_of : Fate → ℕ
answers_of fate = if fate.times == 0 then 0 else fate.answers

-- what the switch holds once the command came as often as its fate says
abbrev pub held_by_fate : Holdings → Fate → CommandFrame → Holdings
held_by_fate held fate c = after_commands held (replicate fate.times c)

-- the answer to a command by what is held after it, and the hears that it still waits
abbrev pub waiting_for : Holdings → Fate → CommandFrame → Waiting
waiting_for held fate c = record { answer = answer_of c.1.item (held c.1.item).held; late = fate.late }

-- a command is sent, and meets the next fate
abbrev pub after_sending : Traffic → CommandFrame → Traffic
after_sending t c =
    let fate = first_fate t.fates in
    let held = held_by_fate t.held fate c in
    record {
      fates = drop 1 t.fates;
      held = held;
      waiting = t.waiting ++ replicate (answers_of fate) (waiting_for held fate c);
      back = t.back;
    }

-- commands are sent, one after the other
abbrev pub after_sendings : Traffic → List CommandFrame → Traffic
after_sendings t [] = t
after_sendings t (c ∷ cs) = after_sendings (after_sending t c) cs

-- an answer that waits no further hears, and one that does
abbrev pub is_there : Waiting → Bool
is_there w = w.late == 0

abbrev pub is_late : Waiting → Bool
is_late w = not (w.late == 0)

-- the bytes of the answers that wait no further hears
abbrev pub arriving : List Waiting → List ℕ
arriving waiting = flat_map (λ w. answer_bytes w.answer) (filter is_there waiting)

-- it waits one hear less
abbrev pub less_late : Waiting → Waiting
less_late w = record { answer = w.answer; late = w.late - 1 }

-- a hear begins: the answers that wait no further hears are there, and each of the others waits one hear less
abbrev pub after_turn : Traffic → Traffic
after_turn t = record {
  fates = t.fates;
  held = t.held;
  waiting = map less_late (filter is_late t.waiting);
  back = with_due t.back (arriving t.waiting);
}

-- an answer that has bytes, and says at most what is held
pub record SaysAtMost (held : Holdings) (a : AnswerFrame) : Type 0 where
  pub fits : IsAnswer a
  pub below : is_at_most (pair_given a) (held a.1.item).held ≡ true

-- the bytes that came back are answers, and each of these and of those on their way says at most what is held
pub record IsAnswered (held : Holdings) (waiting : List Waiting) (back : Back) : Type 0 where
  pub came : List AnswerFrame
  pub parts : flat_map answer_bytes came ≡ back.heard ++ back.due
  pub each : All (SaysAtMost held) came
  pub each_waiting : All (λ w. SaysAtMost held w.answer) waiting
