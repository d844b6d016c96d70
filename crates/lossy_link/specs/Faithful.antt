-- What a faithful port is seen as, and what it keeps.
use Rattle.std.specs.Prelude.{◌≡◌, ℕ, ◌≤◌, Bool, false, List, [], ◌++◌, length}
use Rattle.std.specs.List.{flat_map}
use Rattle.wan_edge.specs.Frames.{CommandFrame, answer_bytes}
use Rattle.wan_edge.specs.Switches.{Holdings, after_commands, answers_to, holding_nothing}
use Rattle.switch_agent.specs.Items.{Items, holding}
use Rattle.lossy_link.specs.Counting.{Counts, after_giving, no_counts, one_fault_more, one_quiet_more}
use Rattle.lossy_link.specs.Incoming.{HasCommands, Stream}
use Rattle.lossy_link.specs.WayBack.{Back, after_hearing, with_due}

-- the bytes offered, what the switch holds, the bytes that came back, whether memory ran out, and the counts
pub record Faith : Type 0 where
  pub offered : List ℕ
  pub items : Items
  pub back : Back
  pub down : Bool
  pub counts : Counts

-- before the first byte
abbrev pub fresh_faith : Faith
fresh_faith = record { offered = []; items = []; back = record { heard = []; due = [] }; down = false; counts = no_counts }

-- so many of the bytes that are there were heard, where 0 is a quiet hear
abbrev pub after_hear : Faith → ℕ → Faith
after_hear f n = record f { back = after_hearing f.back n; counts = after_giving f.counts n }

-- a hear gave nothing, whatever is there
abbrev pub after_silence : Faith → Faith
after_silence f = record f { counts = one_quiet_more f.counts }

-- a call failed, and nothing else
abbrev pub after_failure : Faith → Faith
after_failure f = record f { counts = one_fault_more f.counts }

-- the bytes of the answers to these commands, each by what is held when it comes
abbrev pub bytes_to : Holdings → List CommandFrame → List ℕ
bytes_to held commands = flat_map answer_bytes (answers_to held commands)

-- each of these commands was carried out and answered, in order
pub record AreAnswered (held held_now : Holdings) (back back_now : Back) (commands : List CommandFrame) : Type 0 where
  pub carried_out : held_now ≡ after_commands held commands
  pub answered : back_now ≡ with_due back (bytes_to held commands)

-- The first of these commands were carried out and answered, in order. One more was perhaps carried out and not answered, and the rest
-- were neither.
pub record AreFirstAnswered (held held_now : Holdings) (back back_now : Back) (commands : List CommandFrame) : Type 0 where
  pub first : List CommandFrame
  pub unanswered : List CommandFrame
  pub at_most_one : length unanswered ≤ 1
  pub later : List CommandFrame
  pub parts : commands ≡ first ++ (unanswered ++ later)
  pub carried_out : held_now ≡ after_commands held (first ++ unanswered)
  pub answered : back_now ≡ with_due back (bytes_to held first)

-- All bytes offered were taken, and what is held and what came back is of the first commands in them: of all, as long as there is memory.
pub record IsFaithful (stream : Stream) (items : Items) (back : Back) (down : Bool) : Type 0 where
  pub commands : List CommandFrame
  pub unanswered : List CommandFrame
  pub later : List CommandFrame
  pub has : HasCommands stream.taken (commands ++ (unanswered ++ later))
  pub all : stream.pending ≡ []
  pub holds : holding items ≡ after_commands holding_nothing (commands ++ unanswered)
  pub came : bytes_to holding_nothing commands ≡ back.heard ++ back.due
  pub up : down ≡ false → (unanswered ≡ []) × (later ≡ [])
