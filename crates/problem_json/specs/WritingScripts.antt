-- A document with a script, and the text that it is written as.
use Rattle.std.specs.Prelude.{ℕ, ◌<◌, ◌≤◌, List, [], ◌∷◌, map, get_or, codes}
use Rattle.rollout_rules.specs.Wan.{Problem, Plan}
use Rattle.rollout_rules.specs.declared.event.Act.{Act}
use Rattle.rollout_rules.specs.declared.event.Act.TheVariants.{Round, Send, Deliver, Hand, All, CrashLost, CrashKept, Stop, Start}
use Rattle.serde_json.specs.Data.{Data, string, object, no_members, member}
use Rattle.serde_json.specs.Written.{compact_text}
use Rattle.problem_json.specs.GrammarScripts.{largest_number}
use Rattle.problem_json.specs.Writing.{number_data, list_data, problem_data, plan_data}

-- an event is a list of its name and of what the name asks for: nothing, the number of a command or an answer, or what becomes of a batch
abbrev pub plain_data : List ℕ → Data
plain_data name = list_data (string name ∷ [])

abbrev pub numbered_data : List ℕ → ℕ → Data
numbered_data name n = list_data (string name ∷ number_data n ∷ [])

abbrev pub crash_data : List ℕ → Data
crash_data batch = list_data (string (codes "crash") ∷ string batch ∷ [])

abbrev pub act_data : Act → Data
act_data Round = plain_data (codes "round")
act_data (Send n) = numbered_data (codes "send") n
act_data (Deliver n) = numbered_data (codes "deliver") n
act_data (Hand n) = numbered_data (codes "hand") n
act_data All = plain_data (codes "all")
act_data CrashLost = crash_data (codes "lost")
act_data CrashKept = crash_data (codes "kept")
act_data Stop = plain_data (codes "stop")
act_data Start = plain_data (codes "start")

-- the script stands beside its document, as the last key
unfoldable pub scripted_data : Problem → Plan → List Act → Data
scripted_data p plan script =
    object (member (codes "plan") (plan_data plan)
    (member (codes "problem") (problem_data p) (member (codes "script") (list_data (map act_data script)) no_members)))

unfoldable pub scripted_text : Problem → Plan → List Act → List ℕ
scripted_text p plan script = compact_text (scripted_data p plan script)

-- ---- the scripts whose text can be read again

abbrev pub IsActWithin : Act → Type 0
IsActWithin Round = Unit {0}
IsActWithin (Send n) = n ≤ largest_number
IsActWithin (Deliver n) = n ≤ largest_number
IsActWithin (Hand n) = n ≤ largest_number
IsActWithin All = Unit {0}
IsActWithin CrashLost = Unit {0}
IsActWithin CrashKept = Unit {0}
IsActWithin Stop = Unit {0}
IsActWithin Start = Unit {0}

-- the first so many acts are such
abbrev pub AreActsWithin : ℕ → List Act → Type 0
AreActsWithin n script = (k : ℕ) → k < n → IsActWithin (get_or script k Round)
