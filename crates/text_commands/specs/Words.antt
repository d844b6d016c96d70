-- Which words are a command line that asks for a text of the input alone, and what they ask for. After the word of a command stand pairs of a name and a value.
use Rattle.std.specs.Prelude.{ℕ, ◌^◌, Bool, true, false, not, ◌&&◌, ◌==◌, nat_le, nat_lt, length, List, [], ◌∷◌, map, String, string_bytes, codes, bytes_eq, Option, Some, None, option_map, option_and_then, if◌then◌else◌}
use Rattle.std.specs.List.{list_any}
use Rattle.std.specs.Str.Parse.{digits_value}
use Rattle.std.specs.declared.alloc.Global.{Global}
use denote.Param.Members.{Mut}
use denote.Struct.Field.{u64-field}
use Rattle.rollout_rules.specs.declared.op.OpView.{OpView}
use Rattle.order_policy.specs.Answers.{rank_by}
use Rattle.order_policy.specs.Named.{policy_named}
use Rattle.sim_run.specs.declared.script_shape.ScriptShape.{ScriptShape}
use Rattle.text_commands.specs.declared.words.Planner.{Planner}
use Rattle.text_commands.specs.declared.words.Planner.TheVariants.{Slack, Fewest}
use Rattle.text_commands.specs.declared.words.TextCommand.{TextCommand}
use Rattle.text_commands.specs.declared.words.TextCommand.TheVariants as text_command
use Rattle.text_commands.specs.declared.words.TextKind.{TextKind}
use Rattle.text_commands.specs.declared.words.TextKind.TheVariants.{Plan, Check, Loads, Back, Explain, Least, Sim, Rehearse}

-- what a command line asks for that wants a text of the input alone
pub data TextAsked : Type 0 where
  a_plan : (planner : Planner) → TextAsked
  a_check : TextAsked
  the_loads : TextAsked
  the_way_back : TextAsked
  the_explanation : TextAsked
  the_least : TextAsked
  a_rehearsal : (policy : OpView → ℕ) → TextAsked
  a_script : (shape : ScriptShape) (policy : OpView → ℕ) → TextAsked

-- a command in code asks for this: a policy is what it answers
module _ {X : Type 0} {F : X → Type 0} {M : Mut ((x : X) × F x) (OpView × Unit {0}) u64-field.Value} where
  abbrev pub text_asked : TextCommand X F M → TextAsked
  text_asked (text_command.Plan planner) = a_plan planner
  text_asked text_command.Check = a_check
  text_asked text_command.Loads = the_loads
  text_asked text_command.Back = the_way_back
  text_asked text_command.Explain = the_explanation
  text_asked text_command.Least = the_least
  text_asked (text_command.Sim policy) = a_rehearsal (rank_by policy.now.answers)
  text_asked (text_command.Rehearse shape policy) = a_script shape (rank_by policy.now.answers)

-- ---- each command's word, and the names that it takes

abbrev pub text_kind_named : List ℕ → Option TextKind
text_kind_named word =
    if bytes_eq word (codes "plan") then Some Plan
    else if bytes_eq word (codes "check") then Some Check
    else if bytes_eq word (codes "loads") then Some Loads
    else if bytes_eq word (codes "back") then Some Back
    else if bytes_eq word (codes "explain") then Some Explain
    else if bytes_eq word (codes "least") then Some Least
    else if bytes_eq word (codes "sim") then Some Sim
    else if bytes_eq word (codes "rehearse") then Some Rehearse
    else None

abbrev pub text_names_of : TextKind → List (List ℕ)
text_names_of Plan = codes "--planner" ∷ []
text_names_of Check = []
text_names_of Loads = []
text_names_of Back = []
text_names_of Explain = []
text_names_of Least = []
text_names_of Sim = codes "--policy" ∷ []
text_names_of Rehearse = codes "--seed" ∷ codes "--events" ∷ codes "--policy" ∷ []

-- ---- pairs of a name and a value

abbrev pub begins_with_dash : List ℕ → Bool
begins_with_dash [] = false
begins_with_dash (c ∷ cs) = c == 45

-- whether the words are pairs, each of one of the names and a value that doesn't begin with `-`
abbrev pub are_pairs : List (List ℕ) → List (List ℕ) → Bool
are_pairs names [] = true
are_pairs names (word ∷ []) = false
are_pairs names (word ∷ value ∷ words) = list_any (bytes_eq word) names && not (begins_with_dash value) && are_pairs names words

-- the values that stand after a name
abbrev pub values_of : List ℕ → List (List ℕ) → List (List ℕ)
values_of name [] = []
values_of name (word ∷ []) = []
values_of name (word ∷ value ∷ words) = if bytes_eq word name then value ∷ values_of name words else values_of name words

-- the one value, or the default where there is none; more than one is no command line
abbrev pub one_or : List ℕ → List (List ℕ) → Option (List ℕ)
one_or default [] = Some default
one_or default (value ∷ []) = Some value
one_or default (value ∷ again ∷ more) = None

abbrev pub value_or : List ℕ → List ℕ → List (List ℕ) → Option (List ℕ)
value_or name default words = one_or default (values_of name words)

-- ---- numbers

-- whether all bytes are decimal digits
abbrev pub are_digits : List ℕ → Bool
are_digits [] = true
are_digits (c ∷ cs) = nat_le 48 c && nat_le c 57 && are_digits cs

-- a number of so many bits in 1 to 19 decimal digits, and one of 32
abbrev pub number_of : ℕ → List ℕ → Option ℕ
number_of bits word =
    if nat_lt 0 (length word) && nat_le (length word) 19 && are_digits word && nat_lt (digits_value 10 word) (2 ^ bits) then Some (digits_value 10 word)
    else None

abbrev pub number_in : List ℕ → Option ℕ
number_in word = number_of 32 word

-- ---- what is asked for, with these policies: a name, and what the policy under it answers

-- the planner under a name, and the one that the pairs name
abbrev pub planner_named : List ℕ → Option Planner
planner_named word = if bytes_eq word (codes "slack") then Some Slack else if bytes_eq word (codes "fewest") then Some Fewest else None

abbrev pub planner_in : List (List ℕ) → Option Planner
planner_in pairs = option_and_then planner_named (value_or (codes "--planner") (codes "slack") pairs)

-- what the policy answers that the pairs name, where it is there
abbrev pub policy_in : List (List ℕ × (OpView → ℕ)) → List (List ℕ) → Option (OpView → ℕ)
policy_in policies pairs = option_and_then (λ name. policy_named name policies) (value_or (codes "--policy") (codes "critical") pairs)

-- a number from one to another, and the one that the pairs name
abbrev pub in_range : ℕ → ℕ → ℕ → Option ℕ
in_range low high number = if nat_le low number && nat_le number high then Some number else None

abbrev pub numbered : List ℕ → List ℕ → ℕ → ℕ → List (List ℕ) → Option ℕ
numbered name default low high pairs = option_and_then (in_range low high) (option_and_then (number_of 64) (value_or name default pairs))

-- the numbers of a script that the pairs name
abbrev pub script_shape_in : List (List ℕ) → Option ScriptShape
script_shape_in pairs =
    option_and_then (λ seed. option_map (λ events. record { seed = seed; events = events }) (numbered (codes "--events") (codes "1000") 0 100000 pairs))
    (numbered (codes "--seed") (codes "1") 0 1000000000000000000 pairs)

abbrev pub text_with_pairs : List (List ℕ × (OpView → ℕ)) → List (List ℕ) → TextKind → Option TextAsked
text_with_pairs policies pairs Plan = option_map a_plan (planner_in pairs)
text_with_pairs policies pairs Check = Some a_check
text_with_pairs policies pairs Loads = Some the_loads
text_with_pairs policies pairs Back = Some the_way_back
text_with_pairs policies pairs Explain = Some the_explanation
text_with_pairs policies pairs Least = Some the_least
text_with_pairs policies pairs Sim = option_map a_rehearsal (policy_in policies pairs)
text_with_pairs policies pairs Rehearse = option_and_then (λ shape. option_map (a_script shape) (policy_in policies pairs)) (script_shape_in pairs)

abbrev pub text_with_kind : List (List ℕ × (OpView → ℕ)) → List (List ℕ) → TextKind → Option TextAsked
text_with_kind policies pairs kind = if are_pairs (text_names_of kind) pairs then text_with_pairs policies pairs kind else None

abbrev pub text_asked_in : List (List ℕ × (OpView → ℕ)) → List (List ℕ) → Option TextAsked
text_asked_in policies [] = None
text_asked_in policies (word ∷ pairs) = option_and_then (text_with_kind policies pairs) (text_kind_named word)

-- the same of a program's words, which clauses don't look into
unfoldable pub text_asked_by : List (List ℕ × (OpView → ℕ)) → List (String Global) → Option TextAsked
text_asked_by policies words = text_asked_in policies (map string_bytes words)
