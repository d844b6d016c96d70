-- Which words are a command line, and what they ask for. After the word of a command stand pairs of a name and a value.
use Rattle.std.specs.Prelude.{ℕ, ◌&&◌, nat_le, nat_lt, List, [], ◌∷◌, ◌++◌, map, String, string_bytes, codes, bytes_eq, Option, Some, None, option_map, option_and_then, if◌then◌else◌}
use Rattle.std.specs.declared.alloc.Global.{Global}
use denote.Param.Members.{Mut}
use denote.Struct.Field.{u64-field}
use Rattle.rollout_rules.specs.declared.op.OpView.{OpView}
use Rattle.rollout_rules.specs.declared.limits.TheConstants.{MOST_FLOWS, MOST_SWITCHES}
use Rattle.order_policy.specs.Answers.{rank_by}
use Rattle.rollback_service.specs.declared.origin.BackFrom.{BackFrom}
use Rattle.rollback_service.specs.declared.origin.BackFrom.TheVariants.{Here, Level}
use Rattle.controller_run.specs.declared.running.Limits.{Limits}
use Rattle.sim_run.specs.declared.shape.Shape.{Shape}
use Rattle.text_commands.specs.Words.{TextAsked, are_pairs, number_in, numbered, policy_in, text_asked, text_kind_named, text_names_of, text_with_pairs, value_or}
use Rattle.text_commands.specs.declared.words.TextKind.{TextKind}
use Rattle.swanroll_top.specs.declared.words.Kind.{Kind}
use Rattle.swanroll_top.specs.declared.words.Kind.TheVariants.{Text, Report, Agent, Trial, Run, Drain, Rollback, Held}
use Rattle.swanroll_top.specs.declared.words.Command.{Command}
use Rattle.swanroll_top.specs.declared.words.Command.TheVariants as command

-- what a command line asks for: a command, and what its pairs say
pub data Asked : Type 0 where
  a_text : (what : TextAsked) → Asked
  a_report : (migration : ℕ) → Asked
  an_agent : (guests : ℕ) → Asked
  a_trial : (shape : Shape) (policy : OpView → ℕ) → Asked
  a_run : (limits : Limits) (policy : OpView → ℕ) → Asked
  a_drain : (limits : Limits) → Asked
  a_rollback : (limits : Limits) (origin : BackFrom) → Asked
  what_is_held : (rounds : ℕ) → Asked

-- a command in code asks for this: a policy is what it answers
module _ {X : Type 0} {F : X → Type 0} {M : Mut ((x : X) × F x) (OpView × Unit {0}) u64-field.Value} where
  abbrev pub asked : Command X F M → Asked
  asked (command.Text what) = a_text (text_asked what)
  asked (command.Report migration) = a_report migration
  asked (command.Agent guests) = an_agent guests
  asked (command.Trial shape policy) = a_trial shape (rank_by policy.now.answers)
  asked (command.Run limits policy) = a_run limits (rank_by policy.now.answers)
  asked (command.Drain limits) = a_drain limits
  asked (command.Rollback limits origin) = a_rollback limits origin
  asked (command.Held rounds) = what_is_held rounds

-- ---- each command's word, and the names that it takes

-- the commands beside those that make a text of the input alone
abbrev pub other_kind_named : List ℕ → Option Kind
other_kind_named word =
    if bytes_eq word (codes "report") then Some Report
    else if bytes_eq word (codes "agent") then Some Agent
    else if bytes_eq word (codes "trial") then Some Trial
    else if bytes_eq word (codes "run") then Some Run
    else if bytes_eq word (codes "drain") then Some Drain
    else if bytes_eq word (codes "rollback") then Some Rollback
    else if bytes_eq word (codes "held") then Some Held
    else None

abbrev pub text_or_other : Option TextKind → Option Kind → Option Kind
text_or_other (Some kind) other = Some (Text kind)
text_or_other None other = other

abbrev pub kind_named : List ℕ → Option Kind
kind_named word = text_or_other (text_kind_named word) (other_kind_named word)

abbrev pub trial_numbers : List (List ℕ)
trial_numbers = codes "--k" ∷ codes "--switches" ∷ codes "--flows" ∷ codes "--seed" ∷ codes "--events" ∷ []

abbrev pub names_of : Kind → List (List ℕ)
names_of (Text kind) = text_names_of kind
names_of Report = codes "--migration" ∷ []
names_of Agent = codes "--guests" ∷ []
names_of Trial = trial_numbers ++ codes "--policy" ∷ []
names_of Run = codes "--workers" ∷ codes "--rounds" ∷ codes "--policy" ∷ codes "--migration" ∷ []
names_of Drain = codes "--workers" ∷ codes "--rounds" ∷ codes "--migration" ∷ []
names_of Rollback = codes "--workers" ∷ codes "--rounds" ∷ codes "--migration" ∷ codes "--from" ∷ []
names_of Held = codes "--rounds" ∷ []

-- ---- what is asked for, with these policies: a name, and what the policy under it answers

-- the number of the migration that the pairs name
abbrev pub migration_in : List (List ℕ) → Option ℕ
migration_in pairs = option_and_then number_in (value_or (codes "--migration") (codes "0") pairs)

-- a number from 1 to a million
abbrev pub in_millions : ℕ → Option ℕ
in_millions number = if nat_le 1 number && nat_le number 1000000 then Some number else None

-- how many guests the pairs name
abbrev pub guests_in : List (List ℕ) → Option ℕ
guests_in pairs = option_and_then in_millions (option_and_then number_in (value_or (codes "--guests") (codes "1") pairs))

-- the numbers of a trial that the pairs name
abbrev pub shape_in : List (List ℕ) → Option Shape
shape_in pairs =
    option_and_then (λ k. option_and_then (λ switches. option_and_then (λ flows. option_and_then (λ seed. option_map
    (λ events. record { k = k; switches = switches; flows = flows; seed = seed; events = events })
    (numbered (codes "--events") (codes "1000") 0 100000 pairs))
    (numbered (codes "--seed") (codes "1") 0 1000000000000000000 pairs))
    (numbered (codes "--flows") (codes "24") 0 MOST_FLOWS pairs))
    (numbered (codes "--switches") (codes "24") 3 MOST_SWITCHES pairs))
    (numbered (codes "--k") (codes "4") 2 64 pairs)

-- how many workers there may be
abbrev pub workers_in : List (List ℕ) → Option ℕ
workers_in pairs = numbered (codes "--workers") (codes "2") 1 16 pairs

-- in how many rounds each of them may offer commands
abbrev pub rounds_in : List (List ℕ) → Option ℕ
rounds_in pairs = numbered (codes "--rounds") (codes "1000") 1 200000 pairs

-- the limits of a rollout that the pairs name
abbrev pub limits_in : List (List ℕ) → Option Limits
limits_in pairs = option_and_then (λ workers. option_and_then (λ rounds. option_map (λ migration. record { workers = workers; rounds = rounds; migration = migration }) (migration_in pairs)) (rounds_in pairs)) (workers_in pairs)

-- limits whose migration has a next one, and those of a rollback that the pairs name
abbrev pub before_last : Limits → Option Limits
before_last limits = if nat_lt limits.migration 4294967295 then Some limits else None

abbrev pub rollback_in : List (List ℕ) → Option Limits
rollback_in pairs = option_and_then before_last (limits_in pairs)

-- from where a rollback is asked for by this word, and the one that the pairs name
abbrev pub origin_named : List ℕ → Option BackFrom
origin_named word = if bytes_eq word (codes "level") then Some Level else if bytes_eq word (codes "here") then Some Here else None

abbrev pub origin_in : List (List ℕ) → Option BackFrom
origin_in pairs = option_and_then origin_named (value_or (codes "--from") (codes "level") pairs)

-- in how many rounds a switch may be asked what it holds
abbrev pub held_in : List (List ℕ) → Option ℕ
held_in pairs = numbered (codes "--rounds") (codes "10") 1 200000 pairs

abbrev pub with_pairs : List (List ℕ × (OpView → ℕ)) → List (List ℕ) → Kind → Option Asked
with_pairs policies pairs (Text kind) = option_map a_text (text_with_pairs policies pairs kind)
with_pairs policies pairs Report = option_map a_report (migration_in pairs)
with_pairs policies pairs Agent = option_map an_agent (guests_in pairs)
with_pairs policies pairs Trial = option_and_then (λ shape. option_map (a_trial shape) (policy_in policies pairs)) (shape_in pairs)
with_pairs policies pairs Run = option_and_then (λ limits. option_map (a_run limits) (policy_in policies pairs)) (limits_in pairs)
with_pairs policies pairs Drain = option_map a_drain (limits_in pairs)
with_pairs policies pairs Rollback = option_and_then (λ limits. option_map (a_rollback limits) (origin_in pairs)) (rollback_in pairs)
with_pairs policies pairs Held = option_map what_is_held (held_in pairs)

abbrev pub with_kind : List (List ℕ × (OpView → ℕ)) → List (List ℕ) → Kind → Option Asked
with_kind policies pairs kind = if are_pairs (names_of kind) pairs then with_pairs policies pairs kind else None

abbrev pub asked_in : List (List ℕ × (OpView → ℕ)) → List (List ℕ) → Option Asked
asked_in policies [] = None
asked_in policies (word ∷ pairs) = option_and_then (with_kind policies pairs) (kind_named word)

-- the same of a program's words, which clauses don't look into
unfoldable pub asked_by : List (List ℕ × (OpView → ℕ)) → List (String Global) → Option Asked
asked_by policies words = asked_in policies (map string_bytes words)
