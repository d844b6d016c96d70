-- What reading a source to its end, or not, says of the input.
use Rattle.std.proofs.Common.{◌≡◌, ◌⊎◌, ℕ, ◌<◌, ◌≤◌, List, [], ◌++◌, length, Option, Some, None, Result, Ok, Err, refl, sym, ap, ◌∙◌, subst, inl, inr, arith}
use Rattle.std.proofs.lemmas.Bool.{cases_lt, le-ltb, lt-ltb}
use Rattle.std.proofs.lemmas.List.{append_cancel_left, length-append}
use Rattle.std.specs.Prelude.{IfSome, IsOk}
use Rattle.std.specs.Option.{option_map}
use Rattle.wan_edge.specs.ReadAll.{ReadsToEnd, GoesBeyond}
use Rattle.wan_edge.specs.Streams.{Appends, SourceTrace, TakesFrom}
use Rattle.wan_edge.specs.declared.reading.ReadFault.{ReadFault}
use Rattle.wan_edge.specs.declared.reading.ReadFault.TheVariants as reading
use Rattle.text_commands.specs.CommandEnds.{ending_of_reading}
use Rattle.rollout_rules.specs.declared.limits.TheConstants.{MOST_INPUT}
use Rattle.text_commands.specs.Answers.{answer_in, answer_to}
use Rattle.text_commands.specs.Runs.{FollowsInput, IsInput, TellsInput, TellsTaken}
use Rattle.text_commands.specs.Taken.{IsTaken}
use Rattle.text_commands.specs.Reading.{IsShortInput, IsCut}
use Rattle.text_commands.specs.declared.command_end.CommandEnd.{CommandEnd}
use Rattle.text_commands.specs.declared.command_end.CommandEnd.TheVariants.{AboveLimit}
use Rattle.text_commands.specs.Words.{TextAsked, a_plan, a_check, the_loads, the_way_back, a_rehearsal, a_script, the_explanation, the_least}

pub long-refused : (c : TextAsked) (input : List ℕ) → MOST_INPUT < length input → answer_to c input ≡ Err AboveLimit
unfolding answer_to
long-refused c input long = rw (lt-ltb MOST_INPUT (length input) long) refl

pub short-answered : (c : TextAsked) (input : List ℕ) → length input ≤ MOST_INPUT → answer_to c input ≡ answer_in c input
unfolding answer_to
short-answered c input short = rw (le-ltb MOST_INPUT (length input) short) refl

-- a source that was read to its end
pub read-short : (before now : SourceTrace) (bytes : List ℕ) → ReadsToEnd MOST_INPUT before (Ok bytes) now → IsShortInput before now bytes
read-short before now bytes r = record { within = r.within; input = record { whole = r.all; read = inl (record { at_end = r.at_end; taken = r.taken }) } }

-- and one that wasn't
pub read-cut : (before now : SourceTrace) (e : ReadFault) → ReadsToEnd MOST_INPUT before (Err e) now → IsCut before (ending_of_reading e) now
read-cut before now reading.Failed r = tt
read-cut before now reading.TooLong r = r
read-cut before now reading.Memory r = tt

-- an input above the limit is taken by no command
pub long-untaken : (c : TextAsked) (input : List ℕ) → MOST_INPUT < length input → IsTaken c input → ⊥
long-untaken (a_plan planner) input long t = omega (arith, long, t.within)
long-untaken a_check input long t = omega (arith, long, t.within)
long-untaken the_loads input long t = omega (arith, long, t.within)
long-untaken the_way_back input long t = omega (arith, long, t.within)
long-untaken the_explanation input long t = omega (arith, long, t.within)
long-untaken the_least input long t = omega (arith, long, t.within)
long-untaken (a_rehearsal policy) input long t = omega (arith, long, t.within)
long-untaken (a_script shape policy) input long t = omega (arith, long, t.within)

-- where more than the limit was read, the answer to the input is that it is too long
long-follows : (c : TextAsked) (before now : SourceTrace) (out : Option (List ℕ)) (input : List ℕ) → IsInput before now input → MOST_INPUT < length input → FollowsInput c before now AboveLimit out out
long-follows c before now out input read long = record {
  input = input;
  read = read;
  answer = rw (long-refused c input long) (refl, refl);
  refused = (λ _. long-untaken c input long, λ _. refl);
  safe = λ e. cc;
}

-- an input of which more than the limit was read
pub record IsLongInput (before now : SourceTrace) : Type 0 where
  pub input : List ℕ
  pub is : IsInput before now input
  pub long : MOST_INPUT < length input

rest_of : Option (List ℕ) → List ℕ
rest_of None = []
rest_of (Some rest) = rest

-- what was left is what was read and what is left now, where that is told
whole-left : (left left_now : Option (List ℕ)) (bytes : List ℕ) → TakesFrom left bytes left_now → IfSome left (λ all. all ≡ bytes ++ rest_of left_now)
unfolding rest_of
whole-left None left_now bytes taken = tt
whole-left (Some left) None bytes taken = absurd (cc (taken))
whole-left (Some left) (Some rest) bytes taken = let same : left ≡ bytes ++ rest = cc (taken) in same

pub beyond-input : (before now : SourceTrace) → GoesBeyond MOST_INPUT before now → IsLongInput before now
beyond-input before now g = record {
  input = g.bytes ++ rest_of now.left;
  is = record { whole = whole-left before.left now.left g.bytes g.takes.left; read = inr (record { goes = g; behind = rest_of now.left; parts = refl }) };
  long = omega (arith, g.beyond, length-append g.bytes (rest_of now.left));
}

pub beyond-follows : (c : TextAsked) (before now : SourceTrace) (out : Option (List ℕ)) → GoesBeyond MOST_INPUT before now → FollowsInput c before now AboveLimit out out
beyond-follows c before now out g =
    let i = beyond-input before now g in
    long-follows c before now out i.input i.is i.long

-- ---- what a source tells of its input is the input

same-taken : (before now : Option (List ℕ)) (earlier told read : List ℕ) → before ≡ Some earlier → now ≡ Some (earlier ++ told) → Appends before read now → told ≡ read
same-taken before now earlier told read before_is now_is appended =
    let all : now ≡ Some (earlier ++ read) = subst (λ w. now ≡ option_map (λ written. written ++ read) w) before_is appended in
    let both : Some (earlier ++ told) ≡ Some (earlier ++ read) = sym now_is ∙ all in
    append_cancel_left earlier told read (cc both)

module _ (before now : SourceTrace) (input told : List ℕ) (is : IsInput before now input) where
  by-left : before.left ≡ Some told → told ≡ input
  by-left left = subst (λ l. IfSome l (λ all. all ≡ input)) left is.whole

  -- what was taken is the input, or the front of one above the limit
  by-taken : TellsTaken before now told → (told ≡ input) ⊎ ((MOST_INPUT < length told) × (MOST_INPUT < length input))
  by-taken tells = elim (is.read) [
    | inl whole ↦ inl (same-taken before.taken now.taken tells.earlier told input tells.before_is tells.now_is whole.taken)
    | inr beyond ↦
        let same = same-taken before.taken now.taken tells.earlier told beyond.goes.bytes tells.before_is tells.now_is beyond.goes.takes.taken in
        inr (omega (arith, ap length same, beyond.goes.beyond), omega (arith, ap length beyond.parts, length-append beyond.goes.bytes beyond.behind, beyond.goes.beyond))
  ]

  pub told-input : TellsInput before now told → (told ≡ input) ⊎ ((MOST_INPUT < length told) × (MOST_INPUT < length input))
  told-input (inl left) = inl (by-left left)
  told-input (inr taken) = by-taken taken

  -- one within the limit is the input itself
  pub told-within : length told ≤ MOST_INPUT → TellsInput before now told → told ≡ input
  told-within within tells = elim (told-input tells) [ inl same ↦ same | inr long ↦ absurd (omega (arith, within, long.0)) ]

  pub told-short : length input ≤ MOST_INPUT → TellsInput before now told → told ≡ input
  told-short within tells = elim (told-input tells) [ inl same ↦ same | inr long ↦ absurd (omega (arith, within, long.1)) ]

err-not-ok : (r : Result (List ℕ) CommandEnd) (e : CommandEnd) → r ≡ Err e → IsOk r → ⊥
err-not-ok (Ok text) e is ok = cc
err-not-ok (Err x) e is ok = cc

-- what a command has an answer to is within the limit
pub answered-within : (c : TextAsked) (input : List ℕ) → IsOk (answer_to c input) → length input ≤ MOST_INPUT
answered-within c input ok = elim (cases_lt MOST_INPUT (length input)) [
  | inr within ↦ within
  | inl long ↦ absurd (err-not-ok (answer_to c input) AboveLimit (long-refused c input long) ok)
]
