-- The values that a problem is made of: members, lists, names, numbers, rates and widths. Each is read at its place.
use Rattle.std.specs.Prelude.{ℕ, List, length, Option, Some, None, ok_or, is_some, nat_le, ◌==◌, if◌then◌else◌, Result, Ok}
use Rattle.serde_json.specs.Data.{Data, Items}
use Rattle.serde_json.specs.Events.{items_len}
use Rattle.serde_json.specs.Find.{get, as_null, as_number, as_str, as_array, as_object, as_u64}
use Rattle.rollout_rules.specs.declared.limits.TheConstants.{LONGEST_NAME, LARGEST_RATE, LARGEST_WIDTH}
use Rattle.problem_json.specs.GrammarResults.{◌>>=◌, held}
use Rattle.problem_json.specs.Keys.{key_text}
use Rattle.problem_json.specs.declared.key.Key.{Key}
use Rattle.problem_json.specs.declared.key.Key.TheVariants as key
use Rattle.problem_json.specs.declared.place.Place.{Place}
use Rattle.problem_json.specs.declared.fault.InputFault.{InputFault}
use Rattle.problem_json.specs.declared.fault.InputFault.TheVariants.{Missing, WrongKind, NotWhole, TooMany, TooLarge, WidthZero}

-- an object's value at a key
unfoldable pub member_in : Place → Key → Data → Result Data InputFault
member_in object asked d = do
  _ ← held (is_some (as_object d)) (WrongKind object)
  ok_or (get (key_text asked) d) (Missing object asked)

-- a list of so many elements at most
unfoldable pub list_in : Place → ℕ → Data → Result Items InputFault
list_in place most d = do
  items ← ok_or (as_array d) (WrongKind place)
  _ ← held (nat_le (items_len items) most) (TooMany place (items_len items) most)
  Ok items

unfoldable pub text_in : Place → Data → Result (List ℕ) InputFault
text_in place d = ok_or (as_str d) (WrongKind place)

-- a text that has no more bytes than a name
unfoldable pub name_in : Place → Data → Result (List ℕ) InputFault
name_in place d = do
  name ← text_in place d
  _ ← held (nat_le (length name) LONGEST_NAME) (TooMany place (length name) LONGEST_NAME)
  Ok name

-- a number that is whole; one with a point or an exponent isn't
unfoldable pub whole_in : Place → Data → Result ℕ InputFault
whole_in place d = do
  n ← ok_or (as_number d) (WrongKind place)
  ok_or (as_u64 n) (NotWhole place)

-- a whole number that is at most so large
unfoldable pub number_in : Place → ℕ → Data → Result ℕ InputFault
number_in place most d = do
  n ← whole_in place d
  _ ← held (nat_le n most) (TooLarge place n most)
  Ok n

-- a rate; null where the tunnel isn't installed
unfoldable pub rate_in : Place → Data → Result (Option ℕ) InputFault
rate_in place d = if is_some (as_null d) then Ok None else (number_in place LARGEST_RATE d >>= λ n. Ok (Some n))

-- a width is 1 or more
unfoldable pub width_in : Place → Data → Result ℕ InputFault
width_in place d = do
  n ← number_in place LARGEST_WIDTH d
  _ ← held (nat_le 1 n) (WidthZero place)
  Ok n

-- the same at a key of an object: first the object's place, then that of the value

unfoldable pub list_of : Place → Key → Place → ℕ → Data → Result Items InputFault
list_of object asked place most d = member_in object asked d >>= list_in place most

unfoldable pub name_of : Place → Place → Data → Result (List ℕ) InputFault
name_of object place d = member_in object key.Name d >>= name_in place

unfoldable pub number_of : Place → Key → Place → ℕ → Data → Result ℕ InputFault
number_of object asked place most d = member_in object asked d >>= number_in place most

unfoldable pub rate_of : Place → Key → Place → Data → Result (Option ℕ) InputFault
rate_of object asked place d = member_in object asked d >>= rate_in place

-- in format 1 every width is 1, and a key for it is passed over
unfoldable pub width_of : Place → Place → ℕ → Data → Result ℕ InputFault
width_of object place format d = if format == 1 then Ok 1 else (member_in object key.Width d >>= width_in place)
