-- What a document says of fewer rate steps: the number of them that is impossible, and what shows it.
use Rattle.std.specs.Prelude.{ℕ, List, [], ◌∷◌, ◌++◌, length, ok_or, Option, Some, None, Result, Ok}
use Rattle.serde_json.specs.Data.{Data}
use Rattle.serde_json.specs.Find.{get}
use Rattle.fraction_lp.specs.Ratio.{Ratio}
use Rattle.fraction_lp.specs.declared.proof.Proof.{Proof}
use Rattle.fraction_lp.specs.declared.proof.Proof.TheVariants as proof
use Rattle.problem_json.specs.GrammarResults.{◌>>=◌, add_each}
use Rattle.problem_json.specs.GrammarValues.{text_in, list_in, number_in, number_of}
use Rattle.problem_json.specs.Grammar.{data_in}
use Rattle.problem_json.specs.GrammarDocuments.{document_of}
use Rattle.problem_json.specs.GrammarFractions.{fraction_of_text}
use Rattle.problem_json.specs.Keys.{key_text}
use Rattle.problem_json.specs.Places.{place_of, place_at}
use Rattle.problem_json.specs.declared.claim.Claim.{Claim}
use Rattle.problem_json.specs.declared.claim.Claimed.{Claimed}
use Rattle.problem_json.specs.declared.place.Place.{Place}
use Rattle.problem_json.specs.declared.place.Part.TheVariants as part
use Rattle.problem_json.specs.declared.key.Key.TheVariants as key
use Rattle.problem_json.specs.declared.fault.InputFault.{InputFault}
use Rattle.problem_json.specs.declared.fault.InputFault.TheVariants.{BadProof}

-- the largest number of steps, and of a link
abbrev pub largest_word : ℕ
largest_word = 4294967295

-- how many multipliers there may be
abbrev pub most_multipliers : ℕ
most_multipliers = 10000

-- the fraction that a text is
unfoldable pub fraction_in : Place → Data → Result Ratio InputFault
fraction_in place d = do
  text ← text_in place d
  ok_or (fraction_of_text text) (BadProof place)

unfoldable pub with_one_fraction : Data → List Ratio → Result (List Ratio) InputFault
with_one_fraction d rows = do
  x ← fraction_in (place_at part.LeastRow (length rows)) d
  Ok (rows ++ x ∷ [])

unfoldable pub fractions_in : Data → Result (List Ratio) InputFault
fractions_in d = do
  items ← list_in (place_of part.LeastRows) most_multipliers d
  add_each with_one_fraction items []

-- multipliers, where they are there, and else nothing
unfoldable pub rows_or_plain : Option Data → Result Proof InputFault
rows_or_plain None = Ok proof.Plain
rows_or_plain (Some d) = fractions_in d >>= λ ys. Ok (proof.Rows ys)

unfoldable pub rows_proof : Data → Result Proof InputFault
rows_proof d = rows_or_plain (get (key_text key.Rows) d)

-- a link, where it is there: then multipliers are passed over
unfoldable pub link_or_rows : Option Data → Data → Result Proof InputFault
link_or_rows None d = rows_proof d
link_or_rows (Some l) d = number_in (place_of part.LeastLink) largest_word l >>= λ n. Ok (proof.Link n)

unfoldable pub proof_of : Data → Result Proof InputFault
proof_of d = link_or_rows (get (key_text key.Link) d) d

unfoldable pub claim_in : Data → Result Claim InputFault
claim_in d = do
  steps ← number_of (place_of part.LeastTop) key.Steps (place_of part.LeastSteps) largest_word d
  shown ← proof_of d
  Ok (record { steps = steps; proof = shown })

-- where an object has no such key nothing is said
unfoldable pub claim_or_none : Option Data → Result (Option Claim) InputFault
claim_or_none None = Ok None
claim_or_none (Some d) = claim_in d >>= λ claim. Ok (Some claim)

unfoldable pub claim_of : Data → Result (Option Claim) InputFault
claim_of d = claim_or_none (get (key_text key.Least) d)

unfoldable pub claimed_of : Data → Result Claimed InputFault
claimed_of d = do
  document ← document_of d
  claim ← claim_of d
  Ok (record { document = document; claim = claim })

unfoldable pub claimed_in : List ℕ → Result Claimed InputFault
claimed_in bytes = data_in bytes >>= claimed_of
