-- The values that a problem is made of, read again.
use Rattle.std.proofs.Common.{◌≡◌, ℕ, ◌≤◌, List, length, Option, Some, None, Ok, refl, ◌∙◌, arith}
use Rattle.std.proofs.lemmas.Bool.{le-leb}
use Rattle.rollout_rules.specs.Network.{IsRate}
use Rattle.rollout_rules.specs.declared.limits.TheConstants.{LONGEST_NAME, LARGEST_RATE, LARGEST_WIDTH}
use Rattle.serde_json.specs.Data.{Data, string}
use Rattle.serde_json.specs.Events.{items_len}
use Rattle.serde_json.specs.View.{items_of}
use Rattle.problem_json.specs.GrammarValues.{name_in, text_in, whole_in, number_in, rate_in, width_in, list_in}
use Rattle.problem_json.specs.Writing.{number_data, rate_data, list_data}
use Rattle.problem_json.specs.declared.place.Place.{Place}
use Rattle.problem_json.proofs.Adding.{goes_on, held-true, items_len-items_of}

pub name_in-string : (place : Place) (name : List ℕ) → length name ≤ LONGEST_NAME → name_in place (string name) ≡ Ok name
unfolding name_in text_in
name_in-string place name short = goes_on _ tt (λ _. Ok name) (held-true _ _ (le-leb (length name) LONGEST_NAME short))

pub number_in-number : (place : Place) (most n : ℕ) → n ≤ most → number_in place most (number_data n) ≡ Ok n
unfolding number_in whole_in
number_in-number place most n within = goes_on _ tt (λ _. Ok n) (held-true _ _ (le-leb n most within))

pub rate_in-rate : (place : Place) (r : Option ℕ) → IsRate r → rate_in place (rate_data r) ≡ Ok r
unfolding rate_in
rate_in-rate place None within = refl
rate_in-rate place (Some n) within = goes_on _ n (λ m. Ok (Some m)) (number_in-number place LARGEST_RATE n within)

pub width_in-number : (place : Place) (n : ℕ) → 1 ≤ n → n ≤ LARGEST_WIDTH → width_in place (number_data n) ≡ Ok n
unfolding width_in
width_in-number place n some most = goes_on _ n _ (number_in-number place LARGEST_WIDTH n most) ∙ goes_on _ tt (λ _. Ok n) (held-true _ _ (le-leb 1 n some))

pub list_in-list : (place : Place) (most : ℕ) (ds : List Data) → length ds ≤ most → list_in place most (list_data ds) ≡ Ok (items_of ds)
unfolding list_in
list_in-list place most ds few =
    let len : items_len (items_of ds) ≡ length ds = items_len-items_of ds in
    goes_on _ tt (λ _. Ok (items_of ds)) (held-true _ _ (le-leb (items_len (items_of ds)) most (omega arith)))
