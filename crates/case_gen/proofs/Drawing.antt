-- What several calls draw one after the other.
use Rattle.std.proofs.Common.{◌≡◌, ℕ, ◌+◌, ◌*◌, List, [], ◌∷◌, ◌++◌, sym, ap, ap₂, ◌∙◌, add-one, arith}
use Rattle.rand_pcg.specs.Lcg.{Lcg}
use Rattle.case_gen.specs.Draws.{after_draws, drawn}
use Rattle.case_gen.specs.Trips.{Rates, Trip, most_steps, rates_drawn, trip_drawn, trips_drawn}
use Rattle.case_gen.proofs.Rows.{behind, in_a_row, not_yet}

module _ (draws a b c d : Lcg) (one : a ≡ after_draws draws 1) (two : b ≡ after_draws a 1) (four : c ≡ after_draws b 2) (six : d ≡ after_draws c 2) where
  second_place : b ≡ after_draws draws 2
  second_place = two ∙ ap (λ (g : Lcg). after_draws g 1) one ∙ behind draws 1 1

  fourth_place : c ≡ after_draws draws 4
  fourth_place = four ∙ ap (λ (g : Lcg). after_draws g 2) second_place ∙ behind draws 2 2

  pub six_words : d ≡ after_draws draws 6
  six_words = six ∙ ap (λ (g : Lcg). after_draws g 2) fourth_place ∙ behind draws 4 2

  module _ (switches start more most : ℕ) (first second : Rates) (starts : start ≡ drawn draws 0 switches) (bound : most ≡ most_steps switches) (goes : more ≡ drawn a 0 most) (single : first ≡ rates_drawn b) (double : second ≡ rates_drawn c) where
    steps_at : more ≡ drawn draws 1 (most_steps switches)
    steps_at = goes ∙ ap₂ (λ (g : Lcg) n. drawn g 0 n) one bound ∙ in_a_row draws 1 0 (most_steps switches)

    first_at : first ≡ rates_drawn (after_draws draws 2)
    first_at = single ∙ ap rates_drawn second_place

    second_at : second ≡ rates_drawn (after_draws draws 4)
    second_at = double ∙ ap rates_drawn fourth_place

    pub is_trip : record { start = start; steps = 1 + more; first = first; second = second } ≡ trip_drawn draws switches
    is_trip = cc (starts, steps_at, first_at, second_at)

-- a trip more, and the six words that it takes
pub trip_more : (draws now : Lcg) (switches flow : ℕ) (trips : List Trip) (trip : Trip) → trips ≡ trips_drawn draws switches flow → now ≡ after_draws draws (6 * flow) → trip ≡ trip_drawn now switches
    → trips ++ trip ∷ [] ≡ trips_drawn draws switches (flow + 1)
trip_more draws now switches flow trips trip so at is = rw add-one (ap₂ (λ ts t. ts ++ t ∷ []) so (is ∙ ap (λ (g : Lcg). trip_drawn g switches) at))

pub place_more : (draws now after : Lcg) (flow : ℕ) → now ≡ after_draws draws (6 * flow) → after ≡ after_draws now 6 → after ≡ after_draws draws (6 * (flow + 1))
place_more draws now after flow at on =
    let six : 6 * flow + 6 ≡ 6 * (flow + 1) = omega arith in
    on ∙ ap (λ (g : Lcg). after_draws g 6) at ∙ behind draws (6 * flow) 6 ∙ ap (after_draws draws) six

pub none_yet : (draws : Lcg) → draws ≡ after_draws draws 0
none_yet draws = sym (not_yet draws)
