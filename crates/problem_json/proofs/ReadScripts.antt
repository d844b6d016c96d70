-- What is written of a script is read as that script.
use Rattle.std.proofs.Common.{◌≡◌, ◌⊎◌, inl, inr, ℕ, ◌+◌, ◌<◌, ◌≤◌, List, [], ◌++◌, length, map, take, get_or, Ok, refl, sym, subst, ap, ◌∙◌, arith}
use Rattle.std.proofs.lemmas.Bool.{cases_lt}
use Rattle.std.proofs.lemmas.List.{take_more, take_all, length-map}
use Rattle.rollout_rules.specs.Wan.{Problem, Plan}
use Rattle.rollout_rules.specs.Network.{IsNetwork}
use Rattle.rollout_rules.specs.declared.event.Act.{Act}
use Rattle.rollout_rules.specs.declared.event.Act.TheVariants.{Round, Send, Deliver, Hand, All, CrashLost, CrashKept, Stop, Start}
use Rattle.rollout_rules.specs.declared.limits.TheConstants.{MOST_ACTS}
use Rattle.serde_json.specs.View.{items_of}
use Rattle.serde_json.specs.Written.{compact_text}
use Rattle.problem_json.specs.GrammarResults.{◌>>=◌, add_each}
use Rattle.problem_json.specs.GrammarValues.{member_in, list_of}
use Rattle.problem_json.specs.GrammarDocuments.{problem_part, plan_part, document_of, scripted_of}
use Rattle.problem_json.specs.GrammarScripts.{largest_number, word_in, count_in, plain_event, crash_in, numbered_in, event_with, event_of_parts, event_in, with_one_event, script_of}
use Rattle.problem_json.specs.Places.{place_of}
use Rattle.problem_json.specs.WithinLimits.{IsPlanWithin}
use Rattle.problem_json.specs.WritingScripts.{act_data, scripted_data, AreActsWithin, IsActWithin}
use Rattle.problem_json.specs.declared.place.Place.{Place}
use Rattle.problem_json.specs.declared.place.Part.TheVariants as part
use Rattle.problem_json.proofs.Adding.{goes_on, add_each-below, map-below}
use Rattle.problem_json.proofs.ReadAgain.{problem_is_read}
use Rattle.problem_json.proofs.ReadPlans.{plan_is_read}
use Rattle.problem_json.proofs.ReadValues.{number_in-number, list_in-list}

-- what was pushed for an act is pushed for its equal
pub act_pushed : {S : Type 0} (R : S → List ℕ → S → Type 0) {old new : S} (a b : Act) → a ≡ b → R old (compact_text (act_data b)) new → R old (compact_text (act_data a)) new
act_pushed R {old} {new} a b is = subst (λ x. R old (compact_text (act_data x)) new) (sym is)

-- one act more that can be read
pub one_within_more : (script : List Act) (k : ℕ) → AreActsWithin k script → IsActWithin (get_or script k Round) → AreActsWithin (k + 1) script
one_within_more script k so one n less = from (cases_lt n k)
  where
    from : (n < k) ⊎ (k ≤ n) → IsActWithin (get_or script n Round)
    from (inl before) = so n before
    from (inr behind) = let same : k ≡ n = omega arith in subst (λ m. IsActWithin (get_or script m Round)) same one

act_is_read : (event : Place) (a : Act) → IsActWithin a → event_in event (act_data a) ≡ Ok a
unfolding event_in event_of_parts plain_event event_with crash_in numbered_in count_in word_in
act_is_read event Round is = refl
act_is_read event (Send n) is = goes_on _ n _ (number_in-number event largest_number n is)
act_is_read event (Deliver n) is = goes_on _ n _ (number_in-number event largest_number n is)
act_is_read event (Hand n) is = goes_on _ n _ (number_in-number event largest_number n is)
act_is_read event All is = refl
act_is_read event CrashLost is = refl
act_is_read event CrashKept is = refl
act_is_read event Stop is = refl
act_is_read event Start is = refl

module _ (script : List Act) (within : AreActsWithin (length script) script) where
  one_act_more : (k : ℕ) → k < length script → with_one_event (act_data (get_or script k Round)) (take k script) ≡ Ok (take (k + 1) script)
  unfolding with_one_event
  one_act_more k lt =
      goes_on _ (get_or script k Round) _ (act_is_read _ (get_or script k Round) (within k lt))
      ∙ ap Ok (sym (take_more script k Round lt))

  script_is_read : (p : Problem) (plan : Plan) → length script ≤ MOST_ACTS → script_of (scripted_data p plan script) ≡ Ok script
  unfolding script_of list_of member_in scripted_data
  script_is_read p plan few =
      let written = map act_data script in
      goes_on _ (items_of written) _ (list_in-list _ MOST_ACTS written (omega (arith, few, length-map script act_data)))
      ∙ ap (λ ds. add_each with_one_event (items_of ds) []) (map-below act_data script Round)
      ∙ add_each-below with_one_event (λ k. act_data (get_or script k Round)) (λ k. take k script) (length script) one_act_more
      ∙ ap Ok (take_all (length script) script (omega arith))

its_document : (p : Problem) (plan : Plan) (script : List Act) → IsNetwork p → IsPlanWithin plan → document_of (scripted_data p plan script) ≡ Ok (record { problem = p; plan = plan })
unfolding document_of problem_part plan_part member_in scripted_data
its_document p plan script net within =
    goes_on _ p _ (problem_is_read p net (place_of part.Problem)) ∙ goes_on _ plan _ (plan_is_read plan within)

pub scripted_is_read : (p : Problem) (plan : Plan) (script : List Act) → IsNetwork p → IsPlanWithin plan → length script ≤ MOST_ACTS → AreActsWithin (length script) script
    → scripted_of (scripted_data p plan script) ≡ Ok (record { document = record { problem = p; plan = plan }; script = script })
unfolding scripted_of
scripted_is_read p plan script net within few acts =
    goes_on _ (record { problem = p; plan = plan }) _ (its_document p plan script net within) ∙ goes_on _ script _ (script_is_read script acts p plan few)
