-- What is written of fewer rate steps is read as what was said.
use Rattle.std.proofs.Common.{◌≡◌, ℕ, ◌+◌, ◌<◌, ◌≤◌, List, [], length, map, take, get_or, Some, Ok, ok_or, refl, sym, ap, ◌∙◌, arith}
use Rattle.std.proofs.lemmas.List.{take_more, take_all, length-map}
use Rattle.rollout_rules.specs.Wan.{Problem, Plan}
use Rattle.rollout_rules.specs.Network.{IsNetwork}
use Rattle.serde_json.specs.View.{items_of}
use Rattle.fraction_lp.specs.Ratio.{Ratio, zero_ratio}
use Rattle.fraction_lp.specs.declared.proof.Proof.{Proof}
use Rattle.fraction_lp.specs.declared.proof.Proof.TheVariants.{Plain, Link, Rows}
use Rattle.problem_json.specs.GrammarResults.{◌>>=◌, add_each}
use Rattle.problem_json.specs.GrammarValues.{member_in, text_in, number_of}
use Rattle.problem_json.specs.GrammarDocuments.{problem_part, plan_part, document_of}
use Rattle.problem_json.specs.GrammarLeast.{largest_word, most_multipliers, fraction_in, with_one_fraction, fractions_in, rows_or_plain, rows_proof, link_or_rows, proof_of, claim_in, claim_or_none, claim_of, claimed_of}
use Rattle.problem_json.specs.Places.{place_of}
use Rattle.problem_json.specs.WithinLimits.{IsPlanWithin}
use Rattle.problem_json.specs.WithinClaims.{IsFractionWithin, AreRowsWithin, IsProofWithin, IsClaimWithin}
use Rattle.problem_json.specs.Writing.{list_data}
use Rattle.problem_json.specs.WritingLeast.{fraction_data, claim_data, claimed_data}
use Rattle.problem_json.specs.declared.claim.Claim.{Claim}
use Rattle.problem_json.specs.declared.fault.InputFault.TheVariants.{BadProof}
use Rattle.problem_json.specs.declared.place.Place.{Place}
use Rattle.problem_json.specs.declared.place.Part.TheVariants as part
use Rattle.problem_json.proofs.Adding.{goes_on, add_each-below, map-below}
use Rattle.problem_json.proofs.ReadAgain.{problem_is_read}
use Rattle.problem_json.proofs.ReadPlans.{plan_is_read}
use Rattle.problem_json.proofs.ReadValues.{number_in-number, list_in-list}
use Rattle.problem_json.proofs.Respelled.{fraction_is_read}

fraction_in-data : (place : Place) (x : Ratio) → IsFractionWithin x → fraction_in place (fraction_data x) ≡ Ok x
unfolding fraction_in text_in
fraction_in-data place x is = ap (λ o. ok_or o (BadProof place)) (fraction_is_read x is)

module _ (ys : List Ratio) (are : AreRowsWithin ys) where
  one_row_more : (k : ℕ) → k < length ys → with_one_fraction (fraction_data (get_or ys k zero_ratio)) (take k ys) ≡ Ok (take (k + 1) ys)
  unfolding with_one_fraction
  one_row_more k lt =
      goes_on _ (get_or ys k zero_ratio) _ (fraction_in-data _ (get_or ys k zero_ratio) (are.each k lt))
      ∙ ap Ok (sym (take_more ys k zero_ratio lt))

  rows_are_read : fractions_in (list_data (map fraction_data ys)) ≡ Ok ys
  unfolding fractions_in
  rows_are_read =
      let rows = map fraction_data ys in
      goes_on _ (items_of rows) _ (list_in-list _ most_multipliers rows (omega (arith, are.count, length-map ys fraction_data)))
      ∙ ap (λ ds. add_each with_one_fraction (items_of ds) []) (map-below fraction_data ys zero_ratio)
      ∙ add_each-below with_one_fraction (λ k. fraction_data (get_or ys k zero_ratio)) (λ k. take k ys) (length ys) one_row_more
      ∙ ap Ok (take_all (length ys) ys (omega arith))

proof_is_read : (steps : ℕ) (proof : Proof) → IsProofWithin proof → proof_of (claim_data steps proof) ≡ Ok proof
unfolding proof_of link_or_rows rows_proof rows_or_plain
proof_is_read steps Plain is = refl
proof_is_read steps (Link l) is = goes_on _ l _ (number_in-number _ largest_word l is)
proof_is_read steps (Rows ys) is = goes_on _ ys _ (rows_are_read ys is)

steps_are_read : (steps : ℕ) (proof : Proof) → steps ≤ largest_word → IsProofWithin proof → claim_in (claim_data steps proof) ≡ Ok (record { steps = steps; proof = proof })
unfolding claim_in number_of member_in
steps_are_read steps Plain few is = goes_on _ steps _ (number_in-number _ largest_word steps few) ∙ goes_on _ Plain _ (proof_is_read steps Plain is)
steps_are_read steps (Link l) few is = goes_on _ steps _ (number_in-number _ largest_word steps few) ∙ goes_on _ (Link l) _ (proof_is_read steps (Link l) is)
steps_are_read steps (Rows ys) few is = goes_on _ steps _ (number_in-number _ largest_word steps few) ∙ goes_on _ (Rows ys) _ (proof_is_read steps (Rows ys) is)

claim_is_read : (p : Problem) (plan : Plan) (claim : Claim) → IsClaimWithin claim → claim_of (claimed_data p plan claim) ≡ Ok (Some claim)
unfolding claim_of claim_or_none claimed_data
claim_is_read p plan claim is = goes_on _ claim _ (steps_are_read claim.steps claim.proof is.steps is.proof)

its_document : (p : Problem) (plan : Plan) (claim : Claim) → IsNetwork p → IsPlanWithin plan → document_of (claimed_data p plan claim) ≡ Ok (record { problem = p; plan = plan })
unfolding document_of problem_part plan_part member_in claimed_data
its_document p plan claim net within =
    goes_on _ p _ (problem_is_read p net (place_of part.Problem)) ∙ goes_on _ plan _ (plan_is_read plan within)

pub claimed_is_read : (p : Problem) (plan : Plan) (claim : Claim) → IsNetwork p → IsPlanWithin plan → IsClaimWithin claim
    → claimed_of (claimed_data p plan claim) ≡ Ok (record { document = record { problem = p; plan = plan }; claim = Some claim })
unfolding claimed_of
claimed_is_read p plan claim net within is =
    goes_on _ (record { problem = p; plan = plan }) _ (its_document p plan claim net within) ∙ goes_on _ (Some claim) _ (claim_is_read p plan claim is)
