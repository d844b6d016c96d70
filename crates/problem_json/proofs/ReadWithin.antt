-- What is read as a plan is within the limits.
use Rattle.std.proofs.Common.{◌≡◌, ℕ, zero, suc, ◌+◌, ◌<◌, ◌≤◌, Bool, true, false, nat_le, List, [], ◌∷◌, ◌++◌, length, get_or, slice_index, ok_or, Result, Ok, Err, refl, subst, ap, arith, leb-true}
use Rattle.std.specs.Prelude.{⊤}
use Rattle.std.proofs.lemmas.List.{length_push}
use Rattle.rollout_rules.specs.Wan.{Plan, Stage, no_stage, stage_at}
use Rattle.rollout_rules.specs.declared.limits.TheConstants.{MOST_TUNNELS, MOST_STAGES, LARGEST_SCALE, LARGEST_PLAN_RATE}
use Rattle.serde_json.specs.Data.{Data, Items, no_items, item}
use Rattle.serde_json.specs.Events.{items_len}
use Rattle.serde_json.specs.Find.{as_array, as_bool}
use Rattle.problem_json.specs.Grammar.{data_in}
use Rattle.problem_json.specs.GrammarDocuments.{DocumentRead, document_in, document_of, plan_part, problem_part}
use Rattle.problem_json.specs.GrammarPlans.{with_one_mark, marks_of, with_one_rate, rates_of, stage_of, with_one_stage, plan_of}
use Rattle.problem_json.specs.GrammarResults.{◌>>=◌, held, add_each}
use Rattle.problem_json.specs.GrammarValues.{member_in, list_in, list_of, number_in, number_of, whole_in}
use Rattle.problem_json.specs.Places.{place_of, place_at, place_in}
use Rattle.problem_json.specs.WithinLimits.{IsPlanWithin, IsStageWithin}
use Rattle.problem_json.specs.declared.fault.InputFault.{InputFault}
use Rattle.problem_json.specs.declared.fault.InputFault.TheVariants.{TooLarge, TooMany, WrongKind}
use Rattle.problem_json.specs.declared.key.Key.{Key}
use Rattle.problem_json.specs.declared.key.Key.TheVariants as key
use Rattle.problem_json.specs.declared.place.Place.{Place}
use Rattle.problem_json.specs.declared.place.Part.TheVariants as part

-- steps that came to a value came to one at the first of them
stepped : {A B : Type 0} (r : Result A InputFault) (next : A → Result B InputFault) (b : B) → (r >>= next) ≡ Ok b → (a : A) × (r ≡ Ok a) × (next a ≡ Ok b)
stepped (Ok a) next b is = (a, refl, is)
stepped (Err e) next b is = absurd (cc is)

held-ok : (b : Bool) (e : InputFault) (u : ⊤) → held b e ≡ Ok u → b ≡ true
held-ok true e u is = refl
held-ok false e u is = absurd (cc is)

-- ---- values

number_in-few : (place : Place) (most n : ℕ) (d : Data) → number_in place most d ≡ Ok n → n ≤ most
unfolding number_in
number_in-few place most n d is =
    let one = stepped (whole_in place d) _ n is in
    let two = stepped (held (nat_le one.0 most) (TooLarge place one.0 most)) _ n one.2 in
    let same : one.0 ≡ n = cc two.2 in
    subst (λ m. m ≤ most) same (leb-true one.0 most (held-ok (nat_le one.0 most) (TooLarge place one.0 most) two.0 two.1))

number_of-few : (object : Place) (asked : Key) (place : Place) (most n : ℕ) (d : Data) → number_of object asked place most d ≡ Ok n → n ≤ most
unfolding number_of
number_of-few object asked place most n d is =
    let one = stepped (member_in object asked d) _ n is in
    number_in-few place most n one.0 one.2

list_in-few : (place : Place) (most : ℕ) (items : Items) (d : Data) → list_in place most d ≡ Ok items → items_len items ≤ most
unfolding list_in
list_in-few place most items d is =
    let one = stepped (ok_or (as_array d) (WrongKind place)) _ items is in
    let two = stepped (held (nat_le (items_len one.0) most) (TooMany place (items_len one.0) most)) _ items one.2 in
    let same : one.0 ≡ items = cc two.2 in
    subst (λ i. items_len i ≤ most) same (leb-true (items_len one.0) most (held-ok (nat_le (items_len one.0) most) (TooMany place (items_len one.0) most) two.0 two.1))

list_of-few : (object : Place) (asked : Key) (place : Place) (most : ℕ) (items : Items) (d : Data) → list_of object asked place most d ≡ Ok items → items_len items ≤ most
unfolding list_of
list_of-few object asked place most items d is =
    let one = stepped (member_in object asked d) _ items is in
    list_in-few place most items one.0 one.2

-- ---- elements, each of which makes what stands one larger and keeps what is good

record Grows {A : Type 0} (Good : A → Type 0) (size : A → ℕ) (a b : A) (n : ℕ) : Type 0 where
  pub good : Good b
  pub larger : size b ≡ size a + n

all-grow : {A : Type 0} (f : Data → A → Result A InputFault) (Good : A → Type 0) (size : A → ℕ)
    → ((d : Data) (a b : A) → Good a → f d a ≡ Ok b → Grows Good size a b 1)
    → (ds : Items) (a b : A) → Good a → add_each f ds a ≡ Ok b → Grows Good size a b (items_len ds)
all-grow f Good size each no_items a b good is =
    let same : a ≡ b = cc is in
    record { good = subst Good same good; larger = omega (arith, ap size same) }
all-grow f Good size each (item d ds) a b good is =
    let one = stepped (f d a) (λ c. add_each f ds c) b is in
    let first = each d a one.0 good one.1 in
    let rest = all-grow f Good size each ds one.0 b first.good one.2 in
    let more : items_len (item d ds) ≡ suc (items_len ds) = refl in
    record { good = rest.good; larger = omega (arith, first.larger, rest.larger, more) }

-- what holds of each element, and of one more
pushed : {X : Type 0} (P : X → Type 0) (xs : List X) (x d : X) → ((k : ℕ) → k < length xs → P (get_or xs k d)) → P x → (k : ℕ) → k < length (xs ++ x ∷ []) → P (get_or (xs ++ x ∷ []) k d)
pushed P [] x d each is zero lt = is
pushed P [] x d each is (suc k) lt = absurd (omega (arith, lt))
pushed P (y ∷ ys) x d each is zero lt = each zero (omega arith)
pushed P (y ∷ ys) x d each is (suc k) lt = pushed P ys x d (λ j less. each (suc j) (omega (arith, less))) is k (omega (arith, lt))

-- ---- a stage

module _ (s : ℕ) where
  one_mark : (d : Data) (marks more : List Bool) → Unit {0} → with_one_mark s d marks ≡ Ok more → Grows (λ (ms : List Bool). Unit {0}) (λ (ms : List Bool). length ms) marks more 1
  unfolding with_one_mark
  one_mark d marks more good is =
      let one = stepped (ok_or (as_bool d) (WrongKind (place_in part.Mark s (length marks)))) _ more is in
      let same : marks ++ one.0 ∷ [] ≡ more = cc one.2 in
      record { good = tt; larger = omega (arith, ap length same, length_push marks one.0) }

  marks-few : (d : Data) (marks : List Bool) → marks_of s d ≡ Ok marks → length marks ≤ MOST_TUNNELS
  unfolding marks_of
  marks-few d marks is =
      let one = stepped (list_of (place_at part.Stage s) key.Installed (place_at part.Installed s) MOST_TUNNELS d) _ marks is in
      let few = list_of-few (place_at part.Stage s) key.Installed (place_at part.Installed s) MOST_TUNNELS one.0 d one.1 in
      let all = all-grow (with_one_mark s) (λ (ms : List Bool). Unit {0}) (λ (ms : List Bool). length ms) one_mark one.0 [] marks tt one.2 in
      omega (arith, few, all.larger)

  abbrev AreSmall : List ℕ → Type 0
  AreSmall rates = (t : ℕ) → t < length rates → slice_index rates t ≤ LARGEST_PLAN_RATE

  one_rate : (d : Data) (rates more : List ℕ) → AreSmall rates → with_one_rate s d rates ≡ Ok more → Grows AreSmall (λ (rs : List ℕ). length rs) rates more 1
  unfolding with_one_rate
  one_rate d rates more small is =
      let one = stepped (number_in (place_in part.Rate s (length rates)) LARGEST_PLAN_RATE d) _ more is in
      let same : rates ++ one.0 ∷ [] ≡ more = cc one.2 in
      let fits = number_in-few (place_in part.Rate s (length rates)) LARGEST_PLAN_RATE one.0 d one.1 in
      record { good = subst AreSmall same (pushed (λ n. n ≤ LARGEST_PLAN_RATE) rates one.0 0 small fits); larger = omega (arith, ap length same, length_push rates one.0) }

  none_small : AreSmall []
  none_small t lt = absurd (omega (arith, lt))

  record AreRatesWithin (rates : List ℕ) : Type 0 where
    pub few : length rates ≤ MOST_TUNNELS
    pub small : AreSmall rates

  rates-within : (d : Data) (rates : List ℕ) → rates_of s d ≡ Ok rates → AreRatesWithin rates
  unfolding rates_of
  rates-within d rates is =
      let one = stepped (list_of (place_at part.Stage s) key.Rates (place_at part.Rates s) MOST_TUNNELS d) _ rates is in
      let few = list_of-few (place_at part.Stage s) key.Rates (place_at part.Rates s) MOST_TUNNELS one.0 d one.1 in
      let all = all-grow (with_one_rate s) AreSmall (λ (rs : List ℕ). length rs) one_rate one.0 [] rates none_small one.2 in
      record { few = omega (arith, few, all.larger); small = all.good }

  stage-within : (d : Data) (stage : Stage) → stage_of s d ≡ Ok stage → IsStageWithin stage
  unfolding stage_of
  stage-within d stage is =
      let marks = stepped (marks_of s d) _ stage is in
      let rates = stepped (rates_of s d) _ stage marks.2 in
      let same : record { rates = rates.0; installed = marks.0 } ≡ stage = cc rates.2 in
      let numbers = rates-within d rates.0 rates.1 in
      subst IsStageWithin same (record { marks = marks-few d marks.0 marks.1; rates = numbers.few; each = numbers.small })

-- ---- a plan

-- a plan so far: its scale, and each of its stages
record IsSoFar (plan : Plan) : Type 0 where
  pub scale : plan.scale ≤ LARGEST_SCALE
  pub each : (s : ℕ) → s < length plan.stages → IsStageWithin (stage_at plan s)

one_stage : (d : Data) (plan more : Plan) → IsSoFar plan → with_one_stage d plan ≡ Ok more → Grows IsSoFar (λ (p : Plan). length p.stages) plan more 1
unfolding with_one_stage
one_stage d plan more good is =
    let one = stepped (stage_of (length plan.stages) d) _ more is in
    let same : record plan { stages = plan.stages ++ one.0 ∷ [] } ≡ more = cc one.2 in
    let within = stage-within (length plan.stages) d one.0 one.1 in
    record {
      good = subst IsSoFar same (record { scale = good.scale; each = pushed IsStageWithin plan.stages one.0 no_stage good.each within });
      larger = omega (arith, ap (λ (p : Plan). length p.stages) same, length_push plan.stages one.0);
    }

no_stages : (scale : ℕ) → scale ≤ LARGEST_SCALE → IsSoFar (record { scale = scale; stages = [] })
no_stages scale fits = record { scale = fits; each = λ s lt. absurd (omega (arith, lt)) }

plan-within : (d : Data) (plan : Plan) → plan_of d ≡ Ok plan → IsPlanWithin plan
unfolding plan_of
plan-within d plan is =
    let scale = stepped (number_of (place_of part.PlanTop) key.Scale (place_of part.Scale) LARGEST_SCALE d) _ plan is in
    let stages = stepped (list_of (place_of part.PlanTop) key.Stages (place_of part.Stages) MOST_STAGES d) _ plan scale.2 in
    let fits = number_of-few (place_of part.PlanTop) key.Scale (place_of part.Scale) LARGEST_SCALE scale.0 d scale.1 in
    let few = list_of-few (place_of part.PlanTop) key.Stages (place_of part.Stages) MOST_STAGES stages.0 d stages.1 in
    let all = all-grow with_one_stage IsSoFar (λ (p : Plan). length p.stages) one_stage stages.0 (record { scale = scale.0; stages = [] }) plan (no_stages scale.0 fits) stages.2 in
    record { scale = all.good.scale; count = omega (arith, few, all.larger); each = all.good.each }

document-within : (d : Data) (document : DocumentRead) → document_of d ≡ Ok document → IsPlanWithin document.plan
unfolding document_of plan_part
document-within d document is =
    let problem = stepped (problem_part d) _ document is in
    let plan = stepped (plan_part d) _ document problem.2 in
    let member = stepped (member_in (place_of part.Top) key.Plan d) plan_of plan.0 plan.1 in
    let same : record { problem = problem.0; plan = plan.0 } ≡ document = cc plan.2 in
    subst (λ (x : DocumentRead). IsPlanWithin x.plan) same (plan-within member.0 plan.0 member.2)

pub read-within : (bytes : List ℕ) (document : DocumentRead) → document_in bytes ≡ Ok document → IsPlanWithin document.plan
unfolding document_in
read-within bytes document is = let one = stepped (data_in bytes) document_of document is in document-within one.0 document one.2
