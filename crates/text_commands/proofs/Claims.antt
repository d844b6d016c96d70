-- The line of a document whose plan is valid, and what may be said of it.
use Rattle.std.proofs.Common.{◌≡◌, ℕ, ◌-◌, ◌==◌, ◌&&◌, List, codes, Bool, true, false, Some, Result, Ok, Err, IfOk, IfSome, ap, sym, ◌∙◌, subst}
use Rattle.rollout_rules.specs.Wan.{Plan, Rollout, last_stage}
use Rattle.rollout_rules.specs.Network.{IsNetwork}
use Rattle.lp_proof.specs.RateSteps.{rate_steps, TakesAtLeast}
use Rattle.lp_proof.specs.Shown.{shows_least}
use Rattle.lp_proof.proofs.Built.{accepted-shows}
use Rattle.lp_proof.proofs.NoFewer.{takes_at_least}
use Rattle.problem_json.specs.Places.{place_of}
use Rattle.problem_json.specs.declared.claim.Claim.{Claim}
use Rattle.problem_json.specs.declared.claim.Claimed.{Claimed}
use Rattle.problem_json.specs.declared.fault.InputFault.TheVariants.{BadProof}
use Rattle.problem_json.specs.declared.place.Place.{Place}
use Rattle.problem_json.specs.declared.place.Part.TheVariants as part
use Rattle.text_commands.specs.Answers.{◌>>=◌, checked, claimed_line, is_shown, judged, valid_line, valid_text, where_shown}
use Rattle.text_commands.specs.Runs.{Gives}
use Rattle.text_commands.specs.Safety.{HasLeast, IsClaimed, IsSealed}
use Rattle.text_commands.specs.declared.command_end.CommandEnd.{CommandEnd}
use Rattle.text_commands.specs.declared.command_end.CommandEnd.TheVariants.{Input}
use Rattle.text_commands.proofs.Steps.{step-gives}

-- what is so is so of an answer
pub ok-anyway : {A : Type 0} (r : Result A CommandEnd) (P : Type 0) → P → IfOk r (λ a. P)
ok-anyway (Ok a) P p = p
ok-anyway (Err e) P p = tt

-- ---- the line

pub line-is : (plan : Plan) (steps scale : ℕ) (behind text : List ℕ) → steps ≡ last_stage plan → scale ≡ plan.scale → text ≡ valid_text steps scale behind → ◌≡◌ {A = Result (List ℕ) CommandEnd} (Ok (valid_line plan behind)) (Ok text)
line-is plan steps scale behind text last size is =
    ap Ok (sym (is ∙ ap (λ n. valid_text n scale behind) last ∙ ap (λ n. valid_text (last_stage plan) n behind) size))

pub claim-shown : (o : Rollout) (claim : Claim) → is_shown o claim ≡ true → claimed_line o (Some claim) ≡ Ok (valid_line o.plan (codes ", least"))
claim-shown o claim e = ap (λ b. where_shown b o.plan) e

pub claim-unshown : (o : Rollout) (claim : Claim) (place : Place) → is_shown o claim ≡ false → place ≡ place_of part.LeastTop → claimed_line o (Some claim) ≡ Err (Input (BadProof place))
claim-unshown o claim place e is = ap (λ b. where_shown b o.plan) e ∙ ap (λ x. Err (Input (BadProof x))) (sym is)

-- ---- whether what is said is shown

second : (a b : Bool) → (a && b) ≡ true → b ≡ true
second true b e = e
second false b e = cc

pub shown-least : (o : Rollout) (claim : Claim) → IsNetwork o.problem → is_shown o claim ≡ true → TakesAtLeast o.problem (rate_steps o.problem o.plan)
unfolding is_shown
shown-least o claim net e =
    let q = rate_steps o.problem o.plan in
    takes_at_least o.problem q claim.proof net (accepted-shows o.problem q claim.proof (second (claim.steps == q - 1) (shows_least o.problem q claim.proof) e))

pub shown-passes : {E : Type 0} (o : Rollout) (claim : Claim) (q : ℕ) (fits : Bool) (r : Result Bool E) → q ≡ rate_steps o.problem o.plan → fits ≡ (claim.steps == q - 1) → fits ≡ true
    → IfOk r (λ shown. shown ≡ shows_least o.problem q claim.proof) → IfOk r (λ shown. shown ≡ is_shown o claim)
unfolding is_shown
shown-passes o claim q fits (Err e) count is so h = h
shown-passes o claim q fits (Ok shown) count is so h =
    let n = rate_steps o.problem o.plan in
    let one_less : (claim.steps == n - 1) ≡ true = subst (λ m. (claim.steps == m - 1) ≡ true) count (sym is ∙ so) in
    h ∙ ap (λ m. shows_least o.problem m claim.proof) count ∙ sym (ap (λ b. b && shows_least o.problem n claim.proof) one_less)

pub unshown-steps : (o : Rollout) (claim : Claim) (q : ℕ) (fits : Bool) → q ≡ rate_steps o.problem o.plan → fits ≡ (claim.steps == q - 1) → fits ≡ false → false ≡ is_shown o claim
unfolding is_shown
unshown-steps o claim q fits count is so =
    let n = rate_steps o.problem o.plan in
    let other : (claim.steps == n - 1) ≡ false = subst (λ m. (claim.steps == m - 1) ≡ false) count (sym is ∙ so) in
    sym (ap (λ b. b && shows_least o.problem n claim.proof) other)

-- ---- a document

pub checked-claimed : (c : Claimed) (o : Rollout) (r : Result (List ℕ) CommandEnd) → checked c.document ≡ Ok o → Gives r (claimed_line o c.claim) → Gives r (judged c)
unfolding judged
checked-claimed c o r e h = subst (λ x. Gives r x) (sym (ap (λ x. x >>= λ y. claimed_line y c.claim) e)) h

pub refused-judged : (c : Claimed) (e : CommandEnd) → Gives {A = Rollout} (Err e) (checked c.document) → Gives {A = List ℕ} (Err e) (judged c)
unfolding judged
refused-judged c e h = step-gives e (checked c.document) (λ o. claimed_line o c.claim) h

-- of the rollout that was sealed it is known of the document's
pub sealed-claimed : {A : Type 0} (c : Claimed) (o : Rollout) (r : Result A CommandEnd) → IsSealed c.document o → IfOk r (λ text. IfSome c.claim (λ said. HasLeast o.problem o.plan)) → IfOk r (λ text. IsClaimed c)
sealed-claimed c o (Ok text) sealed h = record {
  valid = sealed.valid;
  least = subst (λ (x : Rollout). IfSome c.claim (λ said. HasLeast x.problem x.plan)) sealed.same h;
}
sealed-claimed c o (Err e) sealed h = tt

pub ruleset judging = (refused-judged, line-is)
