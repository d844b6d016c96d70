-- What a port told in a run is at most what its switch holds.
use Rattle.std.proofs.Common.{◌≡◌, ◌⊎◌, ℕ, ◌+◌, ◌≤◌, ◌==◌, List, [], ◌∷◌, ◌++◌, length, Option, Some, None, IfSome, inl, inr, refl, sym, ap, ◌∙◌, subst, append_assoc, append-nil, arith, length-append, eqb-true}
use Rattle.std.proofs.lemmas.Bool.{cond_both}
use Rattle.std.proofs.lemmas.Grind.{flat_map-append}
use Rattle.std.proofs.lemmas.List.Elements.{All-append, All-cons, All-contains, All-contains_itself, All-head, All-nil, All-tail, All-weaker, Contains-append_right}
use Rattle.std.proofs.lemmas.Option.{none-some, same_Some}
use Rattle.std.specs.List.{All, Contains, flat_map}
use Rattle.lists.proofs.Options.{of_some}
use Rattle.wan_edge.specs.Frames.{Answer, AnswerFrame, IsAnswer, Splits, answer_bytes}
use Rattle.wan_edge.specs.Ports.{AnswersHeld, IsHonestStep, PortTrace}
use Rattle.wan_edge.specs.Streams.{Appends}
use Rattle.wan_edge.specs.Switches.{Holdings}
use Rattle.wan_edge.proofs.Commands.{IsHeld}
use Rattle.port_session.specs.Reading.{answers_of}
use Rattle.switch_ports.specs.Stories.{Tells}
use Rattle.switch_ports.specs.Views.{SessionTrace}
use Rattle.switch_laws.specs.Runs.{AreAnswers}

-- what holds of each answer holds of those of a migration
pub all_told : (P : AnswerFrame → Type 0) (migration : ℕ) (answers : List AnswerFrame) → All P answers → All (λ a. P (migration, a)) (answers_of migration answers)
unfolding answers_of
all_told P migration [] all = All-nil (λ a. P (migration, a))
all_told P migration (a ∷ later) all =
    let rest = all_told P migration later (All-tail P a later all) in
    cond_both (a.0 == migration) (a.1 ∷ answers_of migration later) (answers_of migration later) (All (λ b. P (migration, b)))
    (λ same. All-cons (λ b. P (migration, b)) a.1 (answers_of migration later) (subst (λ (m : ℕ). P (m, a.1)) (eqb-true a.0 migration same) (All-head P a later all)) rest)
    (λ _. rest)

-- what was told before bytes were added
pub told_before : (before now : Option (List ℕ)) (bytes all : List ℕ) → Appends before bytes now → now ≡ Some all → (earlier : List ℕ) × (before ≡ Some earlier) × (all ≡ earlier ++ bytes)
told_before None now bytes all appended is = absurd (none-some all (sym appended ∙ is))
told_before (Some earlier) now bytes all appended is = (earlier, refl, same_Some all (earlier ++ bytes) (sym is ∙ appended))

few_answers : (answers : List AnswerFrame) → length answers ≤ length (flat_map answer_bytes answers)
unfolding answer_bytes
few_answers [] = omega arith
few_answers (a ∷ later) = omega (arith, length-append (answer_bytes a) (flat_map answer_bytes later), few_answers later)

-- a row of no bytes is no answers
pub none_in_nothing : (P : AnswerFrame → Type 0) (answers : List AnswerFrame) → length (flat_map answer_bytes answers) ≡ 0 → All P answers
none_in_nothing P answers none k d inside = absurd (omega (arith, few_answers answers, none, inside))

module _ (holdings : Holdings) (all earlier bytes later : List ℕ) (parts : all ≡ (earlier ++ bytes) ++ later) (were : AreAnswers earlier) (answers : List AnswerFrame) (rest : List ℕ) (whole : Splits answer_bytes IsAnswer bytes answers rest) where
  regrouped : all ≡ flat_map answer_bytes (were.answers ++ answers) ++ (rest ++ later)
  regrouped =
      let first = flat_map answer_bytes were.answers in
      let second = flat_map answer_bytes answers in
      parts ∙ ap (λ (xs : List ℕ). (xs ++ bytes) ++ later) (were.whole.parts ∙ append-nil first) ∙ ap (λ (xs : List ℕ). (first ++ xs) ++ later) whole.parts
      ∙ ap (λ (xs : List ℕ). xs ++ later) (sym (append_assoc first second rest)) ∙ append_assoc (first ++ second) rest later
      ∙ ap (λ (xs : List ℕ). xs ++ (rest ++ later)) (sym (flat_map-append answer_bytes were.answers answers))

  -- by what the port heard in all
  pub held_by_rule : AnswersHeld all holdings → All (IsHeld holdings) answers
  held_by_rule held =
      let each = held (were.answers ++ answers) (rest ++ later) (record { fit = All-append IsAnswer were.answers answers were.whole.fit whole.fit; parts = regrouped }) in
      All-weaker (Contains answers) (IsHeld holdings) (λ a has. All-contains (IsHeld holdings) (were.answers ++ answers) a each (Contains-append_right were.answers answers a has)) answers (All-contains_itself answers)

  -- where nothing came, none was told
  pub held_by_none : all ≡ earlier → All (IsHeld holdings) answers
  held_by_none same =
      none_in_nothing (IsHeld holdings) answers
      (omega (arith, ap length same, ap length parts, length-append (earlier ++ bytes) later, length-append earlier bytes, ap length whole.parts, length-append (flat_map answer_bytes answers) rest))

-- what was told of a migration, where the port goes on by its rule
pub told_is_held : (migration : ℕ) (first moment now : SessionTrace) (told : List Answer) (later all : List ℕ) (holdings : Holdings) → first.stream.kept ≡ [] → IfSome first.port.heard AreAnswers → Tells migration first told moment → Appends moment.port.heard later now.port.heard
    → now.port.heard ≡ Some all → now.port.held ≡ Some holdings → (now.port ≡ first.port) ⊎ IsHonestStep now.port.offered now.port.heard first.port.held now.port.held → All (λ a. IsHeld holdings (migration, a)) told
told_is_held migration first moment now told later all holdings none_kept were tells since heard held rule =
    let between = told_before moment.port.heard now.port.heard later all since heard in
    let before = told_before first.port.heard moment.port.heard tells.bytes between.0 tells.appended between.1 in
    let parts : all ≡ (before.0 ++ tells.bytes) ++ later = between.2 ∙ ap (λ (xs : List ℕ). xs ++ later) before.2 in
    let answers_were : AreAnswers before.0 = of_some AreAnswers first.port.heard before.0 before.1 were in
    let whole : Splits answer_bytes IsAnswer tells.bytes tells.reads.answers tells.reads.rest
    = subst (λ (kept : List ℕ). Splits answer_bytes IsAnswer (kept ++ tells.bytes) tells.reads.answers tells.reads.rest) none_kept tells.reads.whole in
    let each : All (IsHeld holdings) tells.reads.answers = by parts answers_were whole before.1 rule in
    subst (λ (xs : List Answer). All (λ a. IsHeld holdings (migration, a)) xs) (sym tells.reads.told_more) (all_told (IsHeld holdings) migration tells.reads.answers each)
  where
    by : {earlier bytes rest : List ℕ} {answers : List AnswerFrame} → all ≡ (earlier ++ bytes) ++ later → AreAnswers earlier → Splits answer_bytes IsAnswer bytes answers rest → first.port.heard ≡ Some earlier
        → (now.port ≡ first.port) ⊎ IsHonestStep now.port.offered now.port.heard first.port.held now.port.held → All (IsHeld holdings) answers
    by {earlier = earlier} {bytes = bytes} {rest = rest} {answers = answers} parts answers_were whole at (inl same) =
        held_by_none holdings all earlier bytes later parts answers_were answers rest whole (same_Some all earlier (sym heard ∙ ap (λ (t : PortTrace). t.heard) same ∙ at))
    by {earlier = earlier} {bytes = bytes} {rest = rest} {answers = answers} parts answers_were whole at (inr step) =
        held_by_rule holdings all earlier bytes later parts answers_were answers rest whole
        (of_some (AnswersHeld all) now.port.held holdings held (of_some (λ bytes. IfSome now.port.held (AnswersHeld bytes)) now.port.heard all heard step.answers))
