-- What hearing makes of the bytes that a port told: they end with what is kept, and each answer that was read stands whole in them.
use Rattle.std.proofs.Common.{◌≡◌, ℕ, ◌==◌, Bool, true, false, List, [], ◌∷◌, ◌++◌, Option, Some, None, IfSome, if◌then◌else◌, refl, sym, ap, subst, ◌∙◌, append_assoc, append-nil}
use Rattle.std.proofs.lemmas.Bool.{eqb-true}
use Rattle.std.proofs.lemmas.List.Elements.{All-cons, All-nil}
use Rattle.std.specs.List.{All, flat_map}
use Rattle.wan_edge.specs.Frames.{Answer, AnswerFrame, answer_bytes}
use Rattle.wan_edge.specs.Streams.{Appends}
use Rattle.port_session.specs.Reading.{answers_of}
use Rattle.port_session.specs.Sessions.{HearsAnswers, Listening}
use Rattle.port_session.specs.Standing.{EndsWith, StandsIn}
use Rattle.port_session.specs.declared.fault.SessionFault.{SessionFault}

if_all : (test : Bool) (P : Answer → Type 0) (x : Answer) (xs : List Answer) → (test ≡ true → P x) → All P xs → All P (if test then x ∷ xs else xs)
if_all true P x xs head tail = All-cons P x xs (head refl) tail
if_all false P x xs head tail = tail

-- whole answers in a row
pub each-stands : (migration : ℕ) (bytes earlier : List ℕ) (answers : List AnswerFrame) (rest : List ℕ) → bytes ≡ earlier ++ (flat_map answer_bytes answers ++ rest)
    → All (λ (a : Answer). StandsIn (migration, a) bytes) (answers_of migration answers)
unfolding answers_of
each-stands migration bytes earlier [] rest parts = All-nil (λ (a : Answer). StandsIn (migration, a) bytes)
each-stands migration bytes earlier (a ∷ later) rest parts =
    let at : bytes ≡ earlier ++ (answer_bytes a ++ (flat_map answer_bytes later ++ rest)) =
    parts ∙ ap (λ (xs : List ℕ). earlier ++ xs) (append_assoc (answer_bytes a) (flat_map answer_bytes later) rest) in
    let behind : bytes ≡ (earlier ++ answer_bytes a) ++ (flat_map answer_bytes later ++ rest) =
    at ∙ sym (append_assoc earlier (answer_bytes a) (flat_map answer_bytes later ++ rest)) in
    if_all (a.0 == migration) (λ (b : Answer). StandsIn (migration, b) bytes) a.1 (answers_of migration later)
    (λ same. subst (λ (m : ℕ). StandsIn (m, a.1) bytes) (eqb-true a.0 migration same) (record { earlier = earlier; later = flat_map answer_bytes later ++ rest; parts = at }))
    (each-stands migration bytes (earlier ++ answer_bytes a) later rest behind)

-- after what was kept, bytes were appended that were read
joined : (earlier kept bytes whole : List ℕ) → kept ++ bytes ≡ whole → (earlier ++ kept) ++ bytes ≡ earlier ++ whole
joined earlier kept bytes whole parts = append_assoc earlier kept bytes ∙ ap (λ (xs : List ℕ). earlier ++ xs) parts

-- each answer that is told stands in what was heard by then
pub told-stand : (migration : ℕ) (before now : Listening) (fault : Option SessionFault) → EndsWith before.reckoning.kept before.heard → HearsAnswers migration before fault now
    → (told : List Answer) × (now.reckoning.told ≡ before.reckoning.told ++ told) × All (λ (a : Answer). IfSome now.heard (StandsIn (migration, a))) told
told-stand migration before now fault ends hears = (answers_of migration hears.reads.answers, hears.reads.told_more, told-at before.heard now.heard ends hears.appended)
  where
    told-at : (heard later : Option (List ℕ)) → EndsWith before.reckoning.kept heard → Appends heard hears.bytes later
        → All (λ (a : Answer). IfSome later (StandsIn (migration, a))) (answers_of migration hears.reads.answers)
    told-at None later ends appended = subst (λ (o : Option (List ℕ)). All (λ (a : Answer). IfSome o (StandsIn (migration, a))) (answers_of migration hears.reads.answers)) (sym appended) (λ k d inside. tt)
    told-at (Some bytes) later ends appended =
        subst (λ (o : Option (List ℕ)). All (λ (a : Answer). IfSome o (StandsIn (migration, a))) (answers_of migration hears.reads.answers)) (sym appended)
        (each-stands migration (bytes ++ hears.bytes) ends.earlier hears.reads.answers hears.reads.rest
        (ap (λ (xs : List ℕ). xs ++ hears.bytes) ends.parts ∙ joined ends.earlier before.reckoning.kept hears.bytes _ hears.reads.whole.parts))

-- what is kept ends what was heard, where reading goes on
pub ends-still : (migration : ℕ) (before now : Listening) → EndsWith before.reckoning.kept before.heard → HearsAnswers migration before None now → EndsWith now.reckoning.kept now.heard
ends-still migration before now ends hears = ends-at before.heard now.heard ends hears.appended
  where
    ends-at : (heard later : Option (List ℕ)) → EndsWith before.reckoning.kept heard → Appends heard hears.bytes later → EndsWith now.reckoning.kept later
    ends-at None later ends appended = subst (λ (o : Option (List ℕ)). EndsWith now.reckoning.kept o) (sym appended) tt
    ends-at (Some bytes) later ends appended =
        subst (λ (o : Option (List ℕ)). EndsWith now.reckoning.kept o) (sym appended) (record {
          earlier = ends.earlier ++ flat_map answer_bytes hears.reads.answers;
          parts =
              ap (λ (xs : List ℕ). xs ++ hears.bytes) ends.parts ∙ joined ends.earlier before.reckoning.kept hears.bytes _ hears.reads.whole.parts
              ∙ sym (append_assoc ends.earlier (flat_map answer_bytes hears.reads.answers) hears.reads.rest)
              ∙ ap (λ (xs : List ℕ). (ends.earlier ++ flat_map answer_bytes hears.reads.answers) ++ xs) hears.reads.ends;
        })

-- where nothing is kept
pub ends-first : (heard : Option (List ℕ)) → EndsWith [] heard
ends-first None = tt
ends-first (Some bytes) = record { earlier = bytes; parts = sym (append-nil bytes) }
