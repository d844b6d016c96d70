-- What a noise port has given, and what it has left.
use Rattle.std.proofs.Common.{◌≡◌, ℕ, ◌+◌, ◌-◌, ◌≤◌, List, ◌++◌, take, drop, sym, ap, ap₂, ◌∙◌, arith, Bool}
use Rattle.std.specs.Prelude.{if◌then◌else◌}
use Rattle.std.proofs.Math.Seq.{take-add}
use Rattle.std.proofs.lemmas.List.{drop-drop, drop-take, take-take}
use Rattle.lossy_link.specs.Counting.{Counts, after_giving, one_quiet_more}
use Rattle.lossy_link.specs.Noise.{Noise, after_noise}
use Rattle.lossy_link.specs.WayBack.{Back}
use Rattle.lossy_link.proofs.Gates.{unequal}

pub noise_further : (bytes : List ℕ) (noise heard n : ℕ) (b : Back) → n ≤ noise - heard → take heard bytes ≡ b.heard → take (noise - heard) (drop heard bytes) ≡ b.due
    → (take (heard + n) bytes ≡ b.heard ++ take n b.due) × (take (noise - (heard + n)) (drop (heard + n) bytes) ≡ drop n b.due)
noise_further bytes noise heard n b within heard_is due_is =
    let left = noise - (heard + n) in (
      take-add heard n bytes ∙ ap₂ (λ (xs ys : List ℕ). xs ++ ys) heard_is (sym (take-take n (noise - heard) (drop heard bytes) within) ∙ ap (take n) due_is),
      ap (take left) (sym (drop-drop n heard bytes)) ∙ sym (drop-take n left (drop heard bytes)) ∙ ap (λ (m : ℕ). drop n (take m (drop heard bytes))) (omega arith) ∙ ap (drop n) due_is,
    )

abbrev pub seen_as : List ℕ → ℕ → ℕ → Counts → Noise
seen_as bytes noise heard counts = record { offered = drop noise bytes; back = record { heard = take heard bytes; due = take (noise - heard) (drop heard bytes) }; counts = counts }

noise_of : List ℕ → Counts → List ℕ → List ℕ → Noise
noise_of offered counts heard due = record { offered = offered; back = record { heard = heard; due = due }; counts = counts }

not_quiet : (counts : Counts) (n : ℕ) → (n ≡ 0 → ⊥) → after_giving counts n ≡ counts
not_quiet counts n some = ap (λ (b : Bool). if b then one_quiet_more counts else counts) (unequal n 0 some)

module _ (bytes : List ℕ) (noise heard n : ℕ) (counts : Counts) (p : Noise) (view_is : seen_as bytes noise heard counts ≡ p) (within : n ≤ noise - heard) where
  further : (take (heard + n) bytes ≡ p.back.heard ++ take n p.back.due) × (take (noise - (heard + n)) (drop (heard + n) bytes) ≡ drop n p.back.due)
  further = noise_further bytes noise heard n p.back within (ap (λ (q : Noise). q.back.heard) view_is) (ap (λ (q : Noise). q.back.due) view_is)

  pub noise_left : (n ≡ 0 → ⊥) → seen_as bytes noise (heard + n) counts ≡ after_noise p n
  unfolding noise_of
  noise_left some =
      ap₂ (λ (xs ys : List ℕ). noise_of (drop noise bytes) counts xs ys) further.0 further.1
      ∙ ap₂ (λ (xs : List ℕ) (c : Counts). noise_of xs c (p.back.heard ++ take n p.back.due) (drop n p.back.due)) (ap (λ (q : Noise). q.offered) view_is) (ap (λ (q : Noise). q.counts) view_is ∙ sym (not_quiet p.counts n some))

  pub noise_given : (into : List ℕ) → take n into ≡ take n (take (noise - heard) (drop heard bytes)) → take (heard + n) bytes ≡ p.back.heard ++ take n into
  noise_given into given = further.0 ∙ ap (λ (xs : List ℕ). p.back.heard ++ xs) (sym (given ∙ ap (λ (q : Noise). take n q.back.due) view_is))
