-- What a write and a sync of a disk in memory add to what a crash may leave.
use Rattle.std.proofs.Common.{◌≡◌, inl, inr, ◌⊎◌, ⊎_elim, ℕ, ◌≤◌, List, [], ◌∷◌, ◌++◌, length, drop, Result, Ok, Err, OnErr, OnOk, refl, sym, subst, arith, length-append}
use Rattle.std.proofs.lemmas.List.{drop-append-le}
use Rattle.disk_model.specs.Crashes.{Stepped, Within}
use Rattle.disk_model.specs.Memory.{LeftSince, MayHaveLeft, MayLeave, Medium, Timeline, after_write, moves_to}
use Rattle.disk_model.specs.Moments.{Passes}
use Rattle.disk_model.specs.Writes.{Torn}
use Rattle.disk_model.proofs.Reaching.{Reaches-last}
use Rattle.disk_model.proofs.Tearing.{Torn-none, Torn-written}

-- a write that was done, whole or torn
done_leaves : (at : ℕ) (bytes : List ℕ) (medium : Medium) → Within (MayLeave (after_write at bytes medium)) (Stepped (Torn at (length bytes)) (MayLeave medium))
done_leaves at bytes medium c (inl now) =
    (medium.bytes, inl refl, subst (Torn at (length bytes) medium.bytes) (sym now) (Torn-written at bytes medium.bytes))
done_leaves at bytes medium c (inr reached) =
    let last = Reaches-last medium.synced medium.pending at (length bytes) c reached in
    (last.0, inr last.1, last.2)

-- a write, done or not
pub write_leaves : {X E : Type 0} (at : ℕ) (bytes : List ℕ) (old new : Timeline) (result : Result X E)
    → OnOk result (new ≡ moves_to old (after_write at bytes old.medium)) → OnErr result (new ≡ old)
    → Within (MayLeave new.medium) (Stepped (Torn at (length bytes)) (MayLeave old.medium))
write_leaves at bytes old new (Ok unit) done kept =
    subst (λ (t : Timeline). Within (MayLeave t.medium) (Stepped (Torn at (length bytes)) (MayLeave old.medium))) (sym done) (done_leaves at bytes old.medium)
write_leaves at bytes old new (Err e) done kept =
    subst (λ (t : Timeline). Within (MayLeave t.medium) (Stepped (Torn at (length bytes)) (MayLeave old.medium))) (sym kept) (λ c left. (c, left, Torn-none at (length bytes) c))

in_first : (xs ys : List Medium) (c : List ℕ) → MayHaveLeft xs c → MayHaveLeft (xs ++ ys) c
in_first [] ys c left = absurd left
in_first (x ∷ xs) ys c (inl here) = inl here
in_first (x ∷ xs) ys c (inr later) = inr (in_first xs ys c later)

in_second : (xs ys : List Medium) (c : List ℕ) → MayHaveLeft ys c → MayHaveLeft (xs ++ ys) c
in_second [] ys c left = left
in_second (x ∷ xs) ys c left = inr (in_second xs ys c left)

in_either : (xs ys : List Medium) (c : List ℕ) → MayHaveLeft (xs ++ ys) c → MayHaveLeft xs c ⊎ MayHaveLeft ys c
in_either [] ys c left = inr left
in_either (x ∷ xs) ys c (inl here) = inl (inl here)
in_either (x ∷ xs) ys c (inr later) = ⊎_elim (λ first. inl (inr first)) inr (in_either xs ys c later)

module _ (timeline : Timeline) (medium : Medium) where
  abbrev longer : ℕ → List Medium
  longer t = drop t (timeline.past ++ timeline.medium ∷ [])

  split : (t : ℕ) → t ≤ length timeline.past → longer t ≡ drop t timeline.past ++ timeline.medium ∷ []
  split t earlier = drop-append-le t timeline.past (timeline.medium ∷ []) earlier

  keeps : (t : ℕ) (c : List ℕ) → t ≤ length timeline.past → LeftSince timeline t c → LeftSince (moves_to timeline medium) t c
  keeps t c earlier (inl now) =
      inr (subst (λ (l : List Medium). MayHaveLeft l c) (sym (split t earlier)) (in_second (drop t timeline.past) (timeline.medium ∷ []) c (inl now)))
  keeps t c earlier (inr left) =
      inr (subst (λ (l : List Medium). MayHaveLeft l c) (sym (split t earlier)) (in_first (drop t timeline.past) (timeline.medium ∷ []) c left))

  of_either : (t : ℕ) (c : List ℕ) → MayHaveLeft (drop t timeline.past) c ⊎ MayHaveLeft (timeline.medium ∷ []) c → LeftSince timeline t c ⊎ MayLeave medium c
  of_either t c (inl left) = inl (inr left)
  of_either t c (inr (inl now)) = inl (inl now)
  of_either t c (inr (inr none)) = absurd none

  nothing_else : (t : ℕ) (c : List ℕ) → t ≤ length timeline.past → LeftSince (moves_to timeline medium) t c → LeftSince timeline t c ⊎ MayLeave medium c
  nothing_else t c earlier (inl new) = inr new
  nothing_else t c earlier (inr left) =
      of_either t c (in_either (drop t timeline.past) (timeline.medium ∷ []) c (subst (λ (l : List Medium). MayHaveLeft l c) (split t earlier) left))

  pub moves : Passes (length timeline.past) (length (moves_to timeline medium).past) (LeftSince timeline) (LeftSince (moves_to timeline medium)) (MayLeave medium)
  moves = record {
    later = omega (arith, length-append timeline.past (timeline.medium ∷ []));
    keeps = keeps;
    nothing_else = nothing_else;
  }

-- a call that moves the medium, or fails
pub passes : {X E : Type 0} (old new : Timeline) (medium : Medium) (result : Result X E) → OnOk result (new ≡ moves_to old medium) → OnErr result (new ≡ old)
    → Passes (length old.past) (length new.past) (LeftSince old) (LeftSince new) (MayLeave new.medium)
passes old new medium (Ok unit) done kept =
    subst (λ (t : Timeline). Passes (length old.past) (length t.past) (LeftSince old) (LeftSince t) (MayLeave t.medium)) (sym done) (moves old medium)
passes old new medium (Err e) done kept =
    subst (λ (t : Timeline). Passes (length old.past) (length t.past) (LeftSince old) (LeftSince t) (MayLeave t.medium)) (sym kept) (record {
      later = omega arith;
      keeps = λ t c earlier left. left;
      nothing_else = λ t c earlier left. inl left;
    })
