-- What stands at numbers, where some of them are taken away, put or marked one after the other.
use Rattle.std.proofs.Common.{◌≡◌, ℕ, Bool, true, false, cond, List, [], ◌∷◌, ◌++◌, Option, Some, None, nat_eq, refl, sym, ap, ◌∙◌, eqb-true}
use Rattle.std.proofs.Math.Path.{fun_ext}
use Rattle.std.specs.Cmp.{nat_eq_equiv}
use Rattle.std.specs.List.{AllByRecursion}
use Rattle.rollout_rules.specs.Wan.{Problem}
use Rattle.wan_edge.specs.Fleets.{marked, with_one, without}
use Rattle.switch_ports.specs.declared.ports.Berth.{Berth}
use Rattle.switch_ports.specs.Berths.{AreNamed, marked_each, named_each, own_name, switches_of, with_each, without_each}

-- of two choices in turn the order doesn't matter where both choose the same
same_twice : {A : Type 0} (a b : Bool) (x y : A) → cond a x (cond b x y) ≡ cond b x (cond a x y)
same_twice true true x y = refl
same_twice true false x y = refl
same_twice false true x y = refl
same_twice false false x y = refl

once : {A : Type 0} (a : Bool) (x y z : A) → cond a x (cond a y z) ≡ cond a x z
once true x y z = refl
once false x y z = refl

pub swapped : (a b : ℕ) → nat_eq a b ≡ false → nat_eq b a ≡ false
swapped a b apart = nat_eq_equiv.symm b a ∙ apart

-- ---- taken away
module _ {X : Type 0} (places : ℕ → Option X) where
  without_more_at : (ns : List ℕ) (n k : ℕ) → without_each places (ns ++ n ∷ []) k ≡ without (without_each places ns) n k
  without_more_at [] n k = refl
  without_more_at (m ∷ ns) n k =
      ap (λ o. cond (nat_eq k m) None o) (without_more_at ns n k) ∙ same_twice (nat_eq k m) (nat_eq k n) None (without_each places ns k)

  -- one number more
  pub without_more : (ns : List ℕ) (n : ℕ) → without_each places (ns ++ n ∷ []) ≡ without (without_each places ns) n
  without_more ns n = fun_ext (without_more_at ns n)

  chosen : (a : Bool) (o : Option X) (x : X) → cond a None o ≡ Some x → o ≡ Some x
  chosen true o x is = cc
  chosen false o x is = is

  -- what stands there still stood there
  pub without_some : (ns : List ℕ) (n : ℕ) (x : X) → without_each places ns n ≡ Some x → places n ≡ Some x
  without_some [] n x is = is
  without_some (m ∷ ns) n x is = without_some ns n x (chosen (nat_eq n m) (without_each places ns n) x is)

  -- where another number is taken away nothing changes
  pub without_others : (ns : List ℕ) (n : ℕ) → AllByRecursion (λ m. nat_eq n m ≡ false) ns → without_each places ns n ≡ places n
  without_others [] n others = refl
  without_others (m ∷ ns) n others = ap (λ b. cond b None (without_each places ns n)) others.0 ∙ without_others ns n others.1

-- ---- marked
module _ (marks : ℕ → Bool) where
  marked_more_at : (ns : List ℕ) (n : ℕ) (mark : Bool) (k : ℕ) → marked_each marks (ns ++ n ∷ []) mark k ≡ marked (marked_each marks ns mark) n mark k
  marked_more_at [] n mark k = refl
  marked_more_at (m ∷ ns) n mark k =
      ap (λ o. cond (nat_eq k m) mark o) (marked_more_at ns n mark k) ∙ same_twice (nat_eq k m) (nat_eq k n) mark (marked_each marks ns mark k)

  pub marked_more : (ns : List ℕ) (n : ℕ) (mark : Bool) → marked_each marks (ns ++ n ∷ []) mark ≡ marked (marked_each marks ns mark) n mark
  marked_more ns n mark = fun_ext (marked_more_at ns n mark)

  kept_mark : (a b : Bool) (mark : Bool) → b ≡ mark → cond a mark b ≡ mark
  kept_mark true b mark is = refl
  kept_mark false b mark is = is

  -- where all are as they are to be marked, marking changes nothing
  marked_same_at : (ns : List ℕ) (mark : Bool) → AllByRecursion (λ n. marks n ≡ mark) ns → (k : ℕ) → marked_each marks ns mark k ≡ marks k
  marked_same_at [] mark are k = refl
  marked_same_at (n ∷ ns) mark are k = ap (λ b. cond (nat_eq k n) mark b) (marked_same_at ns mark are.1 k) ∙ here (nat_eq k n) refl
    where
      here : (b : Bool) → nat_eq k n ≡ b → cond b mark (marks k) ≡ marks k
      here true at = sym (ap marks (eqb-true k n at) ∙ are.0)
      here false apart = refl

  pub marked_same : (ns : List ℕ) (mark : Bool) → AllByRecursion (λ n. marks n ≡ mark) ns → marked_each marks ns mark ≡ marks
  marked_same ns mark are = fun_ext (marked_same_at ns mark are)

-- a mark where the others are put
marked_at_from : (ns : List ℕ) (mark : Bool) (before after : ℕ → Bool) (k : ℕ) → before k ≡ after k → marked_each before ns mark k ≡ marked_each after ns mark k
marked_at_from [] mark before after k same = same
marked_at_from (n ∷ ns) mark before after k same = ap (λ b. cond (nat_eq k n) mark b) (marked_at_from ns mark before after k same)

-- of two marks the later stays
remarked_at : (marks : ℕ → Bool) (ns : List ℕ) (a b : Bool) (k : ℕ) → marked_each (marked_each marks ns a) ns b k ≡ marked_each marks ns b k
remarked_at marks [] a b k = refl
remarked_at marks (n ∷ ns) a b k = here (nat_eq k n) refl (remarked_at marks ns a b k)
  where
    here : (at : Bool) → nat_eq k n ≡ at → marked_each (marked_each marks ns a) ns b k ≡ marked_each marks ns b k
        → cond at b (marked_each (marked (marked_each marks ns a) n a) ns b k) ≡ cond at b (marked_each marks ns b k)
    here true at rest = refl
    here false apart rest = marked_at_from ns b (marked (marked_each marks ns a) n a) (marked_each marks ns a) k (ap (λ c. cond c a (marked_each marks ns a k)) apart) ∙ rest

pub remarked : (marks : ℕ → Bool) (ns : List ℕ) (a b : Bool) → marked_each (marked_each marks ns a) ns b ≡ marked_each marks ns b
remarked marks ns a b = fun_ext (remarked_at marks ns a b)

-- ---- named
module _ (names : ℕ → Option (List ℕ)) (p : Problem) where
  named_more_at : (ns : List ℕ) (n k : ℕ) → named_each names p (ns ++ n ∷ []) k ≡ with_one (named_each names p ns) n (own_name p n) k
  named_more_at [] n k = refl
  named_more_at (m ∷ ns) n k =
      ap (λ o. cond (nat_eq k m) (Some (own_name p m)) o) (named_more_at ns n k) ∙ either (nat_eq k m) (nat_eq k n) refl refl
    where
      either : (a b : Bool) → nat_eq k m ≡ a → nat_eq k n ≡ b
          → cond a (Some (own_name p m)) (cond b (Some (own_name p n)) (named_each names p ns k)) ≡ cond b (Some (own_name p n)) (cond a (Some (own_name p m)) (named_each names p ns k))
      either true true first last = ap (λ (w : ℕ). Some (own_name p w)) (sym (eqb-true k m first) ∙ eqb-true k n last)
      either true false first last = refl
      either false true first last = refl
      either false false first last = refl

  -- one number more
  pub named_more : (ns : List ℕ) (n : ℕ) → named_each names p (ns ++ n ∷ []) ≡ with_one (named_each names p ns) n (own_name p n)
  named_more ns n = fun_ext (named_more_at ns n)

  -- where other numbers are named nothing changes
  pub named_others : (ns : List ℕ) (n : ℕ) → AllByRecursion (λ m. nat_eq n m ≡ false) ns → named_each names p ns n ≡ names n
  named_others [] n others = refl
  named_others (m ∷ ns) n others = ap (λ b. cond b (Some (own_name p m)) (named_each names p ns n)) others.0 ∙ named_others ns n others.1

  still_named : (places : ℕ → Option (List ℕ)) (n : ℕ) (ms : List ℕ) → AreNamed places p ms → AreNamed (with_one places n (own_name p n)) p ms
  still_named places n [] are = tt
  still_named places n (m ∷ ms) are = (here (nat_eq m n) refl, still_named places n ms are.1)
    where
      here : (at : Bool) → nat_eq m n ≡ at → cond at (Some (own_name p n)) (places m) ≡ Some (own_name p m)
      here true at = ap (λ (w : ℕ). Some (own_name p w)) (sym (eqb-true m n at))
      here false apart = are.0

  -- each of them has its name then
  pub each_named : (ns : List ℕ) → AreNamed (named_each names p ns) p ns
  each_named [] = tt
  each_named (n ∷ ns) = (
    ap (λ c. cond c (Some (own_name p n)) (named_each names p ns n)) (nat_eq_equiv.refl n),
    still_named (named_each names p ns) n ns (each_named ns),
  )

-- ---- put
module _ {P : Type 0} where
  with_at_from : (bs : List (Berth P)) (before after : ℕ → Option P) (k : ℕ) → before k ≡ after k → with_each before bs k ≡ with_each after bs k
  with_at_from [] before after k same = same
  with_at_from (b ∷ bs) before after k same = ap (λ o. cond (nat_eq k b.switch) (Some b.port) o) (with_at_from bs before after k same)

  back_at : (places : ℕ → Option P) (bs : List (Berth P)) (k : ℕ) → with_each (without_each places (switches_of bs)) bs k ≡ with_each places bs k
  back_at places [] k = refl
  back_at places (b ∷ bs) k = here (nat_eq k b.switch) refl (back_at places bs k)
    where
      here : (at : Bool) → nat_eq k b.switch ≡ at → with_each (without_each places (switches_of bs)) bs k ≡ with_each places bs k
          → cond at (Some b.port) (with_each (without (without_each places (switches_of bs)) b.switch) bs k) ≡ cond at (Some b.port) (with_each places bs k)
      here true at rest = refl
      here false apart rest =
          with_at_from bs (without (without_each places (switches_of bs)) b.switch) (without_each places (switches_of bs)) k (ap (λ c. cond c None (without_each places (switches_of bs) k)) apart)
          ∙ rest

  -- what is put where it was taken away is put there
  pub back : (places : ℕ → Option P) (bs : List (Berth P)) → with_each (without_each places (switches_of bs)) bs ≡ with_each places bs
  back places bs = fun_ext (back_at places bs)

  -- where each stood there already, nothing changes
  put_again_at : (places : ℕ → Option P) (bs : List (Berth P)) → AllByRecursion (λ b. places b.switch ≡ Some b.port) bs → (k : ℕ) → with_each places bs k ≡ places k
  put_again_at places [] are k = refl
  put_again_at places (b ∷ bs) are k = ap (λ o. cond (nat_eq k b.switch) (Some b.port) o) (put_again_at places bs are.1 k) ∙ here (nat_eq k b.switch) refl
    where
      here : (at : Bool) → nat_eq k b.switch ≡ at → cond at (Some b.port) (places k) ≡ places k
      here true at = sym (ap places (eqb-true k b.switch at) ∙ are.0)
      here false apart = refl

  pub put_again : (places : ℕ → Option P) (bs : List (Berth P)) → AllByRecursion (λ b. places b.switch ≡ Some b.port) bs → with_each places bs ≡ places
  put_again places bs are = fun_ext (put_again_at places bs are)

  -- the last ones first
  pub with_append : (places : ℕ → Option P) (bs cs : List (Berth P)) → with_each places (bs ++ cs) ≡ with_each (with_each places cs) bs
  with_append places [] cs = refl
  with_append places (b ∷ bs) cs = ap (λ (p : ℕ → Option P). with_one p b.switch b.port) (with_append places bs cs)

  pub switches_append : (bs cs : List (Berth P)) → switches_of (bs ++ cs) ≡ switches_of bs ++ switches_of cs
  switches_append [] cs = refl
  switches_append (b ∷ bs) cs = ap (λ (ns : List ℕ). b.switch ∷ ns) (switches_append bs cs)

pub marked_append : (marks : ℕ → Bool) (ms ns : List ℕ) (mark : Bool) → marked_each marks (ms ++ ns) mark ≡ marked_each (marked_each marks ns mark) ms mark
marked_append marks [] ns mark = refl
marked_append marks (m ∷ ms) ns mark = ap (λ (p : ℕ → Bool). marked p m mark) (marked_append marks ms ns mark)
