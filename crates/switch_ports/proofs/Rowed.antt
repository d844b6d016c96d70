-- A row is gone through, and one after the other is changed.
use Rattle.std.proofs.Math.Seq.{take-append_seam}
use Rattle.std.proofs.Common.{take, drop, ◌+◌, Bool, ◌||◌, map, ap₂, ◌≡◌, ◌⊎◌, ℕ, zero, suc, ◌≤◌, ◌<◌, List, [], ◌∷◌, ◌++◌, length, get_or, set, refl, sym, ap, ◌∙◌, inl, inr, subst, arith, append-nil, append_assoc, Option}
use Rattle.std.specs.List.{AllZip, list_any}
use Rattle.std.specs.Prelude.{All, IsTrue, ⊤}
use Rattle.wan_edge.specs.Frames.{Answer}
use Rattle.wan_edge.specs.Ports.{PortTrace}
use Rattle.port_session.specs.Sessions.{SessionView}
use Rattle.switch_ports.specs.Views.{view}
use Rattle.shared_book.specs.declared.note.Cause.{Cause}
use Rattle.shared_book.specs.declared.note.Cause.TheVariants as cause
use Rattle.switch_ports.specs.Hearing.{HearsOut}
use Rattle.switch_ports.specs.Rows.{AtOne, AtOneOrMemory, HearsEach}

-- the first so many are in a relation with what they were, and the others as they were
abbrev pub SoFar : {A : Type 0} → (A → A → Type 0) → ℕ → List A → List A → Type 0
SoFar R zero ps bs = bs ≡ ps
SoFar R (suc n) [] [] = ⊤
SoFar R (suc n) [] (b ∷ bs) = ⊥
SoFar R (suc n) (a ∷ ps) [] = ⊥
SoFar R (suc n) (a ∷ ps) (b ∷ bs) = R a b × SoFar R n ps bs

-- what a vector has, where a row of its length was written back
pub back : {A : Type 0} (xs ys : List A) (n : ℕ) → length xs ≡ n → take n (xs ++ drop (length xs) ys) ≡ xs
back xs ys n long = subst (λ m. take m (xs ++ drop (length xs) ys) ≡ xs) long (take-append_seam xs (drop (length xs) ys))

module _ {A : Type 0} where
  pub one_more : (R : A → A → Type 0) (n : ℕ) (ps bs : List A) (y d : A) → SoFar R n ps bs → n < length bs → R (get_or bs n d) y → SoFar R (suc n) ps (set bs n y)
  one_more R zero ps [] y d so inside r = absurd (omega (arith, inside))
  one_more R zero ps (b ∷ bs) y d so inside r = subst (λ (xs : List A). SoFar R 1 xs (y ∷ bs)) so (r, refl)
  one_more R (suc n) [] [] y d so inside r = absurd (omega (arith, inside))
  one_more R (suc n) [] (b ∷ bs) y d so inside r = absurd so
  one_more R (suc n) (a ∷ ps) [] y d so inside r = absurd so
  one_more R (suc n) (a ∷ ps) (b ∷ bs) y d so inside r = (so.0, one_more R n ps bs y d so.1 (omega (arith, inside)) r)

  -- the same, as a loop counts
  pub next : (R : A → A → Type 0) (n : ℕ) (ps bs : List A) (y d : A) → SoFar R n ps bs → n < length bs → R (get_or bs n d) y → SoFar R (n + 1) ps (set bs n y)
  next R n ps bs y d so inside r = let same : suc n ≡ n + 1 = omega arith in subst (λ m. SoFar R m ps (set bs n y)) same (one_more R n ps bs y d so inside r)

  pub weaker : (R Q : A → A → Type 0) → ((a b : A) → R a b → Q a b) → (n : ℕ) (ps bs : List A) → SoFar R n ps bs → SoFar Q n ps bs
  weaker R Q to zero ps bs so = so
  weaker R Q to (suc n) [] [] so = tt
  weaker R Q to (suc n) [] (b ∷ bs) so = absurd so
  weaker R Q to (suc n) (a ∷ ps) [] so = absurd so
  weaker R Q to (suc n) (a ∷ ps) (b ∷ bs) so = (to a b so.0, weaker R Q to n ps bs so.1)

  pub same_each : (Q : A → A → Type 0) → ((a : A) → Q a a) → (ps : List A) → AllZip Q ps ps
  same_each Q same [] = tt
  same_each Q same (a ∷ ps) = (same a, same_each Q same ps)

  -- where what is as it was is in the relation, all are
  pub in_all : (Q : A → A → Type 0) → ((a : A) → Q a a) → (n : ℕ) (ps bs : List A) → SoFar Q n ps bs → AllZip Q ps bs
  in_all Q same zero ps bs so = subst (λ (xs : List A). AllZip Q xs bs) so (same_each Q same bs)
  in_all Q same (suc n) [] [] so = tt
  in_all Q same (suc n) [] (b ∷ bs) so = absurd so
  in_all Q same (suc n) (a ∷ ps) [] so = absurd so
  in_all Q same (suc n) (a ∷ ps) (b ∷ bs) so = (so.0, in_all Q same n ps bs so.1)

  -- at the end all are
  pub at_end : (R : A → A → Type 0) (n : ℕ) (ps bs : List A) → SoFar R n ps bs → length bs ≤ n → AllZip R ps bs
  at_end R zero ps [] so long = subst (λ (xs : List A). AllZip R xs []) so tt
  at_end R zero ps (b ∷ bs) so long = absurd (omega (arith, long))
  at_end R (suc n) [] [] so long = tt
  at_end R (suc n) [] (b ∷ bs) so long = absurd so
  at_end R (suc n) (a ∷ ps) [] so long = absurd so
  at_end R (suc n) (a ∷ ps) (b ∷ bs) so long = (so.0, at_end R n ps bs so.1 (omega (arith, long)))

  -- where one fails, what holds of each outcome holds of all
  pub in_all_with : (R Q : A → A → Type 0) → ((a b : A) → R a b → Q a b) → ((a : A) → Q a a) → (n : ℕ) (ps bs : List A) (y d : A) → SoFar R n ps bs → n < length bs → Q (get_or bs n d) y → AllZip Q ps (set bs n y)
  in_all_with R Q to same n ps bs y d so inside q = in_all Q same (suc n) ps (set bs n y) (one_more Q n ps bs y d (weaker R Q to n ps bs so) inside q)

  -- where one fails, its cause holds there
  pub at_one : (R C : A → A → Type 0) (n : ℕ) (ps bs : List A) (y d : A) → SoFar R n ps bs → n < length bs → C (get_or bs n d) y → AtOne C ps (set bs n y)
  at_one R C zero ps [] y d so inside why = absurd (omega (arith, inside))
  at_one R C zero ps (b ∷ bs) y d so inside why = subst (λ (xs : List A). AtOne C xs (y ∷ bs)) so (inl why)
  at_one R C (suc n) [] [] y d so inside why = absurd (omega (arith, inside))
  at_one R C (suc n) [] (b ∷ bs) y d so inside why = absurd so
  at_one R C (suc n) (a ∷ ps) [] y d so inside why = absurd so
  at_one R C (suc n) (a ∷ ps) (b ∷ bs) y d so inside why = inr (at_one R C n ps bs y d so.1 (omega (arith, inside)) why)

  pub same_long : (R : A → A → Type 0) (n : ℕ) (ps bs : List A) → SoFar R n ps bs → length bs ≡ length ps
  same_long R zero ps bs so = ap length so
  same_long R (suc n) [] [] so = refl
  same_long R (suc n) [] (b ∷ bs) so = absurd so
  same_long R (suc n) (a ∷ ps) [] so = absurd so
  same_long R (suc n) (a ∷ ps) (b ∷ bs) so = ap suc (same_long R n ps bs so.1)

  pub as_it_was : (R : A → A → Type 0) (n : ℕ) (ps bs : List A) (d : A) → SoFar R n ps bs → get_or bs n d ≡ get_or ps n d
  as_it_was R zero ps bs d so = ap (λ (xs : List A). get_or xs 0 d) so
  as_it_was R (suc n) [] [] d so = refl
  as_it_was R (suc n) [] (b ∷ bs) d so = absurd so
  as_it_was R (suc n) (a ∷ ps) [] d so = absurd so
  as_it_was R (suc n) (a ∷ ps) (b ∷ bs) d so = as_it_was R n ps bs d so.1

  -- what held of each at first holds of the next
  pub of_next : (R : A → A → Type 0) (P : A → Type 0) (n : ℕ) (ps bs : List A) (d : A) → SoFar R n ps bs → n < length bs → All P ps → P (get_or bs n d)
  of_next R P n ps bs d so inside each = subst P (sym (as_it_was R n ps bs d so)) (each n d (omega (arith, inside, same_long R n ps bs so)))

-- calls leave the switches as they are
pub same_switches : {P : Type 0} (Q : SessionView P → SessionView P → Type 0) → ((a b : SessionView P) → Q a b → b.switch ≡ a.switch) → (ps bs : List (SessionView P)) → AllZip Q ps bs → map (λ (s : SessionView P). s.switch) bs ≡ map (λ (s : SessionView P). s.switch) ps
same_switches Q same [] [] each = refl
same_switches Q same [] (b ∷ bs) each = absurd each
same_switches Q same (a ∷ ps) [] each = absurd each
same_switches Q same (a ∷ ps) (b ∷ bs) each = ap₂ (λ w ws. w ∷ ws) (same a b each.0) (same_switches Q same ps bs each.1)

-- and they leave live what is live
pub same_live : {P : Type 0} (Q : SessionView P → SessionView P → Type 0) → ((a b : SessionView P) → Q a b → b.stream.live ≡ a.stream.live) → (ps bs : List (SessionView P)) → AllZip Q ps bs → All (λ (s : SessionView P). IsTrue s.stream.live) ps → All (λ (s : SessionView P). IsTrue s.stream.live) bs
same_live Q same [] [] each live k d inside = live k d inside
same_live Q same [] (b ∷ bs) each live k d inside = absurd each
same_live Q same (a ∷ ps) [] each live k d inside = absurd each
same_live Q same (a ∷ ps) (b ∷ bs) each live zero d inside = subst IsTrue (sym (same a b each.0)) (live 0 d (omega arith))
same_live Q same (a ∷ ps) (b ∷ bs) each live (suc k) d inside = same_live Q same ps bs each.1 (λ n e within. live (suc n) e (omega (arith, within))) k d (omega (arith, inside))

pub any_switch : {P : Type 0} (test : ℕ → Bool) (ps : List (SessionView P)) → list_any test (map (λ (s : SessionView P). s.switch) ps) ≡ list_any (λ (s : SessionView P). test s.switch) ps
any_switch test [] = refl
any_switch test (a ∷ ps) = ap (λ b. test a.switch || b) (any_switch test ps)

-- a cause that holds of one port
pub of_one : {A : Type 0} (R : A → A → Type 0) (why : Cause) (ps bs : List A) → AtOne R ps bs → AtOneOrMemory R why ps bs
of_one R (cause.Spent rounds item number) ps bs one = one
of_one R (cause.Port switch) ps bs one = one
of_one R (cause.Above item held begun) ps bs one = one
of_one R (cause.NotMine switch item) ps bs one = one
of_one R (cause.NoAnswer switch byte) ps bs one = one
of_one R cause.Disk ps bs one = one
of_one R cause.Memory ps bs one = tt

module _ {P : Type 0} (tell : P → PortTrace) (migration : ℕ) (homes : List (Option ℕ)) where
  -- the first so many were heard out, and told this
  abbrev pub HeardSoFar : ℕ → List (SessionView P) → List (SessionView P) → List Answer → Type 0
  HeardSoFar zero ps bs told = (bs ≡ ps) × (told ≡ [])
  HeardSoFar (suc n) [] [] told = told ≡ []
  HeardSoFar (suc n) [] (b ∷ bs) told = ⊥
  HeardSoFar (suc n) (a ∷ ps) [] told = ⊥
  HeardSoFar (suc n) (a ∷ ps) (b ∷ bs) told = (mine : List Answer) × (later : List Answer) × HearsOut migration homes (view tell a) mine (view tell b) × (told ≡ mine ++ later) × HeardSoFar n ps bs later

  pub heard_more : (n : ℕ) (ps bs : List (SessionView P)) (told mine : List Answer) (y d : SessionView P) → HeardSoFar n ps bs told → n < length bs → HearsOut migration homes (view tell (get_or bs n d)) mine (view tell y) → HeardSoFar (suc n) ps (set bs n y) (told ++ mine)
  heard_more zero ps [] told mine y d so inside r = absurd (omega (arith, inside))
  heard_more zero ps (b ∷ bs) told mine y d so inside r =
      subst (λ (xs : List (SessionView P)). HeardSoFar 1 xs (y ∷ bs) (told ++ mine)) so.0 (mine, [], r, ap (λ ts. ts ++ mine) so.1 ∙ sym (append-nil mine), (refl, refl))
  heard_more (suc n) [] [] told mine y d so inside r = absurd (omega (arith, inside))
  heard_more (suc n) [] (b ∷ bs) told mine y d so inside r = absurd so
  heard_more (suc n) (a ∷ ps) [] told mine y d so inside r = absurd so
  heard_more (suc n) (a ∷ ps) (b ∷ bs) told mine y d so inside r =
      (so.0, so.1 ++ mine, so.2, ap (λ ts. ts ++ mine) so.3 ∙ append_assoc so.0 so.1 mine, heard_more n ps bs so.1 mine y d so.4 (omega (arith, inside)) r)

  -- the same, as a loop counts
  pub heard_next : (n : ℕ) (ps bs : List (SessionView P)) (told mine : List Answer) (y d : SessionView P) → HeardSoFar n ps bs told → n < length bs → HearsOut migration homes (view tell (get_or bs n d)) mine (view tell y) → HeardSoFar (n + 1) ps (set bs n y) (told ++ mine)
  heard_next n ps bs told mine y d so inside r = let same : suc n ≡ n + 1 = omega arith in subst (λ m. HeardSoFar m ps (set bs n y) (told ++ mine)) same (heard_more n ps bs told mine y d so inside r)

  -- each of them was heard out
  pub heard_so : (Q : SessionView P → SessionView P → Type 0) → ((a b : SessionView P) (mine : List Answer) → HearsOut migration homes (view tell a) mine (view tell b) → Q a b) → (n : ℕ) (ps bs : List (SessionView P)) (told : List Answer) → HeardSoFar n ps bs told → SoFar Q n ps bs
  heard_so Q to zero ps bs told so = so.0
  heard_so Q to (suc n) [] [] told so = tt
  heard_so Q to (suc n) [] (b ∷ bs) told so = absurd so
  heard_so Q to (suc n) (a ∷ ps) [] told so = absurd so
  heard_so Q to (suc n) (a ∷ ps) (b ∷ bs) told so = (to a b so.0 so.2, heard_so Q to n ps bs so.1 so.4)

  -- at the end all were
  pub all_heard : (n : ℕ) (ps bs : List (SessionView P)) (told : List Answer) → HeardSoFar n ps bs told → length bs ≤ n → HearsEach tell migration homes ps bs told
  all_heard zero ps [] told so long = subst (λ (xs : List (SessionView P)). HearsEach tell migration homes xs [] told) so.0 so.1
  all_heard zero ps (b ∷ bs) told so long = absurd (omega (arith, long))
  all_heard (suc n) [] [] told so long = so
  all_heard (suc n) [] (b ∷ bs) told so long = absurd so
  all_heard (suc n) (a ∷ ps) [] told so long = absurd so
  all_heard (suc n) (a ∷ ps) (b ∷ bs) told so long = (so.0, so.1, so.2, so.3, all_heard n ps bs so.1 so.4 (omega (arith, long)))

  -- and all are live still
  pub all_live : (ps bs : List (SessionView P)) (told : List Answer) → HearsEach tell migration homes ps bs told → All (λ b. IsTrue b.stream.live) bs
  all_live ps [] told each k d inside = absurd (omega (arith, inside))
  all_live [] (b ∷ bs) told each k d inside = absurd each
  all_live (a ∷ ps) (b ∷ bs) told each zero d inside = each.2.live
  all_live (a ∷ ps) (b ∷ bs) told each (suc k) d inside = all_live ps bs each.1 each.4 k d (omega (arith, inside))
