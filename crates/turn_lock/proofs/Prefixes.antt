-- Beginnings of one list.
use Rattle.std.proofs.Common.{◌≡◌, ◌≢◌, ℕ, ◌<◌, ◌≤◌, List, [], ◌∷◌, ◌++◌, length, get_or, refl, sym, ap, ◌∙◌, subst, arith, append_assoc, length-append}
use Rattle.std.specs.Prelude.{All, nat_lt}
use Rattle.std.proofs.Common.{Bool, true, false, cond, max}
use Rattle.std.proofs.lemmas.Bool.{ltb-true}
use Rattle.std.proofs.lemmas.Bool.Decides.{nat_tests}
use Rattle.std.proofs.lemmas.List.{append-nil}
use Rattle.std.proofs.lemmas.List.Elements.{All-append, All-cons, All-head, All-nil, All-weaker, All-tail}
use Rattle.turn_lock.specs.Histories.{Follows, longer}

module _ {E : Type 0} (seat_of : E → ℕ) where
  -- who has seen all follows
  pub follows_all : (seats : List ℕ) (log : List E) → Follows seat_of seats log log
  follows_all seats log = record { past = []; is = sym (append-nil log); none = All-nil _ }

  -- entries of another seat are added
  pub follows_on : (seats : List ℕ) (seen log more : List E) (seat : ℕ) → Follows seat_of seats seen log → All (λ e. seat_of e ≡ seat) more → All (λ k. k ≢ seat) seats → Follows seat_of seats seen (log ++ more)
  follows_on seats seen log more seat f own apart = let Other : E → Type 0 = λ e. All (λ k. k ≢ seat_of e) seats in record {
    past = f.past ++ more;
    is = ap (λ (l : List E). l ++ more) f.is ∙ append_assoc seen f.past more;
    none = All-append Other f.past more f.none (All-weaker (λ e. seat_of e ≡ seat) Other (λ e same. subst (λ (n : ℕ). All (λ k. k ≢ n) seats) {x = seat} {y = seat_of e} (sym same) apart) more own);
  }

  -- of two beginnings of one list the shorter begins the longer
  prefixes : (a b r s : List E) → a ++ r ≡ b ++ s → length a ≤ length b → (m : List E) × (b ≡ a ++ m) × (r ≡ m ++ s)
  prefixes [] b r s e le = (b, refl, e)
  prefixes (x ∷ a) [] r s e le = absurd (omega arith)
  prefixes (x ∷ a) (y ∷ b) r s e le = let head : x ≡ y = cc in let tail : a ++ r ≡ b ++ s = cc in let p = prefixes a b r s tail (omega arith) in (p.0, (λ i. sym head i ∷ p.1 i), p.2)

  pub all_right : (P : E → Type 0) (xs ys : List E) → All P (xs ++ ys) → All P ys
  all_right P [] ys h = h
  all_right P (x ∷ xs) ys h = all_right P xs ys (All-tail P x (xs ++ ys) h)

  pub all_left : (P : E → Type 0) (xs ys : List E) → All P (xs ++ ys) → All P xs
  all_left P [] ys h = All-nil P
  all_left P (x ∷ xs) ys h = All-cons P x xs (All-head P x (xs ++ ys) h) (all_left P xs ys (All-tail P x (xs ++ ys) h))

  abbrev Other : List ℕ → E → Type 0
  Other seats e = All (λ k. k ≢ seat_of e) seats

  -- two that follow one history, of which the first has seen no more
  shorter : (A B : List ℕ) (a b log : List E) → Follows seat_of A a log → Follows seat_of B b log → length a ≤ length b → Follows seat_of A a b × ((past : List E) × (log ≡ b ++ past) × All (Other A) past × All (Other B) past)
  shorter A B a b log f g le = let p = prefixes a b f.past g.past (sym f.is ∙ g.is) le in let none = subst (All (Other A)) p.2 f.none in
      (record { past = p.0; is = p.1; none = all_left (Other A) p.0 g.past none }, (g.past, g.is, all_right (Other A) p.0 g.past none, g.none))

  both_other : (A B : List ℕ) (past : List E) → All (Other A) past → All (Other B) past → All (Other (A ++ B)) past
  both_other A B past f g = λ k d within. All-append (λ j. j ≢ seat_of (get_or past k d)) A B (f k d within) (g k d within)

  not_less : (m n : ℕ) → nat_lt m n ≡ false → n ≤ m
  not_less m n e = grind (arith, nat_tests)

  longer_by : (P : List E → Type 0) (a b : List E) → (length a < length b → P b) → (length b ≤ length a → P a) → (t : Bool) → nat_lt (length a) (length b) ≡ t → P (cond t b a)
  longer_by P a b second first true e = second (ltb-true (length a) (length b) e)
  longer_by P a b second first false e = first (not_less (length a) (length b) e)

  longer_is : (P : List E → Type 0) (a b : List E) → (length a < length b → P b) → (length b ≤ length a → P a) → P (longer a b)
  longer_is P a b second first = longer_by P a b second first (nat_lt (length a) (length b)) refl

  -- the longer of what two have seen follows what either had seen, and whoever has seen the longer speaks for the seats of both
  pub record Longer (A B : List ℕ) (a b log l : List E) : Type 0 where
    pub one : Follows seat_of A a l
    pub other : Follows seat_of B b l
    pub both : Follows seat_of (A ++ B) l log
    pub long : length l ≡ max (length a) (length b)
    pub first_whole : a ≡ log → l ≡ log
    pub second_whole : b ≡ log → l ≡ log

  whole_prefix : (a b past log : List E) → log ≡ a ++ past → b ≡ log → length b ≤ length a → a ≡ log
  whole_prefix a b [] log is e le = sym (is ∙ append-nil a)
  whole_prefix a b (x ∷ past) log is e le = let n = ap length is in let m = ap length e in absurd (omega (arith, length-append a (x ∷ past)))

  pub longer_follows : (A B : List ℕ) (a b log : List E) → Follows seat_of A a log → Follows seat_of B b log → Longer A B a b log (longer a b)
  longer_follows A B a b log f g = longer_is (Longer A B a b log) a b
      (λ less. let s = shorter A B a b log f g (omega arith) in record {
        one = s.0;
        other = follows_all B b;
        both = record { past = s.1.0; is = s.1.1; none = both_other A B s.1.0 s.1.2 s.1.3 };
        long = omega arith;
        first_whole = λ e. let n = ap length e in let m = ap length f.is in let k = ap length g.is in absurd (omega (arith, length-append b g.past));
        second_whole = λ e. e;
      })
      (λ less. let s = shorter B A b a log g f less in record {
        one = follows_all A a;
        other = s.0;
        both = record { past = s.1.0; is = s.1.1; none = both_other A B s.1.0 s.1.3 s.1.2 };
        long = omega arith;
        first_whole = λ e. e;
        second_whole = λ e. whole_prefix a b f.past log f.is e less;
      })
