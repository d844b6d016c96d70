-- Where a worker was the first that stopped all, it had a reason.
use Rattle.std.proofs.Common.{◌≡◌, ℕ, Bool, true, false, List, [], ◌∷◌, Option, Some, None, refl, sym, ap, ◌∙◌, subst, arith, if◌then◌else◌}
use Rattle.std.specs.List.{Contains}
use Rattle.lists.proofs.Conditions.{some_same_is}
use Rattle.rollout_rules.specs.Wan.{Problem}
use Rattle.rollout_rules.specs.History.{History}
use Rattle.rollout_rules.specs.declared.op.Op.{Op}
use Rattle.rollout_rules.specs.declared.op.Entry.{Entry}
use Rattle.rollout_book.specs.declared.fault.BookFault.TheVariants as fault
use Rattle.shared_book.specs.declared.note.Cause.{Cause}
use Rattle.shared_book.specs.declared.note.Cause.TheVariants as cause
use Rattle.shared_book.specs.declared.note.What.{What}
use Rattle.shared_book.specs.declared.note.What.TheVariants as what
use Rattle.shared_book.specs.declared.call_reply.Halt.{Halt}
use Rattle.shared_book.specs.declared.call_reply.Wake.{Wake}
use Rattle.shared_book.specs.declared.call_reply.Wake.TheVariants as wake
use Rattle.shared_book.specs.Legal.{begun_of, is_alien}
use Rattle.shared_book.specs.Replies.{first_alien, or_stopped, or_turned}
use Rattle.shared_book.specs.declared.reply.RoundReply.TheVariants as round
use Rattle.controller_run.proofs.Elements.{inside-later}

-- ---- the first alien answer
-- an answer among these is the one
pub record IsAlienAt (p : Problem) (h : History) (answers : List Op) (item held begun : ℕ) : Type 0 where
  pub among : Contains answers (record { item = item; number = held })
  pub alien : is_alien p h (record { item = item; number = held }) ≡ true
  pub begun_is : begun ≡ begun_of p h item

above-parts : (a b c d e f : ℕ) → what.Alien a b c ≡ what.Alien d e f → (a ≡ d) × (b ≡ e) × (c ≡ f)
above-parts a b c d e f is = (cc is, cc is, cc is)

module _ (p : Problem) (h : History) (item held begun : ℕ) where
  alien-here : (answer : Op) (later : List Op) → is_alien p h answer ≡ true → what.Alien answer.item answer.number (begun_of p h answer.item) ≡ what.Alien item held begun → IsAlienAt p h (answer ∷ later) item held begun
  alien-here answer later alien is =
      let parts = above-parts answer.item answer.number (begun_of p h answer.item) item held begun is in
      let same : answer ≡ record { item = item; number = held } = λ i. record { item = parts.0 i; number = parts.1 i } in
      record {
        among = (0, omega arith, same);
        alien = subst (λ (x : Op). is_alien p h x ≡ true) same alien;
        begun_is = sym parts.2 ∙ ap (begun_of p h) parts.0;
      }

  alien-found : (answers : List Op) → first_alien p h answers ≡ Some (what.Alien item held begun) → IsAlienAt p h answers item held begun
  alien-found [] is = absurd (cc is)
  alien-found (answer ∷ later) is = by (is_alien p h answer) refl is (λ rest. alien-found later rest)
    where
      by : (b : Bool) → is_alien p h answer ≡ b → (if b then Some (what.Alien answer.item answer.number (begun_of p h answer.item)) else first_alien p h later) ≡ Some (what.Alien item held begun)
          → (first_alien p h later ≡ Some (what.Alien item held begun) → IsAlienAt p h later item held begun) → IsAlienAt p h (answer ∷ later) item held begun
      by true alien here rest = alien-here answer later alien (some_same_is _ _ here)
      by false alien there rest = let found = rest there in record { among = inside-later answer _ later found.among; alien = found.alien; begun_is = found.begun_is }

  alien-said : (a : Option What) (es : List Entry) → or_turned a es ≡ what.Alien item held begun → a ≡ Some (what.Alien item held begun)
  alien-said (Some said) es is = ap Some is
  alien-said None es is = absurd (cc is)

  -- what a round is told
  pub round-alien : (s : Option Halt) (answers : List Op) (es : List Entry) → s ≡ None → or_stopped s (or_turned (first_alien p h answers) es) ≡ what.Alien item held begun → IsAlienAt p h answers item held begun
  round-alien s answers es none is =
      alien-found answers (alien-said (first_alien p h answers) es (ap (λ (x : Option Halt). or_stopped x (or_turned (first_alien p h answers) es)) (sym none) ∙ is))
