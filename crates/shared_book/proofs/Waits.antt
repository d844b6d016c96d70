-- How the looks of a call that waits follow one another.
use Rattle.std.proofs.Common.{◌≡◌, ◌≢◌, ℕ, List, [], ◌∷◌, ◌++◌, All, Option, None, refl, sym, ap, ap₂, ◌∙◌, subst, append_assoc, append-nil}
use Rattle.std.proofs.lemmas.List.Elements.{All-append, All-nil}
use Rattle.turn_lock.specs.Histories.{Follows}
use Rattle.shared_book.specs.declared.note.Written.{Written}
use Rattle.shared_book.specs.declared.call_reply.Wake.{Wake}
use Rattle.shared_book.specs.Histories.{Opening}
use Rattle.shared_book.specs.Calls.{seat_of}
use Rattle.shared_book.specs.Waking.{IsLookCall}

pub follows-none : (seats : List ℕ) (seen : List Written) → Follows seat_of seats seen seen
follows-none seats seen = record { past = []; is = sym (append-nil seen); none = All-nil _ }

pub follows-on : (seats : List ℕ) (seen mid log : List Written) → Follows seat_of seats seen mid → Follows seat_of seats mid log → Follows seat_of seats seen log
follows-on seats seen mid log first then = record {
  past = first.past ++ then.past;
  is = then.is ∙ ap (λ ws. ws ++ then.past) first.is ∙ append_assoc seen first.past then.past;
  none = All-append (λ w. All (λ k. k ≢ seat_of w) seats) first.past then.past first.none then.none;
}

module _ (o : Opening) (seats seats' : List ℕ) (seat seat' : ℕ) (seen mid : List Written) (switches : List ℕ) (after : List Written) (past : Follows seat_of seats seen mid) (same : seats' ≡ seats) where
  -- a look after others is one after what was seen at first
  pub look-behind : (woken told : Option Wake) → woken ≡ told → seat' ≡ seat → IsLookCall o seats' seat' mid switches woken after → IsLookCall o seats seat seen switches told after
  look-behind woken told is own look =
      let at : IsLookCall o seats seat mid switches told after =
      subst (λ (w : Option Wake). IsLookCall o seats seat mid switches w after) is
      (subst (λ (n : ℕ). IsLookCall o seats n mid switches woken after) own (subst (λ (ns : List ℕ). IsLookCall o ns seat' mid switches woken after) same look)) in
      record {
        log = at.log;
        past = follows-on seats seen mid at.log past at.past;
        noted = at.noted;
        legal = at.legal;
        told = at.told;
      }

  -- a look that notes nothing has only seen more
  pub look-past : (woken : Option Wake) → woken ≡ None → IsLookCall o seats' seat' mid switches woken after → Follows seat_of seats seen after
  look-past woken none look =
      let quiet : IsLookCall o seats' seat' mid switches None after = subst (λ (w : Option Wake). IsLookCall o seats' seat' mid switches w after) none look in
      follows-on seats seen mid after past
      (subst (Follows seat_of seats mid) (sym quiet.noted) (subst (λ (ns : List ℕ). Follows seat_of ns mid quiet.log) same quiet.past))
