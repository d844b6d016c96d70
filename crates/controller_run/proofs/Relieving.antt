-- A worker for which no thread was started, before the others are sent out.
use Rattle.std.proofs.Common.{◌≡◌, ℕ, List, [], ◌++◌, IsPermutation, Option, Some, None, append-nil, append_assoc, sym, ap, ap₂, ◌∙◌, subst}
use Rattle.turn_lock.specs.declared.counted.Counted.{Ghosts}
use Rattle.turn_lock.specs.declared.pass.Pass.{Pass}
use Rattle.port_session.specs.Sessions.{SessionView}
use Rattle.wan_edge.specs.Ports.{PortTrace}
use Rattle.shared_book.specs.declared.note.Written.{Written}
use Rattle.shared_book.specs.declared.call_reply.Wake.{Wake}
use Rattle.shared_book.specs.Histories.{Opening}
use Rattle.controller_run.specs.Working.{Standing}
use Rattle.controller_run.specs.Workers.{HasReturned, Relieves}
use Rattle.controller_run.proofs.Shuffles.{same}

module _ {V P : Type 0} {C : Ghosts V Written} (tell : P → PortTrace) (o : Opening) (migration : ℕ) (homes : List (Option ℕ)) (rounds : ℕ) (given pass : Pass V Written C) (ports back : List (SessionView P)) (calls : ℕ) where
  no_end : {A : Type 0} (end : Wake) → Some end ≡ None → A
  no_end end is = absurd (cc is)

  -- where it never began its ports are those that it was given
  pub as_given : (end : Option Wake) → end ≡ None → HasReturned tell o migration homes rounds given ports pass calls end back → back ≡ ports
  as_given None is returned = ap (λ (s : Standing P). s.ports) returned.served
  as_given (Some end) is returned = no_end end is

  -- what the caller and the spare ones have, with what the worker keeps, is what they had with all its ports
  pub moved : (own spare own' spare' now : List (SessionView P)) (end : Option Wake) → HasReturned tell o migration homes rounds given ports pass calls end back → Relieves end back now own spare own' spare'
      → (kept : List (SessionView P)) × IsPermutation (own ++ (spare ++ ports)) ((own' ++ spare') ++ kept)
  moved own spare own' spare' now None returned relieves = (
    [],
    subst (λ (l : List (SessionView P)). IsPermutation (own ++ (spare ++ ports)) l) (sym (append-nil (own' ++ spare')))
        (subst (λ (l : List (SessionView P)). IsPermutation (own ++ (spare ++ l)) (own' ++ spare')) (ap (λ (s : Standing P). s.ports) returned.served) relieves.1),
  )
  moved own spare own' spare' now (Some end) returned relieves = (ports, same _ _ (sym (append_assoc own spare ports) ∙ ap₂ (λ (a b : List (SessionView P)). (a ++ b) ++ ports) (sym relieves.1) (sym relieves.2)))
