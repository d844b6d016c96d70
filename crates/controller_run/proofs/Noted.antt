-- What each call of a worker leaves after what was seen.
use Rattle.std.proofs.Common.{◌≡◌, ℕ, Bool, List, [], ◌∷◌, ◌++◌, Option, Some, None, refl, sym, ap, ◌∙◌, subst, arith, append-nil, inl, inr, if◌then◌else◌}
use Rattle.rollout_rules.specs.declared.op.Op.{Op}
use Rattle.turn_lock.specs.Histories.{Follows}
use Rattle.wan_edge.specs.Frames.{Command}
use Rattle.shared_book.specs.declared.note.What.{What}
use Rattle.shared_book.specs.declared.note.What.TheVariants as what
use Rattle.shared_book.specs.declared.note.Written.{Written}
use Rattle.shared_book.specs.declared.call_reply.Halt.{Halt}
use Rattle.shared_book.specs.declared.call_reply.ListReply.TheVariants as list
use Rattle.shared_book.specs.declared.call_reply.Wake.{Wake}
use Rattle.shared_book.specs.declared.call_reply.Wake.TheVariants as wake
use Rattle.shared_book.specs.Histories.{Opening}
use Rattle.shared_book.specs.Knows.{next_note}
use Rattle.shared_book.specs.Notes.{cause_of}
use Rattle.shared_book.specs.Calls.{IsListCall, seat_of}
use Rattle.shared_book.specs.Told.{commands_at}
use Rattle.shared_book.specs.Waking.{IsLookCall}
use Rattle.controller_run.specs.Finding.{Lists, LooksOn}
use Rattle.controller_run.specs.Promises.{AreSome}
use Rattle.controller_run.specs.Working.{is_some_command}
use Rattle.controller_run.proofs.Tallies.{Tally, tally-as, tally-asked, tally-chain, tally-none, tally-note, tally-others}
use Rattle.controller_run.proofs.Works.{caller}

module _ (o : Opening) (seat : ℕ) (joined switches : List ℕ) (G : Written → Type 0) (plain : (log : List Written) (said : What) → cause_of said ≡ None → G (next_note seat log said [])) where
  -- a call that left no note
  pub unnoted : (seen log after : List Written) → Follows seat_of (seat ∷ joined) seen log → after ≡ log → Tally o seat switches G seen after [] 0
  unnoted seen log after past is = subst (λ (ws : List Written). Tally o seat switches G seen ws [] 0) (sym is) (tally-others o seat switches G joined seen log past)

  pub looked : (asked : List ℕ) (woken : Wake) (seen after : List Written) → IsLookCall o (seat ∷ joined) seat seen asked (Some woken) after → Tally o seat switches G seen after [] 0
  looked asked (wake.Work op) seen after call = tally-note o seat switches G joined seen call.log after what.Work [] call.past call.noted (plain call.log what.Work refl)
  looked asked wake.Finished seen after call = tally-note o seat switches G joined seen call.log after what.Finished [] call.past call.noted (plain call.log what.Finished refl)
  looked asked wake.Held seen after call = tally-note o seat switches G joined seen call.log after what.Held [] call.past call.noted (plain call.log what.Held refl)
  looked asked (wake.Stopped halt) seen after call = tally-note o seat switches G joined seen call.log after what.Stopped [] call.past call.noted (plain call.log what.Stopped refl)
  looked asked wake.Memory seen after call = unnoted seen call.log after call.past call.noted

  -- one call after another
  pub then-none : (a b c : List Written) (cs : List Command) (n : ℕ) → Tally o seat switches G a b cs n → Tally o seat switches G b c [] 0 → Tally o seat switches G a c cs n
  then-none a b c cs n first second = tally-as o seat switches G a c (cs ++ []) cs _ n (append-nil cs) (omega arith) (tally-chain o seat switches G a b c cs [] n 0 first second)

  pub none-then : (a b c : List Written) (cs : List Command) (n : ℕ) → Tally o seat switches G a b [] 0 → Tally o seat switches G b c cs n → Tally o seat switches G a c cs n
  none-then a b c cs n first second = tally-as o seat switches G a c cs cs _ n refl (omega arith) (tally-chain o seat switches G a b c [] cs 0 n first second)

  -- a look, and the commands listed of the switches that were asked for
  pub listed : (asked : List ℕ) (late : Bool) → AreSome asked switches → (op : Op) (seen log : List Written) (commands : List Command) → Lists (caller o (seat ∷ joined) seat asked late) op seen commands list.Listed log → Tally o seat switches G seen log commands (if is_some_command commands then 1 else 0)
  listed asked late some op seen log commands lists =
      let call = lists.listed in
      let first = looked asked (wake.Work op) seen lists.awake lists.looks in
      let second = tally-asked o seat switches G asked some joined lists.awake call.log log what.Listed [] call.past call.noted (plain call.log what.Listed refl) in
      none-then seen lists.awake log commands _ first
      (tally-as o seat switches G lists.awake log (commands_at o call.log asked) commands _ _ (sym call.listed) (ap {B = ℕ} (λ (cs : List Command). if is_some_command cs then 1 else 0) (sym call.listed)) second)

  -- a look, and a stop in the place of commands, or lack of memory
  pub listed-stopped : (asked : List ℕ) (late : Bool) (op : Op) (halt : Halt) (seen after : List Written) (commands : List Command) → Lists (caller o (seat ∷ joined) seat asked late) op seen commands (list.Stopped halt) after → Tally o seat switches G seen after [] 0
  listed-stopped asked late op halt seen after commands lists =
      let call = lists.listed in
      none-then seen lists.awake after [] 0 (looked asked (wake.Work op) seen lists.awake lists.looks)
      (tally-note o seat switches G joined lists.awake call.log after what.Stopped [] call.past call.noted (plain call.log what.Stopped refl))

  pub listed-none : (asked : List ℕ) (late : Bool) (op : Op) (seen after : List Written) (commands : List Command) → Lists (caller o (seat ∷ joined) seat asked late) op seen commands list.Memory after → Tally o seat switches G seen after [] 0
  listed-none asked late op seen after commands lists =
      let call = lists.listed in
      none-then seen lists.awake after [] 0 (looked asked (wake.Work op) seen lists.awake lists.looks) (unnoted lists.awake call.log after call.past call.noted)

  -- a look that found nothing, or none
  pub looked-on : (asked : List ℕ) (late : Bool) (left : ℕ) (seen after : List Written) → LooksOn (caller o (seat ∷ joined) seat asked late) left seen after → Tally o seat switches G seen after [] 0
  looked-on asked late left seen after (inl none) = subst (λ (ws : List Written). Tally o seat switches G seen ws [] 0) (sym none.1) (tally-none o seat switches G seen)
  looked-on asked late left seen after (inr call) = unnoted seen call.log after call.past call.noted
