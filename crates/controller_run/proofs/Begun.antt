-- The commands that were listed are of operations that the history begins.
use Rattle.std.proofs.Common.{◌≡◌, ◌⊎◌, ℕ, zero, suc, ◌+◌, ◌<◌, ◌≤◌, Bool, true, false, ◌&&◌, ◌||◌, ◌==◌, List, [], ◌∷◌, ◌++◌, map, All, Option, Some, None, refl, sym, ap, ◌∙◌, ⊎_elim, inl, inr, subst, arith, append_assoc, eqb-true, if◌then◌else◌}
use Rattle.std.proofs.lemmas.Bool.{and_parts, false≢true}
use Rattle.std.proofs.lemmas.List.Elements.{All-contains, All-filter, All-map, Contains-append_cases, Contains-append_left, filter_passes}
use Rattle.std.specs.List.{Contains, filter, list_any}
use Rattle.rollout_rules.specs.Sums.{list_below}
use Rattle.rollout_rules.specs.Items.{home_of, item_at, item_count}
use Rattle.rollout_rules.specs.History.{History, begun, flies, settled}
use Rattle.rollout_rules.specs.Legal.{is_legal}
use Rattle.rollout_rules.specs.Release.{next_op}
use Rattle.rollout_rules.specs.World.{in_flight}
use Rattle.rollout_rules.specs.declared.op.Op.{Op}
use Rattle.rollout_rules.specs.declared.op.Entry.{Entry}
use Rattle.rollout_rules.specs.declared.op.Entry.TheVariants.{Begin}
use Rattle.rollout_laws.proofs.Histories.{begun_is_there}
use Rattle.wan_edge.specs.Frames.{Command}
use Rattle.rollout_book.specs.Commands.{command_of, is_among, is_asked}
use Rattle.shared_book.specs.declared.note.What.{What}
use Rattle.shared_book.specs.declared.note.What.TheVariants as what
use Rattle.shared_book.specs.declared.note.Written.{Written}
use Rattle.shared_book.specs.Histories.{Opening, added, history_of}
use Rattle.shared_book.specs.Legal.{is_legal_shared}
use Rattle.shared_book.proofs.Going.{front_is_legal}
use Rattle.shared_book.proofs.Lists.{list-is_legal}
use Rattle.shared_book.proofs.Stops.{added-append}
use Rattle.shared_book.specs.Told.{commands_at}
use Rattle.controller_run.proofs.Elements.{any-found, none-inside}
use Rattle.controller_run.specs.Promises.{AreListed, IsListedAt, IsListedIn, IsOfBegun, says_listed}

-- ---- the note by which a command was listed
says-listed : (said : What) → says_listed said ≡ true → said ≡ what.Listed
says-listed (what.Turned dones begins) e = absurd (false≢true e)
says-listed (what.Alien item held begun) e = absurd (false≢true e)
says-listed what.Disk e = absurd (false≢true e)
says-listed what.Listed e = refl
says-listed what.Work e = absurd (false≢true e)
says-listed what.Finished e = absurd (false≢true e)
says-listed what.Held e = absurd (false≢true e)
says-listed what.Stopped e = absurd (false≢true e)
says-listed (what.Stop why) e = absurd (false≢true e)

inside-if : (b : Bool) (cs : List Command) (c : Command) → Contains (if b then cs else []) c → (b ≡ true) × Contains cs c
inside-if true cs c at = (refl, at)
inside-if false cs c at = absurd (none-inside c at)

module _ (o : Opening) (seat : ℕ) (switches : List ℕ) where
  here : (log later : List Written) (w : Written) (mine : List Command) (c : Command) → IsListedAt o seat switches log w mine → Contains mine c → IsListedIn o seat switches (log ++ w ∷ later) c
  here log later w mine c at inside =
      let both = inside-if ((w.note.seat == seat) && says_listed w.note.what) (commands_at o log at.asked) c (subst (λ (cs : List Command). Contains cs c) at.is inside) in
      let parts = and_parts (w.note.seat == seat) (says_listed w.note.what) both.0 in
      record { log = log; note = w; later = later; is = refl; own = eqb-true w.note.seat seat parts.0; says = says-listed w.note.what parts.1; asked = at.asked; some = at.some; among = both.1 }

  behind : (log later : List Written) (w : Written) (c : Command) → IsListedIn o seat switches ((log ++ w ∷ []) ++ later) c → IsListedIn o seat switches (log ++ w ∷ later) c
  behind log later w c found = record {
    log = found.log;
    note = found.note;
    later = found.later;
    is = sym (append_assoc log (w ∷ []) later) ∙ found.is;
    own = found.own;
    says = found.says;
    asked = found.asked;
    some = found.some;
    among = found.among;
  }

  pub listed-in : (log more : List Written) (listed : List Command) (rounds : ℕ) (c : Command) → AreListed o seat switches log more listed rounds → Contains listed c → IsListedIn o seat switches (log ++ more) c
  listed-in log [] listed rounds c lists at = absurd (none-inside c (subst (λ (cs : List Command). Contains cs c) lists.0 at))
  listed-in log (w ∷ later) listed rounds c lists at =
      ⊎_elim (λ (mine : Contains lists.0 c). here log later w lists.0 c lists.3 mine) (λ (theirs : Contains lists.1 c). behind log later w c (listed-in (log ++ w ∷ []) later lists.1 lists.2 c lists.6 theirs))
      (Contains-append_cases lists.0 lists.1 c (subst (λ (cs : List Command). Contains cs c) lists.4 at))

-- ---- an operation in flight was begun
-- the home for which a test passes is among the switches
any-inside : (home : ℕ) (switches : List ℕ) → list_any (λ w. w == home) switches ≡ true → Contains switches home
any-inside home switches e = let found = any-found (λ w. w == home) switches e in subst (Contains switches) (eqb-true found.0 home found.2) found.1

pub home-among : (switches : List ℕ) (home : Option ℕ) → is_among switches home ≡ true → (switch : ℕ) × (home ≡ Some switch) × Contains switches switch
home-among switches None e = absurd (false≢true e)
home-among switches (Some home) e = (home, refl, any-inside home switches e)

-- the operation of its item that is in flight
record Flies (h : History) (op : Op) : Type 0 where
  next : op ≡ next_op h op.item
  flying : flies h op.item ≡ true

module _ (o : Opening) (switches : List ℕ) (h : History) where
  op-begun : (op : Op) → is_legal o.rollout.problem o.rollout.plan h ≡ true → Flies h op → Contains h.entries (Begin op)
  op-begun op legal is =
      let count : begun h op.item ≡ settled h op.item + 1 = eqb-true (begun h op.item) (settled h op.item + 1) is.flying in
      subst (λ (x : Op). Contains h.entries (Begin x)) (sym is.next)
      (begun_is_there o.rollout.problem o.rollout.plan h legal op.item (settled h op.item + 1) (omega arith) (omega (arith, count)))

  flying-begun : (op : Op) → is_legal o.rollout.problem o.rollout.plan h ≡ true → Flies h op → is_asked o.rollout.problem switches op ≡ true → IsOfBegun o switches h (command_of o.rollout op)
  flying-begun op legal is asked =
      let home = home-among switches (home_of o.rollout.problem (item_at o.rollout.problem op.item)) asked in
      record { op = op; is = refl; begun = op-begun op legal is; switch = home.0; home = home.1; among = home.2 }

  all-begun : is_legal o.rollout.problem o.rollout.plan h ≡ true → All (IsOfBegun o switches h) (map (command_of o.rollout) (filter (is_asked o.rollout.problem switches) (in_flight o.rollout.problem h)))
  all-begun legal =
      let p = o.rollout.problem in
      let items = filter (flies h) (list_below (item_count p) (λ n. n)) in
      let flying : All (Flies h) (in_flight p h) = All-map (Flies h) (next_op h) items (λ k d inside. record { next = refl; flying = filter_passes (flies h) (list_below (item_count p) (λ n. n)) k d inside }) in
      let asked = filter_passes (is_asked p switches) (in_flight p h) in
      let both = All-filter (is_asked p switches) (Flies h) (in_flight p h) flying in
      All-map (IsOfBegun o switches h) (command_of o.rollout) (filter (is_asked p switches) (in_flight p h)) (λ k d inside. flying-begun _ legal (both k d inside) (asked k d inside))

-- what a history begins, a longer one does
pub begun-stays : (o : Opening) (log later : List Written) (e : Entry) → Contains (history_of o log).entries e → Contains (history_of o (log ++ later)).entries e
begun-stays o log later e at =
    let mine = o.found.entries in
    let is : mine ++ added (log ++ later) ≡ (mine ++ added log) ++ added later =
    ap (λ (es : List Entry). mine ++ es) (added-append o log later) ∙ sym (append_assoc mine (added log) (added later)) in
    subst (λ (es : List Entry). Contains es e) (sym is) (Contains-append_left (mine ++ added log) (added later) e at)

pub listed-begun : (o : Opening) (seat : ℕ) (switches : List ℕ) (log more : List Written) (listed : List Command) (rounds : ℕ) (c : Command) → is_legal_shared o (log ++ more) ≡ true → AreListed o seat switches log more listed rounds → Contains listed c
    → IsOfBegun o switches (history_of o (log ++ more)) c
listed-begun o seat switches log more listed rounds c legal lists at =
    let found = listed-in o seat switches log more listed rounds c lists at in
    let at_front : is_legal_shared o found.log ≡ true = front_is_legal o found.log (found.note ∷ found.later) (subst (λ (ws : List Written). is_legal_shared o ws ≡ true) found.is legal) in
    let all = all-begun o found.asked (history_of o found.log) (list-is_legal o found.log at_front) in
    let mine = All-contains (IsOfBegun o found.asked (history_of o found.log)) (commands_at o found.log found.asked) c all found.among in
    record {
      op = mine.op;
      is = mine.is;
      begun = subst (λ (ws : List Written). Contains (history_of o ws).entries (Begin mine.op)) (sym found.is) (begun-stays o found.log (found.note ∷ found.later) (Begin mine.op) mine.begun);
      switch = mine.switch;
      home = mine.home;
      among = All-contains (Contains switches) found.asked mine.switch found.some mine.among;
    }
