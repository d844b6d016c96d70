-- The notes that calls of a seat leave after one another: what they list, in how many rounds, and what holds of each.
use Rattle.std.proofs.Common.{◌≡◌, ◌≢◌, ℕ, suc, ◌+◌, Bool, true, false, ◌&&◌, ◌==◌, List, [], ◌∷◌, ◌++◌, All, refl, sym, ap, ◌∙◌, arith, append_assoc, append-nil, eq-eqb, ne_eqb, subst, if◌then◌else◌}
use Rattle.std.proofs.lemmas.List.Elements.{All-nil, All-cons, All-append, All-weaker}
use Rattle.std.specs.List.{Contains}
use Rattle.rollout_rules.specs.declared.op.Entry.{Entry}
use Rattle.turn_lock.specs.Histories.{Follows}
use Rattle.wan_edge.specs.Frames.{Command}
use Rattle.shared_book.specs.declared.note.What.{What}
use Rattle.shared_book.specs.declared.note.Written.{Written}
use Rattle.shared_book.specs.Histories.{Opening}
use Rattle.shared_book.specs.Knows.{next_note}
use Rattle.shared_book.specs.Calls.{seat_of}
use Rattle.shared_book.specs.Told.{commands_at}
use Rattle.controller_run.specs.Promises.{AreListed, AreSome, listed_at, says_listed}
use Rattle.controller_run.specs.Working.{is_some_command}

-- how many rounds it makes that these commands were listed
abbrev pub some_round : List Command → ℕ
some_round commands = if is_some_command commands then 1 else 0

module _ (o : Opening) (seat : ℕ) (switches : List ℕ) where
  -- ---- what was listed, over notes in a row
  pub listed-append : (log xs ys : List Written) (cs ds : List Command) (n m : ℕ) → AreListed o seat switches log xs cs n → AreListed o seat switches (log ++ xs) ys ds m → AreListed o seat switches log (xs ++ ys) (cs ++ ds) (n + m)
  listed-append log [] ys cs ds n m first second =
      let none = first.1 in
      let same_count : m ≡ n + m = omega (arith, none) in
      let same_commands : ds ≡ cs ++ ds = ap (λ (es : List Command). es ++ ds) (sym first.0) in
      subst (λ (k : ℕ). AreListed o seat switches log ys (cs ++ ds) k) same_count
      (subst (λ (es : List Command). AreListed o seat switches log ys es m) same_commands
      (subst (λ (ws : List Written). AreListed o seat switches ws ys ds m) (append-nil log) second))
  listed-append log (x ∷ xs) ys cs ds n m first second =
      let on : List Written = log ++ x ∷ [] in
      let mine = first.0 in
      let rest = first.1 in
      let used = first.2 in
      let counted = first.5 in (
        mine,
        rest ++ ds,
        used + m,
        first.3,
        ap (λ (es : List Command). es ++ ds) first.4 ∙ append_assoc mine rest ds,
        omega (arith, counted),
        listed-append on xs ys rest ds used m first.6 (subst (λ (ws : List Written). AreListed o seat switches ws ys ds m) (sym (append_assoc log (x ∷ []) xs)) second),
      )

  -- another's note lists nothing for the seat
  other-lists : (asked : List ℕ) (log : List Written) (w : Written) → seat ≢ w.note.seat → listed_at o seat asked log w ≡ []
  other-lists asked log w other =
      ap (λ (b : Bool). if b && says_listed w.note.what then commands_at o log asked else []) (ne_eqb w.note.seat seat (λ (e : w.note.seat ≡ seat). other (sym e)))

  none-asked : AreSome [] switches
  none-asked = All-nil (Contains switches)

  others-list : (log past : List Written) → All (λ (w : Written). seat ≢ w.note.seat) past → AreListed o seat switches log past [] 0
  others-list log [] none = (refl, refl)
  others-list log (w ∷ past) none = (
    [],
    [],
    0,
    record { asked = []; some = none-asked; is = sym (other-lists [] log w (none 0 w (omega arith))) },
    refl,
    omega arith,
    others-list (log ++ w ∷ []) past (λ k d inside. none (suc k) d (omega (arith, inside))),
  )

  -- so others' notes after add nothing
  pub listed-past : (log more past : List Written) (cs : List Command) (n : ℕ) → All (λ (w : Written). seat ≢ w.note.seat) past → AreListed o seat switches log more cs n → AreListed o seat switches log (more ++ past) cs n
  listed-past log more past cs n none listed =
      let same_count : n + 0 ≡ n = omega arith in
      subst (λ (k : ℕ). AreListed o seat switches log (more ++ past) cs k) same_count
      (subst (λ (es : List Command). AreListed o seat switches log (more ++ past) es (n + 0)) (append-nil cs) (listed-append log more past cs [] n 0 listed (others-list (log ++ more) past none)))

  -- what the seat's own note lists
  abbrev pub lists_by : List ℕ → What → List Written → List Command
  lists_by asked said log = if says_listed said then commands_at o log asked else []

  own-lists : (asked : List ℕ) (log : List Written) (said : What) (es : List Entry) → listed_at o seat asked log (next_note seat log said es) ≡ lists_by asked said log
  own-lists asked log said es = ap (λ (b : Bool). if b && says_listed said then commands_at o log asked else []) (eq-eqb seat seat refl)

  -- After what was seen there are notes, of which the seat's own list these commands, in so many rounds that have some, and each keeps to a
  -- rule.
  pub record Tally (Good : Written → Type 0) (seen after : List Written) (commands : List Command) (rounds : ℕ) : Type 0 where
    pub more : List Written
    pub is : after ≡ seen ++ more
    pub lists : AreListed o seat switches seen more commands rounds
    pub good : All (λ (w : Written). w.note.seat ≡ seat → Good w) more

  -- said otherwise
  pub tally-as : (Good : Written → Type 0) (a b : List Written) (cs ds : List Command) (n m : ℕ) → cs ≡ ds → n ≡ m → Tally Good a b cs n → Tally Good a b ds m
  tally-as Good a b cs ds n m same_commands same tally = record {
    more = tally.more;
    is = tally.is;
    lists = subst (λ (k : ℕ). AreListed o seat switches a tally.more ds k) same (subst (λ (es : List Command). AreListed o seat switches a tally.more es n) same_commands tally.lists);
    good = tally.good;
  }

  module _ (Good : Written → Type 0) where
    pub tally-none : (seen : List Written) → Tally Good seen seen [] 0
    tally-none seen = record { more = []; is = sym (append-nil seen); lists = (refl, refl); good = All-nil (λ (w : Written). w.note.seat ≡ seat → Good w) }

    pub tally-chain : (a b c : List Written) (cs ds : List Command) (n m : ℕ) → Tally Good a b cs n → Tally Good b c ds m → Tally Good a c (cs ++ ds) (n + m)
    tally-chain a b c cs ds n m first second = record {
      more = first.more ++ second.more;
      is = second.is ∙ ap (λ (ws : List Written). ws ++ second.more) first.is ∙ append_assoc a first.more second.more;
      lists = listed-append a first.more second.more cs ds n m first.lists (subst (λ (ws : List Written). AreListed o seat switches ws second.more ds m) first.is second.lists);
      good = All-append (λ (w : Written). w.note.seat ≡ seat → Good w) first.more second.more first.good second.good;
    }

    -- notes of others
    pub tally-others : (joined : List ℕ) (seen log : List Written) → Follows seat_of (seat ∷ joined) seen log → Tally Good seen log [] 0
    tally-others joined seen log past =
        let none : All (λ (w : Written). seat ≢ w.note.seat) past.past = λ k d inside. past.none k d inside 0 seat (omega arith) in
        record {
          more = past.past;
          is = past.is;
          lists = others-list seen past.past none;
          good = All-weaker (λ (w : Written). seat ≢ w.note.seat) (λ (w : Written). w.note.seat ≡ seat → Good w) (λ w other own. absurd (other (sym own))) past.past none;
        }

    -- one note of the seat, which lists what it asked for
    tally-own : (asked : List ℕ) → AreSome asked switches → (log after : List Written) (said : What) (es : List Entry) → after ≡ log ++ next_note seat log said es ∷ [] → Good (next_note seat log said es)
        → Tally Good log after (lists_by asked said log) (some_round (lists_by asked said log))
    tally-own asked some log after said es noted good =
        let w = next_note seat log said es in
        let mine = lists_by asked said log in
        record {
          more = w ∷ [];
          is = noted;
          lists = (mine, [], 0, record { asked = asked; some = some; is = sym (own-lists asked log said es) }, sym (append-nil mine), omega arith, (refl, refl));
          good = All-cons (λ (v : Written). v.note.seat ≡ seat → Good v) w [] (λ own. good) (All-nil (λ (v : Written). v.note.seat ≡ seat → Good v));
        }

    -- notes of others, and then one of the seat
    pub tally-asked : (asked : List ℕ) → AreSome asked switches → (joined : List ℕ) (seen log after : List Written) (said : What) (es : List Entry) → Follows seat_of (seat ∷ joined) seen log → after ≡ log ++ next_note seat log said es ∷ [] → Good (next_note seat log said es)
        → Tally Good seen after (lists_by asked said log) (some_round (lists_by asked said log))
    tally-asked asked some joined seen log after said es past noted good =
        tally-as Good seen after _ _ (0 + some_round (lists_by asked said log)) _ refl (omega arith)
        (tally-chain seen log after [] (lists_by asked said log) 0 _ (tally-others joined seen log past) (tally-own asked some log after said es noted good))

    -- where it lists nothing
    pub tally-note : (joined : List ℕ) (seen log after : List Written) (said : What) (es : List Entry) → Follows seat_of (seat ∷ joined) seen log → after ≡ log ++ next_note seat log said es ∷ [] → Good (next_note seat log said es)
        → Tally Good seen after (lists_by [] said log) (some_round (lists_by [] said log))
    tally-note = tally-asked [] none-asked

  -- of a weaker rule
  pub tally-weaker : (Good Weak : Written → Type 0) (a b : List Written) (cs : List Command) (n : ℕ) → ((w : Written) → Good w → Weak w) → Tally Good a b cs n → Tally Weak a b cs n
  tally-weaker Good Weak a b cs n weaker tally = record {
    more = tally.more;
    is = tally.is;
    lists = tally.lists;
    good = All-weaker (λ (w : Written). w.note.seat ≡ seat → Good w) (λ (w : Written). w.note.seat ≡ seat → Weak w) (λ w good own. weaker w (good own)) tally.more tally.good;
  }
