-- The rounds of a worker that offered commands, each heard out, and the answers that were told in them.
use Rattle.std.proofs.Common.{◌≡◌, ◌⊎◌, ℕ, ◌+◌, Bool, List, [], ◌∷◌, ◌++◌, Option, if◌then◌else◌, refl, sym, ap, ◌∙◌, subst, ⊎_elim, inl, inr, append-nil, arith}
use Rattle.std.proofs.lemmas.List.Elements.{Contains-append_cases}
use Rattle.std.specs.List.{Contains}
use Rattle.wan_edge.specs.Frames.{Answer, Command}
use Rattle.wan_edge.specs.Ports.{PortTrace}
use Rattle.rollout_book.specs.Aliens.{told_by}
use Rattle.port_session.specs.Sessions.{SessionView}
use Rattle.shared_book.specs.declared.note.What.TheVariants as what
use Rattle.shared_book.specs.declared.note.Written.{Written}
use Rattle.shared_book.specs.Histories.{Opening, history_of}
use Rattle.shared_book.specs.Knows.{next_note}
use Rattle.shared_book.specs.Replies.{batch_at}
use Rattle.shared_book.specs.Homes.{homes_of}
use Rattle.switch_ports.specs.Due.{LeavesAlone}
use Rattle.controller_run.specs.Exchanging.{Exchanges}
use Rattle.controller_run.specs.Reasons.{AreHeardOut, offered_in}
use Rattle.controller_run.specs.Serving.{AreWhole, Moment, Whole, caller_of}
use Rattle.controller_run.specs.Working.{IsIdle, ListsNone, ListsSome, Settles, Works}
use Rattle.controller_run.specs.declared.round_end.RoundEnd.TheVariants as outcome
use Rattle.controller_run.proofs.Elements.{none-inside}
use Rattle.controller_run.proofs.Enough.{HasOwed, both-owed, idle-owed, listed-owed, none-owed}
use Rattle.controller_run.proofs.Passed.{IsPassed, both-behind, note-behind, passed-behind, round-passed}

module _ {P : Type 0} (tell : P → PortTrace) (o : Opening) (seats : List ℕ) (seat migration : ℕ) (homes : List (Option ℕ)) (rounds : ℕ) where
  -- A whole round is an exchange, and one less is left where it offered commands. What was seen goes on, and no answer that was told is above what is settled.
  record IsExchange (before at : Moment P) : Type 0 where
    commands : List Command
    told : List Answer
    exchanges : Exchanges tell migration homes before.stands.ports commands told at.stands.ports
    less : before.left ≡ at.left + offered_in commands
    goes_on : (more : List Written) × (at.stands.seen ≡ before.stands.seen ++ more)
    passed : (a : Answer) → Contains told a → IsPassed o at.stands.seen a
    come : homes ≡ homes_of o.rollout.problem → HasOwed tell (offered_in commands) before.stands.ports at.stands.ports

  abbrev Found : Moment P → List Command → List Written → Type 0
  Found m commands log =
      ListsSome (caller_of o seats seat m.stands.ports) m.left m.stands.seen commands log ⊎ ListsNone (caller_of o seats seat m.stands.ports) m.left m.stands.seen commands log

  -- what was seen when something was found
  found-behind : (m : Moment P) (commands : List Command) (log : List Written) → Found m commands log → (more : List Written) × (log ≡ m.stands.seen ++ more)
  found-behind m commands log (inl found) =
      let awake = found.lists.awake in
      let look = found.lists.looks in
      let listing = found.lists.listed in
      let looked = note-behind seats m.stands.seen look.log awake (next_note seat look.log what.Work []) look.past look.noted in
      let listed = note-behind seats awake listing.log log (next_note seat listing.log what.Listed []) listing.past listing.noted in
      both-behind m.stands.seen awake log looked listed
  found-behind m commands log (inr found) =
      ⊎_elim (λ none. ([], none.1 ∙ sym (append-nil m.stands.seen))) (λ call. (call.past.past, call.noted ∙ call.past.is)) found.looks_on

  -- and what came of it
  found-owed : (m : Moment P) (commands : List Command) (log : List Written) (told : List Answer) (ns : List (SessionView P)) → Found m commands log → LeavesAlone homes commands m.stands.ports → Exchanges tell migration homes m.stands.ports commands told ns
      → homes ≡ homes_of o.rollout.problem → HasOwed tell (offered_in commands) m.stands.ports ns
  found-owed m commands log told ns (inl found) alone went same =
      listed-owed tell migration homes o same commands told found.lists.listed.log m.stands.ports ns alone went found.lists.listed.listed
  found-owed m commands log told ns (inr found) alone went same = idle-owed tell migration homes commands told m.stands.ports ns found.none alone went

  of-settles : (before at : Moment P) (offered : Bool) → before.left ≡ at.left + (if offered then 1 else 0) → (works : Works tell (caller_of o seats seat before.stands.ports) migration homes before.left before.stands (outcome.Whole offered) at.stands)
      → Settles tell o seats seat migration homes works.commands (record { seen = works.log; ports = before.stands.ports }) (outcome.Whole offered) at.stands → IsExchange before at
  of-settles before at offered less works settles =
      let turn = settles.settled.1.0 in
      let call = settles.settled.1.1 in
      let turned = note-behind seats works.log call.log at.stands.seen (next_note seat call.log (what.Turned turn.dones turn.begins) (batch_at o (history_of o call.log) (told_by settles.told))) call.past call.noted in
      record {
        commands = works.commands;
        told = settles.told;
        exchanges = settles.exchanges;
        less = less ∙ ap {B = ℕ} (λ (b : Bool). at.left + (if b then 1 else 0)) settles.settled.0;
        goes_on = both-behind before.stands.seen works.log at.stands.seen (found-behind before works.commands works.log works.found) turned;
        passed = round-passed o seats seat works.log at.stands.seen settles.told turn call;
        come = found-owed before works.commands works.log settles.told at.stands.ports works.found works.alone settles.exchanges;
      }

  -- nothing was offered, and none answered
  of-idle : (before at : Moment P) (offered : Bool) → before.left ≡ at.left + (if offered then 1 else 0) → (works : Works tell (caller_of o seats seat before.stands.ports) migration homes before.left before.stands (outcome.Whole offered) at.stands)
      → IsIdle tell migration homes works.commands (record { seen = works.log; ports = before.stands.ports }) offered at.stands → IsExchange before at
  of-idle before at offered less works idle =
      let found = found-behind before works.commands works.log works.found in
      let none : offered_in works.commands ≡ 0 = ap offered_in idle.none_listed in
      let same : (if offered then 1 else 0) ≡ 0 = ap {B = ℕ} (λ (b : Bool). if b then 1 else 0) idle.none_offered in
      record {
        commands = works.commands;
        told = [];
        exchanges = idle.exchanges;
        less = omega (arith, less, same, none);
        goes_on = (found.0, idle.same ∙ found.1);
        passed = λ a inside. absurd (none-inside a inside);
        come = found-owed before works.commands works.log [] at.stands.ports works.found works.alone idle.exchanges;
      }

  of-works : (before at : Moment P) (offered : Bool) → before.left ≡ at.left + (if offered then 1 else 0) → Works tell (caller_of o seats seat before.stands.ports) migration homes before.left before.stands (outcome.Whole offered) at.stands → IsExchange before at
  of-works before at offered less works = ⊎_elim (λ settles. of-settles before at offered less works settles) (λ idle. of-idle before at offered less works idle) works.exchanged

  whole-exchange : (before at : Moment P) → Whole tell o seats seat migration homes rounds before at → IsExchange before at
  whole-exchange before at whole = ⊎_elim (λ rests. absurd rests.1) (λ works. of-works before at whole.offered whole.less works) whole.worked

  -- and so it is with all of them
  pub record IsRow (before at : Moment P) : Type 0 where
    pub rows : List (List (SessionView P))
    pub used : ℕ
    pub told : List Answer
    pub heard_out : AreHeardOut tell migration homes rows used told before.stands.ports at.stands.ports
    pub less : before.left ≡ at.left + used
    pub goes_on : (more : List Written) × (at.stands.seen ≡ before.stands.seen ++ more)
    pub passed : (a : Answer) → Contains told a → IsPassed o at.stands.seen a
    pub come : homes ≡ homes_of o.rollout.problem → HasOwed tell used before.stands.ports at.stands.ports

  no-row : (before at : Moment P) → at ≡ before → IsRow before at
  no-row before at same = record {
    rows = [];
    used = 0;
    told = [];
    heard_out = (refl, refl, ap (λ (m : Moment P). m.stands.ports) same);
    less = (let left = ap (λ (m : Moment P). m.left) same in omega (arith, left));
    goes_on = ([], ap (λ (m : Moment P). m.stands.seen) same ∙ sym (append-nil before.stands.seen));
    passed = λ a inside. absurd (none-inside a inside);
    come = λ _. subst (λ (ps : List (SessionView P)). HasOwed tell 0 before.stands.ports ps) (sym (ap (λ (m : Moment P). m.stands.ports) same)) (none-owed tell before.stands.ports);
  }

  one-more : (before m at : Moment P) → IsExchange before m → IsRow m at → IsRow before at
  one-more before m at one rest =
      let first = one.less in
      let behind = rest.less in
      let swapped : offered_in one.commands + rest.used ≡ rest.used + offered_in one.commands = omega arith in
      record {
        rows = m.stands.ports ∷ rest.rows;
        used = rest.used + offered_in one.commands;
        told = one.told ++ rest.told;
        heard_out = (one.commands, one.told, rest.used, rest.told, one.exchanges, refl, refl, rest.heard_out);
        less = omega (arith, first, behind);
        goes_on = both-behind before.stands.seen m.stands.seen at.stands.seen one.goes_on rest.goes_on;
        passed = λ a inside.
            ⊎_elim (λ (mine : Contains one.told a). passed-behind o m.stands.seen at.stands.seen rest.goes_on.0 rest.goes_on.1 a (one.passed a mine)) (λ (later : Contains rest.told a). rest.passed a later)
            (Contains-append_cases one.told rest.told a inside);
        come = λ same.
            subst (λ (n : ℕ). HasOwed tell n before.stands.ports at.stands.ports) swapped
            (both-owed tell (offered_in one.commands) rest.used before.stands.ports m.stands.ports at.stands.ports (one.come same) (rest.come same));
      }

  pub row-of : (moments : List (Moment P)) (before at : Moment P) → AreWhole tell o seats seat migration homes rounds before moments at → IsRow before at
  row-of [] before at same = no-row before at same
  row-of (m ∷ later) before at whole = one-more before m at (whole-exchange before m whole.0) (row-of later m at whole.1)
