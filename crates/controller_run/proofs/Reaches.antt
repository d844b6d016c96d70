-- What whole rounds in a row come to.
use Rattle.std.proofs.Common.{◌≡◌, ◌⊎◌, ℕ, ◌+◌, ◌≤◌, Bool, List, [], ◌∷◌, ◌++◌, map, All, Option, Some, None, refl, sym, ap, ◌∙◌, ⊎_elim, inl, inr, subst, arith, if◌then◌else◌}
use Rattle.std.specs.List.{Contains}
use Rattle.std.specs.Prelude.{IsTrue}
use Rattle.rollout_rules.specs.History.{History}
use Rattle.rollout_rules.specs.declared.op.Op.{Op}
use Rattle.rollout_rules.specs.declared.op.Entry.{Entry}
use Rattle.rollout_rules.specs.declared.op.Entry.TheVariants.{Done}
use Rattle.wan_edge.specs.Frames.{Answer, Command}
use Rattle.wan_edge.specs.Ports.{PortTrace}
use Rattle.rollout_book.specs.Aliens.{op_of, told_by}
use Rattle.port_session.specs.Sessions.{SessionView}
use Rattle.shared_book.specs.declared.note.What.{What}
use Rattle.shared_book.specs.declared.note.What.TheVariants as what
use Rattle.shared_book.specs.declared.note.Written.{Written}
use Rattle.shared_book.specs.Histories.{Opening, history_of}
use Rattle.shared_book.specs.Knows.{next_note}
use Rattle.shared_book.specs.Notes.{cause_of}
use Rattle.shared_book.specs.Replies.{batch_at}
use Rattle.switch_ports.specs.Due.{any_late, due_of}
use Rattle.switch_ports.specs.Stories.{StoryEach}
use Rattle.controller_run.specs.Exchanging.{Exchanges}
use Rattle.controller_run.specs.Promises.{AreAnswered, AreSome, switches_of}
use Rattle.controller_run.specs.Serving.{AreWhole, Moment, Whole, caller_of}
use Rattle.controller_run.specs.Working.{IsIdle, ListsNone, ListsSome, Settles, Standing, Works, is_some_command}
use Rattle.controller_run.specs.declared.round_end.RoundEnd.{RoundEnd}
use Rattle.controller_run.specs.declared.round_end.RoundEnd.TheVariants as outcome
use Rattle.controller_run.proofs.Answered.{batch-covered, told-answer}
use Rattle.controller_run.proofs.Chains.{stories_begin, stories_go_on}
use Rattle.controller_run.proofs.Elements.{none-inside}
use Rattle.controller_run.proofs.LeftAlone.{due-among}
use Rattle.controller_run.proofs.Noted.{listed, looked-on, then-none}
use Rattle.controller_run.proofs.Ports.{GoOn, exchange-goes, home-now, home-on, same-switches}
use Rattle.controller_run.proofs.Tallies.{Tally, tally-chain, tally-none, tally-note, tally-weaker}

module _ {P : Type 0} (tell : P → PortTrace) (o : Opening) (seat : ℕ) (joined : List ℕ) (migration : ℕ) (homes : List (Option ℕ)) (before : Standing P) where
  -- each operation that comes as done with a note is answered
  abbrev pub Answers : List (SessionView P) → Written → Type 0
  Answers ports w = AreAnswered tell migration homes before.ports w.entries ports

  -- and the note stops nothing
  abbrev pub Good : List (SessionView P) → Written → Type 0
  Good ports w = Answers ports w × (cause_of w.note.what ≡ None)

  pub answers-on : (bs ns : List (SessionView P)) → GoOn tell bs ns → (w : Written) → Answers bs w → Answers ns w
  answers-on bs ns goes w answered = λ op at. let was = answered op at in record { answer = was.answer; item = was.item; covers = was.covers; told = home-on tell migration homes was.answer before.ports bs ns was.told goes }

  pub good-on : (bs ns : List (SessionView P)) → GoOn tell bs ns → (w : Written) → Good bs w → Good ns w
  good-on bs ns goes w good = (answers-on bs ns goes w good.0, good.1)

  pub plain-answers : (ports : List (SessionView P)) (log : List Written) (said : What) → Answers ports (next_note seat log said [])
  plain-answers ports log said = λ op at. absurd (none-inside (Done op) at)

  pub plain-good : (ports : List (SessionView P)) (log : List Written) (said : What) → cause_of said ≡ None → Good ports (next_note seat log said [])
  plain-good ports log said quiet = (plain-answers ports log said, quiet)

  -- the batch of a round is answered by what was told in it
  pub batch-answers : (earlier commands : List Command) (told : List Answer) (h : History) (bs ns : List (SessionView P)) → StoryEach tell migration homes earlier before.ports bs → Exchanges tell migration homes bs commands told ns
      → AreAnswered tell migration homes before.ports (batch_at o h (told_by told)) ns
  batch-answers earlier commands told h bs ns story went = λ op at.
      let covered = batch-covered o.rollout.problem o.rollout.plan o.policy h (told_by told) op at in
      let found = told-answer told covered.answer covered.among in
      let held : found.0.held ≡ covered.answer.number = ap (λ (x : Op). x.number) found.2 in
      let below = covered.number in
      record {
        answer = found.0;
        item = ap (λ (x : Op). x.item) found.2 ∙ covered.item;
        covers = omega (arith, held, below);
        told = home-now tell migration homes earlier commands told found.0 before.ports bs ns story went found.1;
      }

  module _ (rounds : ℕ) where
    -- From where the worker began it has come to a moment by whole rounds alone.
    pub record Reaches (m : Moment P) : Type 0 where
      pub commands : List Command
      pub count : ℕ
      pub tally : Tally o seat (switches_of before.ports) (Good m.stands.ports) before.seen m.stands.seen commands count
      pub story : StoryEach tell migration homes commands before.ports m.stands.ports
      pub left : rounds ≡ m.left + count

    pub reaches-first : All (λ t. IsTrue t.stream.live) before.ports → Reaches (record { stands = before; left = rounds })
    reaches-first live = record {
      commands = [];
      count = 0;
      tally = tally-none o seat (switches_of before.ports) (Good before.ports) before.seen;
      story = stories_begin tell migration homes before.ports live;
      left = omega arith;
    }

    -- the switches that are due are some of those at first
    pub due-at-first : (m : Moment P) → Reaches m → AreSome (due_of m.stands.ports) (switches_of before.ports)
    due-at-first m reaches =
        subst (λ (ws : List ℕ). AreSome (due_of m.stands.ports) ws) (same-switches tell migration homes reaches.commands before.ports m.stands.ports reaches.story) (due-among m.stands.ports)

    -- what was found in a round, whatever rule its notes keep to
    pub found-tally : (G : Written → Type 0) → ((log : List Written) (said : What) → cause_of said ≡ None → G (next_note seat log said [])) → (m : Moment P) → Reaches m → (commands : List Command) (log : List Written)
        → ListsSome (caller_of o (seat ∷ joined) seat m.stands.ports) m.left m.stands.seen commands log ⊎ ListsNone (caller_of o (seat ∷ joined) seat m.stands.ports) m.left m.stands.seen commands log
        → Tally o seat (switches_of before.ports) G m.stands.seen log commands (if is_some_command commands then 1 else 0)
    found-tally G plain m reaches commands log (inl found) =
        listed o seat joined (switches_of before.ports) G plain (due_of m.stands.ports) (any_late m.stands.ports) (due-at-first m reaches) found.op m.stands.seen log commands found.lists
    found-tally G plain m reaches commands log (inr found) =
        subst (λ (cs : List Command). Tally o seat (switches_of before.ports) G m.stands.seen log cs (if is_some_command cs then 1 else 0)) (sym found.none)
        (looked-on o seat joined (switches_of before.ports) G plain (due_of m.stands.ports) (any_late m.stands.ports) m.left m.stands.seen log found.looks_on)

    -- up to where a round has its commands listed, said at ports that went on since
    pub so-far : (m : Moment P) (given : RoundEnd) (now : Standing P) (works : Works tell (caller_of o (seat ∷ joined) seat m.stands.ports) migration homes m.left m.stands given now) (reaches : Reaches m) → GoOn tell m.stands.ports now.ports
        → Tally o seat (switches_of before.ports) (Good now.ports) before.seen works.log (reaches.commands ++ works.commands) (reaches.count + (if is_some_command works.commands then 1 else 0))
    so-far m given now works reaches goes =
        let ws = switches_of before.ports in
        let first = tally-weaker o seat ws (Good m.stands.ports) (Good now.ports) before.seen m.stands.seen reaches.commands reaches.count (good-on m.stands.ports now.ports goes) reaches.tally in
        let lists = found-tally (Good now.ports) (plain-good now.ports) m reaches works.commands works.log works.found in
        tally-chain o seat ws (Good now.ports) before.seen m.stands.seen works.log reaches.commands works.commands reaches.count (if is_some_command works.commands then 1 else 0) first lists

    pub exchanged : (m : Moment P) (given : RoundEnd) (now : Standing P) (works : Works tell (caller_of o (seat ∷ joined) seat m.stands.ports) migration homes m.left m.stands given now)
        → Settles tell o (seat ∷ joined) seat migration homes works.commands (record { seen = works.log; ports = m.stands.ports }) given now
        → (reaches : Reaches m) → Tally o seat (switches_of before.ports) (Good now.ports) before.seen works.log (reaches.commands ++ works.commands) (reaches.count + (if is_some_command works.commands then 1 else 0))
    exchanged m given now works settles reaches = so-far m given now works reaches (exchange-goes tell migration homes works.commands settles.told m.stands.ports now.ports settles.exchanges)

    pub story-on : (m : Moment P) (given : RoundEnd) (now : Standing P) (works : Works tell (caller_of o (seat ∷ joined) seat m.stands.ports) migration homes m.left m.stands given now)
        → Settles tell o (seat ∷ joined) seat migration homes works.commands (record { seen = works.log; ports = m.stands.ports }) given now
        → (reaches : Reaches m) → StoryEach tell migration homes (reaches.commands ++ works.commands) before.ports now.ports
    story-on m given now works settles reaches =
        let went = settles.exchanges in
        stories_go_on tell migration homes reaches.commands works.commands settles.told before.ports m.stands.ports went.offered now.ports reaches.story went.offers went.hears

    stepped : (m n : Moment P) (offered : Bool) → Reaches m → m.left ≡ n.left + (if offered then 1 else 0) → (works : Works tell (caller_of o (seat ∷ joined) seat m.stands.ports) migration homes m.left m.stands (outcome.Whole offered) n.stands)
        → Settles tell o (seat ∷ joined) seat migration homes works.commands (record { seen = works.log; ports = m.stands.ports }) (outcome.Whole offered) n.stands → Reaches n
    stepped m n offered reaches less works settles =
        let ws = switches_of before.ports in
        let ns = n.stands.ports in
        let turn = settles.settled.1.0 in
        let call = settles.settled.1.1 in
        let turned = tally-note o seat ws (Good ns) joined works.log call.log n.stands.seen (what.Turned turn.dones turn.begins) (batch_at o (history_of o call.log) (told_by settles.told)) call.past call.noted
        (batch-answers reaches.commands works.commands settles.told (history_of o call.log) m.stands.ports ns reaches.story settles.exchanges, refl) in
        let count : ℕ = if is_some_command works.commands then 1 else 0 in
        let same : (if offered then 1 else 0) ≡ count = ap {B = ℕ} (λ (b : Bool). if b then 1 else 0) settles.settled.0 in
        let had = reaches.left in
        record {
          commands = reaches.commands ++ works.commands;
          count = reaches.count + count;
          tally = then-none o seat joined ws (Good ns) (plain-good ns) before.seen works.log n.stands.seen (reaches.commands ++ works.commands) (reaches.count + count) (exchanged m (outcome.Whole offered) n.stands works settles reaches) turned;
          story = story-on m (outcome.Whole offered) n.stands works settles reaches;
          left = omega (arith, had, less, same);
        }

    -- and where switches are late and none answered
    idled : (m n : Moment P) (offered : Bool) → Reaches m → m.left ≡ n.left + (if offered then 1 else 0) → (works : Works tell (caller_of o (seat ∷ joined) seat m.stands.ports) migration homes m.left m.stands (outcome.Whole offered) n.stands)
        → IsIdle tell migration homes works.commands (record { seen = works.log; ports = m.stands.ports }) offered n.stands → Reaches n
    idled m n offered reaches less works idle =
        let ws = switches_of before.ports in
        let ns = n.stands.ports in
        let went = idle.exchanges in
        let goes = exchange-goes tell migration homes works.commands [] m.stands.ports ns went in
        let count : ℕ = if is_some_command works.commands then 1 else 0 in
        let none : count ≡ 0 = ap {B = ℕ} (λ (cs : List Command). if is_some_command cs then 1 else 0) idle.none_listed in
        let same : (if offered then 1 else 0) ≡ 0 = ap {B = ℕ} (λ (b : Bool). if b then 1 else 0) idle.none_offered in
        let had = reaches.left in
        record {
          commands = reaches.commands ++ works.commands;
          count = reaches.count + count;
          tally = subst (λ (seen : List Written). Tally o seat ws (Good ns) before.seen seen (reaches.commands ++ works.commands) (reaches.count + count)) (sym idle.same) (so-far m (outcome.Whole offered) n.stands works reaches goes);
          story = stories_go_on tell migration homes reaches.commands works.commands [] before.ports m.stands.ports went.offered ns reaches.story went.offers went.hears;
          left = omega (arith, had, less, same, none);
        }

    of-works : (m n : Moment P) (offered : Bool) → Reaches m → m.left ≡ n.left + (if offered then 1 else 0) → Works tell (caller_of o (seat ∷ joined) seat m.stands.ports) migration homes m.left m.stands (outcome.Whole offered) n.stands → Reaches n
    of-works m n offered reaches less works = ⊎_elim (λ settles. stepped m n offered reaches less works settles) (λ idle. idled m n offered reaches less works idle) works.exchanged

    reaches-next : (m n : Moment P) → Reaches m → Whole tell o (seat ∷ joined) seat migration homes rounds m n → Reaches n
    reaches-next m n reaches whole = ⊎_elim (λ rests. absurd rests.1) (λ works. of-works m n whole.offered reaches whole.less works) whole.worked

    pub reaches-all : (m : Moment P) (moments : List (Moment P)) (at : Moment P) → Reaches m → AreWhole tell o (seat ∷ joined) seat migration homes rounds m moments at → Reaches at
    reaches-all m [] at reaches are = subst (λ (n : Moment P). Reaches n) (sym are) reaches
    reaches-all m (n ∷ later) at reaches are = reaches-all n later at (reaches-next m n reaches are.0) are.1
