-- A round at a prompt port that has answered all before: each of its own commands is answered by its own number.
use Rattle.std.proofs.Common.{◌≡◌, ◌≢◌, ℕ, suc, ◌+◌, ◌*◌, ◌<◌, ◌≤◌, true, List, [], ◌∷◌, ◌++◌, length, map, get_or, slice_index_or, Option, Some, IfSome, inl, inr, refl, sym, ap, ◌∙◌, subst, ⊎_elim, arith, append_assoc, append-nil, length-append}
use Rattle.std.proofs.lemmas.Bool.{OnTrue_at, cases_lt, false≢true}
use Rattle.std.proofs.lemmas.List.Elements.{All-filter, All-map, All-weaker, filter_passes}
use Rattle.std.specs.List.{All, Contains, flat_map}
use Rattle.lists.proofs.Options.{of_some}
use Rattle.lists.proofs.Elements.{All-left}
use Rattle.rollout_rules.specs.Wan.{Rollout}
use Rattle.rollout_rules.specs.Items.{item_count}
use Rattle.rollout_rules.specs.History.{History, begun, settled}
use Rattle.rollout_rules.specs.Agent.{pair_of}
use Rattle.rollout_rules.specs.declared.held.Held.{Held}
use Rattle.wan_edge.specs.Frames.{Answer, AnswerFrame, Command, IsAnswer, IsCommand, HasOtherKind, answer_bytes, answer_kind, command_bytes}
use Rattle.wan_edge.specs.Ports.{AllAnswered, NothingToCome}
use Rattle.wan_edge.specs.Switches.{Holdings, after_commands, answers_to}
use Rattle.wan_edge.proofs.Commands.{nothing_begins_no_command, after_commands-append}
use Rattle.port_session.specs.Reading.{answers_of}
use Rattle.port_session.specs.declared.fault.SessionFault.{SessionFault}
use Rattle.port_session.proofs.Awaited.{awaited_none, awaited_some}
use Rattle.port_session.proofs.Chaining.{answers_of-append}
use Rattle.port_session.proofs.Hearing.{length-answers, cut_short}
use Rattle.switch_ports.specs.Hearing.{HearsOut, IsOwn, Listens, Reads}
use Rattle.switch_ports.specs.Outboxes.{home_at, is_switch, own}
use Rattle.switch_ports.specs.Offering.{OffersAll}
use Rattle.switch_ports.specs.Views.{SessionTrace}
use Rattle.switch_laws.proofs.Offered.{framed}
use Rattle.controller_run.proofs.Chains.{is-home}
use Rattle.completion_laws.specs.Answering.{HasAnswered, IsOnTheWay, IsUpToDate, answer_for}
use Rattle.completion_laws.proofs.Numbered.{IsNext, Takes, all-held, answers-fit, answers-told, on-all, own-answers, own_answer}
use Rattle.completion_laws.proofs.Prompt.{all-came, all-fit, as-many, front-came, front-read, heard-all, now-heard, now-held, now-offered, now-prompt, now-start}

long-framed : (migration : ℕ) (commands : List Command) → length (framed migration commands) ≡ length commands
long-framed migration [] = refl
long-framed migration (c ∷ commands) = ap suc (long-framed migration commands)

no-answers : (later : List AnswerFrame) → 13 * length later < 13 → later ≡ []
no-answers [] few = refl
no-answers (a ∷ later) few = absurd (omega (arith, few))

-- a row of answers begins with no other byte
pub other-first : (answers : List AnswerFrame) (byte : ℕ) (behind : List ℕ) → byte ≢ answer_kind → byte ∷ behind ≡ flat_map answer_bytes answers → ⊥
unfolding answer_bytes
other-first [] byte behind other e = absurd (omega (arith, ap length e))
other-first (a ∷ answers) byte behind other e = other (ap (λ (bs : List ℕ). get_or bs 0 0) e)

module _ (r : Rollout) (migration : ℕ) (homes : List (Option ℕ)) (h : History) where
  -- the command of an operation in flight, which has a frame
  pub record IsFlying (c : Command) : Type 0 where
    pub within : c.item < item_count r.problem
    pub number : c.number ≡ settled h c.item + 1
    pub begun_is : c.number ≡ begun h c.item
    pub fits : IsCommand (migration, c)

  -- what a round makes of a port: it is up to date again, has told just the answers to its own commands, and holds their operations
  pub record TurnsPort (commands : List Command) (before : SessionTrace) (told : List Answer) (now : SessionTrace) : Type 0 where
    pub switch : now.switch ≡ before.switch
    pub up : IsUpToDate r migration homes h now
    pub told_is : told ≡ map answer_for (own homes before.switch commands)
    pub holds : (c : Command) → Contains (own homes before.switch commands) c → (after_commands now.port.start up.commands c.item).held ≡ pair_of migration c.number

  module _ (commands : List Command) (flying : All IsFlying commands) (before : SessionTrace) (up : IsUpToDate r migration homes h before) where
    abbrev pub mine : List Command
    mine = own homes before.switch commands

    abbrev pub next : ℕ → ℕ
    next n = settled h n + 1

    abbrev pub holdings : Holdings
    holdings = after_commands before.port.start up.commands

    pub mine-fly : All IsFlying mine
    mine-fly = All-filter (λ c. is_switch before.switch (home_at homes c.item)) IsFlying commands flying

    pub mine-home : All (λ c. home_at homes c.item ≡ Some before.switch) mine
    mine-home =
        All-weaker (λ c. is_switch before.switch (home_at homes c.item) ≡ true) (λ c. home_at homes c.item ≡ Some before.switch) (λ c is. is-home before.switch (home_at homes c.item) is) mine
        (filter_passes (λ c. is_switch before.switch (home_at homes c.item)) commands)

    pub mine-fit : All (λ c. IsCommand (migration, c)) mine
    mine-fit = All-weaker IsFlying (λ c. IsCommand (migration, c)) (λ c is. is.fits) mine mine-fly

    pub mine-next : All (IsNext migration next) mine
    mine-next = All-weaker IsFlying (IsNext migration next) (λ c is. record { number = is.number; some = omega (arith, is.number) }) mine mine-fly

    takes : (c : Command) → IsFlying c → IsOnTheWay migration h c.item (holdings c.item).held → Takes migration next holdings c
    takes c is (inl way) = inl (way.0, omega (arith, way.1), omega (arith, way.2, is.number, is.begun_is))
    takes c is (inr earlier) = inr earlier

    pub mine-taken : All (Takes migration next holdings) mine
    mine-taken = λ k d inside. let is = mine-fly k d inside in let c = slice_index_or mine k d in takes c is (up.held c.item is.within (mine-home k d inside))

    pub own-told : answers_to holdings (framed migration mine) ≡ map (own_answer migration next) mine
    own-told = own-answers migration next mine holdings mine-next mine-taken

    pub own-fit : All IsAnswer (answers_to holdings (framed migration mine))
    own-fit = subst (All IsAnswer) (sym own-told) (answers-fit migration next mine mine-fit)

    pub own-answers_of : answers_of migration (answers_to holdings (framed migration mine)) ≡ map answer_for mine
    own-answers_of = ap (answers_of migration) own-told ∙ answers-told migration next mine

    module _ (mid now : SessionTrace) (told : List Answer) (out : OffersAll migration mine before mid) (hears : HearsOut migration homes mid told now) where
      abbrev bytes : List ℕ
      bytes = hears.reads.bytes

      abbrev read : List AnswerFrame
      read = hears.reads.reads.answers

      parts : bytes ≡ flat_map answer_bytes read ++ hears.reads.reads.rest
      parts = ap (λ (kept : List ℕ). kept ++ bytes) (sym (out.some.kept ∙ up.answered.none_kept)) ∙ hears.reads.reads.whole.parts

      offered-now : now.port.offered ≡ Some (flat_map command_bytes (up.commands ++ framed migration mine))
      offered-now = now-offered migration mine up.commands before mid now up.answered mine-fit out hears.listens.goes_on hears.listens.unsent bytes hears.reads.appended

      heard-now : now.port.heard ≡ Some (flat_map answer_bytes (answers_to before.port.start up.commands) ++ bytes)
      heard-now = now-heard migration mine up.commands before mid now up.answered mine-fit out hears.listens.goes_on hears.listens.unsent bytes hears.reads.appended

      start-now : now.port.start ≡ before.port.start
      start-now = now-start migration mine up.commands before mid now up.answered mine-fit out hears.listens.goes_on hears.listens.unsent bytes hears.reads.appended

      fit-now : All IsCommand (up.commands ++ framed migration mine)
      fit-now = all-fit migration mine up.commands before mid now up.answered mine-fit out

      -- where the port had nothing more to give, all was heard
      all-given : NothingToCome mid.port.start now.port.offered now.port.heard → 13 * length (framed migration mine) ≤ length bytes
      all-given none =
          let earlier = flat_map answer_bytes (answers_to before.port.start up.commands) in
          let all = up.commands ++ framed migration mine in
          let answered : AllAnswered mid.port.start (flat_map command_bytes all) (earlier ++ bytes)
          = of_some (λ b. AllAnswered mid.port.start (flat_map command_bytes all) b) now.port.heard (earlier ++ bytes) heard-now
          (of_some (λ o. IfSome now.port.heard (λ b. AllAnswered mid.port.start o b)) now.port.offered (flat_map command_bytes all) offered-now none) in
          let is : earlier ++ bytes ≡ flat_map answer_bytes (answers_to mid.port.start all) = answered all [] (record { fit = fit-now; parts = sym (append-nil (flat_map command_bytes all)) }) nothing_begins_no_command in
          omega (arith, ap length is, length-append earlier bytes, length-answers (answers_to before.port.start up.commands), as-many before.port.start up.commands, length-answers (answers_to mid.port.start all), as-many mid.port.start all, length-append up.commands (framed migration mine))

      -- as many answers are awaited as commands went out
      awaits-all : mid.stream.awaited ≡ length mine
      awaits-all =
          ⊎_elim (λ (some : 0 < length mine). out.awaits ∙ awaited_some before.stream.awaited (length mine) some)
          (λ (few : length mine ≤ 0). let empty : length mine ≡ 0 = omega (arith, few) in out.awaits ∙ awaited_none before.stream.awaited (length mine) empty ∙ up.answered.none_owed ∙ sym empty)
          (cases_lt 0 (length mine))

      many : 13 * length (framed migration mine) ≤ length bytes
      many =
          ⊎_elim
          (λ (enough : mid.stream.awaited ≤ length read).
          omega (arith, enough, awaits-all, long-framed migration mine, ap length parts, length-append (flat_map answer_bytes read) hears.reads.reads.rest, length-answers read))
          (λ given. all-given given) (OnTrue_at (out.some.goes_on.prompt ∙ up.answered.prompt) hears.all_given)

      -- none is awaited any more
      none-owed : now.stream.awaited ≡ 0
      none-owed =
          ⊎_elim (λ all. all.none_left)
          (λ other. ⊎_elim (λ quiet. quiet.none_left) (λ late. absurd (false≢true (sym late.unprompt ∙ out.some.goes_on.prompt ∙ up.answered.prompt))) other) hears.over

      came : bytes ≡ flat_map answer_bytes (answers_to holdings (framed migration mine))
      came = all-came migration mine up.commands before mid now up.answered mine-fit out hears.listens.goes_on hears.listens.unsent bytes hears.reads.appended many

      -- the answers that were read are those to its own commands, and nothing is kept
      read-all : (read ≡ answers_to holdings (framed migration mine)) × (hears.reads.reads.rest ≡ [])
      read-all =
          let answers = answers_to holdings (framed migration mine) in
          let front = front-read read answers hears.reads.reads.rest hears.reads.reads.whole.fit own-fit (sym parts ∙ came) in
          let few : length hears.reads.reads.rest < 13 = subst (λ (bs : List ℕ). length bs < 13) (sym hears.reads.reads.ends) (cut_short now.stream.kept hears.cut) in
          let none : front.0 ≡ [] = no-answers front.0 (omega (arith, few, ap length front.2, length-answers front.0)) in
          (sym (front.1 ∙ ap (λ (us : List AnswerFrame). read ++ us) none ∙ append-nil read), front.2 ∙ ap (flat_map answer_bytes) none)

      switch-now : now.switch ≡ before.switch
      switch-now = hears.listens.switch ∙ out.some.switch

      way : (n : ℕ) → n < item_count r.problem → home_at homes n ≡ Some before.switch → IsOnTheWay migration h n (after_commands holdings (framed migration mine) n).held
      way n low home =
          on-all migration next (λ (k : ℕ) (held : Held). IsOnTheWay migration h k held) mine holdings mine-next mine-taken
          (λ k d inside. let is = mine-fly k d inside in inl (refl, omega arith, omega (arith, is.number, is.begun_is))) n (up.held n low home)

      held-is : after_commands now.port.start (up.commands ++ framed migration mine) ≡ after_commands holdings (framed migration mine)
      held-is = ap (λ (s : Holdings). after_commands s (up.commands ++ framed migration mine)) start-now ∙ after_commands-append before.port.start up.commands (framed migration mine)

      pub turns-port : TurnsPort commands before told now
      turns-port =
          let all = up.commands ++ framed migration mine in
          let answered : HasAnswered all now = record {
            prompt = now-prompt migration mine up.commands before mid now up.answered mine-fit out hears.listens.goes_on hears.listens.unsent bytes hears.reads.appended many;
            fit = fit-now;
            offered = offered-now;
            heard = heard-all migration mine up.commands before mid now up.answered mine-fit out hears.listens.goes_on hears.listens.unsent bytes hears.reads.appended many ∙ ap (λ (s : Holdings). Some (flat_map answer_bytes (answers_to s all))) (sym start-now);
            held = now-held migration mine up.commands before mid now up.answered mine-fit out hears.listens.goes_on hears.listens.unsent bytes hears.reads.appended many ∙ ap (λ (s : Holdings). Some (after_commands s all)) (sym start-now);
            none_kept = sym hears.reads.reads.ends ∙ read-all.1;
            none_owed = none-owed;
          } in
          record {
            switch = switch-now;
            up = record {
              commands = all;
              answered = answered;
              held = λ n low home. subst (λ (hs : Holdings). IsOnTheWay migration h n (hs n).held) (sym held-is) (way n low (home ∙ ap Some switch-now));
            };
            told_is = hears.reads.reads.told_more ∙ ap (answers_of migration) read-all.0 ∙ own-answers_of;
            holds = λ c at. ap (λ (hs : Holdings). (hs c.item).held) held-is ∙ all-held migration next mine holdings mine-next mine-taken c at;
          }

    -- ---- a round that ends while it hears
    module _ (mid now : SessionTrace) (out : OffersAll migration mine before mid) (listens : Listens mid now) (why : Option SessionFault) (told : List Answer) (reads : Reads migration why mid told now) where
      -- what was read is a front of the answers to its own commands
      read-front : (later : List AnswerFrame) × (behind : List ℕ) × (answers_to holdings (framed migration mine) ≡ reads.reads.answers ++ later) × (reads.reads.rest ++ behind ≡ flat_map answer_bytes later)
      read-front =
          let read = reads.reads.answers in
          let came = front-came migration mine up.commands before mid now up.answered mine-fit out listens.goes_on listens.unsent reads.bytes reads.appended in
          let parts : reads.bytes ≡ flat_map answer_bytes read ++ reads.reads.rest = ap (λ (kept : List ℕ). kept ++ reads.bytes) (sym (out.some.kept ∙ up.answered.none_kept)) ∙ reads.reads.whole.parts in
          let whole : flat_map answer_bytes read ++ (reads.reads.rest ++ came.0) ≡ flat_map answer_bytes (answers_to holdings (framed migration mine))
          = sym (append_assoc (flat_map answer_bytes read) reads.reads.rest came.0) ∙ ap (λ (bs : List ℕ). bs ++ came.0) (sym parts) ∙ came.1 in
          let front = front-read read (answers_to holdings (framed migration mine)) (reads.reads.rest ++ came.0) reads.reads.whole.fit own-fit whole in
          (front.0, came.0, front.1, front.2)

      -- each answer told is of an item at home there
      pub reads-own : All (IsOwn homes before.switch) told
      reads-own =
          let all : All (IsOwn homes before.switch) (map answer_for mine)
          = All-map (IsOwn homes before.switch) answer_for mine (filter_passes (λ c. is_switch before.switch (home_at homes c.item)) commands) in
          let parts : map answer_for mine ≡ told ++ answers_of migration read-front.0
          = sym own-answers_of ∙ ap (answers_of migration) read-front.2 ∙ answers_of-append migration reads.reads.answers read-front.0 ∙ ap (λ (us : List Answer). us ++ answers_of migration read-front.0) (sym reads.reads.told_more) in
          All-left (IsOwn homes before.switch) told (answers_of migration read-front.0) (subst (All (IsOwn homes before.switch)) parts all)

      -- and after the answers read no other byte stands than one that begins an answer
      pub no-other-kind : (byte : ℕ) → HasOtherKind answer_kind reads.reads.rest byte → ⊥
      no-other-kind byte has = other-first read-front.0 byte (has.behind ++ read-front.1) has.other (ap (λ (bs : List ℕ). bs ++ read-front.1) (sym has.parts) ∙ read-front.3)
