-- Notes that end no operation of a worker's switches, and what they leave as it was.
use Rattle.std.proofs.Common.{◌≡◌, ℕ, ◌+◌, ◌<◌, ◌≤◌, ◌^◌, Bool, true, ◌&&◌, ◌==◌, nat_le, List, [], ◌∷◌, ◌++◌, slice_index_or, Option, Some, None, inl, inr, refl, sym, ap, ◌∙◌, subst, arith, append_assoc, eqb-true, eq-eqb, lt-ltb, if◌then◌else◌}
use Rattle.std.proofs.lemmas.Bool.{and_from, le-leb}
use Rattle.std.proofs.lemmas.List.Elements.{All-append, All-contains, All-cons, All-filter, All-map, All-nil, All-weaker, Contains-append_left, Contains-append_right, Contains-get_or, filter_passes}
use Rattle.std.specs.List.{All, Contains, filter, list_any}
use Rattle.rollout_rules.specs.Sums.{list_below}
use Rattle.rollout_rules.specs.Wan.{Problem, Rollout}
use Rattle.rollout_rules.specs.Network.{IsNetwork}
use Rattle.rollout_rules.specs.Items.{home_of, item_at, item_count}
use Rattle.rollout_rules.specs.Valid.{is_valid_plan}
use Rattle.rollout_rules.specs.History.{History, begun, flies, settled, with_entries}
use Rattle.rollout_rules.specs.Legal.{is_legal, unsettled}
use Rattle.rollout_rules.specs.Release.{dones, is_covered, next_op, release}
use Rattle.rollout_rules.specs.World.{in_flight}
use Rattle.rollout_rules.specs.Agent.{pair_of}
use Rattle.rollout_rules.specs.declared.held.Held.{Held}
use Rattle.rollout_rules.specs.declared.op.Op.{Op}
use Rattle.rollout_rules.specs.declared.op.Entry.{Entry}
use Rattle.rollout_rules.specs.declared.op.Entry.TheVariants.{Done}
use Rattle.rollout_laws.proofs.Histories.{begun-with, is_counted, settled-with}
use Rattle.rollout_laws.proofs.Rounds.{batch_follows, numbers_below}
use Rattle.turn_lock.specs.Histories.{Follows}
use Rattle.wan_edge.specs.Frames.{Answer, Command}
use Rattle.wan_edge.specs.Switches.{after_commands}
use Rattle.rollout_book.specs.Aliens.{op_of, told_by}
use Rattle.rollout_book.specs.Commands.{asked, command_of, is_asked}
use Rattle.shared_book.specs.declared.note.What.{What}
use Rattle.shared_book.specs.declared.note.Written.{Written}
use Rattle.shared_book.specs.Histories.{Opening, history_of}
use Rattle.shared_book.specs.Knows.{next_note}
use Rattle.shared_book.specs.Replies.{batch_at}
use Rattle.shared_book.specs.Calls.{seat_of}
use Rattle.shared_book.specs.Homes.{homes_of}
use Rattle.shared_book.proofs.HomeRows.{home-is}
use Rattle.switch_ports.specs.Outboxes.{home_at}
use Rattle.switch_ports.specs.Views.{SessionTrace}
use Rattle.switch_laws.proofs.Begun.{settled_told}
use Rattle.switch_laws.proofs.Fitting.{has_frame}
use Rattle.switch_laws.proofs.Listed.{listed_are_begun}
use Rattle.controller_run.proofs.Answered.{batch-covered, told-answer}
use Rattle.controller_run.proofs.Behind.{begun-behind, settled-behind, some-done}
use Rattle.controller_run.proofs.Elements.{any-has, below-has, filter-has, map-has, none-inside}
use Rattle.controller_run.proofs.AtHome.{read-home}
use Rattle.controller_run.proofs.Begun.{home-among}
use Rattle.completion_laws.specs.Answering.{IsOnTheWay, IsUpToDate, answer_for}
use Rattle.completion_laws.specs.Turns.{EndsNoneAt, OthersEndElsewhere}
use Rattle.completion_laws.proofs.Between.{settled-same, unsettled-later, unsettled-less}
use Rattle.completion_laws.proofs.PortTurns.{IsFlying}
use Rattle.completion_laws.proofs.RowTurns.{IsFor, IsThrough, own-has}

-- ---- what is listed

-- the home of an item that exists, by the list of homes
pub home-here : (p : Problem) (homes : List (Option ℕ)) (n : ℕ) → homes ≡ homes_of p → n < item_count p → home_at homes n ≡ home_of p (item_at p n)
home-here p homes n same low =
    read-home homes n ∙ home-is p homes n same ∙ ap (λ (b : Bool). if b then home_of p (item_at p n) else None) (lt-ltb n (item_count p) low)

-- a command is for an item that is at home at one of these switches
abbrev pub IsAtHome : Rollout → List ℕ → Command → Type 0
IsAtHome r switches c = (switch : ℕ) × (home_of r.problem (item_at r.problem c.item) ≡ Some switch) × Contains switches switch

module _ (r : Rollout) (migration : ℕ) (homes : List (Option ℕ)) (h : History) (net : IsNetwork r.problem) (valid : is_valid_plan r.problem r.plan ≡ true) (legal : is_legal r.problem r.plan h ≡ true) (small : migration < 2 ^ 32) (switches : List ℕ) where
  abbrev Next : Command → Type 0
  Next c = (c.item < item_count r.problem) × (c.number ≡ settled h c.item + 1) × (c.number ≡ begun h c.item)

  items-fly : All (λ n. Next (command_of r (next_op h n))) (filter (flies h) (list_below (item_count r.problem) (λ n. n)))
  items-fly = λ k d inside.
      let items = list_below (item_count r.problem) (λ n. n) in
      let low = All-filter (flies h) (λ n. n < item_count r.problem) items (numbers_below (item_count r.problem)) k d inside in
      let flying = filter_passes (flies h) items k d inside in
      let n = slice_index_or (filter (flies h) items) k d in
      (low, refl, sym (eqb-true (begun h n) (settled h n + 1) flying))

  listed-next : All Next (asked r switches (in_flight r.problem h))
  listed-next =
      All-map Next (command_of r) (filter (is_asked r.problem switches) (in_flight r.problem h))
      (All-filter (is_asked r.problem switches) (λ op. Next (command_of r op)) (in_flight r.problem h)
      (All-map (λ op. Next (command_of r op)) (next_op h) (filter (flies h) (list_below (item_count r.problem) (λ n. n))) items-fly))

  pub listed-fly : All (IsFlying r migration homes h) (asked r switches (in_flight r.problem h))
  listed-fly = λ k d inside.
      let next = listed-next k d inside in
      record { within = next.0; number = next.1; begun_is = next.2; fits = has_frame r migration h net valid legal small (slice_index_or (asked r switches (in_flight r.problem h)) k d) (listed_are_begun r h legal switches k d inside) }

  -- each at home at one of the switches
  pub listed-home : All (IsAtHome r switches) (asked r switches (in_flight r.problem h))
  listed-home =
      All-map (IsAtHome r switches) (command_of r) (filter (is_asked r.problem switches) (in_flight r.problem h))
      (All-weaker (λ (op : Op). is_asked r.problem switches op ≡ true) (λ (op : Op). IsAtHome r switches (command_of r op)) (λ op is. home-among switches (home_of r.problem (item_at r.problem op.item)) is) (filter (is_asked r.problem switches) (in_flight r.problem h))
      (filter_passes (is_asked r.problem switches) (in_flight r.problem h)))

-- ---- notes that end nothing here
module _ (o : Opening) (homes : List (Option ℕ)) (switches : List ℕ) where
  pub record Passes (a b : List Written) : Type 0 where
    pub more : List Written
    pub is : b ≡ a ++ more
    pub none : All (EndsNoneAt homes switches) more

  pub passes-chain : (a b c : List Written) → Passes a b → Passes b c → Passes a c
  passes-chain a b c first second = record {
    more = first.more ++ second.more;
    is = second.is ∙ ap (λ (ws : List Written). ws ++ second.more) first.is ∙ append_assoc a first.more second.more;
    none = All-append (EndsNoneAt homes switches) first.more second.more first.none second.none;
  }

  -- a note without entries
  pub passes-note : (seat : ℕ) (log after : List Written) (said : What) → after ≡ log ++ next_note seat log said [] ∷ [] → Passes log after
  passes-note seat log after said is = record {
    more = next_note seat log said [] ∷ [];
    is = is;
    none = All-cons (EndsNoneAt homes switches) (next_note seat log said []) [] (λ op at switch home among. none-inside (Done op) at) (All-nil (EndsNoneAt homes switches));
  }

  -- notes of others, where these end nothing here
  pub passes-others : (seat : ℕ) (joined : List ℕ) (final seen log rest : List Written) → OthersEndElsewhere homes switches seat final → final ≡ log ++ rest → Follows seat_of (seat ∷ joined) seen log → Passes seen log
  passes-others seat joined final seen log rest others goes follows = record {
    more = follows.past;
    is = follows.is;
    none = λ k d inside.
        let at : Contains log (slice_index_or follows.past k d) = subst (λ (ws : List Written). Contains ws (slice_index_or follows.past k d)) (sym follows.is) (Contains-append_right seen follows.past (slice_index_or follows.past k d) (Contains-get_or follows.past k d inside)) in
        others (slice_index_or follows.past k d) (subst (λ (ws : List Written). Contains ws (slice_index_or follows.past k d)) (sym goes) (Contains-append_left log rest (slice_index_or follows.past k d) at)) (follows.none k d inside 0 seat (omega arith));
  }

  module _ (a b : List Written) (passes : Passes a b) where
    pub passes-settled : (n switch : ℕ) → home_at homes n ≡ Some switch → Contains switches switch → settled (history_of o b) n ≡ settled (history_of o a) n
    passes-settled n switch home among = ap (λ (ws : List Written). settled (history_of o ws) n) passes.is ∙ settled-same o homes switches a passes.more passes.none n switch home among

    pub passes-begun : (n : ℕ) → begun (history_of o a) n ≤ begun (history_of o b) n
    passes-begun n = subst (λ (ws : List Written). begun (history_of o a) n ≤ begun (history_of o ws) n) (sym passes.is) (begun-behind o a passes.more n)

    pub passes-unsettled : unsettled o.rollout.problem o.rollout.plan (history_of o b) ≤ unsettled o.rollout.problem o.rollout.plan (history_of o a)
    passes-unsettled =
        unsettled-later o.rollout (history_of o a) (history_of o b)
        (λ n. subst (λ (ws : List Written). settled (history_of o a) n ≤ settled (history_of o ws) n) (sym passes.is) (omega (arith, settled-behind o a passes.more n)))

    -- a port that is up to date stays so
    way-on : (migration n switch : ℕ) (held : Held) → home_at homes n ≡ Some switch → Contains switches switch → IsOnTheWay migration (history_of o a) n held → IsOnTheWay migration (history_of o b) n held
    way-on migration n switch held home among (inl way) = inl (way.0, omega (arith, way.1, passes-settled n switch home among), omega (arith, way.2, passes-begun n))
    way-on migration n switch held home among (inr earlier) = inr earlier

    pub passes-up : (migration : ℕ) (now : SessionTrace) → Contains switches now.switch → IsUpToDate o.rollout migration homes (history_of o a) now → IsUpToDate o.rollout migration homes (history_of o b) now
    passes-up migration now among up = record {
      commands = up.commands;
      answered = up.answered;
      held = λ n low home. way-on migration n now.switch (after_commands now.port.start up.commands n).held home among (up.held n low home);
    }

-- ---- the batch of a round after which such a row of ports is
module _ (o : Opening) (migration : ℕ) (homes : List (Option ℕ)) (h g : History) (commands : List Command) (told : List Answer) (each_for : All (IsFor o.rollout migration homes h commands) told) (legal : is_legal o.rollout.problem o.rollout.plan g ≡ true) where
  abbrev pub added_by : List Entry
  added_by = batch_at o g (told_by told)

  abbrev pub behind : History
  behind = with_entries g added_by

  -- a Done of it is answered by the answer to one of the commands
  pub done-for : (op : Op) → Contains added_by (Done op) → (c : Command) × Contains commands c × (c.item ≡ op.item) × (op.number ≤ c.number)
  done-for op at =
      let covered = batch-covered o.rollout.problem o.rollout.plan o.policy g (told_by told) op at in
      let found = told-answer told covered.answer covered.among in
      let for = All-contains (IsFor o.rollout migration homes h commands) told found.0 each_for found.1 in
      let item : for.command.item ≡ op.item = ap (λ (a : Answer). a.item) (sym for.is) ∙ ap (λ (x : Op). x.item) found.2 ∙ covered.item in
      let number : for.command.number ≡ covered.answer.number = ap (λ (a : Answer). a.held) (sym for.is) ∙ ap (λ (x : Op). x.number) found.2 in
      (for.command, for.among, item, omega (arith, covered.number, number))

  module _ (now : SessionTrace) (through : IsThrough o.rollout migration homes h commands now) (same : (n : ℕ) → home_at homes n ≡ Some now.switch → (settled g n ≡ settled h n) × (begun h n ≤ begun g n)) where
    abbrev held_of : ℕ → Held
    held_of n = (after_commands now.port.start through.up.commands n).held

    way-behind : (n : ℕ) → home_at homes n ≡ Some now.switch → IsOnTheWay migration h n (held_of n) → IsOnTheWay migration behind n (held_of n)
    way-behind n home (inr earlier) = inr earlier
    way-behind n home (inl way) =
        let kept = same n home in
        let settled_few : settled behind n ≤ (held_of n).number
        = settled_told o.rollout.problem o.rollout.plan n (held_of n).number g added_by (batch_follows o.rollout.problem o.rollout.plan o.policy g (told_by told))
        (λ op at item.
        let for = done-for op at in
        let own = own-has o.rollout migration homes h now.switch commands for.0 for.1 (ap (home_at homes) (for.2 ∙ item) ∙ home) in
        let pair : held_of n ≡ pair_of migration for.0.number = ap held_of (sym item ∙ sym for.2) ∙ through.holds for.0 own in
        omega (arith, for.3, ap (λ (held : Held). held.number) pair)) (omega (arith, kept.0, way.1)) in
        inl (way.0, settled_few, omega (arith, way.2, kept.1, begun-with g added_by n))

    pub through-up : IsUpToDate o.rollout migration homes behind now
    through-up = record {
      commands = through.up.commands;
      answered = through.up.answered;
      held = λ n low home. way-behind n home (through.up.held n low home);
    }

  -- a command's operation that is in flight still, and was answered, is settled
  pub settles-one : (c : Command) → Contains told (answer_for c) → IsFlying o.rollout migration homes h c → (settled g c.item ≡ settled h c.item) × (begun h c.item ≤ begun g c.item) → is_legal o.rollout.problem o.rollout.plan behind ≡ true
      → unsettled o.rollout.problem o.rollout.plan behind + 1 ≤ unsettled o.rollout.problem o.rollout.plan g
  settles-one c at flying same follows =
      let n = c.item in
      let p = o.rollout.problem in
      let counted = is_counted p o.rollout.plan g legal n in
      let begun_is : begun g n ≡ settled g n + 1 = omega (arith, counted.one_flies, same.0, same.1, flying.number, flying.begun_is) in
      let flies_is : flies g n ≡ true = eq-eqb (begun g n) (settled g n + 1) begun_is in
      let covered : is_covered g (told_by told) n ≡ true
      = and_from (flies g n) (list_any (λ a. (a.item == n) && nat_le (begun g n) a.number) (told_by told)) flies_is
      (any-has (λ (a : Op). (a.item == n) && nat_le (begun g n) a.number) (told_by told) (op_of (answer_for c)) (map-has op_of told (answer_for c) at)
      (and_from (n == n) (nat_le (begun g n) c.number) (eq-eqb n n refl) (le-leb (begun g n) c.number (omega (arith, begun_is, same.0, flying.number))))) in
      let ended : Contains (dones p g (told_by told)) (Done (next_op g n))
      = map-has (λ (m : ℕ). Done (next_op g m)) (filter (is_covered g (told_by told)) (list_below (item_count p) (λ m. m))) n
      (filter-has (is_covered g (told_by told)) (list_below (item_count p) (λ m. m)) n covered (below-has (item_count p) n flying.within)) in
      let there : Contains added_by (Done (next_op g n)) = Contains-append_left (dones p g (told_by told)) (release p o.rollout.plan o.policy (with_entries g (dones p g (told_by told)))) (Done (next_op g n)) ended in
      unsettled-less o.rollout g behind n follows flying.within (λ m. omega (arith, settled-with g added_by m)) (omega (arith, settled-with g added_by n, some-done added_by (next_op g n) there))
