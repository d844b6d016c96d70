-- Where the commands of due switches are listed, the late ones are left alone.
use Rattle.std.proofs.Common.{◌≡◌, ℕ, ◌<◌, ◌==◌, Bool, true, false, List, [], ◌∷◌, ◌++◌, All, Option, Some, refl, sym, ap, ◌∙◌, subst, arith, eq-eqb, slice_index_or, if◌then◌else◌}
use Rattle.std.proofs.lemmas.Bool.{false≢true, ne_eqb}
use Rattle.std.proofs.lemmas.List.Elements.{All-cons, All-filter, All-head, All-map, All-nil, All-tail, All-weaker, filter_passes}
use Rattle.std.specs.List.{Contains, filter, list_any}
use Rattle.rollout_rules.specs.Sums.{list_below}
use Rattle.rollout_rules.specs.Items.{home_of, item_at, item_count}
use Rattle.rollout_rules.specs.History.{History, flies}
use Rattle.rollout_rules.specs.Release.{next_op}
use Rattle.rollout_rules.specs.World.{in_flight}
use Rattle.rollout_rules.specs.declared.op.Op.{Op}
use Rattle.rollout_laws.proofs.Rounds.{numbers_below}
use Rattle.wan_edge.specs.Frames.{Command}
use Rattle.rollout_book.specs.Commands.{asked, command_of, is_asked}
use Rattle.port_session.specs.Sessions.{SessionView}
use Rattle.switch_ports.specs.Due.{AreApart, LeavesAlone, due_of, is_late}
use Rattle.switch_ports.specs.Outboxes.{home_at, is_switch, own}
use Rattle.shared_book.specs.declared.note.Written.{Written}
use Rattle.shared_book.specs.declared.call_reply.ListReply.TheVariants as list
use Rattle.shared_book.specs.Histories.{Opening, history_of}
use Rattle.shared_book.specs.Homes.{homes_of}
use Rattle.shared_book.specs.Told.{commands_at}
use Rattle.shared_book.proofs.HomeRows.{home-read}
use Rattle.controller_run.specs.Finding.{Caller, Lists}
use Rattle.controller_run.proofs.AtHome.{read-home}
use Rattle.controller_run.proofs.Begun.{home-among}
use Rattle.controller_run.specs.Promises.{AreSome, switches_of}
use Rattle.controller_run.proofs.Elements.{any-has, inside-later}

-- the due switches are some of all
module _ {P : Type 0} where
  among-by : (t : SessionView P) (ts : List (SessionView P)) (late : Bool) → AreSome (due_of ts) (switches_of (t ∷ ts)) → AreSome (if late then due_of ts else t.switch ∷ due_of ts) (switches_of (t ∷ ts))
  among-by t ts true rest = rest
  among-by t ts false rest = All-cons (Contains (switches_of (t ∷ ts))) t.switch (due_of ts) (0, omega arith, refl) rest

  pub due-among : (ts : List (SessionView P)) → AreSome (due_of ts) (switches_of ts)
  due-among [] = All-nil (Contains (switches_of {P = P} []))
  due-among (t ∷ ts) =
      among-by t ts (is_late t)
      (All-weaker (Contains (switches_of ts)) (Contains (switches_of (t ∷ ts))) (λ w at. inside-later t.switch w (switches_of ts) at) (due_of ts) (due-among ts))

module _ (homes : List (Option ℕ)) where
  -- ---- the home of a command that was listed is among the switches
  abbrev pub IsHomed : List ℕ → Command → Type 0
  IsHomed switches c = (switch : ℕ) × (home_at homes c.item ≡ Some switch) × Contains switches switch

  module _ (o : Opening) (same : homes ≡ homes_of o.rollout.problem) where
    homed : (switches : List ℕ) (op : Op) → op.item < item_count o.rollout.problem → is_asked o.rollout.problem switches op ≡ true → IsHomed switches (command_of o.rollout op)
    homed switches op low asks =
        let p = o.rollout.problem in
        let found = home-among switches (home_of p (item_at p op.item)) asks in
        (found.0, read-home homes op.item ∙ home-read p homes op.item same low ∙ found.1, found.2)

    all-asked : (switches : List ℕ) (h : History) → All (IsHomed switches) (asked o.rollout switches (in_flight o.rollout.problem h))
    all-asked switches h =
        let p = o.rollout.problem in
        let numbers = list_below (item_count p) (λ n. n) in
        let ops = filter (is_asked p switches) (in_flight p h) in
        let few : All (λ (n : ℕ). n < item_count p) (filter (flies h) numbers) = All-filter (flies h) (λ n. n < item_count p) numbers (numbers_below (item_count p)) in
        let flying : All (λ (op : Op). op.item < item_count p) (in_flight p h) = All-map (λ (op : Op). op.item < item_count p) (next_op h) (filter (flies h) numbers) (λ k d inside. few k d inside) in
        let low = All-filter (is_asked p switches) (λ (op : Op). op.item < item_count p) (in_flight p h) flying in
        let asks = filter_passes (is_asked p switches) (in_flight p h) in
        All-map (IsHomed switches) (command_of o.rollout) ops (λ k d inside. homed switches (slice_index_or ops k d) (low k d inside) (asks k d inside))

    -- so it is where commands were listed at a history
    pub all-homed : (commands : List Command) (log : List Written) (switches : List ℕ) → commands ≡ commands_at o log switches → All (IsHomed switches) commands
    all-homed commands log switches listed = subst (λ (cs : List Command). All (IsHomed switches) cs) (sym listed) (all-asked switches (history_of o log))

  -- ---- a switch that isn't among them has none
  none-own : (w : ℕ) (switches : List ℕ) (commands : List Command) → All (IsHomed switches) commands → list_any (λ x. x == w) switches ≡ false → own homes w commands ≡ []
  none-own w switches [] all none = refl
  none-own w switches (c ∷ cs) all none =
      let home = All-head (IsHomed switches) c cs all in
      let differs : (home.0 == w) ≡ false = ne_eqb home.0 w (λ (same : home.0 ≡ w). false≢true (sym none ∙ any-has (λ x. x == w) switches home.0 home.2 (eq-eqb home.0 w same))) in
      let other : is_switch w (home_at homes c.item) ≡ false = ap (is_switch w) home.1 ∙ differs in
      ap (λ (b : Bool). if b then c ∷ own homes w cs else own homes w cs) other ∙ none-own w switches cs (All-tail (IsHomed switches) c cs all) none

  module _ {P : Type 0} where
    left-alone : (due : List ℕ) (commands : List Command) (ts : List (SessionView P)) → All (IsHomed due) commands → AreApart due ts → LeavesAlone homes commands ts
    left-alone due commands [] all apart = tt
    left-alone due commands (t ∷ ts) all apart = (λ late. none-own t.switch due commands all (apart.0 late), left-alone due commands ts all apart.1)

    -- of what was listed of the due switches
    pub lists-alone : (w : Caller) (op : Op) (seen log : List Written) (commands : List Command) (ts : List (SessionView P)) → homes ≡ homes_of w.opening.rollout.problem → AreApart w.switches ts → Lists w op seen commands list.Listed log → LeavesAlone homes commands ts
    lists-alone w op seen log commands ts same apart lists = left-alone w.switches commands ts (all-homed w.opening same commands lists.listed.log w.switches lists.listed.listed) apart
