-- What a switch holds after a run, and after a finished one.
use Rattle.std.proofs.Common.{◌≡◌, ◌⊎◌, ℕ, ◌^◌, ◌<◌, ◌≤◌, ◌==◌, true, List, ◌++◌, take, slice_index, Option, Some, None, is_some, IfSome, inl, inr, ⊎_elim, refl, sym, ap, ap₂, ◌∙◌, subst, append-nil, arith, eqb-true, le_of_eq}
use Rattle.std.proofs.lemmas.Bool.{OnTrue_at, false≢true}
use Rattle.std.proofs.lemmas.List.Elements.{All-append, All-contains, All-filter, All-weaker}
use Rattle.std.proofs.lemmas.Option.{same_Some}
use Rattle.std.specs.List.{All, Contains, flat_map}
use Rattle.lists.proofs.Options.{of_some}
use Rattle.rollout_rules.specs.Wan.{Rollout}
use Rattle.rollout_rules.specs.Network.{IsNetwork}
use Rattle.rollout_rules.specs.Items.{item_at, item_count}
use Rattle.rollout_rules.specs.Operations.{content_after}
use Rattle.rollout_rules.specs.Valid.{is_valid_plan}
use Rattle.rollout_rules.specs.History.{History, begun, settled, with_entries}
use Rattle.rollout_rules.specs.Legal.{is_finished, is_legal}
use Rattle.rollout_rules.specs.Agent.{Holding, is_at_most, pair_of}
use Rattle.rollout_rules.specs.declared.op.Op.{Op}
use Rattle.rollout_rules.specs.declared.op.Entry.{Entry}
use Rattle.rollout_rules.specs.declared.op.Entry.TheVariants.{Done}
use Rattle.rollout_rules.proofs.Below.{all_below-at}
use Rattle.rollout_rules.proofs.Numbers.{is_item-item_at, number_of-item_at}
use Rattle.rollout_rules.proofs.Pairs.{at_most-is}
use Rattle.rollout_laws.specs.Target.{target}
use Rattle.rollout_laws.proofs.Ends.{finished-target}
use Rattle.rollout_laws.proofs.Histories.{is_counted, rest_follows}
use Rattle.wan_edge.specs.Frames.{Command, CommandFrame, IsCommand, command_bytes}
use Rattle.wan_edge.specs.Ports.{IsHonestStep, IsOffered, MovesByRule, PortTrace}
use Rattle.wan_edge.specs.Streams.{KeepsTelling}
use Rattle.wan_edge.specs.Switches.{Holdings}
use Rattle.wan_edge.proofs.Commands.{IsHeld}
use Rattle.port_session.specs.Offers.{frames_of}
use Rattle.switch_ports.specs.Outboxes.{home_at, is_switch, own}
use Rattle.switch_ports.specs.Views.{SessionTrace}
use Rattle.switch_laws.specs.Holdings.{AreHeldAt, AreHeldAtEnd, HasGoneOn, HaveGoneOn, IsHeldAt, IsHeldAtEnd, IsMovedWithin, operations_of}
use Rattle.switch_laws.specs.Runs.{AreCommands, IsBegunCommand, MayCome, RunsAt}
use Rattle.switch_laws.proofs.Offered.{all_framed, frames-framed, framed, one_offered}
use Rattle.switch_laws.proofs.Answered.{told_before, told_is_held}
use Rattle.switch_laws.proofs.Begun.{settled_told}
use Rattle.switch_laws.proofs.Fitting.{has_frame}
use Rattle.switch_laws.proofs.Listed.{begun_stays}
use Rattle.switch_laws.proofs.Moves.{HasCome, come_behind, come_first}

-- what holds of a value that is told
pub if_some : {A : Type 0} (o : Option A) (P : A → Type 0) → ((a : A) → o ≡ Some a → P a) → IfSome o P
if_some None P holds = tt
if_some (Some a) P holds = holds a refl

-- what is told now was told before
pub was_told : {A : Type 0} (before now : Option A) (a : A) → KeepsTelling before now → now ≡ Some a → (x : A) × (before ≡ Some x)
was_told None now a keeps is = absurd (false≢true (sym keeps ∙ ap is_some is))
was_told (Some x) now a keeps is = (x, refl)

module _ (r : Rollout) (migration : ℕ) (homes : List (Option ℕ)) (found : History) (added : List Entry) (sent : List Command) (first now : SessionTrace) (legal : is_legal r.problem r.plan (with_entries found added) ≡ true) (fit : All (λ c. IsCommand (migration, c)) sent) (run : RunsAt r migration homes found added sent first now) where
  rule : (now.port ≡ first.port) ⊎ IsHonestStep now.port.offered now.port.heard first.port.held now.port.held
  rule = OnTrue_at run.starts.honest run.story.goes_on.by_rule

  module _ (offered : List ℕ) (before after : Holdings) (offered_is : now.port.offered ≡ Some offered) (before_is : first.port.held ≡ Some before) (after_is : now.port.held ≡ Some after) where
    abbrev May : CommandFrame → Type 0
    May c = MayCome r migration (with_entries found added) before c

    abbrev mine : List Command
    mine = own homes first.switch sent

    may_later : (c : CommandFrame) → MayCome r migration found before c → May c
    may_later c (inl own) = inl (own.0, begun_stays r found added c.1 own.1)
    may_later c (inr late) = inr late

    sent_may : All May (framed migration mine)
    sent_may =
        all_framed May migration mine
        (All-filter (λ c. is_switch first.switch (home_at homes c.item)) (λ c. May (migration, c)) sent
        (All-weaker (IsBegunCommand r (with_entries found added)) (λ c. May (migration, c)) (λ c is. inl (refl, is)) sent run.begun))

    sent_fit : All IsCommand (framed migration mine)
    sent_fit = all_framed IsCommand migration mine (All-filter (λ c. is_switch first.switch (home_at homes c.item)) (λ c. IsCommand (migration, c)) sent fit)

    -- each command among those offered may come
    may_be_offered : (c : CommandFrame) → IsOffered offered c → May c
    may_be_offered c is =
        let part = run.story.part in
        let was = told_before first.port.offered now.port.offered (take part.count (frames_of migration mine)) offered part.appended offered_is in
        let commands : AreCommands r migration found before was.0 = of_some (λ holdings. AreCommands r migration found holdings was.0) first.port.held before before_is (of_some (λ bytes. IfSome first.port.held (λ holdings. AreCommands r migration found holdings bytes)) first.port.offered was.0 was.1 run.starts.offered) in
        let there = commands.commands in
        let bytes : offered ≡ flat_map command_bytes there ++ take part.count (flat_map command_bytes (framed migration mine))
        = was.2 ∙ ap₂ (λ (xs ys : List ℕ). xs ++ take part.count ys) (commands.whole.parts ∙ append-nil (flat_map command_bytes there)) (frames-framed migration mine) in
        All-contains May (there ++ framed migration mine) c
        (All-append May there (framed migration mine) (All-weaker (MayCome r migration found before) May may_later there commands.each) sent_may)
        (one_offered there (framed migration mine) part.count c commands.whole.fit sent_fit (subst (λ (xs : List ℕ). IsOffered xs c) bytes is))

    module _ (n : ℕ) (inside : n < item_count r.problem) (home : home_at homes n ≡ Some first.switch) where
      held_first : IsHeldAt r migration found n (before n)
      held_first = of_some (AreHeldAt r migration homes first.switch found) first.port.held before before_is run.starts.held n inside home

      abbrev Come : Holding → Type 0
      Come holding = HasCome r migration (settled found n) (begun (with_entries found added) n) n (before n) holding

      come_by : (now.port ≡ first.port) ⊎ IsHonestStep now.port.offered now.port.heard first.port.held now.port.held → Come (after n)
      come_by (inl same) =
          let alike : before ≡ after = same_Some before after (sym before_is ∙ sym (ap (λ (t : PortTrace). t.held) same) ∙ after_is) in
          subst (λ (holdings : Holdings). Come (holdings n)) alike (come_first r migration found added before n legal held_first)
      come_by (inr step) =
          let moves : MovesByRule offered before after = of_some (MovesByRule offered before) now.port.held after after_is
          (of_some (λ earlier. IfSome now.port.held (MovesByRule offered earlier)) first.port.held before before_is
          (of_some (λ bytes. IfSome first.port.held (λ earlier. IfSome now.port.held (MovesByRule bytes earlier))) now.port.offered offered offered_is step.moves)) in
          let each : All May moves.delivered = All-weaker (IsOffered offered) May may_be_offered moves.delivered moves.each_offered in
          subst (λ (holdings : Holdings). Come (holdings n)) (sym moves.moved)
          (come_behind r migration found added before n legal held_first moves.delivered each before (come_first r migration found added before n legal held_first))

      come : Come (after n)
      come = come_by rule

      -- so it has gone on
      gone_on_by : IsMovedWithin r migration (settled found n) (begun (with_entries found added) n) n (after n) ⊎ ((after n ≡ before n) × ((before n).held.migration < migration)) → (after n).held.migration < migration → after n ≡ before n
      gone_on_by (inl moved) earlier = absurd (omega (arith, moved.pair, earlier))
      gone_on_by (inr left) earlier = left.0

      gone_on : HasGoneOn migration (before n) (after n)
      gone_on = record { no_lower = come.no_lower; left = gone_on_by come.pair }

      module _ (heard : List ℕ) (heard_is : now.port.heard ≡ Some heard) where
        -- what was answered of the item is at most what is held of it
        answered_held : (op : Op) → Contains added (Done op) → op.item ≡ n → (k : ℕ) × (op.number ≤ k) × (is_at_most (pair_of migration k) (after n).held ≡ true)
        answered_held op has same =
            let answered = run.answered op has (ap (home_at homes) same ∙ home) in
            let told = answered.told in
            let all = told_is_held migration first answered.moment now told.told answered.later heard after run.starts.none_kept run.starts.heard told.tells answered.heard_since heard_is after_is rule in
            let this = All-contains (λ a. IsHeld after (migration, a)) told.told answered.answer all told.among in
            (answered.answer.held, answered.number, subst (λ (i : ℕ). is_at_most (pair_of migration answered.answer.held) (after i).held ≡ true) (answered.item ∙ same) this)

        told_within : (after n).held.migration ≡ migration → (op : Op) → Contains added (Done op) → op.item ≡ n → op.number ≤ (after n).held.number
        told_within pair op has same =
            let answer = answered_held op has same in
            ⊎_elim
            (λ (lt : migration < (after n).held.migration). absurd (omega (arith, lt, pair)))
            (λ (le : (migration ≡ (after n).held.migration) × (answer.0 ≤ (after n).held.number)). omega (arith, le.1, answer.1))
            (at_most-is (pair_of migration answer.0) (after n).held answer.2)

        never_told : (after n).held.migration < migration → (op : Op) → Contains added (Done op) → op.item ≡ n → op.number ≤ slice_index found.start n
        never_told earlier op has same =
            let answer = answered_held op has same in
            ⊎_elim
            (λ (lt : migration < (after n).held.migration). absurd (omega (arith, lt, earlier)))
            (λ (le : (migration ≡ (after n).held.migration) × (answer.0 ≤ (after n).held.number)). absurd (omega (arith, le.0, earlier)))
            (at_most-is (pair_of migration answer.0) (after n).held answer.2)

        settled_first : (before n).held.migration < migration → IsHeldAt r migration found n (before n) → settled found n ≤ slice_index found.start n
        settled_first earlier (inl moved) = absurd (omega (arith, moved.pair, earlier))
        settled_first earlier (inr left) = le_of_eq left.none

        stands_by : IsMovedWithin r migration (settled found n) (begun (with_entries found added) n) n (after n) ⊎ ((after n ≡ before n) × ((before n).held.migration < migration)) → IsHeldAt r migration (with_entries found added) n (after n)
        stands_by (inl moved) =
            inl (record {
              pair = moved.pair;
              least = settled_told r.problem r.plan n (after n).held.number found added (rest_follows r.problem r.plan found added legal) (told_within moved.pair) moved.least;
              most = moved.most;
              content = moved.content;
            })
        stands_by (inr left) =
            let earlier : (after n).held.migration < migration = subst (λ (holding : Holding). holding.held.migration < migration) (sym left.0) left.1 in
            let few = settled_told r.problem r.plan n (slice_index found.start n) found added (rest_follows r.problem r.plan found added legal) (never_told earlier) (settled_first left.1 held_first) in
            inr (record { earlier = earlier; none = omega (arith, few) })

        stands : IsHeldAt r migration (with_entries found added) n (after n)
        stands = stands_by come.pair

  all_stand : IfSome now.port.offered (λ _. IfSome now.port.heard (λ _. IfSome now.port.held (AreHeldAt r migration homes first.switch (with_entries found added))))
  all_stand =
      if_some now.port.offered (λ _. IfSome now.port.heard (λ _. IfSome now.port.held (AreHeldAt r migration homes first.switch (with_entries found added))))
      (λ offered offered_is. if_some now.port.heard (λ _. IfSome now.port.held (AreHeldAt r migration homes first.switch (with_entries found added)))
      (λ heard heard_is. if_some now.port.held (AreHeldAt r migration homes first.switch (with_entries found added))
      (λ after after_is.
      let was = was_told first.port.held now.port.held after run.story.goes_on.told after_is in
      λ n inside home. stands offered was.0 after offered_is was.1 after_is n inside home heard heard_is)))

  all_gone_on : IfSome now.port.offered (λ _. IfSome first.port.held (λ before. IfSome now.port.held (HaveGoneOn r migration homes first.switch before)))
  all_gone_on =
      if_some now.port.offered (λ _. IfSome first.port.held (λ before. IfSome now.port.held (HaveGoneOn r migration homes first.switch before)))
      (λ offered offered_is. if_some first.port.held (λ before. IfSome now.port.held (HaveGoneOn r migration homes first.switch before))
      (λ before before_is. if_some now.port.held (HaveGoneOn r migration homes first.switch before)
      (λ after after_is n inside home. gone_on offered before after offered_is before_is after_is n inside home)))

-- after a finished history what stands is at its end
module _ (r : Rollout) (migration : ℕ) (h : History) (net : IsNetwork r.problem) (valid : is_valid_plan r.problem r.plan ≡ true) (legal : is_legal r.problem r.plan h ≡ true) (finished : is_finished r.problem r.plan h ≡ true) (n : ℕ) (inside : n < item_count r.problem) (holding : Holding) where
  all_settled : settled h n ≡ operations_of r n
  all_settled = eqb-true (settled h n) (operations_of r n) (all_below-at (item_count r.problem) (λ m. settled h m == operations_of r m) finished n inside)

  brings_target : content_after r.problem r.plan (item_at r.problem n) (operations_of r n) ≡ target r.problem r.plan (item_at r.problem n)
  brings_target =
      ap (content_after r.problem r.plan (item_at r.problem n)) (sym all_settled ∙ ap (settled h) (sym (number_of-item_at r.problem n inside)))
      ∙ finished-target r.problem r.plan h net valid finished (item_at r.problem n) (is_item-item_at r.problem n inside)

  at_end : IsHeldAt r migration h n holding → IsHeldAtEnd r migration h.start n holding
  at_end (inl moved) =
      let most = (is_counted r.problem r.plan h legal n).exist inside in
      let number : holding.held.number ≡ operations_of r n = omega (arith, moved.least, moved.most, most, all_settled) in
      inl (record {
        pair = λ k. record { migration = moved.pair k; number = number k };
        content = λ some. moved.content (subst (λ (m : ℕ). 0 < m) (sym number) some) ∙ ap (content_after r.problem r.plan (item_at r.problem n)) number ∙ brings_target;
      })
  at_end (inr left) = inr (record { earlier = left.earlier; none_left = sym all_settled ∙ left.none })

-- what holds of each item held holds of the holdings, where they are told
if_told : {A B C : Type 0} (o : Option A) (p : Option B) (q : Option C) (P Q : C → Type 0) → ((c : C) → P c → Q c) → IfSome o (λ _. IfSome p (λ _. IfSome q P)) → IfSome o (λ _. IfSome p (λ _. IfSome q Q))
if_told None p q P Q f holds = tt
if_told (Some a) None q P Q f holds = tt
if_told (Some a) (Some b) None P Q f holds = tt
if_told (Some a) (Some b) (Some c) P Q f holds = f c holds

module _ (r : Rollout) (migration : ℕ) (homes : List (Option ℕ)) (found : History) (added : List Entry) (sent : List Command) (first now : SessionTrace) (net : IsNetwork r.problem) (valid : is_valid_plan r.problem r.plan ≡ true) (legal : is_legal r.problem r.plan (with_entries found added) ≡ true) (small : migration < 2 ^ 32) where
  fit : RunsAt r migration homes found added sent first now → All (λ c. IsCommand (migration, c)) sent
  fit run = All-weaker (IsBegunCommand r (with_entries found added)) (λ c. IsCommand (migration, c)) (has_frame r migration (with_entries found added) net valid legal small) sent run.begun

  pub held_stands : RunsAt r migration homes found added sent first now → IfSome now.port.offered (λ _. IfSome now.port.heard (λ _. IfSome now.port.held (AreHeldAt r migration homes first.switch (with_entries found added))))
  held_stands run = all_stand r migration homes found added sent first now legal (fit run) run

  pub held_goes_on : RunsAt r migration homes found added sent first now → IfSome now.port.offered (λ _. IfSome first.port.held (λ before. IfSome now.port.held (HaveGoneOn r migration homes first.switch before)))
  held_goes_on run = all_gone_on r migration homes found added sent first now legal (fit run) run

  pub held_at_end : is_finished r.problem r.plan (with_entries found added) ≡ true → RunsAt r migration homes found added sent first now
      → IfSome now.port.offered (λ _. IfSome now.port.heard (λ _. IfSome now.port.held (AreHeldAtEnd r migration homes first.switch found.start)))
  held_at_end finished run =
      if_told now.port.offered now.port.heard now.port.held (AreHeldAt r migration homes first.switch (with_entries found added)) (AreHeldAtEnd r migration homes first.switch found.start)
      (λ holdings each n inside home. at_end r migration (with_entries found added) net valid legal finished n inside (holdings n) (each n inside home))
      (held_stands run)
