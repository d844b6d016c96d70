-- A port after whole rounds starts the next run as found.
use Rattle.std.proofs.Math.Seq.{take-length}
use Rattle.std.proofs.Common.{◌≡◌, ◌⊎◌, ℕ, ◌^◌, ◌<◌, ◌==◌, true, List, [], ◌∷◌, ◌++◌, length, Option, Some, None, is_some, IfSome, inl, inr, refl, sym, ap, ap₂, ◌∙◌, subst, append_assoc, append-nil, arith}
use Rattle.std.proofs.lemmas.Bool.{OnTrue_at, cond_both}
use Rattle.std.proofs.lemmas.Grind.{flat_map-append}
use Rattle.std.proofs.lemmas.List.Elements.{All-append, All-filter, All-weaker}
use Rattle.std.proofs.lemmas.Option.{same_Some}
use Rattle.std.specs.List.{flat_map}
use Rattle.lists.proofs.Options.{of_some}
use Rattle.rollout_rules.specs.Wan.{Rollout}
use Rattle.rollout_rules.specs.Network.{IsNetwork}
use Rattle.rollout_rules.specs.Valid.{is_valid_plan}
use Rattle.rollout_rules.specs.History.{History, with_entries}
use Rattle.rollout_rules.specs.Legal.{is_legal}
use Rattle.rollout_rules.specs.Agent.{held_after, is_at_most}
use Rattle.rollout_rules.specs.declared.op.Entry.{Entry}
use Rattle.rollout_rules.proofs.Pairs.{after-more, at_most-refl, at_most-trans}
use Rattle.wan_edge.specs.Frames.{Command, CommandFrame, IsAnswer, IsCommand, Splits, answer_bytes, command_bytes}
use Rattle.wan_edge.specs.Ports.{IsHonestStep, MovesByRule, PortTrace}
use Rattle.wan_edge.specs.Streams.{Appends}
use Rattle.wan_edge.specs.Switches.{Holdings, after_command, after_commands, pair_asked}
use Rattle.port_session.specs.Offers.{frames_of}
use Rattle.switch_ports.specs.Outboxes.{home_at, is_switch, own}
use Rattle.switch_ports.specs.Stories.{LastStory, Story}
use Rattle.switch_ports.specs.Views.{SessionTrace}
use Rattle.switch_laws.specs.Holdings.{AreHeldAt}
use Rattle.switch_laws.specs.Runs.{AreAnswers, AreCommands, IsBegunCommand, MayCome, RunsAt, StartsAsFound}
use Rattle.switch_laws.proofs.Offered.{all_framed, frames-framed, framed}
use Rattle.switch_laws.proofs.Answered.{told_before}
use Rattle.switch_laws.proofs.Fitting.{has_frame}
use Rattle.switch_laws.proofs.Listed.{begun_stays}
use Rattle.switch_laws.proofs.Stands.{held_stands, if_some, was_told}

-- no command takes anything back
pub none_falls : (commands : List CommandFrame) (holdings : Holdings) (n : ℕ) → is_at_most (holdings n).held (after_commands holdings commands n).held ≡ true
none_falls [] holdings n = at_most-refl (holdings n).held
none_falls (c ∷ cs) holdings n =
    let here : is_at_most (holdings n).held (after_command holdings c n).held ≡ true
    = cond_both (n == c.1.item) (held_after (holdings n) (pair_asked c) c.1.content) (holdings n) (λ holding. is_at_most (holdings n).held holding.held ≡ true)
    (λ _. after-more (holdings n) (pair_asked c) c.1.content)
    (λ _. at_most-refl (holdings n).held) in
    at_most-trans (holdings n).held (after_command holdings c n).held (after_commands holdings (c ∷ cs) n).held here (none_falls cs (after_command holdings c) n)

-- whole answers, and whole answers after them
answers_on : (earlier bytes : List ℕ) (were : AreAnswers earlier) → AreAnswers bytes → AreAnswers (earlier ++ bytes)
answers_on earlier bytes were more = record {
  answers = were.answers ++ more.answers;
  whole = record {
    fit = All-append IsAnswer were.answers more.answers were.whole.fit more.whole.fit;
    parts = ap₂ (λ (xs ys : List ℕ). xs ++ ys) (were.whole.parts ∙ append-nil (flat_map answer_bytes were.answers)) more.whole.parts ∙ sym (append_assoc (flat_map answer_bytes were.answers) (flat_map answer_bytes more.answers) [])
        ∙ ap (λ (xs : List ℕ). xs ++ []) (sym (flat_map-append answer_bytes were.answers more.answers));
  };
}

module _ (r : Rollout) (migration : ℕ) (homes : List (Option ℕ)) (found : History) (added : List Entry) (sent : List Command) (first now : SessionTrace) (net : IsNetwork r.problem) (valid : is_valid_plan r.problem r.plan ≡ true) (legal : is_legal r.problem r.plan (with_entries found added) ≡ true) (small : migration < 2 ^ 32) (run : RunsAt r migration homes found added sent first now) (story : Story migration homes sent first now) where
  abbrev mine : List Command
  mine = own homes first.switch sent

  -- what was heard is whole answers still
  heard_again : now.stream.kept ≡ [] → IfSome now.port.heard AreAnswers
  heard_again none_kept =
      if_some now.port.heard AreAnswers (λ heard heard_is.
      let tells = story.tells in
      let was = told_before first.port.heard now.port.heard tells.bytes heard tells.appended heard_is in
      let whole : Splits answer_bytes IsAnswer tells.bytes tells.reads.answers []
      = subst (λ (rest : List ℕ). Splits answer_bytes IsAnswer tells.bytes tells.reads.answers rest) (tells.reads.ends ∙ none_kept)
      (subst (λ (kept : List ℕ). Splits answer_bytes IsAnswer (kept ++ tells.bytes) tells.reads.answers tells.reads.rest) run.starts.none_kept tells.reads.whole) in
      subst AreAnswers (sym was.2) (answers_on was.0 tells.bytes (of_some AreAnswers first.port.heard was.0 was.1 run.starts.heard) (record { answers = tells.reads.answers; whole = whole })))

  module _ (offered : List ℕ) (before after : Holdings) (offered_is : now.port.offered ≡ Some offered) (before_is : first.port.held ≡ Some before) (after_is : now.port.held ≡ Some after) where
    rises_by : (now.port ≡ first.port) ⊎ IsHonestStep now.port.offered now.port.heard first.port.held now.port.held → (n : ℕ) → is_at_most (before n).held (after n).held ≡ true
    rises_by (inl same) n =
        let alike : before ≡ after = same_Some before after (sym before_is ∙ sym (ap (λ (t : PortTrace). t.held) same) ∙ after_is) in
        subst (λ (holdings : Holdings). is_at_most (before n).held (holdings n).held ≡ true) alike (at_most-refl (before n).held)
    rises_by (inr step) n =
        let moves : MovesByRule offered before after = of_some (MovesByRule offered before) now.port.held after after_is
        (of_some (λ earlier. IfSome now.port.held (MovesByRule offered earlier)) first.port.held before before_is
        (of_some (λ bytes. IfSome first.port.held (λ earlier. IfSome now.port.held (MovesByRule bytes earlier))) now.port.offered offered offered_is step.moves)) in
        subst (λ (holdings : Holdings). is_at_most (before n).held (holdings n).held ≡ true) (sym moves.moved) (none_falls moves.delivered before n)

    may_again : (c : CommandFrame) → MayCome r migration found before c → MayCome r migration (with_entries found added) after c
    may_again c (inl own) = inl (own.0, begun_stays r found added c.1 own.1)
    may_again c (inr (inl late)) =
        inr (inl (record {
          earlier = late.earlier;
          late = at_most-trans (pair_asked c) (before c.1.item).held (after c.1.item).held late.late (rises_by (OnTrue_at run.starts.honest run.story.goes_on.by_rule) c.1.item);
        }))
    may_again c (inr (inr none)) = inr (inr none)

    -- what was offered is whole commands still, each of which may come
    offered_again : AreCommands r migration (with_entries found added) after offered
    offered_again =
        let was = told_before first.port.offered now.port.offered (frames_of migration mine) offered story.sent offered_is in
        let commands : AreCommands r migration found before was.0
        = of_some (λ holdings. AreCommands r migration found holdings was.0) first.port.held before before_is (of_some (λ bytes. IfSome first.port.held (λ holdings. AreCommands r migration found holdings bytes)) first.port.offered was.0 was.1 run.starts.offered) in
        let there = commands.commands in
        let more = framed migration mine in
        record {
          commands = there ++ more;
          whole = record {
            fit = All-append IsCommand there more commands.whole.fit
                (all_framed IsCommand migration mine
                (All-filter (λ c. is_switch first.switch (home_at homes c.item)) (λ c. IsCommand (migration, c)) sent
                (All-weaker (IsBegunCommand r (with_entries found added)) (λ c. IsCommand (migration, c)) (has_frame r migration (with_entries found added) net valid legal small) sent run.begun)));
            parts = was.2 ∙ ap₂ (λ (xs ys : List ℕ). xs ++ ys) (commands.whole.parts ∙ append-nil (flat_map command_bytes there)) (frames-framed migration mine)
                ∙ sym (flat_map-append command_bytes there more) ∙ sym (append-nil (flat_map command_bytes (there ++ more)));
          };
          each = All-append (MayCome r migration (with_entries found added) after) there more
              (All-weaker (MayCome r migration found before) (MayCome r migration (with_entries found added) after) may_again there commands.each)
              (all_framed (MayCome r migration (with_entries found added) after) migration mine
              (All-filter (λ c. is_switch first.switch (home_at homes c.item)) (λ c. MayCome r migration (with_entries found added) after (migration, c)) sent
              (All-weaker (IsBegunCommand r (with_entries found added)) (λ c. MayCome r migration (with_entries found added) after (migration, c)) (λ c is. inl (refl, is)) sent run.begun)));
        }

  -- a fact of what is told, where the rest is told
  told_alone : {A : Type 0} (o : Option A) (P : Type 0) → is_some o ≡ true → IfSome o (λ _. P) → P
  told_alone None P some holds = cc
  told_alone (Some a) P some holds = holds

  pub starts_again : now.stream.kept ≡ [] → is_some now.port.offered ≡ true → is_some now.port.heard ≡ true → StartsAsFound r migration homes (with_entries found added) now
  starts_again none_kept offered_told heard_told =
      let holdings = IfSome now.port.held (AreHeldAt r migration homes first.switch (with_entries found added)) in
      let stands : holdings = told_alone now.port.heard holdings heard_told (told_alone now.port.offered (IfSome now.port.heard (λ _. holdings)) offered_told (held_stands r migration homes found added sent first now net valid legal small run)) in
      record {
        honest = run.story.goes_on.honest ∙ run.starts.honest;
        none_kept = none_kept;
        heard = heard_again none_kept;
        offered = if_some now.port.offered (λ bytes. IfSome now.port.held (λ after. AreCommands r migration (with_entries found added) after bytes))
            (λ offered offered_is. if_some now.port.held (λ after. AreCommands r migration (with_entries found added) after offered)
            (λ after after_is.
            let was = was_told first.port.held now.port.held after run.story.goes_on.told after_is in
            offered_again offered was.0 after offered_is was.1 after_is));
        held = subst (λ (w : ℕ). IfSome now.port.held (AreHeldAt r migration homes w (with_entries found added))) (sym run.story.switch) stands;
      }

-- whole rounds, as a story that ends there
pub last_of_whole : (migration : ℕ) (homes : List (Option ℕ)) (commands : List Command) (first now : SessionTrace) → Story migration homes commands first now → LastStory migration homes commands first now
last_of_whole migration homes commands first now story =
    let bytes = frames_of migration (own homes first.switch commands) in
    record {
      switch = story.switch;
      goes_on = story.goes_on;
      part = record { count = length bytes; within = omega arith; appended = subst (λ (sent : List ℕ). Appends first.port.offered sent now.port.offered) (sym (take-length bytes)) story.sent };
    }
