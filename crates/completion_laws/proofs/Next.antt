-- The next run finds a switch right, with the bytes of this one on their way.
use Rattle.std.proofs.Common.{◌≡◌, ℕ, ◌^◌, ◌<◌, true, List, [], ◌++◌, take, drop, Option, Some, IfSome, inl, inr, refl, sym, ap, ap₂, ◌∙◌, subst, append_assoc, append-nil, take-append-drop}
use Rattle.std.proofs.lemmas.Grind.{flat_map-append}
use Rattle.std.proofs.lemmas.List.Elements.{All-append, All-filter, All-nil, All-weaker}
use Rattle.std.specs.List.{All, flat_map}
use Rattle.lists.proofs.Options.{of_some}
use Rattle.rollout_rules.specs.Wan.{Rollout}
use Rattle.rollout_rules.specs.Network.{IsNetwork}
use Rattle.rollout_rules.specs.Valid.{is_valid_plan}
use Rattle.rollout_rules.specs.History.{History, with_entries}
use Rattle.rollout_rules.specs.Agent.{is_at_most}
use Rattle.rollout_rules.specs.declared.op.Entry.{Entry}
use Rattle.rollout_rules.proofs.Pairs.{at_most-trans}
use Rattle.wan_edge.specs.Frames.{Command, CommandFrame, IsAnswer, IsCommand, command_bytes}
use Rattle.wan_edge.specs.Ports.{MovesByRule}
use Rattle.wan_edge.specs.Switches.{Holdings, pair_asked}
use Rattle.port_session.specs.Offers.{frames_of}
use Rattle.switch_ports.specs.Outboxes.{home_at, is_switch, own}
use Rattle.switch_ports.specs.Views.{SessionTrace}
use Rattle.shared_book.specs.declared.note.Written.{Written}
use Rattle.shared_book.specs.Histories.{Opening, added, history_of}
use Rattle.shared_book.specs.Legal.{is_legal_shared}
use Rattle.shared_book.proofs.Lists.{list-is_legal}
use Rattle.switch_laws.specs.Holdings.{AreHeldAt}
use Rattle.switch_laws.specs.Runs.{AreAnswers, AreCommands, IsBegunCommand, MayCome}
use Rattle.switch_laws.proofs.Answered.{told_before}
use Rattle.switch_laws.proofs.Fitting.{has_frame}
use Rattle.switch_laws.proofs.Listed.{begun_stays}
use Rattle.switch_laws.proofs.Offered.{all_framed, frames-framed, framed}
use Rattle.switch_laws.proofs.Stands.{if_some}
use Rattle.switch_laws.proofs.Again.{none_falls}
use Rattle.controller_run.specs.Keeping.{IsBegun}
use Rattle.controller_run.specs.PortRuns.{IsPortRun}
use Rattle.completion_laws.specs.Untold.{IsFoundWith, IsLeftTo, IsNewTo, MayHold}
use Rattle.completion_laws.proofs.Each.{each_stands}

-- what might come before may come still
module _ (r : Rollout) (migration : ℕ) (found : History) (added : List Entry) (bytes : List ℕ) (before after : Holdings) (moves : MovesByRule bytes before after) where
  may-still : (c : CommandFrame) → MayCome r migration found before c → MayCome r migration (with_entries found added) after c
  may-still c (inl own) = inl (own.0, begun_stays r found added c.1 own.1)
  may-still c (inr (inl late)) =
      let no_lower = subst (λ (holdings : Holdings). is_at_most (before c.1.item).held (holdings c.1.item).held ≡ true) (sym moves.moved) (none_falls moves.delivered before c.1.item) in
      inr (inl (record { earlier = late.earlier; late = at_most-trans (pair_asked c) (before c.1.item).held (after c.1.item).held late.late no_lower }))
  may-still c (inr (inr none)) = inr (inr none)

-- bytes of which a last part went out in front
rejoined : (earlier there front behind whole : List ℕ) → front ++ behind ≡ whole → (earlier ++ (there ++ front)) ++ behind ≡ (earlier ++ there) ++ whole
rejoined earlier there front behind whole parts =
    ap (λ (xs : List ℕ). xs ++ behind) (sym (append_assoc earlier there front)) ∙ append_assoc (earlier ++ there) front behind ∙ ap (λ (xs : List ℕ). (earlier ++ there) ++ xs) parts

no-answers : AreAnswers []
no-answers = record { answers = []; whole = record { fit = All-nil IsAnswer; parts = refl } }

module _ (o : Opening) (migration : ℕ) (homes : List (Option ℕ)) (log : List Written) (first now next : SessionTrace) (offered heard earlier : List ℕ) (before after : Holdings)
    (net : IsNetwork o.rollout.problem) (valid : is_valid_plan o.rollout.problem o.rollout.plan ≡ true) (legal : is_legal_shared o log ≡ true) (small : migration < 2 ^ 32) (run : IsPortRun o migration homes log first now)
    (offered_is : now.port.offered ≡ Some offered) (heard_is : now.port.heard ≡ Some heard) (found : IsFoundWith o.rollout migration homes o.found first earlier before) (may : MayHold (earlier ++ offered) heard before after)
    (new : IsNewTo first.switch next) where
  abbrev mine : List Command
  mine = own homes first.switch run.sent

  abbrev rest : List ℕ
  rest = drop run.story.part.count (frames_of migration mine)

  begun-command : (c : Command) → IsBegun o (history_of o log) c → IsBegunCommand o.rollout (history_of o log) c
  begun-command c begun = record { op = begun.op; there = begun.begun; is = begun.is }

  sent-begun : All (IsBegunCommand o.rollout (history_of o log)) mine
  sent-begun =
      All-filter (λ c. is_switch first.switch (home_at homes c.item)) (IsBegunCommand o.rollout (history_of o log)) run.sent
      (All-weaker (IsBegun o (history_of o log)) (IsBegunCommand o.rollout (history_of o log)) begun-command run.sent run.begun)

  -- with the rest of what was to go out, all that was offered is whole commands that may come
  commands-now : AreCommands o.rollout migration (history_of o log) after ((earlier ++ offered) ++ rest)
  commands-now =
      let part = run.story.part in
      let frames = frames_of migration mine in
      let was = told_before first.port.offered now.port.offered (take part.count frames) offered part.appended offered_is in
      let commands : AreCommands o.rollout migration o.found before (earlier ++ was.0)
      = of_some (λ bytes. AreCommands o.rollout migration o.found before (earlier ++ bytes)) first.port.offered was.0 was.1 found.offered in
      let there = commands.commands in
      let more = framed migration mine in
      let legal_list = list-is_legal o log legal in
      record {
        commands = there ++ more;
        whole = record {
          fit = All-append IsCommand there more commands.whole.fit
              (all_framed IsCommand migration mine (All-weaker (IsBegunCommand o.rollout (history_of o log)) (λ c. IsCommand (migration, c)) (has_frame o.rollout migration (history_of o log) net valid legal_list small) mine sent-begun));
          parts = ap (λ (xs : List ℕ). (earlier ++ xs) ++ rest) was.2 ∙ rejoined earlier was.0 (take part.count frames) rest frames (take-append-drop part.count frames)
              ∙ ap₂ (λ (xs ys : List ℕ). xs ++ ys) (commands.whole.parts ∙ append-nil (flat_map command_bytes there)) (frames-framed migration mine)
              ∙ sym (flat_map-append command_bytes there more) ∙ sym (append-nil (flat_map command_bytes (there ++ more)));
        };
        each = All-append (MayCome o.rollout migration (history_of o log) after) there more
            (All-weaker (MayCome o.rollout migration o.found before) (MayCome o.rollout migration (history_of o log) after)
            (may-still o.rollout migration o.found (added log) (earlier ++ offered) before after may.moves) there commands.each)
            (all_framed (MayCome o.rollout migration (history_of o log) after) migration mine
            (All-weaker (IsBegunCommand o.rollout (history_of o log)) (λ c. MayCome o.rollout migration (history_of o log) after (migration, c)) (λ c is. inl (refl, is)) mine sent-begun));
      }

  holds-now : AreHeldAt o.rollout migration homes first.switch (history_of o log) after
  holds-now =
      let each = each_stands o migration homes log first now net valid legal small run in
      let IsRight = AreHeldAt o.rollout migration homes first.switch (history_of o log) in
      of_some (λ bytes. (ahead : List ℕ) (then now : Holdings) → IsFoundWith o.rollout migration homes o.found first ahead then → MayHold (ahead ++ offered) bytes then now → IsRight now) now.port.heard heard heard_is
      (of_some (λ sent. IfSome now.port.heard (λ bytes. (ahead : List ℕ) (then now : Holdings) → IsFoundWith o.rollout migration homes o.found first ahead then → MayHold (ahead ++ sent) bytes then now → IsRight now)) now.port.offered offered offered_is each)
      earlier before after found may

  pub found-next : IsLeftTo o.rollout migration homes (history_of o log) next (earlier ++ offered) after
  found-next = record {
    rest = rest;
    found = record {
      held = subst (λ (switch : ℕ). AreHeldAt o.rollout migration homes switch (history_of o log) after) (sym new.is_to) holds-now;
      offered = if_some next.port.offered (λ bytes. AreCommands o.rollout migration (history_of o log) after (((earlier ++ offered) ++ rest) ++ bytes)) (λ bytes bytes_are.
          let none : bytes ≡ [] = of_some (λ xs. xs ≡ []) next.port.offered bytes bytes_are new.none_offered in
          subst (λ (xs : List ℕ). AreCommands o.rollout migration (history_of o log) after (((earlier ++ offered) ++ rest) ++ xs)) (sym none)
          (subst (AreCommands o.rollout migration (history_of o log) after) (sym (append-nil ((earlier ++ offered) ++ rest))) commands-now));
      heard = if_some next.port.heard AreAnswers (λ bytes bytes_are. subst AreAnswers (sym (of_some (λ xs. xs ≡ []) next.port.heard bytes bytes_are new.none_heard)) no-answers);
      none_kept = new.none_kept;
    };
  }
