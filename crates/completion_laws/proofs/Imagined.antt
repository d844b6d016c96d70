-- A port as it would be if it told what its switch may hold: what a run makes of it is the same.
use Rattle.std.proofs.Common.{◌≡◌, ℕ, true, false, List, ◌++◌, Option, Some, None, IfSome, inr, refl, sym, ap, ◌∙◌, subst, append_assoc}
use Rattle.std.specs.Option.{option_map}
use Rattle.rollout_rules.specs.declared.op.Op.{Op}
use Rattle.wan_edge.specs.Frames.{Answer, Command}
use Rattle.wan_edge.specs.Ports.{AnswersHeld, GoesOn, IsHonestStep, MovesByRule, PortTrace}
use Rattle.wan_edge.specs.Streams.{Appends}
use Rattle.wan_edge.specs.Switches.{Holdings}
use Rattle.wan_edge.proofs.Commands.{none_moves}
use Rattle.switch_ports.specs.Stories.{LastStory, Tells}
use Rattle.switch_ports.specs.Views.{SessionTrace}
use Rattle.shared_book.specs.declared.note.Written.{Written}
use Rattle.shared_book.specs.Histories.{Opening}
use Rattle.switch_laws.specs.Runs.{AreCommands, StartsAsFound}
use Rattle.controller_run.specs.PortRuns.{Covers, IsPortRun}
use Rattle.completion_laws.specs.Untold.{IsFoundWith, MayHold}

-- the bytes of earlier connections ahead of those that are told
abbrev pub ahead : List ℕ → Option (List ℕ) → Option (List ℕ)
ahead earlier told = option_map (λ bytes. earlier ++ bytes) told

-- the port, if it told these bytes too and that this is held
abbrev pub telling : List ℕ → Holdings → PortTrace → PortTrace
telling earlier holdings t = record { offered = ahead earlier t.offered; heard = t.heard; held = Some holdings; quiet = t.quiet; waits = t.waits; faults = t.faults; honest = true; prompt = false; start = t.start }

abbrev pub imagined : List ℕ → Holdings → SessionTrace → SessionTrace
imagined earlier holdings v = record { switch = v.switch; port = telling earlier holdings v.port; stream = v.stream }

appends-ahead : (earlier : List ℕ) (before now : Option (List ℕ)) (bytes : List ℕ) → Appends before bytes now → Appends (ahead earlier before) bytes (ahead earlier now)
appends-ahead earlier None now bytes appended = ap (ahead earlier) appended
appends-ahead earlier (Some there) now bytes appended = ap (ahead earlier) appended ∙ ap (λ (xs : List ℕ). Some xs) (sym (append_assoc earlier there bytes))

if-ahead : (earlier : List ℕ) (told : Option (List ℕ)) (P : List ℕ → Type 0) → IfSome told (λ bytes. P (earlier ++ bytes)) → IfSome (ahead earlier told) P
if-ahead earlier None P holds = tt
if-ahead earlier (Some bytes) P holds = holds

-- it keeps the rule from one moment to another
keeps-rule : (earlier offered heard : List ℕ) (before after : Holdings) (t : PortTrace) → t.offered ≡ Some offered → t.heard ≡ Some heard → MovesByRule (earlier ++ offered) before after → AnswersHeld heard after
    → IsHonestStep (ahead earlier t.offered) t.heard (Some before) (Some after)
keeps-rule earlier offered heard before after t offered_is heard_is moves answers = record {
  moves = subst (λ (told : Option (List ℕ)). IfSome (ahead earlier told) (λ bytes. MovesByRule bytes before after)) (sym offered_is) moves;
  answers = subst (λ (told : Option (List ℕ)). IfSome told (λ bytes. AnswersHeld bytes after)) (sym heard_is) answers;
}

goes-on : (earlier : List ℕ) (before after : Holdings) (t u : PortTrace) → GoesOn t u → IsHonestStep (ahead earlier u.offered) u.heard (Some before) (Some after) → GoesOn (telling earlier before t) (telling earlier after u)
goes-on earlier before after t u goes rule = record {
  sent = goes.sent;
  offered = appends-ahead earlier t.offered u.offered goes.sent goes.offered;
  came = goes.came;
  heard = goes.heard;
  count = goes.count;
  told = refl;
  honest = refl;
  prompt = refl;
  start = goes.start;
  by_rule = inr rule;
  in_order = tt;
}

tells-same : (migration : ℕ) (first at : SessionTrace) (earlier : List ℕ) (before after : Holdings) (told : List Answer) → Tells migration first told at → Tells migration (imagined earlier before first) told (imagined earlier after at)
tells-same migration first at earlier before after told tells = record { bytes = tells.bytes; appended = tells.appended; reads = tells.reads }

module _ (o : Opening) (migration : ℕ) (homes : List (Option ℕ)) (log : List Written) (first now : SessionTrace) (earlier offered heard : List ℕ) (before after : Holdings)
    (offered_is : now.port.offered ≡ Some offered) (heard_is : now.port.heard ≡ Some heard) (may : MayHold (earlier ++ offered) heard before after) where
  covers : (op : Op) → Covers migration op first now → Covers migration op (imagined earlier before first) (imagined earlier after now)
  covers op covered =
      let was = covered.told in
      record {
        answer = covered.answer;
        item = covered.item;
        number = covered.number;
        told = record {
          at = imagined earlier after was.at;
          told = record { is_port = was.told.is_port; told = was.told.told; tells = tells-same migration first was.at earlier before after was.told.told was.told.tells; among = was.told.among };
          later = goes-on earlier after after was.at.port now.port was.later (keeps-rule earlier offered heard after after now.port offered_is heard_is (none_moves (earlier ++ offered) after) may.answers);
        };
      }

  story-same : (sent : List Command) → LastStory migration homes sent first now → LastStory migration homes sent (imagined earlier before first) (imagined earlier after now)
  story-same sent story = record {
    switch = story.switch;
    goes_on = goes-on earlier before after first.port now.port story.goes_on (keeps-rule earlier offered heard before after now.port offered_is heard_is may.moves may.answers);
    part = record { count = story.part.count; within = story.part.within; appended = appends-ahead earlier first.port.offered now.port.offered _ story.part.appended };
  }

  pub runs-same : IsPortRun o migration homes log first now → IsPortRun o migration homes log (imagined earlier before first) (imagined earlier after now)
  runs-same run = record {
    sent = run.sent;
    begun = run.begun;
    story = story-same run.sent run.story;
    answered = λ op done home. covers op (run.answered op done home);
  }

-- it starts as found, where its switch held this
pub starts-same : (o : Opening) (migration : ℕ) (homes : List (Option ℕ)) (first : SessionTrace) (earlier : List ℕ) (before : Holdings) → IsFoundWith o.rollout migration homes o.found first earlier before
    → StartsAsFound o.rollout migration homes o.found (imagined earlier before first)
starts-same o migration homes first earlier before found = record {
  honest = refl;
  none_kept = found.none_kept;
  heard = found.heard;
  offered = if-ahead earlier first.port.offered (AreCommands o.rollout migration o.found before) found.offered;
  held = found.held;
}
