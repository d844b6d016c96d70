-- What a faithful port keeps, and what it tells by that.
use Rattle.std.proofs.Common.{◌≡◌, ℕ, Bool, true, false, List, [], ◌++◌, length, take, drop, Some, refl, sym, ap, ap₂, subst, ◌∙◌, append_assoc, arith}
use Rattle.std.proofs.Math.Seq.{drop-nil}
use Rattle.std.proofs.lemmas.List.{append-nil, nil_from_length, take-append-drop, take_all, take_at}
use Rattle.std.proofs.lemmas.List.Elements.{All-take}
use Rattle.wan_edge.specs.Frames.{CommandFrame, IsCommand, Splits, command_bytes}
use Rattle.wan_edge.specs.Ports.{AllAnswered, AnswersHeld, AnswersInOrder, AppendsFront, IsHonestStep, MovesByRule}
use Rattle.wan_edge.specs.Switches.{Holdings, after_commands, holding_nothing}
use Rattle.wan_edge.proofs.Commands.{after_commands-append, none_moves}
use Rattle.switch_agent.specs.Items.{Items, holding}
use Rattle.lossy_link.specs.Faithful.{AreAnswered, AreFirstAnswered, IsFaithful, bytes_to}
use Rattle.lossy_link.specs.Incoming.{Came, HasCommands, Stream, TakesBehind, offered_of}
use Rattle.lossy_link.specs.WayBack.{Back, after_hearing}
use Rattle.lossy_link.proofs.Behind.{none_behind, whole}
use Rattle.lossy_link.proofs.Ordered.{answers_held, one_split}
use Rattle.lossy_link.proofs.Sending.{honest_step, no_commands}
use Rattle.lossy_link.proofs.Taking.{bytes_to-append, no_pairs}
use Rattle.lossy_link.proofs.Answering.{front_of, moves_front, none_answered, parts_of}

-- what a port keeps that is up
record IsUp (stream : Stream) (items : Items) (back : Back) : Type 0 where
  pub commands : List CommandFrame
  pub has : HasCommands stream.taken commands
  pub holds : holding items ≡ after_commands holding_nothing commands
  pub came : bytes_to holding_nothing commands ≡ back.heard ++ back.due

is_up : (stream : Stream) (items : Items) (back : Back) (down : Bool) → IsFaithful stream items back down → down ≡ false → IsUp stream items back
is_up stream items back down keeps up =
    let none = keeps.up up in
    let bare : keeps.commands ++ keeps.unanswered ≡ keeps.commands = ap (λ (cs : List CommandFrame). keeps.commands ++ cs) none.0 ∙ append-nil keeps.commands in
    record {
      commands = keeps.commands;
      has = subst (HasCommands stream.taken) (ap₂ (λ (xs ys : List CommandFrame). keeps.commands ++ (xs ++ ys)) none.0 none.1 ∙ append-nil keeps.commands) keeps.has;
      holds = keeps.holds ∙ ap (after_commands holding_nothing) bare;
      came = keeps.came;
    }

pub fresh_faithful : (stream : Stream) (items : Items) (back : Back) → stream ≡ (record { taken = []; pending = [] }) → items ≡ [] → back ≡ (record { heard = []; due = [] }) → IsFaithful stream items back false
fresh_faithful stream items back stream_is items_are back_is = record {
  commands = [];
  unanswered = [];
  later = [];
  has = subst (λ (s : Stream). HasCommands s.taken []) (sym stream_is) no_commands;
  all = ap (λ (s : Stream). s.pending) stream_is;
  holds = ap holding items_are;
  came = sym (ap (λ (b : Back). b.heard ++ b.due) back_is);
  up = λ e. (refl, refl);
}

pub goes_down : (stream now : Stream) (items : Items) (back : Back) (down : Bool) → now ≡ stream → IsFaithful stream items back down → IsFaithful now items back true
goes_down stream now items back down same keeps =
    subst (λ (s : Stream). IsFaithful s items back true) (sym same)
    (record {
      commands = keeps.commands;
      unanswered = keeps.unanswered;
      later = keeps.later;
      has = keeps.has;
      all = keeps.all;
      holds = keeps.holds;
      came = keeps.came;
      up = λ e. (cc, cc);
    })

heard_faithful : (stream : Stream) (items : Items) (back : Back) (down : Bool) (n : ℕ) → IsFaithful stream items back down → IsFaithful stream items (after_hearing back n) down
heard_faithful stream items back down n keeps = record {
  commands = keeps.commands;
  unanswered = keeps.unanswered;
  later = keeps.later;
  has = keeps.has;
  all = keeps.all;
  holds = keeps.holds;
  came = keeps.came ∙ ap (λ (xs : List ℕ). back.heard ++ xs) (sym (take-append-drop n back.due)) ∙ sym (append_assoc back.heard (take n back.due) (drop n back.due));
  up = keeps.up;
}

-- ---- what the port tells

pub in_order : (stream : Stream) (items : Items) (back : Back) (down : Bool) → IsFaithful stream items back down → AnswersInOrder holding_nothing (offered_of stream) back.heard (holding items)
in_order stream items back down keeps =
    let done = keeps.commands ++ keeps.unanswered in
    let all = keeps.commands ++ (keeps.unanswered ++ keeps.later) in
    let front : take (length done) all ≡ done = ap (take (length done)) (sym (append_assoc keeps.commands keeps.unanswered keeps.later)) ∙ take_at done keeps.later (length done) refl in
    record {
      commands = all;
      rest = keeps.has.rest;
      whole = subst (λ (xs : List ℕ). Splits command_bytes IsCommand xs all keeps.has.rest) (whole stream keeps.all) keeps.has.whole;
      no_more = keeps.has.no_more;
      carried_out = length done;
      holds = keeps.holds ∙ ap (after_commands holding_nothing) (sym front);
      to_come = back.due ++ bytes_to (after_commands holding_nothing keeps.commands) keeps.unanswered;
      heard_front =
          ap (bytes_to holding_nothing) front ∙ bytes_to-append holding_nothing keeps.commands keeps.unanswered
          ∙ ap (λ (xs : List ℕ). xs ++ bytes_to (after_commands holding_nothing keeps.commands) keeps.unanswered) keeps.came
          ∙ append_assoc back.heard back.due (bytes_to (after_commands holding_nothing keeps.commands) keeps.unanswered);
    }

held_so : (offered heard : List ℕ) (now : Holdings) → AnswersInOrder holding_nothing offered heard now → AnswersHeld heard now
held_so offered heard now order =
    answers_held holding_nothing now (take order.carried_out order.commands) heard order.to_come no_pairs (All-take IsCommand order.carried_out order.commands order.whole.fit) order.holds order.heard_front

-- where all that is there was given, all was answered
all_given : (stream : Stream) (items : Items) (back : Back) (down : Bool) → IsFaithful stream items back down → down ≡ false → back.due ≡ [] → AllAnswered holding_nothing (offered_of stream) back.heard
all_given stream items back down keeps up none commands rest split no_more =
    let is = is_up stream items back down keeps up in
    sym (append-nil back.heard) ∙ ap (λ (xs : List ℕ). back.heard ++ xs) (sym none) ∙ sym is.came
    ∙ ap (bytes_to holding_nothing) (one_split is.commands commands is.has.rest rest is.has.whole.fit split.fit is.has.no_more no_more (sym is.has.whole.parts ∙ whole stream keeps.all ∙ split.parts))

-- nothing moves
pub stands_step : (stream : Stream) (items : Items) (back : Back) (down : Bool) → IsFaithful stream items back down → (before : Holdings) → holding items ≡ before → IsHonestStep (Some (offered_of stream)) (Some back.heard) (Some before) (Some (holding items))
stands_step stream items back down keeps before same =
    honest_step (offered_of stream) back.heard before (holding items) (holding items) same (none_moves (offered_of stream) (holding items)) (held_so (offered_of stream) back.heard (holding items) (in_order stream items back down keeps))

-- a hear gives bytes that are there, and moves nothing
module _ (stream : Stream) (items : Items) (back now : Back) (down : Bool) (keeps : IsFaithful stream items back down) (n : ℕ) (now_is : now ≡ after_hearing back n) where
  pub hear_order : AnswersInOrder holding_nothing (offered_of stream) now.heard (holding items)
  hear_order = subst (λ (b : Back). AnswersInOrder holding_nothing (offered_of stream) b.heard (holding items)) (sym now_is) (in_order stream items (after_hearing back n) down (heard_faithful stream items back down n keeps))

  pub hear_step : (before : Holdings) → holding items ≡ before → IsHonestStep (Some (offered_of stream)) (Some now.heard) (Some before) (Some (holding items))
  hear_step before same =
      subst (λ (b : Back). IsHonestStep (Some (offered_of stream)) (Some b.heard) (Some before) (Some (holding items))) (sym now_is) (stands_step stream items (after_hearing back n) down (heard_faithful stream items back down n keeps) before same)

  pub hear_all : down ≡ false → length back.due ≡ 0 → AllAnswered holding_nothing (offered_of stream) now.heard
  hear_all up none =
      let due_is : back.due ≡ [] = nil_from_length back.due none in
      let left : drop n back.due ≡ [] = ap (λ (xs : List ℕ). drop n xs) due_is ∙ drop-nil n in
      subst (λ (b : Back). AllAnswered holding_nothing (offered_of stream) b.heard) (sym now_is) (all_given stream items (after_hearing back n) down (heard_faithful stream items back down n keeps) up left)

-- ---- what an offer comes to

-- all bytes were taken, on the way to a failure
pub appends_all : (stream middle now : Stream) (from : List ℕ) → middle ≡ (record { taken = stream.taken; pending = stream.pending ++ from }) → now ≡ (record { taken = offered_of middle; pending = [] }) → AppendsFront (Some (offered_of stream)) from (Some (offered_of now))
appends_all stream middle now from middle_is now_is = record {
  count = length from;
  within = omega arith;
  appended =
      ap (λ (xs : List ℕ). Some xs)
      (ap offered_of now_is ∙ append-nil (offered_of middle) ∙ ap offered_of middle_is ∙ sym (append_assoc stream.taken stream.pending from) ∙ ap (λ (xs : List ℕ). offered_of stream ++ xs) (sym (take_all (length from) from (omega arith))));
}

-- a port that is up takes bytes
module _ (stream middle now : Stream) (from : List ℕ) (items items_now : Items) (back back_now : Back) (down : Bool) (keeps : IsFaithful stream items back down) (up : down ≡ false)
    (middle_is : middle ≡ (record { taken = stream.taken; pending = stream.pending ++ from })) (now_is : now ≡ (record { taken = offered_of middle; pending = [] })) where
  is : IsUp stream items back
  is = is_up stream items back down keeps up

  all : now.pending ≡ []
  all = ap (λ (s : Stream). s.pending) now_is

  had : HasCommands middle.taken is.commands
  had = subst (λ (xs : List ℕ). HasCommands xs is.commands) (sym (ap (λ (s : Stream). s.taken) middle_is)) is.has

  after_front : (down_now : Bool) (front : TakesBehind (AreFirstAnswered (holding items) (holding items_now) back back_now) is.commands now.taken) → (down_now ≡ false → (front.so.unanswered ≡ []) × (front.so.later ≡ [])) → IsFaithful now items_now back_now down_now
  after_front down_now front is_all =
      let so = front.so in
      let done = is.commands ++ so.first in
      record {
        commands = done;
        unanswered = so.unanswered;
        later = so.later;
        has = subst (HasCommands now.taken) (sym (append_assoc is.commands so.first (so.unanswered ++ so.later))) (parts_of is.commands now.taken (holding items) (holding items_now) back back_now front);
        all = all;
        holds =
            so.carried_out ∙ ap (λ (h : Holdings). after_commands h (so.first ++ so.unanswered)) is.holds
            ∙ sym (after_commands-append holding_nothing is.commands (so.first ++ so.unanswered))
            ∙ ap (after_commands holding_nothing) (sym (append_assoc is.commands so.first so.unanswered));
        came =
            bytes_to-append holding_nothing is.commands so.first
            ∙ ap₂ (λ (xs : List ℕ) (h : Holdings). xs ++ bytes_to h so.first) is.came (sym is.holds)
            ∙ append_assoc back.heard back.due (bytes_to (holding items) so.first)
            ∙ ap (λ (b : Back). b.heard ++ b.due) (sym so.answered);
        up = is_all;
      }

  module _ (some : (earlier : List CommandFrame) → HasCommands middle.taken earlier → TakesBehind (AreFirstAnswered (holding items) (holding items_now) back back_now) earlier now.taken) where
    pub keeps_down : IsFaithful now items_now back_now true
    keeps_down = after_front true (some is.commands had) (λ e. (cc, cc))

    pub answers_some : Came (AreFirstAnswered (holding items) (holding items_now) back back_now) (offered_of stream) (offered_of now)
    answers_some = record {
      earlier = is.commands;
      had = subst (λ (xs : List ℕ). HasCommands xs is.commands) (whole stream keeps.all) is.has;
      behind = subst (TakesBehind (AreFirstAnswered (holding items) (holding items_now) back back_now) is.commands) (whole now all) (some is.commands had);
    }

    pub same_heard : back_now.heard ≡ back.heard
    same_heard = ap (λ (b : Back). b.heard) (some is.commands had).so.answered

    step_by : (down_now : Bool) → IsFaithful now items_now back_now down_now → (before : Holdings) → holding items ≡ before → IsHonestStep (Some (offered_of now)) (Some back_now.heard) (Some before) (Some (holding items_now))
    step_by down_now keeps_now before is_same =
        honest_step (offered_of now) back_now.heard before (holding items) (holding items_now) is_same
        (subst (λ (xs : List ℕ). MovesByRule xs (holding items) (holding items_now)) (whole now all) (moves_front is.commands now.taken (holding items) (holding items_now) back back_now (some is.commands had)))
        (held_so (offered_of now) back_now.heard (holding items_now) (in_order now items_now back_now down_now keeps_now))

    pub step_down : (before : Holdings) → holding items ≡ before → IsHonestStep (Some (offered_of now)) (Some back_now.heard) (Some before) (Some (holding items_now))
    step_down = step_by true keeps_down

  module _ (each : (earlier : List CommandFrame) → HasCommands middle.taken earlier → TakesBehind (AreAnswered (holding items) (holding items_now) back back_now) earlier now.taken) where
    each_front : (earlier : List CommandFrame) → HasCommands middle.taken earlier → TakesBehind (AreFirstAnswered (holding items) (holding items_now) back back_now) earlier now.taken
    each_front earlier has =
        let behind = each earlier has in
        record { commands = behind.commands; has = behind.has; so = front_of (holding items) (holding items_now) back back_now behind.commands behind.so }

    pub keeps_up : IsFaithful now items_now back_now false
    unfolding each_front front_of
    keeps_up = after_front false (each_front is.commands had) (λ e. (refl, refl))

    pub same_heard_up : back_now.heard ≡ back.heard
    same_heard_up = same_heard each_front

    pub step_up : (before : Holdings) → holding items ≡ before → IsHonestStep (Some (offered_of now)) (Some back_now.heard) (Some before) (Some (holding items_now))
    step_up = step_by each_front false keeps_up

-- a port that does nothing
pub answers_none : (stream : Stream) (items : Items) (back : Back) (down : Bool) → IsFaithful stream items back down → Came (AreFirstAnswered (holding items) (holding items) back back) (offered_of stream) (offered_of stream)
answers_none stream items back down keeps =
    let commands = keeps.commands ++ (keeps.unanswered ++ keeps.later) in
    let has = subst (λ (xs : List ℕ). HasCommands xs commands) (whole stream keeps.all) keeps.has in
    record {
      earlier = commands;
      had = has;
      behind = none_behind (AreFirstAnswered (holding items) (holding items) back back) commands (offered_of stream) has (front_of (holding items) (holding items) back back [] (none_answered (holding items) back));
    }
