-- What sending one command more comes to.
use Rattle.std.proofs.Common.{◌≡◌, ℕ, Bool, false, Some, List, [], ◌∷◌, ◌++◌, replicate, refl, sym, ap, subst, ◌∙◌}
use Rattle.std.proofs.lemmas.List.Elements.{All-append, All-nil}
use Rattle.wan_edge.specs.Frames.{CommandFrame, IsCommand}
use Rattle.wan_edge.specs.Ports.{AnswersHeld, IsHonestStep, IsOffered, MovesByRule}
use Rattle.wan_edge.specs.Switches.{Holdings, after_commands}
use Rattle.wan_edge.proofs.Commands.{after_commands-append, nothing_begins_no_command}
use Rattle.lossy_link.specs.Incoming.{GivesNext, HasCommands, IsTaken, Stream, TakesMore, offered_of}
use Rattle.lossy_link.specs.Scripted.{AreSent}
use Rattle.lossy_link.specs.Traffic.{Traffic, after_sending, after_sendings}
use Rattle.lossy_link.proofs.Behind.{is_offered}
use Rattle.lossy_link.proofs.Traffics.{each_replicate}

after_sendings-append : (t : Traffic) (xs ys : List CommandFrame) → after_sendings t (xs ++ ys) ≡ after_sendings (after_sendings t xs) ys
after_sendings-append t [] ys = refl
after_sendings-append t (x ∷ xs) ys = after_sendings-append (after_sending t x) xs ys

-- one command more is sent
pub sent_on : (first t t_now : Traffic) (c : CommandFrame) → t_now ≡ after_sending t c → (cs : List CommandFrame) → AreSent first t cs → AreSent first t_now (cs ++ c ∷ [])
sent_on first t t_now c is cs so = is ∙ ap (λ (u : Traffic). after_sending u c) so ∙ sym (after_sendings-append first cs (c ∷ []))

-- a command that was offered may come any number of times
pub moves_more : (offered : List ℕ) (a b d : Holdings) (n : ℕ) (c : CommandFrame) → IsOffered offered c → d ≡ after_commands b (replicate n c) → MovesByRule offered a b → MovesByRule offered a d
moves_more offered a b d n c is_offered is moved = record {
  delivered = moved.delivered ++ replicate n c;
  each_offered = All-append (IsOffered offered) moved.delivered (replicate n c) moved.each_offered (each_replicate (IsOffered offered) n c is_offered);
  moved = is ∙ ap (λ (h : Holdings). after_commands h (replicate n c)) moved.moved ∙ sym (after_commands-append a moved.delivered (replicate n c));
}

module _ (before now : Stream) (c : CommandFrame) (gives : GivesNext before now c) (offered : List ℕ) (offered_is : offered_of now ≡ offered) where
  -- what is held moves on by a command that was taken
  pub moves_by : (earlier : List CommandFrame) → TakesMore earlier before.taken → (a b d : Holdings) (n : ℕ) → d ≡ after_commands b (replicate n c) → MovesByRule offered a b → MovesByRule offered a d
  moves_by earlier behind a b d n is moved =
      moves_more offered a b d n c (subst (λ (xs : List ℕ). IsOffered xs c) offered_is (is_offered before now c gives earlier (earlier ++ behind.commands) behind.has)) is moved

-- ---- what a scripted port keeps

pub no_commands : HasCommands [] []
no_commands = record { rest = []; whole = record { fit = All-nil IsCommand; parts = refl }; no_more = nothing_begins_no_command }

pub fresh_taken : (stream : Stream) → stream ≡ (record { taken = []; pending = [] }) → IsTaken stream false
fresh_taken stream is = record {
  commands = [];
  has = subst (λ (s : Stream). HasCommands s.taken []) (sym is) no_commands;
  all = λ e. ap (λ (s : Stream). s.pending) is;
}

pub taken_on : (stream middle now : Stream) (down down_now : Bool) → IsTaken stream down → middle.taken ≡ stream.taken → ((earlier : List CommandFrame) → HasCommands middle.taken earlier → TakesMore earlier now.taken) → (down_now ≡ false → now.pending ≡ []) → IsTaken now down_now
taken_on stream middle now down down_now is same takes all =
    let behind = takes is.commands (subst (λ (xs : List ℕ). HasCommands xs is.commands) (sym same) is.has) in
    record { commands = is.commands ++ behind.commands; has = behind.has; all = all }

pub honest_step : (offered heard : List ℕ) (before mine now : Holdings) → mine ≡ before → MovesByRule offered mine now → AnswersHeld heard now → IsHonestStep (Some offered) (Some heard) (Some before) (Some now)
honest_step offered heard before mine now same moved honest = record { moves = subst (λ (h : Holdings). MovesByRule offered h now) same moved; answers = honest }
