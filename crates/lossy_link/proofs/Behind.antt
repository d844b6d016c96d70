-- What further commands that were taken come to, one more at a time.
use Rattle.std.proofs.Common.{◌≡◌, ℕ, List, [], ◌∷◌, ◌++◌, Option, Some, None, IfNone, IfSome, sym, ap, subst, ◌∙◌, append_assoc}
use Rattle.std.specs.List.{flat_map}
use Rattle.std.proofs.lemmas.Grind.{flat_map-append}
use Rattle.std.proofs.lemmas.List.{append-nil}
use Rattle.wan_edge.specs.Frames.{CommandFrame, command_bytes}
use Rattle.wan_edge.specs.Ports.{IsOffered}
use Rattle.lossy_link.specs.Incoming.{Came, GivesNext, HasCommands, IsReadOut, Stream, TakesBehind, TakesMore, offered_of}

-- all that was offered was taken
pub whole : (s : Stream) → s.pending ≡ [] → s.taken ≡ offered_of s
whole s all = sym (append-nil s.taken) ∙ ap (λ (xs : List ℕ). s.taken ++ xs) (sym all)

module _ (Holds : List CommandFrame → Type 0) (earlier : List CommandFrame) where
  pub none_behind : (taken : List ℕ) → HasCommands taken earlier → Holds [] → TakesBehind Holds earlier taken
  none_behind taken has so = record { commands = []; has = subst (HasCommands taken) (sym (append-nil earlier)) has; so = so }

  pub more_behind : (taken : List ℕ) → TakesBehind Holds earlier taken → TakesMore earlier taken
  more_behind taken behind = record { commands = behind.commands; has = behind.has; so = tt }

  pub out_behind : (before now : Stream) → IsReadOut before now → TakesBehind Holds earlier before.taken → TakesBehind Holds earlier now.taken
  out_behind before now out behind = record { commands = behind.commands; has = out.none (earlier ++ behind.commands) behind.has; so = behind.so }

module _ (before now : Stream) (c : CommandFrame) (gives : GivesNext before now c) (earlier : List CommandFrame) where
  -- one command more, of which this holds after those of which that did
  pub one_behind : (Held Holds : List CommandFrame → Type 0) → ((cs : List CommandFrame) → Held cs → Holds (cs ++ c ∷ [])) → TakesBehind Held earlier before.taken → TakesBehind Holds earlier now.taken
  one_behind Held Holds on behind = record {
    commands = behind.commands ++ c ∷ [];
    has = subst (HasCommands now.taken) (append_assoc earlier behind.commands (c ∷ [])) (gives.next (earlier ++ behind.commands) behind.has);
    so = on behind.commands behind.so;
  }

  pub one_more : TakesMore earlier before.taken → TakesMore earlier now.taken
  one_more = one_behind (λ commands. Unit {0}) (λ commands. Unit {0}) (λ cs so. tt)

  -- the command is among those offered
  pub is_offered : (commands : List CommandFrame) → HasCommands before.taken commands → IsOffered (offered_of now) c
  is_offered commands has =
      let next = gives.next commands has in
      let front = flat_map command_bytes commands in
      let bytes = command_bytes c in
      record {
        earlier = commands;
        earlier_fit = has.whole.fit;
        fits = gives.fits;
        behind = next.rest ++ now.pending;
        parts =
            ap (λ (xs : List ℕ). xs ++ now.pending) next.whole.parts
            ∙ ap (λ (xs : List ℕ). (xs ++ next.rest) ++ now.pending) (flat_map-append command_bytes commands (c ∷ []) ∙ ap (λ (xs : List ℕ). front ++ xs) (append-nil bytes))
            ∙ ap (λ (xs : List ℕ). xs ++ now.pending) (append_assoc front bytes next.rest)
            ∙ append_assoc front (bytes ++ next.rest) now.pending
            ∙ ap (λ (xs : List ℕ). front ++ xs) (append_assoc bytes next.rest now.pending);
      }

pub out_same : (before now : Stream) → IsReadOut before now → offered_of now ≡ offered_of before
out_same before now out = ap offered_of out.all ∙ append-nil (offered_of before)

-- a call of next takes further whole commands, or has found none
module _ (before now : Stream) (found : Option CommandFrame) (given : IfSome found (λ c. GivesNext before now c)) (none : IfNone found (IsReadOut before now)) where
  pub next_same : offered_of now ≡ offered_of before
  next_same = at found given none
    where
      at : (f : Option CommandFrame) → IfSome f (λ c. GivesNext before now c) → IfNone f (IsReadOut before now) → offered_of now ≡ offered_of before
      at (Some c) gives out = gives.same
      at None gives out = out_same before now out

  pub next_more : (earlier : List CommandFrame) → TakesMore earlier before.taken → TakesMore earlier now.taken
  next_more earlier = at found given none
    where
      at : (f : Option CommandFrame) → IfSome f (λ c. GivesNext before now c) → IfNone f (IsReadOut before now) → TakesMore earlier before.taken → TakesMore earlier now.taken
      at (Some c) gives out = one_more before now c gives earlier
      at None gives out = out_behind (λ commands. Unit {0}) earlier before now out

-- what holds of all that was taken after the commands that came before
pub all_came : (Holds : List CommandFrame → Type 0) (stream middle now : Stream) (earlier : List CommandFrame) → HasCommands stream.taken earlier → stream.pending ≡ [] → middle.taken ≡ stream.taken
    → ((before : List CommandFrame) → HasCommands middle.taken before → TakesBehind Holds before now.taken) → now.pending ≡ [] → Came Holds (offered_of stream) (offered_of now)
all_came Holds stream middle now earlier has none same takes all = record {
  earlier = earlier;
  had = subst (λ (xs : List ℕ). HasCommands xs earlier) (whole stream none) has;
  behind = subst (TakesBehind Holds earlier) (whole now all) (takes earlier (subst (λ (xs : List ℕ). HasCommands xs earlier) (sym same) has));
}
