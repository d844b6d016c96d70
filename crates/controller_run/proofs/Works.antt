-- One round of a worker: what was found, and what was made of it, said of the pass that came in.
use Rattle.std.proofs.Common.{◌≡◌, ◌⊎◌, ℕ, ◌<◌, Bool, true, false, List, Option, [], ◌∷◌, length, inl, inr, refl, sym, ap, ◌∙◌, subst, arith}
use Rattle.std.proofs.lemmas.Bool.{false≢true}
use Rattle.rollout_rules.specs.declared.op.Op.{Op}
use Rattle.wan_edge.specs.Frames.{Answer, Command}
use Rattle.wan_edge.specs.Ports.{PortTrace}
use Rattle.rollout_book.specs.Aliens.{told_by}
use Rattle.port_session.specs.Sessions.{SessionView}
use Rattle.shared_book.specs.declared.note.Written.{Written}
use Rattle.shared_book.specs.declared.call_reply.ListReply.TheVariants as list
use Rattle.shared_book.specs.declared.call_reply.Wake.{Wake}
use Rattle.shared_book.specs.declared.call_reply.Wake.TheVariants as wake
use Rattle.shared_book.specs.Histories.{Opening}
use Rattle.switch_ports.specs.Due.{any_late}
use Rattle.controller_run.specs.Exchanging.{Exchanges}
use Rattle.controller_run.specs.Finding.{Caller, EndsAt, IsFound, Lists, Looks, LooksOn, Wants}
use Rattle.controller_run.specs.Settling.{IsLateSettled, IsSettled}
use Rattle.controller_run.specs.Working.{ListsNone, ListsSome, OnOffered, Settles, Standing, Untold, is_some_command}
use Rattle.controller_run.specs.declared.finding.Found.{Found}
use Rattle.controller_run.specs.declared.finding.Found.TheVariants as found
use Rattle.controller_run.specs.declared.round_end.RoundEnd.{RoundEnd}
use Rattle.controller_run.specs.declared.round_end.RoundEnd.TheVariants as outcome

pub none-told : (answers : List Answer) → length answers ≡ 0 → answers ≡ []
none-told [] none = refl
none-told (a ∷ rest) none = absurd (omega (arith, none))

abbrev pub caller : Opening → List ℕ → ℕ → List ℕ → Bool → Caller
caller o seats seat switches late = record { opening = o; seats = seats; seat = seat; switches = switches; late = late }

-- what was found, said of the ports that came in
module _ (o : Opening) (seats : List ℕ) (seat : ℕ) (asked switches : List ℕ) (same : asked ≡ switches) (known late : Bool) (same_late : known ≡ late) (left : ℕ) (seen after : List Written) (commands : List Command) (given : Found)
    (is_found : IsFound (caller o seats seat asked known) left seen commands given after) where
  abbrev w : Caller
  w = caller o seats seat switches late

  found-as : (other : Found) → given ≡ other → IsFound w left seen commands other after
  found-as other is =
      subst (λ (f : Found). IsFound w left seen commands f after) is
      (subst (λ (b : Bool). IsFound (caller o seats seat switches b) left seen commands given after) same_late
      (subst (λ (s : List ℕ). IsFound (caller o seats seat s known) left seen commands given after) same is_found))

  pub wants : given ≡ found.Memory → Wants w seen commands after
  wants is = found-as found.Memory is

  pub ended : (end : Wake) → given ≡ found.Ended end → EndsAt w seen commands end after
  ended end is = found-as (found.Ended end) is

  pub spent : (op : Op) → given ≡ found.Spent op → (left ≡ 0) × Looks w seen (wake.Work op) after × (late ≡ false)
  spent op is = found-as (found.Spent op) is

  pub later : given ≡ found.Later → (commands ≡ []) × (late ≡ true) × LooksOn w left seen after
  later is = found-as found.Later is

  pub lists-none : given ≡ found.Later → ListsNone w left seen commands after
  lists-none is = let is_later = later is in record { late = is_later.1; none = is_later.0; looks_on = is_later.2 }

  pub work-found : (op : Op) → given ≡ found.Work op → (0 < left) × Lists w op seen commands list.Listed after
  work-found op is = found-as (found.Work op) is

  pub lists-some : (op : Op) → given ≡ found.Work op → ListsSome w left seen commands after
  lists-some op is = let both = work-found op is in record { some_left = both.0; op = op; lists = both.1 }

-- the same seats, and the same commands
pub carried : {P : Type 0} (tell : P → PortTrace) (o : Opening) (seats seats' : List ℕ) (seat seat' : ℕ) (migration : ℕ) (homes : List (Option ℕ)) (commands commands' : List Command) (before : Standing P) (given : RoundEnd) (now : Standing P)
    → seats' ≡ seats → seat' ≡ seat → commands' ≡ commands
    → Settles tell o seats' seat' migration homes commands' before given now ⊎ Untold tell migration homes commands' before given now
    → Settles tell o seats seat migration homes commands before given now ⊎ Untold tell migration homes commands before given now
carried tell o seats seats' seat seat' migration homes commands commands' before given now same same_seat same_commands did =
    subst (λ (s : List ℕ). Settles tell o s seat migration homes commands before given now ⊎ Untold tell migration homes commands before given now) same
    (subst (λ (n : ℕ). Settles tell o seats' n migration homes commands before given now ⊎ Untold tell migration homes commands before given now) same_seat
    (subst (λ (cs : List Command). Settles tell o seats' seat' migration homes cs before given now ⊎ Untold tell migration homes cs before given now) same_commands did))

-- ---- whether a round offered something
pub on-offered : (given : RoundEnd) (holds : Type 0) → holds → OnOffered given holds
on-offered (outcome.Whole offered) holds h = λ is. h
on-offered (outcome.Ended end) holds h = tt
on-offered (outcome.Stops why) holds h = tt

pub of-offered : (given : RoundEnd) (offered : Bool) (holds : Type 0) → given ≡ outcome.Whole offered → OnOffered given holds → offered ≡ true → holds
of-offered given offered holds is on = subst (λ (g : RoundEnd). OnOffered g holds) is on

module _ {P : Type 0} (tell : P → PortTrace) (o : Opening) (seats : List ℕ) (seat migration : ℕ) (homes : List (Option ℕ)) (commands : List Command) (none : commands ≡ []) where
  none-offered : (offered : Bool) → offered ≡ is_some_command commands → offered ≡ true → ⊥
  none-offered offered is some = false≢true (sym (is ∙ ap is_some_command none) ∙ some)

  -- a round without commands offers none
  pub idle-offers : (before : Standing P) (given : RoundEnd) (now : Standing P) (holds : Type 0) → Settles tell o seats seat migration homes commands before given now ⊎ Untold tell migration homes commands before given now → OnOffered given holds
  idle-offers before (outcome.Whole offered) now holds (inl settles) = λ some. absurd (none-offered offered settles.settled.0 some)
  idle-offers before (outcome.Whole offered) now holds (inr idle) = λ some. absurd (false≢true (sym idle.none_offered ∙ some))
  idle-offers before (outcome.Ended end) now holds did = tt
  idle-offers before (outcome.Stops why) now holds did = tt

  -- what came of hearing alone
  pub late-settled : (before : Standing P) (ports : List (SessionView P)) (answers : List Answer) (given : RoundEnd) (after : List Written) → any_late before.ports ≡ true → Exchanges tell migration homes before.ports commands answers ports
      → IsLateSettled o seats seat before.seen answers given after
      → Settles tell o seats seat migration homes commands before given (record { seen = after; ports = ports }) ⊎ Untold tell migration homes commands before given (record { seen = after; ports = ports })
  late-settled before ports answers given after late went (inl settled) =
      inl (record {
        told = answers;
        exchanges = went;
        settled = subst (λ (b : Bool). IsSettled o seats seat before.seen (told_by answers) b given after) (sym (ap is_some_command none)) settled;
      })
  late-settled before ports answers given after late went (inr quiet) =
      inr (subst (λ (g : RoundEnd). Untold tell migration homes commands before g (record { seen = after; ports = ports })) (sym quiet.0)
      (record {
        late = late;
        none_offered = refl;
        none_listed = none;
        same = quiet.2;
        exchanges = subst (λ (us : List Answer). Exchanges tell migration homes before.ports commands us ports) quiet.1 went;
      }))
