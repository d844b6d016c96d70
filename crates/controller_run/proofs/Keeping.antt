-- What a worker has come to, said of a history that has gone on since.
use Rattle.std.proofs.Common.{◌≡◌, ℕ, true, List, [], ◌∷◌, ◌++◌, Option, Some, None, append_assoc, slice_index_or, refl, sym, ap, ◌∙◌, subst, arith}
use Rattle.std.specs.Prelude.{All, IsTrue}
use Rattle.std.specs.List.{Contains}
use Rattle.std.proofs.lemmas.List.Elements.{All-append, All-nil, Contains-get_or}
use Rattle.rollout_rules.specs.declared.op.Entry.TheVariants as entry
use Rattle.wan_edge.specs.Frames.{Command}
use Rattle.wan_edge.specs.Ports.{PortTrace}
use Rattle.wan_edge.proofs.Chains.{stays}
use Rattle.port_session.specs.Offers.{frames_of}
use Rattle.port_session.specs.Sessions.{SessionView}
use Rattle.switch_ports.specs.Outboxes.{own}
use Rattle.switch_ports.specs.Stories.{LastStoryEach}
use Rattle.switch_ports.proofs.Told.{none_sent}
use Rattle.shared_book.specs.declared.note.Written.{Written}
use Rattle.shared_book.specs.declared.call_reply.Wake.{Wake}
use Rattle.shared_book.specs.Histories.{Opening, history_of}
use Rattle.shared_book.specs.Legal.{is_legal_shared}
use Rattle.controller_run.specs.Promises.{AreAnswered, Promises, switches_of}
use Rattle.controller_run.specs.Working.{Standing}
use Rattle.controller_run.proofs.Keeps.{serves-keeps}
use Rattle.controller_run.proofs.Begun.{begun-stays, listed-begun}
use Rattle.controller_run.specs.Keeping.{IsBegun, Keeps}
use Rattle.controller_run.specs.Shifts.{IsShift, Returns, Shift}

-- the same row twice, each element as one that stayed
pub each_stays : {P : Type 0} (tell : P → PortTrace) (migration : ℕ) (homes : List (Option ℕ)) (ports : List (SessionView P)) → LastStoryEach tell migration homes [] ports ports
each_stays tell migration homes [] = tt
each_stays tell migration homes (t ∷ ports) = (
  record { switch = refl; goes_on = stays (tell t.port); part = none_sent (tell t.port).offered (tell t.port).offered (frames_of migration (own homes t.switch [])) refl },
  each_stays tell migration homes ports,
)

module _ {P : Type 0} (tell : P → PortTrace) (o : Opening) (migration : ℕ) (homes : List (Option ℕ)) (rounds : ℕ) (log : List Written) (s : Shift P) (shift : IsShift tell o migration homes rounds log s) where
  abbrev Answered : Written → Type 0
  Answered w = w.note.seat ≡ s.given.seat → AreAnswered tell migration homes s.given.before.ports w.entries s.now.ports

  -- of what was seen before the first round
  before : All Answered s.given.before.seen
  before k d inside is op among = absurd (shift.quiet k d inside is op among)

  -- of what came past what the worker has seen
  past : All Answered shift.follows.past
  past k d inside is = absurd (shift.follows.none k d inside 0 s.given.seat (omega arith) (sym is))

  idle : s.now ≡ s.given.before → Keeps tell o migration homes log s
  idle same = record {
    sent = [];
    begun = All-nil _;
    story = subst (λ (ports : List (SessionView P)). LastStoryEach tell migration homes [] s.given.before.ports ports) (sym (ap (λ (b : Standing P). b.ports) same)) (each_stays tell migration homes s.given.before.ports);
    answered = subst (λ (ws : List Written). All Answered ws) (sym (shift.follows.is ∙ ap (λ (b : Standing P). b.seen ++ shift.follows.past) same)) (All-append Answered s.given.before.seen shift.follows.past before past);
  }

  served : (end : Wake) → Promises tell o s.given.seat migration homes rounds s.given.before end s.now → Keeps tell o migration homes log s
  served end promises = record {
    sent = listed;
    begun = λ k d inside. begun (slice_index_or listed k d) (Contains-get_or listed k d inside);
    story = promises.sent;
    answered = subst (λ (ws : List Written). All Answered ws) (sym parts) (All-append Answered s.given.before.seen (promises.more ++ shift.follows.past) before (All-append Answered promises.more shift.follows.past promises.answered past));
  }
    where
      listed : List Command
      listed = promises.listed

      parts : log ≡ s.given.before.seen ++ (promises.more ++ shift.follows.past)
      parts = shift.follows.is ∙ ap (λ (ws : List Written). ws ++ shift.follows.past) promises.goes_on ∙ append_assoc s.given.before.seen promises.more shift.follows.past

      begun : (c : Command) → Contains listed c → IsBegun o (history_of o log) c
      begun c among =
          let seen : List Written = s.given.before.seen ++ promises.more in
          let known = listed-begun o s.given.seat (switches_of s.given.before.ports) s.given.before.seen promises.more promises.listed promises.used c (subst (λ (ws : List Written). is_legal_shared o ws ≡ true) promises.goes_on promises.legal) promises.lists among in
          record {
            op = known.op;
            is = known.is;
            begun = subst (λ (ws : List Written). Contains (history_of o ws).entries (entry.Begin known.op)) (sym (shift.follows.is ∙ ap (λ (ws : List Written). ws ++ shift.follows.past) promises.goes_on)) (begun-stays o seen shift.follows.past (entry.Begin known.op) known.begun);
          }

-- either way
pub keeps : {P : Type 0} (tell : P → PortTrace) (o : Opening) (migration : ℕ) (homes : List (Option ℕ)) (rounds : ℕ) (log : List Written) (s : Shift P) → IsShift tell o migration homes rounds log s → Keeps tell o migration homes log s
keeps {P} tell o migration homes rounds log s shift = by_end s.end refl
  where
    live : All (λ (t : SessionView P). IsTrue t.stream.live) s.given.before.ports
    live k d inside = subst (λ (t : SessionView P). IsTrue t.stream.live) (sym (shift.fresh k d inside)) refl

    by_end : (end : Option Wake) → s.end ≡ end → Keeps tell o migration homes log s
    by_end None is = idle tell o migration homes rounds log s shift (subst (λ (e : Option Wake). Returns tell o s.given.seat migration homes rounds s.given.before e s.now) is shift.returns).0
    by_end (Some end) is =
        let returns = subst (λ (e : Option Wake). Returns tell o s.given.seat migration homes rounds s.given.before e s.now) is shift.returns in
        served tell o migration homes rounds log s shift end (serves-keeps tell o s.given.seat [] migration homes rounds s.given.before returns.0 end s.now live returns.1)
