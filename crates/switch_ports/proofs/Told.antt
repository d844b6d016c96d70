-- From what a session's call says of its port to what a worker sees of it.
use Rattle.std.proofs.Math.Seq.{drop-append_seam, take-length}
use Rattle.std.proofs.Common.{◌≡◌, ℕ, ◌+◌, List, [], ◌++◌, length, take, drop, Option, Some, ◌-◌, refl, sym, ap, ap₂, ◌∙◌, length-append, subst, arith}
use Rattle.wan_edge.specs.Frames.{Answer, Command}
use Rattle.wan_edge.specs.Ports.{AppendsFront, GoesOn, PortTrace}
use Rattle.wan_edge.specs.Streams.{Appends, Rose}
use Rattle.wan_edge.proofs.Chains.{Appends-nothing, stays}
use Rattle.port_session.specs.Offers.{OffersUntil, frames_of}
use Rattle.port_session.specs.Reading.{Stream, answers_of}
use Rattle.port_session.specs.Sessions.{HearsAnswers, SessionView, awaiting, listening, uncounted}
use Rattle.port_session.specs.declared.fault.SessionFault.{SessionFault}
use Rattle.port_session.specs.declared.fault.SessionFault.TheVariants as fault
use Rattle.port_session.proofs.Hearing.{uncount}
use Rattle.switch_ports.specs.Views.{SessionTrace, view}
use Rattle.switch_ports.specs.Causes.{cause_of}
use Rattle.switch_ports.specs.Hearing.{IsHearCause, Listens}
use Rattle.switch_ports.specs.Offering.{Offers}

pub none_sent : (before now : Option (List ℕ)) (bytes : List ℕ) → now ≡ before → AppendsFront before bytes now
none_sent before now bytes same = record { count = 0; within = omega arith; appended = same ∙ Appends-nothing before }

pub all_sent : (before now : Option (List ℕ)) (bytes : List ℕ) → Appends before bytes now → AppendsFront before bytes now
all_sent before now bytes all = record { count = length bytes; within = omega arith; appended = subst (λ (bs : List ℕ). Appends before bs now) (sym (take-length bytes)) all }

-- what a fault says of the bytes that were to go out
pub until_sent : (why : SessionFault) (before now : Option (List ℕ)) (bytes : List ℕ) → OffersUntil why before bytes now → AppendsFront before bytes now
until_sent fault.Port before now bytes until = until
until_sent (fault.NoAnswer byte) before now bytes until = absurd until
until_sent fault.Memory before now bytes until = none_sent before now bytes until

-- what was told of late, apart from what was told before
pub told_apart : (migration : ℕ) (before now : Option (List ℕ)) (old new : Stream) (earlier all : List Answer) (why : Option SessionFault)
    → (hears : HearsAnswers migration (uncounted before old earlier) why (uncounted now new all))
    → (told : List Answer) × (all ≡ earlier ++ told) × (apart : HearsAnswers migration (uncounted before old []) why (uncounted now new told)) × (apart.reads.answers ≡ hears.reads.answers)
told_apart migration before now old new earlier all why hears = (
  answers_of migration hears.reads.answers,
  hears.reads.told_more,
  record {
    bytes = hears.bytes;
    appended = hears.appended;
    reads = record {
      answers = hears.reads.answers;
      rest = hears.reads.rest;
      whole = hears.reads.whole;
      told_more = refl;
      awaited_less = omega arith;
      ends = hears.reads.ends;
    };
  },
  refl,
)

-- what was appended, after what was there
pub behind : {A : Type 0} (xs ys all : List A) → all ≡ xs ++ ys → drop (length xs) all ≡ ys
behind xs ys all is = ap (drop (length xs)) is ∙ drop-append_seam xs ys

-- the same as a slice from there on
pub tail_told : (earlier told all before after : List Answer) → before ≡ earlier → after ≡ all → all ≡ earlier ++ told → take (length after - length before) (drop (length before) after) ≡ told
tail_told earlier told all before after first last is =
    let long : length all ≡ length earlier + length told = ap length is ∙ length-append earlier told in
    let dropped : drop (length before) after ≡ told = ap₂ (λ (xs : List Answer) (ys : List Answer). drop (length xs) ys) first last ∙ behind earlier told all is in
    ap₂ take (omega (arith, ap length first, ap length last, long)) dropped ∙ take-length told

module _ {P : Type 0} (tell : P → PortTrace) where
  -- a session that offered
  pub offers : (migration : ℕ) (commands : List Command) (a b : SessionView P) (count : ℕ) → b ≡ awaiting a b.port count → AppendsFront (tell a.port).offered (frames_of migration commands) (tell b.port).offered
      → (tell b.port).heard ≡ (tell a.port).heard → (tell b.port).quiet ≡ (tell a.port).quiet → GoesOn (tell a.port) (tell b.port) → Offers migration commands (view tell a) (view tell b)
  offers migration commands a b count is part unheard no_hear goes_on = record {
    switch = ap (λ t. t.switch) is;
    goes_on = goes_on;
    part = part;
    unheard = unheard;
    no_hear = no_hear;
    kept = ap (λ t. t.stream.kept) is;
    live = ap (λ t. t.stream.live) is;
  }

  -- a session's fault, where it heard
  pub hear_cause : (migration : ℕ) (homes : List (Option ℕ)) (a b : SessionView P) (earlier all : List Answer) (why : SessionFault)
      → HearsAnswers migration (listening (tell a.port).heard a.stream earlier) (Some why) (listening (tell b.port).heard b.stream all)
      → (why ≡ fault.Port → Rose (tell a.port).faults (tell b.port).faults) → IsHearCause migration homes (cause_of a.switch why) (view tell a) (view tell b)
  hear_cause migration homes a b earlier all fault.Port hears rose = (refl, rose refl)
  hear_cause migration homes a b earlier all (fault.NoAnswer byte) hears rose =
      let apart = told_apart migration (tell a.port).heard (tell b.port).heard a.stream b.stream earlier all (Some (fault.NoAnswer byte))
      (uncount migration (tell a.port).heard (tell b.port).heard a.stream b.stream earlier all (Some (fault.NoAnswer byte)) hears).0 in
      (refl, apart.0, apart.2)
  hear_cause migration homes a b earlier all fault.Memory hears rose = tt

-- nothing went out to a port, and nothing came from it
pub offers_nothing : (migration : ℕ) (commands : List Command) (v : SessionTrace) → Offers migration commands v v
offers_nothing migration commands v = record {
  switch = refl;
  goes_on = stays v.port;
  part = none_sent v.port.offered v.port.offered (frames_of migration commands) refl;
  unheard = refl;
  no_hear = refl;
  kept = refl;
  live = refl;
}

pub listens_to_nothing : (v : SessionTrace) → Listens v v
listens_to_nothing v = record { switch = refl; goes_on = stays v.port; unsent = refl }
