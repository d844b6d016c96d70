use Rattle.std.proofs.Common.{◌≡◌, ◌∙◌, ◌-◌, ◌+◌, List, ℕ, length, take, drop, ap, subst, arith, length-drop, IfNone, IfSome}
use Rattle.std.proofs.lemmas.List.{take_rest}
use Rattle.lossy_link.specs.Incoming.{GivesNext, IsReadOut, Stream}
use Rattle.lossy_link.proofs.Readings.{gives_next, read_out, reading_on, stream_at}
use Rattle.lossy_link.proofs.incoming.Incoming.next.Goals as goal

pub invariant_of-self : goal.invariant_of-self
invariant_of-self c =
    let offered = c.self.inside.offered in
    let taken = c.self.inside.taken in
    let n = c.next_command-n.result.0 in
    let read = c.as_slice.result.now in
    let piece = take (length read - taken) (drop taken read) in
    let piece_is : piece ≡ drop taken offered = take_rest read taken ∙ ap (λ (xs : List ℕ). drop taken xs) c.as_slice.ensures in
    let fits = c.next_command-n.ensures.within in
    let inside = c.self.invariant.0 in
    (omega (arith, ap length piece_is, length-drop taken offered), reading_on offered taken c.self.inside.reader c.next_command-n.new.reader c.self.invariant.1 piece piece_is n fits c.next_command-n.result.1 c.next_command-n.ensures.advances)

pub returns-clause-given : goal.returns-clause-given
returns-clause-given c =
    let offered = c.self.inside.offered in
    let taken = c.self.inside.taken in
    let read = c.as_slice.result.now in
    let piece = take (length read - taken) (drop taken read) in
    let piece_is : piece ≡ drop taken offered = take_rest read taken ∙ ap (λ (xs : List ℕ). drop taken xs) c.as_slice.ensures in
    subst (λ (s : Stream). IfSome c.next_command-n.result.1 (λ c'. GivesNext s (stream_at offered (taken + c.next_command-n.result.0)) c')) c.self.view_is
    (gives_next offered taken c.self.inside.reader c.next_command-n.new.reader c.self.invariant.1 piece piece_is c.next_command-n.result.0 c.next_command-n.ensures.within c.next_command-n.result.1 c.next_command-n.ensures.advances c.next_command-n.ensures.some)

pub returns-clause-none : goal.returns-clause-none
returns-clause-none c =
    let offered = c.self.inside.offered in
    let taken = c.self.inside.taken in
    let read = c.as_slice.result.now in
    let piece = take (length read - taken) (drop taken read) in
    let piece_is : piece ≡ drop taken offered = take_rest read taken ∙ ap (λ (xs : List ℕ). drop taken xs) c.as_slice.ensures in
    subst (λ (s : Stream). IfNone c.next_command-n.result.1 (IsReadOut s (stream_at offered (taken + c.next_command-n.result.0)))) c.self.view_is
    (read_out offered taken c.self.inside.reader c.next_command-n.new.reader c.self.invariant.1 piece piece_is c.next_command-n.result.0 c.next_command-n.ensures.within c.next_command-n.result.1 c.next_command-n.ensures.advances c.next_command-n.ensures.all)
