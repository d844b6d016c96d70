-- What begins no further command, and what commands one after the other add up to.
use Rattle.std.proofs.Common.{◌≡◌, ℕ, Bool, true, false, List, ◌++◌, length, get_or, refl, sym, ap, subst, ◌∙◌, arith}
use Rattle.std.specs.List.{flat_map}
use Rattle.std.proofs.lemmas.Grind.{flat_map-append}
use Rattle.std.proofs.lemmas.List.{get_or_at}
use Rattle.wan_edge.specs.Frames.{CommandFrame, IsCutCommand, answer_bytes, command_bytes, command_head}
use Rattle.wan_edge.specs.Ports.{BeginsNoCommand}
use Rattle.wan_edge.specs.Switches.{Holdings, after_commands, answers_to, holding_nothing}
use Rattle.wan_edge.proofs.Commands.{answers_to-append}
use Rattle.wire_frames.specs.Reading.{IsCommandFault}
use Rattle.wire_frames.specs.declared.fault.FrameFault.{FrameFault}
use Rattle.wire_frames.specs.declared.fault.FrameFault.TheVariants.{Count, Kind}
use Rattle.lossy_link.specs.Faithful.{bytes_to}
use Rattle.lossy_link.specs.Incoming.{GoesOnAs}
use Rattle.lossy_link.proofs.Ordered.{HasPairs, cut_begins_none}

-- no command begins with a fault
fault_begins_none : (rest : List ℕ) (fault : FrameFault) → IsCommandFault rest fault → BeginsNoCommand rest
unfolding command_bytes command_head
fault_begins_none rest (Kind byte) found c behind fits e = found.other (ap (λ (xs : List ℕ). get_or xs 0 0) (sym found.parts ∙ e))
fault_begins_none rest (Count byte) found c behind fits e =
    let count : byte ≡ length c.1.content = sym (get_or_at found.head byte found.behind 0 17 found.long) ∙ ap (λ (xs : List ℕ). get_or xs 17 0) (sym found.parts ∙ e) in
    let other = found.other in
    let some = fits.some in
    let few = fits.few in
    omega arith

pub goes_on_begins_none : (live : Bool) (kept rest : List ℕ) → GoesOnAs live kept rest → BeginsNoCommand rest
goes_on_begins_none true kept rest on = cut_begins_none rest (subst IsCutCommand (sym on.0) on.1)
goes_on_begins_none false kept rest on = fault_begins_none rest on.0 on.1

pub bytes_to-append : (held : Holdings) (xs ys : List CommandFrame) → bytes_to held (xs ++ ys) ≡ bytes_to held xs ++ bytes_to (after_commands held xs) ys
bytes_to-append held xs ys = ap (flat_map answer_bytes) (answers_to-append held xs ys) ∙ flat_map-append answer_bytes (answers_to held xs) (answers_to (after_commands held xs) ys)

pub no_pairs : HasPairs holding_nothing
no_pairs = record { migrations = λ item. omega arith; numbers = λ item. omega arith }
