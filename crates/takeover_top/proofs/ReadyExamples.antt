-- Small fleets that a takeover may find, of which the worked examples speak.
use Rattle.std.proofs.Common.{◌≡◌, ℕ, ◌<◌, List, [], ◌∷◌, ◌==◌, if◌then◌else◌, length, slice_index, Some, None, refl, sym, ap, ◌∙◌, subst, inl, inr, arith, length-append}
use Rattle.std.proofs.lemmas.List.Elements.{All-nil}
use Rattle.std.specs.List.{flat_map}
use Rattle.rollout_rules.specs.Agent.{pair_of}
use Rattle.rollout_rules.specs.History.{started}
use Rattle.rollout_rules.specs.Items.{item_count}
use Rattle.rollout_rules.specs.Legal.{unsettled}
use Rattle.rollout_rules.specs.declared.held.Held.{Held}
use Rattle.rollout_rules.proofs.Rows.{list_below-at}
use Rattle.wan_edge.specs.Frames.{CommandFrame, IsCommand, answer_bytes, command_bytes}
use Rattle.wan_edge.specs.Ports.{PortTrace}
use Rattle.wan_edge.specs.Switches.{Holdings, after_commands, answers_to}
use Rattle.wan_edge.proofs.Sizes.{command-some}
use Rattle.port_session.specs.Offers.{frames_of}
use Rattle.port_session.specs.Sessions.{first_session}
use Rattle.port_session.proofs.Hearing.{length-answers}
use Rattle.switch_ports.specs.Views.{view}
use Rattle.switch_laws.specs.Worked.{first_command, two_flows}
use Rattle.completion_laws.proofs.Prompt.{as-many}
use Rattle.swanroll_top.specs.Worked.{in_rounds, itself, never_used, unanswered, waiting_at_first}
use Rattle.swanroll_top.proofs.ReadyFleets.{at_first}
use Rattle.takeover_top.specs.ReadyToTake.{IsOfStart, IsReadyToTake, IsReadyToTell}
use Rattle.takeover_top.specs.WorkedTakeovers.{ahead, left_by_fifth, none_settled}

pub never-ready : IsReadyToTake itself (in_rounds 4) (waiting_at_first never_used) two_flows none_settled
never-ready = record {
  small = omega arith;
  long = refl;
  sound = refl;
  ports = λ switch. (if switch == 0 then Some never_used else None);
  told = refl;
  each = (
    record {
      port = never_used;
      waits = refl;
      ready = record {
        commands = [];
        answered = record { prompt = refl; fit = All-nil IsCommand; offered = refl; heard = refl; held = refl; none_kept = refl; none_owed = refl };
        holds = λ n low home. record { pair = inr (omega arith, none-settled n low); migration_fits = omega arith; number_fits = omega arith };
      };
    },
    tt,
  );
  some = omega arith;
  enough = let four : unsettled two_flows.problem two_flows.plan (started none_settled) ≡ 4 = refl in omega (arith, four);
}
  where
    none-settled : (n : ℕ) → n < item_count two_flows.problem → slice_index none_settled n ≡ 0
    none-settled n low = list_below-at (item_count two_flows.problem) (λ _. 0) n 0 low

pub few-not : IsReadyToTake itself (in_rounds 3) (waiting_at_first never_used) two_flows none_settled → ⊥
few-not ready = let four : unsettled two_flows.problem two_flows.plan (started none_settled) ≡ 4 = refl in omega (arith, four, ready.enough)

pub untold-not : IsReadyToTake itself (in_rounds 4) None two_flows none_settled → ⊥
untold-not ready = absurd (cc (ready.told))

-- what is so of the port that waits
first-port : (port : PortTrace) (rounds : ℕ) → IsReadyToTake itself (in_rounds rounds) (waiting_at_first port) two_flows none_settled → IsReadyToTell two_flows 4 none_settled (view itself (first_session 0 port))
first-port port rounds ready =
    let first = ready.each.0 in
    let waits : Some port ≡ Some first.port = ap at_first ready.told ∙ first.waits in
    let same : first.port ≡ port = sym (cc waits) in
    subst (λ (p : PortTrace). IsReadyToTell two_flows 4 none_settled (view itself (first_session 0 p))) same first.ready

some-heard : (start : Holdings) (commands : List CommandFrame) (bytes : List ℕ) → 0 < length bytes → Some bytes ≡ Some (flat_map command_bytes commands) → Some [] ≡ Some (flat_map answer_bytes (answers_to start commands)) → ⊥
some-heard start [] bytes some offered heard = let same : bytes ≡ [] = cc offered in omega (arith, some, ap (λ (xs : List ℕ). length xs) same)
some-heard start (c ∷ commands) bytes some offered heard =
    let same : [] ≡ flat_map answer_bytes (answers_to start (c ∷ commands)) = cc heard in
    omega (arith, ap (λ (xs : List ℕ). length xs) same, length-answers (answers_to start (c ∷ commands)), as-many start (c ∷ commands))

one-frame : 0 < length (frames_of 4 (first_command ∷ []))
one-frame = omega (arith, command-some (4, first_command), length-append (command_bytes (4, first_command)) [])

pub unanswered-not : IsReadyToTake itself (in_rounds 4) (waiting_at_first unanswered) two_flows none_settled → ⊥
unanswered-not ready =
    let first = first-port unanswered 4 ready in
    some-heard unanswered.start first.commands (frames_of 4 (first_command ∷ [])) one-frame first.answered.offered first.answered.heard

none-offered : (commands : List CommandFrame) → Some [] ≡ Some (flat_map command_bytes commands) → commands ≡ []
none-offered [] offered = refl
none-offered (c ∷ commands) offered =
    let same : [] ≡ flat_map command_bytes (c ∷ commands) = cc offered in
    absurd (omega (arith, ap (λ (xs : List ℕ). length xs) same, length-append (command_bytes c) (flat_map command_bytes commands), command-some c))

not-of-start : (number : ℕ) → IsOfStart 4 number (pair_of 5 1) → ⊥
not-of-start number is = elim is.pair [
  | inl same ↦ omega (arith, ap (λ (h : Held). h.migration) same)
  | inr earlier ↦ omega (arith, earlier.0)
]

pub ahead-not : IsReadyToTake itself (in_rounds 4) (waiting_at_first ahead) two_flows none_settled → ⊥
ahead-not ready =
    let first = first-port ahead 4 ready in
    let none = none-offered first.commands first.answered.offered in
    let many : item_count two_flows.problem ≡ 17 = refl in
    not-of-start 0 (subst (λ (cs : List CommandFrame). IsOfStart 4 0 (after_commands left_by_fifth cs 0).held) none (first.holds 0 (omega (arith, many)) refl))
