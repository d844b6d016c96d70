-- Of an item whose home is none of a run's switches nothing was settled.
use Rattle.std.proofs.Common.{◌≡◌, ⊎_elim, ℕ, zero, suc, ◌+◌, Bool, true, false, ◌||◌, ◌==◌, if◌then◌else◌, List, [], ◌∷◌, Option, refl, sym, ap, ap₂, ◌∙◌, arith, eq-eqb}
use Rattle.std.specs.List.{Contains, list_any}
use Rattle.std.proofs.lemmas.Bool.{cases_Bool}
use Rattle.std.proofs.lemmas.List.Elements.{Contains-append_right}
use Rattle.std.proofs.lemmas.Bool.{false≢true}
use Rattle.std.proofs.lemmas.Bool.Decides.{Decides-eqb}
use Rattle.lists.proofs.Conditions.{or_second}
use Rattle.rollout_rules.specs.History.{History, dones_in, settled, with_entries}
use Rattle.rollout_rules.specs.declared.op.Op.{Op}
use Rattle.rollout_rules.specs.declared.op.Entry.{Entry}
use Rattle.rollout_rules.specs.declared.op.Entry.TheVariants.{Begin, Done}
use Rattle.rollout_laws.proofs.Histories.{settled-with}
use Rattle.shared_book.specs.declared.note.What.{What}
use Rattle.shared_book.specs.declared.note.What.TheVariants as what
use Rattle.shared_book.specs.declared.note.Written.{Written}
use Rattle.shared_book.specs.Histories.{added}
use Rattle.switch_ports.specs.Outboxes.{home_at}
use Rattle.controller_run.specs.PortRuns.{AreAtHome}
use Rattle.controller_run.proofs.Standing.{of_added}
use Rattle.swanroll_top.specs.Targets.{is_among}

-- a switch among these is found by its number
among-of : (switches : List ℕ) (w : ℕ) → Contains switches w → list_any (λ s. w == s) switches ≡ true
among-of [] w at = absurd (omega (arith, at.1))
among-of (v ∷ switches) w (zero, inside, is) = ap (λ (b : Bool). b || list_any (λ s. w == s) switches) (eq-eqb w v (sym is))
among-of (v ∷ switches) w (suc k, inside, is) = or_second (w == v) (list_any (λ s. w == s) switches) (among-of switches w (k, omega (arith, inside), is))

abbrev bit : Bool → ℕ
bit b = if b then 1 else 0

-- where no entry ends an operation of an item, none of it is counted
none-done : (es : List Entry) (n : ℕ) → ((op : Op) → Contains es (Done op) → op.item ≡ n → ⊥) → dones_in es n ≡ 0
none-done [] n never = refl
none-done (Begin op ∷ es) n never = none-done es n (λ other at. never other (Contains-append_right (Begin op ∷ []) es (Done other) at))
none-done (Done op ∷ es) n never = ⊎_elim
    (λ (here : (op.item == n) ≡ true). absurd (never op (0, omega arith, refl) ((Decides-eqb op.item n).0 here)))
    (λ (apart : (op.item == n) ≡ false). ap₂ (λ (a b : ℕ). a + b) (ap bit apart) (none-done es n (λ other at. never other (Contains-append_right (Done op ∷ []) es (Done other) at))))
    (cases_Bool (op.item == n))

nothing-in : (e : Entry) → Contains [] e → ⊥
nothing-in e at = absurd (omega (arith, at.1))

module _ (homes : List (Option ℕ)) (switches : List ℕ) (log : List Written) (at_home : AreAtHome homes log switches) (n : ℕ) (elsewhere : is_among switches (home_at homes n) ≡ false) where
  never-done : (op : Op) → Contains (added log) (Done op) → op.item ≡ n → ⊥
  never-done op at same =
      let home = at_home op (of_added log (Done op) at) in
      let is : is_among switches (home_at homes n) ≡ true = ap (λ (m : ℕ). is_among switches (home_at homes m)) (sym same) ∙ (ap (is_among switches) home.1 ∙ among-of switches home.0 home.2) in
      false≢true (sym elsewhere ∙ is)

  pub none-settled : (found : History) → settled (with_entries found (added log)) n ≡ settled found n
  none-settled found = let more = settled-with found (added log) n in let none = none-done (added log) n never-done in omega (arith, more, none)
