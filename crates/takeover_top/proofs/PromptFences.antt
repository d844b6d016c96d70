-- What comes of fencing switches off over ports that are ready: their start, unless memory ran out, or the fleet or a port failed.
use Rattle.std.proofs.Common.{◌≡◌, ℕ, ◌<◌, ◌^◌, Bool, true, List, length, slice_index, Option, Some, None, is_some, option_map, if◌then◌else◌, Ok, Err, inl, inr, refl, sym, ap, ◌∙◌, subst, arith, lt-ltb}
use Rattle.std.specs.Prelude.{IfSome}
use Rattle.std.proofs.lemmas.Bool.{cases_lt, eq-eqb, false≢true, ne_eqb}
use Rattle.lists.proofs.Conditions.{some_same_is}
use Rattle.rollout_rules.specs.Agent.{pair_of}
use Rattle.rollout_rules.specs.History.{settled, started}
use Rattle.rollout_rules.specs.Items.{item_at, item_count}
use Rattle.rollout_rules.specs.Legal.{is_sound}
use Rattle.rollout_rules.specs.Network.{IsNetwork}
use Rattle.rollout_rules.specs.Operations.{operations}
use Rattle.rollout_rules.specs.Wan.{Rollout}
use Rattle.rollout_rules.specs.declared.held.Held.{Held}
use Rattle.rollout_rules.proofs.Rows.{list_below-same}
use Rattle.rollout_laws.proofs.Histories.{sound-exist}
use Rattle.rollback_service.proofs.Placings.{settled-start}
use Rattle.wan_edge.specs.Ports.{PortTrace}
use Rattle.switch_ports.specs.Berths.{FleetPorts}
use Rattle.held_service.specs.Noting.{Notes, noted_at}
use Rattle.held_service.specs.Questions.{asked_homes, asked_switches, has_items, items_at}
use Rattle.held_service.specs.Visits.{TellsAll}
use Rattle.held_service.specs.declared.not_told.NotTold.{NotTold}
use Rattle.held_service.specs.declared.not_told.NotTold.TheVariants as cause
use Rattle.fence_takeover.specs.Ends.{end_of}
use Rattle.fence_takeover.specs.Fences.{Fences}
use Rattle.fence_takeover.specs.Starts.{IsRefused, IsUntaken, number_in, taken_start}
use Rattle.fence_takeover.specs.declared.end.FenceEnd.{FenceEnd}
use Rattle.fence_takeover.specs.declared.end.FenceEnd.TheVariants as fence
use Rattle.takeover_top.specs.ReadyToTake.{IsOfStart}
use Rattle.takeover_top.proofs.PromptHomes.{asked-of, at-some, home-low, passing-has}
use Rattle.takeover_top.proofs.PromptVisits.{AreHere, HasFailed, HaveTold, IsExcused, below-told, fails-only}

number-of : (migration number : ℕ) (held : Held) → IsOfStart migration number held → number_in migration (Some held) ≡ number
number-of migration number held is = elim is.pair [
  | inl same ↦ ap (λ (h : Held). number_in migration (Some h)) same ∙ ap (λ (b : Bool). if b then number else 0) (eq-eqb migration migration refl)
  | inr earlier ↦ ap (λ (b : Bool). if b then held.number else 0) (ne_eqb held.migration migration (λ same. omega (arith, same, earlier.0))) ∙ sym earlier.1
]

module _ {P : Type 0} (tell : P → PortTrace) (r : Rollout) (net : IsNetwork r.problem) (migration : ℕ) (fits : migration < 2 ^ 32) (start : List ℕ) (long : length start ≡ item_count r.problem) (sound : is_sound r.problem r.plan start ≡ true) (limit : ℕ) (some : 0 < limit) (firsts : ℕ → Option P)
    (before : FleetPorts P) (here : AreHere tell r net migration fits start limit some firsts before) (now : FleetPorts P) where
  abbrev homes : List (Option ℕ)
  homes = asked_homes r.problem r.plan

  abbrev Failed : Type 0
  Failed = HasFailed tell r net migration fits start limit some firsts now

  -- memory ran out, there was no port, or one failed
  abbrev pub IsFenceExcused : FenceEnd → Type 0
  IsFenceExcused (fence.NoPort w) = Unit {0}
  IsFenceExcused (fence.Port w) = Failed
  IsFenceExcused (fence.Above item held count) = ⊥
  IsFenceExcused (fence.Later item found) = ⊥
  IsFenceExcused (fence.NotMine w item) = ⊥
  IsFenceExcused (fence.NoAnswer w byte) = ⊥
  IsFenceExcused (fence.Spent rounds item) = ⊥
  IsFenceExcused fence.Memory = Unit {0}

  of-why : (why : NotTold) → IsExcused tell r net migration fits start limit some firsts now why → IsFenceExcused (end_of limit why)
  of-why (cause.Spent item) excused = excused
  of-why (cause.NoPort w) excused = tt
  of-why (cause.Port w) excused = excused
  of-why (cause.NotAsked w item) excused = excused
  of-why (cause.NoAnswer w byte) excused = excused
  of-why cause.Memory excused = tt

  -- ---- where all told

  module _ (notes : Notes) (tells : TellsAll tell r.problem r.plan migration limit before now notes) where
    told : HaveTold tell r net migration fits start limit some firsts (asked_switches homes (length r.problem.switches)) now notes
    told = below-told tell r net migration fits start limit some firsts (length r.problem.switches) before now notes tells here

    -- an item with an operation was told of
    noted-some : (n : ℕ) → n < item_count r.problem → 0 < operations r.problem r.plan (item_at r.problem n) → is_some (noted_at notes n) ≡ true
    noted-some n low more =
        let found = at-some r.problem net r.plan n low more in
        let item = asked-of r.problem net r.plan found.0 n found.1 in
        told.told found.0
        (passing-has (length r.problem.switches) (has_items homes) found.0 (home-low r.problem net n found.0 low found.1.home) (lt-ltb 0 (length (items_at homes found.0)) (omega (arith, item.1)))) n item

    by-note : (n : ℕ) → n < item_count r.problem → (o : Option Held) → noted_at notes n ≡ o → number_in migration o ≡ settled (started start) n
    by-note n low None is = elim (cases_lt 0 (operations r.problem r.plan (item_at r.problem n))) [
      | inl more ↦ absurd (false≢true (sym (ap is_some is) ∙ noted-some n low more))
      | inr none ↦ omega (arith, none, sound-exist r.problem r.plan start sound n low)
    ]
    by-note n low (Some held) is =
        let right : IsOfStart migration (slice_index start n) held = subst (λ (o : Option Held). IfSome o (λ h. IsOfStart migration (slice_index start n) h)) is (told.right n) in
        omega (arith, number-of migration (slice_index start n) held right)

    pub start-told : taken_start r.problem migration notes ≡ start
    start-told =
        list_below-same (item_count r.problem) (λ n. number_in migration (noted_at notes n)) (settled (started start)) (λ n low. by-note n low (noted_at notes n) refl)
        ∙ settled-start (item_count r.problem) start long

    -- ---- what was told may be taken over

    right-at : (n : ℕ) (held : Held) → noted_at notes n ≡ Some held → IsOfStart migration (slice_index start n) held
    right-at n held is = subst (λ (o : Option Held). IfSome o (λ h. IsOfStart migration (slice_index start n) h)) is (told.right n)

    not-above : (n held : ℕ) → n < item_count r.problem → operations r.problem r.plan (item_at r.problem n) < held → IsOfStart migration (slice_index start n) (pair_of migration held) → ⊥
    not-above n held low above is = elim is.pair [
      | inl same ↦ omega (arith, above, ap (λ (h : Held). h.number) same, sound-exist r.problem r.plan start sound n low)
      | inr earlier ↦ omega (arith, earlier.0)
    ]

    not-later : (n found : ℕ) (o : Option Held) → noted_at notes n ≡ o → option_map (λ (h : Held). h.migration) o ≡ Some found → migration < found → ⊥
    not-later n found None is found_is later = let no : ◌≡◌ {A = Option ℕ} None (Some found) = found_is in cc no
    not-later n found (Some held) is found_is later =
        let same : held.migration ≡ found = some_same_is held.migration found found_is in
        elim (right-at n held is).pair [
          | inl own ↦ omega (arith, later, same, ap (λ (h : Held). h.migration) own)
          | inr earlier ↦ omega (arith, later, same, earlier.0)
        ]

    refused-never : (end : FenceEnd) (n : ℕ) → n < item_count r.problem → IsRefused migration n (operations r.problem r.plan (item_at r.problem n)) (noted_at notes n) end → ⊥
    refused-never (fence.NoPort w) n low refused = refused
    refused-never (fence.Port w) n low refused = refused
    refused-never (fence.Above i held count) n low refused = not-above n held low (omega (arith, refused.1.above, refused.1.count_is)) (right-at n (pair_of migration held) refused.1.noted_is)
    refused-never (fence.Later i found) n low refused = not-later n found (noted_at notes n) refl refused.1.found_is refused.1.later
    refused-never (fence.NotMine w i) n low refused = refused
    refused-never (fence.NoAnswer w byte) n low refused = refused
    refused-never (fence.Spent rounds i) n low refused = refused
    refused-never fence.Memory n low refused = refused

    pub untaken-never : (end : FenceEnd) → IsUntaken r.problem r.plan migration notes end → ⊥
    untaken-never end untaken = refused-never end untaken.item untaken.inside untaken.refused

  -- ---- what comes of it

  pub fences-only : (end : FenceEnd) → Fences {P = P} (Err end) tell r.problem r.plan migration limit before now → IsFenceExcused end
  fences-only end (inl untold) = subst IsFenceExcused (sym untold.end_is) (of-why untold.why (fails-only tell r net migration fits start limit some firsts before now here untold.why untold.fails))
  fences-only end (inr stopped) = elim stopped.why [
    | inl memory ↦ subst IsFenceExcused (sym memory) tt
    | inr untaken ↦ absurd (untaken-never stopped.notes stopped.tells end untaken)
  ]

  pub fences-start : (found : List ℕ) → Fences (Ok found) tell r.problem r.plan migration limit before now → (found ≡ start) × AreHere tell r net migration fits start limit some firsts now
  fences-start found fenced = (fenced.taken.start_is ∙ start-told fenced.notes fenced.tells, (told fenced.notes fenced.tells).here)
