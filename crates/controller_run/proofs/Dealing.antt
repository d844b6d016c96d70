-- A team to which berths were dealt, and how its ports are given back.
use Rattle.std.proofs.Common.{◌≡◌, ◌⊎◌, ℕ, ◌<◌, ◌≤◌, List, [], ◌∷◌, ◌++◌, IsPermutation, append_assoc, length, length-append, max, slice_index_or, inl, inr, refl, sym, ap, ap₂, ◌∙◌, subst, arith}
use Rattle.std.specs.Prelude.{All, nat_eq}
use Rattle.std.specs.List.{Contains, IsDistinct}
use Rattle.std.proofs.lemmas.List.Elements.{All-contains, Contains-append_left, Contains-append_right, Contains-get_or}
use Rattle.std.proofs.lemmas.List.Sorted.{All-permutation, IsPermutation-append_comm, IsPermutation-trans, length_permutation}
use Rattle.std.proofs.lemmas.List.{length-map}
use Rattle.port_session.specs.Sessions.{SessionView, first_session}
use Rattle.switch_ports.specs.declared.ports.Berth.{Berth}
use Rattle.switch_ports.specs.Berths.{AreApart, AreLent, FleetPorts, after_keeping}
use Rattle.switch_ports.specs.Hands.{all_berths, berths_of, first_sessions, hand_count, hands}
use Rattle.switch_ports.proofs.Given.{keep_row, rest_apart, rest_lent_row, row_apart, row_lent, berths_append}
use Rattle.switch_ports.proofs.Turns.{hands_long}
use Rattle.controller_run.specs.Workers.{AreWorkers, all_ports, workers_ports}
use Rattle.controller_run.proofs.Dealt.{all_dealt}
use Rattle.controller_run.proofs.Hands.{same_berths}
use Rattle.controller_run.proofs.Kept.{distinct_of}
use Rattle.controller_run.proofs.Over.{all_fresh, talks_switches}
use Rattle.controller_run.proofs.RunPorts.{in_all}
use Rattle.controller_run.proofs.Rows.{flat_push}
use Rattle.controller_run.proofs.Shuffles.{same}
use Rattle.controller_run.proofs.Taking.{apart_in_any_order}

module _ {P : Type 0} (workers : ℕ) (berths : List (Berth P)) (dealt : List (List (SessionView P))) (deals : dealt ≡ hands (hand_count workers (length berths)) berths) where
  dealt_ports : IsPermutation (first_sessions berths) (all_ports dealt)
  dealt_ports = subst (λ (ls : List (List (SessionView P))). IsPermutation (first_sessions berths) (all_ports ls)) (sym deals) (all_dealt workers berths)

  -- the last hand is the caller's
  with_last : (rest : List (List (SessionView P))) (own : List (SessionView P)) → dealt ≡ rest ++ own ∷ [] → IsPermutation (first_sessions berths) (workers_ports own [] rest)
  with_last rest own is =
      IsPermutation-trans _ _ _ dealt_ports
      (IsPermutation-trans _ _ _ (same _ _ (ap all_ports is ∙ flat_push (λ (l : List (SessionView P)). l) rest own)) (IsPermutation-append_comm (all_ports rest) own))

  with_none : (rest : List (List (SessionView P))) → dealt ≡ [] → rest ≡ [] → IsPermutation (first_sessions berths) (workers_ports [] [] rest)
  with_none rest is left = IsPermutation-trans _ _ _ dealt_ports (same _ _ (ap all_ports is ∙ sym (ap all_ports left)))

  few_last : (rest : List (List (SessionView P))) (own : List (SessionView P)) → dealt ≡ rest ++ own ∷ [] → length rest < max 1 workers
  few_last rest own is =
      let long = ap length deals ∙ hands_long (hand_count workers (length berths)) berths in
      let more = ap length is ∙ length-append rest (own ∷ []) in
      omega (arith, long, more)

  -- either way
  pub taken : (rest : List (List (SessionView P))) (own : List (SessionView P)) → (dealt ≡ rest ++ own ∷ []) ⊎ ((dealt ≡ []) × (rest ≡ []) × (own ≡ [])) → IsPermutation (first_sessions berths) (workers_ports own [] rest)
  taken rest own (inl is) = with_last rest own is
  taken rest own (inr (none, left, idle)) = subst (λ (l : List (SessionView P)). IsPermutation (first_sessions berths) (workers_ports l [] rest)) (sym idle) (with_none rest none left)

  pub few_left : (rest : List (List (SessionView P))) (own : List (SessionView P)) → (dealt ≡ rest ++ own ∷ []) ⊎ ((dealt ≡ []) × (rest ≡ []) × (own ≡ [])) → length rest < max 1 workers
  few_left rest own (inl is) = few_last rest own is
  few_left rest own (inr (none, left, idle)) = let long = ap length left in omega (arith, long)

module _ {P : Type 0} where
  -- what holds of a row holds of its parts
  each : (Q : SessionView P → Type 0) (xs ys : List (SessionView P)) → ((t : SessionView P) → Contains xs t → Contains ys t) → All Q ys → All Q xs
  each Q xs ys among all k d inside = All-contains Q ys (slice_index_or xs k d) all (among (slice_index_or xs k d) (Contains-get_or xs k d inside))

  pub team_of : (berths : List (Berth P)) (own : List (SessionView P)) (most : ℕ) (rest : List (List (SessionView P))) → AreApart berths → IsPermutation (first_sessions berths) (workers_ports own [] rest) → length berths ≤ most → AreWorkers own [] most rest
  team_of berths own most rest apart deals room =
      let Fresh : SessionView P → Type 0 = λ t. t ≡ first_session t.switch t.port in
      let all : All Fresh (own ++ all_ports rest) = All-permutation Fresh (first_sessions berths) (own ++ all_ports rest) deals (all_fresh berths) in
      record {
        own_fresh = each Fresh own (own ++ all_ports rest) (λ t at. Contains-append_left own (all_ports rest) t at) all;
        fresh = λ k d inside. each Fresh (slice_index_or rest k d) (own ++ all_ports rest) (λ t at. Contains-append_right own (all_ports rest) t (in_all (λ (l : List (SessionView P)). l) rest (slice_index_or rest k d) t (Contains-get_or rest k d inside) at)) all;
        apart = apart_in_any_order (first_sessions berths) (workers_ports own [] rest) deals (subst (λ (l : List ℕ). IsDistinct nat_eq l) (sym (talks_switches berths)) (distinct_of berths apart));
        room = let long = length_permutation (first_sessions berths) (workers_ports own [] rest) deals in let many = length-map berths (λ (b : Berth P). first_session b.switch b.port) in omega (arith, room, long, many);
      }

  -- ---- given back
  berths_of_all : (crews : List (List (SessionView P))) → berths_of (all_ports crews) ≡ all_berths crews
  berths_of_all [] = refl
  berths_of_all (c ∷ crews) = berths_append c (all_ports crews) ∙ ap (λ (bs : List (Berth P)). berths_of c ++ bs) (berths_of_all crews)

  team_berths : (own : List (SessionView P)) (spare : List (Berth P)) (crews : List (List (SessionView P))) → berths_of (workers_ports own spare crews) ≡ (berths_of own ++ spare) ++ all_berths crews
  team_berths own spare crews =
      berths_append own (first_sessions spare ++ all_ports crews)
      ∙ ap (λ (bs : List (Berth P)). berths_of own ++ bs) (berths_append (first_sessions spare) (all_ports crews) ∙ ap₂ (λ (a b : List (Berth P)). a ++ b) (same_berths spare) (berths_of_all crews))
      ∙ sym (append_assoc (berths_of own) spare (all_berths crews))

  module _ (own : List (SessionView P)) (spare : List (Berth P)) (crews : List (List (SessionView P))) (apart : AreApart (berths_of (workers_ports own spare crews))) where
    abbrev all : List (Berth P)
    all = berths_of (workers_ports own spare crews)

    abbrev front : List (Berth P)
    front = berths_of own ++ spare

    parts : all ≡ front ++ all_berths crews
    parts = team_berths own spare crews

    pub crews_apart : AreApart (all_berths crews)
    crews_apart = row_apart front (all_berths crews) all parts apart

    front_apart : AreApart front
    front_apart = rest_apart front all (all_berths crews) parts apart

    pub spare_apart : AreApart spare
    spare_apart = row_apart (berths_of own) spare front refl front_apart

    pub own_apart : AreApart (berths_of own)
    own_apart = rest_apart (berths_of own) front spare refl front_apart

    module _ (before : FleetPorts P) (lent : AreLent before.lent (berths_of (workers_ports own spare crews))) where
      pub crews_lent : AreLent before.lent (all_berths crews)
      crews_lent = row_lent before.lent front (all_berths crews) all parts lent

      module _ (first : FleetPorts P) (first_is : first ≡ after_keeping before (all_berths crews)) where
        front_lent : AreLent first.lent front
        front_lent = rest_lent_row before first front (all_berths crews) all parts first_is apart lent

        pub spare_lent : AreLent first.lent spare
        spare_lent = row_lent first.lent (berths_of own) spare front refl front_lent

        module _ (second : FleetPorts P) (second_is : second ≡ after_keeping first spare) where
          pub own_lent : AreLent second.lent (berths_of own)
          own_lent = rest_lent_row first second (berths_of own) spare front refl second_is front_apart front_lent

          pub kept_all : (third : FleetPorts P) → third ≡ after_keeping second (berths_of own) → third ≡ after_keeping before (berths_of (workers_ports own spare crews))
          kept_all third third_is = third_is ∙ keep_row first second (berths_of own) spare front refl second_is ∙ keep_row before first front (all_berths crews) all parts first_is
