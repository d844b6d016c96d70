-- A team of which one worker is sent out.
use Rattle.std.proofs.Common.{◌≡◌, ℕ, ◌+◌, ◌≤◌, List, [], ◌∷◌, ◌++◌, IsPermutation, length, length-append, sym, ap, ap₂, ◌∙◌, subst, arith}
use Rattle.std.specs.Prelude.{All, nat_eq}
use Rattle.std.specs.List.{IsDistinct}
use Rattle.std.proofs.lemmas.List.Sorted.{IsPermutation-append_comm, length_permutation}
use Rattle.std.proofs.lemmas.Map.Keys.{IsDistinct-tail}
use Rattle.std.proofs.lemmas.List.{length-map}
use Rattle.turn_lock.specs.declared.counted.Counted.{Ghosts}
use Rattle.turn_lock.specs.declared.lock.TurnLock.{TurnLock}
use Rattle.turn_lock.specs.declared.pass.Pass.{Pass}
use Rattle.turn_lock.specs.Passes.{HasGiven, IsPassOf}
use Rattle.port_session.specs.Sessions.{SessionView, first_session}
use Rattle.switch_ports.specs.declared.ports.Berth.{Berth}
use Rattle.switch_ports.specs.Hands.{first_sessions}
use Rattle.shared_book.specs.declared.note.Written.{Written}
use Rattle.shared_book.specs.Calls.{IsCounted}
use Rattle.controller_run.specs.Promises.{StopsNothing}
use Rattle.controller_run.specs.Shifts.{AreFresh, HasTurned, IsQuiet}
use Rattle.controller_run.specs.Workers.{IsLeader, AreWorkers, all_ports, workers_ports}
use Rattle.controller_run.proofs.Rows.{all_pop, flat_push}
use Rattle.controller_run.proofs.Shuffles.{ends, handed_in, to_front}
use Rattle.controller_run.proofs.Taking.{apart_in_any_order, switches}

-- of rows whose switches are distinct, each part
pub distinct_behind : {P : Type 0} (ys xs : List (SessionView P)) → IsDistinct nat_eq (switches (ys ++ xs)) → IsDistinct nat_eq (switches xs)
distinct_behind [] xs apart = apart
distinct_behind (y ∷ ys) xs apart = distinct_behind ys xs (IsDistinct-tail nat_eq y.switch (switches (ys ++ xs)) apart)

pub distinct_front : {P : Type 0} (xs ys : List (SessionView P)) → IsDistinct nat_eq (switches (xs ++ ys)) → IsDistinct nat_eq (switches xs)
distinct_front xs ys apart = distinct_behind ys xs (apart_in_any_order (xs ++ ys) (ys ++ xs) (IsPermutation-append_comm xs ys) apart)

-- nobody else has ports
pub no_ports : {P : Type 0} (spare : List (Berth P)) (crews : List (List (SessionView P))) → spare ≡ [] → crews ≡ [] → first_sessions spare ++ all_ports crews ≡ []
no_ports spare crews none none' = ap₂ (λ (a : List (Berth _)) (b : List (List (SessionView _))). first_sessions a ++ all_ports b) none none'

module _ {P : Type 0} where
  -- the last worker's ports are the last ones
  pub last_ports : (own : List (SessionView P)) (spare : List (Berth P)) (crews rest : List (List (SessionView P))) (ports : List (SessionView P)) → crews ≡ rest ++ ports ∷ [] → workers_ports own spare crews ≡ own ++ (first_sessions spare ++ (all_ports rest ++ ports))
  last_ports own spare crews rest ports is = ap (λ (l : List (SessionView P)). own ++ (first_sessions spare ++ l)) (ap all_ports is ∙ flat_push (λ (l : List (SessionView P)). l) rest ports)

  pub more_ports : (own : List (SessionView P)) (spare : List (Berth P)) (crews rest : List (List (SessionView P))) (ports : List (SessionView P)) → crews ≡ rest ++ ports ∷ [] → workers_ports own spare crews ≡ workers_ports own spare rest ++ ports
  more_ports own spare crews rest ports is = last_ports own spare crews rest ports is ∙ ends own (first_sessions spare) (all_ports rest) ports

  module _ (own : List (SessionView P)) (spare : List (Berth P)) (most : ℕ) (crews rest : List (List (SessionView P))) (ports : List (SessionView P)) (team : AreWorkers own spare most crews) (is : crews ≡ rest ++ ports ∷ []) where
    parts : All (λ l. AreFresh l) rest × AreFresh ports
    parts = all_pop (λ (l : List (SessionView P)). AreFresh l) rest ports (subst (λ (ls : List (List (SessionView P))). All (λ l. AreFresh l) ls) is team.fresh)

    pub fresh_last : AreFresh ports
    fresh_last = parts.1

    apart : IsDistinct nat_eq (switches (own ++ (first_sessions spare ++ (all_ports rest ++ ports))))
    apart = subst (λ (l : List (SessionView P)). IsDistinct nat_eq (switches l)) (last_ports own spare crews rest ports is) team.apart

    room : length (own ++ (first_sessions spare ++ (all_ports rest ++ ports))) ≤ most
    room = subst (λ (l : List (SessionView P)). length l ≤ most) (last_ports own spare crews rest ports is) team.room

    -- what is left, where the first two parts have taken the last one over, or left some of it
    pub team_behind : (own' : List (SessionView P)) (spare' : List (Berth P)) (given : List (SessionView P)) → AreFresh own' → IsPermutation (own ++ (first_sessions spare ++ ports)) ((own' ++ first_sessions spare') ++ given) → AreWorkers own' spare' most rest
    team_behind own' spare' given fresh moved =
        let all = handed_in own (first_sessions spare) (all_ports rest) ports own' (first_sessions spare') given moved in
        record {
          own_fresh = fresh;
          fresh = parts.0;
          apart = distinct_front (workers_ports own' spare' rest) given (apart_in_any_order _ _ all apart);
          room = let long = length_permutation _ _ all in let sum = length-append (workers_ports own' spare' rest) given in omega (arith, room, long, sum);
        }

    -- the last worker is sent out with its ports
    pub team_without : AreWorkers own spare most rest
    team_without = record {
      own_fresh = team.own_fresh;
      fresh = parts.0;
      apart = distinct_front (workers_ports own spare rest) ports (subst (λ (l : List (SessionView P)). IsDistinct nat_eq (switches l)) (more_ports own spare crews rest ports is) team.apart);
      room = let sum = ap length (more_ports own spare crews rest ports is) ∙ length-append (workers_ports own spare rest) ports in omega (arith, team.room, sum);
    }

    -- there is room to take its ports over
    pub own_apart : IsDistinct nat_eq (switches (own ++ ports))
    own_apart = distinct_front (own ++ ports) (first_sessions spare ++ all_ports rest) (apart_in_any_order _ _ (to_front own (first_sessions spare) (all_ports rest) ports) apart)

    pub own_room : length spare + length ports ≤ most
    own_room =
        let a = length-append own (first_sessions spare ++ (all_ports rest ++ ports)) in
        let b = length-append (first_sessions spare) (all_ports rest ++ ports) in
        let c = length-append (all_ports rest) ports in
        let d = length-map spare (λ (b : Berth P). first_session b.switch b.port) in
        omega (arith, room, a, b, c, d)

-- the pass of seat 0, with a seat split off
pub leads_on : {V : Type 0} {C : Ghosts V Written} (lock : TurnLock V Written) (seats crews rest : ℕ) (p q : Pass V Written C) (calls calls' : ℕ) → IsLeader lock seats crews p calls → crews ≡ rest + 1 → HasGiven p q → IsPassOf lock q → IsCounted calls' q → IsLeader lock seats rest q calls'
leads_on lock seats crews rest p q calls calls' leads one given of_lock counted = record {
  of_lock = of_lock;
  counted = counted;
  first = given.seat ∙ leads.first;
  alone = given.joined ∙ leads.alone;
  some_seat = omega (arith, given.given);
  room = omega (arith, given.given, leads.room, one);
  few = leads.few;
  quiet = subst (λ (ws : List Written). IsQuiet 0 ws) (sym given.seen) leads.quiet;
  stops_nothing = subst (λ (ws : List Written). StopsNothing 0 ws) (sym given.seen) leads.stops_nothing;
  turned = subst HasTurned (sym given.seen) leads.turned;
}

pub leads_alone : {V : Type 0} {C : Ghosts V Written} (lock : TurnLock V Written) (seats crews : ℕ) (p : Pass V Written C) (calls : ℕ) → IsLeader lock seats crews p calls → IsLeader lock seats 0 p calls
leads_alone lock seats crews p calls leads = record {
  of_lock = leads.of_lock;
  counted = leads.counted;
  first = leads.first;
  alone = leads.alone;
  some_seat = leads.some_seat;
  room = omega (arith, leads.room);
  few = leads.few;
  quiet = leads.quiet;
  stops_nothing = leads.stops_nothing;
  turned = leads.turned;
}
