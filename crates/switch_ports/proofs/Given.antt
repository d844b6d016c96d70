-- Berths whose ports were given, and those that are given back.
use Rattle.std.proofs.Common.{◌≡◌, ℕ, arith, Bool, true, false, cond, List, [], ◌∷◌, ◌++◌, Option, Some, None, nat_eq, refl, sym, ap, ◌∙◌, subst, option_map, append-nil, append_assoc}
use Rattle.std.specs.Cmp.{nat_eq_equiv}
use Rattle.std.specs.Prelude.{IfSome}
use Rattle.std.specs.List.{AllByRecursion, IsDistinct}
use Rattle.rollout_rules.specs.Wan.{Problem}
use Rattle.wan_edge.specs.Fleets.{GivesPort, marked, with_one, without}
use Rattle.wan_edge.specs.Ports.{PortTrace}
use Rattle.port_session.specs.Sessions.{SessionView}
use Rattle.switch_ports.specs.Rows.{IsLast}
use Rattle.switch_ports.specs.declared.ports.Berth.{Berth}
use Rattle.switch_ports.specs.Berths.{AreApart, AreLent, AreNamed, FleetPorts, after_keeping, after_opening, marked_each, named_each, own_name, switches_of, with_each, without_each}
use Rattle.switch_ports.specs.Hands.{all_berths, berths_of}
use Rattle.switch_ports.specs.Opening.{AreGiven, GivesBack, IsGiven, Opens, OpensUntil, StopsAt}
use Rattle.switch_ports.proofs.Places.{back, each_named, marked_append, marked_more, named_more, named_others, put_again, remarked, switches_append, with_append, without_more, without_others, without_some}

module _ {X : Type 0} (R : X → Type 0) where
  pub all_front : (xs ys : List X) → AllByRecursion R (xs ++ ys) → AllByRecursion R xs
  all_front [] ys each = tt
  all_front (x ∷ xs) ys each = (each.0, all_front xs ys each.1)

  pub all_behind : (xs ys : List X) → AllByRecursion R (xs ++ ys) → AllByRecursion R ys
  all_behind [] ys each = each
  all_behind (x ∷ xs) ys each = all_behind xs ys each.1

  pub all_both : (xs ys : List X) → AllByRecursion R xs → AllByRecursion R ys → AllByRecursion R (xs ++ ys)
  all_both [] ys first rest = rest
  all_both (x ∷ xs) ys first rest = (first.0, all_both xs ys first.1 rest)

pub all_to : {X : Type 0} (R Q : X → Type 0) → ((x : X) → R x → Q x) → (xs : List X) → AllByRecursion R xs → AllByRecursion Q xs
all_to R Q to [] each = tt
all_to R Q to (x ∷ xs) each = (to x each.0, all_to R Q to xs each.1)

-- ---- no two of one switch
module _ {P : Type 0} where
  pub apart_front : (bs cs : List (Berth P)) → AreApart (bs ++ cs) → AreApart bs
  apart_front [] cs apart = tt
  apart_front (b ∷ bs) cs apart = (all_front (λ c. nat_eq b.switch c.switch ≡ false) bs cs apart.0, apart_front bs cs apart.1)

  pub apart_behind : (bs cs : List (Berth P)) → AreApart (bs ++ cs) → AreApart cs
  apart_behind [] cs apart = apart
  apart_behind (b ∷ bs) cs apart = apart_behind bs cs apart.1

  switches_apart : (b : Berth P) (bs : List (Berth P)) → AllByRecursion (λ n. nat_eq b.switch n ≡ false) (switches_of bs) → AllByRecursion (λ c. nat_eq b.switch c.switch ≡ false) bs
  switches_apart b [] apart = tt
  switches_apart b (c ∷ cs) apart = (apart.0, switches_apart b cs apart.1)

  -- where the switches are distinct
  pub apart_by : (bs : List (Berth P)) → IsDistinct nat_eq (switches_of bs) → AreApart bs
  unfolding IsDistinct
  apart_by [] distinct = tt
  apart_by (b ∷ bs) distinct = (switches_apart b bs distinct.0, apart_by bs distinct.1)

  -- a switch that none of these has keeps its mark
  marked_others : (marks : ℕ → Bool) (mark : Bool) (n : ℕ) (bs : List (Berth P)) → AllByRecursion (λ c. nat_eq n c.switch ≡ false) bs → marked_each marks (switches_of bs) mark n ≡ marks n
  marked_others marks mark n [] apart = refl
  marked_others marks mark n (b ∷ bs) apart = ap (λ c. cond c mark (marked_each marks (switches_of bs) mark n)) apart.0 ∙ marked_others marks mark n bs apart.1

  -- once the ports of those after are given back, those in front are lent still
  pub lent_front : (lent : ℕ → Bool) (bs cs : List (Berth P)) → AreApart (bs ++ cs) → AreLent lent (bs ++ cs) → AreLent (marked_each lent (switches_of cs) false) bs
  lent_front lent [] cs apart each = tt
  lent_front lent (b ∷ bs) cs apart each = (
    marked_others lent false b.switch cs (all_behind (λ c. nat_eq b.switch c.switch ≡ false) bs cs apart.0) ∙ each.0,
    lent_front lent bs cs apart.1 each.1,
  )

  stays_lent : (marks : ℕ → Bool) (n : ℕ) (bs : List (Berth P)) → AreLent marks bs → AreLent (marked marks n true) bs
  stays_lent marks n [] each = tt
  stays_lent marks n (b ∷ bs) each = (here (nat_eq b.switch n), stays_lent marks n bs each.1)
    where
      here : (at : Bool) → cond at true (marks b.switch) ≡ true
      here true = refl
      here false = each.0

  -- what is marked as lent is
  pub all_lent : (marks : ℕ → Bool) (bs : List (Berth P)) → AreLent (marked_each marks (switches_of bs) true) bs
  all_lent marks [] = tt
  all_lent marks (b ∷ bs) = (
    ap (λ c. cond c true (marked_each marks (switches_of bs) true b.switch)) (nat_eq_equiv.refl b.switch),
    stays_lent (marked_each marks (switches_of bs) true) b.switch bs (all_lent marks bs),
  )

  -- ---- given back
  told_again : (waiting : Option (ℕ → Option P)) (bs cs : List (Berth P)) → option_map (λ w. with_each w (bs ++ cs)) waiting ≡ option_map (λ w. with_each w bs) (option_map (λ w. with_each w cs) waiting)
  told_again None bs cs = refl
  told_again (Some w) bs cs = ap Some (with_append w bs cs)

  abbrev made : Option (ℕ → Option P) → (ℕ → Option P) → (ℕ → Bool) → (ℕ → Option (List ℕ)) → FleetPorts P
  made waiting kept lent named = record { waiting = waiting; kept = kept; lent = lent; named = named }

  pub ports_by : (a b : FleetPorts P) → a.waiting ≡ b.waiting → a.kept ≡ b.kept → a.lent ≡ b.lent → a.named ≡ b.named → a ≡ b
  ports_by a b waiting kept lent named =
      ap (λ w. made w a.kept a.lent a.named) waiting ∙ ap (λ k. made b.waiting k a.lent a.named) kept
      ∙ ap (λ l. made b.waiting b.kept l a.named) lent ∙ ap (made b.waiting b.kept b.lent) named

  -- giving back those after, and then those in front, is giving back all
  pub keeping_append : (ports : FleetPorts P) (bs cs : List (Berth P)) → after_keeping (after_keeping ports cs) bs ≡ after_keeping ports (bs ++ cs)
  keeping_append ports bs cs = ports_by (after_keeping (after_keeping ports cs) bs) (after_keeping ports (bs ++ cs))
      (sym (told_again ports.waiting bs cs))
      (sym (with_append ports.kept bs cs))
      (sym (ap (λ ns. marked_each ports.lent ns false) (switches_append bs cs) ∙ marked_append ports.lent (switches_of bs) (switches_of cs) false))
      refl

  none_told : (waiting : Option (ℕ → Option P)) → option_map (λ w. with_each w []) waiting ≡ waiting
  none_told None = refl
  none_told (Some w) = refl

  pub keeping_none : (ports : FleetPorts P) → after_keeping ports [] ≡ ports
  keeping_none ports = ports_by (after_keeping ports []) ports (none_told ports.waiting) refl refl refl

  -- the last of all these is given back, and then the rest
  pub keep_one : (before after : FleetPorts P) (rest all : List (Berth P)) (b : Berth P) → all ≡ rest ++ b ∷ []
      → after.waiting ≡ option_map (λ w. with_one w b.switch b.port) before.waiting → after.kept ≡ with_one before.kept b.switch b.port → after.lent ≡ marked before.lent b.switch false → after.named ≡ before.named
      → after_keeping after rest ≡ after_keeping before all
  keep_one before after rest all b parts waiting kept lent named =
      ap (λ p. after_keeping p rest) (ports_by after (after_keeping before (b ∷ [])) waiting kept lent named) ∙ keeping_append before rest (b ∷ []) ∙ ap (after_keeping before) (sym parts)

  pub rest_apart : (rest all behind : List (Berth P)) → all ≡ rest ++ behind → AreApart all → AreApart rest
  rest_apart rest all behind parts apart = apart_front rest behind (subst (λ (bs : List (Berth P)). AreApart bs) parts apart)

  pub rest_lent : (before after : ℕ → Bool) (rest all : List (Berth P)) (b : Berth P) → all ≡ rest ++ b ∷ [] → after ≡ marked before b.switch false → AreApart all → AreLent before all → AreLent after rest
  rest_lent before after rest all b parts is apart each =
      subst (λ (lent : ℕ → Bool). AreLent lent rest) (sym is) (lent_front before rest (b ∷ []) (subst (λ (bs : List (Berth P)). AreApart bs) parts apart) (subst (λ (bs : List (Berth P)). AreLent before bs) parts each))

  pub last_lent : (lent : ℕ → Bool) (rest all : List (Berth P)) (b : Berth P) → all ≡ rest ++ b ∷ [] → AreLent lent all → lent b.switch ≡ true
  last_lent lent rest all b parts each = (all_behind (λ (c : Berth P). lent c.switch ≡ true) rest (b ∷ []) (subst (λ (bs : List (Berth P)). AreLent lent bs) parts each)).0

  -- the same for the last row of them
  pub keep_row : (before after : FleetPorts P) (rest row all : List (Berth P)) → all ≡ rest ++ row → after ≡ after_keeping before row → after_keeping after rest ≡ after_keeping before all
  keep_row before after rest row all parts is = ap (λ p. after_keeping p rest) is ∙ keeping_append before rest row ∙ ap (after_keeping before) (sym parts)

  pub row_apart : (rest row all : List (Berth P)) → all ≡ rest ++ row → AreApart all → AreApart row
  row_apart rest row all parts apart = apart_behind rest row (subst (λ (bs : List (Berth P)). AreApart bs) parts apart)

  pub row_lent : (lent : ℕ → Bool) (rest row all : List (Berth P)) → all ≡ rest ++ row → AreLent lent all → AreLent lent row
  row_lent lent rest row all parts each = all_behind (λ (c : Berth P). lent c.switch ≡ true) rest row (subst (λ (bs : List (Berth P)). AreLent lent bs) parts each)

  pub rest_lent_row : (before after : FleetPorts P) (rest row all : List (Berth P)) → all ≡ rest ++ row → after ≡ after_keeping before row → AreApart all → AreLent before.lent all → AreLent after.lent rest
  rest_lent_row before after rest row all parts is apart each =
      subst (λ (lent : ℕ → Bool). AreLent lent rest) (sym (ap (λ (p : FleetPorts P). p.lent) is))
      (lent_front before.lent rest row (subst (λ (bs : List (Berth P)). AreApart bs) parts apart) (subst (λ (bs : List (Berth P)). AreLent before.lent bs) parts each))

  pub berths_append : (ts us : List (SessionView P)) → berths_of (ts ++ us) ≡ berths_of ts ++ berths_of us
  berths_append [] us = refl
  berths_append (t ∷ ts) us = ap (λ (bs : List (Berth P)). record { switch = t.switch; port = t.port } ∷ bs) (berths_append ts us)

  -- a worker's last port was taken out
  pub taken : (b : Berth P) (before now : List (SessionView P)) → IsLast b.switch b.port before now → berths_of before ≡ berths_of now ++ b ∷ []
  taken b before now last =
      ap berths_of last.parts ∙ berths_append now (last.talk ∷ [])
      ∙ ap (λ (switch : ℕ). berths_of now ++ record { switch = switch; port = last.talk.port } ∷ []) last.switch_is
      ∙ ap (λ (port : P). berths_of now ++ record { switch = b.switch; port = port } ∷ []) last.port_is

  pub rows_append : (rows : List (List (SessionView P))) (row : List (SessionView P)) → all_berths (rows ++ row ∷ []) ≡ all_berths rows ++ berths_of row
  rows_append [] row = append-nil (berths_of row)
  rows_append (r ∷ rs) row = ap (λ (bs : List (Berth P)). berths_of r ++ bs) (rows_append rs row) ∙ sym (append_assoc (berths_of r) (all_berths rs) (berths_of row))

  -- ---- opened
  -- what waits, once the ports of switches wait no more, and of one more
  told_more : (waiting : Option (ℕ → Option P)) (ns : List ℕ) (n : ℕ) → option_map (λ w. without (without_each w ns) n) waiting ≡ option_map (λ w. without_each w (ns ++ n ∷ [])) waiting
  told_more None ns n = refl
  told_more (Some w) ns n = ap Some (sym (without_more w ns n))

  -- one port more is given
  pub given_one : (tell : P → PortTrace) (waiting : Option (ℕ → Option P)) (ns : List ℕ) (switch : ℕ) (port : P) (now : Option (ℕ → Option P))
      → GivesPort tell (option_map (λ w. without_each w ns) waiting) switch port now
      → IsGiven tell waiting (record { switch = switch; port = port }) × (now ≡ option_map (λ w. without_each w (ns ++ switch ∷ [])) waiting)
  given_one tell None ns switch port now gives = (gives.1, gives.0)
  given_one tell (Some w) ns switch port now gives = (without_some w ns switch port gives.0, gives.1 ∙ ap Some (sym (without_more w ns switch)))

  -- no port waits for one more, where it is asked for so
  pub none_waits : (Asked Named : Type 0) (to : Named → Asked) (waiting : Option (ℕ → Option P)) (ns : List ℕ) (switch : ℕ) → AllByRecursion (λ m. nat_eq switch m ≡ false) ns
      → IfSome (option_map (λ w. without_each w ns) waiting) (λ w. Asked → w switch ≡ None) → IfSome waiting (λ w. Named → w switch ≡ None)
  none_waits Asked Named to None ns switch others none = tt
  none_waits Asked Named to (Some w) ns switch others none = λ named. sym (without_others w ns switch others) ∙ none (to named)

  pub opened_one : (tell : P → PortTrace) (p : Problem) (homes : List ℕ) (before now after : FleetPorts P) (berths : List (Berth P)) (switch : ℕ) (port : P)
      → Opens tell p homes before berths now
      → GivesPort tell now.waiting switch port after.waiting → after.kept ≡ without now.kept switch → after.lent ≡ marked now.lent switch true → after.named ≡ with_one now.named switch (own_name p switch)
      → Opens tell p (homes ++ switch ∷ []) before (berths ++ record { switch = switch; port = port } ∷ []) after
  opened_one tell p homes before now after berths switch port opens gives kept lent named =
      let is_now = opens.ports in
      let one = given_one tell before.waiting homes switch port after.waiting (subst (λ w. GivesPort tell w switch port after.waiting) (ap (λ (f : FleetPorts P). f.waiting) is_now) gives) in
      record {
        switches = switches_append berths (record { switch = switch; port = port } ∷ []) ∙ ap (λ ns. ns ++ switch ∷ []) opens.switches;
        given = all_both (IsGiven tell before.waiting) berths (record { switch = switch; port = port } ∷ []) opens.given (one.0, tt);
        ports = ports_by after (after_opening before p (homes ++ switch ∷ [])) one.1
            (kept ∙ ap (λ (f : FleetPorts P). without f.kept switch) is_now ∙ sym (without_more before.kept homes switch))
            (lent ∙ ap (λ (f : FleetPorts P). marked f.lent switch true) is_now ∙ sym (marked_more before.lent homes switch true))
            (named ∙ ap (λ (f : FleetPorts P). with_one f.named switch (own_name p switch)) is_now ∙ sym (named_more before.named p homes switch));
      }

  pub opened_none : (tell : P → PortTrace) (p : Problem) (before : FleetPorts P) → Opens tell p [] before [] before
  opened_none tell p before = record {
    switches = refl;
    given = tt;
    ports = ports_by before (after_opening before p []) (sym (none_taken before.waiting)) refl refl refl;
  }
    where
      none_taken : (waiting : Option (ℕ → Option P)) → option_map (λ w. without_each w []) waiting ≡ waiting
      none_taken None = refl
      none_taken (Some w) = refl

  -- what was given and given back waits as before
  waits_again : (tell : P → PortTrace) (waiting : Option (ℕ → Option P)) (berths : List (Berth P)) → AreGiven tell waiting berths
      → option_map (λ w. with_each w berths) (option_map (λ w. without_each w (switches_of berths)) waiting) ≡ waiting
  waits_again tell None berths given = refl
  waits_again tell (Some w) berths given = ap Some (back w berths ∙ put_again w berths given)

  pub given_back : (tell : P → PortTrace) (p : Problem) (homes : List ℕ) (before now after : FleetPorts P) (berths : List (Berth P)) → Opens tell p homes before berths now → after ≡ after_keeping now berths → GivesBack tell p homes before after
  given_back tell p homes before now after berths opens keeps =
      let are : now ≡ after_opening before p (switches_of berths) = opens.ports ∙ ap (after_opening before p) (sym opens.switches) in
      let is : after ≡ after_keeping (after_opening before p (switches_of berths)) berths = keeps ∙ ap (λ f. after_keeping f berths) are in
      record {
        berths = berths;
        switches = opens.switches;
        given = opens.given;
        waiting = ap (λ (f : FleetPorts P). f.waiting) is ∙ waits_again tell before.waiting berths opens.given;
        kept = ap (λ (f : FleetPorts P). f.kept) is ∙ back before.kept berths;
        lent = ap (λ (f : FleetPorts P). f.lent) is ∙ remarked before.lent (switches_of berths) true false ∙ ap (λ ns. marked_each before.lent ns false) opens.switches;
        named = ap (λ (f : FleetPorts P). f.named) is ∙ ap (λ ns. named_each before.named p ns) opens.switches;
      }

  -- the ports that were opened are lent
  pub opened_lent : (tell : P → PortTrace) (p : Problem) (homes : List ℕ) (before now : FleetPorts P) (berths : List (Berth P)) → Opens tell p homes before berths now → AreLent now.lent berths
  opened_lent tell p homes before now berths opens =
      subst (λ (lent : ℕ → Bool). AreLent lent berths) (sym (ap (λ (f : FleetPorts P). f.lent) (opens.ports ∙ ap (after_opening before p) (sym opens.switches)))) (all_lent before.lent berths)

  -- each of them was asked for by its name
  pub opened_named : (tell : P → PortTrace) (p : Problem) (homes : List ℕ) (before now : FleetPorts P) (berths : List (Berth P)) → Opens tell p homes before berths now → AreNamed now.named p homes
  opened_named tell p homes before now berths opens =
      subst (λ (named : ℕ → Option (List ℕ)). AreNamed named p homes) (sym (ap (λ (f : FleetPorts P). f.named) opens.ports)) (each_named before.named p homes)

  opens_still : (tell : P → PortTrace) (p : Problem) (homes : List ℕ) (before now after : FleetPorts P) (berths : List (Berth P)) → Opens tell p homes before berths now
      → after.waiting ≡ now.waiting → after.kept ≡ now.kept → after.lent ≡ now.lent → after.named ≡ now.named → Opens tell p homes before berths after
  opens_still tell p homes before now after berths opens waiting kept lent named = record {
    switches = opens.switches;
    given = opens.given;
    ports = ports_by after now waiting kept lent named ∙ opens.ports;
  }

  -- the fleet has no port for the next
  pub opened_until : (tell : P → PortTrace) (p : Problem) (homes earlier later : List ℕ) (switch : ℕ) (before now after : FleetPorts P) (berths : List (Berth P)) → homes ≡ earlier ++ switch ∷ later → AllByRecursion (λ m. nat_eq switch m ≡ false) earlier
      → Opens tell p earlier before berths now → IfSome now.waiting (λ w. now.named switch ≡ Some (own_name p switch) → w switch ≡ None)
      → after.waiting ≡ now.waiting → after.kept ≡ now.kept → after.lent ≡ now.lent → after.named ≡ now.named → OpensUntil tell p homes switch before berths after
  opened_until tell p homes earlier later switch before now after berths among others opens none waiting kept lent named = record {
    earlier = earlier;
    later = later;
    among = among;
    opens = opens_still tell p earlier before now after berths opens waiting kept lent named;
    none_waits = none_waits (now.named switch ≡ Some (own_name p switch)) (before.named switch ≡ Some (own_name p switch))
        (λ is. ap (λ (f : FleetPorts P). f.named switch) opens.ports ∙ (named_others before.named p earlier switch others ∙ is))
        before.waiting earlier switch others
        (subst (λ (told : Option (ℕ → Option P)). IfSome told (λ w. now.named switch ≡ Some (own_name p switch) → w switch ≡ None)) (ap (λ (f : FleetPorts P). f.waiting) opens.ports) none);
  }

  -- those that were given before are given back
  pub stops_at : (tell : P → PortTrace) (p : Problem) (homes all : List ℕ) (switch : ℕ) (before now after : FleetPorts P) (berths : List (Berth P)) → homes ≡ all → OpensUntil tell p homes switch before berths now → after ≡ after_keeping now berths → StopsAt tell p all switch before after
  stops_at tell p homes all switch before now after berths are until keeps = record {
    earlier = until.earlier;
    later = until.later;
    among = sym are ∙ until.among;
    given_back = given_back tell p until.earlier before now after berths until.opens keeps;
    none_waits = until.none_waits;
  }
