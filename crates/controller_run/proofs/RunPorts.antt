-- What several workers have made of the ports, port by port.
use Rattle.std.proofs.Common.{◌≡◌, ℕ, suc, zero, ◌<◌, false, List, [], ◌∷◌, ◌++◌, IsPermutation, Option, Some, length, map, slice_index_or, None, ⊎_elim, inl, inr, refl, sym, ap, ◌∙◌, subst, arith, eq-eqb}
use Rattle.std.specs.Prelude.{All, nat_eq}
use Rattle.std.specs.List.{AllByRecursion, AllZip, Contains, IsDistinct, flat_map}
use Rattle.std.proofs.lemmas.Bool.{false≢true}
use Rattle.std.proofs.lemmas.List.Elements.{All-contains, All-nil, Contains-append_cases, Contains-append_left, Contains-append_right}
use Rattle.std.proofs.lemmas.List.Sorted.{Contains-permutation, IsPermutation-sym}
use Rattle.std.proofs.lemmas.Map.Keys.{IsDistinct-head, IsDistinct-tail}
use Rattle.rollout_rules.specs.declared.op.Op.{Op}
use Rattle.rollout_rules.specs.declared.op.Entry.{Entry}
use Rattle.rollout_rules.specs.declared.op.Entry.TheVariants as entry
use Rattle.port_session.specs.Sessions.{SessionView}
use Rattle.switch_ports.specs.Outboxes.{home_at}
use Rattle.switch_ports.specs.Rows.{AtOne}
use Rattle.switch_ports.specs.Stories.{LastStory}
use Rattle.wan_edge.specs.Ports.{GoesOn, PortTrace}
use Rattle.switch_ports.specs.Views.{view}
use Rattle.shared_book.specs.Calls.{seat_of}
use Rattle.shared_book.specs.declared.note.Written.{Written}
use Rattle.shared_book.specs.Histories.{Opening, all_entries}
use Rattle.controller_run.specs.Promises.{IsAnswered, WasTold}
use Rattle.controller_run.specs.Keeping.{Keeps}
use Rattle.controller_run.specs.PortRuns.{AreAtHome, Covers, IsBack}
use Rattle.controller_run.specs.Shifts.{IsOfOne, Shift}
use Rattle.controller_run.specs.Together.{given_ports}
use Rattle.controller_run.proofs.Keeping.{each_stays}

-- ---- rows
pub contains_head : {A : Type 0} (x : A) (xs : List A) → Contains (x ∷ xs) x
contains_head x xs = (0, omega arith, refl)

pub contains_later : {A : Type 0} (y : A) (xs : List A) (x : A) → Contains xs x → Contains (y ∷ xs) x
contains_later y xs x at = (suc at.0, omega (arith, at.1), at.2)

pub zip_at : {A B : Type 0} (R : A → B → Type 0) (xs : List A) (ys : List B) (x : A) → AllZip R xs ys → Contains xs x → (y : B) × Contains ys y × R x y
zip_at R xs ys x zip (k, inside, is) = at xs ys k zip inside is
  where
    at : (xs : List _) (ys : List _) (k : ℕ) → AllZip R xs ys → k < length xs → slice_index_or xs k x ≡ x → (y : _) × Contains ys y × R x y
    at [] ys k zip inside is = absurd (omega (arith, inside))
    at (a ∷ xs) [] k zip inside is = absurd zip
    at (a ∷ xs) (b ∷ ys) zero zip inside is = (b, contains_head b ys, subst (λ c. R c b) is zip.0)
    at (a ∷ xs) (b ∷ ys) (suc k) zip inside is = let found = at xs ys k zip.1 (omega (arith, inside)) is in (found.0, contains_later b ys found.0 found.1, found.2)

-- what holds at one place, with what holds at all
pub one_of : {A : Type 0} (R S : A → A → Type 0) (xs ys : List A) → AllZip S xs ys → AtOne R xs ys → (x : A) × (y : A) × Contains xs x × Contains ys y × S x y × R x y
one_of R S [] [] zip one = absurd one
one_of R S [] (b ∷ ys) zip one = absurd one
one_of R S (a ∷ xs) [] zip one = absurd one
one_of R S (a ∷ xs) (b ∷ ys) zip (inl here) = (a, b, contains_head a xs, contains_head b ys, zip.0, here)
one_of R S (a ∷ xs) (b ∷ ys) zip (inr later) =
    let found = one_of R S xs ys zip.1 later in
    (found.0, found.1, contains_later a xs found.0 found.2, contains_later b ys found.1 found.3, found.4, found.5)

-- an element of rows in a row is one of one of them
pub in_one : {A B : Type 0} (f : A → List B) (xs : List A) (b : B) → Contains (flat_map f xs) b → (x : A) × Contains xs x × Contains (f x) b
in_one f [] b at = absurd (omega (arith, at.1))
in_one f (x ∷ xs) b at = ⊎_elim (λ here. (x, contains_head x xs, here)) (λ later. let found = in_one f xs b later in (found.0, contains_later x xs found.0 found.1, found.2)) (Contains-append_cases (f x) (flat_map f xs) b at)

pub in_all : {A B : Type 0} (f : A → List B) (xs : List A) (x : A) (b : B) → Contains xs x → Contains (f x) b → Contains (flat_map f xs) b
in_all f xs x b (k, inside, is) here = at xs k inside is
  where
    at : (xs : List _) (k : ℕ) → k < length xs → slice_index_or xs k x ≡ x → Contains (flat_map f xs) b
    at [] k inside is = absurd (omega (arith, inside))
    at (a ∷ xs) zero inside is = Contains-append_left (f a) (flat_map f xs) b (subst (λ c. Contains (f c) b) (sym is) here)
    at (a ∷ xs) (suc k) inside is = Contains-append_right (f a) (flat_map f xs) b (at xs k (omega (arith, inside)) is)

-- ---- switches
-- where no two switches are equal, a switch has one port
module _ {P : Type 0} where
  far : (k : ℕ) (talks : List (SessionView P)) (j : ℕ) (d : SessionView P) → AllByRecursion (λ y. nat_eq k y ≡ false) (map (λ t. t.switch) talks) → j < length talks → nat_eq k (slice_index_or talks j d).switch ≡ false
  far k [] j d all inside = absurd (omega (arith, inside))
  far k (t ∷ talks) zero d all inside = all.0
  far k (t ∷ talks) (suc j) d all inside = far k talks j d all.1 (omega (arith, inside))

  unique : (talks : List (SessionView P)) (a b : SessionView P) → IsDistinct nat_eq (map (λ t. t.switch) talks) → (i j : ℕ) → i < length talks → j < length talks → slice_index_or talks i a ≡ a → slice_index_or talks j b ≡ b → a.switch ≡ b.switch → a ≡ b
  unique [] a b apart i j i_in j_in is_a is_b same = absurd (omega (arith, i_in))
  unique (t ∷ talks) a b apart zero zero i_in j_in is_a is_b same = sym is_a ∙ is_b
  unique (t ∷ talks) a b apart zero (suc j) i_in j_in is_a is_b same =
      absurd (false≢true (sym (far t.switch talks j b (IsDistinct-head nat_eq t.switch (map (λ t. t.switch) talks) apart) (omega (arith, j_in))) ∙ eq-eqb t.switch (slice_index_or talks j b).switch (ap (λ (c : SessionView P). c.switch) is_a ∙ same ∙ sym (ap (λ (c : SessionView P). c.switch) is_b))))
  unique (t ∷ talks) a b apart (suc i) zero i_in j_in is_a is_b same =
      absurd (false≢true (sym (far t.switch talks i a (IsDistinct-head nat_eq t.switch (map (λ t. t.switch) talks) apart) (omega (arith, i_in))) ∙ eq-eqb t.switch (slice_index_or talks i a).switch (ap (λ (c : SessionView P). c.switch) is_b ∙ sym same ∙ sym (ap (λ (c : SessionView P). c.switch) is_a))))
  unique (t ∷ talks) a b apart (suc i) (suc j) i_in j_in is_a is_b same = unique talks a b (IsDistinct-tail nat_eq t.switch (map (λ t. t.switch) talks) apart) i j (omega (arith, i_in)) (omega (arith, j_in)) is_a is_b same

  pub same_talk : (talks : List (SessionView P)) (a b : SessionView P) → IsDistinct nat_eq (map (λ t. t.switch) talks) → Contains talks a → Contains talks b → a.switch ≡ b.switch → a ≡ b
  same_talk talks a b apart at_a at_b same = unique talks a b apart at_a.0 at_b.0 at_a.1 at_b.1 at_a.2 at_b.2 same

-- ---- entries
in_note : (log : List Written) (e : Entry) → Contains (all_entries log) e → (w : Written) × Contains log w × Contains w.entries e
in_note [] e at = absurd (omega (arith, at.1))
in_note (w ∷ log) e at = ⊎_elim (λ here. (w, contains_head w log, here)) (λ later. let found = in_note log e later in (found.0, contains_later w log found.0 found.1, found.2)) (Contains-append_cases w.entries (all_entries log) e at)

pub of_one : {P : Type 0} (shifts : List (Shift P)) (seat : ℕ) → IsOfOne shifts seat → (s : Shift P) × Contains shifts s × (s.given.seat ≡ seat)
of_one [] seat at = absurd at
of_one (s ∷ shifts) seat (inl is) = (s, contains_head s shifts, is)
of_one (s ∷ shifts) seat (inr later) = let found = of_one shifts seat later in (found.0, contains_later s shifts found.0 found.1, found.2)

some_same : {A : Type 0} {x y : A} → Some x ≡ Some y → x ≡ y
some_same {A} {x} is = ap (λ (o : Option A). or_else x o) is
  where
    or_else : {A : Type 0} → A → Option A → A
    or_else x None = x
    or_else x (Some y) = y

module _ {P : Type 0} (tell : P → PortTrace) (o : Opening) (migration : ℕ) (homes : List (Option ℕ)) (log : List Written) (shifts : List (Shift P)) (spare whole : List (SessionView P)) (seats : ℕ) (kept : ℕ → Option P)
    (keeps : All (Keeps tell o migration homes log) shifts) (seated : (seat : ℕ) → seat < seats → IsOfOne shifts seat) (made : All (λ w. seat_of w < seats) log)
    (same : IsPermutation whole (given_ports shifts ++ spare)) (apart : IsDistinct nat_eq (map (λ t. t.switch) whole))
    (back : (s : Shift P) (t : SessionView P) → Contains shifts s → Contains s.now.ports t → kept t.switch ≡ Some t.port) (left : (t : SessionView P) → Contains spare t → kept t.switch ≡ Some t.port) where
  -- an operation that is done was answered at a port of some worker
  record Found (op : Op) : Type 0 where
    shift : Shift P
    among : Contains shifts shift
    answered : IsAnswered tell migration homes shift.given.before.ports op shift.now.ports

  found : (op : Op) → Contains (all_entries log) (entry.Done op) → Found op
  found op at =
      let note = in_note log (entry.Done op) at in
      let w : Written = note.0 in
      let one = of_one shifts w.note.seat (seated w.note.seat (All-contains (λ w. seat_of w < seats) log w made note.1)) in
      let mine = All-contains (Keeps tell o migration homes log) shifts one.0 keeps one.1 in
      record { shift = one.0; among = one.1; answered = All-contains (λ (v : Written). v.note.seat ≡ one.0.given.seat → (op : Op) → Contains v.entries (entry.Done op) → IsAnswered tell migration homes one.0.given.before.ports op one.0.now.ports) log w mine.answered note.1 (sym one.2) op note.2 }

  -- the port that told it, as it was and as it is
  record At (op : Op) : Type 0 where
    first : SessionView P
    now : SessionView P
    of_whole : Contains whole first
    home : home_at homes op.item ≡ Some first.switch
    covers : Covers migration op (view tell first) (view tell now)
    is_kept : kept first.switch ≡ Some now.port

  at_port : (op : Op) → Found op → At op
  at_port op f =
      let mine = All-contains (Keeps tell o migration homes log) shifts f.shift keeps f.among in
      let home = f.answered.told in
      let at = one_of (λ b n. WasTold migration home.switch f.answered.answer (view tell b) (view tell n)) (λ b n. LastStory migration homes mine.sent (view tell b) (view tell n)) f.shift.given.before.ports f.shift.now.ports mine.story home.told in
      let first : SessionView P = at.0 in
      let now : SessionView P = at.1 in
      let is_switch : first.switch ≡ home.switch = at.5.told.is_port in
      record {
        first = first;
        now = now;
        of_whole = Contains-permutation (given_ports shifts ++ spare) whole first (IsPermutation-sym whole (given_ports shifts ++ spare) same)
            (Contains-append_left (given_ports shifts) spare first (in_all (λ s. s.given.before.ports) shifts f.shift first f.among at.2));
        home = ap (home_at homes) (sym f.answered.item) ∙ home.home ∙ ap Some (sym is_switch);
        covers = record { answer = f.answered.answer; item = f.answered.item; number = f.answered.covers; told = subst (λ (n : ℕ). WasTold migration n f.answered.answer (view tell first) (view tell now)) (sym is_switch) at.5 };
        is_kept = subst (λ (n : ℕ). kept n ≡ Some now.port) at.4.switch (back f.shift now f.among at.3);
      }

  pub at_home : AreAtHome homes log (map (λ t. t.switch) whole)
  at_home op done = let at = at_port op (found op done) in (at.first.switch, at.home, contains_map (λ t. t.switch) whole at.first at.of_whole)
    where
      contains_map : (f : SessionView P → ℕ) (xs : List (SessionView P)) (x : SessionView P) → Contains xs x → Contains (map f xs) (f x)
      contains_map f [] x at = absurd (omega (arith, at.1))
      contains_map f (y ∷ xs) x (zero, inside, is) = (0, omega arith, ap f is)
      contains_map f (y ∷ xs) x (suc k, inside, is) = let later = contains_map f xs x (k, omega (arith, inside), is) in contains_later (f y) (map f xs) (f x) later

  -- what was answered at the port of an operation's home was answered at this one, if this is the port of that home
  answered_at : (first now : SessionView P) → Contains whole first → kept first.switch ≡ Some now.port → (op : Op) → Contains (all_entries log) (entry.Done op) → home_at homes op.item ≡ Some first.switch → Covers migration op (view tell first) (view tell now)
  answered_at first now of_whole is_kept op done is_home =
      let at = at_port op (found op done) in
      let one : at.first ≡ first = same_talk whole at.first first apart at.of_whole of_whole (some_same (sym at.home ∙ is_home)) in
      let port : at.now.port ≡ now.port = some_same (sym at.is_kept ∙ ap (λ (t : SessionView P). kept t.switch) one ∙ is_kept) in
      moved at.first at.now one port at.covers
    where
      moved : (a b : SessionView P) → a ≡ first → b.port ≡ now.port → Covers migration op (view tell a) (view tell b) → Covers migration op (view tell first) (view tell now)
      moved a b one port covers =
          let was = subst (λ (t : SessionView P). WasTold migration t.switch covers.answer (view tell t) (view tell b)) one covers.told in
          record {
            answer = covers.answer;
            item = covers.item;
            number = covers.number;
            told = record { at = was.at; told = was.told; later = subst (λ (p : P). GoesOn was.at.port (tell p)) port was.later };
          }

  pub is_back : (first : SessionView P) → Contains whole first → IsBack tell o migration homes log kept first
  is_back first of_whole = ⊎_elim worked unserved (Contains-append_cases (given_ports shifts) spare first (Contains-permutation whole (given_ports shifts ++ spare) first same of_whole))
    where
      worked : Contains (given_ports shifts) first → IsBack tell o migration homes log kept first
      worked at =
          let one = in_one (λ s. s.given.before.ports) shifts first at in
          let mine = All-contains (Keeps tell o migration homes log) shifts one.0 keeps one.1 in
          let now = zip_at (λ b n. LastStory migration homes mine.sent (view tell b) (view tell n)) one.0.given.before.ports one.0.now.ports first mine.story one.2 in
          let is_kept : kept first.switch ≡ Some now.0.port = subst (λ (n : ℕ). kept n ≡ Some now.0.port) now.2.switch (back one.0 now.0 one.1 now.1) in
          record { now = now.0; run = record { sent = mine.sent; begun = mine.begun; story = now.2; answered = answered_at first now.0 of_whole is_kept }; is_kept = is_kept }

      unserved : Contains spare first → IsBack tell o migration homes log kept first
      unserved at =
          let is_kept = left first at in
          record { now = first; run = record { sent = []; begun = All-nil _; story = (each_stays tell migration homes (first ∷ [])).0; answered = answered_at first first of_whole is_kept }; is_kept = is_kept }
