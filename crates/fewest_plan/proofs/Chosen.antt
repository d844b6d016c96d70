-- What is found is valid, has no more rate steps than what is chosen, and is there wherever that is.
use Rattle.std.proofs.Common.{◌≡◌, ℕ, ◌+◌, ◌<◌, ◌≤◌, Bool, true, false, List, Option, Some, None, option_map, unwrap_or, Result, Ok, Err, refl, sym, ap, subst, ◌∙◌, arith}
use Rattle.std.specs.Prelude.{IsOk, IfOk, IsTrue}
use Rattle.rollout_rules.specs.Wan.{Problem, Plan}
use Rattle.rollout_rules.specs.Network.{IsNetwork}
use Rattle.rollout_rules.specs.Valid.{is_valid_plan}
use Rattle.plan_check.specs.First.{first_of}
use Rattle.plan_check.specs.LeastSlack.{least_slack}
use Rattle.plan_check.proofs.Firsts.{first_below_some}
use Rattle.scratch_plan.specs.Frame.{frame}
use Rattle.scratch_plan.specs.Refusals as scratch
use Rattle.scratch_plan.specs.declared.no_plan.NoPlan.{NoPlan}
use Rattle.scratch_plan.specs.declared.no_plan.NoPlan.TheVariants.{OverCapacity, TableFull, NoSlack, Memory}
use Rattle.plan_choose.specs.Choice.{Choice, chosen, where_valid}
use Rattle.plan_choose.proofs.Choices.{where_valid-valid}
use Rattle.plan_choose.proofs.Enough.{chosen-valid}
use Rattle.fewest_plan.specs.declared.cause.Cause.{Cause}
use Rattle.fewest_plan.specs.declared.cause.Cause.TheVariants.{Unchosen, Unfound, Stuck}
use Rattle.fewest_plan.specs.Walk.{shares_after, have_arrived, arrives, arrival, rows_to, accepted, walked, greedy}
use Rattle.fewest_plan.specs.Relief.{by_relief}
use Rattle.fewest_plan.specs.Stuck.{stuck_link}
use Rattle.fewest_plan.specs.Fewest.{by_item, fewer_than, improved, in_parts, by_rule, is_from_scratch, room_of, room_beside, beside, is_no_slack, why_none, or_why, in_place, fewest_of, fewest}
use Rattle.fewest_plan.specs.Found.{Refuses, Answers}
use Rattle.fewest_plan.proofs.Relieving.{provided-is}

-- ---- what the rule gives is valid
abbrev pub IsGood : Problem → Option Choice → Type 0
IsGood p o = (c : Choice) → o ≡ Some c → is_valid_plan p c.plan ≡ true

mapped : (n : ℕ) (o : Option Plan) (c : Choice) → option_map (λ plan. record { plan = plan; rate_steps = n }) o ≡ Some c → o ≡ Some c.plan
mapped n None c e = cc
mapped n (Some plan) c e = let same : ◌≡◌ {A = Choice} (record { plan = plan; rate_steps = n }) c = cc in ap (λ d. Some d.plan) same

accepted-good : (p : Problem) (n : ℕ) (plan : Plan) → IsGood p (accepted p n plan)
accepted-good p n plan c e = where_valid-valid p (Some plan) c.plan (mapped n (where_valid p (Some plan)) c e)

walked-good : (p : Problem) (d : ℕ) (order : List ℕ) (o : Option ℕ) → IsGood p (walked p d order o)
walked-good p d order None c e = cc
walked-good p d order (Some i) c e = accepted-good p (i + 1) (frame p d (rows_to p d order i)) c e

greedy-good : (p : Problem) (d : ℕ) (order : List ℕ) (most : ℕ) → IsGood p (greedy p d order most)
unfolding greedy
greedy-good p d order most = walked-good p d order (arrival p d order most)

first-good : (p : Problem) (a b : Option Choice) → IsGood p a → IsGood p b → IsGood p (first_of a b)
first-good p None b x y = y
first-good p (Some found) b x y = x

improved-good : (p : Problem) (most : ℕ) (order : List ℕ) (d : ℕ) (found : Option Choice) → IsGood p found → IsGood p (improved p most order d found)
improved-good p most order d found good = first-good p (greedy p d order (fewer_than most found)) found (greedy-good p d order (fewer_than most found)) good

in_parts-good : (p : Problem) (most : ℕ) (order : List ℕ) (found : Option Choice) → IsGood p found → IsGood p (in_parts p most order found)
unfolding in_parts
in_parts-good p most order found good =
    improved-good p most order 12 (improved p most order 2 (improved p most order 1 found))
    (improved-good p most order 2 (improved p most order 1 found) (improved-good p most order 1 found good))

nothing-good : (p : Problem) → IsGood p None
nothing-good p c e = cc

pub by_rule-good : (p : Problem) (most : ℕ) → IsGood p (by_rule p most)
unfolding by_rule
by_rule-good p most =
    in_parts-good p most (by_relief p) (in_parts p most (by_item p) None) (in_parts-good p most (by_item p) None (nothing-good p))

pub by_rule-is : (p : Problem) (most : ℕ) (found best : Option Choice) → found ≡ in_parts p most (by_item p) None → best ≡ in_parts p most (by_relief p) found → best ≡ by_rule p most
unfolding by_rule
by_rule-is p most found best e is = is ∙ ap (in_parts p most (by_relief p)) e

pub by_rule-none : (p : Problem) → by_rule p 0 ≡ None
unfolding by_rule in_parts greedy
by_rule-none p = refl

-- ---- it has no more rate steps than so many
abbrev IsFew : ℕ → Option Choice → Type 0
IsFew most o = (c : Choice) → o ≡ Some c → c.rate_steps ≤ most

counted : (n : ℕ) (o : Option Plan) (c : Choice) → option_map (λ plan. record { plan = plan; rate_steps = n }) o ≡ Some c → c.rate_steps ≡ n
counted n None c e = cc
counted n (Some plan) c e = let same : ◌≡◌ {A = Choice} (record { plan = plan; rate_steps = n }) c = cc in ap (λ d. d.rate_steps) (sym same)

walked-few : (p : Problem) (d : ℕ) (order : List ℕ) (most : ℕ) (o : Option ℕ) → ((i : ℕ) → o ≡ Some i → i < most) → IsFew most (walked p d order o)
walked-few p d order most None low c e = cc
walked-few p d order most (Some i) low c e =
    let steps : c.rate_steps ≡ i + 1 = counted (i + 1) (where_valid p (Some (frame p d (rows_to p d order i)))) c e in
    omega (arith, steps, low i refl)

arrival-low : (p : Problem) (d : ℕ) (order : List ℕ) (most i : ℕ) → arrival p d order most ≡ Some i → i < most
arrival-low p d order most i e =
    let at = first_below_some (arrives p d order) most i e in
    let same : at.0 ≡ i = provided-is (have_arrived p d (shares_after p d order (at.0 + 1))) at.0 i at.2 in
    omega (arith, at.1, same)

greedy-few : (p : Problem) (d : ℕ) (order : List ℕ) (most : ℕ) → IsFew most (greedy p d order most)
unfolding greedy
greedy-few p d order most = walked-few p d order most (arrival p d order most) (arrival-low p d order most)

fewer-most : (most : ℕ) (found : Option Choice) → fewer_than most found ≤ most
fewer-most most None = omega arith
fewer-most most (Some found) = omega arith

first-few : (most fewer : ℕ) (a b : Option Choice) → fewer ≤ most → IsFew fewer a → IsFew most b → IsFew most (first_of a b)
first-few most fewer None b le x y = y
first-few most fewer (Some found) b le x y = λ c e. omega (arith, le, x c e)

improved-few : (p : Problem) (most : ℕ) (order : List ℕ) (d : ℕ) (found : Option Choice) → IsFew most found → IsFew most (improved p most order d found)
improved-few p most order d found few =
    first-few most (fewer_than most found) (greedy p d order (fewer_than most found)) found (fewer-most most found) (greedy-few p d order (fewer_than most found)) few

in_parts-few : (p : Problem) (most : ℕ) (order : List ℕ) (found : Option Choice) → IsFew most found → IsFew most (in_parts p most order found)
unfolding in_parts
in_parts-few p most order found few =
    improved-few p most order 12 (improved p most order 2 (improved p most order 1 found))
    (improved-few p most order 2 (improved p most order 1 found) (improved-few p most order 1 found few))

nothing-few : (most : ℕ) → IsFew most None
nothing-few most c e = cc

by_rule-few : (p : Problem) (most : ℕ) → IsFew most (by_rule p most)
unfolding by_rule
by_rule-few p most =
    in_parts-few p most (by_relief p) (in_parts p most (by_item p) None) (in_parts-few p most (by_item p) None (nothing-few most))

-- ---- beside what is chosen
room_of-most : (b : Bool) (steps : ℕ) → room_of b steps ≤ steps
room_of-most true steps = omega arith
room_of-most false steps = omega arith

room-most : (slack : Option ℕ) (steps : ℕ) → room_beside slack steps ≤ steps
room-most slack steps = room_of-most (is_from_scratch slack steps) steps

abbrev room_for : Problem → Choice → ℕ
room_for p c = room_beside (least_slack p) c.rate_steps

beside-by : (p : Problem) (c : Choice) (o : Option Choice) → by_rule p (room_for p c) ≡ o → (unwrap_or o c).rate_steps ≤ c.rate_steps
beside-by p c None e = omega arith
beside-by p c (Some g) e = omega (arith, by_rule-few p (room_for p c) g e, room-most (least_slack p) c.rate_steps)

beside-few : (p : Problem) (c : Choice) → (beside p c).rate_steps ≤ c.rate_steps
beside-few p c = beside-by p c (by_rule p (room_for p c)) refl

valid-by : (p : Problem) (c : Choice) (o : Option Choice) → by_rule p (room_for p c) ≡ o → is_valid_plan p c.plan ≡ true → is_valid_plan p (unwrap_or o c).plan ≡ true
valid-by p c None e valid = valid
valid-by p c (Some g) e valid = by_rule-good p (room_for p c) g e

beside-good : (p : Problem) (c : Choice) → is_valid_plan p c.plan ≡ true → is_valid_plan p (beside p c).plan ≡ true
beside-good p c valid = valid-by p c (by_rule p (room_for p c)) refl valid

-- the answer of the call beside a plan
pub beside-is : (p : Problem) (c : Choice) (slack : Option ℕ) (room : ℕ) (found : Option Choice) (f : Choice) → slack ≡ least_slack p → room ≡ room_beside slack c.rate_steps → found ≡ by_rule p room → unwrap_or found c ≡ f → ◌≡◌ {A = Result Choice Cause} (Ok (beside p c)) (Ok f)
beside-is p c slack room found f s r is e =
    let same : room ≡ room_for p c = r ∙ ap (λ o. room_beside o c.rate_steps) s in
    let wanted : beside p c ≡ f = sym (ap (λ o. unwrap_or o c) (is ∙ ap (by_rule p) same)) ∙ e in
    ap (λ (d : Choice). Ok d) wanted

-- ---- where nothing is chosen
ok-same : (a b : Choice) → ◌≡◌ {A = Result Choice Cause} (Ok a) (Ok b) → a ≡ b
ok-same a b e = cc

err-ok : (cause : Cause) (f : Choice) → ◌≡◌ {A = Result Choice Cause} (Err cause) (Ok f) → ⊥
err-ok cause f e = cc

pub in_place-then : (p : Problem) (cause : NoPlan) → is_no_slack cause ≡ true → in_place p cause ≡ or_why (by_rule p 252) cause (stuck_link p)
in_place-then p cause e = rw e refl

or_why-good : (p : Problem) (o : Option Choice) (cause : NoPlan) (link : Option ℕ) (f : Choice) → IsGood p o → or_why o cause link ≡ Ok f → is_valid_plan p f.plan ≡ true
or_why-good p None cause link f good e = absurd (err-ok (why_none cause link) f e)
or_why-good p (Some g) cause link f good e = good f (ap (λ (c : Choice). Some c) (ok-same g f e))

in_place-good : (p : Problem) (cause : NoPlan) (f : Choice) → in_place p cause ≡ Ok f → is_valid_plan p f.plan ≡ true
in_place-good p (OverCapacity link side load capacity) f e = absurd (err-ok (Unchosen (OverCapacity link side load capacity)) f e)
in_place-good p (TableFull switch entries size) f e = absurd (err-ok (Unchosen (TableFull switch entries size)) f e)
in_place-good p (NoSlack link side load capacity) f e = or_why-good p (by_rule p 252) (NoSlack link side load capacity) (stuck_link p) f (by_rule-good p 252) e
in_place-good p Memory f e = absurd (err-ok (Unchosen Memory) f e)

-- ---- what the call answers
err-both : (a b : Cause) → a ≡ b → ◌≡◌ {A = Result Choice Cause} (Err a) (Err b)
err-both a b e = cc

refuses-of : (cause : Cause) (wanted : Result Choice Cause) → wanted ≡ Err cause → Refuses cause wanted
refuses-of (Unchosen (OverCapacity link side load capacity)) wanted e = e
refuses-of (Unchosen (TableFull switch entries size)) wanted e = e
refuses-of (Unchosen (NoSlack link side load capacity)) wanted e = e
refuses-of (Unchosen Memory) wanted e = tt
refuses-of (Unfound cause) wanted e = e
refuses-of (Stuck link) wanted e = e

pub in_place-else : (p : Problem) (cause : NoPlan) → is_no_slack cause ≡ false → Answers (Err (Unchosen cause)) (in_place p cause)
in_place-else p (OverCapacity link side load capacity) e = refl
in_place-else p (TableFull switch entries size) e = refl
in_place-else p (NoSlack link side load capacity) e = absurd (clash e)
  where
    clash : true ≡ false → ⊥
    clash q = cc
in_place-else p Memory e = tt

pub none-why : (p : Problem) (cause : NoPlan) (stuck : Option ℕ) (why : Cause) → stuck ≡ stuck_link p → why ≡ why_none cause stuck → Answers {A = Choice} (Err why) (Err (why_none cause (stuck_link p)))
none-why p cause stuck why link e =
    let same : why_none cause (stuck_link p) ≡ why = ap (why_none cause) (sym link) ∙ sym e in
    refuses-of why (Err (why_none cause (stuck_link p))) (err-both (why_none cause (stuck_link p)) why same)

pub fewest-is : (p : Problem) (r : Result Choice NoPlan) → chosen p ≡ r → fewest p ≡ fewest_of p r
unfolding fewest
fewest-is p r e = ap (fewest_of p) e

pub beside-told : (p : Problem) (c : Choice) (r : Result Choice Cause) → chosen p ≡ Ok c → Answers r (Ok (beside p c)) → Answers r (fewest p)
beside-told p c r is a = subst (λ w. Answers r w) (sym (fewest-is p (Ok c) is)) a

memory-told : (r wanted : Result Choice Cause) → Answers r (Err (Unchosen Memory)) → Answers r wanted
memory-told (Ok c) wanted a = cc
memory-told (Err (Unchosen (OverCapacity link side load capacity))) wanted a = cc
memory-told (Err (Unchosen (TableFull switch entries size))) wanted a = cc
memory-told (Err (Unchosen (NoSlack link side load capacity))) wanted a = cc
memory-told (Err (Unchosen Memory)) wanted a = tt
memory-told (Err (Unfound cause)) wanted a = cc
memory-told (Err (Stuck link)) wanted a = cc

pub in_place-told : (p : Problem) (cause : NoPlan) (r : Result Choice Cause) → scratch.Refuses cause (chosen p) → Answers r (in_place p cause) → Answers r (fewest p)
in_place-told p (OverCapacity link side load capacity) r is a = subst (λ w. Answers r w) (sym (fewest-is p (Err (OverCapacity link side load capacity)) is)) a
in_place-told p (TableFull switch entries size) r is a = subst (λ w. Answers r w) (sym (fewest-is p (Err (TableFull switch entries size)) is)) a
in_place-told p (NoSlack link side load capacity) r is a = subst (λ w. Answers r w) (sym (fewest-is p (Err (NoSlack link side load capacity)) is)) a
in_place-told p Memory r is a = memory-told r (fewest p) a

abbrev AreGood : Problem → Result Choice Cause → Type 0
AreGood p r = IfOk r (λ c. IsTrue (is_valid_plan p c.plan))

pub beside-valid : (p : Problem) (c : Choice) (r : Result Choice Cause) → is_valid_plan p c.plan ≡ true → Answers r (Ok (beside p c)) → AreGood p r
beside-valid p c (Ok f) valid a = ap (λ d. is_valid_plan p d.plan) (sym (ok-same (beside p c) f a)) ∙ beside-good p c valid
beside-valid p c (Err cause) valid a = tt

pub in_place-valid : (p : Problem) (cause : NoPlan) (r : Result Choice Cause) → Answers r (in_place p cause) → AreGood p r
in_place-valid p cause (Ok f) a = in_place-good p cause f a
in_place-valid p cause (Err why) a = tt

-- ---- the laws
pub never_more : (p : Problem) (c f : Choice) → chosen p ≡ Ok c → fewest p ≡ Ok f → f.rate_steps ≤ c.rate_steps
never_more p c f is e =
    let same : beside p c ≡ f = ok-same (beside p c) f (sym (fewest-is p (Ok c) is) ∙ e) in
    omega (arith, beside-few p c, ap (λ (d : Choice). d.rate_steps) same)

pub fewest-valid : (p : Problem) (f : Choice) → IsNetwork p → fewest p ≡ Ok f → is_valid_plan p f.plan ≡ true
fewest-valid p f net e = by (chosen p) refl
  where
    by : (r : Result Choice NoPlan) → chosen p ≡ r → is_valid_plan p f.plan ≡ true
    by (Ok c) is = ap (λ (d : Choice). is_valid_plan p d.plan) (sym (ok-same (beside p c) f (sym (fewest-is p (Ok c) is) ∙ e))) ∙ beside-good p c (chosen-valid p c net is)
    by (Err cause) is = in_place-good p cause f (sym (fewest-is p (Err cause) is) ∙ e)

pub fewest-there : (p : Problem) → IsOk (chosen p) → IsOk (fewest p)
fewest-there p ok = by (chosen p) refl ok
  where
    by : (r : Result Choice NoPlan) → chosen p ≡ r → IsOk r → IsOk (fewest p)
    by (Ok c) is there = subst (λ (w : Result Choice Cause). IsOk w) (sym (fewest-is p (Ok c) is)) refl
    by (Err cause) is there = absurd (clash there)
      where
        clash : false ≡ true → ⊥
        clash h = cc

-- no plan of any number of steps exists where the answer says so
stuck-same : (a b : ℕ) → ◌≡◌ {A = Result Choice Cause} (Err (Stuck a)) (Err (Stuck b)) → a ≡ b
stuck-same a b e = cc

why-stuck : (cause : NoPlan) (o : Option ℕ) (link : ℕ) → ◌≡◌ {A = Result Choice Cause} (Err (why_none cause o)) (Err (Stuck link)) → o ≡ Some link
why-stuck cause None link e = cc
why-stuck cause (Some l) link e = ap (λ (k : ℕ). Some k) (stuck-same l link e)

or_why-stuck : (o : Option Choice) (cause : NoPlan) (found : Option ℕ) (link : ℕ) → or_why o cause found ≡ Err (Stuck link) → found ≡ Some link
or_why-stuck None cause found link e = why-stuck cause found link e
or_why-stuck (Some g) cause found link e = cc

in_place-stuck : (p : Problem) (cause : NoPlan) (link : ℕ) → in_place p cause ≡ Err (Stuck link) → stuck_link p ≡ Some link
in_place-stuck p (OverCapacity l side load capacity) link e = cc
in_place-stuck p (TableFull switch entries size) link e = cc
in_place-stuck p (NoSlack l side load capacity) link e = or_why-stuck (by_rule p 252) (NoSlack l side load capacity) (stuck_link p) link e
in_place-stuck p Memory link e = cc

pub fewest-stuck : (p : Problem) (link : ℕ) → fewest p ≡ Err (Stuck link) → stuck_link p ≡ Some link
fewest-stuck p link e = by (chosen p) refl
  where
    by : (r : Result Choice NoPlan) → chosen p ≡ r → stuck_link p ≡ Some link
    by (Ok c) is = absurd (clash (sym (fewest-is p (Ok c) is) ∙ e))
      where
        clash : ◌≡◌ {A = Result Choice Cause} (Ok (beside p c)) (Err (Stuck link)) → ⊥
        clash h = cc
    by (Err cause) is = in_place-stuck p cause link (sym (fewest-is p (Err cause) is) ∙ e)
