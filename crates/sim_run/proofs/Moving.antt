-- What a command sent, one delivered and an answer handed over make of a rehearsal's parts.
use Rattle.std.proofs.Common.{◌≡◌, ℕ, ◌+◌, ◌<◌, true, cond, List, [], ◌∷◌, ◌++◌, map, length, get_or, set, refl, sym, ap, ap₂, ◌∙◌, subst, arith, lt-ltb, append_assoc, length-append}
use Rattle.std.proofs.lemmas.Bool.{and_from}
use Rattle.std.proofs.lemmas.List.{map-append, length-map, get_or-map, get_or_push}
use Rattle.rollout_rules.specs.Items.{item_at}
use Rattle.rollout_rules.specs.Operations.{content_after}
use Rattle.rollout_rules.specs.Agent.{Holding, nothing_held, pair_of, held_after}
use Rattle.rollout_rules.specs.World.{World, no_op, no_answer, in_flight, allows, happens, delivered}
use Rattle.rollout_rules.specs.declared.held.Given.{Given}
use Rattle.rollout_rules.specs.declared.op.Op.{Op}
use Rattle.rollout_rules.specs.declared.event.Event.{Event}
use Rattle.rollout_rules.specs.declared.event.Event.TheVariants as event
use Rattle.sim_run.specs.Controlling.{Controlling, with_answer}
use Rattle.sim_run.specs.Passing.{Passing, applied_after, answer_to, with_delivered, given_of, holding_at, holdings}
use Rattle.sim_run.specs.Rehearsing.{Rehearsing, moved, rehearsing_of}
use Rattle.sim_run.proofs.Switches.{holdings-at, holdings-set, holding-after}

-- a rehearsal whose world is another
abbrev pub in_world : Rehearsing → World → Rehearsing
in_world r w = record r { state = record r.state { world = w } }

-- an event that is allowed happens
pub moved-happens : (r : Rehearsing) (e : Event) → allows r.rollout.problem r.rollout.plan r.state.world e ≡ true → moved r (e ∷ []) ≡ in_world r (happens r.rollout.problem r.rollout.plan r.state.world e)
moved-happens r e may = ap (λ b. in_world r (cond b (happens r.rollout.problem r.rollout.plan r.state.world e) r.state.world)) may

module _ (c : Controlling) where
  pub sends : (w w' : Passing) (place : ℕ) (op : Op) → c.up ≡ true → place < length (in_flight c.rollout.problem c.history)
      → op ≡ get_or (in_flight c.rollout.problem c.history) place no_op → w' ≡ record w { sent = w.sent ++ op ∷ [] }
      → rehearsing_of c w' ≡ moved (rehearsing_of c w) (event.Send place ∷ [])
  sends w w' place op is_up lt is new =
      let r = rehearsing_of c w in
      let may : allows c.rollout.problem c.rollout.plan r.state.world (event.Send place) ≡ true = and_from _ _ (and_from _ _ is_up refl) (lt-ltb place _ lt) in
      ap (λ v. rehearsing_of c v) new ∙ ap (λ o. rehearsing_of c (record w { sent = w.sent ++ o ∷ [] })) is ∙ sym (moved-happens r (event.Send place) may)

  pub hands : (w : Passing) (c' : Controlling) (place : ℕ) (answer : Op) → c.up ≡ true → place < length w.given
      → answer ≡ get_or w.given place no_op → c' ≡ with_answer c answer
      → rehearsing_of c' w ≡ moved (rehearsing_of c w) (event.Hand place ∷ [])
  hands w c' place answer is_up lt is new =
      let r = rehearsing_of c w in
      let all = c.earlier ++ c.heard in
      let there : place < length (map given_of w.given) = subst (λ n. place < n) (sym (length-map w.given given_of)) lt in
      let may : allows c.rollout.problem c.rollout.plan r.state.world (event.Hand place) ≡ true = and_from _ _ is_up (lt-ltb place _ there) in
      ap (λ u. rehearsing_of u w) new
      ∙ ap (λ l. in_world r (record r.state.world { handed = map given_of l })) (sym (append_assoc c.earlier c.heard (answer ∷ [])))
      ∙ ap (λ l. in_world r (record r.state.world { handed = l })) (map-append given_of all (answer ∷ []))
      ∙ ap (λ a. in_world r (record r.state.world { handed = map given_of all ++ a ∷ [] })) (ap given_of is ∙ sym (get_or-map given_of w.given place no_op no_answer lt))
      ∙ sym (moved-happens r (event.Hand place) may)

  module _ (w : Passing) where
    -- the same with these answers given, and this held
    abbrev with_parts : List Given → List Holding → Rehearsing
    with_parts given held = in_world (rehearsing_of c w) (record (rehearsing_of c w).state.world { given = given; held = held })

    pub delivers : (w' : Passing) (place : ℕ) (op : Op) → place < length w.sent → op ≡ get_or w.sent place no_op → op.item < length w.applied → w' ≡ with_delivered w op
        → rehearsing_of c w' ≡ moved (rehearsing_of c w) (event.Deliver place ∷ [])
    delivers w' place op lt is inside new =
        let r = rehearsing_of c w in
        let p = c.rollout.problem in
        let plan = c.rollout.plan in
        let may : allows p plan r.state.world (event.Deliver place) ≡ true = lt-ltb place _ lt in
        let number = applied_after (get_or w.applied op.item 0) op.number in
        let content = content_after p plan (item_at p op.item) op.number in
        let held : held_after (get_or (holdings p plan w.applied) op.item nothing_held) (pair_of 0 op.number) content ≡ holding_at p plan op.item number =
        ap (λ x. held_after x (pair_of 0 op.number) content) (holdings-at p plan w.applied op.item inside) ∙ holding-after p plan op.item (get_or w.applied op.item 0) op.number in
        ap (λ v. rehearsing_of c v) new
        ∙ ap₂ with_parts (map-append given_of w.given (answer_to w op ∷ [])) (holdings-set p plan w.applied op.item number inside)
        ∙ ap (λ v. with_parts (map given_of w.given ++ record { item = op.item; held = v.held } ∷ []) (set (holdings p plan w.applied) op.item v)) (sym held)
        ∙ ap (λ o. in_world r (delivered p plan r.state.world o)) is
        ∙ sym (moved-happens r (event.Deliver place) may)

-- one operation in flight: its command is sent and delivered
pub exchanges-front : (c : Controlling) (w w1 w2 : Passing) (place : ℕ) (op : Op) → c.up ≡ true → place < length (in_flight c.rollout.problem c.history)
    → op ≡ get_or (in_flight c.rollout.problem c.history) place no_op → op.item < length w.applied → w1 ≡ record w { sent = w.sent ++ op ∷ [] }
    → (sent : Op) → sent ≡ get_or w1.sent (length w.sent) no_op → w2 ≡ with_delivered w1 sent
    → rehearsing_of c w2 ≡ moved (rehearsing_of c w) (event.Send place ∷ event.Deliver (length w.sent) ∷ [])
exchanges-front c w w1 w2 place op is_up lt is inside new sent back later =
    let long : length w1.sent ≡ length w.sent + 1 = ap (λ v. length v.sent) new ∙ length-append w.sent (op ∷ []) in
    let own : sent ≡ op = back ∙ ap (λ v. get_or v.sent (length w.sent) no_op) new ∙ get_or_push w.sent op no_op (length w.sent) refl in
    let there : sent.item < length w1.applied = subst (λ n. n < length w1.applied) (ap (λ o. o.item) (sym own)) (subst (λ v. op.item < length v.applied) (sym new) inside) in
    delivers c w1 w2 (length w.sent) sent (omega (arith, long)) back there later
    ∙ ap (λ r. moved r (event.Deliver (length w.sent) ∷ [])) (sends c w w1 place op is_up lt is new)

-- and the answer to it is handed over
pub exchanges-one : (c c' : Controlling) (w w1 w2 : Passing) (place : ℕ) (op answer : Op) → c.up ≡ true → place < length (in_flight c.rollout.problem c.history)
    → op ≡ get_or (in_flight c.rollout.problem c.history) place no_op → op.item < length w.applied → w1 ≡ record w { sent = w.sent ++ op ∷ [] }
    → (sent : Op) → sent ≡ get_or w1.sent (length w.sent) no_op → w2 ≡ with_delivered w1 sent → answer ≡ answer_to w1 sent → c' ≡ with_answer c answer
    → rehearsing_of c' w2 ≡ moved (rehearsing_of c w) (event.Send place ∷ event.Deliver (length w.sent) ∷ event.Hand (length (map given_of w.given)) ∷ [])
exchanges-one c c' w w1 w2 place op answer is_up lt is inside new sent back later said handed =
    let more : w2.given ≡ w.given ++ answer ∷ [] = ap (λ v. v.given) later ∙ ap₂ (λ v a. v.given ++ a ∷ []) new (sym said) in
    let last : length w.given < length w2.given = omega (arith, ap length more, length-append w.given (answer ∷ [])) in
    let at : answer ≡ get_or w2.given (length w.given) no_op = sym (ap (λ l. get_or l (length w.given) no_op) more ∙ get_or_push w.given answer no_op (length w.given) refl) in
    hands c w2 c' (length w.given) answer is_up last at handed
    ∙ ap (λ r. moved r (event.Hand (length w.given) ∷ [])) (exchanges-front c w w1 w2 place op is_up lt is inside new sent back later)
    ∙ ap (λ n. moved (rehearsing_of c w) (event.Send place ∷ event.Deliver (length w.sent) ∷ event.Hand n ∷ [])) (sym (length-map w.given given_of))
