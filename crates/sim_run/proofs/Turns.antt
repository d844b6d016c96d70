-- What a controller's rounds, stops and starts make of a rehearsal.
use Rattle.std.proofs.Common.{◌≡◌, ℕ, ◌<◌, ◌≤◌, true, false, not, ◌&&◌, nat_le, nat_lt, List, [], ◌∷◌, ◌++◌, map, length, take, drop, replicate, refl, sym, ap, ap₂, ◌∙◌, arith, lt-ltb, le-leb}
use Rattle.std.proofs.lemmas.Bool.{and_from}
use Rattle.std.proofs.Math.Seq.{drop-append_seam}
use Rattle.std.proofs.lemmas.List.{append-nil, length-map, drop-map, take_all}
use Rattle.rollout_rules.specs.Wan.{Problem, Plan, Rollout}
use Rattle.rollout_rules.specs.Items.{item_count}
use Rattle.rollout_rules.specs.History.{with_entries}
use Rattle.rollout_rules.specs.Release.{batch}
use Rattle.rollout_rules.specs.World.{World, allows, after_events, answers_of}
use Rattle.rollout_rules.specs.declared.op.Op.{Op}
use Rattle.rollout_rules.specs.declared.op.OpView.{OpView}
use Rattle.rollout_rules.specs.declared.op.Entry.{Entry}
use Rattle.rollout_rules.specs.declared.event.Event.TheVariants as event
use Rattle.rollout_rules.specs.declared.event.Act.TheVariants as act
use Rattle.rollout_laws.proofs.Histories.{with_none}
use Rattle.sim_run.specs.Acts.{first_rehearsal, unheard, round_batch, write_whole, stop_writing, acted}
use Rattle.sim_run.specs.Controlling.{Controlling, after_round, batch_of, first_controlling, with_nothing}
use Rattle.sim_run.specs.Passing.{Passing, given_of}
use Rattle.sim_run.specs.Rehearsing.{moved, rehearsing_of}
use Rattle.sim_run.proofs.Moving.{moved-happens}
use Rattle.sim_run.proofs.Switches.{holdings-first}
use Rattle.sim_run.proofs.Writable.{batch_may_be_written}

-- ---- worlds
module _ (p : Problem) (plan : Plan) (w : World) (idle : w.writing ≡ []) where
  -- a batch was written whole
  pub written : (b : List Entry) → (0 < length b → allows p plan w (event.Write b) ≡ true) → after_events p plan w (write_whole b) ≡ record w { durable = with_entries w.durable b; writing = [] }
  written [] may = ap₂ (λ h l. record w { durable = h; writing = l }) (sym (with_none w.durable)) idle
  written (e ∷ es) may =
      let may' : allows p plan w (event.Write (e ∷ es)) ≡ true = may (omega arith) in
      let some : nat_lt 0 (length (e ∷ es)) ≡ true = lt-ltb 0 (length (e ∷ es)) (omega arith) in
      rw (may', some) refl

  -- the controller stopped while it wrote a batch
  pub stopped : (b : List Entry) (n : ℕ) → w.up ≡ true → n ≤ length b → (0 < length b → allows p plan w (event.Write b) ≡ true)
      → after_events p plan w (stop_writing b n) ≡ record w { durable = with_entries w.durable (take n b); up = false; writing = []; handed = [] }
  stopped [] n up le may =
      let zero : n ≡ 0 = omega (arith, le) in
      rw (zero, up, idle) refl
  stopped (e ∷ es) n up le may =
      let may' : allows p plan w (event.Write (e ∷ es)) ≡ true = may (omega arith) in
      let stops : (w.up && nat_le n (length (e ∷ es))) ≡ true = and_from _ _ up (le-leb n (length (e ∷ es)) le) in
      rw (may', stops) refl

-- answers with their pairs are answers of the first migration
answers-are : (answers : List Op) → answers_of 0 (map given_of answers) ≡ answers
answers-are [] = refl
answers-are (a ∷ answers) = ap (λ l. a ∷ l) (answers-are answers)

-- ---- rehearsals by their parts
pub first : (o : Rollout) (c : Controlling) (w : Passing) (items : ℕ) → c ≡ first_controlling o → w ≡ record { sent = []; given = []; applied = replicate items 0 } → items ≡ item_count o.problem
    → rehearsing_of c w ≡ record { rollout = o; state = first_rehearsal o.problem o.plan; live = true }
first o c w items ec ew count =
    (λ k. rehearsing_of (ec k) (ew k))
    ∙ ap (λ held. record { rollout = o; state = record { world = record (first_rehearsal o.problem o.plan).world { held = held }; heard = 0 }; live = true }) (holdings-first o.problem o.plan items count)

module _ (c : Controlling) (w : Passing) where
  -- a round hears what was handed over since the last one
  unheard-is : unheard (rehearsing_of c w).state ≡ c.heard
  unheard-is =
      ap (answers_of 0) (drop-map given_of (length c.earlier) (c.earlier ++ c.heard))
      ∙ answers-are (drop (length c.earlier) (c.earlier ++ c.heard))
      ∙ drop-append_seam c.earlier c.heard

  pub batch-is : (policy : OpView → ℕ) → round_batch c.rollout.problem c.rollout.plan policy (rehearsing_of c w).state ≡ batch_of c policy
  batch-is policy = ap (batch c.rollout.problem c.rollout.plan policy c.history) unheard-is

  may-write : (policy : OpView → ℕ) → c.up ≡ true → 0 < length (round_batch c.rollout.problem c.rollout.plan policy (rehearsing_of c w).state)
      → allows c.rollout.problem c.rollout.plan (rehearsing_of c w).state.world (event.Write (round_batch c.rollout.problem c.rollout.plan policy (rehearsing_of c w).state)) ≡ true
  may-write policy is_up some = batch_may_be_written c.rollout.problem c.rollout.plan policy (rehearsing_of c w).state.world (length c.earlier) is_up refl some

  pub turns : (c' : Controlling) (policy : OpView → ℕ) → c.up ≡ true → c' ≡ after_round c policy
      → rehearsing_of c' w ≡ record (rehearsing_of c w) { state = acted c.rollout.problem c.rollout.plan policy (rehearsing_of c w).state act.Round }
  turns c' policy is_up ec =
      let r = rehearsing_of c w in
      let b = round_batch c.rollout.problem c.rollout.plan policy r.state in
      let all = c.earlier ++ c.heard in
      ap (λ u. rehearsing_of u w) ec
      ∙ ap (λ l. record r { state = record { world = record r.state.world { durable = with_entries c.history (batch_of c policy); handed = map given_of l }; heard = length all } }) (append-nil all)
      ∙ ap₂ (λ l n. record r { state = record { world = record r.state.world { durable = with_entries c.history l }; heard = n } }) (sym (batch-is policy)) (sym (length-map all given_of))
      ∙ ap (λ v. record r { state = record { world = v; heard = length (map given_of all) } }) (sym (written c.rollout.problem c.rollout.plan r.state.world refl b (may-write policy is_up)))

  -- a stop, and a crash whose batch is lost
  pub stops : (c' : Controlling) (policy : OpView → ℕ) → c.up ≡ true → c' ≡ with_nothing c
      → rehearsing_of c' w ≡ record (rehearsing_of c w) { state = acted c.rollout.problem c.rollout.plan policy (rehearsing_of c w).state act.Stop }
  stops c' policy is_up ec =
      let r = rehearsing_of c w in
      ap (λ u. rehearsing_of u w) ec
      ∙ ap (λ l. record r { state = record { world = record r.state.world { durable = l; up = false; handed = [] }; heard = 0 } }) (sym (with_none c.history))
      ∙ ap (λ v. record r { state = record { world = v; heard = 0 } }) (sym (stopped c.rollout.problem c.rollout.plan r.state.world refl [] 0 is_up (omega arith) (λ some. absurd (omega (arith, some)))))

  pub loses : (c' : Controlling) (policy : OpView → ℕ) → c.up ≡ true → c' ≡ with_nothing c
      → rehearsing_of c' w ≡ record (rehearsing_of c w) { state = acted c.rollout.problem c.rollout.plan policy (rehearsing_of c w).state act.CrashLost }
  loses c' policy is_up ec =
      let r = rehearsing_of c w in
      let b = round_batch c.rollout.problem c.rollout.plan policy r.state in
      ap (λ u. rehearsing_of u w) ec
      ∙ ap (λ l. record r { state = record { world = record r.state.world { durable = l; up = false; handed = [] }; heard = 0 } }) (sym (with_none c.history))
      ∙ ap (λ v. record r { state = record { world = v; heard = 0 } }) (sym (stopped c.rollout.problem c.rollout.plan r.state.world refl b 0 is_up (omega arith) (may-write policy is_up)))

  -- a crash whose batch is kept
  pub keeps : (made c' : Controlling) (policy : OpView → ℕ) → c.up ≡ true → made ≡ after_round c policy → c' ≡ with_nothing made
      → rehearsing_of c' w ≡ record (rehearsing_of c w) { state = acted c.rollout.problem c.rollout.plan policy (rehearsing_of c w).state act.CrashKept }
  keeps made c' policy is_up em ec =
      let r = rehearsing_of c w in
      let b = round_batch c.rollout.problem c.rollout.plan policy r.state in
      ap (λ u. rehearsing_of u w) (ec ∙ ap with_nothing em)
      ∙ ap (λ l. record r { state = record { world = record r.state.world { durable = with_entries c.history l; up = false; handed = [] }; heard = 0 } })
      (sym (batch-is policy) ∙ sym (take_all (length b) b (omega arith)))
      ∙ ap (λ v. record r { state = record { world = v; heard = 0 } }) (sym (stopped c.rollout.problem c.rollout.plan r.state.world refl b (length b) is_up (omega arith) (may-write policy is_up)))

  pub starts : (c' : Controlling) → c.up ≡ false → c' ≡ record c { up = true } → rehearsing_of c' w ≡ moved (rehearsing_of c w) (event.Restart ∷ [])
  starts c' down ec =
      let may : not c.up ≡ true = ap not down in
      ap (λ u. rehearsing_of u w) ec ∙ sym (moved-happens (rehearsing_of c w) event.Restart may)
