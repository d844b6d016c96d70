-- What a call is told may be noted.
use Rattle.std.proofs.Common.{◌≡◌, ℕ, Bool, true, false, not, ◌&&◌, ◌==◌, List, [], ◌∷◌, length, filter, Option, Some, None, is_some, if◌then◌else◌, refl, ap, ◌∙◌, subst, ◌⊎◌, inl, inr, ⊎_elim, arith, eq-eqb, ne_eqb}
use Rattle.std.proofs.lemmas.Bool.{and_from}
use Rattle.lists.proofs.Conditions.{some_same_is}
use Rattle.shared_book.specs.Batches.{dones_ahead, behind_dones, is_batch}
use Rattle.rollout_rules.specs.Legal.{is_finished}
use Rattle.rollout_rules.specs.World.{in_flight}
use Rattle.rollout_rules.specs.declared.op.Op.{Op}
use Rattle.rollout_rules.specs.declared.op.Entry.{Entry}
use Rattle.shared_book.specs.declared.note.Cause.{Cause}
use Rattle.shared_book.specs.declared.note.What.{What}
use Rattle.shared_book.specs.declared.note.What.TheVariants as what
use Rattle.shared_book.specs.declared.note.Written.{Written}
use Rattle.shared_book.specs.declared.call_reply.Halt.{Halt}
use Rattle.shared_book.specs.declared.call_reply.Wake.{Wake}
use Rattle.shared_book.specs.declared.call_reply.Wake.TheVariants as wake
use Rattle.shared_book.specs.Notes.{first_stop, is_stopped, has_asked}
use Rattle.shared_book.specs.Histories.{Opening, history_of}
use Rattle.shared_book.specs.Legal.{begun_of, is_alien, is_still, is_turn, may_say}
use Rattle.shared_book.specs.Replies.{first_alien, turned, list_says, or_stopped, is_asked, asked_at, wake_with, wake_or, wake_reply, wake_says}

not_stopped : (ws : List Written) → first_stop ws ≡ None → not (is_stopped ws) ≡ true
not_stopped ws none = ap (λ s. not (is_some s)) none

-- what was answered is what there was
pick : (b : Bool) (here said : What) (later : Option What) → (if b then Some here else later) ≡ Some said → ((b ≡ true) × (here ≡ said)) ⊎ (later ≡ Some said)
pick true here said later e = inl (refl, cc e)
pick false here said later e = inr e

module _ (o : Opening) (ws : List Written) (seat : ℕ) where
  pub listing-may : (s : Option Halt) → first_stop ws ≡ s → may_say o ws seat [] (or_stopped s what.Listed) ≡ true
  listing-may (Some halt) is = and_from (is_stopped ws) true (ap is_some is) refl
  listing-may None is = and_from (not (is_stopped ws)) true (not_stopped ws is) refl

  pub list-may : may_say o ws seat [] (list_says ws) ≡ true
  list-may = listing-may (first_stop ws) refl

  pub stopped-may : is_stopped ws ≡ true → may_say o ws seat [] what.Stopped ≡ true
  stopped-may is = and_from (is_stopped ws) true is refl

  pub stop-may : (why : Cause) → has_asked seat ws ≡ false → may_say o ws seat [] (what.Stop why) ≡ true
  stop-may why not_yet = and_from (not (has_asked seat ws)) true (ap not not_yet) refl

  -- a round that was made, and one whose append failed
  pub turned-may : (es : List Entry) → first_stop ws ≡ None → is_batch o.rollout.problem o.rollout.plan o.policy (history_of o ws) es ≡ true → may_say o ws seat es (turned es) ≡ true
  turned-may es none batch =
      let dones = length (dones_ahead es) in
      let begins = length (behind_dones es) in
      and_from (not (is_stopped ws)) (is_turn o (history_of o ws) dones begins es) (not_stopped ws none)
      (and_from ((dones == dones) && (begins == begins)) (is_batch o.rollout.problem o.rollout.plan o.policy (history_of o ws) es)
      (and_from (dones == dones) (begins == begins) (eq-eqb dones dones refl) (eq-eqb begins begins refl)) batch)

  pub disk-may : (es : List Entry) → first_stop ws ≡ None → is_batch o.rollout.problem o.rollout.plan o.policy (history_of o ws) es ≡ true → may_say o ws seat es what.Disk ≡ true
  disk-may es none batch =
      and_from (not (is_stopped ws)) (is_batch o.rollout.problem o.rollout.plan o.policy (history_of o ws) es) (not_stopped ws none) batch

  -- the first alien answer
  alien-is : (answer : Op) → first_stop ws ≡ None → is_alien o.rollout.problem (history_of o ws) answer ≡ true
      → may_say o ws seat [] (what.Alien answer.item answer.number (begun_of o.rollout.problem (history_of o ws) answer.item)) ≡ true
  alien-is answer none alien =
      let n = begun_of o.rollout.problem (history_of o ws) answer.item in
      and_from (not (is_stopped ws) && true && is_alien o.rollout.problem (history_of o ws) answer) (n == n)
      (and_from (not (is_stopped ws) && true) (is_alien o.rollout.problem (history_of o ws) answer) (and_from (not (is_stopped ws)) true (not_stopped ws none) refl) alien)
      (eq-eqb n n refl)

  pub alien-may : (answers : List Op) (said : What) → first_stop ws ≡ None → first_alien o.rollout.problem (history_of o ws) answers ≡ Some said → may_say o ws seat [] said ≡ true
  alien-may [] said none is = absurd (cc is)
  alien-may (answer ∷ later) said none is =
      let here = what.Alien answer.item answer.number (begun_of o.rollout.problem (history_of o ws) answer.item) in
      ⊎_elim (λ (both : (is_alien o.rollout.problem (history_of o ws) answer ≡ true) × (here ≡ said)). subst (λ w. may_say o ws seat [] w ≡ true) both.1 (alien-is answer none both.0))
      (λ (rest : first_alien o.rollout.problem (history_of o ws) later ≡ Some said). alien-may later said none rest)
      (pick (is_alien o.rollout.problem (history_of o ws) answer) here said (first_alien o.rollout.problem (history_of o ws) later) is)

-- where one of some operations is asked for there is one
some_asked : (test : Op → Bool) (ops : List Op) (op : Op) (rest : List Op) → filter test ops ≡ op ∷ rest → (length ops == 0) ≡ false
some_asked test [] op rest is = absurd (cc is)
some_asked test (x ∷ xs) op rest is = ne_eqb (length (x ∷ xs)) 0 (λ e. omega arith)

abbrev said_by : Option Wake → Option What
said_by None = None
said_by (Some woken) = wake_says woken

module _ (o : Opening) (ws : List Written) (seat : ℕ) where
  -- what waiting ends with, by cases on what there is
  woken-may : (s : Option Halt) (finished still : Bool) (ops : List Op) (said : What)
      → first_stop ws ≡ s → is_finished o.rollout.problem o.rollout.plan (history_of o ws) ≡ finished → is_still o.rollout.problem (history_of o ws) ≡ still
      → ((op : Op) (rest : List Op) → ops ≡ op ∷ rest → still ≡ false) → said_by (wake_or s (wake_with finished still ops)) ≡ Some said → may_say o ws seat [] said ≡ true
  woken-may (Some halt) finished still ops said s f t some is = subst (λ w. may_say o ws seat [] w ≡ true) (some_same_is what.Stopped said is) (stopped-may o ws seat (ap is_some s))
  woken-may None finished still (op ∷ ops) said s f t some is =
      subst (λ w. may_say o ws seat [] w ≡ true) (some_same_is what.Work said is)
      (and_from (not (is_stopped ws) && true) (not (is_still o.rollout.problem (history_of o ws))) (and_from (not (is_stopped ws)) true (not_stopped ws s) refl) (ap not (t ∙ some op ops refl)))
  woken-may None true still [] said s f t some is =
      subst (λ w. may_say o ws seat [] w ≡ true) (some_same_is what.Finished said is)
      (and_from (not (is_stopped ws) && true) (is_finished o.rollout.problem o.rollout.plan (history_of o ws)) (and_from (not (is_stopped ws)) true (not_stopped ws s) refl) f)
  woken-may None false true [] said s f t some is =
      subst (λ w. may_say o ws seat [] w ≡ true) (some_same_is what.Held said is)
      (and_from (not (is_stopped ws) && true && is_still o.rollout.problem (history_of o ws)) (not (is_finished o.rollout.problem o.rollout.plan (history_of o ws)))
      (and_from (not (is_stopped ws) && true) (is_still o.rollout.problem (history_of o ws)) (and_from (not (is_stopped ws)) true (not_stopped ws s) refl) t) (ap not f))
  woken-may None false false [] said s f t some is = absurd (cc is)

  pub wake-may : (switches : List ℕ) (woken : Wake) (said : What) → wake_reply o ws switches ≡ Some woken → wake_says woken ≡ Some said → may_say o ws seat [] said ≡ true
  wake-may switches woken said is says =
      let h = history_of o ws in
      let p = o.rollout.problem in
      woken-may (first_stop ws) (is_finished p o.rollout.plan h) (is_still p h) (asked_at p h switches) said refl refl refl
      (λ op rest some. some_asked (is_asked p switches) (in_flight p h) op rest some) (ap said_by is ∙ says)
