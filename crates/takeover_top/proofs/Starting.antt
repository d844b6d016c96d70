-- What is promised of a takeover, and of a run by its term, from the arguments of the program on.
use Rattle.std.proofs.Common.{◌≡◌, ℕ, List, drop, String, Result, Ok, Err, Some, refl, sym, subst}
use Rattle.std.specs.declared.alloc.Global.{Global}
use Rattle.rollout_rules.specs.declared.op.OpView.{OpView}
use Rattle.text_commands.specs.CommandEnds.{ending_of_unread}
use Rattle.text_commands.specs.Runs.{IsTold}
use Rattle.text_commands.specs.declared.arguments.Unread.{Unread}
use Rattle.text_commands.specs.declared.command_end.CommandEnd.{CommandEnd}
use Rattle.swanroll_top.specs.Promise.{StartPromise}
use Rattle.swanroll_top.specs.Views.{Outside, Views, outside}
use Rattle.swanroll_top.proofs.Promises.{unread-started}
use Rattle.takeover_top.specs.TakeoverPromise.{ByWords, StartsTakeover}
use Rattle.takeover_top.specs.TakingWords.{taking_by}
use Rattle.takeover_top.specs.TermPromise.{AtTermPromise, IsPlainRest, PlainPromise}
use Rattle.takeover_top.specs.TermWords.{WithoutTerm, run_term_by}

module _ {A S K D F P G : Type 0} (views : Views S K D F P G) (of_term : F → ℕ) (policies : List (List ℕ × (OpView → ℕ))) (arguments : Result A Unread) (list : A → List (String Global)) where
  pub read-taken : (all : A) (words : List (String Global)) (before after : Outside S K D F) (status : ℕ) → arguments ≡ Ok all → words ≡ drop 1 (list all) → ByWords views of_term (taking_by policies words) before status after
      → StartsTakeover views of_term policies arguments list before status after
  read-taken all words before after status is words_are promise =
      subst (λ r. StartsTakeover views of_term policies r list before status after) (sym is) (record { read = subst (λ w. ByWords views of_term (taking_by policies w) before status after) words_are promise; unread = tt })

  pub unread-taken : (why : Unread) (e : CommandEnd) (source : S) (sink : K) (notes notes_now : K) (disk : D) (fleet : F) (status : ℕ) → arguments ≡ Err why → e ≡ ending_of_unread why
      → IsTold e status (views.sink notes).written (views.sink notes_now).written (views.sink notes).faults (views.sink notes_now).faults
      → StartsTakeover views of_term policies arguments list (outside source sink notes disk fleet) status (outside source sink notes_now disk fleet)
  unread-taken why e source sink notes notes_now disk fleet status is end told =
      subst (λ r. StartsTakeover views of_term policies r list (outside source sink notes disk fleet) status (outside source sink notes_now disk fleet)) (sym is) (record {
        read = tt;
        unread = (unread-started views policies (Err why) list why e source sink notes notes_now disk fleet status refl end told).unread;
      })

  -- a run of a term
  pub read-at : (all rest : A) (before after : Outside S K D F) (status : ℕ) → arguments ≡ Ok all → run_term_by (drop 1 (list all)) ≡ Some (of_term before.fleet) → WithoutTerm (list all) (list rest)
      → StartPromise views policies (Ok rest) list before status after → AtTermPromise views of_term policies arguments list before status after
  read-at all rest before after status is term without promise =
      subst (λ r. AtTermPromise views of_term policies r list before status after) (sym is) (record {
        read = record { term = term; rest = list rest; without = without; does = promise.read };
        unread = tt;
      })

  pub unread-at : (why : Unread) (before after : Outside S K D F) (status : ℕ) → arguments ≡ Err why → StartPromise views policies (Err why) list before status after → AtTermPromise views of_term policies arguments list before status after
  unread-at why before after status is promise =
      subst (λ r. AtTermPromise views of_term policies r list before status after) (sym is) (record { read = tt; unread = promise.unread })

  -- and one without
  pub read-plain : (all rest : A) (before after : Outside S K D F) (status : ℕ) → arguments ≡ Ok all → IsPlainRest (run_term_by (drop 1 (list all))) (list all) (list rest)
      → StartPromise views policies (Ok rest) list before status after → PlainPromise views policies arguments list before status after
  read-plain all rest before after status is plain promise =
      subst (λ r. PlainPromise views policies r list before status after) (sym is) (record { read = record { rest = list rest; plain = plain; does = promise.read }; unread = tt })

  pub unread-plain : (why : Unread) (before after : Outside S K D F) (status : ℕ) → arguments ≡ Err why → StartPromise views policies (Err why) list before status after → PlainPromise views policies arguments list before status after
  unread-plain why before after status is promise =
      subst (λ r. PlainPromise views policies r list before status after) (sym is) (record { read = tt; unread = promise.unread })
