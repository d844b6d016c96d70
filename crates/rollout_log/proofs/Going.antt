-- How a log goes on and ends.
use Rattle.std.proofs.Common.{◌≡◌, inl, inr, ℕ, List, [], ◌++◌, length, take, drop, Bool, true, false, Option, Some, None, IfSome, refl, sym, subst, ap, ◌∙◌, append_assoc}
use Rattle.std.proofs.lemmas.List.{append-nil, take-append-drop}
use Rattle.disk_model.specs.Crashes.{IsDurable}
use Rattle.disk_model.specs.Traces.{DiskTrace}
use Rattle.intent_journal.specs.Reading.{Lists}
use Rattle.rollout_rules.specs.declared.op.Entry.{Entry}
use Rattle.wan_edge.specs.Streams.{Appends, AppendsPart}
use Rattle.rollout_log.specs.declared.phase.Phase.{Phase}
use Rattle.rollout_log.specs.declared.phase.Phase.TheVariants.{Ended, Read, Unread, Written}
use Rattle.rollout_log.specs.Lines.{lines_at, lines_of, start_line}
use Rattle.rollout_log.specs.Logs.{GoesOn, IsLog, IsSoFar, IsWhole, Stood, Tells, WritesLines, first_phase, is_first}
use Rattle.rollout_log.proofs.Lining.{lines-append, lines-at}

module _ {D : Type 0} (trace : D → DiskTrace) where
  -- what is said by how far a log has come says what a log is
  is-log : (phase : Phase) (known : List Entry) (text : List ℕ) → IsSoFar trace phase known text → IsLog trace text
  is-log Unread known text so_far = inl so_far
  is-log Read known text so_far = inl so_far.0
  is-log Written known text so_far = inr (record { list = known; more = []; stood = so_far.stood; tells = subst (Tells trace known) (sym (append-nil text)) so_far.tells })
  is-log Ended known text so_far = so_far

  pub told_log : (phase : Phase) (known : List Entry) (told : Option (List ℕ)) → IfSome told (IsSoFar trace phase known) → IfSome told (IsLog trace)
  told_log phase known None so_far = tt
  told_log phase known (Some text) so_far = is-log phase known text so_far

  -- a log to which nothing was written, whether it is asked for or not
  pub log_begun : (asked : Bool) (known : List Entry) (told : Option (List ℕ)) → IfSome told (λ text. text ≡ []) → IfSome told (IsSoFar trace (first_phase asked) known)
  log_begun true known None none = tt
  log_begun true known (Some text) none = none
  log_begun false known None none = tt
  log_begun false known (Some text) none = inl none

  -- it ends where it is
  pub log_ended : (phase : Phase) (known : List Entry) (told : Option (List ℕ)) → IfSome told (IsSoFar trace phase known) → IfSome told (IsSoFar trace Ended known)
  log_ended phase known None so_far = tt
  log_ended phase known (Some text) so_far = is-log phase known text so_far

  -- a list is read before anything is written
  pub log_read : (phase : Phase) (known list : List Entry) (told : Option (List ℕ)) → phase ≡ Unread → Stood trace list → IfSome told (IsSoFar trace phase known) → IfSome told (IsSoFar trace Read list)
  log_read phase known list None is stood so_far = tt
  log_read phase known list (Some text) is stood so_far = (subst (λ (p : Phase). IsSoFar trace p known text) is so_far, stood)

  -- a list that was read of a disk which was synced
  pub stood_list : (disk : D) (image : List ℕ) (found : Option (List Entry)) → IsDurable (trace disk).bytes (trace disk).may_leave → (trace disk).bytes ≡ Some image → IfSome found (λ list. Lists list image) → IfSome found (Stood trace)
  stood_list disk image None durable told lists = tt
  stood_list disk image (Some list) durable told lists =
      record { disk = disk; durable = durable; lists = subst (λ (t : Option (List ℕ)). IfSome t (Lists list)) (sym told) lists }

  -- the first lines of a log
  tells-first : (ms : ℕ) (known more list : List Entry) → Stood trace known → list ≡ known ++ more → Tells trace list (lines_of true ms (length known) more)
  tells-first ms known more list was is = record { found = known; was = was; past = more; is_list = is; ms = ms; rest = lines_at ms more; is = refl; lines = lines-at ms more }

  -- and further ones
  tells-more : (ms : ℕ) (known more list : List Entry) (text : List ℕ) → list ≡ known ++ more → Tells trace known text → Tells trace list (text ++ lines_at ms more)
  tells-more ms known more list text is tells = record {
    found = tells.found;
    was = tells.was;
    past = tells.past ++ more;
    is_list = is ∙ ap (λ l. l ++ more) tells.is_list ∙ append_assoc tells.found tells.past more;
    ms = tells.ms;
    rest = tells.rest ++ lines_at ms more;
    is = ap (λ t. t ++ lines_at ms more) tells.is ∙ append_assoc (start_line tells.ms (length tells.found)) tells.rest (lines_at ms more);
    lines = lines-append tells.past more tells.rest (lines_at ms more) tells.lines (lines-at ms more);
  }

  -- what was written by then, and the lines of what is new
  whole : (phase : Phase) (known more list : List Entry) (ms : ℕ) (text : List ℕ) → GoesOn phase → IsSoFar trace phase known text → list ≡ known ++ more → Tells trace list (text ++ lines_of (is_first phase) ms (length known) more)
  whole Unread known more list ms text goes so_far is = absurd goes
  whole Read known more list ms text goes so_far is = subst (λ (t : List ℕ). Tells trace list (t ++ lines_of true ms (length known) more)) (sym so_far.0) (tells-first ms known more list so_far.1 is)
  whole Written known more list ms text goes so_far is = tells-more ms known more list text is so_far.tells
  whole Ended known more list ms text goes so_far is = absurd goes

  -- all lines were written
  written : (phase : Phase) (known more list : List Entry) (ms : ℕ) (before now : Option (List ℕ)) → GoesOn phase → IfSome before (IsSoFar trace phase known) → list ≡ known ++ more → Stood trace list
      → Appends before (lines_of (is_first phase) ms (length known) more) now → IfSome now (IsWhole trace list)
  written phase known more list ms None now goes so_far is stood appends = subst (λ (t : Option (List ℕ)). IfSome t (IsWhole trace list)) (sym appends) tt
  written phase known more list ms (Some text) now goes so_far is stood appends =
      subst (λ (t : Option (List ℕ)). IfSome t (IsWhole trace list)) (sym appends) (record { stood = stood; tells = whole phase known more list ms text goes so_far is })

  -- a front of them was
  front : (phase : Phase) (known more list : List Entry) (ms : ℕ) (before now : Option (List ℕ)) → GoesOn phase → IfSome before (IsSoFar trace phase known) → list ≡ known ++ more → Stood trace list
      → AppendsPart before (lines_of (is_first phase) ms (length known) more) now → IfSome now (IsLog trace)
  front phase known more list ms None now goes so_far is stood part = subst (λ (t : Option (List ℕ)). IfSome t (IsLog trace)) (sym part.appended) tt
  front phase known more list ms (Some text) now goes so_far is stood part =
      let lines = lines_of (is_first phase) ms (length known) more in
      let again : (text ++ take part.count lines) ++ drop part.count lines ≡ text ++ lines =
      append_assoc text (take part.count lines) (drop part.count lines) ∙ ap (λ t. text ++ t) (take-append-drop part.count lines) in
      subst (λ (t : Option (List ℕ)). IfSome t (IsLog trace)) (sym part.appended)
      (inr (record { list = list; more = drop part.count lines; stood = stood; tells = subst (Tells trace list) (sym again) (whole phase known more list ms text goes so_far is) }))

  by_phase : (phase : Phase) (known more list : List Entry) (result : Phase) (before now : Option (List ℕ)) → GoesOn phase → IfSome before (IsSoFar trace phase known) → list ≡ known ++ more → Stood trace list
      → WritesLines (is_first phase) (length known) more before result now → IfSome now (IsSoFar trace result list)
  by_phase phase known more list Unread before now goes so_far is stood writes = absurd writes
  by_phase phase known more list Read before now goes so_far is stood writes = absurd writes
  by_phase phase known more list Written before now goes so_far is stood writes = written phase known more list writes.0 before now goes so_far is stood writes.1
  by_phase phase known more list Ended before now goes so_far is stood (inl same) =
      subst (λ (t : Option (List ℕ)). IfSome t (IsLog trace)) (sym same) (told_log phase known before so_far)
  by_phase phase known more list Ended before now goes so_far is stood (inr part) = front phase known more list part.0 before now goes so_far is stood part.1

  -- the log goes on with a longer list
  pub log_goes_on : (phase : Phase) (known more list : List Entry) (first : Bool) (count : ℕ) (result : Phase) (before now : Option (List ℕ)) → GoesOn phase → IfSome before (IsSoFar trace phase known) → list ≡ known ++ more
      → Stood trace list → first ≡ is_first phase → count ≡ length known → WritesLines first count more before result now → IfSome now (IsSoFar trace result list)
  log_goes_on phase known more list first count result before now goes so_far is stood first_is count_is writes =
      by_phase phase known more list result before now goes so_far is stood
      (subst (λ (n : ℕ). WritesLines (is_first phase) n more before result now) count_is (subst (λ (b : Bool). WritesLines b count more before result now) first_is writes))

-- what a text of these lines that was written whole, or in front, makes of a log
pub wrote_all : (first : Bool) (found ms : ℕ) (entries : List Entry) (text : List ℕ) (before now : Option (List ℕ)) → text ≡ lines_of first ms found entries → Appends before text now → WritesLines first found entries before Written now
wrote_all first found ms entries text before now is appends = (ms, subst (λ (t : List ℕ). Appends before t now) is appends)

pub wrote_part : (first : Bool) (found ms : ℕ) (entries : List Entry) (text : List ℕ) (before now : Option (List ℕ)) → text ≡ lines_of first ms found entries → AppendsPart before text now → WritesLines first found entries before Ended now
wrote_part first found ms entries text before now is part = inr (ms, subst (λ (t : List ℕ). AppendsPart before t now) is part)

pub at_some_time : (first : Bool) (found ms : ℕ) (entries : List Entry) (text : Option (List ℕ)) → IfSome text (λ t. t ≡ lines_of first ms found entries) → IfSome text (λ t. (at : ℕ) × (t ≡ lines_of first at found entries))
at_some_time first found ms entries None is = tt
at_some_time first found ms entries (Some text) is = (ms, is)

-- where lines are written, and which of them are the first
pub goes_read : (phase : Phase) → phase ≡ Read → GoesOn phase
goes_read phase is = subst GoesOn (sym is) tt

pub first_read : (phase : Phase) → phase ≡ Read → true ≡ is_first phase
first_read phase is = ap is_first (sym is)

pub goes_written : (phase : Phase) → phase ≡ Written → GoesOn phase
goes_written phase is = subst GoesOn (sym is) tt

pub first_written : (phase : Phase) → phase ≡ Written → false ≡ is_first phase
first_written phase is = ap is_first (sym is)
