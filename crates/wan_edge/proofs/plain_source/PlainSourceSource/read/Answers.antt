use Rattle.std.proofs.Common.{◌≡◌, ℕ, ◌+◌, ◌-◌, ◌≤◌, List, ◌++◌, length, take, drop, sym, ◌∙◌, ap, arith, length-drop, take_all}
use Rattle.std.proofs.Math.Seq.{take-add}
use Rattle.std.proofs.lemmas.List.{drop-drop, length-take-le, take-append-drop, take_at}
use Rattle.wan_edge.proofs.plain_source.PlainSourceSource.read.Goals as goal

-- the front that was copied over is the first of what is left
copied_front : (bytes front rest : List ℕ) (at n : ℕ) → n ≤ length bytes - at → front ≡ take n (take (length bytes - at) (drop at bytes)) → take n (front ++ rest) ≡ take n (drop at bytes)
copied_front bytes front rest at n fits copied =
    let all : take (length bytes - at) (drop at bytes) ≡ drop at bytes = take_all _ _ (omega (arith, length-drop at bytes)) in
    let copy : front ≡ take n (drop at bytes) = rw all at copied in
    let long : length front ≡ n = ap length copy ∙ length-take-le n (drop at bytes) (omega (arith, length-drop at bytes)) in
    rw (take_at front rest n long) copy

-- what is left is what was copied over the front, and what stands after it
left_split : (bytes front rest : List ℕ) (at n : ℕ) → n ≤ length bytes - at → front ≡ take n (take (length bytes - at) (drop at bytes)) → drop at bytes ≡ take n (front ++ rest) ++ drop (at + n) bytes
left_split bytes front rest at n fits copied =
    rw (copied_front bytes front rest at n fits copied, ← drop-drop n at bytes) (sym (take-append-drop n (drop at bytes)))

-- what was taken before, and what was copied over the front, is what is taken now
taken_split : (bytes front rest : List ℕ) (at n : ℕ) → n ≤ length bytes - at → front ≡ take n (take (length bytes - at) (drop at bytes)) → take (at + n) bytes ≡ take at bytes ++ take n (front ++ rest)
taken_split bytes front rest at n fits copied = rw (copied_front bytes front rest at n fits copied) (take-add at n bytes)

pub returns-clause-left : goal.returns-clause-left
returns-clause-left c =
    let e = c.as_slice.ensures in
    rw (← c.self.view_is) (left_split c.self.inside.bytes c.copy_from_slice.new.self _ c.self.inside.at c.min-n.result (grind arith) (rw e at c.copy_from_slice.ensures.after))

pub returns-clause-taken : goal.returns-clause-taken
returns-clause-taken c =
    let e = c.as_slice.ensures in
    rw (← c.self.view_is) (taken_split c.self.inside.bytes c.copy_from_slice.new.self _ c.self.inside.at c.min-n.result (grind arith) (rw e at c.copy_from_slice.ensures.after))
