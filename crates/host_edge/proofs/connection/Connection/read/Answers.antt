use Rattle.std.proofs.Common.{◌<◌, ◌∙◌, [], refl, subst, sym}
use Rattle.std.proofs.lemmas.List.{append-nil}
use Rattle.std.proofs.KnownBytes.{Keeps-refl}
use Rattle.std.specs.Io.KnownBytes.{Keeps}
use Rattle.host_edge.proofs.Sorting.{Keeps-same, err_is_not_ok, reads_nothing}
use Rattle.host_edge.proofs.connection.Connection.read.Goals as goal

pub returns-then-not-self-clause-sorted : goal.returns-then-not-self-clause-sorted
returns-then-not-self-clause-sorted g c =
    let before = c.args.self.now in
    let left = g.S.Read.remaining before.stream in
    let none = reads_nothing left left before.inbox before.inbox (Keeps-refl left) refl c.requires.empty c.requires.begun in
    ([], tt, none.0, none.1, sym (append-nil before.came))

pub returns-in_err-wait_to_read-clause-sorted : goal.returns-in_err-wait_to_read-clause-sorted
returns-in_err-wait_to_read-clause-sorted g c =
    let before = c.args.self.now in
    let now = c.wait_to_read.new.self in
    let known = g.S.Read.remaining in
    let none = reads_nothing (known before.stream) (known now.stream) before.inbox now.inbox (Keeps-same known before.stream now.stream c.wait_to_read.ensures.stream) c.wait_to_read.ensures.inbox c.requires.empty c.requires.begun in
    ([], err_is_not_ok (0 < 0) c.from_residual.result c.from_residual.ensures.0, none.0, none.1, c.wait_to_read.ensures.came ∙ sym (append-nil before.came))

pub returns-in-Err-clause-sorted : goal.returns-in-Err-clause-sorted
returns-in-Err-clause-sorted g c =
    let before = c.args.self.now in
    let mid = c.wait_to_read.new.self in
    let known = g.S.Read.remaining in
    let kept : Keeps (known before.stream) (known c.fill.new.reader) = subst (λ s. Keeps (known s) (known c.fill.new.reader)) c.wait_to_read.ensures.stream c.in-Err.ensures.unread in
    let none = reads_nothing (known before.stream) (known c.fill.new.reader) before.inbox c.fill.new.self kept (c.in-Err.ensures.same ∙ c.wait_to_read.ensures.inbox) c.requires.empty c.requires.begun in
    ([], tt, none.0, none.1, c.in-Err.ensures.unnoted ∙ c.wait_to_read.ensures.came ∙ sym (append-nil before.came))
