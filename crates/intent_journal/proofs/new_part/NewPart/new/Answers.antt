use Rattle.std.proofs.Common.{rules}
use Rattle.intent_journal.proofs.Drafts.{draft_planned, drafted}
use Rattle.intent_journal.proofs.new_part.NewPart.new.Goals as goal

pub invariant_of-result : goal.invariant_of-result
invariant_of-result c =
    draft_planned c.args.digest.now c.args.starts.now c.args.entries.now c.args.operations c.in_ok-bytes.bytes.items c.in_ok-list.list.items c.extend_from_slice.new.self.items
    (search rules) (search rules) (search rules) (search rules) (search rules) (search rules) c.requires.entries c.requires.size

pub returns : goal.returns
returns c =
    drafted c.args.digest.now c.args.starts.now c.args.entries.now c.args.operations c.in_ok-bytes.bytes.items c.in_ok-list.list.items c.extend_from_slice.new.self.items
    (search rules) (search rules) (search rules) (search rules) (search rules) (search rules) c.requires.entries c.requires.size
