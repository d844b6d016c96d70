use Rattle.std.proofs.Common.{◌≤◌, length}
use Rattle.intent_journal.proofs.Legality.{HasFollowed}
use Rattle.intent_journal.proofs.following.follow_all.Given as goal

abbrev pub invariant-loop-place : goal.invariant-loop-place
invariant-loop-place l = record {
  within : l.place ≤ length l.entries;
  followed : HasFollowed l.fn.graph l.entries l.place l.graph;
}
