use Rattle.std.proofs.Common.{List, String, drop, ap, ◌∙◌}
use Rattle.std.specs.declared.alloc.Global.{Global}
use Rattle.swanroll_top.proofs.Promises.{read-started, unread-started}
use Rattle.swanroll_top.proofs.arguments.start.Goals as goal

pub returns-in-Ok : goal.returns-in-Ok
returns-in-Ok g c = read-started _ _ _ _ c.in-Ok.arguments _ _ _ _ c.in-Ok.is (c.words_of-words.ensures ∙ ap (λ (words : List (String Global)). drop 1 words) c.as_slice.ensures.value) c.swanroll.ensures

pub returns-in-Err : goal.returns-in-Err
returns-in-Err g c = unread-started _ _ _ _ c.in-Err.why _ _ _ _ _ _ _ _ c.in-Err.is c.from.ensures c.note.ensures.told
