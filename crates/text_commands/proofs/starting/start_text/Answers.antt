use Rattle.std.proofs.Common.{List, String, drop, ap, ◌∙◌}
use Rattle.std.specs.declared.alloc.Global.{Global}
use Rattle.text_commands.proofs.KeptTexts.{text-started, text-unread}
use Rattle.text_commands.proofs.starting.start_text.Goals as goal

pub returns-in-Ok : goal.returns-in-Ok
returns-in-Ok g c = text-started _ _ _ _ _ c.in-Ok.arguments _ _ _ _ c.in-Ok.is (c.words_of-words.ensures ∙ ap (λ (words : List (String Global)). drop 1 words) c.as_slice.ensures.value) c.make_text.ensures

pub returns-in-Err : goal.returns-in-Err
returns-in-Err g c = text-unread _ _ _ _ _ c.in-Err.why _ _ _ _ _ _ c.in-Err.is c.from.ensures c.note.ensures.told
