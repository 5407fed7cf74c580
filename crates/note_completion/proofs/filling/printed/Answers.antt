use Rattle.std.proofs.Common.{refl}
use Rattle.std.proofs.lemmas.Str.{IsUtf8-string_bytes, is_utf8-from_IsUtf8}
use Rattle.note_texts.specs.Keys.{document}
use Rattle.note_completion.proofs.filling.printed.Goals as goal

pub returns-in-Ok-clause-shown : goal.returns-in-Ok-clause-shown
unfolding document
returns-in-Ok-clause-shown c =
    rw (is_utf8-from_IsUtf8 _ (IsUtf8-string_bytes c.in-Ok.text), c.in-Ok.ensures.reads_back c.requires.shallow) refl
