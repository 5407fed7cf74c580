use Rattle.std.proofs.lemmas.Str.{is_utf8-from_IsUtf8}
use Rattle.note_texts.specs.Keys.{document}
use Rattle.note_texts.proofs.Text.{is_utf8-not}
use Rattle.note_texts.proofs.toml_text.document.Goals as goal

pub returns-in-Err : goal.returns-in-Err
unfolding document
returns-in-Err c = rw (is_utf8-not _ c.in-Err.ensures.cases.0)

pub returns-in-Ok-table_from_str : goal.returns-in-Ok-table_from_str
unfolding document
returns-in-Ok-table_from_str c =
    let (same, text) = c.in-Ok.ensures.cases in
    rw (is_utf8-from_IsUtf8 c.args.text.now text, ← same, c.in-Ok-table_from_str.ensures.ok)
