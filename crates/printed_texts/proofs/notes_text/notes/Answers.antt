use Rattle.std.proofs.Common.{codes, ◌∙◌}
use Rattle.printed_texts.specs.Samples.{function_notes}
use Rattle.printed_texts.proofs.TextLaws.{one_more}
use Rattle.printed_texts.proofs.notes_text.notes.Goals as goal

pub loop-number-preserved : goal.loop-number-preserved
loop-number-preserved c =
    one_more (function_notes c.args.functions) c.loop-number.number (codes "version = 1\nentry = \"f0\"\n") c.loop-number.text.items
    c.as_bytes.result.now c.extend_from_slice.new.self.items c.loop-number.invariant (c.as_bytes.ensures.value ∙ c.in_ok-table.ensures)
    c.in_ok-extend_from_slice.ensures.items
