use Rattle.std.proofs.Common.{◌≡◌, ◌^◌, ◌≤◌, List, length, ℕ, codes, rules, subst, sym, ◌∙◌}
use Rattle.printed_texts.specs.Samples.{function_source, source_text}
use Rattle.printed_texts.proofs.LengthLaws.{source_short}
use Rattle.printed_texts.proofs.TextLaws.{one_more}
use Rattle.printed_texts.proofs.source_text.source.Goals as goal

pub loop-number-preserved : goal.loop-number-preserved
loop-number-preserved c =
    one_more (function_source c.args.functions) c.loop-number.number (codes ".global f0\n") c.loop-number.text.items
    c.as_bytes.result.now c.extend_from_slice.new.self.items c.loop-number.invariant (c.as_bytes.ensures.value ∙ c.in_ok-lines.ensures)
    c.in_ok-extend_from_slice.ensures.items

pub returns-clause-short : goal.returns-clause-short
returns-clause-short c = λ few.
    let whole : c.loop-number.text.items ≡ source_text c.args.functions = search rules in
    subst (λ (t : List ℕ). length t ≤ 2 ^ 20) (sym whole) (source_short c.args.functions few)
