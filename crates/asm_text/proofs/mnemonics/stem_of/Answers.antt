use Rattle.std.proofs.Common.{length, sym, arith, rules}
use Rattle.std.proofs.lemmas.List.Sums.{position_or_len_is}
use Rattle.asm_text.specs.Mnemonics.{is_lower}
use Rattle.asm_text.proofs.Pieces.{stem_at, stem_gone}
use Rattle.asm_text.proofs.mnemonics.stem_of.Goals as goal

pub returns-in-Some : goal.returns-in-Some
returns-in-Some c =
    let word = c.args.word.now in
    let found = position_or_len_is is_lower word c.in-Some.at 0 (search rules) (search rules) (search rules) in
    rw (c.split_at.ensures.front, c.split_at.ensures.back) (sym (stem_at word c.in-Some.at found))

pub returns-in-None : goal.returns-in-None
returns-in-None c =
    let word = c.args.word.now in
    let none = position_or_len_is is_lower word (length word) 0 (omega arith) (search rules) (search rules) in
    sym (stem_gone word none)
