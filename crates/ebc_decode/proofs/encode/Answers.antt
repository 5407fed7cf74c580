use Rattle.std.proofs.Common.{◌≡◌, ℕ, List, ◌++◌, length, ap, ◌∙◌, Ok}
use Rattle.ebc_insn.specs.declared.Insn.{Insn}
use Rattle.ebc_insn.specs.Spelling.{WellFormed, bytes_of, spelling}
use Rattle.ebc_decode.specs.Reading.{read}
use Rattle.ebc_decode.proofs.Again.{read_again}
use Rattle.ebc_decode.proofs.encode.Goals as goal

-- A spelling is read, with its length, whatever follows.
spelling_again :
    (bytes : List ℕ) (i : Insn) (rest : List ℕ) → WellFormed i → bytes ≡ spelling i → read (bytes ++ rest) ≡ Ok (i, length bytes)
spelling_again bytes i rest h e = rw e (read_again i rest h)

pub returns-clause-read_again : goal.returns-clause-read_again
returns-clause-read_again c = λ rest. spelling_again c.bytes_of.result.items c.args.i.now rest c.requires
    (c.bytes_of.ensures ∙ ap bytes_of c.parts.ensures)
