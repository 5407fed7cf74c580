use Rattle.std.proofs.Common.{◌≡◌, ℕ, List, sym, Result, Ok, Err, arith}
use Rattle.std.specs.Prelude.{IfOk}
use Rattle.ebc_insn.specs.declared.Insn.{Insn}
use Rattle.ebc_insn.specs.Spelling.{WellFormed}
use Rattle.ebc_decode.specs.declared.DecodeFault.{DecodeFault}
use Rattle.ebc_decode.specs.Reading.{read, result_of}
use Rattle.ebc_decode.proofs.Laws.{read_spells}
use Rattle.ebc_decode.proofs.Numbers.{IsBytes}
use Rattle.ebc_decode.proofs.decode_first.Goals as goal

well_formed : (bytes : List ℕ) (r : Result (Insn × ℕ) DecodeFault) → IsBytes bytes → r ≡ read bytes → IfOk r (λ x. WellFormed x.0)
well_formed bytes (Ok (i, n)) each e = (read_spells bytes i n each (sym e)).well_formed
well_formed bytes (Err f) each e = tt

pub returns-clause-well_formed : goal.returns-clause-well_formed
returns-clause-well_formed g c = well_formed c.args.bytes.now (result_of c.read.result)
    (λ i. omega (arith, c.type_inv.bytes i)) c.read.ensures
