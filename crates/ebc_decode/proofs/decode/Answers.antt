use Rattle.std.proofs.Common.{◌≡◌, ℕ, ◌+◌, ◌-◌, ◌≤◌, List, ◌++◌, drop, length, take, arith, ap, ◌∙◌, sym, length-drop, Result, Ok, Err}
use Rattle.std.specs.Prelude.{IfOk, OnErr}
use Rattle.std.proofs.lemmas.Grind.{common_steps}
use Rattle.ebc_insn.specs.declared.Insn.{Insn}
use Rattle.ebc_insn.specs.Spelling.{Spells, WellFormed, spelling}
use Rattle.ebc_decode.specs.declared.DecodeFault.{DecodeFault}
use Rattle.ebc_decode.specs.Reading.{read}
use Rattle.ebc_decode.proofs.Again.{read_again}
use Rattle.ebc_decode.proofs.Laws.{read_length, read_none, read_spells}
use Rattle.ebc_decode.proofs.Numbers.{IsBytes, IsBytes-drop}
use Rattle.ebc_decode.proofs.decode.Goals as goal

-- The slice from a place on is the whole rest.
rest_whole : (at : ℕ) (code : List ℕ) → take (length code - at) (drop at code) ≡ drop at code
rest_whole at code = grind (arith, common_steps)

found :
    (bytes : List ℕ) (r : Result (Insn × ℕ) DecodeFault) → IsBytes bytes → r ≡ read bytes →
    IfOk r (λ x. Spells (take x.1 bytes) x.0)
found bytes (Ok (i, n)) each e = read_spells bytes i n each (sym e)
found bytes (Err f) each e = tt

within :
    (at : ℕ) (code : List ℕ) (r : Result (Insn × ℕ) DecodeFault) → at ≤ length code →
    r ≡ read (drop at code) → IfOk r (λ x. (2 ≤ x.1) × (at + x.1 ≤ length code))
within at code (Ok (i, n)) h e = let sizes = read_length (drop at code) i n (sym e) in
    (sizes.0, omega (arith, sizes.1, length-drop at code))
within at code (Err f) h e = tt

none :
    (bytes : List ℕ) (r : Result (Insn × ℕ) DecodeFault) → r ≡ read bytes →
    OnErr r ((i : Insn) (rest : List ℕ) → WellFormed i → bytes ≡ spelling i ++ rest → ⊥)
none bytes (Ok x) e = tt
none bytes (Err f) e = λ i rest well same. read_none bytes f i rest (sym e) well same

pub returns-clause-found : goal.returns-clause-found
returns-clause-found c = found (drop c.args.at c.args.code.now) c.result.result
    (IsBytes-drop c.args.at c.args.code.now (λ i. omega (arith, c.type_inv.code i)))
    (c.result.ensures ∙ c.read.ensures ∙ ap read (rest_whole c.args.at c.args.code.now))

pub returns-clause-length : goal.returns-clause-length
returns-clause-length c = within c.args.at c.args.code.now c.result.result c.requires
    (c.result.ensures ∙ c.read.ensures ∙ ap read (rest_whole c.args.at c.args.code.now))

pub returns-clause-only : goal.returns-clause-only
returns-clause-only c = λ i rest well e. c.result.ensures ∙ c.read.ensures
    ∙ (ap read (rest_whole c.args.at c.args.code.now ∙ e) ∙ read_again i rest well)

pub returns-clause-none : goal.returns-clause-none
returns-clause-none c = none (drop c.args.at c.args.code.now) c.result.result
    (c.result.ensures ∙ c.read.ensures ∙ ap read (rest_whole c.args.at c.args.code.now))
