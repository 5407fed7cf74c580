-- Meaning: Statements as they are written and read: docs/ASSEMBLY.md, "Statements".
use Rattle.std.specs.Prelude.{ℕ, List, [], ◌∷◌, Option, Some, None, Bool, false, ◌==◌, ◌&&◌, if◌then◌else◌, codes, bytes_eq, Result, Ok}
use Rattle.std.specs.Prelude.{Err, ℤ}
use Rattle.ebc_insn.specs.declared.Insn.{Insn}
use Rattle.ebc_base.specs.Steps.{◌>>=◌, or_else}
use Rattle.asm_text.specs.declared.fault.AsmFault.{AsmFault}
use Rattle.asm_text.specs.declared.fault.AsmFault.TheVariants as faults
use Rattle.asm_text.specs.declared.directive.Directive.{Directive}
use Rattle.asm_text.specs.declared.directive.Directive.TheVariants as directives
use Rattle.asm_text.specs.Faults.{made}
use Rattle.asm_text.specs.Numbers.{number, zeros_of}
use Rattle.ebc_base.specs.Names.{is_name}
use Rattle.asm_text.specs.Splits.{is_empty, pieces, word_part}
use Rattle.asm_text.specs.Instructions.{insn_in, one}

-- A statement. Numbers have 8, 16, 32 or 64 bits; the name of an instruction stands in place of its immediate.
pub data Statement : Type 0 where
  Code : Statement
  Data : Statement
  Global : List ℕ → Statement
  Numbers : ℕ → List ℤ → Statement
  Place : List ℕ → Statement
  Thunk : List ℕ → Statement
  Zeros : ℕ → Statement
  Instruction : Insn → Option (List ℕ) → Statement

-- the directive that a word names
unfoldable pub directive_of : List ℕ → Option Directive
directive_of word =
    if bytes_eq word (codes ".code") then Some directives.Code
    else if bytes_eq word (codes ".data") then Some directives.Data
    else if bytes_eq word (codes ".global") then Some directives.Global
    else if bytes_eq word (codes ".db") then Some (directives.Numbers 8)
    else if bytes_eq word (codes ".dw") then Some (directives.Numbers 16)
    else if bytes_eq word (codes ".dd") then Some (directives.Numbers 32)
    else if bytes_eq word (codes ".dq") then Some (directives.Numbers 64)
    else if bytes_eq word (codes ".thunk") then Some directives.Thunk
    else if bytes_eq word (codes ".zero") then Some directives.Zeros
    else None

-- a name, or its fault
abbrev pub name : List ℕ → Result (List ℕ) AsmFault
name text = if is_name text then Ok text else Err faults.Label

-- each text as a number of so many bits, or the first fault
unfoldable pub each_number : ℕ → List (List ℕ) → Result (List ℤ) AsmFault
each_number bits [] = Ok []
each_number bits (text ∷ texts) = number bits text >>= (λ v. made (λ vs. v ∷ vs) (each_number bits texts))

-- the numbers between commas that a space follows
unfoldable pub numbers_of : ℕ → List ℕ → Result (List ℤ) AsmFault
numbers_of bits text = if is_empty text then Err faults.Operand else each_number bits (pieces text)

-- a statement without operands
abbrev pub alone : Statement → List ℕ → Result Statement AsmFault
alone s text = if is_empty text then Ok s else Err faults.Operand

-- the statement of a directive with these operands; `.dq` of a name is a place
abbrev pub directed : Directive → List ℕ → Result Statement AsmFault
directed directives.Code text = alone Code text
directed directives.Data text = alone Data text
directed directives.Global text = made (λ n. Global n) (one name text)
directed (directives.Numbers bits) text =
    if bits == 64 && is_name text then Ok (Place text) else made (λ vs. Numbers bits vs) (numbers_of bits text)
directed directives.Thunk text = made (λ n. Thunk n) (one name text)
directed directives.Zeros text = made (λ n. Zeros n) (one zeros_of text)

-- an instruction and the name in place of its immediate, as a statement
abbrev pub instruction : Insn × Option (List ℕ) → Statement
instruction p = Instruction p.0 p.1

abbrev pub starts_point : List ℕ → Bool
starts_point [] = false
starts_point (b ∷ bs) = b == 46

-- the statement that a text is: a word that begins with a point is a directive, any other a mnemonic
unfoldable pub statement_of : List ℕ → Result Statement AsmFault
statement_of text =
    if starts_point text then or_else faults.Word (directive_of (word_part text).0) >>= (λ d. directed d (word_part text).1)
    else made instruction (insn_in text)
