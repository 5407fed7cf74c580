-- Meaning: what the code holds of lines, whose texts lie in the source, as the grammar speaks of it.
use Rattle.std.specs.Prelude.{◌≡◌, ◌⊎◌, ⊤, ℕ, List, [], ◌∷◌, ◌++◌, Option, Some, None, option_map, Result, Ok, Err, ℤ, ◌==◌, if◌then◌else◌}
use Rattle.std.specs.Borrow.{Bor}
use Rattle.ebc_insn.specs.declared.Operand.{Operand}
use Rattle.ebc_insn.specs.declared.Extra.{Extra}
use Rattle.ebc_insn.specs.declared.Insn.{Insn}
use Rattle.ebc_insn.specs.Spelling.{field_bytes, int_field, int_raw}
use Rattle.asm_text.specs.declared.fault.AsmFault.{AsmFault}
use Rattle.asm_text.specs.declared.directive.Directive.{Directive}
use Rattle.asm_text.specs.declared.directive.Directive.TheVariants as directives
use Rattle.asm_text.specs.declared.statements.Numbers.{Numbers}
use Rattle.asm_text.specs.declared.statements.Statement.{Statement}
use Rattle.asm_text.specs.declared.statements.Statement.TheVariants as held
use Rattle.asm_text.specs.declared.lines.Line.{Line}
use Rattle.asm_text.specs.Instructions.{InsnFits}
use Rattle.asm_text.specs.Statements.{numbers_of}
use Rattle.asm_text.specs.Statements as statements
use Rattle.asm_text.specs.Lines as lines

abbrev pub seen_name : Option (Bor (List ℕ)) → Option (List ℕ)
seen_name n = option_map (λ t. t.now) n

abbrev pub seen_value : ℤ × Option (Bor (List ℕ)) → ℤ × Option (List ℕ)
seen_value v = (v.0, seen_name v.1)

abbrev pub seen_target : Operand × Extra × Option (Bor (List ℕ)) → Operand × Extra × Option (List ℕ)
seen_target t = (t.0, t.1, seen_name t.2)

abbrev pub seen_insn : Insn × Option (Bor (List ℕ)) → Insn × Option (List ℕ)
seen_insn i = (i.0, seen_name i.1)

-- Numbers have 8, 16, 32 or 64 bits.
abbrev pub IsNumberSize : ℕ → Type 0
IsNumberSize bits = (bits ≡ 8) ⊎ (bits ≡ 16) ⊎ (bits ≡ 32) ⊎ (bits ≡ 64)

-- A directive of numbers has one of these sizes.
abbrev pub DirectiveFits : Directive → Type 0
DirectiveFits (directives.Numbers bits) = IsNumberSize bits
DirectiveFits d = ⊤

abbrev pub values_of : Result (List ℤ) AsmFault → List ℤ
values_of (Ok vs) = vs
values_of (Err e) = []

-- the numbers that a text is
abbrev pub seen_numbers : Numbers → List ℤ
seen_numbers ns = values_of (numbers_of ns.bits ns.text.now)

-- nothing, where they are numbers
abbrev pub are_read : Result (List ℤ) AsmFault → Result (Unit {0}) AsmFault
are_read (Ok vs) = Ok tt
are_read (Err e) = Err e

abbrev pub IsRead : Result (List ℤ) AsmFault → Type 0
IsRead (Ok vs) = ⊤
IsRead (Err e) = ⊥

-- The text is one of numbers.
abbrev pub AreNumbers : Numbers → Type 0
AreNumbers ns = IsNumberSize ns.bits × IsRead (numbers_of ns.bits ns.text.now)

-- the bytes of a number of so many bits, the lowest first
abbrev pub bytes_of_number : ℕ → ℤ → List ℕ
bytes_of_number bits v = if bits == 8 then int_raw 8 v ∷ [] else field_bytes (int_field bits v)

-- the bytes of what is read as a number
abbrev pub bytes_read : ℕ → Result ℤ AsmFault → List ℕ
bytes_read bits (Ok v) = bytes_of_number bits v
bytes_read bits (Err e) = []

-- the bytes of numbers of so many bits, one after the other
abbrev pub bytes_of_numbers : ℕ → List ℤ → List ℕ
bytes_of_numbers bits [] = []
bytes_of_numbers bits (v ∷ vs) = bytes_of_number bits v ++ bytes_of_numbers bits vs

abbrev pub seen : Statement → statements.Statement
seen held.Code = statements.Code
seen held.Data = statements.Data
seen (held.Global n) = statements.Global n.now
seen (held.Numbers ns) = statements.Numbers ns.bits (seen_numbers ns)
seen (held.Place n) = statements.Place n.now
seen (held.Thunk n) = statements.Thunk n.now
seen (held.Zeros n) = statements.Zeros n
seen (held.Instruction i n) = statements.Instruction i (seen_name n)

-- The numbers of a statement are numbers; an instruction is well formed, and so is the name in place of its immediate.
abbrev pub IsHeld : Statement → Type 0
IsHeld (held.Numbers ns) = AreNumbers ns
IsHeld (held.Instruction i n) = InsnFits (i, seen_name n)
IsHeld s = ⊤

abbrev pub seen_statement : Option Statement → Option statements.Statement
seen_statement s = option_map seen s

abbrev pub IsHeldStatement : Option Statement → Type 0
IsHeldStatement None = ⊤
IsHeldStatement (Some s) = IsHeld s

abbrev pub seen_line : Line → lines.Line
seen_line l = record { label = seen_name l.label; statement = seen_statement l.statement }

abbrev pub IsHeldLine : Line → Type 0
IsHeldLine l = IsHeldStatement l.statement
