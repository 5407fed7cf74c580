-- Meaning: the faults of a line, of which the lowest is named: docs/ASSEMBLY.md, "Faults".
use Rattle.std.specs.Prelude.{ℕ, Result, Ok, Err, nat_le, if◌then◌else◌}
use Rattle.asm_text.specs.declared.fault.AsmFault.{AsmFault}
use Rattle.asm_text.specs.declared.fault.AsmFault.TheVariants.{Word, Operand, Number, Index, Label, Twice, Far, Section}

-- the number of a fault
abbrev pub asm_fault_number : AsmFault → ℕ
asm_fault_number Word = 1
asm_fault_number Operand = 2
asm_fault_number Number = 3
asm_fault_number Index = 4
asm_fault_number Label = 5
asm_fault_number Twice = 6
asm_fault_number Far = 7
asm_fault_number Section = 8

-- the fault with the lower number
abbrev pub lower : AsmFault → AsmFault → AsmFault
lower a b = if nat_le (asm_fault_number a) (asm_fault_number b) then a else b

-- both values, or the lower of their faults
abbrev pub both : {A B : Type 0} → Result A AsmFault → Result B AsmFault → Result (A × B) AsmFault
both (Ok a) (Ok b) = Ok (a, b)
both (Ok a) (Err f) = Err f
both (Err e) (Ok b) = Err e
both (Err e) (Err f) = Err (lower e f)

-- what is made of a value, or its fault
abbrev pub made : {A B : Type 0} → (A → B) → Result A AsmFault → Result B AsmFault
made f (Ok a) = Ok (f a)
made f (Err e) = Err e
