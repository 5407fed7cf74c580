-- Sources and the objects or faults that the definitions give them: docs/ASSEMBLY.md, "Objects" and "Faults".
use Rattle.std.proofs.Common.{◌≡◌, ℕ, List, [], ◌∷◌, ◌++◌, Ok, Err, refl}
use Rattle.std.specs.Prelude.{codes}
use Rattle.std.specs.List.{flat_map}
use Rattle.ebc_object.specs.declared.object.Fixup.{Fixup}
use Rattle.ebc_object.specs.declared.object.Symbol.{Symbol}
use Rattle.asm_text.specs.declared.fault.AsmFault.{AsmFault}
use Rattle.asm_text.specs.declared.fault.AsmFault.TheVariants as faults
use Rattle.ebc_asm.specs.Sources.{object_of}
use Rattle.ebc_asm.proofs.Computing.{sources_compute}

-- ---- sources, symbols and fixups

-- lines, each ended by a line feed
abbrev lines : List (List ℕ) → List ℕ
lines texts = flat_map (λ t. t ++ 10 ∷ []) texts

-- The object of a source of these lines.
abbrev Assembles : List (List ℕ) → List ℕ → List ℕ → List Symbol → List Fixup → Type 0
Assembles texts code contents symbols fixups =
    object_of (lines texts) ≡ Ok (record { code = code; contents = contents; symbols = symbols; fixups = fixups })

-- The fault of a source of these lines, and the number of the line.
abbrev Fails : List (List ℕ) → AsmFault → ℕ → Type 0
Fails texts fault line = object_of (lines texts) ≡ Err (fault, line)

abbrev symbol : List ℕ → ℕ → ℕ → ℕ → Symbol
symbol name kind global offset = record { name = name; kind = kind; global = global; offset = offset }

abbrev fixup : ℕ → ℕ → ℕ → ℕ → ℕ → Fixup
fixup section kind offset number from = record { section = section; kind = kind; offset = offset; symbol = number; from = from }

-- ---- without names

two_instructions : Assembles (codes "MOVIqw R1, 5" ∷ codes "RET" ∷ []) (0x77 ∷ 0x31 ∷ 0x05 ∷ 0x00 ∷ 0x04 ∷ 0x00 ∷ []) [] [] []
unfolding sources_compute
two_instructions = refl

raw_index : Assembles (codes "MOVInw R4, #0x8000" ∷ []) (0x78 ∷ 0x04 ∷ 0x00 ∷ 0x80 ∷ []) [] [] []
unfolding sources_compute
raw_index = refl

numbers : Assembles (codes ".db 1, -1" ∷ codes ".dw 0x0203 ; two bytes" ∷ codes ".data" ∷ codes ".zero 3" ∷ codes ".dd 1" ∷ [])
    (0x01 ∷ 0xff ∷ 0x03 ∷ 0x02 ∷ []) (0x00 ∷ 0x00 ∷ 0x00 ∷ 0x01 ∷ 0x00 ∷ 0x00 ∷ 0x00 ∷ []) [] []
unfolding sources_compute
numbers = refl

-- ---- each kind of fixup: its offset, its symbol, and from where a distance counts

words : Assembles (codes "a: JMP8 b" ∷ codes "b: RET" ∷ codes "JMP8 a" ∷ []) (0x02 ∷ 0x00 ∷ 0x04 ∷ 0x00 ∷ 0x02 ∷ 0x00 ∷ []) []
    (symbol (codes "a") 1 0 0 ∷ symbol (codes "b") 1 0 2 ∷ []) (fixup 1 1 1 1 2 ∷ fixup 1 1 5 0 6 ∷ [])
unfolding sources_compute
words = refl

distance_of_two_bytes : Assembles (codes "MOVRELw R1, f" ∷ []) (0x79 ∷ 0x01 ∷ 0x00 ∷ 0x00 ∷ []) [] (symbol (codes "f") 0 0 0 ∷ [])
    (fixup 1 2 2 0 4 ∷ [])
unfolding sources_compute
distance_of_two_bytes = refl

distance_of_four_bytes : Assembles (codes "RET" ∷ codes "CALL32 f" ∷ []) (0x04 ∷ 0x00 ∷ 0x83 ∷ 0x10 ∷ 0x00 ∷ 0x00 ∷ 0x00 ∷ 0x00 ∷ []) []
    (symbol (codes "f") 0 0 0 ∷ []) (fixup 1 3 4 0 8 ∷ [])
unfolding sources_compute
distance_of_four_bytes = refl

distance_of_eight_bytes : Assembles (codes "JMP64cs f" ∷ []) (0xc1 ∷ 0xd0 ∷ 0x00 ∷ 0x00 ∷ 0x00 ∷ 0x00 ∷ 0x00 ∷ 0x00 ∷ 0x00 ∷ 0x00 ∷ []) []
    (symbol (codes "f") 0 0 0 ∷ []) (fixup 1 4 2 0 10 ∷ [])
unfolding sources_compute
distance_of_eight_bytes = refl

address_behind_an_index : Assembles (codes "MOVIqq @R1(+1,+2), f" ∷ [])
    (0xf7 ∷ 0x79 ∷ 0x09 ∷ 0x10 ∷ 0x00 ∷ 0x00 ∷ 0x00 ∷ 0x00 ∷ 0x00 ∷ 0x00 ∷ 0x00 ∷ 0x00 ∷ []) [] (symbol (codes "f") 0 0 0 ∷ [])
    (fixup 1 5 4 0 0 ∷ [])
unfolding sources_compute
address_behind_an_index = refl

address_of_a_call : Assembles (codes "CALL64a f" ∷ []) (0xc3 ∷ 0x00 ∷ 0x00 ∷ 0x00 ∷ 0x00 ∷ 0x00 ∷ 0x00 ∷ 0x00 ∷ 0x00 ∷ 0x00 ∷ []) []
    (symbol (codes "f") 0 0 0 ∷ []) (fixup 1 5 2 0 0 ∷ [])
unfolding sources_compute
address_of_a_call = refl

addresses_and_thunks : Assembles
    (codes ".data" ∷ codes "d: .db 1" ∷ codes ".code" ∷ codes "RET" ∷ codes ".data" ∷ codes ".dq d" ∷ codes ".thunk d" ∷ [])
    (0x04 ∷ 0x00 ∷ [])
    (0x01 ∷ 0x00 ∷ 0x00 ∷ 0x00 ∷ 0x00 ∷ 0x00 ∷ 0x00 ∷ 0x00 ∷ 0x00 ∷ 0x00 ∷ 0x00 ∷ 0x00 ∷ 0x00 ∷ 0x00 ∷ 0x00 ∷ 0x00 ∷ 0x00 ∷ [])
    (symbol (codes "d") 2 0 0 ∷ []) (fixup 2 5 1 0 0 ∷ fixup 2 3 9 0 13 ∷ [])
unfolding sources_compute
addresses_and_thunks = refl

-- ---- the order of symbols and of fixups

label_before_operand : Assembles (codes "x: JMP8 y" ∷ codes "z: JMP8 x" ∷ codes "y:" ∷ []) (0x02 ∷ 0x00 ∷ 0x02 ∷ 0x00 ∷ []) []
    (symbol (codes "x") 1 0 0 ∷ symbol (codes "y") 1 0 4 ∷ symbol (codes "z") 1 0 2 ∷ []) (fixup 1 1 1 1 2 ∷ fixup 1 1 3 0 4 ∷ [])
unfolding sources_compute
label_before_operand = refl

code_before_data : Assembles (codes ".data" ∷ codes ".dq a" ∷ codes ".code" ∷ codes "a: CALL32 a" ∷ [])
    (0x83 ∷ 0x10 ∷ 0x00 ∷ 0x00 ∷ 0x00 ∷ 0x00 ∷ []) (0x00 ∷ 0x00 ∷ 0x00 ∷ 0x00 ∷ 0x00 ∷ 0x00 ∷ 0x00 ∷ 0x00 ∷ [])
    (symbol (codes "a") 1 0 0 ∷ []) (fixup 1 3 2 0 6 ∷ fixup 2 5 0 0 0 ∷ [])
unfolding sources_compute
code_before_data = refl

label_before_section : Assembles (codes ".global g" ∷ codes "RET" ∷ codes "g: .data" ∷ []) (0x04 ∷ 0x00 ∷ []) []
    (symbol (codes "g") 1 1 2 ∷ []) []
unfolding sources_compute
label_before_section = refl

-- the last line feed is missing
no_line_feed : object_of (codes "RET") ≡ Ok (record { code = 0x04 ∷ 0x00 ∷ []; contents = []; symbols = []; fixups = [] })
unfolding sources_compute
no_line_feed = refl

-- ---- faults

no_word : Fails (codes "FOO" ∷ []) faults.Word 1
unfolding sources_compute
no_word = refl

too_large : Fails (codes "MOVIqw R1, 70000" ∷ []) faults.Number 1
unfolding sources_compute
too_large = refl

minus_zero : Fails (codes "MOVqw R0, R0(-0,-0)" ∷ []) faults.Index 1
unfolding sources_compute
minus_zero = refl

label_again : Fails (codes "a:" ∷ codes "a:" ∷ []) faults.Twice 2
unfolding sources_compute
label_again = refl

code_in_data : Fails (codes ".data" ∷ codes "RET" ∷ []) faults.Section 2
unfolding sources_compute
code_in_data = refl

undefined_global : Fails (codes "RET" ∷ codes ".global g" ∷ []) faults.Label 2
unfolding sources_compute
undefined_global = refl

defined_beside_a_fault : Fails (codes ".global g" ∷ codes "g: FOO" ∷ []) faults.Word 2
unfolding sources_compute
defined_beside_a_fault = refl

label_before_twice : Fails (codes "a:" ∷ codes "a: .global b" ∷ []) faults.Label 2
unfolding sources_compute
label_before_twice = refl

twice_before_section : Fails (codes ".data" ∷ codes "a:" ∷ codes "a: RET" ∷ []) faults.Twice 3
unfolding sources_compute
twice_before_section = refl
