-- Meaning: what a source stands for: an object, or the first line that fails with the lowest of its faults.
-- docs/ASSEMBLY.md, "Objects" and "Faults".
use Rattle.std.specs.Prelude.{◌≡◌, ℕ, ◌+◌, Bool, true, false, not, ◌&&◌, List, [], ◌∷◌, ◌++◌, length, map, Option, Some, None, Result, Ok}
use Rattle.std.specs.Prelude.{Err, nat_le}
use Rattle.std.specs.List.{list_any}
use Rattle.ebc_base.specs.Steps.{◌>>=◌, passes}
use Rattle.ebc_object.specs.declared.object.Object.{Object}
use Rattle.ebc_object.specs.Objects.{most}
use Rattle.asm_text.specs.declared.fault.AsmFault.{AsmFault}
use Rattle.asm_text.specs.declared.fault.AsmFault.TheVariants as faults
use Rattle.asm_text.specs.Lines.{Line, label_of, line_in}
use Rattle.asm_text.specs.Splits.{lines_of}
use Rattle.asm_text.specs.Statements.{Statement}
use Rattle.asm_text.specs.Statements as statements
use Rattle.ebc_asm.specs.declared.end.AsmEnd.{AsmEnd}
use Rattle.ebc_asm.specs.declared.end.AsmEnd.TheVariants as ends
use Rattle.ebc_asm.specs.Pieces.{bytes_of, ends_in_data, section_of}
use Rattle.ebc_asm.specs.Symbols.{fixups_in, global_of, is_labelled, is_some_name, names_with, start, symbol_of}

-- a fault, and the number of the line that has it, from 1
abbrev pub Fault : Type 0
Fault = AsmFault × ℕ

-- ---- faults of a line that are seen beside other lines

-- a line of the source has a name as its label
abbrev pub is_defined : List (List ℕ) → List ℕ → Bool
is_defined texts name = list_any (λ t. is_some_name name (label_of t)) texts

-- the name that a line makes global, if any, is a label of the source
abbrev pub global_is_defined : List (List ℕ) → Option (List ℕ) → Bool
global_is_defined texts None = true
global_is_defined texts (Some name) = is_defined texts name

-- the label of a line, if any, is that of no line before
abbrev pub label_is_new : List Line → Option (List ℕ) → Bool
label_is_new before None = true
label_is_new before (Some name) = not (list_any (is_labelled name) before)

-- the section that a line stands in has room for its statement
abbrev pub has_room : List Line → Line → Bool
has_room before l = nat_le (length (section_of (ends_in_data false before) false before) + length (bytes_of l.statement)) most

abbrev pub is_instruction : Option Statement → Bool
is_instruction (Some (statements.Instruction i name)) = true
is_instruction s = false

-- the line stands where its statement may
abbrev pub is_placed : List Line → Line → Bool
is_placed before l = not (ends_in_data false before && is_instruction l.statement)

-- a line behind these, or the lowest of the faults that it has among them
unfoldable pub behind : List (List ℕ) → List Line → Line → Result Line AsmFault
behind texts before l = do
  _ ← passes (global_is_defined texts (global_of l.statement)) faults.Label
  _ ← passes (label_is_new before l.label) faults.Twice
  _ ← passes (has_room before l) faults.Far
  _ ← passes (is_placed before l) faults.Section
  Ok l

-- ---- the source

-- what a text says behind these lines, or the lowest of its faults
unfoldable pub line_behind : List (List ℕ) → List Line → List ℕ → Result Line AsmFault
line_behind texts before text = line_in text >>= behind texts before

-- the number of the line behind these
abbrev pub numbered : {A : Type 0} → List Line → Result A AsmFault → Result A Fault
numbered before (Ok x) = Ok x
numbered before (Err fault) = Err (fault, length before + 1)

-- the lines that texts say behind these, or the first text that fails
unfoldable pub lines_behind : List (List ℕ) → List Line → List (List ℕ) → Result (List Line) Fault
lines_behind texts before [] = Ok before
lines_behind texts before (t ∷ ts) = numbered before (line_behind texts before t) >>= (λ l. lines_behind texts (before ++ l ∷ []) ts)

-- the object that lines stand for: symbols in the order in which their names first appear, the fixups of the code before those
-- of the data
unfoldable pub object_in : List Line → Object
object_in ls = record {
  code = section_of false false ls;
  contents = section_of true false ls;
  symbols = map (symbol_of ls) (names_with [] ls);
  fixups = fixups_in false start (names_with [] ls) ls ++ fixups_in true start (names_with [] ls) ls;
}

-- the object that a source stands for, or its first fault
unfoldable pub object_of : List ℕ → Result Object Fault
object_of text = lines_behind (lines_of text) [] (lines_of text) >>= (λ ls. Ok (object_in ls))

-- ---- what a function tells

-- what a refusal says of the reading: nothing where memory ran out
abbrev pub Fails : {A : Type 0} → AsmEnd → Result A Fault → Type 0
Fails ends.NoMemory reading = Unit {0}
Fails (ends.Fault kind line) reading = reading ≡ Err (kind, line)

-- what a function returned is what reading gives, unless memory ran out
abbrev pub Gives : {A : Type 0} → Result A AsmEnd → Result A Fault → Type 0
Gives (Ok x) reading = reading ≡ Ok x
Gives (Err e) reading = Fails e reading
