-- Meaning: Lines: a label, a statement and a comment, of which each may be missing: docs/ASSEMBLY.md, "Lines".
use Rattle.std.specs.Prelude.{ℕ, List, [], ◌∷◌, Option, Some, None, Bool, nat_lt, if◌then◌else◌, Result, Ok, Err}
use Rattle.std.specs.List.{list_all}
use Rattle.ebc_base.specs.Names.{name_of}
use Rattle.asm_text.specs.declared.fault.AsmFault.{AsmFault}
use Rattle.asm_text.specs.declared.fault.AsmFault.TheVariants as faults
use Rattle.asm_text.specs.Faults.{both, made}
use Rattle.asm_text.specs.Splits.{trim, trim_front, until, without_comment}
use Rattle.asm_text.specs.Statements.{Statement, name, statement_of}

-- What a line says.
pub record Line : Type 0 where
  pub label : Option (List ℕ)
  pub statement : Option Statement

abbrev pub is_ascii_byte : ℕ → Bool
is_ascii_byte b = nat_lt b 128

-- all of them are ASCII
unfoldable pub is_ascii : List ℕ → Bool
is_ascii text = list_all is_ascii_byte text

-- the statement of a text without spaces around it, if there is any
abbrev pub statement_in : List ℕ → Result (Option Statement) AsmFault
statement_in [] = Ok None
statement_in (b ∷ bs) = made Some (statement_of (b ∷ bs))

abbrev pub labelled : List ℕ × Option Statement → Line
labelled p = record { label = Some p.0; statement = p.1 }

abbrev pub unlabelled : Option Statement → Line
unlabelled s = record { label = None; statement = s }

-- the line whose label, if any, stands before the first colon: spaces may stand in front of it, and none before the colon
abbrev pub parted : List ℕ → Option (List ℕ × List ℕ) → Result Line AsmFault
parted text None = made unlabelled (statement_in (trim text))
parted text (Some p) = made labelled (both (name (trim_front p.0)) (statement_in (trim p.1)))

-- what a line says, or the lowest of its faults
unfoldable pub line_in : List ℕ → Result Line AsmFault
line_in text =
    if is_ascii text then parted (without_comment text) (until 58 (without_comment text)) else Err faults.Word

abbrev pub label_in : Option (List ℕ × List ℕ) → Option (List ℕ)
label_in None = None
label_in (Some p) = name_of (trim_front p.0)

-- the label of a line, whatever else is wrong with it
abbrev pub label_of : List ℕ → Option (List ℕ)
label_of line = if is_ascii line then label_in (until 58 (without_comment line)) else None
