-- Meaning: what the statements of a source put into its sections: docs/ASSEMBLY.md, "Statements" and "Sections".
use Rattle.std.specs.Prelude.{ℕ, ◌-◌, ◌==◌, Bool, true, false, List, [], ◌∷◌, ◌++◌, length, replicate, Option, Some, None, if◌then◌else◌}
use Rattle.ebc_insn.specs.declared.Insn.{Insn}
use Rattle.ebc_insn.specs.declared.Insn.TheVariants as insns
use Rattle.ebc_insn.specs.Spelling.{spelling}
use Rattle.asm_text.specs.Lines.{Line}
use Rattle.asm_text.specs.Statements.{Statement}
use Rattle.asm_text.specs.Statements as statements
use Rattle.asm_text.specs.Texts.{bytes_of_numbers}

-- ---- bytes

-- The bytes of a statement. What stands for a name is zeros.
abbrev pub statement_bytes : Statement → List ℕ
statement_bytes (statements.Numbers bits values) = bytes_of_numbers bits values
statement_bytes (statements.Place name) = replicate 8 0
statement_bytes (statements.Thunk name) = replicate 8 0
statement_bytes (statements.Zeros n) = replicate n 0
statement_bytes (statements.Instruction i name) = spelling i
statement_bytes s = []

abbrev pub bytes_of : Option Statement → List ℕ
bytes_of None = []
bytes_of (Some s) = statement_bytes s

-- whether what follows a statement is in data
abbrev pub data_after : Bool → Option Statement → Bool
data_after in_data (Some statements.Code) = false
data_after in_data (Some statements.Data) = true
data_after in_data s = in_data

-- ---- names

-- A name that a statement uses: how the bytes for it are filled in, where they begin in the statement's bytes, and from where a
-- distance counts, if it is one.
pub record Use : Type 0 where
  pub name : List ℕ
  pub kind : ℕ
  pub at : ℕ
  pub from : Option ℕ

-- the kind of a distance in so many bytes; one of a byte counts words
abbrev pub distance_kind : ℕ → ℕ
distance_kind size = if size == 1 then 1 else (if size == 2 then 2 else (if size == 4 then 3 else 4))

-- how many bytes the immediate of an instruction has that a name may stand for
abbrev pub immediate_size : Insn → ℕ
immediate_size (insns.Jump8 cond words) = 1
immediate_size (insns.Jump cond far relative o e) = if far then 8 else 4
immediate_size (insns.Call far native relative o e) = if far then 8 else 4
immediate_size (insns.MoveRelative bits l lidx imm) = if bits == 16 then 2 else (if bits == 32 then 4 else 8)
immediate_size i = 8

-- whether that immediate is a distance
abbrev pub is_distance : Insn → Bool
is_distance (insns.Jump8 cond words) = true
is_distance (insns.Jump cond far relative o e) = relative
is_distance (insns.Call far native relative o e) = relative
is_distance (insns.MoveRelative bits l lidx imm) = true
is_distance i = false

-- the immediate of an instruction is its last bytes; a distance counts from the next instruction, and anything else is an address
abbrev pub insn_use : Insn → List ℕ → Use
insn_use i name = record {
  name = name;
  kind = (if is_distance i then distance_kind (immediate_size i) else 5);
  at = length (spelling i) - immediate_size i;
  from = (if is_distance i then Some (length (spelling i)) else None);
}

-- the name that a statement uses
abbrev pub use_of : Option Statement → Option Use
use_of (Some (statements.Place name)) = Some (record { name = name; kind = 5; at = 0; from = None })
use_of (Some (statements.Thunk name)) = Some (record { name = name; kind = 3; at = 0; from = Some 4 })
use_of (Some (statements.Instruction i (Some name))) = Some (insn_use i name)
use_of s = None

-- ---- sections

-- whether lines that begin in code or in data end in data
unfoldable pub ends_in_data : Bool → List Line → Bool
ends_in_data in_data [] = in_data
ends_in_data in_data (l ∷ ls) = ends_in_data (data_after in_data l.statement) ls

-- what one of two sections has of what stands in a section
abbrev pub if_there : {A : Type 0} → Bool → Bool → List A → List A
if_there true true xs = xs
if_there false false xs = xs
if_there wanted there xs = []

-- the bytes of code or of data that lines have which begin in one of them
unfoldable pub section_of : Bool → Bool → List Line → List ℕ
section_of wanted in_data [] = []
section_of wanted in_data (l ∷ ls) =
    if_there wanted in_data (bytes_of l.statement) ++ section_of wanted (data_after in_data l.statement) ls
