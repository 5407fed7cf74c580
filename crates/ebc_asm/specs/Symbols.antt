-- Meaning: the symbols and fixups of a source: docs/ASSEMBLY.md, "Objects".
use Rattle.std.specs.Prelude.{ℕ, ◌+◌, Bool, true, false, List, [], ◌∷◌, ◌++◌, length, Option, Some, None, bytes_eq, if◌then◌else◌}
use Rattle.std.specs.List.{list_any}
use Rattle.ebc_base.specs.Tables.{name_number, with_name}
use Rattle.ebc_object.specs.declared.object.Fixup.{Fixup}
use Rattle.ebc_object.specs.declared.object.Symbol.{Symbol}
use Rattle.asm_text.specs.Lines.{Line}
use Rattle.asm_text.specs.Statements.{Statement}
use Rattle.asm_text.specs.Statements as statements
use Rattle.ebc_asm.specs.Pieces.{Use, bytes_of, data_after, if_there, use_of}

-- ---- names

-- the name that a statement makes global
abbrev pub global_of : Option Statement → Option (List ℕ)
global_of (Some (statements.Global name)) = Some name
global_of s = None

abbrev pub used_name : Option Use → Option (List ℕ)
used_name None = None
used_name (Some u) = Some u.name

-- the names, with one more where it is one and new
abbrev pub and_name : Option (List ℕ) → List (List ℕ) → List (List ℕ)
and_name None names = names
and_name (Some name) names = with_name name names

-- the names, with those of a line: its label stands before its statement
abbrev pub and_names : Line → List (List ℕ) → List (List ℕ)
and_names l names = and_name (used_name (use_of l.statement)) (and_name (global_of l.statement) (and_name l.label names))

-- the names, with those of lines: each once, in the order in which they first appear
unfoldable pub names_with : List (List ℕ) → List Line → List (List ℕ)
names_with names [] = names
names_with names (l ∷ ls) = names_with (and_names l names) ls

-- ---- symbols

abbrev pub is_some_name : List ℕ → Option (List ℕ) → Bool
is_some_name name None = false
is_some_name name (Some other) = bytes_eq name other

abbrev pub is_labelled : List ℕ → Line → Bool
is_labelled name l = is_some_name name l.label

abbrev pub makes_global : List ℕ → Line → Bool
makes_global name l = is_some_name name (global_of l.statement)

-- Where a symbol stands: the kind of its section and its offset there.
pub record Place : Type 0 where
  pub kind : ℕ
  pub offset : ℕ

abbrev pub undefined : Place
undefined = record { kind = 0; offset = 0 }

abbrev pub section_kind : Bool → ℕ
section_kind true = 2
section_kind false = 1

-- Where the sections of the lines before end, and which of them the next line stands in.
pub record Ends : Type 0 where
  pub in_data : Bool
  pub code_end : ℕ
  pub data_end : ℕ

-- the end of the section that the next line stands in
abbrev pub here : Ends → ℕ
here e = if e.in_data then e.data_end else e.code_end

-- where they end with one more line
abbrev pub ends_after : Ends → Line → Ends
ends_after e l = record {
  in_data = data_after e.in_data l.statement;
  code_end = (if e.in_data then e.code_end else e.code_end + length (bytes_of l.statement));
  data_end = (if e.in_data then e.data_end + length (bytes_of l.statement) else e.data_end);
}

-- where the first line stands that has a name as its label
unfoldable pub place_of : Ends → List ℕ → List Line → Place
place_of e name [] = undefined
place_of e name (l ∷ ls) =
    if is_labelled name l then record { kind = section_kind e.in_data; offset = here e } else place_of (ends_after e l) name ls

abbrev pub start : Ends
start = record { in_data = false; code_end = 0; data_end = 0 }

abbrev pub flag : Bool → ℕ
flag true = 1
flag false = 0

-- the symbol that lines make of a name
abbrev pub symbol_of : List Line → List ℕ → Symbol
symbol_of ls name = record {
  name = name;
  kind = (place_of start name ls).kind;
  global = flag (list_any (makes_global name) ls);
  offset = (place_of start name ls).offset;
}

-- ---- fixups

abbrev pub from_of : ℕ → Option ℕ → ℕ
from_of at None = 0
from_of at (Some from) = at + from

-- the fixup of a use at an offset of a section; its symbol is the number of the name
abbrev pub fixup_of : Bool → ℕ → List (List ℕ) → Use → Fixup
fixup_of in_data at names u = record {
  section = section_kind in_data;
  kind = u.kind;
  offset = at + u.at;
  symbol = name_number u.name names;
  from = from_of at u.from;
}

abbrev pub fixups_of : Bool → ℕ → List (List ℕ) → Option Use → List Fixup
fixups_of in_data at names None = []
fixups_of in_data at names (Some u) = fixup_of in_data at names u ∷ []

-- the fixups of code or of data that lines have, by the numbers that the names have in the end
unfoldable pub fixups_in : Bool → Ends → List (List ℕ) → List Line → List Fixup
fixups_in wanted e names [] = []
fixups_in wanted e names (l ∷ ls) =
    if_there wanted e.in_data (fixups_of e.in_data (here e) names (use_of l.statement)) ++ fixups_in wanted (ends_after e l) names ls
