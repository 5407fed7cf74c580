-- For proofs: what the code holds of names, of their uses and of the lines of a source, and what its parts tell. No caller
-- sees it.
use Rattle.std.specs.Prelude.{◌≡◌, ◌≢◌, ℕ, ◌+◌, ◌<◌, ◌≤◌, Bool, true, false, map, List, [], ◌∷◌, ◌++◌, length, slice_index_or, slice_set}
use Rattle.std.specs.Prelude.{Option, Some, None, option_map, IfSome, Result, Ok, Err, ⊤, if◌then◌else◌}
use Rattle.std.specs.List.{list_any}
use Rattle.ebc_base.specs.Tables.{is_named, name_number, with_name}
use Rattle.ebc_object.specs.Objects.{most}
use Rattle.ebc_object.specs.declared.object.Object.{Object}
use Rattle.ebc_object.specs.declared.object.Symbol.{Symbol}
use Rattle.asm_text.specs.Lines.{Line}
use Rattle.asm_text.specs.Statements.{Statement}
use Rattle.asm_text.specs.declared.fault.AsmFault.TheVariants as faults
use Rattle.ebc_asm.specs.declared.assembler.Assembler.{Assembler}
use Rattle.ebc_asm.specs.declared.end.AsmEnd.{AsmEnd}
use Rattle.ebc_asm.specs.declared.end.AsmEnd.TheVariants as asm_ends
use Rattle.ebc_asm.specs.declared.end.LineEnd.{LineEnd}
use Rattle.ebc_asm.specs.declared.end.LineEnd.TheVariants as ends
use Rattle.ebc_asm.specs.declared.names.Standing.{Standing}
use Rattle.ebc_asm.specs.declared.pieces.Use.{Use}
use Rattle.ebc_asm.specs.Pieces.{bytes_of, ends_in_data, if_there, section_of, use_of}
use Rattle.ebc_asm.specs.Pieces as pieces
use Rattle.ebc_asm.specs.Sources.{Fails, Fault, behind, is_defined, line_behind}
use Rattle.ebc_asm.specs.Symbols.{and_name, fixups_in, fixups_of, flag, makes_global, names_with, place_of, start, used_name}

abbrev pub seen_use : Use → pieces.Use
seen_use u = record { name = u.name.now; kind = u.kind; at = u.at; from = u.from }

-- What a use counts lies within the bytes of a statement.
pub record SmallUse (u : Use) : Type 0 where
  pub at : u.at ≤ 18
  pub from : IfSome u.from (λ n. n ≤ 18)

abbrev pub seen_uses : Option Use → Option pieces.Use
seen_uses u = option_map seen_use u

-- The bytes stand behind those before, or there is no room for them; of memory nothing is said.
abbrev pub Appends : Result (Unit {0}) LineEnd → List ℕ → List ℕ → List ℕ → Type 0
Appends (Ok u) before bytes after = (after ≡ before ++ bytes) × (length after ≤ most)
Appends (Err (ends.Fault fault)) before bytes after = (fault ≡ faults.Far) × (most < length before + length bytes)
Appends (Err ends.NoMemory) before bytes after = ⊤

-- ---- names

abbrev pub nowhere : Standing
nowhere = record { kind = 0; global = 0; offset = 0 }

-- the places of names, with one more where a name is new
abbrev pub and_place : List ℕ → List (List ℕ) → List Standing → List Standing
and_place name names places = if is_named name names then places else places ++ nowhere ∷ []

-- the places of names, with one more where one is used and new
abbrev pub and_used_place : Option (List ℕ) → List (List ℕ) → List Standing → List Standing
and_used_place None names places = places
and_used_place (Some name) names places = and_place name names places

-- the number of a name that is added unless it is there
abbrev pub number_of : List ℕ → List (List ℕ) → ℕ
number_of name names = name_number name (with_name name names)

-- where it stands
abbrev pub standing_of : List ℕ → List (List ℕ) → List Standing → Standing
standing_of name names places = slice_index_or (and_place name names places) (number_of name names) nowhere

-- the places with another for it
abbrev pub replaced : List ℕ → List (List ℕ) → List Standing → Standing → List Standing
replaced name names places standing = slice_set (and_place name names places) (number_of name names) standing

-- A name was given a place, or it has one already; of memory nothing is said.
abbrev pub Defines : Result (Unit {0}) LineEnd → List ℕ → ℕ → ℕ → List (List ℕ) → List Standing → List Standing → Type 0
Defines (Ok u) name kind offset names before after =
    ((standing_of name names before).kind ≡ 0)
    × (after ≡ replaced name names before (record { kind = kind; global = (standing_of name names before).global; offset = offset }))
Defines (Err (ends.Fault fault)) name kind offset names before after =
    (fault ≡ faults.Twice) × ((standing_of name names before).kind ≢ 0)
Defines (Err ends.NoMemory) name kind offset names before after = ⊤

-- The label of a line, if any, was given a place, or it has one already; of memory nothing is said.
abbrev pub Labels : Result (Unit {0}) LineEnd → Option (List ℕ) → ℕ → ℕ → List (List ℕ) → List Standing → List Standing → Type 0
Labels result None kind offset names before after = (result ≡ Ok tt) × (after ≡ before)
Labels result (Some name) kind offset names before after = Defines result name kind offset names before after

-- the places of names, with the flag of one that is made global
abbrev pub and_global_place : Option (List ℕ) → List (List ℕ) → List Standing → List Standing
and_global_place None names places = places
and_global_place (Some name) names places =
    replaced name names places (record (standing_of name names places) { global = 1 })

-- where a name stands by lines
abbrev pub standing_in : List Line → List ℕ → Standing
standing_in ls name = record {
  kind = (place_of start name ls).kind;
  global = flag (list_any (makes_global name) ls);
  offset = (place_of start name ls).offset;
}

-- the symbols of names and of their places
abbrev pub symbols_of : List (List ℕ) → List Standing → List Symbol
symbols_of (n ∷ ns) (p ∷ ps) = record { name = n; kind = p.kind; global = p.global; offset = p.offset } ∷ symbols_of ns ps
symbols_of ns ps = []

-- ---- lines that are taken

-- These names are the labels of texts.
abbrev pub AreLabels : List (List ℕ) → List (List ℕ) → Type 0
AreLabels labels texts = (name : List ℕ) → is_named name labels ≡ is_defined texts name

-- whether a name that is made global, if any, is among labels
abbrev pub global_is_known : List (List ℕ) → Option (List ℕ) → Bool
global_is_known labels None = true
global_is_known labels (Some name) = is_named name labels

-- No section is past 1 MiB, and each name has a place.
pub record Fits (a : Assembler) : Type 0 where
  pub code : length a.code.bytes.items ≤ most
  pub contents : length a.contents.bytes.items ≤ most
  pub places : length a.names.places.items ≡ length a.names.table

-- An assembler holds what lines stand for.
pub record Holds (ls : List Line) (a : Assembler) : Type 0 where
  pub in_data : a.in_data ≡ ends_in_data false ls
  pub code : a.code.bytes.items ≡ section_of false false ls
  pub contents : a.contents.bytes.items ≡ section_of true false ls
  pub code_fixups : a.code.fixups.items ≡ fixups_in false start (names_with [] ls) ls
  pub data_fixups : a.contents.fixups.items ≡ fixups_in true start (names_with [] ls) ls
  pub names : a.names.table ≡ names_with [] ls
  pub places : a.names.places.items ≡ map (standing_in ls) (names_with [] ls)

-- the bytes of the section that the next line stands in
abbrev pub bytes_here : Assembler → List ℕ
bytes_here a = if a.in_data then a.contents.bytes.items else a.code.bytes.items

-- A statement stands in the section, and the name that it uses is among the names.
pub record Added (s : Option Statement) (before after : Assembler) : Type 0 where
  pub in_data : after.in_data ≡ before.in_data
  pub room : length (bytes_here before) + length (bytes_of s) ≤ most
  pub code : after.code.bytes.items ≡ before.code.bytes.items ++ if_there false before.in_data (bytes_of s)
  pub contents : after.contents.bytes.items ≡ before.contents.bytes.items ++ if_there true before.in_data (bytes_of s)
  pub code_fixups : after.code.fixups.items ≡ before.code.fixups.items
      ++ if_there false before.in_data (fixups_of before.in_data (length (bytes_here before)) after.names.table (use_of s))
  pub data_fixups : after.contents.fixups.items ≡ before.contents.fixups.items
      ++ if_there true before.in_data (fixups_of before.in_data (length (bytes_here before)) after.names.table (use_of s))
  pub names : after.names.table ≡ and_name (used_name (use_of s)) before.names.table
  pub places : after.names.places.items ≡ and_used_place (used_name (use_of s)) before.names.table before.names.places.items

-- A statement was added, or there is no room for it; of memory nothing is said.
abbrev pub Adds : Result (Unit {0}) LineEnd → Option Statement → Assembler → Assembler → Type 0
Adds (Ok u) s before after = Added s before after
Adds (Err (ends.Fault fault)) s before after =
    (fault ≡ faults.Far) × (most < length (bytes_here before) + length (bytes_of s))
Adds (Err ends.NoMemory) s before after = ⊤

-- A line was taken behind others, or it has this fault; of memory nothing is said.
abbrev pub Takes : Result (Unit {0}) LineEnd → List (List ℕ) → List Line → Line → Assembler → Type 0
Takes (Ok u) texts before l after = (behind texts before l ≡ Ok l) × Holds (before ++ l ∷ []) after
Takes (Err (ends.Fault fault)) texts before l after = behind texts before l ≡ Err fault
Takes (Err ends.NoMemory) texts before l after = ⊤

-- The line that a text says was taken behind others, or the text has this fault; of memory nothing is said.
abbrev pub TakesText : Result (Unit {0}) LineEnd → List (List ℕ) → List Line → List ℕ → Assembler → Type 0
TakesText (Ok u) texts before text after =
    (l : Line) × ((line_behind texts before text ≡ Ok l) × Holds (before ++ l ∷ []) after)
TakesText (Err (ends.Fault fault)) texts before text after = line_behind texts before text ≡ Err fault
TakesText (Err ends.NoMemory) texts before text after = ⊤

-- The lines of a source are held, or there is its first fault; of memory nothing is said.
abbrev pub HoldsLines : Result Assembler AsmEnd → Result (List Line) Fault → Type 0
HoldsLines (Ok a) reading = (ls : List Line) × ((reading ≡ Ok ls) × (Holds ls a × Fits a))
HoldsLines (Err e) reading = Fails e reading

-- the end of a source whose line of this number ends so
abbrev pub at_line : ℕ → LineEnd → AsmEnd
at_line line (ends.Fault kind) = asm_ends.Fault kind line
at_line line ends.NoMemory = asm_ends.NoMemory

-- the object that an assembler has
abbrev pub held_object : Assembler → Object
held_object a = record {
  code = a.code.bytes.items;
  contents = a.contents.bytes.items;
  symbols = symbols_of a.names.table a.names.places.items;
  fixups = a.code.fixups.items ++ a.contents.fixups.items;
}
