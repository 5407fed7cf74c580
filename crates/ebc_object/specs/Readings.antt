-- Meaning: what a file is read as: its fields are read and tried in the order in which they stand, and the first that
-- fails gives the fault, with its offset. docs/OBJECTS.md, "Reading".
use Rattle.std.specs.Prelude.{◌≡◌, ℕ, zero, suc, ◌+◌, ◌*◌, Bool, not, ◌&&◌, ◌||◌, List, [], ◌∷◌, ◌++◌, length, map, take, drop, slice_index}
use Rattle.std.specs.Prelude.{Result, Ok, Err, codes, bytes_eq, nat_eq, nat_le, nat_lt, sum_by, if◌then◌else◌}
use Rattle.std.specs.Int.{w32, from_le_bytes}
use Rattle.std.specs.List.{list_all}
use Rattle.ebc_base.specs.Steps.{◌>>=◌, passes}
use Rattle.ebc_base.specs.Names.{is_name}
use Rattle.ebc_base.specs.Tables.{is_named}
use Rattle.ebc_object.specs.declared.fault.ObjectEnd.{ObjectEnd}
use Rattle.ebc_object.specs.declared.fault.ObjectEnd.TheVariants as ends
use Rattle.ebc_object.specs.declared.fault.ObjectFault.{ObjectFault}
use Rattle.ebc_object.specs.declared.fault.ObjectFault.TheVariants as faults
use Rattle.ebc_object.specs.declared.head.Head.{Head}
use Rattle.ebc_object.specs.declared.fixups.Place.{Place}
use Rattle.ebc_object.specs.declared.object.Object.{Object}
use Rattle.ebc_object.specs.declared.object.Symbol.{Symbol}
use Rattle.ebc_object.specs.declared.object.Fixup.{Fixup}
use Rattle.ebc_object.specs.Objects.{most, section_bytes, width}
use Rattle.ebc_object.specs.Files.{fixup_size, symbol_size}

-- a fault, and the offset of the field that has it
abbrev pub Fault : Type 0
Fault = ObjectFault × ℕ

-- ---- fields

-- the n bytes at an offset, which lie in the file
unfoldable pub bytes_at : List ℕ → ℕ → ℕ → Result (List ℕ) Fault
bytes_at file at n = if nat_le (at + n) (length file) then Ok (take n (drop at file)) else Err (faults.Short, at)

unfoldable pub byte_at : List ℕ → ℕ → Result ℕ Fault
byte_at file at = bytes_at file at 1 >>= (λ bytes. Ok (slice_index bytes 0))

unfoldable pub u32_at : List ℕ → ℕ → Result ℕ Fault
u32_at file at = bytes_at file at 4 >>= (λ bytes. Ok (from_le_bytes w32 bytes))

-- ---- the head: the mark, the version, and how long each part is

-- a length or a count, which isn't too large
unfoldable pub count_at : List ℕ → ℕ → Result ℕ Fault
count_at file at = do
  count ← u32_at file at
  _ ← passes (nat_le count most) (faults.Count, at)
  Ok count

unfoldable pub mark_of : List ℕ → Result (Unit {0}) Fault
mark_of file = do
  mark ← bytes_at file 0 4
  _ ← passes (bytes_eq mark (codes "EBCO")) (faults.Mark, 0)
  version ← u32_at file 4
  passes (nat_eq version 1) (faults.Mark, 4)

unfoldable pub head_of : List ℕ → Result Head Fault
head_of file = do
  _ ← mark_of file
  code ← count_at file 8
  contents ← count_at file 12
  symbols ← count_at file 16
  fixups ← count_at file 20
  Ok (record { code = code; contents = contents; symbols = symbols; fixups = fixups })

-- ---- symbols

-- a name, by its length: none of these names
unfoldable pub name_at : List ℕ → List (List ℕ) → ℕ → Result (List ℕ) Fault
name_at file names at = do
  n ← byte_at file at
  _ ← passes (nat_le 1 n && nat_le n 63) (faults.Range, at)
  name ← bytes_at file (at + 1) n
  _ ← passes (is_name name) (faults.Range, at + 1)
  _ ← passes (not (is_named name names)) (faults.Order, at + 1)
  Ok name

-- what stands behind a name: the kind, the flag and the offset
unfoldable pub named_at : List ℕ → List ℕ → List ℕ → List ℕ → ℕ → Result Symbol Fault
named_at file code contents name at = do
  kind ← byte_at file at
  _ ← passes (nat_le kind 2) (faults.Range, at)
  global ← byte_at file (at + 1)
  _ ← passes (nat_le global 1) (faults.Range, at + 1)
  offset ← u32_at file (at + 2)
  _ ← passes (nat_le offset (length (section_bytes code contents kind))) (faults.Range, at + 2)
  Ok (record { name = name; kind = kind; global = global; offset = offset })

unfoldable pub symbol_at : List ℕ → List ℕ → List ℕ → List (List ℕ) → ℕ → Result Symbol Fault
symbol_at file code contents names at = do
  name ← name_at file names at
  named_at file code contents name (at + 1 + length name)

-- the names of symbols
abbrev pub names_of : List Symbol → List (List ℕ)
names_of symbols = map (λ (s : Symbol). s.name) symbols

-- the symbols read so far, and n more
unfoldable pub symbols_at : ℕ → List ℕ → List ℕ → List ℕ → List Symbol → ℕ → Result (List Symbol) Fault
symbols_at zero file code contents before at = Ok before
symbols_at (suc n) file code contents before at = do
  symbol ← symbol_at file code contents (names_of before) at
  symbols_at n file code contents (before ++ symbol ∷ []) (at + symbol_size symbol)

-- ---- fixups

-- whether a fixup ends before this offset of a section, or in a section before
abbrev pub ends_before : ℕ → ℕ → Fixup → Bool
ends_before section offset f =
    nat_lt f.section section || (nat_eq f.section section && nat_le (f.offset + width f.kind) offset)

-- whether there are so many bytes at an offset, all of them zeros
unfoldable pub has_zeros : List ℕ → ℕ → ℕ → Bool
has_zeros bytes at n = nat_le (at + n) (length bytes) && list_all (λ b. nat_eq b 0) (take n (drop at bytes))

-- where a fixup fills in bytes, and by what: its section, its kind and its offset, behind these fixups
unfoldable pub place_at : List ℕ → List ℕ → List ℕ → List Fixup → ℕ → Result Place Fault
place_at file code contents before at = do
  section ← byte_at file at
  _ ← passes (nat_le 1 section && nat_le section 2) (faults.Range, at)
  kind ← byte_at file (at + 1)
  _ ← passes (nat_le 1 kind && nat_le kind 5) (faults.Range, at + 1)
  offset ← u32_at file (at + 2)
  _ ← passes (has_zeros (section_bytes code contents section) offset (width kind)) (faults.Range, at + 2)
  _ ← passes (list_all (ends_before section offset) before) (faults.Order, at + 2)
  Ok (record { section = section; kind = kind; offset = offset })

-- and then which of so many symbols it is for, and from where its distance counts
unfoldable pub fixup_at : List ℕ → List ℕ → List ℕ → ℕ → List Fixup → ℕ → Result Fixup Fault
fixup_at file code contents symbols before at = do
  place ← place_at file code contents before at
  symbol ← u32_at file (at + 6)
  _ ← passes (nat_lt symbol symbols) (faults.Range, at + 6)
  from ← u32_at file (at + 10)
  Ok (record { section = place.section; kind = place.kind; offset = place.offset; symbol = symbol; from = from })

-- the fixups read so far, and n more
unfoldable pub fixups_at : ℕ → List ℕ → List ℕ → List ℕ → ℕ → List Fixup → ℕ → Result (List Fixup) Fault
fixups_at zero file code contents symbols before at = Ok before
fixups_at (suc n) file code contents symbols before at = do
  fixup ← fixup_at file code contents symbols before at
  fixups_at n file code contents symbols (before ++ fixup ∷ []) (at + fixup_size)

-- ---- the whole

-- how many bytes symbols take
abbrev pub symbols_size : List Symbol → ℕ
symbols_size symbols = sum_by symbol_size symbols

-- the object that a file stands for, or the first fault
unfoldable pub object_of_file : List ℕ → Result Object Fault
object_of_file file = do
  head ← head_of file
  code ← bytes_at file 24 head.code
  contents ← bytes_at file (24 + head.code) head.contents
  symbols ← symbols_at head.symbols file code contents [] (24 + head.code + head.contents)
  fixups ← fixups_at head.fixups file code contents (length symbols) [] (24 + head.code + head.contents + symbols_size symbols)
  _ ← passes (nat_le (length file) (24 + head.code + head.contents + symbols_size symbols + fixup_size * head.fixups))
      (faults.Count, 24 + head.code + head.contents + symbols_size symbols + fixup_size * head.fixups)
  Ok (record { code = code; contents = contents; symbols = symbols; fixups = fixups })

-- ---- what a function tells

-- what a refusal says of the reading: nothing where memory ran out
abbrev pub Fails : {Y : Type 0} → ObjectEnd → Result Y Fault → Type 0
Fails ends.NoMemory reading = Unit {0}
Fails (ends.Fault kind offset) reading = reading ≡ Err (kind, offset)

-- what a function returned, seen by view, is what reading gives, unless memory ran out
abbrev pub GivesBy : {X Y : Type 0} → (X → Y) → Result X ObjectEnd → Result Y Fault → Type 0
GivesBy view (Ok x) reading = reading ≡ Ok (view x)
GivesBy view (Err e) reading = Fails e reading

-- what a function returned is what reading gives, unless memory ran out
abbrev pub Gives : {X : Type 0} → Result X ObjectEnd → Result X Fault → Type 0
Gives result reading = GivesBy (λ x. x) result reading
