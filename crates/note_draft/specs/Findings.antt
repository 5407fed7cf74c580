-- Meaning: where in notes a condition fails, which of two such places comes first, and the path that names it, as
-- `function[2].need`. docs/NOTES.md lists the conditions.
use Rattle.std.specs.Prelude.{ℕ, List, ◌++◌, codes, Option, Some, None, Result, Ok, Err, nat_le, if◌then◌else◌}
use Rattle.std.specs.Fmt.{decimal}
use Rattle.note_types.specs.declared.fault.TomlFault.{TomlFault}
use Rattle.note_types.specs.declared.fault.TomlFault.TheVariants as faults
use Rattle.note_draft.specs.declared.finding.Key.{Key}
use Rattle.note_draft.specs.declared.finding.Key.TheVariants as key
use Rattle.note_draft.specs.declared.finding.TableList.{TableList}
use Rattle.note_draft.specs.declared.finding.TableList.TheVariants as list
use Rattle.note_draft.specs.declared.finding.Finding.{Finding}
use Rattle.note_draft.specs.declared.finding.Refusal.{Refusal}
use Rattle.note_draft.specs.declared.finding.Refusal.TheVariants as refusals

-- the name of a list of tables
abbrev pub list_name : TableList → List ℕ
list_name list.Shape = codes "shape"
list_name list.Static = codes "static"
list_name list.Thunk = codes "thunk"
list_name list.Function = codes "function"
list_name list.Point = codes "point"
list_name list.Signature = codes "signature"
list_name list.Site = codes "site"

-- the name of a key
abbrev pub key_name : Key → List ℕ
key_name key.Name = codes "name"
key_name key.Fields = codes "fields"
key_name key.Place = codes "place"
key_name key.Shape = codes "shape"
key_name key.Function = codes "function"
key_name key.End = codes "end"
key_name key.Need = codes "need"
key_name key.Locals = codes "locals"
key_name key.Params = codes "params"
key_name key.Result = codes "result"
key_name key.Regs = codes "regs"
key_name key.Stack = codes "stack"
key_name key.Written = codes "written"
key_name key.Signature = codes "signature"

-- the path of a finding
abbrev pub path_of : Finding → List ℕ
path_of f = list_name f.list ++ (codes "[" ++ (decimal f.item ++ (codes "]." ++ key_name f.key)))

-- a key of the item of this number, where there is one
unfoldable pub at : TableList → Key → Option ℕ → Option Finding
at list key None = None
at list key (Some i) = Some (record { list = list; item = i; key = key })

-- the sooner of two findings in one list: that of the lesser item, and in one item the first
unfoldable pub sooner : Option Finding → Option Finding → Option Finding
sooner None b = b
sooner (Some a) None = Some a
sooner (Some a) (Some b) = if nat_le a.item b.item then Some a else Some b

-- the finding of the first condition that has one
infixr 10 ◌otherwise◌
abbrev pub ◌otherwise◌ : Option Finding → Option Finding → Option Finding
None otherwise b = b
(Some a) otherwise b = Some a

-- the fault that a refusal is at a path
abbrev pub fault_of : Refusal → List ℕ → TomlFault
fault_of refusals.Twice path = faults.Twice path
fault_of refusals.Name path = faults.Name path
fault_of refusals.Range path = faults.Range path

-- the refusal of a finding, named by its path
abbrev pub refused : Refusal → Option Finding → Result (Unit {0}) TomlFault
refused refusal None = Ok tt
refused refusal (Some f) = Err (fault_of refusal (path_of f))
