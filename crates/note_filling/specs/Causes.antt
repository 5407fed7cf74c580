-- For proofs: what a fault that is no label's comes of where a text is filled. docs/LABELS.md, "What is answered".
use Rattle.std.specs.Prelude.{◌≡◌, ◌⊎◌, ℕ, ◌<◌, pos, false, List, Option, Some, None, Result, Err, codes}
use Rattle.std.specs.Option.{unwrap_or}
use Rattle.ebc_base.specs.Steps.{◌>>=◌}
use Rattle.ebc_base.specs.Tables.{is_named}
use Rattle.note_draft.specs.Drafts.{draft_of}
use Rattle.note_draft.specs.Known.{known}
use Rattle.note_draft.specs.Once.{once}
use Rattle.note_draft.specs.declared.finding.TableList.TheVariants as lists
use Rattle.note_types.specs.declared.fault.TomlFault.{TomlFault}
use Rattle.note_types.specs.declared.fault.TomlFault.TheVariants.{NotToml}
use Rattle.toml.specs.Data.{Data, Members, get_member, integer, members_depth}
use Rattle.note_filling.specs.Kept.{IsListKept, IsTextKept, filled_keys}
use Rattle.note_filling.specs.declared.end.FillEnd.{FillEnd}
use Rattle.note_filling.specs.declared.end.FillEnd.TheVariants as ends
use Rattle.note_filling.specs.declared.end.Flaw.{Flaw as Fault}

-- the first fault of a table: of the forms, then of the repeats, then of the names of notes
unfoldable pub forms_of : Members → Result (Unit {0}) TomlFault
forms_of table = do
  draft ← draft_of table
  names ← once draft
  known names draft

-- The whole text is kept as `IsTextKept` has it, with each list in its own order and no points and sites beside its own.
pub record IsKeptInPlace (place : List ℕ → Option ℕ) (old new : Members) : Type 0 where
  pub version : get_member (codes "version") new ≡ Some (unwrap_or (get_member (codes "version") old) (integer (pos 1)))
  pub entry : (d : Data) → get_member (codes "entry") old ≡ Some d → get_member (codes "entry") new ≡ Some d
  pub statics : IsListKept place lists.Static (get_member (codes "static") old) (get_member (codes "static") new)
  pub thunk : IsListKept place lists.Thunk (get_member (codes "thunk") old) (get_member (codes "thunk") new)
  pub function : IsListKept place lists.Function (get_member (codes "function") old) (get_member (codes "function") new)
  pub point : IsListKept place lists.Point (get_member (codes "point") old) (get_member (codes "point") new)
  pub site : IsListKept place lists.Site (get_member (codes "site") old) (get_member (codes "site") new)
  pub rest : (key : List ℕ) → is_named key filled_keys ≡ false → get_member key new ≡ get_member key old

-- A text that is filled in its own order has this fault of forms, repeats or names.
pub record HasFormFault (place : List ℕ → Option ℕ) (old : Members) (fault : TomlFault) : Type 0 where
  pub new : Members
  pub kept : IsKeptInPlace place old new
  pub reading : forms_of new ≡ Err fault

-- A text nests deeper, once it is filled with these points and sites, than notes that are read: this is told as that it isn't TOML.
pub record IsTooDeep (place : List ℕ → Option ℕ) (points sites : List Data) (old : Members) (fault : TomlFault) : Type 0 where
  pub new : Members
  pub kept : IsTextKept place points sites old new
  pub deep : 80 < members_depth new
  pub told : fault ≡ NotToml

-- an end is the first fault of a label, or one that is no label's and has this cause; want of memory has none
abbrev pub HasCause : Result (Unit {0}) Fault → (TomlFault → Type 0) → FillEnd → Type 0
HasCause labels cause ends.NoMemory = Unit {0}
HasCause labels cause (ends.Flaw f) = (labels ≡ Err f) ⊎ ((f.label ≡ None) × cause f.fault)
