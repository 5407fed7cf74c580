-- What loads give and what operands are worth is known.
use Rattle.rules_laws.proofs.Common.{ℕ, Bool, nat_lt, nat_eq, arith, IfOk, Extra, Operand, type_of, SlotKind, N, Q, FnNote, Notes, State}
use Rattle.rules_laws.proofs.Common.{Ty, Access, Loaded, Distance, Place, load_at, extra_distance, place_at, operand_value, register_type}
use Rattle.rules_laws.proofs.Common.{IsKnown, IsKnownCell, IsNotes, or_else}
use Rattle.note_types.specs.declared.cell.Cell.{Cell}
use Rattle.note_types.proofs.TypeLaws.{content_type-known, no_fields}
use Rattle.rules_base.specs.declared.access.Access.TheVariants.{Qword, Natural, Signed}
use Rattle.rules_base.specs.Access.{load_place, loaded_type, loads, local_load, object_load, parameter_load, thunk_load}
use Rattle.rules_base.specs.Places.{has_field}
use Rattle.rules_laws.proofs.{MovesKeep.with_immediate-known, Options.ok_choice, Options.ok_some, Options.ok_then, PlacesKeep.ParamsKnown}
use Rattle.rules_laws.proofs.{PlacesKeep.PlaceKnown, PlacesKeep.place_at-known}
use Rattle.note_types.specs.declared.cell.Cell.TheVariants as cell
use Rattle.note_types.specs.declared.types.Ty.TheVariants as ty
use Rattle.rules_base.specs.declared.place.Place.TheVariants as place
use Rattle.note_types.specs.declared.rule.RuleName.TheVariants as rule

-- a load's type is known
abbrev pub LoadKnown : Notes → FnNote → Loaded → Type 0
LoadKnown notes f l = IsKnown notes f l.ty

-- ---- cells

pub signed_status-known : (notes : Notes) (f : FnNote) → IsKnown notes f (ty.SignedStatus 0)
signed_status-known notes f = record { bounded = omega arith; names = no_fields notes f }

pub status_known : (notes : Notes) (f : FnNote) → IsKnown notes f (ty.Status 0)
status_known notes f = record { bounded = omega arith; names = no_fields notes f }

loaded_known : (notes : Notes) (f : FnNote) (access : Access) (cell : Cell) → IsKnownCell notes cell
    → IsKnown notes f (loaded_type access cell)
loaded_known notes f Signed cell.Stat k = signed_status-known notes f
loaded_known notes f access cell k = content_type-known notes f cell k

-- ---- loads

object_load-known : (notes : Notes) (f : FnNote) (access : Access) (cell : Cell) (null : Bool) → IsKnownCell notes cell
    → IfOk (object_load access cell null) (LoadKnown notes f)
object_load-known notes f access cell null k =
    ok_choice (LoadKnown notes f) (loads access cell) _ _ (ok_choice (LoadKnown notes f) null _ _ tt
    (loaded_known notes f access cell k)) tt

local_load-known : (notes : Notes) (f : FnNote) (access : Access) (cell : Cell) (written : Bool) → IsKnownCell notes cell
    → IfOk (local_load access cell written) (LoadKnown notes f)
local_load-known notes f access cell written k =
    ok_choice (LoadKnown notes f) (loads access cell) _ _ (ok_choice (LoadKnown notes f) written _ _
    (loaded_known notes f access cell k) tt) tt

parameter_load-known : (notes : Notes) (f : FnNote) (access : Access) (kind : SlotKind) (t : Ty) → IsKnown notes f t
    → IfOk (parameter_load access kind t) (LoadKnown notes f)
parameter_load-known notes f Natural N t k = k
parameter_load-known notes f Qword Q t k = k
parameter_load-known notes f Signed N (ty.Status g) k = signed_status-known notes f
parameter_load-known notes f Signed Q (ty.Status g) k = signed_status-known notes f
parameter_load-known notes f _ _ _ k = tt

entry_known : (notes : Notes) (f : FnNote) → IsKnown notes f ty.Entry
entry_known notes f = record { bounded = tt; names = tt }

thunk_load-known : (notes : Notes) (f : FnNote) (access : Access) (made : Bool) → IfOk (thunk_load access made) (LoadKnown notes f)
thunk_load-known notes f Natural made = entry_known notes f
thunk_load-known notes f _ made = tt

load_place-known : (notes : Notes) (f : FnNote) (s : State) (access : Access) (p : Place) → PlaceKnown notes f p
    → IfOk (load_place s access p) (LoadKnown notes f)
load_place-known notes f s access (place.Object cell null) k = object_load-known notes f access cell null k
load_place-known notes f s access (place.Local x cell) k = local_load-known notes f access cell (has_field s.written x) k.2
load_place-known notes f s access (place.Parameter kind t) k = parameter_load-known notes f access kind t k
load_place-known notes f s access (place.ThunkCell i) k = thunk_load-known notes f access (nat_lt i s.made)

-- what is known of all registers
abbrev pub RegistersKnown : Notes → FnNote → State → Type 0
RegistersKnown notes f s = (r : ℕ) → IsKnown notes f (type_of s r)

-- what a load gives is known
pub load_at-known : (notes : Notes) (f : FnNote) (s : State) (access : Access) (r : ℕ) (d : Distance) → IsNotes notes
    → ParamsKnown notes f f.params → RegistersKnown notes f s → IfOk (load_at notes f s access r d) (LoadKnown notes f)
unfolding load_at
load_at-known notes f s access r d k p h =
    ok_then (PlaceKnown notes f) (LoadKnown notes f) (or_else rule.Address (place_at notes f s r d)) _
    (ok_some (PlaceKnown notes f) rule.Address (place_at notes f s r d) (place_at-known notes f s r d k p (h r)))
    (λ q i. load_place-known notes f s access q i)

-- ---- operands

pub register_type-known : (notes : Notes) (f : FnNote) (s : State) (r : ℕ) → RegistersKnown notes f s
    → IfOk (register_type s r) (IsKnown notes f)
unfolding register_type
register_type-known notes f s r h = ok_choice (IsKnown notes f) (nat_eq r 0) _ _ tt (h r)

-- the value of an operand is known
pub operand_value-known : (notes : Notes) (f : FnNote) (s : State) (access : Access) (op : Operand) (extra : Extra) → IsNotes notes
    → ParamsKnown notes f f.params → RegistersKnown notes f s → IfOk (operand_value notes f s access op extra) (LoadKnown notes f)
unfolding operand_value
operand_value-known notes f s access op extra k p h =
    ok_choice (LoadKnown notes f) op.indirect _ _ (load_at-known notes f s access op.reg (extra_distance extra) k p h)
    (ok_choice (LoadKnown notes f) (nat_eq op.reg 0) _ _ tt (with_immediate-known notes f notes.shape (type_of s op.reg) extra (h op.reg)))
