-- The cells that a native call was lent: the neutral machine isn't stuck where the call goes on, so each of its arguments that
-- wants a cell names one.
use Rattle.host_laws.proofs.Common.{◌≡◌, ℕ, zero, suc, ◌+◌, true, List, [], ◌∷◌, Option, Some, None, is_some, refl, sym, ap, ◌∙◌, subst}
use Rattle.host_laws.proofs.Common.{arith, slice_get, option_map_or, option_and_then, and_parts, none-some, Cell, WantParam, ScriptCall}
use Rattle.host_laws.proofs.Common.{Field, Shape, Config, InArgument, lent_at, signature_params, memory_of, cell_field, lent_there}
use Rattle.host_laws.proofs.Common.{local_of, target_place, local_named, Neutral, CellPlace, FieldOfLocals, World}
use Rattle.host_model.specs.HostPlans.{cell_lent}
use Rattle.neutral_machine.specs.NeutralHost.{all_lent, slot_lends}
use Rattle.host_laws.proofs.ViewAlike.{and_then_some, names_local}

-- An argument names a cell of a kind.
pub record LentCell (world : World) (a : Config) (slots : List Neutral) (j : ℕ) (c : Cell) : Type 0 where
  pub place : CellPlace
  pub there : target_place slots (InArgument j) ≡ Some place
  pub field : Field
  pub is_field : cell_field world.notes (memory_of world a) place ≡ Some field
  pub cell : field.cell ≡ c

-- Each argument that wants a cell names one of its kind.
abbrev pub LentCells : World → Config → List Neutral → List WantParam → Type 0
LentCells world a slots params = (j : ℕ) (c : Cell) → lent_at params j ≡ Some c → LentCell world a slots j c

some_there : {A : Type 0} (o : Option A) → is_some o ≡ true → (x : A) × (o ≡ Some x)
some_there None e = absurd (cc)
some_there (Some x) e = (x, refl)

module _ (world : World) (a : Config) (slots : List Neutral) where
  slot_names : (j : ℕ) (c : Cell) → slot_lends a.frames (Some c) (slice_get slots j) ≡ true → LentCell world a slots j c
  slot_names j c e =
      let p = some_there (option_and_then (local_named a.frames c) (slice_get slots j)) e in
      let v = and_then_some (local_named a.frames c) (slice_get slots j) p.0 p.1 in
      let n = names_local a.frames c v.0 p.0 v.2 in
      record {
        place = FieldOfLocals n.d n.f;
        there = ap local_of (v.1 ∙ ap Some n.is);
        field = n.field;
        is_field = ap (option_and_then (λ (s : Shape). slice_get s.fields n.f)) n.there ∙ n.at;
        cell = n.cell;
      }

  slots_lend : (k : ℕ) (ps : List WantParam) → all_lent a.frames slots k ps ≡ true → (j : ℕ) (c : Cell) → lent_at ps j ≡ Some c
      → slot_lends a.frames (Some c) (slice_get slots (k + j)) ≡ true
  unfolding all_lent
  slots_lend k [] e j c h = absurd (none-some c h)
  slots_lend k (p ∷ ps) e zero c h =
      let here : k + zero ≡ k = omega arith in
      let b = and_parts (slot_lends a.frames (cell_lent p.want) (slice_get slots k)) (all_lent a.frames slots (suc k) ps) e in
      ap (λ n. slot_lends a.frames (Some c) (slice_get slots n)) here ∙ ap (λ o. slot_lends a.frames o (slice_get slots k)) (sym h) ∙ b.0
  slots_lend k (p ∷ ps) e (suc j) c h =
      let next : k + suc j ≡ suc k + j = omega arith in
      let b = and_parts (slot_lends a.frames (cell_lent p.want) (slice_get slots k)) (all_lent a.frames slots (suc k) ps) e in
      ap (λ n. slot_lends a.frames (Some c) (slice_get slots n)) next ∙ slots_lend (suc k) ps b.1 j c h

  pub lent_cells : (entry : ℕ) (c : ScriptCall) → slice_get world.script.call entry ≡ Some c → lent_there world a.frames entry slots ≡ true
      → LentCells world a slots (signature_params world.notes c.signature)
  unfolding lent_there
  lent_cells entry c there e j x h =
      let ps = signature_params world.notes c.signature in
      let all : all_lent a.frames slots 0 ps ≡ true = ap (λ o. option_map_or
      (λ (y : ScriptCall). all_lent a.frames slots 0 (signature_params world.notes y.signature)) o true) (sym there) ∙ e in
      let here : 0 + j ≡ j = omega arith in
      slot_names j x (subst (λ n. slot_lends a.frames (Some x) (slice_get slots n) ≡ true) here (slots_lend 0 ps all j x h))
