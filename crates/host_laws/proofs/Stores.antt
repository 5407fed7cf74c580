-- The host's stores: a machine that stands for a configuration stands for it after each store of a written value.
use Rattle.host_laws.proofs.Common.{◌≡◌, ℕ, zero, suc, ◌+◌, ◌*◌, ◌%◌, ◌^◌, ◌≤◌, Bool, true, false, ◌&&◌, if◌then◌else◌, nat_eq, List, []}
use Rattle.host_laws.proofs.Common.{◌∷◌, Option, Some, None, refl, sym, ap, ap₂, ◌∙◌, subst, arith, slice_get, slice_index, mod-eq_of_lt}
use Rattle.host_laws.proofs.Common.{AllZip, AllByRecursion, option_map_or, same_Some, none-some, and_parts, eqb-true, IsWidth, put}
use Rattle.host_laws.proofs.Common.{cell_size, content_type, Concrete, stored, holds, Target, InObject, InArgument, Store, field_at}
use Rattle.host_laws.proofs.Common.{cell_address, after_stores, written_number, TypedObject, Placement, stack_bytes, IsPlacement}
use Rattle.host_laws.proofs.Common.{placed_ranges, Cell, Field, Config, target_place, local_of, addresses, total, Named, memory_of}
use Rattle.host_laws.proofs.Common.{cell_field, MachineStands, Neutral, At, LocalOf, Addresses, CellPlace, FieldOf, FieldOfLocals, Cells}
use Rattle.host_laws.proofs.Common.{Shows, ShowsIn, IsPast, word, World, made_objects, WorldFits, value_as, value_shows, shown_in, bounded}
use Rattle.host_laws.proofs.Common.{in_object_at, object_cell, cell_lies, StoreNames, width_word}
use Rattle.host_model.specs.HostSteps.{target_address, after_store}
use Rattle.neutral_machine.specs.NeutralHost.{after_store as neutral_store, after_stores as neutral_stores}
use Rattle.neutral_machine.specs.{Memory.with_cell, Stands.cell_address as world_cell_address}
use Rattle.neutral_machine.proofs.Stored.{stored_stands}
use Rattle.host_laws.proofs.{Things.named, Things.base_is, SeenStands.cell_address_is}

-- what is shown at a number of a list
shown_at : (w : ℕ) (A : Addresses) (vs : List Neutral) (xs : List ℕ) (j : ℕ) (v : Neutral) → AllZip (Shows w A) vs xs
    → slice_get vs j ≡ Some v → Shows w A v (slice_index xs j)
shown_at w A [] xs j v s g = absurd (none-some v g)
shown_at w A (u ∷ vs) [] j v s g = absurd s
shown_at w A (u ∷ vs) (x ∷ xs) zero v s g = subst (λ y. Shows w A y x) (same_Some u v g) s.0
shown_at w A (u ∷ vs) (x ∷ xs) (suc j) v s g = shown_at w A vs xs j v s.1 g

-- an address of a local field, as a value
pub record IsLocal (q : Option Neutral) (p : CellPlace) : Type 0 where
  pub d : ℕ
  pub f : ℕ
  pub is : q ≡ Some (At (LocalOf d f) 0 0)
  pub place : FieldOfLocals d f ≡ p

local_is : (q : Option Neutral) (p : CellPlace) → local_of q ≡ Some p → IsLocal q p
local_is (Some (At (LocalOf d f) n c)) p e = go (nat_eq n 0 && nat_eq c 0) refl e
  where
    go : (t : Bool) → (nat_eq n 0 && nat_eq c 0) ≡ t → (if t then Some (FieldOfLocals d f) else None) ≡ Some p
        → IsLocal (Some (At (LocalOf d f) n c)) p
    go true t e = let b = and_parts (nat_eq n 0) (nat_eq c 0) t in
        record {
          d = d;
          f = f;
          is = ap₂ (λ x y. Some (At (LocalOf d f) x y)) (eqb-true n 0 b.0) (eqb-true c 0 b.1);
          place = same_Some _ p e;
        }
    go false t e = absurd (none-some p e)
local_is o p e = absurd (none-some p e)

module _ (w : ℕ) (world : World) (P : Placement) (mapped : ℕ → ℕ) (h : IsWidth w) (ok : WorldFits world) (pl : IsPlacement w world P) where
  -- where a store goes
  target_is : (a : Config) (s : Concrete) (but : Option ℕ) (made : List TypedObject) (vs : List Neutral) (xs : List ℕ) (t : Target)
      (p : CellPlace) (z : Field) → made ≡ made_objects world.notes world.script a.script.entries
      → total w a.frames ≤ stack_bytes w world.notes → MachineStands w world P mapped but a s
      → AllZip (Shows w (addresses w world.notes P a.frames)) vs xs → target_place vs t ≡ Some p
      → cell_field world.notes (memory_of world a) p ≡ Some z
      → world_cell_address w world P a p z ≡ Some (target_address w world.notes P made xs t)
  unfolding field_at
  target_is a s but made vs xs (InObject k i f) p z me room st sh e g =
      let q : p ≡ FieldOf k i f = sym (same_Some (FieldOf k i f) p e) in
      let g' : field_at world.notes (made_objects world.notes world.script a.script.entries) k i f ≡ Some z =
      ap (cell_field world.notes (memory_of world a)) (sym q) ∙ g in
      let c = in_object_at world a k i f z g' in
      let o = object_cell w world P h ok pl a.script.entries k i f z c in
      let at = cell_address_is w world P mapped h ok pl a k i f z g' o.lies.base c.object c.there
      (base_is w world P h ok pl k o.lies.base o.lies.address) in
      ap (λ y. world_cell_address w world P a y z) q ∙ o.address_is ∙ ap Some (sym at)
      ∙ ap Some (sym (ap (λ y. option_map_or (cell_address w world.notes P made k i) y 0) (ap (λ m. field_at world.notes m k i f) me ∙ g')
      ∙ ap (λ m. cell_address w world.notes P m k i z) me))
  target_is a s but made vs xs (InArgument j) p z me room st sh e g =
      let l = local_is (slice_get vs j) p e in
      let A = addresses w world.notes P a.frames in
      let x = slice_index xs j in
      let past : IsPast (A.anchor (LocalOf l.d l.f)) (0 * w + 0) x = shown_at w A vs xs j (At (LocalOf l.d l.f) 0 0) sh l.is in
      let b = (bounded w world P h ok pl a.frames room st.locals).local l.d l.f past.from past.there in
      let zero_more : past.from + (0 * w + 0) ≡ past.from = omega arith in
      let from : past.from ≡ x = sym (past.is ∙ ap word zero_more ∙ mod-eq_of_lt (let s = width_word w h in omega (arith, b, s))) in
      ap (λ y. world_cell_address w world P a y z) (sym l.place) ∙ past.there ∙ ap Some from

  pub store_stands : (a : Config) (s : Concrete) (but : Option ℕ) (made : List TypedObject) (vs : List Neutral) (xs : List ℕ) (v : Store)
      → made ≡ made_objects world.notes world.script a.script.entries → total w a.frames ≤ stack_bytes w world.notes
      → MachineStands w world P mapped but a s → AllZip (Shows w (addresses w world.notes P a.frames)) vs xs → StoreNames world a vs v
      → MachineStands w world P mapped but (record a { cells = neutral_store world.notes made vs a.cells v })
      (after_store w world.notes P made xs s v)
  unfolding stored
  store_stands a s but made vs xs v me room st sh n =
      let A = addresses w world.notes P a.frames in
      let at = target_is a s but made vs xs v.target n.place n.field me room st sh n.there n.is_field in
      let x = target_address w world.notes P made xs v.target in
      let y = written_number w world.notes P made v.value in
      let u = value_as world.notes made (content_type v.cell) v.value in
      let k = cell_size w v.cell in
      let lies = cell_lies w world P h ok pl a n.place n.field room st.locals n.is_field in
      let same : lies.address ≡ x = same_Some _ _ (sym lies.there ∙ at) in
      let held : holds s.objects x k ≡ true =
      ap₂ (λ o z. holds o x (cell_size w z)) st.objects (sym n.cell)
      ∙ ap (λ z. holds (placed_ranges w world P a.script.entries) z (cell_size w n.field.cell)) (sym same) ∙ lies.held in
      let shown : Shows w A u y =
      value_shows w world.notes P made A (subst (λ m. Named w world.notes P m A) (sym me)
      (named w world P h ok pl a.script.entries a.frames)) (content_type v.cell) v.value n.value in
      let cut : ShowsIn w A (cell_size w n.field.cell) u (y % 2 ^ (8 * cell_size w n.field.cell)) =
      shown_in w A (cell_size w n.field.cell) u y shown in
      let done = stored_stands w world P mapped h ok pl but a s n.place n.field u x y room st n.is_field at cut in
      let code : record s { byte = put s.byte x (cell_size w n.field.cell) y } ≡ after_store w world.notes P made xs s v =
      ap (λ (z : Cell). record s { byte = put s.byte x (cell_size w z) y }) n.cell
      ∙ ap (λ b. option_map_or (λ t. t) (if b then Some (record s { byte = put s.byte x k y }) else None) s) (sym held) in
      let cells : with_cell a.cells n.place u ≡ neutral_store world.notes made vs a.cells v =
      ap (λ q. option_map_or (λ p. with_cell a.cells p u) q a.cells) (sym n.there) in
      subst (λ (t : Concrete). MachineStands w world P mapped but (record a { cells = neutral_store world.notes made vs a.cells v }) t) code
      (subst (λ (c : Cells). MachineStands w world P mapped but (record a { cells = c })
      (record s { byte = put s.byte x (cell_size w n.field.cell) y })) cells done)

  -- the same stores name cells whatever the cells hold
  still_names : (a : Config) (c : Cells) (vs : List Neutral) (v : Store) → StoreNames world a vs v
      → StoreNames world (record a { cells = c }) vs v
  still_names a c vs v n = record {
    place = n.place;
    there = n.there;
    field = n.field;
    is_field = by n.place n.is_field;
    cell = n.cell;
    value = n.value;
  }
    where
      by : (p : CellPlace) → cell_field world.notes (memory_of world a) p ≡ Some n.field
          → cell_field world.notes (memory_of world (record a { cells = c })) p ≡ Some n.field
      by (FieldOf k i f) e = e
      by (FieldOfLocals d f) e = e

  all_still : (a : Config) (c : Cells) (us : List Neutral) (vs : List Store) → AllByRecursion (StoreNames world a us) vs
      → AllByRecursion (StoreNames world (record a { cells = c }) us) vs
  all_still a c us [] n = tt
  all_still a c us (v ∷ vs) n = (still_names a c us v n.0, all_still a c us vs n.1)

  pub stores_stand : (vs : List Store) (a : Config) (s : Concrete) (but : Option ℕ) (made : List TypedObject) (us : List Neutral)
      (xs : List ℕ) → made ≡ made_objects world.notes world.script a.script.entries → total w a.frames ≤ stack_bytes w world.notes
      → MachineStands w world P mapped but a s → AllZip (Shows w (addresses w world.notes P a.frames)) us xs
      → AllByRecursion (StoreNames world a us) vs
      → MachineStands w world P mapped but (record a { cells = neutral_stores world.notes made us vs a.cells })
      (after_stores w world.notes P made xs vs s)
  unfolding neutral_stores after_stores
  stores_stand [] a s but made us xs me room st sh n = st
  stores_stand (v ∷ vs) a s but made us xs me room st sh n =
      stores_stand vs (record a { cells = neutral_store world.notes made us a.cells v })
      (after_store w world.notes P made xs s v) but made us xs me room
      (store_stands a s but made us xs v me room st sh n.0) sh (all_still a (neutral_store world.notes made us a.cells v) us vs n.1)
