-- The loaded bytes show what the cells of static objects hold, where these keep their rule.
use Rattle.step_sound.proofs.Common.{◌≡◌, ℕ, zero, suc, ◌+◌, ◌-◌, ◌*◌, ◌%◌, ◌^◌, ◌<◌, ◌≤◌, Bool, true, false, if◌then◌else◌, [], length}
use Rattle.step_sound.proofs.Common.{map, get_or, Option, Some, option_map, option_and_then, refl, sym, ap, ap₂, ◌∙◌, subst, subst₂, arith}
use Rattle.step_sound.proofs.Common.{mod-eq_of_lt, inl, ⊎_elim, slice_get, option_map_or, lt-ltb, row_fits, same_Some, slice_get-map}
use Rattle.step_sound.proofs.Common.{slice_get_within, slice_get-get_or, little_endian, IsWidth, little_endian-below, IsRunOf, world_meets}
use Rattle.step_sound.proofs.Common.{WorldFits, cell_size, size_at, start_at, Cell, Static, Field, Shape, AreBytes, mapped, image_byte}
use Rattle.step_sound.proofs.Common.{named_place, Image, extent, depends, field_place, IsStatic, IsLinked, CellHolds, HasContentBy}
use Rattle.step_sound.proofs.Common.{IsUnrelocated, field_at, addresses, memory_of, cell_field, no_shape, shape_of, static_object}
use Rattle.step_sound.proofs.Common.{made_objects, Placement, IsPlacement, object_bytes, image_range, Neutral, At, ObjectOf, FieldOf}
use Rattle.step_sound.proofs.Common.{Addresses, number, null, word, World, TypedObject, slice_get-append_left, within_some, length-map}
use Rattle.step_sound.proofs.Common.{contains-any, static_cells, static_cell_place, static_value, static_address, loaded_value}
use Rattle.std.proofs.{Common.le_refl, Math.Nat.one-le-pow}
use Rattle.ebc_width.proofs.{ByteLaws.little_endian-moved, Laws.by_width, RangeLaws.covers-inside}
use Rattle.host_laws.specs.StartGiven.{StaticsShow, start_config}
use Rattle.host_laws.proofs.{Accepting.read_zero, Things.base_is}
use Rattle.neutral_machine.specs.Stands.{CellShows, cell_address}
use Rattle.neutral_machine.proofs.{Cells.in_object_at, Cells.object_cell, NamedThings.some_there}
use Rattle.host_model.specs.{Placements.object_at, Placements.static_place, Values.ShowsIn}
use Rattle.step_sound.specs.Loaded.{StaticsAreShown}
use Rattle.step_sound.proofs.{Relocated.number_kept, Relocated.number_moved, StaticThings.units_none, StaticThings.field_units}
use Rattle.step_sound.proofs.StaticThings.{unlisted, static_found}
use Rattle.note_types.specs.declared.cell.Cell.TheVariants as cell
use Rattle.host_model.specs.Start as start

-- ---- numbers

-- a number of so many bytes shows as itself
number_shows : (w : ℕ) (A : Addresses) (n m : ℕ) → n ≤ 8 → m < 256 ^ n → ShowsIn w A n (number m) m
number_shows w A n m few small = record {
  whole = m;
  shows = (let e : 0 * w + m ≡ m = omega arith in sym (ap word e ∙ mod-eq_of_lt (wide n few small)));
  cut = sym (mod-eq_of_lt (bits n few small));
}
  where
    wide : (n : ℕ) → n ≤ 8 → m < 256 ^ n → m < 2 ^ 64
    wide zero l k = omega (arith, k)
    wide (suc zero) l k = omega (arith, k)
    wide (suc (suc zero)) l k = omega (arith, k)
    wide (suc (suc (suc zero))) l k = omega (arith, k)
    wide (suc (suc (suc (suc zero)))) l k = omega (arith, k)
    wide (suc (suc (suc (suc (suc zero))))) l k = omega (arith, k)
    wide (suc (suc (suc (suc (suc (suc zero)))))) l k = omega (arith, k)
    wide (suc (suc (suc (suc (suc (suc (suc zero))))))) l k = omega (arith, k)
    wide (suc (suc (suc (suc (suc (suc (suc (suc zero)))))))) l k = omega (arith, k)
    wide (suc (suc (suc (suc (suc (suc (suc (suc (suc n))))))))) l k = absurd (omega (arith, l))

    bits : (n : ℕ) → n ≤ 8 → m < 256 ^ n → m < 2 ^ (8 * n)
    bits zero l k = omega (arith, k)
    bits (suc zero) l k = omega (arith, k)
    bits (suc (suc zero)) l k = omega (arith, k)
    bits (suc (suc (suc zero))) l k = omega (arith, k)
    bits (suc (suc (suc (suc zero)))) l k = omega (arith, k)
    bits (suc (suc (suc (suc (suc zero))))) l k = omega (arith, k)
    bits (suc (suc (suc (suc (suc (suc zero)))))) l k = omega (arith, k)
    bits (suc (suc (suc (suc (suc (suc (suc zero))))))) l k = omega (arith, k)
    bits (suc (suc (suc (suc (suc (suc (suc (suc zero)))))))) l k = omega (arith, k)
    bits (suc (suc (suc (suc (suc (suc (suc (suc (suc n))))))))) l k = absurd (omega (arith, l))

-- a cell has a byte, and eight at most
cell_bytes : (w : ℕ) (c : Cell) → IsWidth w → (0 < cell_size w c) × (cell_size w c ≤ 8)
cell_bytes w c h = by_width (λ v. (0 < cell_size v c) × (cell_size v c ≤ 8)) w h (at4 c) (at8 c)
  where
    at4 : (c : Cell) → (0 < cell_size 4 c) × (cell_size 4 c ≤ 8)
    at4 cell.I8 = (omega arith, omega arith)
    at4 cell.I16 = (omega arith, omega arith)
    at4 cell.I32 = (omega arith, omega arith)
    at4 cell.I64 = (omega arith, omega arith)
    at4 cell.N = (omega arith, omega arith)
    at4 cell.Stat = (omega arith, omega arith)
    at4 cell.Handle = (omega arith, omega arith)
    at4 cell.Entry = (omega arith, omega arith)
    at4 (cell.Ptr s k may) = (omega arith, omega arith)
    at4 (cell.P64 s k may) = (omega arith, omega arith)
    at4 (cell.Method m) = (omega arith, omega arith)

    at8 : (c : Cell) → (0 < cell_size 8 c) × (cell_size 8 c ≤ 8)
    at8 cell.I8 = (omega arith, omega arith)
    at8 cell.I16 = (omega arith, omega arith)
    at8 cell.I32 = (omega arith, omega arith)
    at8 cell.I64 = (omega arith, omega arith)
    at8 cell.N = (omega arith, omega arith)
    at8 cell.Stat = (omega arith, omega arith)
    at8 cell.Handle = (omega arith, omega arith)
    at8 cell.Entry = (omega arith, omega arith)
    at8 (cell.Ptr s k may) = (omega arith, omega arith)
    at8 (cell.P64 s k may) = (omega arith, omega arith)
    at8 (cell.Method m) = (omega arith, omega arith)

module _ (w : ℕ) (image : Image) (world : World) (P : Placement) (h : IsWidth w) (run : IsRunOf image world) (bytes : AreBytes image)
    (pl : IsPlacement w world P) where
  abbrev A : Addresses
  A = addresses w world.notes P []

  abbrev B : ℕ → ℕ
  B = mapped image P.image

  fits : WorldFits world
  fits = world_meets image world run

  -- the number in the image's bytes from a place on
  abbrev held : ℕ → ℕ → ℕ
  held p n = little_endian (image_byte image) p n

  -- memory has the loaded bytes at the image's places
  in_memory : (q n : ℕ) → q + n ≤ world.image_size → little_endian (start.image_byte world P B) (P.image + q) n ≡ little_endian B q n
  in_memory q n l = little_endian-moved (start.image_byte world P B) B (P.image + q) q n (λ j m.
      let at : P.image + q + j ≡ P.image + (q + j) = omega arith in
      ap (start.image_byte world P B) at
      ∙ ap (λ b. if b then B (P.image + (q + j) - P.image) else 0)
      (covers-inside (image_range world P) (P.image + (q + j)) 1 (omega arith) (omega (arith, l, m)))
      ∙ ap B (let e : P.image + (q + j) - P.image ≡ q + j = omega arith in e))

  -- a number that isn't relocated shows as the image has it
  plain_cell : (p n : ℕ) → 0 < n → n ≤ 8 → IsUnrelocated image p (p + n)
      → ShowsIn w A n (loaded_value world.notes image p n) (little_endian B p n)
  plain_cell p n some few free =
      let none = unlisted image.relocs p (λ c. free p c (omega (arith, some), omega arith)) in
      let v : loaded_value world.notes image p n ≡ number (held p n) =
      ap (λ b. if b then static_address world.notes (named_place image p) else number (held p n)) none in
      subst₂ (λ u m. ShowsIn w A n u m) (sym v) (sym (number_kept image P.image p (p + n) p n free (le_refl _) (le_refl _)))
      (number_shows w A n (held p n) few (little_endian-below (image_byte image) p n bytes))

  -- a relocated pointer of 64 bits shows as the address of the static object that it names
  linked_cell : (p s count : ℕ) → IsLinked image world.notes p s count
      → ShowsIn w A 8 (loaded_value world.notes image p 8) (little_endian B p 8)
  unfolding object_at
  linked_cell p s count link =
      let some = contains-any image.relocs p link.relocated in
      let at = link.named in
      let found = static_found image world run (named_place image p) s count at in
      let v : loaded_value world.notes image p 8 ≡ At (ObjectOf at.k) 0 0 =
      ap (λ b. if b then static_address world.notes (named_place image p) else number (held p 8)) some
      ∙ ap (λ o. option_map_or (λ u. u) (option_map (λ k. At (ObjectOf k) 0 0) o) null) found in
      let few = slice_get_within world.notes.statics at.k at.x at.there in
      let base : object_at world.notes P at.k ≡ P.image + named_place image p =
      ap (λ b. if b then P.image + static_place world.notes at.k else get_or P.objects (at.k - length world.notes.statics) 0)
      (lt-ltb at.k (length world.notes.statics) few)
      ∙ ap (λ (o : Option Static). P.image + option_map_or (λ (x : Static). x.place) o 0) at.there ∙ ap (λ y. P.image + y) at.place_is in
      let moved = number_moved image P.image run.well_formed p link.relocated in
      subst (λ u. ShowsIn w A 8 u (little_endian B p 8)) (sym v)
      (record {
        whole = little_endian B p 8;
        shows = record {
          from = object_at world.notes P at.k;
          there = some_there (length world.notes.statics + length P.objects) at.k (object_at world.notes P at.k) (omega (arith, few));
          is = moved ∙ (let e : P.image + named_place image p ≡ object_at world.notes P at.k + (0 * w + 0) = omega (arith, base) in
              ap word e);
        };
        cut = (let e : little_endian B p 8 ≡ little_endian B p 8 % 2 ^ (8 * 8) = omega (arith, moved) in e);
      })

  -- a cell of a shape with one layout shows
  filled_cell : (p : ℕ) (c : Cell) → CellHolds image world.notes p c
      → ShowsIn w A (cell_size w c) (loaded_value world.notes image p (cell_size 4 c)) (little_endian B p (cell_size w c))
  filled_cell p cell.I8 f = plain_cell p 1 (omega arith) (omega arith) f
  filled_cell p cell.I16 f = plain_cell p 2 (omega arith) (omega arith) f
  filled_cell p cell.I32 f = plain_cell p 4 (omega arith) (omega arith) f
  filled_cell p cell.I64 f = plain_cell p 8 (omega arith) (omega arith) f
  filled_cell p (cell.P64 s k true) f = ⊎_elim (λ z. plain_cell p 8 (omega arith) (omega arith) z.0) (λ z. linked_cell p s k z) f
  filled_cell p (cell.P64 s k false) f = linked_cell p s k f
  filled_cell p cell.N f = absurd f
  filled_cell p cell.Stat f = absurd f
  filled_cell p cell.Handle f = absurd f
  filled_cell p cell.Entry f = absurd f
  filled_cell p (cell.Ptr s k may) f = absurd f
  filled_cell p (cell.Method m) f = absurd f

  -- a cell of zero bytes shows null
  blank_cell : (from to p q n m : ℕ) → IsUnrelocated image from to → ((x : ℕ) → from ≤ x → x < to → image_byte image x ≡ 0) → from ≤ p
      → p + n ≤ to → from ≤ q → q + m ≤ to → 0 < n → m ≤ 8
      → ShowsIn w A m (loaded_value world.notes image p n) (little_endian B q m)
  blank_cell from to p q n m free zeros a b c d some few =
      let none = unlisted image.relocs p (λ k. free p k (omega (arith, b, some), omega (arith, a))) in
      let zero_at : (x k : ℕ) → from ≤ x → x + k ≤ to → held x k ≡ 0 =
      λ x k l t. read_zero (image_byte image) x k (λ y u v. zeros y (omega (arith, l, u)) (omega (arith, t, v))) in
      let v : loaded_value world.notes image p n ≡ number 0 = ap
      (λ t. if t then static_address world.notes (named_place image p) else number (held p n)) none ∙ ap number (zero_at p n a b) in
      let x : little_endian B q m ≡ 0 = number_kept image P.image from to q m free c d ∙ zero_at q m c d in
      subst₂ (λ u y. ShowsIn w A m u y) (sym v) (sym x) (number_shows w A m 0 few (one-le-pow m 256 (omega arith)))

  -- a cell of a static object shows
  static_shows : (k i f : ℕ) (s : Static) (z : Field) → slice_get world.notes.statics k ≡ Some s → i < s.count
      → slice_get (shape_of world.notes s.shape).fields f ≡ Some z
      → s.place + (i * size_at w (shape_of world.notes s.shape) + start_at w z) + cell_size w z.cell ≤ s.place + extent s
      (shape_of world.notes s.shape)
      → s.place + (i * size_at 4 (shape_of world.notes s.shape) + start_at 4 z) + cell_size 4 z.cell ≤ s.place + extent s
      (shape_of world.notes s.shape)
      → ShowsIn w A (cell_size w z.cell) (static_value world.notes image s i z)
      (little_endian B (s.place + (i * size_at w (shape_of world.notes s.shape) + start_at w z)) (cell_size w z.cell))
  static_shows k i f s z g l at inside inside4 = by_layout (depends S) refl rule.content
    where
      S : Shape
      S = shape_of world.notes s.shape

      rule : IsStatic image world.notes k s S
      rule = run.statics k s S g (slice_get-get_or world.notes.shape s.shape no_shape (run.notes.statics k s g).shape)

      by_layout : (b : Bool) → depends (shape_of world.notes s.shape) ≡ b
          → HasContentBy image world.notes s (shape_of world.notes s.shape) b
          → ShowsIn w A (cell_size w z.cell) (static_value world.notes image s i z)
          (little_endian B (s.place + (i * size_at w (shape_of world.notes s.shape) + start_at w z)) (cell_size w z.cell))
      by_layout true e c =
          let n4 = cell_bytes 4 z.cell (inl refl) in
          let nw = cell_bytes w z.cell h in
          blank_cell s.place (s.place + extent s (shape_of world.notes s.shape)) (static_cell_place world.notes s i z)
          (s.place + (i * size_at w (shape_of world.notes s.shape) + start_at w z)) (cell_size 4 z.cell) (cell_size w z.cell)
          c.unrelocated c.zero_bytes (omega arith) (omega (arith, inside4)) (omega arith) inside n4.0 nw.1
      by_layout false e c =
          let none = units_none (shape_of world.notes s.shape) e in
          let z0 = field_units (shape_of world.notes s.shape) f z e at in
          let p8 = field_place s (shape_of world.notes s.shape) i z in
          let fixed : (v : ℕ) → s.place + (i * size_at v (shape_of world.notes s.shape) + start_at v z) ≡ s.place +
          (i * (shape_of world.notes s.shape).c + z.c) =
          λ v. ap₂ (λ a b. s.place + (i * (a * v + (shape_of world.notes s.shape).c) + (b * v + z.c))) none z0 ∙ omega arith in
          let here : static_cell_place world.notes s i z ≡ p8 =
          (let q : static_cell_place world.notes s i z ≡ s.place + (i * size_at 4 (shape_of world.notes s.shape) + start_at 4 z) =
          omega arith in q) ∙ fixed 4 ∙ sym (fixed 8) ∙ omega arith in
          let there : s.place + (i * size_at w (shape_of world.notes s.shape) + start_at w z) ≡ p8 = fixed w ∙ sym (fixed 8)
          ∙ omega arith in
          subst₂ (λ p q. ShowsIn w A (cell_size w z.cell) (loaded_value world.notes image p (cell_size 4 z.cell))
          (little_endian B q (cell_size w z.cell))) (sym here) (sym there)
          (filled_cell p8 z.cell (c.cells i f z l at))

  -- ---- all of them

  -- a static object by its number
  made_static : (k : ℕ) (s : Static) (o : TypedObject) → slice_get world.notes.statics k ≡ Some s
      → slice_get (made_objects world.notes world.script 0) k ≡ Some o → static_object s ≡ o
  unfolding made_objects
  made_static k s o g e =
      let few = slice_get_within world.notes.statics k s g in
      let size = length-map static_object world.notes.statics in
      same_Some (static_object s) o (sym (slice_get-append_left (map static_object world.notes.statics) _ k (omega (arith, few, size))
      ∙ slice_get-map static_object world.notes.statics k ∙ ap (option_map static_object) g) ∙ e)

  show : (k i f : ℕ) (z : Field) (v : Neutral) → k < length world.notes.statics → static_cells world image (FieldOf k i f) ≡ Some v
      → cell_field world.notes (memory_of world (start_config world (static_cells world image))) (FieldOf k i f) ≡ Some z
      → CellShows w A (start.image_byte world P B) (cell_address w world P (start_config world (static_cells world image))
      (FieldOf k i f) z) (cell_size w z.cell) v
  unfolding static_cells field_at object_at
  show k i f z v l e g =
      let st = within_some world.notes.statics k l in
      let s = st.0 in
      let c = in_object_at world (start_config world (static_cells world image)) k i f z g in
      let same : static_object s ≡ c.object = made_static k s c.object st.1 c.there in
      let o = object_cell w world P h fits pl 0 k i f z c in
      let v_is : static_value world.notes image s i z ≡ v =
      same_Some (static_value world.notes image s i z) v
      (sym (ap (λ (q : Option Static). option_and_then (λ (x : Static). option_map (static_value world.notes image x i)
      (cell_field world.notes (memory_of world (start_config world (static_cells world image))) (FieldOf k i f))) q) st.1
      ∙ ap (λ (q : Option Field). option_map (static_value world.notes image s i) q) g) ∙ e) in
      let base : o.lies.base ≡ P.image + s.place =
      sym (base_is w world P h fits pl k o.lies.base o.lies.address)
      ∙ ap (λ b. if b then P.image + static_place world.notes k else get_or P.objects (k - length world.notes.statics) 0)
      (lt-ltb k (length world.notes.statics) l)
      ∙ ap (λ (q : Option Static). P.image + option_map_or (λ (x : Static). x.place) q 0) st.1 in
      by_object s c.object same z v c.within c.get o.lies.base o.address_is o.inside base st.1 v_is
    where
      by_object : (s : Static) (q : TypedObject) → static_object s ≡ q → (z : Field) (v : Neutral) → i < q.count
          → slice_get (shape_of world.notes q.shape).fields f ≡ Some z → (base : ℕ)
          → cell_address w world P (start_config world (static_cells world image)) (FieldOf k i f) z ≡ Some
          (base + (i * size_at w (shape_of world.notes q.shape) + start_at w z))
          → i * size_at w (shape_of world.notes q.shape) + start_at w z + cell_size w z.cell ≤ object_bytes w world.notes q
          → base ≡ P.image + s.place → slice_get world.notes.statics k ≡ Some s → static_value world.notes image s i z ≡ v
          → CellShows w A (start.image_byte world P B) (cell_address w world P (start_config world (static_cells world image))
          (FieldOf k i f) z) (cell_size w z.cell) v
      by_object s q same z v within get base at inside base_at there v_is =
          let count : i < s.count = subst (λ (y : TypedObject). i < y.count) (sym same) within in
          let field : slice_get (shape_of world.notes s.shape).fields f ≡ Some z =
          subst (λ (y : TypedObject). slice_get (shape_of world.notes y.shape).fields f ≡ Some z) (sym same) get in
          let address : cell_address w world P (start_config world (static_cells world image)) (FieldOf k i f) z ≡ Some
          (base + (i * size_at w (shape_of world.notes s.shape) + start_at w z)) =
          subst (λ (y : TypedObject). cell_address w world P (start_config world (static_cells world image)) (FieldOf k i f) z ≡ Some
          (base + (i * size_at w (shape_of world.notes y.shape) + start_at w z))) (sym same) at in
          let shape = run.shapes s.shape (shape_of world.notes s.shape)
          (slice_get-get_or world.notes.shape s.shape no_shape (run.notes.statics k s there).shape) in
          let S = shape_of world.notes s.shape in
          let ends : (u : ℕ) → IsWidth u → i * size_at u S + start_at u z + cell_size u z.cell ≤ extent s S =
          λ u hu.
          let inner = by_width (λ y. start_at y z + cell_size y z.cell ≤ size_at y S) u hu (shape.at4.inside f z field)
          (shape.at8.inside f z field) in
          let row = row_fits i (size_at u S) s.count (size_at 8 S) count
          (by_width (λ y. size_at y S ≤ size_at 8 S) u hu (omega arith) (le_refl _)) in
          omega (arith, inner, row) in
          let at_w = ends w h in
          let at_4 = ends 4 (inl refl) in
          let room = fits.statics_inside k s there in
          let q = s.place + (i * size_at w S + start_at w z) in
          let place : base + (i * size_at w S + start_at w z) ≡ P.image + q = omega (arith, base_at) in
          let shown = static_shows k i f s z there count field (omega (arith, at_w)) (omega (arith, at_4)) in
          record {
            address = P.image + q;
            there = address ∙ ap Some place;
            shows = subst₂ (λ u m. ShowsIn w A (cell_size w z.cell) u m) v_is
                (sym (in_memory q (cell_size w z.cell) (omega (arith, at_w, room)))) shown;
          }

  pub statics_show : StaticsShow w world P (mapped image P.image) (static_cells world image)
  unfolding static_cells
  statics_show = record { show = show; no_local = λ d f. refl }

pub statics_are_shown : StaticsAreShown
statics_are_shown w image world P h run bytes pl = statics_show w image world P h run bytes pl
