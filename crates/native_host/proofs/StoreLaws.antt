-- Laws of stores of values: one after the other, in cells that are there or not.
use Rattle.native_host.proofs.Common.{◌≡◌, ℕ, ◌+◌, ◌*◌, ◌^◌, ◌<◌, ◌≤◌, Bool, true, false, if◌then◌else◌, List, [], ◌∷◌, ◌++◌, length, drop}
use Rattle.native_host.proofs.Common.{get_or, Option, Some, None, refl, sym, ap, ◌∙◌, arith, flat_map, nat_lt, slice_get, slice_index}
use Rattle.native_host.proofs.Common.{option_and_then, option_map_or, drop_all, drop_more, Range, holds, IsWidth, by_width, Memory}
use Rattle.native_host.proofs.Common.{first_base, memory_after, next_base, ranges, memory_after-absent, cell_size, Concrete, stored, Notes}
use Rattle.native_host.proofs.Common.{WantParam, OutValue, ScriptObject, Field, Value, Store, cell_store, field_at, filling, object_stores}
use Rattle.native_host.proofs.Common.{out_store, write_store, after_stores, cell_address, written_number, script_object, Placement}
use Rattle.native_host.proofs.Common.{TypedObject, with_memory, stored-memory, after_number}
use Rattle.object_memory.specs.Memory.{IsMemory}
use Rattle.object_memory.proofs.Laws.{holds-bounds}
use Rattle.note_types.specs.declared.{cell.Cell.Cell, script.CellValue.CellValue, script.WriteValue.WriteValue}
use Rattle.host_model.specs.HostPlans.{InArgument, InObject, field_in, field_of, lent_at}
use Rattle.host_model.specs.HostSteps.{after_store}
use Rattle.native_host.specs.Stores.{is_mapped}
use Rattle.note_types.specs.declared.cell.Cell.TheVariants as cell

-- ---- a store at an address

-- where the cell isn't mapped nothing changes
pub after-absent : (w : ℕ) (notes : Notes) (P : Placement) (made : List TypedObject) (s : Concrete) (m : Memory) (a : ℕ) (c : Cell)
    (v : Value)
    → holds (ranges m) a (cell_size w c) ≡ false → after_number w notes P made (with_memory s m) a c v ≡ with_memory s m
unfolding stored
after-absent w notes P made s m a c v absent = rw absent refl

after-either : (w : ℕ) (notes : Notes) (P : Placement) (made : List TypedObject) (s : Concrete) (m n : Memory) (a x : ℕ) (c : Cell)
    (v : Value)
    (b : Bool) → holds (ranges m) a (cell_size w c) ≡ b → x ≡ written_number w notes P made v → n ≡ memory_after m a (cell_size w c) x
    → after_number w notes P made (with_memory s m) a c v ≡ with_memory s n
after-either w notes P made s m n a x c v true held number is =
    ap (λ y. option_map_or (λ t. t) (stored (with_memory s m) a (cell_size w c) y) (with_memory s m)) (sym number)
    ∙ ap (λ o. option_map_or (λ t. t) o (with_memory s m)) (stored-memory s m n a (cell_size w c) x held is)
after-either w notes P made s m n a x c v false absent number is =
    after-absent w notes P made s m a c v absent ∙ ap (with_memory s) (sym (is ∙ memory_after-absent m a (cell_size w c) x absent))

pub after-number : (w : ℕ) (notes : Notes) (P : Placement) (made : List TypedObject) (s : Concrete) (m n : Memory) (a k x : ℕ)
    (c : Cell) (v : Value)
    → k ≡ cell_size w c → x ≡ written_number w notes P made v → n ≡ memory_after m a k x
    → after_number w notes P made (with_memory s m) a c v ≡ with_memory s n
after-number w notes P made s m n a k x c v size number is =
    after-either w notes P made s m n a x c v (holds (ranges m) a (cell_size w c)) refl number
    (is ∙ ap (λ j. memory_after m a j x) size)

-- ---- addresses that no object has

width-some : (w : ℕ) → IsWidth w → 1 ≤ w
width-some w width = by_width (λ v. 1 ≤ v) w width (omega arith) (omega arith)

pub cell-some : (w : ℕ) (c : Cell) → IsWidth w → 1 ≤ cell_size w c
cell-some w cell.I8 width = omega arith
cell-some w cell.I16 width = omega arith
cell-some w cell.I32 width = omega arith
cell-some w cell.I64 width = omega arith
cell-some w cell.N width = width-some w width
cell-some w cell.Stat width = width-some w width
cell-some w cell.Handle width = width-some w width
cell-some w cell.Entry width = width-some w width
cell-some w (cell.Ptr s k null) width = width-some w width
cell-some w (cell.P64 s k null) width = omega arith
cell-some w (cell.Method m) width = width-some w width

-- past 2 ^ 64, and at 0, nothing is mapped
pub absent-past : (w : ℕ) (m : Memory) (a k : ℕ) → IsWidth w → IsMemory w m → 1 ≤ k → 2 ^ 64 ≤ a → holds (ranges m) a k ≡ false
absent-past w m a k width memory some past = either (holds (ranges m) a k) refl
  where
    either : (b : Bool) → holds (ranges m) a k ≡ b → b ≡ false
    either false none = refl
    either true held =
        let bounds = holds-bounds w m a k memory held in
        let to : a + k ≤ next_base w m = bounds.1 in
        let kept = memory.bytes_kept in
        let wraps = memory.no_wrap in
        let most : 2 ^ (8 * w) ≤ 2 ^ 64 = by_width (λ v. 2 ^ (8 * v) ≤ 2 ^ 64) w width (omega arith) (omega arith) in
        absurd (omega (arith, to, kept, wraps, most, some, past))

pub absent-zero : (w : ℕ) (m : Memory) (k : ℕ) → IsWidth w → IsMemory w m → holds (ranges m) 0 k ≡ false
absent-zero w m k width memory = either (holds (ranges m) 0 k) refl
  where
    either : (b : Bool) → holds (ranges m) 0 k ≡ b → b ≡ false
    either false none = refl
    either true held =
        let bounds = holds-bounds w m 0 k memory held in
        let from : first_base w ≤ 0 = bounds.0 in
        let above : 1 ≤ first_base w = by_width (λ v. 1 ≤ first_base v) w width (omega arith) (omega arith) in
        absurd (omega (arith, from, above))

-- ---- stores one after the other

pub stores-none : (w : ℕ) (notes : Notes) (P : Placement) (made : List TypedObject) (slots : List ℕ) (s : Concrete)
    → after_stores w notes P made slots [] s ≡ s
unfolding after_stores
stores-none w notes P made slots s = refl

pub stores-append : (w : ℕ) (notes : Notes) (P : Placement) (made : List TypedObject) (slots : List ℕ) (us vs : List Store) (s : Concrete)
    → after_stores w notes P made slots (us ++ vs) s ≡ after_stores w notes P made slots vs (after_stores w notes P made slots us s)
unfolding after_stores
stores-append w notes P made slots [] vs s = refl
stores-append w notes P made slots (u ∷ us) vs s = stores-append w notes P made slots us vs (after_store w notes P made slots s u)

-- the stores of the items of a list from number k on, of which the first are done
pub stores-next : {A : Type 0} (w : ℕ) (notes : Notes) (P : Placement) (made : List TypedObject) (slots : List ℕ) (f : A → List Store)
    (xs : List A) (k : ℕ) (d : A) (s t : Concrete) → k < length xs → after_stores w notes P made slots (f (get_or xs k d)) s ≡ t
    → after_stores w notes P made slots (flat_map f (drop k xs)) s ≡ after_stores w notes P made slots (flat_map f (drop (k + 1) xs)) t
stores-next w notes P made slots f xs k d s t less one =
    ap (λ ys. after_stores w notes P made slots (flat_map f ys) s) (drop_more xs k d less)
    ∙ (stores-append w notes P made slots (f (get_or xs k d)) (flat_map f (drop (k + 1) xs)) s
    ∙ ap (after_stores w notes P made slots (flat_map f (drop (k + 1) xs))) one)

pub stores-end : {A : Type 0} (w : ℕ) (notes : Notes) (P : Placement) (made : List TypedObject) (slots : List ℕ) (f : A → List Store)
    (xs : List A) (k : ℕ) (s : Concrete) → length xs ≤ k → after_stores w notes P made slots (flat_map f (drop k xs)) s ≡ s
unfolding after_stores
stores-end w notes P made slots f xs k s last = ap (λ ys. after_stores w notes P made slots (flat_map f ys) s) (drop_all k xs last)

-- ---- a store in a field

pub write-none : (w : ℕ) (notes : Notes) (P : Placement) (made : List TypedObject) (slots : List ℕ) (v : WriteValue) (s : Concrete)
    → None ≡ field_at notes made v.object v.instance v.field → after_stores w notes P made slots (write_store notes made v) s ≡ s
unfolding after_stores
write-none w notes P made slots v s none =
    ap (λ o. after_stores w notes P made slots
    (option_map_or (λ (x : Field). record { target = InObject v.object v.instance v.field; cell = x.cell; value = v.value } ∷ []) o []) s)
    (sym none)

pub write-some : (w : ℕ) (notes : Notes) (P : Placement) (made : List TypedObject) (slots : List ℕ) (v : WriteValue) (s : Concrete)
    (x : Field)
    → Some x ≡ field_at notes made v.object v.instance v.field
    → after_stores w notes P made slots (write_store notes made v) s
    ≡ after_number w notes P made s (cell_address w notes P made v.object v.instance x) x.cell v.value
unfolding after_stores
write-some w notes P made slots v s x some =
    ap (λ o. after_stores w notes P made slots
    (option_map_or (λ (x : Field). record { target = InObject v.object v.instance v.field; cell = x.cell; value = v.value } ∷ []) o []) s)
    (sym some)
    ∙ ap (λ o. after_number w notes P made s (option_map_or (cell_address w notes P made v.object v.instance) o 0) x.cell v.value)
    (sym some)

-- a cell of an object that is there is mapped or not
pub mapped-some : (w : ℕ) (notes : Notes) (P : Placement) (made : List TypedObject) (objects : List Range) (v : WriteValue) (x : Field)
    → Some x ≡ field_at notes made v.object v.instance v.field
    → is_mapped w notes P made objects v ≡ holds objects (cell_address w notes P made v.object v.instance x) (cell_size w x.cell)
mapped-some w notes P made objects v x some =
    ap (λ o. option_map_or (λ (x : Field). holds objects (cell_address w notes P made v.object v.instance x) (cell_size w x.cell)) o false)
    (sym some)

-- ---- a store in the cell of an argument

pub out-none : (w : ℕ) (notes : Notes) (P : Placement) (made : List TypedObject) (slots : List ℕ) (params : List WantParam) (o : OutValue)
    (s : Concrete) → None ≡ lent_at params o.argument → after_stores w notes P made slots (out_store params o) s ≡ s
unfolding after_stores
out-none w notes P made slots params o s none =
    ap (λ q. after_stores w notes P made slots
    (option_map_or (λ c. record { target = InArgument o.argument; cell = c; value = o.value } ∷ []) q []) s) (sym none)

pub out-some : (w : ℕ) (notes : Notes) (P : Placement) (made : List TypedObject) (slots : List ℕ) (params : List WantParam) (o : OutValue)
    (s : Concrete) (c : Cell) → Some c ≡ lent_at params o.argument
    → after_stores w notes P made slots (out_store params o) s ≡ after_number w notes P made s (slice_index slots o.argument) c o.value
unfolding after_stores
out-some w notes P made slots params o s c some =
    ap (λ q. after_stores w notes P made slots
    (option_map_or (λ c. record { target = InArgument o.argument; cell = c; value = o.value } ∷ []) q []) s) (sym some)

-- ---- what a cell of an object of a script holds at first

-- it is stored as a reply's value in that cell is
module _ (w : ℕ) (notes : Notes) (P : Placement) (made : List TypedObject) (slots : List ℕ) (k : ℕ) (o : ScriptObject) (c : CellValue) where
  abbrev as_write : WriteValue
  as_write = record { object = k; instance = c.instance; field = c.field; value = c.value }

  abbrev one : Field → List Store
  one x = record { target = InObject k c.instance c.field; cell = x.cell; value = c.value } ∷ []

  abbrev found : Option Field
  found = field_at notes made k c.instance c.field

  field-there : slice_get made k ≡ Some (script_object o) → found ≡ field_in notes c.instance c.field (script_object o)
  unfolding field_at
  field-there there = ap (option_and_then (field_in notes c.instance c.field)) there

  -- a cell of no instance: the store goes to address 0
  no-instance : (s : Concrete) (m : Memory) → IsWidth w → IsMemory w m → found ≡ None → (f : Option Field)
      → after_stores w notes P made slots (option_map_or one f []) (with_memory s m) ≡ with_memory s m
  unfolding after_stores
  no-instance s m width memory none None = refl
  no-instance s m width memory none (Some x) =
      ap (λ q. after_number w notes P made (with_memory s m) (option_map_or (cell_address w notes P made k c.instance) q 0) x.cell
      c.value) none
      ∙ after-absent w notes P made s m 0 x.cell c.value (absent-zero w m (cell_size w x.cell) width memory)

  by-instance : (s : Concrete) (m : Memory) (b : Bool) → IsWidth w → IsMemory w m → slice_get made k ≡ Some (script_object o)
      → nat_lt c.instance o.count ≡ b
      → after_stores w notes P made slots (option_map_or one (field_of notes o.shape c.field) []) (with_memory s m)
      ≡ after_stores w notes P made slots (option_map_or one found []) (with_memory s m)
  by-instance s m true width memory there inside =
      let same : found ≡ field_of notes o.shape c.field =
      field-there there ∙ ap (λ (b : Bool). if b then field_of notes o.shape c.field else None) inside in
      ap (λ f. after_stores w notes P made slots (option_map_or one f []) (with_memory s m)) (sym same)
  by-instance s m false width memory there outside =
      let none : found ≡ None =
      field-there there ∙ ap (λ (b : Bool). if b then field_of notes o.shape c.field else None) outside in
      no-instance s m width memory none (field_of notes o.shape c.field)
      ∙ sym (ap (λ f. after_stores w notes P made slots (option_map_or one f []) (with_memory s m)) none
      ∙ no-instance s m width memory none None)

  pub cell-is-write : (s : Concrete) (m : Memory) → IsWidth w → IsMemory w m → slice_get made k ≡ Some (script_object o)
      → after_stores w notes P made slots (cell_store notes k o c) (with_memory s m)
      ≡ after_stores w notes P made slots (write_store notes made as_write) (with_memory s m)
  cell-is-write s m width memory there = by-instance s m (nat_lt c.instance o.count) width memory there refl

-- ---- objects one after the other

pub filling-next : (notes : Notes) (first k : ℕ) (os : List ScriptObject) (d : ScriptObject) → k < length os
    → filling notes (first + k) (drop k os)
    ≡ object_stores notes (first + k, get_or os k d) ++ filling notes (first + (k + 1)) (drop (k + 1) os)
unfolding filling
filling-next notes first k os d less =
    ap (λ qs. filling notes (first + k) qs) (drop_more os k d less)
    ∙ ap (λ n. object_stores notes (first + k, get_or os k d) ++ filling notes n (drop (k + 1) os))
    (let e : first + k + 1 ≡ first + (k + 1) = omega arith in e)

pub filling-end : (notes : Notes) (first k : ℕ) (os : List ScriptObject) → length os ≤ k → filling notes (first + k) (drop k os) ≡ []
unfolding filling
filling-end notes first k os past = ap (λ qs. filling notes (first + k) qs) (drop_all k os past)
