-- The driver's image: it is as the reader of images gives one, holds bytes, and keeps the rules on shapes, functions, static
-- objects and thunk cells with the driver's notes.
use Rattle.twin_run.proofs.Common.{◌≡◌, ◌⊎◌, ℕ, zero, suc, ◌+◌, ◌-◌, ◌^◌, ◌<◌, ◌≤◌, true, List, [], ◌∷◌, length, get_or, Some, refl, sym}
use Rattle.twin_run.proofs.Common.{◌∙◌, subst, arith, inl, inr, nat_le, nat_lt, slice_get, AllByRecursion, list_all, and_parts, leb-true}
use Rattle.twin_run.proofs.Common.{ltb-true, little_endian, same_Some, none-some, FnNote, Notes, Field, Shape, IsImage, AreBytes, laid}
use Rattle.twin_run.proofs.Common.{driver_image, all_pairs, each_item}
use Rattle.std.proofs.Common.{subst₂}
use Rattle.note_types.specs.Shapes.{AreApart as FieldsApart, FitsAt, IsShape, end_at, size_at, start_at}
use Rattle.note_types.specs.declared.notes.Thunk.{Thunk}
use Rattle.pe_image.specs.{Images.EndsBefore, Images.IsSection, Mapped.image_byte}
use Rattle.pe_image.specs.declared.image.Section.{Section}
use Rattle.rules_image.specs.Images.{AreApart, FunctionHolds, ShapeHolds, IsEven, IsFunction, IsThunk, ThunkHolds}
use Rattle.twin_run.proofs.DriverNotes.{driver_named, main, tick}
use Rattle.pe_image.proofs.Held.{IsBytes, laid_byte}
use Rattle.step_sound.proofs.Items.{all_items, passing}

abbrev notes : Notes
notes = driver_named.notes

-- ---- the image

section_is : (s : Section) → nat_le (length s.bytes) s.size ≡ true → nat_le (s.place + s.size) driver_image.size ≡ true
    → IsSection driver_image.size s
section_is s few inside = record {
  bytes = leb-true (length s.bytes) s.size few;
  within = leb-true (s.place + s.size) driver_image.size inside;
}

pub driver_image_meets : IsImage driver_image
driver_image_meets = record {
  size = leb-true driver_image.size (2 ^ 22) refl;
  sections = all_items (IsSection driver_image.size) driver_image.sections (section_is _ refl refl, (section_is _ refl refl, tt));
  ascend = all_pairs EndsBefore driver_image.sections ((leb-true _ 0x2000 refl, tt), (tt, tt));
  relocated = λ k d l. absurd (omega (arith, l));
  apart = λ i j d l m. absurd (omega (arith, m));
  even = refl;
  entry = ltb-true driver_image.entry driver_image.size refl;
}

-- ---- its bytes

pub byte_at : (xs : List ℕ) → list_all (λ b. nat_lt b 256) xs ≡ true → IsBytes xs
byte_at [] e k = omega arith
byte_at (x ∷ xs) e zero = ltb-true x 256 (and_parts (nat_lt x 256) (list_all (λ b. nat_lt b 256) xs) e).0
byte_at (x ∷ xs) e (suc k) = byte_at xs (and_parts (nat_lt x 256) (list_all (λ b. nat_lt b 256) xs) e).1 k

pub driver_bytes : AreBytes driver_image
driver_bytes = laid_byte driver_image.sections (all_items (λ (s : Section). IsBytes s.bytes) driver_image.sections
    (passing (λ (s : Section). list_all (λ b. nat_lt b 256) s.bytes) (λ (s : Section). IsBytes s.bytes)
    (λ s e. byte_at s.bytes e) driver_image.sections refl))

-- ---- shapes

one_field : (w : ℕ) (s : Shape) (x : Field) → s.fields ≡ x ∷ [] → nat_lt 0 (size_at w s) ≡ true → nat_le (end_at w x) (size_at w s) ≡ true
    → FitsAt w s
one_field w s x one some inside = record {
  positive = ltb-true 0 (size_at w s) some;
  inside = λ f y g. each_item (λ (z : Field). end_at w z ≤ size_at w s) (x ∷ []) (leb-true (end_at w x) (size_at w s) inside, tt) f y
      (subst (λ xs. slice_get xs f ≡ Some y) one g);
  apart = λ f g y z h k. inl (let a = subst (λ xs. slice_get xs f ≡ Some y) one h in let b = subst (λ xs. slice_get xs g ≡ Some z) one k in
      sym (only f y a) ∙ only g z b);
}
  where
    only : (f : ℕ) (y : Field) → slice_get (x ∷ []) f ≡ Some y → 0 ≡ f
    only zero y g = refl
    only (suc f) y g = absurd (none-some y g)

two_fields : (w : ℕ) (s : Shape) (x y : Field) → s.fields ≡ x ∷ y ∷ [] → nat_lt 0 (size_at w s) ≡ true
    → nat_le (end_at w x) (start_at w y) ≡ true → nat_le (end_at w x) (size_at w s) ≡ true → nat_le (end_at w y) (size_at w s) ≡ true
    → FitsAt w s
two_fields w s x y two some off first second = record {
  positive = ltb-true 0 (size_at w s) some;
  inside = λ f z g. each_item (λ (z : Field). end_at w z ≤ size_at w s) (x ∷ y ∷ [])
      (leb-true (end_at w x) (size_at w s) first, (leb-true (end_at w y) (size_at w s) second, tt)) f z
      (subst (λ xs. slice_get xs f ≡ Some z) two g);
  apart = λ f g u v h k. by f g u v (subst (λ xs. slice_get xs f ≡ Some u) two h) (subst (λ xs. slice_get xs g ≡ Some v) two k);
}
  where
    by : (f g : ℕ) (u v : Field) → slice_get (x ∷ y ∷ []) f ≡ Some u → slice_get (x ∷ y ∷ []) g ≡ Some v → (f ≡ g) ⊎ FieldsApart w u v
    by zero zero u v h k = inl refl
    by zero (suc zero) u v h k = inr (inl (subst₂ (λ a b. end_at w a ≤ start_at w b) (same_Some x u h) (same_Some y v k)
        (leb-true (end_at w x) (start_at w y) off)))
    by zero (suc (suc g)) u v h k = absurd (none-some v k)
    by (suc zero) zero u v h k = inr (inr (subst₂ (λ a b. end_at w a ≤ start_at w b) (same_Some x v k) (same_Some y u h)
        (leb-true (end_at w x) (start_at w y) off)))
    by (suc zero) (suc zero) u v h k = inl refl
    by (suc zero) (suc (suc g)) u v h k = absurd (none-some v k)
    by (suc (suc f)) g u v h k = absurd (none-some u h)

shapes : AllByRecursion IsShape notes.shape
shapes = (
  record { at4 = two_fields 4 _ _ _ refl refl refl refl refl; at8 = two_fields 8 _ _ _ refl refl refl refl refl },
  (
    record { at4 = two_fields 4 _ _ _ refl refl refl refl refl; at8 = two_fields 8 _ _ _ refl refl refl refl refl },
    (
      record { at4 = one_field 4 _ _ refl refl refl; at8 = one_field 8 _ _ refl refl refl },
      tt,
    ),
  ),
)

pub driver_shapes : (k : ℕ) → ShapeHolds notes k
driver_shapes = each_item IsShape notes.shape shapes

-- ---- functions

abbrev code_section : Section
code_section = get_or driver_image.sections 0 (record { name = []; place = 0; size = 0; flags = 0; bytes = [] })

function_is : (k : ℕ) (f : FnNote) → nat_lt f.place f.end ≡ true → IsEven f.place → IsEven f.end → nat_le code_section.place f.place ≡ true
    → nat_le f.end (code_section.place + length code_section.bytes) ≡ true
    → ((j : ℕ) (g : FnNote) → j + 1 ≡ k → slice_get notes.function j ≡ Some g → g.end ≤ f.place)
    → (k ≡ notes.entry → driver_image.entry ≡ f.place) → IsFunction driver_image notes k f
function_is k f range place stop from to past entry = record {
  range = ltb-true f.place f.end range;
  even = (place, stop);
  inside = (
    code_section,
    (0, ltb-true 0 2 refl, refl),
    (
      leb-true code_section.place f.place from,
      leb-true f.end (code_section.place + length code_section.bytes) to,
    ),
  );
  past = past;
  entry = entry;
}

main_past : (j : ℕ) (g : FnNote) → j + 1 ≡ 0 → slice_get notes.function j ≡ Some g → g.end ≤ main.place
main_past j g e h = absurd (omega (arith, e))

tick_past : (j : ℕ) (g : FnNote) → j + 1 ≡ 1 → slice_get notes.function j ≡ Some g → g.end ≤ tick.place
tick_past zero g e h = subst (λ (f : FnNote). f.end ≤ tick.place) (same_Some main g h) (leb-true main.end tick.place refl)
tick_past (suc j) g e h = absurd (omega (arith, e))

pub driver_functions : (k : ℕ) → FunctionHolds driver_image notes k
driver_functions zero f g = subst (IsFunction driver_image notes 0) (same_Some main f g)
    (function_is 0 main refl refl refl refl refl main_past (λ e. refl))
driver_functions (suc zero) f g = subst (IsFunction driver_image notes 1) (same_Some tick f g)
    (function_is 1 tick refl refl refl refl refl tick_past (λ e. absurd (omega (arith, e))))
driver_functions (suc (suc k)) f g = absurd (none-some f g)

-- ---- the thunk cell

abbrev cell : Thunk
cell = record { place = 0x2000; function = 1 }

off_code : (k : ℕ) (f : FnNote) → slice_get notes.function k ≡ Some f → AreApart 0x2000 8 f.place (f.end - f.place)
off_code = each_item (λ (f : FnNote). AreApart 0x2000 8 f.place (f.end - f.place)) notes.function (
  inr (leb-true (main.place + (main.end - main.place)) 0x2000 refl),
  (inr (leb-true (tick.place + (tick.end - tick.place)) 0x2000 refl), tt),
)

zero_byte : (d : ℕ) → d < 4 → image_byte driver_image (0x2004 + d) ≡ 0
unfolding laid
zero_byte zero l = refl
zero_byte (suc zero) l = refl
zero_byte (suc (suc zero)) l = refl
zero_byte (suc (suc (suc zero))) l = refl
zero_byte (suc (suc (suc (suc d)))) l = absurd (omega (arith, l))

none_later : (j : ℕ) (y : Thunk) → 0 < j → slice_get notes.thunk j ≡ Some y → ⊥
none_later zero y l g = omega (arith, l)
none_later (suc j) y l g = none-some y g

thunk_is : IsThunk driver_image notes 0 cell
unfolding laid little_endian
thunk_is = record {
  free = record { inside = leb-true (0x2000 + 8) driver_image.size refl; functions = off_code };
  apart = λ j y l g. absurd (none_later j y l g);
  unrelocated = λ r c. absurd (let l = c.1 in omega (arith, l));
  f = tick;
  there = refl;
  enter = refl;
  offset = refl;
  rest = λ p l m. let e : 0x2004 + (p - 0x2004) ≡ p = omega (arith, l) in
      subst (λ z. image_byte driver_image z ≡ 0) e (zero_byte (p - 0x2004) (omega (arith, l, m)));
}

pub driver_thunks : (k : ℕ) → ThunkHolds driver_image notes k
driver_thunks zero t g = subst (IsThunk driver_image notes 0) (same_Some cell t g) thunk_is
driver_thunks (suc k) t g = absurd (none-some t g)
