-- The images of the pair of the rows: they are as the reader of images gives them, hold bytes, and keep the rules on shapes and functions
-- with the notes.
use Rattle.pair_laws.proofs.Common.{◌≡◌, ℕ, zero, suc, ◌+◌, ◌≤◌, true, [], ◌∷◌, length, get_or, slice_get, Some, refl, sym, ◌∙◌, subst}
use Rattle.pair_laws.proofs.Common.{arith, inl, nat_le, nat_lt, ◌^◌, list_all, leb-true, ltb-true, none-some, same_Some, IsShape, FnNote}
use Rattle.pair_laws.proofs.Common.{Notes, Field, Image, each_item, passing}
use Rattle.note_types.specs.Shapes.{FitsAt, end_at, size_at}
use Rattle.pe_image.proofs.Held.{IsBytes, laid_byte}
use Rattle.pe_image.specs.{Images.EndsBefore, Images.IsImage, Images.IsSection, Mapped.AreBytes}
use Rattle.pe_image.specs.declared.image.Section.{Section}
use Rattle.rules_image.specs.Images.{FunctionHolds, ShapeHolds, IsEven, IsFunction}
use Rattle.step_sound.proofs.Items.{all_items, all_pairs}
use Rattle.pair_laws.proofs.Doubling.{a_main, a_notes, b_main, b_notes, double, double_field, doubling_images, system}
use Rattle.twin_run.proofs.DriverImage.{byte_at}

abbrev a_image : Image
a_image = doubling_images.a

abbrev b_image : Image
b_image = doubling_images.b

-- ---- the images

section_is : (image : Image) (s : Section) → nat_le (length s.bytes) s.size ≡ true → nat_le (s.place + s.size) image.size ≡ true
    → IsSection image.size s
section_is image s few inside = record {
  bytes = leb-true (length s.bytes) s.size few;
  within = leb-true (s.place + s.size) image.size inside;
}

pub a_image_meets : IsImage a_image
a_image_meets = record {
  size = leb-true a_image.size (2 ^ 22) refl;
  sections = all_items (IsSection a_image.size) a_image.sections (section_is a_image _ refl refl, (section_is a_image _ refl refl, tt));
  ascend = all_pairs EndsBefore a_image.sections ((leb-true _ 0x2000 refl, tt), (tt, tt));
  relocated = λ k d l. absurd (omega (arith, l));
  apart = λ i j d l m. absurd (omega (arith, m));
  even = refl;
  entry = ltb-true a_image.entry a_image.size refl;
}

pub b_image_meets : IsImage b_image
b_image_meets = record {
  size = leb-true b_image.size (2 ^ 22) refl;
  sections = all_items (IsSection b_image.size) b_image.sections (section_is b_image _ refl refl, (section_is b_image _ refl refl, tt));
  ascend = all_pairs EndsBefore b_image.sections ((leb-true _ 0x2000 refl, tt), (tt, tt));
  relocated = λ k d l. absurd (omega (arith, l));
  apart = λ i j d l m. absurd (omega (arith, m));
  even = refl;
  entry = ltb-true b_image.entry b_image.size refl;
}

-- ---- their bytes

holds_bytes : (image : Image) → list_all (λ (s : Section). list_all (λ b. nat_lt b 256) s.bytes) image.sections ≡ true → AreBytes image
holds_bytes image e = laid_byte image.sections (all_items (λ (s : Section). IsBytes s.bytes) image.sections
    (passing (λ (s : Section). list_all (λ b. nat_lt b 256) s.bytes) (λ (s : Section). IsBytes s.bytes)
    (λ s e. byte_at s.bytes e) image.sections e))

pub a_bytes : AreBytes a_image
a_bytes = holds_bytes a_image refl

pub b_bytes : AreBytes b_image
b_bytes = holds_bytes b_image refl

-- ---- the shape

one_field : (w : ℕ) → nat_lt 0 (size_at w system) ≡ true → nat_le (end_at w double_field) (size_at w system) ≡ true → FitsAt w system
one_field w some inside = record {
  positive = ltb-true 0 (size_at w system) some;
  inside = each_item (λ (z : Field). end_at w z ≤ size_at w system) system.fields
      (leb-true (end_at w double_field) (size_at w system) inside, tt);
  apart = λ f g y z h k. inl (sym (only f y h) ∙ only g z k);
}
  where
    only : (f : ℕ) (y : Field) → slice_get (double_field ∷ []) f ≡ Some y → 0 ≡ f
    only zero y g = refl
    only (suc f) y g = absurd (none-some y g)

pub system_formed : IsShape system
system_formed = record { at4 = one_field 4 refl refl; at8 = one_field 8 refl refl }

pub a_shapes : (k : ℕ) → ShapeHolds a_notes k
a_shapes = each_item IsShape a_notes.shape (system_formed, tt)

pub b_shapes : (k : ℕ) → ShapeHolds b_notes k
b_shapes k s g = absurd (none-some s g)

-- ---- functions

abbrev code_section : Image → Section
code_section image = get_or image.sections 0 (record { name = []; place = 0; size = 0; flags = 0; bytes = [] })

function_is : (image : Image) (notes : Notes) (k : ℕ) (f : FnNote) → get_or image.sections 0 (code_section image) ≡ code_section image
    → nat_lt 0 (length image.sections) ≡ true → nat_lt f.place f.end ≡ true → IsEven f.place → IsEven f.end
    → nat_le (code_section image).place f.place ≡ true
    → nat_le f.end ((code_section image).place + length (code_section image).bytes) ≡ true
    → ((j : ℕ) (g : FnNote) → j + 1 ≡ k → slice_get notes.function j ≡ Some g → g.end ≤ f.place)
    → (k ≡ notes.entry → image.entry ≡ f.place) → IsFunction image notes k f
function_is image notes k f there some range place stop from to past entry = record {
  range = ltb-true f.place f.end range;
  even = (place, stop);
  inside = (
    code_section image,
    (0, ltb-true 0 (length image.sections) some, there),
    (
      leb-true (code_section image).place f.place from,
      leb-true f.end ((code_section image).place + length (code_section image).bytes) to,
    ),
  );
  past = past;
  entry = entry;
}

pub a_functions : (k : ℕ) → FunctionHolds a_image a_notes k
a_functions zero f g = subst (IsFunction a_image a_notes 0) (same_Some a_main f g)
    (function_is a_image a_notes 0 a_main refl refl refl refl refl refl refl (λ j g e h. absurd (omega (arith, e))) (λ e. refl))
a_functions (suc k) f g = absurd (none-some f g)

double_past : (j : ℕ) (g : FnNote) → j + 1 ≡ 1 → slice_get b_notes.function j ≡ Some g → g.end ≤ double.place
double_past zero g e h = subst (λ (f : FnNote). f.end ≤ double.place) (same_Some b_main g h) (leb-true b_main.end double.place refl)
double_past (suc j) g e h = absurd (omega (arith, e))

pub b_functions : (k : ℕ) → FunctionHolds b_image b_notes k
b_functions zero f g = subst (IsFunction b_image b_notes 0) (same_Some b_main f g)
    (function_is b_image b_notes 0 b_main refl refl refl refl refl refl refl (λ j g e h. absurd (omega (arith, e))) (λ e. refl))
b_functions (suc zero) f g = subst (IsFunction b_image b_notes 1) (same_Some double f g)
    (function_is b_image b_notes 1 double refl refl refl refl refl refl refl double_past (λ e. absurd (omega (arith, e))))
b_functions (suc (suc k)) f g = absurd (none-some f g)
