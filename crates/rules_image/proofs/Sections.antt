-- The bytes of an image in one of its sections.
use Rattle.std.proofs.Common.{◌≡◌, ℕ, zero, suc, ◌+◌, ◌-◌, ◌<◌, ◌≤◌, Bool, true, false, ◌&&◌, List, [], ◌∷◌, length, drop, get_or, nat_le}
use Rattle.std.proofs.Common.{nat_lt, refl, sym, ap, subst, ◌∙◌, arith, length-drop}
use Rattle.std.specs.Prelude.{Some, slice_get, slice_range}
use Rattle.std.specs.List.{find}
use Rattle.std.specs.Option.{option_map_or}
use Rattle.std.proofs.lemmas.Bool.Decides.{nat_tests}
use Rattle.std.proofs.lemmas.List.{get_or-drop, get_or-take, length-take-le}
use Rattle.std.proofs.lemmas.Option.{get_or_from_slice_get, same_Some, slice_get_within}
use Rattle.note_types.specs.declared.notes.FnNote.{FnNote}
use Rattle.pe_image.specs.Images.{IsImage}
use Rattle.pe_image.specs.Mapped.{has_place, laid, section_byte, image_byte}
use Rattle.pe_image.specs.declared.image.Image.{Image}
use Rattle.pe_image.specs.declared.image.Section.{Section}
use Rattle.rules_image.specs.Images.{IsInside}
use Rattle.rules_image.specs.Tables.{IsCodeOf}

find_at : (p : Section → Bool) (xs : List Section) (k : ℕ) (s : Section) → slice_get xs k ≡ Some s → p s ≡ true
    → ((j : ℕ) (y : Section) → j < k → slice_get xs j ≡ Some y → p y ≡ false) → find p xs ≡ Some s
find_at p [] k s there passes before = absurd cc
find_at p (x ∷ xs) zero s there passes before =
    let same : x ≡ s = same_Some x s there in
    let here : p x ≡ true = ap p same ∙ passes in
    rw here there
find_at p (x ∷ xs) (suc k) s there passes before =
    let other : p x ≡ false = before 0 x (omega arith) refl in
    rw other (find_at p xs k s there passes (λ j y less found. before (suc j) y (omega arith) found))

and_false : (b : Bool) → (b && false) ≡ false
and_false true = refl
and_false false = refl

not_in : (x : ℕ) (y : Section) → y.place + y.size ≤ x → has_place x y ≡ false
not_in x y past = let outside : nat_lt x (y.place + y.size) ≡ false = grind (arith, nat_tests) in rw outside (and_false (nat_le y.place x))

-- a byte of a section's bytes is the image's byte there
pub byte_of : (image : Image) → IsImage image → (k x : ℕ) (s : Section) → slice_get image.sections k ≡ Some s → s.place ≤ x
    → x < s.place + length s.bytes
    → image_byte image x ≡ get_or s.bytes (x - s.place) 0
unfolding laid
byte_of image sound k x s there low high =
    let within : k < length image.sections = slice_get_within image.sections k s there in
    let at : get_or image.sections k s ≡ s = get_or_from_slice_get image.sections k s s there in
    let fits : length s.bytes ≤ s.size = subst (λ (t : Section). length t.bytes ≤ t.size) at (sound.sections k s within).bytes in
    let is_in : has_place x s ≡ true = grind (arith, nat_tests) in
    let found : find (has_place x) image.sections ≡ Some s =
    find_at (has_place x) image.sections k s there is_in (λ j y less here.
    let first : get_or image.sections j y ≡ y = get_or_from_slice_get image.sections j y y here in
    let ends = sound.ascend j k y less within in
    let own : get_or image.sections k y ≡ s = get_or_from_slice_get image.sections k s y there in
    let before : y.place + y.size ≤ s.place = subst (λ (t : Section). y.place + y.size ≤ t.place) own
    (subst (λ (t : Section). t.place + t.size ≤ (get_or image.sections k y).place) first ends) in
    not_in x y (omega arith)) in
    ap (λ o. option_map_or (section_byte x) o 0) found

-- the code of a function lies in its section
pub code_in : (image : Image) → IsImage image → (f : FnNote) (k : ℕ) (s : Section) (code : List ℕ) → slice_get image.sections k ≡ Some s
    → IsInside s f.place f.end → f.place < f.end
    → code ≡ slice_range s.bytes (f.place - s.place) (f.end - s.place) → IsCodeOf image f code
code_in image sound f k s code there inside some is =
    let low : s.place ≤ f.place = inside.0 in
    let high : f.end ≤ s.place + length s.bytes = inside.1 in
    let a : ℕ = f.place - s.place in
    let n : ℕ = f.end - s.place - a in
    let room : n ≤ length (drop a s.bytes) = omega (arith, length-drop a s.bytes) in
    let size : length code ≡ f.end - f.place = ap length is ∙ length-take-le n (drop a s.bytes) room ∙ omega arith in
    record {
      size = size;
      bytes = λ j within.
          let inner : j < n = omega arith in
          let e : get_or code j 0 ≡ get_or s.bytes (a + j) 0 = ap (λ ys. get_or ys j 0) is ∙ get_or-take n (drop a s.bytes) j 0 inner
          ∙ get_or-drop a s.bytes j 0 in
          e ∙ ap (λ q. get_or s.bytes q 0) {x = a + j} {y = f.place + j - s.place} (omega arith)
          ∙ sym (byte_of image sound k (f.place + j) s there (omega arith) (omega arith));
    }
