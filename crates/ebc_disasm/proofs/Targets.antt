-- The bytes and numbers of an image, one section at a time.
use Rattle.std.proofs.Common.{◌≡◌, ℕ, ◌^◌, ◌<◌, true, false, Some, None, ap, sym, ◌∙◌, arith, refl}
use Rattle.std.specs.Prelude.{is_some}
use Rattle.std.specs.List.{find, list_any}
use Rattle.std.proofs.lemmas.Bool.Decides.{nat_tests}
use Rattle.pe_image.specs.declared.image.Image.{Image}
use Rattle.pe_image.specs.declared.image.Section.{Section}
use Rattle.pe_image.specs.Images.{IsImage, IsSection}
use Rattle.pe_image.specs.Mapped.{has_place, named_place}
use Rattle.ebc_disasm.specs.Listings.{in_section, named}
use Rattle.ebc_disasm.proofs.Firsts.{found, is_some-find}

inside : (size x : ℕ) (s : Section) → IsSection size s → has_place x s ≡ true → x < size
inside size x s is h = let within = is.within in grind (arith, nat_tests)

-- A place in a section is in the image, which has 4 MiB at most.
pub place_small : (image : Image) (x : ℕ) (s : Section) → IsImage image → find (has_place x) image.sections ≡ Some s → x < 2 ^ 22
place_small image x s is e =
    let f = found (IsSection image.size) (has_place x) image.sections s is.sections e in
    let below : x < image.size = inside image.size x s f.0 f.1 in
    let most = is.size in
    omega arith

-- the target of a relocation, if a section has it
pub named_some : (image : Image) (r t : ℕ) (s : Section) → t ≡ named_place image r → find (has_place t) image.sections ≡ Some s
    → named image r ≡ Some t
unfolding named in_section
named_some image r t s is e =
    let there : list_any (has_place t) image.sections ≡ true = sym (is_some-find (has_place t) image.sections) ∙ ap is_some e in
    rw (← is) (rw there refl)

pub named_none : (image : Image) (r t : ℕ) → t ≡ named_place image r → find (has_place t) image.sections ≡ None → named image r ≡ None
unfolding named in_section
named_none image r t is e =
    let there : list_any (has_place t) image.sections ≡ false = sym (is_some-find (has_place t) image.sections) ∙ ap is_some e in
    rw (← is) (rw there refl)
