-- Ranges of an image: relocations, of which the first that doesn't end before a place tells of all, and zero bytes, section by
-- section.
use Rattle.std.proofs.Common.{◌≡◌, ℕ, suc, ◌+◌, ◌-◌, ◌<◌, ◌≤◌, ◌↔◌, true, false, List, [], ◌∷◌, length, get_or, refl, sym, ap, subst, ◌∙◌}
use Rattle.std.proofs.Common.{⊎_elim, arith, rules}
use Rattle.std.specs.Prelude.{IfNone, IfSome, IsTrue, None, Option, Some, nat_eq, nat_le, slice_get}
use Rattle.std.specs.List.{Contains, find}
use Rattle.std.specs.Option.{option_map_or}
use Rattle.std.proofs.lemmas.Bool.{cases_lt, eq-eqb, eqb-true, le-leb, leb-true}
use Rattle.std.proofs.lemmas.List.{get_or_past}
use Rattle.std.proofs.lemmas.Option.{same_Some, slice_get-get_or}
use Rattle.pe_image.specs.Images.{IsImage}
use Rattle.pe_image.specs.Mapped.{has_place, laid, section_byte, image_byte}
use Rattle.pe_image.specs.declared.image.Image.{Image}
use Rattle.pe_image.specs.declared.image.Section.{Section}
use Rattle.rules_image.specs.Images.{IsUnrelocated, IsZero}
use Rattle.rules_image.proofs.Relocs.{contains_at, relocs_ascend, there_at}
use Rattle.rules_image.proofs.Sections.{byte_of}
use Rattle.rules_image.specs.Contents.{AreZeroIn, HasNoReloc, IsFirstReloc}
use Rattle.rules_image.specs.Marks.{RelocsFrom}

-- ---- answers of a test

pub holds : {P : Type 0} → P → IsTrue true ↔ P
holds p = (λ e. p, λ h. refl)

-- ---- relocations

pub same_number : (xs : List ℕ) (j k r q : ℕ) → j ≡ k → slice_get xs j ≡ Some r → slice_get xs k ≡ Some q → r ≡ q
same_number xs j k r q e there here = same_Some r q (sym there ∙ ap (slice_get xs) e ∙ here)

-- two relocations don't overlap
pub relocs_apart : (image : Image) → IsImage image → (r q : ℕ) → Contains image.relocs r → Contains image.relocs q → r < q → r + 8 ≤ q
relocs_apart image sound r q c d less =
    let there : slice_get image.relocs c.0 ≡ Some r = there_at image.relocs r c in
    let here : slice_get image.relocs d.0 ≡ Some q = there_at image.relocs q d in
    ⊎_elim (λ before. relocs_ascend image sound c.0 d.0 r q before there here)
    (λ back. ⊎_elim (λ after. absurd (let rise = relocs_ascend image sound d.0 c.0 q r after here there in omega arith))
    (λ up. absurd (let e : c.0 ≡ d.0 = omega arith in let same : r ≡ q = same_number image.relocs c.0 d.0 r q e there here in omega arith))
    (cases_lt d.0 c.0))
    (cases_lt c.0 d.0)

first_some : (image : Image) → IsImage image → (from n r : ℕ) → RelocsFrom image from n → slice_get image.relocs n ≡ Some r
    → IsFirstReloc image from r
first_some image sound from n r parted there = record {
  there = contains_at image.relocs n r there;
  late = (parted n r there).1 (omega arith);
  first = λ q c late.
      let here : slice_get image.relocs c.0 ≡ Some q = there_at image.relocs q c in
      ⊎_elim (λ before. absurd (let h = (parted c.0 q here).0 before in omega arith))
      (λ from_n. ⊎_elim (λ more. let rise = relocs_ascend image sound n c.0 r q more there here in omega arith)
      (λ back. let e : n ≡ c.0 = omega arith in let same : r ≡ q = same_number image.relocs n c.0 r q e there here in omega arith)
      (cases_lt n c.0))
      (cases_lt c.0 n);
}

first_none : (image : Image) (from n : ℕ) → RelocsFrom image from n → slice_get image.relocs n ≡ None → HasNoReloc image from
first_none image from n parted none q c =
    let here : slice_get image.relocs c.0 ≡ Some q = there_at image.relocs q c in
    ⊎_elim (λ before. (parted c.0 q here).0 before)
    (λ from_n.
    let l : c.0 < length image.relocs = c.1 in
    let within : n < length image.relocs = omega arith in
    let there : slice_get image.relocs n ≡ Some (get_or image.relocs n q) = slice_get-get_or image.relocs n q within in
    absurd (cc))
    (cases_lt c.0 n)

-- the relocation of the number at which those begin that don't end before a place, if there is one
module _ (image : Image) (sound : IsImage image) (from n : ℕ) (parted : RelocsFrom image from n) where
  pub is_first : (o : Option ℕ) → o ≡ slice_get image.relocs n → IfSome o (IsFirstReloc image from)
  is_first None e = tt
  is_first (Some r) e = first_some image sound from n r parted (sym e)

  pub is_none : (o : Option ℕ) → o ≡ slice_get image.relocs n → IfNone o (HasNoReloc image from)
  is_none None e = first_none image from n parted (sym e)
  is_none (Some r) e = tt

pub unrelocated_some : (image : Image) (from to r : ℕ) → IsFirstReloc image from r → IsTrue (nat_le to r) ↔ IsUnrelocated image from to
unrelocated_some image from to r first = (
  λ e q c t. let past = leb-true to r e in let low = first.first q c t.1 in omega (arith, t.0),
  λ free. le-leb to r (⊎_elim (λ less. absurd (free r first.there (less, first.late))) (λ past. past) (cases_lt r to)),
)

pub unrelocated_none : (image : Image) (from to : ℕ) → HasNoReloc image from → IsUnrelocated image from to
unrelocated_none image from to none q c t = let ends = none q c in omega (arith, t.1)

pub relocated_some : (image : Image) → IsImage image → (place r : ℕ) → IsFirstReloc image place r → IsTrue (nat_eq r place)
    ↔ Contains image.relocs place
relocated_some image sound place r first = (
  λ e. subst (Contains image.relocs) (eqb-true r place e) first.there,
  λ c.
      let low : r ≤ place = first.first place c (omega arith) in
      let late : place < r + 8 = first.late in
      eq-eqb r place (⊎_elim (λ less. absurd (let rise = relocs_apart image sound r place first.there c less in omega arith))
      (λ back. let same : r ≡ place = omega arith in same) (cases_lt r place)),
)

pub relocated_none : (image : Image) (place : ℕ) → HasNoReloc image place → Contains image.relocs place → ⊥
relocated_none image place none c = let ends = none place c in omega arith

-- ---- zero bytes

laid_zero : (xs : List Section) (p : ℕ) → ((k : ℕ) (s : Section) → slice_get xs k ≡ Some s → has_place p s ≡ true → section_byte p s ≡ 0)
    → option_map_or (section_byte p) (find (has_place p) xs) 0 ≡ 0
laid_zero [] p all = refl
laid_zero (s ∷ rest) p all =
    elim (has_place p s) as (λ b. has_place p s ≡ b → option_map_or (section_byte p) (find (has_place p) (s ∷ rest)) 0 ≡ 0) [
      | true ↦ λ e. rw e (all 0 s refl e)
      | false ↦ λ e. rw e (laid_zero rest p (λ k. all (suc k)))
    ] refl

-- a place of a section isn't before it, nor past its size
place_low : (p : ℕ) (s : Section) → has_place p s ≡ true → s.place ≤ p
place_low p s e = search rules

pub zero_from : (image : Image) (from to : ℕ) → AreZeroIn image.sections from to → IsZero image from to
unfolding laid
zero_from image from to all p low high =
    laid_zero image.sections p (λ k s there has.
    let first : s.place ≤ p = place_low p s has in
    ⊎_elim (λ within. all k s there (p - s.place) within (omega arith) (omega arith))
    (λ past. get_or_past s.bytes (p - s.place) 0 past)
    (cases_lt (p - s.place) (length s.bytes)))

pub zero_to : (image : Image) → IsImage image → (from to : ℕ) → IsZero image from to → AreZeroIn image.sections from to
zero_to image sound from to all k s there i within low high =
    let e : s.place + i - s.place ≡ i = omega arith in
    let byte : image_byte image (s.place + i) ≡ get_or s.bytes (s.place + i - s.place) 0 =
    byte_of image sound k (s.place + i) s there (omega arith) (omega arith) in
    sym (ap (λ j. get_or s.bytes j 0) e) ∙ sym byte ∙ all (s.place + i) low high
