-- What is taken out of an option ROM lies inside its file.
use Rattle.option_rom.proofs.Common.{◌≡◌, ℕ, ◌<◌, ◌≤◌, Bool, true, false, List, length, get_or, refl, sym, ap, ◌∙◌, subst, arith, Option}
use Rattle.option_rom.proofs.Common.{Some, None, Result, Ok, IfSome, nat_eq, slice_get, option_map_or, eqb-true, ◌>>=◌, passes, RomImage}
use Rattle.option_rom.proofs.Common.{code_type, structure, IsRomImage, efi_at, image_at, size_of, range_of, taken}
use Rattle.std.proofs.{Common.if◌then◌else◌, lemmas.Option.get_or_from_slice_get, lemmas.Option.slice_get_within}
use Rattle.ebc_base.specs.Steps.{or_else}
use Rattle.option_rom.specs.declared.{fault.TakeFault.TakeFault, image.EfiPart.EfiPart}
use Rattle.option_rom.specs.{Images.end_of, Laws.TakenIsInside, Takes.begin_of, Takes.is_ebc, Takes.is_plain}
use Rattle.option_rom.specs.declared.fault.TakeFault.TheVariants as faults

-- the EFI image of an image begins in it or at its end
pub starts_within : (file : List ℕ) (r : RomImage) → IsRomImage file r → IfSome r.efi (λ e. e.start ≤ size_of r)
unfolding image_at efi_at
starts_within file r is =
    subst (λ o. IfSome o (λ (e : EfiPart). e.start ≤ size_of r)) (sym (ap (λ (s : RomImage). s.efi) is.record_is))
    (by_type (nat_eq (code_type file (structure file r.offset)) 3) refl)
  where
    by_type :
        (b : Bool) → nat_eq (code_type file (structure file r.offset)) 3 ≡ b →
        IfSome (if b then Some (efi_at file r.offset) else None) (λ (e : EfiPart). e.start ≤ size_of r)
    by_type false e = tt
    by_type true e = is.starts (ap (λ (s : RomImage). s.code_type) is.record_is ∙ eqb-true (code_type file (structure file r.offset)) 3 e)

start_at_most : (o : Option EfiPart) (m : ℕ) → IfSome o (λ e. e.start ≤ m) → option_map_or (λ (e : EfiPart). e.start) o 0 ≤ m
start_at_most None m h = omega arith
start_at_most (Some e) m h = h

range-inside :
    (file : List ℕ) (r : RomImage) (begin end : ℕ) → IsRomImage file r → range_of r ≡ Ok (begin, end) →
    (begin ≤ end) × (end ≤ length file)
unfolding range_of
range-inside file r begin end is h = by_tests (is_ebc r) (is_plain r) h
  where
    starts : option_map_or (λ (e : EfiPart). e.start) r.efi 0 ≤ size_of r
    starts = start_at_most r.efi (size_of r) (starts_within file r is)

    passed : Result (ℕ × ℕ) TakeFault
    passed = Ok (begin_of r, end_of r)

    by_tests :
        (a b : Bool) → (passes a faults.NotEbc >>= (λ _. passes b faults.Compressed >>= (λ _. passed))) ≡ Ok (begin, end) →
        (begin ≤ end) × (end ≤ length file)
    by_tests true true e =
        let same : ◌≡◌ {A = ℕ × ℕ} (begin_of r, end_of r) (begin, end) = cc in
        let first : begin_of r ≡ begin = ap (λ (p : ℕ × ℕ). p.0) same in
        let last : end_of r ≡ end = ap (λ (p : ℕ × ℕ). p.1) same in
        (omega (arith, starts), omega (arith, is.within))
    by_tests true false e = absurd cc
    by_tests false b e = absurd cc

pub taken_inside : TakenIsInside
unfolding taken
taken_inside file images number begin end is h = by_image (slice_get images number) refl h
  where
    by_image :
        (o : Option RomImage) → slice_get images number ≡ o → (or_else faults.Number o >>= range_of) ≡ Ok (begin, end) →
        (begin ≤ end) × (end ≤ length file)
    by_image None there e = absurd cc
    by_image (Some r) there e =
        let within : number < length images = slice_get_within images number r there in
        let same : get_or images number r ≡ r = get_or_from_slice_get images number r r there in
        range-inside file r begin end (subst (IsRomImage file) same (is.follow.each number r within)) e
