-- The conditions on an image as they are said, and as they are tried.
use Rattle.option_rom.proofs.Common.{◌≡◌, ℕ, ◌+◌, ◌*◌, ◌<◌, ◌≤◌, Bool, true, false, List, length, refl, sym, ap, ◌∙◌, subst, Result, Ok}
use Rattle.option_rom.proofs.Common.{Err, nat_eq, nat_le, eqb-true, ◌>>=◌, passes, RomImage, Fault, checked, header_checked, size_at}
use Rattle.option_rom.proofs.Common.{blocks, code_type, structure, IsMarkedLast, IsRomImage, image_at, size_of, is_last}
use Rattle.std.proofs.{Common.not, Common.◌||◌, lemmas.Bool.and_parts, lemmas.Bool.eq-eqb, lemmas.Bool.le-leb, lemmas.Bool.leb-true}
use Rattle.std.proofs.lemmas.{Bool.lt-ltb, Bool.ltb-true, Bool.true≢false, Slice.Eq.bytes_eq-Decides}
use Rattle.std.specs.Prelude.{bit_and, bytes_eq, codes, nat_lt}
use Rattle.pe_image.specs.Fields.{bytes_at}
use Rattle.option_rom.specs.Conditions.{has_blocks, has_header, has_structure, is_marked, is_other_or_signed, is_pcir, is_signed}
use Rattle.option_rom.specs.{Conditions.length_checked, Fields.efi_signature, Fields.indicator, Fields.mark, Fields.start}
use Rattle.option_rom.specs.declared.fault.RomFault.TheVariants as faults

-- ---- steps of which each passed

both_passed :
    {A : Type 0} (r : Result (Unit {0}) Fault) (rest : Result A Fault) (x : A) → (r >>= (λ _. rest)) ≡ Ok x →
    (r ≡ Ok tt) × (rest ≡ Ok x)
both_passed (Ok u) rest x h = (refl, h)
both_passed (Err e) rest x h = absurd cc

is_true : (b : Bool) (e : Fault) → passes b e ≡ Ok tt → b ≡ true
is_true true e h = refl
is_true false e h = absurd cc

-- ---- what passes is an image

efi_from : (b c : Bool) → (not b || c) ≡ true → b ≡ true → c ≡ true
efi_from true c h is = h
efi_from false c h is = absurd cc

pub IsRomImage-checked : (file : List ℕ) (at : ℕ) → checked file at ≡ Ok tt → IsRomImage file (image_at file at)
unfolding checked header_checked length_checked image_at
IsRomImage-checked file at h =
    let place : ℕ = structure file at in
    let both = both_passed (header_checked file at) (length_checked file at) tt h in
    let one = both_passed (passes (has_header file at) (faults.Short, at)) _ tt both.0 in
    let two = both_passed (passes (is_marked file at) (faults.Mark, at)) _ tt one.1 in
    let three = both_passed (passes (has_structure file at) (faults.Short, at)) _ tt two.1 in
    let five = both_passed (passes (has_blocks file at) (faults.Length, place + 16)) _ tt both.1 in
    let length_is = and_parts (nat_lt 0 (blocks file place)) (nat_le (at + size_at file at) (length file))
    (is_true (has_blocks file at) _ five.0) in
    let some : nat_lt 0 (blocks file place) ≡ true = length_is.0 in
    let pcir : bytes_eq (bytes_at file place 4) (codes "PCIR") ≡ true = is_true (is_pcir file at) _ three.1 in
    let signed : code_type file place ≡ 3 → is_signed file at ≡ true =
    λ is. efi_from (nat_eq (code_type file place) 3) (is_signed file at) (is_true (is_other_or_signed file at) _ five.1)
    (ap (λ n. nat_eq n 3) is) in
    record {
      record_is = refl;
      header = leb-true (at + 26) (length file) (is_true (has_header file at) _ one.0);
      marked = eqb-true (mark file at) 0xAA55 (is_true (is_marked file at) _ two.0);
      placed = leb-true (place + 24) (length file) (is_true (has_structure file at) _ three.0);
      pcir = (bytes_eq-Decides (bytes_at file place 4) (codes "PCIR")).0 pcir;
      some = ltb-true 0 (blocks file place) some;
      within = leb-true (at + size_at file at) (length file) length_is.1;
      signed = λ is. eqb-true (efi_signature file at) 0x0EF1 (and_parts (nat_eq (efi_signature file at) 0x0EF1) _ (signed is)).0;
      starts = λ is. leb-true (start file at) (size_at file at) (and_parts (nat_eq (efi_signature file at) 0x0EF1) _ (signed is)).1;
    }

-- ---- an image passes

signed_of : (file : List ℕ) (r : RomImage) → IsRomImage file r → r.code_type ≡ 3 → is_signed file r.offset ≡ true
unfolding image_at
signed_of file r is efi =
    let size : size_of r ≡ size_at file r.offset = ap size_of is.record_is in
    let signature : nat_eq (efi_signature file r.offset) 0x0EF1 ≡ true = eq-eqb (efi_signature file r.offset) 0x0EF1 (is.signed efi) in
    let begins : nat_le (start file r.offset) (size_at file r.offset) ≡ true = ap (nat_le (start file r.offset)) (sym size)
    ∙ le-leb (start file r.offset) (size_of r) (is.starts efi) in
    rw (signature, begins) refl

pub checked-image : (file : List ℕ) (r : RomImage) → IsRomImage file r → checked file r.offset ≡ Ok tt
unfolding checked header_checked length_checked image_at
checked-image file r is =
    let place : ℕ = structure file r.offset in
    let count : r.blocks ≡ blocks file place = ap (λ (s : RomImage). s.blocks) is.record_is in
    let kind : r.code_type ≡ code_type file place = ap (λ (s : RomImage). s.code_type) is.record_is in
    let header : nat_le (r.offset + 26) (length file) ≡ true = le-leb (r.offset + 26) (length file) is.header in
    let marked : nat_eq (mark file r.offset) 0xAA55 ≡ true = eq-eqb (mark file r.offset) 0xAA55 is.marked in
    let placed : nat_le (place + 24) (length file) ≡ true = le-leb (place + 24) (length file) is.placed in
    let pcir : bytes_eq (bytes_at file place 4) (codes "PCIR") ≡ true =
    (bytes_eq-Decides (bytes_at file place 4) (codes "PCIR")).1 is.pcir in
    let some : nat_lt 0 (blocks file place) ≡ true = lt-ltb 0 (blocks file place) (subst (λ n. 0 < n) count is.some) in
    let within : nat_le (r.offset + size_at file r.offset) (length file) ≡ true =
    le-leb (r.offset + size_at file r.offset) (length file) (subst (λ n. r.offset + 512 * n ≤ length file) count is.within) in
    let other : is_other_or_signed file r.offset ≡ true = by_type (nat_eq (code_type file place) 3) refl in
    rw (header, marked, placed, pcir, some, within, other) refl
  where
    by_type : (b : Bool) → nat_eq (code_type file (structure file r.offset)) 3 ≡ b → (not b || is_signed file r.offset) ≡ true
    by_type false e = refl
    by_type true e = signed_of file r is (ap (λ (s : RomImage). s.code_type) is.record_is
        ∙ eqb-true (code_type file (structure file r.offset)) 3 e)

-- ---- the last image

pub marked_last : (file : List ℕ) (r : RomImage) → is_last file r.offset ≡ true → IsMarkedLast file r
marked_last file r h zero_there = absurd (true≢false (sym h ∙ ap (λ b. not b)
    (eq-eqb (bit_and (indicator file (structure file r.offset)) 0x80) 0 zero_there)))

pub not_last : (file : List ℕ) (r : RomImage) → is_last file r.offset ≡ false → ¬ IsMarkedLast file r
not_last file r h marked = marked (eqb-true (bit_and (indicator file (structure file r.offset)) 0x80) 0 (not_false _ h))
  where
    not_false : (b : Bool) → not b ≡ false → b ≡ true
    not_false true e = refl
    not_false false e = absurd cc
