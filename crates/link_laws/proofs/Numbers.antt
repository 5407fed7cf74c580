-- What fixups hold, by their kinds: two images hold the same numbers, where their symbols stand at the same places.
use Rattle.link_laws.proofs.Common.{address, arith, bytes, false, Fixup, Holds, Image, inl, int_raw, nat_eq, place_of, subst, width, ⊎_elim}
use Rattle.link_laws.proofs.Common.{ap, ℕ, ℤ, ◌≤◌, ◌⊎◌}
use Rattle.link_laws.proofs.Common.{AreBytes, if◌then◌else◌, little_endian-below, nat_tests, number_at, place_in, signed_at, signed_whole}
use Rattle.link_laws.proofs.Common.{Bool, inr, ints, Laid, laid, pos, sym, true, words, ◌%◌, ◌*ℤ◌, ◌*◌, ◌+ℤ◌, ◌+◌, ◌/◌, ◌<◌, ◌^◌, ◌∙◌, ◌≡◌}
use Rattle.link_laws.proofs.Relocs.{byte_of}
use Rattle.ebc_link.specs.Linked.{address, bytes, words}

-- ---- what a fixup holds

pub holds_address : (base : ℕ) (image : Image) (l : Laid) (f : Fixup) (place : ℕ) → f.kind ≡ 5 → Holds base image l f place
    → number_at image (place_of l.home f) 8 ≡ base + place
holds_address base image l f place five (address is number) = number
holds_address base image l f place five (words one number) = absurd (omega (arith, five, one))
holds_address base image l f place five (bytes two four number) = absurd (omega (arith, five, four))

-- how far a place lies behind another, by the number of a fixup of so many bytes
abbrev pub IsFar : Image → ℕ → ℕ → ℕ → ℕ → Type 0
IsFar image place from at size =
    pos place ≡ pos from +ℤ (if nat_eq size 1 then signed_at (8 * size) (number_at image at size) *ℤ pos 2
    else signed_at (8 * size) (number_at image at size))

pub holds_distance : (base : ℕ) (image : Image) (l : Laid) (f : Fixup) (place : ℕ) → f.kind ≤ 4 → Holds base image l f place
    → IsFar image place (place_in l.home f.section f.from) (place_of l.home f) (width f.kind)
holds_distance base image l f place four (address five number) = absurd (omega (arith, five, four))
holds_distance base image l f place four (words one number) = rw one number
holds_distance base image l f place four (bytes two less number) =
    let long : nat_eq (width f.kind) 1 ≡ false = grind (arith, nat_tests) in rw long number

-- a signed number has one spelling
one_spelling : (bits n m : ℕ) → 0 < bits → n < 2 ^ bits → m < 2 ^ bits → signed_at bits n ≡ signed_at bits m → n ≡ m
one_spelling bits n m some low high same = sym (signed_whole bits n some low) ∙ (ap (int_raw bits) same ∙ signed_whole bits m some high)

-- ---- signed numbers

-- a fixup is of one, two, four or eight bytes
wide : (kind : ℕ) → (0 < 8 * width kind) × (256 ^ width kind ≡ 2 ^ (8 * width kind))
wide kind = grind (arith, nat_tests)

small_number : (image : Image) (p n : ℕ) → AreBytes image → number_at image p n < 256 ^ n
small_number image p n each = little_endian-below (laid image.sections) p n each

-- ---- what two images hold

kind_of : (base : ℕ) (image : Image) (l : Laid) (f : Fixup) (place : ℕ) → Holds base image l f place → (f.kind ≡ 5) ⊎ (f.kind ≤ 4)
kind_of base image l f place (address five number) = inl five
kind_of base image l f place (words one number) = inr (omega (arith, one))
kind_of base image l f place (bytes two four number) = inr four

-- one number is how far one place lies behind another
one_far : (one : Bool) (p from a b : ℤ) → p ≡ from +ℤ (if one then a *ℤ pos 2 else a) → p ≡ from +ℤ (if one then b *ℤ pos 2 else b) → a ≡ b
one_far true p from a b first second = omega (arith, ints, first, second)
one_far false p from a b first second = omega (arith, ints, first, second)

pub same_number : (base : ℕ) (one two : Image) (l : Laid) (f : Fixup) (place : ℕ) → AreBytes one → AreBytes two → Holds base one l f place
    → Holds base two l f place → number_at one (place_of l.home f) (width f.kind) ≡ number_at two (place_of l.home f) (width f.kind)
same_number base one two l f place first second holds also =
    let at : ℕ = place_of l.home f in
    let w : ℕ = width f.kind in
    let size = wide f.kind in
    ⊎_elim
    (λ five. subst (λ kind. number_at one at (width kind) ≡ number_at two at (width kind)) (sym five)
    (holds_address base one l f place five holds ∙ sym (holds_address base two l f place five also)))
    (λ four. one_spelling (8 * w) (number_at one at w) (number_at two at w) size.0
    (subst (λ k. number_at one at w < k) size.1 (small_number one at w first))
    (subst (λ k. number_at two at w < k) size.1 (small_number two at w second))
    (one_far (nat_eq w 1) (pos place) (pos (place_in l.home f.section f.from)) _ _ (holds_distance base one l f place four holds)
    (holds_distance base two l f place four also)))
    (kind_of base one l f place holds)

-- so each byte of them is the same
pub same_byte : (one two : Image) (p n k : ℕ) → AreBytes one → AreBytes two → k < n → number_at one p n ≡ number_at two p n
    → laid one.sections (p + k) ≡ laid two.sections (p + k)
same_byte one two p n k first second within same =
    sym (byte_of (laid one.sections) p n k first within)
    ∙ (ap (λ m. m / 256 ^ k % 256) same ∙ byte_of (laid two.sections) p n k second within)
