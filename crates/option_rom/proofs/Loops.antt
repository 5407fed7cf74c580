-- The loop that reads the images of a file.
use Rattle.option_rom.proofs.Common.{◌≡◌, ℕ, suc, ◌+◌, ◌-◌, ◌^◌, ◌≤◌, List, [], ◌∷◌, ◌++◌, length, get_or, sym, ap, subst, ◌∙◌, arith}
use Rattle.option_rom.proofs.Common.{length-append, Option, Some, None, Ok, All, IfSome, RomImage, checked, IsRom, IsRomImage, image_at}
use Rattle.option_rom.proofs.Common.{images_from, next_of, rom_of}
use Rattle.std.proofs.lemmas.Option.{IfSome_then}
use Rattle.option_rom.specs.declared.fault.RomEnd.{RomEnd}
use Rattle.option_rom.specs.{Roms.Fails, Roms.TellsFirst, Takes.IsTakeable}
use Rattle.option_rom.proofs.{Takings.starts_within, Walks.none_left, Walks.one_fails, Walks.one_more, Walks.read-fault}
use Rattle.option_rom.specs.declared.fault.RomEnd.TheVariants as ends

-- These images have been read, and the next stands at this offset, unless there is none.
pub record HasRead (file : List ℕ) (images : List RomImage) (next : Option ℕ) : Type 0 where
  pub rest : rom_of file ≡ images_from (length file + 1 - length images) file images next
  pub ahead : IfSome next (λ at. (length images ≤ at) × (at ≤ length file))

pub HasRead-none : (file : List ℕ) (images : List RomImage) → images ≡ [] → HasRead file images (Some 0)
unfolding rom_of
HasRead-none file images none =
    let whole : length file + 1 ≡ length file + 1 - 0 = omega arith in
    rw none (record { rest = ap (λ n. images_from n file [] (Some 0)) whole; ahead = (omega arith, omega arith) })

-- one image more is read
pub HasRead-more :
    (file : List ℕ) (old new : List RomImage) (now next : Option ℕ) (at : ℕ) → HasRead file old now → now ≡ Some at
    → checked file at ≡ Ok tt →
    new ≡ old ++ image_at file at ∷ [] → next ≡ next_of file at → IfSome next (λ n. (at + 512 ≤ n) × (n ≤ length file))
    → HasRead file new next
HasRead-more file old new now next at h is passes pushed after later =
    let P : Option ℕ → Type 0 = λ o. IfSome o (λ a. (length old ≤ a) × (a ≤ length file)) in
    let ahead : (length old ≤ at) × (at ≤ length file) = subst P is h.ahead in
    let fuel : length file + 1 - length old ≡ suc (length file - length old) = omega (arith, ahead.0, ahead.1) in
    let count : length new ≡ length old + 1 = ap length pushed ∙ length-append old (image_at file at ∷ []) in
    let left : length file - length old ≡ length file + 1 - length new = omega arith in
    record {
      rest = h.rest
          ∙ (ap (λ o. images_from (length file + 1 - length old) file old o) is
          ∙ (ap (λ n. images_from n file old (Some at)) fuel
          ∙ (one_more (length file - length old) file old at passes
          ∙ (λ i. images_from (left i) file (sym pushed i) (sym after i)))));
      ahead = IfSome_then next later (λ a b. (omega (arith, b.0, ahead.0), b.1));
    }

-- none is left
pub HasRead-all : (file : List ℕ) (images : List RomImage) (now : Option ℕ) → HasRead file images now → now ≡ None → rom_of file ≡ Ok images
HasRead-all file images now h none =
    h.rest ∙ (ap (images_from (length file + 1 - length images) file images) none ∙ none_left (length file + 1 - length images) file images)

-- one is no image
pub HasRead-fails :
    (file : List ℕ) (images : List RomImage) (now : Option ℕ) (at : ℕ) (e : RomEnd) → HasRead file images now → now ≡ Some at →
    Fails e (checked file at) →
    Fails e (rom_of file)
HasRead-fails file images now at ends.NoMemory h is fails = tt
HasRead-fails file images now at (ends.Fault kind offset) h is fails =
    let P : Option ℕ → Type 0 = λ o. IfSome o (λ a. (length images ≤ a) × (a ≤ length file)) in
    let ahead : (length images ≤ at) × (at ≤ length file) = subst P is h.ahead in
    let fuel : length file + 1 - length images ≡ suc (length file - length images) = omega (arith, ahead.0, ahead.1) in
    h.rest
    ∙ (ap (λ o. images_from (length file + 1 - length images) file images o) is
    ∙ (ap (λ n. images_from n file images (Some at)) fuel ∙ one_fails (length file - length images) file images at (kind, offset) fails))

-- ---- what is told of the whole

pub first_told : (file : List ℕ) (e : RomEnd) → Fails e (rom_of file) → TellsFirst file e
first_told file ends.NoMemory h = tt
first_told file (ends.Fault kind offset) h = read-fault file kind offset h

-- images of a file that isn't too large can be taken
pub all_takeable : (file : List ℕ) (images : List RomImage) → length file ≤ 2 ^ 24 → IsRom file images → All IsTakeable images
all_takeable file images small is =
    λ i d within.
    let here : IsRomImage file (get_or images i d) = is.follow.each i d within in
    record { below = omega (arith, here.header); starts = starts_within file (get_or images i d) here }
