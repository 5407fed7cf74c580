-- What is taken out of option ROMs, and the lines of a listing.
use Rattle.ebc_cli.proofs.Common.{◌≡◌, ℕ, ◌+◌, ◌-◌, ◌<◌, ◌≤◌, List, [], ◌++◌, drop, length, append-nil, append_assoc, Ok, refl, sym, ap}
use Rattle.ebc_cli.proofs.Common.{◌∙◌, arith, rom_lines}
use Rattle.std.proofs.{Common.suc, Common.get_or, Common.length-drop, Common.drop-cons, Common.nat_eq, lemmas.Bool.Decides.nat_tests}
use Rattle.std.proofs.lemmas.List.{drop_all}
use Rattle.option_rom.specs.declared.image.RomImage.{RomImage}
use Rattle.option_rom.specs.{Roms.rom_of, Takes.taken}
use Rattle.option_rom.proofs.{Takings.taken_inside, Walks.read-rom}
use Rattle.ebc_cli.specs.RomTexts.{last_mark, rom_line, rom_listing}

-- ---- what is taken

-- what is taken out of an option ROM that was read ends inside it
pub ends_inside : (rom : List ℕ) (images : List RomImage) (number begin end : ℕ) → rom_of rom ≡ Ok images
    → taken images number ≡ Ok (begin, end) → end ≤ length rom
ends_inside rom images number begin end read is = (taken_inside rom images number begin end (read-rom rom images read) is).1

-- ---- the lines of a listing

-- the line of an image comes before those of the images from the next on
lines-from : (images : List RomImage) (number next : ℕ) (d : RomImage) → number < length images → next ≡ suc number
    → rom_lines number (drop number images)
    ≡ rom_line number (get_or images number d) (last_mark (nat_eq next (length images))) ++ rom_lines next (drop next images)
unfolding rom_lines
lines-from images number next d within is =
    let left : length (drop (suc number) images) ≡ length images - suc number = length-drop (suc number) images in
    let last : nat_eq (length (drop (suc number) images)) 0 ≡ nat_eq (suc number) (length images) = rw left (grind (arith, nat_tests)) in
    rw (is, drop-cons images number d within, last) refl

-- a line that is appended is no longer to come
pub line-appended : (images : List RomImage) (number : ℕ) (d : RomImage) (old line new : List ℕ) → number < length images
    → new ≡ old ++ line → line ≡ rom_line number (get_or images number d) (last_mark (nat_eq (number + 1) (length images)))
    → new ++ rom_lines (number + 1) (drop (number + 1) images) ≡ old ++ rom_lines number (drop number images)
line-appended images number d old line new within appended is =
    let ahead : rom_lines number (drop number images) ≡ line ++ rom_lines (number + 1) (drop (number + 1) images) =
    lines-from images number (number + 1) d within (omega arith)
    ∙ ap (λ l. l ++ rom_lines (number + 1) (drop (number + 1) images)) (sym is) in
    ap (λ l. l ++ rom_lines (number + 1) (drop (number + 1) images)) appended
    ∙ (append_assoc old line (rom_lines (number + 1) (drop (number + 1) images)) ∙ ap (λ l. old ++ l) (sym ahead))

-- no lines are left behind the last image
pub lines-done : (text : List ℕ) (images : List RomImage) (number : ℕ) → length images ≤ number
    → text ++ rom_lines number (drop number images) ≡ rom_lines 0 images → text ≡ rom_listing images
unfolding rom_lines
lines-done text images number all so_far =
    let none : drop number images ≡ [] = drop_all number images all in
    let whole : text ++ [] ≡ rom_lines 0 images = rw none at so_far in
    sym (append-nil text) ∙ whole
