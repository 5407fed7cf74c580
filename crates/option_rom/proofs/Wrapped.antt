-- The option ROM that is written is read again, and its EBC image taken out of it.
use Rattle.option_rom.proofs.Common.{◌≡◌, ℕ, zero, suc, ◌+◌, ◌-◌, ◌*◌, ◌^◌, ◌<◌, ◌≤◌, List, [], ◌∷◌, ◌++◌, length, get_or, refl, ap, arith}
use Rattle.option_rom.proofs.Common.{length-append, Some, Result, Ok, Err, All, RomImage, blocks, wrapped, IsMarkedLast, IsRom, IsRomImage}
use Rattle.option_rom.proofs.Common.{efi_at, image_at, rom_of, bytes_taken, range_of, taken}
use Rattle.std.specs.Prelude.{IfOk}
use Rattle.std.proofs.lemmas.List.{length-replicate, take_all}
use Rattle.ebc_width.specs.Bytes.{little_endian}
use Rattle.pe_image.specs.declared.{fault.ImageFault.ImageFault, image.Image.Image}
use Rattle.pe_image.specs.{Files.zeros, Images.image_of, Fields.bytes_at, Fields.number_at}
use Rattle.option_rom.specs.{Fields.subsystem, Files.block_count, Files.filling, Files.header_bytes, Files.padded, Files.rom_bytes}
use Rattle.option_rom.specs.Files.{structure_bytes}
use Rattle.pe_image.proofs.Padded.{padded-same}
use Rattle.option_rom.proofs.Walks.{rom-read}

pub rom-length :
    (vendor device system : ℕ) (image : List ℕ) →
    length (rom_bytes vendor device system image) ≡ 512 * block_count (length image)
unfolding rom_bytes header_bytes structure_bytes
rom-length vendor device system image =
    let n : ℕ = length image in
    omega (arith, length-append image (filling n), length-replicate {A = ℕ} (512 * block_count n - (56 + n)) 0)

count-is :
    (vendor device system : ℕ) (image : List ℕ) → length image ≤ 2 ^ 22 →
    block_count (length image) ≡ blocks (rom_bytes vendor device system image) 28
unfolding rom_bytes header_bytes structure_bytes number_at little_endian
count-is vendor device system image small = omega arith

system-is : (vendor device system : ℕ) (image : List ℕ) → system < 2 ^ 16 → system ≡ subsystem (rom_bytes vendor device system image) 0
unfolding rom_bytes header_bytes structure_bytes number_at little_endian
system-is vendor device system image small = omega arith

record-is :
    (vendor device system : ℕ) (image : List ℕ) → system < 2 ^ 16 → length image ≤ 2 ^ 22 →
    wrapped system (length image) ≡ image_at (rom_bytes vendor device system image) 0
unfolding wrapped image_at efi_at rom_bytes header_bytes structure_bytes number_at little_endian
record-is vendor device system image fits small =
    λ i.
    record {
      offset = 0;
      blocks = count-is vendor device system image small i;
      code_type = 3;
      efi = Some (record { subsystem = system-is vendor device system image fits i; machine = 0x0EBC; compression = 0; start = 56 });
    }

IsRomImage-wrapped :
    (vendor device system : ℕ) (image : List ℕ) → system < 2 ^ 16 → length image ≤ 2 ^ 22 →
    IsRomImage (rom_bytes vendor device system image) (wrapped system (length image))
unfolding wrapped rom_bytes header_bytes structure_bytes bytes_at number_at little_endian
IsRomImage-wrapped vendor device system image fits small =
    let n : ℕ = length image in
    let whole : length (rom_bytes vendor device system image) ≡ 512 * block_count n = rom-length vendor device system image in
    record {
      record_is = record-is vendor device system image fits small;
      header = omega arith;
      marked = refl;
      placed = omega arith;
      pcir = refl;
      some = omega arith;
      within = omega arith;
      signed = λ is. refl;
      starts = λ is. omega arith;
    }

IsRom-wrapped :
    (vendor device system : ℕ) (image : List ℕ) → system < 2 ^ 16 → length image ≤ 2 ^ 22 →
    IsRom (rom_bytes vendor device system image) (wrapped system (length image) ∷ [])
unfolding wrapped rom_bytes header_bytes structure_bytes number_at little_endian
IsRom-wrapped vendor device system image fits small =
    record {
      follow = record {
        each = one (IsRomImage-wrapped vendor device system image fits small);
        first = refl;
        next = λ k d within. absurd (omega arith);
      };
      some = omega arith;
      last = λ i d within. (λ marked. omega arith, λ at_end. marked_last i d within);
    }
  where
    file : List ℕ
    file = rom_bytes vendor device system image

    r : RomImage
    r = wrapped system (length image)

    one : IsRomImage file r → All (IsRomImage file) (r ∷ [])
    one is zero d within = is
    one is (suc k) d within = absurd (omega arith)

    marked_last : (i : ℕ) (d : RomImage) → i < 1 → IsMarkedLast file (get_or (r ∷ []) i d)
    marked_last zero d within = λ none. absurd (omega (arith, none))
    marked_last (suc i) d within = absurd (omega arith)

pub wrapped-read :
    (vendor device system : ℕ) (image : List ℕ) → system < 2 ^ 16 → length image ≤ 2 ^ 22 →
    rom_of (rom_bytes vendor device system image) ≡ Ok (wrapped system (length image) ∷ [])
wrapped-read vendor device system image fits small =
    rom-read (rom_bytes vendor device system image) (wrapped system (length image) ∷ [])
    (IsRom-wrapped vendor device system image fits small)

pub wrapped-taken :
    (vendor device system : ℕ) (image : List ℕ) →
    bytes_taken (rom_bytes vendor device system image) (wrapped system (length image) ∷ []) 0 ≡ Ok (padded image)
unfolding bytes_taken range_of taken wrapped rom_bytes header_bytes structure_bytes
wrapped-taken vendor device system image =
    let n : ℕ = length image in
    ap Ok
    (take_all (0 + 512 * block_count n - 56) (image ++ filling n)
    (omega (arith, length-append image (filling n), length-replicate {A = ℕ} (512 * block_count n - (56 + n)) 0)))

-- zeros behind the file change nothing of what it is read as
pub same-image : (file : List ℕ) (n : ℕ) → IfOk (image_of file) (λ i. image_of (file ++ zeros n) ≡ Ok i)
same-image file n = by_result (image_of file) refl
  where
    by_result : (r : Result Image (ImageFault × ℕ)) → image_of file ≡ r → IfOk r (λ i. image_of (file ++ zeros n) ≡ Ok i)
    by_result (Ok i) is = padded-same file n i is
    by_result (Err e) is = tt
