-- Images in the linker's layout, worked out by hand: what `driver` and `relocated` give is one.
use Rattle.std.proofs.Common.{◌≡◌, ℕ, List, [], ◌∷◌, ◌++◌, refl, sym, subst, arith}
use Rattle.std.specs.Prelude.{codes}
use Rattle.pe_image.specs.declared.image.Image.{Image}
use Rattle.pe_image.specs.declared.image.Section.{Section}
use Rattle.pe_image.specs.Files.{block_bytes, file_sections, next_place, reloc_bytes, reloc_section, reloc_sections}
use Rattle.pe_image.specs.Linked.{IsLinked, linked_sections}

-- MOVIqq R4, 0x5000 and RET, with a relocation of the number
abbrev pub code : List ℕ
code = 0xF7 ∷ 0x34 ∷ 0x00 ∷ 0x50 ∷ 0 ∷ 0 ∷ 0 ∷ 0 ∷ 0 ∷ 0 ∷ 0x04 ∷ 0x00 ∷ []

abbrev pub text : Section
text = record { name = codes ".text" ++ 0 ∷ 0 ∷ 0 ∷ []; place = 0x1000; size = 12; flags = 0x60000020; bytes = code }

abbrev relocated : Image
relocated = record { base = 0x10000; entry = 0x1000; size = 0x3000; subsystem = 11; sections = text ∷ []; relocs = 0x1002 ∷ [] }

the_block : reloc_bytes relocated.relocs ≡ 0x00 ∷ 0x10 ∷ 0 ∷ 0 ∷ 12 ∷ 0 ∷ 0 ∷ 0 ∷ 0x02 ∷ 0xA0 ∷ 0 ∷ 0 ∷ []
unfolding reloc_bytes block_bytes
the_block = refl

linked : IsLinked relocated
unfolding linked_sections next_place file_sections reloc_sections reloc_section reloc_bytes block_bytes
linked =
    record {
      sections = (code, [], refl);
      size = refl;
      small = omega arith;
      apart = λ i j d less within. absurd (omega arith);
      relocated = λ i d within. let zero_is : i ≡ 0 = omega arith in rw zero_is (0, text, omega arith, refl, (omega arith, omega arith));
      even = refl;
      entry = (0, text, omega arith, refl, (omega arith, omega arith));
      base = omega arith;
      subsystem = omega arith;
    }

-- a driver's image, of code and data
abbrev pub driver_code : List ℕ
driver_code =
    0xB9 ∷ 0x07 ∷ 0xFA ∷ 0x0F ∷ 0x00 ∷ 0x00 ∷ 0x00 ∷ 0x05 ∷ 0x72 ∷ 0x84 ∷ 0x41 ∷ 0x10 ∷ 0x60 ∷ 0x00 ∷
    0x01 ∷ 0x90 ∷ 0x20 ∷ 0x05 ∷ 0x35 ∷ 0x05 ∷ 0x03 ∷ 0x2C ∷ 0x60 ∷ 0x00 ∷ 0x01 ∷ 0x10 ∷ 0x25 ∷ 0x75 ∷
    0x6E ∷ 0x05 ∷ 0xFF ∷ 0xFF ∷ 0xC2 ∷ 0x0E ∷ 0x32 ∷ 0x85 ∷ 0x1F ∷ 0xD6 ∷ 0xB9 ∷ 0x05 ∷ 0xD4 ∷ 0x0F ∷
    0x00 ∷ 0x00 ∷ 0x35 ∷ 0x0D ∷ 0x72 ∷ 0x84 ∷ 0x43 ∷ 0x10 ∷ 0x83 ∷ 0x2C ∷ 0x01 ∷ 0x00 ∷ 0x00 ∷ 0x10 ∷
    0x60 ∷ 0x00 ∷ 0x02 ∷ 0x10 ∷ 0x04 ∷ 0x00 ∷ 0x60 ∷ 0x00 ∷ 0x01 ∷ 0x10 ∷ 0x04 ∷ 0x00 ∷ 0x77 ∷ 0x37 ∷
    0x00 ∷ 0x00 ∷ 0x04 ∷ 0x00 ∷ []

abbrev pub driver_data : List ℕ
driver_data = 0x40 ∷ 0xF0 ∷ 0xFF ∷ 0xFF ∷ 0x00 ∷ 0x00 ∷ 0x00 ∷ 0x00 ∷ []

abbrev pub driver_text : Section
driver_text = record { name = codes ".text" ++ 0 ∷ 0 ∷ 0 ∷ []; place = 0x1000; size = 74; flags = 0x60000020; bytes = driver_code }

abbrev pub driver_contents : Section
driver_contents = record { name = codes ".data" ++ 0 ∷ 0 ∷ 0 ∷ []; place = 0x2000; size = 8; flags = 0xC0000040; bytes = driver_data }

abbrev driver : Image
driver = record {
  base = 0x10000;
  entry = 0x1000;
  size = 0x3000;
  subsystem = 11;
  sections = driver_text ∷ driver_contents ∷ [];
  relocs = [];
}

linked_driver : IsLinked driver
unfolding linked_sections next_place file_sections reloc_sections reloc_section reloc_bytes block_bytes
linked_driver =
    record {
      sections = (driver_code, driver_data, refl);
      size = refl;
      small = omega arith;
      apart = λ i j d less within. absurd (omega arith);
      relocated = λ i d within. absurd (omega arith);
      even = refl;
      entry = (0, driver_text, omega arith, refl, (omega arith, omega arith));
      base = omega arith;
      subsystem = omega arith;
    }

made :
    (base entry size subsystem : ℕ) (sections kept : List Section) (relocs places : List ℕ) → base ≡ 0x10000 → entry ≡ 0x1000
    → size ≡ 0x3000 → subsystem ≡ 11 →
    sections ≡ kept → relocs ≡ places →
    ◌≡◌ {A = Image} (record { base = base; entry = entry; size = size; subsystem = subsystem; sections = sections; relocs = relocs })
    (record { base = 0x10000; entry = 0x1000; size = 0x3000; subsystem = 11; sections = kept; relocs = places })
made base entry size subsystem sections kept relocs places a b c d e f = rw (a, b, c, d, e, f) refl

pub linked_by :
    (image : Image) → image.base ≡ 0x10000 → image.entry ≡ 0x1000 → image.size ≡ 0x3000 → image.subsystem ≡ 11 →
    image.sections ≡ text ∷ [] → image.relocs ≡ 0x1002 ∷ [] → IsLinked image
linked_by image a b c d e f = subst IsLinked (sym (made image.base image.entry image.size image.subsystem image.sections
    (text ∷ []) image.relocs (0x1002 ∷ []) a b c d e f)) linked

pub driver_by :
    (image : Image) → image.base ≡ 0x10000 → image.entry ≡ 0x1000 → image.size ≡ 0x3000 → image.subsystem ≡ 11 →
    image.sections ≡ driver_text ∷ driver_contents ∷ [] → image.relocs ≡ [] → IsLinked image
driver_by image a b c d e f =
    subst IsLinked (sym (made image.base image.entry image.size image.subsystem image.sections
    (driver_text ∷ driver_contents ∷ []) image.relocs [] a b c d e f)) linked_driver

pub one_section : (b : List ℕ) → b ≡ code → ◌≡◌ {A = List Section}
    (record { name = codes ".text" ++ 0 ∷ 0 ∷ 0 ∷ []; place = 0x1000; size = 12; flags = 0x60000020; bytes = b } ∷ []) (text ∷ [])
one_section b is = rw is refl

pub two_sections :
    (b d : List ℕ) → b ≡ driver_code → d ≡ driver_data →
    ◌≡◌ {A = List Section}
    (record { name = codes ".text" ++ 0 ∷ 0 ∷ 0 ∷ []; place = 0x1000; size = 74; flags = 0x60000020; bytes = b }
    ∷ record { name = codes ".data" ++ 0 ∷ 0 ∷ 0 ∷ []; place = 0x2000; size = 8; flags = 0xC0000040; bytes = d } ∷ [])
    (driver_text ∷ driver_contents ∷ [])
two_sections b d is also = rw (is, also) refl
