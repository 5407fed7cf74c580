-- The length of a spelling, by its parts.
use Rattle.std.proofs.Common.{◌≡◌, ◌+◌, length, arith, refl, length-append}
use Rattle.ebc_insn.specs.declared.code.Code.{Code}
use Rattle.ebc_insn.specs.declared.code.Field.{Field}
use Rattle.ebc_insn.specs.declared.code.Field.TheVariants.{Nothing, Word, Dword, Qword}
use Rattle.ebc_insn.specs.Spelling.{bytes_of, field_bytes, field_size}

pub length_field_bytes : (f : Field) → length (field_bytes f) ≡ field_size f
unfolding field_bytes
length_field_bytes Nothing = refl
length_field_bytes (Word n) = refl
length_field_bytes (Dword n) = refl
length_field_bytes (Qword n) = refl

pub length_bytes_of : (c : Code) → length (bytes_of c) ≡ 2 + field_size c.one + field_size c.two
unfolding bytes_of
length_bytes_of c =
    omega (
      arith,
      length-append (field_bytes c.one) (field_bytes c.two),
      length_field_bytes c.one,
      length_field_bytes
          c.two,
    )
