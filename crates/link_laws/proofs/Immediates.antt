-- The bytes of an instruction in which a name may stand: zeros, or a number in its place.
use Rattle.link_laws.proofs.Common.{ap, Imm, inl, inr, List, pos, refl, sym, take, true, w64, [], ◌*◌, ◌++◌, ◌<◌, ◌^◌, ◌∙◌, ◌∷◌, ◌≡◌, ◌⊎◌}
use Rattle.link_laws.proofs.Common.{append-nil, nat_tests, Option, replicate, signed_fits, takes_label, TargetFits, to_le_bytes, WellFormed}
use Rattle.link_laws.proofs.Common.{arith, Bool, code_of, Cond, false, FitsInt, Index, Insn, int_raw, Operand, signed_at, spelling, subst}
use Rattle.link_laws.proofs.Common.{field_bytes, immediate_size, optional_field, signed_whole, TakesName, with_immediate, without_immediate}
use Rattle.link_laws.proofs.Common.{ℕ, ℤ}
use Rattle.ebc_insn.specs.Spelling.{bytes_of}
use Rattle.ebc_insn.specs.declared.Insn.TheVariants as insns
use Rattle.ebc_insn.specs.declared.Size.TheVariants as sizes

-- The bytes of an instruction that a label may stand in end with its immediate, and with zeros where a label stands for it.
pub record EndsWith (i : Insn) : Type 0 where
  pub front : List ℕ
  pub value : ℕ
  pub whole : spelling i ≡ front ++ to_le_bytes w64 value
  pub blank : spelling (without_immediate i) ≡ front ++ replicate 8 0

pub labels_fill : (i : Insn) → WellFormed i → takes_label i ≡ true → EndsWith i
unfolding bytes_of field_bytes
labels_fill (insns.MoveImm sizes.Qword bits left lidx imm) fits is =
    let all : bits ≡ 64 = grind (arith, nat_tests) in
    let i : Insn = insns.MoveImm sizes.Qword 64 left lidx imm in
    let front : List ℕ = (code_of i).first ∷ (code_of i).second ∷ field_bytes (optional_field 16 lidx) in
    subst (λ n. EndsWith (insns.MoveImm sizes.Qword n left lidx imm)) (sym all)
    (record { front = front; value = int_raw 64 imm; whole = refl; blank = refl })
labels_fill (insns.Jump c true relative op (Imm v)) fits is =
    let i : Insn = insns.Jump c true relative op (Imm v) in
    record { front = (code_of i).first ∷ (code_of i).second ∷ []; value = int_raw 64 v; whole = append-nil _; blank = append-nil _ }
labels_fill (insns.Call true native relative op (Imm v)) fits is =
    let i : Insn = insns.Call true native relative op (Imm v) in
    record { front = (code_of i).first ∷ (code_of i).second ∷ []; value = int_raw 64 v; whole = append-nil _; blank = append-nil _ }
labels_fill (insns.Jump c true relative op extra) fits is = absurd fits
labels_fill (insns.Call true native relative op extra) fits is = absurd fits
labels_fill i fits is = cc

-- The bytes of an instruction end with its immediate: zeros where a name stands for it, and else the number that it has there.
pub record TakesNumber (i : Insn) : Type 0 where
  pub front : List ℕ
  pub zeros : spelling i ≡ front ++ replicate (immediate_size i) 0
  pub spells : (n : ℕ) → n < 2 ^ (8 * immediate_size i)
      → spelling (with_immediate i (signed_at (8 * immediate_size i) n)) ≡ front ++ take (immediate_size i) (to_le_bytes w64 n)
  pub fits : (n : ℕ) → n < 2 ^ (8 * immediate_size i) → WellFormed (with_immediate i (signed_at (8 * immediate_size i) n))

jump8_takes : (c : Cond) → TakesNumber (insns.Jump8 c (pos 0))
unfolding bytes_of field_bytes
jump8_takes c = record {
  front = (code_of (insns.Jump8 c (pos 0))).first ∷ [];
  zeros = refl;
  spells = λ n low. ap (λ m. (code_of (insns.Jump8 c (pos 0))).first ∷ m ∷ []) (signed_whole 8 n (omega arith) low ∙ omega (arith, low));
  fits = λ n low. signed_fits 8 n (omega arith) low;
}

-- two bytes of an instruction, and what comes after them
abbrev two_and : Insn → List ℕ → List ℕ
two_and i rest = (code_of i).first ∷ (code_of i).second ∷ rest

-- an instruction takes a number, if its spelling ends with that number
takes_last : {i : Insn} (rest : List ℕ) → 0 < 8 * immediate_size i → spelling i ≡ two_and i rest ++ replicate (immediate_size i) 0
    → ((v : ℤ) → spelling (with_immediate i v)
    ≡ two_and i rest ++ take (immediate_size i) (to_le_bytes w64 (int_raw (8 * immediate_size i) v)))
    → ((v : ℤ) → FitsInt (8 * immediate_size i) v → WellFormed (with_immediate i v)) → TakesNumber i
takes_last {i} rest some zeros spells fits = record {
  front = two_and i rest;
  zeros = zeros;
  spells = λ n low. spells (signed_at (8 * immediate_size i) n) ∙ ap (λ m. two_and i rest ++ take (immediate_size i) (to_le_bytes w64 m))
      (signed_whole (8 * immediate_size i) n some low);
  fits = λ n low. fits (signed_at (8 * immediate_size i) n) (signed_fits (8 * immediate_size i) n some low);
}

jump_takes : (c : Cond) (far relative : Bool) (o : Operand) → TargetFits far o (Imm (pos 0))
    → TakesNumber (insns.Jump c far relative o (Imm (pos 0)))
unfolding bytes_of field_bytes
jump_takes c true relative o fits = takes_last [] (omega arith) refl (λ v. refl) (λ v f. (fits.0, fits.1, f))
jump_takes c false relative o fits = takes_last [] (omega arith) refl (λ v. refl) (λ v f. (fits.0, (fits.1.0, f)))

call_takes : (far native relative : Bool) (o : Operand) → TargetFits far o (Imm (pos 0))
    → TakesNumber (insns.Call far native relative o (Imm (pos 0)))
unfolding bytes_of field_bytes
call_takes true native relative o fits = takes_last [] (omega arith) refl (λ v. refl) (λ v f. (fits.0, fits.1, f))
call_takes false native relative o fits = takes_last [] (omega arith) refl (λ v. refl) (λ v f. (fits.0, (fits.1.0, f)))

move_takes : (o : Operand) (x : Option Index) → WellFormed (insns.MoveImm sizes.Qword 64 o x (pos 0))
    → TakesNumber (insns.MoveImm sizes.Qword 64 o x (pos 0))
unfolding bytes_of field_bytes
move_takes o x well =
    takes_last (field_bytes (optional_field 16 x)) (omega arith) refl (λ v. refl) (λ v f. (well.0, well.1, well.2, well.3, f))

data IsBits : ℕ → Type 0 where
  word : IsBits 16
  dword : IsBits 32
  qword : IsBits 64

bits_are : (n : ℕ) → (n ≡ 16) ⊎ ((n ≡ 32) ⊎ (n ≡ 64)) → IsBits n
bits_are n (inl is) = subst IsBits (sym is) word
bits_are n (inr (inl is)) = subst IsBits (sym is) dword
bits_are n (inr (inr is)) = subst IsBits (sym is) qword

relative_takes : (bits : ℕ) (o : Operand) (x : Option Index) → IsBits bits → WellFormed (insns.MoveRelative bits o x (pos 0))
    → TakesNumber (insns.MoveRelative bits o x (pos 0))
unfolding bytes_of field_bytes
relative_takes _ o x word well =
    takes_last (field_bytes (optional_field 16 x)) (omega arith) refl (λ v. refl) (λ v f. (well.0, well.1, well.2, f))
relative_takes _ o x dword well =
    takes_last (field_bytes (optional_field 16 x)) (omega arith) refl (λ v. refl) (λ v f. (well.0, well.1, well.2, f))
relative_takes _ o x qword well =
    takes_last (field_bytes (optional_field 16 x)) (omega arith) refl (λ v. refl) (λ v f. (well.0, well.1, well.2, f))

-- An instruction in which a name may stand takes a number there.
pub takes_number : (i : Insn) → WellFormed i → TakesName i → TakesNumber i
takes_number (insns.Jump8 c words) well takes = rw takes (jump8_takes c)
takes_number (insns.Jump c far relative o e) well takes = rw takes.1 (jump_takes c far relative o (rw takes.1 at well))
takes_number (insns.Call far native relative o e) well takes = rw takes.1 (call_takes far native relative o (rw takes.1 at well))
takes_number (insns.MoveImm size bits o x v) well takes =
    rw (takes.0, takes.1, takes.2) (move_takes o x (rw (takes.0, takes.1, takes.2) at well))
takes_number (insns.MoveRelative bits o x v) well takes = rw takes (relative_takes bits o x (bits_are bits well.0) (rw takes at well))
takes_number i well takes = absurd takes
