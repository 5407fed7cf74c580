-- Bytes and their parts: the bytes of parts that are right read as their instruction, and what is read has such parts.
use Rattle.std.proofs.Common.{◌≡◌, ℕ, ◌+◌, ◌/◌, ◌%◌, ◌≤◌, Bool, true, false, List, [], ◌∷◌, ◌++◌, length, take, drop, nat_lt, arith, ⊎_elim}
use Rattle.std.proofs.Common.{subst, ap, sym, refl, ◌∙◌, suc, length-append, length-take, length-drop, append_assoc, Option, Some, None}
use Rattle.std.proofs.Common.{Result, Ok, Err, inl, inr, if◌then◌else◌}
use Rattle.std.proofs.lemmas.Bool.{le-ltb}
use Rattle.std.proofs.Math.Seq.{take-add, take-append_seam, drop-append_seam}
use Rattle.natural_index.specs.Index.{IsIndexSize}
use Rattle.ebc_insn.proofs.Bytes.{length_bytes_of, length_field_bytes}
use Rattle.ebc_insn.specs.declared.Size.{Size}
use Rattle.ebc_insn.specs.declared.Size.TheVariants as sizes
use Rattle.ebc_insn.specs.declared.Insn.{Insn}
use Rattle.ebc_insn.specs.declared.code.Code.{Code}
use Rattle.ebc_insn.specs.declared.code.Field.{Field}
use Rattle.ebc_insn.specs.Spelling.{IsWordOrDword, MoveFits, bytes_of, field_bytes, field_size}
use Rattle.ebc_decode.specs.Reading.{bits_at, field_at, flag, form_at, insn_at, is_direct_index, is_reserved, parts_at, read, read_form}
use Rattle.ebc_decode.specs.Reading.{size1_at, size2_at, size_if, tail_at, with_length}
use Rattle.ebc_decode.specs.declared.DecodeFault.{DecodeFault}
use Rattle.ebc_decode.specs.declared.DecodeFault.TheVariants as faults
use Rattle.ebc_decode.specs.declared.form.Form.{Form}
use Rattle.ebc_decode.specs.declared.form.Form.TheVariants as forms
use Rattle.ebc_decode.proofs.Fields.{FieldFits, IsFieldOf, IsFieldSize, bits_sized, field_again, reads_field}
use Rattle.ebc_decode.proofs.Forms.{FormFits, form_whole}
use Rattle.ebc_decode.proofs.Numbers.{IsBytes, IsBytes-drop, IsBytes-take}

-- The two bytes of some parts have the opcode of a form, and are right for it; the fields have the sizes that they say,
-- and numbers that fit.
pub record IsFormOf (c : Code) (f : Form) : Type 0 where
  pub form : form_at (c.first % 64) ≡ Some f
  pub proper : is_reserved f c.first c.second ≡ false
  pub indirect : is_direct_index f c.first c.second ≡ false
  pub one : size1_at f c.first c.second ≡ field_size c.one
  pub two : size2_at f c.first ≡ field_size c.two
  pub fits : FieldFits c.one × FieldFits c.two

-- ---- from parts to bytes

take_field : (f : Field) (ys : List ℕ) → take (field_size f) (field_bytes f ++ ys) ≡ field_bytes f
take_field f ys =
    subst (λ n. take n (field_bytes f ++ ys) ≡ field_bytes f) (length_field_bytes f)
    (take-append_seam (field_bytes f) ys)

drop_field : (f : Field) (ys : List ℕ) → drop (field_size f) (field_bytes f ++ ys) ≡ ys
drop_field f ys =
    subst (λ n. drop n (field_bytes f ++ ys) ≡ ys) (length_field_bytes f) (drop-append_seam (field_bytes f) ys)

-- The parts are found in their bytes.
parts_again :
    (c : Code) (f : Form) (rest : List ℕ) → IsFormOf c f →
    parts_at f c.first c.second (field_bytes c.one ++ (field_bytes c.two ++ rest)) ≡ c
unfolding parts_at
parts_again c f rest s =
    let after : List ℕ = field_bytes c.two ++ rest in
    rw (
      s.one,
      s.two,
      take_field c.one after,
      drop_field c.one after,
      take_field c.two rest,
      field_again c.one s.fits.0,
      field_again c.two s.fits.1,
    ) refl

-- Nothing is wrong with two bytes and fields that are right.
reads_tail :
    (c : Code) (f : Form) (rest : List ℕ) → IsFormOf c f →
    read_form (Some f) c.first c.second (field_bytes c.one ++ (field_bytes c.two ++ rest))
    ≡ with_length (2 + (field_size c.one + field_size c.two)) (insn_at f c)
reads_tail c f rest s =
    let after : List ℕ = field_bytes c.two ++ rest in
    let whole = length-append (field_bytes c.one) after in
    let enough : field_size c.one + field_size c.two ≤ length (field_bytes c.one ++ after) =
    omega (arith, whole, length-append (field_bytes c.two) rest, length_field_bytes c.one, length_field_bytes c.two) in
    let long : nat_lt (length (field_bytes c.one ++ after)) (field_size c.one + field_size c.two) ≡ false = le-ltb _ _
    enough in
    rw (s.proper, s.indirect, parts_again c f rest s, s.one, s.two, long) refl

-- The bytes of parts that are right read as the instruction of the parts, whatever follows.
pub reads_again :
    (c : Code) (f : Form) (rest : List ℕ) → IsFormOf c f →
    read (bytes_of c ++ rest) ≡ with_length (length (bytes_of c)) (insn_at f c)
unfolding read bytes_of
reads_again c f rest s =
    let size : length (bytes_of c) ≡ 2 + (field_size c.one + field_size c.two) = omega (arith, length_bytes_of c) in
    rw (size, append_assoc (field_bytes c.one) (field_bytes c.two) rest, s.form) (reads_tail c f rest s)

-- ---- from bytes to parts

-- The bytes begin with two bytes that are right for a form f, and with its fields.
pub record IsReadAs (bytes : List ℕ) (i : Insn) (n : ℕ) (f : Form) (b0 b1 : ℕ) (rest : List ℕ) : Type 0 where
  pub whole : bytes ≡ b0 ∷ b1 ∷ rest
  pub form : form_at (b0 % 64) ≡ Some f
  pub proper : is_reserved f b0 b1 ≡ false
  pub indirect : is_direct_index f b0 b1 ≡ false
  pub long : tail_at f b0 b1 ≤ length rest
  pub insn : insn_at f (parts_at f b0 b1 rest) ≡ Some i
  pub size : n ≡ 2 + tail_at f b0 b1

-- Some parts are those of what was read.
pub record IsRead (bytes : List ℕ) (i : Insn) (n : ℕ) : Type 0 where
  pub f : Form
  pub b0 : ℕ
  pub b1 : ℕ
  pub rest : List ℕ
  pub parts : IsReadAs bytes i n f b0 b1 rest

pub same_ok : (a b : Insn × ℕ) → ◌≡◌ {A = Result (Insn × ℕ) DecodeFault} (Ok a) (Ok b) → a ≡ b
same_ok a b e = cc

-- The instruction and the length, by what is read of the parts.
by_insn : (o : Option Insn) (i : Insn) (m n : ℕ) → with_length m o ≡ Ok (i, n) → (o ≡ Some i) × (n ≡ m)
by_insn None i m n e = absurd (cc)
by_insn (Some j) i m n e =
    let same = same_ok (j, m) (i, n) e in
    (ap Some (ap (λ x. x.0) same), sym (ap (λ x. x.1) same))

-- The parts, by what the tests of two bytes and of the length say.
by_tests :
    (f : Form) (b0 b1 : ℕ) (rest : List ℕ) (i : Insn) (n : ℕ) → form_at (b0 % 64) ≡ Some f → (r d s : Bool) →
    is_reserved f b0 b1 ≡ r → is_direct_index f b0 b1 ≡ d → nat_lt (length rest) (tail_at f b0 b1) ≡ s →
    (if r then Err faults.Reserved else if d then Err faults.DirectIndex else if s then Err faults.Short else
    with_length (2 + tail_at f b0 b1) (insn_at f (parts_at f b0 b1 rest))) ≡ Ok (i, n) →
    IsRead (b0 ∷ b1 ∷ rest) i n
by_tests f b0 b1 rest i n form true d s p q t e = absurd (cc)
by_tests f b0 b1 rest i n form false true s p q t e = absurd (cc)
by_tests f b0 b1 rest i n form false false true p q t e = absurd (cc)
by_tests f b0 b1 rest i n form false false false p q t e =
    let w = by_insn (insn_at f (parts_at f b0 b1 rest)) i (2 + tail_at f b0 b1) n e in
    record {
      f = f;
      b0 = b0;
      b1 = b1;
      rest = rest;
      parts = record {
        whole = refl;
        form = form;
        proper = p;
        indirect = q;
        long = grind arith;
        insn = w.0;
        size = w.1;
      };
    }

-- The parts, by the form that the opcode names.
by_form :
    (b0 b1 : ℕ) (rest : List ℕ) (i : Insn) (n : ℕ) (o : Option Form) → form_at (b0 % 64) ≡ o →
    read_form o b0 b1 rest ≡ Ok (i, n) → IsRead (b0 ∷ b1 ∷ rest) i n
by_form b0 b1 rest i n None form e = absurd (cc)
by_form b0 b1 rest i n (Some f) form e = by_tests f b0 b1 rest i n form _ _ _ refl refl refl e

-- What is read has parts.
pub read_parts : (bytes : List ℕ) (i : Insn) (n : ℕ) → read bytes ≡ Ok (i, n) → IsRead bytes i n
unfolding read
read_parts [] i n e = absurd (cc)
read_parts (b0 ∷ []) i n e = absurd (cc)
read_parts (b0 ∷ b1 ∷ rest) i n e = by_form b0 b1 rest i n _ refl e

-- ---- the sizes of the fields

size_if_sized : (there : Bool) (bits : ℕ) → IsIndexSize bits → IsFieldSize (size_if there bits)
size_if_sized true bits size = bits_sized bits size
size_if_sized false bits size = inl refl

pub target_sized : (far : Bool) → IsIndexSize (if far then 64 else 32)
target_sized true = inr (inr refl)
target_sized false = inr (inl refl)

pub narrow_sized : (bits : ℕ) → IsWordOrDword bits → IsIndexSize bits
narrow_sized bits h = ⊎_elim (λ e. inl e) (λ e. inr (inl e)) h

pub move_sized : (size : Size) (bits : ℕ) → MoveFits size bits → IsIndexSize bits
move_sized sizes.Byte bits h = narrow_sized bits h
move_sized sizes.Word bits h = narrow_sized bits h
move_sized sizes.Dword bits h = narrow_sized bits h
move_sized sizes.Qword bits h = h
move_sized sizes.Natural bits h = narrow_sized bits h

pub width_sized : (n : ℕ) → IsIndexSize (bits_at n)
width_sized n = grind arith

pub size1_sized : (f : Form) (b0 b1 : ℕ) → FormFits f → IsFieldSize (size1_at f b0 b1)
unfolding size1_at
size1_sized forms.Jump b0 b1 h = size_if_sized (flag (b0 / 128)) _ (target_sized (flag (b0 / 64)))
size1_sized forms.Call b0 b1 h = size_if_sized (flag (b0 / 128)) _ (target_sized (flag (b0 / 64)))
size1_sized (forms.Compare op) b0 b1 h = size_if_sized (flag (b0 / 128)) 16 (inl refl)
size1_sized (forms.CompareImm op) b0 b1 h = size_if_sized (flag (b1 / 16)) 16 (inl refl)
size1_sized (forms.Arith op) b0 b1 h = size_if_sized (flag (b0 / 128)) 16 (inl refl)
size1_sized (forms.Move size bits) b0 b1 h = size_if_sized (flag (b0 / 128)) bits (move_sized size bits h)
size1_sized (forms.MoveSigned bits) b0 b1 h = size_if_sized (flag (b0 / 128)) bits (narrow_sized bits h)
size1_sized forms.MoveImm b0 b1 h = size_if_sized (flag (b1 / 64)) 16 (inl refl)
size1_sized forms.MoveImmNatural b0 b1 h = size_if_sized (flag (b1 / 64)) 16 (inl refl)
size1_sized forms.MoveRelative b0 b1 h = size_if_sized (flag (b1 / 64)) 16 (inl refl)
size1_sized forms.Push b0 b1 h = size_if_sized (flag (b0 / 128)) 16 (inl refl)
size1_sized forms.Pop b0 b1 h = size_if_sized (flag (b0 / 128)) 16 (inl refl)
size1_sized forms.PushNatural b0 b1 h = size_if_sized (flag (b0 / 128)) 16 (inl refl)
size1_sized forms.PopNatural b0 b1 h = size_if_sized (flag (b0 / 128)) 16 (inl refl)
size1_sized forms.Break b0 b1 h = inl refl
size1_sized forms.Jump8 b0 b1 h = inl refl
size1_sized forms.Ret b0 b1 h = inl refl
size1_sized forms.LoadSpecial b0 b1 h = inl refl
size1_sized forms.StoreSpecial b0 b1 h = inl refl

immediate_sized : (long : Bool) → IsFieldSize (if long then 4 else 2)
immediate_sized true = inr (inr (inl refl))
immediate_sized false = inr (inl refl)

pub size2_sized : (f : Form) (b0 : ℕ) → FormFits f → IsFieldSize (size2_at f b0)
unfolding size2_at
size2_sized (forms.CompareImm op) b0 h = immediate_sized (flag (b0 / 128))
size2_sized (forms.Move size bits) b0 h = size_if_sized (flag (b0 / 64)) bits (move_sized size bits h)
size2_sized (forms.MoveSigned bits) b0 h = size_if_sized (flag (b0 / 64)) bits (narrow_sized bits h)
size2_sized forms.MoveImm b0 h = bits_sized _ (width_sized (b0 / 64))
size2_sized forms.MoveImmNatural b0 h = bits_sized _ (width_sized (b0 / 64))
size2_sized forms.MoveRelative b0 h = bits_sized _ (width_sized (b0 / 64))
size2_sized forms.Break b0 h = inl refl
size2_sized forms.Jump b0 h = inl refl
size2_sized forms.Jump8 b0 h = inl refl
size2_sized forms.Call b0 h = inl refl
size2_sized forms.Ret b0 h = inl refl
size2_sized (forms.Compare op) b0 h = inl refl
size2_sized (forms.Arith op) b0 h = inl refl
size2_sized forms.LoadSpecial b0 h = inl refl
size2_sized forms.StoreSpecial b0 h = inl refl
size2_sized forms.Push b0 h = inl refl
size2_sized forms.Pop b0 h = inl refl
size2_sized forms.PushNatural b0 h = inl refl
size2_sized forms.PopNatural b0 h = inl refl

-- The front of a list is read as a field of so many bytes.
read_front :
    (k : ℕ) (bytes : List ℕ) → IsBytes bytes → IsFieldSize k → k ≤ length bytes →
    IsFieldOf (take k bytes) (field_at (take k bytes)) × (length (take k bytes) ≡ k)
read_front k bytes each size long =
    let whole : length (take k bytes) ≡ k = omega (arith, length-take k bytes) in
    (reads_field (take k bytes) (IsBytes-take k bytes each) (subst IsFieldSize (sym whole) size), whole)

two_more : (n : ℕ) → 2 + n ≡ suc (suc n)
two_more n = omega arith

front : (n b0 b1 : ℕ) (rest : List ℕ) → take (2 + n) (b0 ∷ b1 ∷ rest) ≡ b0 ∷ b1 ∷ take n rest
front n b0 b1 rest = ap (λ k. take k (b0 ∷ b1 ∷ rest)) (two_more n)

-- The parts of two bytes that are right, and of what follows them, are right, and spelled by the bytes at the front.
pub record IsPartsAt (f : Form) (b0 b1 : ℕ) (rest : List ℕ) : Type 0 where
  pub is_form : IsFormOf (parts_at f b0 b1 rest) f
  pub spelled : bytes_of (parts_at f b0 b1 rest) ≡ take (2 + tail_at f b0 b1) (b0 ∷ b1 ∷ rest)

pub parts_right :
    (f : Form) (b0 b1 : ℕ) (rest : List ℕ) → IsBytes (b0 ∷ b1 ∷ rest) → form_at (b0 % 64) ≡ Some f →
    is_reserved f b0 b1 ≡ false → is_direct_index f b0 b1 ≡ false → tail_at f b0 b1 ≤ length rest →
    IsPartsAt f b0 b1 rest
unfolding parts_at bytes_of
parts_right f b0 b1 rest each form proper indirect long =
    let fits = (form_whole (b0 % 64) f form).fits in
    let k1 : ℕ = size1_at f b0 b1 in
    let k2 : ℕ = size2_at f b0 in
    let after : IsBytes rest = IsBytes-drop 2 (b0 ∷ b1 ∷ rest) each in
    let one = read_front k1 rest after (size1_sized f b0 b1 fits) (omega arith) in
    let two = read_front k2 (drop k1 rest) (IsBytes-drop k1 rest after) (size2_sized f b0 fits)
    (omega (arith, length-drop k1 rest)) in
    record {
      is_form = record {
        form = form;
        proper = proper;
        indirect = indirect;
        one = sym (one.0.size ∙ one.1);
        two = sym (two.0.size ∙ two.1);
        fits = (one.0.fits, two.0.fits);
      };
      spelled = rw (front (k1 + k2) b0 b1 rest, one.0.spelled, two.0.spelled, take-add k1 k2 rest) refl;
    }
