-- Two bytes that are right for a form begin a spelling: with zeros in its fields they read as an instruction.
use Rattle.std.proofs.Common.{◌≡◌, ℕ, ◌/◌, ◌%◌, ◌<◌, ◌↔◌, Bool, true, false, ◌||◌, nat_eq, List, [], ◌∷◌, ◌++◌, length, arith, ⊎_elim, ap}
use Rattle.std.proofs.Common.{subst, sym, refl, ◌∙◌, append-nil, Option, Some, Ok, if◌then◌else◌}
use Rattle.std.specs.Option.{option_map, option_and_then}
use Rattle.ebc_insn.specs.declared.Operand.{Operand}
use Rattle.ebc_insn.specs.declared.Extra.{Extra}
use Rattle.ebc_insn.specs.declared.Insn.{Insn}
use Rattle.ebc_insn.specs.declared.code.Code.{Code}
use Rattle.ebc_insn.specs.declared.code.Field.{Field}
use Rattle.ebc_insn.specs.declared.code.Field.TheVariants as fields
use Rattle.ebc_insn.specs.Spelling.{Spells, bytes_of, code, field_bytes, field_size, spelling}
use Rattle.ebc_decode.specs.Reading.{bits_at, extra_at, form_at, index_at, insn_at, is_direct_index, is_reserved, left_at, optional_at}
use Rattle.ebc_decode.specs.Reading.{read, right_at, size1_at, size2_at}
use Rattle.ebc_decode.specs.declared.form.Form.{Form}
use Rattle.ebc_decode.specs.declared.form.Form.TheVariants as forms
use Rattle.ebc_decode.proofs.Again.{read_again}
use Rattle.ebc_decode.proofs.Fields.{FieldFits, IsFieldSize}
use Rattle.ebc_decode.proofs.Forms.{form_whole}
use Rattle.ebc_decode.proofs.Found.{found}
use Rattle.ebc_decode.proofs.Parts.{IsFormOf, read_parts, size1_sized, size2_sized}
use Rattle.ebc_base.proofs.Truth.{both_false}
use Rattle.std.proofs.lemmas.Bool.{or_parts}

-- a field of so many bytes with zeros in them
abbrev zero_field : ℕ → Field
zero_field n =
    if nat_eq n 0 then fields.Nothing else if nat_eq n 2 then fields.Word 0 else if nat_eq n 4 then fields.Dword 0 else
    fields.Qword 0

-- What holds of a field of each size holds of a field of some size.
by_zero :
    (P : ℕ → Field → Type 0) → P 0 fields.Nothing → P 2 (fields.Word 0) → P 4 (fields.Dword 0) → P 8 (fields.Qword 0) →
    (n : ℕ) → IsFieldSize n → P n (zero_field n)
by_zero P none two four eight n size =
    ⊎_elim (λ e. subst (λ k. P k (zero_field k)) (sym e) none)
    (⊎_elim (λ e. subst (λ k. P k (zero_field k)) (sym e) two)
    (⊎_elim (λ e. subst (λ k. P k (zero_field k)) (sym e) four)
    (λ e. subst (λ k. P k (zero_field k)) (sym e) eight))) size

zero_size : (n : ℕ) → IsFieldSize n → (n ≡ field_size (zero_field n)) × FieldFits (zero_field n)
zero_size n size =
    by_zero (λ k f. (k ≡ field_size f) × FieldFits f) (refl, tt) (refl, omega arith) (refl, omega arith)
    (refl, omega arith) n size

-- Something is read.
IsSome : {A : Type 0} → Option A → Type 0
IsSome {A = A} o = (x : A) × (o ≡ Some x)

zero_optional : (n : ℕ) → IsFieldSize n → IsSome (optional_at (zero_field n))
unfolding IsSome
zero_optional n size = by_zero (λ k f. IsSome (optional_at f)) (_, refl) (_, refl) (_, refl) (_, refl) n size

zero_extra : (o : Operand) (n : ℕ) → IsFieldSize n → IsSome (extra_at o (zero_field n))
unfolding IsSome
zero_extra o n size =
    by_zero (λ k f. IsSome (extra_at o f)) (_, refl) (by_flag o.indirect _ _) (by_flag o.indirect _ _)
    (by_flag o.indirect _ _) n size where
      by_flag : (b : Bool) (x y : Extra) → IsSome (if b then Some x else Some y)
      by_flag true x y = (x, refl)
      by_flag false x y = (y, refl)

zero_index : (n : ℕ) → IsSome (index_at (zero_field (bits_at n / 8)))
unfolding IsSome
zero_index n = by_width (nat_eq n 1) (nat_eq n 2) where
  by_width : (a b : Bool) → IsSome (index_at (zero_field ((if a then 16 else if b then 32 else 64) / 8)))
  by_width true b = (_, refl)
  by_width false true = (_, refl)
  by_width false false = (_, refl)

some_mapped : {A : Type 0} (make : A → Insn) (o : Option A) → IsSome o → IsSome (option_map make o)
unfolding IsSome
some_mapped make o h = (make h.0, ap (option_map make) h.1)

some_mapped_both :
    {A B : Type 0} (make : A → B → Insn) (o : Option A) (p : Option B) → IsSome o → IsSome p →
    IsSome (option_and_then (λ a. option_map (make a) p) o)
unfolding IsSome
some_mapped_both make o p h k = (make h.0 k.0, rw (h.1, k.1) refl)

-- the parts of two bytes with zeros in the fields
zeros : Form → ℕ → ℕ → Code
zeros f b0 b1 = code b0 b1 (zero_field (size1_at f b0 b1)) (zero_field (size2_at f b0))

-- With zeros in its fields each form reads as an instruction.
some_insn :
    (f : Form) (b0 b1 : ℕ) → IsFieldSize (size1_at f b0 b1) → IsFieldSize (size2_at f b0) →
    IsSome (insn_at f (zeros f b0 b1))
unfolding IsSome zeros insn_at size2_at
some_insn forms.Break b0 b1 one two = (_, refl)
some_insn forms.Jump b0 b1 one two = some_mapped _ _ (zero_extra (left_at b1) _ one)
some_insn forms.Jump8 b0 b1 one two = (_, refl)
some_insn forms.Call b0 b1 one two = some_mapped _ _ (zero_extra (left_at b1) _ one)
some_insn forms.Ret b0 b1 one two = (_, refl)
some_insn (forms.Compare op) b0 b1 one two = some_mapped _ _ (zero_extra (right_at b1) _ one)
some_insn (forms.CompareImm op) b0 b1 one two = some_mapped _ _ (zero_optional _ one)
some_insn (forms.Arith op) b0 b1 one two = some_mapped _ _ (zero_extra (right_at b1) _ one)
some_insn (forms.Move size bits) b0 b1 one two = some_mapped_both _ _ _ (zero_optional _ one) (zero_optional _ two)
some_insn (forms.MoveSigned bits) b0 b1 one two =
    some_mapped_both _ _ _ (zero_optional _ one) (zero_extra (right_at b1) _ two)
some_insn forms.MoveImm b0 b1 one two = some_mapped _ _ (zero_optional _ one)
some_insn forms.MoveImmNatural b0 b1 one two = some_mapped_both _ _ _ (zero_optional _ one) (zero_index (b0 / 64))
some_insn forms.MoveRelative b0 b1 one two = some_mapped _ _ (zero_optional _ one)
some_insn forms.LoadSpecial b0 b1 one two = (_, refl)
some_insn forms.StoreSpecial b0 b1 one two = (_, refl)
some_insn forms.Push b0 b1 one two = some_mapped _ _ (zero_extra (left_at b1) _ one)
some_insn forms.Pop b0 b1 one two = some_mapped _ _ (zero_extra (left_at b1) _ one)
some_insn forms.PushNatural b0 b1 one two = some_mapped _ _ (zero_extra (left_at b1) _ one)
some_insn forms.PopNatural b0 b1 one two = some_mapped _ _ (zero_extra (left_at b1) _ one)

-- Two bytes begin a spelling.
BeginsSpelling : ℕ → ℕ → Type 0
BeginsSpelling b0 b1 = (i : Insn) × (rest : List ℕ) × Spells (b0 ∷ b1 ∷ rest) i

begins :
    (f : Form) (b0 b1 : ℕ) → b0 < 256 → b1 < 256 → form_at (b0 % 64) ≡ Some f →
    (is_reserved f b0 b1 || is_direct_index f b0 b1) ≡ false →
    BeginsSpelling b0 b1
unfolding BeginsSpelling IsSome zeros bytes_of
begins f b0 b1 h0 h1 form right =
    let fits = (form_whole (b0 % 64) f form).fits in
    let one = size1_sized f b0 b1 fits in
    let two = size2_sized f b0 fits in
    let first = zero_size _ one in
    let second = zero_size _ two in
    let both = or_parts (is_reserved f b0 b1) (is_direct_index f b0 b1) right in
    let c : Code = zeros f b0 b1 in
    let s : IsFormOf c f = record {
      form = form;
      proper = both.0;
      indirect = both.1;
      one = first.0;
      two = second.0;
      fits = (first.1, second.1);
    } in
    let some = some_insn f b0 b1 one two in
    let is_found = found f c some.0 s h0 h1 some.1 in (
      some.0,
      field_bytes c.one ++ field_bytes c.two,
      record
          { well_formed = is_found.well_formed; same_bytes = sym (ap bytes_of is_found.same) },
    )

-- Two bytes that begin one list with others are right for a form where those are.
same_right :
    (f g : Form) (a b c d : ℕ) (x y : List ℕ) → a ∷ b ∷ x ≡ c ∷ d ∷ y → form_at (a % 64) ≡ Some f →
    form_at (c % 64) ≡ Some g →
    is_reserved g c d ≡ false → is_direct_index g c d ≡ false →
    (is_reserved f a b ≡ false) × (is_direct_index f a b ≡ false)
same_right f g a b c d x y same p q proper indirect =
    same_bytes f g a b c d (first_same a b c d x y same) (second_same a b c d x y same) p q proper indirect where
      first_same : (a b c d : ℕ) (x y : List ℕ) → a ∷ b ∷ x ≡ c ∷ d ∷ y → a ≡ c
      first_same a b c d x y e = cc

      second_same : (a b c d : ℕ) (x y : List ℕ) → a ∷ b ∷ x ≡ c ∷ d ∷ y → b ≡ d
      second_same a b c d x y e = cc

      form_same : (f g : Form) → Some f ≡ Some g → f ≡ g
      form_same f g e = cc

      same_bytes :
          (f g : Form) (a b c d : ℕ) → a ≡ c → b ≡ d → form_at (a % 64) ≡ Some f → form_at (c % 64) ≡ Some g →
          is_reserved g c d ≡ false → is_direct_index g c d ≡ false →
          (is_reserved f a b ≡ false) × (is_direct_index f a b ≡ false)
      same_bytes f g a b c d e1 e2 p q proper indirect =
          let same : f ≡ g = form_same f g (sym p ∙ (ap (λ n. form_at (n % 64)) e1 ∙ q)) in
          rw (same, e1, e2) (proper, indirect)

begun :
    (f : Form) (b0 b1 : ℕ) → form_at (b0 % 64) ≡ Some f → BeginsSpelling b0 b1 →
    (is_reserved f b0 b1 || is_direct_index f b0 b1) ≡ false
unfolding BeginsSpelling
begun f b0 b1 form h =
    let i : Insn = h.0 in
    let s = h.2 in
    let e : read (b0 ∷ b1 ∷ h.1) ≡ Ok (i, length (spelling i)) = ap read (s.same_bytes ∙ sym (append-nil (spelling i)))
    ∙ read_again i [] s.well_formed in
    let r = read_parts (b0 ∷ b1 ∷ h.1) i (length (spelling i)) e in
    let right = same_right f r.f b0 b1 r.b0 r.b1 h.1 r.rest r.parts.whole form r.parts.form r.parts.proper
    r.parts.indirect in
    both_false _ _ right.0 right.1

-- Two bytes with the opcode of a form begin a spelling exactly where they are right for the form.
pub reserved_is_exact :
    (f : Form) (b0 b1 : ℕ) → b0 < 256 → b1 < 256 → form_at (b0 % 64) ≡ Some f →
    ((is_reserved f b0 b1 || is_direct_index f b0 b1) ≡ false) ↔
    ((i : Insn) × (rest : List ℕ) × Spells (b0 ∷ b1 ∷ rest) i)
unfolding BeginsSpelling
reserved_is_exact f b0 b1 h0 h1 form = (λ right. begins f b0 b1 h0 h1 form right, λ h. begun f b0 b1 form h)
