-- What is read has an even length, and no index beside a register.
use Rattle.plain_check.proofs.Common.{◌≡◌, ℕ, ◌%◌, Bool, true, false, ◌&&◌, not, List, Option, Some, None, Ok, if◌then◌else◌, refl, subst}
use Rattle.plain_check.proofs.Common.{arith, inl, inr, Index, Operand, Extra, Nothing, Imm, Idx, Insn, read, insn_at, size1_at, size2_at}
use Rattle.std.proofs.Common.{◌/◌}
use Rattle.std.specs.Option.{option_map, option_and_then}
use Rattle.ebc_insn.specs.declared.code.{Code.Code, Field.Field}
use Rattle.ebc_decode.specs.declared.form.Form.{Form}
use Rattle.ebc_decode.specs.Reading.{extra_at, index_at, int_at, optional_at, left_at, right_at, bits_at}
use Rattle.ebc_decode.proofs.{Fields.IsFieldSize, Forms.form_whole, Parts.read_parts, Parts.size1_sized, Parts.size2_sized}
use Rattle.ebc_insn.specs.declared.Insn.TheVariants as insns
use Rattle.ebc_insn.specs.declared.code.Field.TheVariants as fields
use Rattle.ebc_decode.specs.declared.form.Form.TheVariants as forms

-- ---- the length

even-size : (n : ℕ) → IsFieldSize n → n % 2 ≡ 0
even-size n h = elim h [
  | inl none ↦ omega arith
  | inr some ↦ elim some [
    | inl two ↦ omega arith
    | inr more ↦ elim more [ inl four ↦ omega arith | inr eight ↦ omega arith ]
  ]
]

pub read-even : (bytes : List ℕ) (i : Insn) (n : ℕ) → read bytes ≡ Ok (i, n) → n % 2 ≡ 0
read-even bytes i n e =
    let r = read_parts bytes i n e in
    let fits = (form_whole (r.b0 % 64) r.f r.parts.form).fits in
    let one = even-size (size1_at r.f r.b0 r.b1) (size1_sized r.f r.b0 r.b1 fits) in
    let two = even-size (size2_at r.f r.b0) (size2_sized r.f r.b0 fits) in
    omega (arith, r.parts.size)

-- ---- indexes

abbrev pub is_index : Extra → Bool
is_index Nothing = false
is_index (Imm v) = false
is_index (Idx index) = true

-- whether an instruction of two operands has an index beside a second operand that is a register
abbrev pub misplaced : Insn → Bool
misplaced (insns.Compare op wide left right extra) = not right.indirect && is_index extra
misplaced (insns.Arith op wide left right extra) = not right.indirect && is_index extra
misplaced i = false

placed : (there : Bool) (index : Option Index) (v : Extra) (x : Extra) → is_index v ≡ false
    → (if there then option_map Idx index else Some v) ≡ Some x → (not there && is_index x) ≡ false
placed true index v x plain e = refl
placed false index v x plain e = let same : v ≡ x = cc in subst (λ y. is_index y ≡ false) same plain

pub extra-placed : (o : Operand) (f : Field) (x : Extra) → extra_at o f ≡ Some x → (not o.indirect && is_index x) ≡ false
extra-placed o fields.Nothing x e = none o.indirect x e where
  none : (there : Bool) (x : Extra) → Some Nothing ≡ Some x → (not there && is_index x) ≡ false
  none true x e = refl
  none false x e = let same : Nothing ≡ x = cc in subst (λ y. is_index y ≡ false) same refl
extra-placed o (fields.Word n) x e = placed o.indirect (index_at (fields.Word n)) (Imm (int_at (fields.Word n))) x refl e
extra-placed o (fields.Dword n) x e = placed o.indirect (index_at (fields.Dword n)) (Imm (int_at (fields.Dword n))) x refl e
extra-placed o (fields.Qword n) x e = placed o.indirect (index_at (fields.Qword n)) (Imm (int_at (fields.Qword n))) x refl e

-- what is made of something that was read
made : {A : Type 0} (make : A → Insn) (o : Option A) (i : Insn) → ((x : A) → o ≡ Some x → misplaced (make x) ≡ false)
    → option_map make o ≡ Some i → misplaced i ≡ false
made make None i each e = cc
made make (Some x) i each e = let same : make x ≡ i = cc in subst (λ j. misplaced j ≡ false) same (each x refl)

made-both : {A B : Type 0} (make : A → B → Insn) (o : Option A) (p : Option B) (i : Insn) → ((x : A) (y : B) → misplaced (make x y) ≡ false)
    → option_and_then (λ a. option_map (make a) p) o ≡ Some i → misplaced i ≡ false
made-both make None p i each e = cc
made-both make (Some x) p i each e = made (make x) p i (λ y found. each x y) e

made-plainly : (j i : Insn) → misplaced j ≡ false → Some j ≡ Some i → misplaced i ≡ false
made-plainly j i proper e = let same : j ≡ i = cc in subst (λ k. misplaced k ≡ false) same proper

of-parts : (f : Form) (c : Code) (i : Insn) → insn_at f c ≡ Some i → misplaced i ≡ false
unfolding insn_at
of-parts forms.Break c i e = made-plainly _ i refl e
of-parts forms.Jump c i e = made _ _ i (λ x found. refl) e
of-parts forms.Jump8 c i e = made-plainly _ i refl e
of-parts forms.Call c i e = made _ _ i (λ x found. refl) e
of-parts forms.Ret c i e = made-plainly _ i refl e
of-parts (forms.Compare op) c i e = made _ _ i (λ x found. extra-placed (right_at c.second) c.one x found) e
of-parts (forms.CompareImm op) c i e = made _ _ i (λ x found. refl) e
of-parts (forms.Arith op) c i e = made _ _ i (λ x found. extra-placed (right_at c.second) c.one x found) e
of-parts (forms.Move size bits) c i e = made-both (insns.Move size bits (left_at c.second) (right_at c.second)) (optional_at c.one)
    (optional_at c.two) i (λ x y. refl) e
of-parts (forms.MoveSigned bits) c i e = made-both (insns.MoveSigned bits (left_at c.second) (right_at c.second)) (optional_at c.one)
    (extra_at (right_at c.second) c.two) i (λ x y. refl) e
of-parts forms.MoveImm c i e = made _ _ i (λ x found. refl) e
of-parts forms.MoveImmNatural c i e = made-both (insns.MoveImmNatural (bits_at (c.first / 64)) (left_at c.second)) (optional_at c.one)
    (index_at c.two) i (λ x y. refl) e
of-parts forms.MoveRelative c i e = made _ _ i (λ x found. refl) e
of-parts forms.LoadSpecial c i e = made-plainly _ i refl e
of-parts forms.StoreSpecial c i e = made-plainly _ i refl e
of-parts forms.Push c i e = made _ _ i (λ x found. refl) e
of-parts forms.Pop c i e = made _ _ i (λ x found. refl) e
of-parts forms.PushNatural c i e = made _ _ i (λ x found. refl) e
of-parts forms.PopNatural c i e = made _ _ i (λ x found. refl) e

pub read-placed : (bytes : List ℕ) (i : Insn) (n : ℕ) → read bytes ≡ Ok (i, n) → misplaced i ≡ false
read-placed bytes i n e =
    let r = read_parts bytes i n e in
    of-parts r.f _ i r.parts.insn
