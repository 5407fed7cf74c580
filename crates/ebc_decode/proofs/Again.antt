-- What is spelled is read, whatever follows: the parts of each instruction are those of a form, and read as it.
use Rattle.std.proofs.Common.{◌≡◌, ◌≢◌, ℕ, ◌+◌, ◌*◌, ◌/◌, ◌%◌, ◌<◌, Bool, true, false, ◌&&◌, ◌||◌, not, nat_eq, nat_le, List, ◌++◌, length}
use Rattle.std.proofs.Common.{arith, ⊎_elim, ap, subst, sym, refl, ◌∙◌, Option, Some, is_some, Ok, ℤ, inl, inr, if◌then◌else◌}
use Rattle.std.proofs.lemmas.Bool.{lt-leb}
use Rattle.std.specs.Option.{option_map, option_and_then}
use Rattle.natural_index.specs.Index.{IsIndexSize, bit}
use Rattle.natural_index.specs.declared.Index.{Index}
use Rattle.ebc_insn.specs.declared.Operand.{Operand}
use Rattle.ebc_insn.specs.declared.Extra.{Extra}
use Rattle.ebc_insn.specs.declared.Extra.TheVariants.{Nothing, Imm, Idx}
use Rattle.ebc_insn.specs.declared.Cond.{Cond}
use Rattle.ebc_insn.specs.declared.Cond.TheVariants.{Always, Set, Clear}
use Rattle.ebc_insn.specs.declared.Size.{Size}
use Rattle.ebc_insn.specs.declared.Size.TheVariants as sizes
use Rattle.ebc_insn.specs.declared.CmpOp.{CmpOp}
use Rattle.ebc_insn.specs.declared.CmpOp.TheVariants as cmps
use Rattle.ebc_insn.specs.declared.ArithOp.{ArithOp}
use Rattle.ebc_insn.specs.declared.ArithOp.TheVariants as ops
use Rattle.ebc_insn.specs.declared.Insn.{Insn}
use Rattle.ebc_insn.specs.declared.Insn.TheVariants as insns
use Rattle.ebc_insn.specs.Spelling.{ExtraFits, IsOperand, IsWordOrDword, MoveFits, NotNatural, TargetFits, WellFormed, arith_number}
use Rattle.ebc_insn.specs.Spelling.{cmp_number, code_of, condition, extra_field, has_extra, immediate_bits, move_opcode, operand, operands}
use Rattle.ebc_insn.specs.Spelling.{signed_opcode, size_number, spelling, target_bits, width_number}
use Rattle.ebc_decode.specs.Reading.{bits_at, cond_at, extra_at, flag, form_at, has_left_index, insn_at, is_reserved, left_at, read}
use Rattle.ebc_decode.specs.Reading.{size1_at, size2_at, size_at, with_length}
use Rattle.ebc_decode.specs.declared.form.Form.{Form}
use Rattle.ebc_decode.specs.declared.form.Form.TheVariants as forms
use Rattle.ebc_decode.proofs.Fields.{extra_again, extra_fits, extra_size, index_fits, index_in_field, index_size, int32_again, int_again}
use Rattle.ebc_decode.proofs.Fields.{int_fits, int_size, left_right, not_direct, optional_again, optional_fits, optional_size}
use Rattle.ebc_decode.proofs.Numbers.{bit_below, flag_bit, head_low, head_seven, head_six, left_again, operand_below, right_again}
use Rattle.ebc_decode.proofs.Numbers.{signed_again}
use Rattle.ebc_decode.proofs.Parts.{IsFormOf, move_sized, narrow_sized, reads_again, target_sized}
use Rattle.ebc_base.proofs.Truth.{both_false}

-- The parts of an instruction are those of a form, and read as it.
pub record IsReadAgain (i : Insn) : Type 0 where
  pub form : Form
  pub right : IsFormOf (code_of i) form
  pub read : insn_at form (code_of i) ≡ Some i

-- ---- the parts of two bytes

not_eq : (a b : ℕ) → a ≢ b → nat_eq a b ≡ false
not_eq a b h = grind arith

is_zero : (n : ℕ) → n ≡ 0 → not (nat_eq n 0) ≡ false
is_zero n h = rw h refl

clear_three : (a b c : Bool) → a ≡ false → b ≡ false → c ≡ false → (a || b || c) ≡ false
clear_three a b c p q r = rw (p, q, r) refl

cond_again : (c : Cond) → cond_at (condition c) ≡ c
cond_again Always = refl
cond_again Set = refl
cond_again Clear = refl

condition_below : (c : Cond) → (condition c < 4) × (condition c ≢ 1)
condition_below Always = (omega arith, λ e. omega arith)
condition_below Set = (omega arith, λ e. omega arith)
condition_below Clear = (omega arith, λ e. omega arith)

cmp_forms :
    (op : CmpOp) →
    (form_at (0x05 + cmp_number op) ≡ Some (forms.Compare op)) ×
    (form_at (0x2D + cmp_number op) ≡ Some (forms.CompareImm op)) × (cmp_number op < 5)
unfolding form_at
cmp_forms cmps.Eq = (refl, refl, omega arith)
cmp_forms cmps.Lte = (refl, refl, omega arith)
cmp_forms cmps.Gte = (refl, refl, omega arith)
cmp_forms cmps.Ulte = (refl, refl, omega arith)
cmp_forms cmps.Ugte = (refl, refl, omega arith)

arith_forms : (op : ArithOp) → (form_at (0x0A + arith_number op) ≡ Some (forms.Arith op)) × (arith_number op < 19)
unfolding form_at
arith_forms ops.Not = (refl, omega arith)
arith_forms ops.Neg = (refl, omega arith)
arith_forms ops.Add = (refl, omega arith)
arith_forms ops.Sub = (refl, omega arith)
arith_forms ops.Mul = (refl, omega arith)
arith_forms ops.Mulu = (refl, omega arith)
arith_forms ops.Div = (refl, omega arith)
arith_forms ops.Divu = (refl, omega arith)
arith_forms ops.Mod = (refl, omega arith)
arith_forms ops.Modu = (refl, omega arith)
arith_forms ops.And = (refl, omega arith)
arith_forms ops.Or = (refl, omega arith)
arith_forms ops.Xor = (refl, omega arith)
arith_forms ops.Shl = (refl, omega arith)
arith_forms ops.Shr = (refl, omega arith)
arith_forms ops.Ashr = (refl, omega arith)
arith_forms ops.Extb = (refl, omega arith)
arith_forms ops.Extw = (refl, omega arith)
arith_forms ops.Extd = (refl, omega arith)

-- the opcode of a move of this size and width names it
MoveForm : Size → ℕ → Type 0
MoveForm size bits = (form_at (move_opcode size bits) ≡ Some (forms.Move size bits)) × (move_opcode size bits < 64)

narrow_move : (size : Size) (bits : ℕ) → MoveForm size 16 → MoveForm size 32 → IsWordOrDword bits → MoveForm size bits
narrow_move size bits a b h = ⊎_elim (λ e. subst (MoveForm size) (sym e) a) (λ e. subst (MoveForm size) (sym e) b) h

move_forms : (size : Size) (bits : ℕ) → MoveFits size bits → MoveForm size bits
unfolding form_at MoveForm
move_forms sizes.Byte bits h = narrow_move sizes.Byte bits (refl, omega arith) (refl, omega arith) h
move_forms sizes.Word bits h = narrow_move sizes.Word bits (refl, omega arith) (refl, omega arith) h
move_forms sizes.Dword bits h = narrow_move sizes.Dword bits (refl, omega arith) (refl, omega arith) h
move_forms sizes.Natural bits h = narrow_move sizes.Natural bits (refl, omega arith) (refl, omega arith) h
move_forms sizes.Qword bits h = quad bits h where
  quad : (bits : ℕ) → IsIndexSize bits → MoveForm sizes.Qword bits
  quad bits h =
      ⊎_elim (λ e. subst (MoveForm sizes.Qword) (sym e) (refl, omega arith))
      (⊎_elim (λ e. subst (MoveForm sizes.Qword) (sym e) (refl, omega arith))
      (λ e. subst (MoveForm sizes.Qword) (sym e) (refl, omega arith))) h

SignedForm : ℕ → Type 0
SignedForm bits = (form_at (signed_opcode bits) ≡ Some (forms.MoveSigned bits)) × (signed_opcode bits < 64)

signed_form : (bits : ℕ) → IsWordOrDword bits → SignedForm bits
unfolding form_at SignedForm
signed_form bits h =
    ⊎_elim (λ e. subst SignedForm (sym e) (refl, omega arith)) (λ e. subst SignedForm (sym e) (refl, omega arith)) h

bits_again :
    (bits : ℕ) → IsIndexSize bits →
    (bits_at (width_number bits) ≡ bits) × (0 < width_number bits) × (width_number bits < 4)
bits_again bits size = (grind arith, grind arith, grind arith)

size_again : (size : Size) → NotNatural size → (size_at (size_number size) ≡ size) × (size_number size < 4)
size_again sizes.Byte h = (refl, omega arith)
size_again sizes.Word h = (refl, omega arith)
size_again sizes.Dword h = (refl, omega arith)
size_again sizes.Qword h = (refl, omega arith)
size_again sizes.Natural h = absurd h

-- ---- forms with no field

again_break : (n : ℕ) → IsReadAgain (insns.Break n)
unfolding form_at is_reserved has_left_index size1_at size2_at insn_at
again_break n = record {
  form = forms.Break;
  right = record { form = refl; proper = refl; indirect = refl; one = refl; two = refl; fits = (tt, tt) };
  read = refl;
}

again_ret : IsReadAgain insns.Ret
unfolding form_at is_reserved has_left_index size1_at size2_at insn_at
again_ret = record {
  form = forms.Ret;
  right = record { form = refl; proper = refl; indirect = refl; one = refl; two = refl; fits = (tt, tt) };
  read = refl;
}

again_jump8 : (c : Cond) (v : ℤ) → WellFormed (insns.Jump8 c v) → IsReadAgain (insns.Jump8 c v)
unfolding form_at is_reserved has_left_index size1_at size2_at insn_at
again_jump8 c v h =
    let k = condition_below c in
    let low : (2 + 64 * condition c) % 64 ≡ 2 = omega arith in
    let high : (2 + 64 * condition c) / 64 ≡ condition c = omega arith in
    record {
      form = forms.Jump8;
      right = record {
        form = ap form_at low;
        proper = rw high (not_eq _ 1 k.1);
        indirect = refl;
        one = refl;
        two = refl;
        fits = (tt, tt);
      };
      read = rw (high, cond_again c, signed_again 8 v (omega arith) h) refl;
    }

-- a number below 8 and one above it in four more bits
nibbles :
    (low high : ℕ) → low < 8 →
    ((low + 16 * high) % 8 ≡ low) × ((low + 16 * high) / 8 % 2 ≡ 0) × ((low + 16 * high) / 16 ≡ high) ×
    ((low + 16 * high) % 16 ≡ low)
nibbles low high h = (omega arith, omega arith, omega arith, omega arith)

again_load : (from : ℕ) → WellFormed (insns.LoadSpecial from) → IsReadAgain (insns.LoadSpecial from)
unfolding form_at is_reserved has_left_index size1_at size2_at insn_at
again_load from h =
    let place : 16 * from / 16 ≡ from = omega arith in
    record {
      form = forms.LoadSpecial;
      right = record {
        form = refl;
        proper = both_false (not (nat_eq (16 * from % 16) 0)) (flag (16 * from / 128)) (is_zero _ (omega arith))
            (flag_bit _ false (omega arith));
        indirect = refl;
        one = refl;
        two = refl;
        fits = (tt, tt);
      };
      read = ap (λ n. Some (insns.LoadSpecial n)) place;
    }

again_store :
    (to special : ℕ) → WellFormed (insns.StoreSpecial to special) → IsReadAgain (insns.StoreSpecial to special)
unfolding form_at is_reserved has_left_index size1_at size2_at insn_at
again_store to special h =
    let parts = nibbles to special h.0 in
    record {
      form = forms.StoreSpecial;
      right = record {
        form = refl;
        proper = both_false (flag ((to + 16 * special) / 8)) (nat_le 2 ((to + 16 * special) / 16))
            (flag_bit _ false parts.1) (rw parts.2 (lt-leb 2 special h.1));
        indirect = refl;
        one = refl;
        two = refl;
        fits = (tt, tt);
      };
      read = rw (parts.0, parts.2) refl;
    }

-- ---- forms with what stands beside an operand

-- What is made of what was read.
mapped :
    {A : Type 0} (make : A → Insn) (o : Option A) (x : A) (i : Insn) → o ≡ Some x → make x ≡ i →
    option_map make o ≡ Some i
mapped make o x i e same = rw e (ap Some same)

beside :
    (bits : ℕ) (o p : Operand) (x : Extra) → IsIndexSize bits → ExtraFits bits o x → p ≡ o →
    extra_at p (extra_field bits x) ≡ Some x
beside bits o p x size fits same = ap (λ q. extra_at q (extra_field bits x)) same ∙ extra_again bits o x size fits

again_arith :
    (op : ArithOp) (wide : Bool) (l r : Operand) (x : Extra) → WellFormed (insns.Arith op wide l r x) →
    IsReadAgain (insns.Arith op wide l r x)
unfolding is_reserved has_left_index size1_at size2_at insn_at
again_arith op wide l r x h =
    let n : ℕ = 0x0A + arith_number op in
    let below : n < 64 = omega (arith, (arith_forms op).1) in
    let word : IsIndexSize 16 = inl refl in
    let six = head_six n wide (has_extra x) below in
    let seven = head_seven n wide (has_extra x) below in
    let left = left_again (operands l r) l h.0 (omega (arith, operand_below l h.0)) in
    let right = right_again (operands l r) r h.1 (omega (arith, operand_below l h.0)) in
    record {
      form = forms.Arith op;
      right = record {
        form = rw (head_low n wide (has_extra x) below) (arith_forms op).0;
        proper = refl;
        indirect = refl;
        one = rw seven (extra_size 16 x word);
        two = refl;
        fits = (extra_fits 16 r x word h.2, tt);
      };
      read = mapped _ _ x _ (beside 16 r _ x word h.2 right) (rw (six, left, right) refl);
    }

again_compare :
    (op : CmpOp) (wide : Bool) (l : ℕ) (r : Operand) (x : Extra) → WellFormed (insns.Compare op wide l r x) →
    IsReadAgain (insns.Compare op wide l r x)
unfolding is_reserved has_left_index size1_at size2_at insn_at
again_compare op wide l r x h =
    let n : ℕ = 0x05 + cmp_number op in
    let below : n < 64 = omega (arith, (cmp_forms op).2) in
    let word : IsIndexSize 16 = inl refl in
    let six = head_six n wide (has_extra x) below in
    let seven = head_seven n wide (has_extra x) below in
    let parts = nibbles l (operand r) h.0 in
    let right = right_again (l + 16 * operand r) r h.1 parts.2 in
    record {
      form = forms.Compare op;
      right = record {
        form = rw (head_low n wide (has_extra x) below) (cmp_forms op).0;
        proper = flag_bit _ false parts.1;
        indirect = refl;
        one = rw seven (extra_size 16 x word);
        two = refl;
        fits = (extra_fits 16 r x word h.2, tt);
      };
      read = mapped _ _ x _ (beside 16 r _ x word h.2 right) (rw (six, parts.0, right) refl);
    }

-- an operand alone in a byte
alone : (o : Operand) → o.reg < 8 → (left_at (operand o) ≡ o) × (not (nat_eq (operand o / 16) 0) ≡ false)
alone o h = (
  left_again (operand o) o h (omega (arith, operand_below o h)),
  is_zero (operand o / 16)
      (omega (arith, operand_below o h)),
)

again_push :
    (wide : Bool) (o : Operand) (x : Extra) → WellFormed (insns.Push wide o x) → IsReadAgain (insns.Push wide o x)
unfolding form_at is_reserved has_left_index size1_at size2_at insn_at
again_push wide o x h =
    let word : IsIndexSize 16 = inl refl in
    let six = head_six 0x2B wide (has_extra x) (omega arith) in
    let seven = head_seven 0x2B wide (has_extra x) (omega arith) in
    let byte = alone o h.0 in
    record {
      form = forms.Push;
      right = record {
        form = rw (head_low 0x2B wide (has_extra x) (omega arith)) refl;
        proper = byte.1;
        indirect = refl;
        one = rw seven (extra_size 16 x word);
        two = refl;
        fits = (extra_fits 16 o x word h.1, tt);
      };
      read = mapped _ _ x _ (beside 16 o _ x word h.1 byte.0) (rw (six, byte.0) refl);
    }

again_pop : (wide : Bool) (o : Operand) (x : Extra) → WellFormed (insns.Pop wide o x) → IsReadAgain (insns.Pop wide o x)
unfolding form_at is_reserved has_left_index size1_at size2_at insn_at
again_pop wide o x h =
    let word : IsIndexSize 16 = inl refl in
    let six = head_six 0x2C wide (has_extra x) (omega arith) in
    let seven = head_seven 0x2C wide (has_extra x) (omega arith) in
    let byte = alone o h.0 in
    record {
      form = forms.Pop;
      right = record {
        form = rw (head_low 0x2C wide (has_extra x) (omega arith)) refl;
        proper = byte.1;
        indirect = refl;
        one = rw seven (extra_size 16 x word);
        two = refl;
        fits = (extra_fits 16 o x word h.1, tt);
      };
      read = mapped _ _ x _ (beside 16 o _ x word h.1 byte.0) (rw (six, byte.0) refl);
    }

again_push_natural :
    (o : Operand) (x : Extra) → WellFormed (insns.PushNatural o x) → IsReadAgain (insns.PushNatural o x)
unfolding form_at is_reserved has_left_index size1_at size2_at insn_at
again_push_natural o x h =
    let word : IsIndexSize 16 = inl refl in
    let six = head_six 0x35 false (has_extra x) (omega arith) in
    let seven = head_seven 0x35 false (has_extra x) (omega arith) in
    let byte = alone o h.0 in
    record {
      form = forms.PushNatural;
      right = record {
        form = rw (head_low 0x35 false (has_extra x) (omega arith)) refl;
        proper = both_false _ _ six byte.1;
        indirect = refl;
        one = rw seven (extra_size 16 x word);
        two = refl;
        fits = (extra_fits 16 o x word h.1, tt);
      };
      read = mapped _ _ x _ (beside 16 o _ x word h.1 byte.0) (rw byte.0 refl);
    }

again_pop_natural : (o : Operand) (x : Extra) → WellFormed (insns.PopNatural o x) → IsReadAgain (insns.PopNatural o x)
unfolding form_at is_reserved has_left_index size1_at size2_at insn_at
again_pop_natural o x h =
    let word : IsIndexSize 16 = inl refl in
    let six = head_six 0x36 false (has_extra x) (omega arith) in
    let seven = head_seven 0x36 false (has_extra x) (omega arith) in
    let byte = alone o h.0 in
    record {
      form = forms.PopNatural;
      right = record {
        form = rw (head_low 0x36 false (has_extra x) (omega arith)) refl;
        proper = both_false _ _ six byte.1;
        indirect = refl;
        one = rw seven (extra_size 16 x word);
        two = refl;
        fits = (extra_fits 16 o x word h.1, tt);
      };
      read = mapped _ _ x _ (beside 16 o _ x word h.1 byte.0) (rw byte.0 refl);
    }

-- ---- jumps and calls

target_extra :
    (far : Bool) (o : Operand) (x : Extra) → TargetFits far o x → IsOperand o × ExtraFits (target_bits far) o x
target_extra false o x h = (h.0, h.1)
target_extra true o Nothing h = absurd h
target_extra true o (Idx i) h = absurd h
target_extra true o (Imm v) h = (omega (arith, h.0), (h.1, h.2))

-- the far form has an address, and no operand 1
target_proper :
    (far : Bool) (o : Operand) (x : Extra) → TargetFits far o x →
    (far && (not (has_extra x) || not (nat_eq (operand o) 0))) ≡ false
target_proper false o x h = refl
target_proper true o Nothing h = absurd h
target_proper true o (Idx i) h = absurd h
target_proper true o (Imm v) h = rw (h.1, h.0) refl

-- the second byte of a jump
jump_parts :
    (a r c : ℕ) → a < 16 → r < 2 → c < 4 →
    ((a + 16 * r + 64 * c) % 16 ≡ a) × ((a + 16 * r + 64 * c) / 16 % 2 ≡ r) × ((a + 16 * r + 64 * c) / 32 % 2 ≡ 0) ×
    ((a + 16 * r + 64 * c) / 64 ≡ c)
jump_parts a r c ha hr hc = (omega arith, omega arith, omega arith, omega arith)

-- the second byte of a call
call_parts :
    (a r n : ℕ) → a < 16 → r < 2 → n < 2 →
    ((a + 16 * r + 32 * n) % 16 ≡ a) × ((a + 16 * r + 32 * n) / 16 % 2 ≡ r) × ((a + 16 * r + 32 * n) / 32 % 2 ≡ n) ×
    ((a + 16 * r + 32 * n) / 64 ≡ 0)
call_parts a r n ha hr hn = (omega arith, omega arith, omega arith, omega arith)

again_jump :
    (c : Cond) (far relative : Bool) (o : Operand) (x : Extra) → WellFormed (insns.Jump c far relative o x) →
    IsReadAgain (insns.Jump c far relative o x)
unfolding form_at is_reserved has_left_index size1_at size2_at insn_at
again_jump c far relative o x h =
    let t = target_extra far o x h in
    let size = target_sized far in
    let six = head_six 1 far (has_extra x) (omega arith) in
    let seven = head_seven 1 far (has_extra x) (omega arith) in
    let b1 : ℕ = operand o + 16 * bit relative + 64 * condition c in
    let parts = jump_parts (operand o) (bit relative) (condition c) (operand_below o t.0) (bit_below relative)
    (condition_below c).0 in
    let left : left_at b1 ≡ o = left_again b1 o t.0 parts.0 in
    let rel : flag (b1 / 16) ≡ relative = flag_bit _ relative parts.1 in
    let cond : cond_at (b1 / 64) ≡ c = ap cond_at parts.3 ∙ cond_again c in
    record {
      form = forms.Jump;
      right = record {
        form = rw (head_low 1 far (has_extra x) (omega arith)) refl;
        proper = clear_three (flag (b1 / 32)) (nat_eq (b1 / 64) 1) _ (flag_bit _ false parts.2)
            (rw parts.3 (not_eq _ 1 (condition_below c).1)) (rw (six, seven, parts.0) (target_proper far o x h));
        indirect = refl;
        one = rw (six, seven) (extra_size (target_bits far) x size);
        two = refl;
        fits = (extra_fits (target_bits far) o x size t.1, tt);
      };
      read = mapped _ _ x _ (beside (target_bits far) o _ x size t.1 left) (rw (six, left, rel, cond) refl);
    }

again_call :
    (far native relative : Bool) (o : Operand) (x : Extra) → WellFormed (insns.Call far native relative o x) →
    IsReadAgain (insns.Call far native relative o x)
unfolding form_at is_reserved has_left_index size1_at size2_at insn_at
again_call far native relative o x h =
    let t = target_extra far o x h in
    let size = target_sized far in
    let six = head_six 3 far (has_extra x) (omega arith) in
    let seven = head_seven 3 far (has_extra x) (omega arith) in
    let b1 : ℕ = operand o + 16 * bit relative + 32 * bit native in
    let parts = call_parts (operand o) (bit relative) (bit native) (operand_below o t.0) (bit_below relative)
    (bit_below native) in
    let left : left_at b1 ≡ o = left_again b1 o t.0 parts.0 in
    let rel : flag (b1 / 16) ≡ relative = flag_bit _ relative parts.1 in
    let nat : flag (b1 / 32) ≡ native = flag_bit _ native parts.2 in
    record {
      form = forms.Call;
      right = record {
        form = rw (head_low 3 far (has_extra x) (omega arith)) refl;
        proper = both_false (not (nat_eq (b1 / 64) 0)) _ (is_zero (b1 / 64) parts.3)
            (rw (six, seven, parts.0) (target_proper far o x h));
        indirect = refl;
        one = rw (six, seven) (extra_size (target_bits far) x size);
        two = refl;
        fits = (extra_fits (target_bits far) o x size t.1, tt);
      };
      read = mapped _ _ x _ (beside (target_bits far) o _ x size t.1 left) (rw (six, left, rel, nat) refl);
    }

-- ---- forms with an index of operand 1

-- What is made of two that were read.
mapped_both :
    {A B : Type 0} (make : A → B → Insn) (o : Option A) (p : Option B) (x : A) (y : B) (i : Insn) → o ≡ Some x →
    p ≡ Some y →
    make x y ≡ i → option_and_then (λ a. option_map (make a) p) o ≡ Some i
mapped_both make o p x y i e f same = rw (e, f) (ap Some same)

again_move :
    (size : Size) (bits : ℕ) (l r : Operand) (li ri : Option Index) → WellFormed (insns.Move size bits l r li ri) →
    IsReadAgain (insns.Move size bits l r li ri)
unfolding is_reserved has_left_index size1_at size2_at insn_at MoveForm
again_move size bits l r li ri h =
    let wide = move_sized size bits h.0 in
    let form = move_forms size bits h.0 in
    let n : ℕ = move_opcode size bits in
    let six = head_six n (is_some ri) (is_some li) form.1 in
    let seven = head_seven n (is_some ri) (is_some li) form.1 in
    let left = left_again (operands l r) l h.1 (omega (arith, operand_below l h.1)) in
    let right = right_again (operands l r) r h.2 (omega (arith, operand_below l h.1)) in
    let first = left_right bits l li h.3 in
    record {
      form = forms.Move size bits;
      right = record {
        form = rw (head_low n (is_some ri) (is_some li) form.1) form.0;
        proper = refl;
        indirect = rw (seven, ap (λ o. o.indirect) left) (not_direct bits l li h.3);
        one = rw seven (optional_size bits li wide);
        two = rw six (optional_size bits ri wide);
        fits = (optional_fits bits li wide first, optional_fits bits ri wide h.4);
      };
      read = mapped_both _ _ _ li ri _ (optional_again bits li wide first) (optional_again bits ri wide h.4)
          (rw (left, right) refl);
    }

again_move_signed :
    (bits : ℕ) (l r : Operand) (li : Option Index) (x : Extra) → WellFormed (insns.MoveSigned bits l r li x) →
    IsReadAgain (insns.MoveSigned bits l r li x)
unfolding is_reserved has_left_index size1_at size2_at insn_at SignedForm
again_move_signed bits l r li x h =
    let wide = narrow_sized bits h.0 in
    let form = signed_form bits h.0 in
    let n : ℕ = signed_opcode bits in
    let six = head_six n (has_extra x) (is_some li) form.1 in
    let seven = head_seven n (has_extra x) (is_some li) form.1 in
    let left = left_again (operands l r) l h.1 (omega (arith, operand_below l h.1)) in
    let right = right_again (operands l r) r h.2 (omega (arith, operand_below l h.1)) in
    let first = left_right bits l li h.3 in
    record {
      form = forms.MoveSigned bits;
      right = record {
        form = rw (head_low n (has_extra x) (is_some li) form.1) form.0;
        proper = refl;
        indirect = rw (seven, ap (λ o. o.indirect) left) (not_direct bits l li h.3);
        one = rw seven (optional_size bits li wide);
        two = rw six (extra_size bits x wide);
        fits = (optional_fits bits li wide first, extra_fits bits r x wide h.4);
      };
      read = mapped_both _ _ _ li x _ (optional_again bits li wide first) (beside bits r _ x wide h.4 right)
          (rw (left, right) refl);
    }

-- the second byte of a move of an immediate: operand 1, a size and a bit for the index
imm_parts :
    (a s x : ℕ) → a < 16 → s < 4 → x < 2 →
    ((a + 16 * s + 64 * x) % 16 ≡ a) × ((a + 16 * s + 64 * x) / 16 % 4 ≡ s) × ((a + 16 * s + 64 * x) / 64 % 2 ≡ x) ×
    ((a + 16 * s + 64 * x) / 128 % 2 ≡ 0)
imm_parts a s x ha hs hx = (omega arith, omega arith, omega arith, omega arith)

-- the same without a size
index_parts :
    (a x : ℕ) → a < 16 → x < 2 →
    ((a + 64 * x) % 16 ≡ a) × ((a + 64 * x) / 16 % 4 ≡ 0) × ((a + 64 * x) / 64 % 2 ≡ x) × ((a + 64 * x) / 128 % 2 ≡ 0)
index_parts a x ha hx = (omega arith, omega arith, omega arith, omega arith)

-- the second byte of a comparison with an immediate
mark_parts : (a x : ℕ) → a < 16 → x < 2 → ((a + 16 * x) % 16 ≡ a) × ((a + 16 * x) / 16 ≡ x)
mark_parts a x ha hx = (omega arith, omega arith)

-- the first byte of a move of an immediate
width_parts : (opcode k : ℕ) → opcode < 64 → ((opcode + 64 * k) % 64 ≡ opcode) × ((opcode + 64 * k) / 64 ≡ k)
width_parts opcode k h = (omega arith, omega arith)

again_move_imm :
    (size : Size) (bits : ℕ) (l : Operand) (li : Option Index) (v : ℤ) → WellFormed (insns.MoveImm size bits l li v) →
    IsReadAgain (insns.MoveImm size bits l li v)
unfolding form_at is_reserved has_left_index size1_at size2_at insn_at
again_move_imm size bits l li v h =
    let word : IsIndexSize 16 = inl refl in
    let b = bits_again bits h.0 in
    let s = size_again size h.1 in
    let first = left_right 16 l li h.3 in
    let b1 : ℕ = operand l + 16 * size_number size + 64 * bit (is_some li) in
    let parts = imm_parts (operand l) (size_number size) (bit (is_some li)) (operand_below l h.2) s.1
    (bit_below (is_some li)) in
    let head = width_parts 0x37 (width_number bits) (omega arith) in
    let width : bits_at ((0x37 + 64 * width_number bits) / 64) ≡ bits = ap bits_at head.1 ∙ b.0 in
    let left : left_at b1 ≡ l = left_again b1 l h.2 parts.0 in
    let has : flag (b1 / 64) ≡ is_some li = flag_bit _ (is_some li) parts.2 in
    record {
      form = forms.MoveImm;
      right = record {
        form = ap form_at head.0;
        proper = both_false (nat_eq ((0x37 + 64 * width_number bits) / 64) 0) (flag (b1 / 128))
            (rw head.1 (not_eq _ 0 (λ e. omega (arith, b.1)))) (flag_bit _ false parts.3);
        indirect = rw (has, ap (λ o. o.indirect) left) (not_direct 16 l li h.3);
        one = rw has (optional_size 16 li word);
        two = rw width (sym (int_size bits v h.0));
        fits = (optional_fits 16 li word first, int_fits bits v h.0 h.4);
      };
      read = mapped _ _ li _ (optional_again 16 li word first)
          (rw (left, width, ap size_at parts.1 ∙ s.0, int_again bits v h.0 h.4) refl);
    }

again_move_imm_natural :
    (bits : ℕ) (l : Operand) (li : Option Index) (i : Index) → WellFormed (insns.MoveImmNatural bits l li i) →
    IsReadAgain (insns.MoveImmNatural bits l li i)
unfolding form_at is_reserved has_left_index size1_at size2_at insn_at
again_move_imm_natural bits l li i h =
    let word : IsIndexSize 16 = inl refl in
    let b = bits_again bits h.0 in
    let first = left_right 16 l li h.2 in
    let b1 : ℕ = operand l + 64 * bit (is_some li) in
    let parts = index_parts (operand l) (bit (is_some li)) (operand_below l h.1) (bit_below (is_some li)) in
    let head = width_parts 0x38 (width_number bits) (omega arith) in
    let width : bits_at ((0x38 + 64 * width_number bits) / 64) ≡ bits = ap bits_at head.1 ∙ b.0 in
    let left : left_at b1 ≡ l = left_again b1 l h.1 parts.0 in
    let has : flag (b1 / 64) ≡ is_some li = flag_bit _ (is_some li) parts.2 in
    record {
      form = forms.MoveImmNatural;
      right = record {
        form = ap form_at head.0;
        proper = clear_three (nat_eq ((0x38 + 64 * width_number bits) / 64) 0) (flag (b1 / 128))
            (not (nat_eq (b1 / 16 % 4) 0)) (rw head.1 (not_eq _ 0 (λ e. omega (arith, b.1)))) (flag_bit _ false parts.3)
            (is_zero _ parts.1);
        indirect = rw (has, ap (λ o. o.indirect) left) (not_direct 16 l li h.2);
        one = rw has (optional_size 16 li word);
        two = rw width (sym (index_size bits i h.0));
        fits = (optional_fits 16 li word first, index_fits bits i h.0 h.3);
      };
      read = mapped_both _ _ _ li i _ (optional_again 16 li word first) (index_in_field bits i h.0 h.3)
          (rw (left, width) refl);
    }

again_move_relative :
    (bits : ℕ) (l : Operand) (li : Option Index) (v : ℤ) → WellFormed (insns.MoveRelative bits l li v) →
    IsReadAgain (insns.MoveRelative bits l li v)
unfolding form_at is_reserved has_left_index size1_at size2_at insn_at
again_move_relative bits l li v h =
    let word : IsIndexSize 16 = inl refl in
    let b = bits_again bits h.0 in
    let first = left_right 16 l li h.2 in
    let b1 : ℕ = operand l + 64 * bit (is_some li) in
    let parts = index_parts (operand l) (bit (is_some li)) (operand_below l h.1) (bit_below (is_some li)) in
    let head = width_parts 0x39 (width_number bits) (omega arith) in
    let width : bits_at ((0x39 + 64 * width_number bits) / 64) ≡ bits = ap bits_at head.1 ∙ b.0 in
    let left : left_at b1 ≡ l = left_again b1 l h.1 parts.0 in
    let has : flag (b1 / 64) ≡ is_some li = flag_bit _ (is_some li) parts.2 in
    record {
      form = forms.MoveRelative;
      right = record {
        form = ap form_at head.0;
        proper = clear_three (nat_eq ((0x39 + 64 * width_number bits) / 64) 0) (flag (b1 / 128))
            (not (nat_eq (b1 / 16 % 4) 0)) (rw head.1 (not_eq _ 0 (λ e. omega (arith, b.1)))) (flag_bit _ false parts.3)
            (is_zero _ parts.1);
        indirect = rw (has, ap (λ o. o.indirect) left) (not_direct 16 l li h.2);
        one = rw has (optional_size 16 li word);
        two = rw width (sym (int_size bits v h.0));
        fits = (optional_fits 16 li word first, int_fits bits v h.0 h.3);
      };
      read = mapped _ _ li _ (optional_again 16 li word first) (rw (left, width, int_again bits v h.0 h.3) refl);
    }

immediate_sized :
    (long : Bool) → IsIndexSize (immediate_bits long) × (immediate_bits long / 8 ≡ (if long then 4 else 2))
immediate_sized true = (inr (inl refl), refl)
immediate_sized false = (inl refl, refl)

again_compare_imm :
    (op : CmpOp) (wide : Bool) (l : Operand) (li : Option Index) (long : Bool) (v : ℤ) →
    WellFormed (insns.CompareImm op wide l li long v) →
    IsReadAgain (insns.CompareImm op wide l li long v)
unfolding is_reserved has_left_index size1_at size2_at insn_at
again_compare_imm op wide l li long v h =
    let word : IsIndexSize 16 = inl refl in
    let n : ℕ = 0x2D + cmp_number op in
    let below : n < 64 = omega (arith, (cmp_forms op).2) in
    let six = head_six n wide long below in
    let seven = head_seven n wide long below in
    let size = immediate_sized long in
    let first = left_right 16 l li h.1 in
    let b1 : ℕ = operand l + 16 * bit (is_some li) in
    let parts = mark_parts (operand l) (bit (is_some li)) (operand_below l h.0) (bit_below (is_some li)) in
    let left : left_at b1 ≡ l = left_again b1 l h.0 parts.0 in
    let has : flag (b1 / 16) ≡ is_some li = flag_bit _ (is_some li) (omega (arith, parts.1, bit_below (is_some li))) in
    record {
      form = forms.CompareImm op;
      right = record {
        form = rw (head_low n wide long below) (cmp_forms op).1;
        proper = lt-leb 2 (b1 / 16) (omega (arith, parts.1, bit_below (is_some li)));
        indirect = rw (has, ap (λ o. o.indirect) left) (not_direct 16 l li h.1);
        one = rw has (optional_size 16 li word);
        two = rw seven (sym (int_size (immediate_bits long) v size.0 ∙ size.1));
        fits = (optional_fits 16 li word first, int_fits (immediate_bits long) v size.0 h.2);
      };
      read = mapped _ _ li _ (optional_again 16 li word first) (rw (left, six, seven, int32_again long v h.2) refl);
    }

-- ---- the whole

-- Each instruction that has a spelling has the parts of a form, and reads from them again.
again : (i : Insn) → WellFormed i → IsReadAgain i
again (insns.Break n) h = again_break n
again (insns.Jump c far relative o x) h = again_jump c far relative o x h
again (insns.Jump8 c v) h = again_jump8 c v h
again (insns.Call far native relative o x) h = again_call far native relative o x h
again insns.Ret h = again_ret
again (insns.Compare op wide l r x) h = again_compare op wide l r x h
again (insns.CompareImm op wide l li long v) h = again_compare_imm op wide l li long v h
again (insns.Arith op wide l r x) h = again_arith op wide l r x h
again (insns.Move size bits l r li ri) h = again_move size bits l r li ri h
again (insns.MoveSigned bits l r li x) h = again_move_signed bits l r li x h
again (insns.MoveImm size bits l li v) h = again_move_imm size bits l li v h
again (insns.MoveImmNatural bits l li i) h = again_move_imm_natural bits l li i h
again (insns.MoveRelative bits l li v) h = again_move_relative bits l li v h
again (insns.LoadSpecial from) h = again_load from h
again (insns.StoreSpecial to special) h = again_store to special h
again (insns.Push wide o x) h = again_push wide o x h
again (insns.Pop wide o x) h = again_pop wide o x h
again (insns.PushNatural o x) h = again_push_natural o x h
again (insns.PopNatural o x) h = again_pop_natural o x h

-- What is spelled is read with its length, whatever follows.
pub read_again : (i : Insn) (rest : List ℕ) → WellFormed i → read (spelling i ++ rest) ≡ Ok (i, length (spelling i))
read_again i rest h =
    let a = again i h in
    reads_again (code_of i) a.form rest a.right ∙ ap (with_length (length (spelling i))) a.read
