-- What is read is spelled so: the instruction of parts that are right has a spelling, and these parts.
use Rattle.std.proofs.Common.{◌≡◌, ℕ, ◌+◌, ◌*◌, ◌/◌, ◌%◌, ◌<◌, Bool, true, false, ◌&&◌, ◌||◌, not, nat_eq, nat_le, arith, subst, sym, refl}
use Rattle.std.proofs.Common.{◌∙◌, Option, Some, None, inl}
use Rattle.std.specs.Option.{option_map, option_and_then}
use Rattle.natural_index.specs.Index.{bit}
use Rattle.ebc_insn.specs.declared.Extra.{Extra}
use Rattle.ebc_insn.specs.declared.Extra.TheVariants.{Nothing, Imm, Idx}
use Rattle.ebc_insn.specs.declared.Size.{Size}
use Rattle.ebc_insn.specs.declared.CmpOp.{CmpOp}
use Rattle.ebc_insn.specs.declared.ArithOp.{ArithOp}
use Rattle.ebc_insn.specs.declared.Insn.{Insn}
use Rattle.ebc_insn.specs.declared.code.Code.{Code}
use Rattle.ebc_insn.specs.declared.code.Field.{Field}
use Rattle.ebc_insn.specs.Spelling.{ExtraFits, TargetFits, WellFormed, code, code_of, condition, has_extra, head, operand, operands}
use Rattle.ebc_insn.specs.Spelling.{target_bits, width_number}
use Rattle.ebc_decode.specs.Reading.{bits_at, cond_at, flag, has_left_index, insn_at, is_far_wrong, is_reserved, left_at, operand_at}
use Rattle.ebc_decode.specs.Reading.{right_at, size1_at, size2_at}
use Rattle.ebc_decode.specs.declared.form.Form.{Form}
use Rattle.ebc_decode.specs.declared.form.Form.TheVariants as forms
use Rattle.ebc_decode.proofs.Fields.{extra_whole, index_whole, int32_whole, int_whole, left_fits, nothing_whole, optional_whole, some_same}
use Rattle.ebc_decode.proofs.Forms.{form_whole, opcode_of, size_whole}
use Rattle.ebc_decode.proofs.Numbers.{bit_flag, head_whole, operand_whole, signed_fits, signed_whole}
use Rattle.ebc_decode.proofs.Parts.{IsFormOf, move_sized, narrow_sized, target_sized, width_sized}
use Rattle.std.proofs.lemmas.Bool.{or_parts}

-- The instruction has a spelling, and some parts are its.
pub record IsFound (c : Code) (i : Insn) : Type 0 where
  pub well_formed : WellFormed i
  pub same : code_of i ≡ c

-- ---- the parts

made : ℕ → ℕ → Field → Field → Code
made b0 b1 f g = record { first = b0; second = b1; one = f; two = g }

made_same :
    (a b : ℕ) (f g : Field) {a' b' : ℕ} {f' g' : Field} → a ≡ a' → b ≡ b' → f ≡ f' → g ≡ g' →
    made a b f g ≡ made a' b' f' g'
made_same a b f g p q r s = cc

code_from :
    (c : Code) (b0 b1 : ℕ) (f g : Field) → b0 ≡ c.first → b1 ≡ c.second → f ≡ c.one → g ≡ c.two → code b0 b1 f g ≡ c
unfolding made
code_from c b0 b1 f g p q r s = made_same b0 b1 f g p q r s

-- the opcode of the first byte
opcode_is : (c : Code) (f : Form) → IsFormOf c f → opcode_of f ≡ c.first % 64
opcode_is c f s = (form_whole (c.first % 64) f s.form).opcode

head_from :
    (n opcode : ℕ) (six seven : Bool) → n < 256 → opcode ≡ n % 64 → six ≡ flag (n / 64) → seven ≡ flag (n / 128) →
    head opcode six seven ≡ n
head_from n opcode six seven h p q r = rw (p, q, r) (head_whole n h)

is_register : (n : ℕ) → n % 8 < 8
is_register n = omega arith

operands_whole : (b1 : ℕ) → b1 < 256 → operands (left_at b1) (right_at b1) ≡ b1
operands_whole b1 h = omega (arith, operand_whole (b1 % 16) (omega arith), operand_whole (b1 / 16) (omega arith))

all_clear : (a b c : Bool) → (a || b || c) ≡ false → (a ≡ false) × (b ≡ false) × (c ≡ false)
all_clear false false false e = (refl, refl, refl)
all_clear true b c e = absurd (cc)
all_clear false true c e = absurd (cc)
all_clear false false true e = absurd (cc)

is_zero : (n : ℕ) → not (nat_eq n 0) ≡ false → n ≡ 0
is_zero n e = grind arith

not_flag : (n : ℕ) → flag n ≡ false → n % 2 ≡ 0
not_flag n e = grind arith

cond_whole : (n : ℕ) → n < 4 → nat_eq n 1 ≡ false → condition (cond_at n) ≡ n
cond_whole n h e = grind arith

width_whole : (n : ℕ) → n < 4 → nat_eq n 0 ≡ false → width_number (bits_at n) ≡ n
width_whole n h e = grind arith

-- ---- what was read

-- What was made of something that was read.
pub record IsMadeOf {A : Type 0} (make : A → Insn) (o : Option A) (i : Insn) : Type 0 where
  pub x : A
  pub read : o ≡ Some x
  pub same : make x ≡ i

made_of : {A : Type 0} (make : A → Insn) (o : Option A) (i : Insn) → option_map make o ≡ Some i → IsMadeOf make o i
made_of make None i e = absurd (cc)
made_of make (Some x) i e = record { x = x; read = refl; same = some_same (make x) i e }

-- What was made of two that were read.
pub record IsMadeOfBoth {A B : Type 0} (make : A → B → Insn) (o : Option A) (p : Option B) (i : Insn) : Type 0 where
  pub x : A
  pub y : B
  pub first : o ≡ Some x
  pub second : p ≡ Some y
  pub same : make x y ≡ i

made_of_both :
    {A B : Type 0} (make : A → B → Insn) (o : Option A) (p : Option B) (i : Insn) →
    option_and_then (λ a. option_map (make a) p) o ≡ Some i → IsMadeOfBoth make o p i
made_of_both make None p i e = absurd (cc)
made_of_both make (Some x) p i e =
    let m = made_of (make x) p i e in
    record { x = x; y = m.x; first = refl; second = m.read; same = m.same }

-- ---- forms with no field

Finds : Form → Code → Insn → Type 0
Finds f c i = IsFormOf c f → c.first < 256 → c.second < 256 → insn_at f c ≡ Some i → IsFound c i

found_break : (c : Code) (i : Insn) → Finds forms.Break c i
unfolding Finds is_reserved has_left_index size1_at size2_at insn_at
found_break c i s h0 h1 e =
    let high = is_zero (c.first / 64) s.proper in
    subst (IsFound c) (some_same _ i e) record {
      well_formed = h1;
      same = code_from c _ _ _ _ (omega (arith, opcode_is c forms.Break s)) refl (nothing_whole c.one (sym s.one))
          (nothing_whole c.two (sym s.two));
    }

found_ret : (c : Code) (i : Insn) → Finds forms.Ret c i
unfolding Finds is_reserved has_left_index size1_at size2_at insn_at
found_ret c i s h0 h1 e =
    let clear = or_parts (not (nat_eq (c.first / 64) 0)) (not (nat_eq c.second 0)) s.proper in
    let high = is_zero (c.first / 64) clear.0 in
    subst (IsFound c) (some_same _ i e) record {
      well_formed = tt;
      same = code_from c _ _ _ _ (omega (arith, opcode_is c forms.Ret s)) (sym (is_zero c.second clear.1))
          (nothing_whole c.one (sym s.one)) (nothing_whole c.two (sym s.two));
    }

found_jump8 : (c : Code) (i : Insn) → Finds forms.Jump8 c i
unfolding Finds is_reserved has_left_index size1_at size2_at insn_at
found_jump8 c i s h0 h1 e =
    subst (IsFound c) (some_same _ i e) record {
      well_formed = signed_fits 8 c.second (omega arith) h1;
      same = code_from c _ _ _ _ (omega (
        arith,
        opcode_is c forms.Jump8 s,
        cond_whole (c.first / 64) (omega arith)
            s.proper,
      )) (signed_whole 8 c.second (omega arith) h1) (nothing_whole c.one (sym
          s.one)) (nothing_whole c.two (sym s.two));
    }

found_load : (c : Code) (i : Insn) → Finds forms.LoadSpecial c i
unfolding Finds is_reserved has_left_index size1_at size2_at insn_at
found_load c i s h0 h1 e =
    let clear = all_clear (not (nat_eq (c.first / 64) 0)) (not (nat_eq (c.second % 16) 0)) (flag (c.second / 128))
    s.proper in
    let high = is_zero (c.first / 64) clear.0 in
    let low = is_zero (c.second % 16) clear.1 in
    let top = not_flag (c.second / 128) clear.2 in
    subst (IsFound c) (some_same _ i e) record {
      well_formed = omega arith;
      same = code_from c _ _ _ _ (omega (arith, opcode_is c forms.LoadSpecial s)) (omega arith)
          (nothing_whole c.one (sym s.one)) (nothing_whole c.two (sym s.two));
    }

below_two : (n : ℕ) → nat_le 2 n ≡ false → n < 2
below_two n e = grind arith

found_store : (c : Code) (i : Insn) → Finds forms.StoreSpecial c i
unfolding Finds is_reserved has_left_index size1_at size2_at insn_at
found_store c i s h0 h1 e =
    let clear = all_clear (not (nat_eq (c.first / 64) 0)) (flag (c.second / 8)) (nat_le 2 (c.second / 16)) s.proper in
    let high = is_zero (c.first / 64) clear.0 in
    let middle = not_flag (c.second / 8) clear.1 in
    let special = below_two (c.second / 16) clear.2 in
    subst (IsFound c) (some_same _ i e) record {
      well_formed = (is_register c.second, special);
      same = code_from c _ _ _ _ (omega (arith, opcode_is c forms.StoreSpecial s)) (omega arith)
          (nothing_whole c.one (sym s.one)) (nothing_whole c.two (sym s.two));
    }

-- ---- forms with what stands beside an operand

found_arith : (op : ArithOp) (c : Code) (i : Insn) → Finds (forms.Arith op) c i
unfolding Finds is_reserved has_left_index size1_at size2_at insn_at
found_arith op c i s h0 h1 e =
    let m = made_of _ _ i e in
    let x = extra_whole 16 (flag (c.first / 128)) (right_at c.second) c.one m.x (inl refl) (sym s.one) s.fits.0
    m.read in
    subst (IsFound c) m.same record {
      well_formed = (is_register (c.second % 16), is_register (c.second / 16), x.fits);
      same = code_from c _ _ _ _ (head_from c.first _ _ _ h0 (opcode_is c (forms.Arith op) s) refl x.presence)
          (operands_whole c.second h1) x.same (nothing_whole c.two (sym s.two));
    }

found_compare : (op : CmpOp) (c : Code) (i : Insn) → Finds (forms.Compare op) c i
unfolding Finds is_reserved has_left_index size1_at size2_at insn_at
found_compare op c i s h0 h1 e =
    let m = made_of _ _ i e in
    let x = extra_whole 16 (flag (c.first / 128)) (right_at c.second) c.one m.x (inl refl) (sym s.one) s.fits.0
    m.read in
    let direct = not_flag (c.second / 8) s.proper in
    subst (IsFound c) m.same record {
      well_formed = (is_register c.second, is_register (c.second / 16), x.fits);
      same = code_from c _ _ _ _ (head_from c.first _ _ _ h0 (opcode_is c (forms.Compare op) s) refl x.presence)
          (omega (arith, operand_whole (c.second / 16) (omega arith))) x.same (nothing_whole c.two (sym s.two));
    }

-- an operand alone in a byte
alone_whole : (b1 : ℕ) → b1 < 256 → b1 / 16 ≡ 0 → operand (left_at b1) ≡ b1
alone_whole b1 h none = omega (arith, operand_whole (b1 % 16) (omega arith))

found_push : (c : Code) (i : Insn) → Finds forms.Push c i
unfolding Finds is_reserved has_left_index size1_at size2_at insn_at
found_push c i s h0 h1 e =
    let m = made_of _ _ i e in
    let x = extra_whole 16 (flag (c.first / 128)) (left_at c.second) c.one m.x (inl refl) (sym s.one) s.fits.0 m.read in
    subst (IsFound c) m.same record {
      well_formed = (is_register (c.second % 16), x.fits);
      same = code_from c _ _ _ _ (head_from c.first _ _ _ h0 (opcode_is c forms.Push s) refl x.presence)
          (alone_whole c.second h1 (is_zero _ s.proper)) x.same (nothing_whole c.two (sym s.two));
    }

found_pop : (c : Code) (i : Insn) → Finds forms.Pop c i
unfolding Finds is_reserved has_left_index size1_at size2_at insn_at
found_pop c i s h0 h1 e =
    let m = made_of _ _ i e in
    let x = extra_whole 16 (flag (c.first / 128)) (left_at c.second) c.one m.x (inl refl) (sym s.one) s.fits.0 m.read in
    subst (IsFound c) m.same record {
      well_formed = (is_register (c.second % 16), x.fits);
      same = code_from c _ _ _ _ (head_from c.first _ _ _ h0 (opcode_is c forms.Pop s) refl x.presence)
          (alone_whole c.second h1 (is_zero _ s.proper)) x.same (nothing_whole c.two (sym s.two));
    }

found_push_natural : (c : Code) (i : Insn) → Finds forms.PushNatural c i
unfolding Finds is_reserved has_left_index size1_at size2_at insn_at
found_push_natural c i s h0 h1 e =
    let m = made_of _ _ i e in
    let x = extra_whole 16 (flag (c.first / 128)) (left_at c.second) c.one m.x (inl refl) (sym s.one) s.fits.0 m.read in
    let clear = or_parts (flag (c.first / 64)) (not (nat_eq (c.second / 16) 0)) s.proper in
    subst (IsFound c) m.same record {
      well_formed = (is_register (c.second % 16), x.fits);
      same = code_from c _ _ _ _ (head_from c.first _ _ _ h0 (opcode_is c forms.PushNatural s) (sym clear.0) x.presence)
          (alone_whole c.second h1 (is_zero _ clear.1)) x.same (nothing_whole c.two (sym s.two));
    }

found_pop_natural : (c : Code) (i : Insn) → Finds forms.PopNatural c i
unfolding Finds is_reserved has_left_index size1_at size2_at insn_at
found_pop_natural c i s h0 h1 e =
    let m = made_of _ _ i e in
    let x = extra_whole 16 (flag (c.first / 128)) (left_at c.second) c.one m.x (inl refl) (sym s.one) s.fits.0 m.read in
    let clear = or_parts (flag (c.first / 64)) (not (nat_eq (c.second / 16) 0)) s.proper in
    subst (IsFound c) m.same record {
      well_formed = (is_register (c.second % 16), x.fits);
      same = code_from c _ _ _ _ (head_from c.first _ _ _ h0 (opcode_is c forms.PopNatural s) (sym clear.0) x.presence)
          (alone_whole c.second h1 (is_zero _ clear.1)) x.same (nothing_whole c.two (sym s.two));
    }

-- ---- jumps and calls

far_address :
    (n : ℕ) (x : Extra) → n ≡ 0 → has_extra x ≡ true → ExtraFits 64 (operand_at n) x → TargetFits true (operand_at n) x
far_address n Nothing h p fits = absurd (cc)
far_address n (Imm v) h p fits = (omega arith, fits.0, fits.1)
far_address n (Idx j) h p fits = absurd (cc (sym (direct n h) ∙ fits.0)) where
  direct : (n : ℕ) → n ≡ 0 → flag (n / 8) ≡ false
  direct n h = grind arith

-- The target of a jump or a call whose two bytes are right.
target_whole :
    (far seven : Bool) (n : ℕ) (x : Extra) → (far && (not seven || not (nat_eq n 0))) ≡ false → has_extra x ≡ seven →
    ExtraFits (target_bits far) (operand_at n) x → TargetFits far (operand_at n) x
target_whole false seven n x e p fits = (is_register n, fits)
target_whole true true n x e p fits = far_address n x (is_zero n e) p fits
target_whole true false n x e p fits = absurd (cc)

found_jump : (c : Code) (i : Insn) → Finds forms.Jump c i
unfolding Finds is_reserved has_left_index size1_at size2_at insn_at
found_jump c i s h0 h1 e =
    let m = made_of _ _ i e in
    let far : Bool = flag (c.first / 64) in
    let x = extra_whole (target_bits far) (flag (c.first / 128)) (left_at c.second) c.one m.x (target_sized far)
    (sym s.one) s.fits.0 m.read in
    let clear = all_clear (flag (c.second / 32)) (nat_eq (c.second / 64) 1) (is_far_wrong c.first c.second) s.proper in
    let none = not_flag (c.second / 32) clear.0 in
    let cond = cond_whole (c.second / 64) (omega arith) clear.1 in
    subst (IsFound c) m.same record {
      well_formed = target_whole far (flag (c.first / 128)) (c.second % 16) m.x clear.2 x.presence x.fits;
      same = code_from c _ _ _ _ (head_from c.first _ _ _ h0 (opcode_is c forms.Jump s) refl x.presence)
          (omega (arith, operand_whole (c.second % 16) (omega arith), bit_flag (c.second / 16))) x.same
          (nothing_whole c.two (sym s.two));
    }

found_call : (c : Code) (i : Insn) → Finds forms.Call c i
unfolding Finds is_reserved has_left_index size1_at size2_at insn_at
found_call c i s h0 h1 e =
    let m = made_of _ _ i e in
    let far : Bool = flag (c.first / 64) in
    let x = extra_whole (target_bits far) (flag (c.first / 128)) (left_at c.second) c.one m.x (target_sized far)
    (sym s.one) s.fits.0 m.read in
    let clear = or_parts (not (nat_eq (c.second / 64) 0)) (is_far_wrong c.first c.second) s.proper in
    let none = is_zero (c.second / 64) clear.0 in
    subst (IsFound c) m.same record {
      well_formed = target_whole far (flag (c.first / 128)) (c.second % 16) m.x clear.1 x.presence x.fits;
      same = code_from c _ _ _ _ (head_from c.first _ _ _ h0 (opcode_is c forms.Call s) refl x.presence)
          (omega (
            arith,
            operand_whole (c.second % 16) (omega arith),
            bit_flag (c.second / 16),
            bit_flag
                (c.second / 32),
          )) x.same (nothing_whole c.two (sym s.two));
    }

-- ---- forms with an index of operand 1

found_move : (size : Size) (bits : ℕ) (c : Code) (i : Insn) → Finds (forms.Move size bits) c i
unfolding Finds is_reserved has_left_index size1_at size2_at insn_at
found_move size bits c i s h0 h1 e =
    let m = made_of_both _ _ _ i e in
    let fits = (form_whole (c.first % 64) (forms.Move size bits) s.form).fits in
    let wide = move_sized size bits fits in
    let x = optional_whole bits (flag (c.first / 128)) c.one m.x wide (sym s.one) s.fits.0 m.first in
    let y = optional_whole bits (flag (c.first / 64)) c.two m.y wide (sym s.two) s.fits.1 m.second in
    subst (IsFound c) m.same record {
      well_formed = (
        fits,
        is_register (c.second % 16),
        is_register (c.second / 16),
        left_fits bits (left_at c.second)
            m.x (flag (c.first / 128)) x.fits x.presence s.indirect,
        y.fits,
      );
      same = code_from c _ _ _ _ (head_from c.first _ _ _ h0 (opcode_is c (forms.Move size bits) s) y.presence
          x.presence) (operands_whole c.second h1) x.same y.same;
    }

found_move_signed : (bits : ℕ) (c : Code) (i : Insn) → Finds (forms.MoveSigned bits) c i
unfolding Finds is_reserved has_left_index size1_at size2_at insn_at
found_move_signed bits c i s h0 h1 e =
    let m = made_of_both _ _ _ i e in
    let fits = (form_whole (c.first % 64) (forms.MoveSigned bits) s.form).fits in
    let wide = narrow_sized bits fits in
    let x = optional_whole bits (flag (c.first / 128)) c.one m.x wide (sym s.one) s.fits.0 m.first in
    let y = extra_whole bits (flag (c.first / 64)) (right_at c.second) c.two m.y wide (sym s.two) s.fits.1 m.second in
    subst (IsFound c) m.same record {
      well_formed = (
        fits,
        is_register (c.second % 16),
        is_register (c.second / 16),
        left_fits bits (left_at c.second)
            m.x (flag (c.first / 128)) x.fits x.presence s.indirect,
        y.fits,
      );
      same = code_from c _ _ _ _ (head_from c.first _ _ _ h0 (opcode_is c (forms.MoveSigned bits) s) y.presence
          x.presence) (operands_whole c.second h1) x.same y.same;
    }

-- the first byte of a move of an immediate
width_byte :
    (n opcode : ℕ) → n < 256 → opcode ≡ n % 64 → nat_eq (n / 64) 0 ≡ false →
    opcode + 64 * width_number (bits_at (n / 64)) ≡ n
width_byte n opcode h p some = omega (arith, width_whole (n / 64) (omega arith) some)

found_move_imm : (c : Code) (i : Insn) → Finds forms.MoveImm c i
unfolding Finds is_reserved has_left_index size1_at size2_at insn_at
found_move_imm c i s h0 h1 e =
    let m = made_of _ _ i e in
    let wide = width_sized (c.first / 64) in
    let clear = or_parts (nat_eq (c.first / 64) 0) (flag (c.second / 128)) s.proper in
    let top = not_flag (c.second / 128) clear.1 in
    let x = optional_whole 16 (flag (c.second / 64)) c.one m.x (inl refl) (sym s.one) s.fits.0 m.read in
    let v = int_whole (bits_at (c.first / 64)) c.two wide (sym s.two) s.fits.1 in
    let size = size_whole (c.second / 16 % 4) (omega arith) in
    subst (IsFound c) m.same record {
      well_formed = (
        wide,
        size.1,
        is_register (c.second % 16),
        left_fits 16 (left_at c.second) m.x
            (flag (c.second / 64)) x.fits x.presence s.indirect,
        v.1,
      );
      same = code_from c _ _ _ _ (width_byte c.first 0x37 h0 (opcode_is c forms.MoveImm s) clear.0)
          (rw x.presence (omega (arith, size.0, operand_whole (c.second % 16) (omega arith), bit_flag (c.second / 64))))
          x.same v.0;
    }

-- the second byte of a move of an index or of a place
index_byte :
    (b1 : ℕ) (there : Bool) → b1 < 256 → b1 / 16 % 4 ≡ 0 → b1 / 128 % 2 ≡ 0 → there ≡ flag (b1 / 64) →
    operand (left_at b1) + 64 * bit there ≡ b1
index_byte b1 there h none top p = rw p (omega (arith, operand_whole (b1 % 16) (omega arith), bit_flag (b1 / 64)))

found_move_imm_natural : (c : Code) (i : Insn) → Finds forms.MoveImmNatural c i
unfolding Finds is_reserved has_left_index size1_at size2_at insn_at
found_move_imm_natural c i s h0 h1 e =
    let m = made_of_both _ _ _ i e in
    let wide = width_sized (c.first / 64) in
    let clear = all_clear (nat_eq (c.first / 64) 0) (flag (c.second / 128)) (not (nat_eq (c.second / 16 % 4) 0))
    s.proper in
    let x = optional_whole 16 (flag (c.second / 64)) c.one m.x (inl refl) (sym s.one) s.fits.0 m.first in
    let j = index_whole (bits_at (c.first / 64)) c.two m.y wide (sym s.two) s.fits.1 m.second in
    subst (IsFound c) m.same record {
      well_formed = (
        wide,
        is_register (c.second % 16),
        left_fits 16 (left_at c.second) m.x (flag (c.second / 64))
            x.fits x.presence s.indirect,
        j.1,
      );
      same = code_from c _ _ _ _ (width_byte c.first 0x38 h0 (opcode_is c forms.MoveImmNatural s) clear.0)
          (index_byte c.second _ h1 (is_zero _ clear.2) (not_flag _ clear.1) x.presence) x.same j.0;
    }

found_move_relative : (c : Code) (i : Insn) → Finds forms.MoveRelative c i
unfolding Finds is_reserved has_left_index size1_at size2_at insn_at
found_move_relative c i s h0 h1 e =
    let m = made_of _ _ i e in
    let wide = width_sized (c.first / 64) in
    let clear = all_clear (nat_eq (c.first / 64) 0) (flag (c.second / 128)) (not (nat_eq (c.second / 16 % 4) 0))
    s.proper in
    let x = optional_whole 16 (flag (c.second / 64)) c.one m.x (inl refl) (sym s.one) s.fits.0 m.read in
    let v = int_whole (bits_at (c.first / 64)) c.two wide (sym s.two) s.fits.1 in
    subst (IsFound c) m.same record {
      well_formed = (
        wide,
        is_register (c.second % 16),
        left_fits 16 (left_at c.second) m.x (flag (c.second / 64))
            x.fits x.presence s.indirect,
        v.1,
      );
      same = code_from c _ _ _ _ (width_byte c.first 0x39 h0 (opcode_is c forms.MoveRelative s) clear.0)
          (index_byte c.second _ h1 (is_zero _ clear.2) (not_flag _ clear.1) x.presence) x.same v.0;
    }

found_compare_imm : (op : CmpOp) (c : Code) (i : Insn) → Finds (forms.CompareImm op) c i
unfolding Finds is_reserved has_left_index size1_at size2_at insn_at
found_compare_imm op c i s h0 h1 e =
    let m = made_of _ _ i e in
    let x = optional_whole 16 (flag (c.second / 16)) c.one m.x (inl refl) (sym s.one) s.fits.0 m.read in
    let v = int32_whole (flag (c.first / 128)) c.two (sym s.two) s.fits.1 in
    let low = below_two (c.second / 16) s.proper in
    subst (IsFound c) m.same record {
      well_formed = (
        is_register (c.second % 16),
        left_fits 16 (left_at c.second) m.x (flag (c.second / 16)) x.fits
            x.presence s.indirect,
        v.1,
      );
      same = code_from c _ _ _ _ (head_from c.first _ _ _ h0 (opcode_is c (forms.CompareImm op) s) refl refl)
          (rw x.presence (omega (arith, operand_whole (c.second % 16) (omega arith), bit_flag (c.second / 16)))) x.same
          v.0;
    }

-- ---- the whole

-- The instruction of parts that are right for a form has a spelling, and these parts.
pub found :
    (f : Form) (c : Code) (i : Insn) → IsFormOf c f → c.first < 256 → c.second < 256 → insn_at f c ≡ Some i →
    IsFound c i
unfolding Finds
found forms.Break c i = found_break c i
found forms.Jump c i = found_jump c i
found forms.Jump8 c i = found_jump8 c i
found forms.Call c i = found_call c i
found forms.Ret c i = found_ret c i
found (forms.Compare op) c i = found_compare op c i
found (forms.CompareImm op) c i = found_compare_imm op c i
found (forms.Arith op) c i = found_arith op c i
found (forms.Move size bits) c i = found_move size bits c i
found (forms.MoveSigned bits) c i = found_move_signed bits c i
found forms.MoveImm c i = found_move_imm c i
found forms.MoveImmNatural c i = found_move_imm_natural c i
found forms.MoveRelative c i = found_move_relative c i
found forms.LoadSpecial c i = found_load c i
found forms.StoreSpecial c i = found_store c i
found forms.Push c i = found_push c i
found forms.Pop c i = found_pop c i
found forms.PushNatural c i = found_push_natural c i
found forms.PopNatural c i = found_pop_natural c i
