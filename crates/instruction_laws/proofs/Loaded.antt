-- The bytes at an instruction of a loaded image spell the image's instruction, with a relocated immediate moved.
use Rattle.instruction_laws.proofs.Common.{◌≡◌, ℕ, suc, ◌+◌, ◌-◌, ◌/◌, ◌%◌, ◌^◌, ◌<◌, ◌≤◌, ◌⊎◌, Bool, true, false, not, ◌||◌, if◌then◌else◌}
use Rattle.instruction_laws.proofs.Common.{nat_eq, nat_le, nat_lt, List, [], ◌∷◌, ◌++◌, length, Option, Some, None, refl, sym, ap, ap₂, ◌∙◌}
use Rattle.instruction_laws.proofs.Common.{subst, subst₂, arith, inl, inr, ⊎_elim, get_or, ℤ, pos, eqb-true, and_parts, and_from, or_cases}
use Rattle.instruction_laws.proofs.Common.{ltb-true, le-leb, cases_lt, false≢true, find, option_map_or, little_endian, window, wrap64}
use Rattle.instruction_laws.proofs.Common.{signed_at, WellFormed, spelling, Index, Cond, Operand, Insn, Concrete, mapped, image_byte, Image}
use Rattle.instruction_laws.proofs.Common.{is_absolute, is_address_move, is_relocated, named_at, Config, Placement, word, World, IsAt}
use Rattle.instruction_laws.proofs.Common.{Names, Site, IsRunOf, IsInsnOf, with_immediate, loaded_insn, Place, MachineStands}
use Rattle.std.proofs.Common.{negsuc, add_comm, length-append}
use Rattle.std.proofs.lemmas.{Bool.leb-true, Bool.lt-ltb, Bool.true≢false, Grind.same_number_lists, List.get_or_append_left}
use Rattle.std.proofs.lemmas.List.{get_or-append_right}
use Rattle.std.specs.{Int.w64, Int.to_le_bytes, List.list_any, List.Contains}
use Rattle.ebc_width.specs.Width.{distance_of}
use Rattle.ebc_width.proofs.{ByteLaws.length-window, ByteLaws.get_or-window, Numbers.get_or-to_le_bytes}
use Rattle.ebc_decode.proofs.Numbers.{signed_whole, signed_fits}
use Rattle.ebc_insn.specs.Spelling.{FitsInt, int_raw, field_bytes, bytes_of, code_of, optional_field}
use Rattle.pe_image.specs.Mapped.{is_of, laid, moved, moved_byte, named_place}
use Rattle.rules_image.specs.Images.{touches}
use Rattle.neutral_machine.specs.Instructions.{immediate_of}
use Rattle.instruction_laws.specs.Premises.{InstructionThere}
use Rattle.instruction_laws.proofs.{Steps.IsThere, Steps.is_there, Worlds.world_meets}
use Rattle.ebc_base.proofs.Lists.{contains-any}
use Rattle.ebc_insn.specs.declared.Extra.TheVariants as extras
use Rattle.ebc_insn.specs.declared.Insn.TheVariants as insns
use Rattle.ebc_insn.specs.declared.Size.TheVariants as sizes

-- ---- relocated bytes

first : (xs : List ℕ) (x : ℕ) → Contains (x ∷ xs) x
first xs x = (0, (let l : 0 < suc (length xs) = omega arith in l), refl)

later : (xs : List ℕ) (x r : ℕ) → Contains xs r → Contains (x ∷ xs) r
later xs x r c = let l = c.1 in (suc c.0, (let n : suc c.0 < suc (length xs) = omega (arith, l) in n), c.2)

-- the members of a list that pass a test are all one, which is there: it is found
found_one : (t : ℕ → Bool) (xs : List ℕ) (q : ℕ) → ((r : ℕ) → Contains xs r → t r ≡ true → r ≡ q) → list_any (nat_eq q) xs ≡ true
    → t q ≡ true → find t xs ≡ Some q
found_one t [] q one any e = absurd (false≢true any)
found_one t (x ∷ xs) q one any e = go (t x) refl (λ m. found_one t xs q (λ r c k. one r (later xs x r c) k) m e)
  where
    go : (b : Bool) → t x ≡ b → (list_any (nat_eq q) xs ≡ true → find t xs ≡ Some q) → (if b then Some x else find t xs) ≡ Some q
    go true k next = ap Some (one x (first xs x) k)
    go false k next = ⊎_elim
        (λ m. absurd (true≢false (sym e ∙ ap t (eqb-true q x m) ∙ k)))
        next
        (or_cases (nat_eq q x) (list_any (nat_eq q) xs) any)

found_none : (t : ℕ → Bool) (xs : List ℕ) → ((r : ℕ) → Contains xs r → t r ≡ true → ⊥) → find t xs ≡ None
found_none t [] never = refl
found_none t (x ∷ xs) never = go (t x) refl (found_none t xs (λ r c k. never r (later xs x r c) k))
  where
    go : (b : Bool) → t x ≡ b → find t xs ≡ None → (if b then Some x else find t xs) ≡ None
    go true k next = absurd (never x (first xs x) k)
    go false k next = next

-- and one among them is a member
pub of_any : (xs : List ℕ) (r : ℕ) → list_any (nat_eq r) xs ≡ true → Contains xs r
of_any [] r e = absurd (false≢true e)
of_any (x ∷ xs) r e = ⊎_elim
    (λ m. subst (Contains (x ∷ xs)) (sym (eqb-true r x m)) (first xs x))
    (λ m. later xs x r (of_any xs r m))
    (or_cases (nat_eq r x) (list_any (nat_eq r) xs) e)

-- ---- instructions by their last eight bytes

append_nil : (xs : List ℕ) → xs ++ [] ≡ xs
append_nil [] = refl
append_nil (x ∷ xs) = ap (λ ys. x ∷ ys) (append_nil xs)

-- an instruction whose spelling ends in an immediate of 64 bits, and what it is with another one
pub record EndsIn (i : Insn) : Type 0 where
  pub front : List ℕ
  pub old : ℤ
  pub spelled : spelling i ≡ front ++ to_le_bytes w64 (int_raw 64 old)
  pub again : (v : ℤ) → spelling (with_immediate v i) ≡ front ++ to_le_bytes w64 (int_raw 64 v)
  pub immediate : (v : ℤ) → immediate_of (with_immediate v i) ≡ Some v
  pub well_formed : (v : ℤ) → FitsInt 64 v → WellFormed i → WellFormed (with_immediate v i)

-- the two bytes that an instruction begins with
abbrev heads : Insn → List ℕ
heads i = (code_of i).first ∷ (code_of i).second ∷ []

target_ends : (cond : Cond) (op : Operand) (v : ℤ) → EndsIn (insns.Jump cond true false op (extras.Imm v))
unfolding with_immediate field_bytes bytes_of
target_ends cond op v = record {
  front = heads (insns.Jump cond true false op (extras.Imm v));
  old = v;
  spelled = ap (λ xs. heads (insns.Jump cond true false op (extras.Imm v)) ++ xs) (append_nil (to_le_bytes w64 (int_raw 64 v)));
  again = λ u. ap (λ xs. heads (insns.Jump cond true false op (extras.Imm v)) ++ xs) (append_nil (to_le_bytes w64 (int_raw 64 u)));
  immediate = λ u. refl;
  well_formed = λ u g f. (f.0, f.1, g);
}

call_ends : (op : Operand) (v : ℤ) → EndsIn (insns.Call true false false op (extras.Imm v))
unfolding with_immediate field_bytes bytes_of
call_ends op v = record {
  front = heads (insns.Call true false false op (extras.Imm v));
  old = v;
  spelled = ap (λ xs. heads (insns.Call true false false op (extras.Imm v)) ++ xs) (append_nil (to_le_bytes w64 (int_raw 64 v)));
  again = λ u. ap (λ xs. heads (insns.Call true false false op (extras.Imm v)) ++ xs) (append_nil (to_le_bytes w64 (int_raw 64 u)));
  immediate = λ u. refl;
  well_formed = λ u g f. (f.0, f.1, g);
}

move_ends : (left : Operand) (lidx : Option Index) (v : ℤ) → EndsIn (insns.MoveImm sizes.Qword 64 left lidx v)
unfolding with_immediate field_bytes bytes_of
move_ends left lidx v = record {
  front = heads (insns.MoveImm sizes.Qword 64 left lidx v) ++ field_bytes (optional_field 16 lidx);
  old = v;
  spelled = refl;
  again = λ u. refl;
  immediate = λ u. refl;
  well_formed = λ u g f. (f.0, f.1, f.2, f.3, g);
}

ends_in : (i : Insn) → WellFormed i → (is_absolute i || is_address_move i) ≡ true → EndsIn i
ends_in (insns.Jump cond true false op (extras.Imm v)) f e = target_ends cond op v
ends_in (insns.Jump cond true false op extras.Nothing) f e = absurd f
ends_in (insns.Jump cond true false op (extras.Idx i)) f e = absurd f
ends_in (insns.Call true false false op (extras.Imm v)) f e = call_ends op v
ends_in (insns.Call true false false op extras.Nothing) f e = absurd f
ends_in (insns.Call true false false op (extras.Idx i)) f e = absurd f
ends_in (insns.MoveImm sizes.Qword bits left lidx v) f e =
    let b = and_parts (nat_eq bits 64) (not left.indirect) e in
    subst (λ n. EndsIn (insns.MoveImm sizes.Qword n left lidx v)) (sym (eqb-true bits 64 b.0)) (move_ends left lidx v)
ends_in i f e = absurd (false≢true e)

-- each instruction has two bytes at least
pub two_bytes : (i : Insn) → 2 ≤ length (spelling i)
unfolding bytes_of
two_bytes i = omega arith

-- ---- a signed number of 64 bits

signed_wraps : (m : ℕ) → m < 2 ^ 64 → wrap64 (signed_at 64 m) ≡ m
signed_wraps m l = go (nat_lt m (2 ^ 63)) refl
  where
    go : (b : Bool) → nat_lt m (2 ^ 63) ≡ b → wrap64 (if b then pos m else negsuc (2 ^ 64 - 1 - m)) ≡ m
    go true e = omega (arith, l)
    go false e = omega (arith, l)

-- ---- the bytes at an instruction

module _ (image : Image) (world : World) (P : Placement) (here : Site) (i : Insn) (at : IsInsnOf image world here i) where
  abbrev N : ℕ
  N = length (spelling i)

  -- a relocation that has a byte of the instruction is in its last eight bytes
  touching : (x r : ℕ) → here.place ≤ x → x < here.next → Contains image.relocs r → is_of x r ≡ true → r + 8 ≡ here.next
  touching x r from to c e =
      let b = and_parts (nat_le r x) (nat_lt x (r + 8)) e in
      let l = leb-true r x b.0 in
      let m = ltb-true x (r + 8) b.1 in
      (at.relocation.only r c (omega (arith, l, to), omega (arith, from, m))).0

  -- bytes that aren't relocated
  byte_same : (x : ℕ) → here.place ≤ x → x < here.next → (is_relocated image here.next ≡ false) ⊎ (x < here.next - 8)
      → mapped image P.image x ≡ image_byte image x
  unfolding mapped moved
  byte_same x from to d = ap (λ o. option_map_or (moved_byte (laid image.sections) (distance_of P.image image.base) x) o
      (laid image.sections x)) (found_none (is_of x) image.relocs never)
    where
      never : (r : ℕ) → Contains image.relocs r → is_of x r ≡ true → ⊥
      never r c e =
          let n = touching x r from to c e in
          let b = and_parts (nat_le r x) (nat_lt x (r + 8)) e in
          let l = leb-true r x b.0 in
          ⊎_elim
          (λ f. true≢false (sym (contains-any image.relocs (here.next - 8)
          (subst (Contains image.relocs) (let z : r ≡ here.next - 8 = omega (arith, n) in z) c)) ∙ f))
          (λ m. omega (arith, n, l, m))
          d

  -- and those that are
  byte_moved : (x : ℕ) → here.place ≤ x → x < here.next → here.next - 8 ≤ x → is_relocated image here.next ≡ true
      → mapped image P.image x ≡ moved_byte (image_byte image) (distance_of P.image image.base) x (here.next - 8)
  unfolding mapped moved
  byte_moved x from to last any =
      ap (λ o. option_map_or (moved_byte (laid image.sections) (distance_of P.image image.base) x) o (laid image.sections x))
      (found_one (is_of x) image.relocs (here.next - 8) (λ r c e. let n = touching x r from to c e in omega (arith, n)) any
      (and_from _ _ (le-leb (here.next - 8) x last) (lt-ltb x (here.next - 8 + 8) (omega (arith, to)))))

  -- a byte of the image's instruction
  byte_spelled : (k : ℕ) → k < N → image_byte image (here.place + k) ≡ get_or (spelling i) k 0
  byte_spelled k l = sym (ap (λ xs. get_or xs k 0) at.decoded.spelled ∙ get_or-window (image_byte image) here.place N k 0 l)

  -- the relocated number and the address that it names
  address_same : (distance_of P.image image.base + little_endian (image_byte image) (here.next - 8) 8) % 2 ^ 64 ≡ word
      (P.image + named_place image (here.next - 8))
  unfolding named_place
  address_same = omega arith

  -- ---- the machine's bytes

  module _ (w : ℕ) (but : Option ℕ) (a : Config) (s : Concrete) (run : IsRunOf image world)
      (st : MachineStands w world P (mapped image P.image) but a s) (spot : a.spot ≡ Place here.place) where
    there : IsThere world P s.ip here.place
    there = is_there world P s.ip here.place (st.spot ∙ spot)

    inside : here.next ≤ world.image_size
    inside = let c = (world_meets image world run).code_inside at.k at.f at.function in omega (arith, at.decoded.within, c.1)

    byte_there : (k : ℕ) → k < N → s.byte (s.ip + k) ≡ mapped image P.image (here.place + k)
    byte_there k l =
        let n = at.decoded.next_is in
        let e = there.at in
        ap s.byte (let z : s.ip + k ≡ P.image + (here.place + k) = omega (arith, e) in z)
        ∙ st.code at.k at.f (here.place + k) at.function (omega (arith, at.from)) (omega (arith, l, n, at.decoded.within))

    -- the bytes are those of a spelling that has as many and the same ones
    spelled_by : (j : Insn) → length (spelling j) ≡ N → ((k : ℕ) → k < N → mapped image P.image (here.place + k) ≡ get_or (spelling j) k 0)
        → window s.byte s.ip (length (spelling j)) ≡ spelling j
    spelled_by j size each =
        same_number_lists (window s.byte s.ip (length (spelling j))) (spelling j) (length-window s.byte s.ip (length (spelling j))) (λ k l.
        let m : k < length (spelling j) = subst (λ z. k < z) (length-window s.byte s.ip (length (spelling j))) l in
        let n : k < N = subst (λ z. k < z) size m in
        get_or-window s.byte s.ip (length (spelling j)) k 0 m ∙ byte_there k n ∙ each k n)

    at_insn : (j : Insn) → WellFormed j → length (spelling j) ≡ N
        → ((k : ℕ) → k < N → mapped image P.image (here.place + k) ≡ get_or (spelling j) k 0) → Names P here.reloc (immediate_of j)
        → IsAt world P a s here j
    at_insn j f size each names = record {
      spot = spot;
      well_formed = f;
      spelled = spelled_by j size each;
      inside = (let n = at.decoded.next_is in omega (arith, size, n, inside));
      next = (let n = at.decoded.next_is in omega (arith, size, n));
      names = names;
    }

    -- nothing is relocated
    plain_there : here.reloc ≡ None → is_relocated image here.next ≡ false → IsAt world P a s here i
    plain_there none t = at_insn i at.decoded.well_formed refl
        (λ k l. let n = at.decoded.next_is in byte_same (here.place + k) (omega arith) (omega (arith, l, n)) (inl t) ∙ byte_spelled k l)
        (subst (λ o. Names P o (immediate_of i)) (sym none) tt)

    -- the last eight bytes are
    moved_there : here.reloc ≡ Some (named_place image (here.next - 8)) → is_relocated image here.next ≡ true
        → IsAt world P a s here (with_immediate (signed_at 64 (word (P.image + named_place image (here.next - 8)))) i)
    moved_there some t = by_end (ends_in i at.decoded.well_formed
        (at.relocation.only (here.next - 8) (of_any image.relocs (here.next - 8) t) touch).1)
      where
        n : here.next ≡ here.place + N
        n = at.decoded.next_is

        longer : 2 ≤ N
        longer = two_bytes i

        touch : touches here.place here.next (here.next - 8)
        touch = (omega (arith, n, longer), omega (arith, n, longer))

        address : ℕ
        address = word (P.image + named_place image (here.next - 8))

        v : ℤ
        v = signed_at 64 address

        small : address < 2 ^ 64
        small = omega arith

        raw : int_raw 64 v ≡ address
        raw = signed_whole 64 address (omega arith) small

        by_end : EndsIn i → IsAt world P a s here (with_immediate v i)
        by_end e = at_insn (with_immediate v i) (e.well_formed v
            (signed_fits 64 address (omega arith) small) at.decoded.well_formed) size each names
          where
            old_size : N ≡ length e.front + 8
            old_size = ap length e.spelled ∙ length-append e.front (to_le_bytes w64 (int_raw 64 e.old))

            size : length (spelling (with_immediate v i)) ≡ N
            size = ap length (e.again v) ∙ length-append e.front (to_le_bytes w64 (int_raw 64 v)) ∙ sym old_size

            each : (k : ℕ) → k < N → mapped image P.image (here.place + k) ≡ get_or (spelling (with_immediate v i)) k 0
            each k l = ⊎_elim
                (λ m. byte_same (here.place + k) (omega arith) (omega (arith, l, n)) (inr (omega (arith, m, n, old_size)))
                ∙ byte_spelled k l
                ∙ ap (λ xs. get_or xs k 0) e.spelled
                ∙ get_or_append_left e.front (to_le_bytes w64 (int_raw 64 e.old)) 0 k m
                ∙ sym (get_or_append_left e.front (to_le_bytes w64 (int_raw 64 v)) 0 k m)
                ∙ sym (ap (λ xs. get_or xs k 0) (e.again v)))
                (λ m. byte_moved (here.place + k) (omega arith) (omega (arith, l, n)) (omega (arith, m, n, old_size)) t
                ∙ ap₂ (λ x y. x / 256 ^ y % 256) (number ∙ sym raw)
                (let z : here.place + k - (here.next - 8) ≡ k - length e.front = omega (arith, n, old_size, m) in z)
                ∙ sym (get_or-to_le_bytes (int_raw 64 v) (k - length e.front) (omega (arith, l, old_size, m)))
                ∙ sym (get_or-append_right e.front (to_le_bytes w64 (int_raw 64 v)) (length e.front) k 0 refl m)
                ∙ sym (ap (λ xs. get_or xs k 0) (e.again v)))
                (cases_lt k (length e.front))
              where
                number : (little_endian (image_byte image) (here.next - 8) 8 + distance_of P.image image.base) % 2 ^ 64 ≡ address
                number = (let z : (little_endian (image_byte image) (here.next - 8) 8 + distance_of P.image image.base) % 2 ^ 64 ≡
                    (distance_of P.image image.base + little_endian (image_byte image) (here.next - 8) 8) % 2 ^ 64 =
                    ap (λ x. x % 2 ^ 64) (add_comm _ _) in z) ∙ address_same

            names : Names P here.reloc (immediate_of (with_immediate v i))
            names = subst₂ (Names P) (sym some) (sym (e.immediate v)) (signed_wraps address small)

    insn_there : IsAt world P a s here (loaded_insn P here.reloc i)
    insn_there = go (is_relocated image here.next) refl
      where
        go : (t : Bool) → is_relocated image here.next ≡ t → IsAt world P a s here (loaded_insn P here.reloc i)
        go true t =
            let some : here.reloc ≡ Some (named_place image (here.next - 8)) = at.relocation.named ∙ ap (named_at image here.next) t in
            subst (λ o. IsAt world P a s here (loaded_insn P o i)) (sym some) (moved_there some t)
        go false t =
            let none : here.reloc ≡ None = at.relocation.named ∙ ap (named_at image here.next) t in
            subst (λ o. IsAt world P a s here (loaded_insn P o i)) (sym none) (plain_there none t)

pub instruction_there : InstructionThere
instruction_there w image world P but a s here i run st spot at = insn_there image world P here i at w but a s run st spot
