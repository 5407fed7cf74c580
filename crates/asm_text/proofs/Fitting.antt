-- What is read as an instruction is well formed, and a name stands only in place of an immediate that may have one.
use Rattle.std.proofs.Common.{◌≡◌, ℕ, zero, suc, ◌+◌, ◌-◌, ◌*◌, ◌/◌, ◌^◌, ◌<◌, ◌≤◌, List, [], ◌∷◌, length, Option, Some, None, Result, Ok}
use Rattle.std.proofs.Common.{Err, Bool, true, false, ◌&&◌, ◌||◌, ◌==◌, cond, refl, sym, subst, arith, nat_le, inl, inr, ℤ, pos, negsuc}
use Rattle.std.proofs.Common.{neg_ℤ, IfOk, IfSome}
use Rattle.std.specs.Borrow.{Bor}
use Rattle.std.specs.Prelude.{⊤, bytes_eq, codes, nat_lt, option_and_then, option_map}
use Rattle.std.proofs.lemmas.Bool.Decides.{nat_tests}
use Rattle.natural_index.specs.declared.Index.{Index}
use Rattle.natural_index.specs.Index.{HasRoom, IsIndex, IsIndexSize, index_of}
use Rattle.natural_index.proofs.Laws.{spells_read}
use Rattle.ebc_insn.specs.declared.Operand.{Operand}
use Rattle.ebc_insn.specs.declared.Extra.{Extra}
use Rattle.ebc_insn.specs.declared.Extra.TheVariants.{Nothing, Imm, Idx}
use Rattle.ebc_insn.specs.declared.Cond.{Cond}
use Rattle.ebc_insn.specs.declared.Size.{Size}
use Rattle.ebc_insn.specs.declared.Size.TheVariants as sizes
use Rattle.ebc_insn.specs.declared.Insn.{Insn}
use Rattle.ebc_insn.specs.declared.Insn.TheVariants as insns
use Rattle.ebc_insn.specs.Spelling.{ExtraFits, FitsInt, IsOperand, LeftFits, NotNatural, RightFits, TargetFits, immediate_bits, int_raw}
use Rattle.ebc_base.specs.Steps.{◌>>=◌, or_else}
use Rattle.asm_text.specs.declared.form.Form.{Form}
use Rattle.asm_text.specs.declared.form.Form.TheVariants as forms
use Rattle.asm_text.specs.declared.fault.AsmFault.{AsmFault}
use Rattle.asm_text.specs.Faults.{both, made}
use Rattle.asm_text.specs.Numbers.{count, decimal_value, digits_from, fit, number, number_value, plain_value}
use Rattle.ebc_base.specs.Names.{is_name}
use Rattle.asm_text.specs.Names.{is_place_name, is_register}
use Rattle.asm_text.specs.Splits.{halves, is_empty, sole, until}
use Rattle.asm_text.specs.Indexes.{bytes_part, first_part, has_room, index, least_tag, pair_index, raw_index, raw_part, second_part}
use Rattle.asm_text.specs.Indexes.{smallest_of}
use Rattle.asm_text.specs.Operands.{at_register, at_value, bare, bare_after, extra, extra_after, flags_special, left, left_after}
use Rattle.asm_text.specs.Operands.{near_target, operand_of, register, register_after, register_of, right, right_after, special, target}
use Rattle.asm_text.specs.Operands.{value}
use Rattle.asm_text.specs.Mnemonics.{FormFits}
use Rattle.asm_text.specs.Instructions.{InsnFits, immediate, insn_of, one, two, unnamed}
use Rattle.asm_text.specs.Texts.{seen_insn}
use Rattle.asm_text.proofs.Digits.{raw_fits}
use Rattle.asm_text.proofs.Smallest.{room_from}
use Rattle.asm_text.proofs.Values.{ValueFits}
use Rattle.ebc_base.proofs.Given.{ok_some, ok_weaken}
use Rattle.asm_text.proofs.InsnLaws.{signed_wide, move_wide}
use Rattle.std.proofs.lemmas.Bool.{and_parts}

-- ---- steps that keep a property

kept_then : {A B E : Type 0} (P : A → Type 0) (Q : B → Type 0) (f : A → Result B E) (r : Result A E) → IfOk r P
    → ((a : A) → P a → IfOk (f a) Q) → IfOk (r >>= f) Q
kept_then P Q f (Ok a) p q = q a p
kept_then P Q f (Err e) p q = tt

pub kept_made : {A B : Type 0} (P : A → Type 0) (Q : B → Type 0) (f : A → B) (r : Result A AsmFault) → IfOk r P → ((a : A) → P a → Q (f a))
    → IfOk (made f r) Q
kept_made P Q f (Ok a) p q = q a p
kept_made P Q f (Err e) p q = tt

pub kept_both : {A B : Type 0} (P : A → Type 0) (Q : B → Type 0) (r : Result A AsmFault) (s : Result B AsmFault) → IfOk r P → IfOk s Q
    → IfOk (both r s) (λ p. P p.0 × Q p.1)
kept_both P Q (Ok a) (Ok b) p q = (p, q)
kept_both P Q (Ok a) (Err f) p q = tt
kept_both P Q (Err e) (Ok b) p q = tt
kept_both P Q (Err e) (Err f) p q = tt

any_or : {A E : Type 0} (e : E) (o : Option A) → IfOk (or_else e o) (λ _. ⊤)
any_or e None = tt
any_or e (Some a) = tt

pub any_ok : {A E : Type 0} (r : Result A E) → IfOk r (λ _. ⊤)
any_ok (Ok a) = tt
any_ok (Err e) = tt

pub kept_one : {A : Type 0} (P : A → Type 0) (f : List ℕ → Result A AsmFault) (text : List ℕ) → ((t : List ℕ) → IfOk (f t) P)
    → IfOk (one f text) P
kept_one P f text p = kept_then (λ _. ⊤) P f (or_else _ (sole text)) (any_or _ (sole text)) (λ t _. p t)

kept_two : {A B : Type 0} (P : A → Type 0) (Q : B → Type 0) (f : List ℕ → Result A AsmFault) (g : List ℕ → Result B AsmFault)
    (text : List ℕ) → ((t : List ℕ) → IfOk (f t) P) → ((t : List ℕ) → IfOk (g t) Q) → IfOk (two f g text) (λ p. P p.0 × Q p.1)
kept_two P Q f g text p q = kept_then (λ _. ⊤) (λ c. P c.0 × Q c.1) (λ h. both (f h.0) (g h.1)) (or_else _ (halves text))
    (any_or _ (halves text)) (λ h _. kept_both P Q (f h.0) (g h.1) (p h.0) (q h.1))

decided : {A : Type 0} (b : Bool) → (b ≡ true → A) → (b ≡ false → A) → A
decided true yes_ no_ = yes_ refl
decided false yes_ no_ = no_ refl

-- ---- numbers

-- A number of bits is twice what its upper half begins with.
pub record IsWhole (bits : ℕ) : Type 0 where
  pub doubled : 2 ^ bits ≡ 2 * 2 ^ (bits - 1)
  pub some : 1 ≤ 2 ^ (bits - 1)

whole8 : IsWhole 8
whole8 = record { doubled = refl; some = omega arith }

whole16 : IsWhole 16
whole16 = record { doubled = refl; some = omega arith }

whole32 : IsWhole 32
whole32 = record { doubled = refl; some = omega arith }

whole64 : IsWhole 64
whole64 = record { doubled = refl; some = omega arith }

whole_size : (bits : ℕ) → IsIndexSize bits → IsWhole bits
whole_size bits (inl e) = rw e whole16
whole_size bits (inr (inl e)) = rw e whole32
whole_size bits (inr (inr e)) = rw e whole64

upper_fits : (bits n : ℕ) (b : Bool) → b ≡ nat_lt n (2 ^ bits) → IsWhole bits → 2 ^ (bits - 1) ≤ n
    → IfSome (cond b (Some (negsuc (2 ^ bits - 1 - n))) None) (FitsInt bits)
upper_fits bits n true e w low =
    let d = w.doubled in
    let s = w.some in
    omega (arith, d, s, low)
upper_fits bits n false e w low = tt

plain_fits : (bits n : ℕ) (b : Bool) → nat_lt n (2 ^ (bits - 1)) ≡ b → IsWhole bits
    → IfSome (cond b (Some (pos n)) (cond (nat_lt n (2 ^ bits)) (Some (negsuc (2 ^ bits - 1 - n))) None)) (FitsInt bits)
plain_fits bits n true h w = grind (arith, nat_tests, h)
plain_fits bits n false h w = upper_fits bits n (nat_lt n (2 ^ bits)) refl w (grind (arith, nat_tests, h))

minus_fits : (bits n : ℕ) (b : Bool) → nat_le n (2 ^ (bits - 1)) ≡ b → IsWhole bits
    → IfSome (cond b (Some (neg_ℤ (pos n))) None) (FitsInt bits)
minus_fits bits zero true h w = let s = w.some in omega (arith, s)
minus_fits bits (suc n) true h w = grind (arith, nat_tests, h)
minus_fits bits n false h w = tt

some_then : {A B : Type 0} (P : B → Type 0) (f : A → Option B) (o : Option A) → ((a : A) → IfSome (f a) P) → IfSome (option_and_then f o) P
some_then P f None p = tt
some_then P f (Some a) p = p a

signed_fits : (bits : ℕ) (b : Bool) (t u : Option ℕ) → IsWhole bits
    → IfSome (cond b (option_and_then (λ n. fit bits true n) t) (option_and_then (λ n. fit bits false n) u)) (FitsInt bits)
signed_fits bits true t u w = some_then (FitsInt bits) (λ n. fit bits true n) t (λ n. minus_fits bits n (nat_le n (2 ^ (bits - 1))) refl w)
signed_fits bits false t u w = some_then (FitsInt bits) (λ n. fit bits false n) u
    (λ n. plain_fits bits n (nat_lt n (2 ^ (bits - 1))) refl w)

value_number_fits : (bits : ℕ) (text : List ℕ) → IsWhole bits → IfSome (number_value bits text) (FitsInt bits)
unfolding number_value
value_number_fits bits [] w = tt
value_number_fits bits (b ∷ bs) w = signed_fits bits (b == 45) (decimal_value bs) (plain_value (b ∷ bs)) w

number_fits : (bits : ℕ) (text : List ℕ) → IsWhole bits → IfOk (number bits text) (FitsInt bits)
number_fits bits text w = ok_some (FitsInt bits) _ (number_value bits text) (value_number_fits bits text w)

-- ---- names in place of numbers

named_or : (bits : ℕ) (text : List ℕ) (b : Bool) → is_name text ≡ b → IsWhole bits
    → IfOk {T = ℤ × Option (List ℕ)} (cond b (Ok (pos 0, Some text)) (made (λ v. (v, None)) (number bits text)))
    (λ p. ValueFits bits p.0 p.1)
named_or bits text true h w = (refl, h)
named_or bits text false h w = kept_made (FitsInt bits) (λ p. ValueFits bits p.0 p.1) (λ v. (v, None)) (number bits text)
    (number_fits bits text w) (λ v f. f)

value_fits : (bits : ℕ) (text : List ℕ) → IsWhole bits → IfOk (value bits text) (λ p. ValueFits bits p.0 p.1)
unfolding value
value_fits bits text w = named_or bits text (is_name text) refl w

-- the value of one is a number of so many bits
number_of : (bits : ℕ) (v : ℤ) (name : Option (List ℕ)) → IsWhole bits → ValueFits bits v name → FitsInt bits v
number_of bits v None w fits = fits
number_of bits v (Some name) w fits = let s = w.some in let e = fits.0 in rw e (omega (arith, s))

-- ---- indexes

least_fits : (k t bits n c : ℕ) (b : Bool) → has_room bits t n c ≡ b → t + suc k ≤ 8
    → ((u : ℕ) → u + k ≤ 8 → IfSome (least_tag k u bits n c) (λ s. HasRoom bits s n c))
    → IfSome (cond b (Some t) (least_tag k (t + 1) bits n c)) (λ s. HasRoom bits s n c)
least_fits k t bits n c true h most rest = room_from bits t n c (omega arith) h
least_fits k t bits n c false h most rest = rest (t + 1) (omega arith)

tag_fits : (k t bits n c : ℕ) → t + k ≤ 8 → IfSome (least_tag k t bits n c) (λ s. HasRoom bits s n c)
unfolding least_tag
tag_fits zero t bits n c most = tt
tag_fits (suc k) t bits n c most = least_fits k t bits n c (has_room bits t n c) refl most (λ u m. tag_fits k u bits n c m)

with_tag : (bits n c : ℕ) (neg : Bool) (o : Option ℕ) → IfSome o (λ s. HasRoom bits s n c)
    → IfSome (option_map (λ t. record { neg = neg; tag = t; units = n; bytes = c }) o) (IsIndex bits)
with_tag bits n c neg None h = tt
with_tag bits n c neg (Some t) h = h

smallest_fits : (bits : ℕ) (neg : Bool) (n c : ℕ) → IfSome (smallest_of bits neg n c) (IsIndex bits)
unfolding smallest_of
smallest_fits bits neg n c = with_tag bits n c neg (least_tag 8 0 bits n c) (tag_fits 8 0 bits n c (omega arith))

unless_fault : {A : Type 0} (P : A → Type 0) (b : Bool) (e : AsmFault) (r : Result A AsmFault) → IfOk r P → IfOk (cond b (Err e) r) P
unless_fault P true e r p = tt
unless_fault P false e r p = p

else_fault : {A : Type 0} (P : A → Type 0) (b : Bool) (e : AsmFault) (r : Result A AsmFault) → (b ≡ true → IfOk r P)
    → IfOk (cond b r (Err e)) P
else_fault P true e r p = p refl
else_fault P false e r p = tt

pair_fits : (bits : ℕ) (neg : Bool) (p : ℕ × ℕ) → IfOk (pair_index bits neg p) (IsIndex bits)
pair_fits bits neg p = unless_fault (IsIndex bits) _ _ _ (ok_some (IsIndex bits) _ (smallest_of bits neg p.0 p.1)
    (smallest_fits bits neg p.0 p.1))

bytes_fits : (bits s : ℕ) (n : List ℕ) (t : ℕ) (p : List ℕ × List ℕ) → IfOk (bytes_part bits s n t p) (IsIndex bits)
bytes_fits bits s n t (c, after) = else_fault (IsIndex bits) _ _ _
    (λ _. kept_then (λ _. ⊤) (IsIndex bits) (pair_index bits (s == 45)) (both (count n) (count c)) (any_ok (both (count n) (count c)))
    (λ p _. pair_fits bits (s == 45) p))

second_fits : (bits s : ℕ) (p : List ℕ × List ℕ) → IfOk (second_part bits s p) (IsIndex bits)
second_fits bits s (n, []) = tt
second_fits bits s (n, t ∷ tail) = kept_then (λ _. ⊤) (IsIndex bits) (bytes_part bits s n t) (or_else _ (until 41 tail))
    (any_or _ (until 41 tail)) (λ p _. bytes_fits bits s n t p)

first_fits : (bits : ℕ) (text : List ℕ) → IfOk (first_part bits text) (IsIndex bits)
first_fits bits [] = tt
first_fits bits (s ∷ rest) = kept_then (λ _. ⊤) (IsIndex bits) (second_part bits s) (or_else _ (until 44 rest)) (any_or _ (until 44 rest))
    (λ p _. second_fits bits s p)

read_fits : (bits raw : ℕ) (o : Option Index) → index_of bits raw ≡ o → IsIndexSize bits → raw < 2 ^ bits → IfSome o (IsIndex bits)
read_fits bits raw None e size small = tt
read_fits bits raw (Some i) e size small = let s = spells_read bits raw i size small e in s.room

digits_fit : (bits : ℕ) (digits : List ℕ) (o : Option ℕ) → digits_from 16 0 digits ≡ o → IsIndexSize bits → length digits ≡ bits / 4
    → IfSome o (λ n. n < 2 ^ bits)
digits_fit bits digits None e size len = tt
digits_fit bits digits (Some n) e size len = raw_fits bits digits n size len e

raw_index_fits : (bits : ℕ) (digits : List ℕ) → IsIndexSize bits → IfOk (raw_index bits digits) (IsIndex bits)
raw_index_fits bits digits size = else_fault (IsIndex bits) (length digits == bits / 4) _ _ (λ h.
    let len : length digits ≡ bits / 4 = grind (arith, nat_tests, h) in
    kept_then (λ n. n < 2 ^ bits) (IsIndex bits) (λ n. or_else _ (index_of bits n)) (or_else _ (digits_from 16 0 digits))
    (ok_some (λ n. n < 2 ^ bits) _ (digits_from 16 0 digits) (digits_fit bits digits (digits_from 16 0 digits) refl size len))
    (λ n small. ok_some (IsIndex bits) _ (index_of bits n) (read_fits bits n (index_of bits n) refl size small)))

raw_part_fits : (bits : ℕ) (text : List ℕ) → IsIndexSize bits → IfOk (raw_part bits text) (IsIndex bits)
raw_part_fits bits [] size = tt
raw_part_fits bits (z ∷ []) size = tt
raw_part_fits bits (z ∷ x ∷ digits) size = else_fault (IsIndex bits) _ _ _ (λ _. raw_index_fits bits digits size)

either : {A : Type 0} (P : A → Type 0) (b : Bool) (r s : Result A AsmFault) → IfOk r P → IfOk s P → IfOk (cond b r s) P
either P true r s p q = p
either P false r s p q = q

pub index_fits : (bits : ℕ) (text : List ℕ) → IsIndexSize bits → IfOk (index bits text) (IsIndex bits)
unfolding index
index_fits bits [] size = tt
index_fits bits (b ∷ bs) size = either (IsIndex bits) (b == 35) _ _ (raw_part_fits bits bs size)
    (else_fault (IsIndex bits) (b == 40) _ _ (λ _. first_fits bits bs))

-- ---- operands

register_fits : (indirect b : Bool) (d : ℕ) (rest : List ℕ) (r : ℕ) → (r == 82 && nat_le 48 d && nat_le d 55) ≡ b
    → IfSome {T = Operand × List ℕ} (cond b (Some (record { reg = d - 48; indirect = indirect }, rest)) None) (λ p. IsOperand p.0)
register_fits indirect true d rest r h = grind (arith, nat_tests, h)
register_fits indirect false d rest r h = tt

register_of_fits : (indirect : Bool) (text : List ℕ) → IfSome (register_of indirect text) (λ p. IsOperand p.0)
register_of_fits indirect [] = tt
register_of_fits indirect (r ∷ []) = tt
register_of_fits indirect (r ∷ d ∷ rest) = register_fits indirect (r == 82 && nat_le 48 d && nat_le d 55) d rest r refl

either_some : {A : Type 0} (P : A → Type 0) (b : Bool) (o p : Option A) → IfSome o P → IfSome p P → IfSome (cond b o p) P
either_some P true o p x y = x
either_some P false o p x y = y

operand_fits : (text : List ℕ) → IfSome (operand_of text) (λ p. IsOperand p.0)
unfolding operand_of
operand_fits [] = tt
operand_fits (b ∷ bs) = either_some (λ p. IsOperand p.0) (b == 64) (register_of true bs) (register_of false (b ∷ bs))
    (register_of_fits true bs) (register_of_fits false (b ∷ bs))

-- what is read of an operand and of what stands behind it
after_operand : {A : Type 0} (P : A → Type 0) (f : Operand × List ℕ → Result A AsmFault) (e : AsmFault) (text : List ℕ)
    → ((p : Operand × List ℕ) → IsOperand p.0 → IfOk (f p) P) → IfOk (or_else e (operand_of text) >>= f) P
after_operand P f e text p = kept_then (λ p. IsOperand p.0) P f (or_else e (operand_of text))
    (ok_some (λ p. IsOperand p.0) e (operand_of text) (operand_fits text)) p

bare_after_fits : (p : Operand × List ℕ) → IsOperand p.0 → IfOk (bare_after p) IsOperand
bare_after_fits (o, []) h = h
bare_after_fits (o, b ∷ bs) h = tt

bare_fits : (text : List ℕ) → IfOk (bare text) IsOperand
unfolding bare
bare_fits text = after_operand IsOperand bare_after _ text bare_after_fits

register_after_fits : (o : Operand) → IsOperand o → IfOk (register_after o) (λ r. r < 8)
register_after_fits o h = either (λ r. r < 8) o.indirect _ (Ok o.reg) tt h

number_register_fits : (text : List ℕ) → IfOk (register text) (λ r. r < 8)
number_register_fits text = kept_then IsOperand (λ r. r < 8) register_after (bare text) (bare_fits text) register_after_fits

indexed_fits : (bits : ℕ) (o : Operand) (text : List ℕ) (b : Bool) (e : AsmFault) → o.indirect ≡ b → IsOperand o → IsIndexSize bits
    → IfOk {T = Operand × Option Index} (cond b (made (λ i. (o, Some i)) (index bits text)) (Err e))
    (λ p. IsOperand p.0 × LeftFits bits p.0 p.1)
indexed_fits bits o text true e i h size = kept_made (IsIndex bits) (λ p. IsOperand p.0 × LeftFits bits p.0 p.1) (λ i. (o, Some i))
    (index bits text) (index_fits bits text size) (λ j f. (h, (i, f)))
indexed_fits bits o text false e i h size = tt

left_after_fits : (bits : ℕ) → IsIndexSize bits → (p : Operand × List ℕ) → IsOperand p.0
    → IfOk (left_after bits p) (λ p. IsOperand p.0 × LeftFits bits p.0 p.1)
left_after_fits bits size (o, []) h = (h, tt)
left_after_fits bits size (o, b ∷ bs) h = indexed_fits bits o (b ∷ bs) o.indirect _ refl h size

left_fits : (bits : ℕ) (text : List ℕ) → IsIndexSize bits → IfOk (left bits text) (λ p. IsOperand p.0 × LeftFits bits p.0 p.1)
unfolding left
left_fits bits text size = after_operand (λ p. IsOperand p.0 × LeftFits bits p.0 p.1) (left_after bits) _ text (left_after_fits bits size)

right_after_fits : (bits : ℕ) → IsIndexSize bits → (p : Operand × List ℕ) → IsOperand p.0
    → IfOk (right_after bits p) (λ p. IsOperand p.0 × RightFits bits p.1)
right_after_fits bits size (o, []) h = (h, tt)
right_after_fits bits size (o, b ∷ bs) h = kept_made (IsIndex bits) (λ p. IsOperand p.0 × RightFits bits p.1) (λ i. (o, Some i))
    (index bits (b ∷ bs)) (index_fits bits (b ∷ bs) size) (λ i f. (h, f))

right_fits : (bits : ℕ) (text : List ℕ) → IsIndexSize bits → IfOk (right bits text) (λ p. IsOperand p.0 × RightFits bits p.1)
unfolding right
right_fits bits text size = after_operand (λ p. IsOperand p.0 × RightFits bits p.1) (right_after bits) _ text (right_after_fits bits size)

beside_fits : (bits : ℕ) (o : Operand) (b : ℕ) (bs : List ℕ) (at_ : Bool) (e : AsmFault) → o.indirect ≡ at_ → IsOperand o → IsIndexSize bits
    → IfOk {T = Operand × Extra} (cond at_ (made (λ i. (o, Idx i)) (index bits (b ∷ bs)))
    (cond (b == 32) (made (λ v. (o, Imm v)) (number bits bs)) (Err e))) (λ p. IsOperand p.0 × ExtraFits bits p.0 p.1)
beside_fits bits o b bs true e i h size = kept_made (IsIndex bits) (λ p. IsOperand p.0 × ExtraFits bits p.0 p.1) (λ i. (o, Idx i))
    (index bits (b ∷ bs)) (index_fits bits (b ∷ bs) size) (λ j f. (h, (i, f)))
beside_fits bits o b bs false e i h size = else_fault (λ p. IsOperand p.0 × ExtraFits bits p.0 p.1) (b == 32) e
    (made (λ v. (o, Imm v)) (number bits bs)) (λ _. kept_made (FitsInt bits) (λ p. IsOperand p.0 × ExtraFits bits p.0 p.1) (λ v. (o, Imm v))
    (number bits bs) (number_fits bits bs (whole_size bits size)) (λ v f. (h, (i, f))))

extra_after_fits : (bits : ℕ) → IsIndexSize bits → (p : Operand × List ℕ) → IsOperand p.0
    → IfOk (extra_after bits p) (λ p. IsOperand p.0 × ExtraFits bits p.0 p.1)
extra_after_fits bits size (o, []) h = (h, tt)
extra_after_fits bits size (o, b ∷ bs) h = beside_fits bits o b bs o.indirect _ refl h size

extra_fits : (bits : ℕ) (text : List ℕ) → IsIndexSize bits → IfOk (extra bits text) (λ p. IsOperand p.0 × ExtraFits bits p.0 p.1)
unfolding extra
extra_fits bits text size = after_operand (λ p. IsOperand p.0 × ExtraFits bits p.0 p.1) (extra_after bits) _ text
    (extra_after_fits bits size)

special_one : (a b : Bool) (e : AsmFault) → IfOk {T = ℕ} (cond a (Ok 0) (cond b (Ok 1) (Err e))) (λ n. n < 2)
special_one true b e = omega arith
special_one false true e = omega arith
special_one false false e = tt

special_fits : (text : List ℕ) → IfOk (special text) (λ n. n < 2)
special_fits text = special_one (bytes_eq text (codes "[FLAGS]")) (bytes_eq text (codes "[IP]")) _

-- ---- targets

-- The operand of a target, what stands beside it, and the name in place of its immediate.
abbrev AimFits : Bool → Bool → Operand × Extra × Option (List ℕ) → Type 0
AimFits far relative (o, e, None) = TargetFits far o e
AimFits far relative (o, e, Some name) =
    TargetFits far o e × (o ≡ record { reg = 0; indirect = false }) × (e ≡ Imm (pos 0)) × ((far || relative) ≡ true) × (is_name name ≡ true)

at_register_fits : (relative : Bool) (p : Operand × Extra) → IsOperand p.0 × ExtraFits 32 p.0 p.1
    → IfOk (at_register p) (AimFits false relative)
at_register_fits relative (o, Nothing) h = h
at_register_fits relative (o, Idx i) h = h
at_register_fits relative (o, Imm v) h = unless_fault (AimFits false relative) (o.reg == 0) _ (Ok (o, Imm v, None)) h

place_name : (text : List ℕ) (b : Bool) → (cond b false (is_name text)) ≡ true → is_name text ≡ true
place_name text true h = cc h
place_name text false h = h

near_named_fits : (relative : Bool) (text : List ℕ) (b : Bool) → (relative && is_place_name text) ≡ b
    → IfOk {T = Operand × Extra × Option (List ℕ)} (cond b (Ok (at_value (pos 0, Some text))) (extra 32 text >>= at_register))
    (AimFits false relative)
near_named_fits relative text true h =
    let p = and_parts relative (is_place_name text) h in
    ((omega arith, (refl, omega arith)), refl, refl, p.0, place_name text (is_register text) p.1)
near_named_fits relative text false h = kept_then (λ p. IsOperand p.0 × ExtraFits 32 p.0 p.1) (AimFits false relative) at_register
    (extra 32 text) (extra_fits 32 text (inr (inl refl))) (at_register_fits relative)

near_fits : (relative : Bool) (text : List ℕ) → IfOk (near_target relative text) (AimFits false relative)
unfolding near_target
near_fits relative text = either (AimFits false relative) _ _ _
    (kept_made (FitsInt 32) (AimFits false relative) (λ v. at_value (v, None)) (number 32 text) (number_fits 32 text whole32)
    (λ v f. (omega arith, (refl, f))))
    (near_named_fits relative text (relative && is_place_name text) refl)

far_fits : (relative : Bool) (v : ℤ) (name : Option (List ℕ)) → ValueFits 64 v name → AimFits true relative (at_value (v, name))
far_fits relative v None f = (refl, refl, f)
far_fits relative v (Some name) f = let z = number_of 64 v (Some name) whole64 f in let e = f.0 in
    ((refl, refl, z), refl, rw e refl, refl, f.1)

target_fits : (far relative : Bool) (text : List ℕ) → IfOk (target far relative text) (AimFits far relative)
target_fits true relative text = kept_made (λ p. ValueFits 64 p.0 p.1) (AimFits true relative) at_value (value 64 text)
    (value_fits 64 text whole64) (λ p f. far_fits relative p.0 p.1 f)
target_fits false relative text = near_fits relative text

-- ---- instructions

-- The immediate of a MOVI, or the name in its place.
abbrev ImmediateFits : Size → ℕ → ℤ × Option (List ℕ) → Type 0
ImmediateFits size bits (v, None) = FitsInt bits v
ImmediateFits size bits (v, Some name) = FitsInt bits v × (size ≡ sizes.Qword) × (bits ≡ 64) × (v ≡ pos 0) × (is_name name ≡ true)

plain_immediate : (size : Size) (bits : ℕ) (text : List ℕ) → IsIndexSize bits
    → IfOk {T = ℤ × Option (List ℕ)} (made (λ v. (v, None)) (number bits text)) (ImmediateFits size bits)
plain_immediate size bits text w = kept_made (FitsInt bits) (ImmediateFits size bits) (λ v. (v, None)) (number bits text)
    (number_fits bits text (whole_size bits w)) (λ v f. f)

named_immediate : (bits : ℕ) (v : ℤ) (name : Option (List ℕ)) → bits ≡ 64 → IsIndexSize bits → ValueFits bits v name
    → ImmediateFits sizes.Qword bits (v, name)
named_immediate bits v None e w f = f
named_immediate bits v (Some name) e w f = (number_of bits v (Some name) (whole_size bits w) f, refl, e, f.0, f.1)

qword_immediate : (bits : ℕ) (text : List ℕ) (b : Bool) → (bits == 64) ≡ b → IsIndexSize bits
    → IfOk {T = ℤ × Option (List ℕ)} (cond b (value bits text) (made (λ v. (v, None)) (number bits text))) (ImmediateFits sizes.Qword bits)
qword_immediate bits text true h w =
    let e : bits ≡ 64 = grind (arith, nat_tests, h) in
    let keep : (p : ℤ × Option (List ℕ)) → ValueFits bits p.0 p.1
    → ImmediateFits sizes.Qword bits p = λ p f. named_immediate bits p.0 p.1 e w f in
    ok_weaken (λ p. ValueFits bits p.0 p.1) (ImmediateFits sizes.Qword bits) (value bits text)
    (value_fits bits text (whole_size bits w)) keep
qword_immediate bits text false h w = plain_immediate sizes.Qword bits text w

immediate_fits : (size : Size) (bits : ℕ) (text : List ℕ) → IsIndexSize bits → IfOk (immediate size bits text) (ImmediateFits size bits)
immediate_fits sizes.Byte bits text w = plain_immediate sizes.Byte bits text w
immediate_fits sizes.Word bits text w = plain_immediate sizes.Word bits text w
immediate_fits sizes.Dword bits text w = plain_immediate sizes.Dword bits text w
immediate_fits sizes.Qword bits text w = qword_immediate bits text (bits == 64) refl w
immediate_fits sizes.Natural bits text w = plain_immediate sizes.Natural bits text w

raw_small : (v : ℤ) → FitsInt 8 v → int_raw 8 v < 256
raw_small (pos n) f = omega (arith, f)
raw_small (negsuc n) f = omega arith

jump_fits : (c : Cond) (far relative : Bool) (p : Operand × Extra × Option (List ℕ)) → AimFits far relative p
    → InsnFits (insns.Jump c far relative p.0 p.1, p.2)
jump_fits c far relative (o, e, None) f = (f, tt)
jump_fits c far relative (o, e, Some name) f = (f.0, ((f.1, f.2, f.3), f.4))

call_fits : (far native relative : Bool) (p : Operand × Extra × Option (List ℕ)) → AimFits far relative p
    → InsnFits (insns.Call far native relative p.0 p.1, p.2)
call_fits far native relative (o, e, None) f = (f, tt)
call_fits far native relative (o, e, Some name) f = (f.0, ((f.1, f.2, f.3), f.4))

jump8_fits : (c : Cond) (v : ℤ) (name : Option (List ℕ)) → ValueFits 8 v name → InsnFits (insns.Jump8 c v, name)
jump8_fits c v None f = (f, tt)
jump8_fits c v (Some name) f = (number_of 8 v (Some name) whole8 f, (f.0, f.1))

move_imm_fits : (size : Size) (bits : ℕ) (o : Operand) (i : Option Index) (v : ℤ) (name : Option (List ℕ)) → IsIndexSize bits
    → NotNatural size → IsOperand o → LeftFits 16 o i → ImmediateFits size bits (v, name) → InsnFits (insns.MoveImm size bits o i v, name)
move_imm_fits size bits o i v None w n a l f = ((w, n, a, l, f), tt)
move_imm_fits size bits o i v (Some name) w n a l f = ((w, n, a, l, f.0), ((f.1, f.2, f.3), f.4))

move_relative_fits : (bits : ℕ) (o : Operand) (i : Option Index) (v : ℤ) (name : Option (List ℕ)) → IsIndexSize bits → IsOperand o
    → LeftFits 16 o i → ValueFits bits v name → InsnFits (insns.MoveRelative bits o i v, name)
move_relative_fits bits o i v None w a l f = ((w, a, l, f), tt)
move_relative_fits bits o i v (Some name) w a l f = ((w, a, l, number_of bits v (Some name) (whole_size bits w) f), (f.0, f.1))

long_whole : (long : Bool) → IsWhole (immediate_bits long)
long_whole true = whole32
long_whole false = whole16

stack_fits : (text : List ℕ) → IfOk (one (extra 16) text) (λ p. IsOperand p.0 × ExtraFits 16 p.0 p.1)
stack_fits text = kept_one (λ p. IsOperand p.0 × ExtraFits 16 p.0 p.1) (extra 16) text (λ t. extra_fits 16 t (inl refl))

-- What is read as the operands of a form makes a well-formed instruction.
pub insn_fits : (f : Form) (text : List ℕ) → FormFits f → IfOk (insn_of f text) InsnFits
unfolding insn_of
insn_fits forms.Break text h = kept_made (FitsInt 8) InsnFits (λ v. unnamed (insns.Break (int_raw 8 v))) (one (number 8) text)
    (kept_one (FitsInt 8) (number 8) text (λ t. number_fits 8 t whole8)) (λ v f. (raw_small v f, tt))
insn_fits (forms.Jump c far relative) text h = kept_made (AimFits far relative) InsnFits (λ p. (insns.Jump c far relative p.0 p.1, p.2))
    (one (target far relative) text) (kept_one (AimFits far relative) (target far relative) text (target_fits far relative))
    (jump_fits c far relative)
insn_fits (forms.Jump8 c) text h = kept_made (λ p. ValueFits 8 p.0 p.1) InsnFits (λ v. (insns.Jump8 c v.0, v.1)) (one (value 8) text)
    (kept_one (λ p. ValueFits 8 p.0 p.1) (value 8) text (λ t. value_fits 8 t whole8)) (λ p f. jump8_fits c p.0 p.1 f)
insn_fits (forms.Call far native relative) text h = kept_made (AimFits far relative) InsnFits
    (λ p. (insns.Call far native relative p.0 p.1, p.2)) (one (target far relative) text)
    (kept_one (AimFits far relative) (target far relative) text (target_fits far relative)) (call_fits far native relative)
insn_fits forms.Ret text h = else_fault InsnFits (is_empty text) _ (Ok (unnamed insns.Ret)) (λ _. (tt, tt))
insn_fits (forms.Compare op wide) text h = kept_made (λ p. (p.0 < 8) × (IsOperand p.1.0 × ExtraFits 16 p.1.0 p.1.1)) InsnFits
    (λ p. unnamed (insns.Compare op wide p.0 p.1.0 p.1.1)) (two register (extra 16) text)
    (kept_two (λ r. r < 8) (λ p. IsOperand p.0 × ExtraFits 16 p.0 p.1) register (extra 16) text number_register_fits
    (λ t. extra_fits 16 t (inl refl))) (λ p f. ((f.0, f.1.0, f.1.1), tt))
insn_fits (forms.CompareImm op wide long) text h = kept_made (λ p. (IsOperand p.0.0 × LeftFits 16 p.0.0 p.0.1)
    × FitsInt (immediate_bits long) p.1) InsnFits (λ p. unnamed (insns.CompareImm op wide p.0.0 p.0.1 long p.1))
    (two (left 16) (number (immediate_bits long)) text) (kept_two (λ p. IsOperand p.0 × LeftFits 16 p.0 p.1) (FitsInt (immediate_bits long))
    (left 16) (number (immediate_bits long)) text (λ t. left_fits 16 t (inl refl))
    (λ t. number_fits (immediate_bits long) t (long_whole long))) (λ p f. ((f.0.0, f.0.1, f.1), tt))
insn_fits (forms.Arith op wide) text h = kept_made (λ p. IsOperand p.0 × (IsOperand p.1.0 × ExtraFits 16 p.1.0 p.1.1)) InsnFits
    (λ p. unnamed (insns.Arith op wide p.0 p.1.0 p.1.1)) (two bare (extra 16) text)
    (kept_two IsOperand (λ p. IsOperand p.0 × ExtraFits 16 p.0 p.1) bare (extra 16) text bare_fits (λ t. extra_fits 16 t (inl refl)))
    (λ p f. ((f.0, f.1.0, f.1.1), tt))
insn_fits (forms.Move size bits) text h =
    let w = move_wide size bits h in
    kept_made (λ p. (IsOperand p.0.0 × LeftFits bits p.0.0 p.0.1) × (IsOperand p.1.0 × RightFits bits p.1.1)) InsnFits
    (λ p. unnamed (insns.Move size bits p.0.0 p.1.0 p.0.1 p.1.1)) (two (left bits) (right bits) text)
    (kept_two (λ p. IsOperand p.0 × LeftFits bits p.0 p.1) (λ p. IsOperand p.0 × RightFits bits p.1) (left bits) (right bits) text
    (λ t. left_fits bits t w) (λ t. right_fits bits t w)) (λ p f. ((h, f.0.0, f.1.0, f.0.1, f.1.1), tt))
insn_fits (forms.MoveSigned bits) text h =
    let w = signed_wide bits h in
    kept_made (λ p. (IsOperand p.0.0 × LeftFits bits p.0.0 p.0.1) × (IsOperand p.1.0 × ExtraFits bits p.1.0 p.1.1)) InsnFits
    (λ p. unnamed (insns.MoveSigned bits p.0.0 p.1.0 p.0.1 p.1.1)) (two (left bits) (extra bits) text)
    (kept_two (λ p. IsOperand p.0 × LeftFits bits p.0 p.1) (λ p. IsOperand p.0 × ExtraFits bits p.0 p.1) (left bits) (extra bits) text
    (λ t. left_fits bits t w) (λ t. extra_fits bits t w)) (λ p f. ((h, f.0.0, f.1.0, f.0.1, f.1.1), tt))
insn_fits (forms.MoveImm size bits) text h = kept_made (λ p. (IsOperand p.0.0 × LeftFits 16 p.0.0 p.0.1)
    × ImmediateFits size bits p.1) InsnFits (λ p. (insns.MoveImm size bits p.0.0 p.0.1 p.1.0, p.1.1))
    (two (left 16) (immediate size bits) text) (kept_two (λ p. IsOperand p.0 × LeftFits 16 p.0 p.1) (ImmediateFits size bits) (left 16)
    (immediate size bits) text (λ t. left_fits 16 t (inl refl)) (λ t. immediate_fits size bits t h.0))
    (λ p f. move_imm_fits size bits p.0.0 p.0.1 p.1.0 p.1.1 h.0 h.1 f.0.0 f.0.1 f.1)
insn_fits (forms.MoveImmNatural bits) text h = kept_made (λ p. (IsOperand p.0.0 × LeftFits 16 p.0.0 p.0.1) × IsIndex bits p.1) InsnFits
    (λ p. unnamed (insns.MoveImmNatural bits p.0.0 p.0.1 p.1)) (two (left 16) (index bits) text)
    (kept_two (λ p. IsOperand p.0 × LeftFits 16 p.0 p.1) (IsIndex bits) (left 16) (index bits) text (λ t. left_fits 16 t (inl refl))
    (λ t. index_fits bits t h)) (λ p f. ((h, f.0.0, f.0.1, f.1), tt))
insn_fits (forms.MoveRelative bits) text h = kept_made (λ p. (IsOperand p.0.0 × LeftFits 16 p.0.0 p.0.1)
    × ValueFits bits p.1.0 p.1.1) InsnFits (λ p. (insns.MoveRelative bits p.0.0 p.0.1 p.1.0, p.1.1)) (two (left 16) (value bits) text)
    (kept_two (λ p. IsOperand p.0 × LeftFits 16 p.0 p.1) (λ p. ValueFits bits p.0 p.1) (left 16) (value bits) text
    (λ t. left_fits 16 t (inl refl)) (λ t. value_fits bits t (whole_size bits h)))
    (λ p f. move_relative_fits bits p.0.0 p.0.1 p.1.0 p.1.1 h f.0.0 f.0.1 f.1)
insn_fits forms.LoadSpecial text h = kept_made (λ p. ⊤ × (p.1 < 8)) InsnFits (λ p. unnamed (insns.LoadSpecial p.1))
    (two flags_special register text) (kept_two (λ _. ⊤) (λ r. r < 8) flags_special register text
    (λ t. any_ok (flags_special t)) number_register_fits) (λ p f. (f.1, tt))
insn_fits forms.StoreSpecial text h = kept_made (λ p. (p.0 < 8) × (p.1 < 2)) InsnFits (λ p. unnamed (insns.StoreSpecial p.0 p.1))
    (two register special text) (kept_two (λ r. r < 8) (λ n. n < 2) register special text number_register_fits special_fits)
    (λ p f. ((f.0, f.1), tt))
insn_fits (forms.Push wide) text h = kept_made (λ p. IsOperand p.0 × ExtraFits 16 p.0 p.1) InsnFits (λ p. unnamed (insns.Push wide p.0 p.1))
    (one (extra 16) text) (stack_fits text) (λ p f. ((f.0, f.1), tt))
insn_fits (forms.Pop wide) text h = kept_made (λ p. IsOperand p.0 × ExtraFits 16 p.0 p.1) InsnFits (λ p. unnamed (insns.Pop wide p.0 p.1))
    (one (extra 16) text) (stack_fits text) (λ p f. ((f.0, f.1), tt))
insn_fits forms.PushNatural text h = kept_made (λ p. IsOperand p.0 × ExtraFits 16 p.0 p.1) InsnFits
    (λ p. unnamed (insns.PushNatural p.0 p.1)) (one (extra 16) text) (stack_fits text) (λ p f. ((f.0, f.1), tt))
insn_fits forms.PopNatural text h = kept_made (λ p. IsOperand p.0 × ExtraFits 16 p.0 p.1) InsnFits (λ p. unnamed (insns.PopNatural p.0 p.1))
    (one (extra 16) text) (stack_fits text) (λ p f. ((f.0, f.1), tt))

-- what the code holds of it too
pub held_fits : (f : Form) (text : List ℕ) (r : Result (Insn × Option (Bor (List ℕ))) AsmFault) → FormFits f
    → made seen_insn r ≡ insn_of f text → IfOk r (λ i. InsnFits (seen_insn i))
held_fits f text (Ok i) h e = subst (λ x. IfOk x InsnFits) (sym e) (insn_fits f text h)
held_fits f text (Err x) h e = tt
