-- Operations on values show as the machine's on numbers, wherever things are.
use Rattle.neutral_machine.proofs.Common.{◌≡◌, ℕ, suc, ◌+◌, ◌-◌, ◌*◌, ◌/◌, ◌%◌, ◌^◌, ◌<◌, Bool, true, false, ◌&&◌, if◌then◌else◌, nat_eq}
use Rattle.neutral_machine.proofs.Common.{nat_lt, Option, Some, None, Ok, Err, ℤ, pos, negsuc, ◌*ℤ◌, refl, sym, ap, ap₂, ◌∙◌, subst, subst₂}
use Rattle.neutral_machine.proofs.Common.{arith, mul_comm, false≢true, mul-mod_first, wrap64, ArithOp, or_divide_error, bits_of, low}
use Rattle.neutral_machine.proofs.Common.{signed, outcome, divides, computed, Neutral, Junk, Addresses, Shows, number, plain, Gives, Raises}
use Rattle.neutral_machine.proofs.Common.{Does, by_table}
use Rattle.std.proofs.lemmas.Bool.{cond_both}
use Rattle.ebc_width.proofs.Laws.{wrap64-neg}
use Rattle.ebc_machine.proofs.ResultLaws.{outcome-below, computed-below}
use Rattle.machine_alu.specs.Alu.{divides_by_zero, divide_error}
use Rattle.neutral_machine.specs.Operations.{is_unary, of_table, on_plain, on_one, on_divisor}
use Rattle.neutral_machine.proofs.Values.{plain_shows, number_shows}
use Rattle.ebc_insn.specs.declared.ArithOp.TheVariants as ops
use Rattle.note_types.specs.declared.exception.Exception.TheVariants as raises

-- ---- results are numbers of as many bits

pub table_below : (op : ArithOp) (wide : Bool) (x y : ℕ)
    → outcome (bits_of wide) op (low (bits_of wide) x) (low (bits_of wide) y) < 2 ^ bits_of wide
table_below op true x y = outcome-below 64 op _ _ (omega arith) (omega arith)
table_below op false x y = outcome-below 32 op _ _ (omega arith) (omega arith)

-- ---- signed products

neg_from : (x y k : ℕ) → x + y ≡ k * 2 ^ 64 → x % 2 ^ 64 ≡ (2 ^ 64 - y % 2 ^ 64) % 2 ^ 64
neg_from x y k e = omega (arith, e)

mod_product : (a b : ℕ) → (a % 2 ^ 64 * (b % 2 ^ 64)) % 2 ^ 64 ≡ (a * b) % 2 ^ 64
mod_product a b = mul-mod_first a (b % 2 ^ 64) (2 ^ 64) ∙ ap (λ z. z % 2 ^ 64) (mul_comm a (b % 2 ^ 64)) ∙ mul-mod_first b a (2 ^ 64)
    ∙ ap (λ z. z % 2 ^ 64) (mul_comm b a)

mod_next : (a b : ℕ) → (a % 2 ^ 64 * (b % 2 ^ 64 + 1)) % 2 ^ 64 ≡ (a * suc b) % 2 ^ 64
mod_next a b =
    let e : (b % 2 ^ 64 + 1) % 2 ^ 64 ≡ suc b % 2 ^ 64 = omega arith in
    mul-mod_first a (b % 2 ^ 64 + 1) (2 ^ 64) ∙ ap (λ z. z % 2 ^ 64) (mul_comm a (b % 2 ^ 64 + 1))
    ∙ sym (mul-mod_first (b % 2 ^ 64 + 1) a (2 ^ 64)) ∙ ap (λ z. (z * a) % 2 ^ 64) e ∙ mul-mod_first (suc b) a (2 ^ 64)
    ∙ ap (λ z. z % 2 ^ 64) (mul_comm (suc b) a)

-- a number times one that is less by the modulus
against : (a b : ℕ) → a % 2 ^ 64 * (2 ^ 64 - 1 - b % 2 ^ 64) + a % 2 ^ 64 * (b % 2 ^ 64 + 1) ≡ a % 2 ^ 64 * 2 ^ 64
against a b =
    let e : (2 ^ 64 - 1 - b % 2 ^ 64) + (b % 2 ^ 64 + 1) ≡ 2 ^ 64 = omega arith in
    sym (times_sum (a % 2 ^ 64) (2 ^ 64 - 1 - b % 2 ^ 64) (b % 2 ^ 64 + 1)) ∙ ap (λ z. a % 2 ^ 64 * z) e
  where
    times_sum : (x y z : ℕ) → x * (y + z) ≡ x * y + x * z
    times_sum x y z = omega arith

wrap_product : (m n : ℤ) → wrap64 (m *ℤ n) ≡ (wrap64 m * wrap64 n) % 2 ^ 64
wrap_product (pos a) (pos b) = sym (mod_product a b)
wrap_product (pos a) (negsuc b) =
    wrap64-neg (pos (a * suc b)) ∙ ap (λ z. (2 ^ 64 - z) % 2 ^ 64) (sym (mod_next a b))
    ∙ sym (neg_from (a % 2 ^ 64 * (2 ^ 64 - 1 - b % 2 ^ 64)) (a % 2 ^ 64 * (b % 2 ^ 64 + 1)) (a % 2 ^ 64) (against a b))
wrap_product (negsuc a) (pos b) =
    wrap64-neg (pos (suc a * b)) ∙ ap (λ z. (2 ^ 64 - z % 2 ^ 64) % 2 ^ 64) (mul_comm (suc a) b)
    ∙ ap (λ z. (2 ^ 64 - z) % 2 ^ 64) (sym (mod_next b a)) ∙ sym
    (neg_from (b % 2 ^ 64 * (2 ^ 64 - 1 - a % 2 ^ 64)) (b % 2 ^ 64 * (a % 2 ^ 64 + 1)) (b % 2 ^ 64) (against b a))
    ∙ ap (λ z. z % 2 ^ 64) (mul_comm (b % 2 ^ 64) (2 ^ 64 - 1 - a % 2 ^ 64))
wrap_product (negsuc a) (negsuc b) =
    let x = 2 ^ 64 - 1 - a % 2 ^ 64 in
    let y = 2 ^ 64 - 1 - b % 2 ^ 64 in
    sym (both (suc a) (suc b) x y (a / 2 ^ 64 + 1) (b / 2 ^ 64 + 1) (omega arith) (omega arith))
  where
    both : (p q x y j k : ℕ) → x + p ≡ j * 2 ^ 64 → y + q ≡ k * 2 ^ 64 → (x * y) % 2 ^ 64 ≡ (p * q) % 2 ^ 64
    both p q x y j k e f =
        let e1 : x * y + p * y ≡ j * y * 2 ^ 64 = (let z : x * y + p * y ≡ (x + p) * y = omega arith in z) ∙ ap (λ z. z * y) e
        ∙ (let z : j * 2 ^ 64 * y ≡ j * y * 2 ^ 64 = omega arith in z) in
        let e2 : p * q + p * y ≡ p * k * 2 ^ 64 = (let z : p * q + p * y ≡ p * (y + q) = omega arith in z) ∙ ap (λ z. p * z) f
        ∙ (let z : p * (k * 2 ^ 64) ≡ p * k * 2 ^ 64 = omega arith in z) in
        neg_from (x * y) (p * y) (j * y) e1 ∙ sym (neg_from (p * q) (p * y) (p * k) e2)

unsigned : (x : ℕ) → x < 2 ^ 64 → wrap64 (signed 64 x) ≡ x
unsigned x l = cond_both (nat_lt (low 64 x) (2 ^ 63)) (pos (low 64 x)) (negsuc (2 ^ 64 - 1 - low 64 x)) (λ z. wrap64 z ≡ x)
    (λ e. omega (arith, l)) (λ e. omega (arith, l))

pub signed_product : (x y : ℕ) → x < 2 ^ 64 → y < 2 ^ 64 → outcome 64 ops.Mul x y ≡ (x * y) % 2 ^ 64
signed_product x y l m = wrap_product (signed 64 x) (signed 64 y) ∙ ap₂ (λ a b. (a * b) % 2 ^ 64) (unsigned x l) (unsigned y m)

-- ---- the table

module _ (w : ℕ) (A : Addresses) where
  -- a number of 64 bits that a value shows as
  abbrev pub Word : Neutral → ℕ → Type 0
  Word v x = (x < 2 ^ 64) × Shows w A v x

  junk_word : (x : ℕ) → x < 2 ^ 64 → Word Junk x
  junk_word x l = (l, tt)

  number_word : (x : ℕ) → x < 2 ^ 64 → Word (number x) x
  number_word x l = (l, number_shows w A x l)

  -- where nothing is divided by 0 the table gives a number
  pub gives : (op : ArithOp) (wide : Bool) (x y : ℕ) → divides_by_zero op wide y ≡ false
      → computed op wide x y ≡ Ok (outcome (bits_of wide) op (low (bits_of wide) x) (low (bits_of wide) y))
  unfolding computed
  gives op wide x y e = rw e refl

  small : (op : ArithOp) (wide : Bool) (x y : ℕ) → divides_by_zero op wide y ≡ false
      → outcome (bits_of wide) op (low (bits_of wide) x) (low (bits_of wide) y) < 2 ^ 64
  small op wide x y e = computed-below op wide x y _ (gives op wide x y e)

  plain_does : (op : ArithOp) (wide : Bool) (v u : Neutral) (x y : ℕ) (c d : Option ℕ) → divides_by_zero op wide y ≡ false → Word v x
      → Word u y → plain v ≡ c → plain u ≡ d → Does Word (on_plain op wide c d) (or_divide_error (computed op wide x y))
  plain_does op wide v u x y (Some c) (Some d) n p q e f =
      let ex = plain_shows w A v x c p.1 e in
      let ey = plain_shows w A u y d q.1 f in
      subst₂ (λ i j. Does Word (of_table (computed op wide i j)) (or_divide_error (computed op wide x y))) ex ey
      (subst (λ z. Does Word (of_table z) (or_divide_error z)) (sym (gives op wide x y n)) (number_word _ (small op wide x y n)))
  plain_does op wide v u x y None d n p q e f = subst (λ z. Does Word (Gives Junk) (or_divide_error z)) (sym (gives op wide x y n))
      (junk_word _ (small op wide x y n))
  plain_does op wide v u x y (Some c) None n p q e f = subst (λ z. Does Word (Gives Junk) (or_divide_error z)) (sym (gives op wide x y n))
      (junk_word _ (small op wide x y n))

  -- no division is no division by 0
  no_divisor : (op : ArithOp) (wide : Bool) (y : ℕ) → divides op ≡ false → divides_by_zero op wide y ≡ false
  no_divisor op wide y e = ap (λ b. b && nat_eq (low (bits_of wide) y) 0) e

  -- an operation on operand 2 doesn't look at operand 1
  unary_same : (op : ArithOp) (wide : Bool) (x y : ℕ) → is_unary op ≡ true
      → outcome (bits_of wide) op (low (bits_of wide) 0) (low (bits_of wide) y) ≡ outcome (bits_of wide) op (low (bits_of wide) x)
      (low (bits_of wide) y)
  unary_same ops.Not wide x y e = refl
  unary_same ops.Neg wide x y e = refl
  unary_same ops.Extb wide x y e = refl
  unary_same ops.Extw wide x y e = refl
  unary_same ops.Extd wide x y e = refl
  unary_same _ wide x y e = absurd (false≢true e)

  one_does : (op : ArithOp) (wide : Bool) (u : Neutral) (x y : ℕ) (d : Option ℕ) → divides op ≡ false → is_unary op ≡ true → Word u y
      → plain u ≡ d → Does Word (on_one op wide d) (or_divide_error (computed op wide x y))
  one_does op wide u x y (Some d) n e q f =
      let ey = plain_shows w A u y d q.1 f in
      subst (λ j. Does Word (of_table (computed op wide 0 j)) (or_divide_error (computed op wide x y))) ey
      (subst₂ (λ i z. Does Word (of_table i) (or_divide_error z))
      (sym (gives op wide 0 y (no_divisor op wide y n) ∙ ap Ok (unary_same op wide x y e)))
      (sym (gives op wide x y (no_divisor op wide y n))) (number_word _ (small op wide x y (no_divisor op wide y n))))
  one_does op wide u x y None n e q f = subst (λ z. Does Word (Gives Junk) (or_divide_error z))
      (sym (gives op wide x y (no_divisor op wide y n))) (junk_word _ (small op wide x y (no_divisor op wide y n)))

  divisor_does : (op : ArithOp) (wide : Bool) (v u : Neutral) (x y : ℕ) (c d : Option ℕ) → Word v x → Word u y → plain v ≡ c → plain u ≡ d
      → Does Word (on_divisor op wide c d) (or_divide_error (computed op wide x y))
  unfolding computed
  divisor_does op wide v u x y c None p q e f = tt
  divisor_does op wide v u x y c (Some d) p q e f =
      let ey = plain_shows w A u y d q.1 f in
      subst (λ j. Does Word (if divides_by_zero op wide j then Raises raises.DivideError else on_plain op wide c (Some j))
      (or_divide_error (computed op wide x y))) ey (go (divides_by_zero op wide y) refl (f ∙ ap Some (sym ey)))
    where
      go : (t : Bool) → divides_by_zero op wide y ≡ t → plain u ≡ Some y
          → Does Word (if t then Raises raises.DivideError else on_plain op wide c (Some y))
          (or_divide_error (if t then Err divide_error else Ok (outcome (bits_of wide) op (low (bits_of wide) x) (low (bits_of wide) y))))
      go true t g = refl
      go false t g = subst (λ z. Does Word (on_plain op wide c (Some y)) (or_divide_error z)) (gives op wide x y t)
          (plain_does op wide v u x y c (Some y) t p q e g)

  pub table_does : (op : ArithOp) (wide : Bool) (v u : Neutral) (x y : ℕ) → Word v x → Word u y
      → Does Word (by_table op wide v u) (or_divide_error (computed op wide x y))
  table_does op wide v u x y p q = go (divides op) refl (is_unary op) refl
    where
      go : (s : Bool) → divides op ≡ s → (t : Bool) → is_unary op ≡ t
          → Does Word (if s then on_divisor op wide (plain v) (plain u)
          else (if t then on_one op wide (plain u) else on_plain op wide (plain v) (plain u))) (or_divide_error (computed op wide x y))
      go true e t f = divisor_does op wide v u x y (plain v) (plain u) p q refl refl
      go false e true f = one_does op wide u x y (plain u) e f q refl
      go false e false f = plain_does op wide v u x y (plain v) (plain u) (no_divisor op wide y e) p q refl refl
