-- What each operation gives on values fits what its row gives on types.
use Rattle.typing_laws.proofs.Common.{◌≡◌, ℕ, ◌^◌, ◌<◌, Bool, true, false, not, ◌&&◌, ◌||◌, if◌then◌else◌, Option, Some, None, Result, Ok}
use Rattle.typing_laws.proofs.Common.{Err, refl, sym, ap, ap₂, ◌∙◌, subst, arith, le_refl, and_parts, false≢true, same_Some, none-some}
use Rattle.typing_laws.proofs.Common.{ArithOp, low, outcome, computed, DivideError, IsBounded, Ty, Any, Int, constant, constant_of, full}
use Rattle.typing_laws.proofs.Common.{is_int, is_unary, folded, fold_row, or_ints, other_row, divisor_known, Neutral, Junk, number, plain}
use Rattle.typing_laws.proofs.Common.{word, Raises, by_table, Accepts}
use Rattle.machine_alu.specs.Alu.{bits_of, divides, divides_by_zero, divide_error}
use Rattle.neutral_machine.specs.Operations.{of_table, on_plain, on_one, on_divisor}
use Rattle.neutral_machine.proofs.Alu.{table_below}
use Rattle.typing_laws.proofs.Rows.{then_some, one_divides, constant_word, constant_fits, number_fits}
use Rattle.typing_laws.proofs.Views.{View, FitsIn}
use Rattle.note_types.specs.declared.exception.Exception.TheVariants as raises
use Rattle.neutral_machine.specs.Operations as neutral

-- ---- the table's numbers

-- what the table gives is the outcome
pub computed_is : (op : ArithOp) (wide : Bool) (x y r : ℕ) → computed op wide x y ≡ Ok r
    → r ≡ outcome (bits_of wide) op (low (bits_of wide) x) (low (bits_of wide) y)
unfolding computed
computed_is op wide x y r e = go (divides_by_zero op wide y) e
  where
    go : (t : Bool) → (if t then Err divide_error else Ok (outcome (bits_of wide) op (low (bits_of wide) x) (low (bits_of wide) y))) ≡ Ok r
        → r ≡ outcome (bits_of wide) op (low (bits_of wide) x) (low (bits_of wide) y)
    go true e = absurd cc
    go false e = cc

pub computed_below : (op : ArithOp) (wide : Bool) (x y r : ℕ) → computed op wide x y ≡ Ok r → r < 2 ^ bits_of wide
computed_below op wide x y r e = subst (λ z. z < 2 ^ bits_of wide) (sym (computed_is op wide x y r e)) (table_below op wide x y)

-- an operation on operand 2 doesn't look at operand 1
unary_same : (op : ArithOp) (wide : Bool) (x z y : ℕ) → is_unary op ≡ true → computed op wide x y ≡ computed op wide z y
unfolding computed
unary_same ArithOp.Not wide x z y e = refl
unary_same ArithOp.Neg wide x z y e = refl
unary_same ArithOp.Extb wide x z y e = refl
unary_same ArithOp.Extw wide x z y e = refl
unary_same ArithOp.Extd wide x z y e = refl
unary_same _ wide x z y e = absurd (false≢true e)

same_unary : (op : ArithOp) → neutral.is_unary op ≡ is_unary op
same_unary ArithOp.Not = refl
same_unary op = refl

-- ---- the table on values

-- what the table gives: a number for plain operands, junk where one that is looked at isn't plain
module _ (P : Neutral → Type 0) (op : ArithOp) (wide : Bool) (v u : Neutral) where
  pub record TableGives : Type 0 where
    pub numbers : (x y r : ℕ) → plain v ≡ Some x → plain u ≡ Some y → computed op wide x y ≡ Ok r → P (number r)
    pub one : (y r : ℕ) → plain u ≡ Some y → is_unary op ≡ true → computed op wide 0 y ≡ Ok r → P (number r)
    pub not_first : is_unary op ≡ false → plain v ≡ None → P Junk
    pub not_second : plain u ≡ None → P Junk

  of_table_accepts : (o : Result ℕ DivideError) → ((r : ℕ) → o ≡ Ok r → P (number r)) → Accepts P (of_table o)
  of_table_accepts (Ok r) h = h r refl
  of_table_accepts (Err e) h = refl

  plain_accepts : (c e : Option ℕ) → plain v ≡ c → plain u ≡ e → is_unary op ≡ false → TableGives → Accepts P (on_plain op wide c e)
  plain_accepts (Some x) (Some y) p q n g = of_table_accepts (computed op wide x y) (λ r h. g.numbers x y r p q h)
  plain_accepts None (Some y) p q n g = g.not_first n p
  plain_accepts None None p q n g = g.not_second q
  plain_accepts (Some x) None p q n g = g.not_second q

  one_accepts : (e : Option ℕ) → plain u ≡ e → is_unary op ≡ true → TableGives → Accepts P (on_one op wide e)
  one_accepts (Some y) q n g = of_table_accepts (computed op wide 0 y) (λ r h. g.one y r q n h)
  one_accepts None q n g = g.not_second q

  divisor_accepts : (e : Option ℕ) → plain u ≡ e → (e ≡ None → ⊥) → is_unary op ≡ false → TableGives
      → Accepts P (on_divisor op wide (plain v) e)
  divisor_accepts None q k n g = absurd (k refl)
  divisor_accepts (Some y) q k n g = go (divides_by_zero op wide y)
    where
      go : (t : Bool) → Accepts P (if t then Raises raises.DivideError else on_plain op wide (plain v) (Some y))
      go true = refl
      go false = plain_accepts (plain v) (Some y) refl q n g

  divides_two : (op : ArithOp) → divides op ≡ true → is_unary op ≡ false
  divides_two ArithOp.Div e = refl
  divides_two ArithOp.Divu e = refl
  divides_two ArithOp.Mod e = refl
  divides_two ArithOp.Modu e = refl
  divides_two _ e = absurd (false≢true e)

  pub table_accepts : (divides op ≡ true → plain u ≡ None → ⊥) → TableGives → Accepts P (by_table op wide v u)
  table_accepts k g = go (divides op) refl (neutral.is_unary op) refl
    where
      go : (s : Bool) → divides op ≡ s → (t : Bool) → neutral.is_unary op ≡ t → Accepts P (if s then on_divisor op wide (plain v) (plain u)
          else (if t then on_one op wide (plain u) else on_plain op wide (plain v) (plain u)))
      go true e t f = divisor_accepts (plain u) refl (k e) (divides_two op e) g
      go false e true f = one_accepts (plain u) refl (sym (same_unary op) ∙ f) g
      go false e false f = plain_accepts (plain v) (plain u) refl refl (sym (same_unary op) ∙ f) g

module _ (view : View) where
  -- an Int's value is plain
  pub int_plain : (a : Ty) (v : Neutral) → is_int a ≡ true → FitsIn view a v → plain v ≡ None → ⊥
  int_plain (Int lo hi div) v h f e = none-some (word f.x) (sym e ∙ ap plain f.is)
  int_plain _ v h f e = false≢true h

  -- a constant's value
  pub constant_plain : (a : Ty) (k x : ℕ) (v : Neutral) → constant_of a ≡ Some k → IsBounded a → FitsIn view a v → plain v ≡ Some x → x ≡ k
  constant_plain a k x v h b f e =
      let w = constant_word a k h b in
      let q : word k ≡ x = same_Some (word k) x (sym (ap plain (constant_fits view a k v h f)) ∙ e) in
      omega (arith, w, q)

  full_number : (wide : Bool) (r : ℕ) → r < 2 ^ bits_of wide → FitsIn view (full (bits_of wide)) (number r)
  full_number true r l = number_fits view r 0 _ 1 _ refl (omega arith) (omega arith) (one_divides r)
  full_number false r l = number_fits view r 0 _ 1 _ refl (omega arith) (omega arith) (one_divides r)

  constant_fit : (r : ℕ) → FitsIn view (constant r) (number r)
  constant_fit r = number_fits view r r r 1 _ refl (le_refl r) (le_refl r) (one_divides r)

  folded_fits : (wide : Bool) (o : Result ℕ DivideError) (r : ℕ) → o ≡ Ok r → FitsIn view (folded wide o) (number r)
  folded_fits wide (Ok z) r e = let q : z ≡ r = cc in subst (λ i. FitsIn view (constant i) (number r)) (sym q) (constant_fit r)
  folded_fits wide (Err z) r e = absurd cc

  -- ---- other arithmetic

  -- the type of operand 1, or of operand 2 where it alone is looked at
  abbrev first_type : ArithOp → Ty → Ty → Ty
  first_type op a b = if is_unary op then b else a

  first_int : (op : ArithOp) (a b : Ty) (v : Neutral) → is_int (first_type op a b) ≡ true → FitsIn view a v → is_unary op ≡ false
      → plain v ≡ None → ⊥
  first_int op a b v h f n = int_plain a v (sym (ap (λ t. is_int (if t then b else a)) n) ∙ h) f

  pub other_fits : (op : ArithOp) (wide : Bool) (a b : Ty) (v u : Neutral) → IsBounded a → IsBounded b → divisor_known op b ≡ true
      → FitsIn view a v → FitsIn view b u → Accepts (FitsIn view (other_row op wide (first_type op a b) b)) (by_table op wide v u)
  other_fits op wide a b v u l r k f g = go (fold_row op wide (first_type op a b) b) refl
    where
      known : divides op ≡ true → plain u ≡ None → ⊥
      known e = int_plain b u (sym (ap (λ t. not t || is_int b) e) ∙ k) g

      fold : (t : Ty) → fold_row op wide (first_type op a b) b ≡ Some t → Accepts (FitsIn view t) (by_table op wide v u)
      fold t h =
          then_some (constant_of (first_type op a b)) _ t h (λ x e1 h1. then_some (constant_of b) _ t h1 (λ y e2 h2.
          table_accepts (FitsIn view t) op wide v u known (record {
            numbers = λ i j q p1 p2 c. subst (λ z. FitsIn view z (number q)) (same_Some _ t h2)
                (folded_fits wide _ q (same x y i j q e1 e2 p1 p2 c));
            one = λ j q p2 n c. subst (λ z. FitsIn view z (number q)) (same_Some _ t h2)
                (folded_fits wide _ q (ap (computed op wide x) (sym (constant_plain b y j u e2 r g p2)) ∙ unary_same op wide x 0 j n ∙ c));
            not_first = λ n e. absurd (first_int op a b v (const_int (first_type op a b) x e1) f n e);
            not_second = λ e. absurd (int_plain b u (const_int b y e2) g e);
          })))
        where
          const_int : (a : Ty) (x : ℕ) → constant_of a ≡ Some x → is_int a ≡ true
          const_int (Int lo hi div) x e = refl
          const_int _ x e = absurd (none-some x e)

          same : (x y i j q : ℕ) → constant_of (first_type op a b) ≡ Some x → constant_of b ≡ Some y → plain v ≡ Some i → plain u ≡ Some j
              → computed op wide i j ≡ Ok q → computed op wide x y ≡ Ok q
          same x y i j q e1 e2 p1 p2 c = by (is_unary op) refl
            where
              by : (s : Bool) → is_unary op ≡ s → computed op wide x y ≡ Ok q
              by true n = unary_same op wide x i y n ∙ ap (computed op wide i) (sym (constant_plain b y j u e2 r g p2)) ∙ c
              by false n = ap₂ (computed op wide) (sym (constant_plain a x i v
                  (sym (ap (λ t. constant_of (if t then b else a)) n) ∙ e1) l f p1)) (sym (constant_plain b y j u e2 r g p2)) ∙ c

      ints : (s : Bool) → (is_int (first_type op a b) && is_int b) ≡ s
          → Accepts (FitsIn view (if s then full (bits_of wide) else Any)) (by_table op wide v u)
      ints false e = table_accepts (λ _. Unit {0}) op wide v u known
          (record { numbers = λ _ _ _ _ _ _. tt; one = λ _ _ _ _ _. tt; not_first = λ _ _. tt; not_second = λ _. tt })
      ints true e =
          let i = and_parts (is_int (first_type op a b)) (is_int b) e in
          table_accepts (FitsIn view (full (bits_of wide))) op wide v u known (record {
            numbers = λ x y q p1 p2 c. full_number wide q (computed_below op wide x y q c);
            one = λ y q p2 n c. full_number wide q (computed_below op wide 0 y q c);
            not_first = λ n e. absurd (first_int op a b v i.0 f n e);
            not_second = λ e. absurd (int_plain b u i.1 g e);
          })

      go : (o : Option Ty) → fold_row op wide (first_type op a b) b ≡ o
          → Accepts (FitsIn view (or_ints wide (first_type op a b) b o)) (by_table op wide v u)
      go (Some t) h = fold t h
      go None h = ints _ refl
