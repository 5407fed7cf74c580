-- The results are numbers of as many bits, and so of 64.
use Rattle.std.proofs.Common.{◌≡◌, ℕ, zero, suc, ◌/◌, ◌^◌, ◌<◌, ◌≤◌, Bool, true, false, if◌then◌else◌, Ok, Err, ℤ, pos, negsuc, subst}
use Rattle.std.proofs.Common.{arith}
use Rattle.std.proofs.Math.Nat.{mod-le}
use Rattle.std.proofs.lemmas.Nat.{mod_below, pow_pos, and_le_l, or_lt, xor_lt, shr_le}
use Rattle.ebc_insn.specs.declared.ArithOp.{ArithOp}
use Rattle.ebc_insn.specs.declared.ArithOp.TheVariants as ops
use Rattle.machine_alu.specs.Alu.{bits_of, low, wrap, outcome, divides_by_zero, divide_error, computed}

wrap-below : (bits : ℕ) (z : ℤ) → wrap bits z < 2 ^ bits
wrap-below bits (pos n) = mod_below n (2 ^ bits) (pow_pos bits)
wrap-below bits (negsuc n) = let some = pow_pos bits in omega (arith, some)

pub outcome-below : (bits : ℕ) (op : ArithOp) (x y : ℕ) → x < 2 ^ bits → y < 2 ^ bits → outcome bits op x y < 2 ^ bits
outcome-below bits ops.Not x y l m = omega (arith, m)
outcome-below bits ops.Neg x y l m = mod_below _ _ (pow_pos bits)
outcome-below bits ops.Add x y l m = mod_below _ _ (pow_pos bits)
outcome-below bits ops.Sub x y l m = mod_below _ _ (pow_pos bits)
outcome-below bits ops.Mul x y l m = wrap-below bits _
outcome-below bits ops.Mulu x y l m = mod_below _ _ (pow_pos bits)
outcome-below bits ops.Div x y l m = wrap-below bits _
outcome-below bits ops.Divu x y l m = quotient x y l
  where
    quotient : (x y : ℕ) → x < 2 ^ bits → x / y < 2 ^ bits
    quotient x zero l = let some = pow_pos bits in omega (arith, some)
    quotient x (suc y) l = let less = at_most x (suc y) in omega (arith, less, l)
      where
        at_most : (x y : ℕ) → x / y ≤ x
        at_most x y = omega arith
outcome-below bits ops.Mod x y l m = wrap-below bits _
outcome-below bits ops.Modu x y l m = let less = mod-le x y in omega (arith, less, l)
outcome-below bits ops.And x y l m = let less = and_le_l x y in omega (arith, less, l)
outcome-below bits ops.Or x y l m = or_lt bits x y l m
outcome-below bits ops.Xor x y l m = xor_lt bits x y l m
outcome-below bits ops.Shl x y l m = mod_below _ _ (pow_pos bits)
outcome-below bits ops.Shr x y l m = let less = shr_le x y in omega (arith, less, l)
outcome-below bits ops.Ashr x y l m = wrap-below bits _
outcome-below bits ops.Extb x y l m = wrap-below bits _
outcome-below bits ops.Extw x y l m = wrap-below bits _
outcome-below bits ops.Extd x y l m = wrap-below bits _

outcome-small : (op : ArithOp) (wide : Bool) (a b : ℕ) → outcome (bits_of wide) op (low (bits_of wide) a) (low (bits_of wide) b) < 2 ^ 64
outcome-small op true a b = outcome-below 64 op _ _ (omega arith) (omega arith)
outcome-small op false a b = let below = outcome-below 32 op (low 32 a) (low 32 b) (omega arith) (omega arith) in omega (arith, below)

pub computed-below : (op : ArithOp) (wide : Bool) (a b v : ℕ) → computed op wide a b ≡ Ok v → v < 2 ^ 64
unfolding computed
computed-below op wide a b v same = either (divides_by_zero op wide b) same
  where
    either : (zero : Bool) → (if zero then Err divide_error else Ok
        (outcome (bits_of wide) op (low (bits_of wide) a) (low (bits_of wide) b))) ≡ Ok v → v < 2 ^ 64
    either true e = absurd (cc)
    either false e =
        let here : outcome (bits_of wide) op (low (bits_of wide) a) (low (bits_of wide) b) ≡ v = cc in
        subst (λ n. n < 2 ^ 64) here (outcome-small op wide a b)
