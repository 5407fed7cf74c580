-- The numbers that a step reads and computes are numbers of 64 bits.
use Rattle.std.proofs.Common.{◌≡◌, ℕ, ◌+◌, ◌*◌, ◌%◌, ◌^◌, ◌<◌, inl, inr, ⊎_elim, Bool, true, false, if◌then◌else◌, Option, Some, None}
use Rattle.std.proofs.Common.{Result, Ok, Err, refl, subst, sym, arith}
use Rattle.std.specs.Prelude.{IfOk, nat_eq}
use Rattle.std.proofs.Math.Nat.{mod-le}
use Rattle.std.proofs.lemmas.Bool.{cond_both}
use Rattle.std.proofs.lemmas.Nat.{mod_below}
use Rattle.ebc_base.specs.Steps.{or_else}
use Rattle.ebc_width.specs.Width.{IsWidth}
use Rattle.ebc_width.specs.Bytes.{IsAccess, little_endian}
use Rattle.ebc_width.specs.Ranges.{holds}
use Rattle.ebc_width.proofs.Laws.{by_width, cut_at-below_64}
use Rattle.ebc_width.proofs.ByteLaws.{little_endian-below}
use Rattle.ebc_insn.specs.declared.ArithOp.{ArithOp}
use Rattle.ebc_insn.specs.declared.Size.{Size}
use Rattle.ebc_insn.specs.declared.Size.TheVariants as sizes
use Rattle.machine_alu.specs.Alu.{computed}
use Rattle.ebc_machine.proofs.ResultLaws.{computed-below}
use Rattle.machine_alu.specs.declared.DivideError.{DivideError}
use Rattle.note_types.specs.Concrete.{Concrete, IsConcrete, loaded}
use Rattle.note_types.specs.declared.exception.Exception.{Exception}
use Rattle.note_types.specs.declared.exception.Exception.TheVariants as raises
use Rattle.ebc_machine.specs.declared.operand.Side.{Side}
use Rattle.ebc_machine.specs.Operands.{form_bytes, size_bytes, low_bytes, sum_at, address, loaded_at, value}
use Rattle.ebc_machine.specs.Results.{or_divide_error}
use Rattle.ebc_machine.specs.Flow.{target_number, target_at, aligned}
use Rattle.ebc_base.proofs.Given.{ok_next}

-- A number of 64 bits.
abbrev pub IsSmall : ℕ → Type 0
IsSmall v = v < 2 ^ 64

-- ---- steps that may fail

pub held_or : {A E : Type 0} (P : A → Type 0) (e : E) (o : Option A) → ((x : A) → o ≡ Some x → P x) → IfOk (or_else e o) P
held_or P e None p = tt
held_or P e (Some x) p = p x refl

-- ---- sizes

by_access : (P : ℕ → Type 0) (k : ℕ) → IsAccess k → P 1 → P 2 → P 4 → P 8 → P k
by_access P k access at1 at2 at4 at8 =
    ⊎_elim (λ is. subst P (sym is) at1)
    (⊎_elim (λ is. subst P (sym is) at2)
    (⊎_elim (λ is. subst P (sym is) at4) (λ is. subst P (sym is) at8))) access

pub width_access : (w : ℕ) → IsWidth w → IsAccess w
width_access w width = by_width IsAccess w width (inr (inr (inl refl))) (inr (inr (inr refl)))

pub form_access : (wide : Bool) → IsAccess (form_bytes wide)
form_access true = inr (inr (inr refl))
form_access false = inr (inr (inl refl))

pub size_access : (w : ℕ) (size : Size) → IsWidth w → IsAccess (size_bytes w size)
size_access w sizes.Byte width = inl refl
size_access w sizes.Word width = inr (inl refl)
size_access w sizes.Dword width = inr (inr (inl refl))
size_access w sizes.Qword width = inr (inr (inr refl))
size_access w sizes.Natural width = width_access w width

-- ---- numbers

small_access : (k n : ℕ) → IsAccess k → n < 256 ^ k → IsSmall n
small_access k n access = by_access (λ j. n < 256 ^ j → IsSmall n) k access (λ h. omega arith) (λ h. omega arith) (λ h. omega arith)
    (λ h. omega arith)

pub small_mod : (n : ℕ) → IsSmall (n % 2 ^ 64)
small_mod n = mod_below n (2 ^ 64) (omega arith)

pub small_low : (k n : ℕ) → IsSmall n → IsSmall (low_bytes k n)
small_low k n small = let less = mod-le n (2 ^ (8 * k)) in omega (arith, less)

loaded-small : (w : ℕ) (s : Concrete) (a k v : ℕ) → IsConcrete w s → IsAccess k → loaded s a k ≡ Some v → IsSmall v
unfolding loaded
loaded-small w s a k v is access same = either (holds s.objects a k) same
  where
    either : (held : Bool) → (if held then Some (little_endian s.byte a k) else None) ≡ Some v → IsSmall v
    either true e =
        let here : little_endian s.byte a k ≡ v = cc in
        subst IsSmall here (small_access k (little_endian s.byte a k) access (little_endian-below s.byte a k is.bytes))
    either false e = absurd (cc)

pub loaded_at-small : (w : ℕ) (s : Concrete) (e : Exception) (k r offset : ℕ) → IsConcrete w s → IsAccess k
    → IfOk (loaded_at w s e k r offset) IsSmall
unfolding loaded_at
loaded_at-small w s e k r offset is access =
    held_or IsSmall e (loaded s (address w s r offset) k) (λ v same. loaded-small w s (address w s r offset) k v is access same)

sum_at-small : (s : Concrete) (r offset : ℕ) → IsSmall (sum_at s r offset)
unfolding sum_at
sum_at-small s r offset = small_mod _

pub value-small : (w : ℕ) (s : Concrete) (e : Exception) (k : ℕ) (o : Side) → IsConcrete w s → IsAccess k → IfOk (value w s e k o) IsSmall
unfolding value
value-small w s e k o is access =
    cond_both o.indirect (loaded_at w s e k o.reg o.offset) (Ok (sum_at s o.reg o.offset)) (λ r. IfOk r IsSmall)
    (λ memory. loaded_at-small w s e k o.reg o.offset is access)
    (λ register. sum_at-small s o.reg o.offset)

pub divided-small : (op : ArithOp) (wide : Bool) (a b : ℕ) → IfOk (or_divide_error (computed op wide a b)) IsSmall
divided-small op wide a b = either (computed op wide a b) (λ v same. computed-below op wide a b v same)
  where
    either : (r : Result ℕ DivideError) → ((v : ℕ) → r ≡ Ok v → IsSmall v) → IfOk (or_divide_error r) IsSmall
    either (Ok v) small = small v refl
    either (Err e) small = tt

pub target_at-small : (w : ℕ) (s : Concrete) (next : ℕ) (relative : Bool) (op : Side) → IsConcrete w s
    → IfOk (target_at w s next relative op) IsSmall
unfolding target_at
target_at-small w s next relative op is =
    ok_next IsSmall (target_number w s op) _ (λ t. cut_at-below_64 w (if relative then (next + t) % 2 ^ 64 else t) is.width)

pub aligned-small : (target : ℕ) → IsSmall target → IfOk (aligned target) IsSmall
aligned-small target small =
    cond_both (nat_eq (target % 2) 0) (Ok target) (Err raises.AlignmentCheck) (λ (r : Result ℕ Exception). IfOk r IsSmall) (λ even. small)
    (λ odd. tt)
