-- Fields of a number side by side: put together, and taken apart.
use Rattle.std.proofs.Common.{◌≡◌, ℕ, ◌+◌, ◌-◌, ◌*◌, ◌/◌, ◌%◌, ◌^◌, ◌<◌, ◌≤◌, bit_or, arith, ap, sym, subst, ◌∙◌}
use Rattle.std.proofs.Math.Nat.{div-one, div-eq_of_lt, mod-eq_of_lt, add-mul-mod_self_left}
use Rattle.std.proofs.lemmas.Nat.{shl_whole, or_shifted, or_comm, mul-add-lt, pow-add, shr_high, shr_split, mod_below, pow_pos, mod-pow-add}
use Rattle.std.proofs.lemmas.Nat.{field_of}
use Rattle.natural_index.specs.Index.{field_at}

-- a field is put above a number that ends below it
pub joined : (n place f width : ℕ) → n < 2 ^ place → f < 2 ^ width → width + place ≤ 64
    → bit_or n (f * 2 ^ place % 2 ^ 64) ≡ n + 2 ^ place * f
joined n place f width low high room =
    let sum : f * 2 ^ place + n ≡ n + 2 ^ place * f = grind arith in
    ap (bit_or n) (shl_whole f width place 64 high room) ∙ (or_comm n (f * 2 ^ place) ∙ (or_shifted f place n low ∙ sum))

pub joined_below : (n place f width total : ℕ) → width + place ≡ total → n < 2 ^ place → f < 2 ^ width → n + 2 ^ place * f < 2 ^ total
joined_below n place f width total whole low high =
    let product : f * 2 ^ place + n < 2 ^ place * 2 ^ width = mul-add-lt f (2 ^ place) n (2 ^ width) high low in
    let sum : n + 2 ^ place * f ≡ f * 2 ^ place + n = grind arith in
    rw (← whole, pow-add 2 width place, sum) (omega (arith, product))

-- the topmost field
pub field_at-joined : (n place f width : ℕ) → n < 2 ^ place → f < 2 ^ width → field_at (n + 2 ^ place * f) place width ≡ f
field_at-joined n place f width low high =
    let sum : n + 2 ^ place * f ≡ f * 2 ^ place + n = grind arith in
    rw (sum, shr_high f place n low) (mod-eq_of_lt high)

-- the low bits are not of the topmost field
pub mod-joined : (n place f low : ℕ) → low ≤ place → (n + 2 ^ place * f) % 2 ^ low ≡ n % 2 ^ low
mod-joined n place f low within =
    let whole : low + (place - low) ≡ place = omega arith in
    let parts : 2 ^ place * f ≡ 2 ^ low * (2 ^ (place - low) * f) = rw (← whole, pow-add 2 low (place - low)) (grind arith) in
    rw parts (add-mul-mod_self_left n (2 ^ low) (2 ^ (place - low) * f))

-- a field below the topmost one
pub field_at-below : (n above f place width : ℕ) → width + place ≤ above → field_at (n + 2 ^ above * f) place width ≡ field_at n place width
field_at-below n above f place width within =
    sym (field_of (n + 2 ^ above * f) width place) ∙ (ap (λ low. low / 2 ^ place) (mod-joined n above f (width + place) within)
    ∙ field_of n width place)

-- the low bits, taken apart at a field's place
pub mod-fields : (n place width total : ℕ) → width + place ≡ total → n % 2 ^ total ≡ n % 2 ^ place + 2 ^ place * field_at n place width
mod-fields n place width total whole =
    let sum : n / 2 ^ place % 2 ^ width * 2 ^ place + n % 2 ^ place ≡ n % 2 ^ place + 2 ^ place * field_at n place width = grind arith in
    subst (λ bits. n % 2 ^ bits ≡ n % 2 ^ place + 2 ^ place * field_at n place width) whole (mod-pow-add n width place ∙ sum)

-- the lowest field
pub field_at-lowest : (n width : ℕ) → field_at n 0 width ≡ n % 2 ^ width
field_at-lowest n width = ap (λ all. all % 2 ^ width) (div-one n)

-- nothing is left of a number that is shifted out, and of no other
pub shifted_out : (n k : ℕ) → n < 2 ^ k → n / 2 ^ k ≡ 0
shifted_out n k below = div-eq_of_lt below

pub kept_below : (n k : ℕ) → n / 2 ^ k ≡ 0 → n < 2 ^ k
kept_below n k none =
    let split : 0 * 2 ^ k + n % 2 ^ k ≡ n = subst (λ above. above * 2 ^ k + n % 2 ^ k ≡ n) none (shr_split n k) in
    omega (arith, split, mod_below n (2 ^ k) (pow_pos k))
