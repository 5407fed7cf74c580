-- How long the source of a sample is.
use Rattle.std.proofs.Common.{ℕ, ◌+◌, ◌*◌, ◌^◌, ◌<◌, ◌≤◌, Bool, true, false, List, ◌++◌, zero, suc, codes, length, length-append, nat_eq}
use Rattle.std.proofs.Common.{arith, lit≤}
use Rattle.std.proofs.lemmas.Fmt.{length-decimal-le}
use Rattle.std.specs.Fmt.{decimal}
use Rattle.std.specs.List.{flat_map, range_with_len}
use Rattle.std.specs.Prelude.{if◌then◌else◌}
use Rattle.printed_texts.specs.Samples.{calling_function, function_source, last_function, source_text}

joined : (a b : List ℕ) (m n : ℕ) → length a ≤ m → length b ≤ n → length (a ++ b) ≤ m + n
joined a b m n first second = omega (arith, length-append a b)

chosen : (b : Bool) (x y : List ℕ) (m : ℕ) → length x ≤ m → length y ≤ m → length (if b then x else y) ≤ m
chosen true x y m first second = first
chosen false x y m first second = second

last_short : (k : ℕ) → length (decimal k) ≤ 4 → length (last_function k) ≤ 64
last_short k four =
    joined (codes "f") _ 1 63 (lit≤ tt) (joined (decimal k) _ 4 59 four (joined (codes ":\nMOVIqw R7, ") _ 13 46 (lit≤ tt)
    (joined (decimal k) (codes "\nRET\n") 4 42 four (lit≤ tt))))

calling_short : (k next : ℕ) → length (decimal k) ≤ 4 → length (decimal next) ≤ 4 → length (calling_function k next) ≤ 64
calling_short k next four four' =
    joined (codes "f") _ 1 63 (lit≤ tt) (joined (decimal k) _ 4 59 four (joined (codes ":\nCALL32 f") _ 10 49 (lit≤ tt)
    (joined (decimal next) _ 4 45 four' (joined (codes "\nMOVIqw R4, ") _ 12 33 (lit≤ tt)
    (joined (decimal k) (codes "\nADD64 R7, R4\nRET\n") 4 29 four (lit≤ tt))))))

function_short : (n k : ℕ) → k < n → n ≤ 4096 → length (function_source n k) ≤ 64
function_short n k below few =
    let four : length (decimal k) ≤ 4 = length-decimal-le 4 k (omega arith) (omega arith) (omega arith) in
    let four' : length (decimal (k + 1)) ≤ 4 = length-decimal-le 4 (k + 1) (omega arith) (omega arith) (omega arith) in
    chosen (nat_eq (k + 1) n) (last_function k) (calling_function k (k + 1)) 64 (last_short k four) (calling_short k (k + 1) four four')

-- texts of at most 64 bytes for n numbers from a on
all_short : (f : ℕ → List ℕ) (a n : ℕ) → ((k : ℕ) → k < a + n → length (f k) ≤ 64) → length (flat_map f (range_with_len a n)) ≤ 64 * n
all_short f a zero each = omega arith
all_short f a (suc n) each =
    let rest : length (flat_map f (range_with_len (a + 1) n)) ≤ 64 * n = all_short f (a + 1) n (λ k below. each k (omega (arith, below))) in
    let all : length (f a ++ flat_map f (range_with_len (a + 1) n)) ≤ 64 + 64 * n =
    joined (f a) (flat_map f (range_with_len (a + 1) n)) 64 (64 * n) (each a (omega arith)) rest in
    omega (arith, all)

-- the source of a sample has at most 1 MiB
pub source_short : (n : ℕ) → n ≤ 4096 → length (source_text n) ≤ 2 ^ 20
source_short n few =
    let lines : length (flat_map (function_source n) (range_with_len 0 n)) ≤ 64 * n =
    all_short (function_source n) 0 n (λ k below. function_short n k (omega (arith, below)) few) in
    let all : length (source_text n) ≤ 11 + 64 * n =
    joined (codes ".global f0\n") (flat_map (function_source n) (range_with_len 0 n)) 11 (64 * n) (lit≤ tt) lines in
    omega (arith, all)
