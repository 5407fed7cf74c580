-- What one piece more does to the known bytes of a writer.
use Rattle.std.proofs.Common.{ℕ, ◌+◌, List, ◌++◌, take, drop, Option, Some, None, ap, ◌∙◌, append_assoc}
use Rattle.std.proofs.Math.Seq.{take-add}
use Rattle.std.specs.Io.KnownBytes.{Appends}

-- the first bytes of a text, and then some of those that follow, are first bytes
pub appended : (a b c : Option (List ℕ)) (xs : List ℕ) (i n : ℕ) → Appends a b (take i xs) → Appends b c (take n (drop i xs))
    → Appends a c (take (i + n) xs)
appended None b c xs i n p q = tt
appended (Some s) None c xs i n p q = absurd p
appended (Some s) (Some t) None xs i n p q = absurd q
appended (Some s) (Some t) (Some u) xs i n p q = rw take-add (q ∙ ap (λ v. v ++ take n (drop i xs)) p ∙ append_assoc s _ _)
