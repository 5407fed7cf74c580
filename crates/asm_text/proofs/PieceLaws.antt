-- Numbers between commas, one after the other.
use Rattle.std.proofs.Common.{◌≡◌, ℕ, ◌+◌, ◌≤◌, List, [], ◌∷◌, ◌++◌, length, Option, Some, None, option_map, Bool, true, false, ◌&&◌, ◌==◌}
use Rattle.std.proofs.Common.{cond, refl, sym, ap, subst, ◌∙◌, arith, Result, Ok, Err, ℤ, append-nil, OnOk}
use Rattle.ebc_base.specs.Steps.{◌>>=◌}
use Rattle.asm_text.specs.declared.fault.AsmFault.{AsmFault}
use Rattle.asm_text.specs.declared.fault.AsmFault.TheVariants as faults
use Rattle.asm_text.specs.Faults.{made}
use Rattle.asm_text.specs.Numbers.{number}
use Rattle.asm_text.specs.Splits.{cut, is_empty, longer, pieces}
use Rattle.asm_text.specs.Statements.{each_number, numbers_of}
use Rattle.asm_text.specs.Texts.{IsRead, are_read, bytes_read, bytes_of_number, bytes_of_numbers, values_of}

-- What is cut at a comma, or at none.
abbrev pub CutAs : List ℕ → Option (List ℕ × List ℕ) → Type 0
CutAs text None = pieces text ≡ text ∷ []
CutAs text (Some p) = (pieces text ≡ p.0 ∷ pieces p.1) × (length p.1 + 2 ≤ length text)

never : (t : Bool) (A : Type 0) (x y : A) → cond (t && false) x y ≡ y
never true A x y = refl
never false A x y = refl

grown : (b : ℕ) (text : List ℕ) (o : Option (List ℕ × List ℕ)) → CutAs text o → (longer b (pieces text) ≡ pieces (b ∷ text))
    → CutAs (b ∷ text) (option_map (λ p. (b ∷ p.0, p.1)) o)
grown b text None h same = sym same ∙ ap (longer b) h
grown b text (Some p) h same = (sym same ∙ ap (longer b) h.0, let l = h.1 in omega arith)

pieces_here : (b c : ℕ) (bs : List ℕ) → (b == 44 && c == 32) ≡ true → pieces (b ∷ c ∷ bs) ≡ [] ∷ pieces bs
unfolding pieces
pieces_here b c bs h = rw h refl

pieces_on : (b c : ℕ) (bs : List ℕ) → (b == 44 && c == 32) ≡ false → longer b (pieces (c ∷ bs)) ≡ pieces (b ∷ c ∷ bs)
unfolding pieces
pieces_on b c bs h = rw h refl

pub cut_as : (text : List ℕ) → CutAs text (cut text)
unfolding cut pieces
cut_as [] = refl
cut_as (b ∷ []) = subst (λ o. CutAs (b ∷ []) o) (sym (never (b == 44) (Option (List ℕ × List ℕ)) (Some ([], [])) None)) refl
cut_as (b ∷ c ∷ bs) = elim (b == 44 && c == 32) as (λ t. (b == 44 && c == 32) ≡ t
    → CutAs (b ∷ c ∷ bs) (cond t (Some ([], bs)) (option_map (λ p. (b ∷ p.0, p.1)) (cut (c ∷ bs))))) [
      | true ↦ λ e. (pieces_here b c bs e, omega arith)
      | false ↦ λ e. grown b (c ∷ bs) (cut (c ∷ bs)) (cut_as (c ∷ bs)) (pieces_on b c bs e)
    ] refl

-- where the first piece ends
pub cut_some : (text : List ℕ) (p : List ℕ × List ℕ) → cut text ≡ Some p → (pieces text ≡ p.0 ∷ pieces p.1) × (length p.1 + 2 ≤ length text)
cut_some text p is = subst (CutAs text) is (cut_as text)

pub cut_no : (text : List ℕ) → cut text ≡ None → pieces text ≡ text ∷ []
cut_no text is = subst (CutAs text) is (cut_as text)

-- ---- whether they are numbers

pub checked : ℕ → List ℕ → Result (Unit {0}) AsmFault
checked bits text = are_read (each_number bits (pieces text))

made_twice : (v : ℤ) (r : Result (List ℤ) AsmFault) → are_read (made (λ vs. v ∷ vs) r) ≡ are_read r
made_twice v (Ok vs) = refl
made_twice v (Err e) = refl

pub checked_bad : (bits : ℕ) (text : List ℕ) (p : List ℕ × List ℕ) (e : AsmFault) → cut text ≡ Some p → number bits p.0 ≡ Err e
    → checked bits text ≡ Err e
unfolding checked each_number
checked_bad bits text p e is bad = rw ((cut_some text p is).0, bad) refl

pub checked_more : (bits : ℕ) (text : List ℕ) (p : List ℕ × List ℕ) (v : ℤ) → cut text ≡ Some p → number bits p.0 ≡ Ok v
    → checked bits text ≡ checked bits p.1
unfolding checked each_number
checked_more bits text p v is good = rw ((cut_some text p is).0, good) (made_twice v (each_number bits (pieces p.1)))

pub checked_last_bad : (bits : ℕ) (text : List ℕ) (e : AsmFault) → cut text ≡ None → number bits text ≡ Err e → checked bits text ≡ Err e
unfolding checked each_number
checked_last_bad bits text e is bad = rw (cut_no text is, bad) refl

pub checked_last : (bits : ℕ) (text : List ℕ) (v : ℤ) → cut text ≡ None → number bits text ≡ Ok v → checked bits text ≡ Ok tt
unfolding checked each_number
checked_last bits text v is good = rw (cut_no text is, good) refl

pub checked_whole : (bits : ℕ) (text : List ℕ) → is_empty text ≡ false → are_read (numbers_of bits text) ≡ checked bits text
unfolding checked numbers_of
checked_whole bits text some = rw some refl

pub checked_none : (bits : ℕ) (text : List ℕ) → is_empty text ≡ true → are_read (numbers_of bits text) ≡ Err faults.Operand
unfolding numbers_of
checked_none bits text none = rw none refl

-- ---- their bytes

pub Reads : ℕ → List ℕ → Type 0
Reads bits text = IsRead (each_number bits (pieces text))

pub listed : ℕ → List ℕ → List ℕ
listed bits text = bytes_of_numbers bits (values_of (each_number bits (pieces text)))

more_read : (bits : ℕ) (v : ℤ) (r : Result (List ℤ) AsmFault) → IsRead (made (λ vs. v ∷ vs) r) → IsRead r
    × (bytes_of_numbers bits (values_of (made (λ vs. v ∷ vs) r)) ≡ bytes_of_number bits v ++ bytes_of_numbers bits (values_of r))
more_read bits v (Ok vs) h = (tt, refl)
more_read bits v (Err e) h = absurd h

pub reads_bad : (bits : ℕ) (text : List ℕ) (p : List ℕ × List ℕ) (e : AsmFault) → cut text ≡ Some p → Reads bits text
    → number bits p.0 ≡ Err e → ⊥
unfolding Reads each_number
reads_bad bits text p e is reads bad = rw ((cut_some text p is).0, bad) at reads

next_read : (bits : ℕ) (r : Result ℤ AsmFault) (rest : Result (List ℤ) AsmFault) → IsRead (r >>= (λ v. made (λ vs. v ∷ vs) rest))
    → IsRead rest × (bytes_of_numbers bits (values_of (r >>= (λ v. made (λ vs. v ∷ vs) rest))) ≡ bytes_read bits r
    ++ bytes_of_numbers bits (values_of rest))
next_read bits (Ok v) rest h = more_read bits v rest h
next_read bits (Err e) rest h = absurd h

pub reads_next : (bits : ℕ) (text : List ℕ) (p : List ℕ × List ℕ) → cut text ≡ Some p → Reads bits text → Reads bits p.1
    × (listed bits text ≡ bytes_read bits (number bits p.0) ++ listed bits p.1)
unfolding Reads listed each_number
reads_next bits text p is reads =
    let parts : IsRead (number bits p.0 >>= (λ v. made (λ vs. v ∷ vs) (each_number bits (pieces p.1)))) =
    rw ((cut_some text p is).0) at reads in
    let next = next_read bits (number bits p.0) (each_number bits (pieces p.1)) parts in
    (next.0, rw ((cut_some text p is).0) next.1)

pub reads_last_bad : (bits : ℕ) (text : List ℕ) (e : AsmFault) → cut text ≡ None → Reads bits text → number bits text ≡ Err e → ⊥
unfolding Reads each_number
reads_last_bad bits text e is reads bad = rw (cut_no text is, bad) at reads

last_read : (bits : ℕ) (r : Result ℤ AsmFault) → IsRead (r >>= (λ v. made (λ vs. v ∷ vs) (Ok [])))
    → bytes_of_numbers bits (values_of (r >>= (λ v. made (λ vs. v ∷ vs) (Ok [])))) ≡ bytes_read bits r
last_read bits (Ok v) h = append-nil (bytes_of_number bits v)
last_read bits (Err e) h = absurd h

pub reads_end : (bits : ℕ) (text : List ℕ) → cut text ≡ None → Reads bits text → listed bits text ≡ bytes_read bits (number bits text)
unfolding Reads listed each_number
reads_end bits text is reads =
    let parts : IsRead (number bits text >>= (λ v. made (λ vs. v ∷ vs) (Ok []))) = rw (cut_no text is) at reads in
    rw (cut_no text is) (last_read bits (number bits text) parts)

pub reads_whole : (bits : ℕ) (text : List ℕ) → IsRead (numbers_of bits text) → Reads bits text
unfolding Reads numbers_of
reads_whole bits [] h = absurd h
reads_whole bits (b ∷ bs) h = h

pub listed_whole : (bits : ℕ) (text : List ℕ) → IsRead (numbers_of bits text)
    → listed bits text ≡ bytes_of_numbers bits (values_of (numbers_of bits text))
unfolding listed numbers_of
listed_whole bits [] h = absurd h
listed_whole bits (b ∷ bs) h = refl

pub none_read : (bits : ℕ) (text : List ℕ) → length text ≡ 0 → IsRead (numbers_of bits text) → ⊥
unfolding numbers_of
none_read bits [] h reads = reads
none_read bits (b ∷ bs) h reads = absurd (omega (arith, h))

-- what holds of an answer that is Ok, and what follows from it
pub on_ok : {A E : Type 0} (r : Result A E) (P Q : Type 0) → OnOk r P → (P → Q) → OnOk r Q
on_ok (Ok x) P Q h f = f h
on_ok (Err e) P Q h f = tt
