-- The laws of the reading: what is read is spelled so, and what is spelled is read.
use Rattle.std.proofs.Common.{◌≡◌, ℕ, ◌≤◌, List, ◌∷◌, ◌++◌, length, take, arith, subst, ap, sym, ◌∙◌, Ok, Err}
use Rattle.ebc_insn.specs.declared.Insn.{Insn}
use Rattle.ebc_insn.specs.Spelling.{Spells, WellFormed, bytes_of, spelling}
use Rattle.ebc_decode.specs.declared.DecodeFault.{DecodeFault}
use Rattle.ebc_decode.specs.declared.form.Form.{Form}
use Rattle.ebc_decode.specs.Reading.{parts_at, read}
use Rattle.ebc_decode.proofs.Again.{read_again}
use Rattle.ebc_decode.proofs.Found.{IsFound, found}
use Rattle.ebc_decode.proofs.Numbers.{IsBytes}
use Rattle.ebc_decode.proofs.Parts.{IsPartsAt, IsReadAs, parts_right, read_parts, same_ok}

-- What is read has two bytes at least, and lies within the bytes.
pub read_length : (bytes : List ℕ) (i : Insn) (n : ℕ) → read bytes ≡ Ok (i, n) → (2 ≤ n) × (n ≤ length bytes)
read_length bytes i n e =
    let r = read_parts bytes i n e in
    (omega (arith, r.parts.size), omega (arith, r.parts.size, r.parts.long, ap length r.parts.whole))

-- What was read of two bytes is the instruction of its parts.
parts_found :
    (bytes : List ℕ) (i : Insn) (n : ℕ) (f : Form) (b0 b1 : ℕ) (rest : List ℕ) → IsReadAs bytes i n f b0 b1 rest →
    IsBytes bytes → IsPartsAt f b0 b1 rest × IsFound (parts_at f b0 b1 rest) i
unfolding parts_at
parts_found bytes i n f b0 b1 rest s each =
    let all : IsBytes (b0 ∷ b1 ∷ rest) = subst IsBytes s.whole each in
    let p = parts_right f b0 b1 rest all s.form s.proper s.indirect s.long in
    (p, found f (parts_at f b0 b1 rest) i p.is_form (all 0) (all 1) s.insn)

-- What is read has a spelling.
pub read_well_formed : (bytes : List ℕ) (i : Insn) (n : ℕ) → IsBytes bytes → read bytes ≡ Ok (i, n) → WellFormed i
read_well_formed bytes i n each e =
    let r = read_parts bytes i n e in
    (parts_found bytes i n r.f r.b0 r.b1 r.rest r.parts each).1.well_formed

-- What has been read by parts is spelled by the bytes of its length.
parts_spelled :
    (bytes : List ℕ) (i : Insn) (n : ℕ) (f : Form) (b0 b1 : ℕ) (rest : List ℕ) → IsReadAs bytes i n f b0 b1 rest →
    IsBytes bytes → take n bytes ≡ spelling i
parts_spelled bytes i n f b0 b1 rest s each =
    let p = parts_found bytes i n f b0 b1 rest s each in
    rw (s.whole, s.size) (sym p.0.spelled ∙ ap bytes_of (sym p.1.same))

-- What is read is spelled by as many bytes as are its length.
pub read_spells :
    (bytes : List ℕ) (i : Insn) (n : ℕ) → IsBytes bytes → read bytes ≡ Ok (i, n) → Spells (take n bytes) i
read_spells bytes i n each e =
    let r = read_parts bytes i n e in
    record {
      well_formed = read_well_formed bytes i n each e;
      same_bytes = parts_spelled bytes i n r.f r.b0 r.b1 r.rest r.parts each;
    }

-- Where there is a fault no front of the bytes spells an instruction.
pub read_none :
    (bytes : List ℕ) (fault : DecodeFault) (i : Insn) (rest : List ℕ) → read bytes ≡ Err fault →
    WellFormed i → bytes ≡ spelling i ++ rest → ⊥
read_none bytes fault i rest e h whole = let again = read_again i rest h in let same = ap read whole in cc

-- Two instructions whose spellings begin one list are the same.
pub one_spelling :
    (i j : Insn) (x y : List ℕ) → WellFormed i → WellFormed j → spelling i ++ x ≡ spelling j ++ y → i ≡ j
one_spelling i j x y hi hj e = ap (λ p. p.0) (same_ok _ _ (sym (read_again i x hi) ∙ (ap read e ∙ read_again j y hj)))
