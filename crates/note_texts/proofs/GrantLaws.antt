-- The fields that a status grants are read just where the grammar has them.
use Rattle.std.proofs.Common.{◌≡◌, ℕ, List, [], ◌∷◌, ◌++◌, length, Some, true, false, not, refl, sym, ap, ◌∙◌, arith}
use Rattle.std.proofs.lemmas.Option.{option_and_then_some}
use Rattle.std.proofs.lemmas.List.{append-nil}
use Rattle.std.proofs.lemmas.List.Splits.{length-slice_split, join_with_byte-slice_split}
use Rattle.std.specs.Prelude.{◌==◌}
use Rattle.std.specs.List.{slice_split, join_with_byte}
use Rattle.ebc_base.specs.Names.{continues_name, name_of}
use Rattle.note_texts.specs.Names.{names_of}
use Rattle.note_texts.specs.TypeGrammar.{AreNames, grants_text}
use Rattle.note_texts.proofs.SplitLaws.{lacks, lacks-append, not_true}
use Rattle.note_texts.proofs.NumberRanges.{name_of-sound, name_of-complete, name_lacks}
use Rattle.note_texts.proofs.Tables.{moved, map_some}
use Rattle.std.proofs.lemmas.Bool.{and_parts}

pub names_of-sound : (texts names : List (List ℕ)) → names_of texts ≡ Some names → (texts ≡ names) × AreNames names
unfolding names_of
names_of-sound [] names h = moved (λ names. ([] ≡ names) × AreNames names) [] names h (refl, tt)
names_of-sound (text ∷ texts) names h = option_and_then_some _ (name_of text) names h (λ name found rest.
    map_some _ (names_of texts) names rest (λ more read e.
    let n = name_of-sound text name found in
    let m = names_of-sound texts more read in
    moved (λ names. (text ∷ texts ≡ names) × AreNames names) (name ∷ more) names e (rw (n.0, m.0) refl, (n.1, m.1))))

pub names_of-complete : (names : List (List ℕ)) → AreNames names → names_of names ≡ Some names
unfolding names_of
names_of-complete [] h = refl
names_of-complete (name ∷ names) h = rw (name_of-complete name h.0, names_of-complete names h.1) refl

abbrev pub marked : List ℕ → List (List ℕ)
marked fields = slice_split (λ b. b == 33) fields

not_empty : (fields : List ℕ) {P : Type 0} → marked fields ≡ [] → P
not_empty fields h =
    let l = length-slice_split (λ b. b == 33) fields in
    let z : length (marked fields) ≡ 0 = ap length h in
    absurd (omega arith)

joined : (name : List ℕ) (names : List (List ℕ)) → grants_text (name ∷ names) ≡ 33 ∷ join_with_byte 33 (name ∷ names)
joined name [] = ap (λ rest. 33 ∷ rest) (append-nil name)
joined name (next ∷ names) = rw (joined next names) refl

whole : (names : List (List ℕ)) (fields : List ℕ) → marked fields ≡ names → grants_text names ≡ 33 ∷ fields
whole [] fields h = not_empty fields h
whole (name ∷ names) fields h = joined name names ∙ ap (λ rest. 33 ∷ rest)
    (ap (join_with_byte 33) (sym h) ∙ join_with_byte-slice_split 33 fields)

pub granted-sound : (fields : List ℕ) (names : List (List ℕ)) → names_of (marked fields) ≡ Some names → (33 ∷ fields ≡ grants_text names)
    × AreNames names
granted-sound fields names h =
    let p = names_of-sound (marked fields) names h in
    (sym (whole names fields p.0), p.1)

split_last : (xs : List ℕ) → lacks 33 xs ≡ true → marked xs ≡ xs ∷ []
split_last [] h = refl
split_last (x ∷ xs) h =
    let p = and_parts (not (x == 33)) (lacks 33 xs) h in
    rw (not_true (x == 33) p.0, split_last xs p.1) refl

split_first : (xs ys : List ℕ) → lacks 33 xs ≡ true → marked (xs ++ 33 ∷ ys) ≡ xs ∷ marked ys
split_first [] ys h = refl
split_first (x ∷ xs) ys h =
    let p = and_parts (not (x == 33)) (lacks 33 xs) h in
    rw (not_true (x == 33) p.0, split_first xs ys p.1) refl

split_joined : (name : List ℕ) (names : List (List ℕ)) → AreNames (name ∷ names) → marked (join_with_byte 33 (name ∷ names)) ≡ name ∷ names
split_joined name [] h = split_last name (name_lacks 33 name refl h.0)
split_joined name (next ∷ names) h = split_first name (join_with_byte 33 (next ∷ names)) (name_lacks 33 name refl h.0)
    ∙ ap (λ rest. name ∷ rest) (split_joined next names h.1)

-- the fields of a status that grants some
pub granted-complete : (name : List ℕ) (names : List (List ℕ)) → AreNames (name ∷ names) → (fields : List ℕ)
    × (grants_text (name ∷ names) ≡ 33 ∷ fields) × (names_of (marked fields) ≡ Some (name ∷ names))
granted-complete name names h = (
  join_with_byte 33 (name ∷ names),
  joined name names,
  ap names_of (split_joined name names h)
      ∙ names_of-complete (name ∷ names) h,
)

pub grants_lack : (mark : ℕ) (names : List (List ℕ)) → continues_name mark ≡ false → (33 == mark) ≡ false → AreNames names
    → lacks mark (grants_text names) ≡ true
grants_lack mark [] outside other h = refl
grants_lack mark (name ∷ names) outside other h =
    let rest = lacks-append mark name (grants_text names) (name_lacks mark name outside h.0) (grants_lack mark names outside other h.1) in
    rw (other, rest) refl
