-- A text is read as a cell just where the grammar has that cell.
use Rattle.std.proofs.Common.{◌≡◌, ℕ, List, ◌∷◌, ◌++◌, Option, Some, Bool, true, false, refl, ◌∙◌, inl, inr}
use Rattle.std.specs.Prelude.{option_map, codes}
use Rattle.note_texts.specs.CellTexts.{counted_of, plain_cell, marked_cell, cell_of}
use Rattle.note_texts.specs.Splits.{parts_at}
use Rattle.note_texts.specs.Grammar.{IsCellText, mark_of, ReadsJust}
use Rattle.note_texts.specs.declared.cell.CellText.{CellText}
use Rattle.note_texts.specs.declared.cell.CellText.TheVariants.{I8, I16, I32, I64, N, Stat, Handle, Entry, Ptr, P64, Method}
use Rattle.note_texts.proofs.SplitLaws.{split_cases, lacks, parts_at-mark}
use Rattle.note_texts.proofs.Tables.{by_word, map_some, moved, none_read}
use Rattle.note_texts.proofs.NumberRanges.{name_of-sound, name_of-complete, counted_of-sound, counted_of-complete}

plain_sound : (word : List ℕ) (c : CellText) → plain_cell word ≡ Some c → IsCellText word c
unfolding plain_cell
plain_sound word c h =
    by_word word (codes "i8") _ _ c h (λ w e. moved (IsCellText word) I8 c e w) (λ h.
    by_word word (codes "i16") _ _ c h (λ w e. moved (IsCellText word) I16 c e w) (λ h.
    by_word word (codes "i32") _ _ c h (λ w e. moved (IsCellText word) I32 c e w) (λ h.
    by_word word (codes "i64") _ _ c h (λ w e. moved (IsCellText word) I64 c e w) (λ h.
    by_word word (codes "n") _ _ c h (λ w e. moved (IsCellText word) N c e w) (λ h.
    by_word word (codes "stat") _ _ c h (λ w e. moved (IsCellText word) Stat c e w) (λ h.
    by_word word (codes "handle") _ _ c h (λ w e. moved (IsCellText word) Handle c e w) (λ h.
    by_word word (codes "entry") _ _ c h (λ w e. moved (IsCellText word) Entry c e w) (λ h.
    none_read c h))))))))

ptr_sound : (null : Bool) (text rest : List ℕ) (c : CellText) → text ≡ codes "ptr" ++ (mark_of null ++ rest)
    → option_map (λ target. Ptr target.0 target.1 null) (counted_of rest) ≡ Some c → IsCellText text c
ptr_sound null text rest c whole h = map_some _ _ c h (λ t found e.
    moved (IsCellText text) (Ptr t.0 t.1 null) c e (rest, whole, counted_of-sound rest t found))

p64_sound : (null : Bool) (text rest : List ℕ) (c : CellText) → text ≡ codes "p64" ++ (mark_of null ++ rest)
    → option_map (λ target. P64 target.0 target.1 null) (counted_of rest) ≡ Some c → IsCellText text c
p64_sound null text rest c whole h = map_some _ _ c h (λ t found e.
    moved (IsCellText text) (P64 t.0 t.1 null) c e (rest, whole, counted_of-sound rest t found))

marked_sound : (text word rest : List ℕ) (c : CellText) → text ≡ word ++ 58 ∷ rest → marked_cell word rest ≡ Some c → IsCellText text c
unfolding marked_cell
marked_sound text word rest c whole h =
    by_word word (codes "ptr") _ _ c h (λ w e. ptr_sound false text rest c (whole ∙ rw w refl) e) (λ h.
    by_word word (codes "ptr?") _ _ c h (λ w e. ptr_sound true text rest c (whole ∙ rw w refl) e) (λ h.
    by_word word (codes "p64") _ _ c h (λ w e. p64_sound false text rest c (whole ∙ rw w refl) e) (λ h.
    by_word word (codes "p64?") _ _ c h (λ w e. p64_sound true text rest c (whole ∙ rw w refl) e) (λ h.
    by_word word (codes "method") _ _ c h (λ w e. map_some _ _ c e (λ name found g.
    let n = name_of-sound rest name found in
    moved (IsCellText text) (Method name) c g (whole ∙ rw (w, n.0) refl, n.1))) (λ h.
    none_read c h)))))

pub cell_of-sound : (text : List ℕ) (c : CellText) → cell_of text ≡ Some c → IsCellText text c
unfolding cell_of
cell_of-sound text c h = elim (split_cases 58 text) [
  | inl parts ↦ marked_sound text parts.before parts.after c parts.whole (rw parts.cut at h)
  | inr none ↦ plain_sound text c (rw none.1 at h)
]

marked_again : (word rest : List ℕ) → lacks 58 word ≡ true → cell_of (word ++ 58 ∷ rest) ≡ marked_cell word rest
unfolding cell_of
marked_again word rest h = rw (parts_at-mark 58 word rest h) refl

pub cell_of-complete : (text : List ℕ) (c : CellText) → IsCellText text c → cell_of text ≡ Some c
unfolding cell_of plain_cell marked_cell parts_at
cell_of-complete text I8 h = rw h refl
cell_of-complete text I16 h = rw h refl
cell_of-complete text I32 h = rw h refl
cell_of-complete text I64 h = rw h refl
cell_of-complete text N h = rw h refl
cell_of-complete text Stat h = rw h refl
cell_of-complete text Handle h = rw h refl
cell_of-complete text Entry h = rw h refl
cell_of-complete text (Ptr shape count true) (target, whole, counted) =
    rw whole (marked_again (codes "ptr?") target refl ∙ rw (counted_of-complete target shape count counted) refl)
cell_of-complete text (Ptr shape count false) (target, whole, counted) =
    rw whole (marked_again (codes "ptr") target refl ∙ rw (counted_of-complete target shape count counted) refl)
cell_of-complete text (P64 shape count true) (target, whole, counted) =
    rw whole (marked_again (codes "p64?") target refl ∙ rw (counted_of-complete target shape count counted) refl)
cell_of-complete text (P64 shape count false) (target, whole, counted) =
    rw whole (marked_again (codes "p64") target refl ∙ rw (counted_of-complete target shape count counted) refl)
cell_of-complete text (Method name) h = rw h.0 (marked_again (codes "method") name refl ∙ rw (name_of-complete name h.1) refl)

pub cell_exact : (text : List ℕ) → ReadsJust (cell_of text) (IsCellText text)
cell_exact text c = (cell_of-sound text c, cell_of-complete text c)

pub cell_read : (text : List ℕ) (read : Option CellText) → read ≡ cell_of text → ReadsJust read (IsCellText text)
cell_read text read h = rw h (cell_exact text)
