-- A text is read as a type just where the grammar has that type.
use Rattle.std.proofs.Common.{◌≡◌, ℕ, ◌+◌, ◌-◌, ◌*◌, ◌^◌, ◌<◌, ℤ, pos, List, [], ◌∷◌, ◌++◌, Option, Some, Bool, true, false, refl, sym, ap}
use Rattle.std.proofs.Common.{subst, ◌∙◌, arith, inl, inr}
use Rattle.std.proofs.lemmas.Bool.Decides.{nat_tests}
use Rattle.std.proofs.lemmas.List.{append-nil}
use Rattle.std.proofs.lemmas.Option.{cond_some, option_and_then_some}
use Rattle.std.specs.Prelude.{codes, nat_lt}
use Rattle.std.specs.Fmt.{decimal}
use Rattle.note_texts.specs.Grammar.{IsCounted, mark_of, ReadsJust}
use Rattle.note_texts.specs.Splits.{parts_at}
use Rattle.note_texts.specs.TypeGrammar.{range_text, grants_text, AreNames, IsIntText, IsScaledText, IsOffsetText, IsTypeText}
use Rattle.note_texts.specs.TypeTexts.{int_of, scaled_of, offset_of, pointer_of, plain_type, granting_type, word_type, number_type}
use Rattle.note_texts.specs.TypeTexts.{marked_type, type_of}
use Rattle.note_texts.specs.declared.ty.TypeText.{TypeText}
use Rattle.note_texts.specs.declared.ty.TypeText.TheVariants.{Any, Int, Lin, Scaled, Ptr, Local, Lent, Status, SignedStatus, Mask, Handle}
use Rattle.note_texts.specs.declared.ty.TypeText.TheVariants.{Entry, Method, ThunkAt, Saved}
use Rattle.note_texts.proofs.CellLaws.{cell_of-sound, cell_of-complete}
use Rattle.note_texts.proofs.GrantLaws.{granted-sound, granted-complete, grants_lack}
use Rattle.note_texts.proofs.NumberLaws.{number_of-decimal, decimal-number_of}
use Rattle.note_texts.proofs.NumberRanges.{number_in-sound, number_in-complete, name_of-sound, name_of-complete, decimal_lacks}
use Rattle.note_texts.proofs.NumberRanges.{counted_of-sound, counted_of-complete, counted_lacks}
use Rattle.note_texts.proofs.RangeLaws.{pair_of-sound, pair_of-complete, range_of-sound, range_of-complete, range_lacks}
use Rattle.note_texts.proofs.SplitLaws.{split_cases, lacks, lacks-append, split_at-mark, parts_at-mark, parts_at-none}
use Rattle.note_texts.proofs.Tables.{by_word, map_some, moved, none_read}

-- ---- `LO..HI/DIV`

abbrev IsInt : List ℕ → TypeText → Type 0
IsInt rest t = IsTypeText (codes "int:" ++ rest) t

int_of-sound : (rest : List ℕ) (t : TypeText) → int_of rest ≡ Some t → IsInt rest t
unfolding int_of
int_of-sound rest t h = elim (split_cases 47 rest) [
  | inl parts ↦
      let g = (rw parts.cut at h) in
      option_and_then_some _ _ t g (λ range ranged further.
      option_and_then_some _ _ t further (λ div divided e.
      let r = range_of-sound parts.before range ranged in
      let d = number_in-sound 1 (2 ^ 64 - 1) parts.after div divided in
      let whole : rest ≡ range_text range.0 range.1 ++ (codes "/" ++ decimal div) = parts.whole ∙ (rw (r.0, d.0) refl) in
      moved (IsInt rest) (Int range.0 range.1 div) t e (inr (rest, refl, (r.1, r.2, d.1, omega (arith, d.2), inr whole)))))
  | inr none ↦
      let g = (rw none.1 at h) in
      option_and_then_some _ _ t g (λ range ranged e.
      let r = range_of-sound rest range ranged in
      moved (IsInt rest) (Int range.0 range.1 1) t e (inr (rest, refl, (r.1, r.2, omega arith, omega arith, inl (r.0, refl)))))
]

int_of-complete : (rest : List ℕ) (lo hi div : ℕ) → IsIntText rest lo hi div → int_of rest ≡ Some (Int lo hi div)
unfolding int_of
int_of-complete rest lo hi div h =
    let lack = range_lacks lo hi h.0 h.1 in
    let range = range_of-complete (range_text lo hi) lo hi (refl, h.0, h.1) in
    elim h.4 [
      | inl plain ↦ rw (plain.0, parts_at-none 47 (range_text lo hi) lack, range, plain.1) refl
      | inr divided ↦
          let number = number_in-complete 1 (2 ^ 64 - 1) (decimal div) div (omega arith) (refl, h.2, omega (arith, h.3)) in
          rw (divided, parts_at-mark 47 (range_text lo hi) (decimal div) lack, range, number) refl
    ]

-- ---- `N,C,HI`

scaled_of-sound : (rest : List ℕ) (t : TypeText) → scaled_of rest ≡ Some t → IsTypeText (codes "scaled:" ++ rest) t
unfolding scaled_of
scaled_of-sound rest t h = elim (split_cases 44 rest) [
  | inl parts ↦
      let g = (rw parts.split at h) in
      elim (split_cases 44 parts.after) [
        | inl more ↦
            let g = (rw more.split at g) in
            option_and_then_some _ _ t g (λ n first further.
            option_and_then_some _ _ t further (λ c second further.
            option_and_then_some _ _ t further (λ hi third e.
            let p = cond_some (nat_lt (hi * (8 * n + c)) (2 ^ 32)) (Scaled n c hi) t e in
            let p0 = p.0 in
            let below : hi * (8 * n + c) < 2 ^ 32 = grind (arith, nat_tests) in
            let a = number_in-sound 1 (2 ^ 64 - 1) parts.before n first in
            let b = decimal-number_of more.before c second in
            let d = decimal-number_of more.after hi third in
            let whole : rest ≡ decimal n ++ (codes "," ++ (decimal c ++ (codes "," ++ decimal hi))) = parts.whole
            ∙ (rw (a.0, more.whole, b.0, d.0) refl) in
            subst (IsTypeText (codes "scaled:" ++ rest)) p.1 (rest, refl, (whole, a.1, omega (arith, a.2), b.1, d.1, below)))))
        | inr none ↦ none_read t (rw none.0 at g)
      ]
  | inr none ↦ none_read t (rw none.0 at h)
]

scaled_of-complete : (rest : List ℕ) (n c hi : ℕ) → IsScaledText rest n c hi → scaled_of rest ≡ Some (Scaled n c hi)
unfolding scaled_of
scaled_of-complete rest n c hi h =
    let first = split_at-mark 44 (decimal n) (decimal c ++ (44 ∷ decimal hi)) (decimal_lacks 44 n refl h.2) in
    let second = split_at-mark 44 (decimal c) (decimal hi) (decimal_lacks 44 c refl h.3) in
    let number = number_in-complete 1 (2 ^ 64 - 1) (decimal n) n (omega arith) (refl, h.1, omega (arith, h.2)) in
    let below : nat_lt (hi * (8 * n + c)) (2 ^ 32) ≡ true = let b = h.5 in grind (arith, nat_tests) in
    rw (h.0, first, second, number, number_of-decimal c h.3, number_of-decimal hi h.4, below) refl

-- ---- `S*K+N,C`

offset_of-sound : (rest : List ℕ) (p : ℤ × ℤ) → offset_of (Some rest) ≡ Some p → IsOffsetText (43 ∷ rest) p.0 p.1
offset_of-sound rest p h = inr (rest, refl, pair_of-sound 0 rest p h)

pointer_of-sound : (null : Bool) (text rest : List ℕ) (t : TypeText) → text ≡ codes "ptr" ++ (mark_of null ++ rest)
    → pointer_of null rest ≡ Some t → IsTypeText text t
unfolding pointer_of
pointer_of-sound null text rest t whole h = elim (split_cases 43 rest) [
  | inl parts ↦
      let g = (rw parts.cut at h) in
      option_and_then_some _ _ t g (λ target counted further.
      option_and_then_some _ _ t further (λ offset placed e.
      let all : text ≡ codes "ptr" ++ (mark_of null ++ (parts.before ++ 43 ∷ parts.after)) = whole
      ∙ ap (λ rest. codes "ptr" ++ (mark_of null ++ rest)) parts.whole in
      moved (IsTypeText text) (Ptr target.0 target.1 offset.0 offset.1 null) t e
      (parts.before, 43 ∷ parts.after, all, counted_of-sound parts.before target counted, offset_of-sound parts.after offset placed)))
  | inr none ↦
      let g = (rw none.1 at h) in
      option_and_then_some _ _ t g (λ target counted e.
      let all : text ≡ codes "ptr" ++ (mark_of null ++ (rest ++ [])) = whole
      ∙ ap (λ rest. codes "ptr" ++ (mark_of null ++ rest)) (sym (append-nil rest)) in
      moved (IsTypeText text) (Ptr target.0 target.1 (pos 0) (pos 0) null) t e
      (rest, [], all, counted_of-sound rest target counted, inl (refl, refl, refl)))
]

pointer_of-complete : (null : Bool) (target offset shape : List ℕ) (count : ℕ) (n c : ℤ) → IsCounted target shape count
    → IsOffsetText offset n c → pointer_of null (target ++ offset) ≡ Some (Ptr shape count n c null)
unfolding pointer_of
pointer_of-complete null target offset shape count n c counted placed =
    let lack = counted_lacks 43 target shape count refl refl refl counted in
    let found = counted_of-complete target shape count counted in
    elim placed [
      | inl start ↦ rw (start.0, append-nil target, parts_at-none 43 target lack, found, start.1, start.2) refl
      | inr (pair, whole, paired) ↦ rw (whole, parts_at-mark 43 target pair lack, found, pair_of-complete 0 pair n c paired) refl
    ]

-- ---- types by their words

plain_sound : (word : List ℕ) (t : TypeText) → plain_type word ≡ Some t → IsTypeText word t
unfolding plain_type
plain_sound word t h =
    by_word word (codes "any") _ _ t h (λ w e. moved (IsTypeText word) Any t e w) (λ h.
    by_word word (codes "int") _ _ t h (λ w e. moved (IsTypeText word) (Int 0 (2 ^ 64 - 1) 1) t e (inl (w, refl, refl, refl))) (λ h.
    by_word word (codes "status") _ _ t h (λ w e. moved (IsTypeText word) (Status []) t e (w, tt)) (λ h.
    by_word word (codes "sstatus") _ _ t h (λ w e. moved (IsTypeText word) (SignedStatus []) t e (w, tt)) (λ h.
    by_word word (codes "mask") _ _ t h (λ w e. moved (IsTypeText word) Mask t e w) (λ h.
    by_word word (codes "handle") _ _ t h (λ w e. moved (IsTypeText word) Handle t e w) (λ h.
    by_word word (codes "entry") _ _ t h (λ w e. moved (IsTypeText word) Entry t e w) (λ h.
    none_read t h)))))))

granting_sound : (text word fields : List ℕ) (t : TypeText) → text ≡ word ++ 33 ∷ fields → granting_type word fields ≡ Some t
    → IsTypeText text t
unfolding granting_type
granting_sound text word fields t whole h =
    by_word word (codes "status") _ _ t h (λ w e. map_some _ _ t e (λ names read e.
    let g = granted-sound fields names read in
    moved (IsTypeText text) (Status names) t e (whole ∙ rw (w, g.0) refl, g.1))) (λ h.
    by_word word (codes "sstatus") _ _ t h (λ w e. map_some _ _ t e (λ names read e.
    let g = granted-sound fields names read in
    moved (IsTypeText text) (SignedStatus names) t e (whole ∙ rw (w, g.0) refl, g.1))) (λ h.
    none_read t h))

word_sound : (text : List ℕ) (t : TypeText) → word_type text ≡ Some t → IsTypeText text t
unfolding word_type
word_sound text t h = elim (split_cases 33 text) [
  | inl parts ↦ granting_sound text parts.before parts.after t parts.whole (rw parts.cut at h)
  | inr none ↦ plain_sound text t (rw none.1 at h)
]

number_sound : (text word rest : List ℕ) (t : TypeText) → text ≡ word ++ 58 ∷ rest → number_type word rest ≡ Some t → IsTypeText text t
unfolding number_type
number_sound text word rest t whole h =
    by_word word (codes "int") _ _ t h (λ w e. subst (λ text. IsTypeText text t) (sym (whole ∙ rw w refl)) (int_of-sound rest t e)) (λ h.
    by_word word (codes "lin") _ _ t h (λ w e. map_some _ _ t e (λ p read e.
    moved (IsTypeText text) (Lin p.0 p.1) t e (rest, whole ∙ rw w refl, pair_of-sound 1 rest p read))) (λ h.
    by_word word (codes "scaled") _ _ t h (λ w e. subst (λ text. IsTypeText text t) (sym (whole ∙ rw w refl)) (scaled_of-sound rest t e))
    (λ h.
    by_word word (codes "thunk") _ _ t h (λ w e. map_some _ _ t e (λ index read e.
    let n = number_in-sound 0 (2 ^ 32 - 1) rest index read in
    moved (IsTypeText text) (ThunkAt index) t e (whole ∙ rw (w, n.0) refl, omega (arith, n.2)))) (λ h.
    by_word word (codes "saved") _ _ t h (λ w e. map_some _ _ t e (λ register read e.
    let n = number_in-sound 1 3 rest register read in
    moved (IsTypeText text) (Saved register) t e (whole ∙ rw (w, n.0) refl, n.1, n.2))) (λ h.
    none_read t h)))))

marked_sound : (text word rest : List ℕ) (t : TypeText) → text ≡ word ++ 58 ∷ rest → marked_type word rest ≡ Some t → IsTypeText text t
unfolding marked_type
marked_sound text word rest t whole h =
    by_word word (codes "ptr") _ _ t h (λ w e. pointer_of-sound false text rest t (whole ∙ rw w refl) e) (λ h.
    by_word word (codes "ptr?") _ _ t h (λ w e. pointer_of-sound true text rest t (whole ∙ rw w refl) e) (λ h.
    by_word word (codes "local") _ _ t h (λ w e. map_some _ _ t e (λ name read e.
    let n = name_of-sound rest name read in
    moved (IsTypeText text) (Local name) t e (whole ∙ rw (w, n.0) refl, n.1))) (λ h.
    by_word word (codes "lent") _ _ t h (λ w e. map_some _ _ t e (λ cell read e.
    moved (IsTypeText text) (Lent cell) t e (rest, whole ∙ rw w refl, cell_of-sound rest cell read))) (λ h.
    by_word word (codes "method") _ _ t h (λ w e. map_some _ _ t e (λ name read e.
    let n = name_of-sound rest name read in
    moved (IsTypeText text) (Method name) t e (whole ∙ rw (w, n.0) refl, n.1))) (λ h.
    number_sound text word rest t whole h)))))

pub type_of-sound : (text : List ℕ) (t : TypeText) → type_of text ≡ Some t → IsTypeText text t
unfolding type_of
type_of-sound text t h = elim (split_cases 58 text) [
  | inl parts ↦ marked_sound text parts.before parts.after t parts.whole (rw parts.cut at h)
  | inr none ↦ word_sound text t (rw none.1 at h)
]

-- ---- what the grammar has is read

marked_again : (word rest : List ℕ) → lacks 58 word ≡ true → type_of (word ++ 58 ∷ rest) ≡ marked_type word rest
unfolding type_of
marked_again word rest h = rw (parts_at-mark 58 word rest h) refl

grants_again : (word fields : List ℕ) → lacks 33 word ≡ true → lacks 58 (word ++ 33 ∷ fields) ≡ true
    → type_of (word ++ 33 ∷ fields) ≡ granting_type word fields
unfolding type_of word_type
grants_again word fields h g = rw (parts_at-none 58 (word ++ 33 ∷ fields) g, parts_at-mark 33 word fields h) refl

granting_again : (word fields : List ℕ) (names : List (List ℕ)) → lacks 33 word ≡ true → lacks 58 word ≡ true → AreNames names
    → grants_text names ≡ 33 ∷ fields → type_of (word ++ grants_text names) ≡ granting_type word fields
granting_again word fields names no_mark no_colon h whole =
    let lack = lacks-append 58 word (33 ∷ fields) no_colon (subst (λ text. lacks 58 text ≡ true) whole
    (grants_lack 58 names refl refl h)) in
    ap (λ text. type_of (word ++ text)) whole ∙ grants_again word fields no_mark lack

status_again : (names : List (List ℕ)) → AreNames names → type_of (codes "status" ++ grants_text names) ≡ Some (Status names)
unfolding type_of word_type plain_type granting_type parts_at
status_again [] h = refl
status_again (name ∷ names) h =
    let g = granted-complete name names h in
    granting_again (codes "status") g.0 (name ∷ names) refl refl h g.1 ∙ rw g.2 refl

sstatus_again : (names : List (List ℕ)) → AreNames names → type_of (codes "sstatus" ++ grants_text names) ≡ Some (SignedStatus names)
unfolding type_of word_type plain_type granting_type parts_at
sstatus_again [] h = refl
sstatus_again (name ∷ names) h =
    let g = granted-complete name names h in
    granting_again (codes "sstatus") g.0 (name ∷ names) refl refl h g.1 ∙ rw g.2 refl

int_again : (text : List ℕ) (lo hi div : ℕ) → IsTypeText text (Int lo hi div) → type_of text ≡ Some (Int lo hi div)
unfolding type_of word_type plain_type marked_type number_type parts_at
int_again text lo hi div (inl whole) = rw (whole.0, whole.1, whole.2, whole.3) refl
int_again text lo hi div (inr (rest, whole, range)) = rw whole (marked_again (codes "int") rest refl ∙ int_of-complete rest lo hi div range)

pub type_of-complete : (text : List ℕ) (t : TypeText) → IsTypeText text t → type_of text ≡ Some t
unfolding type_of word_type plain_type marked_type number_type parts_at
type_of-complete text Any h = rw h refl
type_of-complete text (Int lo hi div) h = int_again text lo hi div h
type_of-complete text (Lin n c) (pair, whole, paired) = rw whole
    (marked_again (codes "lin") pair refl ∙ rw (pair_of-complete 1 pair n c paired) refl)
type_of-complete text (Scaled n c hi) (rest, whole, scaled) = rw whole
    (marked_again (codes "scaled") rest refl ∙ scaled_of-complete rest n c hi scaled)
type_of-complete text (Ptr shape count n c false) (target, offset, whole, counted, placed) =
    rw whole (marked_again (codes "ptr") (target ++ offset) refl ∙ pointer_of-complete false target offset shape count n c counted placed)
type_of-complete text (Ptr shape count n c true) (target, offset, whole, counted, placed) =
    rw whole (marked_again (codes "ptr?") (target ++ offset) refl ∙ pointer_of-complete true target offset shape count n c counted placed)
type_of-complete text (Local name) h = rw h.0 (marked_again (codes "local") name refl ∙ rw (name_of-complete name h.1) refl)
type_of-complete text (Lent cell) (rest, whole, spelled) = rw whole
    (marked_again (codes "lent") rest refl ∙ rw (cell_of-complete rest cell spelled) refl)
type_of-complete text (Status names) h = rw h.0 (status_again names h.1)
type_of-complete text (SignedStatus names) h = rw h.0 (sstatus_again names h.1)
type_of-complete text Mask h = rw h refl
type_of-complete text Handle h = rw h refl
type_of-complete text Entry h = rw h refl
type_of-complete text (Method name) h = rw h.0 (marked_again (codes "method") name refl ∙ rw (name_of-complete name h.1) refl)
type_of-complete text (ThunkAt index) h =
    let number = number_in-complete 0 (2 ^ 32 - 1) (decimal index) index (omega arith) (refl, omega arith, omega (arith, h.1)) in
    rw h.0 (marked_again (codes "thunk") (decimal index) refl ∙ rw number refl)
type_of-complete text (Saved register) h =
    let number = number_in-complete 1 3 (decimal register) register (omega arith) (refl, h.1, h.2) in
    rw h.0 (marked_again (codes "saved") (decimal register) refl ∙ rw number refl)

pub type_read : (text : List ℕ) (read : Option TypeText) → read ≡ type_of text → ReadsJust read (IsTypeText text)
type_read text read h = rw h (λ t. (type_of-sound text t, type_of-complete text t))
