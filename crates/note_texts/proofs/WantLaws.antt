-- What a native method takes and gives is read just where the grammar has it.
use Rattle.std.proofs.Common.{◌≡◌, ℕ, ◌^◌, ℤ, pos, negsuc, List, [], ◌∷◌, ◌++◌, Option, Some, None, true, false, refl, sym, ap, subst, ◌∙◌}
use Rattle.std.proofs.Common.{arith, inl, inr}
use Rattle.std.proofs.lemmas.Bool.Decides.{nat_tests}
use Rattle.std.proofs.lemmas.Bool.{cases_Bool, and_parts}
use Rattle.std.proofs.lemmas.Option.{cond_some, option_and_then_some}
use Rattle.std.proofs.lemmas.Slice.Eq.{bytes_eq-Decides}
use Rattle.std.specs.Prelude.{bytes_eq, codes}
use Rattle.std.specs.Fmt.{decimal}
use Rattle.note_texts.specs.Grammar.{ReadsJust}
use Rattle.note_texts.specs.Ranges.{size_of}
use Rattle.note_texts.specs.SlotGrammar.{kind_text}
use Rattle.note_texts.specs.Splits.{parts_at}
use Rattle.note_texts.specs.TypeTexts.{plain_type, type_of, word_type}
use Rattle.note_texts.specs.WantGrammar.{IsGiven, IsGivenText, IsResultText, IsSizeText, IsWantParamText, IsWantText}
use Rattle.note_texts.specs.WantTexts.{given_type, is_result, is_zero, marked_want, plain_want, result_of, want_of, want_param_of}
use Rattle.note_texts.specs.declared.ty.TypeText.{TypeText}
use Rattle.note_texts.specs.declared.ty.TypeText.TheVariants as types
use Rattle.note_texts.specs.declared.want.ResultText.{ResultText}
use Rattle.note_texts.specs.declared.want.WantParamText.{WantParamText}
use Rattle.note_texts.specs.declared.want.WantText.{WantText}
use Rattle.note_texts.specs.declared.want.WantText.TheVariants.{Any, Int, Size, Ptr, Handle, Status, Entry, Out, Inout}
use Rattle.note_texts.proofs.CellLaws.{cell_of-sound, cell_of-complete}
use Rattle.note_texts.proofs.NumberRanges.{number_in-sound, number_in-complete, decimal_lacks}
use Rattle.note_texts.proofs.RangeLaws.{range_of-sound, range_of-complete}
use Rattle.note_texts.proofs.SlotLaws.{kind_split, parameter_kind-sound, parameter_kind-complete}
use Rattle.note_texts.proofs.SplitLaws.{split_cases, lacks, split_at-mark, parts_at-mark}
use Rattle.note_texts.proofs.Tables.{by_word, map_some, moved, none_read}
use Rattle.note_texts.proofs.TypeLaws.{type_of-sound, type_of-complete}

-- ---- wants

size_sound : (text : List ℕ) (p : ℕ × ℕ) → size_of text ≡ Some p → IsSizeText text p.0 p.1
unfolding size_of
size_sound text p h = elim (split_cases 44 text) [
  | inl parts ↦
      let g = (rw parts.split at h) in
      option_and_then_some _ _ p g (λ n units rest.
      option_and_then_some _ _ p rest (λ c bytes e.
      let a = number_in-sound 0 (2 ^ 20) parts.before n units in
      let b = number_in-sound 0 (2 ^ 20) parts.after c bytes in
      let whole : text ≡ decimal n ++ (codes "," ++ decimal c) = parts.whole ∙ (rw (a.0, b.0) refl) in
      moved (λ p. IsSizeText text p.0 p.1) (n, c) p e (whole, a.2, b.2)))
  | inr none ↦ none_read p (rw none.0 at h)
]

size_complete : (text : List ℕ) (n c : ℕ) → IsSizeText text n c → size_of text ≡ Some (n, c)
unfolding size_of
size_complete text n c h =
    let split = split_at-mark 44 (decimal n) (decimal c) (decimal_lacks 44 n refl (omega (arith, h.1))) in
    let a = number_in-complete 0 (2 ^ 20) (decimal n) n (omega arith) (refl, omega arith, h.1) in
    let b = number_in-complete 0 (2 ^ 20) (decimal c) c (omega arith) (refl, omega arith, h.2) in
    rw (h.0, split, a, b) refl

plain_sound : (word : List ℕ) (w : WantText) → plain_want word ≡ Some w → IsWantText word w
unfolding plain_want
plain_sound word w h =
    by_word word (codes "any") _ _ w h (λ same e. moved (IsWantText word) Any w e same) (λ h.
    by_word word (codes "ptr") _ _ w h (λ same e. moved (IsWantText word) Ptr w e same) (λ h.
    by_word word (codes "handle") _ _ w h (λ same e. moved (IsWantText word) Handle w e same) (λ h.
    by_word word (codes "status") _ _ w h (λ same e. moved (IsWantText word) Status w e same) (λ h.
    by_word word (codes "entry") _ _ w h (λ same e. moved (IsWantText word) Entry w e same) (λ h.
    none_read w h)))))

marked_sound : (text word rest : List ℕ) (w : WantText) → text ≡ word ++ 58 ∷ rest → marked_want word rest ≡ Some w → IsWantText text w
unfolding marked_want
marked_sound text word rest w whole h =
    by_word word (codes "int") _ _ w h (λ same e. map_some _ _ w e (λ range read e.
    moved (IsWantText text) (Int range.0 range.1) w e (rest, whole ∙ rw same refl, range_of-sound rest range read))) (λ h.
    by_word word (codes "size") _ _ w h (λ same e. map_some _ _ w e (λ size read e.
    moved (IsWantText text) (Size size.0 size.1) w e (rest, whole ∙ rw same refl, size_sound rest size read))) (λ h.
    by_word word (codes "out") _ _ w h (λ same e. map_some _ _ w e (λ cell read e.
    moved (IsWantText text) (Out cell) w e (rest, whole ∙ rw same refl, cell_of-sound rest cell read))) (λ h.
    by_word word (codes "inout") _ _ w h (λ same e. map_some _ _ w e (λ cell read e.
    moved (IsWantText text) (Inout cell) w e (rest, whole ∙ rw same refl, cell_of-sound rest cell read))) (λ h.
    none_read w h))))

want_sound : (text : List ℕ) (w : WantText) → want_of text ≡ Some w → IsWantText text w
unfolding want_of
want_sound text w h = elim (split_cases 58 text) [
  | inl parts ↦ marked_sound text parts.before parts.after w parts.whole (rw parts.cut at h)
  | inr none ↦ plain_sound text w (rw none.1 at h)
]

marked_again : (word rest : List ℕ) → lacks 58 word ≡ true → want_of (word ++ 58 ∷ rest) ≡ marked_want word rest
unfolding want_of
marked_again word rest h = rw (parts_at-mark 58 word rest h) refl

want_complete : (text : List ℕ) (w : WantText) → IsWantText text w → want_of text ≡ Some w
unfolding want_of plain_want marked_want parts_at
want_complete text Any h = rw h refl
want_complete text (Int lo hi) (range, whole, ranged) = rw whole
    (marked_again (codes "int") range refl ∙ rw (range_of-complete range lo hi ranged) refl)
want_complete text (Size n c) (size, whole, sized) = rw whole (marked_again (codes "size") size refl
    ∙ rw (size_complete size n c sized) refl)
want_complete text Ptr h = rw h refl
want_complete text Handle h = rw h refl
want_complete text Status h = rw h refl
want_complete text Entry h = rw h refl
want_complete text (Out cell) (rest, whole, spelled) = rw whole
    (marked_again (codes "out") rest refl ∙ rw (cell_of-complete rest cell spelled) refl)
want_complete text (Inout cell) (rest, whole, spelled) = rw whole
    (marked_again (codes "inout") rest refl ∙ rw (cell_of-complete rest cell spelled) refl)

pub want_read : (text : List ℕ) (read : Option WantText) → read ≡ want_of text → ReadsJust read (IsWantText text)
want_read text read h = rw h (λ w. (want_sound text w, want_complete text w))

-- ---- parameters

param_sound : (text : List ℕ) (p : WantParamText) → want_param_of text ≡ Some p → IsWantParamText text p
unfolding want_param_of
param_sound text p h = elim (split_cases 32 text) [
  | inl parts ↦
      let g = (rw parts.split at h) in
      option_and_then_some _ _ p g (λ kind found further.
      option_and_then_some _ _ p further (λ want wanted e.
      let k = parameter_kind-sound parts.before kind found in
      let whole : text ≡ kind_text kind ++ (codes " " ++ parts.after) = parts.whole ∙ (rw k.0 refl) in
      moved (IsWantParamText text) (record { kind = kind; want = want }) p e (parts.after, whole, k.1, want_sound parts.after want wanted)))
  | inr none ↦ none_read p (rw none.0 at h)
]

param_complete : (text : List ℕ) (p : WantParamText) → IsWantParamText text p → want_param_of text ≡ Some p
unfolding want_param_of
param_complete text p (want, whole, kind, wanted) =
    rw (whole, kind_split p.kind want, parameter_kind-complete p.kind kind, want_complete want p.want wanted) refl

pub want_param_read : (text : List ℕ) (read : Option WantParamText) → read ≡ want_param_of text → ReadsJust read (IsWantParamText text)
want_param_read text read h = rw h (λ p. (param_sound text p, param_complete text p))

-- ---- results

zero_sound : (z : ℤ) → is_zero z ≡ true → z ≡ pos 0
zero_sound (pos n) h = let e : n ≡ 0 = grind (arith, nat_tests) in ap (λ n. pos n) e
zero_sound (negsuc n) h = absurd (cc h)

given_sound : (ty : TypeText) → is_result ty ≡ true → IsGiven ty
given_sound types.Any h = absurd (cc h)
given_sound (types.Int lo hi div) h = grind (arith, nat_tests)
given_sound (types.Lin n c) h = absurd (cc h)
given_sound (types.Scaled n c hi) h = absurd (cc h)
given_sound (types.Ptr shape count n c null) h = let p = and_parts (is_zero n) (is_zero c) h in (zero_sound n p.0, zero_sound c p.1)
given_sound (types.Local name) h = absurd (cc h)
given_sound (types.Lent cell) h = absurd (cc h)
given_sound (types.Status []) h = tt
given_sound (types.Status (name ∷ names)) h = absurd (cc h)
given_sound (types.SignedStatus names) h = absurd (cc h)
given_sound types.Mask h = absurd (cc h)
given_sound types.Handle h = tt
given_sound types.Entry h = absurd (cc h)
given_sound (types.Method name) h = absurd (cc h)
given_sound (types.ThunkAt index) h = absurd (cc h)
given_sound (types.Saved register) h = absurd (cc h)

given_complete : (ty : TypeText) → IsGiven ty → is_result ty ≡ true
given_complete types.Any h = absurd h
given_complete (types.Int lo hi div) h = grind (arith, nat_tests)
given_complete (types.Lin n c) h = absurd h
given_complete (types.Scaled n c hi) h = absurd h
given_complete (types.Ptr shape count n c null) h = rw (h.0, h.1) refl
given_complete (types.Local name) h = absurd h
given_complete (types.Lent cell) h = absurd h
given_complete (types.Status []) h = refl
given_complete (types.Status (name ∷ names)) h = absurd h
given_complete (types.SignedStatus names) h = absurd h
given_complete types.Mask h = absurd h
given_complete types.Handle h = refl
given_complete types.Entry h = absurd h
given_complete (types.Method name) h = absurd h
given_complete (types.ThunkAt index) h = absurd h
given_complete (types.Saved register) h = absurd h

result_sound : (text : List ℕ) (r : ResultText) → result_of text ≡ Some r → IsResultText text r
unfolding result_of
result_sound text r h =
    by_word text (codes "none") _ _ r h (λ same e. moved (IsResultText text) (record { ty = None }) r e same) (λ h.
    option_and_then_some given_type (type_of text) r h (λ ty typed e.
    let p = cond_some (is_result ty) (record { ty = Some ty }) r e in
    subst (IsResultText text) p.1 (type_of-sound text ty typed, given_sound ty p.0)))

no_none : (text : List ℕ) (ty : TypeText) → type_of text ≡ Some ty → bytes_eq text (codes "none") ≡ false
unfolding type_of word_type plain_type parts_at
no_none text ty h = elim (cases_Bool (bytes_eq text (codes "none"))) [
  | inl same ↦
      let d = bytes_eq-Decides text (codes "none") in
      let word = d.0 same in
      let gone : type_of (codes "none") ≡ None = refl in
      let found : type_of (codes "none") ≡ Some ty = sym (ap type_of word) ∙ h in
      none_read ty (sym gone ∙ found)
  | inr other ↦ other
]

given_again : (text : List ℕ) (given : Option TypeText) → IsGivenText text given → result_of text ≡ Some (record { ty = given })
unfolding result_of
given_again text None h = rw h refl
given_again text (Some ty) h =
    let typed = type_of-complete text ty h.0 in
    rw (no_none text ty typed, typed, given_complete ty h.1) refl

pub result_read : (text : List ℕ) (read : Option ResultText) → read ≡ result_of text → ReadsJust read (IsResultText text)
result_read text read h = rw h (λ r. (result_sound text r, λ g. given_again text r.ty g))
