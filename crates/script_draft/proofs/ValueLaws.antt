-- Values and arguments are read just where the grammar has them.
use Rattle.script_draft.proofs.Common.{◌≡◌, ℕ, ◌+◌, ◌-◌, ◌^◌, ◌<◌, ◌≤◌, List, ◌∷◌, ◌++◌, Option, Some, true, false, refl, ◌∙◌, arith, inl}
use Rattle.script_draft.proofs.Common.{inr, option_and_then_some, bytes_eq, codes, option_map, decimal-number_of, name_of-sound, map_some}
use Rattle.script_draft.proofs.Common.{moved, IsWritable, argument_of, value_of, ArgumentText, Out, Lent, Given, ValueText}
use Rattle.std.specs.Fmt.{decimal}
use Rattle.note_texts.specs.{Grammar.ReadsJust, Ranges.size_of}
use Rattle.note_texts.proofs.{NumberLaws.number_of-decimal, NumberRanges.decimal_lacks, NumberRanges.name_of-complete}
use Rattle.note_texts.proofs.{NumberRanges.number_in-complete, NumberRanges.number_in-sound, SplitLaws.lacks, SplitLaws.parts_at-mark}
use Rattle.note_texts.proofs.{SplitLaws.parts_at-none, SplitLaws.split_at-mark, SplitLaws.split_cases, Tables.by_word, Tables.none_read}
use Rattle.script_draft.specs.{Grammar.IsArgumentText, Grammar.IsValueText, Grammar.value_text, ValueTexts.given_of, ValueTexts.instance_of}
use Rattle.script_draft.specs.ValueTexts.{marked_value, plain_value, status_by, status_of}
use Rattle.script_draft.specs.declared.value.ValueText.TheVariants.{Int, Size, Ptr, Null, StatusOk, StatusError, Handle, Entry, Method, Any}

-- ---- what is read is written so

size_sound : (rest : List ℕ) (p : ℕ × ℕ) → size_of rest ≡ Some p → (rest ≡ decimal p.0 ++ (codes "," ++ decimal p.1)) × (p.0 ≤ 2 ^ 20)
    × (p.1 ≤ 2 ^ 20)
unfolding size_of
size_sound rest p h = elim (split_cases 44 rest) [
  | inl parts ↦
      let g = (rw parts.split at h) in
      option_and_then_some _ _ p g (λ n units further.
      option_and_then_some _ _ p further (λ c bytes e.
      let a = number_in-sound 0 (2 ^ 20) parts.before n units in
      let b = number_in-sound 0 (2 ^ 20) parts.after c bytes in
      let whole : rest ≡ decimal n ++ (codes "," ++ decimal c) = parts.whole ∙ (rw (a.0, b.0) refl) in
      moved (λ (p : ℕ × ℕ). (rest ≡ decimal p.0 ++ (codes "," ++ decimal p.1)) × (p.0 ≤ 2 ^ 20) × (p.1 ≤ 2 ^ 20)) (n, c) p e
      (whole, a.2, b.2)))
  | inr none ↦ none_read p (rw none.0 at h)
]

instance_sound : (text rest : List ℕ) (v : ValueText) → text ≡ codes "ptr " ++ rest → instance_of rest ≡ Some v → IsValueText text v
unfolding instance_of
instance_sound text rest v before h = elim (split_cases 32 rest) [
  | inl parts ↦
      let g = (rw parts.split at h) in
      option_and_then_some _ _ v g (λ o first further.
      option_and_then_some _ _ v further (λ i second e.
      let a = decimal-number_of parts.before o first in
      let b = decimal-number_of parts.after i second in
      let rest_is : rest ≡ decimal o ++ (codes " " ++ decimal i) = parts.whole ∙ (rw (a.0, b.0) refl) in
      moved (IsValueText text) (Ptr o i) v e (before ∙ rw rest_is refl, (a.1, b.1))))
  | inr none ↦ none_read v (rw none.0 at h)
]

status_sound : (text rest : List ℕ) (v : ValueText) → text ≡ codes "status " ++ rest → status_of rest ≡ Some v → IsValueText text v
unfolding status_of
status_sound text rest v before h = elim (split_cases 32 rest) [
  | inl parts ↦
      let g = (rw parts.split at h) in
      option_and_then_some _ _ v g (λ code read further.
      let a = number_in-sound 0 (2 ^ 31 - 1) parts.after code read in
      let small : code < 2 ^ 31 = let l = a.2 in omega arith in
      by_word parts.before (codes "ok") _ _ v further
      (λ same e.
      let rest_is : rest ≡ codes "ok " ++ decimal code = parts.whole ∙ (rw (same, a.0) refl) in
      moved (IsValueText text) (StatusOk code) v e (before ∙ rw rest_is refl, small))
      (λ other. by_word parts.before (codes "error") _ _ v other
      (λ same e.
      let rest_is : rest ≡ codes "error " ++ decimal code = parts.whole ∙ (rw (same, a.0) refl) in
      moved (IsValueText text) (StatusError code) v e (before ∙ rw rest_is refl, small))
      (λ none. none_read v none)))
  | inr none ↦ none_read v (rw none.0 at h)
]

plain_sound : (word : List ℕ) (v : ValueText) → plain_value word ≡ Some v → IsValueText word v
unfolding plain_value
plain_sound word v h =
    by_word word (codes "null") _ _ v h (λ same e. moved (IsValueText word) Null v e (same, tt)) (λ h.
    by_word word (codes "any") _ _ v h (λ same e. moved (IsValueText word) Any v e (same, tt)) (λ h.
    none_read v h))

marked_sound : (text word rest : List ℕ) (v : ValueText) → text ≡ word ++ 32 ∷ rest → marked_value word rest ≡ Some v → IsValueText text v
unfolding marked_value
marked_sound text word rest v whole h =
    by_word word (codes "int") _ _ v h (λ same e. map_some _ _ v e (λ n read e.
    let d = decimal-number_of rest n read in
    moved (IsValueText text) (Int n) v e (whole ∙ rw (same, d.0) refl, d.1))) (λ h.
    by_word word (codes "size") _ _ v h (λ same e. map_some _ _ v e (λ size read e.
    let d = size_sound rest size read in
    moved (IsValueText text) (Size size.0 size.1) v e (whole ∙ rw (same, d.0) refl, (d.1, d.2)))) (λ h.
    by_word word (codes "ptr") _ _ v h (λ same e. instance_sound text rest v (whole ∙ rw same refl) e) (λ h.
    by_word word (codes "status") _ _ v h (λ same e. status_sound text rest v (whole ∙ rw same refl) e) (λ h.
    by_word word (codes "handle") _ _ v h (λ same e. map_some _ _ v e (λ k read e.
    let d = number_in-sound 0 1023 rest k read in
    let small : k < 1024 = let l = d.2 in omega arith in
    moved (IsValueText text) (Handle k) v e (whole ∙ rw (same, d.0) refl, small))) (λ h.
    by_word word (codes "entry") _ _ v h (λ same e. map_some _ _ v e (λ name read e.
    let d = name_of-sound rest name read in
    moved (IsValueText text) (Entry name) v e (whole ∙ rw (same, d.0) refl, d.1))) (λ h.
    by_word word (codes "method") _ _ v h (λ same e. map_some _ _ v e (λ name read e.
    let d = name_of-sound rest name read in
    moved (IsValueText text) (Method name) v e (whole ∙ rw (same, d.0) refl, d.1))) (λ h.
    none_read v h)))))))

pub value_sound : (text : List ℕ) (v : ValueText) → value_of text ≡ Some v → IsValueText text v
unfolding value_of
value_sound text v h = elim (split_cases 32 text) [
  | inl parts ↦ marked_sound text parts.before parts.after v parts.whole (rw parts.cut at h)
  | inr none ↦ plain_sound text v (rw none.1 at h)
]

-- ---- what is written is read

size_complete : (n c : ℕ) → n ≤ 2 ^ 20 → c ≤ 2 ^ 20 → size_of (decimal n ++ (codes "," ++ decimal c)) ≡ Some (n, c)
unfolding size_of
size_complete n c few small =
    let split = split_at-mark 44 (decimal n) (decimal c) (decimal_lacks 44 n refl (omega arith)) in
    let a = number_in-complete 0 (2 ^ 20) (decimal n) n (omega arith) (refl, omega arith, few) in
    let b = number_in-complete 0 (2 ^ 20) (decimal c) c (omega arith) (refl, omega arith, small) in
    rw (split, a, b) refl

instance_complete : (o i : ℕ) → o < 2 ^ 64 → i < 2 ^ 64 → instance_of (decimal o ++ (codes " " ++ decimal i)) ≡ Some (Ptr o i)
unfolding instance_of
instance_complete o i a b =
    let split = split_at-mark 32 (decimal o) (decimal i) (decimal_lacks 32 o refl a) in
    rw (split, number_of-decimal o a, number_of-decimal i b) refl

status_complete : (kind : List ℕ) (code : ℕ) → lacks 32 kind ≡ true → code < 2 ^ 31
    → status_of (kind ++ 32 ∷ decimal code) ≡ status_by kind code
unfolding status_of
status_complete kind code mark small =
    let a = number_in-complete 0 (2 ^ 31 - 1) (decimal code) code (omega arith) (refl, omega arith, omega arith) in
    rw (split_at-mark 32 kind (decimal code) mark, a) refl

plain_again : (word : List ℕ) → lacks 32 word ≡ true → value_of word ≡ plain_value word
unfolding value_of
plain_again word mark = rw (parts_at-none 32 word mark) refl

marked_again : (word rest : List ℕ) → lacks 32 word ≡ true → value_of (word ++ 32 ∷ rest) ≡ marked_value word rest
unfolding value_of
marked_again word rest mark = rw (parts_at-mark 32 word rest mark) refl

pub value_complete : (v : ValueText) → IsWritable v → value_of (value_text v) ≡ Some v
unfolding plain_value marked_value
value_complete (Int n) h = marked_again (codes "int") (decimal n) refl ∙ rw (number_of-decimal n h) refl
value_complete (Size n c) h = marked_again (codes "size") (decimal n ++ (codes "," ++ decimal c)) refl ∙ rw (size_complete n c h.0 h.1) refl
value_complete (Ptr o i) h = marked_again (codes "ptr") (decimal o ++ (codes " " ++ decimal i)) refl ∙ instance_complete o i h.0 h.1
value_complete Null h = plain_again (codes "null") refl
value_complete (StatusOk code) h = marked_again (codes "status") (codes "ok " ++ decimal code) refl
    ∙ status_complete (codes "ok") code refl h
value_complete (StatusError code) h = marked_again (codes "status") (codes "error " ++ decimal code) refl
    ∙ status_complete (codes "error") code refl h
value_complete (Handle k) h =
    let a = number_in-complete 0 1023 (decimal k) k (omega arith) (refl, omega arith, omega arith) in
    marked_again (codes "handle") (decimal k) refl ∙ rw a refl
value_complete (Entry name) h = marked_again (codes "entry") name refl ∙ rw (name_of-complete name h) refl
value_complete (Method name) h = marked_again (codes "method") name refl ∙ rw (name_of-complete name h) refl
value_complete Any h = plain_again (codes "any") refl

pub value_read : (text : List ℕ) (read : Option ValueText) → read ≡ value_of text → ReadsJust read (IsValueText text)
value_read text read h = rw h (λ v. (value_sound text v, λ g. rw g.0 (value_complete v g.1)))

-- ---- arguments

given_sound : (text : List ℕ) (a : ArgumentText) → given_of text ≡ Some a → IsArgumentText text a
given_sound text a h = map_some _ _ a h (λ v read e. moved (IsArgumentText text) (Given v) a e (value_sound text v read))

pub argument_sound : (text : List ℕ) (a : ArgumentText) → argument_of text ≡ Some a → IsArgumentText text a
unfolding argument_of
argument_sound text a h = elim (split_cases 32 text) [
  | inl parts ↦
      by_word parts.before (codes "lent") _ _ a (rw parts.cut at h)
      (λ same e. map_some _ _ a e (λ v read e.
      let d = value_sound parts.after v read in
      moved (IsArgumentText text) (Lent v) a e (parts.whole ∙ rw (same, d.0) refl, d.1)))
      (λ other. given_sound text a other)
  | inr none ↦
      by_word text (codes "out") _ _ a (rw none.1 at h)
      (λ same e. moved (IsArgumentText text) Out a e same)
      (λ other. given_sound text a other)
]

plain_given : (word : List ℕ) → lacks 32 word ≡ true → bytes_eq word (codes "out") ≡ false → argument_of word ≡ given_of word
unfolding argument_of
plain_given word mark other = rw (parts_at-none 32 word mark) (rw other refl)

marked_given : (word rest : List ℕ) → lacks 32 word ≡ true → bytes_eq word (codes "lent") ≡ false
    → argument_of (word ++ 32 ∷ rest) ≡ given_of (word ++ 32 ∷ rest)
unfolding argument_of
marked_given word rest mark other = rw (parts_at-mark 32 word rest mark) (rw other refl)

-- a value is no word of an argument alone
given_again : (v : ValueText) → argument_of (value_text v) ≡ given_of (value_text v)
given_again (Int n) = marked_given (codes "int") (decimal n) refl refl
given_again (Size n c) = marked_given (codes "size") (decimal n ++ (codes "," ++ decimal c)) refl refl
given_again (Ptr o i) = marked_given (codes "ptr") (decimal o ++ (codes " " ++ decimal i)) refl refl
given_again Null = plain_given (codes "null") refl refl
given_again (StatusOk code) = marked_given (codes "status") (codes "ok " ++ decimal code) refl refl
given_again (StatusError code) = marked_given (codes "status") (codes "error " ++ decimal code) refl refl
given_again (Handle k) = marked_given (codes "handle") (decimal k) refl refl
given_again (Entry name) = marked_given (codes "entry") name refl refl
given_again (Method name) = marked_given (codes "method") name refl refl
given_again Any = plain_given (codes "any") refl refl

lent_again : (rest : List ℕ) → argument_of (codes "lent" ++ 32 ∷ rest) ≡ option_map (λ v. Lent v) (value_of rest)
unfolding argument_of
lent_again rest = rw (parts_at-mark 32 (codes "lent") rest refl) refl

out_again : argument_of (codes "out") ≡ Some Out
unfolding argument_of
out_again = rw (parts_at-none 32 (codes "out") refl) refl

pub argument_complete : (text : List ℕ) (a : ArgumentText) → IsArgumentText text a → argument_of text ≡ Some a
argument_complete text Out h = rw h out_again
argument_complete text (Lent v) h = rw h.0 (lent_again (value_text v) ∙ rw (value_complete v h.1) refl)
argument_complete text (Given v) h = rw h.0 (given_again v ∙ rw (value_complete v h.1) refl)

pub argument_read : (text : List ℕ) (read : Option ArgumentText) → read ≡ argument_of text → ReadsJust read (IsArgumentText text)
argument_read text read h = rw h (λ a. (argument_sound text a, argument_complete text a))
