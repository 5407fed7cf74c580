-- The lines of a section, one thing that is listed after the other. They have its bytes, but for those that relocations have.
use Rattle.link_laws.proofs.Common.{ap, [], ℕ, ◌<◌, ◌∙◌, ◌∷◌, ◌≡◌, ◌≤◌}
use Rattle.link_laws.proofs.Common.{append-nil, cases_lt, flat_map, IsBytes, item_at, label_lines, length-drop, lines_from, next_lines, sym}
use Rattle.link_laws.proofs.Common.{arith, Bool, drop, get_or, Image, length, List, Listed, refl, subst, true, zero, ⊎_elim, ◌++◌, ◌+◌, ◌-◌}
use Rattle.link_laws.proofs.Common.{flat_map-append, get_or-append_right, get_or-drop, get_or_append_left, IsBytes-drop, length-append, suc}
use Rattle.link_laws.proofs.ItemLaws.{is_free, IsItem, item_is, item_of, ItemOf, labels_by, line_bytes}

-- The lines of bytes: none of none, and else the labels of a place, what is listed there, and the lines of the bytes behind it.
pub data AreLines (image : Image) (code : Bool) : ℕ → List ℕ → List Listed → Type 0 where
  no_lines : (x : ℕ) → AreLines image code x [] []
  more_lines : (x b : ℕ) (bytes : List ℕ) (l : Listed) (n : ℕ) (rest : List Listed) → IsBytes (b ∷ bytes)
      → IsItem image code x (b ∷ bytes) (l, n) → ItemOf image x (b ∷ bytes) (l, n)
      → n + length (drop n (b ∷ bytes)) ≡ length (b ∷ bytes) → AreLines image code (x + n) (drop n (b ∷ bytes)) rest
      → AreLines image code x (b ∷ bytes) ((label_lines image x ++ l ∷ []) ++ rest)

walked_from : (fuel : ℕ) (image : Image) (code : Bool) (x : ℕ) (bytes : List ℕ) → length bytes ≤ fuel → IsBytes bytes
    → AreLines image code x bytes (lines_from image code 0 x bytes)
unfolding lines_from
walked_from fuel image code x [] short each = no_lines x
walked_from zero image code x (b ∷ bytes) short each = absurd (omega (arith, short))
walked_from (suc fuel) image code x (b ∷ bytes) short each =
    let l : Listed = (item_at image code x (b ∷ bytes)).0 in
    let n : ℕ = (item_at image code x (b ∷ bytes)).1 in
    let is : IsItem image code x (b ∷ bytes) (l, n) = item_is image code x b bytes in
    let item : ItemOf image x (b ∷ bytes) (l, n) = item_of image code x (b ∷ bytes) (l, n) is each in
    let some : 1 ≤ n = item.some in
    let within : n ≤ length (b ∷ bytes) = item.within in
    let left : n + length (drop n (b ∷ bytes)) ≡ length (b ∷ bytes) = omega (arith, length-drop n (b ∷ bytes)) in
    subst (AreLines image code x (b ∷ bytes)) (sym (next_lines image code x n (b ∷ bytes) refl some within))
    (more_lines x b bytes l n (lines_from image code 0 (x + n) (drop n (b ∷ bytes))) each is item left
    (walked_from fuel image code (x + n) (drop n (b ∷ bytes)) (omega (arith, left, short)) (IsBytes-drop n (b ∷ bytes) each)))

pub walked : (image : Image) (code : Bool) (x : ℕ) (bytes : List ℕ) → IsBytes bytes
    → AreLines image code x bytes (lines_from image code 0 x bytes)
walked image code x bytes each = walked_from (length bytes) image code x bytes (omega arith) each

-- the bytes of lines
abbrev pub bytes_of_lines : List Listed → List ℕ
bytes_of_lines ls = flat_map line_bytes ls

-- Bytes are as many as others from a place on, and the same where no relocation is.
pub record Agree (image : Image) (x : ℕ) (out bytes : List ℕ) : Type 0 where
  pub long : length out ≡ length bytes
  pub same : (k : ℕ) → k < length bytes → is_free image (x + k) ≡ true → get_or out k 0 ≡ get_or bytes k 0

pub no_bytes : (image : Image) (x : ℕ) → bytes_of_lines (label_lines image x) ≡ []
no_bytes image x = labels_by image x (λ ls. bytes_of_lines ls ≡ []) (λ e h. refl) (λ o h. refl) (λ none. refl)

-- the bytes of the labels of a place and of what is listed there
pub one_item : (image : Image) (x : ℕ) (l : Listed) → bytes_of_lines (label_lines image x ++ l ∷ []) ≡ line_bytes l
one_item image x l = rw (flat_map-append line_bytes (label_lines image x) (l ∷ []), no_bytes image x) (append-nil (line_bytes l))

-- The lines of bytes have these bytes, but for those of relocations.
pub section_agrees : (image : Image) (code : Bool) {x : ℕ} {bytes : List ℕ} {ls : List Listed} → AreLines image code x bytes ls
    → Agree image x (bytes_of_lines ls) bytes
section_agrees image code (no_lines x) = record { long = refl; same = λ k low free. absurd (omega (arith, low)) }
section_agrees image code (more_lines x b bytes l n rest each is item left later) =
    let out = flat_map-append line_bytes (label_lines image x ++ l ∷ []) rest ∙ ap (λ bs. bs ++ bytes_of_lines rest) (one_item image x l) in
    let all : List ℕ = b ∷ bytes in
    let front : List ℕ = line_bytes l in
    let after : List ℕ = bytes_of_lines rest in
    let more = section_agrees image code later in
    subst (λ bs. Agree image x bs all) (sym out) (record {
      long = omega (arith, length-append front after, item.long, more.long, left);
      same = λ k low free. ⊎_elim
          (λ early. get_or_append_left front after 0 k (omega (arith, item.long, early)) ∙ item.same k early free)
          (λ late.
          let j : ℕ = k - n in
          let there : n + j ≡ k = omega (arith, late) in
          let place : x + n + j ≡ x + k = omega (arith, late) in
          get_or-append_right front after n k 0 item.long late
          ∙ (more.same j (omega (arith, left, low, late)) (ap (is_free image) place ∙ free)
          ∙ (get_or-drop n all j 0 ∙ ap (λ m. get_or all m 0) there)))
          (cases_lt k n);
    })
