-- The section that has a place, by the first section that ends behind the place.
use Rattle.std.proofs.Common.{◌≡◌, ℕ, suc, ◌+◌, ◌<◌, ◌≤◌, Bool, true, false, List, [], ◌∷◌, length, get_or, Some, None, refl, ap}
use Rattle.std.proofs.Common.{sym, subst, ◌∙◌, ⊎_elim, arith, leb}
use Rattle.std.specs.Prelude.{slice_get}
use Rattle.std.specs.List.{find, position_or_len}
use Rattle.std.specs.List.Sorted.{IsNonDecreasingBy, IsPartitionPoint, IsPartitionedBy}
use Rattle.std.proofs.lemmas.Bool.{cases_lt, leb-false, leb-true}
use Rattle.std.proofs.lemmas.Bool.Decides.{nat_tests}
use Rattle.std.proofs.lemmas.List.{get_or_default}
use Rattle.std.proofs.lemmas.List.Folds.{find_at}
use Rattle.std.proofs.lemmas.List.Sorted.{IsPartitionedBy-leb}
use Rattle.std.proofs.lemmas.List.Sums.{position_or_len_is}
use Rattle.std.proofs.lemmas.Option.{get_or_from_slice_get, slice_get_within}
use Rattle.pe_image.specs.declared.image.Image.{Image}
use Rattle.pe_image.specs.declared.image.Section.{Section}
use Rattle.pe_image.specs.Images.{IsImage}
use Rattle.pe_image.specs.Mapped.{has_place, section_with}
use Rattle.ebc_disasm.specs.Walks.{EndsParted}

-- ---- where the sections are halved

-- the place behind a section's last byte
abbrev pub end_of : Section → ℕ
end_of s = s.place + s.size

ends_rise : (image : Image) → IsImage image → IsNonDecreasingBy end_of image.sections
ends_rise image is i j d up short =
    ⊎_elim
    (λ less. let before : end_of (get_or image.sections i d) ≤ (get_or image.sections j d).place = is.ascend i j d less short in
    omega arith)
    (λ past. let same : i ≡ j = omega arith in
    let alike : end_of (get_or image.sections i d) ≡ end_of (get_or image.sections j d) =
    ap (λ k. end_of (get_or image.sections k d)) same in omega arith)
    (cases_lt i j)

-- what is asked of a search by halves, and what it tells, of a list that is that of the sections
pub ends_parted : (image : Image) (x n : ℕ) (xs : List Section) → xs ≡ image.sections → IsImage image →
    (IsPartitionedBy (λ (s : Section). leb (end_of s) x) xs →
    IsPartitionPoint (λ (s : Section). leb (end_of s) x ≡ true) (λ (s : Section). leb (end_of s) x ≡ false) xs n) →
    EndsParted image.sections x n
ends_parted image x n xs same is halves =
    let parted : IsPartitionedBy (λ (s : Section). leb (end_of s) x) xs =
    subst (IsPartitionedBy (λ (s : Section). leb (end_of s) x)) (sym same)
    (IsPartitionedBy-leb end_of image.sections x (ends_rise image is)) in
    let at = halves parted in
    subst (λ ys. EndsParted ys x n) same (
      λ k d low high. leb-true (end_of (get_or xs k d)) x (at.0 k d low high),
      λ k d low high. leb-false (end_of (get_or xs k d)) x (at.1 k d low high),
    )

-- ---- the section of a place

-- a section hasn't a place at which it has ended
ended : (x : ℕ) (s : Section) → end_of s ≤ x → has_place x s ≡ false
ended x s low = grind (arith, nat_tests)

-- nor one behind which it begins
not_begun : (x : ℕ) (s : Section) → x < s.place → has_place x s ≡ false
not_begun x s high = grind (arith, nat_tests)

has_it : (x : ℕ) (s : Section) → s.place ≤ x → x < end_of s → has_place x s ≡ true
has_it x s low high = grind (arith, nat_tests)

find_none : (p : Section → Bool) (xs : List Section) → ((k : ℕ) (d : Section) → k < length xs → p (get_or xs k d) ≡ false)
    → find p xs ≡ None
find_none p [] none = refl
find_none p (x ∷ xs) none = rw (none 0 x (omega arith)) (find_none p xs (λ k d short. none (suc k) d (omega arith)))

-- The first section that ends behind a place has it, where it begins there or before.
pub with_first : (image : Image) (x n : ℕ) (s : Section) → EndsParted image.sections x n → slice_get image.sections n ≡ Some s
    → s.place ≤ x → section_with image x ≡ Some s
unfolding section_with
with_first image x n s parts at low =
    let short : n < length image.sections = slice_get_within image.sections n s at in
    let is : get_or image.sections n s ≡ s = get_or_from_slice_get image.sections n s s at in
    let past : x < end_of s = subst (λ (t : Section). x < end_of t) is (parts.1 n s (omega arith) short) in
    let first : position_or_len (has_place x) image.sections ≡ n =
    position_or_len_is (has_place x) image.sections n s (omega arith)
    (λ k less. ended x (get_or image.sections k s) (parts.0 k s (omega arith) less)) (λ h. ap (has_place x) is ∙ has_it x s low past) in
    find_at (has_place x) image.sections ∙ (ap (slice_get image.sections) first ∙ at)

-- a section that isn't before another begins no earlier
begins_later : (image : Image) (n k : ℕ) (s : Section) → IsImage image → get_or image.sections n s ≡ s → n ≤ k
    → k < length image.sections → s.place ≤ (get_or image.sections k s).place
begins_later image n k s is at up short =
    let here : (get_or image.sections n s).place ≡ s.place = ap (λ (t : Section). t.place) at in
    ⊎_elim
    (λ less. let before : end_of (get_or image.sections n s) ≤ (get_or image.sections k s).place = is.ascend n k s less short in
    omega arith)
    (λ past. let same : k ≡ n = omega arith in
    let alike : (get_or image.sections k s).place ≡ (get_or image.sections n s).place =
    ap (λ j. (get_or image.sections j s).place) same in omega arith)
    (cases_lt n k)

-- Where it begins behind the place, no section has the place.
pub with_none : (image : Image) (x n : ℕ) (s : Section) → IsImage image → EndsParted image.sections x n
    → slice_get image.sections n ≡ Some s → x < s.place → section_with image x ≡ None
unfolding section_with
with_none image x n s is parts at high =
    let here : get_or image.sections n s ≡ s = get_or_from_slice_get image.sections n s s at in
    find_none (has_place x) image.sections (λ k d less.
    let same : get_or image.sections k d ≡ get_or image.sections k s = get_or_default image.sections k d s less in
    ap (has_place x) same ∙ ⊎_elim
    (λ before. ended x (get_or image.sections k s) (parts.0 k s (omega arith) before))
    (λ from. let later : s.place ≤ (get_or image.sections k s).place = begins_later image n k s is here from less in
    not_begun x (get_or image.sections k s) (omega arith))
    (cases_lt k n))

-- Nor does any where none ends behind it.
pub with_end : (image : Image) (x n : ℕ) → EndsParted image.sections x n → length image.sections ≤ n → section_with image x ≡ None
unfolding section_with
with_end image x n parts past =
    find_none (has_place x) image.sections (λ k d less. ended x (get_or image.sections k d) (parts.0 k d (omega arith) (omega arith)))
