-- Bytes with others over them: how many there are, and which stand where.
use Rattle.ebc_link.proofs.Common.{suc, laid_objects, get_or, ◌≡◌, ℕ, ◌+◌, ◌<◌, ◌≤◌, List, [], ◌∷◌, length, refl, sym, subst, ◌∙◌}
use Rattle.ebc_link.proofs.Common.{arith, All, nat_eq, w64, to_le_bytes, eqb-true, nat_tests, get_or-append_right}
use Rattle.ebc_link.proofs.Common.{get_or-take, get_or_append_left, All-filter, filter_passes, wrap64, IsFixup, IsObject, section_bytes}
use Rattle.ebc_link.proofs.Common.{width, Fixup, Object, Home, Laid, Definition, places_of, bytes_for, filled_section, in_section, put_at}
use Rattle.ebc_link.proofs.Common.{value_of, with_fixups}
use Rattle.ebc_link.proofs.StandLaws.{AreLong, laid_are}
use Rattle.std.proofs.{lemmas.Grind.common_steps, Common.length-take-le, lemmas.List.get_or-drop}

-- ---- bytes put over others

pub put_length : (bytes : List ℕ) (at : ℕ) (over : List ℕ) → at + length over ≤ length bytes
    → length (put_at bytes at over) ≡ length bytes
unfolding put_at
put_length bytes at over within = grind (arith, common_steps)

pub put_before : (bytes : List ℕ) (at : ℕ) (over : List ℕ) (i : ℕ) → at + length over ≤ length bytes → i < at
    → get_or (put_at bytes at over) i 0 ≡ get_or bytes i 0
unfolding put_at
put_before bytes at over i within low = grind (arith, common_steps, get_or_append_left, get_or-take)

pub put_inside : (bytes : List ℕ) (at : ℕ) (over : List ℕ) (j : ℕ) → at + length over ≤ length bytes → j < length over
    → get_or (put_at bytes at over) (at + j) 0 ≡ get_or over j 0
unfolding put_at
put_inside bytes at over j within low = grind (arith, common_steps, get_or_append_left, get_or-append_right)

pub put_behind : (bytes : List ℕ) (at : ℕ) (over : List ℕ) (i : ℕ) → at + length over ≤ length bytes → at + length over ≤ i
    → get_or (put_at bytes at over) i 0 ≡ get_or bytes i 0
unfolding put_at
put_behind bytes at over i within high = grind (arith, common_steps, get_or-append_right, get_or-drop)

-- ---- how long bytes are

pub width_small : (kind : ℕ) → width kind ≤ 8
width_small kind = grind (arith, nat_tests)

pub length-bytes_for : (base : ℕ) (places : List ℕ) (h : Home) (f : Fixup) → length (bytes_for base places h f) ≡ width f.kind
unfolding bytes_for
length-bytes_for base places h f = length-take-le (width f.kind) (to_le_bytes w64 (wrap64 (value_of base places h f))) (width_small f.kind)

pub length-with_fixups : (over : Fixup → List ℕ) (bytes : List ℕ) (fs : List Fixup)
    → All (λ (f : Fixup). f.offset + length (over f) ≤ length bytes) fs → length (with_fixups over bytes fs) ≡ length bytes
unfolding with_fixups
length-with_fixups over bytes [] within = refl
length-with_fixups over bytes (f ∷ fs) within =
    let here = put_length bytes f.offset (over f) (within 0 f (omega arith)) in
    length-with_fixups over (put_at bytes f.offset (over f)) fs (λ i d inside. rw here (within (suc i) d (omega (arith, inside)))) ∙ here

-- what holds of all holds of those of a section, and each of these is of it
pub all-in_section : (P : Fixup → Type 0) (section : ℕ) (fs : List Fixup) → All P fs
    → All (λ (f : Fixup). P f × (f.section ≡ section)) (in_section section fs)
all-in_section P section fs all i d within =
    let is = λ (f : Fixup). nat_eq f.section section in
    (All-filter is P fs all i d within, eqb-true _ _ (filter_passes is fs i d within))

-- the fixups of a section of an object lie in it
pub fixups_within : (o : Object) (section : ℕ) → IsObject o
    → All (λ (f : Fixup). f.offset + width f.kind ≤ length (section_bytes o.code o.contents section)) (in_section section o.fixups)
fixups_within o section object i d within =
    let f : Fixup = get_or (in_section section o.fixups) i d in
    let both = all-in_section (IsFixup o.code o.contents (length o.symbols)) section o.fixups object.fixups i d within in
    subst (λ s. f.offset + width f.kind ≤ length (section_bytes o.code o.contents s)) both.1 both.0.within

pub length-filled : (section base : ℕ) (ds : List Definition) (l : Laid) → IsObject l.object
    → length (filled_section section base ds l) ≡ length (section_bytes l.object.code l.object.contents section)
length-filled section base ds l object =
    let over = bytes_for base (places_of ds l) l.home in
    let bytes = section_bytes l.object.code l.object.contents section in
    length-with_fixups over bytes (in_section section l.object.fixups)
    (λ i d within.
    let f : Fixup = get_or (in_section section l.object.fixups) i d in
    subst (λ n. f.offset + n ≤ length bytes) (sym (length-bytes_for base (places_of ds l) l.home f))
    (fixups_within l.object section object i d within))

pub filled_long : (section base : ℕ) (ds : List Definition) (objects : List Object) → All IsObject objects
    → AreLong section (filled_section section base ds) (laid_objects objects)
filled_long section base ds objects all i d inside =
    length-filled section base ds (get_or (laid_objects objects) i d) (laid_are objects all i d inside)
