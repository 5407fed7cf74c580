-- What stands at fixups of an image that objects are linked to, its relocations, and its code and data.
use Rattle.ebc_link.proofs.Common.{◌≡◌, ℕ, ◌+◌, ◌*◌, ◌%◌, ◌^◌, ◌<◌, ◌≤◌, ⊎_elim, true, false, cond, List, [], ◌∷◌, append-nil, length, refl}
use Rattle.ebc_link.proofs.Common.{sym, ap, subst, ◌∙◌, arith, All, nat_eq, ℤ, pos, Contains, filter, flat_map, and_parts, cases_lt}
use Rattle.ebc_link.proofs.Common.{eqb-true, nat_tests, All-contains, Contains-append_cases, Contains-append_left, Contains-append_right}
use Rattle.ebc_link.proofs.Common.{little_endian, signed_at, wrap64, IsFixup, IsObject, width, Fixup, Object, linked_sections, laid, Image}
use Rattle.ebc_link.proofs.Common.{Section, Home, Laid, code_start, contents_start, laid_objects, place_in, Definition, places_of}
use Rattle.ebc_link.proofs.Common.{bytes_for, contents_of, holds_signed, is_address, is_near, place_of, relocs_in, relocs_of, target_of}
use Rattle.ebc_link.proofs.Common.{value_of}
use Rattle.ebc_link.proofs.ThereLaws.{joined, kept, mapped, was_joined, was_kept, was_mapped}
use Rattle.ebc_link.proofs.{OwnLaws.section_byte, OwnLaws.fixup_byte, FillLaws.width_small, NumberLaws.back, NumberLaws.number_there}
use Rattle.std.proofs.{lemmas.Bool.Decides.Decides-int_eq, lemmas.Int.ints, lemmas.Int.quot-rem}
use Rattle.std.specs.{Prelude.◌+ℤ◌, Prelude.◌*ℤ◌, Prelude.◌-ℤ◌, Prelude.int_div, Prelude.int_rem, Ordering.int_eq}
use Rattle.ebc_link.specs.{Layout.contents_from, Layout.text_from, Fixups.code_of, Fixups.counted, Fixups.distance_to, Fixups.is_whole}
use Rattle.ebc_link.specs.{Linked.Holds, Linked.IsAddress, Linked.Holds.address, Linked.Holds.bytes, Linked.Holds.words}

-- ---- the sections tell the code and the data

abbrev pub with_flags : ℕ → List Section → List ℕ
with_flags flags ss = flat_map (λ (s : Section). cond (nat_eq s.flags flags) s.bytes []) ss

pub text_of : (text contents : List ℕ) → with_flags 0x60000020 (linked_sections text contents) ≡ text
unfolding linked_sections
text_of [] [] = refl
text_of [] (c ∷ cs) = refl
text_of (b ∷ bs) [] = append-nil (b ∷ bs)
text_of (b ∷ bs) (c ∷ cs) = append-nil (b ∷ bs)

pub contents_in : (text contents : List ℕ) → with_flags 0xC0000040 (linked_sections text contents) ≡ contents
unfolding linked_sections
contents_in [] [] = refl
contents_in [] (c ∷ cs) = append-nil (c ∷ cs)
contents_in (b ∷ bs) [] = refl
contents_in (b ∷ bs) (c ∷ cs) = append-nil (c ∷ cs)

-- ---- distances

-- a distance that is near, in what its kind counts
near_whole : (kind : ℕ) (d : ℤ) → kind ≡ 1 → is_whole kind d ≡ true → d ≡ int_div d (pos 2) *ℤ pos 2
near_whole kind d one whole =
    let even : int_eq (int_rem d (pos 2)) (pos 0) ≡ true = subst (λ k. is_whole k d ≡ true) one whole in
    let none : int_rem d (pos 2) ≡ pos 0 = (Decides-int_eq (int_rem d (pos 2)) (pos 0)).0 even in
    let parts = quot-rem d (pos 2) in
    sym parts ∙ (ap (λ r. int_div d (pos 2) *ℤ pos 2 +ℤ r) none ∙ plus_none (int_div d (pos 2) *ℤ pos 2))
  where
    plus_none : (z : ℤ) → z +ℤ pos 0 ≡ z
    plus_none z = omega (arith, ints)

leads : (a b : ℕ) (d : ℤ) → d ≡ pos a -ℤ pos b → pos a ≡ pos b +ℤ d
leads a b d is = omega (arith, ints, is)

-- ---- fixups

-- what is near is a whole number of what its kind counts, and its bytes hold that
spelled : (base n : ℕ) (places : List ℕ) (h : Home) (f : Fixup) → 1 ≤ f.kind → f.kind ≤ 4 → is_near places h f ≡ true
    → n ≡ wrap64 (value_of base places h f) % 256 ^ width f.kind
    → (is_whole f.kind (distance_to places h f) ≡ true) × (signed_at (8 * width f.kind) n ≡ counted f.kind (distance_to places h f))
unfolding is_near value_of
spelled base n places h f low high near number =
    let d : ℤ = counted f.kind (distance_to places h f) in
    let other : nat_eq f.kind 5 ≡ false = grind (arith, nat_tests) in
    let both = and_parts (is_whole f.kind (distance_to places h f)) (holds_signed (width f.kind) d) (rw other at near) in
    (both.0, ap (signed_at (8 * width f.kind)) (rw other at number) ∙ back f.kind d low high both.1)

-- one of five kinds
five : (P : Type 0) (k : ℕ) → 1 ≤ k → k ≤ 5 → (k ≡ 1 → P) → (2 ≤ k → k ≤ 4 → P) → (k ≡ 5 → P) → P
five P k low high one middle last = ⊎_elim
    (λ small. one (omega (arith, small, low)))
    (λ from. ⊎_elim (λ most. middle from (omega (arith, most))) (λ large. last (omega (arith, large, high))) (cases_lt k 5))
    (cases_lt k 2)

-- the number that stands at a fixup leads to its symbol
pub holds : (base : ℕ) (image : Image) (l : Laid) (f : Fixup) (places : List ℕ) → 1 ≤ f.kind → f.kind ≤ 5 → is_near places l.home f ≡ true
    → base + target_of places f < 2 ^ 64
    → little_endian (laid image.sections) (place_of l.home f) (width f.kind) ≡ wrap64 (value_of base places l.home f) % 256 ^ width f.kind
    → Holds base image l f (target_of places f)
unfolding value_of
holds base image l f places low high near small number =
    let d : ℤ = distance_to places l.home f in
    let from : ℕ = place_in l.home f.section f.from in
    let target : ℕ = target_of places f in
    let behind : pos target ≡ pos from +ℤ d = leads target from d refl in
    five (Holds base image l f target) f.kind low high
    (λ one.
    let told = spelled base _ places l.home f low (omega (arith, one)) near number in
    let half : d ≡ int_div d (pos 2) *ℤ pos 2 = near_whole f.kind d one told.0 in
    words one (behind ∙ ap (λ z. pos from +ℤ z) (half ∙ ap (λ z. z *ℤ pos 2) (sym (rw one at told.1)))))
    (λ two four.
    let no_words : nat_eq f.kind 1 ≡ false = grind (arith, nat_tests) in
    let told = (spelled base _ places l.home f low four near number).1 in
    bytes two four (behind ∙ ap (λ z. pos from +ℤ z) (sym (told ∙ ap (λ b. cond b (int_div d (pos 2)) d) no_words))))
    (λ last. address last (rw last at number ∙ omega (arith, small)))

-- the bytes that stand at a fixup
pub spelled_there : (base : ℕ) (ds : List Definition) (objects : List Object) (all : All IsObject objects) (l : Laid) (f : Fixup)
    → Contains (laid_objects objects) l → IsObject l.object → Contains l.object.fixups f
    → little_endian
    (laid (linked_sections (text_from (code_of base ds) code_start (laid_objects objects))
    (contents_from (contents_of base ds) (contents_start objects) (laid_objects objects)))) (place_of l.home f) (width f.kind)
    ≡ wrap64 (value_of base (places_of ds l) l.home f) % 256 ^ width f.kind
unfolding bytes_for
spelled_there base ds objects all l f there object has =
    let fixup = All-contains (IsFixup l.object.code l.object.contents (length l.object.symbols)) l.object.fixups f object.fixups has in
    let sections : List Section = linked_sections (text_from (code_of base ds) code_start (laid_objects objects))
    (contents_from (contents_of base ds) (contents_start objects) (laid_objects objects)) in
    number_there (laid sections) (place_of l.home f) (width f.kind) (wrap64 (value_of base (places_of ds l) l.home f)) (width_small f.kind)
    (λ j within.
    let at : place_of l.home f + j ≡ place_in l.home f.section (f.offset + j) = omega arith in
    ap (laid sections) at
    ∙ (section_byte base ds objects all l f.section (f.offset + j) fixup.section there (omega (arith, fixup.within, within))
    ∙ fixup_byte f.section base ds l f j object has refl within))

-- ---- relocations

pub is_there : (ls : List Laid) (x : ℕ) → Contains (relocs_of ls) x → IsAddress ls x
unfolding relocs_of
is_there ls x there = ⊎_elim (from 1) (from 2) (Contains-append_cases (flat_map (relocs_in 1) ls) (flat_map (relocs_in 2) ls) x there)
  where
    from : (section : ℕ) → Contains (flat_map (relocs_in section) ls) x → IsAddress ls x
    from section in_it =
        let object = was_joined (relocs_in section) ls x in_it in
        let l : Laid = object.0 in
        let fixup = was_mapped (place_of l.home) (filter (is_address section) l.object.fixups) x object.2 in
        let passes = was_kept (is_address section) l.object.fixups fixup.0 fixup.1 in
        let kind = and_parts (nat_eq (fixup.0).kind 5) (nat_eq (fixup.0).section section) passes.1 in
        (l, fixup.0, object.1, passes.0, eqb-true (fixup.0).kind 5 kind.0, sym fixup.2)

pub was_there : (ls : List Laid) → ((l : Laid) → Contains ls l → IsObject l.object) → (x : ℕ) → IsAddress ls x → Contains (relocs_of ls) x
unfolding relocs_of
was_there ls objects x (l, f, there, has, kind, is) =
    let object = objects l there in
    let fixup = All-contains (IsFixup l.object.code l.object.contents (length l.object.symbols)) l.object.fixups f object.fixups has in
    ⊎_elim
    (λ one. Contains-append_left (flat_map (relocs_in 1) ls) (flat_map (relocs_in 2) ls) x (through 1 one))
    (λ two. Contains-append_right (flat_map (relocs_in 1) ls) (flat_map (relocs_in 2) ls) x (through 2 two))
    fixup.section
  where
    through : (section : ℕ) → f.section ≡ section → Contains (flat_map (relocs_in section) ls) x
    through section of =
        let passes : is_address section f ≡ true = grind (arith, nat_tests) in
        joined (relocs_in section) ls l x there
        (subst (λ y. Contains (relocs_in section l) y) (sym is)
        (mapped (place_of l.home) (filter (is_address section) l.object.fixups) f (kept (is_address section) l.object.fixups f has passes)))
