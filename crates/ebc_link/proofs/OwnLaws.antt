-- The bytes of each object where it stands in the image that objects are linked to.
use Rattle.ebc_link.proofs.Common.{place_in, ◌-◌, refl, ◌≡◌, ℕ, ◌+◌, ◌<◌, ◌≤◌, inl, inr, ⊎_elim, Bool, true, false, List, [], ◌∷◌, length}
use Rattle.ebc_link.proofs.Common.{get_or, sym, ap, subst, ◌∙◌, arith, All, nat_eq, Contains, list_any, nat_tests, All-cons, All-nil}
use Rattle.ebc_link.proofs.Common.{AllPairs-filter, overlaid, EndsBefore, IsFixup, IsObject, width, Fixup, Object, rounded, linked_sections}
use Rattle.ebc_link.proofs.Common.{laid, Laid, code_end, code_start, contents_end, contents_start, laid_objects, Definition, places_of}
use Rattle.ebc_link.proofs.Common.{bytes_for, contents_of, filled_section, in_section, own_bytes, ArePacked}
use Rattle.std.specs.Prelude.{slice_index}
use Rattle.std.proofs.{Common.◌⊎◌, lemmas.Bool.or_parts}
use Rattle.ebc_width.proofs.ByteLaws.{overlaid-apart, overlaid-within}
use Rattle.ebc_link.specs.{Layout.contents_from, Layout.text_from, Fixups.code_of, Linked.IsOutside, Linked.fills}
use Rattle.ebc_link.proofs.{BytesLaws.LieIn, BytesLaws.at_object, BytesLaws.between_objects, BytesLaws.filled_at, BytesLaws.laid_linked}
use Rattle.ebc_link.proofs.{BytesLaws.unfilled, FillLaws.all-in_section, FillLaws.fixups_within, FillLaws.length-bytes_for}
use Rattle.ebc_link.proofs.{FillLaws.length-filled, FillLaws.filled_long, ImageLaws.contents_ends, ImageLaws.text_ends, StandLaws.packed_by}
use Rattle.ebc_link.proofs.{StandLaws.laid_inside, StandLaws.object_of_laid, StandLaws.code_laid, StandLaws.contents_laid, ThereLaws.kept}

-- zeros stand where neither these bytes nor those below them are others
overlaid_none : (f : ℕ → ℕ) (place : ℕ) (bytes : List ℕ) (x : ℕ) → f x ≡ 0
    → (place ≤ x → x < place + length bytes → slice_index bytes (x - place) ≡ 0) → overlaid f place bytes x ≡ 0
unfolding overlaid
overlaid_none f place bytes x out inside = grind (arith, nat_tests)

-- ---- the image of objects, for a base

module _ (base : ℕ) (ds : List Definition) (objects : List Object) (all : All IsObject objects) where
  abbrev pub text : List ℕ
  text = text_from (code_of base ds) code_start (laid_objects objects)

  abbrev pub contents : List ℕ
  contents = contents_from (contents_of base ds) (contents_start objects) (laid_objects objects)

  starts_behind : rounded 0x1000 (0x1000 + length text) ≡ contents_start objects
  unfolding contents_start
  starts_behind = ap (rounded 0x1000) (text_ends base ds objects all)

  pub code_packed : ArePacked 1 (code_of base ds) code_start (laid_objects objects)
  code_packed =
      packed_by 1 (code_of base ds) code_start (code_end code_start objects) (laid_objects objects) (filled_long 1 base ds objects all)
      (code_laid objects)

  pub contents_packed : ArePacked 2 (contents_of base ds) (contents_start objects) (laid_objects objects)
  contents_packed =
      packed_by 2 (contents_of base ds) (contents_start objects) (contents_end (contents_start objects) objects) (laid_objects objects)
      (filled_long 2 base ds objects all) (contents_laid objects)

  -- what stands in the code of an object
  pub code_byte : (l : Laid) (i : ℕ) → Contains (laid_objects objects) l → i < length l.object.code
      → laid (linked_sections text contents) (l.home.code + i) ≡ get_or (code_of base ds l) i 0
  code_byte l i there within =
      let at = laid_inside objects l there in
      let ends = text_ends base ds objects all in
      let long = length-filled 1 base ds l (object_of_laid objects l all there) in
      laid_linked text contents (l.home.code + i)
      ∙ (overlaid-within (overlaid (λ y. 0) (rounded 0x1000 (0x1000 + length text)) contents) 0x1000 text (l.home.code + i)
      (omega (arith, at.code_low)) (omega (arith, within, at.code_high, ends))
      ∙ at_object 1 (code_of base ds) code_start (laid_objects objects) l i code_packed there (omega (arith, within, long)))

  -- and in its data
  pub contents_byte : (l : Laid) (i : ℕ) → Contains (laid_objects objects) l → i < length l.object.contents
      → laid (linked_sections text contents) (l.home.contents + i) ≡ get_or (contents_of base ds l) i 0
  contents_byte l i there within =
      let at = laid_inside objects l there in
      let ends = text_ends base ds objects all in
      let behind = contents_ends base ds objects all in
      let long = length-filled 2 base ds l (object_of_laid objects l all there) in
      laid_linked text contents (l.home.contents + i)
      ∙ (ap (λ p. overlaid (overlaid (λ y. 0) p contents) 0x1000 text (l.home.contents + i)) starts_behind
      ∙ (overlaid-apart (overlaid (λ y. 0) (contents_start objects) contents) 0x1000 text (l.home.contents + i)
      (inr (omega (arith, at.contents_low, starts_behind)))
      ∙ (overlaid-within (λ y. 0) (contents_start objects) contents (l.home.contents + i)
      (omega (arith, at.contents_low)) (omega (arith, within, at.contents_high, behind))
      ∙ at_object 2 (contents_of base ds) (contents_start objects) (laid_objects objects) l i contents_packed there
      (omega (arith, within, long)))))

  -- and so in either
  pub section_byte : (l : Laid) (section i : ℕ) → (section ≡ 1) ⊎ (section ≡ 2) → Contains (laid_objects objects) l
      → i < length (own_bytes l section)
      → laid (linked_sections text contents) (place_in l.home section i) ≡ get_or (filled_section section base ds l) i 0
  section_byte l section i (inl one) there = rw one (code_byte l i there)
  section_byte l section i (inr two) there = rw two (contents_byte l i there)

  -- zeros stand where no object does
  pub zero_between : (x : ℕ) → ((l : Laid) → Contains (laid_objects objects) l → IsOutside x l) → laid (linked_sections text contents) x ≡ 0
  zero_between x outside =
      laid_linked text contents x
      ∙ overlaid_none (overlaid (λ y. 0) (rounded 0x1000 (0x1000 + length text)) contents) 0x1000 text x
      (rw starts_behind
      (overlaid_none (λ y. 0) (contents_start objects) contents x refl
      (λ low high. between_objects 2 (contents_of base ds) (contents_start objects) (laid_objects objects) x contents_packed low
      (λ l there. rw (length-filled 2 base ds l (object_of_laid objects l all there)) (outside l there).1))))
      (λ low high. between_objects 1 (code_of base ds) code_start (laid_objects objects) x code_packed low
      (λ l there. rw (length-filled 1 base ds l (object_of_laid objects l all there)) (outside l there).0))

-- ---- the bytes of a section, with its fixups

any_none : {X : Type 0} → (p : X → Bool) (xs : List X) → list_any p xs ≡ false → All (λ x. p x ≡ false) xs
any_none p [] e = All-nil (λ x. p x ≡ false)
any_none p (x ∷ xs) e =
    let parts = or_parts (p x) (list_any p xs) e in All-cons (λ y. p y ≡ false) x xs parts.0 (any_none p xs parts.1)

not_filled : (section i : ℕ) (f : Fixup) (n : ℕ) → fills section i f ≡ false → f.section ≡ section → n ≡ width f.kind
    → (i < f.offset) ⊎ (f.offset + n ≤ i)
not_filled section i f n free is wide = grind (arith, nat_tests)

lie_so : (section base : ℕ) (ds : List Definition) (l : Laid) → IsObject l.object
    → LieIn (bytes_for base (places_of ds l) l.home) (length (own_bytes l section)) (in_section section l.object.fixups)
lie_so section base ds l object i d inside =
    let f : Fixup = get_or (in_section section l.object.fixups) i d in
    subst (λ n. f.offset + n ≤ length (own_bytes l section))
    (sym (length-bytes_for base (places_of ds l) l.home f)) (fixups_within l.object section object i d inside)

-- a byte that no fixup fills in is the object's
pub own_byte : (section base : ℕ) (ds : List Definition) (l : Laid) (i : ℕ) → IsObject l.object
    → list_any (fills section i) l.object.fixups ≡ false
    → get_or (filled_section section base ds l) i 0 ≡ get_or (own_bytes l section) i 0
own_byte section base ds l i object none =
    let over = bytes_for base (places_of ds l) l.home in
    unfilled over (own_bytes l section) (in_section section l.object.fixups) i (lie_so section base ds l object)
    (λ k d inside.
    let f : Fixup = get_or (in_section section l.object.fixups) k d in
    let both = all-in_section (λ (g : Fixup). fills section i g ≡ false) section l.object.fixups
    (any_none (fills section i) l.object.fixups none) k d inside in
    not_filled section i f (length (over f)) both.0 both.1 (length-bytes_for base (places_of ds l) l.home f))

-- and one that a fixup fills in is the fixup's
pub fixup_byte : (section base : ℕ) (ds : List Definition) (l : Laid) (f : Fixup) (j : ℕ) → IsObject l.object
    → Contains l.object.fixups f → f.section ≡ section → j < width f.kind
    → get_or (filled_section section base ds l) (f.offset + j) 0 ≡ get_or (bytes_for base (places_of ds l) l.home f) j 0
fixup_byte section base ds l f j object there is within =
    let over = bytes_for base (places_of ds l) l.home in
    let of_section = λ (g : Fixup). nat_eq g.section section in
    let here : of_section f ≡ true = grind (arith, nat_tests) in
    let long = length-bytes_for base (places_of ds l) l.home f in
    let fixups : List Fixup = l.object.fixups in
    let is_one : Fixup → Type 0 = IsFixup l.object.code l.object.contents (length l.object.symbols) in
    filled_at over (own_bytes l section) (in_section section fixups) f j (lie_so section base ds l object)
    (λ i k d before inside.
    let g : Fixup = get_or (in_section section l.object.fixups) i d in
    let h : Fixup = get_or (in_section section l.object.fixups) k d in
    let one = all-in_section is_one section fixups object.fixups i d (omega (arith, before, inside)) in
    let two = all-in_section is_one section fixups object.fixups k d inside in
    let ends : EndsBefore g h = AllPairs-filter EndsBefore of_section l.object.fixups object.ascend i k d before inside in
    let wide = length-bytes_for base (places_of ds l) l.home g in
    ⊎_elim (λ low. absurd (omega (arith, low, one.1, two.1))) (λ both. omega (arith, wide, both.1)) ends)
    (kept of_section l.object.fixups f there here) (omega (arith, within, long))
