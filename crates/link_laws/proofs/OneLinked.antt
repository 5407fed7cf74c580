-- Linked images of the same objects are one. Where no name is defined twice, a symbol stands at one place.
use Rattle.std.proofs.lemmas.List.{get_or-map}
use Rattle.std.specs.Prelude.{filter, ◌≢◌}
use Rattle.link_laws.proofs.Common.{All-contains, definition_in, file_sections, first_of_all, head_or_later, is_definition, reloc_section}
use Rattle.link_laws.proofs.Common.{All-from_recursion, Any-from_list_any, Contains-tail, definitions_of, linked_sections, reloc_sections}
use Rattle.link_laws.proofs.Common.{AllPairs, AreBytes, Contains, Fixup, IsOutside, nat_tests, next_place, number_at, own_bytes, pairs_head}
use Rattle.link_laws.proofs.Common.{Any, ap, inl, inr, own, sym, ℕ, ◌+◌, ◌-◌, ◌<◌, ◌||◌, ◌↔◌, ◌∙◌, ◌∷◌, ◌≡◌, ◌≤◌, ◌⊎◌}
use Rattle.link_laws.proofs.Common.{arith, false, fills, Image, kept, Laid, laid, List, None, other, refl, Some, subst, true, width, ◌&&◌}
use Rattle.link_laws.proofs.Common.{Bool, further, get_or, joined, length, Linked, nat_le, nat_lt, nowhere, Object, rounded, Symbol, ⊎_elim}
use Rattle.link_laws.proofs.Common.{cases_Bool, Definition, definitions, ext_get_or, first_again, laid_objects, length-map, LinkedIsOne, []}
use Rattle.link_laws.proofs.Common.{Holds, IsBelow, IsEntry, IsFilled, LinkPlan, list_any, names_of, or_cases, place_in, place_of, StandsAt}
use Rattle.link_laws.proofs.Lists.{fails_of, one_or_apart}
use Rattle.link_laws.proofs.{Listings.data_place, Numbers.same_byte, Numbers.same_number, Relocs.laid_code, Relocs.laid_data}
use Rattle.ebc_disasm.proofs.Firsts.{pairs_tail}
use Rattle.ebc_link.proofs.{PlanLaws.apart_from, ThereLaws.mapped}
use Rattle.ebc_link.specs.Layout.{start_of}

-- ---- definitions

one_definition : (ds : List Definition) (d e : Definition) → first_again [] (names_of ds) ≡ None → Contains ds d → Contains ds e
    → d.name ≡ e.name → d ≡ e
one_definition ds d e none first second same =
    let name : Definition → List ℕ = λ d. d.name in
    let pairs : AllPairs (λ (a b : Definition). a.name ≢ b.name) ds = λ i j a less within is.
    (apart_from [] (names_of ds) none).1 i j a.name less (omega (arith, within, length-map ds name))
    (get_or-map name ds i a a.name (omega (arith, less, within)) ∙ (is ∙ sym (get_or-map name ds j a a.name within))) in
    ⊎_elim (λ is. is) (λ other. absurd (⊎_elim (λ a. a same) (λ a. a (sym same)) other))
    (one_or_apart (λ (a b : Definition). a.name ≢ b.name) ds d e pairs first second)

-- what a symbol defines is among the definitions
is_defined : (ls : List Laid) (l : Laid) (s : Symbol) → Contains ls l → Contains l.object.symbols s → is_definition s ≡ true
    → Contains (definitions ls) (definition_in l.home s)
unfolding definitions
is_defined ls l s there has defines =
    joined definitions_of ls l (definition_in l.home s) there
    (mapped (definition_in l.home) (filter is_definition l.object.symbols) s (kept is_definition l.object.symbols s has defines))

-- two definitions of one name stand at one place
pub one_place : (ls : List Laid) (l m : Laid) (s t : Symbol) → first_again [] (names_of (definitions ls)) ≡ None → Contains ls l
    → Contains l.object.symbols s → is_definition s ≡ true → Contains ls m → Contains m.object.symbols t → is_definition t ≡ true
    → s.name ≡ t.name → place_in l.home s.kind s.offset ≡ place_in m.home t.kind t.offset
one_place ls l m s t none first has_s defines_s second has_t defines_t same =
    ap (λ (d : Definition). d.place)
    (one_definition (definitions ls) (definition_in l.home s) (definition_in m.home t) none
    (is_defined ls l s first has_s defines_s) (is_defined ls m t second has_t defines_t) same)

-- a symbol stands at one place
pub one_stand : (ls : List Laid) (l : Laid) (s : Symbol) (p q : ℕ) → first_again [] (names_of (definitions ls)) ≡ None
    → StandsAt ls l s p → StandsAt ls l s q → p ≡ q
one_stand ls l s p q none (own known is) (own known2 also) = is ∙ sym also
one_stand ls l s p q none (own known is) (other unknown m t there has defines named also) = absurd (known unknown)
one_stand ls l s p q none (other unknown m t there has defines named is) (own known also) = absurd (known unknown)
one_stand ls l s p q none (other unknown m t there has defines named is) (other unknown2 n u there2 has2 defines2 named2 also) =
    is ∙ (one_place ls m n t u none there has defines there2 has2 defines2 (named ∙ sym named2) ∙ sym also)

-- and an image is entered at one
pub one_entry : (ls : List Laid) (name : List ℕ) (x y : ℕ) → first_again [] (names_of (definitions ls)) ≡ None → IsEntry ls name x
    → IsEntry ls name y → x ≡ y
one_entry ls name x y none (l, s, there, has, defines, named, code, even, within, is)
    (m, t, there2, has2, defines2, named2, code2, even2, within2, also) =
    let place = one_place ls l m s t none there has defines there2 has2 defines2 (named ∙ sym named2) in
    is ∙ (ap (λ k. place_in l.home k s.offset) (sym code) ∙ (place ∙ (ap (λ k. place_in m.home k t.offset) code2 ∙ sym also)))

-- ---- what `Linked` says of an image fixes it: images of which the same bytes, relocations and numbers are known are one

-- ---- ascending places

same_first : (x y : ℕ) (xs ys : List ℕ) → AllPairs IsBelow (x ∷ xs) → AllPairs IsBelow (y ∷ ys) → Contains (y ∷ ys) x → Contains (x ∷ xs) y
    → x ≡ y
same_first x y xs ys up up2 there back =
    head_or_later (x ≡ y) y ys x there (λ is. sym is)
    (λ later. head_or_later (x ≡ y) x xs y back (λ is. is)
    (λ after.
    let high : x + 8 ≤ y = All-contains (IsBelow x) xs y (pairs_head IsBelow x xs up) after in
    absurd (omega (arith, All-contains (IsBelow y) ys x (pairs_head IsBelow y ys up2) later, high))))

tail_has : (x : ℕ) (xs ys : List ℕ) → AllPairs IsBelow (x ∷ xs) → ((q : ℕ) → Contains (x ∷ xs) q → Contains (x ∷ ys) q) → (q : ℕ)
    → Contains xs q → Contains ys q
tail_has x xs ys up same q there =
    let above : x + 8 ≤ q = All-contains (IsBelow x) xs q (pairs_head IsBelow x xs up) there in
    Contains-tail x ys q (λ is. absurd (omega (arith, is, above))) (same q (further x xs q there))

-- two ascending lists of places with the same places are one
pub one_ascending : (xs ys : List ℕ) → AllPairs IsBelow xs → AllPairs IsBelow ys → ((q : ℕ) → Contains xs q ↔ Contains ys q) → xs ≡ ys
one_ascending [] [] up up2 same = refl
one_ascending [] (y ∷ ys) up up2 same = nowhere ([] ≡ y ∷ ys) y ((same y).1 (first_of_all ys y))
one_ascending (x ∷ xs) [] up up2 same = nowhere (x ∷ xs ≡ []) x ((same x).0 (first_of_all xs x))
one_ascending (x ∷ xs) (y ∷ ys) up up2 same =
    let is : x ≡ y = same_first x y xs ys up up2 ((same x).0 (first_of_all xs x)) ((same y).1 (first_of_all ys y)) in
    let there = subst (λ z. (q : ℕ) → Contains (x ∷ xs) q ↔ Contains (z ∷ ys) q) (sym is) same in
    let up3 : AllPairs IsBelow (x ∷ ys) = subst (λ z. AllPairs IsBelow (z ∷ ys)) (sym is) up2 in
    ap (λ z. z ∷ xs) is
    ∙ ap (λ zs. y ∷ zs)
    (one_ascending xs ys (pairs_tail IsBelow x xs up) (pairs_tail IsBelow y ys up2)
    (λ q. (tail_has x xs ys up (λ r h. (there r).0 h) q, tail_has x ys xs up3 (λ r h. (there r).1 h) q)))

-- ---- bytes of code and data

-- the bytes that stand at a place, which two images have alike
one_part : (f g : ℕ → ℕ) (place : ℕ) (xs ys : List ℕ) → length xs ≡ length ys → ((x : ℕ) → f x ≡ g x)
    → ((i : ℕ) → i < length xs → f (place + i) ≡ get_or xs i 0) → ((i : ℕ) → i < length ys → g (place + i) ≡ get_or ys i 0) → xs ≡ ys
one_part f g place xs ys long same first second =
    ext_get_or 0 xs ys long (λ i low. sym (first i low) ∙ (same (place + i) ∙ second i (omega (arith, low, long))))

-- the code and the data of two images with the same bytes, which are as long, are one
one_text : (text contents text2 contents2 : List ℕ) → length text ≡ length text2
    → ((x : ℕ) → laid (linked_sections text contents) x ≡ laid (linked_sections text2 contents2) x) → text ≡ text2
one_text text contents text2 contents2 long same =
    one_part (laid (linked_sections text contents)) (laid (linked_sections text2 contents2)) 0x1000 text text2 long same
    (laid_code text contents) (laid_code text2 contents2)

one_contents : (text contents text2 contents2 : List ℕ) → length text ≡ length text2 → length contents ≡ length contents2
    → ((x : ℕ) → laid (linked_sections text contents) x ≡ laid (linked_sections text2 contents2) x) → contents ≡ contents2
one_contents text contents text2 contents2 front long same =
    let P : ℕ → Type 0 = λ n. (i : ℕ) → i < length contents2
    → laid (linked_sections text2 contents2) (rounded 0x1000 (0x1000 + n) + i) ≡ get_or contents2 i 0 in
    one_part (laid (linked_sections text contents)) (laid (linked_sections text2 contents2)) (data_place text) contents contents2 long same
    (laid_data text contents) (subst P (sym front) (laid_data text2 contents2))

-- ---- sections, and images

pub one_sections : (objects : List Object) (plan : LinkPlan) (one two : Image) → Linked objects plan one → Linked objects plan two
    → ((x : ℕ) → laid one.sections x ≡ laid two.sections x) → one.sections ≡ two.sections
one_sections objects plan one two first second same =
    let (text, contents, is) = first.layout.sections in
    let (text2, contents2, is2) = second.layout.sections in
    let ends = first.ends text contents is in
    let ends2 = second.ends text2 contents2 is2 in
    let front : length text ≡ length text2 = omega (arith, ends.0, ends2.0) in
    let behind : length contents ≡ length contents2 = omega (arith, ends.1, ends2.1) in
    let bytes : (x : ℕ) → laid (linked_sections text contents) x ≡ laid (linked_sections text2 contents2) x =
    λ x. ap (λ us. laid us x) (sym is) ∙ (same x ∙ ap (λ us. laid us x) is2) in
    rw (is, is2, one_text text contents text2 contents2 front bytes, one_contents text contents text2 contents2 front behind bytes) refl

pub one_size : (one two : Image) → one.sections ≡ two.sections → one.relocs ≡ two.relocs
    → next_place (file_sections one) 0x1000 ≡ next_place (file_sections two) 0x1000
unfolding file_sections reloc_sections reloc_section
one_size one two sections relocs = rw (sections, relocs) refl

-- images with the same parts are one
pub one_image : (one two : Image) → one.base ≡ two.base → one.entry ≡ two.entry → one.size ≡ two.size → one.subsystem ≡ two.subsystem
    → one.sections ≡ two.sections → one.relocs ≡ two.relocs → one ≡ two
one_image one two base entry size subsystem sections relocs = grind arith

-- ---- bytes

-- whether a byte of a section of an object is at a place
abbrev has_byte : ℕ → ℕ → Laid → Bool
has_byte section x l = nat_le (start_of l.home section) x && nat_lt x (start_of l.home section + length (own_bytes l section))

-- what is known of two linked images
pub record AreLinked (objects : List Object) (plan : LinkPlan) (one two : Image) : Type 0 where
  pub once : first_again [] (names_of (definitions (laid_objects objects))) ≡ None
  pub first : Linked objects plan one
  pub second : Linked objects plan two
  pub first_bytes : AreBytes one
  pub second_bytes : AreBytes two

filled_number : (base : ℕ) (ls : List Laid) (one two : Image) (l : Laid) (f : Fixup) → first_again [] (names_of (definitions ls)) ≡ None
    → AreBytes one → AreBytes two → IsFilled base one ls l f → IsFilled base two ls l f
    → number_at one (place_of l.home f) (width f.kind) ≡ number_at two (place_of l.home f) (width f.kind)
filled_number base ls one two l f once first second (s, p, got, stands, holds) (t, q, got2, stands2, holds2) =
    let both : Some s ≡ Some t = sym got ∙ got2 in
    let symbol : s ≡ t = cc in
    let place : q ≡ p = one_stand ls l s q p once (subst (λ u. StandsAt ls l u q) (sym symbol) stands2) stands in
    same_number base one two l f p first second holds (subst (λ n. Holds base two l f n) place holds2)

module _ (objects : List Object) (plan : LinkPlan) (one two : Image) (a : AreLinked objects plan one two) where
  abbrev ls : List Laid
  ls = laid_objects objects

  -- two linked images have the same byte
  abbrev SameAt : ℕ → Type 0
  SameAt x = laid one.sections x ≡ laid two.sections x

  filled_byte : (l : Laid) (section i : ℕ) → Contains ls l → Any (λ f. fills section i f ≡ true) l.object.fixups
      → SameAt (place_in l.home section i)
  filled_byte l section i there (k, f, within, at, fill) =
      let has : Contains l.object.fixups f = (k, within, at) in
      let same = filled_number plan.base ls one two l f a.once a.first_bytes a.second_bytes (a.first.fixups l f there has)
      (a.second.fixups l f there has) in
      let is : f.section ≡ section = grind (arith, nat_tests) in
      let low : f.offset ≤ i = grind (arith, nat_tests) in
      let high : i < f.offset + width f.kind = grind (arith, nat_tests) in
      let place : place_of l.home f + (i - f.offset) ≡ place_in l.home section i =
      ap (λ k. place_in l.home k f.offset + (i - f.offset)) is ∙ omega arith in
      subst SameAt place
      (same_byte one two (place_of l.home f) (width f.kind) (i - f.offset) a.first_bytes a.second_bytes (omega arith) same)

  own_byte : (l : Laid) (section i : ℕ) → Contains ls l → (section ≡ 1) ⊎ (section ≡ 2) → i < length (own_bytes l section)
      → list_any (fills section i) l.object.fixups ≡ false → SameAt (place_in l.home section i)
  own_byte l section i there known =
      let P : ℕ → Type 0 = λ s. i < length (own_bytes l s) → list_any (fills s i) l.object.fixups ≡ false → SameAt (place_in l.home s i) in
      ⊎_elim
      (λ code. subst P (sym code) (λ w n. a.first.code l there i w n ∙ sym (a.second.code l there i w n)))
      (λ contents. subst P (sym contents) (λ w n. a.first.contents l there i w n ∙ sym (a.second.contents l there i w n))) known

  -- the byte of an object
  object_byte : (l : Laid) (section x : ℕ) → Contains ls l → (section ≡ 1) ⊎ (section ≡ 2) → has_byte section x l ≡ true → SameAt x
  object_byte l section x there known has =
      let i : ℕ = x - start_of l.home section in
      let within : i < length (own_bytes l section) = grind (arith, nat_tests) in
      let place : place_in l.home section i ≡ x = grind (arith, nat_tests) in
      subst SameAt place
      (⊎_elim (λ e. filled_byte l section i there (Any-from_list_any (fills section i) l.object.fixups e))
      (λ e. own_byte l section i there known within e) (cases_Bool (list_any (fills section i) l.object.fixups)))

  one_byte : (x : ℕ) → SameAt x
  one_byte x =
      let has : Laid → Bool = λ l. has_byte 1 x l || has_byte 2 x l in
      ⊎_elim
      (λ some.
      let (k, l, within, at, e) = Any-from_list_any has ls some in
      let there : Contains ls l = (k, within, at) in
      ⊎_elim (object_byte l 1 x there (inl refl)) (object_byte l 2 x there (inr refl)) (or_cases (has_byte 1 x l) (has_byte 2 x l) e))
      (λ none.
      let none_has = All-from_recursion (λ l. has l ≡ false) ls (fails_of has ls none) in
      let outside : (l : Laid) → Contains ls l → IsOutside x l = λ l there.
      let out : has l ≡ false = All-contains (λ m. has m ≡ false) ls l none_has there in
      (grind (arith, nat_tests), grind (arith, nat_tests)) in
      a.first.between x outside ∙ sym (a.second.between x outside))
      (cases_Bool (list_any has ls))

  images_are_one : one ≡ two
  images_are_one =
      let sections : one.sections ≡ two.sections = one_sections objects plan one two a.first a.second one_byte in
      let relocs = one_ascending one.relocs two.relocs a.first.layout.apart a.second.layout.apart
      (λ x. (λ there. (a.second.relocs x).1 ((a.first.relocs x).0 there), λ there. (a.first.relocs x).1 ((a.second.relocs x).0 there))) in
      one_image one two (a.first.base ∙ sym a.second.base) (one_entry ls plan.entry one.entry two.entry a.once a.first.entry a.second.entry)
      (a.first.layout.size ∙ (one_size one two sections relocs ∙ sym a.second.layout.size)) (a.first.subsystem ∙ sym a.second.subsystem)
      sections relocs

-- the law
pub linked_is_one : LinkedIsOne
linked_is_one objects plan one two once first second first_bytes second_bytes =
    images_are_one objects plan one two
    (record { once = once; first = first; second = second; first_bytes = first_bytes; second_bytes = second_bytes })
