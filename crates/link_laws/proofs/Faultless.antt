-- One object alone in the linker's layout: no fault comes of it, and the image is the one that it was listed from.
use Rattle.link_laws.proofs.Common.{AllByRecursion, contents_from, contents_start, linked_sections, list_any-append, Object, reloc_sections}
use Rattle.link_laws.proofs.Common.{ap, not, sym, take, true, w64, [], ◌%◌, ◌++◌, ◌+◌, ◌-◌, ◌<◌, ◌^◌, ◌∙◌, ◌∷◌, ◌≡◌}
use Rattle.link_laws.proofs.Common.{Apart, arith, Bool, false, find, Fixup, Image, Laid, Line, List, nat_eq, None, refl, Some, subst, zeros}
use Rattle.link_laws.proofs.Common.{append-nil, code_start, Definition, definitions, first_again, homes_from, map, name_number, to_le_bytes}
use Rattle.link_laws.proofs.Common.{bytes_eq, code_end, entry_in, first_in, get_name, LinkPlan, same_name, symbol_of, target_of, text_from}
use Rattle.link_laws.proofs.Common.{bytes_for, cond_both, label_text, names_with, nat_tests, next_place, other_way, places_of, relocs_of, ℕ}
use Rattle.link_laws.proofs.Common.{contents_of, laid_objects, linked_image, section_from, section_kind, Symbol, symbol_place, undefined_in}
use Rattle.link_laws.proofs.Common.{defined_place, definition_in, file_sections, if◌then◌else◌, is_definition, is_undefined, reloc_section}
use Rattle.link_laws.proofs.Common.{far_in, filter, homes_of, is_entry, is_named, is_near, length, names_of, place_in, rounded, value_of}
use Rattle.link_laws.proofs.Lists.{all_map, all_of, each_of, find_none, map_twice}
use Rattle.link_laws.proofs.{OneLinked.one_image, OneLinked.one_size, Taken.IsPlaced}
use Rattle.ebc_link.specs.Fixups.{code_of}

-- ---- searches

-- the one that passes is found by its name
pub find_named : (p : Symbol → Bool) (f : List ℕ → Symbol) (n : List ℕ) (ns : List (List ℕ)) → is_named n ns ≡ true → p (f n) ≡ true
    → ((m : List ℕ) → p (f m) ≡ true → m ≡ n) → find p (map f ns) ≡ Some (f n)
find_named p f n [] there passes only = cc there
find_named p f n (m ∷ ms) there passes only =
    let later = λ (h : is_named n ms ≡ true). find_named p f n ms h passes only in
    grind (arith, only m, same_name n m, later)

-- ---- a name that is defined twice

not_in_filter : (p : List ℕ → Bool) (n : List ℕ) (ns : List (List ℕ)) → is_named n ns ≡ false → is_named n (filter p ns) ≡ false
not_in_filter p n [] h = refl
not_in_filter p n (m ∷ ns) h = grind (arith, not_in_filter p n ns)

pub apart_filter : (p : List ℕ → Bool) (ns : List (List ℕ)) → Apart ns → Apart (filter p ns)
apart_filter p [] h = tt
apart_filter p (n ∷ ns) h =
    let rest : Apart (filter p ns) = apart_filter p ns h.1 in
    cond_both (p n) (n ∷ filter p ns) (filter p ns) Apart (λ e. (not_in_filter p n ns h.0, rest)) (λ e. rest)

-- names that aren't among others aren't among these and one more
more_before : (n : List ℕ) (before ns : List (List ℕ)) → AllByRecursion (λ m. is_named m before ≡ false) ns → is_named n ns ≡ false
    → AllByRecursion (λ m. is_named m (before ++ n ∷ []) ≡ false) ns
more_before n before [] all new = tt
more_before n before (m ∷ ns) all new =
    let other : bytes_eq m n ≡ false = other_way n m (bytes_eq m n) refl (grind arith) in
    (rw list_any-append (grind (arith, all.0)), more_before n before ns all.1 (grind arith))

pub none_again : (before ns : List (List ℕ)) → Apart ns → AllByRecursion (λ m. is_named m before ≡ false) ns → first_again before ns ≡ None
unfolding first_again
none_again before [] apart new = refl
none_again before (n ∷ ns) apart new =
    grind (arith, new.0, none_again (before ++ n ∷ []) ns apart.1 (more_before n before ns new.1 apart.0))

-- the names of definitions are some of the names of symbols
pub defined_names : (h : Laid) (f : List ℕ → Symbol) (ns : List (List ℕ)) → ((n : List ℕ) → (f n).name ≡ n)
    → names_of (map (definition_in h.home) (filter is_definition (map f ns))) ≡ filter (λ n. is_definition (f n)) ns
defined_names h f [] same = refl
defined_names h f (n ∷ ns) same = grind (arith, same n, defined_names h f ns same)

-- ---- one object alone

pub sole_twice : (o : Object) (h : Laid) (f : List ℕ → Symbol) (ns : List (List ℕ)) → o.symbols ≡ map f ns → ((n : List ℕ) → (f n).name ≡ n)
    → Apart ns → first_again [] (names_of (definitions (record { object = o; home = h.home } ∷ []))) ≡ None
unfolding definitions
sole_twice o h f ns symbols same apart =
    let kept : List (List ℕ) = filter (λ n. is_definition (f n)) ns in
    let names = ap names_of (append-nil (map (definition_in h.home) (filter is_definition o.symbols)))
    ∙ (ap (λ ss. names_of (map (definition_in h.home) (filter is_definition ss))) symbols ∙ defined_names h f ns same) in
    ap (first_again []) names ∙ none_again [] kept (apart_filter (λ n. is_definition (f n)) ns apart) (all_of
    (λ m. is_named m [] ≡ false) kept (λ m. refl))

pub sole_undefined : (ds : List Definition) (o : Object) (h : Laid) (f : List ℕ → Symbol) (ns : List (List ℕ)) → o.symbols ≡ map f ns
    → AllByRecursion (λ n. nat_eq (f n).kind 0 ≡ false) ns → first_in (undefined_in ds) (record { object = o; home = h.home } ∷ []) ≡ None
unfolding first_in
sole_undefined ds o h f ns symbols placed =
    let none = find_none (is_undefined ds) (map f ns) (all_map (λ s. is_undefined ds s ≡ false) f ns
    (each_of (λ n. nat_eq (f n).kind 0 ≡ false) (λ n. is_undefined ds (f n) ≡ false) ns (λ n known. grind arith) placed)) in
    rw (symbols, none) refl

pub sole_far : (ds : List Definition) (l : Laid) → AllByRecursion (λ (f : Fixup). f.kind ≡ 5) l.object.fixups
    → first_in (far_in ds) (l ∷ []) ≡ None
unfolding first_in is_near
sole_far ds l five =
    let none = find_none (λ (f : Fixup). not (is_near (places_of ds l) l.home f)) l.object.fixups
    (each_of (λ (f : Fixup). f.kind ≡ 5) (λ (f : Fixup). not (is_near (places_of ds l) l.home f) ≡ false) l.object.fixups
    (λ f kind. rw kind refl) five) in
    rw none refl

-- What is asked of the symbol of the entry.
pub record IsEntrySymbol (o : Object) (s : Symbol) : Type 0 where
  pub global : s.global ≡ 1
  pub kind : s.kind ≡ 1
  pub even : s.offset % 2 ≡ 0
  pub within : s.offset < length o.code

entry_passes : (o : Object) (s : Symbol) → IsEntrySymbol o s → bytes_eq s.name s.name ≡ true
    → is_entry s.name (length o.code) s ≡ true
entry_passes o s is same = grind (arith, nat_tests, is.global, is.kind, is.even, is.within)

pub sole_entry : (l : Laid) (f : List ℕ → Symbol) (name : List ℕ) (ns : List (List ℕ)) → l.object.symbols ≡ map f ns
    → ((n : List ℕ) → (f n).name ≡ n) → is_named name ns ≡ true → bytes_eq name name ≡ true → IsEntrySymbol l.object (f name)
    → first_in (entry_in name) (l ∷ []) ≡ Some (place_in l.home 1 (f name).offset)
unfolding first_in
sole_entry l f name ns symbols named there same is =
    let passes : Symbol → Bool = is_entry name (length l.object.code) in
    let here : passes (f name) ≡ true = subst (λ n. is_entry n (length l.object.code) (f name) ≡ true) (named name)
    (entry_passes l.object (f name) is (subst (λ n. bytes_eq n n ≡ true) (sym (named name)) same)) in
    rw (symbols, find_named passes f name ns there here (λ m e. sym (named m) ∙ only m e)) refl
  where
    only : (m : List ℕ) → is_entry name (length l.object.code) (f m) ≡ true → (f m).name ≡ name
    only m e = grind (arith, same_name)

-- ---- the image

-- one object, and where it stands
abbrev pub sole : Object → Laid
sole o = record { object = o; home = record { code = 0x1000; contents = rounded 0x1000 (0x1000 + length o.code) } }

start_is : (o : Object) → contents_start (o ∷ []) ≡ rounded 0x1000 (0x1000 + length o.code)
unfolding contents_start code_end
start_is o = refl

pub sole_laid : (o : Object) → laid_objects (o ∷ []) ≡ sole o ∷ []
unfolding laid_objects homes_of homes_from
sole_laid o =
    ap (λ n. record { object = o; home = record { code = 0x1000; contents = n } } ∷ []) (ap (rounded 8) (start_is o) ∙ omega arith)

nothing_between : (n : ℕ) (bytes : List ℕ) → zeros (n - n) ++ (bytes ++ []) ≡ bytes
nothing_between n bytes = let none : n - n ≡ 0 = omega arith in ap (λ k. zeros k ++ (bytes ++ [])) none ∙ append-nil bytes

pub sole_text : (bytes : Laid → List ℕ) (o : Object) → text_from bytes code_start (sole o ∷ []) ≡ bytes (sole o)
unfolding section_from
sole_text bytes o = nothing_between 0x1000 (bytes (sole o))

pub sole_contents : (bytes : Laid → List ℕ) (o : Object) → contents_from bytes (contents_start (o ∷ [])) (sole o ∷ []) ≡ bytes (sole o)
unfolding section_from
sole_contents bytes o =
    ap (λ n. zeros (rounded 0x1000 (0x1000 + length o.code) - n) ++ (bytes (sole o) ++ [])) (start_is o)
    ∙ nothing_between (rounded 0x1000 (0x1000 + length o.code)) (bytes (sole o))

pub image_again :
    (plan : LinkPlan) (o : Object) (image : Image) (text contents : List ℕ) → plan.base ≡ image.base → plan.subsystem ≡ image.subsystem →
    image.sections ≡ linked_sections text contents → image.size ≡ next_place (file_sections image) 0x1000 →
    code_of plan.base (definitions (sole o ∷ [])) (sole o) ≡ text → contents_of plan.base (definitions (sole o ∷ [])) (sole o) ≡ contents →
    relocs_of (sole o ∷ []) ≡ image.relocs →
    linked_image plan (definitions (sole o ∷ [])) (sole o ∷ []) (contents_start (o ∷ [])) image.entry ≡ image
unfolding linked_image file_sections reloc_sections reloc_section
image_again plan o image text contents base subsystem sections size code behind relocs =
    let ds = definitions (sole o ∷ []) in
    let one = linked_image plan ds (sole o ∷ []) (contents_start (o ∷ [])) image.entry in
    let code_is = sole_text (code_of plan.base ds) o ∙ code in
    let contents_is : contents_from (contents_of plan.base ds) (contents_start (o ∷ [])) (sole o ∷ []) ≡ contents =
    sole_contents (contents_of plan.base ds) o ∙ behind in
    let same : one.sections ≡ image.sections = rw (code_is, contents_is) (sym sections) in
    one_image one image base refl (one_size one image same relocs ∙ sym size) subsystem same relocs

-- ---- where a symbol stands once its object does

-- The label of a place is a name of lines, and stands there.
pub record LabelStands (ls : List Line) (h : Laid) (y : ℕ) : Type 0 where
  pub known : is_named (label_text y) (names_with [] ls) ≡ true
  pub there : nat_eq (symbol_of ls (label_text y)).kind 0 ≡ false
  pub place : place_in h.home (symbol_of ls (label_text y)).kind (symbol_of ls (label_text y)).offset ≡ y

home_place : (h : Laid) (d : Bool) (s n y : ℕ) → (if d then h.home.contents else h.home.code) ≡ s → s + n ≡ y
    → place_in h.home (section_kind d) n ≡ y
home_place h d s n y at is = grind arith

some_kind : (d : Bool) → nat_eq (section_kind d) 0 ≡ false
some_kind d = grind arith

pub stands_at : (ls : List Line) (h : Laid) (d : Bool) (s y : ℕ) → IsPlaced ls d s y → (if d then h.home.contents else h.home.code) ≡ s
    → LabelStands ls h y
stands_at ls h d s y p at = record {
  known = p.known;
  there = ap (λ k. nat_eq k 0) p.kind ∙ some_kind d;
  place = ap (λ k. place_in h.home k (symbol_of ls (label_text y)).offset) p.kind
      ∙ home_place h d s (symbol_of ls (label_text y)).offset y at p.offset;
}

-- ---- what a fixup fills in

pub target_is : (ds : List Definition) (l : Laid) (ls : List Line) (f : Fixup) (y : ℕ)
    → l.object.symbols ≡ map (symbol_of ls) (names_with [] ls) → f.symbol ≡ name_number (label_text y) (names_with [] ls)
    → LabelStands ls l y → target_of (places_of ds l) f ≡ y
unfolding places_of
target_is ds l ls f y symbols number st =
    let ns : List (List ℕ) = names_with [] ls in
    let place : Symbol → ℕ = symbol_place ds l.home in
    let s : Symbol = symbol_of ls (label_text y) in
    rw (symbols, number, map_twice place (symbol_of ls) ns, get_name (λ n. place (symbol_of ls n)) 0 (label_text y) ns st.known)
    (ap (λ b. if b then defined_place ds s.name else place_in l.home s.kind s.offset) st.there ∙ st.place)

pub bytes_are : (base : ℕ) (places : List ℕ) (l : Laid) (f : Fixup) (n t : ℕ) → f.kind ≡ 5 → target_of places f ≡ t → base + t ≡ n
    → n < 2 ^ 64 → bytes_for base places l.home f ≡ to_le_bytes w64 n
unfolding bytes_for value_of
bytes_are base places l f n t five target is low =
    rw five (ap (λ m. take 8 (to_le_bytes w64 m)) (ap (λ m. (base + m) % 2 ^ 64) target ∙ omega (arith, is, low)))
