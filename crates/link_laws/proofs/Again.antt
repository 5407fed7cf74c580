-- The listing of an image is assembled to an object, which is linked to the image.
use Rattle.std.proofs.lemmas.List.Elements.{All-cons, All-nil, Contains-append_cases}
use Rattle.std.proofs.lemmas.List.Folds.{list_any_at}
use Rattle.link_laws.proofs.Bodies.{IsLabelled, named_inside, place_in_line, target_labelled}
use Rattle.link_laws.proofs.Common.{All, fixups_in, IsAddress, nat_tests, object_in, object_of, own_bytes, places_of, relocs_of, same_bytes}
use Rattle.link_laws.proofs.Common.{All-contains, contents_start, first_of_all, head_or_later, if◌then◌else◌, length-append, little_endian}
use Rattle.link_laws.proofs.Common.{All-contains_itself, Contains-append_left, Contains-append_right, linked_sections, little_endian-below}
use Rattle.link_laws.proofs.Common.{All-from_recursion, AllByRecursion, AllPairs, Any-from_list_any, get_or-to_le_bytes, recursion_from_All}
use Rattle.link_laws.proofs.Common.{All-weaker, Definition, definitions, distance_of, IsListable, ListsAgain, named_place, Ok, section_kind}
use Rattle.link_laws.proofs.Common.{ap, inr, map, not, sym, [], ◌+◌, ◌-◌, ◌<◌, ◌^◌, ◌∙◌, ◌∷◌, ◌≡◌, ◌≤◌}
use Rattle.link_laws.proofs.Common.{Apart, arith, Bool, eq-eqb, false, filter, Fixup, get_or, Image, is_cut, labels, length, nat_eq, ⊎_elim}
use Rattle.link_laws.proofs.Common.{apart_in, AreBytes, bytes_eq, Contains, entry_in, IsLinked, IsObject, LinkPlan, same_name, symbol_of, ℕ}
use Rattle.link_laws.proofs.Common.{cases_Bool, ext_get_or, filter_map, IsBelow, label_text, length-map, links_laid, listing_of, names_with}
use Rattle.link_laws.proofs.Common.{file_of, first_in, IfSome, inl, is_named, list_any, nowhere, Object, Option, place_of, rounded, Section}
use Rattle.link_laws.proofs.Common.{fills, flag, is_of, kept, Laid, laid, Line, links, List, named, refl, Some, start, subst, true, ◌++◌}
use Rattle.link_laws.proofs.Faultless.{bytes_are, image_again, IsEntrySymbol, LabelStands, sole_entry, sole_far, sole_twice, sole_undefined}
use Rattle.link_laws.proofs.Faultless.{sole, sole_laid, stands_at, target_is}
use Rattle.link_laws.proofs.FixupWalk.{AreNamed, in_range, named_some, with_target}
use Rattle.link_laws.proofs.Listings.{all_lines, IsShown}
use Rattle.link_laws.proofs.Listings.{all_of_lines, data_place, data_placed, entry_global, entry_labelled, listing_object, text_placed}
use Rattle.link_laws.proofs.Lists.{all_pass, each_of, each_of_both, fails_of, map_twice}
use Rattle.link_laws.proofs.Objects.{code_agrees, code_fixups, contents_agree, contents_fixups, reloc_fixup}
use Rattle.link_laws.proofs.Relocs.{are_low, are_whole, byte_of, IsHome, laid_code, laid_data, Within}
use Rattle.link_laws.proofs.Relocs.{are_named, code_bytes, contents_bytes, count_relocs, homes, label_inside, relocs_parted, section_inside}
use Rattle.link_laws.proofs.Sources.{fixup_at, source}
use Rattle.link_laws.proofs.{ItemLaws.is_free, OneLinked.one_ascending, SectionLaws.Agree, Taken.IsLabel, Taken.IsPlaced, Taken.names_are}
use Rattle.ebc_asm.proofs.SoundLaws.{counted}
use Rattle.ebc_link.proofs.{FillLaws.length-filled, HoldLaws.was_there, LinkLaws.ends_linked, RelocLaws.relocs_apart, ThereLaws.was_mapped}
use Rattle.ebc_link.proofs.{HoldLaws.is_there, OwnLaws.fixup_byte, OwnLaws.own_byte, ThereLaws.mapped, ThereLaws.was_kept}
use Rattle.ebc_link.specs.Fixups.{filled_section}

-- a section has one number
one_kind : (d e : Bool) → section_kind d ≡ section_kind e → d ≡ e
one_kind d e is = grind (arith, is)

-- the label of a place is among the labels of places
label_among : (p : ℕ) (ps : List ℕ) → list_any (nat_eq p) ps ≡ true → is_named (label_text p) (map label_text ps) ≡ true
label_among p [] here = cc here
label_among p (q ∷ ps) here = grind (arith, nat_tests, label_among p ps, same_bytes (label_text p))

-- ---- names that each stand once are no more than the names among which they are

abbrev without : List ℕ → List (List ℕ) → List (List ℕ)
without n ms = filter (λ m. not (bytes_eq n m)) ms

no_more : (n : List ℕ) (ms : List (List ℕ)) → length (without n ms) ≤ length ms
no_more n [] = omega arith
no_more n (m ∷ ms) = grind (arith, no_more n ms)

one_less : (n : List ℕ) (ms : List (List ℕ)) → is_named n ms ≡ true → length (without n ms) + 1 ≤ length ms
one_less n [] there = cc there
one_less n (m ∷ ms) there = grind (arith, no_more n ms, one_less n ms)

still_named : (n q : List ℕ) (ms : List (List ℕ)) → bytes_eq n q ≡ false → is_named q ms ≡ true → is_named q (without n ms) ≡ true
still_named n q [] other there = there
still_named n q (m ∷ ms) other there = grind (arith, still_named n q ms other, same_name q m)

few_apart : (ns ms : List (List ℕ)) → Apart ns → AllByRecursion (λ n. is_named n ms ≡ true) ns → length ns ≤ length ms
few_apart [] ms apart there = omega arith
few_apart (n ∷ ns) ms apart there =
    let rest = few_apart ns (without n ms) apart.1 (each_of_both (λ q. bytes_eq n q ≡ false) (λ q. is_named q ms ≡ true)
    (λ q. is_named q (without n ms) ≡ true) ns (λ q. still_named n q ms) (fails_of (bytes_eq n) ns apart.0) there.1) in
    omega (arith, rest, one_less n ms there.0)

few_targets : (f : ℕ → Option ℕ) (rs : List ℕ) → length (filter_map f rs) ≤ length rs
few_targets f [] = omega arith
few_targets f (r ∷ rs) = grind (arith, few_targets f rs)

labels_few : (image : Image) → length (labels image) ≤ 1 + length image.relocs
unfolding labels
labels_few image = omega (arith, few_targets (named image) image.relocs)

-- ---- an image whose listing is linked again

module _ (image : Image) (b : ℕ) (bs contents : List ℕ) where
  -- its code, where its data begin, the lines of its listing, their names and their object, alone
  abbrev text : List ℕ
  text = b ∷ bs

  abbrev place : ℕ
  place = data_place text

  abbrev ls : List Line
  ls = source (all_lines image text contents)

  abbrev names : List (List ℕ)
  names = names_with [] ls

  abbrev object : Object
  object = object_in ls

  abbrev alone : Laid
  alone = sole object

  -- where a section begins, its bytes, the relocations in it, and the fixup of one of them
  abbrev from : Bool → ℕ
  from d = if d then place else 0x1000

  abbrev part : Bool → List ℕ
  part d = if d then contents else text

  abbrev own_relocs : Bool → List ℕ
  own_relocs d = filter (in_range (from d) (length (part d))) image.relocs

  abbrev fixup : Bool → ℕ → Fixup
  fixup d = reloc_fixup image d (from d) names

  abbrev its_own : Bool → List Fixup
  its_own d = map (fixup d) (own_relocs d)

  -- Eight bytes lie in a section.
  abbrev Lies : Bool → ℕ → Type 0
  Lies d r = (from d ≤ r) × (r + 8 ≤ from d + length (part d))

  -- What is known of an image and of its code, which isn't empty, and data.
  record Shows : Type 0 where
    sections : image.sections ≡ linked_sections text contents
    linked : IsLinked image
    small : image.base < 2 ^ 32
    bytes : AreBytes image
    shown : IsShown image text contents
    are : AreNamed image
    home : AllByRecursion (IsHome (length text) place (length contents)) image.relocs

  far_enough : 0x1000 + length text ≤ place
  far_enough = omega arith

  its_symbols : object.symbols ≡ map (symbol_of ls) names
  unfolding object_in
  its_symbols = refl

  module _ (s : Shows) where
    code_long : length object.code ≡ length text
    unfolding object_in
    code_long = (code_agrees image text contents s.shown).long

    -- where its data stand
    its_home : alone.home.contents ≡ place
    its_home = ap (λ n. rounded 0x1000 (0x1000 + n)) code_long

    -- each label stands in its place
    label_stands : (y : ℕ) → IsLabelled image y → LabelStands ls alone y
    label_stands y here =
        let in_code : Within 0x1000 (length text) y → LabelStands ls alone y = λ w.
        stands_at ls alone false 0x1000 y (text_placed image text contents s.shown y here w.0 w.1) refl in
        let in_data : Within place (length contents) y → LabelStands ls alone y = λ w.
        stands_at ls alone true place y (data_placed image text contents s.shown y here w.0 w.1) its_home in
        ⊎_elim
        (λ same. in_code (omega (arith, same), omega (arith, same)))
        (λ there. ⊎_elim in_code in_data (section_inside image b bs contents s.sections y there))
        (label_inside image y here)

    target_stands : (r : ℕ) → Contains image.relocs r → LabelStands ls alone (named_place image r) × (named_place image r < 2 ^ 32)
    target_stands r there =
        let here = list_any_at (nat_eq r) image.relocs there.0 r there.1 (eq-eqb r (get_or image.relocs there.0 r) (sym there.2)) in
        let is : named image r ≡ Some (named_place image r) = named_some image r s.are here in (
          label_stands (named_place image r) (target_labelled image r (named_place image r) here is),
          s.shown.low (named_place image r) (named_inside image r (named_place image r) is),
        )

    -- ---- its fixups are those of its relocations

    its_fixups : object.fixups ≡ its_own false ++ its_own true
    unfolding object_in
    its_fixups =
        let first : fixups_in false start names ls ≡ its_own false =
        code_fixups image text contents s.shown names s.are (are_whole image (length text) place (length contents) far_enough s.home).0
        ∙ map_twice (fixup_at false 0x1000 names) (with_target image) (own_relocs false) in
        let second : fixups_in true start names ls ≡ its_own true =
        contents_fixups image text contents s.shown names s.are (are_whole image (length text) place (length contents) far_enough s.home).1
        ∙ map_twice (fixup_at true place names) (with_target image) (own_relocs true) in
        rw (first, second) refl

    -- a relocation with a byte of a section lies in it
    lies_at : (d : Bool) (r i : ℕ) → Contains image.relocs r → i < length (part d) → is_of (from d + i) r ≡ true → Lies d r
    lies_at d r i there low has = by d low has
        (All-contains (IsHome (length text) place (length contents)) image.relocs r (All-from_recursion _ image.relocs s.home) there)
      where
        by : (d : Bool) → i < length (part d) → is_of (from d + i) r ≡ true → IsHome (length text) place (length contents) r → Lies d r
        by false low has (inl a) = a
        by false low has (inr a) = absurd (grind (arith, nat_tests, far_enough))
        by true low has (inl a) = absurd (grind (arith, nat_tests, far_enough))
        by true low has (inr a) = a

    -- The relocation of a fixup.
    record IsOf (f : Fixup) : Type 0 where
      d : Bool
      r : ℕ
      there : Contains image.relocs r
      lies : Lies d r
      is : fixup d r ≡ f

    of_fixup : (f : Fixup) → Contains object.fixups f → IsOf f
    of_fixup f has =
        ⊎_elim (by false) (by true) (Contains-append_cases (its_own false) (its_own true) f (subst (λ fs. Contains fs f) its_fixups has))
      where
        by : (d : Bool) → Contains (its_own d) f → IsOf f
        by d here =
            let (r, kept_, is) = was_mapped (fixup d) (own_relocs d) f here in
            let (there, passes) = was_kept (in_range (from d) (length (part d))) image.relocs r kept_ in
            let low : r - from d < length (part d) = grind (arith, nat_tests) in
            let has_ : is_of (from d + (r - from d)) r ≡ true = grind (arith, nat_tests) in
            record { d = d; r = r; there = there; lies = lies_at d r (r - from d) there low has_; is = is }

    to_fixup : (d : Bool) (r : ℕ) → Contains image.relocs r → Lies d r → Contains object.fixups (fixup d r)
    to_fixup d r there lies = rw its_fixups (by d here)
      where
        passes : in_range (from d) (length (part d)) r ≡ true
        passes = grind (arith, nat_tests)

        here : Contains (its_own d) (fixup d r)
        here = mapped (fixup d) (own_relocs d) r (kept (in_range (from d) (length (part d))) image.relocs r there passes)

        by : (e : Bool) → Contains (its_own e) (fixup d r) → Contains (its_own false ++ its_own true) (fixup d r)
        by false = Contains-append_left (its_own false) (its_own true) (fixup d r)
        by true = Contains-append_right (its_own false) (its_own true) (fixup d r)

    -- ---- it is an object

    names_are_labels : AllByRecursion (IsLabel image) names
    names_are_labels =
        names_are image [] (all_lines image text contents) tt
        (all_of_lines image text contents s.shown (λ l. IfSome (place_in_line l) (IsLabelled image)) tt tt (λ code l h. h.place))

    its_size : IsObject object
    its_size =
        let parted = relocs_parted (length text) place (length contents) image.relocs far_enough s.are.ascend s.home in
        let relocs = count_relocs (length text) place (length contents) image.relocs far_enough s.are.ascend s.home in
        let named_ = few_apart names (map label_text (labels image)) (apart_in [] ls tt) (each_of (IsLabel image)
        (λ n. is_named n (map label_text (labels image)) ≡ true) names
        (λ n is. rw (is.is) (label_among is.place (labels image) is.labelled)) names_are_labels) in
        let count = simp (length-append, length-map) at (ap length its_fixups) in
        let symbols = simp length-map at (ap length its_symbols) in
        counted (listing_of image) object (listing_object image b bs contents s.sections s.shown)
        (omega (arith, symbols, simp length-map at named_, labels_few image, relocs))
        (omega (arith, count, simp length-append at (ap length parted), relocs))

    -- ---- its sections, with its fixups filled in

    agrees : (d : Bool) → Agree image (from d) (own_bytes alone (section_kind d)) (part d)
    unfolding object_in
    agrees false = code_agrees image text contents s.shown
    agrees true = contents_agree image text contents s.shown

    image_byte : (d : Bool) (i : ℕ) → i < length (part d) → laid image.sections (from d + i) ≡ get_or (part d) i 0
    image_byte false i low = ap (λ (ss : List Section). laid ss (0x1000 + i)) s.sections ∙ laid_code text contents i low
    image_byte true i low = ap (λ (ss : List Section). laid ss (place + i)) s.sections ∙ laid_data text contents i low

    module _ (base : ℕ) (ds : List Definition) (same : base ≡ image.base) (d : Bool) where
      abbrev filled : List ℕ
      filled = filled_section (section_kind d) base ds alone

      -- a byte of a relocation
      byte_of_reloc : (r i : ℕ) → Contains image.relocs r → Lies d r → i < length (part d) → is_of (from d + i) r ≡ true
          → get_or filled i 0 ≡ get_or (part d) i 0
      unfolding named_place
      byte_of_reloc r i there lies within has =
          let f : Fixup = fixup d r in
          let j : ℕ = i - (r - from d) in
          let n : ℕ = little_endian (laid image.sections) r 8 in
          let st = target_stands r there in
          let few : j < 8 = grind (arith, nat_tests) in
          let at : r - from d + j ≡ i = grind (arith, nat_tests) in
          let place_ : r + j ≡ from d + i = omega (arith, lies.0, at) in
          let low : n < 2 ^ 64 = omega (arith, little_endian-below (laid image.sections) r 8 s.bytes) in
          let named_ : named_place image r ≡ distance_of n base = ap (distance_of n) (sym same) in
          let address : base + named_place image r ≡ n = omega (arith, low, s.small, same, named_, st.1) in
          let spelled = bytes_are base (places_of ds alone) alone f n (named_place image r) refl
          (target_is ds alone ls f (named_place image r) its_symbols refl st.0) address low in
          ap (λ k. get_or filled k 0) (sym at)
          ∙ (fixup_byte (section_kind d) base ds alone f j its_size (to_fixup d r there lies) refl few
          ∙ (ap (λ bs. get_or bs j 0) spelled ∙ (get_or-to_le_bytes n j few ∙ (byte_of (laid image.sections) r 8 j s.bytes few
          ∙ (ap (laid image.sections) place_ ∙ image_byte d i within)))))

      -- and one of none
      unmoved : (i : ℕ) → i < length (part d) → list_any (fills (section_kind d) i) object.fixups ≡ false
          → is_free image (from d + i) ≡ true
      unmoved i low none =
          all_pass (λ r. not (is_of (from d + i) r)) image.relocs (recursion_from_All _ image.relocs
          (All-weaker (Contains image.relocs) (λ r. not (is_of (from d + i) r) ≡ true) each image.relocs
          (All-contains_itself image.relocs)))
        where
          each : (r : ℕ) → Contains image.relocs r → not (is_of (from d + i) r) ≡ true
          each r there = ⊎_elim
              (λ yes.
              let fails = All-contains (λ f. fills (section_kind d) i f ≡ false) object.fixups (fixup d r)
              (All-from_recursion _ object.fixups (fails_of (fills (section_kind d) i) object.fixups none))
              (to_fixup d r there (lies_at d r i there low yes)) in
              absurd (grind (arith, nat_tests, fails)))
              (λ no. ap not no) (cases_Bool (is_of (from d + i) r))

      section_again : filled ≡ part d
      section_again =
          let long = length-filled (section_kind d) base ds alone its_size ∙ (agrees d).long in
          ext_get_or 0 filled (part d) long (λ i low. by i (omega (arith, low, long)))
        where
          by : (i : ℕ) → i < length (part d) → get_or filled i 0 ≡ get_or (part d) i 0
          by i low = ⊎_elim
              (λ some.
              let (k, f, within, at, fill) = Any-from_list_any (fills (section_kind d) i) object.fixups some in
              let it = of_fixup f (k, within, at) in
              let Fills : Fixup → Type 0 = λ g. fills (section_kind d) i g ≡ true in
              let here : Fills (fixup it.d it.r) = subst Fills (sym it.is) fill in
              let e : it.d ≡ d = one_kind it.d d (grind (arith, nat_tests)) in
              let lies : Lies d it.r = subst (λ c. Lies c it.r) e it.lies in
              let fill_ : Fills (fixup d it.r) = subst (λ c. Fills (fixup c it.r)) e here in
              byte_of_reloc it.r i it.there lies low (grind (arith, nat_tests)))
              (λ none. own_byte (section_kind d) base ds alone i its_size none ∙ (agrees d).same i low (unmoved i low none))
              (cases_Bool (list_any (fills (section_kind d) i) object.fixups))

    -- ---- its relocations are those of the image

    place_back : (d : Bool) (r : ℕ) → Lies d r → place_of alone.home (fixup d r) ≡ r
    place_back false r lies = omega (arith, lies.0)
    place_back true r lies = let at : place + (r - place) ≡ r = omega (arith, lies.0) in ap (λ p. p + (r - place)) its_home ∙ at

    address_back : (x : ℕ) → IsAddress (alone ∷ []) x → Contains image.relocs x
    address_back x (l, f, one, has, five, is) =
        head_or_later (Contains image.relocs x) alone [] l one
        (λ same.
        let it = of_fixup f (subst (λ (k : Laid). Contains k.object.fixups f) (sym same) has) in
        let back = ap (place_of alone.home) (sym it.is) ∙ place_back it.d it.r it.lies in
        subst (Contains image.relocs) (sym (is ∙ (ap (λ (k : Laid). place_of k.home f) (sym same) ∙ back))) it.there)
        (nowhere (Contains image.relocs x) l)

    address_of : (x : ℕ) → Contains image.relocs x → IsAddress (alone ∷ []) x
    address_of x there = ⊎_elim (by false) (by true)
        (All-contains (IsHome (length text) place (length contents)) image.relocs x (All-from_recursion _ image.relocs s.home) there)
      where
        by : (d : Bool) → Lies d x → IsAddress (alone ∷ []) x
        by d lies = (alone, fixup d x, first_of_all [] alone, to_fixup d x there lies, refl, sym (place_back d x lies))

    relocs_again : relocs_of (alone ∷ []) ≡ image.relocs
    relocs_again =
        let objects : (l : Laid) → Contains (alone ∷ []) l → IsObject l.object = λ l one.
        head_or_later (IsObject l.object) alone [] l one (λ same. subst (λ (k : Laid). IsObject k.object) same its_size)
        (nowhere (IsObject l.object) l) in
        one_ascending (relocs_of (alone ∷ [])) image.relocs
        (subst (λ ms. AllPairs IsBelow (relocs_of ms)) (sole_laid object)
        (relocs_apart (object ∷ []) (All-cons IsObject object [] its_size (All-nil IsObject))))
        s.linked.apart
        (λ x. (λ there. address_back x (is_there (alone ∷ []) x there), λ there. was_there (alone ∷ []) objects x (address_of x there)))

    -- ---- no fault comes of it

    names_stand : AllByRecursion (λ n. nat_eq (symbol_of ls n).kind 0 ≡ false) names
    names_stand =
        each_of (IsLabel image) (λ n. nat_eq (symbol_of ls n).kind 0 ≡ false) names
        (λ n is. subst (λ m. nat_eq (symbol_of ls m).kind 0 ≡ false) (sym is.is) (label_stands is.place is.labelled).there)
        names_are_labels

    all_addresses : AllByRecursion (λ (f : Fixup). f.kind ≡ 5) object.fixups
    all_addresses =
        recursion_from_All _ object.fixups (All-weaker (Contains object.fixups) (λ (f : Fixup). f.kind ≡ 5)
        (λ f has. ap (λ (g : Fixup). g.kind) (sym (of_fixup f has).is)) object.fixups (All-contains_itself object.fixups))

    entry_placed : IsPlaced ls false 0x1000 image.entry
    entry_placed = text_placed image text contents s.shown image.entry (entry_labelled image) s.shown.entry_from s.shown.entry_to

    entry_symbol : IsEntrySymbol object (symbol_of ls (label_text image.entry))
    entry_symbol =
        record {
          global = ap flag (entry_global image text contents s.shown);
          kind = entry_placed.kind;
          even = omega (arith, entry_placed.offset, s.linked.even);
          within = omega (arith, entry_placed.offset, s.shown.entry_to, code_long);
        }

    -- ---- it is linked to the image

    its_image : (plan : LinkPlan) → plan.base ≡ image.base → plan.subsystem ≡ image.subsystem → plan.entry ≡ label_text image.entry
        → links (object ∷ []) plan ≡ Ok image
    unfolding links
    its_image plan base subsystem entry =
        let name : List ℕ = label_text image.entry in
        let ds : List Definition = definitions (alone ∷ []) in
        let found = sole_entry alone (symbol_of ls) name names its_symbols (λ n. refl) entry_placed.known (same_bytes name) entry_symbol in
        let again = image_again plan object image text contents base subsystem s.sections s.linked.size
        (section_again plan.base ds base false) (section_again plan.base ds base true) relocs_again in
        ap (λ ms. links_laid plan ms (contents_start (object ∷ []))) (sole_laid object)
        ∙ (ends_linked plan (alone ∷ []) (contents_start (object ∷ [])) image.entry (record {
          twice = sole_twice object alone (symbol_of ls) names its_symbols (λ n. refl) (apart_in [] ls tt);
          undefined = sole_undefined ds object alone (symbol_of ls) names its_symbols names_stand;
        })
        (sole_far ds alone all_addresses) (ap (λ n. first_in (entry_in n) (alone ∷ [])) entry ∙ (found ∙ ap Some entry_placed.offset))
        (rw again s.linked.small) ∙ ap Ok again)

-- ---- the law

shows : (image : Image) (l : IsListable image) (b : ℕ) (bs : List ℕ) → l.text ≡ b ∷ bs → Shows image b bs l.contents
shows image l b bs e =
    let is : image.sections ≡ linked_sections (b ∷ bs) l.contents = l.sections ∙ ap (λ t. linked_sections t l.contents) e in
    let few : length (b ∷ bs) ≤ 2 ^ 20 = subst (λ t. length t ≤ 2 ^ 20) e l.text_size in
    let each = subst (λ (ss : List Section). (y : ℕ) → laid ss y < 256) is l.bytes in
    record {
      sections = is;
      linked = l.linked;
      small = l.base_small;
      bytes = l.bytes;
      shown = record {
        text_bytes = code_bytes (b ∷ bs) l.contents each;
        contents_bytes = contents_bytes (b ∷ bs) l.contents each;
        text_small = few;
        contents_small = l.contents_size;
        low = are_low image b bs l.contents is l.base_small few l.contents_size;
        uncut = recursion_from_All (λ r. is_cut image r 8 ≡ false) image.relocs l.uncut;
        entry_from = l.entry.0;
        entry_to = subst (λ t. image.entry < 0x1000 + length t) e l.entry.1;
      };
      are = are_named image l.named l.linked.apart;
      home = homes image b bs l.contents is l.base_small few l.contents_size l.named l.linked.relocated;
    }

-- Listings are linked to their images again.
pub lists_again : ListsAgain
lists_again image l = by l.text refl
  where
    by : (text : List ℕ) → l.text ≡ text → (o : Object) × (object_of (listing_of image) ≡ Ok o) × IsObject o
        × ((plan : LinkPlan) → plan.base ≡ image.base → plan.subsystem ≡ image.subsystem → plan.entry ≡ label_text image.entry
        → links (o ∷ []) plan ≡ Ok image)
    by [] e = let none = ap length e in absurd (omega (arith, none))
    by (b ∷ bs) e =
        let s : Shows image b bs l.contents = shows image l b bs e in (
          object image b bs l.contents,
          listing_object image b bs l.contents s.sections s.shown,
          its_size image b bs l.contents s,
          its_image image b bs l.contents s,
        )

-- a plan with the base, the subsystem and the entry of an image
pub record IsPlanOf (image : Image) (plan : LinkPlan) : Type 0 where
  pub base : plan.base ≡ image.base
  pub subsystem : plan.subsystem ≡ image.subsystem
  pub entry : plan.entry ≡ label_text image.entry

-- the object of an image's listing, whichever it is
pub record IsListed (image : Image) (o : Object) : Type 0 where
  pub object : IsObject o
  pub again : (plan : LinkPlan) → IsPlanOf image plan → links (o ∷ []) plan ≡ Ok image

pub is_listed : (image : Image) (source : List ℕ) (o : Object) → IsListable image → source ≡ listing_of image → object_of source ≡ Ok o
    → IsListed image o
is_listed image source o listable same is =
    let law = lists_again image listable in
    let one : law.0 ≡ o = let both : Ok law.0 ≡ Ok o = sym law.1 ∙ (ap object_of (sym same) ∙ is) in cc in
    subst (IsListed image) one (record {
      object = law.2;
      again = λ plan p. law.3 plan p.base p.subsystem p.entry;
    })

-- an object alone
pub all_one : (os : List Object) (o : Object) → os ≡ o ∷ [] → IsObject o → All IsObject os
all_one os o is object = rw is (λ k d short. let first : k ≡ 0 = omega (arith, short) in rw first object)

-- the file of what it is linked to
pub same_file : (image again : Image) (o : Object) (os : List Object) (plan : LinkPlan) (file : List ℕ) → IsListed image o → os ≡ o ∷ []
    → IsPlanOf image plan → links os plan ≡ Ok again → file ≡ file_of again → file ≡ file_of image
same_file image again o os plan file its is planned linked written =
    let same : again ≡ image =
    let both : Ok again ≡ Ok image = sym linked ∙ (ap (λ xs. links xs plan) is ∙ its.again plan planned) in cc
    in
    written ∙ ap file_of same
