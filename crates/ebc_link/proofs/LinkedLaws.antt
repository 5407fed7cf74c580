-- What objects are linked to is a linked image.
use Rattle.ebc_link.proofs.Common.{nat_tests, ◌≡◌, ◌≢◌, ℕ, ◌+◌, ◌^◌, ◌<◌, ◌≤◌, Bool, true, not, List, length, get_or, None, Some, Ok, refl}
use Rattle.ebc_link.proofs.Common.{sym, ap, subst, ◌∙◌, arith, All, slice_get, Contains, find, not-false, All-contains, little_endian}
use Rattle.ebc_link.proofs.Common.{IsFixup, IsObject, width, Fixup, Object, Symbol, most, laid, linked_sections, Image, LinkPlan, IsPlan}
use Rattle.ebc_link.proofs.Common.{Laid, code_end, code_start, contents_end, contents_start, laid_objects, place_in, Definition}
use Rattle.ebc_link.proofs.Common.{definitions, first_in, is_definition, places_of, symbol_place, contents_of, far_in, is_near, place_of}
use Rattle.ebc_link.proofs.Common.{target_of, StandsAt, other, own, entry_in, links}
use Rattle.ebc_link.proofs.{StandLaws.laid_inside, StandLaws.object_of_laid, StandLaws.Stands, StandLaws.code_small}
use Rattle.ebc_link.proofs.{StandLaws.contents_small, FoundLaws.entry_is, FoundLaws.first_nowhere, HoldLaws.contents_in, HoldLaws.holds}
use Rattle.ebc_link.proofs.{HoldLaws.is_there, HoldLaws.spelled_there, HoldLaws.text_of, HoldLaws.was_there, HoldLaws.with_flags}
use Rattle.ebc_link.proofs.{ImageLaws.contents_ends, ImageLaws.linked_layout, ImageLaws.text_ends, LinkLaws.AreResolved, LinkLaws.made}
use Rattle.ebc_link.proofs.{OwnLaws.code_byte, OwnLaws.contents_byte, OwnLaws.own_byte, OwnLaws.zero_between, SymbolLaws.find_nowhere}
use Rattle.ebc_link.proofs.{SymbolLaws.none_mapped, SymbolLaws.stands_at, SymbolLaws.target_is}
use Rattle.std.proofs.lemmas.Option.{gets}
use Rattle.ebc_base.proofs.Lists.{within_some}
use Rattle.ebc_object.specs.Objects.{IsSymbol}
use Rattle.ebc_link.specs.{Layout.contents_from, Layout.text_from, Fixups.code_of, Linked.IsFilled, Linked.Linked, Links.linked_image}

-- ---- places are small

-- a place in the code or the data of an object
own_small : (objects : List Object) (m : Laid) (t : Symbol) → All IsObject objects → length objects ≤ 256 → t.kind ≢ 0
    → IsObject m.object
    → Stands code_start (contents_start objects) (code_end code_start objects) (contents_end (contents_start objects) objects) m
    → Contains m.object.symbols t → place_in m.home t.kind t.offset < 2 ^ 32
unfolding contents_start
own_small objects m t all few defined object at has =
    let symbol = All-contains (IsSymbol m.object.code m.object.contents) m.object.symbols t object.symbols has in
    let code = code_small code_start objects all in
    let contents = contents_small (contents_start objects) objects all in
    grind (arith, nat_tests)

is_own : (t : Symbol) → is_definition t ≡ true → t.kind ≢ 0
is_own t defines = grind (arith, nat_tests)

place_small : (objects : List Object) (l : Laid) (s : Symbol) (place : ℕ) → All IsObject objects → length objects ≤ 256
    → Contains (laid_objects objects) l → Contains l.object.symbols s → StandsAt (laid_objects objects) l s place → place < 2 ^ 32
place_small objects l s place all few there has (own kind is) =
    subst (λ p. p < 2 ^ 32) (sym is)
    (own_small objects l s all few kind (object_of_laid objects l all there) (laid_inside objects l there) has)
place_small objects l s place all few there has (other kind m t in_it has_it defines named is) =
    subst (λ p. p < 2 ^ 32) (sym is)
    (own_small objects m t all few (is_own t defines) (object_of_laid objects m all in_it) (laid_inside objects m in_it)
    has_it)

-- ---- a fixup

filled : (base : ℕ) (objects : List Object) (image : Image) (l : Laid) (f : Fixup) → All IsObject objects → length objects ≤ 256
    → base < 2 ^ 32 → AreResolved (laid_objects objects)
    → first_in (far_in (definitions (laid_objects objects))) (laid_objects objects) ≡ None
    → image.sections ≡ linked_sections (text_from (code_of base (definitions (laid_objects objects))) code_start (laid_objects objects))
    (contents_from (contents_of base (definitions (laid_objects objects))) (contents_start objects) (laid_objects objects))
    → Contains (laid_objects objects) l → Contains l.object.fixups f → IsFilled base image (laid_objects objects) l f
filled base objects image l f all few low resolved near sections there has =
    let ls : List Laid = laid_objects objects in
    let ds : List Definition = definitions ls in
    let object = object_of_laid objects l all there in
    let fixup = All-contains (IsFixup l.object.code l.object.contents (length l.object.symbols)) l.object.fixups f object.fixups has in
    let symbol = within_some l.object.symbols f.symbol fixup.symbol in
    let s : Symbol = symbol.0 in
    let at : s ≡ get_or l.object.symbols f.symbol s = got l.object.symbols f.symbol s symbol.1 in
    let in_it : Contains l.object.symbols s = (f.symbol, fixup.symbol, sym at) in
    let target = target_is ds l f s fixup.symbol at in
    let stands = stands_at ls l s there in_it resolved.undefined in
    let small = place_small objects l s (symbol_place ds l.home s) all few there in_it stands in
    let none : far_in ds l ≡ None = first_nowhere (far_in ds) ls l near there in
    let is_far : (g : Fixup) → Bool = λ (g : Fixup). not (is_near (places_of ds l) l.home g) in
    let not_far = find_nowhere is_far l.object.fixups f (none_mapped (place_of l.home) (find is_far l.object.fixups) none) has in (
      s,
      target_of (places_of ds l) f,
      symbol.1,
      subst (StandsAt ls l s) (sym target) stands,
      holds base image l f (places_of ds l) fixup.kind.0 fixup.kind.1 (not-false (is_near (places_of ds l) l.home f) not_far)
          (omega (arith, target, small, low))
          (ap (λ ss. little_endian (laid ss) (place_of l.home f) (width f.kind)) sections
          ∙ spelled_there base ds objects all l f there object has),
    )
  where
    got : (xs : List Symbol) (k : ℕ) (x : Symbol) → slice_get xs k ≡ Some x → x ≡ get_or xs k x
    got xs k x e = grind (arith, gets)

-- ---- all

pub is_linked : (objects : List Object) (plan : LinkPlan) (image : Image) → All IsObject objects → length objects ≤ 256 → IsPlan plan
    → links objects plan ≡ Ok image → Linked objects plan image
unfolding links linked_image
is_linked objects plan image all few is_plan e =
    let m = made plan (laid_objects objects) (contents_start objects) image e in
    subst (Linked objects plan) (sym m.is) (of_made m.place m.resolved m.near m.enters m.small)
  where
    of_made : (x : ℕ) → AreResolved (laid_objects objects)
        → first_in (far_in (definitions (laid_objects objects))) (laid_objects objects) ≡ None
        → first_in (entry_in plan.entry) (laid_objects objects) ≡ Some x
        → (linked_image plan (definitions (laid_objects objects)) (laid_objects objects) (contents_start objects) x).size ≤ most
        → Linked objects plan (linked_image plan (definitions (laid_objects objects)) (laid_objects objects) (contents_start objects) x)
    of_made x resolved near enters small =
        let base : ℕ = plan.base in
        let ds : List Definition = definitions (laid_objects objects) in
        let text : List ℕ = text_from (code_of base ds) code_start (laid_objects objects) in
        let contents : List ℕ = contents_from (contents_of base ds) (contents_start objects) (laid_objects objects) in
        let entry = entry_is (laid_objects objects) plan.entry x enters in
        record {
          layout = linked_layout objects plan x all is_plan entry small;
          ends = λ t c is.
              let one : text ≡ t = sym (text_of text contents) ∙ (ap (with_flags 0x60000020) is ∙ text_of t c) in
              let two : contents ≡ c = sym (contents_in text contents) ∙ (ap (with_flags 0xC0000040) is ∙ contents_in t c) in (
                ap (λ ts. code_start + length ts) (sym one) ∙ text_ends base ds objects all,
                ap (λ cs. contents_start objects + length cs) (sym two) ∙ contents_ends base ds objects all,
              );
          base = refl;
          subsystem = refl;
          code = λ l there i within none.
              code_byte base ds objects all l i there within ∙ own_byte 1 base ds l i (object_of_laid objects l all there) none;
          contents = λ l there i within none.
              contents_byte base ds objects all l i there within ∙ own_byte 2 base ds l i (object_of_laid objects l all there) none;
          between = zero_between base ds objects all;
          fixups = λ l f there has.
              filled base objects (linked_image plan ds (laid_objects objects) (contents_start objects) x) l f all few is_plan.small
              resolved near refl there has;
          relocs = λ p. (
            is_there (laid_objects objects) p,
            was_there (laid_objects objects) (λ l there. object_of_laid objects l all there) p,
          );
          entry = entry;
        }
