-- What the steps of linking say of the answer.
use Rattle.ebc_link.proofs.Common.{◌≡◌, ℕ, ◌-◌, ◌<◌, ◌≤◌, List, [], length, Option, Some, None, Ok, Err, refl, sym, ap, ap₂, ◌∙◌}
use Rattle.ebc_link.proofs.Common.{arith, All, AllPairs, IsObject, Object, most, IsBelow, Image, LinkEnd, Home, LinkPlan}
use Rattle.ebc_link.proofs.Common.{Resolved, Laid, code_start, contents_start, homes_of, laid_objects, laid_with, Definition, definitions}
use Rattle.ebc_link.proofs.Common.{first_again, first_in, names_of, undefined_in, contents_of, far_in, relocs_of}
use Rattle.ebc_link.proofs.Common.{Entry, Fails, Far, Size, Twice, Undefined, entry_in, links, IsResolved}
use Rattle.ebc_link.proofs.Common.{defined_in, laid_in}
use Rattle.pe_image.specs.Sizes.{IsLinkedSize}
use Rattle.ebc_link.specs.{declared.layout.Bounds.Bounds, Layout.contents_from, Layout.text_from, Fixups.code_of, Links.linked_image}
use Rattle.ebc_link.specs.{Links.links_laid, Walks.IsBounds, Walks.resolution}
use Rattle.ebc_link.proofs.{LinkLaws.AreResolved, LinkLaws.ends_entry, LinkLaws.ends_far, LinkLaws.ends_linked, LinkLaws.ends_size}
use Rattle.ebc_link.proofs.{LinkLaws.unless_ok, EndLaws.fails_two, EndLaws.none_where_ok, ImageLaws.contents_ends}
use Rattle.ebc_link.proofs.{ImageLaws.text_ends, RelocLaws.relocs_apart}
use Rattle.ebc_link.proofs.{StandLaws.length-homes}

-- ---- names with places

pub length-homes_of : (os : List Object) → length (homes_of os) ≡ length os
unfolding homes_of
length-homes_of os = length-homes code_start (contents_start os) os

pub laid_by : (os : List Object) (hs : List Home) → hs ≡ homes_of os → laid_with os hs ≡ laid_objects os
unfolding laid_objects
laid_by os hs is = ap (laid_with os) is

-- ---- the answer

pub ends_resolution : (plan : LinkPlan) (os : List Object) (e : LinkEnd) → Fails e (resolution (laid_objects os)) → Fails e (links os plan)
unfolding links links_laid
ends_resolution plan os e h =
    let ls : List Laid = laid_objects os in
    fails_two Twice Undefined e (first_again [] (names_of (definitions ls))) (first_in (undefined_in (definitions ls)) ls) _ h

-- Objects whose symbols have places, and that nothing fails so far.
pub record IsOf (r : Resolved) (os : List Object) : Type 0 where
  pub laid : laid_in r ≡ laid_objects os
  pub known : defined_in r ≡ definitions (laid_objects os)
  pub sound : AreResolved (laid_objects os)

pub laid_so : (r : Resolved) → IsResolved r → laid_in r ≡ laid_objects r.objects.now
laid_so r resolved = laid_by r.objects.now r.homes.items resolved.stands

pub is_of : (r : Resolved) (os : List Object) → IsResolved r → r.objects.now ≡ os → defined_in r ≡ definitions (laid_objects os)
    → resolution (laid_objects os) ≡ Ok tt → IsOf r os
is_of r os resolved same known passes =
    let once = unless_ok Twice (first_again [] (names_of (definitions (laid_objects os)))) _ tt passes in
    record {
      laid = laid_so r resolved ∙ ap laid_objects same;
      known = known;
      sound = record { twice = once.0; undefined = none_where_ok Undefined _ once.1 };
    }

far_there : {r : Resolved} {os : List Object} (o : Option ℕ) → IsOf r os → o ≡ first_in (far_in (defined_in r)) (laid_in r)
    → first_in (far_in (definitions (laid_objects os))) (laid_objects os) ≡ o
far_there o of is = sym (is ∙ ap₂ (λ ds ls. first_in (far_in ds) ls) of.known of.laid)

entry_there : {r : Resolved} {os : List Object} (name : List ℕ) (o : Option ℕ) → IsOf r os → o ≡ first_in (entry_in name) (laid_in r)
    → first_in (entry_in name) (laid_objects os) ≡ o
entry_there name o of is = sym (is ∙ ap (first_in (entry_in name)) of.laid)

pub told_far : {r : Resolved} {os : List Object} (plan : LinkPlan) (place : ℕ) → IsOf r os
    → Some place ≡ first_in (far_in (defined_in r)) (laid_in r) → links os plan ≡ Err (Far place)
unfolding links
told_far {r} {os} plan place of far =
    ends_far plan (laid_objects os) (contents_start os) place of.sound (far_there (Some place) of far)

pub told_entry : {r : Resolved} {os : List Object} (plan : LinkPlan) → IsOf r os → None ≡ first_in (far_in (defined_in r)) (laid_in r)
    → None ≡ first_in (entry_in plan.entry) (laid_in r) → links os plan ≡ Err Entry
unfolding links
told_entry {r} {os} plan of near entry =
    ends_entry plan (laid_objects os) (contents_start os) of.sound (far_there None of near) (entry_there plan.entry None of entry)

pub relocs_apart_there : {r : Resolved} {os : List Object} (relocs : List ℕ) → All IsObject os → IsOf r os → relocs ≡ relocs_of (laid_in r)
    → AllPairs IsBelow relocs
relocs_apart_there {r} {os} relocs all of places = rw (places, of.laid) (relocs_apart os all)

-- ---- how large the image is, which is that of the objects

module _ {r : Resolved} {os : List Object} (plan : LinkPlan) (b : Bounds) (entry size : ℕ) (relocs : List ℕ) (all : All IsObject os)
    (of : IsOf r os) (bounds : IsBounds os b) (near : None ≡ first_in (far_in (defined_in r)) (laid_in r))
    (enters : Some entry ≡ first_in (entry_in plan.entry) (laid_in r)) (places : relocs ≡ relocs_of (laid_in r))
    (large : IsLinkedSize (b.code_end - 0x1000) (b.contents_end - b.contents_start) relocs size) where
  abbrev its_image : Image
  its_image = linked_image plan (definitions (laid_objects os)) (laid_objects os) (contents_start os) entry

  size_is : its_image.size ≡ size
  unfolding linked_image
  size_is =
      let ds : List Definition = definitions (laid_objects os) in
      let ends = text_ends plan.base ds os all in
      let behind = contents_ends plan.base ds os all in
      large _ (text_from (code_of plan.base ds) code_start (laid_objects os))
      (contents_from (contents_of plan.base ds) (contents_start os) (laid_objects os)) refl (omega (arith, ends, bounds.code_ends))
      (omega (arith, behind, bounds.contents_begin, bounds.contents_end_there)) (sym (places ∙ ap relocs_of of.laid))

  image_there : linked_image plan (defined_in r) (laid_in r) b.contents_start entry ≡ its_image
  image_there = rw (of.known, of.laid, bounds.contents_begin) refl

  pub size_there : size ≡ (linked_image plan (defined_in r) (laid_in r) b.contents_start entry).size
  size_there = sym (ap (λ (i : Image). i.size) image_there ∙ size_is)

  pub told_size : most < size → links os plan ≡ Err Size
  unfolding links
  told_size past =
      ends_size plan (laid_objects os) (contents_start os) entry of.sound (far_there None of near)
      (entry_there plan.entry (Some entry) of enters) (omega (arith, past, size_is))

  pub told_linked : (image : Image) → size ≤ most → image ≡ linked_image plan (defined_in r) (laid_in r) b.contents_start entry
      → links os plan ≡ Ok image
  unfolding links
  told_linked image small is =
      ends_linked plan (laid_objects os) (contents_start os) entry of.sound (far_there None of near)
      (entry_there plan.entry (Some entry) of enters) (omega (arith, small, size_is)) ∙ ap Ok (sym (is ∙ image_there))
