-- The places of addresses ascend, each in its section.
use Rattle.ebc_link.proofs.Common.{true, nat_tests, own_bytes, ◌≡◌, ℕ, ◌+◌, ◌<◌, ◌≤◌, List, [], ◌∷◌, ◌++◌, length, get_or, ap, ◌∙◌, arith}
use Rattle.ebc_link.proofs.Common.{length-append, All, AllPairs, filter, flat_map, get_or-append_right, get_or-map, get_or_append_left}
use Rattle.ebc_link.proofs.Common.{length-map, All-append, All-filter, All-head, All-nil, All-tail, filter_passes, AllPairs-filter}
use Rattle.ebc_link.proofs.Common.{EndsBefore, IsFixup, IsObject, section_bytes, Fixup, Object, IsBelow, Home, Laid, code_end, code_start}
use Rattle.ebc_link.proofs.Common.{contents_end, contents_start, laid_objects, start_of, is_address, place_of, relocs_in, relocs_of}
use Rattle.ebc_link.proofs.StandLaws.{Chain, chain_grows, laid_are, code_laid, contents_laid, code_grows, contents_grow}
use Rattle.ebc_link.proofs.LaidLaws.{laid_at}

-- ---- places between two others

-- Eight bytes at each of these places lie between two places, and share no byte.
pub record IsRun (low high : ℕ) (places : List ℕ) : Type 0 where
  pub within : All (λ p. (low ≤ p) × (p + 8 ≤ high)) places
  pub apart : AllPairs IsBelow places

pub run_none : (low high : ℕ) → IsRun low high []
run_none low high =
    record {
      within = All-nil (λ p. (low ≤ p) × (p + 8 ≤ high));
      apart = λ i j d before inside. absurd (omega (arith, inside));
    }

wider : (low high a b : ℕ) (places : List ℕ) → a ≤ low → high ≤ b → IsRun low high places → IsRun a b places
wider low high a b places lower higher run = record { within = λ i d inside. grind (arith, run.within i d inside); apart = run.apart }

-- places of one run before those of another
apart_append : (xs ys : List ℕ) → AllPairs IsBelow xs → AllPairs IsBelow ys
    → ((i j d : ℕ) → i < length xs → j < length ys → get_or xs i d + 8 ≤ get_or ys j d) → AllPairs IsBelow (xs ++ ys)
apart_append xs ys first second between i j d before inside =
    grind (arith, get_or_append_left, get_or-append_right, length-append {A = ℕ})

pub run_append : (low mid high : ℕ) (xs ys : List ℕ) → low ≤ mid → mid ≤ high → IsRun low mid xs → IsRun mid high ys
    → IsRun low high (xs ++ ys)
run_append low mid high xs ys lower higher first second =
    record {
      within = All-append (λ p. (low ≤ p) × (p + 8 ≤ high)) xs ys (wider low mid low high xs (omega arith) higher first).within
          (wider mid high low high ys lower (omega arith) second).within;
      apart = apart_append xs ys first.apart second.apart
          (λ i j d inside within.
          omega (arith, (first.within i d inside).1, (second.within j d within).0));
    }

-- ---- the places of one object

no_fixup : Fixup
no_fixup = record { section = 0; kind = 0; offset = 0; symbol = 0; from = 0 }

-- an address of a section of an object, with what the object says of it
address_at : (o : Object) (h : Home) (section i e : ℕ) → IsObject o → i < length (relocs_in section (laid_at o h))
    → (get_or (relocs_in section (laid_at o h)) i e
    ≡ start_of h section + (get_or (filter (is_address section) o.fixups) i no_fixup).offset)
    × ((get_or (filter (is_address section) o.fixups) i no_fixup).kind ≡ 5)
    × ((get_or (filter (is_address section) o.fixups) i no_fixup).section ≡ section)
    × ((get_or (filter (is_address section) o.fixups) i no_fixup).offset + 8 ≤ length (section_bytes o.code o.contents section))
address_at o h section i e object inside =
    let fs : List Fixup = filter (is_address section) o.fixups in
    let within : i < length fs = omega (arith, inside, length-map fs (place_of h)) in
    let f : Fixup = get_or fs i no_fixup in
    let fixup = All-filter (is_address section) (IsFixup o.code o.contents (length o.symbols)) o.fixups object.fixups i no_fixup within in
    let passes : is_address section f ≡ true = filter_passes (is_address section) o.fixups i no_fixup within in
    let kind : f.kind ≡ 5 = grind (arith, nat_tests) in
    let is : f.section ≡ section = grind (arith, nat_tests) in
    (get_or-map (place_of h) fs i no_fixup e within ∙ ap (λ s. start_of h s + f.offset) is, kind, is, grind (arith, fixup.within))

pub run_in : (o : Object) (h : Home) (section : ℕ) → IsObject o
    → IsRun (start_of h section) (start_of h section + length (section_bytes o.code o.contents section)) (relocs_in section (laid_at o h))
run_in o h section object =
    let fs : List Fixup = filter (is_address section) o.fixups in
    record {
      within = λ i d inside.
          let at = address_at o h section i d object inside in (omega (arith, at.0), omega (arith, at.0, at.3));
      apart = λ i j d before inside.
          let one = address_at o h section i d object (omega (arith, before, inside)) in
          let two = address_at o h section j d object inside in
          let within : j < length fs = omega (arith, inside, length-map fs (place_of h)) in
          let ends : EndsBefore (get_or fs i no_fixup) (get_or fs j no_fixup) =
          AllPairs-filter EndsBefore (is_address section) o.fixups object.ascend i j no_fixup before within in
          grind (arith, one.0, one.1, one.2, two.0, two.2);
    }

-- ---- the places of all objects

pub run_by : (section from to : ℕ) (ls : List Laid) → All (λ (l : Laid). IsObject l.object) ls → Chain section from ls to
    → IsRun from to (flat_map (relocs_in section) ls)
run_by section from to [] all chain = run_none from to
run_by section from to (l ∷ ls) all chain =
    let Has = λ (m : Laid). IsObject m.object in
    let start : ℕ = start_of l.home section in
    let end : ℕ = start + length (own_bytes l section) in
    run_append from end to (relocs_in section l) (flat_map (relocs_in section) ls) (omega (arith, chain.0))
    (chain_grows section end to ls chain.1)
    (wider start end from end (relocs_in section l) chain.0 (omega arith) (run_in l.object l.home section (All-head Has l ls all)))
    (run_by section end to ls (All-tail Has l ls all) chain.1)

-- the places of addresses share no byte
pub relocs_apart : (objects : List Object) → All IsObject objects → AllPairs IsBelow (relocs_of (laid_objects objects))
unfolding relocs_of contents_start
relocs_apart objects all =
    let start : ℕ = contents_start objects in
    let end : ℕ = code_end code_start objects in
    let ls : List Laid = laid_objects objects in
    (run_append code_start start (contents_end start objects) (flat_map (relocs_in 1) ls) (flat_map (relocs_in 2) ls)
    (omega (arith, code_grows code_start objects)) (contents_grow start objects)
    (wider code_start end code_start start (flat_map (relocs_in 1) ls) (omega arith) (omega arith)
    (run_by 1 code_start end ls (laid_are objects all) (code_laid objects)))
    (run_by 2 start (contents_end start objects) ls (laid_are objects all) (contents_laid objects))).apart
