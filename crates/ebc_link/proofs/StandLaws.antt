-- Where objects stand: in order, each behind the ones before.
use Rattle.ebc_link.proofs.Common.{own_bytes, start_of, ArePacked, Contains, All-contains, laid_objects, homes_of, code_start}
use Rattle.ebc_link.proofs.Common.{contents_start, ◌≡◌, ℕ, suc, ◌+◌, ◌-◌, ◌*◌, ◌%◌, ◌≤◌, List, [], ◌∷◌, length, refl, ap, arith}
use Rattle.ebc_link.proofs.Common.{length-append, All, All-cons, All-head, All-nil, All-tail, IsObject, Object, rounded, zeros, Home, Laid}
use Rattle.ebc_link.proofs.Common.{code_end, contents_end, homes_from, laid_with, section_from}
use Rattle.std.proofs.{lemmas.List.length-replicate, lemmas.List.Elements.All-weaker}
use Rattle.ebc_object.specs.Objects.{most}
use Rattle.ebc_link.proofs.LaidLaws.{laid_at}

pub code_grows : (code : ℕ) (os : List Object) → code ≤ code_end code os
unfolding code_end
code_grows code [] = omega arith
code_grows code (o ∷ os) = let later = code_grows (rounded 2 code + length o.code) os in omega (arith, later)

pub contents_grow : (contents : ℕ) (os : List Object) → contents ≤ contents_end contents os
unfolding contents_end
contents_grow contents [] = omega arith
contents_grow contents (o ∷ os) = let later = contents_grow (rounded 8 contents + length o.contents) os in omega (arith, later)

pub code_small : (code : ℕ) (os : List Object) → All IsObject os → code_end code os ≤ code + 1048578 * length os
unfolding code_end
code_small code [] objects = omega arith
code_small code (o ∷ os) objects =
    let later = code_small (rounded 2 code + length o.code) os (All-tail IsObject o os objects) in
    let few : length o.code ≤ most = (All-head IsObject o os objects).code_size in
    omega (arith, later, few)

pub contents_small : (contents : ℕ) (os : List Object) → All IsObject os → contents_end contents os ≤ contents + 1048584 * length os
unfolding contents_end
contents_small contents [] objects = omega arith
contents_small contents (o ∷ os) objects =
    let later = contents_small (rounded 8 contents + length o.contents) os (All-tail IsObject o os objects) in
    let few : length o.contents ≤ most = (All-head IsObject o os objects).contents_size in
    omega (arith, later, few)

pub length-homes : (code contents : ℕ) (os : List Object) → length (homes_from code contents os) ≡ length os
unfolding homes_from
length-homes code contents [] = refl
length-homes code contents (o ∷ os) = ap suc (length-homes (rounded 2 code + length o.code) (rounded 8 contents + length o.contents) os)

-- An object stands between these places, its code at an even one.
pub record Stands (code contents code_last contents_last : ℕ) (l : Laid) : Type 0 where
  pub even : l.home.code % 2 ≡ 0
  pub code_low : code ≤ l.home.code
  pub code_high : l.home.code + length l.object.code ≤ code_last
  pub contents_low : contents ≤ l.home.contents
  pub contents_high : l.home.contents + length l.object.contents ≤ contents_last

pub stands : (code contents : ℕ) (os : List Object)
    → All (Stands code contents (code_end code os) (contents_end contents os)) (laid_with os (homes_from code contents os))
unfolding homes_from code_end contents_end
stands code contents [] = All-nil (Stands code contents (code_end code []) (contents_end contents []))
stands code contents (o ∷ os) =
    let c : ℕ = rounded 2 code + length o.code in
    let d : ℕ = rounded 8 contents + length o.contents in
    let l : Laid = laid_at o (record { code = rounded 2 code; contents = rounded 8 contents }) in
    let Here : Laid → Type 0 = Stands code contents (code_end c os) (contents_end d os) in
    All-cons Here l (laid_with os (homes_from c d os)) (grind (arith, code_grows c os, contents_grow d os))
    (All-weaker (Stands c d (code_end c os) (contents_end d os)) Here (λ m s. grind arith) (laid_with os (homes_from c d os))
    (stands c d os))

-- ---- how long the sections are

-- The code of objects, by number 1, or their data, by 2, stand in their order from a place on, and end at another.
abbrev pub Chain : ℕ → ℕ → List Laid → ℕ → Type 0
Chain section from [] to = from ≡ to
Chain section from (l ∷ ls) to =
    (from ≤ start_of l.home section) × Chain section (start_of l.home section + length (own_bytes l section)) ls to

pub code_chain : (code contents : ℕ) (os : List Object) → Chain 1 code (laid_with os (homes_from code contents os)) (code_end code os)
unfolding homes_from code_end
code_chain code contents [] = refl
code_chain code contents (o ∷ os) =
    (omega arith, code_chain (rounded 2 code + length o.code) (rounded 8 contents + length o.contents) os)

pub contents_chain : (code contents : ℕ) (os : List Object)
    → Chain 2 contents (laid_with os (homes_from code contents os)) (contents_end contents os)
unfolding homes_from contents_end
contents_chain code contents [] = refl
contents_chain code contents (o ∷ os) =
    (omega arith, contents_chain (rounded 2 code + length o.code) (rounded 8 contents + length o.contents) os)

laid_all : (os : List Object) (hs : List Home) → All IsObject os → All (λ (l : Laid). IsObject l.object) (laid_with os hs)
laid_all [] hs all = All-nil (λ (l : Laid). IsObject l.object)
laid_all (o ∷ os) [] all = All-nil (λ (l : Laid). IsObject l.object)
laid_all (o ∷ os) (h ∷ hs) all =
    All-cons (λ (l : Laid). IsObject l.object) (laid_at o h) (laid_with os hs) (All-head IsObject o os all)
    (laid_all os hs (All-tail IsObject o os all))

-- ---- objects that are linked

-- An object stands in the sections.
abbrev pub IsInside : List Object → Laid → Type 0
IsInside objects l =
    Stands code_start (contents_start objects) (code_end code_start objects) (contents_end (contents_start objects) objects) l

pub laid_inside : (objects : List Object) (l : Laid) → Contains (laid_objects objects) l → IsInside objects l
unfolding laid_objects homes_of
laid_inside objects l there =
    All-contains (IsInside objects) (laid_with objects (homes_from code_start (contents_start objects) objects)) l
    (stands code_start (contents_start objects) objects) there

pub laid_are : (objects : List Object) → All IsObject objects → All (λ (l : Laid). IsObject l.object) (laid_objects objects)
unfolding laid_objects
laid_are objects all = laid_all objects (homes_of objects) all

pub object_of_laid : (objects : List Object) (l : Laid) → All IsObject objects → Contains (laid_objects objects) l → IsObject l.object
object_of_laid objects l all there = All-contains (λ (m : Laid). IsObject m.object) (laid_objects objects) l (laid_are objects all) there

pub code_laid : (objects : List Object) → Chain 1 code_start (laid_objects objects) (code_end code_start objects)
unfolding laid_objects homes_of
code_laid objects = code_chain code_start (contents_start objects) objects

pub contents_laid : (objects : List Object)
    → Chain 2 (contents_start objects) (laid_objects objects) (contents_end (contents_start objects) objects)
unfolding laid_objects homes_of
contents_laid objects = contents_chain code_start (contents_start objects) objects

pub chain_grows : (section from to : ℕ) (ls : List Laid) → Chain section from ls to → from ≤ to
chain_grows section from to [] chain = omega arith
chain_grows section from to (l ∷ ls) chain =
    omega (arith, chain.0, chain_grows section (start_of l.home section + length (own_bytes l section)) to ls chain.1)

-- Bytes of objects are as many as those of their sections.
abbrev pub AreLong : ℕ → (Laid → List ℕ) → List Laid → Type 0
AreLong section bytes ls = All (λ (l : Laid). length (bytes l) ≡ length (own_bytes l section)) ls

pub packed_by : (section : ℕ) (bytes : Laid → List ℕ) (from to : ℕ) (ls : List Laid) → AreLong section bytes ls → Chain section from ls to
    → ArePacked section bytes from ls
packed_by section bytes from to [] long chain = tt
packed_by section bytes from to (l ∷ ls) long chain =
    let Long = λ (m : Laid). length (bytes m) ≡ length (own_bytes m section) in
    let behind : ℕ = start_of l.home section + length (own_bytes l section) in
    (chain.0, rw (All-head Long l ls long) (packed_by section bytes behind to ls (All-tail Long l ls long) chain.1))

pub length_by : (section : ℕ) (bytes : Laid → List ℕ) (from to : ℕ) (ls : List Laid) → AreLong section bytes ls → Chain section from ls to
    → from + length (section_from section bytes from ls) ≡ to
unfolding section_from
length_by section bytes from to [] long chain = omega (arith, chain)
length_by section bytes from to (l ∷ ls) long chain =
    let Long = λ (m : Laid). length (bytes m) ≡ length (own_bytes m section) in
    let here = All-head Long l ls long in
    let later = length_by section bytes (start_of l.home section + length (own_bytes l section)) to ls (All-tail Long l ls long) chain.1 in
    let gap : length (zeros (start_of l.home section - from)) ≡ start_of l.home section - from = length-replicate {A = ℕ} _ 0 in
    simp length-append (rw here (omega (arith, chain.0, later, gap)))
