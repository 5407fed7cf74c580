-- What is listed of the code of a section, one item after the other.
use Rattle.std.proofs.Common.{◌≡◌, ℕ, ◌+◌, ◌-◌, ◌<◌, ◌≤◌, zero, suc, List, [], ◌∷◌, ◌++◌, length, drop, refl, ap, sym, ◌∙◌, arith}
use Rattle.std.proofs.Common.{append_assoc, append-nil, get_or, take, length-drop, true, false}
use Rattle.std.specs.List.{flat_map}
use Rattle.std.proofs.lemmas.Grind.{flat_map-append}
use Rattle.std.proofs.lemmas.List.{drop-drop, take_more}
use Rattle.pe_image.specs.declared.image.Image.{Image}
use Rattle.pe_image.specs.declared.image.Section.{Section}
use Rattle.ebc_disasm.specs.declared.code.Item.{Item}
use Rattle.ebc_disasm.specs.CodeItems.{item_of, items_from, section_items}
use Rattle.ebc_disasm.specs.Listings.{bytes_of, has_code, item_at}

-- what is listed before some bytes passes over them
passed : (image : Image) (k x : ℕ) (bytes : List ℕ) → k ≤ length bytes
    → items_from image k x bytes ≡ items_from image 0 (x + k) (drop k bytes)
unfolding items_from
passed image zero x bytes short = let same : x + 0 ≡ x = omega arith in rw same refl
passed image (suc k) x [] short = absurd (omega arith)
passed image (suc k) x (b ∷ bytes) short =
    let same : x + 1 + k ≡ x + suc k = omega arith in
    passed image k (x + 1) bytes (omega arith) ∙ ap (λ y. items_from image 0 y (drop k bytes)) same

-- what is listed at a place stands before what follows it
next_items :
    (image : Image) (x n : ℕ) (bytes : List ℕ) → n ≡ (item_at image true x bytes).1 → 1 ≤ n → n ≤ length bytes →
    items_from image 0 x bytes ≡ item_of x (item_at image true x bytes) ∷ items_from image 0 (x + n) (drop n bytes)
unfolding items_from
next_items image x zero bytes is some short = absurd (omega arith)
next_items image x (suc k) [] is some short = absurd (omega arith)
next_items image x (suc k) (b ∷ bytes) is some short =
    let count : (item_at image true x (b ∷ bytes)).1 - 1 ≡ k = omega (arith, is) in
    let same : x + 1 + k ≡ x + suc k = omega arith in
    ap (λ m. item_of x (item_at image true x (b ∷ bytes)) ∷ items_from image m (x + 1) bytes) count
    ∙ ap (λ is. item_of x (item_at image true x (b ∷ bytes)) ∷ is)
    (passed image k (x + 1) bytes (omega arith) ∙ ap (λ y. items_from image 0 y (drop k bytes)) same)

no_items : (image : Image) (x : ℕ) (bytes : List ℕ) → length bytes ≤ 0 → items_from image 0 x bytes ≡ []
unfolding items_from
no_items image x [] none = refl
no_items image x (b ∷ bytes) none = absurd (omega arith)

-- a section without code has none
pub uncoded : (image : Image) (s : Section) (old : List Item) → has_code s ≡ false → old ≡ old ++ section_items image s
unfolding section_items
uncoded image s old is = rw is (sym (append-nil old))

-- at the start all of a section is to come
pub first_items : (image : Image) (s : Section) (bytes : List ℕ) (old : List Item) → has_code s ≡ true → bytes ≡ bytes_of s →
    old ++ items_from image 0 (s.place + 0) (drop 0 bytes) ≡ old ++ section_items image s
unfolding section_items
first_items image s bytes old is b = let same : s.place + 0 ≡ s.place = omega arith in rw (same, b, is) refl

-- then comes one item after the other
pub more_items :
    (image : Image) (x y n at : ℕ) (bytes rest : List ℕ) (item : Item) (old new whole : List Item) → rest ≡ drop at bytes →
    item ≡ item_of x (item_at image true x rest) → n ≡ (item_at image true x rest).1 → 1 ≤ n → n ≤ length rest → y ≡ x + n →
    new ≡ old ++ item ∷ [] → old ++ items_from image 0 x (drop at bytes) ≡ whole →
    new ++ items_from image 0 y (drop (at + n) bytes) ≡ whole
more_items image x y n at bytes rest item old new whole left this is some short same put before =
    let after : List Item = items_from image 0 (x + n) (drop n rest) in
    let behind : drop (at + n) bytes ≡ drop n rest = sym (drop-drop n at bytes) ∙ ap (λ t. drop n t) (sym left) in
    let follow : items_from image 0 y (drop (at + n) bytes) ≡ after =
    ap (λ z. items_from image 0 z (drop (at + n) bytes)) same ∙ ap (λ t. items_from image 0 (x + n) t) behind
    in
    ap (λ t. t ++ items_from image 0 y (drop (at + n) bytes)) put
    ∙ (ap (λ is. (old ++ item ∷ []) ++ is) follow
    ∙ (append_assoc old (item ∷ []) after
    ∙ (ap (λ i. old ++ i ∷ after) this
    ∙ (ap (λ is. old ++ is) (sym (next_items image x n rest is some short))
    ∙ (ap (λ t. old ++ items_from image 0 x t) left ∙ before)))))

-- and no more at the end
pub last_items :
    (image : Image) (x at : ℕ) (bytes : List ℕ) (old whole : List Item) → length bytes ≤ at →
    old ++ items_from image 0 x (drop at bytes) ≡ whole → old ≡ whole
last_items image x at bytes old whole past before =
    let none : length (drop at bytes) ≤ 0 = omega (arith, length-drop at bytes) in
    let no : items_from image 0 x (drop at bytes) ≡ [] = no_items image x (drop at bytes) none in
    sym (append-nil old) ∙ (ap (λ is. old ++ is) (sym no) ∙ before)

-- the items of one section more
pub more_sections :
    (image : Image) (sections : List Section) (i : ℕ) (s : Section) (old new : List Item) → i < length sections → s ≡ get_or sections i s →
    old ≡ flat_map (section_items image) (take i sections) → new ≡ old ++ section_items image s →
    new ≡ flat_map (section_items image) (take (i + 1) sections)
more_sections image sections i s old new short is before put =
    let f : Section → List Item = section_items image in
    let one : take (i + 1) sections ≡ take i sections ++ s ∷ [] = take_more sections i s short
    ∙ ap (λ t. take i sections ++ t ∷ []) (sym is) in
    let single : flat_map f (s ∷ []) ≡ f s = append-nil (f s) in
    put ∙ (ap (λ t. t ++ f s) before
    ∙ (ap (λ ls. flat_map f (take i sections) ++ ls) (sym single)
    ∙ (sym (flat_map-append f (take i sections) (s ∷ [])) ∙ ap (flat_map f) (sym one))))
