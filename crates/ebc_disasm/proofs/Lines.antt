-- The lines of the bytes of a section, one item after the other, and their text.
use Rattle.std.proofs.Common.{◌≡◌, ℕ, ◌+◌, ◌-◌, ◌<◌, ◌≤◌, zero, suc, Bool, List, [], ◌∷◌, ◌++◌, length, drop, refl, ap, sym, ◌∙◌, arith}
use Rattle.std.proofs.Common.{append_assoc, append-nil, get_or, take, length-drop}
use Rattle.std.specs.List.{flat_map}
use Rattle.std.proofs.lemmas.Grind.{flat_map-append}
use Rattle.std.proofs.lemmas.List.{drop-drop, take_more}
use Rattle.pe_image.specs.declared.image.Image.{Image}
use Rattle.pe_image.specs.declared.image.Section.{Section}
use Rattle.asm_text.specs.declared.listing.Listed.{Listed}
use Rattle.ebc_disasm.specs.Listings.{bytes_of, has_code, heading, item_at, label_lines, line_text, lines_from, section_lines, text_of}

-- what is listed before some bytes passes over them
passed : (image : Image) (code : Bool) (k x : ℕ) (bytes : List ℕ) → k ≤ length bytes
    → lines_from image code k x bytes ≡ lines_from image code 0 (x + k) (drop k bytes)
unfolding lines_from
passed image code zero x bytes short = let same : x + 0 ≡ x = omega arith in rw same refl
passed image code (suc k) x [] short = absurd (omega arith)
passed image code (suc k) x (b ∷ bytes) short =
    let same : x + 1 + k ≡ x + suc k = omega arith in
    passed image code k (x + 1) bytes (omega arith) ∙ ap (λ y. lines_from image code 0 y (drop k bytes)) same

-- the lines of what is listed at a place stand before those of what follows it
pub next_lines :
    (image : Image) (code : Bool) (x n : ℕ) (bytes : List ℕ) → n ≡ (item_at image code x bytes).1 → 1 ≤ n → n ≤ length bytes →
    lines_from image code 0 x bytes ≡ (label_lines image x ++ (item_at image code x bytes).0 ∷ [])
    ++ lines_from image code 0 (x + n) (drop n bytes)
unfolding lines_from
next_lines image code x zero bytes is some short = absurd (omega arith)
next_lines image code x (suc k) [] is some short = absurd (omega arith)
next_lines image code x (suc k) (b ∷ bytes) is some short =
    let count : (item_at image code x (b ∷ bytes)).1 - 1 ≡ k = omega (arith, is) in
    let same : x + 1 + k ≡ x + suc k = omega arith in
    let rest : lines_from image code k (x + 1) bytes ≡ lines_from image code 0 (x + suc k) (drop k bytes) =
    passed image code k (x + 1) bytes (omega arith) ∙ ap (λ y. lines_from image code 0 y (drop k bytes)) same
    in
    let line : List Listed = (item_at image code x (b ∷ bytes)).0 ∷ [] in
    ap (λ m. label_lines image x ++ (item_at image code x (b ∷ bytes)).0 ∷ lines_from image code m (x + 1) bytes) count
    ∙ ap (λ ls. label_lines image x ++ (item_at image code x (b ∷ bytes)).0 ∷ ls) rest
    ∙ sym (append_assoc (label_lines image x) line (lines_from image code 0 (x + suc k) (drop k bytes)))

-- no byte, no line
pub no_lines : (image : Image) (code : Bool) (x : ℕ) (bytes : List ℕ) → length bytes ≤ 0 → lines_from image code 0 x bytes ≡ []
unfolding lines_from
no_lines image code x [] none = refl
no_lines image code x (b ∷ bytes) none = absurd (omega arith)

-- the text of lines and others behind them
pub text-append : (ls ms : List Listed) → text_of (ls ++ ms) ≡ text_of ls ++ text_of ms
unfolding text_of
text-append ls ms = flat_map-append line_text ls ms

-- ---- what is appended

-- the text of a section begins with its heading
pub first_lines :
    (image : Image) (s : Section) (code : Bool) (bytes old new : List ℕ) → code ≡ has_code s → bytes ≡ bytes_of s →
    new ≡ old ++ line_text (heading code) →
    new ++ text_of (lines_from image code 0 (s.place + 0) (drop 0 bytes)) ≡ old ++ text_of (section_lines image s)
unfolding section_lines text_of
first_lines image s code bytes old new c b n =
    let same : s.place + 0 ≡ s.place = omega arith in
    let rest : List ℕ = text_of (lines_from image (has_code s) 0 s.place (bytes_of s)) in
    rw (same, n, c, b) (append_assoc old (line_text (heading (has_code s))) rest)

-- then come the lines of one place after the other
pub more_lines :
    (image : Image) (code : Bool) (x y n at : ℕ) (bytes rest old new whole : List ℕ) → rest ≡ drop at bytes →
    n ≡ (item_at image code x rest).1 → 1 ≤ n → n ≤ length rest → y ≡ x + n →
    new ≡ old ++ text_of (label_lines image x ++ (item_at image code x rest).0 ∷ []) →
    old ++ text_of (lines_from image code 0 x (drop at bytes)) ≡ whole →
    new ++ text_of (lines_from image code 0 y (drop (at + n) bytes)) ≡ whole
more_lines image code x y n at bytes rest old new whole left is some short same put before =
    let here : List Listed = label_lines image x ++ (item_at image code x rest).0 ∷ [] in
    let after : List Listed = lines_from image code 0 (x + n) (drop n rest) in
    let next : lines_from image code 0 x rest ≡ here ++ after = next_lines image code x n rest is some short in
    let behind : drop (at + n) bytes ≡ drop n rest = sym (drop-drop n at bytes) ∙ ap (λ t. drop n t) (sym left) in
    let follow : lines_from image code 0 y (drop (at + n) bytes) ≡ after =
    ap (λ z. lines_from image code 0 z (drop (at + n) bytes)) same ∙ ap (λ t. lines_from image code 0 (x + n) t) behind
    in
    ap (λ t. t ++ text_of (lines_from image code 0 y (drop (at + n) bytes))) put
    ∙ (ap (λ ls. (old ++ text_of here) ++ text_of ls) follow
    ∙ (append_assoc old (text_of here) (text_of after)
    ∙ (ap (λ t. old ++ t) (sym (text-append here after))
    ∙ (ap (λ ls. old ++ text_of ls) (sym next)
    ∙ (ap (λ t. old ++ text_of (lines_from image code 0 x t)) left ∙ before)))))

-- and no more at the end
pub last_lines :
    (image : Image) (code : Bool) (x at : ℕ) (bytes old whole : List ℕ) → length bytes ≤ at →
    old ++ text_of (lines_from image code 0 x (drop at bytes)) ≡ whole → old ≡ whole
unfolding text_of
last_lines image code x at bytes old whole past before =
    let none : length (drop at bytes) ≤ 0 = omega (arith, length-drop at bytes) in
    let no : lines_from image code 0 x (drop at bytes) ≡ [] = no_lines image code x (drop at bytes) none in
    sym (append-nil old) ∙ (ap (λ ls. old ++ text_of ls) (sym no) ∙ before)

-- the lines of one section more
pub more_sections :
    (image : Image) (sections : List Section) (i : ℕ) (s : Section) (old new : List ℕ) → i < length sections → s ≡ get_or sections i s →
    old ≡ text_of (flat_map (section_lines image) (take i sections)) → new ≡ old ++ text_of (section_lines image s) →
    new ≡ text_of (flat_map (section_lines image) (take (i + 1) sections))
more_sections image sections i s old new short is before put =
    let f : Section → List Listed = section_lines image in
    let one : take (i + 1) sections ≡ take i sections ++ s ∷ [] = take_more sections i s short
    ∙ ap (λ t. take i sections ++ t ∷ []) (sym is) in
    let single : flat_map f (s ∷ []) ≡ f s = append-nil (f s) in
    put ∙ (ap (λ t. t ++ text_of (f s)) before
    ∙ (sym (text-append (flat_map f (take i sections)) (f s))
    ∙ ap text_of (ap (λ ls. flat_map f (take i sections) ++ ls) (sym single)
    ∙ (sym (flat_map-append f (take i sections) (s ∷ [])) ∙ ap (flat_map f) (sym one)))))

-- a line more
pub text_pushed : (ls : List Listed) (line : Listed) → text_of (ls ++ line ∷ []) ≡ text_of ls ++ line_text line
unfolding text_of
text_pushed ls line = text-append ls (line ∷ []) ∙ ap (λ t. text_of ls ++ t) (append-nil (line_text line))

-- the labels of a place and what is listed there
pub item_lines :
    (labelled : List Listed) (line : Listed) (old mid new : List ℕ) → mid ≡ old ++ text_of labelled → new ≡ mid ++ line_text line →
    new ≡ old ++ text_of (labelled ++ line ∷ [])
item_lines labelled line old mid new m n =
    n ∙ (ap (λ t. t ++ line_text line) m ∙ (append_assoc old (text_of labelled) (line_text line)
    ∙ ap (λ t. old ++ t) (sym (text_pushed labelled line))))
