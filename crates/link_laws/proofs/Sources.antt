-- The sections, the places of labels, the fixups and the names of the lines of a listing, as those of a source.
use Rattle.link_laws.proofs.Bodies.{is_head, IsLine, takes_address}
use Rattle.link_laws.proofs.Common.{AllByRecursion, append_assoc, ends_of, false_from_ne_true, if◌then◌else◌, immediate_size, length-append}
use Rattle.link_laws.proofs.Common.{ap, cond, drop, here, map, not, refl, sym, true, [], ℕ, ◌&&◌, ◌++◌, ◌+◌, ◌-◌, ◌<◌, ◌^◌, ◌∙◌, ◌∷◌, ◌≡◌}
use Rattle.link_laws.proofs.Common.{arith, Bool, Ends, false, Fixup, Image, Insn, length, Line, List, nat_eq, Place, Some, spelling, use_of}
use Rattle.link_laws.proofs.Common.{bytes_eq, bytes_of, fixups_of, hex_read, hex_text, if_there, list_any, nat_tests, or_parts, same_name}
use Rattle.link_laws.proofs.Common.{data_after, ends_after, fixups_in, label_text, Listed, map-append, same_bytes, section_of, takes_label}
use Rattle.link_laws.proofs.Common.{digits_from, ends_in_data, is_distance, is_labelled, listed_line, ListedFits, name_number, section_kind}
use Rattle.link_laws.proofs.FixupWalk.{target_use, use_at, uses_from}
use Rattle.link_laws.proofs.{ItemLaws.line_bytes, Lists.each_of, PlaceLaws.is_label_of, SectionLaws.bytes_of_lines}
use Rattle.ebc_asm.specs.Symbols.{place_of}
use Rattle.ebc_insn.specs.declared.Insn.TheVariants as insns
use Rattle.ebc_insn.specs.declared.Size.TheVariants as sizes
use Rattle.asm_text.specs.declared.listing.Listed.TheVariants as listed

-- ---- two places have two labels

pub labels_apart : (p q : ℕ) → p < 2 ^ 32 → q < 2 ^ 32 → label_text p ≡ label_text q → p ≡ q
labels_apart p q low small same =
    let second : digits_from 16 0 (hex_text 8 q) ≡ Some q = hex_read 8 q (omega (arith, small)) (omega (arith, small)) in
    let both : Some p ≡ Some q = sym (hex_read 8 p (omega (arith, low)) (omega (arith, low)))
    ∙ (ap (digits_from 16 0) (ap (drop 1) same) ∙ second) in
    cc both

-- lines of a listing as lines of a source
abbrev pub source : List Listed → List Line
source ls = map listed_line ls

-- ---- which section lines stand in

after_line : (d : Bool) (l : Listed) → is_head l ≡ false → data_after d (listed_line l).statement ≡ d
after_line d listed.Code h = cc h
after_line d listed.Data h = cc h
after_line d c h = refl

pub ends_same : (d : Bool) (ls : List Listed) → list_any is_head ls ≡ false → ends_in_data d (source ls) ≡ d
unfolding ends_in_data
ends_same d [] h = refl
ends_same d (l ∷ ls) h = grind (arith, after_line d l, ends_same d ls)

pub ends_append : (d : Bool) (xs ys : List Line) → ends_in_data d (xs ++ ys) ≡ ends_in_data (ends_in_data d xs) ys
unfolding ends_in_data
ends_append d [] ys = refl
ends_append d (x ∷ xs) ys = ends_append (data_after d x.statement) xs ys

-- ---- the bytes of a section

there : {A : Type 0} (d : Bool) (xs : List A) → if_there d d xs ≡ xs
there d xs = grind arith

not_there : {A : Type 0} (d : Bool) (xs : List A) → if_there (not d) d xs ≡ []
not_there d xs = grind arith

pub section_append : (w d : Bool) (xs ys : List Line) → section_of w d (xs ++ ys) ≡ section_of w d xs ++ section_of w (ends_in_data d xs) ys
unfolding section_of ends_in_data
section_append w d [] ys = refl
section_append w d (x ∷ xs) ys =
    rw (section_append w (data_after d x.statement) xs ys) (sym (append_assoc (if_there w d (bytes_of x.statement))
    (section_of w (data_after d x.statement) xs) (section_of w (ends_in_data (data_after d x.statement) xs) ys)))

pub section_here : (d : Bool) (ls : List Listed) → list_any is_head ls ≡ false → section_of d d (source ls) ≡ bytes_of_lines ls
unfolding section_of
section_here d [] h = refl
section_here d (l ∷ ls) h = grind (arith, there d (line_bytes l), after_line d l, section_here d ls)

pub section_other : (d : Bool) (ls : List Listed) → list_any is_head ls ≡ false → section_of (not d) d (source ls) ≡ []
unfolding section_of
section_other d [] h = refl
section_other d (l ∷ ls) h = grind (arith, not_there d (line_bytes l), after_line d l, section_other d ls)

-- headings have no bytes
pub data_heading : (w c : Bool) (ls : List Listed) → section_of w c (source (listed.Data ∷ ls)) ≡ section_of w true (source ls)
unfolding section_of
data_heading w c ls = grind arith

pub none_of : (w c : Bool) → section_of w c [] ≡ []
unfolding section_of
none_of w c = refl

-- ---- where sections end

pub ends_of_append : (e : Ends) (xs ys : List Line) → ends_of e (xs ++ ys) ≡ ends_of (ends_of e xs) ys
unfolding ends_of
ends_of_append e [] ys = refl
ends_of_append e (x ∷ xs) ys = ends_of_append (ends_after e x) xs ys

-- ---- labels

-- where the next line stands
abbrev pub next_place : Ends → Place
next_place e = record { kind = section_kind e.in_data; offset = here e }

-- a label that none of some lines has stands where it stands behind them
pub place_past : (e : Ends) (name : List ℕ) (xs ys : List Line) → list_any (is_labelled name) xs ≡ false
    → place_of e name (xs ++ ys) ≡ place_of (ends_of e xs) name ys
unfolding place_of ends_of
place_past e name [] ys h = refl
place_past e name (x ∷ xs) ys h = grind (arith, place_past (ends_after e x) name xs ys)

pub place_label : (e : Ends) (y : ℕ) (ls : List Line)
    → place_of e (label_text y) (listed_line (listed.Label y) ∷ ls) ≡ next_place e
unfolding place_of
place_label e y ls = rw (same_bytes (label_text y)) refl

-- A label is of a place below 2 ^ 32.
abbrev pub IsLowLabel : Listed → Type 0
IsLowLabel (listed.Label place) = place < 2 ^ 32
IsLowLabel l = Unit {0}

low_line : (l : Listed) → ListedFits l → IsLowLabel l
low_line (listed.Label y) h = h
low_line l h = tt

pub low_lines : (image : Image) (code : Bool) (ls : List Listed) → AllByRecursion (IsLine image code) ls → AllByRecursion IsLowLabel ls
low_lines image code ls h = each_of (IsLine image code) IsLowLabel ls (λ l g. low_line l g.fits) h

not_labelled : (y : ℕ) (l : Listed) → y < 2 ^ 32 → IsLowLabel l → is_label_of y l ≡ false
    → is_labelled (label_text y) (listed_line l) ≡ false
not_labelled y (listed.Label p) small low other =
    false_from_ne_true (bytes_eq (label_text y) (label_text p)) (λ e.
    let same : y ≡ p = labels_apart y p small low (same_name (label_text y) (label_text p) e) in
    let yes : nat_eq p y ≡ true = grind (arith, nat_tests) in
    cc (sym other ∙ yes))
not_labelled y c small low other = refl

pub none_labelled : (y : ℕ) (ls : List Listed) → y < 2 ^ 32 → AllByRecursion IsLowLabel ls → list_any (is_label_of y) ls ≡ false
    → list_any (is_labelled (label_text y)) (source ls) ≡ false
none_labelled y [] small low none = refl
none_labelled y (l ∷ ls) small low none =
    grind (arith, not_labelled y l small low.0, none_labelled y ls small low.1)

-- ---- fixups

-- the fixup of an address in a section that begins at a place, by the place where it is and that which it names
abbrev pub fixup_at : Bool → ℕ → List (List ℕ) → ℕ × ℕ → Fixup
fixup_at d s names used = record {
  section = section_kind d;
  kind = 5;
  offset = used.0 - s;
  symbol = name_number (label_text used.1) names;
  from = 0;
}

pub fixups_append : (w : Bool) (e : Ends) (names : List (List ℕ)) (xs ys : List Line)
    → fixups_in w e names (xs ++ ys) ≡ fixups_in w e names xs ++ fixups_in w (ends_of e xs) names ys
unfolding fixups_in ends_of
fixups_append w e names [] ys = refl
fixups_append w e names (x ∷ xs) ys =
    rw (fixups_append w (ends_after e x) names xs ys)
    (sym (append_assoc (if_there w e.in_data (fixups_of e.in_data (here e) names (use_of x.statement)))
    (fixups_in w (ends_after e x) names xs) (fixups_in w (ends_of (ends_after e x) xs) names ys)))

far_address : (far relative : Bool) → (far && not relative) ≡ true → (relative ≡ false) × (◌≡◌ {A = ℕ} (if far then 8 else 4) 8)
far_address far relative h = grind arith

address_insn : (i : Insn) → takes_label i ≡ true → (is_distance i ≡ false) × (immediate_size i ≡ 8)
address_insn (insns.MoveImm sizes.Qword bits left lidx imm) h = (refl, refl)
address_insn (insns.Jump cond far relative op extra) h = far_address far relative h
address_insn (insns.Call far native relative op extra) h = far_address far relative h
address_insn i h = cc h

line_fixups : (d : Bool) (s n : ℕ) (names : List (List ℕ)) (l : Listed) → takes_address l ≡ true
    → fixups_of d n names (use_of (listed_line l).statement) ≡ map (fixup_at d s names) (use_at (s + n) (target_use l))
line_fixups d s n names (listed.Place t) h = let same : n + 0 ≡ s + n + 0 - s = omega arith in rw same refl
line_fixups d s n names (listed.Instruction i (Some t)) h =
    let a = address_insn i h in
    let same : n + (length (spelling i) - 8) ≡ s + n + (length (spelling i) - 8) - s = omega arith in
    rw (a.0, a.1, same) refl
line_fixups d s n names c h = refl

-- where sections end behind some lines, by numbers
abbrev pub ends_at : Bool → ℕ → ℕ → Ends
ends_at d c k = record { in_data = d; code_end = c; data_end = k }

here_more : (d : Bool) (c k n : ℕ) → here (ends_at d (if d then c else c + n) (if d then k + n else k)) ≡ here (ends_at d c k) + n
here_more d c k n = grind arith

-- the fixups of lines of one section
pub fixups_here : (d : Bool) (c k s : ℕ) (names : List (List ℕ)) (ls : List Listed) → list_any is_head ls ≡ false
    → AllByRecursion (λ l. takes_address l ≡ true) ls
    → fixups_in d (ends_at d c k) names (source ls) ≡ map (fixup_at d s names) (uses_from (s + here (ends_at d c k)) ls)
unfolding fixups_in
fixups_here d c k s names [] h takes = refl
fixups_here d c k s names (l ∷ ls) h takes =
    let p = or_parts (is_head l) (list_any is_head ls) h in
    let n : ℕ = length (line_bytes l) in
    let x : ℕ = here (ends_at d c k) in
    let c2 : ℕ = (if d then c else c + n) in
    let k2 : ℕ = (if d then k + n else k) in
    let next : s + here (ends_at d c2 k2) ≡ s + x + n = ap (λ m. s + m) (here_more d c k n) ∙ omega arith in
    rw (
      there d (fixups_of d x names (use_of (listed_line l).statement)),
      line_fixups d s x names l takes.0,
      after_line d l p.0,
      fixups_here d c2 k2 s names ls p.1 takes.1,
      next,
    )
    (sym (map-append (fixup_at d s names) (use_at (s + x) (target_use l)) (uses_from (s + x + n) ls)))

pub fixups_other : (d : Bool) (c k : ℕ) (names : List (List ℕ)) (ls : List Listed) → list_any is_head ls ≡ false
    → fixups_in (not d) (ends_at d c k) names (source ls) ≡ []
unfolding fixups_in
fixups_other d c k names [] h = refl
fixups_other d c k names (l ∷ ls) h =
    let n : ℕ = length (line_bytes l) in
    grind (
      arith,
      not_there d (fixups_of d (here (ends_at d c k)) names (use_of (listed_line l).statement)),
      after_line d l,
      fixups_other d (if d then c else c + n) (if d then k + n else k) names ls,
    )

-- ---- where sections end behind lines of the code

pub ends_code : (c k : ℕ) (ls : List Listed) → list_any is_head ls ≡ false
    → ends_of (ends_at false c k) (source ls) ≡ ends_at false (c + length (bytes_of_lines ls)) k
unfolding ends_of
ends_code c k [] h = let same : c ≡ c + 0 = omega arith in ap (λ n. ends_at false n k) same
ends_code c k (l ∷ ls) h =
    let n : ℕ = length (line_bytes l) in
    grind (arith, after_line false l, ends_code (c + n) k ls, length-append (line_bytes l) (bytes_of_lines ls))
