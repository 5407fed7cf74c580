-- What is listed at a place: the first of four that applies. It has the bytes of the place, but for those that a label stands for.
use Rattle.link_laws.proofs.Common.{ap, Err, not, sym, w64, [], ◌%◌, ◌*◌, ◌+◌, ◌/◌, ◌<◌, ◌∙◌, ◌∷◌, ◌≡◌, ◌≤◌}
use Rattle.link_laws.proofs.Common.{arith, get_or, Image, is_cut, labels, length, Listed, nat_eq, nat_le, Option, Result, Spells, ℕ, ⊎_elim}
use Rattle.link_laws.proofs.Common.{Bool, cond, false, find, Insn, is_of, List, named, None, read, refl, Some, take, true, ◌&&◌, ◌++◌, ◌||◌}
use Rattle.link_laws.proofs.Common.{byte_at, insn_at, int_raw, is_some, IsBytes, item_at, lies_on, Ok, or_left, place_at, spelling, word_at}
use Rattle.link_laws.proofs.Common.{bytes_of, cases_lt, eqb-true, if_whole, is_whole, list_all, list_any, replicate, signed_at, unwrap_or}
use Rattle.link_laws.proofs.Common.{cond_both, IfSome, nat_tests, option_or, read_length, read_spells, takes_label, to_le_bytes, with_label}
use Rattle.link_laws.proofs.Common.{DecodeFault, field_bytes, get_or-take, label_before, label_lines, listed_line, option_map, signed_whole}
use Rattle.link_laws.proofs.Common.{get_or_append_left, is_of_immediate, length-append, length-take-le, option_and_then, without_immediate}
use Rattle.link_laws.proofs.{Immediates.EndsWith, Immediates.labels_fill, Lists.all_at, Lists.found_in, Lists.passes_of}
use Rattle.asm_text.specs.declared.listing.Listed.TheVariants as listed

-- the bytes of a line of a listing
abbrev pub line_bytes : Listed → List ℕ
line_bytes l = bytes_of (listed_line l).statement

-- whether a place is none of the eight of a relocation
abbrev pub is_free : Image → ℕ → Bool
is_free image y = list_all (λ r. not (is_of y r)) image.relocs

-- What is listed at a place has as many bytes as it is told, which are there, and those that no relocation has are the same.
pub record ItemOf (image : Image) (x : ℕ) (bytes : List ℕ) (it : Listed × ℕ) : Type 0 where
  pub long : length (line_bytes it.0) ≡ it.1
  pub some : 1 ≤ it.1
  pub within : it.1 ≤ length bytes
  pub same : (k : ℕ) → k < it.1 → is_free image (x + k) ≡ true → get_or (line_bytes it.0) k 0 ≡ get_or bytes k 0

-- no relocation lies on an instruction but that of its immediate
abbrev pub fine : Image → Insn → ℕ → ℕ → ℕ → Bool
fine image i x n r = not (lies_on x n r) || is_of_immediate image i (x + n) r

-- ---- the four that are listed

pub data IsItem (image : Image) (code : Bool) (x : ℕ) : List ℕ → Listed × ℕ → Type 0 where
  place_here : (bytes : List ℕ) (target : ℕ) → 8 ≤ length bytes → list_any (nat_eq x) image.relocs ≡ true → named image x ≡ Some target
      → IsItem image code x bytes (listed.Place target, 8)
  insn_here : (bytes : List ℕ) (i : Insn) (n : ℕ) → code ≡ true → read bytes ≡ Ok (i, n) → is_cut image x n ≡ false
      → list_all (fine image i x n) image.relocs ≡ true → IsItem image code x bytes (with_label i (label_before image (x + n)), n)
  word_here : (b c : ℕ) (rest : List ℕ) → is_cut image x 2 ≡ false → list_any (lies_on x 2) image.relocs ≡ false
      → IsItem image code x (b ∷ c ∷ rest) (listed.Word (b + 256 * c), 2)
  byte_here : (b : ℕ) (rest : List ℕ) → place_at image x (b ∷ rest) ≡ None → IsItem image code x (b ∷ rest) (listed.Byte b, 1)

chosen : {A : Type 0} (P : A → Type 0) (code : Bool) (o p q : Option A) (a : A) → IfSome o P → (code ≡ true → IfSome p P) → IfSome q P
    → (o ≡ None → P a) → P (unwrap_or (option_or o (option_or (cond code p None) (cond code q None))) a)
chosen P code (Some o) p q a ho hp hq ha = ho
chosen P true None (Some p) q a ho hp hq ha = hp refl
chosen P true None None (Some q) a ho hp hq ha = hq
chosen P true None None None a ho hp hq ha = ha refl
chosen P false None p q a ho hp hq ha = ha refl

place_is : (image : Image) (code : Bool) (x : ℕ) (bytes : List ℕ) (a b : Bool) (o : Option ℕ) → nat_le 8 (length bytes) ≡ a
    → list_any (nat_eq x) image.relocs ≡ b → named image x ≡ o
    → IfSome (cond (a && b) (option_map (λ target. (listed.Place target, 8)) o) None) (IsItem image code x bytes)
place_is image code x bytes true true (Some target) e f is = place_here bytes target (grind (arith, nat_tests)) f is
place_is image code x bytes a b o e f is = tt

insn_is : (image : Image) (code : Bool) (x : ℕ) (bytes : List ℕ) (r : Result (Insn × ℕ) DecodeFault) → read bytes ≡ r → code ≡ true
    → IfSome (if_whole image x r) (IsItem image code x bytes)
unfolding is_whole
insn_is image code x bytes (Err f) is in_code = tt
insn_is image code x bytes (Ok (i, n)) is in_code =
    cond_both (not (is_cut image x n) && list_all (fine image i x n) image.relocs)
    (Some (with_label i (label_before image (x + n)), n)) None
    (λ o. IfSome o (IsItem image code x bytes)) (λ e. insn_here bytes i n in_code is (grind arith) (grind arith)) (λ e. tt)

word_is : (image : Image) (code : Bool) (x : ℕ) (bytes : List ℕ) → IfSome (word_at image x bytes) (IsItem image code x bytes)
unfolding word_at
word_is image code x [] = tt
word_is image code x (b ∷ []) = tt
word_is image code x (b ∷ c ∷ rest) =
    cond_both (not (is_cut image x 2) && not (list_any (lies_on x 2) image.relocs)) (Some (listed.Word (b + 256 * c), 2)) None
    (λ o. IfSome o (IsItem image code x (b ∷ c ∷ rest))) (λ e. word_here b c rest (grind arith) (grind arith)) (λ e. tt)

pub item_is : (image : Image) (code : Bool) (x b : ℕ) (bytes : List ℕ)
    → IsItem image code x (b ∷ bytes) (item_at image code x (b ∷ bytes))
unfolding item_at place_at insn_at
item_is image code x b bytes =
    chosen (IsItem image code x (b ∷ bytes)) code (place_at image x (b ∷ bytes)) (insn_at image x (b ∷ bytes)) (word_at image x (b ∷ bytes))
    (byte_at (b ∷ bytes))
    (place_is image code x (b ∷ bytes) (nat_le 8 (length (b ∷ bytes))) (list_any (nat_eq x) image.relocs) (named image x) refl refl refl)
    (insn_is image code x (b ∷ bytes) (read (b ∷ bytes)) refl) (word_is image code x (b ∷ bytes)) (byte_here b bytes)

-- what holds of the labels of a place, whichever are listed
pub labels_by : (image : Image) (x : ℕ) (P : List Listed → Type 0)
    → (x ≡ image.entry → list_any (nat_eq x) (labels image) ≡ true → P (listed.Global x ∷ listed.Label x ∷ []))
    → (nat_eq x image.entry ≡ false → list_any (nat_eq x) (labels image) ≡ true → P (listed.Label x ∷ []))
    → (list_any (nat_eq x) (labels image) ≡ false → P []) → P (label_lines image x)
unfolding label_lines labels
labels_by image x P entry some none =
    cond_both (nat_eq x image.entry) (listed.Global x ∷ listed.Label x ∷ [])
    (cond (list_any (nat_eq x) (labels image)) (listed.Label x ∷ []) []) P
    (λ e. entry (eqb-true x image.entry e) (or_left _ _ e))
    (λ o. cond_both (list_any (nat_eq x) (labels image)) (listed.Label x ∷ []) [] P (some o) none)

-- ---- relocations

not_of : (y r : ℕ) → not (is_of y r) ≡ true → r ≤ y → y < r + 8 → ⊥
not_of y r free low high = let yes : is_of y r ≡ true = grind (arith, nat_tests) in cc (rw yes at free)

at_reloc : (rs : List ℕ) (x y : ℕ) → list_any (nat_eq x) rs ≡ true → list_all (λ r. not (is_of y r)) rs ≡ true → x ≤ y → y < x + 8 → ⊥
at_reloc rs x y here free low high =
    not_of y x (all_at (λ r. not (is_of y r) ≡ true) rs x (passes_of (λ r. not (is_of y r)) rs free) here) low high

pub reloc_ends : (rs : List ℕ) (next r : ℕ) → find (λ r. nat_eq (r + 8) next) rs ≡ Some r → (list_any (nat_eq r) rs ≡ true) × (r + 8 ≡ next)
reloc_ends rs next r found =
    let f = found_in (λ r. nat_eq (r + 8) next) rs r found in
    (f.0, grind (arith, nat_tests))

takes_it : (t s : Bool) (x n r : ℕ) → 2 ≤ n → r + 8 ≡ x + n → (not (lies_on x n r) || (t && nat_eq (r + 8) (x + n) && s)) ≡ true → t ≡ true
takes_it t s x n r some ends h = grind (arith, nat_tests)

-- a relocation that ends where an instruction ends is that of an immediate that a label may stand for
pub label_taken : (image : Image) (i : Insn) (x n : ℕ) (rs : List ℕ) (r : ℕ) → 2 ≤ n → list_all (fine image i x n) rs ≡ true
    → find (λ r. nat_eq (r + 8) (x + n)) rs ≡ Some r → takes_label i ≡ true
label_taken image i x n rs r some all found =
    let f = reloc_ends rs (x + n) r found in
    takes_it (takes_label i) (is_some (named image r)) x n r some f.1
    (all_at (λ r. fine image i x n r ≡ true) rs r (passes_of (fine image i x n) rs all) f.0)

-- ---- the bytes of each

insn_plain : (image : Image) (x : ℕ) (bytes : List ℕ) (i : Insn) (n : ℕ) → IsBytes bytes → read bytes ≡ Ok (i, n)
    → ItemOf image x bytes (listed.Instruction i None, n)
insn_plain image x bytes i n each is =
    let size = read_length bytes i n is in
    let spells : Spells (take n bytes) i = read_spells bytes i n each is in
    let long : length (spelling i) ≡ n = ap length (sym spells.same_bytes) ∙ length-take-le n bytes size.1 in
    record {
      long = long;
      some = omega (arith, size.0);
      within = size.1;
      same = λ k low free. ap (λ bs. get_or bs k 0) (sym spells.same_bytes) ∙ get_or-take n bytes k 0 low;
    }

-- What is read of an instruction in which a label may stand ends with eight bytes of a number.
pub record LabelEnds (bytes : List ℕ) (i : Insn) (n : ℕ) : Type 0 where
  pub ends : EndsWith i
  pub whole : take n bytes ≡ ends.front ++ to_le_bytes w64 ends.value
  pub count : length ends.front + 8 ≡ n
  pub long : length (spelling (without_immediate i)) ≡ n

pub label_ends : (bytes : List ℕ) (i : Insn) (n : ℕ) → IsBytes bytes → read bytes ≡ Ok (i, n) → takes_label i ≡ true
    → LabelEnds bytes i n
label_ends bytes i n each is takes =
    let spells : Spells (take n bytes) i = read_spells bytes i n each is in
    let ends : EndsWith i = labels_fill i spells.well_formed takes in
    let whole : take n bytes ≡ ends.front ++ to_le_bytes w64 ends.value = spells.same_bytes ∙ ends.whole in
    let size = length-take-le n bytes (read_length bytes i n is).1 in
    let count : length ends.front + 8 ≡ n = omega (arith, simp length-append at (ap length whole), size) in
    record { ends = ends; whole = whole; count = count; long = ap length ends.blank ∙ (length-append ends.front (replicate 8 0) ∙ count) }

insn_labelled : (image : Image) (x : ℕ) (bytes : List ℕ) (i : Insn) (n target r : ℕ) → IsBytes bytes → read bytes ≡ Ok (i, n)
    → takes_label i ≡ true → find (λ r. nat_eq (r + 8) (x + n)) image.relocs ≡ Some r
    → ItemOf image x bytes (listed.Instruction (without_immediate i) (Some target), n)
insn_labelled image x bytes i n target r each is takes found =
    let size = read_length bytes i n is in
    let it = label_ends bytes i n each is takes in
    let ends = it.ends in
    let front : List ℕ = ends.front in
    let whole = it.whole in
    let count = it.count in
    record {
      long = it.long;
      some = omega (arith, size.0);
      within = size.1;
      same = λ k low free. ⊎_elim
          (λ early. rw (ends.blank, get_or_append_left front (replicate 8 0) 0 k early)
          (sym (get_or_append_left front (to_le_bytes w64 ends.value) 0 k early)
          ∙ (ap (λ bs. get_or bs k 0) (sym whole) ∙ get_or-take n bytes k 0 low)))
          (λ late. let f = reloc_ends image.relocs (x + n) r found in let ends = f.1 in
          absurd (at_reloc image.relocs r (x + k) f.0 free (omega (arith, late, count, ends)) (omega (arith, low, ends))))
          (cases_lt k (length front));
    }

-- a line of a number, which has the bytes that stand there
plain_of : (image : Image) (x : ℕ) (l : Listed) (front rest : List ℕ) → line_bytes l ≡ front → 1 ≤ length front
    → ItemOf image x (front ++ rest) (l, length front)
plain_of image x l front rest is some = record {
  long = ap length is;
  some = some;
  within = omega (arith, length-append front rest);
  same = λ k low free. ap (λ bs. get_or bs k 0) is ∙ sym (get_or_append_left front rest 0 k low);
}

word_bytes : (b c : ℕ) → b < 256 → c < 256 → line_bytes (listed.Word (b + 256 * c)) ≡ b ∷ c ∷ []
unfolding field_bytes
word_bytes b c low high =
    let n : ℕ = b + 256 * c in
    let raw : int_raw 16 (signed_at 16 n) ≡ n = signed_whole 16 n (omega arith) (omega (arith, low, high)) in
    let first : n % 256 ≡ b = omega (arith, low) in
    let second : n / 256 % 256 ≡ c = omega (arith, low, high) in
    rw (raw, first, second) refl

label_case : (image : Image) (x : ℕ) (bytes : List ℕ) (i : Insn) (n : ℕ) (f o : Option ℕ) → IsBytes bytes → read bytes ≡ Ok (i, n)
    → o ≡ option_and_then (named image) f → ((r : ℕ) → f ≡ Some r → takes_label i ≡ true)
    → find (λ r. nat_eq (r + 8) (x + n)) image.relocs ≡ f → ItemOf image x bytes (with_label i o, n)
label_case image x bytes i n f None each is o takes found = insn_plain image x bytes i n each is
label_case image x bytes i n None (Some t) each is o takes found = cc o
label_case image x bytes i n (Some r) (Some t) each is o takes found = insn_labelled image x bytes i n t r each is (takes r refl) found

-- What is listed at a place has the bytes there, but for those that a relocation has.
pub item_of : (image : Image) (code : Bool) (x : ℕ) (bytes : List ℕ) (it : Listed × ℕ) → IsItem image code x bytes it → IsBytes bytes
    → ItemOf image x bytes it
unfolding label_before
item_of image code x _ _ (place_here bytes target long here is) each = record {
  long = refl;
  some = omega arith;
  within = long;
  same = λ k low free. absurd (at_reloc image.relocs x (x + k) here free (omega arith) (omega (arith, low)));
}
item_of image code x _ _ (insn_here bytes i n in_code is cut all) each =
    let found : Option ℕ = find (λ r. nat_eq (r + 8) (x + n)) image.relocs in
    label_case image x bytes i n found (option_and_then (named image) found) each is refl
    (λ r here. label_taken image i x n image.relocs r (read_length bytes i n is).0 all here) refl
item_of image code x _ _ (word_here b c rest cut free) each =
    plain_of image x (listed.Word (b + 256 * c)) (b ∷ c ∷ []) rest (word_bytes b c (each 0) (each 1)) (omega arith)
item_of image code x _ _ (byte_here b rest none) each =
    plain_of image x (listed.Byte b) (b ∷ []) rest (ap (λ m. m ∷ []) (signed_whole 8 b (omega arith) (omega (arith, each 0)))) (omega arith)
