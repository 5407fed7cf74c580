-- What is printed of points is a document of TOML: its lines are read one after the other.
use Rattle.point_laws.proofs.Common.{AllByRecursion, AllPrinted, decimal_by_steps, items_have_valid_dates, list_all-append, option_and_then}
use Rattle.point_laws.proofs.Common.{and_parts, AreNames, Bool, in_quotes, IsIntText, key_value, line_turn, lines_end, nat_tests, pair_text}
use Rattle.point_laws.proofs.Common.{ap, map, not, pos, run, suc, sym, [], ℤ, ◌%◌, ◌+◌, ◌-◌, ◌<◌, ◌^◌, ◌∙◌, ◌∷◌, ◌≡◌, ◌≤◌}
use Rattle.point_laws.proofs.Common.{append_assoc, breaks_lines, continues_name, IsOffsetText, lines_refused, signed_decimal, skip_from-nil}
use Rattle.point_laws.proofs.Common.{arith, array, codes, false, inr, item, Items, line, lines, None, refl, Some, true, ℕ, ◌&&◌, ◌++◌, ◌==◌}
use Rattle.point_laws.proofs.Common.{array_line, is_control, IsCounted, IsLineText, IsTypeText, IsUnits, lines_more, range_text, skip_blank}
use Rattle.point_laws.proofs.Common.{CellText, decimal, Document, flat_map, integer, key_text, List, list_all, list_any, no_items, TypeText}
use Rattle.point_laws.proofs.Common.{define, inl, is_name, IsName, IsNear, length, comma_list}
use Rattle.point_laws.proofs.Common.{mark_of, nat_le, negsuc, Option, strings, ⊎_elim}
use Rattle.point_laws.proofs.Common.{Expression, grants_text, IsCellText, IsItemsText, IsValueText, items_depth, skip_newline, skip_within}
use Rattle.point_laws.proofs.NoneAgain.{all_so}
use Rattle.toml_writer.specs.Text.{encoding_of, escaped, needs_escape, quotes_after, string_text}
use Rattle.note_texts.specs.declared.cell.CellText.TheVariants as cells
use Rattle.note_texts.specs.declared.ty.TypeText.TheVariants as types

-- ---- texts of printable bytes with no quote and no backslash: so is what is spelled as a type

-- printable, and neither a quote nor a backslash
abbrev pub is_plain : ℕ → Bool
is_plain b = nat_le 32 b && (nat_le b 126 && (not (b == 34) && not (b == 92)))

abbrev pub are_plain : List ℕ → Bool
are_plain text = list_all is_plain text

pub plain-append : (xs ys : List ℕ) → are_plain xs ≡ true → are_plain ys ≡ true → are_plain (xs ++ ys) ≡ true
plain-append xs ys a b = list_all-append is_plain xs ys ∙ rw (a, b) refl

-- ---- names

pub name_plain : (name : List ℕ) → IsName name → are_plain name ≡ true
unfolding is_name
name_plain [] h = refl
name_plain (x ∷ xs) h =
    all_so continues_name is_plain (λ b continues. grind (arith, nat_tests)) (x ∷ xs) (grind (arith, nat_tests))

pub names_plain : (names : List (List ℕ)) → AreNames names → are_plain (grants_text names) ≡ true
names_plain [] h = refl
names_plain (name ∷ names) h = plain-append (codes "!" ++ name) (grants_text names) (name_plain name h.0) (names_plain names h.1)

-- ---- numbers

digit_plain : (d : ℕ) → d < 10 → are_plain ((48 + d) ∷ []) ≡ true
digit_plain d small = let one : is_plain (48 + d) ≡ true = grind (arith, nat_tests) in rw one refl

pub decimal_plain : (n : ℕ) → n < 2 ^ 64 → are_plain (decimal n) ≡ true
decimal_plain n fits = decimal_by_steps (λ n ds. are_plain ds ≡ true) digit_plain
    (λ n ds big front. plain-append ds ((48 + n % 10) ∷ []) front (digit_plain (n % 10) (omega arith))) n fits

near_plain : (z : ℤ) → IsNear z → are_plain (signed_decimal z) ≡ true
near_plain (pos n) h = decimal_plain n (omega (arith, h))
near_plain (negsuc n) h = decimal_plain (suc n) (omega (arith, h))

units_plain : (low : ℕ) (z : ℤ) → IsUnits low z → are_plain (signed_decimal z) ≡ true
units_plain low (pos n) h = decimal_plain n (omega (arith, h.1))
units_plain low (negsuc n) h = absurd h

pair_plain : (low : ℕ) (n c : ℤ) → IsUnits low n → IsNear c → are_plain (pair_text n c) ≡ true
pair_plain low n c units near =
    plain-append (signed_decimal n) (codes "," ++ signed_decimal c) (units_plain low n units) (near_plain c near)

range_plain : (lo hi : ℕ) → lo ≤ hi → hi < 2 ^ 64 → are_plain (range_text lo hi) ≡ true
range_plain lo hi order high = plain-append (decimal lo) (codes ".." ++ decimal hi) (decimal_plain lo (omega arith)) (decimal_plain hi high)

-- ---- pointers

mark_plain : (null : Bool) (rest : List ℕ) → are_plain rest ≡ true → are_plain (mark_of null ++ rest) ≡ true
mark_plain null rest h = grind arith

counted_plain : (text shape : List ℕ) (count : ℕ) → IsCounted text shape count → are_plain text ≡ true
counted_plain text shape count h = ⊎_elim
    (λ alone. rw alone.0 (name_plain shape h.0))
    (λ counted. rw counted (plain-append shape (codes "*" ++ decimal count) (name_plain shape h.0) (decimal_plain count h.2)))
    h.3

offset_plain : (text : List ℕ) (n c : ℤ) → IsOffsetText text n c → are_plain text ≡ true
offset_plain text n c (inl start) = rw start.0 refl
offset_plain text n c (inr (pair, whole, spelled)) = rw (whole, spelled.0) (pair_plain 0 n c spelled.1 spelled.2)

cell_plain : (text : List ℕ) (c : CellText) → IsCellText text c → are_plain text ≡ true
cell_plain text (cells.Ptr shape count null) (target, whole, counted) =
    rw whole (mark_plain null target (counted_plain target shape count counted))
cell_plain text (cells.P64 shape count null) (target, whole, counted) =
    rw whole (mark_plain null target (counted_plain target shape count counted))
cell_plain text (cells.Method name) h = rw h.0 (name_plain name h.1)
cell_plain text c h = rw h refl

-- ---- types

int_plain : (text : List ℕ) (lo hi div : ℕ) → IsIntText text lo hi div → are_plain text ≡ true
int_plain text lo hi div h = ⊎_elim
    (λ plain. rw plain.0 (range_plain lo hi h.0 h.1))
    (λ divided. rw divided (plain-append (range_text lo hi) (codes "/" ++ decimal div) (range_plain lo hi h.0 h.1) (decimal_plain div h.3)))
    h.4

pub type_plain : (text : List ℕ) (t : TypeText) → IsTypeText text t → are_plain text ≡ true
type_plain text (types.Int lo hi div) (inl whole) = rw whole.0 refl
type_plain text (types.Int lo hi div) (inr (range, whole, spelled)) = rw whole (int_plain range lo hi div spelled)
type_plain text (types.Lin n c) (pair, whole, spelled) = rw (whole, spelled.0) (pair_plain 1 n c spelled.1 spelled.2)
type_plain text (types.Scaled n c hi) (rest, whole, spelled) =
    rw (whole, spelled.0)
    (plain-append (decimal n) (codes "," ++ (decimal c ++ (codes "," ++ decimal hi))) (decimal_plain n spelled.2)
    (plain-append (decimal c) (codes "," ++ decimal hi) (decimal_plain c spelled.3) (decimal_plain hi spelled.4)))
type_plain text (types.Ptr shape count n c null) (target, offset, whole, counted, placed) =
    rw whole (mark_plain null (target ++ offset)
    (plain-append target offset (counted_plain target shape count counted) (offset_plain offset n c placed)))
type_plain text (types.Local name) h = rw h.0 (name_plain name h.1)
type_plain text (types.Lent cell) (rest, whole, spelled) = rw whole (cell_plain rest cell spelled)
type_plain text (types.Status names) h = rw h.0 (names_plain names h.1)
type_plain text (types.SignedStatus names) h = rw h.0 (names_plain names h.1)
type_plain text (types.Method name) h = rw h.0 (name_plain name h.1)
type_plain text (types.ThunkAt index) h = rw h.0 (decimal_plain index (omega (arith, h.1)))
type_plain text (types.Saved register) h = rw h.0 (decimal_plain register (omega (arith, h.2)))
type_plain text t h = rw h refl

-- ---- strings

-- what a plain byte isn't
record IsBare (c : ℕ) : Type 0 where
  quote : (c == 34) ≡ false
  feed : (c == 10) ≡ false
  backslash : (c == 92) ≡ false
  tab : (c == 9) ≡ false
  delete : (c == 127) ≡ false
  printed : nat_le 32 c ≡ true

bare : (c : ℕ) → is_plain c ≡ true → IsBare c
bare c h = grind (arith, nat_tests)

not_escaped : (s : List ℕ) → are_plain s ≡ true → escaped false 0 s ≡ s
unfolding escaped needs_escape quotes_after
not_escaped [] h = refl
not_escaped (c ∷ cs) h =
    let both = and_parts (is_plain c) (are_plain cs) h in
    let b = bare c both.0 in
    rw (b.quote, b.feed, b.backslash, b.tab, b.delete, b.printed, not_escaped cs both.1) refl

none_is : (q : ℕ → Bool) → ((c : ℕ) → IsBare c → q c ≡ false) → (s : List ℕ) → are_plain s ≡ true → list_any q s ≡ false
none_is q never [] h = refl
none_is q never (c ∷ cs) h =
    let both = and_parts (is_plain c) (are_plain cs) h in
    rw (never c (bare c both.0), none_is q never cs both.1) refl

-- a plain text is written in quotes as it is
pub string_plain : (s : List ℕ) → are_plain s ≡ true → string_text s ≡ in_quotes s
unfolding string_text encoding_of
string_plain s h =
    let control = none_is is_control (λ c b. rw (b.tab, b.delete, b.printed) refl) s h in
    let quote = none_is (λ x. x == 34) (λ c b. b.quote) s h in
    let feed = none_is (λ x. x == 10) (λ c b. b.feed) s h in
    rw (control, none_is (λ x. x == 92) (λ c b. b.backslash) s h, quote, feed, not_escaped s h) refl

-- ---- arrays

-- each text is plain
abbrev pub AllPlain : List (List ℕ) → Type 0
AllPlain ts = AllByRecursion (λ t. are_plain t ≡ true) ts

no_breaks : (ds : Items) → breaks_lines false ds ≡ false
no_breaks no_items = refl
no_breaks (item d no_items) = refl
no_breaks (item d (item e ds)) = refl

pub strings_flat : (ts : List (List ℕ)) → items_depth (strings ts) ≡ 0
strings_flat [] = refl
strings_flat (t ∷ ts) = rw (strings_flat ts) refl

pub strings_valid : (ts : List (List ℕ)) → items_have_valid_dates (strings ts) ≡ true
strings_valid [] = refl
strings_valid (t ∷ ts) = strings_valid ts

-- the texts behind the first
others : List (List ℕ) → List ℕ
others ts = flat_map (λ y. codes ", " ++ y) (map in_quotes ts)

others_spelled : (ts : List (List ℕ)) → AllPlain ts → IsItemsText false false false (strings ts) (others ts ++ codes "]")
unfolding others
others_spelled [] h = refl
others_spelled (t ∷ ts) h = (
  in_quotes t,
  others ts ++ codes "]",
  append_assoc (codes ", " ++ in_quotes t) (others ts) (codes "]"),
  sym (string_plain t h.0),
  others_spelled ts h.1,
)

items_spelled : (ts : List (List ℕ)) → AllPlain ts → IsItemsText false false true (strings ts) (comma_list (map in_quotes ts) ++ codes "]")
unfolding others
items_spelled [] h = refl
items_spelled (t ∷ ts) h = (
  in_quotes t,
  others ts ++ codes "]",
  append_assoc (in_quotes t) (others ts) (codes "]"),
  sym (string_plain t h.0),
  others_spelled ts h.1,
)

array_spelled : (ts : List (List ℕ)) → AllPlain ts
    → IsValueText false (array (strings ts)) (codes "[" ++ (comma_list (map in_quotes ts) ++ codes "]"))
array_spelled ts h = (comma_list (map in_quotes ts) ++ codes "]", refl, rw (no_breaks (strings ts)) (items_spelled ts h))

-- ---- lines

-- the line of an array at a key that needs no quotes
pub array_line_spelled : (key : List ℕ) (ts : List (List ℕ)) → key_text key ≡ key → AllPlain ts
    → IsLineText false false ([], key) (key_value (array (strings ts))) (array_line key ts)
array_line_spelled key ts bare_key h =
    let list = comma_list (map in_quotes ts) in
    let whole = ap (λ t. key ++ (codes " = [" ++ t)) (sym (append_assoc list (codes "]") (10 ∷ []))) in (
      codes "[" ++ (list ++ codes "]"),
      whole ∙ ap (λ k. k ++ (codes " = " ++ ((codes "[" ++ (list ++ codes "]")) ++ 10 ∷ []))) (sym bare_key),
      array_spelled ts h,
    )

-- the line of a number at a key that needs no quotes
pub number_line_spelled : (key : List ℕ) (n : ℕ) → key_text key ≡ key → n < 2 ^ 63
    → IsLineText false false ([], key) (key_value (integer (pos n))) (key ++ (codes " = " ++ (decimal n ++ codes "\n")))
number_line_spelled key n bare_key small =
    (decimal n, ap (λ k. k ++ (codes " = " ++ (decimal n ++ codes "\n"))) (sym bare_key), (refl, omega arith))

-- lines one after the other
pub data AreLines : List Expression → List ℕ → Type 0 where
  no_line : AreLines [] []
  line_then : {e : Expression} {es : List Expression} (this rest : List ℕ) → IsLineText false false e.0 e.1 this → AreLines es rest
      → AreLines (e ∷ es) (this ++ rest)

line_read : (m : ℕ) (doc : Document) (x : List ℕ) (e : Expression) (after : List ℕ) (es : List Expression) (defined : Option Document)
    → defined ≡ define doc e → 0 < m → (length (skip_blank x) == 0) ≡ false → line (skip_blank x) ≡ Some (e, after)
    → ((next : Document) → lines (m - 1) next after ≡ option_and_then (λ n. run n es) (Some next))
    → lines m doc x ≡ option_and_then (λ n. run n es) defined
line_read m doc x e after es None same some other read more = lines_refused m doc x e after some other read (sym same)
line_read m doc x e after es (Some next) same some other read more = lines_more m doc next x e after some other read (sym same) ∙ more next

pub lines_read : (es : List Expression) (text x : List ℕ) (doc : Document) (m : ℕ) → AreLines es text → AllPrinted es
    → skip_blank x ≡ skip_blank text → length x < m → lines m doc x ≡ run doc es
lines_read _ _ x doc m no_line ok skip room = lines_end m doc x (omega arith) (rw (skip, skip_from-nil true false) refl)
lines_read _ _ x doc m (line_then {e = e} {es = es} this rest line_text more) ok skip room =
    let (s, at_start, read, some, shorter, not_bom) = line_turn false false e.0 e.1 this rest line_text ok.0 in
    let same : skip_blank x ≡ s = skip ∙ at_start in
    let other : (length (skip_blank x) == 0) ≡ false = rw same (grind (arith, nat_tests)) in
    let within = skip_within x in
    line_read m doc x e (10 ∷ rest) es (define doc e) refl (omega arith) other (rw same read)
    (λ next. lines_read es rest (10 ∷ rest) next (m - 1) more ok.1 (skip_newline rest) (omega (arith, ap length same)))
