-- The lines of a listing are read as what they say.
use Rattle.std.proofs.Common.{◌≡◌, ℕ, ◌-◌, ◌^◌, ◌<◌, ◌≤◌, List, [], ◌∷◌, ◌++◌, suc, length, get_or, Option, Some, None, Bool, true, false}
use Rattle.std.proofs.Common.{not, ◌&&◌, ◌||◌, ◌==◌, cond, refl, ap, ◌∙◌, arith, Ok, nat_lt, codes, pos, negsuc, unwrap_or}
use Rattle.std.proofs.lemmas.Bool.Decides.{nat_tests}
use Rattle.std.specs.List.{list_all}
use Rattle.ebc_insn.specs.declared.Insn.{Insn}
use Rattle.ebc_insn.specs.Spelling.{WellFormed}
use Rattle.ebc_base.specs.Names.{continues_name, is_name}
use Rattle.asm_text.specs.declared.listing.Listed.TheVariants as listed
use Rattle.asm_text.specs.Numbers.{hex_text, hex_value, plain_value, digits_from, number, number_value}
use Rattle.asm_text.specs.Names.{label_text}
use Rattle.asm_text.specs.Splits.{keep, lacks, pieces, sole, trim, trim_back, trim_front, until, without_comment}
use Rattle.asm_text.specs.Instructions.{NameFits, insn_text}
use Rattle.asm_text.specs.Statements.{Statement, Code, Data, Global, Numbers, Place, Instruction, directive_of, each_number, numbers_of}
use Rattle.asm_text.specs.Statements.{name, starts_point, statement_of}
use Rattle.asm_text.specs.Lines.{is_ascii, is_ascii_byte, labelled, line_in, parted, statement_in, unlabelled}
use Rattle.asm_text.specs.Faults.{both, made}
use Rattle.asm_text.specs.Writing.{ReadsListed, ReadsWritten, listed_text, place_name}
use Rattle.asm_text.proofs.Digits.{hex_read}
use Rattle.asm_text.proofs.Pieces.{above, above_tidy, cut_none, hex_above, length_hex, until_first, until_none}
use Rattle.asm_text.proofs.PieceLaws.{cut_no}
use Rattle.asm_text.proofs.NameLaws.{name_tidy}
use Rattle.asm_text.proofs.Clean.{begins, clean, clean_append, clean_hex, clean_lacks, ends, glyph, glyphs, glyphs_text, ok}
use Rattle.asm_text.proofs.CleanLaws.{text_good}
use Rattle.asm_text.proofs.InsnLaws.{insn_again}
use Rattle.ebc_base.proofs.Truth.{three_true}
use Rattle.std.proofs.lemmas.Bool.{and_parts}
use Rattle.ebc_width.specs.Width.{signed_at}

-- ---- a clean line is its statement

ok_ascii : (b : ℕ) → ok b ≡ true → is_ascii_byte b ≡ true
ok_ascii b h = grind (arith, nat_tests)

ascii_clean : (t : List ℕ) → clean t ≡ true → is_ascii t ≡ true
unfolding clean is_ascii
ascii_clean [] h = refl
ascii_clean (b ∷ bs) h =
    let p = three_true (ok b) (not (ends b bs)) (clean bs) h in
    rw (ok_ascii b p.0, ascii_clean bs p.2) refl

last_kept : (t : Bool) (b : ℕ) → not (t && true) ≡ true → cond t [] (b ∷ []) ≡ b ∷ []
last_kept true b h = cc h
last_kept false b h = refl

ends_keep : (b : ℕ) (bs : List ℕ) → not (ends b bs) ≡ true → keep b bs ≡ b ∷ bs
ends_keep b [] h = last_kept (b == 32) b h
ends_keep b (c ∷ cs) h = refl

back_clean : (xs : List ℕ) → clean xs ≡ true → trim_back xs ≡ xs
unfolding clean trim_back
back_clean [] h = refl
back_clean (b ∷ bs) h =
    let p = three_true (ok b) (not (ends b bs)) (clean bs) h in
    rw (back_clean bs p.2) (ends_keep b bs p.1)

no_blank : (t : Bool) → not (false || t) ≡ true → t ≡ false
no_blank true h = cc h
no_blank false h = refl

front_clean : (xs : List ℕ) → begins xs ≡ true → trim_front xs ≡ xs
unfolding trim_front
front_clean [] h = cc h
front_clean (b ∷ bs) h = rw (no_blank (b == 32) h) refl

trim_clean : (t : List ℕ) → clean t ≡ true → begins t ≡ true → trim t ≡ t
trim_clean t c b = rw (front_clean t b) (back_clean t c)

bare_line : (t : List ℕ) → lacks 59 t ≡ true → without_comment t ≡ t
bare_line t h = ap (λ (o : Option (List ℕ × List ℕ)). (unwrap_or {T = List ℕ × List ℕ} o (t, [])).0) (until_none 59 t h)

-- the parts of a line without a comment
parts_of_line : (t : List ℕ) (o : Option (List ℕ × List ℕ)) → is_ascii t ≡ true → lacks 59 t ≡ true → until 58 t ≡ o
    → line_in t ≡ parted t o
unfolding line_in
parts_of_line t o ascii none is =
    let whole : parted (without_comment t) (until 58 (without_comment t)) ≡ parted t o = ap (λ u. parted u (until 58 u)) (bare_line t none)
    ∙ ap (parted t) is in
    rw ascii whole

line_clean : (t : List ℕ) (s : Statement) → clean t ≡ true → begins t ≡ true → statement_of t ≡ Ok s → line_in t ≡ Ok (unlabelled (Some s))
line_clean [] s c b is = cc b
line_clean (x ∷ xs) s c b is =
    let t : List ℕ = x ∷ xs in
    let stated : made unlabelled (statement_in (trim t)) ≡ Ok (unlabelled (Some s)) =
    ap (λ u. made unlabelled (statement_in u)) (trim_clean t c b) ∙ ap (λ r. made unlabelled (made Some r)) is in
    parts_of_line t None (ascii_clean t c) (clean_lacks 59 t refl c) (until_none 58 t (clean_lacks 58 t refl c)) ∙ stated

-- ---- labels

tail_glyph : (b : ℕ) → glyph b ≡ true → continues_name b ≡ true
tail_glyph b h = grind (arith, nat_tests)

tails : (bs : List ℕ) → glyphs bs ≡ true → list_all continues_name bs ≡ true
unfolding glyphs
tails [] h = refl
tails (b ∷ bs) h =
    let p = and_parts (glyph b) (glyphs bs) h in
    rw (tail_glyph b p.0, tails bs p.1) refl

pub label_is_name : (place : ℕ) → is_name (label_text place) ≡ true
unfolding is_name
label_is_name place = rw (length_hex 8 place, tails (hex_text 8 place) (glyphs_text 8 place)) refl

pub label_clean : (place : ℕ) → clean (label_text place) ≡ true
unfolding clean
label_clean place = rw (clean_hex 8 place) refl

pub lacks_both : (b : ℕ) (xs ys : List ℕ) → lacks b xs ≡ true → lacks b ys ≡ true → lacks b (xs ++ ys) ≡ true
unfolding lacks
lacks_both b [] ys h g = g
lacks_both b (x ∷ xs) ys h g =
    let p = and_parts (not (x == b)) (lacks b xs) h in
    rw (p.0, lacks_both b xs ys p.1 g) refl

ascii_both : (xs ys : List ℕ) → is_ascii xs ≡ true → is_ascii ys ≡ true → is_ascii (xs ++ ys) ≡ true
unfolding is_ascii
ascii_both [] ys h g = g
ascii_both (x ∷ xs) ys h g =
    let p = and_parts (is_ascii_byte x) (is_ascii xs) h in
    rw (p.0, ascii_both xs ys p.1 g) refl

label_lacks : (place : ℕ) → lacks 59 (label_text place ++ 58 ∷ []) ≡ true
unfolding lacks
label_lacks place = lacks_both 59 (label_text place) (58 ∷ []) (clean_lacks 59 (label_text place) refl (label_clean place)) refl

label_ascii : (place : ℕ) → is_ascii (label_text place ++ 58 ∷ []) ≡ true
unfolding is_ascii
label_ascii place = ascii_both (label_text place) (58 ∷ []) (ascii_clean (label_text place) (label_clean place)) refl

nothing_trimmed : trim [] ≡ []
unfolding trim_front trim_back
nothing_trimmed = refl

label_line : (place : ℕ) → line_in (label_text place ++ 58 ∷ []) ≡ Ok (record { label = Some (label_text place); statement = None })
label_line place =
    let t : List ℕ = label_text place ++ 58 ∷ [] in
    let named : name (trim_front (label_text place)) ≡ Ok (label_text place) = ap name (front_clean (label_text place) refl)
    ∙ rw (label_is_name place) refl in
    let bare : statement_in (trim []) ≡ Ok None = ap statement_in nothing_trimmed in
    let whole : made labelled (both (name (trim_front (label_text place))) (statement_in (trim []))) ≡ Ok
    (record { label = Some (label_text place); statement = None }) = ap (λ r. made labelled (both r (statement_in (trim [])))) named
    ∙ ap (λ r. made labelled (both (Ok (label_text place)) r)) bare in
    parts_of_line t (Some (label_text place, [])) (label_ascii place) (label_lacks place)
    (until_first 58 (label_text place) [] (clean_lacks 58 (label_text place) refl (label_clean place))) ∙ whole

-- ---- directives

global_read : (place : ℕ) → statement_of (codes ".global" ++ 32 ∷ label_text place) ≡ Ok (Global (label_text place))
unfolding statement_of lacks directive_of sole
global_read place =
    rw (until_first 32 (codes ".global") (label_text place) refl)
    (rw (cut_none (label_text place) (name_tidy (label_text place) (label_is_name place)), label_is_name place) refl)

place_read : (place : ℕ) → statement_of (codes ".dq" ++ 32 ∷ label_text place) ≡ Ok (Place (label_text place))
unfolding statement_of lacks directive_of
place_read place = rw (until_first 32 (codes ".dq") (label_text place) refl) (rw (label_is_name place) refl)

some_text : (t : List ℕ) (k : ℕ) → length t ≡ suc k → hex_value t ≡ digits_from 16 0 t
unfolding hex_value
some_text [] k h = absurd (omega (arith, h))
some_text (b ∷ bs) k h = refl

hex_plain : (k n : ℕ) → n < 16 ^ suc k → n < 2 ^ 64 → plain_value (48 ∷ 120 ∷ hex_text (suc k) n) ≡ Some n
unfolding plain_value
hex_plain k n small fits = rw (some_text (hex_text (suc k) n) k (length_hex (suc k) n), hex_read (suc k) n small fits) refl

fit_either : (t : Bool) (n bits : ℕ) → nat_lt n (2 ^ bits) ≡ true
    → cond t (Some (pos n)) (cond (nat_lt n (2 ^ bits)) (Some (negsuc (2 ^ bits - 1 - n))) None) ≡ Some
    (cond t (pos n) (negsuc (2 ^ bits - 1 - n)))
fit_either true n bits h = refl
fit_either false n bits h = rw h refl

hex_number : (k bits n : ℕ) → n < 16 ^ suc k → n < 2 ^ 64 → n < 2 ^ bits
    → number bits (48 ∷ 120 ∷ hex_text (suc k) n) ≡ Ok (signed_at bits n)
unfolding number_value
hex_number k bits n small fits within =
    let below : nat_lt n (2 ^ bits) ≡ true = grind (arith, nat_tests) in
    rw (hex_plain k n small fits, fit_either (nat_lt n (2 ^ (bits - 1))) n bits below) refl

hex_pieces : (k n : ℕ) → pieces (48 ∷ 120 ∷ hex_text k n) ≡ (48 ∷ 120 ∷ hex_text k n) ∷ []
unfolding above
hex_pieces k n = cut_no (48 ∷ 120 ∷ hex_text k n) (cut_none (48 ∷ 120 ∷ hex_text k n)
    (above_tidy (48 ∷ 120 ∷ hex_text k n) (hex_above k n)))

hex_numbers : (k bits n : ℕ) → n < 16 ^ suc k → n < 2 ^ 64 → n < 2 ^ bits
    → numbers_of bits (48 ∷ 120 ∷ hex_text (suc k) n) ≡ Ok (signed_at bits n ∷ [])
unfolding numbers_of each_number
hex_numbers k bits n small fits within = rw (hex_pieces (suc k) n, hex_number k bits n small fits within) refl

word_read : (n : ℕ) → n < 2 ^ 16 → statement_of (codes ".dw" ++ 32 ∷ 48 ∷ 120 ∷ hex_text 4 n) ≡ Ok (Numbers 16 (signed_at 16 n ∷ []))
unfolding statement_of lacks directive_of
word_read n small =
    rw (until_first 32 (codes ".dw") (48 ∷ 120 ∷ hex_text 4 n) refl)
    (rw (hex_numbers 3 16 n (omega (arith, small)) (omega (arith, small)) small) refl)

byte_read : (n : ℕ) → n < 2 ^ 8 → statement_of (codes ".db" ++ 32 ∷ 48 ∷ 120 ∷ hex_text 2 n) ≡ Ok (Numbers 8 (signed_at 8 n ∷ []))
unfolding statement_of lacks directive_of
byte_read n small =
    rw (until_first 32 (codes ".db") (48 ∷ 120 ∷ hex_text 2 n) refl)
    (rw (hex_numbers 1 8 n (omega (arith, small)) (omega (arith, small)) small) refl)

-- ---- the laws

no_point : (t : List ℕ) → 48 ≤ get_or t 0 0 → starts_point t ≡ false
no_point [] h = absurd (omega arith)
no_point (b ∷ bs) h = grind (arith, nat_tests)

insn_line : (i : Insn) (place : Option ℕ) → WellFormed i → NameFits i (place_name place)
    → line_in (insn_text i (place_name place)) ≡ Ok (unlabelled (Some (Instruction i (place_name place))))
unfolding statement_of
insn_line i place well named =
    let good = text_good i place well in
    line_clean (insn_text i (place_name place)) (Instruction i (place_name place)) good.clean good.begins
    (rw (no_point (insn_text i (place_name place)) good.high, insn_again i (place_name place) well named) refl)

pub reads_listed : ReadsListed
unfolding listed_text clean statement_of lacks directive_of until
reads_listed listed.Code fits = line_clean (codes ".code") Code refl refl refl
reads_listed listed.Data fits = line_clean (codes ".data") Data refl refl refl
reads_listed (listed.Label place) fits = label_line place
reads_listed (listed.Global place) fits = line_clean (codes ".global " ++ label_text place) (Global (label_text place))
    (clean_append (codes ".global L") (hex_text 8 place) refl (clean_hex 8 place)) refl (global_read place)
reads_listed (listed.Place place) fits = line_clean (codes ".dq " ++ label_text place) (Place (label_text place))
    (clean_append (codes ".dq L") (hex_text 8 place) refl (clean_hex 8 place)) refl (place_read place)
reads_listed (listed.Word n) fits = line_clean (codes ".dw 0x" ++ hex_text 4 n) (Numbers 16 (signed_at 16 n ∷ []))
    (clean_append (codes ".dw 0x") (hex_text 4 n) refl (clean_hex 4 n)) refl (word_read n fits)
reads_listed (listed.Byte n) fits = line_clean (codes ".db 0x" ++ hex_text 2 n) (Numbers 8 (signed_at 8 n ∷ []))
    (clean_append (codes ".db 0x") (hex_text 2 n) refl (clean_hex 2 n)) refl (byte_read n fits)
reads_listed (listed.Instruction i place) fits = insn_line i place fits.0 fits.1

pub reads_written : ReadsWritten
reads_written i name well named = insn_again i name well named
