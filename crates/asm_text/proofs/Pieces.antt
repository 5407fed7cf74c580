-- Where a text is cut.
use Rattle.std.proofs.Common.{take_all, append_assoc, drop-drop}
use Rattle.std.proofs.lemmas.List.{drop_all, drop_more, take_more}
use Rattle.asm_text.specs.Mnemonics.{stem_of, is_lower}
use Rattle.std.proofs.Common.{◌≡◌, ℕ, ◌+◌, ◌/◌, ◌%◌, ◌^◌, ◌<◌, ◌≤◌, List, [], ◌∷◌, ◌++◌, zero, suc, length, get_or, take, drop, Option}
use Rattle.std.proofs.Common.{Some, None, Bool, true, false, not, ◌&&◌, ◌||◌, ◌==◌, cond, refl, sym, ap, subst, ◌∙◌, arith, length-append}
use Rattle.std.proofs.Common.{option_map, nat_lt, nat_le}
use Rattle.std.proofs.lemmas.Bool.Decides.{nat_tests}
use Rattle.std.proofs.Math.Seq.{take-append_seam, drop-append-add}
use Rattle.std.proofs.lemmas.Fmt.{decimal_by_steps}
use Rattle.std.specs.List.{position_or_len, list_all}
use Rattle.std.specs.Fmt.{decimal}
use Rattle.asm_text.specs.Numbers.{hex_glyph, hex_text}
use Rattle.asm_text.specs.Splits.{until, lacks, is_empty}
use Rattle.asm_text.specs.Splits.{cut, starts_blank, starts_cut}
use Rattle.std.proofs.lemmas.Bool.{and_parts}

pub not_true : (a : Bool) → not a ≡ true → a ≡ false
not_true true h = cc h
not_true false h = refl

position_at : (b : ℕ) (xs ys : List ℕ) → lacks b xs ≡ true → position_or_len (λ x. x == b) (xs ++ b ∷ ys) ≡ length xs
unfolding lacks
position_at b [] ys h = let e : (b == b) ≡ true = grind (arith, nat_tests) in rw e refl
position_at b (x ∷ xs) ys h =
    let p = and_parts (not (x == b)) (list_all (λ x. not (x == b)) xs) h in
    rw (not_true (x == b) p.0, position_at b xs ys p.1) (omega arith)

pub until_at : (b : ℕ) (text : List ℕ) (i : ℕ) → position_or_len (λ x. x == b) text ≡ i → i < length text
    → until b text ≡ Some (take i text, drop (i + 1) text)
unfolding until
until_at b text i found within =
    let inside : nat_lt i (length text) ≡ true = grind (arith, nat_tests) in
    rw (found, inside) refl

pub until_gone : (b : ℕ) (text : List ℕ) → position_or_len (λ x. x == b) text ≡ length text → until b text ≡ None
unfolding until
until_gone b text none =
    let same : nat_lt (length text) (length text) ≡ false = grind (arith, nat_tests) in
    rw (none, same) refl

pub until_first : (b : ℕ) (xs ys : List ℕ) → lacks b xs ≡ true → until b (xs ++ b ∷ ys) ≡ Some (xs, ys)
unfolding until
until_first b xs ys h =
    let longer : nat_lt (length xs) (length (xs ++ b ∷ ys)) ≡ true = grind (arith, nat_tests, length-append) in
    rw (position_at b xs ys h, longer, take-append_seam xs (b ∷ ys), drop-append-add xs (b ∷ ys) 1) refl

nowhere : (b : ℕ) (xs : List ℕ) → lacks b xs ≡ true → position_or_len (λ x. x == b) xs ≡ length xs
unfolding lacks
nowhere b [] h = refl
nowhere b (x ∷ xs) h =
    let p = and_parts (not (x == b)) (list_all (λ x. not (x == b)) xs) h in
    rw (not_true (x == b) p.0, nowhere b xs p.1) (omega arith)

pub until_none : (b : ℕ) (xs : List ℕ) → lacks b xs ≡ true → until b xs ≡ None
unfolding until
until_none b xs h =
    let same : nat_lt (length xs) (length xs) ≡ false = grind (arith, nat_tests) in
    rw (nowhere b xs h, same) refl

-- ---- bytes from the digits on

unfoldable pub above : List ℕ → Bool
above [] = true
above (b ∷ bs) = nat_le 48 b && above bs

pub above_append : (xs ys : List ℕ) → above xs ≡ true → above ys ≡ true → above (xs ++ ys) ≡ true
unfolding above
above_append [] ys a b = b
above_append (x ∷ xs) ys a b =
    let p = and_parts (nat_le 48 x) (above xs) a in
    rw (p.0, above_append xs ys p.1 b) refl

above_digit : (d : ℕ) → above ((48 + d) ∷ []) ≡ true
unfolding above
above_digit d = let e : nat_le 48 (48 + d) ≡ true = grind (arith, nat_tests) in rw e refl

pub decimal_above : (n : ℕ) → n < 2 ^ 64 → above (decimal n) ≡ true
decimal_above n fits = decimal_by_steps (λ n ds. above ds ≡ true) (λ n small. above_digit n)
    (λ n ds big front. above_append ds ((48 + n % 10) ∷ []) front (above_digit (n % 10))) n fits

above_glyph : (b : Bool) (d : ℕ) → above (cond b (48 + d) (87 + d) ∷ []) ≡ true
unfolding above
above_glyph true d = above_digit d
above_glyph false d = let e : nat_le 48 (87 + d) ≡ true = grind (arith, nat_tests) in rw e refl

pub hex_above : (k n : ℕ) → above (hex_text k n) ≡ true
unfolding hex_text above
hex_above zero n = refl
hex_above (suc k) n = above_append (hex_text k (n / 16)) (hex_glyph (n % 16) ∷ []) (hex_above k (n / 16))
    (above_glyph (nat_lt (n % 16) 10) (n % 16))

pub above_lacks : (b : ℕ) (xs : List ℕ) → b < 48 → above xs ≡ true → lacks b xs ≡ true
unfolding above lacks
above_lacks b [] low h = refl
above_lacks b (x ∷ xs) low h =
    let p = and_parts (nat_le 48 x) (above xs) h in
    let p0 = p.0 in
    let other : (x == b) ≡ false = grind (arith, nat_tests) in
    rw (other, above_lacks b xs low p.1) refl

pub length_hex : (k n : ℕ) → length (hex_text k n) ≡ k
unfolding hex_text
length_hex zero n = refl
length_hex (suc k) n = let before = length_hex k (n / 16) in length-append (hex_text k (n / 16)) (hex_glyph (n % 16) ∷ [])
    ∙ rw before (omega arith)

-- ---- texts without a comma and a blank

-- Each comma stands before something that is no blank.
unfoldable pub tidy : List ℕ → Bool
tidy [] = true
tidy (b ∷ bs) = not (b == 44 && (is_empty bs || starts_blank bs)) && tidy bs

no_cut : (b : ℕ) (bs ys : List ℕ) → not (b == 44 && (is_empty bs || starts_blank bs)) ≡ true → (b == 44 && starts_blank (bs ++ ys)) ≡ false
no_cut b [] ys h = elim (b == 44) as (λ t. not (t && true) ≡ true → (t && starts_blank ys) ≡ false) [
  | true ↦ λ g. cc g
  | false ↦ λ g. refl
] h
no_cut b (c ∷ bs) ys h = not_true _ h

nothing_after : (bs : List ℕ) → bs ++ [] ≡ bs
nothing_after [] = refl
nothing_after (b ∷ bs) = ap (λ t. b ∷ t) (nothing_after bs)

pub cut_none : (xs : List ℕ) → tidy xs ≡ true → cut xs ≡ None
unfolding tidy cut
cut_none [] h = refl
cut_none (b ∷ bs) h =
    let p = and_parts _ (tidy bs) h in
    let here : (b == 44 && starts_blank bs) ≡ false = subst (λ t. (b == 44 && starts_blank t) ≡ false) (nothing_after bs)
    (no_cut b bs [] p.0) in
    rw (here, cut_none bs p.1) refl

pub cut_first : (xs ys : List ℕ) → tidy xs ≡ true → cut (xs ++ 44 ∷ 32 ∷ ys) ≡ Some (xs, ys)
unfolding tidy cut
cut_first [] ys h = refl
cut_first (b ∷ bs) ys h =
    let p = and_parts _ (tidy bs) h in
    rw (no_cut b bs (44 ∷ 32 ∷ ys) p.0, cut_first bs ys p.1) refl

one_false : (t e s : Bool) → not (t && true) ≡ true → not (t && (e || s)) ≡ true
one_false true e s h = cc h
one_false false e s h = refl

pub tidy_append : (xs ys : List ℕ) → tidy xs ≡ true → tidy ys ≡ true → tidy (xs ++ ys) ≡ true
unfolding tidy
tidy_append [] ys a b = b
tidy_append (x ∷ []) ys a b =
    let p = and_parts _ true a in
    rw (one_false (x == 44) (is_empty ys) (starts_blank ys) p.0, b) refl
tidy_append (x ∷ c ∷ xs) ys a b =
    let p = and_parts _ (tidy (c ∷ xs)) a in
    rw (p.0, tidy_append (c ∷ xs) ys p.1 b) refl

pub above_tidy : (xs : List ℕ) → above xs ≡ true → tidy xs ≡ true
unfolding above tidy
above_tidy [] h = refl
above_tidy (x ∷ xs) h =
    let p = and_parts (nat_le 48 x) (above xs) h in
    let p0 = p.0 in
    let other : (x == 44) ≡ false = grind (arith, nat_tests) in
    rw (other, above_tidy xs p.1) refl

-- ---- the stem of a word

pub stem_at : (word : List ℕ) (i : ℕ) → position_or_len is_lower word ≡ i → stem_of word ≡ (take i word, drop i word)
unfolding stem_of
stem_at word i found = rw found refl

pub stem_gone : (word : List ℕ) → position_or_len is_lower word ≡ length word → stem_of word ≡ (word, [])
unfolding stem_of
stem_gone word none = rw (none, take_all (length word) word (omega arith), drop_all (length word) word (omega arith)) refl

-- ---- the place of a cut

-- what stands before p is put before its first part
abbrev pub onto : List ℕ → List ℕ × List ℕ → List ℕ × List ℕ
onto front p = (front ++ p.0, p.1)

again : (o : Option (List ℕ × List ℕ)) (front : List ℕ) (b : ℕ)
    → option_map (onto front) (option_map (onto (b ∷ [])) o) ≡ option_map (onto (front ++ b ∷ [])) o
again None front b = refl
again (Some p) front b = rw (append_assoc front (b ∷ []) p.0) refl

cut_step : (b : ℕ) (bs : List ℕ) → starts_cut (b ∷ bs) ≡ false → cut (b ∷ bs) ≡ option_map (onto (b ∷ [])) (cut bs)
unfolding cut
cut_step b bs other = rw other refl

cut_start : (b : ℕ) (bs : List ℕ) → starts_cut (b ∷ bs) ≡ true → cut (b ∷ bs) ≡ Some ([], drop 1 bs)
unfolding cut
cut_start b bs here = rw here refl

pub cut_more : (i : ℕ) (text : List ℕ) (r : Option (List ℕ × List ℕ)) → i < length text → starts_cut (drop i text) ≡ false
    → option_map (onto (take i text)) (cut (drop i text)) ≡ r → option_map (onto (take (i + 1) text)) (cut (drop (i + 1) text)) ≡ r
cut_more i text r within other so_far =
    let b : ℕ = get_or text i 0 in
    let apart : drop i text ≡ b ∷ drop (i + 1) text = drop_more text i 0 within in
    let front : take (i + 1) text ≡ take i text ++ b ∷ [] = take_more text i 0 within in
    let here : starts_cut (b ∷ drop (i + 1) text) ≡ false = subst (λ t. starts_cut t ≡ false) apart other in
    let step : cut (drop i text) ≡ option_map (onto (b ∷ [])) (cut (drop (i + 1) text)) = ap cut apart
    ∙ cut_step b (drop (i + 1) text) here in
    let whole : option_map (onto (take i text)) (cut (drop i text)) ≡ option_map (onto (take i text ++ b ∷ [])) (cut (drop (i + 1) text)) =
    ap (λ o. option_map (onto (take i text)) o) step ∙ again (cut (drop (i + 1) text)) (take i text) b in
    subst (λ t. option_map (onto t) (cut (drop (i + 1) text)) ≡ r) (sym front) (sym whole ∙ so_far)

pub cut_here : (i : ℕ) (text : List ℕ) (r : Option (List ℕ × List ℕ)) → i < length text → starts_cut (drop i text) ≡ true
    → option_map (onto (take i text)) (cut (drop i text)) ≡ r → Some (take i text, drop (i + 2) text) ≡ r
cut_here i text r within here so_far =
    let b : ℕ = get_or text i 0 in
    let apart : drop i text ≡ b ∷ drop (i + 1) text = drop_more text i 0 within in
    let step : cut (drop i text) ≡ Some ([], drop 1 (drop (i + 1) text)) = ap cut apart
    ∙ cut_start b (drop (i + 1) text) (subst (λ t. starts_cut t ≡ true) apart here) in
    let two : drop 1 (drop (i + 1) text) ≡ drop (i + 2) text = drop-drop 1 (i + 1) text
    ∙ ap (λ k. drop k text) {x = i + 1 + 1} {y = i + 2} (omega arith) in
    let whole : option_map (onto (take i text)) (cut (drop i text)) ≡ Some (take i text, drop (i + 2) text) =
    ap (λ o. option_map (onto (take i text)) o) step ∙ rw (nothing_after (take i text), two) refl in
    sym whole ∙ so_far

pub cut_done : (i : ℕ) (text : List ℕ) (r : Option (List ℕ × List ℕ)) → length text ≤ i
    → option_map (onto (take i text)) (cut (drop i text)) ≡ r → None ≡ r
unfolding cut
cut_done i text r past so_far =
    let step : option_map (onto (take i text)) (cut (drop i text)) ≡ None = rw (drop_all i text past) refl in
    sym step ∙ so_far

same : (o : Option (List ℕ × List ℕ)) → option_map (onto []) o ≡ o
same None = refl
same (Some p) = refl
