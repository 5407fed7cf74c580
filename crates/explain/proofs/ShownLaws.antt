-- What is shown is lines without other controls.
use Rattle.std.proofs.Common.{◌≡◌, ℕ, ◌+◌, ◌/◌, ◌%◌, ◌<◌, ◌≤◌, Bool, true, false, cond, ◌||◌, ◌&&◌, ◌==◌, List, [], ◌∷◌, ◌++◌}
use Rattle.std.proofs.Common.{length, get_or, drop, codes, refl, sym, ap, ◌∙◌}
use Rattle.std.proofs.Common.{append_assoc, arith}
use Rattle.std.specs.Char.{encode_utf8}
use Rattle.std.specs.List.{flat_map, list_all}
use Rattle.std.specs.Str.{encode_utf8_all}
use Rattle.std.proofs.lemmas.Grind.{common_steps}
use Rattle.std.proofs.lemmas.List.{append-nil, drop_more}
use Rattle.std.proofs.lemmas.List.Folds.{list_all-append}
use Rattle.std.proofs.lemmas.Str.{encodes-append, encode_ascii}
use Rattle.note_texts.specs.KeyTexts.{escape_of, hex_digit}
use Rattle.explain.specs.Shown.{IsShown, is_control, is_lined, shown_char}

-- nothing, and the end of a line
pub nothing-shown : IsShown []
nothing-shown = record { characters = []; spelled = refl; lined = refl }

pub end-shown : IsShown (10 ∷ [])
unfolding encode_utf8
end-shown = record { characters = 10 ∷ []; spelled = refl; lined = refl }

-- two texts, one after the other
pub joined-shown : (a b : List ℕ) → IsShown a → IsShown b → IsShown (a ++ b)
joined-shown a b p q = record {
  characters = p.characters ++ q.characters;
  spelled = rw (p.spelled, q.spelled) (sym (encodes-append p.characters q.characters));
  lined = rw (list_all-append is_lined p.characters q.characters, p.lined, q.lined) refl;
}

-- a hexadecimal digit is no control
digit-bounds : (n : ℕ) → n < 16 → (47 < hex_digit n) × (hex_digit n < 103)
digit-bounds n h = grind arith

-- a character that isn't below a blank, and is ASCII other than U+007F
plain-lined : (c : ℕ) → 31 < c → c < 127 → is_lined c ≡ true
plain-lined c low high = grind arith

-- a text that may have been added to
pub added-shown : (done : Bool) (a b : List ℕ) → IsShown a → IsShown b → IsShown (cond done (a ++ b) a)
added-shown true a b p q = joined-shown a b p q
added-shown false a b p q = p

other-lined : (b : Bool) → ((b || true) && true) ≡ true
other-lined true = refl
other-lined false = refl

-- a control as it is shown
control-shown : (c : ℕ) → is_control c ≡ true → IsShown (escape_of c)
unfolding encode_utf8
control-shown c h =
    let below : c < 160 = grind arith in
    let high : c / 16 < 16 = omega arith in
    let low : c % 16 < 16 = omega arith in
    let x = digit-bounds (c / 16) high in
    let y = digit-bounds (c % 16) low in
    record {
      characters = escape_of c;
      spelled = rw (encode_ascii (hex_digit (c / 16)) (omega (arith, x)), encode_ascii (hex_digit (c % 16)) (omega (arith, y))) refl;
      lined =
          rw (plain-lined (hex_digit (c / 16)) (omega (arith, x)) (omega (arith, x)))
          (rw (plain-lined (hex_digit (c % 16)) (omega (arith, y)) (omega (arith, y))) refl);
    }

-- a character that is no control
other-shown : (c : ℕ) → is_control c ≡ false → IsShown (encode_utf8 c)
other-shown c h = record {
  characters = c ∷ [];
  spelled = sym (append-nil (encode_utf8 c));
  lined = rw h (other-lined (c == 10));
}

-- a character as it is shown
pub char-shown : (c : ℕ) → IsShown (shown_char c)
unfolding shown_char
char-shown c = by_control (is_control c) refl
  where
    by_control : (b : Bool) → is_control c ≡ b → IsShown (cond b (escape_of c) (encode_utf8 c))
    by_control true h = control-shown c h
    by_control false h = other-shown c h

-- one character more
pub shown-more : (cs out total : List ℕ) (n c : ℕ) → (n < length cs) × (c ≡ get_or cs n c) → out ++ flat_map shown_char (drop n cs) ≡ total
    → (out ++ shown_char c) ++ flat_map shown_char (drop (n + 1) cs) ≡ total
shown-more cs out total n c at so_far =
    let next : drop n cs ≡ c ∷ drop (n + 1) cs = drop_more cs n c at.0 ∙ ap (λ x. x ∷ drop (n + 1) cs) (sym at.1) in
    let joined : (out ++ shown_char c) ++ flat_map shown_char (drop (n + 1) cs) ≡ out
    ++ (shown_char c ++ flat_map shown_char (drop (n + 1) cs)) = simp append_assoc in
    joined ∙ (ap (λ xs. out ++ flat_map shown_char xs) (sym next) ∙ so_far)

-- no character is left
pub shown-done : (cs out total : List ℕ) (n : ℕ) → length cs ≤ n → out ++ flat_map shown_char (drop n cs) ≡ total → out ≡ total
shown-done cs out total n past so_far =
    let none : drop n cs ≡ [] = grind (arith, common_steps) in
    sym (append-nil out) ∙ (ap (λ xs. out ++ flat_map shown_char xs) (sym none) ∙ so_far)
