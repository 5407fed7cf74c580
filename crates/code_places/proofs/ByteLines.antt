-- The digits of bytes, one byte after the other.
use Rattle.std.proofs.Common.{◌≡◌, ℕ, ◌+◌, ◌-◌, ◌<◌, ◌≤◌, zero, suc, List, [], ◌∷◌, ◌++◌, append_assoc, append-nil, refl, ap}
use Rattle.std.proofs.Common.{sym, ◌∙◌, arith}
use Rattle.std.proofs.Common.{get_or, length, take}
use Rattle.std.specs.List.{flat_map}
use Rattle.std.proofs.lemmas.Grind.{flat_map-append}
use Rattle.std.proofs.lemmas.List.{take_more}
use Rattle.pe_image.specs.declared.image.Image.{Image}
use Rattle.pe_image.specs.Mapped.{image_byte}
use Rattle.asm_text.specs.Numbers.{hex_text}
use Rattle.code_places.specs.Places.{bytes_text}

next_byte : (image : Image) (x n : ℕ) → 1 ≤ n → bytes_text image x n ≡ hex_text 2 (image_byte image x) ++ bytes_text image (x + 1) (n - 1)
unfolding bytes_text
next_byte image x zero some = absurd (omega arith)
next_byte image x (suc n) some = let less : suc n - 1 ≡ n = omega arith in rw less refl

-- the digits of one byte more
pub more_bytes : (image : Image) (x y n m byte : ℕ) (old new whole : List ℕ) → 1 ≤ n → y ≡ x + 1 → m ≡ n - 1 →
    byte ≡ image_byte image x → new ≡ old ++ hex_text 2 byte → old ++ bytes_text image x n ≡ whole → new ++ bytes_text image y m ≡ whole
more_bytes image x y n m byte old new whole some behind fewer is put before =
    let rest : List ℕ = bytes_text image (x + 1) (n - 1) in
    ap (λ t. new ++ t) (ap (λ z. bytes_text image z m) behind ∙ ap (λ k. bytes_text image (x + 1) k) fewer)
    ∙ (ap (λ t. t ++ rest) put
    ∙ (append_assoc old (hex_text 2 byte) rest
    ∙ (ap (λ z. old ++ (hex_text 2 z ++ rest)) is
    ∙ (ap (λ t. old ++ t) (sym (next_byte image x n some)) ∙ before))))

pub no_bytes : (image : Image) (x n : ℕ) (old whole : List ℕ) → n ≡ 0 → old ++ bytes_text image x n ≡ whole → old ≡ whole
unfolding bytes_text
no_bytes image x zero old whole none before = sym (append-nil old) ∙ before
no_bytes image x (suc n) old whole none before = absurd (omega (arith, none))

-- the texts of one item more
pub more_texts : {A : Type 0} (f : A → List ℕ) (xs : List A) (i : ℕ) (x : A) (old new : List ℕ) → i < length xs → x ≡ get_or xs i x →
    old ≡ flat_map f (take i xs) → new ≡ old ++ f x → new ≡ flat_map f (take (i + 1) xs)
more_texts f xs i x old new short is before put =
    let one : take (i + 1) xs ≡ take i xs ++ x ∷ [] = take_more xs i x short ∙ ap (λ t. take i xs ++ t ∷ []) (sym is) in
    let single : flat_map f (x ∷ []) ≡ f x = append-nil (f x) in
    put ∙ (ap (λ t. t ++ f x) before
    ∙ (ap (λ ls. flat_map f (take i xs) ++ ls) (sym single)
    ∙ (sym (flat_map-append f (take i xs) (x ∷ [])) ∙ ap (flat_map f) (sym one))))
