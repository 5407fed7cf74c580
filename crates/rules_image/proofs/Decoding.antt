-- The instruction at a place is one: what is read of a function's bytes there, and what is spelled there.
use Rattle.std.proofs.Common.{◌≡◌, ℕ, ◌+◌, ◌-◌, ◌<◌, ◌≤◌, List, ◌++◌, length, drop, sym, ap, ◌∙◌, arith, length-drop, refl, subst, Ok}
use Rattle.std.specs.Prelude.{All}
use Rattle.std.proofs.lemmas.List.{ext_get_or, get_or-drop}
use Rattle.std.proofs.lemmas.List.Elements.{All-from_get_or, All-get_or}
use Rattle.std.proofs.lemmas.Grind.{common_steps}
use Rattle.ebc_width.specs.Bytes.{window}
use Rattle.ebc_width.proofs.ByteLaws.{get_or-window, length-window, window-append, take-window}
use Rattle.ebc_insn.specs.declared.Insn.{Insn}
use Rattle.ebc_insn.specs.Spelling.{WellFormed, spelling}
use Rattle.ebc_decode.specs.Reading.{read}
use Rattle.ebc_decode.proofs.Again.{read_again}
use Rattle.ebc_decode.proofs.Laws.{read_length, read_spells}
use Rattle.ebc_decode.proofs.Numbers.{IsBytes, IsBytes-drop}
use Rattle.ebc_decode.proofs.Parts.{same_ok}
use Rattle.note_types.specs.declared.notes.FnNote.{FnNote}
use Rattle.pe_image.specs.declared.image.Image.{Image}
use Rattle.rules_image.specs.Images.{IsDecoded, rest_of}
use Rattle.rules_image.specs.Spelled.{IsSpelledAt}
use Rattle.rules_image.specs.Tables.{IsCodeOf}
use Rattle.pe_image.specs.Mapped.{image_byte}

-- ---- what is spelled

-- what is decoded at a place is spelled there
pub spelled_at : (image : Image) (f : FnNote) (place next : ℕ) (i : Insn) → IsDecoded image f place i next
    → IsSpelledAt image f place i next
spelled_at image f place next i d =
    let b : ℕ → ℕ = image_byte image in
    let size : ℕ = d.size in
    let s = read_spells (rest_of image f place) i size (each_byte (rest_of image f place) d.bytes) d.reading in
    let l = read_length (rest_of image f place) i size d.reading in
    let short : size ≤ f.end - place = omega (arith, l, length-window b place (f.end - place)) in
    let spelled : spelling i ≡ window b place size = sym s.same_bytes ∙ take-window b place size (f.end - place) short in
    let long : length (spelling i) ≡ size = ap length spelled ∙ length-window b place size in
    record {
      well_formed = s.well_formed;
      spelled = spelled ∙ ap (window b place) (sym long);
      next_is = d.next_is ∙ ap (λ k. place + k) (sym long);
      within = d.within;
    }
  where
    each_byte : (xs : List ℕ) → All (λ b. b < 256) xs → IsBytes xs
    each_byte xs all k = grind (arith, common_steps, All-get_or (λ b. b < 256) xs k 0)

-- and the function's bytes from there on begin with it
spelled_first : (image : Image) (f : FnNote) (place next : ℕ) (i : Insn) → IsSpelledAt image f place i next
    → spelling i ++ window (image_byte image) next (f.end - next) ≡ rest_of image f place
spelled_first image f place next i d =
    let n : ℕ = length (spelling i) in
    let b : ℕ → ℕ = image_byte image in
    let at : next ≡ place + n = d.next_is in
    ap (λ ys. ys ++ window b next (f.end - next)) d.spelled
    ∙ ap (λ k. window b place n ++ window b k (f.end - next)) at
    ∙ sym (window-append b place n (f.end - next))
    ∙ ap (λ k. window b place k) {x = n + (f.end - next)} {y = f.end - place} (let w = d.within in omega arith)

-- what is spelled at a place of bytes is decoded there
pub decoded_at : (image : Image) (f : FnNote) (place next : ℕ) (i : Insn) → All (λ b. b < 256) (rest_of image f place)
    → IsSpelledAt image f place i next → IsDecoded image f place i next
decoded_at image f place next i bytes d = record {
  size = length (spelling i);
  bytes = bytes;
  reading = ap read (sym (spelled_first image f place next i d))
      ∙ read_again i (window (image_byte image) next (f.end - next)) d.well_formed;
  next_is = d.next_is;
  within = d.within;
}

-- an instruction and the next place are those of their place
pub decoded_once : (image : Image) (f : FnNote) (place : ℕ) (i j : Insn) (n m : ℕ) → IsDecoded image f place i n
    → IsDecoded image f place j m → (i ≡ j) × (n ≡ m)
decoded_once image f place i j n m d e =
    let same = same_ok (i, d.size) (j, e.size) (sym d.reading ∙ e.reading) in
    (ap (λ p. p.0) same, d.next_is ∙ (ap (λ p. place + p.1) same ∙ sym e.next_is))

-- ---- the code of a function

-- the rest of the code is what lies from the place on
code_from : (image : Image) (f : FnNote) (code : List ℕ) (place : ℕ) → IsCodeOf image f code → f.place ≤ place → place ≤ f.end
    → drop (place - f.place) code ≡ rest_of image f place
code_from image f code place c low high =
    let k : ℕ = place - f.place in
    let size = c.size in
    let long : length (drop k code) ≡ f.end - place = omega (arith, length-drop k code) in
    ext_get_or 0 (drop k code) (window (image_byte image) place (f.end - place))
    (long ∙ sym (length-window (image_byte image) place (f.end - place)))
    (λ i within.
    let inside : i < f.end - place = omega arith in
    get_or-drop k code i 0
    ∙ c.bytes (k + i) (omega arith)
    ∙ ap (image_byte image) {x = f.place + (k + i)} {y = place + i} (omega arith)
    ∙ sym (get_or-window (image_byte image) place (f.end - place) i 0 inside))

-- what is read there is the instruction of the place
pub is_decoded : (image : Image) (f : FnNote) (code : List ℕ) (place : ℕ) (i : Insn) (n : ℕ) → IsCodeOf image f code → IsBytes code
    → f.place ≤ place → place ≤ f.end → Ok (i, n) ≡ read (drop (place - f.place) code) → place - f.place + n ≤ length code
    → IsDecoded image f place i (place + n)
is_decoded image f code place i n c small low high is fits =
    let size = c.size in
    let whole : drop (place - f.place) code ≡ rest_of image f place = code_from image f code place c low high in
    record {
      size = n;
      bytes = subst (All (λ b. b < 256)) whole
          (All-from_get_or (λ b. b < 256) (drop (place - f.place) code) 0 (λ k l. IsBytes-drop (place - f.place) code small k));
      reading = ap read (sym whole) ∙ sym is;
      next_is = refl;
      within = omega arith;
    }

-- where nothing is read there is no instruction
pub not_decoded : (image : Image) (f : FnNote) (code : List ℕ) (place : ℕ) → IsCodeOf image f code → f.place ≤ place → place ≤ f.end
    → ((i : Insn) (rest : List ℕ) → WellFormed i → drop (place - f.place) code ≡ spelling i ++ rest → ⊥)
    → (i : Insn) (next : ℕ) → IsDecoded image f place i next → ⊥
not_decoded image f code place c low high none i next d =
    let s = spelled_at image f place next i d in
    none i _ s.well_formed (code_from image f code place c low high ∙ sym (spelled_first image f place next i s))
