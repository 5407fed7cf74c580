-- What the neutral machine reads at a place is decoded there.
use Rattle.step_sound.proofs.Common.{◌≡◌, ℕ, zero, suc, ◌+◌, ◌-◌, ◌<◌, ◌≤◌, length, Some, Ok, Err, sym, ap, ◌∙◌, subst, arith, same_Some}
use Rattle.step_sound.proofs.Common.{none-some, read, spelling, Insn, window, instruction_at, or_none, image_byte}
use Rattle.std.proofs.{Common.Result, lemmas.List.Elements.All-from_get_or}
use Rattle.ebc_decode.specs.declared.DecodeFault.{DecodeFault}
use Rattle.ebc_decode.proofs.{Laws.read_length, Laws.read_spells, Numbers.IsBytes}
use Rattle.ebc_width.proofs.ByteLaws.{length-window, take-window}
use Rattle.step_sound.specs.Loaded.{ReadIsDecoded}
use Rattle.rules_image.proofs.Decoding.{decoded_at}

-- ---- windows

window_bytes : (b : ℕ → ℕ) → ((x : ℕ) → b x < 256) → (a n : ℕ) → IsBytes (window b a n)
unfolding window
window_bytes b small a zero i = omega arith
window_bytes b small a (suc n) zero = small a
window_bytes b small a (suc n) (suc i) = window_bytes b small (a + 1) n i

-- ---- what is read

or_none-some : (r : Result (Insn × ℕ) DecodeFault) (x : Insn × ℕ) → or_none r ≡ Some x → r ≡ Ok x
or_none-some (Ok y) x e = ap Ok (same_Some y x e)
or_none-some (Err f) x e = absurd (none-some x e)

pub read_is_decoded : ReadIsDecoded
unfolding instruction_at
read_is_decoded image f place i n small e fits =
    let b : ℕ → ℕ = image_byte image in
    let k : ℕ = image.size - place in
    let r : read (window b place k) ≡ Ok (i, n) = or_none-some (read (window b place k)) (i, n) e in
    let s = read_spells (window b place k) i n (window_bytes b small place k) r in
    let l = read_length (window b place k) i n r in
    let short : n ≤ k = subst (λ z. n ≤ z) (length-window b place k) l.1 in
    let spelled : spelling i ≡ window b place n = sym s.same_bytes ∙ take-window b place n k short in
    let long : length (spelling i) ≡ n = ap length spelled ∙ length-window b place n in
    let rest : ℕ = f.end - place in
    decoded_at image f place (place + n) i
    (All-from_get_or (λ b. b < 256) (window b place rest) 0 (λ k l. window_bytes b small place rest k))
    (record {
      well_formed = s.well_formed;
      spelled = spelled ∙ ap (window b place) (sym long);
      next_is = ap (λ z. place + z) (sym long);
      within = fits;
    })
