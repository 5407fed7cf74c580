-- Numbers and bytes at an offset of a file, by what stands there.
use Rattle.std.proofs.Common.{◌≡◌, ℕ, ◌+◌, List, take, drop, sym, ap, ◌∙◌, arith}
use Rattle.std.specs.Prelude.{slice_index}
use Rattle.std.proofs.lemmas.List.{get_or-drop, drop-drop}
use Rattle.ebc_width.proofs.ByteLaws.{little_endian-moved}
use Rattle.pe_image.specs.Fields.{bytes_at, number_at}

number_at-drop : (n : ℕ) (file : List ℕ) (at c : ℕ) → number_at file n (at + c) ≡ number_at (drop at file) n c
unfolding number_at
number_at-drop n file at c =
    little_endian-moved (slice_index file) (slice_index (drop at file)) (at + c) c n
    (λ i below. ap (slice_index file) (omega arith) ∙ sym (get_or-drop at file (c + i) 0))

-- what stands at an offset, where the file from a lower one on is known
pub number_from : (n : ℕ) (file bytes : List ℕ) (at c p : ℕ) → drop at file ≡ bytes → at + c ≡ p → number_at file n p ≡ number_at bytes n c
number_from n file bytes at c p is place = ap (number_at file n) (sym place) ∙ (number_at-drop n file at c ∙ ap (λ f. number_at f n c) is)

pub bytes_from : (file bytes : List ℕ) (at c n p : ℕ) → drop at file ≡ bytes → at + c ≡ p → bytes_at file p n ≡ bytes_at bytes c n
unfolding bytes_at
bytes_from file bytes at c n p is place =
    ap (λ q. take n (drop q file)) (sym place) ∙ (ap (take n) (sym (drop-drop c at file)) ∙ ap (λ f. take n (drop c f)) is)
