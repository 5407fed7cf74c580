-- Laws of the top frame: arguments that are written one after another, and what they are read as.
use Rattle.std.proofs.Common.{◌≡◌, ℕ, ◌+◌, ◌-◌, ◌*◌, ◌<◌, List, [], ◌∷◌, ◌++◌, length, reverse, drop, set, get_or, refl, sym, ap, ◌∙◌}
use Rattle.std.proofs.Common.{arith, subst, Option, Some}
use Rattle.std.specs.Prelude.{IsSomeAnd}
use Rattle.std.proofs.lemmas.List.{length-reverse, get_or-reverse}
use Rattle.std.proofs.lemmas.Option.{slice_get-get_or}
use Rattle.frame_stack.specs.Frames.{frame_at, from_bottom, with_slot}
use Rattle.frame_stack.specs.declared.Frame.{Frame}
use Rattle.frame_stack.proofs.WordLaws.{length-words}
use Rattle.callex_thunk.specs.Slots.{with_arguments}

-- The bytes tell each frame, as those of a region do.
pub record IsTold (b : ℕ → ℕ) (fs : List Frame) : Type 0 where
  pub frames : (i : ℕ) (f : Frame) → from_bottom fs i ≡ Some f → frame_at b (224 * i) ≡ f

-- the frame above all others is the last one from the bottom
pub from_bottom-top : (f : Frame) (fs : List Frame) → from_bottom (f ∷ fs) (length fs) ≡ Some f
unfolding from_bottom
from_bottom-top f fs =
    let less : length fs < length (reverse (f ∷ fs)) = rw (length-reverse (f ∷ fs)) (omega arith) in
    let last : length (f ∷ fs) - 1 - length fs ≡ 0 = omega arith in
    slice_get-get_or (reverse (f ∷ fs)) (length fs) f less ∙ ap Some
    (get_or-reverse (f ∷ fs) (length fs) f (omega arith) ∙ ap (λ k. get_or (f ∷ fs) k f) last)

-- so the top one has 16 slots
pub slots-told : (b : ℕ → ℕ) (f : Frame) (fs : List Frame) → IsTold b (f ∷ fs) → length f.slots ≡ 16
unfolding frame_at
slots-told b f fs told =
    ap (λ (g : Frame). length g.slots) (sym (told.frames (length fs) f (from_bottom-top f fs))) ∙ length-words b (224 * length fs + 96) 16

set-seam : (xs ys : List ℕ) (v : ℕ) → length xs < length ys → set (xs ++ drop (length xs) ys) (length xs) v ≡ (xs ++ v ∷ [])
    ++ drop (length (xs ++ v ∷ [])) ys
set-seam [] [] v less = absurd (omega arith)
set-seam [] (y ∷ ys) v less = refl
set-seam (x ∷ xs) [] v less = absurd (omega arith)
set-seam (x ∷ xs) (y ∷ ys) v less = ap (λ zs. x ∷ zs) (set-seam xs ys v (omega arith))

-- no argument yet
pub with_arguments-none : (fs : List Frame) → with_arguments [] fs ≡ fs
unfolding with_arguments
with_arguments-none [] = refl
with_arguments-none (f ∷ fs) = refl

-- one argument more
pub with_arguments-more : (b : ℕ → ℕ) (fs : List Frame) (xs : List ℕ) (v : ℕ) → IsTold b fs → length xs < 16
    → with_slot (length xs) v (with_arguments xs fs) ≡ with_arguments (xs ++ v ∷ []) fs
unfolding with_arguments with_slot
with_arguments-more b [] xs v told less = refl
with_arguments-more b (f ∷ fs) xs v told less =
    let count = slots-told b f fs told in
    ap (λ ss. record f { slots = ss } ∷ fs) (set-seam xs f.slots v (omega (arith, count)))

pub copied-some : (o : Option (List ℕ)) (xs : List ℕ) (fs gs : List Frame) → o ≡ Some xs → gs ≡ with_arguments xs fs
    → IsSomeAnd o (λ numbers. gs ≡ with_arguments numbers fs)
copied-some o xs fs gs some is = subst (λ v. IsSomeAnd v (λ numbers. gs ≡ with_arguments numbers fs)) (sym some) is
