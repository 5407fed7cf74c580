-- What the rules let be stored fits the cell that it is stored to.
use Rattle.typing_laws.proofs.Common.{◌≡◌, ℕ, ◌+◌, ◌-◌, ◌^◌, ◌<◌, ◌≤◌, Bool, true, false, ◌&&◌, ◌||◌, nat_le, nat_eq, refl, ap, ◌∙◌, subst}
use Rattle.typing_laws.proofs.Common.{arith, inl, inr, ⊎_elim, pos, lt-ltb, le-leb, eq-eqb, and_from, false≢true, is_below, IsBoundedCell}
use Rattle.typing_laws.proofs.Common.{content_type, IsBounded, Cell, Ty, is_below_exact, stores, takes, is_int, Neutral, plain, OrNull}
use Rattle.typing_laws.proofs.Common.{IsPointer, FitsPlain, instance_of, fits_cell}
use Rattle.std.proofs.lemmas.Bool.{or_left, or_right}
use Rattle.rules_base.specs.declared.access.Access.{Access}
use Rattle.neutral_machine.specs.{Locations.fits_bits, Locations.is_error, Locations.is_instance, Locations.room_if, Operations.is_null}
use Rattle.neutral_machine.proofs.CellTakes.{bits_fit}
use Rattle.typing_laws.proofs.{Rows.one_divides, Objects.ObjectsFit, Objects.start_is, Objects.instance_is, FitsBelow.fits_below}
use Rattle.typing_laws.proofs.{Views.View, Views.FitsIn}
use Rattle.neutral_machine.specs.Locations as locations

-- a number's type is within the bits of an access
abbrev pub Within : Access → Ty → Type 0
Within Access.Byte (Ty.Int lo hi div) = hi < 2 ^ 8
Within Access.Word (Ty.Int lo hi div) = hi < 2 ^ 16
Within Access.Dword (Ty.Int lo hi div) = hi < 2 ^ 32
Within _ _ = Unit {0}

module _ (view : View) (ok : ObjectsFit view.notes view.m.objects) where
  open view use {notes, m}

  -- what fits a content type here fits it in every frame
  pub content_plain : (c : Cell) (v : Neutral) → FitsIn view (content_type c) v → FitsPlain notes m.objects (content_type c) v
  content_plain Cell.Stat v f = ⊎_elim (λ e. inl e) (λ s. inr s.0) f
  content_plain c v f = f

  instance_fits : (s k : ℕ) (v : Neutral) → 1 ≤ k → IsPointer notes m.objects s k (pos 0) (pos 0) v
      → is_instance m.objects s k (instance_of notes m.objects v) ≡ true
  instance_fits s k v l f =
      let q = start_is notes m.objects ok s k v l f in
      ap (is_instance m.objects s k) (instance_is notes m.objects ok s k v q l) ∙ ap (room_if s k q.j) q.there
      ∙ and_from (nat_eq q.object.shape s) (nat_le (q.j + k) q.object.count) (eq-eqb q.object.shape s q.shape)
      (le-leb (q.j + k) q.object.count q.room)

  pointer_fits : (s k : ℕ) (may : Bool) (v : Neutral) → 1 ≤ k → OrNull may v (IsPointer notes m.objects s k (pos 0) (pos 0) v)
      → (is_instance m.objects s k (instance_of notes m.objects v) || (may && is_null v)) ≡ true
  pointer_fits s k true v l f = ⊎_elim (λ p. or_left _ (is_null v) (instance_fits s k v l p))
      (λ e. or_right (is_instance m.objects s k (instance_of notes m.objects v)) (is_null v) (ap is_null e)) f
  pointer_fits s k false v l f = or_left _ false (instance_fits s k v l f)

  -- what fits a cell's content type is taken by the cell
  pub content_fits : (c : Cell) (v : Neutral) → IsBoundedCell c → FitsIn view (content_type c) v → fits_cell notes m.objects c v ≡ true
  unfolding fits_cell
  content_fits Cell.I8 v k f = bits_fit 8 f.x v f.is (omega (arith, f.to)) (omega arith)
  content_fits Cell.I16 v k f = bits_fit 16 f.x v f.is (omega (arith, f.to)) (omega arith)
  content_fits Cell.I32 v k f = bits_fit 32 f.x v f.is (omega (arith, f.to)) (omega arith)
  content_fits Cell.I64 v k f = bits_fit 64 f.x v f.is (omega (arith, f.to)) (omega arith)
  content_fits Cell.N v k f = bits_fit 32 f.x v f.is (omega (arith, f.to)) (omega arith)
  content_fits Cell.Stat v k f = ⊎_elim
      (λ e. or_right (fits_bits 31 (plain v)) (is_error v) (ap is_error e.is ∙ lt-ltb e.code (2 ^ 31) e.small))
      (λ s. or_left (fits_bits 31 (plain v)) (is_error v) (bits_fit 31 s.0.code v s.0.is s.0.small (omega arith))) f
  content_fits Cell.Handle v k f = ⊎_elim (λ e. ap (λ z. locations.is_handle z || is_null z) e.is)
      (λ e. ap (λ z. locations.is_handle z || is_null z) e) f
  content_fits Cell.Entry v k f = ⊎_elim (λ e. ap (λ z. locations.is_entry z || is_null z) e.is)
      (λ e. ap (λ z. locations.is_entry z || is_null z) e) f
  content_fits (Cell.Ptr s k may) v l f = pointer_fits s k may v l.1 f
  content_fits (Cell.P64 s k may) v l f = pointer_fits s k may v l.1 f
  content_fits (Cell.Method n) v k f = ap (locations.is_method n) f ∙ eq-eqb n n refl

  below_content : (c : Cell) (t : Ty) (v : Neutral) → is_below t (content_type c) ≡ true → FitsIn view t v → FitsIn view (content_type c) v
  below_content c t v e f = fits_below view t (content_type c) v ((is_below_exact t (content_type c)).0 e) f

  int_content : (c : Cell) (t : Ty) (v : Neutral) (top : ℕ) → is_int t ≡ true → ((lo hi div : ℕ) → t ≡ Ty.Int lo hi div → hi ≤ top)
      → FitsIn view t v → FitsIn view (Ty.Int 0 top 1) v
  int_content c (Ty.Int lo hi div) v top e h f = let l = h lo hi div refl in
      record { x = f.x; is = f.is; from = omega arith; to = omega (arith, f.to, l); divided = one_divides f.x }
  int_content c _ v top e h f = absurd (false≢true e)

  within_Byte : (t : Ty) (lo hi div : ℕ) → t ≡ Ty.Int lo hi div → Within Access.Byte t → hi ≤ 2 ^ 8 - 1
  within_Byte t lo hi div q w = let l : hi < 2 ^ 8 = subst (Within Access.Byte) q w in omega (arith, l)

  within_Word : (t : Ty) (lo hi div : ℕ) → t ≡ Ty.Int lo hi div → Within Access.Word t → hi ≤ 2 ^ 16 - 1
  within_Word t lo hi div q w = let l : hi < 2 ^ 16 = subst (Within Access.Word) q w in omega (arith, l)

  within_Dword : (t : Ty) (lo hi div : ℕ) → t ≡ Ty.Int lo hi div → Within Access.Dword t → hi ≤ 2 ^ 32 - 1
  within_Dword t lo hi div q w = let l : hi < 2 ^ 32 = subst (Within Access.Dword) q w in omega (arith, l)

  bounded : (t : Ty) (lo hi div : ℕ) → t ≡ Ty.Int lo hi div → IsBounded t → hi ≤ 2 ^ 64 - 1
  bounded t lo hi div q w = let z = subst IsBounded q w in let l = z.1 in omega (arith, l)

  -- What the rules let be stored to a cell fits its content type.
  pub taken_fits : (a : Access) (c : Cell) (t : Ty) (v : Neutral) → stores a c ≡ true → takes c t ≡ true → Within a t → IsBounded t
      → FitsIn view t v → FitsIn view (content_type c) v
  taken_fits Access.Byte Cell.I8 t v e h w b f = int_content Cell.I8 t v (2 ^ 8 - 1) h (λ lo hi div q. within_Byte t lo hi div q w) f
  taken_fits Access.Word Cell.I16 t v e h w b f = int_content Cell.I16 t v (2 ^ 16 - 1) h (λ lo hi div q. within_Word t lo hi div q w) f
  taken_fits Access.Dword Cell.I32 t v e h w b f = int_content Cell.I32 t v (2 ^ 32 - 1) h (λ lo hi div q. within_Dword t lo hi div q w) f
  taken_fits Access.Qword Cell.I64 t v e h w b f = int_content Cell.I64 t v (2 ^ 64 - 1) h (λ lo hi div q. bounded t lo hi div q b) f
  taken_fits Access.Qword (Cell.P64 s k may) t v e h w b f = below_content (Cell.P64 s k may) t v h f
  taken_fits Access.Form64 Cell.I64 t v e h w b f = int_content Cell.I64 t v (2 ^ 64 - 1) h (λ lo hi div q. bounded t lo hi div q b) f
  taken_fits Access.Form64 (Cell.P64 s k may) t v e h w b f = below_content (Cell.P64 s k may) t v h f
  taken_fits Access.Natural Cell.N t v e h w b f = below_content Cell.N t v h f
  taken_fits Access.Natural Cell.Stat t v e h w b f = below_content Cell.Stat t v h f
  taken_fits Access.Natural Cell.Handle t v e h w b f = below_content Cell.Handle t v h f
  taken_fits Access.Natural Cell.Entry t v e h w b f = below_content Cell.Entry t v h f
  taken_fits Access.Natural (Cell.Ptr s k may) t v e h w b f = below_content (Cell.Ptr s k may) t v h f
  taken_fits Access.Signed Cell.I8 t v e h w b f = absurd (false≢true e)
  taken_fits a c t v e h w b f = absurd (false≢true e)
