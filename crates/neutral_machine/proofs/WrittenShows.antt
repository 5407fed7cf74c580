-- A written value has at each width the number of its neutral value.
use Rattle.neutral_machine.proofs.Common.{◌≡◌, ℕ, ◌+◌, ◌*◌, ◌%◌, ◌^◌, ◌<◌, List, Option, Some, None, refl, sym, ap, ◌∙◌, arith, slice_get}
use Rattle.neutral_machine.proofs.Common.{mod-eq_of_lt, option_map_or, written_number, TypedObject, shape_of, Placement, object_at}
use Rattle.neutral_machine.proofs.Common.{shape_bytes, size_at, Notes, Value, Named, Junk, Addresses, Shows, number, word, written_value}
use Rattle.neutral_machine.proofs.Common.{instance_value}
use Rattle.neutral_machine.specs.WrittenLaw.{IsValue, WrittenShows}
use Rattle.neutral_machine.proofs.Words.{word_pair}
use Rattle.note_types.specs.declared.types.Ty.TheVariants as ty
use Rattle.note_types.specs.declared.value.Value.TheVariants as value

module _ (w : ℕ) (notes : Notes) (P : Placement) (made : List TypedObject) (A : Addresses) (ok : Named w notes P made A) where
  -- a plain number shows as itself
  pub plain_shows : (n : ℕ) → n < 2 ^ 64 → Shows w A (number n) n
  plain_shows n l = sym (ap (λ z. z % 2 ^ 64) (let e : 0 * w + n ≡ n = omega arith in e) ∙ mod-eq_of_lt l)

  -- an instance of an object shows as its address
  instance_shows : (o i : ℕ) (x : TypedObject) → slice_get made o ≡ Some x
      → Shows w A (instance_value o i (shape_of notes x.shape)) (word (object_at notes P o + i * shape_bytes w notes x.shape))
  instance_shows o i x there =
      let s = shape_of notes x.shape in
      let pair : object_at notes P o + i * size_at w s ≡ object_at notes P o + (i * s.n * w + i * s.c) = omega arith in
      record {
        from = object_at notes P o;
        there = ok.objects o x there;
        is = ap word pair ∙ sym (word_pair w ok.width (i * s.n) (i * s.c) (object_at notes P o));
      }

  pointer_in : (o i : ℕ) (q : Option TypedObject) → slice_get made o ≡ q
      → Shows w A (option_map_or (λ (x : TypedObject). instance_value o i (shape_of notes x.shape)) q Junk)
      ((object_at notes P o + i * option_map_or (λ (y : TypedObject). shape_bytes w notes y.shape) q 0) % 2 ^ 64)
  pointer_in o i None there = tt
  pointer_in o i (Some x) there = instance_shows o i x there

  -- a written value shows as its number
  pub written_shows : (v : Value) → IsValue notes v → Shows w A (written_value notes made v) (written_number w notes P made v)
  unfolding written_value written_number
  written_shows (value.Int n) h = plain_shows n h
  written_shows (value.Size n c) h = refl
  written_shows (value.Ptr o i) h = pointer_in o i (slice_get made o) refl
  written_shows value.Null h = plain_shows 0 (omega arith)
  written_shows (value.StatusOk k) h = plain_shows k (omega (arith, h))
  written_shows (value.StatusError k) h = (h, refl)
  written_shows (value.Handle k) h = ok.handles k h
  written_shows (value.Entry f) h = ok.entries f h
  written_shows (value.Method m) h = ok.methods m h
  written_shows t h = tt

  -- and so it does as any type
  pub value_shows : WrittenShows w notes P made A
  value_shows ty.Any v h = tt
  value_shows t v h = written_shows v h
