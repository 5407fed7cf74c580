-- Where the objects of a run's memory begin, and what lies there.
use Rattle.std.proofs.Common.{◌≡◌, ℕ, zero, suc, ◌+◌, ◌*◌, ◌-◌, ◌^◌, ◌<◌, ◌≤◌, Bool, true, false, cond, List, [], ◌∷◌, ◌++◌, length, take}
use Rattle.std.proofs.Common.{Option, Some, None, ◌⊎◌, inl, inr, ltb, refl, sym, ap, ◌∙◌, subst, arith, slice_get, if◌then◌else◌}
use Rattle.std.specs.List.{find, flat_map, range_with_len}
use Rattle.std.specs.Option.{option_and_then, option_map}
use Rattle.std.proofs.lemmas.Bool.{cases_lt, lt-ltb, ltb-true}
use Rattle.std.proofs.lemmas.Grind.{flat_map-append}
use Rattle.std.proofs.lemmas.List.{append-nil}
use Rattle.std.proofs.lemmas.Option.{none-some, same_Some, slice_get_within}
use Rattle.ebc_width.specs.Ranges.{Range, covers}
use Rattle.ebc_width.specs.Width.{IsWidth}
use Rattle.object_memory.specs.Memory.{first_base, padded, ranges}
use Rattle.note_types.specs.Concrete.{Concrete, rest_from, rest_of}
use Rattle.note_types.specs.declared.notes.Notes.{Notes}
use Rattle.note_types.specs.declared.notes.Static.{Static}
use Rattle.note_types.specs.declared.shape.Shape.{Shape}
use Rattle.pe_image.proofs.Numbered.{range_join}
use Rattle.pe_image.specs.Images.{IsImage}
use Rattle.pe_image.specs.declared.image.Image.{Image}
use Rattle.host_model.specs.RunState.{RunState}
use Rattle.host_model.specs.World.{World}
use Rattle.twin_run.specs.Runner.{IsRunner}
use Rattle.twin_run.specs.declared.runner.Runner.{Runner}
use Rattle.run_trace.specs.Pointed.{IsReached, base_of, bytes_of, object_at, of_64_bits, size_of}
use Rattle.run_trace.specs.Walks.{AreInRow, RunsImage}
use Rattle.run_trace.proofs.ChangedLaws.{ends-within}
use Rattle.run_trace.proofs.RunnerLaws.{runner-in-row}
use Rattle.run_trace.proofs.WalkLaws.{at-base, first-is, past, size-is}

-- ---- a walk

pub reached-first : (base : ℕ) (objects : List Range) → AreInRow base objects → IsReached objects 0 base
reached-first base objects row =
    record {
      coming = objects;
      row = row;
      same = λ j. ap (slice_get objects) (let e : 0 + j ≡ j = omega arith in e);
      holder = λ a least. refl;
    }

-- Each of these objects ends among the addresses of 64 bits.
abbrev pub EndWithin : List Range → Type 0
EndWithin rs = (k : ℕ) (r : Range) → slice_get rs k ≡ Some r → r.base + r.size ≤ 2 ^ 64

module _ (s : Concrete) (objects : List Range) (its : s.objects ≡ objects) (base k : ℕ) where
  lies-there : (walk : IsReached objects k base)
      → rest_from s base ≡ option_map (rest_of s.byte base) (find (covers base 1) walk.coming)
  lies-there walk = at-base s base walk.coming (ap (find (covers base 1)) its ∙ walk.holder base (omega arith))

  pub reached-next : (bytes : List ℕ) → IsReached objects k base → rest_from s base ≡ Some bytes
      → IsReached objects (k + 1) (base + padded (length bytes))
  reached-next bytes walk found = next walk.coming walk.row walk.same walk.holder (sym (lies-there walk) ∙ found) where
    next : (coming : List Range) → AreInRow base coming → ((j : ℕ) → slice_get objects (k + j) ≡ slice_get coming j)
        → ((a : ℕ) → base ≤ a → find (covers a 1) objects ≡ find (covers a 1) coming)
        → option_map (rest_of s.byte base) (find (covers base 1) coming) ≡ Some bytes
        → IsReached objects (k + 1) (base + padded (length bytes))
    next [] row same holder found = absurd (none-some bytes found)
    next (r ∷ rs) (at, (some, row)) same holder found =
        let size = size-is s base bytes r rs (at, (some, row)) found in
        record {
          coming = rs;
          row = subst (λ n. AreInRow (base + padded n) rs) (sym size) row;
          same = λ j. ap (slice_get objects) (let e : k + 1 + j ≡ k + suc j = omega arith in e) ∙ same (suc j);
          holder = λ a above. holder a (omega (arith, above))
              ∙ ap (λ b. cond b (Some r) (find (covers a 1) rs)) (past r a (omega (arith, at, size, above)));
        }

  -- where no object comes any more there is none of this number or a later one
  none-of : (number : ℕ) → k ≤ number → (coming : List Range) → ((j : ℕ) → slice_get objects (k + j) ≡ slice_get coming j)
      → coming ≡ [] → None ≡ base_of s number
  none-of number later coming same none =
      let there : slice_get s.objects number ≡ None =
      ap (λ rs. slice_get rs number) its ∙ (ap (slice_get objects) (let e : number ≡ k + (number - k) = omega (arith, later) in e)
      ∙ same (number - k)) ∙ ap (λ rs. slice_get rs (number - k)) none in
      sym (ap (option_map (λ (r : Range). r.base)) there)

  -- so it is where nothing lies
  pub reached-none : (number : ℕ) → k ≤ number → IsReached objects k base → rest_from s base ≡ None → None ≡ base_of s number
  reached-none number later walk none =
      none-of number later walk.coming walk.same (over walk.coming walk.row (sym (lies-there walk) ∙ none))
    where
      over : (coming : List Range) → AreInRow base coming
          → option_map (rest_of s.byte base) (find (covers base 1) coming) ≡ None → coming ≡ []
      over [] row none = refl
      over (r ∷ rs) row none = absurd (none-some _ (sym none ∙ first-is s base r rs row))

  -- and past the addresses of 64 bits
  pub reached-far : (number : ℕ) → k ≤ number → IsReached objects k base → EndWithin objects → 2 ^ 64 ≤ base → None ≡ base_of s number
  reached-far number later walk ends far =
      none-of number later walk.coming walk.same (over walk.coming walk.row walk.same)
    where
      over : (coming : List Range) → AreInRow base coming → ((j : ℕ) → slice_get objects (k + j) ≡ slice_get coming j) → coming ≡ []
      over [] row same = refl
      over (r ∷ rs) (at, (some, row)) same =
          let most = ends (k + 0) r (same 0) in
          absurd (omega (arith, at, some, most, far))

  -- where something lies the object of this number begins
  pub reached-base : (bytes : List ℕ) → IsReached objects k base → rest_from s base ≡ Some bytes → base_of s k ≡ Some base
  reached-base bytes walk found = at-first walk.coming walk.row walk.same (sym (lies-there walk) ∙ found) where
    at-first : (coming : List Range) → AreInRow base coming → ((j : ℕ) → slice_get objects (k + j) ≡ slice_get coming j)
        → option_map (rest_of s.byte base) (find (covers base 1) coming) ≡ Some bytes → base_of s k ≡ Some base
    at-first [] row same found = absurd (none-some bytes found)
    at-first (r ∷ rs) (at, rest) same found =
        ap (option_map (λ (q : Range). q.base)) (ap (λ qs. slice_get qs k) its
        ∙ (ap (slice_get objects) (let e : k ≡ k + 0 = omega arith in e) ∙ same 0)) ∙ ap Some at

-- ---- numbers of 64 bits

pub far-64 : (a : ℕ) → 2 ^ 64 ≤ a → None ≡ of_64_bits (Some a)
far-64 a least = either (ltb a (2 ^ 64)) refl where
  either : (b : Bool) → ltb a (2 ^ 64) ≡ b → None ≡ (if b then Some a else None)
  either false is = refl
  either true is = let less = ltb-true a (2 ^ 64) is in absurd (omega (arith, least, less))

pub within-64 : (a : ℕ) → a < 2 ^ 64 → Some a ≡ of_64_bits (Some a)
within-64 a less = ap (λ b. if b then Some a else None) (sym (lt-ltb a (2 ^ 64) less))

-- a number that has 64 bits is that number
pub is-64 : (o : Option ℕ) (a : ℕ) → Some a ≡ of_64_bits o → o ≡ Some a
is-64 None a is = absurd (none-some a (sym is))
is-64 (Some b) a is = either (ltb b (2 ^ 64)) is where
  either : (t : Bool) → Some a ≡ (if t then Some b else None) → Some b ≡ Some a
  either false is = absurd (none-some a (sym is))
  either true is = sym is

-- where a number has no 64 bits it is none, or it lies past them
past-64 : (o : Option ℕ) (a : ℕ) → None ≡ of_64_bits o → o ≡ Some a → 2 ^ 64 ≤ a
past-64 o a none is = either (cases_lt a (2 ^ 64)) where
  either : (a < 2 ^ 64) ⊎ (2 ^ 64 ≤ a) → 2 ^ 64 ≤ a
  either (inl less) = absurd (none-some a (none ∙ (ap of_64_bits is ∙ sym (within-64 a less))))
  either (inr least) = least

-- ---- the objects of a run

in-row : (base j : ℕ) (rs : List Range) (q : Range) → AreInRow base rs → slice_get rs j ≡ Some q → (base + 16 * j ≤ q.base) × (0 < q.size)
in-row base j [] q row g = absurd (none-some q g)
in-row base zero (r ∷ rs) q (at, (some, row)) g =
    let e = ap (λ (p : Range). p.base) (same_Some r q g) in
    let n = ap (λ (p : Range). p.size) (same_Some r q g) in
    (omega (arith, at, e), omega (arith, some, n))
in-row base (suc j) (r ∷ rs) q (at, (some, row)) g =
    let later = in-row (base + padded r.size) j rs q row g in
    let least = later.0 in
    (omega (arith, least), later.1)

-- where an object begins has 64 bits, as the number of its bytes has, 16 for each object before it
begins-within : (rs : List Range) (base number a : ℕ) → AreInRow base rs → EndWithin rs → (o : Option Range) → slice_get rs number ≡ o
    → option_map (λ (r : Range). r.base) o ≡ Some a → (a < 2 ^ 64) × (16 * number ≤ a)
begins-within rs base number a row ends None there is = absurd (none-some a is)
begins-within rs base number a row ends (Some q) there is =
    let least = (in-row base number rs q row there).0 in
    let some = (in-row base number rs q row there).1 in
    let most = ends number q there in
    let e = same_Some q.base a is in
    (omega (arith, some, most, e), omega (arith, least, e))

module _ (w : ℕ) (image : Image) (world : World) (x : Runner w) (s : RunState) (h : IsWidth w) (read : IsImage image)
    (size : world.image_size ≡ image.size) (is : IsRunner w world x s) where
  pub lie-in : s.machine.objects ≡ ranges x.mem
  lie-in = sym (ap (λ (c : Concrete). c.objects) is.at.machine)

  pub ends : EndWithin (ranges x.mem)
  ends = ends-within w image world x s h read size is

  begins : RunsImage w x → (number a : ℕ) → base_of s.machine number ≡ Some a → (a < 2 ^ 64) × (16 * number ≤ a)
  begins runs number a there =
      begins-within (ranges x.mem) (first_base w) number a (runner-in-row w x runs h) ends (slice_get (ranges x.mem) number) refl
      (ap (λ rs. option_map (λ (r : Range). r.base) (slice_get rs number)) (sym lie-in) ∙ there)

  pub base-64 : RunsImage w x → (number : ℕ) → base_of s.machine number ≡ of_64_bits (base_of s.machine number)
  base-64 runs number = by (base_of s.machine number) refl where
    by : (o : Option ℕ) → base_of s.machine number ≡ o → o ≡ of_64_bits o
    by None there = refl
    by (Some a) there = within-64 a (begins runs number a there).0

  pub base-none : RunsImage w x → (number : ℕ) → 2 ^ 64 ≤ number → None ≡ of_64_bits (base_of s.machine number)
  base-none runs number far = by (base_of s.machine number) refl where
    by : (o : Option ℕ) → base_of s.machine number ≡ o → None ≡ of_64_bits o
    by None there = refl
    by (Some a) there =
        let less = (begins runs number a there).0 in
        let least = (begins runs number a there).1 in
        absurd (omega (arith, far, less, least))

  -- past the addresses of 64 bits nothing lies
  pub rest-past : (a : ℕ) → 2 ^ 64 ≤ a → rest_from s.machine a ≡ None
  unfolding rest_from
  rest-past a far =
      ap (option_map (rest_of s.machine.byte a)) (ap (find (covers a 1)) lie-in ∙ none-past (ranges x.mem) ends)
    where
      none-past : (rs : List Range) → EndWithin rs → find (covers a 1) rs ≡ None
      none-past [] within = refl
      none-past (r ∷ rs) within =
          let most = within 0 r refl in
          ap (λ b. cond b (Some r) (find (covers a 1) rs)) (past r a (omega (arith, most, far)))
          ∙ none-past rs (λ k q. within (suc k) q)

  -- so nothing lies past a base that hasn't 64 bits
  pub none-from : (o : Option ℕ) (more : ℕ) (f : List ℕ → List ℕ) → None ≡ of_64_bits o
      → None ≡ option_map f (option_and_then (λ base. rest_from s.machine (base + more)) o)
  none-from o more f none = by o refl where
    by : (p : Option ℕ) → o ≡ p → None ≡ option_map f (option_and_then (λ base. rest_from s.machine (base + more)) p)
    by None is = refl
    by (Some a) is =
        let far = past-64 o a none is in
        sym (ap (option_map f) (rest-past (a + more) (omega (arith, far))))

-- ---- typed objects

-- a static object lies at its place in the image
pub static-place : (notes : Notes) (s : Concrete) (object : ℕ) (t : Static) → slice_get notes.statics object ≡ Some t
    → option_map (λ base. base + t.place) (base_of s 2) ≡ object_at notes s object
static-place notes s object t there =
    let less = slice_get_within notes.statics object t there in
    sym (ap (λ b. if b then option_and_then placed (base_of s 2) else base_of s (3 + (object - length notes.statics)))
    (lt-ltb object (length notes.statics) less) ∙ same (base_of s 2))
  where
    placed : ℕ → Option ℕ
    placed base = option_map (λ (u : Static). base + u.place) (slice_get notes.statics object)

    same : (o : Option ℕ) → option_and_then placed o ≡ option_map (λ base. base + t.place) o
    same None = refl
    same (Some b) = ap (option_map (λ (u : Static). b + u.place)) there

-- the bytes of an instance are what lies as far past where its object begins
pub bytes-found : (w : ℕ) (notes : Notes) (s : Concrete) (shape : Shape) (count object instance at size left : ℕ) (o : Option (List ℕ))
    → size ≡ size_of w shape → left ≡ count - instance → Some at ≡ of_64_bits (object_at notes s object)
    → o ≡ rest_from s (at + instance * size)
    → option_map (λ bytes. take (left * size) bytes) o ≡ bytes_of w notes s shape count object instance
bytes-found w notes s shape count object instance at size left o sized rest there is =
    ap (option_map (λ bytes. take (left * size) bytes)) is
    ∙ (λ i. option_map (λ bytes. take (rest i * sized i) bytes) (rest_from s (at + instance * sized i)))
    ∙ sym (ap (λ p. option_map (λ bytes. take ((count - instance) * size_of w shape) bytes)
    (option_and_then (λ base. rest_from s (base + instance * size_of w shape)) p)) (is-64 (object_at notes s object) at there))

-- ---- lines

pub arguments-more : (f : ℕ → List ℕ) (n : ℕ) → flat_map f (range_with_len 0 (n + 1)) ≡ flat_map f (range_with_len 0 n) ++ f n
arguments-more f n =
    ap (flat_map f) (range_join 0 n 1) ∙ (flat_map-append f (range_with_len 0 n) (range_with_len (0 + n) 1)
    ∙ ap (λ xs. flat_map f (range_with_len 0 n) ++ xs) (append-nil (f (0 + n)) ∙ ap f (let e : 0 + n ≡ n = omega arith in e)))
