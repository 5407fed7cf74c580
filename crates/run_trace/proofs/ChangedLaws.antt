-- The lines of what a run has changed, one object after the other, and that no object lies past all addresses.
use Rattle.std.proofs.Common.{◌≡◌, ℕ, zero, suc, ◌+◌, ◌-◌, ◌*◌, ◌^◌, ◌<◌, ◌≤◌, cond, List, [], ◌∷◌, ◌++◌, length, drop, Some, None}
use Rattle.std.proofs.Common.{refl, sym, ap, ◌∙◌, subst, arith, append_assoc, inl, inr, slice_get}
use Rattle.std.specs.List.{find}
use Rattle.std.specs.Option.{option_map, option_map_or}
use Rattle.std.proofs.lemmas.Bool.{cases_lt}
use Rattle.std.proofs.lemmas.List.{append-nil}
use Rattle.std.proofs.lemmas.Option.{none-some, slice_get_within}
use Rattle.ebc_width.specs.Ranges.{Range, covers}
use Rattle.ebc_width.specs.Width.{IsWidth}
use Rattle.ebc_width.proofs.Laws.{by_width}
use Rattle.object_memory.specs.Memory.{padded, ranges}
use Rattle.pe_image.specs.Images.{IsImage}
use Rattle.pe_image.specs.declared.image.Image.{Image}
use Rattle.note_types.specs.Concrete.{Concrete, rest_from, rest_of}
use Rattle.note_types.specs.declared.notes.Notes.{Notes}
use Rattle.host_model.specs.Placements.{own_placement}
use Rattle.host_model.specs.RunState.{RunState}
use Rattle.host_model.specs.World.{World}
use Rattle.neutral_machine.proofs.Ranges.{ranges_lie_as_memory}
use Rattle.step_sound.proofs.Read.{objects_have_room}
use Rattle.twin_run.specs.Runner.{IsRunner}
use Rattle.twin_run.specs.declared.runner.Runner.{Runner}
use Rattle.twin_run.proofs.OwnPlacement.{own_placement_is_valid}
use Rattle.run_trace.specs.Changes.{bytes_at, changed_lines, object_lines, objects_lines}
use Rattle.run_trace.specs.Walks.{AreInRow}
use Rattle.run_trace.proofs.WalkLaws.{at-base, first-is, past, size-is}

-- ---- where objects lie

-- The objects of a run end within 64 bits.
pub ends-within : (w : ℕ) (image : Image) (world : World) (x : Runner w) (s : RunState) → IsWidth w → IsImage image
    → world.image_size ≡ image.size → IsRunner w world x s → (k : ℕ) (q : Range) → slice_get (ranges x.mem) k ≡ Some q
    → q.base + q.size ≤ 2 ^ 64
ends-within w image world x s h read size is k q there =
    let serving = is.at.serving in
    let entry = read.entry in
    let some : 0 < world.image_size = omega (arith, entry, size) in
    let entered : world.notes.entry < length world.notes.function =
    slice_get_within world.notes.function world.notes.entry serving.read.entry.0 serving.read.entry.1 in
    let valid = own_placement_is_valid w image world h read size serving.read
    (objects_have_room world.notes world.script serving.scripted) in
    let lies = ranges_lie_as_memory w world (own_placement w world) h serving.scripted some entered valid x.host.entries in
    let most = (lies.inside k q (subst (λ rs. slice_get rs k ≡ Some q) is.at.memory.objects there)).1 in
    let wide : 2 ^ (8 * w) ≤ 2 ^ 64 = by_width (λ v. 2 ^ (8 * v) ≤ 2 ^ 64) w h (omega arith) (omega arith) in
    omega (arith, most, wide)

-- ---- the bytes at a base

pub bytes-there : (s : Concrete) (base : ℕ) (bytes : List ℕ) → rest_from s base ≡ Some bytes → bytes_at s base ≡ bytes
bytes-there s base bytes found = ap (λ o. option_map_or (λ l. l) o []) found

pub no-bytes : (s : Concrete) (base : ℕ) → rest_from s base ≡ None → bytes_at s base ≡ []
no-bytes s base none = ap (λ o. option_map_or (λ l. l) o []) none

-- ---- lists

rest-next : {A : Type 0} (k : ℕ) (xs : List A) (y : A) (ys : List A) → drop k xs ≡ y ∷ ys → drop (k + 1) xs ≡ ys
rest-next zero xs y ys is = ap (drop 1) is
rest-next (suc k) [] y ys is = absurd (omega (arith, ap length is))
rest-next (suc k) (x ∷ xs) y ys is =
    let next : suc k + 1 ≡ suc (k + 1) = omega arith in
    ap (λ n. drop n (x ∷ xs)) next ∙ rest-next k xs y ys is

rest-at : {A : Type 0} (k : ℕ) (xs : List A) (y : A) (ys : List A) → drop k xs ≡ y ∷ ys → slice_get xs k ≡ Some y
rest-at zero xs y ys is = ap (λ l. slice_get l 0) is
rest-at (suc k) [] y ys is = absurd (omega (arith, ap length is))
rest-at (suc k) (x ∷ xs) y ys is = rest-at k xs y ys is

drop-none : (k : ℕ) (rs : List Range) → rs ≡ [] → drop k rs ≡ []
drop-none zero rs none = none
drop-none (suc k) rs none = ap (drop (suc k)) none

-- ---- the lines of objects

-- the lines of the objects that are still to come, of which the first has this number; the first two of all aren't told
abbrev pub rest_lines : Notes → (old new : Concrete) → ℕ → List Range → List ℕ
rest_lines notes a b object rs = objects_lines notes a b (2 + (object - 2)) (drop (2 - object) rs)

rest-untold : (notes : Notes) (a b : Concrete) (object : ℕ) (r : Range) (rs : List Range) → object < 2
    → rest_lines notes a b object (r ∷ rs) ≡ rest_lines notes a b (object + 1) rs
rest-untold notes a b object r rs less =
    let number : 2 + (object - 2) ≡ 2 + (object + 1 - 2) = omega (arith, less) in
    let left : 2 - object ≡ suc (2 - (object + 1)) = omega (arith, less) in
    λ i. objects_lines notes a b (number i) (drop (left i) (r ∷ rs))

rest-told : (notes : Notes) (a b : Concrete) (object base : ℕ) (r : Range) (rs : List Range) (bytes : List ℕ) → 2 ≤ object
    → r.base ≡ base → bytes_at b base ≡ bytes
    → rest_lines notes a b object (r ∷ rs)
    ≡ object_lines notes base object (bytes_at a base) bytes ++ rest_lines notes a b (object + 1) rs
unfolding objects_lines
rest-told notes a b object base r rs bytes least at is =
    let number : 2 + (object - 2) ≡ object = omega (arith, least) in
    let left : 2 - object ≡ 0 = omega (arith, least) in
    let next : suc object ≡ 2 + (object + 1 - 2) = omega (arith, least) in
    let none : 0 ≡ 2 - (object + 1) = omega (arith, least) in
    (λ i. objects_lines notes a b (number i) (drop (left i) (r ∷ rs)))
    ∙ (λ i. object_lines notes (at i) object (bytes_at a (at i)) (bytes_at b (at i)) ++ objects_lines notes a b (next i) (drop (none i) rs))
    ∙ ap (λ t. object_lines notes base object (bytes_at a base) t ++ rest_lines notes a b (object + 1) rs) is

-- Of the objects of a runner those that don't begin before a base are still to come, of which the first has this number. Behind an
-- old text stand the lines of those before it.
pub record IsChanging {w : ℕ} (notes : Notes) (start x : Runner w) (base object : ℕ) (old new : List ℕ) : Type 0 where
  pub few : 16 * object ≤ base
  pub coming : List Range
  pub row : AreInRow base coming
  pub rest : drop object (ranges x.mem) ≡ coming
  pub holder : (a : ℕ) → base ≤ a → find (covers a 1) (ranges x.mem) ≡ find (covers a 1) coming
  pub text : (world : World) (r s : RunState) → IsRunner w world start r → IsRunner w world x s
      → old ++ changed_lines notes r s ≡ new ++ rest_lines notes r.machine s.machine object coming

module _ (w : ℕ) (notes : Notes) (start x : Runner w) where
  lie : (world : World) (s : RunState) → IsRunner w world x s → s.machine.objects ≡ ranges x.mem
  lie world s is = sym (ap (λ (c : Concrete). c.objects) is.at.machine)

  pub changing-starts : (base : ℕ) (text : List ℕ) → AreInRow base (ranges x.mem) → IsChanging notes start x base 0 text text
  changing-starts base text row = record {
    few = omega arith;
    coming = ranges x.mem;
    row = row;
    rest = refl;
    holder = λ a least. refl;
    text = λ world r s began is. ap (λ os. text ++ objects_lines notes r.machine s.machine 2 (drop 2 os)) (lie world s is);
  }

  there : (base object : ℕ) (old new : List ℕ) (on : IsChanging notes start x base object old new) (world : World) (s : RunState)
      → IsRunner w world x s → rest_from s.machine base ≡ option_map (rest_of s.machine.byte base) (find (covers base 1) on.coming)
  there base object old new on world s is =
      at-base s.machine base on.coming (ap (find (covers base 1)) (lie world s is) ∙ on.holder base (omega arith))

  -- an object more
  pub changing-on : (base object : ℕ) (old new after bytes : List ℕ) (world : World) (state : RunState) → IsRunner w world x state
      → IsChanging notes start x base object old new
      → ((v : World) (s : RunState) → IsRunner w v x s → rest_from s.machine base ≡ Some bytes)
      → (object < 2 → after ≡ new)
      → (2 ≤ object → (v : World) (r : RunState) → IsRunner w v start r
      → after ≡ new ++ object_lines notes base object (bytes_at r.machine base) bytes)
      → IsChanging notes start x (base + padded (length bytes)) (object + 1) old after
  changing-on base object old new after bytes world state is on found untold told =
      step on.coming on.few on.row on.rest on.holder on.text (sym (there base object old new on world state is) ∙ found world state is)
    where
      step : (coming : List Range) → 16 * object ≤ base → AreInRow base coming → drop object (ranges x.mem) ≡ coming
          → ((a : ℕ) → base ≤ a → find (covers a 1) (ranges x.mem) ≡ find (covers a 1) coming)
          → ((v : World) (r s : RunState) → IsRunner w v start r → IsRunner w v x s
          → old ++ changed_lines notes r s ≡ new ++ rest_lines notes r.machine s.machine object coming)
          → option_map (rest_of state.machine.byte base) (find (covers base 1) coming) ≡ Some bytes
          → IsChanging notes start x (base + padded (length bytes)) (object + 1) old after
      step [] few row rest holder text here = absurd (none-some bytes here)
      step (r ∷ rs) few (at, (some, row)) rest holder text here =
          let size = size-is state.machine base bytes r rs (at, (some, row)) here in
          record {
            few = omega (arith, few);
            coming = rs;
            row = subst (λ n. AreInRow (base + padded n) rs) (sym size) row;
            rest = rest-next object (ranges x.mem) r rs rest;
            holder = λ a above. holder a (omega (arith, above))
                ∙ ap (λ b. cond b (Some r) (find (covers a 1) rs)) (past r a (omega (arith, at, size, above)));
            text = λ v p s began runs. text v p s began runs ∙ (elim (cases_lt object 2) as (λ _.
                new ++ rest_lines notes p.machine s.machine object (r ∷ rs)
                ≡ after ++ rest_lines notes p.machine s.machine (object + 1) rs) [
                  | inl less ↦ λ i. (sym (untold less) i) ++ (rest-untold notes p.machine s.machine object r rs less i)
                  | inr least ↦
                      ap (λ t. new ++ t) (rest-told notes p.machine s.machine object base r rs bytes least at
                      (bytes-there s.machine base bytes (found v s runs)))
                      ∙ sym (append_assoc new (object_lines notes base object (bytes_at p.machine base) bytes)
                      (rest_lines notes p.machine s.machine (object + 1) rs))
                      ∙ ap (λ t. t ++ rest_lines notes p.machine s.machine (object + 1) rs) (sym (told least v p began))
                ]);
          }

  -- no object is left
  none-left : (base object : ℕ) (old new : List ℕ) → IsChanging notes start x base object old new
      → (on : List Range) → on ≡ [] → (world : World) (r s : RunState)
      → old ++ changed_lines notes r s ≡ new ++ rest_lines notes r.machine s.machine object on → new ≡ old ++ changed_lines notes r s
  unfolding objects_lines
  none-left base object old new is on none world r s text =
      sym (text ∙ ap (λ rs. new ++ objects_lines notes r.machine s.machine (2 + (object - 2)) rs) (drop-none (2 - object) on none)
      ∙ append-nil new)

  -- where nothing lies all is told
  pub changing-over : (base object : ℕ) (old new : List ℕ) → IsChanging notes start x base object old new
      → ((v : World) (s : RunState) → IsRunner w v x s → rest_from s.machine base ≡ None)
      → (world : World) (r s : RunState) → IsRunner w world start r → IsRunner w world x s → new ≡ old ++ changed_lines notes r s
  changing-over base object old new on none world r s began is =
      none-left base object old new on on.coming
      (over on.coming on.row (sym (there base object old new on world s is) ∙ none world s is)) world r s (on.text world r s began is)
    where
      over : (coming : List Range) → AreInRow base coming
          → option_map (rest_of s.machine.byte base) (find (covers base 1) coming) ≡ None → coming ≡ []
      over [] row none = refl
      over (q ∷ qs) row none = absurd (none-some _ (sym none ∙ first-is s.machine base q qs row))

  -- and so it is past all addresses
  pub changing-past : (base object : ℕ) (old new : List ℕ) → IsWidth w → IsChanging notes start x base object old new → 2 ^ 64 ≤ base
      → (image : Image) (world : World) (r s : RunState) → IsImage image → world.image_size ≡ image.size → IsRunner w world start r
      → IsRunner w world x s → new ≡ old ++ changed_lines notes r s
  changing-past base object old new h on far image world r s read size began is =
      none-left base object old new on on.coming (over on.coming on.row on.rest) world r s (on.text world r s began is)
    where
      over : (coming : List Range) → AreInRow base coming → drop object (ranges x.mem) ≡ coming → coming ≡ []
      over [] row rest = refl
      over (q ∷ qs) (at, (some, row)) rest =
          let most = ends-within w image world x s h read size is object q (rest-at object (ranges x.mem) q qs rest) in
          absurd (omega (arith, at, some, most, far))
