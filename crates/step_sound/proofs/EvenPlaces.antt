-- The places of functions are even, and so are those of points.
use Rattle.step_sound.proofs.Common.{find, ◌≡◌, ◌⊎◌, ℕ, zero, suc, ◌-◌, ◌%◌, ◌<◌, ◌≤◌, Bool, true, false, if◌then◌else◌, nat_lt, nat_le}
use Rattle.step_sound.proofs.Common.{List, [], ◌∷◌, length, Some, refl, sym, ap, ◌∙◌, subst, arith, inl, inr, ⊎_elim, slice_get, cases_lt}
use Rattle.step_sound.proofs.Common.{and_parts, leb-true, ltb-true, none-some, same_Some, spelling, Insn, FnNote, Notes, Image, spelled_at}
use Rattle.std.proofs.lemmas.List.{length-append}
use Rattle.ebc_insn.specs.Spelling.{bytes_of, code_of, field_bytes}
use Rattle.ebc_insn.specs.declared.code.Field.{Field}
use Rattle.note_types.specs.Records.{IsNotes, Each, has_place, function_at}
use Rattle.note_types.specs.declared.notes.Point.{Point}
use Rattle.rules_image.specs.{Images.FunctionHolds, Places.Leads, Places.IsPlaceOf}
use Rattle.width_checker.proofs.Leading.{decode_later}
use Rattle.step_sound.specs.PlaceStates.{PlacesHold}
use Rattle.ebc_insn.specs.declared.code.Field.TheVariants as fields

-- ---- places are even

field_even : (x : Field) → length (field_bytes x) % 2 ≡ 0
unfolding field_bytes
field_even fields.Nothing = refl
field_even (fields.Word n) = refl
field_even (fields.Dword n) = refl
field_even (fields.Qword n) = refl

pub spelling_even : (i : Insn) → length (spelling i) % 2 ≡ 0
unfolding bytes_of
spelling_even i =
    let c = code_of i in
    let a = field_even c.one in
    let b = field_even c.two in
    let n = length-append (field_bytes c.one) (field_bytes c.two) in
    omega (arith, a, b, n)

-- what is found is in the list and passes
pub find_some : {A : Type 0} (t : A → Bool) (xs : List A) (x : A) → find t xs ≡ Some x → (k : ℕ) × (slice_get xs k ≡ Some x) × (t x ≡ true)
find_some t [] x e = absurd (none-some x e)
find_some t (y ∷ ys) x e = go (t y) refl e (find_some t ys x)
  where
    go : (b : Bool) → t y ≡ b → (if b then Some y else find t ys) ≡ Some x
        → (find t ys ≡ Some x → (k : ℕ) × (slice_get ys k ≡ Some x) × (t x ≡ true)) → (k : ℕ) × (slice_get (y ∷ ys) k ≡ Some x)
        × (t x ≡ true)
    go true b e more = let same : y ≡ x = same_Some y x e in (0, e, ap t (sym same) ∙ b)
    go false b e more = let r = more e in (suc r.0, r.1, r.2)

module _ (image : Image) (notes : Notes) (ok : IsNotes notes) (functions : (k : ℕ) → FunctionHolds image notes k)
    (places : PlacesHold image notes) where
  -- ---- where points stand

  -- a point of a function's code is at a place of it
  pub point_place : (func : ℕ) (f : FnNote) (p : Point) (k : ℕ) → slice_get notes.function func ≡ Some f → slice_get notes.point k ≡ Some p
      → f.place ≤ p.place → p.place < f.end → IsPlaceOf image f p.place
  unfolding Leads
  point_place func f p k there at low high = walk (p.place - f.place) 0 f.place refl low (omega arith)
    where
      go : (n count q : ℕ) → Leads image f count q → p.place - q ≤ suc n → (q < p.place) ⊎ (p.place ≤ q) → q ≤ p.place
          → ((count' r : ℕ) → Leads image f count' r → r ≤ p.place → p.place - r ≤ n → IsPlaceOf image f p.place)
          → IsPlaceOf image f p.place
      go n count q leads m (inl less) l more =
          let r = places func f there q (count, leads) in
          let later = decode_later image f q r.next r.insn r.decoded in
          let past : r.next ≤ p.place = ⊎_elim (λ h. absurd (omega (arith, h, less))) (λ h. h) (r.point k p at) in
          more (suc count) r.next (record {
            last = q;
            reached = leads;
            insn = r.insn;
            decode = r.decoded;
            within = omega (arith, past, high);
          }) past (omega (arith, m, later))
      go n count q leads m (inr same) l more = subst (IsPlaceOf image f) (let e : q ≡ p.place = omega (arith, same, l) in e) (count, leads)

      walk : (n count q : ℕ) → Leads image f count q → q ≤ p.place → p.place - q ≤ n → IsPlaceOf image f p.place
      walk zero count q leads l m = subst (IsPlaceOf image f) (let e : q ≡ p.place = omega (arith, l, m) in e) (count, leads)
      walk (suc n) count q leads l m = go n count q leads m (cases_lt q p.place) l (λ c r ls h g. walk n c r ls h g)

  -- places are even, and inside the function
  pub place_even : (func : ℕ) (f : FnNote) (count place : ℕ) → slice_get notes.function func ≡ Some f → Leads image f count place
      → (place % 2 ≡ 0) × (f.place ≤ place) × (place < f.end)
  unfolding Leads
  place_even func f zero place there e =
      let h = functions func f there in
      let even = h.even.0 in
      let range = h.range in
      (omega (arith, e, even), omega (arith, e), omega (arith, e, range))
  place_even func f (suc n) place there x =
      let r = place_even func f n x.last there x.reached in
      let d = (spelled_at image f x.last place x.insn x.decode).next_is in
      let s = spelling_even x.insn in
      let w = x.within in
      let a = r.0 in
      let b = r.1 in
      (omega (arith, a, d, s), omega (arith, b, d), w)

  -- each point stands at an even place
  pub points_even : Each (λ (p : Point). p.place % 2 ≡ 0) notes.point
  unfolding function_at
  points_even k p e =
      let n = ok.points k p e in
      let f = find_some (has_place p.place) notes.function n.owner n.there in
      let b = and_parts (nat_le n.owner.place p.place) (nat_lt p.place n.owner.end) f.2 in
      let at = point_place f.0 n.owner p k f.1 e (leb-true n.owner.place p.place b.0) (ltb-true p.place n.owner.end b.1) in
      (place_even f.0 n.owner at.0 p.place f.1 at.1).0
