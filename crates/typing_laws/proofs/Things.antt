-- What starts at a place of the image: the rules' type fits the neutral machine's address.
use Rattle.typing_laws.proofs.Common.{◌≡◌, ℕ, zero, suc, ◌+◌, ◌*◌, Bool, false, if◌then◌else◌, nat_eq, List, [], ◌∷◌, ◌++◌, map, length}
use Rattle.typing_laws.proofs.Common.{Option, Some, None, slice_get, position, not, nat_lt, refl, sym, ap, ap₂, ◌∙◌, subst, arith, pos}
use Rattle.typing_laws.proofs.Common.{find, position_or_len, option_map_or, option_or, find_at, lt-ltb, position-Some, same_Some, none-some}
use Rattle.typing_laws.proofs.Common.{Notes, Static, Thunk, Ty, and_then, is_static_at, is_thunk_at, static_type, thunk_type, static_at}
use Rattle.typing_laws.proofs.Common.{thunk_at, thing_at, ObjectOf, ThunkOf, Neutral, At, Junk, word, Registers, static_object, shape_of}
use Rattle.typing_laws.proofs.Common.{TypedObject, Memory, Fits, address_of_place, within_some}
use Rattle.std.specs.Option.{option_map}
use Rattle.std.proofs.lemmas.Option.{slice_get_within}
use Rattle.typing_laws.proofs.Rows.{then_some, when_some}
use Rattle.note_types.proofs.PlaceLaws.{same_place}

-- the first place is the same by tests that agree
prefix_same : {A : Type 0} (p q : A → Bool) → ((x : A) → p x ≡ q x) → (xs : List A) → position_or_len p xs ≡ position_or_len q xs
prefix_same p q h [] = refl
prefix_same p q h (x ∷ xs) = ap₂ (λ b n. if not b then 1 + n else 0) (h x) (prefix_same p q h xs)

pub position_same : {A : Type 0} (p q : A → Bool) → ((x : A) → p x ≡ q x) → (xs : List A) → position p xs ≡ position q xs
position_same p q h xs = ap (λ n. if nat_lt n (length xs) then Some n else None) (prefix_same p q h xs)

-- the static object that is found, and its number
pub record StaticFound (p : ℕ) (ss : List Static) (x : Static) : Type 0 where
  pub i : ℕ
  pub there : slice_get ss i ≡ Some x
  pub from : position (λ (s : Static). nat_eq s.place p) ss ≡ Some i

static_found : (p : ℕ) (ss : List Static) (x : Static) → find (is_static_at (pos p)) ss ≡ Some x → StaticFound p ss x
static_found p ss x e =
    let n = position_or_len (is_static_at (pos p)) ss in
    let g : slice_get ss n ≡ Some x = sym (find_at (is_static_at (pos p)) ss) ∙ e in
    record {
      i = n;
      there = g;
      from = sym (position_same (is_static_at (pos p)) (λ (s : Static). nat_eq s.place p) (λ (s : Static). same_place s.place p) ss)
          ∙ ap (λ b. if b then Some n else None) (lt-ltb n (length ss) (slice_get_within ss n x g));
    }

static_none : (p : ℕ) (ss : List Static) → find (is_static_at (pos p)) ss ≡ None → position (λ (s : Static). nat_eq s.place p) ss ≡ None
static_none p ss e = sym (position_same (is_static_at (pos p)) (λ (s : Static). nat_eq s.place p) (λ (s : Static). same_place s.place p) ss)
    ∙ go (position (is_static_at (pos p)) ss) refl
  where
    n : ℕ
    n = position_or_len (is_static_at (pos p)) ss

    go : (o : Option ℕ) → position (is_static_at (pos p)) ss ≡ o → o ≡ None
    go None h = refl
    go (Some i) h =
        let w = position-Some (is_static_at (pos p)) ss i (record { place = 0; shape = 0; count = 0 }) h in
        let s : n ≡ i = when_some (nat_lt n (length ss)) _ i h (λ _ g. same_Some n i g) in
        let q = within_some ss i w.0 in
        absurd (none-some q.0 (sym e ∙ find_at (is_static_at (pos p)) ss ∙ ap (slice_get ss) s ∙ q.1))

front : (ss : List Static) (os : List TypedObject) (i : ℕ) (x : Static) → slice_get ss i ≡ Some x
    → slice_get (map static_object ss ++ os) i ≡ Some (static_object x)
front [] os i x e = absurd (none-some x e)
front (s ∷ ss) os zero x e = ap (λ z. Some (static_object z)) (same_Some s x e)
front (s ∷ ss) os (suc i) x e = front ss os i x e

module _ (notes : Notes) (m : Memory) (os : List TypedObject) (are : m.objects ≡ map static_object notes.statics ++ os) (d : ℕ)
    (saved : Registers) where
  -- What the rules say starts at a place is what its address is.
  pub thing_fits : (p : ℕ) (t : Ty) → thing_at notes (pos p) ≡ Some t → Fits notes m d saved t (address_of_place notes p)
  unfolding thing_at static_at thunk_at address_of_place
  thing_fits p t e = go (find (is_static_at (pos p)) notes.statics) refl e
    where
      address : Option ℕ → Option ℕ → Neutral
      address o q = option_map_or (λ v. v) (option_or (option_map (λ k. At (ObjectOf k) 0 0) o)
          (option_map (λ i. At (ThunkOf i) 0 0) q)) Junk

      zero_word : (n : ℕ) → 0 ≡ word (0 * n + 0)
      zero_word n = omega arith

      thunk : find (is_static_at (pos p)) notes.statics ≡ None → and_then (position (is_thunk_at (pos p)) notes.thunk) thunk_type ≡ Some t
          → Fits notes m d saved t (address_of_place notes p)
      thunk h e = then_some (position (is_thunk_at (pos p)) notes.thunk) thunk_type t e (λ i e1 e2.
          let r = sym (position_same (is_thunk_at (pos p)) (λ (y : Thunk). nat_eq y.place p)
          (λ (y : Thunk). same_place y.place p) notes.thunk) ∙ e1 in
          subst (λ z. Fits notes m d saved z (address_of_place notes p)) (same_Some (Ty.ThunkAt i) t e2)
          (ap₂ address (static_none p notes.statics h) r))

      go : (o : Option Static) → find (is_static_at (pos p)) notes.statics ≡ o
          → option_or (and_then o static_type) (and_then (position (is_thunk_at (pos p)) notes.thunk) thunk_type) ≡ Some t
          → Fits notes m d saved t (address_of_place notes p)
      go (Some x) h e =
          let r = static_found p notes.statics x h in
          subst (λ z. Fits notes m d saved z (address_of_place notes p)) (same_Some (Ty.Ptr x.shape x.count (pos 0) (pos 0) false) t e)
          (record {
            k = r.i;
            j = 0;
            object = static_object x;
            is = ap (λ o. address o (position (λ (y : Thunk). nat_eq y.place p) notes.thunk)) r.from
                ∙ ap₂ (At (ObjectOf r.i)) (zero_word (shape_of notes x.shape).n) (zero_word (shape_of notes x.shape).c);
            there = ap (λ os. slice_get os r.i) are ∙ front notes.statics os r.i x r.there;
            shape = refl;
            room = omega arith;
          })
      go None h e = thunk h e
