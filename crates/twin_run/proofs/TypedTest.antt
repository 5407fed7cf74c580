-- A test of the code of an image without relocations: where it passes, each instruction of a function meets the typing rules.
use Rattle.twin_run.proofs.Common.{◌≡◌, ◌⊎◌, ℕ, zero, suc, ◌+◌, ◌-◌, ◌<◌, ◌≤◌, Bool, true, false, not, if◌then◌else◌, ◌&&◌, nat_eq, nat_le}
use Rattle.twin_run.proofs.Common.{nat_lt, List, [], ◌∷◌, length, Option, Some, None, Ok, Err, refl, sym, ap, ◌∙◌, subst, arith, inl, inr}
use Rattle.twin_run.proofs.Common.{⊎_elim, slice_get, list_all, and_parts, eq-eqb, eqb-true, leb-true, ltb-true, true≢false, none-some}
use Rattle.twin_run.proofs.Common.{same_Some, Insn, state_below, entry_state, FnNote, Notes, Point, State, AreBytes, Image, reloc_at}
use Rattle.twin_run.proofs.Common.{instruction_at, Leads, IsPlaceOf, IsBefore, of_point, of_fall, Comes, here_at, row_of, MeetsRules}
use Rattle.std.proofs.{Common.◌||◌, lemmas.Bool.lt-ltb}
use Rattle.std.specs.List.{list_any, Contains}
use Rattle.note_types.proofs.BelowLaws.{state_below_exact}
use Rattle.rules_image.specs.Images.{falls, is_absolute, named_at, IsDecoded, PointHolds, RelocationHolds}
use Rattle.rules_flow.specs.declared.successors.Successors.{Successors}
use Rattle.width_checker.specs.Typed.{IsBelowPoint, LeadsBelow}
use Rattle.rules_image.proofs.Decoding.{decoded_once}
use Rattle.step_sound.proofs.Decoded.{read_is_decoded}
use Rattle.rules_base.specs.Outcomes.{OrRule}

-- ---- tests

or_parts : (a b : Bool) → (a || b) ≡ true → (a ≡ true) ⊎ (b ≡ true)
or_parts true b e = inl refl
or_parts false b e = inr e

not_true : (b : Bool) → not b ≡ true → b ≡ false
not_true true e = absurd (true≢false (sym e))
not_true false e = refl

all_item : {A : Type 0} (test : A → Bool) (xs : List A) → list_all test xs ≡ true → (k : ℕ) (x : A) → slice_get xs k ≡ Some x
    → test x ≡ true
all_item test [] e k x g = absurd (none-some x g)
all_item test (y ∷ xs) e zero x g = subst (λ z. test z ≡ true) (same_Some y x g) (and_parts (test y) (list_all test xs) e).0
all_item test (y ∷ xs) e (suc k) x g = all_item test xs (and_parts (test y) (list_all test xs) e).1 k x g

-- no point stands within an instruction
abbrev point_pass : ℕ → ℕ → Point → Bool
point_pass place next p = nat_le p.place place || nat_le next p.place

-- a state is below that of a point at a place
abbrev below_pass : ℕ → State → Point → Bool
below_pass place s p = not (nat_eq p.place place) || state_below s p.state

abbrev pub below_test : Notes → ℕ → State → Bool
below_test notes place s = list_all (below_pass place s) notes.point

abbrev fall_test : Notes → ℕ → Option State → Bool
fall_test notes next None = true
fall_test notes next (Some s) = below_test notes next s

abbrev jump_test : Notes → Option (ℕ × State) → Bool
jump_test notes None = true
jump_test notes (Some (p, s)) = below_test notes p s

-- the state before an instruction: that of the point there, or else what comes
abbrev state_before : ℕ → List Point → Option State → Option State
state_before place [] come = come
state_before place (p ∷ ps) come = if nat_eq p.place place then Some p.state else state_before place ps come

abbrev Rest : Type 0
Rest = ℕ → Option State → Bool

-- what the row gives leads well
abbrev row_test : Notes → FnNote → Insn → ℕ → Rest → OrRule Successors → Bool
row_test notes f i next rest (Err r) = false
row_test notes f i next rest (Ok x) =
    (fall_test notes next x.fall && jump_test notes x.jump) && ((not (falls i) || nat_lt next f.end)
    && (not (nat_lt next f.end) || rest next x.fall))

abbrev state_test : Image → Notes → ℕ → FnNote → ℕ → Insn → ℕ → Rest → Option State → Bool
state_test image notes func f place i next rest None = false
state_test image notes func f place i next rest (Some s) = row_test notes f i next rest (row_of notes (here_at image func place next) s i)

abbrev insn_test : Image → Notes → ℕ → FnNote → ℕ → Option State → Rest → Option (Insn × ℕ) → Bool
insn_test image notes func f place come rest None = false
insn_test image notes func f place come rest (Some (i, size)) =
    (not (is_absolute i) && nat_le (place + size) f.end)
    && (list_all (point_pass place (place + size)) notes.point && state_test image notes func f place i (place + size) rest
    (state_before place notes.point come))

-- the code of a function from a place on, of so many instructions at most
unfoldable pub code_test : Image → Notes → ℕ → FnNote → ℕ → ℕ → Option State → Bool
code_test image notes func f zero place come = false
code_test image notes func f (suc n) place come = insn_test image notes func f place come (code_test image notes func f n)
    (instruction_at image place)

-- ---- what they say

below_said : (notes : Notes) (place : ℕ) (s : State) → below_test notes place s ≡ true → IsBelowPoint notes place s
below_said notes place s e p at =
    ⊎_elim (λ h. absurd (true≢false (sym (eq-eqb p.place place at.at) ∙ not_true (nat_eq p.place place) h)))
    (λ h. (state_below_exact s p.state).0 h)
    (or_parts (not (nat_eq p.place place)) (state_below s p.state) (all_item (below_pass place s) notes.point e at.number p at.there))

points_said : (notes : Notes) (place next : ℕ) → list_all (point_pass place next) notes.point ≡ true → PointHolds notes place next
points_said notes place next e k p g =
    ⊎_elim (λ h. inl (leb-true p.place place h)) (λ h. inr (leb-true next p.place h))
    (or_parts (nat_le p.place place) (nat_le next p.place) (all_item (point_pass place next) notes.point e k p g))

-- a point of a list stands at a place, or none does
abbrev Found : List Point → ℕ → Option State → State → Type 0
Found ps place come s =
    ((k : ℕ) × (p : Point) × (slice_get ps k ≡ Some p) × (p.place ≡ place) × (s ≡ p.state))
    ⊎ (((k : ℕ) (p : Point) → slice_get ps k ≡ Some p → p.place ≡ place → ⊥) × (come ≡ Some s))

found : (ps : List Point) (place : ℕ) (come : Option State) (s : State) → state_before place ps come ≡ Some s → Found ps place come s
found [] place come s e = inr (λ k p g h. absurd (none-some p g), e)
found (q ∷ ps) place come s e = go (nat_eq q.place place) refl e (λ t. found ps place come s t)
  where
    go : (b : Bool) → nat_eq q.place place ≡ b → (if b then Some q.state else state_before place ps come) ≡ Some s
        → (state_before place ps come ≡ Some s → Found ps place come s) → Found (q ∷ ps) place come s
    go true same t later = inl (0, q, refl, eqb-true q.place place same, sym (same_Some q.state s t))
    go false same t later = ⊎_elim (λ x. inl (suc x.0, x.1, x.2, x.3, x.4)) (λ x. inr (none x.0, x.1)) (later t)
      where
        none : ((k : ℕ) (p : Point) → slice_get ps k ≡ Some p → p.place ≡ place → ⊥) → (k : ℕ) (p : Point) → slice_get (q ∷ ps) k ≡ Some p
            → p.place ≡ place → ⊥
        none h zero p g at = absurd (true≢false (sym (eq-eqb q.place place (ap (λ z. z.place) (same_Some q p g) ∙ at)) ∙ same))
        none h (suc k) p g at = h k p g at

before_said : (notes : Notes) (place : ℕ) (come : Option State) (s : State) → state_before place notes.point come ≡ Some s
    → IsBefore notes place come s
before_said notes place come s e =
    ⊎_elim (λ x. of_point x.1 (record { number = x.0; there = x.2; at = x.3 }) x.4)
    (λ x. of_fall (λ p at. x.0 at.number p at.there at.at) x.1)
    (found notes.point place come s e)

-- an image without relocations has none
none_at : (xs : List ℕ) → xs ≡ [] → (r : ℕ) → Contains xs r → ⊥
none_at xs e r c = let l : c.0 < length xs = c.1 in let n : length xs ≡ 0 = ap length e in omega (arith, l, n)

-- what the test of an instruction says
record Passed (image : Image) (notes : Notes) (func : ℕ) (f : FnNote) (place : ℕ) (come : Option State) (rest : Rest) : Type 0 where
  insn : Insn
  size : ℕ
  state : State
  successors : Successors
  there : instruction_at image place ≡ Some (insn, size)
  absolute : is_absolute insn ≡ false
  within : place + size ≤ f.end
  points : PointHolds notes place (place + size)
  before : IsBefore notes place come state
  row : row_of notes (here_at image func place (place + size)) state insn ≡ Ok successors
  leads : LeadsBelow notes (place + size) successors
  ends : falls insn ≡ true → place + size < f.end
  more : place + size < f.end → rest (place + size) successors.fall ≡ true

passed : (image : Image) (notes : Notes) (func : ℕ) (f : FnNote) (place : ℕ) (come : Option State) (rest : Rest)
    → insn_test image notes func f place come rest (instruction_at image place) ≡ true → Passed image notes func f place come rest
passed image notes func f place come rest e = go (instruction_at image place) refl e
  where
    go : (o : Option (Insn × ℕ)) → instruction_at image place ≡ o → insn_test image notes func f place come rest o ≡ true
        → Passed image notes func f place come rest
    go None is t = absurd (true≢false (sym t))
    go (Some (i, size)) is t =
        let a = and_parts (not (is_absolute i) && nat_le (place + size) f.end) _ t in
        let b = and_parts (not (is_absolute i)) (nat_le (place + size) f.end) a.0 in
        let c = and_parts (list_all (point_pass place (place + size)) notes.point) _ a.1 in
        with_state (state_before place notes.point come) refl c.1 b.0 b.1 c.0
      where
        with_state : (o : Option State) → state_before place notes.point come ≡ o
            → state_test image notes func f place i (place + size) rest o ≡ true
            → not (is_absolute i) ≡ true → nat_le (place + size) f.end ≡ true
            → list_all (point_pass place (place + size)) notes.point ≡ true → Passed image notes func f place come rest
        with_state None es t n l ps = absurd (true≢false (sym t))
        with_state (Some s) es t n l ps = with_row (row_of notes (here_at image func place (place + size)) s i) refl t
          where
            with_row : (g : OrRule Successors) → row_of notes (here_at image func place (place + size)) s i ≡ g
                → row_test notes f i (place + size) rest g ≡ true → Passed image notes func f place come rest
            with_row (Err r) eg t = absurd (true≢false (sym t))
            with_row (Ok x) eg t =
                let a = and_parts (fall_test notes (place + size) x.fall && jump_test notes x.jump) _ t in
                let b = and_parts (fall_test notes (place + size) x.fall) (jump_test notes x.jump) a.0 in
                let c = and_parts (not (falls i) || nat_lt (place + size) f.end)
                (not (nat_lt (place + size) f.end) || rest (place + size) x.fall) a.1 in
                record {
                  insn = i;
                  size = size;
                  state = s;
                  successors = x;
                  there = is;
                  absolute = not_true (is_absolute i) n;
                  within = leb-true (place + size) f.end l;
                  points = points_said notes place (place + size) ps;
                  before = before_said notes place come s es;
                  row = eg;
                  leads = record {
                    fall = λ y h. below_said notes (place + size) y (subst (λ o. fall_test notes (place + size) o ≡ true) h b.0);
                    jump = λ p y h. below_said notes p y (subst (λ o. jump_test notes o ≡ true) h b.1);
                  };
                  ends = λ h. ⊎_elim (λ no. absurd (true≢false (sym h ∙ not_true (falls i) no))) (λ l. ltb-true (place + size) f.end l)
                      (or_parts (not (falls i)) (nat_lt (place + size) f.end) c.0);
                  more = λ l. ⊎_elim (λ no. absurd (true≢false (sym (lt-ltb (place + size) f.end l)
                      ∙ not_true (nat_lt (place + size) f.end) no))) (λ r. r)
                      (or_parts (not (nat_lt (place + size) f.end)) (rest (place + size) x.fall) c.1);
                }

-- ---- the code of a function

module _ (image : Image) (notes : Notes) (bytes : AreBytes image) (bare : image.relocs ≡ []) (func : ℕ) (f : FnNote) (many : ℕ)
    (starts : below_test notes f.place (entry_state notes func) ≡ true)
    (passes : code_test image notes func f many f.place (Some (entry_state notes func)) ≡ true) where
  -- the code from a place on passes
  abbrev Passes : ℕ → Option State → Type 0
  Passes place come = (n : ℕ) × (code_test image notes func f n place come ≡ true)

  abbrev Reached : ℕ → ℕ → Type 0
  Reached k place = (come : Option State) × Comes image notes func f k place come × Passes place come

  here_passed : (place : ℕ) (come : Option State) → Passes place come → (n : ℕ)
      × Passed image notes func f place come (code_test image notes func f n)
  unfolding code_test
  here_passed place come (zero, e) = absurd (true≢false (sym e))
  here_passed place come (suc n, e) = (n, passed image notes func f place come (code_test image notes func f n) e)

  decoded : (place : ℕ) (come : Option State) (rest : Rest) → (p : Passed image notes func f place come rest)
      → IsDecoded image f place p.insn (place + p.size)
  decoded place come rest p = read_is_decoded image f place p.insn p.size bytes p.there p.within

  reached : (k place : ℕ) → Leads image f k place → Reached k place
  unfolding Leads Comes
  reached zero place e = (
    Some (entry_state notes func),
    (e, refl),
    (many, subst (λ z. code_test image notes func f many z (Some (entry_state notes func)) ≡ true) (sym e) passes),
  )
  reached (suc k) place l = next (reached k l.last l.reached)
    where
      next : Reached k l.last → Reached (suc k) place
      next r =
          let h = here_passed l.last r.0 r.2 in
          let d = decoded l.last r.0 _ h.1 in
          let o = decoded_once image f l.last l.insn h.1.insn place (l.last + h.1.size) l.decode d in (
            h.1.successors.fall,
            record {
              last = l.last;
              came = r.0;
              reached = r.1;
              state = h.1.state;
              has_state = h.1.before;
              insn = h.1.insn;
              decode = subst (λ z. IsDecoded image f l.last h.1.insn z) (sym o.1) d;
              within = l.within;
              successors = h.1.successors;
              row = subst (λ z. row_of notes (here_at image func l.last z) h.1.state h.1.insn ≡ Ok h.1.successors) (sym o.1) h.1.row;
              falls = refl;
            },
            (
              h.0,
              subst (λ z. code_test image notes func f h.0 z h.1.successors.fall ≡ true) (sym o.1)
                  (h.1.more (subst (λ z. z < f.end) o.1 l.within)),
            ),
          )

  relocation_holds : (place next : ℕ) (i : Insn) → is_absolute i ≡ false → RelocationHolds image notes place i next (reloc_at image next)
  unfolding reloc_at
  relocation_holds place next i e = subst (λ b. RelocationHolds image notes place i next (named_at image next b))
      (sym (ap (λ (xs : List ℕ). list_any (nat_eq (next - 8)) xs) bare)) (record {
        only = λ r c t. absurd (none_at image.relocs bare r c);
        absolute = λ h. absurd (true≢false (sym h ∙ e));
        named = sym (ap (named_at image next) (ap (λ (xs : List ℕ). list_any (nat_eq (next - 8)) xs) bare));
        inside = tt;
        thing = tt;
      })

  -- each instruction meets the rules
  pub meets : (place : ℕ) → IsPlaceOf image f place → MeetsRules image notes func f place
  meets place p =
      let r = reached p.0 place p.1 in
      let h = here_passed place r.0 r.2 in
      record {
        insn = h.1.insn;
        next = place + h.1.size;
        decode = decoded place r.0 _ h.1;
        state = h.1.state;
        has_state = record { count = p.0; come = r.0; comes = r.1; before = h.1.before };
        point = h.1.points;
        relocation = relocation_holds place (place + h.1.size) h.1.insn h.1.absolute;
        successors = h.1.successors;
        row = h.1.row;
        below = record {
          entry = λ e. below_said notes place (entry_state notes func)
              (subst (λ z. below_test notes z (entry_state notes func) ≡ true) (sym e) starts);
          leads = h.1.leads;
        };
        ends = h.1.ends;
      }

-- ---- an image

-- the functions of a list, by their numbers
unfoldable pub functions_test : Image → Notes → ℕ → (ℕ → ℕ) → List FnNote → Bool
functions_test image notes many number [] = true
functions_test image notes many number (f ∷ fs) =
    (below_test notes f.place (entry_state notes (number 0)) && code_test image notes (number 0) f many f.place
    (Some (entry_state notes (number 0))))
    && functions_test image notes many (λ j. number (suc j)) fs

-- all functions of an image, each of so many instructions at most
abbrev pub image_test : Image → Notes → ℕ → Bool
image_test image notes many = functions_test image notes many (λ j. j) notes.function

each_function : (image : Image) (notes : Notes) (many : ℕ) (number : ℕ → ℕ) (fs : List FnNote)
    → functions_test image notes many number fs ≡ true → (j : ℕ) (f : FnNote) → slice_get fs j ≡ Some f
    → (below_test notes f.place (entry_state notes (number j)) ≡ true)
    × (code_test image notes (number j) f many f.place (Some (entry_state notes (number j))) ≡ true)
unfolding functions_test
each_function image notes many number [] e j f g = absurd (none-some f g)
each_function image notes many number (h ∷ fs) e zero f g =
    let a = and_parts (below_test notes h.place (entry_state notes (number 0))
    && code_test image notes (number 0) h many h.place (Some (entry_state notes (number 0)))) _ e in
    let b = and_parts (below_test notes h.place (entry_state notes (number 0)))
    (code_test image notes (number 0) h many h.place (Some (entry_state notes (number 0)))) a.0 in
    subst (λ (z : FnNote). (below_test notes z.place (entry_state notes (number 0)) ≡ true)
    × (code_test image notes (number 0) z many z.place (Some (entry_state notes (number 0))) ≡ true)) (same_Some h f g) b
each_function image notes many number (h ∷ fs) e (suc j) f g =
    each_function image notes many (λ j. number (suc j)) fs
    (and_parts (below_test notes h.place (entry_state notes (number 0))
    && code_test image notes (number 0) h many h.place (Some (entry_state notes (number 0)))) _ e).1 j f g

-- where the test passes, each instruction of each function meets the rules
pub code_typed : (image : Image) (notes : Notes) → AreBytes image → image.relocs ≡ [] → (many : ℕ) → image_test image notes many ≡ true
    → (k : ℕ) (f : FnNote) → slice_get notes.function k ≡ Some f → (place : ℕ) → IsPlaceOf image f place → MeetsRules image notes k f place
code_typed image notes bytes bare many e k f g place p =
    let t = each_function image notes many (λ j. j) notes.function e k f g in
    meets image notes bytes bare k f many t.0 t.1 place p
