-- Every state that is found in a round is one of its function.
use Rattle.note_infer.proofs.Common.{◌≡◌, ℕ, zero, suc, ◌≤◌, Bool, true, false, nat_eq, if◌then◌else◌, List, [], ◌∷◌, ◌++◌, length, Option}
use Rattle.note_infer.proofs.Common.{None, Some, refl, sym, subst, ◌∙◌, arith, IfOk, IfSome, Ok, Result, option_and_then, slice_get}
use Rattle.note_infer.proofs.Common.{Contains, same_Some, Insn, IsState, local_fields, entry_state, IsNotes, FnNote, Notes, Point, RuleName}
use Rattle.note_infer.proofs.Common.{State, Image, Successors, here_at, row_of, agree, joined, without_fact, AreFound, IsFound, GivesRoom}
use Rattle.note_infer.proofs.Common.{HasRoom, AreAfter, Comes, GivenAt, HasCome, IsRound, IsWithin, States, all_in, at_entry, at_leader}
use Rattle.note_infer.proofs.Common.{by_entry, by_fall, by_jump, given, gives, gives_none, marked, with_points, spelled_at}
use Rattle.std.proofs.lemmas.Nat.{and_le_l}
use Rattle.ebc_insn.specs.Spelling.{WellFormed}
use Rattle.note_types.proofs.{RecordLaws.slots_and_locals, TypeLaws.entry_is_state}
use Rattle.rules_base.specs.declared.here.Here.{Here}
use Rattle.rules_data.specs.Data.{after_data}
use Rattle.rules_flow.specs.{Flow.after_flow, Successors.falls}
use Rattle.rules_laws.specs.{Keeping.AreStates, Fields.HasFields, Fields.HaveFields}
use Rattle.rules_laws.proofs.{FlowKeeps.after_flow-keeps, Options.ok_map, RowsKeep.after_data-keeps, FieldsKept.data_kept}
use Rattle.rules_laws.proofs.FieldsKept.{flow_kept}
use Rattle.rules_base.specs.Outcomes.{gives_map}
use Rattle.width_checker.specs.Rows.{is_flow}
use Rattle.note_infer.proofs.OtherPoints.{state_is}
use Rattle.note_infer.proofs.StateJoins.{states_below}

-- ---- rows

ok_at : {A : Type 0} (P : A → Type 0) (r : Result A RuleName) (x : A) → IfOk r P → r ≡ Ok x → P x
ok_at P r x h e = let Q : Result _ RuleName → Type 0 = λ z. IfOk z P in subst Q e h

some_at : {A : Type 0} (P : A → Type 0) (o : Option A) (x : A) → IfSome o P → o ≡ Some x → P x
some_at P o x h e = let Q : Option _ → Type 0 = λ z. IfSome z P in subst Q e h

row_states : (notes : Notes) (here : Here) (s : State) (i : Insn) (x : Successors) (f : FnNote) → slice_get notes.function here.func
    ≡ Some f → IsNotes notes → IsState notes f s
    → WellFormed i → row_of notes here s i ≡ Ok x → AreStates notes f x
unfolding row_of
row_states notes here s i x f e n h w q = ok_at (AreStates notes f) _ x (by_test (is_flow i)) q
  where
    by_test : (b : Bool) → IfOk (if b then after_flow notes here s i else gives_map falls (after_data notes here s i)) (AreStates notes f)
    by_test true = after_flow-keeps notes here s i f e n h
    by_test false = ok_map (IsState notes f) (AreStates notes f) falls (after_data notes here s i)
        (after_data-keeps notes here s i f e n h w) (λ t k. (k, tt))

-- what a row leads to has fields of the function's locals
row_fields : (notes : Notes) (here : Here) (s : State) (i : Insn) (x : Successors) (f : FnNote) → slice_get notes.function here.func
    ≡ Some f
    → IsNotes notes → IsFound notes f s → row_of notes here s i ≡ Ok x → HaveFields notes f x
unfolding row_of
row_fields notes here s i x f e n h q = ok_at (HaveFields notes f) _ x (by_test (is_flow i)) q
  where
    by_test : (b : Bool) → IfOk (if b then after_flow notes here s i else gives_map falls (after_data notes here s i)) (HaveFields notes f)
    by_test true = flow_kept notes here s i f e n h.state h.fields
    by_test false =
        ok_map (HasFields notes f) (HaveFields notes f) falls (after_data notes here s i) (data_kept notes here s i f e n h.state h.fields)
        (λ t k. (k, tt))

-- ---- states with room

pub found_room : (notes : Notes) (f : FnNote) (s : State) → IsFound notes f s → HasRoom s
found_room notes f s h =
    let q = slots_and_locals s.items in let few = h.state.few in let once = h.state.once in
    let eight = h.state.eight in
    record { registers = omega (arith, eight); items = omega (arith, q, few, once); written = h.fields.set }

-- ---- states that are joined

pub entry_found : (notes : Notes) (func : ℕ) (f : FnNote) → IsFound notes f (entry_state notes func)
entry_found notes func f =
    record {
      state = entry_is_state notes func f;
      fields = record { written = λ x e. absurd (omega (arith, e)); set = omega arith; made = made (nat_eq func notes.entry) };
    }
  where
    made : (b : Bool) → (if b then 0 else length notes.thunk) ≤ length notes.thunk
    made true = omega arith
    made false = omega arith

without_found : (notes : Notes) (f : FnNote) (s : State) → IsFound notes f s → IsFound notes f (without_fact s)
without_found notes f s h =
    let k = h.state in
    record {
      state = record {
        eight = k.eight;
        unused = k.unused;
        registers = k.registers;
        slots = k.slots;
        few = k.few;
        once = k.once;
        there =
            k.there;
        fact = λ x e. absurd cc;
      };
      fields = record { written = h.fields.written; set = h.fields.set; made = h.fields.made };
    }

joined_found : (notes : Notes) (f : FnNote) (s t : State) → agree s t ≡ true → IsFound notes f s → IsFound notes f t
    → IsFound notes f (joined s t)
unfolding joined
joined_found notes f s t e h g =
    let q = states_below s t e notes f h.state g.state in
    record {
      state = q.state;
      fields = record {
        written = q.written h.fields.written;
        set = let l = and_le_l s.written t.written in let m = h.fields.set in omega (arith, l, m);
        made = h.fields.made;
      };
    }

-- a leader's state, where it has one, is found
abbrev pub SomeFound : Notes → FnNote → Option State → Type 0
SomeFound notes f o = (s : State) → o ≡ Some s → IsFound notes f s

abbrev pub AllFound : Notes → FnNote → List State → Type 0
AllFound notes f ts = (k : ℕ) (t : State) → slice_get ts k ≡ Some t → IsFound notes f t

pub all_in-found : (notes : Notes) (f : FnNote) (ts : List State) (had come : Option State) → SomeFound notes f had → AllFound notes f ts
    → all_in had ts ≡ Some come → SomeFound notes f come
unfolding all_in
all_in-found notes f [] had come h g e = λ s q. h s (same_Some had come e ∙ q)
all_in-found notes f (t ∷ ts) None come h g e =
    all_in-found notes f ts (Some (without_fact t)) come (λ u q. subst (IsFound notes f) (same_Some _ u q)
    (without_found notes f t (g 0 t refl))) (λ k. g (suc k)) e
all_in-found notes f (t ∷ ts) (Some s) come h g e =
    by_test (λ a. all_in-found notes f ts (Some (joined s t)) come
    (λ u q. subst (IsFound notes f) (same_Some _ u q) (joined_found notes f s t a (h s refl) (g 0 t refl))) (λ k. g (suc k)))
    (agree s t) refl e
  where
    by_test : (agree s t ≡ true → all_in (Some (joined s t)) ts ≡ Some come → SomeFound notes f come) → (b : Bool) → agree s t ≡ b
        → option_and_then (λ u. all_in (Some u) ts) (if b then Some (joined s t) else None) ≡ Some come → SomeFound notes f come
    by_test rest true a e = rest a e
    by_test rest false a e = absurd cc

-- ---- a round

append_found : (notes : Notes) (f : FnNote) (xs ys : List State) → AllFound notes f xs → AllFound notes f ys → AllFound notes f (xs ++ ys)
append_found notes f [] ys h g k t e = g k t e
append_found notes f (x ∷ xs) ys h g zero t e = h 0 t e
append_found notes f (x ∷ xs) ys h g (suc k) t e = append_found notes f xs ys (λ k. h (suc k)) g k t e

one_found : (notes : Notes) (f : FnNote) (b : Bool) (s : State) → IsFound notes f s → AllFound notes f (if b then s ∷ [] else [])
one_found notes f true s h zero t e = subst (IsFound notes f) (same_Some s t e) h
one_found notes f true s h (suc k) t e = absurd cc
one_found notes f false s h k t e = absurd cc

given_found : (notes : Notes) (f : FnNote) (leader next : ℕ) (x : Successors) → IfSome x.fall (IsFound notes f)
    → IfSome x.jump (λ j. IsFound notes f j.1) → AllFound notes f (given leader next x)
given_found notes f leader next x h g = append_found notes f (by_fall leader next x.fall) (by_jump leader x.jump) (fall x.fall h)
    (jump x.jump g)
  where
    fall : (o : Option State) → IfSome o (IsFound notes f) → AllFound notes f (by_fall leader next o)
    fall None h = λ k t e. absurd cc
    fall (Some s) h = one_found notes f (nat_eq next leader) s h

    jump : (o : Option (ℕ × State)) → IfSome o (λ j. IsFound notes f j.1) → AllFound notes f (by_jump leader o)
    jump None h = λ k t e. absurd cc
    jump (Some j) h = one_found notes f (nat_eq j.0 leader) j.1 h

both_some : (notes : Notes) (f : FnNote) (x : Successors) → AreStates notes f x → HaveFields notes f x
    → IfSome x.fall (IsFound notes f) × IfSome x.jump (λ j. IsFound notes f j.1)
both_some notes f x h g = (fall x.fall h.0 g.0, jump x.jump h.1 g.1)
  where
    fall : (o : Option State) → IfSome o (IsState notes f) → IfSome o (HasFields notes f) → IfSome o (IsFound notes f)
    fall None h g = tt
    fall (Some s) h g = record { state = h; fields = g }

    jump : (o : Option (ℕ × State)) → IfSome o (λ j. IsState notes f j.1) → IfSome o (λ j. HasFields notes f j.1)
        → IfSome o (λ j. IsFound notes f j.1)
    jump None h g = tt
    jump (Some j) h g = record { state = h; fields = g }

-- what is found doesn't look at the points
found_with : (notes : Notes) (points : List Point) (f : FnNote) (s : State) → IsFound notes f s → IsFound (with_points notes points) f s
unfolding local_fields
found_with notes points f s h =
    record {
      state = state_is notes points f s h.state;
      fields = record
          { written = h.fields.written; set = h.fields.set; made = h.fields.made };
    }

module _ (image : Image) (notes : Notes) (leaders : List ℕ) (states : States) (n : IsNotes (marked notes leaders))
    (start : AreFound notes leaders states) where
  row_found : (k : ℕ) (f : FnNote) → slice_get notes.function k ≡ Some f → (place next : ℕ) (s : State) (i : Insn) (x : Successors)
      → IsFound notes f s → WellFormed i
      → row_of (marked notes leaders) (here_at image k place next) s i ≡ Ok x → IfSome x.fall (IsFound notes f)
      × IfSome x.jump (λ j. IsFound notes f j.1)
  row_found k f e place next s i x h w q =
      let m = found_with notes (marked notes leaders).point f s h in
      let r = both_some (marked notes leaders) f x (row_states (marked notes leaders) (here_at image k place next) s i x f e n m.state w q)
      (row_fields (marked notes leaders) (here_at image k place next) s i x f e n m q) in
      (fall x.fall r.0, jump x.jump r.1)
    where
      back : (f : FnNote) (s : State) → IsFound (marked notes leaders) f s → IsFound notes f s
      back f s h = found_with (marked notes leaders) notes.point f s h

      fall : (o : Option State) → IfSome o (IsFound (marked notes leaders) f) → IfSome o (IsFound notes f)
      fall None h = tt
      fall (Some s) h = back f s h

      jump : (o : Option (ℕ × State)) → IfSome o (λ j. IsFound (marked notes leaders) f j.1) → IfSome o (λ j. IsFound notes f j.1)
      jump None h = tt
      jump (Some j) h = back f j.1 h

  -- the state before each instruction is found
  pub comes_found : (k : ℕ) (f : FnNote) → slice_get notes.function k ≡ Some f → (count place : ℕ) (s : State)
      → Comes image notes leaders states k f count place s → IsFound notes f s
  unfolding Comes
  comes_found k f e zero place s (at_leader c w q) = start k f e place s c w q
  comes_found k f e zero place s (at_entry c p q) = subst (IsFound notes f) (sym q) (entry_found notes k f)
  comes_found k f e (suc count) place s h =
      let r = row_found k f e h.last place h.state h.insn h.successors (comes_found k f e count h.last h.state h.has_state)
      (spelled_at image f h.last place h.insn h.decode).well_formed h.row in
      some_at (IsFound notes f) h.successors.fall s r.0 h.falls

  pub given_at-found : (k : ℕ) (f : FnNote) → slice_get notes.function k ≡ Some f → (leader place : ℕ) (ts : List State)
      → GivenAt image notes leaders states k f leader place ts → AllFound notes f ts
  given_at-found k f e leader place ts (gives_none h q) = subst (AllFound notes f) (sym q) (λ k t e. absurd cc)
  given_at-found k f e leader place ts (gives s i next x h d q g) =
      let r = row_found k f e place next s i x (comes_found k f e h.0 place s h.1) (spelled_at image f place next i d).well_formed q in
      subst (AllFound notes f) (sym g) (given_found notes f leader next x r.0 r.1)

  pub has_come-found : (k : ℕ) (f : FnNote) → slice_get notes.function k ≡ Some f → (leader : ℕ) → Contains leaders leader
      → IsWithin f leader
      → (place : ℕ) (come : Option State)
      → HasCome image notes leaders states k f leader place come → SomeFound notes f come
  unfolding HasCome
  has_come-found k f e leader c w zero come h =
      all_in-found notes f (by_entry notes k f leader) (states leader) come (λ s q. start k f e leader s c w q)
      (one_found notes f (nat_eq f.place leader) (entry_state notes k) (entry_found notes k f)) h
  has_come-found k f e leader c w (suc place) come h =
      all_in-found notes f h.states h.had come (has_come-found k f e leader c w place h.had h.before_is)
      (given_at-found k f e leader place h.states h.given_is) h.all

  -- so are the states after a round
  pub round_found : (next : States) → IsRound image notes leaders states next → AreFound notes leaders next
  round_found next round k f e leader s c w q = has_come-found k f e leader c w f.end (next leader) (round.comes k f e leader c w) s q

  -- and every state given in it has room
  pub round_room : GivesRoom image notes leaders states
  round_room k f e leader place ts h j t q = found_room notes f t (given_at-found k f e leader place ts h j t q)

-- the states after any number of rounds are found
pub after_found : (image : Image) (notes : Notes) (leaders : List ℕ) → IsNotes (marked notes leaders) → (r : ℕ) (states : States)
    → AreAfter image notes leaders r states → AreFound notes leaders states
unfolding AreAfter
after_found image notes leaders n zero states h = λ k f e leader s c w q. absurd (let z : None ≡ Some s = sym (h leader) ∙ q in cc)
after_found image notes leaders n (suc r) states h =
    round_found image notes leaders h.0 n (after_found image notes leaders n r h.0 h.1) states h.2

-- ---- facts

-- a leader's state, where it has one, has no fact
abbrev Plain : Option State → Type 0
Plain o = (s : State) → o ≡ Some s → s.fact ≡ None

all_in-plain : (ts : List State) (had come : Option State) → Plain had → all_in had ts ≡ Some come → Plain come
unfolding all_in joined
all_in-plain [] had come h e = λ s q. h s (same_Some had come e ∙ q)
all_in-plain (t ∷ ts) None come h e =
    all_in-plain ts (Some (without_fact t)) come (λ u q. subst (λ (v : State). v.fact ≡ None) (same_Some _ u q) refl) e
all_in-plain (t ∷ ts) (Some s) come h e =
    by_test (all_in-plain ts (Some (joined s t)) come (λ u q. subst (λ (v : State). v.fact ≡ None) (same_Some _ u q) refl)) (agree s t) e
  where
    by_test : (all_in (Some (joined s t)) ts ≡ Some come → Plain come) → (b : Bool) → option_and_then (λ u. all_in (Some u) ts)
        (if b then Some (joined s t) else None) ≡ Some come → Plain come
    by_test rest true e = rest e
    by_test rest false e = absurd cc

has_come-plain : (image : Image) (notes : Notes) (leaders : List ℕ) (states : States) (k : ℕ) (f : FnNote) (leader : ℕ)
    → Plain (states leader) → (place : ℕ) (come : Option State)
    → HasCome image notes leaders states k f leader place come → Plain come
unfolding HasCome
has_come-plain image notes leaders states k f leader h zero come c = all_in-plain (by_entry notes k f leader) (states leader) come h c
has_come-plain image notes leaders states k f leader h (suc place) come c =
    all_in-plain c.states c.had come (has_come-plain image notes leaders states k f leader h place c.had c.before_is) c.all

pub after_plain : (image : Image) (notes : Notes) (leaders : List ℕ) (r : ℕ) (states : States) → AreAfter image notes leaders r states
    → (k : ℕ) (f : FnNote) → slice_get notes.function k ≡ Some f → (leader : ℕ) (s : State) → Contains leaders leader → IsWithin f leader
    → states leader ≡ Some s → s.fact ≡ None
unfolding AreAfter
after_plain image notes leaders zero states h = λ k f e leader s c w q. absurd (let z : None ≡ Some s = sym (h leader) ∙ q in cc)
after_plain image notes leaders (suc r) states h = λ k f e leader s c w q.
    has_come-plain image notes leaders h.0 k f leader (λ t g. after_plain image notes leaders r h.0 h.1 k f e leader t c w g) f.end
    (states leader) (h.2.comes k f e leader c w) s q
