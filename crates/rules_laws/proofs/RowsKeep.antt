-- What the rows of the instructions on data change is known, so the conditions on a state are kept.
use Rattle.rules_laws.proofs.Common.{◌≡◌, ℕ, zero, suc, ◌^◌, ◌<◌, ◌≤◌, Bool, true, false, ◌&&◌, nat_eq, List, [], ◌∷◌, Option, None, Some}
use Rattle.rules_laws.proofs.Common.{slice_get, if◌then◌else◌, refl, sym, ap, arith, ℤ, pos, IfSome, IfOk, ◌+ℤ◌, Result, Ok, Err, is_none}
use Rattle.rules_laws.proofs.Common.{int_le, int_eq, mod-le, Index, ArithOp, CmpOp, Extra, Insn, Compare, Arith, Move, MoveSigned, MoveImm}
use Rattle.rules_laws.proofs.Common.{Operand, Size, type_of, FnNote, Notes, RuleName, Fact, State, Ty, Access, Here, Distance, Place}
use Rattle.rules_laws.proofs.Common.{load_at, changed, destination, put, counted, index_distance, nowhere, beside, gives_map, needs}
use Rattle.rules_laws.proofs.Common.{and_then, place_at, or_any, form_access, operand_value, register_type, computed_type, divisor_known}
use Rattle.rules_laws.proofs.Common.{after_data, arith_row, compare_imm_row, compare_row, data_change, data_row, fact_of, flag, held}
use Rattle.rules_laws.proofs.Common.{left_operand, left_value, move_access, move_imm_row, move_index_row, move_relative_row, move_row}
use Rattle.rules_laws.proofs.Common.{move_signed_row, store_special_row, immediate, IsNotes, IsKnown, IsState, IsFact, params_known, wrap64}
use Rattle.std.specs.List.{find, position}
use Rattle.std.proofs.lemmas.List.Quantifiers.{position-Some}
use Rattle.ebc_insn.specs.declared.Insn.TheVariants.{CompareImm, MoveImmNatural, MoveRelative, StoreSpecial}
use Rattle.ebc_insn.specs.Spelling.{WellFormed}
use Rattle.note_types.specs.declared.notes.Static.{Static}
use Rattle.rules_base.specs.Things.{is_static_at, is_thunk_at, static_at, static_type, takes_address, thing_at, thunk_at, thunk_type}
use Rattle.rules_data.specs.Data.{address_type, frame_value, move_value, plain_row, signed_value, special_type}
use Rattle.rules_data.specs.Moves.{immediate_index, low_of, relative}
use Rattle.rules_laws.proofs.LoadsKeep.{LoadKnown, RegistersKnown, load_at-known, operand_value-known, register_type-known}
use Rattle.rules_laws.proofs.MovesKeep.{at_least_one_from, kept-known, kept_signed-known, with_immediate-known, with_index-known}
use Rattle.rules_laws.proofs.MovesKeep.{wrap_below}
use Rattle.rules_laws.proofs.Options.{ok_also, ok_anything, ok_beside, ok_choice, ok_map, ok_some, ok_then, some_else, some_is, some_then}
use Rattle.rules_laws.proofs.StatesKeep.{ChangeKnown, changed_keeps, DestinationKnown, destination_known, put_known}
use Rattle.rules_laws.proofs.SumsKeep.{any_known, constant_known, if_known, int_known, lin_known}
use Rattle.rules_laws.proofs.{PlacesKeep.ParamsKnown, PlacesKeep.PlaceKnown, PlacesKeep.place_at-known, DataKeep.computed_type-known}
use Rattle.ebc_insn.specs.declared.Size.TheVariants as size
use Rattle.note_types.specs.declared.rule.RuleName.TheVariants as rule
use Rattle.rules_base.specs.declared.access.Access.TheVariants as access
use Rattle.rules_base.specs.declared.change.Change.TheVariants as change
use Rattle.rules_base.specs.declared.place.Place.TheVariants as place

-- ---- results

pub left_value-known : (notes : Notes) (f : FnNote) (s : State) (a : Access) (op : Operand) (d : Distance) → IsNotes notes
    → ParamsKnown notes f f.params → RegistersKnown notes f s → IfOk (left_value notes f s a op d) (IsKnown notes f)
left_value-known notes f s a op d k p h =
    ok_choice (IsKnown notes f) op.indirect _ _
    (ok_map (LoadKnown notes f) (IsKnown notes f) (λ l. l.ty) (load_at notes f s a op.reg d) (load_at-known notes f s a op.reg d k p h)
    (λ l i. i))
    (register_type-known notes f s op.reg h)

left_operand-known : (notes : Notes) (f : FnNote) (s : State) (a : Access) (op : Operand) → IsNotes notes → ParamsKnown notes f f.params
    → RegistersKnown notes f s → IfOk (left_operand notes f s a op) (λ x. IsKnown notes f x.ty × DestinationKnown x.to)
unfolding left_operand
left_operand-known notes f s a op k p h =
    ok_map (λ x. IsKnown notes f x.0 × DestinationKnown x.1) (λ x. IsKnown notes f x.ty × DestinationKnown x.to) held _
    (ok_beside (IsKnown notes f) DestinationKnown (left_value notes f s a op nowhere) (destination notes f s a op nowhere)
    (left_value-known notes f s a op nowhere k p h) (destination_known notes f s a op nowhere)) (λ x i. i)

arith_row-known : (notes : Notes) (f : FnNote) (s : State) (op : ArithOp) (wide : Bool) (left right : Operand) (extra : Extra)
    → IsNotes notes → ParamsKnown notes f f.params → RegistersKnown notes f s
    → IfOk (arith_row notes f s op wide left right extra) (ChangeKnown notes f)
unfolding arith_row
arith_row-known notes f s op wide left right extra k p h =
    ok_then (λ x. (IsKnown notes f x.0.ty × DestinationKnown x.0.to) × LoadKnown notes f x.1) (ChangeKnown notes f) _ _
    (ok_beside (λ x. IsKnown notes f x.ty × DestinationKnown x.to) (LoadKnown notes f) (left_operand notes f s (form_access wide) left)
    (operand_value notes f s (form_access wide) right extra)
    (left_operand-known notes f s (form_access wide) left k p h) (operand_value-known notes f s (form_access wide) right extra k p h))
    (λ x i. ok_also (ChangeKnown notes f) (put x.0.to (computed_type notes.shape op wide x.0.ty x.1.ty))
    (needs rule.Divide (divisor_known op x.1.ty))
    (put_known notes f x.0.to _ i.0.1 (computed_type-known notes f notes.shape op wide x.0.ty x.1.ty i.0.0 i.1)))

-- ---- comparisons

flag_known : (notes : Notes) (f : FnNote) (fact : Option Fact) (holds : Bool) → ((x : Fact) → fact ≡ Some x → IsFact x)
    → IfOk (flag fact holds) (ChangeKnown notes f)
flag_known notes f fact holds h = ok_choice (ChangeKnown notes f) holds (Ok (change.Compared fact)) _ h tt

compare_row-known : (notes : Notes) (f : FnNote) (s : State) (op : CmpOp) (wide : Bool) (left : ℕ) (right : Operand) (extra : Extra)
    → IfOk (compare_row notes f s op wide left right extra) (ChangeKnown notes f)
unfolding compare_row
compare_row-known notes f s op wide left right extra =
    ok_then (λ _. Unit {0}) (ChangeKnown notes f) (beside (register_type s left) (operand_value notes f s (form_access wide) right extra)) _
    (ok_anything _)
    (λ x i. flag_known notes f None _ (λ y e. absurd cc))

of_register : (b : Bool) (a r : Result Ty RuleName) (n : ℕ) → IfOk r (λ _. 1 ≤ n) → IfOk (if b then a else r) (λ _. (b ≡ false) → 1 ≤ n)
of_register true (Ok x) r n h = λ e. absurd cc
of_register true (Err q) r n h = tt
of_register false a (Ok x) n h = λ e. h
of_register false a (Err q) n h = tt

named_by : (b : Bool) (r : ℕ) (t : Ty) → nat_eq r 0 ≡ b → IfOk (if b then Err rule.Stack else Ok t) (λ _. 1 ≤ r)
named_by true r t e = tt
named_by false zero t e = absurd cc
named_by false (suc r) t e = omega arith

named_register : (s : State) (r : ℕ) → IfOk (register_type s r) (λ _. 1 ≤ r)
unfolding register_type
named_register s r = named_by (nat_eq r 0) r (type_of s r) refl

-- a register of which CMPI says something isn't R0
direct_left : (notes : Notes) (f : FnNote) (s : State) (a : Access) (left : Operand) (d : Distance)
    → IfOk (left_value notes f s a left d) (λ _. (left.indirect ≡ false) → 1 ≤ left.reg)
direct_left notes f s a left d = of_register left.indirect (gives_map (λ l. l.ty) (load_at notes f s a left.reg d))
    (register_type s left.reg) left.reg (named_register s left.reg)

fact_cases : (w b : Bool) (y x : Fact) → (if w then (if b then None else Some y) else None) ≡ Some x → (b ≡ false) × (x.reg ≡ y.reg)
    × (x.k ≡ y.k)
fact_cases true true y x e = absurd cc
fact_cases true false y x e = let i : y ≡ x = cc in (refl, ap (λ z. z.reg) (sym i), ap (λ z. z.k) (sym i))
fact_cases false b y x e = absurd cc

fact_register : (op : CmpOp) (wide : Bool) (left : Operand) (imm : ℤ) (x : Fact) → fact_of op wide left imm ≡ Some x
    → (left.indirect ≡ false) × (x.reg ≡ left.reg) × (x.k ≡ wrap64 imm)
fact_register op wide left imm x e = fact_cases wide left.indirect (record { reg = left.reg; op = op; k = wrap64 imm }) x e

compare_imm_row-known : (notes : Notes) (f : FnNote) (s : State) (op : CmpOp) (wide : Bool) (left : Operand) (idx : Option Index) (imm : ℤ)
    → left.reg < 8 → IfOk (compare_imm_row notes f s op wide left idx imm) (ChangeKnown notes f)
unfolding compare_imm_row
compare_imm_row-known notes f s op wide left idx imm w =
    ok_then (λ _. (left.indirect ≡ false) → 1 ≤ left.reg) (ChangeKnown notes f)
    (left_value notes f s (form_access wide) left (index_distance idx)) _
    (direct_left notes f s (form_access wide) left (index_distance idx))
    (λ t i. flag_known notes f (fact_of op wide left imm) _ (λ x e. let g = fact_register op wide left imm x e in let l = i g.0 in
    let q = g.1 in let v = g.2 in let u = wrap_below imm in (omega arith, omega arith, omega arith)))

-- ---- moves

address_known : (notes : Notes) (f : FnNote) (o : Option Place) → IfSome o (PlaceKnown notes f) → IsKnown notes f (address_type o)
address_known notes f (Some (place.Local x cell)) h = record { bounded = h.0; names = h.1 }
address_known notes f o h = any_known notes f

frame_value-known : (notes : Notes) (f : FnNote) (s : State) (z : Size) (d : Distance) → IsNotes notes → ParamsKnown notes f f.params
    → RegistersKnown notes f s → IfOk (frame_value notes f s z d) (LoadKnown notes f)
frame_value-known notes f s size.Qword d k p h = address_known notes f (place_at notes f s 0 d) (place_at-known notes f s 0 d k p (h 0))
frame_value-known notes f s _ d k p h = tt

pub move_value-known : (notes : Notes) (f : FnNote) (s : State) (z : Size) (right : Operand) (ridx : Option Index) → IsNotes notes
    → ParamsKnown notes f f.params → RegistersKnown notes f s → IfOk (move_value notes f s z right ridx) (LoadKnown notes f)
unfolding move_value
move_value-known notes f s z right ridx k p h =
    ok_choice (LoadKnown notes f) right.indirect _ _ (load_at-known notes f s (move_access z) right.reg (index_distance ridx) k p h)
    (ok_choice (LoadKnown notes f) (nat_eq right.reg 0) _ _ (frame_value-known notes f s z (index_distance ridx) k p h)
    (kept-known notes f z _ (with_index-known notes f notes.shape (type_of s right.reg) ridx (h right.reg))))

move_row-known : (notes : Notes) (f : FnNote) (s : State) (z : Size) (left right : Operand) (lidx ridx : Option Index) → IsNotes notes
    → ParamsKnown notes f f.params → RegistersKnown notes f s → IfOk (move_row notes f s z left right lidx ridx) (ChangeKnown notes f)
unfolding move_row
move_row-known notes f s z left right lidx ridx k p h =
    ok_then (λ x. DestinationKnown x.0 × LoadKnown notes f x.1) (ChangeKnown notes f) _ _
    (ok_beside DestinationKnown (LoadKnown notes f) (destination notes f s (move_access z) left (index_distance lidx))
    (move_value notes f s z right ridx)
    (destination_known notes f s (move_access z) left (index_distance lidx)) (move_value-known notes f s z right ridx k p h))
    (λ x i. ok_also (ChangeKnown notes f) (put x.0 x.1.ty) (needs rule.Thunk x.1.made) (put_known notes f x.0 x.1.ty i.0 i.1))

pub signed_value-known : (notes : Notes) (f : FnNote) (s : State) (right : Operand) (extra : Extra) → IsNotes notes
    → ParamsKnown notes f f.params → RegistersKnown notes f s → IfOk (signed_value notes f s right extra) (LoadKnown notes f)
unfolding signed_value
signed_value-known notes f s right extra k p h =
    ok_choice (LoadKnown notes f) right.indirect _ _ (operand_value-known notes f s access.Signed right extra k p h)
    (ok_choice (LoadKnown notes f) (nat_eq right.reg 0) _ _ tt
    (kept_signed-known notes f _ (with_immediate-known notes f notes.shape (type_of s right.reg) extra (h right.reg))))

move_signed_row-known : (notes : Notes) (f : FnNote) (s : State) (left right : Operand) (lidx : Option Index) (extra : Extra)
    → IsNotes notes → ParamsKnown notes f f.params → RegistersKnown notes f s
    → IfOk (move_signed_row notes f s left right lidx extra) (ChangeKnown notes f)
unfolding move_signed_row
move_signed_row-known notes f s left right lidx extra k p h =
    ok_then (λ x. DestinationKnown x.0 × LoadKnown notes f x.1) (ChangeKnown notes f) _ _
    (ok_beside DestinationKnown (LoadKnown notes f) (destination notes f s access.Signed left (index_distance lidx))
    (signed_value notes f s right extra)
    (destination_known notes f s access.Signed left (index_distance lidx)) (signed_value-known notes f s right extra k p h))
    (λ x i. put_known notes f x.0 x.1.ty i.0 i.1)

-- ---- constants

find_by : (b : Bool) (x : Static) (xs : List Static) (o : Option Static) → IfSome o (λ y. (k : ℕ) × (slice_get xs k ≡ Some y))
    → IfSome (if b then Some x else o) (λ y. (k : ℕ) × (slice_get (x ∷ xs) k ≡ Some y))
find_by true x xs o h = (0, refl)
find_by false x xs None h = tt
find_by false x xs (Some y) h = (suc h.0, h.1)

low_below : (z : Size) (k : ℕ) → k < 2 ^ 64 → low_of z k < 2 ^ 64
low_below size.Byte k h = let l = mod-le k (2 ^ 8) in omega arith
low_below size.Word k h = let l = mod-le k (2 ^ 16) in omega arith
low_below size.Dword k h = let l = mod-le k (2 ^ 32) in omega arith
low_below size.Qword k h = h
low_below size.Natural k h = h

some_find : (p : Static → Bool) (xs : List Static) → IfSome (find p xs) (λ x. (k : ℕ) × (slice_get xs k ≡ Some x))
some_find p [] = tt
some_find p (x ∷ xs) = find_by (p x) x xs (find p xs) (some_find p xs)

static_known : (notes : Notes) (f : FnNote) (x : Static) → IsNotes notes → (k : ℕ) × (slice_get notes.statics k ≡ Some x)
    → IfSome (static_type x) (IsKnown notes f)
static_known notes f x n g =
    let c = n.statics g.0 x g.1 in
    let m = n.few.shapes in
    let l = c.shape in
    record { bounded = (c.count.0, (omega arith, omega arith), omega arith, c.count.1, omega arith); names = c.shape }

pub thing_known : (notes : Notes) (f : FnNote) (z : ℤ) → IsNotes notes → IfSome (thing_at notes z) (IsKnown notes f)
unfolding thing_at static_at thunk_at
thing_known notes f z n =
    some_else (IsKnown notes f) (and_then (find (is_static_at z) notes.statics) static_type) _
    (some_then (λ x. (k : ℕ) × (slice_get notes.statics k ≡ Some x)) (IsKnown notes f) (find (is_static_at z) notes.statics) static_type
    (some_find (is_static_at z) notes.statics) (λ x g. static_known notes f x n g))
    (some_then (λ i. position (is_thunk_at z) notes.thunk ≡ Some i) (IsKnown notes f) (position (is_thunk_at z) notes.thunk) thunk_type
    (some_is (position (is_thunk_at z) notes.thunk))
    (λ i e. let l = position-Some (is_thunk_at z) notes.thunk i (record { place = 0; function = 0 }) e in let m = n.few.thunks in
    record { bounded = omega (arith, l.0, m); names = l.0 }))

pub immediate_known : (notes : Notes) (f : FnNote) (reloc : Option ℕ) (z : Size) (bits : ℕ) (indirect : Bool) (imm : ℤ) → IsNotes notes
    → IfOk (immediate notes reloc z bits indirect imm) (IsKnown notes f)
immediate_known notes f None z bits indirect imm n = constant_known notes f _ (low_below z (wrap64 imm) (wrap_below imm))
immediate_known notes f (Some place) z bits indirect imm n =
    ok_choice (IsKnown notes f) (takes_address z bits indirect) _ _
    (ok_some (IsKnown notes f) rule.Relocation (thing_at notes (pos place)) (thing_known notes f (pos place) n)) tt

move_imm_row-known : (notes : Notes) (f : FnNote) (here : Here) (s : State) (z : Size) (bits : ℕ) (left : Operand) (lidx : Option Index)
    (imm : ℤ) → IsNotes notes → IfOk (move_imm_row notes f here s z bits left lidx imm) (ChangeKnown notes f)
unfolding move_imm_row
move_imm_row-known notes f here s z bits left lidx imm n =
    ok_then (λ x. IsKnown notes f x.0 × DestinationKnown x.1) (ChangeKnown notes f) _ _
    (ok_beside (IsKnown notes f) DestinationKnown (immediate notes here.reloc z bits left.indirect imm)
    (destination notes f s (move_access z) left (index_distance lidx))
    (immediate_known notes f here.reloc z bits left.indirect imm n)
    (destination_known notes f s (move_access z) left (index_distance lidx)))
    (λ x i. put_known notes f x.1 x.0 i.1 i.0)

pub immediate_index-known : (notes : Notes) (f : FnNote) (d : Distance) → IsKnown notes f (immediate_index d)
immediate_index-known notes f d =
    if_known notes f (int_eq d.n (pos 0) && int_le (pos 0) d.c) _ _ (λ e. constant_known notes f _ (wrap_below d.c))
    (if_known notes f (int_le (pos 1) d.n) _ _ (λ e. lin_known notes f d.n d.c (at_least_one_from d.n e)) (any_known notes f))

move_index_row-known : (notes : Notes) (f : FnNote) (s : State) (left : Operand) (lidx : Option Index) (d : Distance)
    → IfOk (move_index_row notes f s left lidx d) (ChangeKnown notes f)
unfolding move_index_row
move_index_row-known notes f s left lidx d =
    ok_then DestinationKnown (ChangeKnown notes f) (destination notes f s access.Natural left (index_distance lidx)) _
    (destination_known notes f s access.Natural left (index_distance lidx))
    (λ to i. put_known notes f to (immediate_index d) i (immediate_index-known notes f d))

written_known : (notes : Notes) (f : FnNote) (b : Bool) (r : ℕ) (t : Ty) → nat_eq r 0 ≡ b → IsKnown notes f t
    → IfOk (if b then Err rule.Stack else Ok (change.Written r t)) (ChangeKnown notes f)
written_known notes f true r t e h = tt
written_known notes f false zero t e h = absurd cc
written_known notes f false (suc r) t e h = (h, omega arith)

or_any-known : (notes : Notes) (f : FnNote) (o : Option Ty) → IfSome o (IsKnown notes f) → IsKnown notes f (or_any o)
or_any-known notes f None h = any_known notes f
or_any-known notes f (Some t) h = h

move_relative_row-known : (notes : Notes) (f : FnNote) (here : Here) (left : Operand) (imm : ℤ) → IsNotes notes
    → IfOk (move_relative_row notes here left imm) (ChangeKnown notes f)
unfolding move_relative_row
move_relative_row-known notes f here left imm n =
    ok_choice (ChangeKnown notes f) left.indirect _ _ tt
    (written_known notes f (nat_eq left.reg 0) left.reg (relative notes here.next imm) refl
    (or_any-known notes f (thing_at notes (pos here.next +ℤ imm)) (thing_known notes f (pos here.next +ℤ imm) n)))

store_special_row-known : (notes : Notes) (f : FnNote) (to special : ℕ) → IfOk (store_special_row to special) (ChangeKnown notes f)
unfolding store_special_row
store_special_row-known notes f to special =
    written_known notes f (nat_eq to 0) to (special_type special) refl
    (if_known notes f (nat_eq special 0) _ _ (λ e. int_known notes f 0 1 1 (omega arith) (omega arith) (omega arith) (omega arith))
    (any_known notes f))

-- ---- all instructions on data

plain_row-known : (notes : Notes) (f : FnNote) (here : Here) (s : State) (i : Insn) → IsNotes notes → ParamsKnown notes f f.params
    → RegistersKnown notes f s → WellFormed i → IfOk (plain_row notes f here s i) (ChangeKnown notes f)
plain_row-known notes f here s (Compare op wide left right extra) n p h w = compare_row-known notes f s op wide left right extra
plain_row-known notes f here s (CompareImm op wide left idx long imm) n p h w = compare_imm_row-known notes f s op wide left idx imm w.0
plain_row-known notes f here s (Arith op wide left right extra) n p h w = arith_row-known notes f s op wide left right extra n p h
plain_row-known notes f here s (Move z bits left right lidx ridx) n p h w = move_row-known notes f s z left right lidx ridx n p h
plain_row-known notes f here s (MoveSigned bits left right lidx extra) n p h w = move_signed_row-known notes f s left right lidx extra n p h
plain_row-known notes f here s (MoveImmNatural bits left lidx idx) n p h w = move_index_row-known notes f s left lidx (counted idx)
plain_row-known notes f here s (MoveRelative bits left lidx imm) n p h w = move_relative_row-known notes f here left imm n
plain_row-known notes f here s (StoreSpecial to special) n p h w = store_special_row-known notes f to special
plain_row-known notes f here s _ n p h w = tt

data_row-known : (notes : Notes) (f : FnNote) (here : Here) (s : State) (i : Insn) → IsNotes notes → ParamsKnown notes f f.params
    → RegistersKnown notes f s → WellFormed i → IfOk (data_row notes f here s i) (ChangeKnown notes f)
data_row-known notes f here s (MoveImm z bits left lidx imm) n p h w = move_imm_row-known notes f here s z bits left lidx imm n
data_row-known notes f here s i n p h w = ok_choice (ChangeKnown notes f) (is_none here.reloc) _ _
    (plain_row-known notes f here s i n p h w) tt

-- the state after an instruction on data meets the conditions
pub after_data-keeps : (notes : Notes) (here : Here) (s : State) (i : Insn) (f : FnNote) → slice_get notes.function here.func ≡ Some f
    → IsNotes notes → IsState notes f s → WellFormed i → IfOk (after_data notes here s i) (IsState notes f)
unfolding after_data data_change
after_data-keeps notes here s i f e n h w =
    ok_map (ChangeKnown notes f) (IsState notes f) (changed s) _
    (rw e (data_row-known notes f here s i n (λ j p g. params_known notes here.func j f f p n e g) h.registers w))
    (λ change k. changed_keeps notes f s change h k)
