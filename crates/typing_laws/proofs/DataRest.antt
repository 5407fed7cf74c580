-- The other rows of data: CMPI, MOVsn, MOVI, MOVIn, MOVREL and STORESP.
use Rattle.typing_laws.proofs.Common.{◌≡◌, ◌≢◌, ℕ, zero, suc, ◌+◌, ◌%◌, ◌^◌, ◌<◌, ◌≤◌, Bool, true, false, ◌&&◌, if◌then◌else◌, nat_eq, List}
use Rattle.typing_laws.proofs.Common.{[], ◌∷◌, ◌++◌, map, length, get_or, position, Option, Some, None, Ok, Err, IfOk, slice_get, refl, sym}
use Rattle.typing_laws.proofs.Common.{ap, ◌∙◌, subst, arith, option_map, mod-eq_of_lt, ℤ, pos, ◌+ℤ◌, int_le, find, option_or, int_eq}
use Rattle.typing_laws.proofs.Common.{eqb-false, ne_eqb, and_parts, Decides-int_eq, position-Some, same_Some, none-some, wrap64, Index}
use Rattle.typing_laws.proofs.Common.{Operand, Size, IsKnown, IsNotes, FnNote, Notes, Static, Thunk, State, Ty, known, changed, destination}
use Rattle.typing_laws.proofs.Common.{counted, index_distance, beside, and_then, constant, lin, or_any, is_static_at, is_thunk_at}
use Rattle.typing_laws.proofs.Common.{static_at, static_type, takes_address, thing_at, thunk_at, thunk_type, Change, Here, Distance}
use Rattle.typing_laws.proofs.Common.{move_access, wrap_below, FunctionFrame, Frame, Config, depth, with_value, Move, kept, static_object}
use Rattle.typing_laws.proofs.Common.{made_objects, Gives, Stuck, ◌>>=◌, Neutral, Num, Junk, number, pair, word, World, index_pair, indexed}
use Rattle.typing_laws.proofs.Common.{stored_by, with_register, written, Site, address_of_place, goes, Accepts, live_memory, RuleName}
use Rattle.natural_index.specs.Index.{pair_of}
use Rattle.ebc_insn.specs.Spelling.{NotNatural}
use Rattle.rules_base.specs.Things.{relocated}
use Rattle.rules_data.specs.{Data.special_type, Moves.immediate, Moves.immediate_index, Moves.low_of, Moves.relative}
use Rattle.rules_laws.proofs.RowsKeep.{immediate_known, immediate_index-known}
use Rattle.host_model.specs.Objects.{placed_objects, script_object}
use Rattle.neutral_machine.specs.Rows.{flags_of, move_imm_natural_row, move_imm_row, move_relative_row, store_special_row}
use Rattle.typing_laws.proofs.{Rows.number_fits, Rows.one_divides, Rows.same_fits, Rows.then_some, Rows.wrap_add, Rows.err_ok, Rows.ok_same}
use Rattle.typing_laws.proofs.{Rows.unless_ok, Rows.when_ok, Rows.wraps, Rows.units_fit, Rows.choice_fits, ArithRow.GoesOn}
use Rattle.typing_laws.proofs.{ArithRow.beside_ok, ArithRow.goes_on, ArithRow.left_goes, Accesses.access_of, Changes.register_written}
use Rattle.typing_laws.proofs.{Stores.Within, Context.TopSound, Context.FitsHere, Context.seen, MoveRow.access_same, Operands.IsSmall}
use Rattle.typing_laws.proofs.{Operands.some_ok, Operands.then_ok, Pointed.IsBeside, Things.thing_fits}
use Rattle.rules_data.specs.Data as rules_data
use Rattle.neutral_machine.specs.Rows as rows

-- ---- what starts at a place

find_true : {A : Type 0} (t : A → Bool) (xs : List A) (x : A) → find t xs ≡ Some x → (t x ≡ true) × ((i : ℕ) × (slice_get xs i ≡ Some x))
find_true t [] x e = absurd (none-some x e)
find_true t (y ∷ ys) x e = go (λ g. find_true t ys x g) (t y) refl e
  where
    go : (find t ys ≡ Some x → (t x ≡ true) × ((i : ℕ) × (slice_get ys i ≡ Some x))) → (b : Bool) → t y ≡ b
        → (if b then Some y else find t ys) ≡ Some x → (t x ≡ true) × ((i : ℕ) × (slice_get (y ∷ ys) i ≡ Some x))
    go next true h e = (ap t (sym (same_Some y x e)) ∙ h, (0, e))
    go next false h e = let r = next e in (r.0, (suc r.1.0, r.1.1))

get_there : {A : Type 0} (xs : List A) (i : ℕ) (d : A) → i < length xs → slice_get xs i ≡ Some (get_or xs i d)
get_there [] i d l = absurd (omega (arith, l))
get_there (x ∷ xs) zero d l = refl
get_there (x ∷ xs) (suc i) d l = get_there xs i d (omega (arith, l))

-- the place of a thing is one of the image
pub record ThingPlace (z : ℤ) : Type 0 where
  pub place : ℕ
  pub is : z ≡ pos place
  pub small : place < 2 ^ 22

pub thing_place : (notes : Notes) (z : ℤ) (t : Ty) → IsNotes notes → thing_at notes z ≡ Some t → ThingPlace z
unfolding thing_at static_at thunk_at
thing_place notes z t known e = go (find (is_static_at z) notes.statics) refl e
  where
    thunk : and_then (position (is_thunk_at z) notes.thunk) thunk_type ≡ Some t → ThingPlace z
    thunk e = then_some (position (is_thunk_at z) notes.thunk) thunk_type t e (λ i e1 e2.
        let d : Thunk = record { place = 0; function = 0 } in
        let q = position-Some (is_thunk_at z) notes.thunk i d e1 in
        let x = get_or notes.thunk i d in
        record {
          place = x.place;
          is = sym ((Decides-int_eq (pos x.place) z).0 q.1);
          small = (known.thunks i x (get_there notes.thunk i d q.0)).place;
        })

    go : (o : Option Static) → find (is_static_at z) notes.statics ≡ o
        → option_or (and_then o static_type) (and_then (position (is_thunk_at z) notes.thunk) thunk_type) ≡ Some t → ThingPlace z
    go (Some x) h e =
        let r = find_true (is_static_at z) notes.statics x h in
        record { place = x.place; is = sym ((Decides-int_eq (pos x.place) z).0 r.0); small = (known.statics r.1.0 x r.1.1).place }
    go None h e = thunk e

module _ {world : World} {a : Config} {f : FunctionFrame} {fs : List Frame} {note : FnNote} {s : State}
    (st : TopSound world a f fs note s) where
  -- the objects begin with the static ones
  statics_first : (live_memory world a).objects ≡ map static_object world.notes.statics
      ++ map script_object (placed_objects world.script a.script.entries)
  unfolding made_objects
  statics_first = refl

  pub thing_here : (p : ℕ) (t : Ty) → thing_at world.notes (pos p) ≡ Some t → FitsHere st t (address_of_place world.notes p)
  thing_here p t e = thing_fits world.notes (live_memory world a)
      (map script_object (placed_objects world.script a.script.entries)) statics_first (depth fs) f.saved p t e

  -- ---- MOVIn

  index_fits : (d : Distance) → FitsHere st (immediate_index d) (pair d.n d.c)
  index_fits d = choice_fits (seen st) (int_eq d.n (pos 0) && int_le (pos 0) d.c) (constant (wrap64 d.c))
      (if int_le (pos 1) d.n then lin d.n d.c else Ty.Any) (pair d.n d.c)
      (λ e. same_fits (seen st) (wrap64 d.c) (wrap64 d.c) (pair d.n d.c) (ap (λ n. Num (wrap64 n) (wrap64 d.c))
      ((Decides-int_eq d.n (pos 0)).0 (and_parts (int_eq d.n (pos 0)) (int_le (pos 0) d.c) e).0)) (wraps d.c))
      (λ _. units_fit (seen st) d.n d.c)

  pub move_index_fits : (left : Operand) (lidx : Option Index) (idx : Index) (next : ℕ) (k : Change) → left.reg < 8
      → IsBeside (option_map index_pair lidx) (index_distance lidx) → IsSmall (index_distance lidx) → next < world.image_size
      → rules_data.move_index_row world.notes note s left lidx (counted idx) ≡ Ok k
      → Accepts (GoesOn world next (changed s k)) (move_imm_natural_row world a next (indexed left lidx) idx)
  unfolding move_imm_natural_row rules_data.move_index_row
  move_index_fits left lidx idx next k l b m i e =
      then_ok (destination world.notes note s (access_of (Move Size.Natural)) left (index_distance lidx)) _ k e (λ to e1 e2.
      left_goes st (Move Size.Natural) left (option_map index_pair lidx) (index_distance lidx) next to k (immediate_index (counted idx))
      (pair (pair_of idx).0 (pair_of idx).1) l b m i e1 e2 tt (immediate_index-known world.notes note (counted idx)).bounded
      (index_fits (counted idx)))

  -- ---- MOVI

  -- a number in the bits that a move keeps
  low_kept : (bits : ℕ) (v : ℤ) → 2 ^ bits ≤ 2 ^ 64 → FitsHere st (constant (wrap64 v % 2 ^ bits)) (number (word (wrap64 v) % 2 ^ bits))
  low_kept bits v h = same_fits (seen st) (word (wrap64 v) % 2 ^ bits)
      (wrap64 v % 2 ^ bits) _ refl (ap (λ x. x % 2 ^ bits) (ap word (wraps v) ∙ mod-eq_of_lt (wrap_below v)))

  number_kept : (size : Size) (v : ℤ) → NotNatural size → FitsHere st (constant (low_of size (wrap64 v)))
      (kept world.notes (live_memory world a).objects (Move size) (number (wrap64 v)))
  number_kept Size.Byte v n = low_kept 8 v (omega arith)
  number_kept Size.Word v n = low_kept 16 v (omega arith)
  number_kept Size.Dword v n = low_kept 32 v (omega arith)
  number_kept Size.Qword v n = same_fits (seen st) (wrap64 v) (wrap64 v) (number (wrap64 v)) refl (wraps v)
  number_kept Size.Natural v n = absurd n

  number_within : (size : Size) (x : ℕ) → NotNatural size → Within (access_of (Move size)) (constant (low_of size x))
  number_within Size.Qword x n = tt
  number_within Size.Natural x n = absurd n
  number_within size x n = omega arith

  address_kept : (size : Size) (bits p : ℕ) (indirect : Bool) (t : Ty) → relocated world.notes (takes_address size bits indirect) p ≡ Ok t
      → FitsHere st t (kept world.notes (live_memory world a).objects (Move size) (address_of_place world.notes p))
      × Within (access_of (Move size)) t
  address_kept Size.Qword bits p indirect t e = (
    when_ok (takes_address Size.Qword bits indirect) _ _ t e (λ _ e1.
        some_ok RuleName.Relocation (thing_at world.notes (pos p)) t e1 (λ h. thing_here p t h)),
    tt,
  )
  address_kept size bits p indirect t e = absurd (err_ok RuleName.Relocation t e)

  immediate_kept : (reloc : Option ℕ) (size : Size) (bits : ℕ) (indirect : Bool) (imm : ℤ) (t : Ty) → NotNatural size
      → immediate world.notes reloc size bits indirect imm ≡ Ok t
      → FitsHere st t (kept world.notes (live_memory world a).objects (Move size)
      (rows.immediate world.notes reloc imm)) × Within (access_of (Move size)) t
  immediate_kept None size bits indirect imm t n e =
      let q = ok_same (constant (low_of size (wrap64 imm))) t e in (
        subst (λ z. FitsHere st z (kept world.notes (live_memory world a).objects (Move size) (number (wrap64 imm)))) q
            (number_kept size imm n),
        subst (Within (access_of (Move size))) q (number_within size (wrap64 imm) n),
      )
  immediate_kept (Some p) size bits indirect imm t n e = address_kept size bits p indirect t e

  pub move_imm_fits : (here : Here) (site : Site) (size : Size) (bits : ℕ) (left : Operand) (lidx : Option Index) (imm : ℤ) (k : Change)
      → here.reloc ≡ site.reloc → NotNatural size → left.reg < 8
      → IsBeside (option_map index_pair lidx) (index_distance lidx) → IsSmall (index_distance lidx) → site.next < world.image_size
      → rules_data.move_imm_row world.notes note here s size bits left lidx imm ≡ Ok k
      → Accepts (GoesOn world site.next (changed s k)) (move_imm_row world a site size (indexed left lidx) imm)
  unfolding move_imm_row rules_data.move_imm_row
  move_imm_fits here site size bits left lidx imm k er n l b m i e =
      then_ok (beside (immediate world.notes here.reloc size bits left.indirect imm)
      (destination world.notes note s (move_access size) left (index_distance lidx))) _ k e (λ p e1 e2.
      beside_ok (immediate world.notes here.reloc size bits left.indirect imm)
      (destination world.notes note s (move_access size) left (index_distance lidx)) p e1 (λ e3 e4.
      let imm_is = sym (ap (λ z. immediate world.notes z size bits left.indirect imm) er) ∙ e3 in
      let to_is = sym (ap (λ z. destination world.notes note s z left (index_distance lidx)) (access_same size)) ∙ e4 in
      let v = immediate_kept site.reloc size bits left.indirect imm p.0 n imm_is in
      let q = (subst (λ o. IfOk o (IsKnown world.notes note)) imm_is
      (immediate_known world.notes note site.reloc size bits left.indirect imm st.typed.notes)).bounded in
      left_goes st (Move size) left (option_map index_pair lidx) (index_distance lidx) site.next p.1 k p.0
      (kept world.notes (live_memory world a).objects (Move size) (rows.immediate world.notes site.reloc imm)) l b m i to_is e2 v.1 q v.0))

  -- ---- a register written

  pub register_goes : (r next : ℕ) (t : Ty) (v : Neutral) → r ≢ 0 → r < 8 → next < world.image_size → FitsHere st t v
      → Accepts (GoesOn world next (changed s (Change.Written r t))) (with_register a r v >>= (λ b. goes world b next))
  unfolding with_register changed
  register_goes r next t v n l i h =
      subst (λ b. Accepts (GoesOn world next (changed s (Change.Written r t)))
      ((if b then Stuck else Gives (record a { registers = with_value a.registers r v })) >>= (λ b. goes world b next)))
      (sym (ne_eqb r 0 n))
      (goes_on (record a { registers = with_value a.registers r v }) next _ i (record {
        frames = st.frames;
        top = register_written world.notes (live_memory world a) (depth fs) f s a.registers a.c a.made r t v l h st.top;
        below = record { cells = st.below.cells; frames = st.below.frames; few = st.below.few };
      }))

  -- a rule that gives a register to be written, other than R0
  not_zero : {P : Type 0} (r : ℕ) (t : Ty) (k : Change) → (if nat_eq r 0 then Err RuleName.Stack else Ok (Change.Written r t)) ≡ Ok k
      → (r ≢ 0 → Change.Written r t ≡ k → P) → P
  not_zero {P} r t k e h = unless_ok (nat_eq r 0) _ _ k e (λ q e1. h (eqb-false r 0 q) (ok_same (Change.Written r t) k e1))

  -- ---- STORESP

  special_fits : (b : Bool) → FitsHere st (if b then Ty.Int 0 1 1 else Ty.Any) (if b then number (flags_of a.c) else Junk)
  special_fits false = tt
  special_fits true = go a.c
    where
      go : (c : Bool) → FitsHere st (Ty.Int 0 1 1) (number (flags_of c))
      go true = number_fits (seen st) 1 0 1 1 _ refl (omega arith) (omega arith) (one_divides 1)
      go false = number_fits (seen st) 0 0 1 1 _ refl (omega arith) (omega arith) (one_divides 0)

  pub store_special_fits : (r special next : ℕ) (k : Change) → r < 8 → next < world.image_size
      → rules_data.store_special_row r special ≡ Ok k → Accepts (GoesOn world next (changed s k)) (store_special_row world a next r special)
  unfolding store_special_row rules_data.store_special_row
  store_special_fits r special next k l i e =
      not_zero r (special_type special) k e (λ n q.
      subst (λ z. Accepts (GoesOn world next (changed s z))
      (with_register a r (if nat_eq special 0 then number (flags_of a.c) else Junk) >>= (λ b. goes world b next))) q
      (register_goes r next (special_type special) (if nat_eq special 0 then number (flags_of a.c) else Junk) n l i
      (special_fits (nat_eq special 0))))

  -- ---- MOVREL

  relative_fits : (next : ℕ) (imm : ℤ) → IsNotes world.notes → FitsHere st (relative world.notes next imm)
      (address_of_place world.notes (word (next + wrap64 imm)))
  relative_fits next imm known = go (thing_at world.notes (pos next +ℤ imm)) refl
    where
      go : (o : Option Ty) → thing_at world.notes (pos next +ℤ imm) ≡ o
          → FitsHere st (or_any o) (address_of_place world.notes (word (next + wrap64 imm)))
      go None e = tt
      go (Some t) e =
          let p = thing_place world.notes (pos next +ℤ imm) t known e in
          let w : wrap64 (pos next +ℤ imm) ≡ word (wrap64 (pos next) + wrap64 imm) = wrap_add (pos next) imm in
          let u : wrap64 (pos p.place) ≡ p.place = (let l = p.small in omega (arith, l)) in
          let same : word (next + wrap64 imm) ≡ p.place = (let z : word (wrap64 (pos next) + wrap64 imm) ≡ word (next + wrap64 imm) =
          omega arith in sym z ∙ sym w ∙ ap wrap64 p.is ∙ u) in
          subst (λ z. FitsHere st t (address_of_place world.notes z)) (sym same)
          (thing_here p.place t (ap (thing_at world.notes) (sym p.is) ∙ e))

  pub move_relative_fits : (here : Here) (left : Operand) (lidx : Option Index) (imm : ℤ) (next : ℕ) (k : Change) → here.next ≡ next
      → left.reg < 8 → next < world.image_size → rules_data.move_relative_row world.notes here left imm ≡ Ok k
      → Accepts (GoesOn world next (changed s k)) (move_relative_row world a next (indexed left lidx) imm)
  unfolding move_relative_row rules_data.move_relative_row written
  move_relative_fits here left lidx imm next k en l i e = unless_ok left.indirect _ _ k e (λ g e1.
      not_zero left.reg (relative world.notes here.next imm) k e1 (λ n q.
      subst (λ z. Accepts (GoesOn world next (changed s z)) (written world a (Move Size.Natural) (indexed left lidx)
      (address_of_place world.notes (word (next + wrap64 imm))) >>= (λ b. goes world b next))) q
      (subst (λ o. Accepts (GoesOn world next (changed s (Change.Written left.reg (relative world.notes here.next imm))))
      (o >>= (λ b. goes world b next))) (sym (ap (λ b. if b then stored_by world a (Move Size.Natural) left.reg (option_map index_pair lidx)
      (address_of_place world.notes (word (next + wrap64 imm)))
      else with_register a left.reg (address_of_place world.notes (word (next + wrap64 imm)))) g))
      (register_goes left.reg next (relative world.notes here.next imm) (address_of_place world.notes (word (next + wrap64 imm))) n l i
      (subst (λ z. FitsHere st (relative world.notes z imm) (address_of_place world.notes (word (next + wrap64 imm)))) (sym en)
      (relative_fits next imm st.typed.notes))))))
