-- Arithmetic, comparisons and moves: the machine does what the neutral machine does.
use Rattle.instruction_laws.proofs.Common.{◌≡◌, ℕ, zero, ◌+◌, ◌*◌, ◌/◌, ◌%◌, ◌^◌, ◌<◌, ◌≤◌, Bool, true, false, if◌then◌else◌, nat_eq}
use Rattle.instruction_laws.proofs.Common.{nat_lt, List, [], ◌∷◌, Option, Some, None, Ok, ℤ, refl, sym, ap, ◌∙◌, subst, arith, slice_get}
use Rattle.instruction_laws.proofs.Common.{option_map, get_or, eqb-true, ltb-true, none-some, IsWidth, wrap64, extended_at, by_width}
use Rattle.instruction_laws.proofs.Common.{wrap64-below, extended_at-below, linear_at-wrap64, pair_of, Index, ArithOp, CmpOp, Size}
use Rattle.instruction_laws.proofs.Common.{form_bytes, index_offset, sum_at, Concrete, register, with_register, Static, Thunk, ObjectOf}
use Rattle.instruction_laws.proofs.Common.{ThunkOf, Neutral, Num, At, Addresses, Shows, number, word, option_or, option_map_or}
use Rattle.instruction_laws.proofs.Common.{slice_get-get_or, Config, World, Placement, IsPlacement, stack_bytes, addresses, total}
use Rattle.instruction_laws.proofs.Common.{memory_of, or_stuck, Does, RowsAlike, compared_as, Access, Move, Form, Signed, access_bytes}
use Rattle.instruction_laws.proofs.Common.{kept, NeutralSide, direct_value, Site, flags_of, immediate, MachineStands, Names, WorldFits}
use Rattle.instruction_laws.proofs.Common.{shown_in, number_shows, kept_shows, bounded, objects_below, turned_stands}
use Rattle.ebc_width.proofs.Laws.{extended_at-at_small, linear_at-below}
use Rattle.ebc_machine.specs.Operands.{size_bytes, low_bytes}
use Rattle.machine_alu.specs.Alu.{compared}
use Rattle.note_types.specs.Concrete.{with_flags}
use Rattle.host_model.specs.Values.{Anchor, Error, Junk, pair, error_at, signed_error_at, IsCode}
use Rattle.std.specs.{List.position, Option.option_map}
use Rattle.std.proofs.lemmas.List.Quantifiers.{position-Some}
use Rattle.neutral_machine.specs.{Operations.sign_extended, Rows.with_c, Rows.address_of_place}
use Rattle.neutral_machine.proofs.{Placed.static_address, Combined.combined_does, Compared.compared_same}
use Rattle.instruction_laws.proofs.Operands.{bind_does, nothing_beside, direct_shows, values, writes_does, registers_written, address_of}
use Rattle.instruction_laws.proofs.Operands.{goes_does}
use Rattle.instruction_laws.proofs.Accesses.{Beside, ShowsWord}
use Rattle.ebc_insn.specs.declared.Size.TheVariants as sizes
use Rattle.ebc_machine.specs.Data as machine_data
use Rattle.ebc_machine.specs.Moves as machine_moves
use Rattle.ebc_machine.specs.Results as machine_results
use Rattle.note_types.specs.declared.exception.Exception.TheVariants as raises
use Rattle.neutral_machine.specs.Outcomes as outcomes
use Rattle.neutral_machine.specs.Rows as rows

pub form_size : (w : ℕ) (wide : Bool) → form_bytes wide ≡ access_bytes w (Form wide)
form_size w true = refl
form_size w false = refl

pub move_size : (w : ℕ) (size : Size) → size_bytes w size ≡ access_bytes w (Move size)
move_size w sizes.Byte = refl
move_size w size = refl

-- the thing that is found first passes the test
position_at : {X : Type 0} (t : X → Bool) (xs : List X) (k : ℕ) → position t xs ≡ Some k → (x : X) × (slice_get xs k ≡ Some x)
    × (t x ≡ true)
position_at t [] k e = absurd (none-some k e)
position_at t (x ∷ xs) k e =
    let p = position-Some t (x ∷ xs) k x e in
    let g = slice_get-get_or (x ∷ xs) k x p.0 in
    (get_or (x ∷ xs) k x, g, p.1)

module _ (w : ℕ) (world : World) (P : Placement) (mapped : ℕ → ℕ) (h : IsWidth w) (ok : WorldFits world) (pl : IsPlacement w world P) where
  abbrev Word : Config → Neutral → ℕ → Type 0
  Word a v x = ShowsWord w world P mapped h ok pl a v x

  abbrev Stand : Config → Concrete → Type 0
  Stand a s = MachineStands w world P mapped None a s

  abbrev Room : Config → Type 0
  Room a = total w a.frames ≤ stack_bytes w world.notes

  -- ---- arithmetic

  pub arith_does : (a : Config) (s : Concrete) (next : ℕ) (op : ArithOp) (wide : Bool) (left right : NeutralSide) (x y : ℕ) → left.reg < 8
      → right.reg < 8 → Room a → Stand a s → Beside w world P mapped h ok pl left.beside x → Beside w world P mapped h ok pl right.beside y
      → Does (RowsAlike w world P mapped) (rows.arith_row world a next op wide left right)
      (machine_data.arith_row w s (address_of w world P mapped h ok pl next) op wide
      (record { reg = left.reg; indirect = left.indirect; offset = x })
      (record { reg = right.reg; indirect = right.indirect; offset = y }))
  unfolding rows.arith_row machine_data.arith_row
  arith_does a s next op wide left right x y l r room st el er =
      bind_does (Word a) (RowsAlike w world P mapped) _ _ _ _ (values w world P mapped h ok pl a s raises.MemoryFault (Form wide)
      (form_bytes wide) right y (form_size w wide) r room st er) (λ u b pu.
      bind_does (Word a) (RowsAlike w world P mapped) _ _ _ _ (values w world P mapped h ok pl a s raises.MemoryFault (Form wide)
      (form_bytes wide) left x (form_size w wide) l room st el) (λ v c pv.
      bind_does (Word a) (RowsAlike w world P mapped) _ _ _ _ (combined_does w h (addresses w world.notes P a.frames) op wide v u c b pv pu)
      (λ z d pz.
      bind_does Stand (RowsAlike w world P mapped) _ _ _ _ (writes_does w world P mapped h ok pl a s (Form wide)
      (form_bytes wide) left x z d (form_size w wide) l room st el pz) (λ a2 s2 st2.
      goes_does w world P mapped h ok pl a2 s2 next st2))))

  -- ---- comparisons

  pub zero_more : (n : ℕ) → 0 + n ≡ n
  zero_more n = omega arith

  flag_number : (flags : ℕ) (c d : Bool) → flags ≡ flags_of c → machine_data.with_c flags d ≡ flags_of d
  flag_number flags true d e = ap (λ f. f / 2 * 2 + flags_of d) e ∙ zero_more (flags_of d)
  flag_number flags false d e = ap (λ f. f / 2 * 2 + flags_of d) e ∙ zero_more (flags_of d)

  flag_stands : (a : Config) (s : Concrete) (c : Bool) → Stand a s → Stand (with_c a c) (with_flags s (machine_data.with_c s.flags c))
  unfolding with_flags
  flag_stands a s c st = turned_stands w world P mapped None a s c a.spot (machine_data.with_c s.flags c) s.ip
      (flag_number s.flags a.c c st.flags) st.spot st

  compared_goes : (a : Config) (s : Concrete) (next : ℕ) (op : CmpOp) (wide : Bool) (v u : Neutral) (x y : ℕ) → Stand a s → Word a v x
      → Word a u y
      → Does (RowsAlike w world P mapped) (outcomes.◌>>=◌ (or_stuck (compared_as world.notes (memory_of world a).objects op wide v u))
      (λ c. rows.goes world (with_c a c) next)) (machine_results.goes
      (with_flags s (machine_data.with_c s.flags (compared op wide x y))) (address_of w world P mapped h ok pl next))
  compared_goes a s next op wide v u x y st p q = go (compared_as world.notes (memory_of world a).objects op wide v u) refl
    where
      go : (o : Option Bool) → compared_as world.notes (memory_of world a).objects op wide v u ≡ o
          → Does (RowsAlike w world P mapped) (outcomes.◌>>=◌ (or_stuck o) (λ c. rows.goes world (with_c a c) next))
          (machine_results.goes (with_flags s (machine_data.with_c s.flags (compared op wide x y)))
          (address_of w world P mapped h ok pl next))
      go None e = tt
      go (Some c) e =
          let f = compared_same w world P h ok pl a.script.entries a.frames op wide v u x y c p q e in
          subst (λ d. Does (RowsAlike w world P mapped) (rows.goes world (with_c a c) next)
          (machine_results.goes (with_flags s (machine_data.with_c s.flags d)) (address_of w world P mapped h ok pl next))) (sym f)
          (goes_does w world P mapped h ok pl (with_c a c) (with_flags s (machine_data.with_c s.flags c)) next (flag_stands a s c st))

  -- a register by itself
  register_word : (a : Config) (s : Concrete) (r : ℕ) → r < 8 → Room a → Stand a s → Word a (direct_value world a r None) (register s r)
  unfolding sum_at
  register_word a s r l room st =
      let d = direct_shows w world P mapped h ok pl a s r 0 None l room st (nothing_beside w world P mapped h ok pl) in
      let m = st.words r in
      subst (Word a (direct_value world a r None)) (let e : (register s r + 0) % 2 ^ 64 ≡ register s r = omega (arith, m) in e) d

  pub compare_does : (a : Config) (s : Concrete) (next : ℕ) (op : CmpOp) (wide : Bool) (left : ℕ) (right : NeutralSide) (y : ℕ) → left < 8
      → right.reg < 8 → Room a → Stand a s → Beside w world P mapped h ok pl right.beside y
      → Does (RowsAlike w world P mapped) (rows.compare_row world a next op wide left right)
      (machine_data.compare_row w s (address_of w world P mapped h ok pl next) op wide left
      (record { reg = right.reg; indirect = right.indirect; offset = y }))
  unfolding rows.compare_row machine_data.compare_row
  compare_does a s next op wide left right y l r room st er =
      bind_does (Word a) (RowsAlike w world P mapped) _ _ _ _ (values w world P mapped h ok pl a s raises.MemoryFault (Form wide)
      (form_bytes wide) right y (form_size w wide) r room st er) (λ u b pu.
      compared_goes a s next op wide (direct_value world a left None) u (register s left) b st (register_word a s left l room st) pu)

  pub compare_imm_does : (a : Config) (s : Concrete) (next : ℕ) (op : CmpOp) (wide : Bool) (left : NeutralSide) (x : ℕ) (imm : ℤ)
      → left.reg < 8 → Room a → Stand a s → Beside w world P mapped h ok pl left.beside x
      → Does (RowsAlike w world P mapped) (rows.compare_imm_row world a next op wide left imm)
      (machine_data.compare_imm_row w s (address_of w world P mapped h ok pl next) op wide
      (record { reg = left.reg; indirect = left.indirect; offset = x }) imm)
  unfolding rows.compare_imm_row machine_data.compare_imm_row
  compare_imm_does a s next op wide left x imm l room st el =
      bind_does (Word a) (RowsAlike w world P mapped) _ _ _ _ (values w world P mapped h ok pl a s raises.MemoryFault (Form wide)
      (form_bytes wide) left x (form_size w wide) l room st el) (λ v b pv.
      compared_goes a s next op wide v (number (wrap64 imm)) b (wrap64 imm) st pv
      (wrap64-below imm, number_shows w (addresses w world.notes P a.frames) (wrap64 imm) (wrap64-below imm)))

  -- ---- moves

  -- what a move keeps of what shows
  low_small : (access : Access) (x : ℕ) → x < 2 ^ 64 → low_bytes (access_bytes w access) x < 2 ^ 64
  low_small access x l = let r = mod_le x (2 ^ (8 * access_bytes w access)) in omega (arith, r, l)
    where
      mod_le : (x y : ℕ) → x % y ≤ x
      mod_le x y = omega arith

  pub kept_word : (a : Config) (s : Concrete) (access : Access) (v : Neutral) (x : ℕ) → Room a → Stand a s → Word a v x
      → Word a (kept world.notes (memory_of world a).objects access v) (low_bytes (access_bytes w access) x)
  kept_word a s access v x room st p = (
    low_small access x p.0,
    kept_shows w world.notes (memory_of world a).objects (addresses w world.notes P a.frames) access v _ h
        (bounded w world P h ok pl a.frames room st.locals) (objects_below w world P h ok pl a.script.entries a.frames)
        (shown_in w (addresses w world.notes P a.frames) (access_bytes w access) v x p.1),
  )

  pub move_does : (a : Config) (s : Concrete) (next : ℕ) (size : Size) (left right : NeutralSide) (x y : ℕ) → left.reg < 8 → right.reg < 8
      → Room a → Stand a s → Beside w world P mapped h ok pl left.beside x → Beside w world P mapped h ok pl right.beside y
      → Does (RowsAlike w world P mapped) (rows.move_row world a next size left right)
      (machine_moves.move_row w s (address_of w world P mapped h ok pl next) size
      (record { reg = left.reg; indirect = left.indirect; offset = x })
      (record { reg = right.reg; indirect = right.indirect; offset = y }))
  unfolding rows.move_row machine_moves.move_row
  move_does a s next size left right x y l r room st el er =
      bind_does (Word a) (RowsAlike w world P mapped) _ _ _ _ (values w world P mapped h ok pl a s raises.MemoryFault (Move size)
      (size_bytes w size) right y (move_size w size) r room st er) (λ u b pu.
      bind_does Stand (RowsAlike w world P mapped) _ _ _ _ (writes_does w world P mapped h ok pl a s (Move size) (size_bytes w size) left x
      (kept world.notes (memory_of world a).objects (Move size) u) (low_bytes (size_bytes w size) b) (move_size w size) l room st el
      (subst (λ k. Word a (kept world.notes (memory_of world a).objects (Move size) u) (low_bytes k b)) (sym (move_size w size))
      (kept_word a s (Move size) u b room st pu))) (λ a2 s2 st2.
      goes_does w world P mapped h ok pl a2 s2 next st2))

  -- the sign of a natural unit
  signed_shows : (A : Addresses) (v : Neutral) (x : ℕ) → Shows w A v x → Shows w A (sign_extended v) (extended_at w x)
  unfolding sign_extended
  signed_shows A (Num zero c) x s = go (nat_lt (word c) (2 ^ 31)) refl
    where
      go : (t : Bool) → nat_lt (word c) (2 ^ 31) ≡ t → Shows w A (if t then number (word c) else Junk) (extended_at w x)
      go true t =
          let l = ltb-true (word c) (2 ^ 31) t in
          let e : x ≡ word c = omega (arith, s) in
          let small : 2 * word c < 2 ^ (8 * w) = by_width (λ v. 2 * word c < 2 ^ (8 * v)) w h (omega (arith, l)) (omega (arith, l)) in
          subst (Shows w A (number (word c))) (sym (ap (extended_at w) e ∙ extended_at-at_small w (word c) small))
          (number_shows w A (word c) (omega arith))
      go false t = tt
  signed_shows A (Error k) x s = (s.0, ap (extended_at w) s.1 ∙ error_extended k s.0)
    where
      error_extended : (k : ℕ) → IsCode k → extended_at w (error_at w k) ≡ signed_error_at w k
      error_extended k l = by_width (λ v. extended_at v (error_at v k) ≡ signed_error_at v k) w h (grind (arith, l)) (grind (arith, l))
  signed_shows A u x s = tt

  pub move_signed_does : (a : Config) (s : Concrete) (next : ℕ) (left right : NeutralSide) (x y : ℕ) → left.reg < 8 → right.reg < 8 → Room a
      → Stand a s → Beside w world P mapped h ok pl left.beside x → Beside w world P mapped h ok pl right.beside y
      → Does (RowsAlike w world P mapped) (rows.move_signed_row world a next left right)
      (machine_moves.move_signed_row w s (address_of w world P mapped h ok pl next)
      (record { reg = left.reg; indirect = left.indirect; offset = x })
      (record { reg = right.reg; indirect = right.indirect; offset = y }))
  unfolding rows.move_signed_row machine_moves.move_signed_row
  move_signed_does a s next left right x y l r room st el er =
      bind_does (Word a) (RowsAlike w world P mapped) _ _ _ _
      (values w world P mapped h ok pl a s raises.MemoryFault Signed w right y refl r room st er) (λ u b pu.
      bind_does Stand (RowsAlike w world P mapped) _ _ _ _ (writes_does w world P mapped h ok pl a s Signed w left x (sign_extended u)
      (extended_at w b) refl l room st el (extended_at-below w b h, signed_shows (addresses w world.notes P a.frames) u b pu.1))
      (λ a2 s2 st2.
      goes_does w world P mapped h ok pl a2 s2 next st2))

  pub move_imm_natural_does : (a : Config) (s : Concrete) (next : ℕ) (left : NeutralSide) (x : ℕ) (idx : Index) → left.reg < 8 → Room a
      → Stand a s → Beside w world P mapped h ok pl left.beside x
      → Does (RowsAlike w world P mapped) (rows.move_imm_natural_row world a next left idx)
      (machine_moves.move_imm_natural_row w s (address_of w world P mapped h ok pl next)
      (record { reg = left.reg; indirect = left.indirect; offset = x }) idx)
  unfolding rows.move_imm_natural_row machine_moves.move_imm_natural_row
  move_imm_natural_does a s next left x idx l room st el =
      bind_does Stand (RowsAlike w world P mapped) _ _ _ _ (writes_does w world P mapped h ok pl a s (Move sizes.Natural) w left x
      (pair (pair_of idx).0 (pair_of idx).1) (index_offset w idx) refl l room st el
      (linear_at-below w (pair_of idx).0 (pair_of idx).1, linear_at-wrap64 w (pair_of idx).0 (pair_of idx).1 h)) (λ a2 s2 st2.
      goes_does w world P mapped h ok pl a2 s2 next st2)

  -- ---- addresses of places

  pub place_shows : (a : Config) (p : ℕ) → Shows w (addresses w world.notes P a.frames) (address_of_place world.notes p)
      (word (P.image + p))
  unfolding address_of_place
  place_shows a p = by_static (position is_static world.notes.statics) refl
    where
      A : Addresses
      A = addresses w world.notes P a.frames

      is_static : Static → Bool
      is_static s = nat_eq s.place p

      is_thunk : Thunk → Bool
      is_thunk t = nat_eq t.place p

      at : (x : Anchor) (q : ℕ) → A.anchor x ≡ Some (P.image + q) → q ≡ p → Shows w A (At x 0 0) (word (P.image + p))
      at x q e f = record {
        from = P.image + q;
        there = e;
        is = (let z : word (P.image + p) ≡ word (P.image + q + (0 * w + 0)) = omega (arith, f) in z);
      }

      by_thunk : (y : Option ℕ) → position is_thunk world.notes.thunk ≡ y
          → Shows w A (option_map_or (λ v. v) (option_map (λ i. At (ThunkOf i) 0 0) y) Junk) (word (P.image + p))
      by_thunk None f = tt
      by_thunk (Some i) f =
          let r = position_at is_thunk world.notes.thunk i f in
          at (ThunkOf i) r.0.place (ap (option_map (λ (u : Thunk). P.image + u.place)) r.1) (eqb-true _ _ r.2)

      by_static : (x : Option ℕ) → position is_static world.notes.statics ≡ x
          → Shows w A (option_map_or (λ v. v) (option_or (option_map (λ k. At (ObjectOf k) 0 0) x) (rows.thunk_at world.notes p)) Junk)
          (word (P.image + p))
      by_static None e = by_thunk (position is_thunk world.notes.thunk) refl
      by_static (Some k) e =
          let r = position_at is_static world.notes.statics k e in
          at (ObjectOf k) r.0.place (static_address w world P h ok pl k r.0 r.1) (eqb-true _ _ r.2)

  -- an immediate: the address of the place that it names, or a number
  immediate_word : (a : Config) (reloc : Option ℕ) (imm : ℤ) → Names P reloc (Some imm)
      → Word a (immediate world.notes reloc imm) (wrap64 imm)
  immediate_word a (Some p) imm e = (
    wrap64-below imm,
    subst (Shows w (addresses w world.notes P a.frames) (address_of_place world.notes p))
        (sym e) (place_shows a p),
  )
  immediate_word a None imm e = (wrap64-below imm, number_shows w (addresses w world.notes P a.frames) (wrap64 imm) (wrap64-below imm))

  pub move_imm_does : (a : Config) (s : Concrete) (here : Site) (size : Size) (left : NeutralSide) (x : ℕ) (imm : ℤ) → left.reg < 8 → Room a
      → Stand a s → Beside w world P mapped h ok pl left.beside x → Names P here.reloc (Some imm)
      → Does (RowsAlike w world P mapped) (rows.move_imm_row world a here size left imm)
      (machine_moves.move_imm_row w s (address_of w world P mapped h ok pl here.next) size
      (record { reg = left.reg; indirect = left.indirect; offset = x }) imm)
  unfolding rows.move_imm_row machine_moves.move_imm_row
  move_imm_does a s here size left x imm l room st el n =
      bind_does Stand (RowsAlike w world P mapped) _ _ _ _ (writes_does w world P mapped h ok pl a s (Move size) (size_bytes w size) left x
      (kept world.notes (memory_of world a).objects (Move size) (immediate world.notes here.reloc imm))
      (low_bytes (size_bytes w size) (wrap64 imm)) (move_size w size) l room st el
      (subst (λ k. Word a (kept world.notes (memory_of world a).objects (Move size) (immediate world.notes here.reloc imm))
      (low_bytes k (wrap64 imm))) (sym (move_size w size)) (kept_word a s (Move size) (immediate world.notes here.reloc imm)
      (wrap64 imm) room st (immediate_word a here.reloc imm n)))) (λ a2 s2 st2.
      goes_does w world P mapped h ok pl a2 s2 here.next st2)

  pub move_relative_does : (a : Config) (s : Concrete) (next : ℕ) (left : NeutralSide) (x : ℕ) (imm : ℤ) → left.reg < 8 → Room a → Stand a s
      → Beside w world P mapped h ok pl left.beside x
      → Does (RowsAlike w world P mapped) (rows.move_relative_row world a next left imm)
      (machine_moves.move_relative_row w s (address_of w world P mapped h ok pl next)
      (record { reg = left.reg; indirect = left.indirect; offset = x }) imm)
  unfolding rows.move_relative_row machine_moves.move_relative_row
  move_relative_does a s next left x imm l room st el =
      bind_does Stand (RowsAlike w world P mapped) _ _ _ _ (writes_does w world P mapped h ok pl a s (Move sizes.Natural) w left x
      (address_of_place world.notes (word (next + wrap64 imm)))
      ((address_of w world P mapped h ok pl next + wrap64 imm) % 2 ^ 64) refl l room st el (
        omega arith,
        subst (Shows w (addresses w world.notes P a.frames) (address_of_place world.notes (word (next + wrap64 imm))))
            (let e : word (P.image + word (next + wrap64 imm)) ≡ (word (P.image + next) + wrap64 imm) % 2 ^ 64 = omega arith in e)
            (place_shows a (word (next + wrap64 imm))),
      )) (λ a2 s2 st2.
      goes_does w world P mapped h ok pl a2 s2 next st2)

  special_word : (a : Config) (s : Concrete) (next special : ℕ) → Stand a s
      → Word a (if nat_eq special 0 then number (flags_of a.c) else Junk)
      (if nat_eq special 0 then s.flags else address_of w world P mapped h ok pl next)
  special_word a s next special st = go (nat_eq special 0)
    where
      small : (c : Bool) → flags_of c < 2 ^ 64
      small true = omega arith
      small false = omega arith

      go : (t : Bool) → Word a (if t then number (flags_of a.c) else Junk) (if t then s.flags else address_of w world P mapped h ok pl next)
      go true = subst (Word a (number (flags_of a.c))) (sym st.flags)
          (small a.c, number_shows w (addresses w world.notes P a.frames) (flags_of a.c) (small a.c))
      go false = (omega arith, tt)

  pub store_special_does : (a : Config) (s : Concrete) (next to special : ℕ) → to < 8 → Stand a s
      → Does (RowsAlike w world P mapped) (rows.store_special_row world a next to special)
      (machine_moves.store_special_row s (address_of w world P mapped h ok pl next) to special)
  unfolding rows.store_special_row machine_moves.store_special_row
  store_special_does a s next to special l st =
      bind_does Stand (RowsAlike w world P mapped) _ (Ok (with_register s to
      (if nat_eq special 0 then s.flags else address_of w world P mapped h ok pl next))) _
      (λ t. machine_results.goes t (address_of w world P mapped h ok pl next))
      (registers_written w world P mapped h ok pl a s to (if nat_eq special 0 then number (flags_of a.c) else Junk) _ l st
      (special_word a s next special st)) (λ a2 s2 st2.
      goes_does w world P mapped h ok pl a2 s2 next st2)
