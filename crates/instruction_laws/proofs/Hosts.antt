-- The host frames show after each instruction as before it.
use Rattle.instruction_laws.proofs.Common.{◌≡◌, ℕ, ◌+◌, Bool, true, false, not, ◌&&◌, if◌then◌else◌, nat_eq, nat_lt, List, [], ◌∷◌, map}
use Rattle.instruction_laws.proofs.Common.{Option, Some, None, is_none, ℤ, pos, ◌*ℤ◌, option_and_then, refl, sym, ap, ◌∙◌, subst, slice_get}
use Rattle.instruction_laws.proofs.Common.{and_parts, false≢true, same_Some, none-some, Index, IsWidth, wrap64, ArithOp, CmpOp, Cond, Insn}
use Rattle.instruction_laws.proofs.Common.{Operand, Size, SlotKind, N, Exception, Field, Shape, Place, Gate, Neutral, Addresses, Shows}
use Rattle.instruction_laws.proofs.Common.{number, word, minus, same_kind, next_thunk, StackItem, Pushed, LocalsOf, FunctionFrame, Frame}
use Rattle.instruction_laws.proofs.Common.{Function, Host, Config, depth, locals_among, with_value, World, frame_locals, Placement}
use Rattle.instruction_laws.proofs.Common.{IsPlacement, stack_end, addresses, memory_of, cell_field, with_cell, Outcome, Gives, Raises}
use Rattle.instruction_laws.proofs.Common.{Stuck, or_stuck, unless_stuck, compared_as, kept_natural, Location, CellAt, ParamAt, ThunkAt}
use Rattle.instruction_laws.proofs.Common.{Offset, Access, Move, Form, Signed, NeutralSide, plainly, indexed, beside_extra, moved_by}
use Rattle.instruction_laws.proofs.Common.{located_by, direct_value, value, stored_by, written, NeutralEnd, Next, Site, goes, at_place}
use Rattle.instruction_laws.proofs.Common.{OwnLocalsAll, WorldFits, Extends, same_extends}
use Rattle.std.specs.List.{AllZip}
use Rattle.host_model.specs.{Progress.NativeCall, Progress.NoCall, Progress.Asked, Progress.Accepted, RunState.SavedFrame}
use Rattle.neutral_machine.specs.{Operations.combined, Operands.with_register, Rows.without_local, Rows.frame_without, Stands.CallShows}
use Rattle.neutral_machine.specs.Stands.{HostsShow}
use Rattle.instruction_laws.specs.Laws.{HostsKept}
use Rattle.neutral_machine.proofs.Drops.{Loses, shows_without, total_map, make_extends, drop_loses, drop_same}
use Rattle.neutral_machine.proofs.{Agree.shows_more, Frames.SameLocals, Frames.call_same}
use Rattle.instruction_laws.proofs.Growth.{bind_gives, stuck-gives, same_gives, goes_frames}
use Rattle.ebc_insn.specs.declared.Insn.TheVariants as insns
use Rattle.ebc_insn.specs.declared.Size.TheVariants as sizes
use Rattle.note_types.specs.declared.exception.Exception.TheVariants as raises
use Rattle.neutral_machine.specs.Outcomes as outcomes
use Rattle.neutral_machine.specs.Locations as locations
use Rattle.neutral_machine.specs.Rows as rows

-- ---- more addresses

all_more : (w : ℕ) (A B : Addresses) (vs : List Neutral) (xs : List ℕ) → Extends A B → AllZip (Shows w A) vs xs → AllZip (Shows w B) vs xs
all_more w A B [] [] e s = tt
all_more w A B [] (x ∷ xs) e s = absurd s
all_more w A B (v ∷ vs) [] e s = absurd s
all_more w A B (v ∷ vs) (x ∷ xs) e s = (shows_more w A B v x e s.0, all_more w A B vs xs e s.1)

call_more : (w : ℕ) (A B : Addresses) (c : NativeCall Neutral) (d : NativeCall ℕ) → Extends A B → CallShows w A c d → CallShows w B c d
call_more w A B NoCall NoCall e s = tt
call_more w A B (Asked p v) (Asked q x) e s = (s.0, shows_more w A B v x e s.1)
call_more w A B (Accepted n k vs) (Accepted f m xs) e s = (s.0, s.1, all_more w A B vs xs e s.2)
call_more w A B c t e s = absurd s

pub hosts_more : (w : ℕ) (world : World) (P : Placement) (A B : Addresses) (fs : List Frame) (ss : List SavedFrame) → Extends A B
    → HostsShow w world P A fs ss → HostsShow w world P B fs ss
hosts_more w world P A B [] [] e s = tt
hosts_more w world P A B [] (x ∷ ss) e s = absurd s
hosts_more w world P A B (Function f ∷ fs) ss e s = hosts_more w world P A B fs ss e s
hosts_more w world P A B (Host h ∷ fs) [] e s = absurd s
hosts_more w world P A B (Host h ∷ fs) (x ∷ ss) e s = (
  record {
    func = s.0.func;
    notified = s.0.notified;
    eight = s.0.eight;
    registers = λ r l m. shows_more w A B (h.saved r) _ e (s.0.registers r l m);
    words = s.0.words;
    top_is = s.0.top_is;
    flags = s.0.flags;
    spot = s.0.spot;
    call = call_more w A B h.call x.call e s.0.call;
  },
  hosts_more w world P A B fs ss e s.1,
)

-- ---- addresses of locals that went

all_without : (w d : ℕ) (A B : Addresses) (vs : List Neutral) (xs : List ℕ) → Loses d A B → AllZip (Shows w A) vs xs
    → AllZip (Shows w B) (map (without_local d) vs) xs
all_without w d A B [] [] e s = tt
all_without w d A B [] (x ∷ xs) e s = absurd s
all_without w d A B (v ∷ vs) [] e s = absurd s
all_without w d A B (v ∷ vs) (x ∷ xs) e s = (shows_without w d A B v x e s.0, all_without w d A B vs xs e s.1)

call_shows_without : (w d : ℕ) (A B : Addresses) (c : NativeCall Neutral) (x : NativeCall ℕ) → Loses d A B → CallShows w A c x
    → CallShows w B (rows.call_without d c) x
call_shows_without w d A B NoCall NoCall e s = tt
call_shows_without w d A B (Asked p v) (Asked q x) e s = (s.0, shows_without w d A B v x e s.1)
call_shows_without w d A B (Accepted n k vs) (Accepted f m xs) e s = (s.0, s.1, all_without w d A B vs xs e s.2)
call_shows_without w d A B c t e s = absurd s

hosts_without : (w d : ℕ) (world : World) (P : Placement) (A B : Addresses) (fs : List Frame) (ss : List SavedFrame) → Loses d A B
    → HostsShow w world P A fs ss → HostsShow w world P B (map (frame_without d) fs) ss
hosts_without w d world P A B [] [] e s = tt
hosts_without w d world P A B [] (x ∷ ss) e s = absurd s
hosts_without w d world P A B (Function f ∷ fs) ss e s = hosts_without w d world P A B fs ss e s
hosts_without w d world P A B (Host h ∷ fs) [] e s = absurd s
hosts_without w d world P A B (Host h ∷ fs) (x ∷ ss) e s = (
  record {
    func = s.0.func;
    notified = s.0.notified;
    eight = s.0.eight;
    registers = λ r l m. shows_without w d A B (h.saved r) _ e (s.0.registers r l m);
    words = s.0.words;
    top_is = s.0.top_is ∙ ap (minus (stack_end w world.notes P)) (sym (total_map w d fs));
    flags = s.0.flags;
    spot = s.0.spot;
    call = call_shows_without w d A B h.call x.call e s.0.call;
  },
  hosts_without w d world P A B fs ss e s.1,
)

-- ---- frames that a write leaves

or_stuck_gives : {A : Type 0} (o : Option A) (x : A) → or_stuck o ≡ Gives x → o ≡ Some x
or_stuck_gives None x e = absurd (stuck-gives x e)
or_stuck_gives (Some y) x e = ap Some (same_gives y x e)

stored_in_frames : (world : World) (a : Config) (access : Access) (l : Location) (v : Neutral) (b : Config)
    → locations.stored_at world a access l v ≡ Some b → b.frames ≡ a.frames
unfolding locations.stored_at
stored_in_frames world a access (CellAt p) v b e = by_field (cell_field world.notes (memory_of world a) p) e
  where
    by_test : (z : Field) (t : Bool) → (if t then Some (record a { cells = with_cell a.cells p v }) else None) ≡ Some b
        → b.frames ≡ a.frames
    by_test z true e = ap (λ (x : Config). x.frames) (sym (same_Some _ _ e))
    by_test z false e = absurd (none-some b e)

    by_field : (f : Option Field) → locations.stored_in world a access p v f ≡ Some b → b.frames ≡ a.frames
    by_field None e = absurd (none-some b e)
    by_field (Some z) e = by_test z (locations.writes access z.cell
        && locations.fits_cell world.notes (memory_of world a).objects z.cell v) e
stored_in_frames world a access (ParamAt j) v b e = absurd (none-some b e)
stored_in_frames world a access (ThunkAt i) v b e = absurd (none-some b e)

stored_frames : (world : World) (a : Config) (access : Access) (r : ℕ) (o : Option Offset) (v : Neutral) (b : Config)
    → stored_by world a access r o v ≡ Gives b → b.frames ≡ a.frames
unfolding stored_by
stored_frames world a access r o v b e = by_location (located_by world a r o) (or_stuck_gives _ b e)
  where
    by_location : (l : Option Location) → option_and_then (λ l. locations.stored_at world a access l v) l ≡ Some b → b.frames ≡ a.frames
    by_location None e = absurd (none-some b e)
    by_location (Some l) e = stored_in_frames world a access l v b e

register_frames : (a : Config) (r : ℕ) (v : Neutral) (b : Config) → with_register a r v ≡ Gives b → b.frames ≡ a.frames
unfolding with_register
register_frames a r v b e = go (nat_eq r 0) e
  where
    go : (t : Bool) → (if t then Stuck else Gives (record a { registers = with_value a.registers r v })) ≡ Gives b → b.frames ≡ a.frames
    go true e = absurd (stuck-gives b e)
    go false e = ap (λ (x : Config). x.frames) (sym (same_gives _ _ e))

written_frames : (world : World) (a : Config) (access : Access) (o : NeutralSide) (v : Neutral) (b : Config)
    → written world a access o v ≡ Gives b → b.frames ≡ a.frames
unfolding written
written_frames world a access o v b e = go o.indirect e
  where
    go : (t : Bool) → (if t then stored_by world a access o.reg o.beside v else with_register a o.reg v) ≡ Gives b → b.frames ≡ a.frames
    go true e = stored_frames world a access o.reg o.beside v b e
    go false e = register_frames a o.reg v b e

popped_frames : (world : World) (a : Config) (access : Access) (o : NeutralSide) (v : Neutral) (b : Config)
    → rows.popped world a access o v ≡ Gives b → b.frames ≡ a.frames
unfolding rows.popped
popped_frames world a access o v b e = go o.indirect e
  where
    go : (t : Bool) → (if t then written world a access o v else with_register a o.reg (moved_by v o.beside)) ≡ Gives b
        → b.frames ≡ a.frames
    go true e = written_frames world a access o v b e
    go false e = register_frames a o.reg (moved_by v o.beside) b e

-- ---- by the rows

module _ (w : ℕ) (world : World) (P : Placement) (mapped : ℕ → ℕ) (h : IsWidth w) (ok : WorldFits world) (pl : IsPlacement w world P)
    (ss : List SavedFrame) where
  abbrev A : List Frame → Addresses
  A fs = addresses w world.notes P fs

  abbrev Hs : List Frame → Type 0
  Hs fs = HostsShow w world P (addresses w world.notes P fs) fs ss

  written_goes : (a b : Config) (access : Access) (o : NeutralSide) (v : Neutral) (next : ℕ) (e : NeutralEnd)
      → outcomes.◌>>=◌ (written world a access o v) (λ c. goes world c next) ≡ Gives (e, b) → Hs a.frames → Hs b.frames
  written_goes a b access o v next e g hs =
      let x = bind_gives (written world a access o v) (λ c. goes world c next) (e, b) g in
      subst Hs (sym (goes_frames world x.0 next e b x.2 ∙ written_frames world a access o v x.0 x.1)) hs

  arith_hosts : (a b : Config) (next : ℕ) (op : ArithOp) (wide : Bool) (left right : NeutralSide) (e : NeutralEnd)
      → rows.arith_row world a next op wide left right ≡ Gives (e, b) → Hs a.frames → Hs b.frames
  unfolding rows.arith_row
  arith_hosts a b next op wide left right e g hs =
      let u = bind_gives (value world a (Form wide) right) _ (e, b) g in
      let v = bind_gives (value world a (Form wide) left) _ (e, b) u.2 in
      let z = bind_gives (combined op wide v.0 u.0) _ (e, b) v.2 in
      written_goes a b (Form wide) left z.0 next e z.2 hs

  compare_hosts : (a b : Config) (next : ℕ) (op : CmpOp) (wide : Bool) (left : ℕ) (right : NeutralSide) (e : NeutralEnd)
      → rows.compare_row world a next op wide left right ≡ Gives (e, b) → Hs a.frames → Hs b.frames
  unfolding rows.compare_row
  compare_hosts a b next op wide left right e g hs =
      let u = bind_gives (value world a (Form wide) right) _ (e, b) g in
      let c = bind_gives (or_stuck (compared_as world.notes (memory_of world a).objects op wide (direct_value world a left None) u.0))
      (λ c. goes world (rows.with_c a c) next) (e, b) u.2 in
      subst Hs (sym (goes_frames world (rows.with_c a c.0) next e b c.2)) hs

  compare_imm_hosts : (a b : Config) (next : ℕ) (op : CmpOp) (wide : Bool) (left : NeutralSide) (imm : ℤ) (e : NeutralEnd)
      → rows.compare_imm_row world a next op wide left imm ≡ Gives (e, b) → Hs a.frames → Hs b.frames
  unfolding rows.compare_imm_row
  compare_imm_hosts a b next op wide left imm e g hs =
      let v = bind_gives (value world a (Form wide) left) _ (e, b) g in
      let c = bind_gives (or_stuck (compared_as world.notes (memory_of world a).objects op wide v.0 (number (wrap64 imm))))
      (λ c. goes world (rows.with_c a c) next) (e, b) v.2 in
      subst Hs (sym (goes_frames world (rows.with_c a c.0) next e b c.2)) hs

  move_hosts : (a b : Config) (next : ℕ) (size : Size) (left right : NeutralSide) (e : NeutralEnd)
      → rows.move_row world a next size left right ≡ Gives (e, b) → Hs a.frames → Hs b.frames
  unfolding rows.move_row
  move_hosts a b next size left right e g hs =
      let v = bind_gives (value world a (Move size) right) _ (e, b) g in written_goes a b (Move size) left _ next e v.2 hs

  move_signed_hosts : (a b : Config) (next : ℕ) (left right : NeutralSide) (e : NeutralEnd)
      → rows.move_signed_row world a next left right ≡ Gives (e, b) → Hs a.frames → Hs b.frames
  unfolding rows.move_signed_row
  move_signed_hosts a b next left right e g hs =
      let v = bind_gives (value world a Signed right) _ (e, b) g in written_goes a b Signed left _ next e v.2 hs

  move_imm_hosts : (a b : Config) (here : Site) (size : Size) (left : NeutralSide) (imm : ℤ) (e : NeutralEnd)
      → rows.move_imm_row world a here size left imm ≡ Gives (e, b) → Hs a.frames → Hs b.frames
  unfolding rows.move_imm_row
  move_imm_hosts a b here size left imm e g hs = written_goes a b (Move size) left _ here.next e g hs

  move_imm_natural_hosts : (a b : Config) (next : ℕ) (left : NeutralSide) (idx : Index) (e : NeutralEnd)
      → rows.move_imm_natural_row world a next left idx ≡ Gives (e, b) → Hs a.frames → Hs b.frames
  unfolding rows.move_imm_natural_row
  move_imm_natural_hosts a b next left idx e g hs = written_goes a b (Move sizes.Natural) left _ next e g hs

  move_relative_hosts : (a b : Config) (next : ℕ) (left : NeutralSide) (imm : ℤ) (e : NeutralEnd)
      → rows.move_relative_row world a next left imm ≡ Gives (e, b) → Hs a.frames → Hs b.frames
  unfolding rows.move_relative_row
  move_relative_hosts a b next left imm e g hs = written_goes a b (Move sizes.Natural) left _ next e g hs

  store_special_hosts : (a b : Config) (next to special : ℕ) (e : NeutralEnd)
      → rows.store_special_row world a next to special ≡ Gives (e, b) → Hs a.frames → Hs b.frames
  unfolding rows.store_special_row
  store_special_hosts a b next to special e g hs =
      let x = bind_gives (with_register a to _) (λ c. goes world c next) (e, b) g in
      subst Hs (sym (goes_frames world x.0 next e b x.2 ∙ register_frames a to _ x.0 x.1)) hs

  -- ---- the stack

  same_locals : (fs gs : List Frame) → SameLocals w (stack_end w world.notes P) fs gs → HostsShow w world P (A fs) gs ss → Hs gs
  same_locals fs gs e hs = hosts_more w world P (A fs) (A gs) gs ss (same_extends w world P mapped h ok pl fs gs e) hs

  pushed_hosts : (a b : Config) (kind : SlotKind) (v : Neutral) (fs : List Frame) → rows.pushed a fs (Pushed kind v) ≡ Gives b → Hs fs
      → Hs b.frames
  pushed_hosts a b kind v [] e hs = absurd (stuck-gives b e)
  pushed_hosts a b kind v (Host t ∷ fs) e hs = absurd (stuck-gives b e)
  pushed_hosts a b kind v (Function f ∷ fs) e hs =
      subst (λ (x : Config). Hs x.frames) (same_gives _ _ e) (same_locals (Function f ∷ fs)
      (Function (record f { items = Pushed kind v ∷ f.items }) ∷ fs) (record { locals = λ d. refl; address = λ d g. refl }) hs)

  push_hosts : (a b : Config) (next : ℕ) (wide : Bool) (op : NeutralSide) (e : NeutralEnd)
      → rows.push_row world a next wide op ≡ Gives (e, b) → Hs a.frames → Hs b.frames
  unfolding rows.push_row
  push_hosts a b next wide op e g hs =
      let v = bind_gives (value world a (Form wide) op) _ (e, b) g in
      let p = bind_gives (rows.pushed a a.frames (Pushed (rows.form_kind wide)
      (locations.kept world.notes (memory_of world a).objects (Form wide) v.0))) (λ c. goes world c next) (e, b) v.2 in
      subst Hs (sym (goes_frames world p.0 next e b p.2)) (pushed_hosts a p.0 (rows.form_kind wide) _ a.frames p.1 hs)

  push_natural_hosts : (a b : Config) (next : ℕ) (op : NeutralSide) (e : NeutralEnd) → rows.push_natural_row world a next op ≡ Gives (e, b)
      → Hs a.frames → Hs b.frames
  unfolding rows.push_natural_row
  push_natural_hosts a b next op e g hs =
      let v = bind_gives (value world a (Move sizes.Natural) op) _ (e, b) g in
      let p = bind_gives (rows.pushed a a.frames (Pushed N (kept_natural world.notes (memory_of world a).objects v.0)))
      (λ c. goes world c next) (e, b) v.2 in
      subst Hs (sym (goes_frames world p.0 next e b p.2)) (pushed_hosts a p.0 N _ a.frames p.1 hs)

  taken_hosts : (a : Config) (kind : SlotKind) (t : Neutral × Config) (fs : List Frame) → rows.taken a kind fs ≡ Gives t → Hs fs
      → Hs t.1.frames
  taken_hosts a kind t [] e hs = absurd (stuck-gives t e)
  taken_hosts a kind t (Host x ∷ fs) e hs = absurd (stuck-gives t e)
  taken_hosts a kind t (Function f ∷ fs) e hs = by_items f.items refl e
    where
      by_kind : (k : SlotKind) (v : Neutral) (is : List StackItem) → f.items ≡ Pushed k v ∷ is → (b : Bool)
          → (if b then Gives (v, rows.with_items a f is fs) else Stuck) ≡ Gives t → Hs t.1.frames
      by_kind k v is q true e = subst (λ (x : Neutral × Config). Hs x.1.frames) (same_gives _ _ e)
          (same_locals (Function (record f { items = Pushed k v ∷ is }) ∷ fs) (Function (record f { items = is }) ∷ fs)
          (record { locals = λ d. refl; address = λ d g. refl }) (subst (λ i. Hs (Function (record f { items = i }) ∷ fs)) q hs))
      by_kind k v is q false e = absurd (stuck-gives t e)

      by_items : (is : List StackItem) → f.items ≡ is → rows.taken_from a f kind is fs ≡ Gives t → Hs t.1.frames
      by_items [] q e = absurd (stuck-gives t e)
      by_items (LocalsOf x ∷ is) q e = absurd (stuck-gives t e)
      by_items (Pushed k v ∷ is) q e = by_kind k v is q (same_kind k kind) e

  pop_hosts : (a b : Config) (next : ℕ) (wide : Bool) (op : NeutralSide) (e : NeutralEnd) → rows.pop_row world a next wide op ≡ Gives (e, b)
      → Hs a.frames → Hs b.frames
  unfolding rows.pop_row
  pop_hosts a b next wide op e g hs =
      let t = bind_gives (rows.taken a (rows.form_kind wide) a.frames) _ (e, b) g in
      let p = bind_gives (rows.popped world t.0.1 (Form wide) op (rows.of_slot wide t.0.0)) (λ c. goes world c next) (e, b) t.2 in
      subst Hs (sym (goes_frames world p.0 next e b p.2 ∙ popped_frames world t.0.1 (Form wide) op _ p.0 p.1))
      (taken_hosts a (rows.form_kind wide) t.0 a.frames t.1 hs)

  pop_natural_hosts : (a b : Config) (next : ℕ) (op : NeutralSide) (e : NeutralEnd) → rows.pop_natural_row world a next op ≡ Gives (e, b)
      → Hs a.frames → Hs b.frames
  unfolding rows.pop_natural_row
  pop_natural_hosts a b next op e g hs =
      let t = bind_gives (rows.taken a N a.frames) _ (e, b) g in
      let p = bind_gives (rows.popped world t.0.1 (Move sizes.Natural) op (kept_natural world.notes (memory_of world a).objects t.0.0))
      (λ c. goes world c next) (e, b) t.2 in
      subst Hs (sym (goes_frames world p.0 next e b p.2 ∙ popped_frames world t.0.1 (Move sizes.Natural) op _ p.0 p.1))
      (taken_hosts a N t.0 a.frames t.1 hs)

  made_hosts : (a b : Config) (f : FunctionFrame) (fs : List Frame) (n c : ℕ) (o : Option Shape) → rows.after_make a f fs n c o ≡ Gives b
      → Hs (Function f ∷ fs) → Hs b.frames
  made_hosts a b f fs n c None e hs = absurd (stuck-gives b e)
  made_hosts a b f fs n c (Some t) e hs = go (rows.has_size n c t && is_none (locals_among f.items)) refl e
    where
      none_is : (o : Option Shape) → is_none o ≡ true → o ≡ None
      none_is None e = refl
      none_is (Some x) e = absurd (false≢true e)

      go : (x : Bool) → (rows.has_size n c t && is_none (locals_among f.items)) ≡ x
          → (if x then Gives (rows.made_locals a f fs t) else Stuck) ≡ Gives b → Hs b.frames
      go false x e = absurd (stuck-gives b e)
      go true x e =
          let none = none_is (locals_among f.items) (and_parts (rows.has_size n c t) (is_none (locals_among f.items)) x).1 in
          subst (λ (y : Config). Hs y.frames) (same_gives _ _ e)
          (hosts_more w world P (A (Function f ∷ fs)) (A (Function (record f { items = LocalsOf t ∷ f.items }) ∷ fs)) fs ss
          (make_extends w world P mapped h ok pl f fs t none) hs)

  dropped_hosts : (a b : Config) (f : FunctionFrame) (fs : List Frame) (n c : ℕ) → OwnLocalsAll world.notes (Function f ∷ fs)
      → rows.after_drop a f fs (rows.dropped n c f.items) ≡ Gives b → Hs (Function f ∷ fs) → Hs b.frames
  dropped_hosts a b f fs n c own e hs = go (rows.dropped n c f.items) refl e
    where
      by_locals : (r : rows.Dropped) → rows.dropped n c f.items ≡ Some r → (t : Bool) → r.locals ≡ t
          → (if t then Gives (rows.config_without (depth fs) (rows.with_items a f r.items fs))
          else Gives (rows.with_items a f r.items fs)) ≡ Gives b → Hs b.frames
      by_locals r q true t e =
          subst (λ (y : Config). Hs y.frames) (same_gives _ _ e)
          (hosts_without w (depth fs) world P (A (Function f ∷ fs))
          (A (map (frame_without (depth fs)) (Function (record f { items = r.items }) ∷ fs)))
          (Function (record f { items = r.items }) ∷ fs) ss (drop_loses w world P mapped h ok pl f fs r.items) hs)
      by_locals r q false t e =
          subst (λ (y : Config). Hs y.frames) (same_gives _ _ e)
          (same_locals (Function f ∷ fs) (Function (record f { items = r.items }) ∷ fs)
          (drop_same w world P mapped h ok pl f fs n c r q t) hs)

      go : (o : Option rows.Dropped) → rows.dropped n c f.items ≡ o → rows.after_drop a f fs o ≡ Gives b → Hs b.frames
      go None q e = absurd (stuck-gives b e)
      go (Some r) q e = by_locals r q r.locals refl e

  adjusted_hosts : (a b : Config) (fs : List Frame) (neg : Bool) (n c : ℕ) → OwnLocalsAll world.notes fs
      → rows.adjusted world a fs neg n c ≡ Gives b → Hs fs → Hs b.frames
  adjusted_hosts a b [] neg n c own e hs = absurd (stuck-gives b e)
  adjusted_hosts a b (Host t ∷ fs) neg n c own e hs = absurd (stuck-gives b e)
  adjusted_hosts a b (Function f ∷ fs) neg n c own e hs = go (neg && not (nat_eq n 0 && nat_eq c 0)) e
    where
      go : (t : Bool) → (if t then rows.after_make a f fs n c (frame_locals world.notes f.func)
          else rows.after_drop a f fs (rows.dropped n c f.items)) ≡ Gives b → Hs b.frames
      go true e = made_hosts a b f fs n c (frame_locals world.notes f.func) e hs
      go false e = dropped_hosts a b f fs n c own e hs

  adjusted_by_hosts : (a b : Config) (o : Option Index) → OwnLocalsAll world.notes a.frames → rows.adjusted_by world a o ≡ Gives b
      → Hs a.frames → Hs b.frames
  adjusted_by_hosts a b None own e hs = adjusted_hosts a b a.frames false 0 0 own e hs
  adjusted_by_hosts a b (Some i) own e hs = adjusted_hosts a b a.frames i.neg i.units i.bytes own e hs

  stack_hosts : (a b : Config) (next : ℕ) (size : Size) (right : Operand) (lidx ridx : Option Index) (e : NeutralEnd)
      → OwnLocalsAll world.notes a.frames → rows.stack_row world a next size right lidx ridx ≡ Gives (e, b) → Hs a.frames → Hs b.frames
  unfolding rows.stack_row
  stack_hosts a b next size right lidx ridx e own g hs = go (rows.is_qword_size size
      && (is_none lidx && (not right.indirect && nat_eq right.reg 0))) g
    where
      go : (t : Bool) → unless_stuck t (outcomes.◌>>=◌ (rows.adjusted_by world a ridx) (λ b. goes world b next)) ≡ Gives (e, b)
          → Hs b.frames
      go false g = absurd (stuck-gives (e, b) g)
      go true g =
          let p = bind_gives (rows.adjusted_by world a ridx) (λ b. goes world b next) (e, b) g in
          subst Hs (sym (goes_frames world p.0 next e b p.2)) (adjusted_by_hosts a p.0 ridx own p.1 hs)

  -- ---- flow

  jump_hosts : (a b : Config) (here : Site) (cond : Cond) (relative : Bool) (op : NeutralSide) (e : NeutralEnd)
      → rows.jump_row world a here cond relative op ≡ Gives (e, b) → Hs a.frames → Hs b.frames
  unfolding rows.jump_row
  jump_hosts a b here cond relative op e g hs = go (rows.is_taken cond a.c) g
    where
      go : (t : Bool) → (if t then outcomes.◌>>=◌ (rows.target_at a here relative op)
          (λ p. outcomes.◌>>=◌ (rows.aligned p) (λ to. goes world a to)) else goes world a here.next) ≡ Gives (e, b) → Hs b.frames
      go true g =
          let p = bind_gives (rows.target_at a here relative op) _ (e, b) g in
          let q = bind_gives (rows.aligned p.0) (λ to. goes world a to) (e, b) p.2 in
          subst Hs (sym (goes_frames world a q.0 e b q.2)) hs
      go false g = subst Hs (sym (goes_frames world a here.next e b g)) hs

  jump8_hosts : (a b : Config) (next : ℕ) (cond : Cond) (n : ℤ) (e : NeutralEnd) → rows.jump8_row world a next cond n ≡ Gives (e, b)
      → Hs a.frames → Hs b.frames
  unfolding rows.jump8_row
  jump8_hosts a b next cond n e g hs = go (rows.is_taken cond a.c) g
    where
      go : (t : Bool) → (if t then outcomes.◌>>=◌ (rows.aligned (word (next + wrap64 (n *ℤ pos 2)))) (λ to. goes world a to)
          else goes world a next) ≡ Gives (e, b) → Hs b.frames
      go true g = let q = bind_gives (rows.aligned (word (next + wrap64 (n *ℤ pos 2)))) (λ to. goes world a to) (e, b) g in
          subst Hs (sym (goes_frames world a q.0 e b q.2)) hs
      go false g = subst Hs (sym (goes_frames world a next e b g)) hs

  called_hosts : (a b : Config) (next p : ℕ) → rows.called world a next p ≡ Gives b → Hs a.frames → Hs b.frames
  unfolding rows.called
  called_hosts a b next p e hs =
      let g = bind_gives (or_stuck (rows.function_at world.notes p)) (λ g. rows.called_from world a next a.frames g) b e in
      by_frames a.frames g.0 g.2
    where
      entered : (g : ℕ) → rows.inside a g next ≡ b → Hs b.frames
      entered g q = subst (λ (y : Config). Hs y.frames) q (same_locals a.frames
          (Function (record { func = g; ret = next; saved = a.registers; items = [] }) ∷ a.frames)
          (call_same w world P mapped h ok pl (record { func = g; ret = next; saved = a.registers; items = [] }) a.frames) hs)

      by_test : (f : FunctionFrame) (g : ℕ) (t : Bool) → (if t then Gives (rows.inside a g next) else Stuck) ≡ Gives b → Hs b.frames
      by_test f g true q = entered g (same_gives _ _ q)
      by_test f g false q = absurd (stuck-gives b q)

      by_frames : (fs : List Frame) (g : ℕ) → rows.called_from world a next fs g ≡ Gives b → Hs b.frames
      by_frames [] g q = absurd (stuck-gives b q)
      by_frames (Host t ∷ fs) g q = absurd (stuck-gives b q)
      by_frames (Function f ∷ fs) g q = by_test f g (rows.params_match (slice_get world.notes.function g) f.items
          && nat_lt next world.image_size) q

  call_hosts : (a b : Config) (here : Site) (relative : Bool) (op : NeutralSide) (e : NeutralEnd)
      → rows.call_row world a here relative op ≡ Gives (e, b) → Hs a.frames → Hs b.frames
  unfolding rows.call_row
  call_hosts a b here relative op e g hs =
      let p = bind_gives (rows.target_at a here relative op) _ (e, b) g in
      let q = bind_gives (rows.aligned p.0) _ (e, b) p.2 in
      let c = bind_gives (rows.called world a here.next q.0) (λ c. goes world c q.0) (e, b) q.2 in
      subst Hs (sym (goes_frames world c.0 q.0 e b c.2)) (called_hosts a c.0 here.next q.0 c.1 hs)

  placed_hosts : (a b : Config) (next : ℕ) (f : NeutralEnd) (e : NeutralEnd)
      → ◌≡◌ {A = Outcome (NeutralEnd × Config)} (outcomes.◌>>=◌ {A = Config} {B = NeutralEnd × Config} (at_place world a next)
      (λ c. Gives (f, c))) (Gives (e, b)) → Hs a.frames → Hs b.frames
  placed_hosts a b next f e g hs = go (nat_lt next world.image_size) g
    where
      second : (x y : NeutralEnd × Config) → x ≡ y → x.1.frames ≡ y.1.frames
      second x y q = ap (λ (z : NeutralEnd × Config). z.1.frames) q

      go : (t : Bool) → ◌≡◌ {A = Outcome (NeutralEnd × Config)}
          (outcomes.◌>>=◌ {A = Config} {B = NeutralEnd × Config} (if t then Gives (record a { spot = Place next }) else Stuck)
          (λ c. Gives (f, c))) (Gives (e, b)) → Hs b.frames
      go true g = subst Hs (second (f, record a { spot = Place next }) (e, b) (same_gives _ _ g)) hs
      go false g = absurd (stuck-gives (e, b) g)

  call_native_hosts : (a b : Config) (next : ℕ) (relative : Bool) (op : NeutralSide) (e : NeutralEnd)
      → rows.call_native_row world a next relative op ≡ Gives (e, b) → Hs a.frames → Hs b.frames
  unfolding rows.call_native_row
  call_native_hosts a b next true op e g hs = absurd (stuck-gives (e, b) g)
  call_native_hosts a b next false op e g hs =
      let v = bind_gives (rows.native_target world a op) _ (e, b) g in placed_hosts a b next (rows.Native v.0) e v.2 hs

  return_hosts : (a b : Config) (e : NeutralEnd) → rows.return_row world a a.frames ≡ Gives (e, b) → Hs a.frames → Hs b.frames
  unfolding rows.return_row
  return_hosts a b e g hs = by_frames a.frames refl g hs
    where
      left_frames : (f : FunctionFrame) (fs : List Frame) → Hs (Function (record f { items = [] }) ∷ fs) → Hs fs
      left_frames f fs hs =
          let same = call_same w world P mapped h ok pl f fs in
          same_locals (Function (record f { items = [] }) ∷ fs) fs
          (record { locals = λ d. sym (same.locals d); address = λ d g. sym (same.address d g) }) hs

      by_below : (f : FunctionFrame) (fs : List Frame) → rows.returned_to world a f fs ≡ Gives (e, b) → Hs fs → Hs b.frames
      by_below f [] g hs = absurd (stuck-gives (e, b) g)
      by_below f (Function t ∷ fs) g hs =
          let q = bind_gives (rows.aligned f.ret) (λ to. goes world (record a { frames = Function t ∷ fs }) to) (e, b) g in
          subst Hs (sym (goes_frames world (record a { frames = Function t ∷ fs }) q.0 e b q.2)) hs
      by_below f (Host t ∷ fs) g hs = subst Hs (ap (λ (z : NeutralEnd × Config). z.1.frames)
          (same_gives (Next, record a { spot = Gate; frames = Host t ∷ fs }) (e, b) g)) hs

      by_items : (f : FunctionFrame) (is : List StackItem) (fs : List Frame) → f.items ≡ is
          → rows.returned_from world a f is fs ≡ Gives (e, b) → Hs (Function f ∷ fs) → Hs b.frames
      by_items f [] fs q g hs = by_below f fs g (left_frames f fs (subst (λ i. Hs (Function (record f { items = i }) ∷ fs)) q hs))
      by_items f (i ∷ is) fs q g hs = absurd (stuck-gives (e, b) g)

      by_frames : (fs : List Frame) → a.frames ≡ fs → rows.return_row world a fs ≡ Gives (e, b) → Hs fs → Hs b.frames
      by_frames [] fr g hs = absurd (stuck-gives (e, b) g)
      by_frames (Host t ∷ fs) fr g hs = absurd (stuck-gives (e, b) g)
      by_frames (Function f ∷ fs) fr g hs = by_items f f.items fs refl g hs

  break_hosts : (a b : Config) (next code : ℕ) (e : NeutralEnd) → rows.break_row world a next code ≡ Gives (e, b) → Hs a.frames
      → Hs b.frames
  unfolding rows.break_row
  break_hosts a b next code e g hs = go (nat_eq code 1) (nat_eq code 3) (nat_eq code 5) (nat_eq code 4) (nat_eq code 6) g
    where
      raises-gives : (x : Exception) → ◌≡◌ {A = Outcome (NeutralEnd × Config)} (Raises x) (Gives (e, b)) → ⊥
      raises-gives x q = absurd (cc)

      go : (b1 b3 b5 b4 b6 : Bool) → (if b1 then outcomes.◌>>=◌ (with_register a 7 (number 0x10000)) (λ b. goes world b next)
          else if b3 then Raises raises.Breakpoint else if b5 then
          outcomes.◌>>=◌ (or_stuck (next_thunk a (a.registers 7)))
          (λ i. outcomes.◌>>=◌ (at_place world a next) (λ b. Gives (rows.MakeThunk i, b))) else if b4 then goes world a next else if b6 then
          goes world a next else Raises raises.BadBreak) ≡ Gives (e, b) → Hs b.frames
      go true b3 b5 b4 b6 g =
          let x = bind_gives (with_register a 7 (number 0x10000)) (λ c. goes world c next) (e, b) g in
          subst Hs (sym (goes_frames world x.0 next e b x.2 ∙ register_frames a 7 (number 0x10000) x.0 x.1)) hs
      go false true b5 b4 b6 g = absurd (raises-gives raises.Breakpoint g)
      go false false true b4 b6 g = let i = bind_gives (or_stuck (next_thunk a (a.registers 7))) _ (e, b) g in
          placed_hosts a b next (rows.MakeThunk i.0) e i.2 hs
      go false false false true b6 g = subst Hs (sym (goes_frames world a next e b g)) hs
      go false false false false true g = subst Hs (sym (goes_frames world a next e b g)) hs
      go false false false false false g = absurd (raises-gives raises.BadBreak g)

  move_any_hosts : (a b : Config) (next : ℕ) (size : Size) (left right : Operand) (lidx ridx : Option Index) (e : NeutralEnd)
      → OwnLocalsAll world.notes a.frames → (t : Bool) → (if t then rows.stack_row world a next size right lidx ridx
      else rows.move_row world a next size (indexed left lidx) (indexed right ridx)) ≡ Gives (e, b) → Hs a.frames → Hs b.frames
  move_any_hosts a b next size left right lidx ridx e own true g hs = stack_hosts a b next size right lidx ridx e own g hs
  move_any_hosts a b next size left right lidx ridx e own false g hs =
      move_hosts a b next size (indexed left lidx) (indexed right ridx) e g hs

  by_insn : (a b : Config) (here : Site) (i : Insn) (e : NeutralEnd) → OwnLocalsAll world.notes a.frames → Hs a.frames
      → rows.executed world a here i ≡ Gives (e, b) → Hs b.frames
  unfolding rows.executed
  by_insn a b here (insns.Break code) e own hs g = break_hosts a b here.next code e g hs
  by_insn a b here (insns.Jump cond far relative op extra) e own hs g = jump_hosts a b here cond relative (beside_extra op extra) e g hs
  by_insn a b here (insns.Jump8 cond n) e own hs g = jump8_hosts a b here.next cond n e g hs
  by_insn a b here (insns.Call far false relative op extra) e own hs g = call_hosts a b here relative (beside_extra op extra) e g hs
  by_insn a b here (insns.Call far true relative op extra) e own hs g =
      call_native_hosts a b here.next relative (beside_extra op extra) e g hs
  by_insn a b here insns.Ret e own hs g = return_hosts a b e g hs
  by_insn a b here (insns.Compare op wide left right extra) e own hs g =
      compare_hosts a b here.next op wide left (beside_extra right extra) e g hs
  by_insn a b here (insns.CompareImm op wide left idx long imm) e own hs g =
      compare_imm_hosts a b here.next op wide (indexed left idx) imm e g hs
  by_insn a b here (insns.Arith op wide left right extra) e own hs g =
      arith_hosts a b here.next op wide (plainly left) (beside_extra right extra) e g hs
  by_insn a b here (insns.Move size bits left right lidx ridx) e own hs g =
      move_any_hosts a b here.next size left right lidx ridx e own (rows.is_stack_pointer (plainly left)) g hs
  by_insn a b here (insns.MoveSigned bits left right lidx extra) e own hs g =
      move_signed_hosts a b here.next (indexed left lidx) (beside_extra right extra) e g hs
  by_insn a b here (insns.MoveImm size bits left lidx imm) e own hs g = move_imm_hosts a b here size (indexed left lidx) imm e g hs
  by_insn a b here (insns.MoveImmNatural bits left lidx idx) e own hs g =
      move_imm_natural_hosts a b here.next (indexed left lidx) idx e g hs
  by_insn a b here (insns.MoveRelative bits left lidx imm) e own hs g = move_relative_hosts a b here.next (indexed left lidx) imm e g hs
  by_insn a b here (insns.LoadSpecial from) e own hs g = absurd (stuck-gives (e, b) g)
  by_insn a b here (insns.StoreSpecial to special) e own hs g = store_special_hosts a b here.next to special e g hs
  by_insn a b here (insns.Push wide op extra) e own hs g = push_hosts a b here.next wide (beside_extra op extra) e g hs
  by_insn a b here (insns.Pop wide op extra) e own hs g = pop_hosts a b here.next wide (beside_extra op extra) e g hs
  by_insn a b here (insns.PushNatural op extra) e own hs g = push_natural_hosts a b here.next (beside_extra op extra) e g hs
  by_insn a b here (insns.PopNatural op extra) e own hs g = pop_natural_hosts a b here.next (beside_extra op extra) e g hs

pub hosts_kept : HostsKept
hosts_kept w world P mapped a s ss here i e b h pl ok st hs g = by_insn w world P mapped h ok pl ss a b here i e st.locals hs g
