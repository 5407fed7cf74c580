-- What an instruction puts on the stack is what the neutral machine's frames grow by.
use Rattle.instruction_laws.proofs.Common.{◌≡◌, ℕ, ◌+◌, ◌≤◌, Bool, true, false, not, ◌&&◌, if◌then◌else◌, nat_eq, nat_lt, List, [], ◌∷◌}
use Rattle.instruction_laws.proofs.Common.{Option, Some, None, is_none, refl, sym, ap, ◌∙◌, subst, subst₂, arith, slice_get, and_parts}
use Rattle.instruction_laws.proofs.Common.{false≢true, Index, Operand, Size, size_at, SlotKind, N, Shape, Neutral, Place, Pushed}
use Rattle.instruction_laws.proofs.Common.{FunctionFrame, Frame, Function, Host, Config, locals_among, World, frame_locals, slot_bytes}
use Rattle.instruction_laws.proofs.Common.{stack_bytes, return_cell, total, height, memory_of, Outcome, Gives, Raises, Stuck, or_stuck}
use Rattle.instruction_laws.proofs.Common.{unless_stuck, kept_natural, Move, Form, kept, NeutralSide, plainly, indexed, beside_extra, value}
use Rattle.instruction_laws.proofs.Common.{function_at, NeutralEnd, Next, Site, is_stack_pointer, goes, pushed, form_kind, inside, called}
use Rattle.instruction_laws.proofs.Common.{called_from, params_match, has_size, after_make, made_locals, after_drop, dropped, adjusted}
use Rattle.instruction_laws.proofs.Common.{adjusted_by, is_qword_size, stack_row, move_row, call_row, target_at, aligned, executed, size_if}
use Rattle.instruction_laws.proofs.Common.{locals_growth, index_growth}
use Rattle.neutral_machine.specs.Rows.{push_row, push_natural_row}
use Rattle.instruction_laws.specs.Laws.{RoomAfter}
use Rattle.ebc_insn.specs.declared.Insn.TheVariants as insns
use Rattle.ebc_insn.specs.declared.Size.TheVariants as sizes
use Rattle.neutral_machine.specs.Outcomes as outcomes

-- what a bind that gives something has given first
pub bind_gives : {A B : Type 0} (m : Outcome A) (f : A → Outcome B) (y : B) → outcomes.◌>>=◌ m f ≡ Gives y → (x : A) × (m ≡ Gives x)
    × (f x ≡ Gives y)
bind_gives (Gives x) f y e = (x, refl, e)
bind_gives (Raises r) f y e = absurd (cc)
bind_gives Stuck f y e = absurd (cc)

pub stuck-gives : {A : Type 0} (x : A) → ◌≡◌ {A = Outcome A} Stuck (Gives x) → ⊥
stuck-gives x e = absurd (cc)

pub same_gives : {A : Type 0} (x y : A) → ◌≡◌ {A = Outcome A} (Gives x) (Gives y) → x ≡ y
same_gives x y e = cc

pub goes_frames : (world : World) (a : Config) (p : ℕ) (e : NeutralEnd) (b : Config) → goes world a p ≡ Gives (e, b) → b.frames ≡ a.frames
unfolding goes
goes_frames world a p e b g = go (nat_lt p world.image_size) g
  where
    same_config : (e f : NeutralEnd) (b c : Config) → ◌≡◌ {A = NeutralEnd × Config} (e, b) (f, c) → b ≡ c
    same_config e f b c q = ap (λ (x : NeutralEnd × Config). x.1) q

    go : (t : Bool) → ◌≡◌ {A = Outcome (NeutralEnd × Config)} (outcomes.◌>>=◌ {A = Config} {B = NeutralEnd × Config}
        (if t then Gives (record a { spot = Place p }) else Stuck) (λ b. Gives (Next, b))) (Gives (e, b)) → b.frames ≡ a.frames
    go true g = ap (λ (x : Config). x.frames) (sym (same_config Next e (record a { spot = Place p }) b (same_gives _ _ g)))
    go false g = absurd (stuck-gives _ g)

module _ (w : ℕ) (world : World) where
  pushed_total : (a b : Config) (kind : SlotKind) (v : Neutral) (fs : List Frame) → pushed a fs (Pushed kind v) ≡ Gives b
      → total w b.frames ≡ slot_bytes w kind + total w fs
  pushed_total a b kind v [] e = absurd (stuck-gives _ e)
  pushed_total a b kind v (Host h ∷ fs) e = absurd (stuck-gives _ e)
  pushed_total a b kind v (Function f ∷ fs) e =
      ap (λ (x : Config). total w x.frames) (sym (same_gives _ _ e))
      ∙ (let z : slot_bytes w kind + height w f.items + (return_cell + total w fs) ≡ slot_bytes w kind +
      (height w f.items + (return_cell + total w fs)) = omega arith in z)

  push_room : (a : Config) (next : ℕ) (wide : Bool) (op : NeutralSide) (e : NeutralEnd) (b : Config)
      → push_row world a next wide op ≡ Gives (e, b) → total w b.frames ≡ slot_bytes w (form_kind wide) + total w a.frames
  unfolding push_row
  push_room a next wide op e b g =
      let v = bind_gives (value world a (Form wide) op) _ _ g in
      let p = bind_gives (pushed a a.frames (Pushed (form_kind wide) (kept world.notes (memory_of world a).objects (Form wide) v.0)))
      (λ b. goes world b next) _ v.2 in
      ap (total w) (goes_frames world p.0 next e b p.2) ∙ pushed_total a p.0 (form_kind wide) _ a.frames p.1

  push_natural_room : (a : Config) (next : ℕ) (op : NeutralSide) (e : NeutralEnd) (b : Config)
      → push_natural_row world a next op ≡ Gives (e, b) → total w b.frames ≡ w + total w a.frames
  unfolding push_natural_row
  push_natural_room a next op e b g =
      let v = bind_gives (value world a (Move sizes.Natural) op) _ _ g in
      let p = bind_gives (pushed a a.frames (Pushed N (kept_natural world.notes (memory_of world a).objects v.0)))
      (λ b. goes world b next) _ v.2 in
      ap (total w) (goes_frames world p.0 next e b p.2) ∙ pushed_total a p.0 N _ a.frames p.1

  called_total : (a b : Config) (next p : ℕ) → called world a next p ≡ Gives b → total w b.frames ≡ return_cell + total w a.frames
  unfolding called
  called_total a b next p e =
      let g = bind_gives (or_stuck (function_at world.notes p)) (λ g. called_from world a next a.frames g) b e in by_frames a.frames g.0 g.2
    where
      entered : (g : ℕ) → inside a g next ≡ b → total w b.frames ≡ return_cell + total w a.frames
      entered g q = ap (λ (x : Config). total w x.frames) (sym q)
          ∙ (let z : 0 + (return_cell + total w a.frames) ≡ return_cell + total w a.frames = omega arith in z)

      by_test : (f : FunctionFrame) (g : ℕ) (t : Bool) → (if t then Gives (inside a g next) else Stuck) ≡ Gives b
          → total w b.frames ≡ return_cell + total w a.frames
      by_test f g true q = entered g (same_gives _ _ q)
      by_test f g false q = absurd (stuck-gives _ q)

      by_frames : (fs : List Frame) (g : ℕ) → called_from world a next fs g ≡ Gives b → total w b.frames ≡ return_cell + total w a.frames
      by_frames [] g q = absurd (stuck-gives _ q)
      by_frames (Host h ∷ fs) g q = absurd (stuck-gives _ q)
      by_frames (Function f ∷ fs) g q = by_test f g (params_match (slice_get world.notes.function g) f.items
          && nat_lt next world.image_size) q

  call_room : (a : Config) (here : Site) (relative : Bool) (op : NeutralSide) (e : NeutralEnd) (b : Config)
      → call_row world a here relative op ≡ Gives (e, b) → total w b.frames ≡ return_cell + total w a.frames
  unfolding call_row
  call_room a here relative op e b g =
      let p = bind_gives (target_at a here relative op) _ _ g in
      let q = bind_gives (aligned p.0) _ _ p.2 in
      let c = bind_gives (called world a here.next q.0) (λ b. goes world b q.0) _ q.2 in
      ap (total w) (goes_frames world c.0 q.0 e b c.2) ∙ called_total a c.0 here.next q.0 c.1

  -- locals that are made
  made_total : (a b : Config) (f : FunctionFrame) (fs : List Frame) (n c : ℕ) (o : Option Shape) → after_make a f fs n c o ≡ Gives b
      → total w b.frames ≡ (if is_none (locals_among f.items) then size_if w o else 0) + total w (Function f ∷ fs)
  made_total a b f fs n c None e = absurd (stuck-gives _ e)
  made_total a b f fs n c (Some t) e = go (has_size n c t && is_none (locals_among f.items)) refl e
    where
      go : (x : Bool) → (has_size n c t && is_none (locals_among f.items)) ≡ x
          → (if x then Gives (made_locals a f fs t) else Stuck) ≡ Gives b
          → total w b.frames ≡ (if is_none (locals_among f.items) then size_at w t else 0) + total w (Function f ∷ fs)
      go false x q = absurd (stuck-gives _ q)
      go true x q =
          let p = and_parts (has_size n c t) (is_none (locals_among f.items)) x in
          ap (λ (y : Config). total w y.frames) (sym (same_gives _ _ q))
          ∙ (let z : size_at w t + height w f.items + (return_cell + total w fs) ≡ size_at w t + total w (Function f ∷ fs) =
          omega arith in z) ∙ ap (λ y. (if y then size_at w t else 0) + total w (Function f ∷ fs)) (sym p.1)

  index_room : (a b : Config) (o : Option Index) → adjusted_by world a o ≡ Gives b → total w a.frames ≤ stack_bytes w world.notes
      → total w b.frames ≤ stack_bytes w world.notes → index_growth w world a o + total w a.frames ≤ stack_bytes w world.notes
  index_room a b None e r s = omega (arith, r)
  index_room a b (Some i) e r s = go (i.neg && not (nat_eq i.units 0 && nat_eq i.bytes 0)) refl
    where
      by_frames : (fs : List Frame) → a.frames ≡ fs → (neg z : Bool) → (neg && not z) ≡ true → i.neg ≡ neg
          → (nat_eq i.units 0 && nat_eq i.bytes 0) ≡ z → adjusted world a fs i.neg i.units i.bytes ≡ Gives b
          → locals_growth w world fs + total w fs ≤ stack_bytes w world.notes
      by_frames [] fr neg z t p q e = absurd (stuck-gives _ e)
      by_frames (Host h ∷ fs) fr neg z t p q e = absurd (stuck-gives _ e)
      by_frames (Function f ∷ fs) fr false z t p q e = absurd (false≢true t)
      by_frames (Function f ∷ fs) fr true true t p q e = absurd (false≢true t)
      by_frames (Function f ∷ fs) fr true false t p q e =
          let m = made_total a b f fs i.units i.bytes (frame_locals world.notes f.func)
          (subst₂ (λ u v. (if u && not v then after_make a f fs i.units i.bytes (frame_locals world.notes f.func)
          else after_drop a f fs (dropped i.units i.bytes f.items)) ≡ Gives b) p q e) in
          subst (λ y. y ≤ stack_bytes w world.notes) m s

      go : (t : Bool) → (i.neg && not (nat_eq i.units 0 && nat_eq i.bytes 0)) ≡ t
          → (if t then locals_growth w world a.frames else 0) + total w a.frames ≤ stack_bytes w world.notes
      go true t = by_frames a.frames refl i.neg (nat_eq i.units 0 && nat_eq i.bytes 0) t refl refl e
      go false t = omega (arith, r)

  move_room : (a : Config) (next : ℕ) (size : Size) (left right : Operand) (lidx ridx : Option Index) (e : NeutralEnd) (b : Config)
      → (t : Bool) → (if t then stack_row world a next size right lidx ridx
      else move_row world a next size (indexed left lidx) (indexed right ridx)) ≡ Gives (e, b)
      → total w a.frames ≤ stack_bytes w world.notes → total w b.frames ≤ stack_bytes w world.notes
      → (if t then index_growth w world a ridx else 0) + total w a.frames ≤ stack_bytes w world.notes
  unfolding stack_row
  move_room a next size left right lidx ridx e b false g r s = omega (arith, r)
  move_room a next size left right lidx ridx e b true g r s = go
      (is_qword_size size && (is_none lidx && (not right.indirect && nat_eq right.reg 0))) g
    where
      go : (t : Bool) → unless_stuck t (outcomes.◌>>=◌ (adjusted_by world a ridx) (λ b. goes world b next)) ≡ Gives (e, b)
          → index_growth w world a ridx + total w a.frames ≤ stack_bytes w world.notes
      go false g = absurd (stuck-gives _ g)
      go true g =
          let p = bind_gives (adjusted_by world a ridx) (λ b. goes world b next) _ g in
          index_room a p.0 ridx p.1 r (subst (λ fs. total w fs ≤ stack_bytes w world.notes) (goes_frames world p.0 next e b p.2) s)

pub room_after : RoomAfter
unfolding executed
room_after w world a here (insns.Push wide op extra) e b g r s = let q = push_room w world a here.next wide (beside_extra op extra) e b g in
    omega (arith, q, s)
room_after w world a here (insns.PushNatural op extra) e b g r s = let q =
    push_natural_room w world a here.next (beside_extra op extra) e b g in omega (arith, q, s)
room_after w world a here (insns.Call far false relative op extra) e b g r s = let q =
    call_room w world a here relative (beside_extra op extra) e b g in omega (arith, q, s)
room_after w world a here (insns.Call far true relative op extra) e b g r s = omega (arith, r)
room_after w world a here (insns.Move size bits left right lidx ridx) e b g r s =
    move_room w world a here.next size left right lidx ridx e b (is_stack_pointer (plainly left)) g r s
room_after w world a here _ e b g r s = omega (arith, r)
