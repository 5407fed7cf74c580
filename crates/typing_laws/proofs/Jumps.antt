-- The rows of the jumps: to a point of the function, with what a comparison said.
use Rattle.typing_laws.proofs.Common.{◌≡◌, ℕ, ◌+◌, ◌%◌, ◌^◌, ◌<◌, ◌⊎◌, Bool, true, false, not, ◌&&◌, if◌then◌else◌, is_some, nat_eq, nat_le}
use Rattle.typing_laws.proofs.Common.{nat_lt, List, [], ◌∷◌, get_or, Option, Some, None, Ok, slice_get, refl, sym, ap, ap₂, ◌∙◌, subst}
use Rattle.typing_laws.proofs.Common.{arith, inl, inr, ⊎_elim, ℤ, pos, negsuc, ◌+ℤ◌, int_le, and_parts, eqb-true, eq-eqb, ltb-true}
use Rattle.typing_laws.proofs.Common.{position-Some, same_Some, none-some, get_or_from_slice_get, or_else, TargetFits, Extra, Nothing, Imm}
use Rattle.typing_laws.proofs.Common.{Idx, Operand, wrap64, FnNote, RuleName, State, and_then, is_at, number_at, number_from, target_of}
use Rattle.typing_laws.proofs.Common.{narrow, Successors, beside_extra, moved_by, NeutralEnd, Site, aligned, FunctionFrame, Frame, Config}
use Rattle.typing_laws.proofs.Common.{depth, FitsState, Outcome, Gives, Raises, Stuck, ◌>>=◌, plain, word, World, Accepts, live_memory}
use Rattle.typing_laws.proofs.Common.{IsTaken, here_of, within_some}
use Rattle.std.proofs.{Common.◌*ℤ◌, lemmas.Bool.not-true}
use Rattle.ebc_insn.specs.declared.Cond.{Cond}
use Rattle.note_types.specs.declared.notes.Point.{Point}
use Rattle.rules_flow.specs.Jumps.{absolute, jump_to, jumps, no_target, place_within, point_at, relative}
use Rattle.neutral_machine.specs.Rows.{is_taken, jump8_row, jump_row, target_at}
use Rattle.typing_laws.proofs.Rows.{if_some, then_some, wrap_add, err_ok, either_ok, unless_ok, ok_same, when_some}
use Rattle.typing_laws.proofs.{ArithRow.GoesOn, ArithRow.goes_on, CompareRow.narrow_fits, Context.TopSound, Operands.some_ok}
use Rattle.typing_laws.proofs.{Operands.then_ok, Written.After, OnStack.same_pos}
use Rattle.ebc_insn.specs.declared.Cond.TheVariants as conds
use Rattle.rules_flow.specs.Jumps as rules_jumps
use Rattle.neutral_machine.specs.Rows as rows
use Rattle.note_types.specs.declared.exception.Exception.TheVariants as raises

-- An instruction that goes on at a successor, with its state.
pub record TakesOn (world : World) (here : Site) (x : Successors) (o : Outcome (NeutralEnd × Config)) : Type 0 where
  pub place : ℕ
  pub state : State
  pub taken : IsTaken here x place state
  pub goes : Accepts (GoesOn world place state) o

-- ---- what stands at a place

-- the thing that is found at a place, and its number
pub record FoundAt {A : Type 0} (place_of : A → ℕ) (xs : List A) (z : ℤ) (k : ℕ) : Type 0 where
  pub thing : A
  pub there : slice_get xs k ≡ Some thing
  pub is : z ≡ pos (place_of thing)

pub number_found : {A : Type 0} (place_of : A → ℕ) (xs : List A) (z : ℤ) (k : ℕ) → number_from place_of xs z ≡ Some k
    → FoundAt place_of xs z k
unfolding number_at
number_found place_of xs (negsuc n) k e = absurd (none-some k e)
number_found place_of [] (pos n) k e = when_some (int_le (pos 0) (pos n)) _ k e (λ _ h. absurd (none-some k h))
number_found place_of (y ∷ ys) (pos n) k e = when_some (int_le (pos 0) (pos n)) _ k e (λ _ h.
    let q = position-Some (is_at place_of n) (y ∷ ys) k y h in
    let x = within_some (y ∷ ys) k q.0 in
    record { thing = x.0; there = x.1; is = ap pos (sym (eqb-true _ n (same x.0 x.1 q.1))) })
  where
    same : (z : _) → slice_get (y ∷ ys) k ≡ Some z → nat_eq (place_of (get_or (y ∷ ys) k y)) n ≡ true → nat_eq (place_of z) n ≡ true
    same z h g = ap (λ w. nat_eq (place_of w) n) (sym (get_or_from_slice_get (y ∷ ys) k z y h)) ∙ g

module _ {world : World} {a : Config} {f : FunctionFrame} {fs : List Frame} {note : FnNote} {s : State}
    (st : TopSound world a f fs note s) where
  -- a point of the function
  pub record PointThere (z : ℤ) (p : ℕ) : Type 0 where
    pub is : z ≡ pos p
    pub even : p % 2 ≡ 0
    pub inside : p < world.image_size

  point_there : (z : ℤ) (p : ℕ) → point_at world.notes note z ≡ Some p → PointThere z p
  unfolding point_at
  point_there z p e =
      then_some (and_then (number_from (λ (q : Point). q.place) world.notes.point z) (slice_get world.notes.point)) (place_within note) p e
      (λ y e1 e2.
      then_some (number_from (λ (q : Point). q.place) world.notes.point z) (slice_get world.notes.point) y e1 (λ k e3 e4.
      if_some (nat_le note.place y.place && nat_lt y.place note.end) y.place p e2 (λ t e5.
      let found = number_found (λ (q : Point). q.place) world.notes.point z k e3 in
      let same : found.thing ≡ y = same_Some found.thing y (sym found.there ∙ e4) in
      let q = and_parts (nat_le note.place y.place) (nat_lt y.place note.end) t in
      let l = ltb-true y.place note.end q.1 in
      let c = st.typed.fits.code_inside f.func note st.there in
      record {
        is = found.is ∙ ap (λ (w : Point). pos w.place) same ∙ ap pos e5;
        even = subst (λ w. w % 2 ≡ 0) e5 (st.typed.points k y e4);
        inside = (let m = c.1 in omega (arith, l, m, e5));
      })))

  -- ---- targets

  -- a place past the next instruction
  past_next : (next p : ℕ) (imm : ℤ) → pos next +ℤ imm ≡ pos p → p < 2 ^ 64 → word (next + wrap64 imm) ≡ p
  past_next next p imm e l =
      let w : wrap64 (pos next +ℤ imm) ≡ word (wrap64 (pos next) + wrap64 imm) = wrap_add (pos next) imm in
      let u : wrap64 (pos next +ℤ imm) ≡ p % 2 ^ 64 = ap wrap64 e in
      let z : word (wrap64 (pos next) + wrap64 imm) ≡ word (next + wrap64 imm) = omega arith in
      let v : p % 2 ^ 64 ≡ p = omega (arith, l) in
      sym z ∙ sym w ∙ u ∙ v

  small_again : (next : ℕ) (imm : ℤ) → word (next + word (word (0 + wrap64 imm))) ≡ word (next + wrap64 imm)
  small_again next imm = omega arith

  -- an immediate beside R0
  relative_target : (site : Site) (func : ℕ) (op : Operand) (imm z : ℤ) (p : ℕ) → op.reg ≡ 0 → op.indirect ≡ false
      → relative (here_of site func) imm ≡ Ok z → z ≡ pos p → p < 2 ^ 64 → target_at a site true (beside_extra op (Imm imm)) ≡ Gives p
  unfolding target_at
  relative_target site func op imm z p er ei e ez l = unless_ok (is_some site.reloc) _ _ z e (λ _ e1.
      ap₂ whole ei er ∙ ap Gives (small_again site.next imm ∙ past_next site.next p imm (ok_same _ z e1 ∙ ez) l))
    where
      whole : Bool → ℕ → Outcome ℕ
      whole i r = if i then Stuck else rows.past site.next (plain (moved_by (rows.base_at a r) (Some (record { n = 0; c = wrap64 imm }))))

  no_targets : (site : Site) (func : ℕ) (z : ℤ) → no_target (here_of site func) ≡ Ok z → ⊥
  no_targets site func z e =
      either_ok (is_some site.reloc) _ _ z e (λ _ h. err_ok RuleName.Relocation z h) (λ _ h. err_ok RuleName.Form z h)

  absolute_target : (site : Site) (op : Operand) (imm z : ℤ) (p : ℕ) → op.reg ≡ 0 → op.indirect ≡ false → (o : Option ℕ) → site.reloc ≡ o
      → absolute o ≡ Ok z → z ≡ pos p → target_at a site false (beside_extra op (Imm imm)) ≡ Gives p
  unfolding target_at
  absolute_target site op imm z p er ei None h e ez = absurd (err_ok RuleName.Relocation z e)
  absolute_target site op imm z p er ei (Some q) h e ez =
      ap₂ (λ i r. if i then Stuck else rows.named_place (nat_eq r 0 && true) site.reloc) ei er ∙ ap (rows.named_place true) h
      ∙ ap Gives (same_pos q p (ok_same (pos q) z e ∙ ez))

  -- the place that the rules find is the one to which the neutral machine goes
  pub target_found : (site : Site) (func : ℕ) (far rel : Bool) (op : Operand) (extra : Extra) (z : ℤ) (p : ℕ) → TargetFits far op extra
      → target_of (here_of site func) far rel op extra ≡ Ok z → z ≡ pos p → p < 2 ^ 64
      → target_at a site rel (beside_extra op extra) ≡ Gives p
  unfolding target_of
  target_found site func true true op (Imm imm) z p w e ez l = relative_target site func op imm z p w.0 w.1 e ez l
  target_found site func true false op (Imm imm) z p w e ez l = absolute_target site op imm z p w.0 w.1 site.reloc refl e ez
  target_found site func false true op (Imm imm) z p w e ez l = either_ok (nat_eq op.reg 0 && not op.indirect) _ _ z e
      (λ q h. let t = and_parts (nat_eq op.reg 0) (not op.indirect) q in
      relative_target site func op imm z p (eqb-true op.reg 0 t.0) (not-true op.indirect t.1) h ez l)
      (λ _ h. absurd (no_targets site func z h))
  target_found site func false false op (Imm imm) z p w e ez l = absurd (no_targets site func z e)
  target_found site func true rel op Nothing z p w e ez l = absurd w
  target_found site func true rel op (Idx i) z p w e ez l = absurd w
  target_found site func c rel op k z p w e ez l = absurd (no_targets site func z e)

  pub aligned_is : (p : ℕ) → p % 2 ≡ 0 → aligned p ≡ Gives p
  aligned_is p e = ap (λ b. if b then Gives p else Raises raises.AlignmentCheck) (eq-eqb (p % 2) 0 e)

  -- ---- jumps

  -- nothing but the place changes, and what the flag says is known
  stays : (z : State) → FitsState world.notes (live_memory world a) (depth fs) f z a.registers a.c a.made → After world a f fs z
  stays z h = record { frames = st.frames; top = h; below = st.below }

  narrowed_here : (c : Bool) → a.c ≡ c → After world a f fs (narrow s c)
  narrowed_here c e =
      subst (λ b. After world a f fs (narrow s b)) e (stays (narrow s a.c)
      (narrow_fits world.notes (live_memory world a) (depth fs) f s a.registers a.c a.made (λ r. (st.state.registers r).bounded)
      (λ x h. let k = st.state.fact x h in let k0 = k.0 in (omega (arith, k0), k.1, k.2)) st.top))

  -- a jump to a place that its rule allows
  pub jump_goes : (site : Site) (cond : Cond) (x : Successors) (z : ℤ) (target : Outcome ℕ) → (x.fall ≡ None)
      ⊎ (site.next < world.image_size) → jump_to world.notes note s cond z ≡ Ok x → ((p : ℕ) → z ≡ pos p → p < 2 ^ 64 → target ≡ Gives p)
      → TakesOn world site x (if is_taken cond a.c then (target >>= (λ p. aligned p >>= (λ to. rows.goes world a to)))
      else rows.goes world a site.next)
  jump_goes site cond x z target inside e at =
      then_ok (or_else RuleName.Target (point_at world.notes note z)) (λ p. Ok (jumps s p cond)) x e
      (λ p e1 e2. some_ok RuleName.Target (point_at world.notes note z) p e1
      (λ e3. go p (point_there z p e3) cond (ok_same _ x e2) a.c refl))
    where
      there_jump : (p : ℕ) (t : PointThere z p) (zs : State) → After world a f fs zs → x.jump ≡ Some (p, zs)
          → TakesOn world site x (target >>= (λ p. aligned p >>= (λ to. rows.goes world a to)))
      there_jump p t zs h j = record {
        place = p;
        state = zs;
        taken = inr j;
        goes = subst (λ o. Accepts (GoesOn world p zs) (o >>= (λ p. aligned p >>= (λ to. rows.goes world a to))))
            (sym (at p t.is (let l = st.typed.size in let i = t.inside in omega (arith, l, i))))
            (subst (λ o. Accepts (GoesOn world p zs) (o >>= (λ to. rows.goes world a to))) (sym (aligned_is p t.even))
            (goes_on a p zs t.inside h));
      }

      falls_there : (zs : State) → After world a f fs zs → x.fall ≡ Some zs → TakesOn world site x (rows.goes world a site.next)
      falls_there zs h j = record {
        place = site.next;
        state = zs;
        taken = inl (refl, j);
        goes = goes_on a site.next zs (⊎_elim (λ q. absurd (none-some zs (sym q ∙ j))) (λ q. q) inside) h;
      }

      go : (p : ℕ) → PointThere z p → (cond : Cond) → jumps s p cond ≡ x → (c : Bool) → a.c ≡ c
          → TakesOn world site x (if is_taken cond c then (target >>= (λ p. aligned p >>= (λ to. rows.goes world a to)))
          else rows.goes world a site.next)
      go p t conds.Always q c h = there_jump p t s (stays s st.top) (ap (λ (y : Successors). y.jump) (sym q))
      go p t conds.Set q true h = there_jump p t (narrow s true) (narrowed_here true h) (ap (λ (y : Successors). y.jump) (sym q))
      go p t conds.Set q false h = falls_there (narrow s false) (narrowed_here false h) (ap (λ (y : Successors). y.fall) (sym q))
      go p t conds.Clear q true h = falls_there (narrow s true) (narrowed_here true h) (ap (λ (y : Successors). y.fall) (sym q))
      go p t conds.Clear q false h = there_jump p t (narrow s false) (narrowed_here false h) (ap (λ (y : Successors). y.jump) (sym q))

  pub jump_fits : (site : Site) (cond : Cond) (far rel : Bool) (op : Operand) (extra : Extra) (x : Successors) → TargetFits far op extra
      → (x.fall ≡ None) ⊎ (site.next < world.image_size) → rules_jumps.jump_row world.notes note
      (here_of site f.func) s cond far rel op extra ≡ Ok x → TakesOn world site x (jump_row world a site cond rel (beside_extra op extra))
  unfolding jump_row rules_jumps.jump_row
  jump_fits site cond far rel op extra x w inside e =
      then_ok (target_of (here_of site f.func) far rel op extra) (jump_to world.notes note s cond) x e (λ z e1 e2.
      jump_goes site cond x z (target_at a site rel (beside_extra op extra)) inside e2
      (λ p q l. target_found site f.func far rel op extra z p w e1 q l))

  pub jump8_fits : (site : Site) (cond : Cond) (words : ℤ) (x : Successors) → (x.fall ≡ None) ⊎ (site.next < world.image_size)
      → rules_jumps.jump8_row world.notes note (here_of site f.func) s cond words ≡ Ok x
      → TakesOn world site x (jump8_row world a site.next cond words)
  unfolding jump8_row rules_jumps.jump8_row
  jump8_fits site cond words x inside e =
      then_ok (relative (here_of site f.func) (words *ℤ pos 2)) (jump_to world.notes note s cond) x e (λ z e1 e2.
      jump_goes site cond x z (Gives (word (site.next + wrap64 (words *ℤ pos 2)))) inside e2
      (λ p q l. unless_ok (is_some site.reloc) _ _ z e1 (λ _ e3. ap Gives (past_next site.next p (words *ℤ pos 2) (ok_same _ z e3 ∙ q) l))))
