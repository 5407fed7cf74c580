-- The rows of CALL of byte code and of RET.
use Rattle.typing_laws.proofs.Common.{◌≡◌, ◌≢◌, ℕ, zero, suc, ◌+◌, ◌%◌, ◌^◌, ◌<◌, ◌⊎◌, Bool, true, false, not, ◌&&◌, if◌then◌else◌, nat_eq}
use Rattle.typing_laws.proofs.Common.{nat_lt, List, [], ◌∷◌, length, Some, None, Ok, slice_get, slice_index_or, refl, sym, ap, ◌∙◌, subst}
use Rattle.typing_laws.proofs.Common.{arith, inl, inr, ⊎_elim, ℤ, pos, AllZip, option_map_or, and_from, and_parts, eqb-true, eqb-false}
use Rattle.typing_laws.proofs.Common.{ne_eqb, lt-ltb, ltb-true, ltb-false, le-leb, false≢true, same_Some, none-some, or_else, TargetFits}
use Rattle.typing_laws.proofs.Common.{Extra, Operand, is_below, local_fields, type_of, FnNote, RuleName, Shape, Item, State, Ty}
use Rattle.typing_laws.proofs.Common.{is_below_exact, both, needs, locals_size, arguments, all_made, call_size, call_to, fits_need}
use Rattle.typing_laws.proofs.Common.{is_lower, at, items_size, number_at, number_from, target_of, falls, Successors, beside_extra}
use Rattle.typing_laws.proofs.Common.{NeutralEnd, Next, Site, aligned, goes, Registers, StackItem, FunctionFrame, Frame, Function, Host}
use Rattle.typing_laws.proofs.Common.{Config, depth, locals_among, locals_at, FitsPlain, Fits, FitsState, ItemFits, height, Memory, Outcome}
use Rattle.typing_laws.proofs.Common.{Gives, Stuck, ◌>>=◌, or_stuck, pair_at, return_cell, Neutral, World, Accepts, Later, Preserves}
use Rattle.typing_laws.proofs.Common.{WillFit, live_memory, here_of, FrameBelow, KeepsWithin, Sound, SoundBelow, fields_later, fits_later}
use Rattle.typing_laws.proofs.Common.{items_later, AreWritten}
use Rattle.note_types.specs.{Notes.entry_state, Passing.IsReturned}
use Rattle.note_types.specs.declared.{spot.Spot.Spot, spot.Spot.TheVariants.Place, spot.Spot.TheVariants.Gate}
use Rattle.rules_flow.specs.Calls.{call_fails, callee_at, called, is_entry_value, is_saved, may_return}
use Rattle.neutral_machine.specs.Rows.{call_row, called_from, function_at, inside, params_match, return_row, returned_from, returned_to}
use Rattle.neutral_machine.specs.Rows.{target_at}
use Rattle.invariant_laws.specs.{Asked.GivenByCall, Asked.result_type_of, Later.IsFresh, Sound.GoesWell}
use Rattle.typing_laws.specs.OneRule.{Enters, GoesBack, Returns}
use Rattle.typing_laws.proofs.{ArgumentsPass.arguments_fit, ArgumentsPass.both_none, Rows.needs_true, Rows.then_some, Rows.unless_some}
use Rattle.typing_laws.proofs.{Rows.when_ok, Rows.ok_same, FitsBelow.fits_below, ArithRow.also_ok, Context.TopSound, Context.passed_params}
use Rattle.typing_laws.proofs.{Context.same_locals, Context.seen, Context.FitsHere, ItemsChanged.few_hosts, ItemsChanged.top_keeps}
use Rattle.typing_laws.proofs.{Jumps.aligned_is, Jumps.number_found, Jumps.target_found, LiveCells.LaterBelow, LiveCells.below_later}
use Rattle.typing_laws.proofs.{LiveCells.frames_kept, Operands.some_ok, Operands.then_ok, PushFits.top_height, Relaid.cells_at}
use Rattle.typing_laws.proofs.{Relaid.later_at, Views.View, Views.FitsIn, Views.view_at, Changes.each_register}
use Rattle.invariant_laws.proofs.LaterFits.{later_trans}
use Rattle.neutral_machine.proofs.Frames.{no_locals}
use Rattle.std.proofs.{lemmas.Bool.not-true, Common.◌↔◌}
use Rattle.rules_flow.specs.Calls as rules_calls
use Rattle.neutral_machine.specs.Rows as rows

-- ---- types that a call gives back

granted : {A B : Type 0} (view : View) (g : ℕ) → g ≡ 0 → (A ⊎ (B × AreWritten view.m view.d g)) ↔ (A ⊎ B)
granted view g k = (λ h. ⊎_elim inl (λ s. inr s.0) h, λ h. ⊎_elim inl (λ s. inr (s, λ x q. absurd (omega (arith, k, q)))) h)

-- what fits a result's type in a frame fits it in every frame, and the other way round
pub returned_plain : (view : View) (t : Ty) (v : Neutral) → IsReturned t → FitsIn view t v ↔ FitsPlain view.notes view.m.objects t v
returned_plain view (Ty.Local x) v k = absurd k
returned_plain view (Ty.Lent cell) v k = absurd k
returned_plain view (Ty.Status g) v k = granted view g k
returned_plain view (Ty.SignedStatus g) v k = granted view g k
returned_plain view (Ty.ThunkAt q) v k = absurd k
returned_plain view (Ty.Saved q) v k = absurd k
returned_plain view t v k = (λ h. h, λ h. h)

pub returned_unsaved : (t : Ty) (i : ℕ) → IsReturned t → t ≢ Ty.Saved i
returned_unsaved t i k e = absurd (subst IsReturned e k)

-- ---- the state after a call

-- a property of each register after a call
pub after_call : (P : ℕ → Ty → Type 0) (a b c d t : Ty) → P 1 b → P 2 c → P 3 d → P 4 Ty.Any → P 5 Ty.Any → P 6 Ty.Any → P 7 t → (r : ℕ)
    → 0 < r → r < 8 → P r (slice_index_or (a ∷ b ∷ c ∷ d ∷ Ty.Any ∷ Ty.Any ∷ Ty.Any ∷ t ∷ []) r Ty.Any)
after_call P a b c d t = each_register (λ r. P r (slice_index_or (a ∷ b ∷ c ∷ d ∷ Ty.Any ∷ Ty.Any ∷ Ty.Any ∷ t ∷ []) r Ty.Any))

-- it is fresh, where the result isn't what a register was at the entry
pub called_fresh : (s : State) (t : Ty) (written : ℕ) → ((i : ℕ) → t ≢ Ty.Saved i) → IsFresh (called s t written)
called_fresh s t written n = record { unsaved = λ r l h i. saved r l h i; no_fact = refl }
  where
    saved : (r : ℕ) → 3 < r → r < 8 → (i : ℕ) → type_of (called s t written) r ≢ Ty.Saved i
    saved r l h i = after_call (λ q y. 3 < q → y ≢ Ty.Saved i) (type_of s 0) (type_of s 1) (type_of s 2) (type_of s 3) t
        (λ g. absurd (omega (arith, g))) (λ g. absurd (omega (arith, g))) (λ g. absurd (omega (arith, g))) (λ g e. absurd cc)
        (λ g e. absurd cc) (λ g e. absurd cc) (λ g. n i) r (omega (arith, l)) h l

module _ {world : World} {a : Config} {f : FunctionFrame} {fs : List Frame} {note : FnNote} {s : State}
    (st : TopSound world a f fs note s) where
  -- ---- what the rule of a call says

  pub record CallAllowed (z : ℤ) (x : Successors) : Type 0 where
    pub number : ℕ
    pub callee : FnNote
    pub there : slice_get world.notes.function number ≡ Some callee
    pub found : number_from (λ (g : FnNote). g.place) world.notes.function z ≡ Some number
    pub is : z ≡ pos callee.place
    pub other : number ≢ world.notes.entry
    pub lower : is_lower world.notes note s callee ≡ true
    pub made : all_made world.notes s ≡ true
    pub args : arguments (local_fields world.notes note) s.written callee.params s.items ≡ None
    pub falls_to : falls (called s callee.result s.written) ≡ x

  pub call_allowed : (z : ℤ) (x : Successors) → call_to world.notes note s z ≡ Ok x → CallAllowed z x
  unfolding call_to callee_at
  call_allowed z x e =
      then_ok (or_else RuleName.Target (callee_at world.notes z)) _ x e (λ g e1 e2.
      some_ok RuleName.Target (callee_at world.notes z) g e1 (λ e3.
      then_some (number_from (λ (h : FnNote). h.place) world.notes.function z)
      (λ k. if nat_eq k world.notes.entry then None else slice_get world.notes.function k) g e3 (λ k e4 e5.
      unless_some (nat_eq k world.notes.entry) _ g e5 (λ n there.
      also_ok (Ok (falls (called s g.result s.written))) (call_fails world.notes note s g) x e2 (λ e6 e7.
      let q = both_none (both (needs RuleName.Level (is_lower world.notes note s g)) (needs RuleName.Thunk (all_made world.notes s)))
      (arguments (local_fields world.notes note) s.written g.params s.items) e7 in
      let r = both_none (needs RuleName.Level (is_lower world.notes note s g)) (needs RuleName.Thunk (all_made world.notes s)) q.0 in
      let h = number_found (λ (h : FnNote). h.place) world.notes.function z k e4 in
      record {
        number = k;
        callee = g;
        there = there;
        found = e4;
        is = h.is ∙ ap (λ (w : FnNote). pos w.place) (same_Some h.thing g (sym h.there ∙ there));
        other = eqb-false k world.notes.entry n;
        lower = needs_true RuleName.Level _ r.0;
        made = needs_true RuleName.Thunk _ r.1;
        args = q.1;
        falls_to = ok_same _ x e6;
      })))))

  -- ---- the callee entered

  module _ (k next : ℕ) where
    abbrev pub callee_frame : FunctionFrame
    callee_frame = record { func = k; ret = next; saved = a.registers; items = [] }

    abbrev pub entered : ℕ → Config
    entered p = record (inside a k next) { spot = Place p }

    entered_locals : (p e : ℕ) → locals_at (entered p).frames e ≡ (if nat_eq e (depth a.frames) then None else locals_at a.frames e)
    entered_locals p e = refl

    same_below : (p e : ℕ) → e < depth a.frames → locals_at (entered p).frames e ≡ locals_at a.frames e
    same_below p e l = ap (λ b. if b then None else locals_at a.frames e) (ne_eqb e (depth a.frames) (λ q. absurd (omega (arith, q, l))))

    pub entered_later : (p : ℕ) → LaterBelow (depth a.frames) (live_memory world a) (live_memory world (entered p))
    entered_later p = later_at world a (entered p) refl refl (depth a.frames) (same_below p)

    fewer : (p d : ℕ) (q : Shape) → locals_at (entered p).frames d ≡ Some q → locals_at a.frames d ≡ Some q
    fewer p d q e = unless_some (nat_eq d (depth a.frames)) _ q e (λ _ h. h)

    pub entered_sound : (p : ℕ) (g : FnNote) → slice_get world.notes.function k ≡ Some g → k ≢ world.notes.entry
        → is_lower world.notes note s g ≡ true → a.made ≡ length world.notes.thunk
        → arguments (local_fields world.notes note) s.written g.params s.items ≡ None → GoesWell world next
        → Sound world (entered p) (entry_state world.notes k)
    unfolding is_lower
    entered_sound p g there other lower made args well =
        let U = live_memory world a in
        let V = live_memory world (entered p) in
        let fr = top_keeps st in
        let passed = passed_params world st.typed in
        let up : LaterBelow (suc (depth fs)) U V = subst (λ z. LaterBelow (depth z) U V) st.frames (entered_later p) in
        let params = arguments_fit world.notes note (depth fs) U V s.written st.top.written
        (same_locals st) up f callee_frame g.params f.items s.items
        (λ j q h. passed k j g q there h) args st.top.items in
        let i = and_parts (nat_lt g.level note.level) (fits_need
        (items_size (locals_size world.notes note) s.items) g.need note.need) lower in
        let j = and_parts (not (nat_lt (at 4 note.need) (call_size 4 (items_size (locals_size world.notes note) s.items) g.need))) _ i.1 in
        let l4 = ltb-false _ _ (not-true _ j.0) in
        let l8 = ltb-false _ _ (not-true _ j.1) in
        let h4 = top_height st 4 in
        let h8 = top_height st 8 in
        let keeps : KeepsWithin (λ w. height w f.items + (return_cell + pair_at w g.need)) note =
        record { at4 = omega (arith, l4, h4); at8 = omega (arith, l8, h8) } in
        let belows : FrameBelow world V callee_frame g (Function f ∷ fs) = ((note, st.there, keeps), params.0, well) in
        record {
          top = record {
            registers = λ r l h. entry_fits V r l h;
            items = tt;
            written = λ x q. absurd (omega (arith, q));
            made_are = made ∙ sym (ap (λ b. if b then 0 else length world.notes.thunk) (ne_eqb k world.notes.entry other));
            fact = λ x e. absurd (none-some x e);
          };
          below = record {
            cells = cells_at world a (entered p) refl refl (fewer p) st.below.cells;
            frames = (
              (
                g,
                record { there = there; within = record { at4 = omega arith; at8 = omega arith }; slots = tt; thunks = inr made },
                subst (FrameBelow world V callee_frame g) (sym st.frames) belows,
              ),
              frames_kept world passed U V refl a.made a.frames (entered_later p) st.below.frames,
            );
            few = st.below.few;
          };
        }
      where
        entry_fits : (V : Memory) (r : ℕ) → 0 < r → r < 8 → Fits world.notes V (depth a.frames) a.registers
            (type_of (entry_state world.notes k) r) (a.registers r)
        entry_fits V r l h = after_call (λ q y. Fits world.notes V (depth a.frames) a.registers y (a.registers q)) Ty.Any (Ty.Saved 1)
            (Ty.Saved 2) (Ty.Saved 3) Ty.Any refl refl refl tt tt tt tt r l h

    -- the caller will fit the state after the call, once it is given its result
    pub caller_waits : (p : ℕ) (t : Ty) → IsReturned t → result_type_of world.notes k ≡ t
        → WillFit world.notes (live_memory world (entered p)) a.made (depth fs) f (called s t s.written) a.registers
        (GivenByCall world.notes k)
    caller_waits p t ret is = record {
      fits = λ V regs c later keeps given. fits V regs c later keeps
          (subst (λ y. FitsPlain world.notes V.objects y (regs 7)) is given);
    }
      where
        up : Later (depth fs) (live_memory world a) (live_memory world (entered p))
        up = below_later (depth fs) (live_memory world a) (live_memory world (entered p))
            (subst (λ z. LaterBelow (depth z) (live_memory world a) (live_memory world (entered p))) st.frames (entered_later p))

        fits : (V : Memory) (regs : Registers) (c : Bool) → Later (depth fs) (live_memory world (entered p)) V → Preserves a.registers regs
            → FitsPlain world.notes V.objects t (regs 7) → FitsState world.notes V (depth fs) f (called s t s.written) regs c a.made
        fits V regs c later keeps given =
            let l : Later (depth fs) (live_memory world a) V = later_trans (depth fs) (live_memory world a)
            (live_memory world (entered p)) V up later in
            let stay = fields_later world.notes (depth fs) (live_memory world a) V l in
            let old : (r : ℕ) → 0 < r → r < 4 → Fits world.notes V (depth fs) f.saved (type_of s r) (regs r) =
            λ r q b. subst (Fits world.notes V (depth fs) f.saved (type_of s r)) (sym (keeps r q b))
            (fits_later world.notes (depth fs) (live_memory world a) V stay f.saved (type_of s r) (a.registers r)
            (st.top.registers r q (omega (arith, b)))) in
            record {
              registers = λ r q b. after_call (λ i y. Fits world.notes V (depth fs) f.saved y (regs i)) (type_of s 0) (type_of s 1)
                  (type_of s 2) (type_of s 3) t
                  (old 1 (omega arith) (omega arith)) (old 2 (omega arith) (omega arith)) (old 3 (omega arith) (omega arith)) tt tt tt
                  ((returned_plain (view_at world.notes V (depth fs) f.saved) t (regs 7) ret).1 given) r q b;
              items = items_later world.notes (depth fs) (live_memory world a) V stay f f.items s.items st.top.items;
              written = λ x q. l.written (depth fs) x (omega arith) (st.top.written x q);
              made_are = st.top.made_are;
              fact = λ x e. absurd (none-some x e);
            }

  -- A call that its rule allows enters the function.
  pub call_fits : (site : Site) (far rel : Bool) (op : Operand) (extra : Extra) (x : Successors) → TargetFits far op extra
      → site.next % 2 ≡ 0 → (x.fall ≡ None) ⊎ (site.next < world.image_size)
      → rules_calls.call_row world.notes note (here_of site f.func) s far rel op extra ≡ Ok x
      → Accepts (λ (y : NeutralEnd × Config). (y.0 ≡ Next) × Enters world site x a f fs y.1)
      (call_row world a site rel (beside_extra op extra))
  unfolding call_row rules_calls.call_row rows.called number_at goes
  call_fits site far rel op extra x w even inside e =
      then_ok (target_of (here_of site f.func) far rel op extra) (call_to world.notes note s) x e (λ z e1 e2. go z e1 (call_allowed z x e2))
    where
      Goal : Outcome (NeutralEnd × Config) → Type 0
      Goal o = Accepts (λ (y : NeutralEnd × Config). (y.0 ≡ Next) × Enters world site x a f fs y.1) o

      go : (z : ℤ) → target_of (here_of site f.func) far rel op extra ≡ Ok z → CallAllowed z x
          → Goal (target_at a site rel (beside_extra op extra) >>= (λ p. aligned p >>= (λ to. or_stuck
          (function_at world.notes to) >>= (λ g. called_from world a site.next a.frames g) >>= (λ b. goes world b to))))
      go z e1 c =
          let code = st.typed.fits.code_inside c.number c.callee c.there in
          let size = st.typed.size in
          let l0 = code.0 in
          let l1 = code.1 in
          let small : c.callee.place < 2 ^ 64 = omega (arith, l0, l1, size) in
          let placed : c.callee.place < world.image_size = omega (arith, l0, l1) in
          let next_in : site.next < world.image_size = ⊎_elim (λ q. absurd
          (none-some _ (sym q ∙ ap (λ (y : Successors). y.fall) (sym c.falls_to)))) (λ q. q) inside in
          let made : a.made ≡ length world.notes.thunk = st.top.made_are ∙ eqb-true s.made (length world.notes.thunk) c.made in
          let U = live_memory world a in
          let passed = passed_params world st.typed in
          let up : LaterBelow (suc (depth fs)) U (live_memory world (entered c.number site.next c.callee.place)) =
          subst (λ q. LaterBelow (depth q) U (live_memory world (entered c.number site.next c.callee.place))) st.frames
          (entered_later c.number site.next c.callee.place) in
          let kinds = (arguments_fit world.notes note (depth fs) U
          (live_memory world (entered c.number site.next c.callee.place)) s.written st.top.written
          (same_locals st) up f (callee_frame c.number site.next) c.callee.params f.items s.items
          (λ j q h. passed c.number j c.callee q c.there h) c.args st.top.items).1 in
          let target = target_found st site f.func far rel op extra z c.callee.place w e1 c.is small in
          let aligned_to = aligned_is st c.callee.place code.2 in
          let found : function_at world.notes c.callee.place ≡ Some c.number =
          found_at c.callee.place c.number (ap (number_from (λ (g : FnNote). g.place) world.notes.function) (sym c.is) ∙ c.found) in
          let from_is : called_from world a site.next a.frames c.number ≡ Gives (inside_of c.number) =
          ap (λ q. called_from world a site.next q c.number) st.frames ∙ ap (λ b. if b then Gives (inside_of c.number) else Stuck)
          (and_from (params_match (slice_get world.notes.function c.number) f.items) (nat_lt site.next world.image_size)
          (ap (λ o. params_match o f.items) c.there ∙ kinds) (lt-ltb site.next world.image_size next_in)) in
          let ret = (st.typed.notes.functions c.number c.callee c.there).returned in
          let result_is : result_type_of world.notes c.number ≡ c.callee.result =
          ap (λ o. option_map_or (λ (g : FnNote). g.result) o Ty.Any) c.there in
          subst (λ o. Goal (o >>= (λ p. aligned p >>= (λ to. or_stuck
          (function_at world.notes to) >>= (λ g. called_from world a site.next a.frames g) >>= (λ b. goes world b to))))) (sym target)
          (subst (λ o. Goal (o >>= (λ to. or_stuck
          (function_at world.notes to) >>= (λ g. called_from world a site.next a.frames g) >>= (λ b. goes world b to)))) (sym aligned_to)
          (subst (λ o. Goal (or_stuck o >>= (λ g. called_from world a site.next a.frames g) >>= (λ b. goes world b c.callee.place)))
          (sym found) (subst (λ o. Goal (o >>= (λ b. goes world b c.callee.place))) (sym from_is)
          (gone c.number c.callee.place placed (record {
            callee = callee_frame c.number site.next;
            note = c.callee;
            there = c.there;
            spot = refl;
            frames = ap (λ q. Function (callee_frame c.number site.next) ∷ q) st.frames;
            ret = refl;
            saved = refl;
            thunks = made;
            sound = entered_sound c.number site.next c.callee.place c.callee c.there c.other c.lower made c.args (even, next_in);
            state = called s c.callee.result s.written;
            falls = ap (λ (y : Successors). y.fall) (sym c.falls_to);
            fresh = called_fresh s c.callee.result s.written (λ i. returned_unsaved c.callee.result i ret);
            waits = caller_waits c.number site.next c.callee.place c.callee.result ret result_is;
          })))))
        where
          inside_of : ℕ → Config
          inside_of k = rows.inside a k site.next

          found_at : (p k : ℕ) → number_from (λ (g : FnNote). g.place) world.notes.function (pos p) ≡ Some k
              → function_at world.notes p ≡ Some k
          found_at p k e = sym (ap (λ b. if b then function_at world.notes p else None) (le-leb 0 p (omega arith))) ∙ e

          gone : (k p : ℕ) → p < world.image_size → Enters world site x a f fs (entered k site.next p) → Goal (goes world (inside_of k) p)
          gone k p l h = subst (λ b. Goal ((if b then Gives (record (inside_of k) { spot = Place p })
              else Stuck) >>= (λ b. Gives (Next, b)))) (sym (lt-ltb p world.image_size l)) (refl, h)

  -- ---- RET

  module _ (empty : f.items ≡ []) where
    abbrev left_to : Config
    left_to = record a { frames = fs }

    left_locals : (e : ℕ) → e < depth fs → locals_at fs e ≡ locals_at a.frames e
    left_locals e l = sym (ap (λ b. if b then locals_among f.items else locals_at fs e)
        (ne_eqb e (depth fs) (λ q. absurd (omega (arith, q, l))))) ∙ ap (λ z. locals_at z e) (sym st.frames)

    fewer_left : (d : ℕ) (q : Shape) → locals_at fs d ≡ Some q → locals_at a.frames d ≡ Some q
    fewer_left d q e = go (nat_lt d (depth fs)) refl
      where
        go : (b : Bool) → nat_lt d (depth fs) ≡ b → locals_at a.frames d ≡ Some q
        go true h = sym (left_locals d (ltb-true d (depth fs) h)) ∙ e
        go false h = absurd (none-some q (sym (no_locals fs d (ltb-false d (depth fs) h)) ∙ e))

    left_later : LaterBelow (depth fs) (live_memory world a) (live_memory world left_to)
    left_later = later_at world a left_to refl refl (depth fs) left_locals

    -- what is left is sound
    left_sound : SoundBelow world left_to
    left_sound = record {
      cells = cells_at world a left_to refl refl fewer_left st.below.cells;
      frames = frames_kept world (passed_params world st.typed) (live_memory world a) (live_memory world left_to) refl a.made fs left_later
          (top_keeps st).2;
      few = few_hosts st;
    }

  entry_value : (r i : ℕ) (t : Ty) → is_entry_value r t ≡ true → FitsHere st t (a.registers r) → a.registers r ≡ f.saved r
  entry_value r i (Ty.Saved j) e h = h ∙ ap f.saved (eqb-true j r e)
  entry_value r i t e h = absurd (false≢true e)

  -- A return that its rule allows goes back, with the function's result.
  pub return_fits : (site : Site) (x : Successors) → rules_calls.return_row note s ≡ Ok x
      → Accepts (λ (y : NeutralEnd × Config). (y.0 ≡ Next) × Returns world a f fs y.1) (return_row world a a.frames)
  unfolding return_row rules_calls.return_row may_return goes
  return_fits site x e = when_ok (nat_eq (length s.items) 0 && (is_saved s 1
      && (is_saved s 2 && (is_saved s 3 && is_below (type_of s 7) note.result)))) _ _ x e (λ q _.
      let p1 = and_parts (nat_eq (length s.items) 0) _ q in
      let p2 = and_parts (is_saved s 1) _ p1.1 in
      let p3 = and_parts (is_saved s 2) _ p2.1 in
      let p4 = and_parts (is_saved s 3) _ p3.1 in
      let empty = no_items f.items s.items (eqb-true (length s.items) 0 p1.0) st.top.items in
      subst (λ z. Goal (return_row world a z)) (sym st.frames) (subst (λ z. Goal (returned_from world a f z fs)) (sym empty)
      (back empty (kept p2.0 p3.0 p4.0) (given p4.1) fs refl (top_keeps st).1)))
    where
      Goal : Outcome (NeutralEnd × Config) → Type 0
      Goal o = Accepts (λ (y : NeutralEnd × Config). (y.0 ≡ Next) × Returns world a f fs y.1) o

      no_items : (is : List StackItem) (xs : List Item) → length xs ≡ 0
          → AllZip (ItemFits world.notes (live_memory world a) (depth fs) f) is xs → is ≡ []
      no_items [] xs h z = refl
      no_items (i ∷ is) [] h z = absurd z
      no_items (i ∷ is) (y ∷ ys) h z = absurd (omega (arith, h))

      kept : is_saved s 1 ≡ true → is_saved s 2 ≡ true → is_saved s 3 ≡ true → Preserves f.saved a.registers
      kept e1 e2 e3 zero l h = absurd (omega (arith, l))
      kept e1 e2 e3 (suc zero) l h = entry_value 1 1 (type_of s 1) e1 (st.top.registers 1 (omega arith) (omega arith))
      kept e1 e2 e3 (suc (suc zero)) l h = entry_value 2 2 (type_of s 2) e2 (st.top.registers 2 (omega arith) (omega arith))
      kept e1 e2 e3 (suc (suc (suc zero))) l h = entry_value 3 3 (type_of s 3) e3 (st.top.registers 3 (omega arith) (omega arith))
      kept e1 e2 e3 (suc (suc (suc (suc r)))) l h = absurd (omega (arith, h))

      given : is_below (type_of s 7) note.result ≡ true → FitsPlain world.notes (live_memory world a).objects
          (result_type_of world.notes f.func) (a.registers 7)
      given e =
          let h = fits_below (seen st) (type_of s 7) note.result (a.registers 7)
          ((is_below_exact (type_of s 7) note.result).0 e) (st.top.registers 7 (omega arith) (omega arith)) in
          let ret = (st.typed.notes.functions f.func note st.there).returned in
          subst (λ t. FitsPlain world.notes (live_memory world a).objects t (a.registers 7))
          (sym (ap (λ o. option_map_or (λ (g : FnNote). g.result) o Ty.Any) st.there))
          ((returned_plain (seen st) note.result (a.registers 7) ret).0 h)

      spotted : (p : Spot) → SoundBelow world (record a { frames = fs }) → SoundBelow world (record a { spot = p; frames = fs })
      spotted p h = record { cells = h.cells; frames = h.frames; few = h.few }

      back : (empty : f.items ≡ []) → Preserves f.saved a.registers
          → FitsPlain world.notes (live_memory world a).objects (result_type_of world.notes f.func) (a.registers 7) → (gs : List Frame)
          → fs ≡ gs → FrameBelow world (live_memory world a) f note gs → Goal (returned_to world a f gs)
      back empty k g [] q b = absurd b
      back empty k g (Host h ∷ gs) q b = (
        refl,
        record {
          frames = sym q;
          back = subst (λ z. GoesBack f z (record a { spot = Gate; frames = Host h ∷ gs })) (sym q) refl;
          kept = k;
          given = g;
          sound = subst (λ z. SoundBelow world (record a { spot = Gate; frames = z })) q (spotted Gate (left_sound empty));
        },
      )
      back empty k g (Function h ∷ gs) q b =
          subst (λ o. Goal (o >>= (λ to. goes world (record a { frames = Function h ∷ gs }) to))) (sym (aligned_is st f.ret b.2.0))
          (subst (λ c. Goal ((if c then Gives (record a { spot = Place f.ret; frames = Function h ∷ gs })
          else Stuck) >>= (λ b. Gives (Next, b)))) (sym (lt-ltb f.ret world.image_size b.2.1)) (
            refl,
            record {
              frames = sym q;
              back = subst (λ z. GoesBack f z (record a { spot = Place f.ret; frames = Function h ∷ gs })) (sym q) refl;
              kept = k;
              given = g;
              sound = subst (λ z. SoundBelow world (record a { spot = Place f.ret; frames = z })) q
                  (spotted (Place f.ret) (left_sound empty));
            },
          ))
