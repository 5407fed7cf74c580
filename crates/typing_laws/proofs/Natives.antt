-- The rows of CALLEX and of BREAK 5.
use Rattle.typing_laws.proofs.Common.{◌≡◌, ◌≢◌, ℕ, suc, ◌+◌, ◌<◌, ◌⊎◌, Bool, true, false, ◌&&◌, if◌then◌else◌, nat_eq, nat_lt, position}
use Rattle.typing_laws.proofs.Common.{List, [], ◌∷◌, length, Option, Some, None, IfSome, Ok, slice_get, refl, sym, ap, ap₂, ◌∙◌, subst}
use Rattle.typing_laws.proofs.Common.{arith, inl, inr, ⊎_elim, find, position_or_len, and_from, and_parts, eqb-true, eqb-false, eq-eqb}
use Rattle.typing_laws.proofs.Common.{lt-ltb, ltb-true, false≢true, find_at, same_Some, none-some, or_else, Extra, Nothing, Imm, Idx}
use Rattle.typing_laws.proofs.Common.{Operand, local_fields, type_of, FnNote, Notes, WantParam, RuleName, State, Ty, load_at}
use Rattle.typing_laws.proofs.Common.{extra_distance, both, needs, and_then, all_lent_out, native_arguments, all_made, is_at, number_at}
use Rattle.typing_laws.proofs.Common.{falls, Successors, beside_extra, extra_pair, loaded_by, moved_by, NeutralEnd, Native, MakeThunk, Site}
use Rattle.typing_laws.proofs.Common.{Registers, FunctionFrame, Frame, Function, Host, Config, depth, Fits, FitsState, Move, Memory}
use Rattle.typing_laws.proofs.Common.{AreWritten, kept_natural, Outcome, Gives, Stuck, ◌>>=◌, or_stuck, Neutral, At, Method, ThunkOf, null}
use Rattle.typing_laws.proofs.Common.{World, Accepts, OutsWritten, Later, Preserves, WillFit, live_memory, Asks, Makes, here_of, FramesKeep}
use Rattle.typing_laws.proofs.Common.{Sound, TopFits, fields_later, fits_later, items_later, RuleAccess, Size, bit_or}
use Rattle.std.specs.Option.{option_map}
use Rattle.note_types.specs.{Passing.IsGiven, Records.IsResultNote}
use Rattle.note_types.specs.declared.{notes.Signature.Signature, notes.Site.Site as SiteNote, spot.Spot.TheVariants.Place}
use Rattle.rules_flow.specs.Calls.{break_row, callee_method, direct_method, is_next_thunk, loaded_method, method_of, native_call}
use Rattle.rules_flow.specs.Calls.{native_called, of_method, result_type, signature_at, site_at, with_thunk, written_after}
use Rattle.neutral_machine.specs.{Rows.at_place, Rows.base_at, Rows.call_native_row, Rows.native_target, NeutralHost.next_thunk}
use Rattle.host_model.specs.HostPlans.{site_of}
use Rattle.invariant_laws.specs.{Asked.GivenByNative, Asked.GivenByType, Sound.ThunksFor}
use Rattle.typing_laws.proofs.Operands.{load_fits, register_fits, some_ok, then_ok}
use Rattle.typing_laws.proofs.Rows.{then_some, err_ok, ok_same, needs_true, either_ok, unless_ok, when_ok, when_some}
use Rattle.typing_laws.proofs.{ArgumentsPass.both_none, ArithRow.BesideFits, ArithRow.also_ok, Calls.after_call, Calls.called_fresh}
use Rattle.typing_laws.proofs.{CompareRow.either_field, Context.TopSound, Context.same_locals, Context.FitsHere, ItemsChanged.top_keeps}
use Rattle.typing_laws.proofs.{NativeArguments.Handed, NativeArguments.arguments_handed}
use Rattle.rules_flow.specs.Calls as rules_calls
use Rattle.neutral_machine.specs.Rows as rows

-- ---- sites and signatures

-- what is found by its number is found
position_found : {A : Type 0} (p : A → Bool) (xs : List A) (k : ℕ) → position p xs ≡ Some k → find p xs ≡ slice_get xs k
position_found p xs k e = find_at p xs ∙ ap (slice_get xs)
    (when_some (nat_lt (position_or_len p xs) (length xs)) _ k e (λ _ g. same_Some (position_or_len p xs) k g))

-- the site at a place, and its signature
pub record SignatureFound (notes : Notes) (place m : ℕ) (g : Signature) : Type 0 where
  pub number : ℕ
  pub site : site_of notes place ≡ Some number
  pub there : slice_get notes.signature number ≡ Some g
  pub method : g.method ≡ m

signature_found : (notes : Notes) (place m : ℕ) (g : Signature) → signature_at notes place m ≡ Some g → SignatureFound notes place m g
unfolding signature_at site_at number_at site_of
signature_found notes place m g e =
    then_some (and_then (and_then (position (is_at (λ (x : SiteNote). x.place) place) notes.site) (slice_get notes.site))
    (λ (x : SiteNote). slice_get notes.signature x.signature)) (of_method m) g e (λ h e1 e2.
    then_some (and_then (position (is_at (λ (x : SiteNote). x.place) place) notes.site) (slice_get notes.site))
    (λ (x : SiteNote). slice_get notes.signature x.signature) h e1 (λ x e3 e4.
    then_some (position (is_at (λ (x : SiteNote). x.place) place) notes.site) (slice_get notes.site) x e3 (λ k e5 e6.
    let r = by_method h (nat_eq h.method m) refl e2 in
    record {
      number = x.signature;
      site = ap (option_map (λ (s : SiteNote). s.signature)) (position_found (is_at (λ (x : SiteNote). x.place) place) notes.site k e5
          ∙ e6);
      there = e4 ∙ ap Some r.1;
      method = ap (λ (y : Signature). y.method) (sym r.1) ∙ r.0;
    })))
  where
    by_method : (h : Signature) (b : Bool) → nat_eq h.method m ≡ b → (if b then Some h else None) ≡ Some g → (h.method ≡ m) × (h ≡ g)
    by_method h true q e = (eqb-true h.method m q, same_Some h g e)
    by_method h false q e = absurd (none-some g e)

-- ---- results of native methods

result_unsaved : (o : Option Ty) (lent i : ℕ) → ((t : Ty) → o ≡ Some t → IsGiven t) → result_type o lent ≢ Ty.Saved i
result_unsaved (Some Ty.Any) lent i h = λ e. absurd (h Ty.Any refl)
result_unsaved (Some (Ty.Saved q)) lent i h = λ e. absurd (h (Ty.Saved q) refl)
result_unsaved o lent i h = λ e. absurd cc

both_written : (V : Memory) (d x y : ℕ) → AreWritten V d x → AreWritten V d y → AreWritten V d (bit_or x y)
both_written V d x y h k f q = ⊎_elim (λ e. h f e) (λ e. k f e) (either_field x y f q)

-- what a native call gives fits the result's type, and says which fields are written
given_fits : (notes : Notes) (V : Memory) (d : ℕ) (saved : Registers) (ps : List WantParam) (vs : List Neutral) (o : Option Ty)
    (written lent : ℕ) (v : Neutral) → ((t : Ty) → o ≡ Some t → IsGiven t) → (OutsWritten V ps vs → AreWritten V d lent)
    → AreWritten V d written → GivenByType notes ps vs V v o
    → Fits notes V d saved (result_type o lent) v × AreWritten V d (written_after o written lent)
given_fits notes V d saved ps vs None written lent v g out w h = (tt, both_written V d written lent w (out h))
given_fits notes V d saved ps vs (Some (Ty.Status k)) written lent v g out w h = (⊎_elim (λ e. inl e) (λ s. inr (s.0, out s.1)) h, w)
given_fits notes V d saved ps vs (Some (Ty.Int lo hi div)) written lent v g out w h = (h.0, both_written V d written lent w (out h.1))
given_fits notes V d saved ps vs (Some (Ty.Ptr s k n c may)) written lent v g out w h = (h.0, both_written V d written lent w (out h.1))
given_fits notes V d saved ps vs (Some Ty.Handle) written lent v g out w h = (h.0, both_written V d written lent w (out h.1))
given_fits notes V d saved ps vs (Some t) written lent v g out w h = absurd (g t refl)

module _ {world : World} {a : Config} {f : FunctionFrame} {fs : List Frame} {note : FnNote} {s : State}
    (st : TopSound world a f fs note s) where
  spotted : ℕ → Config
  spotted p = record a { spot = Place p }

  -- the frame will fit the state after the call, once it is given what a native call gives
  native_waits : (p : ℕ) (g : Signature) (h : Handed world.notes note (depth fs) (live_memory world a) s.written st.top.written
      (same_locals st) f g.params f.items s.items) → ((t : Ty) → g.result ≡ Some t → IsGiven t)
      → WillFit world.notes (live_memory world a) a.made (depth fs) f (native_called s g.result (all_lent_out g.params s.items)) a.registers
      (GivenByNative world.notes g h.args)
  native_waits p g h good = record { fits = fits }
    where
      fits : (V : Memory) (regs : Registers) (c : Bool) → Later (depth fs) (live_memory world a) V → Preserves a.registers regs
          → GivenByNative world.notes g h.args V (regs 7) → FitsState world.notes V (depth fs) f
          (native_called s g.result (all_lent_out g.params s.items)) regs c a.made
      fits V regs c l keeps given =
          let stay = fields_later world.notes (depth fs) (live_memory world a) V l in
          let old : (r : ℕ) → 0 < r → r < 4 → Fits world.notes V (depth fs) f.saved (type_of s r) (regs r) =
          λ r q b. subst (Fits world.notes V (depth fs) f.saved (type_of s r)) (sym (keeps r q b))
          (fits_later world.notes (depth fs) (live_memory world a) V stay f.saved (type_of s r) (a.registers r)
          (st.top.registers r q (omega (arith, b)))) in
          let was : AreWritten V (depth fs) s.written = λ x q. l.written (depth fs) x (omega arith) (st.top.written x q) in
          let r = given_fits world.notes V (depth fs) f.saved g.params h.args g.result s.written (all_lent_out g.params s.items)
          (regs 7) good (h.lent V) was given in
          record {
            registers = λ q i b. after_call (λ j y. Fits world.notes V (depth fs) f.saved y (regs j)) (type_of s 0) (type_of s 1)
                (type_of s 2) (type_of s 3) (result_type g.result (all_lent_out g.params s.items))
                (old 1 (omega arith) (omega arith)) (old 2 (omega arith) (omega arith))
                (old 3 (omega arith) (omega arith)) tt tt tt r.0 q i b;
            items = items_later world.notes (depth fs) (live_memory world a) V stay f f.items s.items st.top.items;
            written = r.1;
            made_are = st.top.made_are;
            fact = λ x e. absurd (none-some x e);
          }

  -- ---- the target

  method_is : (t : Ty) (m : ℕ) → method_of t ≡ Ok m → t ≡ Ty.Method m
  method_is (Ty.Method k) m e = ap Ty.Method (ok_same k m e)
  method_is t m e = absurd (err_ok RuleName.Form m e)

  -- the target is the method that the rules find
  target_is : (far rel : Bool) (op : Operand) (extra : Extra) (m : ℕ) → BesideFits op extra
      → callee_method world.notes note s far rel op extra ≡ Ok m → (rel ≡ false)
      × (native_target world a (beside_extra op extra) ≡ Gives (Method m))
  unfolding callee_method kept_natural
  target_is true rel op extra m b e = absurd (err_ok RuleName.Form m e)
  target_is false true op extra m b e = absurd (err_ok RuleName.Form m e)
  target_is false false op extra m b e = (
    refl,
    unless_ok (nat_eq op.reg 0) _ _ m e (λ z e0. either_ok op.indirect _ _ m e0
        (λ g e1. then_ok (load_at world.notes note s RuleAccess.Natural op.reg (extra_distance extra)) loaded_method m e1 (λ t e2 e3.
        when_ok t.made _ _ m e3 (λ q e4.
        let n = b.memory g in
        let r = load_fits st (Move Size.Natural) op.reg (extra_pair extra) (extra_distance extra) t b.register n.0 n.1 e2 q in
        ap₂ whole g z ∙ r.loaded ∙ ap Gives (subst (λ y. FitsHere st y r.value) (method_is t.ty m e4) r.fits))))
        (λ g e1. direct extra g z e1)),
  )
    where
      whole : Bool → Bool → Outcome Neutral
      whole i z = if i then (if z then Stuck else loaded_by world a (Move Size.Natural) op.reg (extra_pair extra))
          else Gives (kept_natural world.notes (live_memory world a).objects (moved_by (base_at a op.reg) (extra_pair extra)))

      direct : (extra : Extra) → op.indirect ≡ false → nat_eq op.reg 0 ≡ false → direct_method s op.reg extra ≡ Ok m
          → (if op.indirect then (if nat_eq op.reg 0 then Stuck else loaded_by world a (Move Size.Natural) op.reg (extra_pair extra))
          else Gives (kept_natural world.notes (live_memory world a).objects (moved_by (base_at a op.reg) (extra_pair extra)))) ≡ Gives
          (Method m)
      direct Nothing g z e =
          let v : a.registers op.reg ≡ Method m = subst (λ y. FitsHere st y (a.registers op.reg)) (method_is (type_of s op.reg) m e)
          (register_fits st op.reg (eqb-false op.reg 0 z) b.register) in
          ap (λ i. if i then (if nat_eq op.reg 0 then Stuck else loaded_by world a (Move Size.Natural) op.reg None)
          else Gives (kept_natural world.notes (live_memory world a).objects (base_at a op.reg))) g
          ∙ ap (λ i. Gives (kept_natural world.notes (live_memory world a).objects (if i then null else a.registers op.reg))) z
          ∙ ap (λ x. Gives (kept_natural world.notes (live_memory world a).objects x)) v
      direct (Imm v) g z e = absurd (err_ok RuleName.Form m e)
      direct (Idx i) g z e = absurd (err_ok RuleName.Form m e)

  -- ---- CALLEX

  pub native_fits : (site : Site) (far rel : Bool) (op : Operand) (extra : Extra) (x : Successors) → BesideFits op extra → (x.fall ≡ None)
      ⊎ (site.next < world.image_size) → rules_calls.call_native_row world.notes note (here_of site f.func) s far rel op extra ≡ Ok x
      → Accepts (λ (y : NeutralEnd × Config). (v : Neutral) × (y.0 ≡ Native v) × Asks world site x a f fs v y.1)
      (call_native_row world a site.next rel (beside_extra op extra))
  unfolding call_native_row rules_calls.call_native_row native_call spotted
  native_fits site far rel op extra x b inside e =
      then_ok (callee_method world.notes note s far rel op extra) _ x e (λ m e1 e2.
      then_ok (or_else RuleName.Site (signature_at world.notes site.place m)) (native_call world.notes note s) x e2 (λ g e3 e4.
      some_ok RuleName.Site (signature_at world.notes site.place m) g e3 (λ e5.
      also_ok (Ok (falls (native_called s g.result (all_lent_out g.params s.items))))
      (both (needs RuleName.Thunk (all_made world.notes s)) (native_arguments
      (local_fields world.notes note) s.written g.params s.items)) x e4 (λ e6 e7.
      let q = both_none (needs RuleName.Thunk (all_made world.notes s))
      (native_arguments (local_fields world.notes note) s.written g.params s.items) e7 in
      goal m g (target_is far rel op extra m b e1) (signature_found world.notes site.place m g e5) (needs_true RuleName.Thunk _ q.0) q.1
      (ok_same _ x e6)))))
    where
      Goal : Outcome (NeutralEnd × Config) → Type 0
      Goal o = Accepts (λ (y : NeutralEnd × Config). (v : Neutral) × (y.0 ≡ Native v) × Asks world site x a f fs v y.1) o

      goal : (m : ℕ) (g : Signature) → (rel ≡ false) × (native_target world a (beside_extra op extra) ≡ Gives (Method m))
          → SignatureFound world.notes site.place m g → all_made world.notes s ≡ true
          → native_arguments (local_fields world.notes note) s.written g.params s.items ≡ None
          → falls (native_called s g.result (all_lent_out g.params s.items)) ≡ x → Goal (if rel then Stuck else (native_target world a
          (beside_extra op extra) >>= (λ v. at_place world a site.next >>= (λ b. Gives (Native v, b)))))
      goal m g t found made args out =
          let sig = st.typed.notes.signatures found.number g found.there in
          let h = arguments_handed world.notes note (depth fs) (live_memory world a) s.written st.top.written
          (same_locals st) f g.params f.items s.items sig.params st.state.slots (top_keeps st).0.slots args st.top.items in
          let good : (t : Ty) → g.result ≡ Some t → IsGiven t = λ t q. result_given g.result sig_result t q in
          let next_in : site.next < world.image_size = ⊎_elim (λ q. absurd
          (none-some _ (sym q ∙ ap (λ (y : Successors). y.fall) (sym out)))) (λ q. q) inside in
          subst (λ i. Goal (if i then Stuck else (native_target world a
          (beside_extra op extra) >>= (λ v. at_place world a site.next >>= (λ b. Gives (Native v, b)))))) (sym t.0)
          (subst (λ o. Goal (o >>= (λ v. at_place world a site.next >>= (λ b. Gives (Native v, b))))) (sym t.1)
          (subst (λ i. Goal ((if i then Gives (spotted site.next) else Stuck) >>= (λ b. Gives (Native (Method m), b))))
          (sym (lt-ltb site.next world.image_size next_in)) (
            Method m,
            refl,
            record {
              spot = refl;
              frames = st.frames;
              number = found.number;
              site = found.site;
              signature = g;
              there = found.there;
              method = ap Method (sym found.method);
              args = h.args;
              args_are = h.args_are;
              args_fit = h.fit;
              thunks = st.top.made_are ∙ eqb-true s.made (length world.notes.thunk) made;
              sound = record { cells = st.below.cells; frames = st.below.frames; few = st.below.few };
              state = native_called s g.result (all_lent_out g.params s.items);
              falls = ap (λ (y : Successors). y.fall) (sym out);
              fresh = called_fresh s (result_type g.result (all_lent_out g.params s.items))
                  (written_after g.result s.written (all_lent_out g.params s.items))
                  (λ i. result_unsaved g.result (all_lent_out g.params s.items) i good);
              waits = native_waits site.next g h good;
            },
          )))
        where
          sig_result : IfSome g.result (IsResultNote world.notes)
          sig_result = (st.typed.notes.signatures found.number g found.there).result

          result_given : (o : Option Ty) → IfSome o (IsResultNote world.notes) → (t : Ty) → o ≡ Some t → IsGiven t
          result_given None h t e = absurd (none-some t e)
          result_given (Some u) h t e = subst IsGiven (same_Some u t e) h.given

  -- ---- BREAK 5

  thunks_more : (func : ℕ) → a.made < length world.notes.thunk → ThunksFor world.notes a.made func → ThunksFor world.notes (suc a.made) func
  thunks_more func l (inl e) = inl e
  thunks_more func l (inr e) = absurd (omega (arith, l, e))

  frames_more : (m : Memory) (gs : List Frame) → a.made < length world.notes.thunk → FramesKeep world m a.made gs
      → FramesKeep world m (suc a.made) gs
  frames_more m [] l h = tt
  frames_more m (Host t ∷ gs) l h = (h.0, frames_more m gs l h.1)
  frames_more m (Function t ∷ gs) l h = (
    (
      h.0.0,
      record { there = h.0.1.there; within = h.0.1.within; slots = h.0.1.slots; thunks = thunks_more t.func l h.0.1.thunks },
      h.0.2,
    ),
    frames_more m gs l h.1,
  )

  one_more : ℕ → Config
  one_more p = record a { spot = Place p; made = suc a.made }

  thunk_sound : (p : ℕ) → a.made < length world.notes.thunk → Sound world (one_more p) (with_thunk s)
  unfolding one_more
  thunk_sound p l = record {
    top = subst (λ z. TopFits world (one_more p) z (with_thunk s)) (sym st.frames) (record {
      registers = st.top.registers;
      items = st.top.items;
      written = st.top.written;
      made_are = (let e = st.top.made_are in let q : suc a.made ≡ s.made + 1 = omega (arith, e) in q);
      fact = st.top.fact;
    });
    below = record { cells = st.below.cells; frames = frames_more (live_memory world a) a.frames l st.below.frames; few = st.below.few };
  }

  pub break_fits : (site : Site) (code : ℕ) (x : Successors) → (x.fall ≡ None) ⊎ (site.next < world.image_size)
      → break_row world.notes s code ≡ Ok x
      → Accepts (λ (y : NeutralEnd × Config). (n : ℕ) × (y.0 ≡ MakeThunk n) × Makes world site x a f fs n y.1)
      (rows.break_row world a site.next code)
  unfolding break_row rows.break_row spotted one_more
  break_fits site code x inside e = when_ok (nat_eq code 5) _ _ x e (λ q e1.
      subst (λ c. Goal (rows.break_row world a site.next c)) (sym (eqb-true code 5 q))
      (when_ok (is_next_thunk world.notes s (type_of s 7)) _ _ x e1 (λ t e2. thunk (type_of s 7) refl t (ok_same _ x e2))))
    where
      Goal : Outcome (NeutralEnd × Config) → Type 0
      Goal o = Accepts (λ (y : NeutralEnd × Config). (n : ℕ) × (y.0 ≡ MakeThunk n) × Makes world site x a f fs n y.1) o

      made : (i : ℕ) → type_of s 7 ≡ Ty.ThunkAt i → (nat_eq i s.made && nat_lt i (length world.notes.thunk)) ≡ true
          → falls (with_thunk s) ≡ x → Goal (rows.break_row world a site.next 5)
      made i t q out =
          let p = and_parts (nat_eq i s.made) (nat_lt i (length world.notes.thunk)) q in
          let e1 : i ≡ a.made = eqb-true i s.made p.0 ∙ sym st.top.made_are in
          let l : a.made < length world.notes.thunk = (let y = ltb-true i (length world.notes.thunk) p.1 in omega (arith, y, e1)) in
          let v : a.registers 7 ≡ At (ThunkOf i) 0 0 = subst (λ y. FitsHere st y
          (a.registers 7)) t (st.top.registers 7 (omega arith) (omega arith)) in
          let next_in : site.next < world.image_size = ⊎_elim (λ q. absurd
          (none-some _ (sym q ∙ ap (λ (y : Successors). y.fall) (sym out)))) (λ q. q) inside in
          subst (λ o. Goal (or_stuck o >>= (λ i. at_place world a site.next >>= (λ b. Gives (MakeThunk i, b)))))
          (sym (ap (next_thunk a) v ∙ ap (λ b. if b then Some i else None)
          (and_from (nat_eq i a.made) (nat_eq 0 0 && nat_eq 0 0) (eq-eqb i a.made e1) refl)))
          (subst (λ b. Goal ((if b then Gives (spotted site.next) else Stuck) >>= (λ b. Gives (MakeThunk i, b))))
          (sym (lt-ltb site.next world.image_size next_in)) (
            i,
            refl,
            record {
              spot = refl;
              frames = st.frames;
              named = v;
              next = e1;
              there = (let e2 = e1 in omega (arith, l, e2));
              state = with_thunk s;
              falls = ap (λ (y : Successors). y.fall) (sym out);
              sound = thunk_sound site.next l;
            },
          ))

      thunk : (t : Ty) → type_of s 7 ≡ t → is_next_thunk world.notes s t ≡ true → falls (with_thunk s) ≡ x
          → Goal (rows.break_row world a site.next 5)
      thunk (Ty.ThunkAt i) h q out = made i h q out
      thunk t h q out = absurd (false≢true q)
