-- The locals of a frame are dropped: no value is an address of them any more, and what fits goes on to fit, but for what says
-- something of them.
use Rattle.typing_laws.proofs.Common.{◌≡◌, ◌≢◌, ℕ, zero, suc, ◌+◌, ◌*◌, ◌%◌, ◌<◌, ◌≤◌, Bool, true, false, if◌then◌else◌, nat_eq, List, []}
use Rattle.typing_laws.proofs.Common.{◌∷◌, map, take, length, Some, slice_get, refl, sym, ap, ◌∙◌, subst, arith, inl, inr, ⊎_elim, AllZip}
use Rattle.typing_laws.proofs.Common.{ne_eqb, IsPassed, FnNote, Notes, Param, Ty, frame_without, item_without, registers_without}
use Rattle.typing_laws.proofs.Common.{without_local, Registers, StackItem, Pushed, LocalsOf, FunctionFrame, Frame, Function, Host, depth}
use Rattle.typing_laws.proofs.Common.{hosts, IsNumber, IsPointer, OrNull, FitsPlain, Fits, height, Memory, AreWritten, kept_natural}
use Rattle.typing_laws.proofs.Common.{pair_at, return_cell, Neutral, At, Num, Method, Error, SignedError, Junk, ThunkOf, LocalOf, number}
use Rattle.typing_laws.proofs.Common.{null, pair, World, TypedObject, FrameBelow, FrameKeeps, FramesKeep, KeepsWithin, ParamFits, ParamKind}
use Rattle.typing_laws.proofs.Common.{SlotsKept, depth_map, SlotKind, cond_both}
use Rattle.rules_flow.specs.Frames.{forgotten}
use Rattle.neutral_machine.specs.Fits.{IsMultiple, IsSuccess, IsError, IsSignedError, IsHandle, IsEntry}
use Rattle.neutral_machine.specs.Layout.{item_size}
use Rattle.host_model.specs.Values.{Handle, Entry, mask}
use Rattle.invariant_laws.specs.Sound.{ParamsFit}
use Rattle.typing_laws.proofs.LiveCells.{LaterBelow, ParamsPassed, below_down, passed_up}
use Rattle.neutral_machine.proofs.Drops.{stays}

-- ---- frames, their items and locals

pub hosts_without : (e : ℕ) (fs : List Frame) → length (hosts (map (frame_without e) fs)) ≡ length (hosts fs)
hosts_without e [] = refl
hosts_without e (Function f ∷ fs) = hosts_without e fs
hosts_without e (Host h ∷ fs) = ap suc (hosts_without e fs)

pub height_without : (e w : ℕ) (is : List StackItem) → height w (map (item_without e) is) ≡ height w is
height_without e w [] = refl
height_without e w (Pushed kind v ∷ is) = ap (λ x. item_size w (Pushed kind v) + x) (height_without e w is)
height_without e w (LocalsOf s ∷ is) = ap (λ x. item_size w (LocalsOf s) + x) (height_without e w is)

take_map : {A B : Type 0} (g : A → B) (n : ℕ) (xs : List A) → take n (map g xs) ≡ map g (take n xs)
take_map g zero xs = refl
take_map g (suc n) [] = refl
take_map g (suc n) (x ∷ xs) = ap (λ ys. g x ∷ ys) (take_map g n xs)

-- ---- values

-- what natural size keeps it keeps without an address of locals
kept_without : (notes : Notes) (os : List TypedObject) (e : ℕ) (v : Neutral) → kept_natural notes os v ≡ v
    → kept_natural notes os (without_local e v) ≡ without_local e v
unfolding kept_natural
kept_without notes os e (At (LocalOf d f) n c) h =
    cond_both (nat_eq d e) Junk (At (LocalOf d f) n c) (λ z. kept_natural notes os z ≡ z) (λ _. refl) (λ _. h)
kept_without notes os e v h = h

pub slots_without : (notes : Notes) (os : List TypedObject) (e : ℕ) (is : List StackItem) → SlotsKept notes os is
    → SlotsKept notes os (map (item_without e) is)
slots_without notes os e [] h = tt
slots_without notes os e (Pushed SlotKind.N v ∷ is) h = (kept_without notes os e v h.0, slots_without notes os e is h.1)
slots_without notes os e (Pushed SlotKind.Q v ∷ is) h = slots_without notes os e is h
slots_without notes os e (Pushed SlotKind.D v ∷ is) h = slots_without notes os e is h
slots_without notes os e (LocalsOf s ∷ is) h = slots_without notes os e is h

local_stays : (e d f n c : ℕ) → d ≢ e → without_local e (At (LocalOf d f) n c) ≡ At (LocalOf d f) n c
local_stays e d f n c l = ap (λ b. if b then Junk else At (LocalOf d f) n c) (ne_eqb d e l)

-- ---- types

or_null_without : (e : ℕ) (may : Bool) (v : Neutral) (P : Neutral → Type 0) → (P v → without_local e v ≡ v) → OrNull may v (P v)
    → OrNull may (without_local e v) (P (without_local e v))
or_null_without e true v P f h = ⊎_elim (λ p. inl (subst P (sym (f p)) p)) (λ q. inr (stays e v null refl q ∙ q)) h
or_null_without e false v P f h = subst P (sym (f h)) h

pub plain_without : (notes : Notes) (os : List TypedObject) (e : ℕ) (t : Ty) (v : Neutral) → FitsPlain notes os t v
    → FitsPlain notes os t (without_local e v)
plain_without notes os e Ty.Any v h = tt
plain_without notes os e (Ty.Int lo hi div) v h = subst (IsNumber lo hi div) (sym (stays e v (number h.x) refl h.is)) h
plain_without notes os e (Ty.Lin n c) v h = stays e v (pair n c) refl h ∙ h
plain_without notes os e (Ty.Scaled n c hi) v h = subst (IsMultiple n c hi) (sym (stays e v (Num (h.i * n) (h.i * c)) refl h.is)) h
plain_without notes os e (Ty.Ptr s k n c may) v h = or_null_without e may v (IsPointer notes os s k n c) (λ p. stays e v _ refl p.is) h
plain_without notes os e (Ty.Status g) v h = ⊎_elim (λ p. inl (subst IsError (sym (stays e v (Error p.code) refl p.is)) p))
    (λ q. inr (subst IsSuccess (sym (stays e v (number q.code) refl q.is)) q)) h
plain_without notes os e (Ty.SignedStatus g) v h = ⊎_elim (λ p. inl
    (subst IsSignedError (sym (stays e v (SignedError p.code) refl p.is)) p))
    (λ q. inr (subst IsSuccess (sym (stays e v (number q.code) refl q.is)) q)) h
plain_without notes os e Ty.Mask v h = stays e v mask refl h ∙ h
plain_without notes os e Ty.Handle v h = ⊎_elim (λ p. inl (subst IsHandle (sym (stays e v (Handle p.k) refl p.is)) p))
    (λ q. inr (stays e v null refl q ∙ q)) h
plain_without notes os e Ty.Entry v h = ⊎_elim (λ p. inl (subst IsEntry (sym (stays e v (Entry p.func) refl p.is)) p))
    (λ q. inr (stays e v null refl q ∙ q)) h
plain_without notes os e (Ty.Method k) v h = stays e v (Method k) refl h ∙ h
plain_without notes os e (Ty.ThunkAt i) v h = stays e v (At (ThunkOf i) 0 0) refl h ∙ h
plain_without notes os e t v h = absurd h

none_granted : (m : Memory) (d : ℕ) → AreWritten m d 0
none_granted m d x q = absurd (omega (arith, q))

module _ (notes : Notes) (d e : ℕ) (U V : Memory) (same : V.objects ≡ U.objects) (l : LaterBelow d U V) (under : d ≤ e) where
  below_e : (b : ℕ) → b < d → b ≢ e
  below_e b h q = absurd (omega (arith, h, q, under))

  -- what fits a type that is passed fits it without the locals of that frame or of one above
  pub passed_without : (saved other : Registers) (t : Ty) (v : Neutral) → IsPassed t → Fits notes U d saved t v
      → Fits notes V d other t (without_local e v)
  passed_without saved other Ty.Any v p x = tt
  passed_without saved other (Ty.Ptr s k n c may) v p x = plain_without notes V.objects e (Ty.Ptr s k n c may) v
      (subst (λ o. FitsPlain notes o (Ty.Ptr s k n c may) v) (sym same) x)
  passed_without saved other (Ty.Local f) v p x = absurd p
  passed_without saved other (Ty.Lent cell) v p x =
      let b = x.cell_below in
      passed_up notes d U V l d saved other (Ty.Lent cell) (without_local e v) (omega arith) tt
      (subst (Fits notes U d saved (Ty.Lent cell)) (sym (stays e v (At (LocalOf b.e b.f) 0 0)
      (local_stays e b.e b.f 0 0 (below_e b.e b.lower)) b.is)) x)
  passed_without saved other (Ty.Status g) v p x =
      passed_up notes d U V l d saved other (Ty.Status g) (without_local e v) (omega arith) p
      (⊎_elim (λ q. inl (subst IsError (sym (stays e v (Error q.code) refl q.is)) q))
      (λ q. inr (subst IsSuccess (sym (stays e v (number q.0.code) refl q.0.is)) q.0, q.1)) x)
  passed_without saved other (Ty.SignedStatus g) v p x =
      passed_up notes d U V l d saved other (Ty.SignedStatus g) (without_local e v) (omega arith) p
      (⊎_elim (λ q. inl (subst IsSignedError (sym (stays e v (SignedError q.code) refl q.is)) q))
      (λ q. inr (subst IsSuccess (sym (stays e v (number q.0.code) refl q.0.is)) q.0, q.1)) x)
  passed_without saved other (Ty.Saved i) v p x = absurd p
  passed_without saved other t v p x = plain_without notes V.objects e t v x

  params_without : (f g : FunctionFrame) (is : List StackItem) (ps : List Param)
      → ((k : ℕ) (q : Param) → slice_get ps k ≡ Some q → IsPassed q.ty) → AllZip (ParamFits notes U d f) is ps
      → AllZip (ParamFits notes V d g) (map (item_without e) is) ps
  params_without f g [] [] h z = tt
  params_without f g [] (p ∷ ps) h z = absurd z
  params_without f g (i ∷ is) [] h z = absurd z
  params_without f g (Pushed kind v ∷ is) (p ∷ ps) h z = (
    (z.0.0, passed_without f.saved g.saved p.ty v (h 0 p refl) z.0.1),
    params_without f g is ps (λ k q r. h (suc k) q r) z.1,
  )
  params_without f g (LocalsOf s ∷ is) (p ∷ ps) h z = absurd z.0

  pub taken_without : (f g : FunctionFrame) (n : FnNote) (is : List StackItem)
      → ((k : ℕ) (q : Param) → slice_get n.params k ≡ Some q → IsPassed q.ty) → ParamsFit notes U d f n is
      → ParamsFit notes V d g n (map (item_without e) is)
  taken_without f g n is h z = subst (λ xs. AllZip (ParamFits notes V d g) xs n.params)
      (sym (take_map (item_without e) (length n.params) is)) (params_without f g (take (length n.params) is) n.params h z)

-- What fits a type in the frame whose locals go fits what is known then.
module _ (notes : Notes) (d : ℕ) (U V : Memory) (same : V.objects ≡ U.objects) (l : LaterBelow d U V) where
  pub forgotten_fits : (saved : Registers) (t : Ty) (v : Neutral) → Fits notes U d saved t v
      → Fits notes V d (registers_without d saved) (forgotten t) (without_local d v)
  forgotten_fits saved (Ty.Local f) v x = tt
  forgotten_fits saved (Ty.Status g) v x = ⊎_elim (λ q. inl (subst IsError (sym (stays d v (Error q.code) refl q.is)) q))
      (λ q. inr (subst IsSuccess (sym (stays d v (number q.0.code) refl q.0.is)) q.0, none_granted V d)) x
  forgotten_fits saved (Ty.SignedStatus g) v x = ⊎_elim (λ q. inl (subst IsSignedError (sym (stays d v (SignedError q.code) refl q.is)) q))
      (λ q. inr (subst IsSuccess (sym (stays d v (number q.0.code) refl q.0.is)) q.0, none_granted V d)) x
  forgotten_fits saved (Ty.Saved i) v x = ap (without_local d) x
  forgotten_fits saved Ty.Any v x = tt
  forgotten_fits saved t v x = passed_without notes d d U V same l (omega arith) saved (registers_without d saved) t v tt x

-- ---- frames

kinds_without : (e : ℕ) (is : List StackItem) (ps : List Param) → AllZip ParamKind is ps → AllZip ParamKind (map (item_without e) is) ps
kinds_without e [] [] h = tt
kinds_without e [] (p ∷ ps) h = absurd h
kinds_without e (i ∷ is) [] h = absurd h
kinds_without e (Pushed kind v ∷ is) (p ∷ ps) h = (h.0, kinds_without e is ps h.1)
kinds_without e (LocalsOf s ∷ is) (p ∷ ps) h = absurd h.0

module _ (world : World) (passed : ParamsPassed world.notes) (e : ℕ) (U V : Memory) (same : V.objects ≡ U.objects) where
  within_without : (is : List StackItem) (n : FnNote) (r : ℕ → ℕ) → KeepsWithin (λ w. height w is + r w) n
      → KeepsWithin (λ w. height w (map (item_without e) is) + r w) n
  within_without is n r k =
      let a = height_without e 4 is in
      let b = height_without e 8 is in
      record { at4 = (let x = k.at4 in omega (arith, x, a)); at8 = (let x = k.at8 in omega (arith, x, b)) }

  pub keeps_without : (made : ℕ) (f : FunctionFrame) (n : FnNote) (saved : Registers) → FrameKeeps world.notes U.objects made f n
      → FrameKeeps world.notes V.objects made (record f { saved = saved; items = map (item_without e) f.items }) n
  keeps_without made f n saved k =
      let a = height_without e 4 f.items in
      let b = height_without e 8 f.items in
      record {
        there = k.there;
        within = record { at4 = (let x = k.within.at4 in omega (arith, x, a)); at8 = (let x = k.within.at8 in omega (arith, x, b)) };
        slots = subst (λ o. SlotsKept world.notes o (map (item_without e) f.items)) (sym same)
            (slots_without world.notes U.objects e f.items k.slots);
        thunks = k.thunks;
      }

  pub below_without : (f g : FunctionFrame) (n : FnNote) (fs : List Frame) → slice_get world.notes.function f.func ≡ Some n
      → g.func ≡ f.func → g.ret ≡ f.ret → depth fs ≤ e → LaterBelow (depth fs) U V → FrameBelow world U f n fs
      → FrameBelow world V g n (map (frame_without e) fs)
  below_without f g n [] h ef er u l k = absurd k
  below_without f g n (Host t ∷ fs) h ef er u l k = (
    ef ∙ k.0,
    subst (λ d. ParamsFit world.notes V d g n (map (item_without e) t.params)) (sym (depth_map e fs))
        (taken_without world.notes (depth fs) e U V same l u f g n t.params (λ j q r. passed f.func j n q h r) k.1),
  )
  below_without f g n (Function t ∷ fs) h ef er u l k = (
    (k.0.0, k.0.1, within_without t.items k.0.0 (λ w. return_cell + pair_at w n.need) k.0.2),
    subst (λ d. ParamsFit world.notes V (suc d) g n (map (item_without e) t.items)) (sym (depth_map e fs))
        (taken_without world.notes (depth (Function t ∷ fs)) e U V same l u f g n t.items (λ j q r. passed f.func j n q h r) k.1),
    subst (λ p. (p % 2 ≡ 0) × (p < world.image_size)) (sym er) k.2,
  )

  pub frames_without : (made : ℕ) (fs : List Frame) → depth fs ≤ e → LaterBelow (depth fs) U V → FramesKeep world U made fs
      → FramesKeep world V made (map (frame_without e) fs)
  frames_without made [] u l k = tt
  frames_without made (Host t ∷ fs) u l k = (
    record { entered = k.0.entered; note = k.0.note; there = k.0.there; kinds = kinds_without e t.params k.0.note.params k.0.kinds },
    frames_without made fs u l k.1,
  )
  frames_without made (Function t ∷ fs) u l k =
      let down = below_down (suc (depth fs)) (depth fs) U V (omega arith) l in (
        (
          k.0.0,
          keeps_without made t k.0.0 (registers_without e t.saved) k.0.1,
          below_without t (record t {
            saved = registers_without e t.saved;
            items = map (item_without e) t.items;
          }) k.0.0 fs k.0.1.there refl refl (omega (arith, u)) down k.0.2,
        ),
        frames_without made fs (omega (arith, u)) down k.1,
      )
