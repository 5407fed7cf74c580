-- `write` fills an empty place. Assumes `Logic`.
use mathlib.Core.Path.{◌≡◌, refl, sym, subst, ◌∙◌}
use Prim.Native.Nat.{ℕ, ◌+◌, ◌<◌, ◌^◌}
use mathlib.Core.List.{List, [], ◌∷◌, ◌++◌}
use seplogic.Ra.Ura.{Ura}
use base.Fraction.{full_share}
use mir.Syntax.{Fn, named, w8, w64, ty_int}
use mir.Val.{Val, vptr, vint, vunit}
use base.Logic.{SProp, ent, never, id⊢}
use base.Fml.{Lft, GName, Share, ftrue, fat, froom, flft, fobs, fbor}
use prog.Wp.{Env, Calls, Loops, WpFn, Tables}
use types.Logic.{Logic}
use contract.Monad.{fact}
use contract.Running.{tables, tables_of}
use sound.WpLaws.{WpFn-mono}
use types.Kit.{Item, ⋆, ‵, ◌⊛◌, at_ret, ◌$◌, ◌∵◌, !, qed, by, move, keep, use1, use2, split, join, rewrite, fsplit, fsplit3, fjoin, fjoin3}
use types.Kit.{feq_i, feq_l, suffices, frame, done}
use types.Part.{whole, sub}
use types.Run.{init, stop, fld, unit_lit, of_opd, assigns_last, first, blocks, exec, returns, enter}
use types.ByLocal.{alloc_all, pass_all, free_all, look_at, get, get_in, through, sets, env}
use types.SemTy.{Body as Borrowed}
use denote.Exit.{yes, no}
use denote.RattleType.{owns}
use denote.Memory.{mem}
use denote.Param.{layout}
use denote.RawPtr.{Ptr, in_a_block}
use denote.Ref.{MutBor, MutRef}
use denote.Builtin.{RefMutOf, unit}
use denote.Signature.{plain}
use denote.Steps.{nothing, opens, closes}
use denote.Triple.Clauses.{Clauses, Ended, closing}
use denote.Triple.Entry.{on_entry}
use denote.Triple.Spec.{Meets, triple_of}
use denote.Triple.Table.{entered}
use denote.Triple.Walked.{says, needs, Stays, stay_dropped, stay_ref, walk_of, ends_at, Goes-dropped, Goes-ref, walk_Meets}
use Rattle.std_alloc.proofs.VecSteps.Shapes.{after}
use Rattle.std_alloc.proofs.RcSteps.{word, word-Good}
use lib.ListN.{length, set, get_or, length-set}
use types.Kit.{flt_l, flt_i}
use types.Run.{bin}
use types.ByLocal.{take_at, give_at}
use denote.Builtin.{u8, usize}
use Rattle.std.specs.Prelude.{Some, None}
use denote.Plain.{uint_in}
use Rattle.raw_region.specs.Ownership.{slot, slots, cells_owns}
use Rattle.raw_region.proofs.Memory.{Cr, Bs, word_had, Besides, slot_out, slot_in, slot_room}
use Rattle.raw_region.specs.contracts.parts.Cells.write.Key.{name as #self}
use Rattle.raw_region.proofs.parts.Cells.write.Statement as stated
use Rattle.raw_region.proofs.parts.Cells.write.Code as code

abbrev function : Fn
function = code.function

abbrev ended : Ended
ended = record {
  signature = record {
    lifetimes = 1;
    outlives = [];
    params =
        RefMutOf (0 ∷ []) tt (plain (λ _. Cr)) (λ _. tt) ∷ plain (λ _. Bs) ∷ plain (λ _. usize) ∷ plain (λ _. u8) ∷ [];
    result =
        plain (λ _. unit);
  };
  kept = (yes, (no, (no, (no, tt))));
}

abbrev stayed : Stays ended.signature.params ended.kept
stayed = (
  stay_ref (0 ∷ []) tt (plain (λ _. Cr)),
  (
    stay_dropped (plain (λ _. Bs)) no,
    (stay_dropped (plain (λ _. usize)) no, (stay_dropped (plain (λ _. u8)) no, tt)),
  ),
)

abbrev Asks : Cr.Denot → Bs.Denot → (usize).Denot → u8.Denot → Type 0
Asks d base index item = (base.ptr ≡ d.at) × (index < length d.slots)

abbrev Gives0 : Cr.Denot → Bs.Denot → (usize).Denot → u8.Denot → (unit).Denot → Cr.Denot → Type 0
Gives0 d base index item r new = (new.at ≡ d.at) × (new.slots ≡ set d.slots index (Some item))

abbrev spec : {M : Type 1} {𝓤 : Ura M} (𝓛 : Logic 𝓤) → Clauses 𝓤 ended
spec {𝓤 = 𝓤} 𝓛 κs a = record {
  ghost = Unit {0};
  requires = λ _. fact 𝓤 (Asks a.0.now a.1.0 a.1.1.0 a.1.1.1.0);
  ensures =
      λ _ r w. fact 𝓤 (Gives0 a.0.now a.1.0 a.1.1.0 a.1.1.1.0 r w.0.now);
}

module _ {M : Type 1} {𝓤 : Ura M} (𝓛 : Logic 𝓤) (C : Calls 𝓤 𝓛.H) (Λ : Loops 𝓤 𝓛.H) (κ : Lft) (q : Share) (rb ro : ℕ) (γ : GName)
    (d : Cr.Denot) (base : Bs.Denot) (index : (usize).Denot) (item : u8.Denot) (us0 us1 us2 us3 : List Val) where
  open 𝓛 use {H, A}

  abbrev self : MutBor Cr.Denot
  self = record { ref_ptr = (rb, ro); ghost_name = γ; now = d }

  abbrev bound : (walk_of 𝓛 ended stayed (spec 𝓛)).Ghost
  bound = (((κ, tt), (q, tt), tt, (self, (base, (index, (item, tt)))), (us0, (us1, (us2, (us3, tt))))), tt)

  abbrev Post : Val → SProp 𝓤
  Post = (walk_of 𝓛 ended stayed (spec 𝓛)).post bound

  exits : us0 ≡ vptr rb ro ∷ [] → (r : (unit).Denot) (v : Val) (new : Cr.Denot) → Gives0 d base index item r new
      → ent 𝓤 (⋆ 𝓛 (‵ (fobs γ (Cr.coded.code new)) ∷ ‵ (fbor κ (Borrowed (mem Cr) rb ro γ)) ∷ ‵ (flft κ q) ∷ ‵
      ((unit).own_val r (v ∷ [])) ∷ [])) (Post v)
  exits passed r v new g0 =
      qed 𝓛 (‵ (fobs γ (Cr.coded.code new)) ∷ ‵ (fbor κ (Borrowed (mem Cr) rb ro γ)) ∷ ‵ (flft κ q) ∷ ‵ ((unit).own_val r (v ∷ [])) ∷ []) ∵
      suffices ! _ (ends_at 𝓛 ended stayed (spec 𝓛) bound v r (new, (tt, (tt, (tt, tt)))) (tt, (tt, (tt, (tt, tt))))) $ says ! g0 $
      nothing ! $ move ! (3 ∷ 0 ∷ []) $ join ! $ frame ! $ feq_i ! (List Val) us0 (vptr rb ro ∷ []) passed $ fjoin3 ! $ nothing ! $
      nothing ! $ fjoin ! $ nothing ! $ fjoin ! $ nothing ! $ fjoin ! $ move ! (1 ∷ 0 ∷ []) $ fjoin ! $ done !

  abbrev Had : List (Item 𝓤)
  Had = ‵ (fobs γ (Cr.coded.code d)) ∷ ‵ (fbor κ (Borrowed (mem Cr) rb ro γ)) ∷ ‵ (flft κ q) ∷ []

  walk : us0 ≡ vptr rb ro ∷ [] → Asks d base index item → index < 2 ^ 64 → item < 2 ^ 8
      → ent 𝓤 (⋆ 𝓛 Had) (WpFn 𝓤 H C Λ function (vptr rb ro ∷ word base.ptr ∷ vint w64 index ∷ vint w8 item ∷ []) Post)
  walk passed asked fits_index fits_item =
      let within = asked.1 in
      let new : Cr.Denot = record { mark = d.mark; at = d.at; slots = set d.slots index (Some item) } in
      qed 𝓛 Had ∵ enter ! C Λ function (vptr rb ro ∷ word base.ptr ∷ vint w64 index ∷ vint w8 item ∷ []) _ $
      alloc_all ! (λ l. pass_all ! refl (
        (tt, tt),
        (
          word-Good [] base.ptr,
          ((tt, record { fits = fits_index }), ((tt, record { fits = fits_item }), tt)),
        ),
      ) $
      let En : Env 𝓤 H = env function.locals l in
      opens ! tt Cr {h = d} rb ro (λ vs. move ! (1 ∷ []) $ fsplit ! $ move ! (1 ∷ []) $
      in_a_block ! d.at (λ p. cells_owns p d.slots) (id⊢ 𝓤 (never 𝓤)) (λ b o e. fsplit ! $ flt_l ! (λ small.
      take_at ! 2 $ rewrite ! 0 (λ (p : Ptr). ‵ (fat full_share (layout Bs) (l 2) 0 (word p))) (asked.0 ∙ e) refl $ give_at ! 2 $ first ! $
      blocks ! $
      sets ! (bin ! (get_in ! (fld ! refl (stop !)) (sub ! 0 refl (whole !))) (get ! refl) tt) refl (tt, tt) $
      use1 𝓛 (‵ (slot b (index + o) (get_or d.slots index None)) ⊛ ‵ (Besides 𝓛 b o d.slots index)) (slot_out 𝓛 b o d.slots index within) $
      split ! $ use1 𝓛 (‵ (froom (ty_int w8) b (index + o))) (slot_room 𝓛 b (get_or d.slots index None) (index + o)) $
      -- [the room; the other places; the mark; its cell; the open borrow; obs; auth; what the item owns]
      assigns_last ! (of_opd ! (get ! refl)) (through ! refl (stop !)) (init ! 0 refl (tt, record { fits = fits_item })) $
      exec ! C Λ En (after 1 function.body) (at_ret En Post) $ sets ! (of_opd ! (unit_lit !)) refl (tt, tt) $
      use1 𝓛 (‵ (slot b (index + o) (Some item))) (uint_in 𝓛 full_share w8 item b (index + o)) $
      use2 𝓛 (‵ (slots b o new.slots)) (slot_in 𝓛 b o d.slots index within (Some item)) $
      flt_i ! (length new.slots) (2 ^ 63) (subst (λ k. k < 2 ^ 63) (sym (length-set d.slots index (Some item))) small) $ fjoin ! $
      rewrite ! 0 (λ (p : Ptr). ‵ (cells_owns p new.slots)) (sym e) refl $ move ! (1 ∷ 0 ∷ []) $ fjoin ! $ move ! (1 ∷ 0 ∷ []) $
      closes ! tt Cr new vs rb ro $
      returns ! (look_at ! 0 refl) $ free_all ! refl $ keep ! (0 ∷ 1 ∷ 2 ∷ []) $ feq_i ! (List Val) (vunit ∷ []) (vunit ∷ []) refl $
      move ! (1 ∷ 2 ∷ 3 ∷ 0 ∷ []) $
      by ! (exits passed tt vunit new (refl, refl))))))

  entry : Asks d base index item
      → ent 𝓤 (on_entry 𝓛 ended.signature (κ, tt) (q, tt) (self, (base, (index, (item, tt)))) (us0, (us1, (us2, (us3, tt)))))
      (WpFn 𝓤 H C Λ function (us0 ++ (us1 ++ (us2 ++ (us3 ++ [])))) Post)
  entry asked =
      qed 𝓛 ((‵ (flft κ q) ⊛ ‵ ftrue) ∷ ‵ (owns (MutRef (named 0) κ Cr ∷ Bs ∷ usize ∷ u8 ∷ []) (self, (base, (index, (item, tt))))
      (us0, (us1, (us2, (us3, tt))))) ∷ []) ∵
      split ! $ move ! (2 ∷ []) $
      fsplit ! $
      fsplit3 ! $ feq_l ! (λ e0.
      move ! (2 ∷ []) $
      fsplit ! $
      word_had ! base.ptr us1 (λ e1.
      fsplit ! $
      fsplit ! $ feq_l ! (λ e2. flt_l ! (λ fits_index.
      fsplit ! $
      fsplit ! $ feq_l ! (λ e3. flt_l ! (λ fits_item.
      keep ! (1 ∷ 2 ∷ 3 ∷ []) $
      by ! (subst (λ (ws : List Val × List Val × List Val × List Val). ent 𝓤 (⋆ 𝓛 Had)
      (WpFn 𝓤 H C Λ function (ws.0 ++ (ws.1 ++ (ws.2 ++ (ws.3 ++ [])))) Post)) (λ j. (sym e0 j, sym e1 j, sym e2 j, sym e3 j))
      (walk e0 asked fits_index fits_item))))))))

meets : {M : Type 1} {𝓤 : Ura M} (𝓛 : Logic 𝓤) (𝓣 : Tables 𝓤 𝓛.H)
    → Meets 𝓛 ended.signature (WpFn 𝓤 𝓛.H 𝓣.C 𝓣.Λ function) (closing 𝓛 ended (spec 𝓛))
meets {𝓤 = 𝓤} 𝓛 𝓣 =
    walk_Meets 𝓛 ended stayed (
      Goes-ref 𝓛 1 0 tt (plain (λ _. Cr)),
      (
        Goes-dropped 𝓛 1 (plain (λ _. Bs)) no (λ κs x f. refl),
        (
          Goes-dropped 𝓛 1 (plain (λ _. usize)) no (λ κs x f. refl),
          (
            Goes-dropped 𝓛 1 (plain (λ _. u8)) no (λ κs x f. refl),
            tt,
          ),
        ),
      ),
    ) (spec 𝓛) (WpFn 𝓤 𝓛.H 𝓣.C 𝓣.Λ function) (WpFn-mono 𝓤 𝓛.H 𝓛.laws 𝓣 function)
    (λ z. needs 𝓤 (Asks z.0.3.0.now z.0.3.1.0 z.0.3.1.1.0 z.0.3.1.1.1.0) _
    (entry 𝓛 𝓣.C 𝓣.Λ z.0.0.0 z.0.1.0 z.0.3.0.ref_ptr.0 z.0.3.0.ref_ptr.1 z.0.3.0.ghost_name z.0.3.0.now z.0.3.1.0 z.0.3.1.1.0
    z.0.3.1.1.1.0 z.0.4.0 z.0.4.1.0 z.0.4.1.1.0 z.0.4.1.1.1.0))

pub write_spec : {M : Type 1} → stated.statement M
unfolding tables_of
write_spec 𝓤 𝓛 𝓜 𝓡 wired =
    let 𝓣 : Tables 𝓤 𝓛.H = tables_of 𝓤 𝓛.H 𝓜 (tables 𝓤 𝓛.H 𝓜 𝓡 𝓡.env) in
    entered 𝓤 𝓛.H (triple_of 𝓛 ended.signature (closing 𝓛 ended (spec 𝓛))) 𝓣.C 𝓣.Λ #self function (code.unfolded 𝓤 𝓛.H 𝓜 𝓡 wired)
    (meets 𝓛 𝓣)
