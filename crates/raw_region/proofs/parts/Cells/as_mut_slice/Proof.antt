-- `as_mut_slice` lends the bytes, and the places follow them. Assumes `Logic`.
use mathlib.Core.Path.{◌≡◌, refl, sym, ap, subst, ◌∙◌}
use Prim.Native.Nat.{ℕ, ◌*◌, ◌<◌, ◌^◌}
use native.Mathlib.Omega.{arith}
use mathlib.Core.List.{List, [], ◌∷◌, ◌++◌, map}
use seplogic.Ra.Ura.{Ura}
use base.Fraction.{full_share}
use mir.Syntax.{Fn, named, w64}
use mir.Val.{Val, vptr, vint}
use base.Logic.{SProp, ent, sep, never, id⊢}
use base.Fml.{Lft, GName, Share, Fml, ftrue, fsep, fat, flft, fobs, fbor}
use prog.Wp.{Env, Calls, Loops, WpFn, Tables}
use types.Logic.{Logic, sem}
use contract.Monad.{fact}
use contract.Running.{tables, tables_of}
use sound.WpLaws.{WpFn-mono}
use types.Kit.{Item, ⋆, ‵, raw, ◌⊛◌, some, later, await, pick, at_ret, ◌$◌, ◌∵◌, !, qed, by, move, keep, use1, split, join, group, rewrite}
use types.Kit.{fsplit, fsplit3, fjoin, fpack, feq_l, flt_l, flt_i, suffices, frame, done}
use types.Part.{whole, sub, agg}
use types.Run.{stop, fld, of_opd, and_then, no_more, first, blocks, exec, returns, enter}
use types.ByLocal.{alloc_all, pass_all, free_all, look_at, get, get_in, sets, sets_last, env, take_at, give_at}
use types.SemTy.{Body as Borrowed, cells}
use denote.Exit.{no, yes}
use denote.RattleType.{owns}
use denote.Memory.{mem, cell_at, part_of}
use denote.Param.{layout}
use denote.RawPtr.{Ptr, block_ptr, in_a_block}
use denote.Ref.{MutBor, MutRef}
use denote.Array.{Array}
use denote.Builtin.{u8, usize, RefMutOf, SliceRefMutOf}
use denote.Follow.{follows}
use denote.FollowSlice.{Elements, lends_Elements}
use denote.Signature.{plain, mut_ref_to}
use denote.Slice.{MutSlice, slice_val}
use denote.Steps.{nothing, opens}
use denote.Triple.Clauses.{Clauses, Ended, closing}
use denote.Triple.Entry.{on_entry}
use denote.Triple.Spec.{Meets, triple_of}
use denote.Triple.Table.{entered}
use denote.Triple.Walked.{says, needs, Stays, stay_dropped, walk_of, ends_at, Goes-dropped, Goes-spent_ref, walk_Meets}
use lib.ListN.{length, drop as drop_l}
use lib.Seq.{take_at as take_front}
use Rattle.std.specs.List.{refill}
use Rattle.std.specs.Prelude.{Option, Some}
use Rattle.std.proofs.lemmas.List.{length-map}
use Rattle.std_alloc.proofs.VecSteps.Shapes.{after}
use Rattle.std_alloc.proofs.RcSteps.{word, word-Good}
use Rattle.raw_region.specs.Lends.{cells_with}
use Rattle.raw_region.specs.Slots.{written_bytes, AllWritten}
use Rattle.raw_region.specs.Ownership.{slots, cells_owns}
use Rattle.raw_region.proofs.Memory.{Cr, Bs, Mark, word_had, to_cells, of_cells}
use Rattle.raw_region.proofs.Slots.{length-written_bytes}
use Rattle.raw_region.specs.contracts.parts.Cells.as_mut_slice.Key.{name as #self}
use Rattle.raw_region.proofs.parts.Cells.as_mut_slice.Statement as stated
use Rattle.raw_region.proofs.parts.Cells.as_mut_slice.Code as code

abbrev function : Fn
function = code.function

abbrev ended : Ended
ended = record {
  signature = record {
    lifetimes = 1;
    outlives = [];
    params = RefMutOf (0 ∷ []) tt (plain (λ _. Cr)) (λ _. tt) ∷ plain (λ _. Bs) ∷ plain (λ _. usize) ∷ [];
    result = SliceRefMutOf (0 ∷ []) tt (plain (λ _. u8)) (λ _. tt);
  };
  kept = (no, (yes, (yes, tt)));
}

abbrev stayed : Stays ended.signature.params ended.kept
stayed = (
  stay_dropped (mut_ref_to (0 ∷ []) tt (plain (λ _. Cr))) no,
  (
    stay_dropped (plain (λ _. Bs)) yes,
    (stay_dropped (plain (λ _. usize)) yes, tt),
  ),
)

abbrev Asks : Cr.Denot → Bs.Denot → (usize).Denot → Type 0
Asks d base len = (base.ptr ≡ d.at) × (length d.slots ≡ len) × AllWritten d.slots

abbrev Answers : Cr.Denot → MutBor (List ℕ) → Type 0
Answers d r = r.now ≡ written_bytes d.slots

abbrev spec : {M : Type 1} {𝓤 : Ura M} (𝓛 : Logic 𝓤) → Clauses 𝓤 ended
spec {𝓤 = 𝓤} 𝓛 κs a = record {
  ghost = Unit {0};
  requires = λ _. fact 𝓤 (Asks a.0.now a.1.0 a.1.1.0);
  ensures = λ _ r w. sep 𝓤 (sem 𝓛 (follows Cr (Array u8 0) a.0.ghost_name r.ghost_name (cells_with a.0.now))) (fact 𝓤 (Answers a.0.now r));
}

module _ {M : Type 1} {𝓤 : Ura M} (𝓛 : Logic 𝓤) (C : Calls 𝓤 𝓛.H) (Λ : Loops 𝓤 𝓛.H) (κ : Lft) (q : Share) (rb ro : ℕ) (γ : GName)
    (d : Cr.Denot) (base : Bs.Denot) (len : (usize).Denot) (us0 us1 us2 : List Val) where
  open 𝓛 use {H, A}

  abbrev self : MutBor Cr.Denot
  self = record { ref_ptr = (rb, ro); ghost_name = γ; now = d }

  abbrev bound : (walk_of 𝓛 ended stayed (spec 𝓛)).Ghost
  bound = (((κ, tt), (q, tt), tt, (self, (base, (len, tt))), (us0, (us1, (us2, tt)))), tt)

  abbrev Post : Val → SProp 𝓤
  Post = (walk_of 𝓛 ended stayed (spec 𝓛)).post bound

  abbrev bytes : List ℕ
  bytes = written_bytes d.slots

  module _ (vs : List Val) (b o : ℕ) where
    -- all but the bytes
    abbrev Rest : Fml
    Rest = fsep (Mark.own_val (tt, tt) vs) (cell_at full_share Cr.mir vs rb ro)

    back : d.at ≡ block_ptr b o → length bytes < 2 ^ 63 → (ws : List ℕ) → length ws ≡ length bytes
        → ent 𝓤 (sep 𝓤 (sem 𝓛 (cells (mem u8) ws b o)) (sem 𝓛 Rest)) (sem 𝓛 ((mem Cr).own_at (cells_with d ws) rb ro))
    unfolding part_of
    back e small ws same =
        let new = cells_with d ws in
        let all : refill (length bytes) bytes ws ≡ ws = take_front ws (drop_l (length ws) bytes) (length bytes) same in
        let long : length new.slots ≡ length bytes = ap (λ xs. length (map Some xs)) all ∙ length-map ws Some ∙ same in
        qed 𝓛 (‵ (cells (mem u8) ws b o) ∷ ‵ Rest ∷ []) ∵ use1 𝓛 (‵ (slots b o (map Some ws))) (of_cells 𝓛 b ws o) $
        rewrite ! 0 (λ (xs : List ℕ). ‵ (slots b o (map Some xs))) (sym all) refl $ move ! (1 ∷ []) $ fsplit ! $ move ! (2 ∷ []) $
        flt_i ! (length new.slots) (2 ^ 63) (subst (λ k. k < 2 ^ 63) (sym long) small) $ fjoin ! $
        rewrite ! 0 (λ (p : Ptr). ‵ (cells_owns p new.slots)) (sym e) refl $ move ! (1 ∷ 0 ∷ []) $ fjoin ! $ move ! (1 ∷ 0 ∷ []) $ fjoin ! $
        fpack ! (List Val) (λ us. fsep (cell_at full_share Cr.mir us rb ro) (Cr.own_val new us)) vs $ done !

  exits : (v : Val) (r : MutBor (List ℕ)) → Answers d r
      → ent 𝓤 (sep 𝓤 (sem 𝓛 ((MutSlice (named 0) κ u8).own_val r (v ∷ [])))
      (sep 𝓤 (A.lft κ q) (sem 𝓛 (follows Cr (Array u8 0) γ r.ghost_name (cells_with d))))) (Post v)
  exits v r answered =
      qed 𝓛 (‵ ((MutSlice (named 0) κ u8).own_val r (v ∷ [])) ∷ ‵ (flft κ q) ∷ ‵
      (follows Cr (Array u8 0) γ r.ghost_name (cells_with d)) ∷ []) ∵
      suffices ! _ (ends_at 𝓛 ended stayed (spec 𝓛) bound v r (tt, (tt, (tt, tt))) (tt, (tt, (tt, tt)))) $
      nothing ! $ nothing ! $ fjoin ! $ nothing ! $ fjoin ! $ nothing ! $ fjoin ! $ join ! $
      nothing ! $ move ! (2 ∷ 0 ∷ []) $ join ! $ join ! $ frame ! $ says ! answered $ done !

  abbrev Had : List (Item 𝓤)
  Had = ‵ (fobs γ (Cr.coded.code d)) ∷ ‵ (fbor κ (Borrowed (mem Cr) rb ro γ)) ∷ ‵ (flft κ q) ∷ []

  walk : Asks d base len → len < 2 ^ 64 → ent 𝓤 (⋆ 𝓛 Had) (WpFn 𝓤 H C Λ function (vptr rb ro ∷ word base.ptr ∷ vint w64 len ∷ []) Post)
  walk asked fits =
      let written = asked.2 in let long : length bytes ≡ len = length-written_bytes d.slots len asked.2 asked.1 in
      let code = Cr.coded.code d in
      qed 𝓛 Had ∵ enter ! C Λ function (vptr rb ro ∷ word base.ptr ∷ vint w64 len ∷ []) _ $
      alloc_all ! (λ l. pass_all ! refl ((tt, tt), (word-Good [] base.ptr, ((tt, record { fits = fits }), tt))) $
      let En : Env 𝓤 H = env function.locals l in
      opens ! tt Cr {h = d} rb ro (λ vs. move ! (1 ∷ []) $ fsplit ! $ move ! (1 ∷ []) $
      in_a_block ! d.at (λ p. cells_owns p d.slots) (id⊢ 𝓤 (never 𝓤)) (λ b o e. fsplit ! $ flt_l ! (λ small.
      take_at ! 2 $ rewrite ! 0 (λ (p : Ptr). ‵ (fat full_share (layout Bs) (l 2) 0 (word p))) (asked.0 ∙ e) refl $ give_at ! 2 $ first ! $
      blocks ! $
      let few : length bytes < 2 ^ 63 = omega (arith, ap length written, length-map bytes Some) in
      let way = back vs b o e few in let roomy : length bytes < 2 ^ 64 = omega arith in
      let fitting : length bytes * 1 < 2 ^ 63 = omega arith in
      rewrite ! 0 (λ (cs : List (Option ℕ)). ‵ (slots b o cs)) written refl $ use1 𝓛 (‵ (cells (mem u8) bytes b o)) (to_cells 𝓛 b bytes o) $
      sets_last ! (agg ! (and_then ! (get_in ! (fld ! refl (stop !)) (sub ! 0 refl (whole !))) (and_then ! (get ! refl) (no_more !)))) refl
      (tt, (tt, (record { fits = fits }, tt))) $
      exec ! C Λ En (after 1 function.body) (at_ret En Post) $
      sets ! (of_opd ! (get ! refl)) refl (tt, (tt, (record { fits = fits }, tt))) $
      move ! (1 ∷ 2 ∷ []) $ fjoin ! $ move ! (2 ∷ 3 ∷ 4 ∷ 1 ∷ 0 ∷ []) $ group ! 5 $
      use1 𝓛 (later (some (λ (δ : GName). raw (Elements 𝓛 Cr u8 (cells_with d) (named 0) κ q rb ro b o γ bytes (roomy, fitting)
      (sem 𝓛 (Rest vs b o)) way δ))))
      (lends_Elements 𝓛 Cr u8 (cells_with d) (named 0) κ q rb ro b o γ bytes (roomy, fitting) (sem 𝓛 (Rest vs b o)) way code code) $
      await ! tt $ pick ! (λ δ.
      let r : MutBor (List ℕ) = record { ref_ptr = (b, o); ghost_name = δ; now = bytes } in
      returns ! (look_at ! 0 refl) $ free_all ! refl $ keep ! (0 ∷ []) $
      by ! (subst (λ (k : ℕ). ent 𝓤 (Elements 𝓛 Cr u8 (cells_with d) (named 0) κ q rb ro b o γ bytes (roomy, fitting)
      (sem 𝓛 (Rest vs b o)) way δ) (Post (slice_val (b, o) k))) long
      (exits (slice_val (b, o) (length bytes)) r refl)))))))

  entry : Asks d base len
      → ent 𝓤 (on_entry 𝓛 ended.signature (κ, tt) (q, tt) (self, (base, (len, tt))) (us0, (us1, (us2, tt))))
      (WpFn 𝓤 H C Λ function (us0 ++ (us1 ++ (us2 ++ []))) Post)
  entry asked =
      qed 𝓛 ((‵ (flft κ q) ⊛ ‵ ftrue) ∷ ‵ (owns (MutRef (named 0) κ Cr ∷ Bs ∷ usize ∷ []) (self, (base, (len, tt)))
      (us0, (us1, (us2, tt)))) ∷ []) ∵
      split ! $ move ! (2 ∷ []) $
      fsplit ! $
      fsplit3 ! $ feq_l ! (λ e0.
      move ! (2 ∷ []) $
      fsplit ! $
      word_had ! base.ptr us1 (λ e1.
      fsplit ! $
      fsplit ! $ feq_l ! (λ e2. flt_l ! (λ fits.
      keep ! (1 ∷ 2 ∷ 3 ∷ []) $
      by ! (subst (λ (ws : List Val × List Val × List Val). ent 𝓤 (⋆ 𝓛 Had) (WpFn 𝓤 H C Λ function (ws.0 ++ (ws.1 ++ (ws.2 ++ []))) Post))
      (λ j. (sym e0 j, sym e1 j, sym e2 j)) (walk asked fits))))))

meets : {M : Type 1} {𝓤 : Ura M} (𝓛 : Logic 𝓤) (𝓣 : Tables 𝓤 𝓛.H)
    → Meets 𝓛 ended.signature (WpFn 𝓤 𝓛.H 𝓣.C 𝓣.Λ function) (closing 𝓛 ended (spec 𝓛))
meets {𝓤 = 𝓤} 𝓛 𝓣 =
    walk_Meets 𝓛 ended stayed (
      Goes-spent_ref 𝓛 1 (0 ∷ []) tt (plain (λ _. Cr)),
      (
        Goes-dropped 𝓛 1 (plain (λ _. Bs)) yes (λ κs x f. refl),
        (Goes-dropped 𝓛 1 (plain (λ _. usize)) yes (λ κs x f. refl), tt),
      ),
    )
    (spec 𝓛) (WpFn 𝓤 𝓛.H 𝓣.C 𝓣.Λ function) (WpFn-mono 𝓤 𝓛.H 𝓛.laws 𝓣 function)
    (λ z. let a = z.0.3 in let vss = z.0.4 in
    needs 𝓤 (Asks a.0.now a.1.0 a.1.1.0) _
    (entry 𝓛 𝓣.C 𝓣.Λ z.0.0.0 z.0.1.0 a.0.ref_ptr.0 a.0.ref_ptr.1 a.0.ghost_name a.0.now a.1.0 a.1.1.0 vss.0 vss.1.0 vss.1.1.0))

pub as_mut_slice_spec : {M : Type 1} → stated.statement M
unfolding tables_of
as_mut_slice_spec 𝓤 𝓛 𝓜 𝓡 wired =
    let 𝓣 : Tables 𝓤 𝓛.H = tables_of 𝓤 𝓛.H 𝓜 (tables 𝓤 𝓛.H 𝓜 𝓡 𝓡.env) in
    entered 𝓤 𝓛.H (triple_of 𝓛 ended.signature (closing 𝓛 ended (spec 𝓛))) 𝓣.C 𝓣.Λ #self function (code.unfolded 𝓤 𝓛.H 𝓜 𝓡 wired)
    (meets 𝓛 𝓣)
